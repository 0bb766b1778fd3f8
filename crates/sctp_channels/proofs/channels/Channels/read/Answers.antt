use Rattle.std.proofs.Common.{◌≡◌, ◌∙◌, true, Some, ap, refl, sym, rules}
use Rattle.sctp_channels.specs.Reading.{tells_data}
use Rattle.sctp_channels.proofs.News.{comes_news}
use Rattle.sctp_channels.specs.Steps.{state_of}
use Rattle.sctp_channels.proofs.Following.{data_told}
use Rattle.sctp_channels.proofs.channels.Channels.read.Goals as goal

pub returns-in-Some : goal.returns-in-Some
returns-in-Some c =
    let told : tells_data c.next_len.result ≡ true = search rules in record {
      gains = c.follow_control.ensures.gains;
      side = c.follow_control.ensures.side;
      message = (
        c.follow_control.new.association,
        c.follow_control.ensures.control,
        data_told true _ _ c.next_len.ensures told,
        ap Some c.new.ensures ∙ sym c.in-Some.is ∙ c.in_ok-chunks.ensures.message,
        c.read.ensures.taken,
      );
      err = tt;
      reads = (
        state_of c.follow_control.new.self c.follow_control.new.association,
        c.follow_control.ensures.comes,
        record {
          application = data_told true _ _ c.next_len.ensures told;
          known = c.in_ok-follow_control.ensures.known (data_told true _ _ c.next_len.ensures told);
          message = ap Some c.new.ensures ∙ sym c.in-Some.is ∙ c.in_ok-chunks.ensures.message;
          is = refl;
          read = c.read.ensures.taken;
          beside = c.read.ensures.rest;
        },
      );
      comes = tt;
      others = comes_news _ _ _ _ c.follow_control.ensures.comes;
      refused = tt;
    }

pub returns-in_err-follow_control-clause-others : goal.returns-in_err-follow_control-clause-others
returns-in_err-follow_control-clause-others c = comes_news _ _ _ _ c.follow_control.ensures.comes

pub returns-then-not-is_of_application-clause-others : goal.returns-then-not-is_of_application-clause-others
returns-then-not-is_of_application-clause-others c = comes_news _ _ _ _ c.follow_control.ensures.comes
