use Rattle.std.proofs.lemmas.Result.{IfOk-weaker}
use Rattle.sctp_show.proofs.Texts.{short_is_kept}
use Rattle.sctp_show.proofs.text.shown_in.Goals as goal

pub returns-then-datagram-lt12 : goal.returns-then-datagram-lt12
returns-then-datagram-lt12 c = record {
  walked = c.in_ok-seen.seen;
  is_seen = c.in_ok-seen.ensures;
  cut = short_is_kept c.args.missing c.in_ok-seen.seen (c.in_ok-seen.ensures.short c.if-datagram-lt12.true).fault;
}

pub returns : goal.returns
returns c =
    IfOk-weaker c.with_cut.result _ _ (λ d cut. record { walked = c.in_ok-seen.seen; is_seen = c.in_ok-seen.ensures; cut = cut }) c.with_cut.ensures
