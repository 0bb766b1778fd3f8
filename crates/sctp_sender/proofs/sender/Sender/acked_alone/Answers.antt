use Rattle.sctp_sender.proofs.Names.{◌≡◌, ◌+◌, rules, List, ap, ◌∙◌, sack_of, total_bytes, OutboundStream, Released, released_by, after_releases, Transmission}
use Rattle.sctp_sender.proofs.Names.{after_acked, with_streams, with_lows, bytes_in}
use Rattle.sctp_sender.proofs.Lows.{chunks-tell, one-chunk-tells, released-same}
use Rattle.sctp_sender.proofs.Seen.{sender_in}
use Rattle.sctp_sender.proofs.sender.Sender.acked_alone.Goals as goal

pub returns : goal.returns
returns c =
    let s = sack_of c.args.sack.now in
    let old : Transmission = c.args.self.now in
    let rs : List Released = c.in_ok-released.released.items in
    let a = c.in_ok-released.ensures.acks in
    let v : sender_in c.self.inside ≡ with_streams old.streams (after_acked s old) = c.self.view_is ∙ a.ok in
    let ls : c.self.inside.streams ≡ old.streams = ap (λ (u : Transmission). u.streams) v in
    let less : c.release_each.new.streams ≡ after_releases rs old.streams = c.release_each.ensures.less ∙ ap (after_releases rs) ls in
    let lows : c.release_each.new.gone.items ≡ with_lows rs old.streams = c.release_each.ensures.lows ∙ ap (with_lows rs) ls in
    record {
      answer = lows ∙ ap (λ xs. with_lows xs old.streams) a.answer;
      low = λ n. chunks-tell n _ _ _ _ lows less;
      once = λ n. one-chunk-tells n _ _ _ _ lows less;
      ok = ap (λ (xs : List OutboundStream). with_streams xs (sender_in c.self.inside)) (less ∙ ap (λ xs. after_releases xs old.streams) a.answer)
          ∙ ap (λ (u : Transmission). with_streams (after_releases (released_by s old.flight) old.streams) u) v;
      released = released-same _ _ _ _ _ lows (ap (λ (u : Transmission). total_bytes u.flight.queue + bytes_in rs) c.self.view_is ∙ a.released);
      accepted = search rules;
      refused = search rules;
      outdated = search rules;
      err = search rules;
    }
