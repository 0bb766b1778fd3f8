use Rattle.sctp_sender.proofs.Names.{◌≡◌, ◌<◌, ◌++◌, ◌+◌, false, List, length, set, take, drop, get_or, ap, sym, ◌∙◌, arith, get_or_default, OutboundStream}
use Rattle.sctp_sender.proofs.Names.{AbandonedMessage, after_leaving, with_message_lows}
use Rattle.sctp_sender.proofs.Lows.{next-message-less, next-message-low}
use Rattle.sctp_sender.proofs.sender.abandonment.release_abandoned.Goals as goal

-- any message, where a look-up asks for one to fall back on
abbrev any_one : AbandonedMessage
any_one = record { stream = 0; number = 0; bytes = 0; is_low = false }

pub loop-one-preserved : goal.loop-one-preserved
loop-one-preserved c =
    let gs = c.loop-one.one-items in
    let i = c.loop-one.one-index in
    let lt : i < length gs = omega arith in
    let g = get_or gs i any_one in
    let is : g ≡ get_or gs i g = get_or_default gs i any_one g lt in
    let x : AbandonedMessage = record g { is_low = c.release-one.result } in
    record {
      less = c.loop-one.invariant.less ∙ next-message-less i c.loop-one.streams gs g c.release-one.result lt is
          ∙ ap (λ (ls : List OutboundStream). after_leaving (drop (i + 1) (set gs i x)) ls) (sym c.release-one.ensures.less);
      lows =
          c.loop-one.invariant.lows ∙ next-message-low i c.loop-one.streams gs g c.release-one.result lt is c.release-one.ensures.low
          ∙ ap (λ (ls : List OutboundStream). take (i + 1) (set gs i x) ++ with_message_lows (drop (i + 1) (set gs i x)) ls) (sym c.release-one.ensures.less);
    }
