use Rattle.sctp_sender.proofs.Names.{◌≡◌, ◌<◌, ◌++◌, ◌+◌, false, List, length, set, take, drop, get_or, None, ap, sym, ◌∙◌, arith, get_or_default}
use Rattle.sctp_sender.proofs.Names.{OutboundStream, Released, after_releases, with_lows}
use Rattle.sctp_sender.proofs.Lows.{next-less, next-low}
use Rattle.sctp_sender.proofs.sender.release_each.Goals as goal

-- any chunk, where a look-up asks for one to fall back on
abbrev any_one : Released
any_one = record { tsn = 0; stream = 0; bytes = 0; nsent = 0; since = None; message = 0; is_message_acked = false; is_low = false }

pub loop-one-preserved : goal.loop-one-preserved
loop-one-preserved c =
    let rs = c.loop-one.one-items in
    let i = c.loop-one.one-index in
    let lt : i < length rs = omega arith in
    let r = get_or rs i any_one in
    let is : r ≡ get_or rs i r = get_or_default rs i any_one r lt in
    let x : Released = record r { is_low = c.release-one.result } in
    record {
      less = c.loop-one.invariant.less ∙ next-less i c.loop-one.streams rs r c.release-one.result lt is
          ∙ ap (λ (ls : List OutboundStream). after_releases (drop (i + 1) (set rs i x)) ls) (sym c.release-one.ensures.less);
      lows =
          c.loop-one.invariant.lows ∙ next-low i c.loop-one.streams rs r c.release-one.result lt is c.release-one.ensures.low
          ∙ ap (λ (ls : List OutboundStream). take (i + 1) (set rs i x) ++ with_lows (drop (i + 1) (set rs i x)) ls) (sym c.release-one.ensures.less);
    }
