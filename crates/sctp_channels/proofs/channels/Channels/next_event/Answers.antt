use Rattle.std.proofs.Common.{◌≡◌, ◌∙◌, ◌<◌, false, Some, ap, arith, length, refl, set, subst, sym}
use Rattle.sctp_channels.proofs.Next.{left_closed, left_none, left_open, next_closed, next_none, next_open, same_at, silent_none}
use Rattle.sctp_channels.specs.Channels.{is_reset}
use Rattle.sctp_channels.specs.declared.channel.Channel.{Channel}
use Rattle.sctp_channels.specs.declared.event.ChannelEvent.TheVariants.{Closed}
use Rattle.sctp_channels.proofs.channels.Channels.next_event.Goals as goal

pub returns-in_err-place-clause-next : goal.returns-in_err-place-clause-next
returns-in_err-place-clause-next c = c.from_residual.ensures ∙ sym (next_none _ (sym c.place_of_news.ensures.place ∙ c.in_err-place.was))

pub returns-in_err-place-clause-left : goal.returns-in_err-place-clause-left
returns-in_err-place-clause-left c = left_none _ (sym c.place_of_news.ensures.place ∙ c.in_err-place.was)

pub returns-in_err-place-clause-none : goal.returns-in_err-place-clause-none
returns-in_err-place-clause-none c none = (refl, silent_none _ (sym c.place_of_news.ensures.place ∙ c.in_err-place.was))

pub returns-then-is_closed-clause-next : goal.returns-then-is_closed-clause-next
returns-then-is_closed-clause-next c =
    let list = c.args.self.now.channels.items in
    let at = sym c.place_of_news.ensures.place ∙ c.in_ok-place.was in
    let within : c.in_ok-place.place < length c.args.self.now.channels.items = omega (arith, c.in_ok-place.ensures.within) in
    let same = same_at list c.in_ok-place.place c.index.result.now c.remove-channel.result within c.index.ensures c.remove-channel.ensures.value in
    ap (λ (x : Channel). Some (Closed x.stream)) (sym same)
    ∙ sym (next_closed list c.in_ok-place.place c.index.result.now at within c.index.ensures (sym c.if-is_closed.ensures))

pub returns-then-is_closed-clause-left : goal.returns-then-is_closed-clause-left
returns-then-is_closed-clause-left c =
    let at = sym c.place_of_news.ensures.place ∙ c.in_ok-place.was in
    let within : c.in_ok-place.place < length c.args.self.now.channels.items = omega (arith, c.in_ok-place.ensures.within) in
    c.remove-channel.ensures.items
    ∙ left_closed _ c.in_ok-place.place c.index.result.now at within c.index.ensures (sym c.if-is_closed.ensures)

pub returns-clause-next : goal.returns-clause-next
returns-clause-next c =
    let list = c.args.self.now.channels.items in
    let at = sym c.place_of_news.ensures.place ∙ c.in_ok-place.was in
    let within : c.in_ok-place.place < length c.args.self.now.channels.items = omega (arith, c.in_ok-place.ensures.within) in
    let same = same_at list c.in_ok-place.place c.index.result.now c.index_mut.result.now within c.index.ensures c.index_mut.ensures.value in
    let stays = subst (λ (x : Channel). is_reset x ≡ false) same (sym c.if-is_closed.ensures) in
    ap Some c.take_event.ensures.told
    ∙ sym (next_open list c.in_ok-place.place c.index_mut.result.now at within c.index_mut.ensures.value stays)

pub returns-clause-left : goal.returns-clause-left
returns-clause-left c =
    let list = c.args.self.now.channels.items in
    let at = sym c.place_of_news.ensures.place ∙ c.in_ok-place.was in
    let within : c.in_ok-place.place < length c.args.self.now.channels.items = omega (arith, c.in_ok-place.ensures.within) in
    let same = same_at list c.in_ok-place.place c.index.result.now c.index_mut.result.now within c.index.ensures c.index_mut.ensures.value in
    let stays = subst (λ (x : Channel). is_reset x ≡ false) same (sym c.if-is_closed.ensures) in
    ap (λ (x : Channel). set list c.in_ok-place.place x) c.take_event.ensures.once
    ∙ left_open list c.in_ok-place.place c.index_mut.result.now at within c.index_mut.ensures.value stays
