use Rattle.sctp_link.proofs.Names.{◌≡◌, ℕ, ◌+◌, ◌-◌, ◌%◌, ◌^◌, slice_index_or, refl, true, ap, ◌∙◌, arith, ChunkPayloadData, is_held, set_of, record_in}
use Rattle.sctp_link.proofs.Names.{state_in}
use Rattle.sctp_link.proofs.receiver.Hears.{held-begins, held-made, lead-slot, lead-message, lead-index, held-ordered}
use Rattle.sctp_link.proofs.link.Link.index_of.Goals as goal

pub index-requires : goal.index-requires
index-requires g c =
    let slots = c.self.inside.slots.items in
    let messages = c.self.inside.messages.items in
    let r : (s : ℕ) × (n : ℕ) × (is_held (record_in c.self.inside) s n ≡ true)
    × (c.args.set.now ≡ set_of (record_in c.self.inside) n) = rw (← c.self.view_is) at c.requires in
    let begins = held-begins c.self.invariant.1 slots messages refl refl r.0 r.1 c.args.set.now c.fragments.result.now c.fragments.ensures r.2 r.3 in
    let made = held-made c.self.invariant.1 slots messages refl refl r.0 r.1 r.2 in
    let first = ap (λ (y : ChunkPayloadData). y.tsn) (c.deref.ensures ∙ c.index-fragments-0.is) in
    omega (arith, first, lead-slot c.self.invariant.1 slots messages refl refl r.1 c.fragments.result.now c.index-fragments-0.result begins made)

pub index-requires-2 : goal.index-requires-2
index-requires-2 g c =
    let x = state_in c.self.inside in
    let slots = c.self.inside.slots.items in
    let messages = c.self.inside.messages.items in
    let r : (s : ℕ) × (n : ℕ) × (is_held (record_in c.self.inside) s n ≡ true)
    × (c.args.set.now ≡ set_of (record_in c.self.inside) n) = rw (← c.self.view_is) at c.requires in
    let begins = held-begins c.self.invariant.1 slots messages refl refl r.0 r.1 c.args.set.now c.fragments.result.now c.fragments.ensures r.2 r.3 in
    let made = held-made c.self.invariant.1 slots messages refl refl r.0 r.1 r.2 in
    let first = ap (λ (y : ChunkPayloadData). y.tsn) (c.deref.ensures ∙ c.index-fragments-0.is) in
    let there = c.index.ensures ∙ ap (λ t. slice_index_or slots ((t + (2 ^ 32 - x.recorded.setup.first)) % 2 ^ 32) c.index.result.now) first in
    let held = lead-message c.self.invariant.1 slots messages refl refl r.1 c.fragments.result.now c.index-fragments-0.result begins made in
    omega (arith, held c.index.result.now there)

pub returns : goal.returns
returns g c =
    let x = state_in c.self.inside in
    let slots = c.self.inside.slots.items in
    let messages = c.self.inside.messages.items in
    let first = ap (λ (y : ChunkPayloadData). y.tsn) (c.deref.ensures ∙ c.index-fragments-0.is) in
    let there = c.index.ensures ∙ ap (λ t. slice_index_or slots ((t + (2 ^ 32 - x.recorded.setup.first)) % 2 ^ 32) c.index.result.now) first in
    rw (← c.self.view_is) (λ s n h e.
    let begins = held-begins c.self.invariant.1 slots messages refl refl s n c.args.set.now c.fragments.result.now c.fragments.ensures h e in
    let made = held-made c.self.invariant.1 slots messages refl refl s n h in
    let ordered = held-ordered c.self.invariant.1 slots messages refl refl s n h in
    lead-index c.self.invariant.1 slots messages refl refl n c.fragments.result.now c.index-fragments-0.result begins made refl ordered c.index.result.now
    c.index-2.result.now there c.index-2.ensures)
