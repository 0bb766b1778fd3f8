use Rattle.sctp_link.proofs.Names.{◌≡◌, ◌≤◌, ℕ, List, None, Some, inl, inr, length, map, refl, ap, sym, ◌∙◌, arith, rules, subst, ◌⊎◌, ◌<◌, slice_get}
use Rattle.sctp_link.proofs.Names.{slice_index_or, fold, with_items, vec_len, with_items_is, list_any, Data, chunk_at, receive_slot, refusal_of, IsRight}
use Rattle.sctp_link.proofs.Names.{ChunkPayloadData, Reception, StopsAt, ReceiverRefusal, numbers_of, Transmission, Standing, IsApart, Sides}
use Rattle.sctp_link.proofs.Names.{IsAligned, CanTake, TakesEach, sides, record_in, record_from, state_from, sides_in, IsLinked, Inside, Slot, kind_record}
use Rattle.sctp_link.proofs.Names.{slot_record, number_at, arrived_in, is_first, length-mapped, all-inside}
use Rattle.sctp_model.specs.declared.event.Event.TheVariants as E
use Rattle.sctp_receiver.specs.declared.receiver.refusal.ReceiverRefusal.TheVariants.{OutOfMemory}
use Rattle.sctp_link.proofs.sides.Aligned as Aligned
use Rattle.sctp_link.proofs.sides.Taking.{each-aligned, each-taken, never-stops}
use Rattle.sctp_link.specs.Replies.{reply_of}
use Rattle.sctp_link.proofs.receiver.Comes.{said, said-fresh, says-data, places-kept, never-other, there-is}
use Rattle.sctp_link.proofs.receiver.SlotLists.{Came, numbers-are, can, came}
use Rattle.sctp_link.proofs.receiver.Received.{receiver-of, linked-received, right-received}
use Rattle.sctp_model.proofs.refinement.arriving.AllCome.{all-come}
use Rattle.sctp_link.proofs.link.Link.arrive_data.Given.{Over}
use Rattle.sctp_link.proofs.link.Link.arrive_data.Goals.{After-index, In-Data, After-deref-4, In-Ok, After-record_arrivals-new}
use Rattle.sctp_link.proofs.link.Link.arrive_data.Goals as goal
use Rattle.sctp_link.proofs.upkeep.Facts.{facts, told}
use Rattle.sctp_link.proofs.upkeep.Observed.{kind-there}

-- no chunk is refused but for memory
only-memory : {t : Transmission} {r : Reception} {ps : List Standing} (cs : List ChunkPayloadData) (ns : List ℕ) → IsAligned t r ps
    → IsApart (numbers_of t.streams) → CanTake cs ns (sides t r ps) → (e : ReceiverRefusal) → (e ≡ OutOfMemory) ⊎ StopsAt cs r e
    → e ≡ OutOfMemory
only-memory cs ns a apart able e (inl h) = h
only-memory cs ns a apart able e (inr h) = absurd (never-stops cs ns a apart able h.count h.arrivals h.mid h.chunk e h.taken h.next h.refused)

-- What lies in the network under the number.
there : (g : Over) (c : After-index g) → (places : List ℕ) × (slice_get (record_in c.self.inside).network c.args.k ≡ Some (Data places))
there g c = rw (← c.self.view_is) at c.requires.lies

none : (g : Over) (c : After-index g) → refusal_of (record_in c.self.inside) (E.Arrive c.args.k) ≡ None
none g c = rw (← c.self.view_is) at c.requires.none

-- The places that were found are those of the network.
found : (g : Over) (c : In-Data g) → (places : List ℕ) × (slice_get (record_in c.self.inside).network c.args.k ≡ Some (Data places))
    → slice_get (record_in c.self.inside).network c.args.k ≡ Some (Data c.in-Data.places.items)
found g c t = t.1 ∙ ap (λ ps. Some (Data ps)) (sym (places-kept c.self.inside.network.items c.args.k c.index-2.result.now c.in-Data.places.items t.0 t.1
    c.index-2.ensures (ap kind_record c.in-Data.is)))

-- What is handed on: the chunks of these places, with the numbers of their messages.
record Handed {C : Type 0} (a : Inside C) (k : ℕ) (ps : List ℕ) (cs : List ChunkPayloadData) (ns : List ℕ) : Type 0 where
  there : slice_get (record_in a).network k ≡ Some (Data ps)
  chunks : cs ≡ map (chunk_at (record_in a)) ps
  numbers : ns ≡ map (number_at a.slots.items) ps
  many : length cs ≤ length ns

handed : (g : Over) (c : After-deref-4 g) → slice_get (record_in c.self.inside).network c.args.k ≡ Some (Data c.in-Data.places.items)
    → Handed c.self.inside c.args.k c.in-Data.places.items c.deref-3.result.now c.deref-4.result.now
handed g c t =
    let w = record_in c.self.inside in
    let ps = c.in-Data.places.items in
    let slots = c.self.inside.slots.items in
    let reads = says-data c.args.k ps c.self.inside.network.items c.index.result.now c.self.invariant.1 refl refl t c.index.ensures in
    let chunks : c.deref-3.result.now ≡ map (chunk_at w) ps = c.deref-3.ensures.value ∙ c.in_ok-chunks.ensures.chunks (said w ps) reads ∙ said-fresh w ps in
    let numbers : c.deref-4.result.now ≡ map (number_at slots) ps =
    c.deref-4.ensures.value ∙ c.in_ok-numbers.ensures.numbers ∙ ap (λ ss. map (number_at ss) c.deref-2.result.now) c.deref.ensures.value
    ∙ ap (map (number_at slots)) c.deref-2.ensures.value in
    record {
      there = t;
      chunks = chunks;
      numbers = numbers;
      many = omega (arith, ap length chunks, ap length numbers, length-mapped (chunk_at w) ps, length-mapped (number_at slots) ps);
    }

apart : (g : Over) (c : After-index g) → IsApart (numbers_of c.self.inside.sender.streams)
apart g c = subst IsApart (Aligned.numbers-are c.self.invariant.0) c.self.invariant.1.apart

-- All of them come.
done : (g : Over) (c : In-Ok g) → refusal_of (record_in c.self.inside) (E.Arrive c.args.k) ≡ None → IsApart (numbers_of c.self.inside.sender.streams)
    → Handed c.self.inside c.args.k c.in-Data.places.items c.deref-3.result.now c.deref-4.result.now → Came (record_in c.self.inside) (sides_in c.self.inside)
    c.in-Data.places.items c.in-Ok.arrivals.items (sides c.self.inside.sender c.data_each.new.receiver c.data_each.new.self)
done g c ok apart' h =
    let a = c.self.inside in
    let w = record_in a in
    let ps = c.in-Data.places.items in
    let bs = c.in-Ok.arrivals.items in
    let y = sides a.sender c.data_each.new.receiver c.data_each.new.self in
    let each = subst (λ qs. TakesEach c.deref-3.result.now c.deref-4.result.now bs (sides_in a) (sides a.sender c.data_each.new.receiver qs))
    (sym c.in-Ok.ensures.ok)
    (each-taken c.data_each.new.receiver c.deref-3.result.now c.deref-4.result.now bs c.self.invariant.0 apart' h.many c.in-Ok.ensures.taken) in
    let taken : TakesEach (map (chunk_at w) ps) (map (number_at a.slots.items) ps) bs (sides_in a) y = rw (h.chunks, h.numbers) at each in
    came (number_at a.slots.items) ps (map (chunk_at w) ps) bs y (numbers-are w a.slots.items refl) (receiver-of c.self.invariant.1 (sides_in a) refl refl refl)
    (all-come (told c.self.invariant.1) c.args.k ps ok h.there) taken

-- What is recorded of them.
record Recorded {C : Type 0} (a : Inside C) (ps : List ℕ) (slots : List Slot) (dups : List ℕ) : Type 0 where
  slots_are : (fold receive_slot (record_in a) ps).slots ≡ map slot_record slots
  dups_are : (fold receive_slot (record_in a) ps).duplicates ≡ dups

recorded : (g : Over) (c : After-record_arrivals-new g) → Came (record_in c.self.inside) (sides_in c.self.inside)
    c.in-Data.places.items c.in-Ok.arrivals.items (sides c.self.inside.sender c.data_each.new.receiver c.data_each.new.self)
    → Recorded c.self.inside c.in-Data.places.items (with_items c.self.inside.slots c.record_arrivals-new.new.slots).items
    c.record_arrivals-new.new.duplicates.items
recorded g c d =
    let arrived = c.record_arrivals-new.ensures in
    let ps = c.in-Data.places.items in
    let bs = c.in-Ok.arrivals.items in
    let same : length c.record_arrivals-new.new.slots ≡ vec_len c.self.inside.slots = search rules in
    record {
      slots_are = d.slots c.self.inside.slots.items refl
          ∙ sym (ap (map slot_record) (with_items_is c.self.inside.slots c.record_arrivals-new.new.slots same ∙ arrived.slots
          ∙ ap (λ qs. arrived_in qs c.deref-6.result.now c.deref_mut.result.now) c.deref-5.ensures.value
          ∙ ap (λ cs. arrived_in ps cs c.deref_mut.result.now) c.deref-6.ensures.value ∙ ap (arrived_in ps bs) c.deref_mut.ensures.value));
      dups_are = cc (d.duplicates, arrived.duplicates, c.in_ok-reserve.ensures.items, c.deref-5.ensures.value, c.deref-6.ensures.value);
    }

pub read_data-requires : goal.read_data-requires
read_data-requires g c =
    let t = there g (goal.at.read_data-requires g c).After-index in (
      said (record_in c.self.inside) t.0,
      says-data c.args.k t.0 c.self.inside.network.items c.index.result.now c.self.invariant.1 refl refl t.1 c.index.ensures,
    )

pub index-requires-2 : goal.index-requires-2
index-requires-2 g c =
    omega (arith, there-is (record_in c.self.inside) c.args.k c.self.inside.network.items refl (none g (goal.at.index-requires-2 g c).After-index))

pub unreachable-requires : goal.unreachable-requires
unreachable-requires g c =
    let t = there g (goal.at.unreachable-requires g c).After-index in
    never-other c.index-2.result.now.kind t.0 c.in_default.not-Data
    (kind-there c.self.inside.network.items c.args.k c.index-2.result.now (Data t.0) t.1 c.index-2.ensures)

-- each place is that of a slot
inside : (g : Over) (c : In-Data g) → slice_get (record_in c.self.inside).network c.args.k ≡ Some (Data c.in-Data.places.items)
    → (i : ℕ) → i < length c.in-Data.places.items → slice_index_or c.in-Data.places.items i 0 < length c.self.inside.slots.items
inside g c t i lt =
    omega (arith, all-inside (facts c.self.invariant.1) c.args.k c.in-Data.places.items t i lt, length-mapped slot_record c.self.inside.slots.items)

pub message_numbers-requires : goal.message_numbers-requires
message_numbers-requires g c =
    let p = goal.at.message_numbers-requires g c in
    rw (c.deref-2.ensures.value, c.deref.ensures.value) (inside g p.In-Data (found g p.In-Data (there g p.After-index)))

pub data_each-requires : goal.data_each-requires
data_each-requires g c = let p = goal.at.data_each-requires g c in (handed g p.After-deref-4 (found g p.In-Data (there g p.After-index))).many

pub memory_of_receiver-requires : goal.memory_of_receiver-requires
memory_of_receiver-requires g c =
    let p = goal.at.memory_of_receiver-requires g c in
    let h = handed g p.After-deref-4 (found g p.In-Data (there g p.After-index)) in
    let a = c.self.inside in
    let w = record_in a in
    let ps = c.in-Data.places.items in
    let able : CanTake c.deref-3.result.now c.deref-4.result.now (sides_in a) = rw (h.chunks, h.numbers)
    (can (number_at a.slots.items) ps (map (chunk_at w) ps) (numbers-are w a.slots.items refl) (receiver-of c.self.invariant.1 (sides_in a) refl refl refl)
    (all-come (told c.self.invariant.1) c.args.k ps (none g p.After-index) h.there)) in
    only-memory c.deref-3.result.now c.deref-4.result.now c.self.invariant.0 (apart g p.After-index) able c.in-Err.refusal c.in-Err.ensures.refused

pub record_arrivals-new-requires-clause-inside : goal.record_arrivals-new-requires-clause-inside
record_arrivals-new-requires-clause-inside g c =
    let p = goal.at.record_arrivals-new-requires-clause-inside g c in
    rw (c.deref-5.ensures.value, c.deref_mut.ensures.value) (inside g p.In-Data (found g p.In-Data (there g p.After-index)))

pub record_arrivals-new-requires-clause-count : goal.record_arrivals-new-requires-clause-count
record_arrivals-new-requires-clause-count g c =
    let p = goal.at.record_arrivals-new-requires-clause-count g c in
    let d = done g p.In-Ok (none g p.After-index) (apart g p.After-index) (handed g p.After-deref-4 (found g p.In-Data (there g p.After-index))) in
    ap length c.deref-6.ensures.value ∙ d.count ∙ sym (ap length c.deref-5.ensures.value)

pub invariant_of-self-2 : goal.invariant_of-self-2
invariant_of-self-2 g c =
    let p = goal.at.invariant_of-self-2 g c in
    let ok = none g p.After-index in
    let at = found g p.In-Data (there g p.After-index) in
    let d = done g p.In-Ok ok (apart g p.After-index) (handed g p.After-deref-4 at) in
    let r = recorded g p.After-record_arrivals-new d in
    let a = c.self.inside in
    let sum = g.C.Checksum.sum a.checksum in
    let y = sides a.sender c.data_each.new.receiver c.data_each.new.self in
    let marked = with_items a.slots c.record_arrivals-new.new.slots in (
      subst (λ qs. IsAligned a.sender c.data_each.new.receiver qs) (sym c.in-Ok.ensures.ok)
          (each-aligned c.data_each.new.receiver c.deref-3.result.now c.deref-4.result.now c.in-Ok.arrivals.items c.self.invariant.0 c.in-Ok.ensures.taken),
      subst (λ (h : Sides). IsLinked sum (state_from h (record a { slots = marked; duplicates = c.record_arrivals-new.new.duplicates }))) (sym d.rest)
          (linked-received c.self.invariant.1 c.args.k c.in-Data.places.items ok at marked.items c.record_arrivals-new.new.duplicates.items d.receiver d.cores
          r.slots_are r.dups_are),
    )

pub returns-clause-ok : goal.returns-clause-ok
returns-clause-ok g c =
    let p = goal.at.returns-clause-ok g c in
    let ok = none g p.After-index in
    let at = found g p.In-Data (there g p.After-index) in
    let d = done g p.In-Ok ok (apart g p.After-index) (handed g p.After-deref-4 at) in
    let r = recorded g p.After-record_arrivals-new d in
    let a = c.self.inside in
    let y = sides a.sender c.data_each.new.receiver c.data_each.new.self in
    let marked = with_items a.slots c.record_arrivals-new.new.slots in
    rw (← c.self.view_is) (subst (λ (h : Sides). IsRight (record_in a) (E.Arrive c.args.k) (reply_of c.reply_to_data.result) (record_from h (record a
    { slots = marked; duplicates = c.record_arrivals-new.new.duplicates }))) (sym d.rest) (right-received c.self.invariant.1 c.args.k c.in-Data.places.items ok
    at marked.items c.record_arrivals-new.new.duplicates.items d.receiver d.cores r.slots_are r.dups_are c.record_arrivals-new.result
    (reply_of c.reply_to_data.result) (c.record_arrivals-new.ensures.new ∙ ap (list_any is_first) c.deref-6.ensures.value ∙ d.new) c.reply_to_data.ensures))
