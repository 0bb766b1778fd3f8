-- DATA chunks that are taken, one after another: their streams' queues, and the numbers of the messages that they complete.
use Rattle.sctp_link.proofs.Names.{◌≡◌, ℕ, zero, suc, ◌≤◌, List, [], ◌∷◌, ◌++◌, length, take, Bool, true, false, Option, Some, None, refl, ap, sym, ◌∙◌, subst}
use Rattle.sctp_link.proofs.Names.{arith, ◌&&◌, if◌then◌else◌, option_map, slice_get, change_where, some-same, ChunkPayloadData, ReassemblyState}
use Rattle.sctp_link.proofs.Names.{PushesUnordered, after_ordered_push, Arrival, New, Repeat, InboundStream, ReceiverRefusal, Pushes, PushesAs, Reception}
use Rattle.sctp_link.proofs.Names.{is_answered_complete, data_refusal, Transmission, Standing, after_one, after_each, IsApart, OpenStream, join_each}
use Rattle.sctp_link.proofs.Names.{has_number, stream_numbers, on_inbound, IsAligned, stream_in, Takes, TakesEach, CanTake, sides, twice}
use Rattle.sctp_link.proofs.Names.{unchanged}
use Rattle.sctp_receiver.specs.Inbound.{with_queue}
use Rattle.sctp_receiver.specs.Receiver as R
use Rattle.sctp_receiver.proofs.DataEach.{takes-keeps}
use Rattle.sctp_sender.specs.Outgoing as Outgoing
use Rattle.sctp_link.specs.Progress as Progress
use Rattle.sctp_link.proofs.standings.Completions.{one-numbers, each-numbers}
use Rattle.sctp_link.proofs.sides.Joined.{progress-changed}
use Rattle.sctp_link.proofs.sides.Aligned.{numbers-are, reception-is, inbound-in, inbound-on, with-receiver, with-progress}
use Rattle.sctp_link.proofs.sides.Changes.{same-found}

-- ## Whether a message became complete

-- a push, and whether a message became complete by it
record Answered (c : ChunkPayloadData) (complete : Bool) (old new : ReassemblyState) : Type 0 where
  ordered : c.unordered ≡ false → new ≡ after_ordered_push c old
  unordered : c.unordered ≡ true → PushesUnordered c old new complete

answered : (c : ChunkPayloadData) (complete : Bool) (old new : ReassemblyState) → Pushes c complete old new → Answered c complete old new
answered c complete old new p = by c.unordered refl p
  where
    by : (u : Bool) → c.unordered ≡ u → PushesAs u c complete old new → Answered c complete old new
    by false e q = record { ordered = λ _. q.0; unordered = λ z. let no : false ≡ true = sym e ∙ z in absurd (cc) }
    by true e q = record { ordered = λ z. let no : true ≡ false = sym e ∙ z in absurd (cc); unordered = λ _. q }

-- ## A chunk

takes-limits : (c : ChunkPayloadData) (b : Arrival) (old new : Reception) → R.Takes c b old new → new.limits ≡ old.limits
takes-limits c (New complete) old new t = ap (λ (r : Reception). r.limits) t.after
takes-limits c Repeat old new t = ap (λ (r : Reception). r.limits) t

pub taken-aligned : {t : Transmission} {r : Reception} {ps : List Standing} → IsAligned t r ps → (c : ChunkPayloadData) (n : ℕ) (b : Arrival) (x : Reception)
    → R.Takes c b r x → IsAligned t x (after_one c n b ps)
taken-aligned {r} {ps} a c n b x h =
    let k = takes-keeps c b r x h in
    with-progress (with-receiver a x k.0 k.1 (takes-limits c b r x h)) _ (one-numbers c n b ps)

-- the stream that the receiver found
found-of : (o : Option OpenStream) (i : InboundStream) → option_map (λ l. l.inbound) o ≡ Some i → (l : OpenStream) × ((o ≡ Some l) × (l.inbound ≡ i))
found-of None i e = cc
found-of (Some l) i e = (l, (refl, some-same e))

-- a message became complete, or none did
abbrev completed : Bool → ℕ → OpenStream → OpenStream
completed b n l = record l { complete = if b then l.complete ++ n ∷ [] else l.complete }

module _ {t : Transmission} {r : Reception} {ps : List Standing} (a : IsAligned t r ps) (apart : IsApart (Outgoing.numbers_of t.streams)) where
  abbrev ls : List OpenStream
  ls = join_each t.streams r.streams ps

  pub parts : IsApart (stream_numbers ls)
  parts = subst IsApart (sym (numbers-are a)) apart

  after-joined : (s n : ℕ) (b : Bool) → join_each t.streams r.streams (if b then change_where (Progress.has_number s) (Progress.with_complete n) ps else ps)
      ≡ change_where (has_number s) (completed b n) ls
  after-joined s n true = progress-changed (Progress.with_complete n) (completed true n) (λ s i p _. refl) s t.streams r.streams ps a.progresses
  after-joined s n false = sym (unchanged (has_number s) (completed false n) (λ x. refl) ls)

-- one is taken
pub takes-one : {t : Transmission} {r : Reception} {ps : List Standing} → IsAligned t r ps → IsApart (Outgoing.numbers_of t.streams)
    → (c : ChunkPayloadData) (n : ℕ) (b : Arrival) (x : Reception) → R.Takes c b r x → Takes c n b (sides t r ps) (sides t x (after_one c n b ps))
takes-one {t} {r} {ps} a apart c n Repeat x h = cc (h, a.unlimited)
takes-one {t} {r} {ps} a apart c n (New b) x h =
    let s = c.stream_identifier in
    let gone = b && c.unordered in
    let old = join_each t.streams r.streams ps in
    let there = found-of (stream_in s (sides t r ps)) h.stream (inbound-in a s ∙ h.found) in
    let l = there.0 in
    let kept : OpenStream = record l { inbound = with_queue h.queue l.inbound; complete = if gone then l.complete ++ n ∷ [] else l.complete } in
    let k = takes-keeps c (New b) r x h in
    let mid = with-receiver a x k.0 k.1 (takes-limits c (New b) r x h) in
    let pushed = answered c b l.inbound.queue h.queue (subst (λ (i : InboundStream). Pushes c b i.queue h.queue) (sym there.1.1) h.pushed) in
    let streams : join_each t.streams x.streams (after_one c n (New b) ps) ≡ change_where (has_number s) (λ _. kept) old = after-joined mid apart s n gone
    ∙ ap (change_where (has_number s) (completed gone n)) (ap (λ (z : Reception). join_each t.streams z.streams ps) h.after
    ∙ inbound-on a s (with_queue h.queue)) ∙ twice (has_number s) (on_inbound (with_queue h.queue)) (completed gone n) (λ m. refl) old
    ∙ same-found s old l (parts a apart) there.1.0 (λ m. completed gone n (on_inbound (with_queue h.queue) m)) (λ _. kept) refl in
    record {
      stream = l;
      found = there.1.0;
      kept = kept;
      keeps = record { complete = b; ordered_queue = pushed.ordered; unordered_queue = pushed.unordered; rest = refl };
      after = cc (streams, h.after);
    }

-- ## Several, one after another

pub each-aligned : {t : Transmission} {r : Reception} (s : Reception) {ps : List Standing} (cs : List ChunkPayloadData) (ns : List ℕ) (bs : List Arrival)
    → IsAligned t r ps → R.TakesEach cs bs r s → IsAligned t s (after_each cs ns bs ps)
each-aligned {t} {r} s {ps} cs ns bs a h = with-progress (received t r s ps cs bs a h) _ (each-numbers cs ns bs ps)
  where
    received : (t : Transmission) (r s : Reception) (ps : List Standing) (cs : List ChunkPayloadData) (bs : List Arrival) → IsAligned t r ps
        → R.TakesEach cs bs r s → IsAligned t s ps
    received t r s ps [] [] a h = subst (λ z. IsAligned t z ps) (sym h) a
    received t r s ps [] (b ∷ bs) a h = absurd h
    received t r s ps (c ∷ cs) [] a h = absurd h
    received t r s ps (c ∷ cs) (b ∷ bs) a h =
        let k = takes-keeps c b r h.0 h.1.0.taken in
        received t h.0 s ps cs bs (with-receiver a h.0 k.0 k.1 (takes-limits c b r h.0 h.1.0.taken)) h.1.1

pub each-taken : {t : Transmission} {r : Reception} (s : Reception) {ps : List Standing} (cs : List ChunkPayloadData) (ns : List ℕ) (bs : List Arrival)
    → IsAligned t r ps → IsApart (Outgoing.numbers_of t.streams) → length cs ≤ length ns → R.TakesEach cs bs r s
    → TakesEach cs ns bs (sides t r ps) (sides t s (after_each cs ns bs ps))
each-taken {t} s {ps} [] ns [] a apart le h = ap (λ z. sides t z ps) h
each-taken s [] ns (b ∷ bs) a apart le h = absurd h
each-taken s (c ∷ cs) [] bs a apart le h = absurd (omega (arith, le))
each-taken s (c ∷ cs) (n ∷ ns) [] a apart le h = absurd h
each-taken {t} {r} s {ps} (c ∷ cs) (n ∷ ns) (b ∷ bs) a apart le h = (
  sides t h.0 (after_one c n b ps),
  (
    record { answer = h.1.0.answer ∙ ap (R.arrival_of c.tsn (is_answered_complete b)) (sym (reception-is a)); taken = takes-one a apart c n b h.0 h.1.0.taken },
    each-taken {r = h.0} s cs ns bs (taken-aligned a c n b h.0 h.1.0.taken) apart (omega (arith, le)) h.1.1,
  ),
)

-- where the receiver refuses none, it stops at none
pub never-stops : {t : Transmission} {r : Reception} {ps : List Standing} (cs : List ChunkPayloadData) (ns : List ℕ) → IsAligned t r ps
    → IsApart (Outgoing.numbers_of t.streams) → CanTake cs ns (sides t r ps) → (count : ℕ) (bs : List Arrival) (mid : Reception) (c : ChunkPayloadData)
    (e : ReceiverRefusal) → R.TakesEach (take count cs) bs r mid → slice_get cs count ≡ Some c → data_refusal c mid ≡ Some e → ⊥
never-stops [] ns a apart can count bs mid c e h at why = cc
never-stops (d ∷ cs) [] a apart can count bs mid c e h at why = can
never-stops {r} (d ∷ cs) (n ∷ ns) a apart can zero [] mid c e h at why =
    let none : data_refusal d r ≡ None = ap (data_refusal d) (sym (reception-is a)) ∙ can.0 in
    let same : data_refusal c mid ≡ data_refusal d r = ap (λ z. data_refusal z mid) (sym (some-same at)) ∙ ap (data_refusal d) h in
    let no : None ≡ Some e = sym (same ∙ none) ∙ why in
    cc
never-stops (d ∷ cs) (n ∷ ns) a apart can zero (b ∷ bs) mid c e h at why = h
never-stops (d ∷ cs) (n ∷ ns) a apart can (suc count) [] mid c e h at why = h
never-stops {t} {r} {ps} (d ∷ cs) (n ∷ ns) a apart can (suc count) (b ∷ bs) mid c e h at why =
    let answered = h.1.0.answer ∙ ap (R.arrival_of d.tsn (is_answered_complete b)) (sym (reception-is a)) in
    let next = subst (λ z. Takes d n z (sides t r ps) (sides t h.0 (after_one d n b ps))) answered (takes-one a apart d n b h.0 h.1.0.taken) in
    never-stops {r = h.0} cs ns (taken-aligned a d n b h.0 h.1.0.taken) apart
    (can.2 (is_answered_complete b) (sides t h.0 (after_one d n b ps)) next) count bs mid c e h.1.1 at why
