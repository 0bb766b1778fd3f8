-- Two uses of a stream: where as many messages were read on it as were written, what is read from there on was written from there on. For no write
-- is read twice: so no more messages are one write than were written, and as many were read before as were written before.
use Rattle.sctp_delivery.proofs.Names.{◌≡◌, ℕ, zero, suc, ◌+◌, ◌<◌, ◌≤◌, Bool, true, false, List, [], ◌∷◌, ◌++◌, length, slice_index_or, refl, ap, sym, subst}
use Rattle.sctp_delivery.proofs.Names.{◌∙◌, arith, All, AllPairs, Contains, Option, distance, not_both, append_assoc, ChunkSet, IsWrite, StandAt, Message}
use Rattle.sctp_delivery.proofs.Names.{Session, Write, ChunkPayloadData, is_complete, of_receiver, of_sender, AllPass-from_list_all, Unknown, written_after}
use Rattle.sctp_delivery.proofs.Names.{SenderCall, length-append, filter, if◌then◌else◌, Some, None, Reception, message_on, ◌==◌, same-yes}
use Rattle.sctp_delivery.proofs.Names.{PayloadProtocolIdentifier, Data, ◌&&◌, not, list_all, nat_tests, common_steps}
use Rattle.std.proofs.Common.{◌≢◌}
use Rattle.std.proofs.lemmas.List.Elements.{filter-append}
use Rattle.sctp_receiver.specs.ReceiverRuns as receiver_runs
use Rattle.sctp_receiver.specs.ReceiverRuns.{messages_after, with_message}
use Rattle.sctp_delivery.specs.EveryCall.{AnyCall, FollowsAny, RunsAny, as_receiver_run, is_single, makes, of_receiving, of_sending, single_messages}
use Rattle.sctp_delivery.specs.EveryCall.{tsns_given_any}
use Rattle.sctp_delivery.specs.ReceiverCalls as incoming
use Rattle.sctp_delivery.specs.Returns.{at_start_with}
use Rattle.sctp_delivery.specs.SenderCalls as outgoing
use Rattle.sctp_delivery.specs.Order.{places_where}
use Rattle.sctp_delivery.specs.Uses.{AfterEachThatGoesOn, EachLaterUseReadsItsOwn}
use Rattle.sctp_delivery.proofs.Cases.{at-if, at-test}
use Rattle.sctp_delivery.proofs.Delivered.{next_tsn}
use Rattle.sctp_delivery.proofs.Every.{Every, all-of-every, every-of, every-of-all, every-passing, every-at}
use Rattle.sctp_delivery.proofs.EveryMessages as messages
use Rattle.sctp_delivery.proofs.EveryRuns as runs
use Rattle.sctp_reassembly.specs.reassembly_queue.Fragments.{payload_of}
use Rattle.sctp_delivery.proofs.Sent.{contains-more}
use Rattle.sctp_delivery.proofs.SameData.{is_same, same-data, same-itself}

-- # A message as the write that it is

abbrev first_type : List ChunkPayloadData → PayloadProtocolIdentifier
first_type [] = Unknown
first_type (c ∷ cs) = c.payload_type

abbrev value : Message → Write
value m = record { stream = m.stream; payload_type = first_type m.fragments; bytes = payload_of m.fragments }

type-is : (t : PayloadProtocolIdentifier) (cs : List ChunkPayloadData) → is_complete cs ≡ true → All (λ c. c.payload_type ≡ t) cs → first_type cs ≡ t
type-is t [] whole a = absurd (not_both whole)
type-is t (c ∷ cs) whole a = a 0 c (omega arith)

abbrev IsFull : Message → Type 0
IsFull m = is_complete m.fragments ≡ true

value-is : (m : Message) (w : Write) → IsFull m → IsWrite m w → value m ≡ w
value-is m w whole i =
    ap (λ t. let r : Write = record { stream = m.stream; payload_type = t; bytes = payload_of m.fragments } in r)
    (type-is w.payload_type m.fragments whole i.payload_type)
    ∙ ap (λ bs. let r : Write = record { stream = m.stream; payload_type = w.payload_type; bytes = bs } in r) i.bytes
    ∙ ap (λ n. let r : Write = record w { stream = n } in r) i.stream

-- a test of whether two writes are the same
abbrev as_data : Write → Data
as_data w = record {
  unordered = false;
  beginning_fragment = false;
  ending_fragment = false;
  immediate_sack = false;
  tsn = 0;
  stream_identifier = w.stream;
  stream_sequence_number = 0;
  payload_type = w.payload_type;
  user_data = w.bytes;
}

same-write : (v w : Write) → is_same (as_data v) (as_data w) ≡ true → v ≡ w
same-write v w e =
    ap (λ (d : Data). let r : Write = record { stream = d.stream_identifier; payload_type = d.payload_type; bytes = d.user_data } in r)
    (same-data (as_data v) (as_data w) e)

-- # No more messages than writes

-- what stands at a place
abbrev nothing : Write
nothing = record { stream = 0; payload_type = Unknown; bytes = [] }

abbrev at : List Write → ℕ → Write
at ws p = slice_index_or ws p nothing

-- each place is another one than each of the others
abbrev AreOthers : List ℕ → Type 0
AreOthers [] = Unit {0}
AreOthers (p ∷ ps) = Every (λ q. q ≡ p → ⊥) ps × AreOthers ps

others-of : (ps : List ℕ) → AllPairs (λ p q. p ≢ q) ps → AreOthers ps
others-of [] a = tt
others-of (p ∷ ps) a = (
  every-of-all (λ q. q ≡ p → ⊥) ps (λ j d lt e. a 0 (suc j) d (omega arith) (omega (arith, lt)) (sym e)),
  others-of ps (λ i j d lt less. a (suc i) (suc j) d (omega (arith, lt)) (omega (arith, less))),
)

-- places behind the first write
abbrev lower : List ℕ → List ℕ
lower [] = []
lower (zero ∷ ps) = lower ps
lower (suc p ∷ ps) = p ∷ lower ps

lower-off : (p : ℕ) (ps : List ℕ) → Every (λ q. q ≡ suc p → ⊥) ps → Every (λ q. q ≡ p → ⊥) (lower ps)
lower-off p [] e = tt
lower-off p (zero ∷ ps) e = lower-off p ps e.1
lower-off p (suc q ∷ ps) e = ((λ h. e.0 (ap suc h)), lower-off p ps e.1)

lower-others : (ps : List ℕ) → AreOthers ps → AreOthers (lower ps)
lower-others [] a = tt
lower-others (zero ∷ ps) a = lower-others ps a.1
lower-others (suc p ∷ ps) a = (lower-off p ps a.0, lower-others ps a.1)

none-lower : (ps : List ℕ) → Every (λ q. q ≡ zero → ⊥) ps → length ps ≤ length (lower ps)
none-lower [] e = omega arith
none-lower (zero ∷ ps) e = absurd (e.0 refl)
none-lower (suc p ∷ ps) e = let h = none-lower ps e.1 in omega (arith, h)

-- of writes that pass a test
module _ (R : Write → Bool) where
  -- a place of such a write
  abbrev IsSpot : List Write → ℕ → Type 0
  IsSpot ws p = (p < length ws) × (R (at ws p) ≡ true)

  lower-spots : (w : Write) (ws : List Write) (ps : List ℕ) → Every (IsSpot (w ∷ ws)) ps → Every (IsSpot ws) (lower ps)
  lower-spots w ws [] e = tt
  lower-spots w ws (zero ∷ ps) e = lower-spots w ws ps e.1
  lower-spots w ws (suc p ∷ ps) e = ((let lt = e.0.0 in omega (arith, lt), e.0.1), lower-spots w ws ps e.1)

  one-lower : (w : Write) (ws : List Write) (ps : List ℕ) → AreOthers ps → Every (IsSpot (w ∷ ws)) ps
      → length ps ≤ length (lower ps) + (if R w then 1 else 0)
  one-lower w ws [] a e = omega arith
  one-lower w ws (zero ∷ ps) a e =
      let h = none-lower ps a.0 in
      let one : ◌≡◌ {A = ℕ} (if R w then 1 else 0) 1 = ap (λ b. if b then 1 else 0) e.0.1 in
      omega (arith, h, one)
  one-lower w ws (suc p ∷ ps) a e = let h = one-lower w ws ps a.1 e.1 in omega (arith, h)

  spots-few : (ws : List Write) (ps : List ℕ) → AreOthers ps → Every (IsSpot ws) ps → length ps ≤ length (filter R ws)
  spots-few [] [] a e = omega arith
  spots-few [] (p ∷ ps) a e = let lt = e.0.0 in absurd (omega (arith, lt))
  spots-few (w ∷ ws) ps a e =
      grind (arith, nat_tests, common_steps, lower-others, lower-spots, one-lower, spots-few ws (lower ps) (lower-others ps a) (lower-spots w ws ps e))

  -- those of the messages that are such writes
  abbrev spots : List Message → List ℕ → List ℕ
  spots ms ps = places_where (λ m p. R (value m)) ms ps

  spots-every : (Q : ℕ → Type 0) (ms : List Message) (ps : List ℕ) → Every Q ps → Every Q (spots ms ps)
  spots-every Q [] ps e = tt
  spots-every Q (m ∷ ms) [] e = tt
  spots-every Q (m ∷ ms) (p ∷ ps) e = at-if (Every Q) (R (value m)) (λ _. (e.0, spots-every Q ms ps e.1)) (λ _. spots-every Q ms ps e.1)

  spots-others : (ms : List Message) (ps : List ℕ) → AreOthers ps → AreOthers (spots ms ps)
  spots-others [] ps a = tt
  spots-others (m ∷ ms) [] a = tt
  spots-others (m ∷ ms) (p ∷ ps) a =
      at-if AreOthers (R (value m)) (λ _. (spots-every (λ q. q ≡ p → ⊥) ms ps a.0, spots-others ms ps a.1)) (λ _. spots-others ms ps a.1)

  -- there are as many as messages
  spots-are : (ws : List Write) (ms : List Message) (ps : List ℕ) → Every IsFull ms → StandAt ws ms ps
      → Every (IsSpot ws) (spots ms ps) × (length (spots ms ps) ≡ length (filter (λ m. R (value m)) ms))
  spots-are ws [] ps f h = (tt, refl)
  spots-are ws (m ∷ ms) [] f h = absurd h
  spots-are ws (m ∷ ms) (p ∷ ps) f h =
      let ih = spots-are ws ms ps f.1 h.1 in
      let long = ih.1 in
      at-test (λ b. Every (IsSpot ws) (if b then p ∷ spots ms ps else spots ms ps) × (length (if b then p ∷ spots ms ps else spots ms ps)
      ≡ length (if b then m ∷ filter (λ o. R (value o)) ms else filter (λ o. R (value o)) ms))) (R (value m))
      (λ e. (((h.0.0, ap R (sym (value-is m (at ws p) f.0 (h.0.1 nothing))) ∙ e), ih.0), omega (arith, long))) (λ _. ih)

  no-more : (ws : List Write) (ms : List Message) (ps : List ℕ) → Every IsFull ms → StandAt ws ms ps → AllPairs (λ p q. p ≢ q) ps
      → length (filter (λ m. R (value m)) ms) ≤ length (filter R ws)
  no-more ws ms ps f h apart = grind (arith, nat_tests, common_steps, others-of, spots-are, spots-few, spots-others)

-- # What is read from there on

-- of those that pass, the ones that pass a stricter test, and the others
parted : {A : Type 0} (p q : A → Bool) → ((x : A) → q x ≡ true → p x ≡ true) → (xs : List A)
    → length (filter p xs) ≡ length (filter q xs) + length (filter (λ x. p x && not (q x)) xs)
parted p q less [] = refl
parted p q less (x ∷ xs) = grind (arith, nat_tests, common_steps, not_both, less, parted p q less xs)

some-pass : {A : Type 0} (p : A → Bool) (xs : List A) (k : ℕ) (d : A) → k < length xs → p (slice_index_or xs k d) ≡ true → 0 < length (filter p xs)
some-pass p [] k d lt e = absurd (omega (arith, lt))
some-pass p (x ∷ xs) zero d lt e = subst (λ b. 0 < length (if b then x ∷ filter p xs else filter p xs)) (sym e) (omega arith)
some-pass p (x ∷ xs) (suc k) d lt e =
    at-if (λ ys. 0 < length ys) (p x) (λ _. omega arith) (λ _. some-pass p xs k d (omega (arith, lt)) e)

passed : (R : Write → Bool) (ws : List Write) → 0 < length (filter R ws) → (w : Write) × Contains ws w × (R w ≡ true)
passed R [] lt = absurd (omega (arith, lt))
passed R (w ∷ ws) lt = at-test (λ b. R w ≡ b → 0 < length (if b then w ∷ filter R ws else filter R ws) → (v : Write) × Contains (w ∷ ws) v × (R v ≡ true))
    (R w) (λ _ e _. (w, (0, omega arith, refl), e)) (λ _ _ more. let h = passed R ws more in (h.0, contains-more w ws h.0 h.1, h.2)) refl lt

some-write : (ws : List Write) (ms : List Message) (ps : List ℕ) → StandAt ws ms ps → Every (λ m. (w : Write) × IsWrite m w) ms
some-write ws [] ps h = tt
some-write ws (m ∷ ms) [] h = absurd h
some-write ws (m ∷ ms) (p ∷ ps) h = ((at ws p, h.0.1 nothing), some-write ws ms ps h.1)

left : {A : Type 0} (P : A → Type 0) (xs ys : List A) → Every P (xs ++ ys) → Every P xs
left P [] ys e = tt
left P (x ∷ xs) ys e = (e.0, left P xs ys e.1)

abbrev IsOnOf : ℕ → List Write → Message → Type 0
IsOnOf stream ws m = m.stream ≡ stream → (w : Write) × Contains ws w × IsWrite m w

-- a message is one of ws, where as many were read of the others as were written
its-own : (stream : ℕ) (ws vs : List Write) (ms ns : List Message) (ps qs : List ℕ) → Every IsFull (ms ++ ns) → StandAt (ws ++ vs) (ms ++ ns) ps
    → AllPairs (λ p q. p ≢ q) ps → Every IsFull ns → StandAt vs ns qs → AllPairs (λ p q. p ≢ q) qs
    → length (filter (λ w. w.stream == stream) vs) ≤ length (filter (λ m. m.stream == stream) ns) → Every (IsOnOf stream ws) ms
its-own stream ws vs ms ns ps qs full h apart full' g apart' many = every-of-all (IsOnOf stream ws) ms own
  where
    own : (k : ℕ) (d : Message) → k < length ms → IsOnOf stream ws (slice_index_or ms k d)
    own k d lt on =
        let m = slice_index_or ms k d in
        let it = every-at (λ m. (w : Write) × IsWrite m w) ms k d lt
        (left (λ m. (w : Write) × IsWrite m w) ms ns (some-write (ws ++ vs) (ms ++ ns) ps h)) in
        let is = value-is m it.0 (every-at IsFull ms k d lt (left IsFull ms ns full)) it.1 in
        let same = λ (w : Write). is_same (as_data (value m)) (as_data w) in
        let here = λ (w : Write). w.stream == stream in
        let less = λ (w : Write) (e : same w ≡ true).
        subst (λ (v : Write). (v.stream == stream) ≡ true) (same-write (value m) w e) (subst (λ n. (n == stream) ≡ true) (sym on) (same-yes stream)) in
        let all = no-more same (ws ++ vs) (ms ++ ns) ps full h apart in
        let rest = no-more (λ w. here w && not (same w)) vs ns qs full' g apart' in
        let written = parted here same less vs in
        let read = parted (λ (x : Message). here (value x)) (λ x. same (value x)) (λ x. less (value x)) ns in
        let one = some-pass (λ (x : Message). same (value x)) ms k d lt (same-itself (as_data (value m))) in
        let messages = ap length (filter-append (λ (x : Message). same (value x)) ms ns)
        ∙ length-append (filter (λ (x : Message). same (value x)) ms) (filter (λ (x : Message). same (value x)) ns) in
        let writes = ap length (filter-append same ws vs) ∙ length-append (filter same ws) (filter same vs) in
        let found = passed same ws (omega (arith, all, rest, written, read, one, messages, writes, many)) in
        (found.0, found.1, subst (IsWrite m) (sym is ∙ same-write (value m) found.0 found.2) it.1)

-- # What is read and written more

record Grows (s t : Session) : Type 0 where
  read : List Message
  written : List Write
  read-on : t.receiving.read ≡ read ++ s.receiving.read
  written-on : t.written ≡ written ++ s.written

written-by : (call : SenderCall) (ws : List Write) → (ys : List Write) × (written_after call ws ≡ ys ++ ws)
written-by (outgoing.writes stream ppi []) ws = ([], refl)
written-by (outgoing.writes stream ppi (b ∷ bs)) ws = (record { stream = stream; payload_type = ppi; bytes = b ∷ bs } ∷ [], refl)
written-by call ws = ([], refl)

read-by : (c : receiver_runs.Call) (r : Reception) (ms : List Message) → (xs : List Message) × (messages_after c r ms ≡ xs ++ ms)
read-by (receiver_runs.reads stream) r ms = by (message_on stream r)
  where
    by : (o : Option ChunkSet) → (xs : List Message) × (with_message stream o ms ≡ xs ++ ms)
    by None = ([], refl)
    by (Some set) = (record { stream = stream; fragments = set.chunks } ∷ [], refl)
read-by c r ms = ([], refl)

one-grows : (c : AnyCall) (s t : Session) → FollowsAny c s t → Grows s t
one-grows (makes (of_sender call)) s t f =
    let w = written-by call s.written in
    record { read = []; written = w.0; read-on = ap (λ (x : Session). x.receiving.read) f.after; written-on = ap (λ (x : Session). x.written) f.after ∙ w.1 }
one-grows (makes (of_receiver call)) s t f =
    let x = read-by (incoming.as_run call) s.receiving.receiver s.receiving.read in
    record { read = x.0; written = []; read-on = f.step.read ∙ x.1; written-on = ap (λ (y : Session). y.written) f.after }
one-grows (of_sending call) s t f =
    record { read = []; written = []; read-on = ap (λ (x : Session). x.receiving.read) f.after; written-on = ap (λ (x : Session). x.written) f.after }
one-grows (of_receiving call) s t f =
    let x = read-by (as_receiver_run call) s.receiving.receiver s.receiving.read in
    record { read = x.0; written = []; read-on = f.step.read ∙ x.1; written-on = ap (λ (y : Session). y.written) f.after }

all-grow : (cs : List AnyCall) (s t : Session) → RunsAny s cs t → Grows s t
all-grow [] s t r =
    record { read = []; written = []; read-on = ap (λ (x : Session). x.receiving.read) r; written-on = ap (λ (x : Session). x.written) r }
all-grow (c ∷ cs) s t r =
    let a = one-grows c s r.0 r.1.0 in
    let b = all-grow cs r.0 t r.1.1 in
    record {
      read = b.read ++ a.read;
      written = b.written ++ a.written;
      read-on = b.read-on ∙ ap (λ ms. b.read ++ ms) a.read-on ∙ sym (append_assoc b.read a.read s.receiving.read);
      written-on = b.written-on ∙ ap (λ ws. b.written ++ ws) a.written-on ∙ sym (append_assoc b.written a.written s.written);
    }

-- # Calls behind calls

unfoldable joined : (cs ds : List AnyCall) (a b c : Session) → RunsAny a cs b → RunsAny b ds c → RunsAny a (cs ++ ds) c
joined [] [] a b c r q = q ∙ r
joined [] (d ∷ ds) a b c r q = (q.0, (subst (λ s. FollowsAny d s q.0) r q.1.0, q.1.1))
joined (x ∷ cs) ds a b c r q = (r.0, (r.1.0, joined cs ds r.0 b c r.1.1 q))

given-joined : (cs ds : List AnyCall) (a b c : Session) (r : RunsAny a cs b) (q : RunsAny b ds c)
    → tsns_given_any a (cs ++ ds) c (joined cs ds a b c r q) ≡ tsns_given_any a cs b r + tsns_given_any b ds c q
unfolding joined
given-joined [] [] a b c r q = omega arith
given-joined [] (d ∷ ds) a b c r q = let e = ap (λ (s : Session). distance (next_tsn s) (next_tsn q.0)) r in omega (arith, e)
given-joined (x ∷ cs) ds a b c r q = let e = given-joined cs ds r.0 b c r.1.1 q in omega (arith, e)

-- # The law

passing : (p : Message → Bool) (P : Message → Type 0) (ms : List Message) → Every P (filter p ms) → Every (λ m. p m ≡ true → P m) ms
passing p P [] e = tt
passing p P (m ∷ ms) e = by (p m) e (λ f. passing p P ms f)
  where
    by : (b : Bool) → Every P (if b then m ∷ filter p ms else filter p ms) → (Every P (filter p ms) → Every (λ o. p o ≡ true → P o) ms)
        → (b ≡ true → P m) × Every (λ o. p o ≡ true → P o) ms
    by true f ih = (λ _. f.0, ih f.1)
    by false f ih = (λ e. absurd (not_both e), ih f)

pub reads-own : AfterEachThatGoesOn EachLaterUseReadsItsOwn
reads-own reported first size max most limits cs ds s t r q small some few short stream many =
    let start = at_start_with reported first size max most limits in
    let run = joined cs ds start s t r q in
    let given = given-joined cs ds start s t r q in
    let own = messages.of-their-own reported first size max most limits (cs ++ ds) t run small some (omega (arith, given, few)) short in
    let bytes = runs.grows ds s t q in
    let before = messages.of-their-own reported first size max most limits cs s r small some (omega (arith, few)) (omega (arith, short, bytes)) in
    let more = all-grow ds s t q in
    let single = λ (m : Message). is_single m.fragments in
    let full = λ (ms : List Message) (whole : list_all (λ m. is_complete m.fragments) ms ≡ true).
    every-passing IsFull single ms (every-of-all IsFull ms (AllPass-from_list_all (λ m. is_complete m.fragments) ms whole)) in
    let both' : single_messages t.receiving.read ≡ single_messages more.read ++ single_messages s.receiving.read =
    ap single_messages more.read-on ∙ filter-append single more.read s.receiving.read in
    let each = its-own stream more.written s.written (single_messages more.read) (single_messages s.receiving.read) own.0 before.0
    (subst (Every IsFull) both' (full t.receiving.read (runs.messages reported first size max most limits (cs ++ ds) t run).0))
    (subst (λ ms. StandAt (more.written ++ s.written) ms own.0) both'
    (subst (λ ws. StandAt ws (single_messages t.receiving.read) own.0) more.written-on own.1)) own.2
    (full s.receiving.read (runs.messages reported first size max most limits cs s r).0) before.1 before.2 many in
    record {
      read = more.read;
      written = more.written;
      read-on = more.read-on;
      written-on = more.written-on;
      each = all-of-every (λ (m : Message). m.stream ≡ stream → is_single m.fragments ≡ true → (w : Write) × Contains more.written w × IsWrite m w) more.read
          (every-of (λ (m : Message). is_single m.fragments ≡ true → m.stream ≡ stream → (w : Write) × Contains more.written w × IsWrite m w)
          (λ (m : Message). m.stream ≡ stream → is_single m.fragments ≡ true → (w : Write) × Contains more.written w × IsWrite m w)
          (λ m h is e. h e is) more.read
          (passing single (λ (m : Message). m.stream ≡ stream → (w : Write) × Contains more.written w × IsWrite m w) more.read each));
    }
