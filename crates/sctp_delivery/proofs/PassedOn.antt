-- A caller of both hosts: from where they stand, what its calls lead to.
use Rattle.sctp_delivery.proofs.Names.{common_steps, ◌≡◌, ℕ, ◌+◌, ◌^◌, ◌<◌, ◌≤◌, Bool, true, List, [], ◌∷◌, length, Option, Some, None, refl, ap, sym, subst}
use Rattle.sctp_delivery.proofs.Names.{◌∙◌, arith, ◌&&◌, ◌==◌, list_all, list_all-append, same-yes, Sack, ChunkPayloadData, Arrival, filter, nat_tests}
use Rattle.sctp_delivery.proofs.Names.{PayloadProtocolIdentifier, Released, Reception, Transmission, SenderMakes, writes, sends, takes_sack, opens, Limits}
use Rattle.sctp_delivery.proofs.Names.{next_chunk, Call, Session, of_receiver, of_sender, window, message_on, ChunkSet, Message, Write, written_after}
use Rattle.sctp_delivery.proofs.Names.{ReceiverCall, SenderCall, Chunks, IfSome, option_map, All, map, take, ◌++◌, ap₂, slice_index_or}
use Rattle.std.specs.Prelude.{◌*◌, cond}
use Rattle.std.proofs.lemmas.List.{map-append, take_more}
use Rattle.std.proofs.lemmas.Nat.{mul-le}
use Rattle.sctp_reassembly.specs.reassembly_queue.Fragments.{payload_of}
use Rattle.sctp_reassembly.specs.reassembly_queue.ReassemblyQueue.{at_start as start_of}
use Rattle.sctp_receiver.specs.Receiver.{at_first, sack_within}
use Rattle.sctp_sender.specs.Sender.{with_nothing}
use Rattle.sctp_receiver.specs.ReceiverRuns.{messages_after}
use Rattle.sctp_delivery.specs.Delivering.{Delivers, Exchanges, GoesOn, IsReady}
use Rattle.sctp_delivery.specs.InOrder.{Are, keeps_order, read_from, written_to}
use Rattle.sctp_delivery.specs.ReceiverCalls as incoming
use Rattle.sctp_delivery.specs.ReceiverCalls.{ReceiverMakes, as_run}
use Rattle.sctp_delivery.specs.Stand.{AreIn, Stand, Steps, given_in}
use Rattle.sctp_delivery.proofs.InOrder.{in-turn}
use Rattle.sctp_delivery.proofs.Stands.{keeps-nothing, receiver-steps, sack-made, sender-steps, sent-made, two-begin}

module _ (stream : ℕ) where
  -- ## Calls that go on

  pub none-yet : (st : Stand) → GoesOn stream 0 st st
  none-yet st = record { given = omega arith; written = refl; read = refl; ordered = refl }

  pub further : (m n : ℕ) (a b c : Stand) → GoesOn stream m a b → GoesOn stream n b c → GoesOn stream (m + n) a c
  further m n a b c f g = grind (arith, nat_tests, common_steps)

  last : (x y : Bool) → y ≡ true → (x && (y && true)) ≡ x
  last x y e = grind (arith, nat_tests)

  order-kept : (call : Call) (a b : Stand) → Steps call a b → keeps_order stream call ≡ true
      → list_all (keeps_order stream) b.calls ≡ list_all (keeps_order stream) a.calls
  order-kept call a b s k = grind (arith, nat_tests, common_steps, list_all-append, last)

  -- a call that writes nothing, and one that reads nothing
  by-sender : (call : SenderCall) (a b : Stand) → Steps (of_sender call) a b → keeps_order stream (of_sender call) ≡ true
      → written_after call a.session.written ≡ a.session.written → GoesOn stream 1 a b
  by-sender call a b s k w = grind (arith, nat_tests, common_steps, order-kept)

  by-receiver : (call : ReceiverCall) (a b : Stand) → Steps (of_receiver call) a b
      → messages_after (as_run call) a.session.receiving.receiver a.session.receiving.read ≡ a.session.receiving.read → GoesOn stream 0 a b
  by-receiver call a b s r = grind (arith, nat_tests, common_steps, order-kept)

  -- one chunk is passed on
  pub passed : (now room : ℕ) (c : ChunkPayloadData) (arrival : Arrival) (k : Sack) (gone : List Released) (t u v : Transmission) (q r x : Reception)
      → SenderMakes (sends now) t u → Some c ≡ next_chunk now t → ReceiverMakes (incoming.takes c arrival) q r
      → ReceiverMakes (incoming.reports_within (window r) room) r x → k ≡ sack_within (window r) room r
      → (u.kept ≡ None → SenderMakes (takes_sack k gone) u v) → (st : Stand) → AreIn t q st → given_in st + 2 < 2 ^ 31 → Exchanges stream 2 st v x
  passed now room c arrival k gone t u v q r x sent next took made is acked st at few =
      let a = sender-steps (sends now) t u q st at sent tt (omega (arith, few)) in
      let b = receiver-steps (incoming.takes c arrival) q r u a.0 a.1 took (sent-made now c t st a.0 a.2 at.sends next) in
      let d = receiver-steps (incoming.reports_within (window r) room) r x u b.0 b.1 made tt in
      let one = a.2.given in
      let two = b.2.given in
      let three = d.2.given in
      let e = sender-steps (takes_sack k gone) u v x d.0 d.1 (acked (keeps-nothing u x d.0 d.1)) (sack-made (window r) room k r b.0 d.0 d.2 b.1.receives is)
      (omega (arith, few, one, two, three)) in
      record {
        stand = e.0;
        there = e.1;
        goes_on = grind (arith, nat_tests, common_steps, further, by-sender, by-receiver);
      }

  -- nothing was to be sent
  pub idle : (now : ℕ) (t u : Transmission) (q : Reception) → SenderMakes (sends now) t u → (st : Stand) → AreIn t q st → given_in st + 2 < 2 ^ 31
      → Exchanges stream 2 st u q
  idle now t u q sent st at few =
      let a = sender-steps (sends now) t u q st at sent tt (omega (arith, few)) in
      let g = by-sender (sends now) st a.0 a.2 refl refl in
      let one = g.given in
      record {
        stand = a.0;
        there = a.1;
        goes_on = record { given = omega (arith, one); written = g.written; read = g.read; ordered = g.ordered };
      }

  -- so it goes on round by round
  pub none-passed : (t : Transmission) (r : Reception) (st : Stand) → AreIn t r st → Exchanges stream 0 st t r
  none-passed t r st at = record { stand = st; there = at; goes_on = none-yet st }

  pub passed-again : (n : ℕ) (t u : Transmission) (q r : Reception) (st : Stand) → Exchanges stream n st t q
      → ((a : Stand) → AreIn t q a → given_in a + 2 < 2 ^ 31 → Exchanges stream 2 a u r) → given_in st + (n + 2) < 2 ^ 31 → Exchanges stream (n + 2) st u r
  passed-again n t u q r st e h few =
      let most = e.goes_on.given in
      let f = h e.stand e.there (omega (arith, few, most)) in
      record { stand = f.stand; there = f.there; goes_on = further n 2 st e.stand f.stand e.goes_on f.goes_on }

  -- ## A message is passed on

  abbrev ours : Message → Bool
  ours m = m.stream == stream

  abbrev theirs : Write → Bool
  theirs w = w.stream == stream

  -- a message and a write of the stream are in front there
  front : {A : Type 0} (p : A → Bool) (x : A) (xs : List A) → p x ≡ true → filter p (x ∷ xs) ≡ x ∷ filter p xs
  front p x xs e = ap (λ b. cond b (x ∷ filter p xs) (filter p xs)) e

  written-some : (ppi : PayloadProtocolIdentifier) (bytes : List ℕ) (ws : List Write) → 0 < length bytes
      → written_after (writes stream ppi bytes) ws ≡ record { stream = stream; payload_type = ppi; bytes = bytes } ∷ ws
  written-some ppi [] ws some = absurd (omega (arith, some))
  written-some ppi (b ∷ bs) ws some = refl

  wrote : (ppi : PayloadProtocolIdentifier) (bytes : List ℕ) (a b : Stand) → Steps (of_sender (writes stream ppi bytes)) a b → 0 < length bytes
      → b.session.written ≡ record { stream = stream; payload_type = ppi; bytes = bytes } ∷ a.session.written
  wrote ppi bytes a b s some = ap (λ (s : Session). s.written) s.step.after ∙ written-some ppi bytes a.session.written some

  read-one : (set : ChunkSet) (r : Reception) (a b : Stand) → Steps (of_receiver (incoming.reads stream)) a b → a.session.receiving.receiver ≡ r
      → message_on stream r ≡ Some set → b.session.receiving.read ≡ record { stream = stream; fragments = set.chunks } ∷ a.session.receiving.read
  read-one set r a b s at is = grind (arith, nat_tests, common_steps)

  pub delivered : (ppi : PayloadProtocolIdentifier) (bytes : List ℕ) (n : ℕ) (t u v : Transmission) (q r x : Reception) (set : ChunkSet)
      → SenderMakes (writes stream ppi bytes) t u → ((st : Stand) → AreIn u q st → given_in st + n < 2 ^ 31 → Exchanges stream n st v r)
      → ReceiverMakes (incoming.reads stream) r x → message_on stream r ≡ Some set → (st : Stand) → AreIn t q st → IsReady stream st
      → 0 < length bytes → given_in st + (n + 1) < 2 ^ 31 → Delivers stream (n + 1) ppi bytes set.chunks st v x
  delivered ppi bytes n t u v q r x set writing exchanged read is st at ready some few =
      let m : Message = record { stream = stream; fragments = set.chunks } in
      let w : Write = record { stream = stream; payload_type = ppi; bytes = bytes } in
      let a = sender-steps (writes stream ppi bytes) t u q st at writing tt (omega (arith, few)) in
      let one = a.2.given in
      let e = exchanged a.0 a.1 (omega (arith, few, one)) in
      let b = receiver-steps (incoming.reads stream) r x v e.stand e.there read tt in
      let ws : b.0.session.written ≡ w ∷ st.session.written =
      ap (λ (s : Session). s.written) b.2.step.after ∙ (e.goes_on.written ∙ wrote ppi bytes st a.0 a.2 some) in
      let ms : b.0.session.receiving.read ≡ m ∷ st.session.receiving.read = grind (arith, nat_tests, common_steps, read-one) in
      let wrote' : written_to stream b.0.session ≡ w ∷ written_to stream st.session =
      ap (filter theirs) ws ∙ front theirs w st.session.written (same-yes stream) in
      let read' : read_from stream b.0.session ≡ m ∷ read_from stream st.session =
      ap (filter ours) ms ∙ front ours m st.session.receiving.read (same-yes stream) in
      let ordered : list_all (keeps_order stream) b.0.calls ≡ true = grind (arith, nat_tests, common_steps, order-kept) in
      let enough = ready.read in
      let more = ap length wrote' in
      let many = ap length read' in
      let le : length (written_to stream b.0.session) ≤ length (read_from stream b.0.session) = omega (arith, enough, more, many) in
      let law = in-turn b.0.tsn b.0.size b.0.max b.0.most b.0.limits b.0.calls b.0.session b.0.small b.0.some b.0.run b.0.few in
      let is' = (subst (λ zs. Are (m ∷ read_from stream st.session) zs) wrote'
      (subst (λ zs. Are zs (written_to stream b.0.session)) read' (law.all stream ordered le))).0 in
      let two = e.goes_on.given in
      let three = b.2.given in
      record {
        stand = b.0;
        there = b.1;
        ready = record { ordered = ordered; read = le };
        given = omega (arith, one, two, three);
        payload_type = is'.payload_type;
        payload = is'.bytes;
      }

-- what is answered is the message
pub if-read : {P : ChunkSet → Type 0} (o : Option Chunks) (m : Option ChunkSet) → o ≡ option_map start_of m → ((set : ChunkSet) → m ≡ Some set → P set)
    → IfSome o (λ chunks. P chunks.set)
if-read {P} o None e h = subst (λ x. IfSome x (λ (chunks : Chunks). P chunks.set)) (sym e) tt
if-read {P} o (Some set) e h = subst (λ x. IfSome x (λ (chunks : Chunks). P chunks.set)) (sym e) (h set refl)

-- what holds where something is answered, where it is
pub where-answered : {X : Type 0} (P : X → Type 0) (o : Option X) (x : X) → o ≡ Some x → IfSome o P → P x
where-answered P o x e h = subst (λ y. IfSome y P) e h

-- ## Messages one after another

-- the first so many of these messages were read, each by so many calls of the sender at most
pub record AreDelivered (stream each i : ℕ) (messages : List (List ℕ)) (st : Stand) (t : Transmission) (r : Reception) (read : List Chunks) : Type 0 where
  pub stand : Stand
  pub there : AreIn t r stand
  pub ready : IsReady stream stand
  pub given : given_in stand ≤ given_in st + each * i
  pub same : map (λ (chunks : Chunks). payload_of chunks.set.chunks) read ≡ take i messages

-- where the hosts stand so at first
abbrev pub DeliverEach : ℕ → ℕ → ℕ → List (List ℕ) → Transmission → Reception → Transmission → Reception → List Chunks → Type 0
DeliverEach stream each i messages t r u q read =
    (st : Stand) → AreIn t r st → IsReady stream st → All (λ bytes. 0 < length bytes) messages → given_in st + each * length messages < 2 ^ 31
    → AreDelivered stream each i messages st u q read

module _ (stream each : ℕ) (messages : List (List ℕ)) (t : Transmission) (r : Reception) where
  pub none-delivered : DeliverEach stream each 0 messages t r t r []
  none-delivered st at ready some few = record { stand = st; there = at; ready = ready; given = omega arith; same = refl }

  -- and one more
  pub one-delivered : (i : ℕ) (ppi : PayloadProtocolIdentifier) (u v : Transmission) (q x : Reception) (read : List Chunks) (chunks : Chunks) (bytes : List ℕ)
      → i < length messages → bytes ≡ slice_index_or messages i bytes → DeliverEach stream each i messages t r u q read
      → ((a : Stand) → AreIn u q a → IsReady stream a → 0 < length bytes → given_in a + each < 2 ^ 31 → Delivers stream each ppi bytes chunks.set.chunks a v x)
      → DeliverEach stream each (i + 1) messages t r v x (read ++ chunks ∷ [])
  one-delivered i ppi u v q x read chunks bytes lt is before h st at ready some few =
      let e = before st at ready some few in
      let most = e.given in
      let step : each * (i + 1) ≡ each * i + each = omega arith in
      let le = mul-le each (i + 1) each (length messages) (omega arith) (omega (arith, lt)) in
      let d = h e.stand e.there e.ready (subst (λ bs. 0 < length bs) (sym is) (some i bytes lt)) (omega (arith, few, most, step, le)) in
      let more = d.given in
      record {
        stand = d.stand;
        there = d.there;
        ready = d.ready;
        given = omega (arith, most, more, step);
        same = map-append (λ (c : Chunks). payload_of c.set.chunks) read (chunks ∷ [])
            ∙ (ap₂ (λ xs ys. xs ++ ys ∷ []) e.same (d.payload ∙ is) ∙ sym (take_more messages i bytes lt));
      }

-- ## Two new hosts

module _ (stream tsn size max most : ℕ) (limits : Option Limits) (small : tsn < 2 ^ 32) (some : 0 < size) where
  pub begun : (t : Transmission) (r : Reception) → SenderMakes (opens stream) (with_nothing tsn size max) t
      → ReceiverMakes (incoming.opens stream) (at_first tsn most limits) r → (st : Stand) × AreIn t r st × IsReady stream st × (given_in st ≤ 1)
  begun t r opened opened' =
      let a = two-begin tsn size max most limits small some in
      let b = sender-steps (opens stream) (with_nothing tsn size max) t (at_first tsn most limits) a.0 a.1 opened tt (omega (arith, a.3)) in
      let d = receiver-steps (incoming.opens stream) (at_first tsn most limits) r t b.0 b.1 opened' tt in
      let g = by-sender stream (opens stream) a.0 b.0 b.2 refl refl in
      let h = by-receiver stream (incoming.opens stream) b.0 d.0 d.2 refl in
      let one = g.given in
      let two = h.given in
      let none = a.3 in
      let written : d.0.session.written ≡ [] = h.written ∙ (g.written ∙ ap (λ (s : Session). s.written) a.4) in (
        d.0,
        d.1,
        record {
          ordered = h.ordered ∙ (g.ordered ∙ ap (list_all (keeps_order stream)) a.2);
          read =
              let e = ap (λ ws. length (filter (λ (w : Write). w.stream == stream) ws)) written in omega (arith, e);
        },
        omega (arith, one, two, none),
      )
