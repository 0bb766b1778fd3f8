use Rattle.sctp_model.proofs.Names.{◌≡◌, ℕ, zero, suc, ◌+◌, ◌<◌, ◌≤◌, Bool, true, false, List, [], ◌∷◌, ◌++◌, length, map, get_or, take, drop, Option, Some}
use Rattle.sctp_model.proofs.Names.{refl, ap, sym, ◌∙◌, inl, inr, arith, add-one, ◌⊎◌, if◌then◌else◌, ◌==◌, ◌&&◌, nat_lt, list_all, nat_tests, map-append}
use Rattle.sctp_model.proofs.Names.{numbers_where, always, pieces, kept-same, both, and, numbered, all-out, Event, Reply, Setup, LinkRecord, next_read}
use Rattle.sctp_model.proofs.Names.{chunk_at, handed_out, set_of, complete_set_of, Shown, joined_bytes, reads_in, numbers_read, log_of, History, record_of}
use Rattle.sctp_model.proofs.Names.{IsRun, reply_to, after, read_reply, IsSetup, OnEveryRun, ReadsShowMessages, shown_of, all-append, all-more}
use Rattle.sctp_util.proofs.Lines.{take-drop}
use Rattle.sctp_model.specs.declared.event.Event.TheVariants as E
use Rattle.sctp_model.specs.Messages
use Rattle.sctp_model.specs.Receiver
use Rattle.sctp_model.proofs.sender.Shape.{shape, has, sent, parts}
use Rattle.sctp_model.proofs.sender.Sender.{Sender}
use Rattle.sctp_model.proofs.sender.SenderSteps.{of-has}
use Rattle.sctp_model.proofs.sender.SenderRun.{consistent-run}
use Rattle.sctp_model.proofs.sender.Network.{Extends, extends-after}
use Rattle.sctp_model.proofs.receiver.Arrivals.{arrivals-run}
use Rattle.sctp_model.proofs.receiver.View.{view}
use Rattle.sctp_model.proofs.receiver.Known.{HasRead, ReadsComplete, ReadsRun, reads, run-is, ready-first, ready-complete}
use Rattle.sctp_model.proofs.receiver.KnownRun.{known-run, completeness_agrees}

-- Each read hands out a message as it was written.

-- ## Pieces join to what was cut

abbrev flat : List (List ℕ) → List ℕ
flat [] = []
flat (x ∷ xs) = x ++ flat xs

flat-pieces : (most size : ℕ) (bytes : List ℕ) → 0 < size → length bytes ≤ most → flat (pieces most size bytes) ≡ bytes
flat-pieces zero size [] s le = refl
flat-pieces zero size (x ∷ xs) s le = absurd (omega arith)
flat-pieces (suc most) size [] s le = refl
flat-pieces (suc most) zero (x ∷ xs) s le = absurd (omega arith)
flat-pieces (suc most) (suc size) (x ∷ xs) s le =
    ap (λ l. take (suc size) (x ∷ xs) ++ l) (flat-pieces most (suc size) (drop (suc size) (x ∷ xs)) s (shorter size xs most (omega arith)))
    ∙ take-drop (suc size) (x ∷ xs)
  where
    shorter : (i : ℕ) (xs : List ℕ) (most : ℕ) → length xs ≤ most → length (drop i xs) ≤ most
    shorter zero [] most le = le
    shorter zero (y ∷ ys) most le = le
    shorter (suc i) [] most le = le
    shorter (suc i) (y ∷ ys) most le = shorter i ys most (omega arith)

-- the elements one after another are the list
map-shift : (f : ℕ → List ℕ) (from count : ℕ) → map f (numbers_where always (from + 1) count) ≡ map (λ i. f (i + 1)) (numbers_where always from count)
map-shift f from zero = refl
map-shift f from (suc count) = ap (λ l. f (from + 1) ∷ l) (map-shift f (from + 1) count)

map-same : {A : Type 0} (f g : ℕ → A) (xs : List ℕ) → ((i : ℕ) → f i ≡ g i) → map f xs ≡ map g xs
map-same f g [] h = refl
map-same f g (x ∷ xs) h = ap (λ y. y ∷ map f xs) (h x) ∙ ap (λ l. g x ∷ l) (map-same f g xs h)

elements : (xs : List (List ℕ)) → map (λ i. get_or xs i []) (numbers_where always 0 (length xs)) ≡ xs
elements [] = refl
elements (x ∷ xs) = ap (λ l. x ∷ l) (map-shift (λ i. get_or (x ∷ xs) i []) 0 (length xs) ∙ map-same (λ i. get_or (x ∷ xs) (i + 1) []) (λ i. get_or xs i [])
    (numbers_where always 0 (length xs)) (λ i. ap (λ j. get_or (x ∷ xs) j []) (add-one i)) ∙ elements xs)

-- ## The bytes of the slots of a message

-- the chunks of slots of message n carry its fragments
joined-slots : (w : LinkRecord) (n from count : ℕ) → joined_bytes (map (chunk_at w) (numbers_where (has (shape w) n) from count))
    ≡ flat (map (Messages.fragment_at w n) (map (λ p. (Messages.slot_at w p).fragment) (numbers_where (has (shape w) n) from count)))
joined-slots w n from zero = refl
joined-slots w n from (suc count) = grind (arith, nat_tests, of-has, (joined-slots w n (from + 1) count))

pub slots-joined : (w : LinkRecord) (n : ℕ) → Sender (shape w) → 0 < w.setup.size → sent (shape w) n ≡ parts (shape w) n
    → joined_bytes (map (chunk_at w) (Messages.slots_of w n)) ≡ (Messages.message_at w n).bytes
slots-joined w n s pos all =
    joined-slots w n 0 (length w.slots)
    ∙ ap (λ l. flat (map (Messages.fragment_at w n) l)) (numbered (λ p. (Messages.slot_at w p).fragment) (has (shape w) n) (length w.slots)
    (λ k l e. s.number k l ∙ ap (λ m. length (numbers_where (has (shape w) m) 0 k)) (of-has (shape w) n k e).0))
    ∙ ap (λ c. flat (map (Messages.fragment_at w n) (numbers_where always 0 c))) all ∙ ap flat (elements (Messages.fragments_of w n))
    ∙ flat-pieces (length (Messages.message_at w n).bytes) w.setup.size (Messages.message_at w n).bytes pos (omega arith)

-- what is handed out joins to what was written
handed-joined : (w : LinkRecord) (n : ℕ) → Sender (shape w) → 0 < w.setup.size → sent (shape w) n ≡ parts (shape w) n
    → ((Messages.message_at w n).ordered ≡ true → list_all (Receiver.arrived_at w) (Messages.slots_of w n) ≡ true)
    → joined_bytes (handed_out w n).chunks ≡ (Messages.message_at w n).bytes
handed-joined w n s pos all datagram_received = step (Messages.message_at w n).ordered refl
  where
    ands : (a b : Bool) → (a ≡ true → b ≡ true) → (a && b) ≡ a
    ands a b h1 = grind (arith, nat_tests)

    step : (b : Bool) → (Messages.message_at w n).ordered ≡ b → joined_bytes (handed_out w n).chunks ≡ (Messages.message_at w n).bytes
    step true o =
        ap (λ b. joined_bytes (if b then set_of w n else complete_set_of w n).chunks) o
        ∙ ap (λ l. joined_bytes (map (chunk_at w) l))
        (kept-same (λ p. has (shape w) n p && Receiver.arrived_at w p) (has (shape w) n) 0 (length w.slots) (λ k a b. ands (has (shape w) n k)
        (Receiver.arrived_at w k) (λ h. all-out (Receiver.arrived_at w) (has (shape w) n) k 0 (length w.slots) (datagram_received o) a b h)))
        ∙ slots-joined w n s pos all
    step false o = ap (λ b. joined_bytes (if b then set_of w n else complete_set_of w n).chunks) o ∙ slots-joined w n s pos all

-- ## What is read next

pub has-read : (setup : Setup) (h : History) → IsSetup setup → IsRun setup h → (s n : ℕ) → next_read (record_of setup h) s ≡ Some n
    → HasRead (view (record_of setup h)) s n
has-read setup h is run s n e = step (reads (view (record_of setup h)) s n e)
  where
    step : ReadsComplete (view (record_of setup h)) s n ⊎ ReadsRun (view (record_of setup h)) s n → HasRead (view (record_of setup h)) s n
    step (inl a) =
        let k = (known-run setup h is run).complete in
        let i = ready-first (view (record_of setup h)) (log_of setup h) s n k a in
        record { made = i.made; stream = i.stream; unread = i.unread; complete_now = ready-complete (view (record_of setup h)) (log_of setup h) s n k a }
    step (inr a) =
        let i = run-is (view (record_of setup h)) s n a in
        (grind (arith, nat_tests))

pub read-joined : (setup : Setup) (h : History) → IsSetup setup → IsRun setup h → (s n : ℕ) → next_read (record_of setup h) s ≡ Some n
    → joined_bytes (handed_out (record_of setup h) n).chunks ≡ (Messages.message_at (record_of setup h) n).bytes
read-joined setup h is run s n e =
    grind (arith, nat_tests, consistent-run, has-read, completeness_agrees, handed-joined, all-more, arrivals-run)

-- ## The law

abbrev Fits : LinkRecord → ℕ → List ℕ → Type 0
Fits w s xs = list_all (λ n. nat_lt n (length w.messages) && ((Messages.message_at w n).stream == s)) xs ≡ true

-- messages stay as they were written
shown-stays : (w v : LinkRecord) → Extends w v → (n : ℕ) → n < length w.messages → shown_of v n ≡ shown_of w n
shown-stays w v x n lt = ap (λ m. let y : Shown = (m.stream, m.ppi, m.bytes) in y) (x.grows.message n lt)

all-shown : (w v : LinkRecord) → Extends w v → (s : ℕ) (xs : List ℕ) → Fits w s xs → (map (shown_of w) xs ≡ map (shown_of v) xs) × Fits v s xs
all-shown w v x s [] f = (refl, refl)
all-shown w v x s (n ∷ xs) f =
    let a = both (nat_lt n (length w.messages) && ((Messages.message_at w n).stream == s))
    (list_all (λ n. nat_lt n (length w.messages) && ((Messages.message_at w n).stream == s)) xs) f in
    let b = both (nat_lt n (length w.messages)) ((Messages.message_at w n).stream == s) a.0 in
    let low = b.0 in
    let lt : n < length w.messages = grind (arith, nat_tests) in
    let lt' : n < length v.messages = omega (arith, lt, x.grows.count) in
    let ih = all-shown w v x s xs a.1 in (
      ap (λ y. y ∷ map (shown_of w) xs) (sym (shown-stays w v x n lt)) ∙ ap (λ l. shown_of v n ∷ l) ih.0,
      and (nat_lt n (length v.messages) && ((Messages.message_at v n).stream == s))
          (list_all (λ n. nat_lt n (length v.messages) && ((Messages.message_at v n).stream == s)) xs) (and (nat_lt n (length v.messages))
          ((Messages.message_at v n).stream == s) (grind (arith, nat_tests)) (ap (λ m. m.stream == s) (x.grows.message n lt) ∙ b.1)) ih.1,
    )

abbrev Says : Setup → History → LinkRecord → ℕ → Type 0
Says setup h w s = (reads_in h s ≡ map (shown_of w) (numbers_read setup h s)) × Fits w s (numbers_read setup h s)

stays : (w v : LinkRecord) → Extends w v → (setup : Setup) (h : History) (s : ℕ) → Says setup h w s → Says setup h v s
stays w v x setup h s a = let r = all-shown w v x s (numbers_read setup h s) a.1 in (a.0 ∙ r.0, r.1)

-- a read
says-read : (setup : Setup) (older : History) (t s : ℕ) (r : Reply) (v : LinkRecord) → IsSetup setup → IsRun setup older → Extends (record_of setup older) v
    → (o : Option ℕ) → next_read (record_of setup older) t ≡ o → r ≡ read_reply (record_of setup older) o → Says setup older (record_of setup older) s
    → Says setup ((E.Read t, r) ∷ older) v s
says-read setup older t s r v h1 h2 h3 o h4 h5 h6 =
    grind (arith, nat_tests, stays, has-read, read-joined, map-append, all-append)

pub reads_show_messages : OnEveryRun ReadsShowMessages
reads_show_messages setup [] is run s = (refl, refl)
reads_show_messages setup ((event, r) ∷ older) is run s =
    by event r run.1.0 (extends-after setup (record_of setup older) event run.0 (consistent-run setup older run.1.1))
    (reads_show_messages setup older is run.1.1 s)
  where
    by : (event : Event) (r : Reply) → r ≡ reply_to (record_of setup older) event → Extends (record_of setup older) (after (record_of setup older) event)
        → Says setup older (record_of setup older) s → Says setup ((event, r) ∷ older) (after (record_of setup older) event) s
    by (E.Read t) r f x a = says-read setup older t s r (after (record_of setup older) (E.Read t)) is run.1.1 x (next_read (record_of setup older) t) refl f a
    by event r f x says = stays (record_of setup older) (after (record_of setup older) event) x setup older s says
