use Rattle.sctp_model.proofs.Names.{◌≡◌, ℕ, ◌+◌, ◌<◌, ◌≤◌, Bool, true, false, List, [], ◌∷◌, ◌++◌, length, map, Some, refl, ap, sym, ◌∙◌, inl, inr, arith}
use Rattle.sctp_model.proofs.Names.{append-nil, append_assoc, ◌⊎◌, if◌then◌else◌, ◌==◌, ◌&&◌, ◌||◌, not, list_all, filter, cases_lt, nat_tests, kept-same}
use Rattle.sctp_model.proofs.Names.{not_both, both, and, by_same, or-none, Setup, Sack, LinkRecord, is_new, LogEntry, SlotReceived, SkipReceived, SackMade}
use Rattle.sctp_model.proofs.Names.{and-none, all-more}
use Rattle.sctp_util.proofs.Alls
use Rattle.sctp_model.specs.Messages
use Rattle.sctp_model.specs.Changes
use Rattle.sctp_model.proofs.sender.Shape.{shape, on}
use Rattle.sctp_model.proofs.sender.Sender.{Sender}
use Rattle.sctp_model.proofs.sender.SenderRun.{Consistent}
use Rattle.sctp_model.proofs.sender.Network.{NamesFit}
use Rattle.sctp_model.proofs.receiver.Events.{Moving}
use Rattle.sctp_model.proofs.receiver.Arrivals.{with_arrived}
use Rattle.sctp_model.proofs.receiver.View
use Rattle.sctp_model.proofs.receiver.View.{View, view, all_come, arrived_in, noted_in, skipped_in, read_in}
use Rattle.sctp_model.proofs.receiver.Indexes.{on-stream, on-ordered}
use Rattle.sctp_model.proofs.receiver.Names.{view-skip}
use Rattle.sctp_model.proofs.receiver.CompleteMessages
use Rattle.sctp_model.proofs.receiver.CompleteMessages.{complete_in, due, Hears}
use Rattle.sctp_model.proofs.receiver.Known
use Rattle.sctp_model.proofs.receiver.Known.{Known, Complete, ReadsComplete, ReadsRun, still-of, hears, noting, ready-first}
use Rattle.sctp_model.proofs.receiver.KnownRun.{new-not, hears-new}
use Rattle.sctp_model.proofs.receiver.Ordered.{Ordered, read-other, read-here, ordered-at}
use Rattle.sctp_model.proofs.receiver.Due.{IsDue}
use Rattle.sctp_model.proofs.receiver.Received.{Received, received-keeps}
use Rattle.sctp_model.proofs.receiver.SoFar
use Rattle.sctp_model.proofs.receiver.SoFar.{SoFar, was_read, read_on, complete_list, became, off, kept-one, kept-last, passing-append, so_far-as}

-- What each change makes of what was read so far.

-- ## A slot comes new

module _ (v : View) (log : List LogEntry) (p : ℕ) (a : Sender v.x) (h : Complete v log) (arrivals : Hears v log)
    (arrivals' : Hears (arrived_in v p) (SlotReceived p ∷ log)) (lt : p < v.x.slots) (terminal : (v.x.slot p).is_terminal_chunk ≡ false)
    (new : v.arrived p ≡ false) where
  abbrev m : ℕ
  m = (v.x.slot p).message

  abbrev v1 : View
  v1 = arrived_in v p

  complete-now : (n : ℕ) → n < v.x.count → (v.x.message n).ordered ≡ false → complete_in v.x (SlotReceived p ∷ log) n ≡ (complete_in v.x log n || due v1 n)
  complete-now n l o = CompleteMessages.one-more v1 (SlotReceived p) log n arrivals' (a.within n l) o

  -- what became complete
  became-is : (s n : ℕ) → n < v.x.count → (m ≡ n → ⊥) → became v.x (SlotReceived p) log s n ≡ false
  became-is s n l ne = search (arith, nat_tests, CompleteMessages.due-complete, Known.due-other, or-none, and-none, complete-now)

  became-here : (s : ℕ) → became v.x (SlotReceived p) log s m ≡ (off v.x s m && due v1 m)
  became-here s = search (arith, nat_tests, Known.not-complete, and-none, complete-now)

  list-is : (s : ℕ) → complete_list v.x (SlotReceived p ∷ log) s ≡ complete_list v.x log s ++ (if off v.x s m && due v1 m then m ∷ [] else [])
  list-is s = ap (λ l. complete_list v.x log s ++ l) (kept-one (became v.x (SlotReceived p) log s) m 0 v.x.count (omega arith) (let z = a.made p lt in
      omega (arith, z)) (λ k x y ne. became-is s k (omega arith) (λ e. ne (sym e))) ∙ ap (λ b. if b then m ∷ [] else []) (became-here s))

  queue-is : (s : ℕ) → (noting v1 m).complete s ≡ v.complete s ++ (if off v.x s m && due v1 m then m ∷ [] else [])
  queue-is s = by (v.x.message m).ordered (due v1 m) ((v.x.message m).stream == s) refl
    where
      by : (o d b : Bool) → ((v.x.message m).stream == s) ≡ b
          → (if not o && d then noted_in v1 (v.x.message m).stream m else v1).complete s ≡ v.complete s ++ (if (b && not o) && d then m ∷ [] else [])
      by o d b h1 = grind (arith, nat_tests, append-nil)

  pub so_far-new : (s : ℕ) (list : List ℕ) → SoFar s list v log → SoFar s list (noting v1 m) (SlotReceived p ∷ log)
  so_far-new s list f = by (not (v.x.message m).ordered && due v1 m) (queue-is s)
    where
      by : (b : Bool) → (if b then noted_in v1 (v.x.message m).stream m else v1).complete s ≡ v.complete s ++ (if off v.x s m && due v1 m then m ∷ [] else [])
          → SoFar s list (if b then noted_in v1 (v.x.message m).stream m else v1) (SlotReceived p ∷ log)
      by true e = grind (arith, nat_tests, list-is, append_assoc)
      by false e = grind (arith, nat_tests, list-is, append_assoc)

-- ## Other things come

so_far-again : (v : View) (coming : LogEntry) (log : List LogEntry) → Complete v log → Complete v (coming ∷ log) → (s : ℕ) (list : List ℕ) → SoFar s list v log
    → SoFar s list v (coming ∷ log)
so_far-again v coming log h h' s list f = grind (arith, nat_tests, SoFar.complete_list-same)

so_far-skip : (v : View) (upto : ℕ) (names : List ℕ) (log : List LogEntry) → Complete v log → Complete (skipped_in v upto names) (SkipReceived upto names ∷ log)
    → (s : ℕ) (list : List ℕ) → SoFar s list v log → SoFar s list (skipped_in v upto names) (SkipReceived upto names ∷ log)
so_far-skip v upto names log h h' s list f = grind (arith, nat_tests, SoFar.complete_list-same)

-- ## A step that is no read

pub record Answered (s : ℕ) (list : List ℕ) (w : LinkRecord) (log : List LogEntry) : Type 0 where
  pub received : Received w log
  pub so_far : SoFar s list (view w) log

so_far-slot : (setup : Setup) (w : LinkRecord) (log : List LogEntry) (p s : ℕ) (list : List ℕ) → Consistent setup w → p < length w.slots
    → (Messages.slot_at w p).is_terminal_chunk ≡ false → Known w log → Known (Changes.receive_slot w p) (SlotReceived p ∷ log) → SoFar s list (view w) log
    → SoFar s list (view (Changes.receive_slot w p)) (SlotReceived p ∷ log)
so_far-slot setup w log p s list g lt terminal k k' f = by (is_new w p) refl
  where
    by : (b : Bool) → is_new w p ≡ b → SoFar s list (view (Changes.receive_slot w p)) (SlotReceived p ∷ log)
    by true e = so_far-as s list (noting (arrived_in (view w) p) (Messages.message_of w p)) (view (Changes.receive_slot w p)) (SlotReceived p ∷ log)
        (Known.view-received setup w p g lt e)
        (so_far-new (view w) log p g.sender k.complete (hears w log k.arrivals) (hears-new w log p lt e k.arrivals) lt terminal (new-not w p e) s list f)
    by false e =
        let same : view (Changes.receive_slot w p) ≡ view w = ap (λ b.
        view (if b then Changes.note_completion (with_arrived w p) (Messages.message_of w p) else record w { duplicates = w.duplicates ++ p ∷ [] })) e in
        so_far-as s list (view w) (view (Changes.receive_slot w p)) (SlotReceived p ∷ log) same
        (so_far-again (view w) (SlotReceived p) log k.complete
        (Known.complete-as (view (Changes.receive_slot w p)) (view w) (SlotReceived p ∷ log) (sym same) k'.complete) s list f)

so_far-skipped : (setup : Setup) (w : LinkRecord) (log : List LogEntry) (upto : ℕ) (names : List ℕ) (s : ℕ) (list : List ℕ) → Consistent setup w
    → NamesFit (shape w) upto names → Known w log → Known (Changes.receive_skip w upto names) (SkipReceived upto names ∷ log) → SoFar s list (view w) log
    → SoFar s list (view (Changes.receive_skip w upto names)) (SkipReceived upto names ∷ log)
so_far-skipped setup w log upto names s list g fit k k' f = by (Changes.skip_counts w upto) refl
  where
    by : (b : Bool) → Changes.skip_counts w upto ≡ b → SoFar s list (view (Changes.receive_skip w upto names)) (SkipReceived upto names ∷ log)
    by true e =
        let same : view (Changes.receive_skip w upto names) ≡ skipped_in (view w) upto names =
        ap (λ b. view (if b then record w { skipped = upto + 1; streams = map (Changes.named_by w names) w.streams } else w)) e
        ∙ view-skip setup w upto names g fit in
        so_far-as s list (skipped_in (view w) upto names) (view (Changes.receive_skip w upto names)) (SkipReceived upto names ∷ log) same
        (so_far-skip (view w) upto names log k.complete (Known.complete-as (view (Changes.receive_skip w upto names)) (skipped_in (view w) upto names)
        (SkipReceived upto names ∷ log) (sym same) k'.complete) s list f)
    by false e =
        let same : view (Changes.receive_skip w upto names) ≡ view w = grind (arith, nat_tests) in
        so_far-as s list (view w) (view (Changes.receive_skip w upto names)) (SkipReceived upto names ∷ log) same
        (so_far-again (view w) (SkipReceived upto names) log k.complete
        (Known.complete-as (view (Changes.receive_skip w upto names)) (view w) (SkipReceived upto names ∷ log) (sym same) k'.complete) s list f)

pub answered-moving : (setup : Setup) (s : ℕ) (list : List ℕ) → Moving setup (Answered s list)
answered-moving setup s list =
    let k = received-keeps setup in
    record {
      quiet = λ w v log g a q b. record {
        received = k.quiet w v log g a q b.received;
        so_far = SoFar.so_far-still s list (view w) (view v) log (still-of setup w v g a q) b.received.known.complete b.received.ordered b.so_far;
      };
      opened = λ w log t g o b. record {
        received = k.opened w log t g o b.received;
        so_far = so_far-as s list (view w) (view (Changes.after_open w t)) log (View.view-opened w t o) b.so_far;
      };
      moded = λ w log t u r n g b. record {
        received = k.moded w log t u r n g b.received;
        so_far = so_far-as s list (view w) (view (Changes.after_mode w t u r n)) log (View.view-moded w t u r n) b.so_far;
      };
      slot = λ w log p g lt m b. let r = k.slot w log p g lt m b.received in
          record { received = r; so_far = so_far-slot setup w log p s list g lt m b.received.known r.known b.so_far };
      skip = λ w log upto names g lt f b. let r = k.skip w log upto names g lt f b.received in
          record { received = r; so_far = so_far-skipped setup w log upto names s list g f b.received.known r.known b.so_far };
      reported = λ w log credit g b. let r = k.reported w log credit g b.received in record {
        received = r;
        so_far = so_far-again (view w) SackMade log b.received.known.complete ((grind (arith, nat_tests))) s list b.so_far;
      };
      taken = λ w log r g b. record {
        received = k.taken w log r g b.received;
        so_far = so_far-as s list (view w) (view (Changes.after_acked w (Some (Sack r)))) log (View.view-taken w r) b.so_far;
      };
    }

-- ## A read

all-one : (t : ℕ → Bool) (xs : List ℕ) (n : ℕ) → list_all t xs ≡ true → t n ≡ true → list_all t (xs ++ n ∷ []) ≡ true
all-one t xs n a e = Alls.all-append t xs (n ∷ []) a (and (t n) true e refl)

-- on another stream
pub so_far-elsewhere : (v : View) (log : List LogEntry) (s t n : ℕ) (list : List ℕ) → (v.x.message n).stream ≡ t → (t == s) ≡ false → SoFar s list v log
    → SoFar s list (read_in v t n) log
so_far-elsewhere v log s t n list on-it ne f =
    grind (arith, nat_tests)

-- what is common to both reads
record IsRead (v : View) (s n : ℕ) : Type 0 where
  made : n < v.x.count
  stream : (v.x.message n).stream ≡ s
  unread : v.read n ≡ false

read-all : (v : View) (log : List LogEntry) (s n : ℕ) (list : List ℕ) → IsRead v s n → SoFar s list v log
    → list_all (was_read (read_in v s n) s) (list ++ n ∷ []) ≡ true
read-all v log s n list r f = grind (arith, nat_tests, all-one, all-more)

pub so_far-unordered : (v : View) (log : List LogEntry) (s n : ℕ) (list : List ℕ) → Complete v log → ReadsComplete v s n → SoFar s list v log
    → SoFar s (list ++ n ∷ []) (read_in v s n) log
so_far-unordered v log s n list h r f =
    let i = ready-first v log s n h r in
    let q : IsRead v s n = record { made = i.made; stream = i.stream; unread = i.unread } in
    record {
      all = read-all v log s n list q f;
      ordered = passing-append (λ k. (v.x.message k).ordered) list (n ∷ [])
          ∙ ap (λ b. filter (λ k. (v.x.message k).ordered) list ++ (if b then n ∷ [] else [])) i.kind ∙ append-nil (filter (λ k. (v.x.message k).ordered) list)
          ∙ f.ordered ∙ sym (kept-same (read_on (read_in v s n) s) (read_on v s) 0 v.x.count (λ k a b.
          by_same {P = read_on (read_in v s n) s k ≡ read_on v s k} k n (λ e. gone i.kind k e) (λ z y. ap (λ c. on v.x s k && c) (read-other v s n k z))));
      unordered = grind (arith, nat_tests, append_assoc, passing-append);
    }
  where
    gone : (v.x.message n).ordered ≡ false → (k : ℕ) → k ≡ n → read_on (read_in v s n) s k ≡ read_on v s k
    gone o k e = grind (arith, nat_tests)

pub so_far-ordered : (v : View) (log : List LogEntry) (s n : ℕ) (list : List ℕ) → Ordered v → ReadsRun v s n → IsDue v s n → SoFar s list v log
    → SoFar s (list ++ n ∷ []) (read_in v s n) log
so_far-ordered v log s n list o r d f =
    let q : IsRead v s n = record { made = d.made; stream = on-stream v.x s n d.on_it; unread = d.unread } in
    let kind = on-ordered v.x s n d.on_it in
    record {
      all = read-all v log s n list q f;
      ordered = passing-append (λ k. (v.x.message k).ordered) list (n ∷ [])
          ∙ ap (λ b. filter (λ k. (v.x.message k).ordered) list ++ (if b then n ∷ [] else [])) kind ∙ ap (λ l. l ++ n ∷ []) f.ordered
          ∙ sym (kept-last (read_on v s) (read_on (read_in v s n) s) n v.x.count d.made (ap (λ b. on v.x s n && b) d.unread
          ∙ and-none (on v.x s n)) (and (on v.x s n) ((read_in v s n).read n) d.on_it (read-here v s n))
          (λ k lt z. ap (λ c. on v.x s k && c) (read-other v s n k z))
          (λ k lt e. let c = both (on v.x s k) (v.read k) e in below k lt c.0 c.1 (cases_lt k n) (cases_lt n k)));
      unordered = grind (arith, nat_tests, append-nil, passing-append);
    }
  where
    all-of : all_come v n ≡ true
    all-of = sym (ordered-at v n (on-ordered v.x s n d.on_it)) ∙ d.complete_now

    -- what was read on the stream stands before it
    below : (k : ℕ) → k < v.x.count → on v.x s k ≡ true → v.read k ≡ true → (k < n) ⊎ (n ≤ k) → (n < k) ⊎ (k ≤ n) → k < n
    below k lt h e (inl l) t = l
    below k lt h e (inr g) (inl l) = absurd (not_both (sym d.unread ∙ o.downward s n k l lt d.on_it h e all-of))
    below k lt h e (inr g) (inr j) = let z : k ≡ n = omega arith in absurd (not_both (sym d.unread ∙ ap v.read (sym z) ∙ e))
