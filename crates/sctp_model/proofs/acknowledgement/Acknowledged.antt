use Rattle.sctp_model.proofs.Names.{◌≡◌, ℕ, zero, suc, ◌+◌, ◌-◌, ◌<◌, ◌≤◌, Bool, true, false, List, [], ◌∷◌, ◌++◌, length, Option, Some, None, refl, ap, sym}
use Rattle.sctp_model.proofs.Names.{◌∙◌, inl, inr, arith, take, ◌⊎◌, if◌then◌else◌, ◌==◌, ◌&&◌, ◌||◌, nat_lt, nat_le, slice_get, list_any, subst, nat_tests}
use Rattle.sctp_model.proofs.Names.{numbers_where, runs_of, put_before_runs, change_at, kept-same, both, changed-keeps, length-changed, Event, Reply, Setup}
use Rattle.sctp_model.proofs.Names.{Datagram, Data, Forward, Sack, LinkRecord, arrived_at, cumulative, is_new, report_of, reports, distances, gap_blocks}
use Rattle.sctp_model.proofs.Names.{LogEntry, SlotReceived, is_seen, is_skipped, log_of, Made, is_acknowledged_in, taken_in, reported_by, History, record_of}
use Rattle.sctp_model.proofs.Names.{IsRun, after, IsSetup, OnEveryRun, AcknowledgedArrived, AcknowledgedIsReported, SacksSay, blocks_by, or-split}
use Rattle.sctp_model.proofs.Names.{length-numbered, numbered-at, get-last, or-right}
use Rattle.sctp_model.specs.declared.event.Event.TheVariants as E
use Rattle.sctp_model.specs.Messages
use Rattle.sctp_model.specs.Changes
use Rattle.sctp_model.specs.Log
use Rattle.sctp_model.proofs.receiver.Arrivals.{Arrivals, arrivals-run, seen_by, seen-below, arrived-beyond, cumulative_is_seen}
use Rattle.sctp_model.proofs.sender.SenderRun.{consistent-run, fold-keeps}
use Rattle.sctp_model.proofs.sender.Moves
use Rattle.sctp_model.proofs.sender.Network

-- Only what arrived or was skipped is acknowledged.

-- ## A SACK reports what was seen

any-take : {A : Type 0} (t : A → Bool) (n : ℕ) (xs : List A) → list_any t (take n xs) ≡ true → list_any t xs ≡ true
any-take t zero [] e = cc
any-take t zero (x ∷ xs) e = cc
any-take t (suc n) [] e = cc
any-take t (suc n) (x ∷ xs) e = step (t x) e (λ h. any-take t n xs h)
  where
    step : (b : Bool) → (b || list_any t (take n xs)) ≡ true → (list_any t (take n xs) ≡ true → list_any t xs ≡ true) → (b || list_any t xs) ≡ true
    step b h1 h2 = grind (arith, nat_tests)

abbrev covers : ℕ → ℕ → ℕ × ℕ → Bool
covers c p b = nat_le (c + b.0) (p + 1) && nat_le (p + 1) (c + b.1)

abbrev Hit : ℕ → ℕ → List ℕ → Type 0
Hit c p ds = (d : ℕ) × (c + d ≡ p + 1) × (list_any (λ k. k == d) ds ≡ true)

-- what a run covers is one of the numbers
in-runs : (c p : ℕ) (ds : List ℕ) → list_any (covers c p) (runs_of ds) ≡ true → Hit c p ds
in-runs c p [] e = cc
in-runs c p (d ∷ ds) e = by_rest (runs_of ds) refl e (λ h. in-runs c p ds h)
  where
    here : c + d ≡ p + 1 → Hit c p (d ∷ ds)
    here e = (d, e, (let z : (d == d) ≡ true = grind (arith, nat_tests) in rw z refl))

    later : Hit c p ds → Hit c p (d ∷ ds)
    later h = (h.0, h.1, (elim (d == h.0) as (λ a. (a || (list_any (λ k. k == h.0) ds)) ≡ true) [ true ↦ refl | false ↦ h.2 ]))

    exact : covers c p (d, d) ≡ true → Hit c p (d ∷ ds)
    exact e = let a = both (nat_le (c + d) (p + 1)) (nat_le (p + 1) (c + d)) e in let x = a.0 in let y = a.1 in
        let l : c + d ≤ p + 1 = grind (arith, nat_tests) in let g : p + 1 ≤ c + d = grind (arith, nat_tests) in here (omega arith)

    wider : (b : ℕ × ℕ) → b.0 ≡ d + 1 → covers c p (d, b.1) ≡ true → (covers c p b ≡ true → Hit c p ds) → Hit c p (d ∷ ds)
    wider b s e ih = grind (arith, nat_tests)

    by_rest : (bs : List (ℕ × ℕ)) → runs_of ds ≡ bs → list_any (covers c p) (put_before_runs d bs) ≡ true → (list_any (covers c p) bs ≡ true → Hit c p ds)
        → Hit c p (d ∷ ds)
    by_rest [] f e ih = elim (or-split (covers c p (d, d)) false e) [ inl h ↦ exact h | inr h ↦ cc ]
    by_rest (b ∷ bs) f e ih = step (b.0 == d + 1) refl e
      where
        old : covers c p b ≡ true → Hit c p ds
        old h = ih (ap (λ a. a || list_any (covers c p) bs) h)

        rest : list_any (covers c p) bs ≡ true → Hit c p ds
        rest h = ih ((elim (covers c p b) as (λ x. (x || (list_any (covers c p) bs)) ≡ true) [ true ↦ refl | false ↦ h ]))

        joint : b.0 ≡ d + 1 → (covers c p (d, b.1) ≡ true) ⊎ (list_any (covers c p) bs ≡ true) → Hit c p (d ∷ ds)
        joint s (inl h) = wider b s h old
        joint s (inr h) = later (rest h)

        apart : (covers c p (d, d) ≡ true) ⊎ ((covers c p b || list_any (covers c p) bs) ≡ true) → Hit c p (d ∷ ds)
        apart (inl h) = exact h
        apart (inr h) = later (ih h)

        step : (t : Bool) → (b.0 == d + 1) ≡ t → list_any (covers c p) (if t then (d, b.1) ∷ bs else (d, d) ∷ b ∷ bs) ≡ true → Hit c p (d ∷ ds)
        step true s e = joint (grind (arith, nat_tests)) (or-split (covers c p (d, b.1)) (list_any (covers c p) bs) e)
        step false s e = apart (or-split (covers c p (d, d)) (covers c p b || list_any (covers c p) bs) e)

any-kept : (q : ℕ → Bool) (d from count : ℕ) → list_any (λ k. k == d) (numbers_where q from count) ≡ true → q d ≡ true
any-kept q d from zero e = cc
any-kept q d from (suc count) e = step (q from) refl e (λ h. any-kept q d (from + 1) count h)
  where
    step : (b : Bool) → q from ≡ b → list_any (λ k. k == d) (if b then from ∷ numbers_where q (from + 1) count else numbers_where q (from + 1) count) ≡ true
        → (list_any (λ k. k == d) (numbers_where q (from + 1) count) ≡ true → q d ≡ true) → q d ≡ true
    step b h1 h2 h3 = grind (arith, nat_tests)

-- what the next SACK reports was seen
report-seen : (w : LinkRecord) (credit p : ℕ) → reports (report_of w credit) p ≡ true → seen_by w p ≡ true
report-seen w credit p e = step (or-split (nat_lt p (cumulative w)) (list_any (covers (cumulative w) p) (gap_blocks w)) e)
  where
    step : (nat_lt p (cumulative w) ≡ true) ⊎ (list_any (covers (cumulative w) p) (gap_blocks w) ≡ true) → seen_by w p ≡ true
    step (inl h) = seen-below w p (grind (arith, nat_tests))
    step (inr h) =
        let r = in-runs (cumulative w) p (distances w) (any-take (covers (cumulative w) p) 16379 (runs_of (distances w)) h) in
        let a : arrived_at w (cumulative w + r.0 - 1) ≡ true = grind (arith, nat_tests, any-kept) in
        let same : cumulative w + r.0 - 1 ≡ p = omega (arith, r.1) in
        or-right (nat_lt p w.skipped) (arrived_at w p) (ap (arrived_at w) (sym same) ∙ a)

-- ## What was seen stays seen

seen-slots : (ps : List ℕ) (log : List LogEntry) (p : ℕ) → is_seen log p ≡ true → is_seen (Log.slots_come ps log) p ≡ true
seen-slots [] log p e = e
seen-slots (q ∷ ps) log p e = seen-slots ps (SlotReceived q ∷ log) p ((elim (q == p) as (λ x. (x || (is_seen log p)) ≡ true) [ true ↦ refl | false ↦ e ]))

seen-received : (o : Option Made) (log : List LogEntry) (p : ℕ) → is_seen log p ≡ true → is_seen (Log.datagram_comes o log) p ≡ true
seen-received o log p h1 = grind (arith, nat_tests, seen-slots)

pub seen-stays : (setup : Setup) (older : History) (event : Event) (r : Reply) (p : ℕ) → is_seen (log_of setup older) p ≡ true
    → is_seen (log_of setup ((event, r) ∷ older)) p ≡ true
seen-stays setup older event r p h1 = grind (arith, nat_tests, seen-received)

-- ## The invariant

abbrev pub SackFits : List LogEntry → Datagram → Type 0
SackFits log (Sack r) = (p : ℕ) → reports r p ≡ true → is_seen log p ≡ true
SackFits log d = Unit {0}

abbrev pub SacksFit : List LogEntry → List Datagram → Type 0
SacksFit log [] = Unit {0}
SacksFit log (d ∷ ds) = SackFits log d × SacksFit log ds

sacks-more : (old new : List LogEntry) → ((p : ℕ) → is_seen old p ≡ true → is_seen new p ≡ true) → (ds : List Datagram) → SacksFit old ds → SacksFit new ds
sacks-more old new more [] f = tt
sacks-more old new more (d ∷ ds) f = grind (arith, nat_tests, (sacks-more old new more ds f.1))

sacks-append : (log : List LogEntry) (ds es : List Datagram) → SacksFit log ds → SacksFit log es → SacksFit log (ds ++ es)
sacks-append log [] es f g = g
sacks-append log (d ∷ ds) es f g = (f.0, sacks-append log ds es f.1 g)

pub sack-at : (log : List LogEntry) (ds : List Datagram) (k : ℕ) (d : Datagram) → SacksFit log ds → slice_get ds k ≡ Some d → SackFits log d
sack-at log [] k d f e = cc
sack-at log (c ∷ ds) zero d f e = let z : c ≡ d = cc in subst (SackFits log) z f.0
sack-at log (c ∷ ds) (suc k) d f e = sack-at log ds k d f.1 e

sacks-sent : (log : List LogEntry) (w : LinkRecord) (now : ℕ) (o : Option ℕ) → SacksFit log w.network
    → SacksFit log (Changes.send_from (Changes.after_start w now) o).network
sacks-sent log w now None f = f
sacks-sent log w now (Some n) f = search (arith, nat_tests, sacks-append, Network.same-network)

sacks-after : (setup : Setup) (older : History) (e : Event) (log : List LogEntry) → ((p : ℕ) → seen_by (record_of setup older) p ≡ true → is_seen log p ≡ true)
    → SacksFit log (record_of setup older).network → SacksFit log (after (record_of setup older) e).network
sacks-after setup older (E.Send now) log h f = sacks-sent log (record_of setup older) now (Messages.front (record_of setup older)) f
sacks-after setup older (E.Resend tsn) log h f = grind (arith, nat_tests, sacks-append)
sacks-after setup older (E.Skip upto names) log h f = grind (arith, nat_tests, sacks-append)
sacks-after setup older (E.Ack credit) log h f = sacks-append log (record_of setup older).network (Sack (report_of (record_of setup older) credit) ∷ []) f
    (λ p e. h p (report-seen (record_of setup older) credit p e), tt)
sacks-after setup older event log h f = subst (SacksFit log) (sym (Network.network-after (record_of setup older) event refl)) f

pub sacks-run : (setup : Setup) (h : History) → IsSetup setup → IsRun setup h → SacksFit (log_of setup h) (record_of setup h).network
sacks-run setup [] is run = tt
sacks-run setup (entry ∷ older) is run =
    let g = arrivals-run setup older is run.1.1 in
    sacks-after setup older entry.0 (log_of setup (entry ∷ older)) (λ p e. seen-stays setup older entry.0 entry.1 p (g.seen p ∙ e))
    (sacks-more (log_of setup older) (log_of setup (entry ∷ older)) (λ p e. seen-stays setup older entry.0 entry.1 p e) (record_of setup older).network
    (sacks-run setup older is run.1.1))

-- ## What is acknowledged was seen

seen-acknowledged : (setup : Setup) (h : History) (p : ℕ) → IsSetup setup → IsRun setup h → is_acknowledged_in setup h p ≡ true
    → is_seen (log_of setup h) p ≡ true
seen-acknowledged setup [] p is run e = cc
seen-acknowledged setup ((E.Acked k, r) ∷ older) p is run e = step (slice_get (record_of setup older).network k) refl (or-split
    (is_acknowledged_in setup older p) (reported_by (slice_get (record_of setup older).network k) p) e) (λ h. seen-acknowledged setup older p is run.1.1 h)
  where
    new : (o : Option Datagram) → slice_get (record_of setup older).network k ≡ o → reported_by o p ≡ true → is_seen (log_of setup older) p ≡ true
    new None f e = cc
    new (Some (Data ps)) f e = cc
    new (Some (Forward upto names)) f e = cc
    new (Some (Sack r)) f e = sack-at (log_of setup older) (record_of setup older).network k (Sack r) (sacks-run setup older is run.1.1) f p e

    step : (o : Option Datagram) → slice_get (record_of setup older).network k ≡ o
        → (is_acknowledged_in setup older p ≡ true) ⊎ (reported_by (slice_get (record_of setup older).network k) p ≡ true)
        → (is_acknowledged_in setup older p ≡ true → is_seen (log_of setup older) p ≡ true) → is_seen (log_of setup older) p ≡ true
    step o f (inl h) ih = ih h
    step o f (inr h) ih = new (slice_get (record_of setup older).network k) refl h
seen-acknowledged setup ((E.Arrive k, r) ∷ older) p is run e = seen-stays setup older (E.Arrive k) r p (seen-acknowledged setup older p is run.1.1 e)
seen-acknowledged setup ((event, r) ∷ older) p is run e = seen-acknowledged setup older p is run.1.1 e

-- what was seen was made
pub seen-made : (w : LinkRecord) (log : List LogEntry) (p : ℕ) → Arrivals w log → is_seen log p ≡ true → p < length w.slots
seen-made w log p g e = grind (arith, nat_tests, arrived-beyond)

pub acknowledged_arrived : OnEveryRun AcknowledgedArrived
acknowledged_arrived setup h is run p e =
    let g = arrivals-run setup h is run in
    let s = seen-acknowledged setup h p is run e in (
      seen-made (record_of setup h) (log_of setup h) p g s,
      ap (λ b. b || is_skipped (log_of setup h) p) (sym (g.arrived p)) ∙ ap (λ b. arrived_at (record_of setup h) p || b) (g.covered p)
          ∙ swapped (arrived_at (record_of setup h) p) (nat_lt p (record_of setup h).skipped) (sym (g.seen p) ∙ s),
    )
  where
    swapped : (a b : Bool) → (b || a) ≡ true → (a || b) ≡ true
    swapped a b h1 = grind (arith, nat_tests)

-- ## What is acknowledged is what the SACKs taken report

record Acks (setup : Setup) (h : History) (w : LinkRecord) : Type 0 where
  slots : (p : ℕ) → p < length w.slots → (Messages.slot_at w p).acknowledged ≡ is_acknowledged_in setup h p
  taken : w.taken ≡ taken_in setup h

acks-quiet : (setup : Setup) (h : History) (w v : LinkRecord) → Moves.Quiet w v → ((p : ℕ) → is_acknowledged_in setup h p ≡ true → p < length w.slots)
    → Acks setup h w → Acks setup h v
acks-quiet setup h w v q made a = grind (arith, nat_tests)

-- the receiver's events acknowledge nothing
pub record AsAcknowledged (w v : LinkRecord) : Type 0 where
  pub slots : (p : ℕ) → (Messages.slot_at v p).acknowledged ≡ (Messages.slot_at w p).acknowledged
  pub count : length v.slots ≡ length w.slots
  pub taken : v.taken ≡ w.taken

acks-same : (setup : Setup) (h : History) (w v : LinkRecord) → AsAcknowledged w v → Acks setup h w → Acks setup h v
acks-same setup h w v s a = record { slots = λ p lt. s.slots p ∙ a.slots p (omega (arith, s.count)); taken = s.taken ∙ a.taken }

as-received : (w : LinkRecord) (p : ℕ) → AsAcknowledged w (Changes.receive_slot w p)
as-received w p = step (is_new w p)
  where
    noted : (v : LinkRecord) (n : ℕ) → AsAcknowledged w v → AsAcknowledged w (Changes.note_completion v n)
    noted v n a = grind (arith, nat_tests)

    step : (b : Bool)
        → AsAcknowledged w (if b then Changes.note_completion (record w { slots = change_at Changes.mark_arrived p w.slots }) (Messages.message_of w p)
        else record w { duplicates = w.duplicates ++ p ∷ [] })
    step true = noted (record w { slots = change_at Changes.mark_arrived p w.slots }) (Messages.message_of w p) (record {
      slots = λ k. changed-keeps Changes.mark_arrived (λ x. x.acknowledged) (λ x. refl) p k w.slots Messages.no_slot;
      count = length-changed Changes.mark_arrived p w.slots;
      taken = refl;
    })
    step false = record { slots = λ k. refl; count = refl; taken = refl }

as-then : (w v u : LinkRecord) → AsAcknowledged w v → AsAcknowledged v u → AsAcknowledged w u
as-then w v u f g = record { slots = λ p. g.slots p ∙ f.slots p; count = g.count ∙ f.count; taken = g.taken ∙ f.taken }

pub as-datagram : (w : LinkRecord) (o : Option Datagram) → AsAcknowledged w (Changes.after_arrive w o)
as-datagram w None = record { slots = λ k. refl; count = refl; taken = refl }
as-datagram w (Some (Data ps)) = fold-keeps (AsAcknowledged w) Changes.receive_slot (λ v p a. as-then w v (Changes.receive_slot v p) a (as-received v p)) ps w
    (record { slots = λ k. refl; count = refl; taken = refl })
as-datagram w (Some (Forward upto names)) = grind (arith, nat_tests)
as-datagram w (Some (Sack r)) = record { slots = λ k. refl; count = refl; taken = refl }

pub as-read : (w : LinkRecord) (s : ℕ) (o : Option ℕ) → AsAcknowledged w (Changes.read_of w s o)
as-read w s o = grind (arith, nat_tests)

acks-taken : (setup : Setup) (older : History) (w : LinkRecord) (k : ℕ) (r : Reply) → w ≡ record_of setup older → Acks setup older w
    → Acks setup ((E.Acked k, r) ∷ older) (Changes.after_acked w (slice_get w.network k))
acks-taken setup older w k r same a = grind (arith, nat_tests, length-numbered, numbered-at)

acks-step : (setup : Setup) (older : History) (e : Event) (r : Reply) → IsSetup setup → IsRun setup older → Acks setup older (record_of setup older)
    → Acks setup ((e, r) ∷ older) (after (record_of setup older) e)
acks-step setup older e r is run a = by_event e
  where
    made : (p : ℕ) → is_acknowledged_in setup older p ≡ true → p < length (record_of setup older).slots
    made p h = seen-made (record_of setup older) (log_of setup older) p (arrivals-run setup older is run) (seen-acknowledged setup older p is run h)

    quiet : (v : LinkRecord) → Moves.Quiet (record_of setup older) v → Acks setup older v
    quiet v q = acks-quiet setup older (record_of setup older) v q made a

    same : (v : LinkRecord) → AsAcknowledged (record_of setup older) v → Acks setup older v
    same v s = acks-same setup older (record_of setup older) v s a

    by_event : (e : Event) → Acks setup ((e, r) ∷ older) (after (record_of setup older) e)
    by_event (E.Arrive k) = let b = same (after (record_of setup older) (E.Arrive k))
        (as-datagram (record_of setup older) (slice_get (record_of setup older).network k)) in record { slots = b.slots; taken = b.taken }
    by_event (E.Acked k) = acks-taken setup older (record_of setup older) k r refl a
    by_event (E.Read s) = grind (arith, nat_tests)
    by_event (E.Open s) = record { slots = a.slots; taken = a.taken }
    by_event (E.Mode s u v x) = record { slots = a.slots; taken = a.taken }
    by_event (E.Ack credit) = record { slots = a.slots; taken = a.taken }
    by_event event =
        let b = quiet (after (record_of setup older) event) (Moves.quiet-after setup (record_of setup older) event refl (consistent-run setup older run)) in
        record { slots = b.slots; taken = b.taken }

acks-run : (setup : Setup) (h : History) → IsSetup setup → IsRun setup h → Acks setup h (record_of setup h)
acks-run setup [] is run = record { slots = λ p lt. absurd (omega arith); taken = refl }
acks-run setup (entry ∷ older) is run = acks-step setup older entry.0 entry.1 is run.1.1 (acks-run setup older is run.1.1)

pub acknowledged_is_reported : OnEveryRun AcknowledgedIsReported
acknowledged_is_reported setup h is run = let a = acks-run setup h is run in (a.slots, a.taken)

-- ## What a SACK says

-- the gap blocks are those that the order of arrivals gives
pub blocks-are : (setup : Setup) (h : History) → IsSetup setup → IsRun setup h → gap_blocks (record_of setup h) ≡ blocks_by (record_of setup h) (log_of setup h)
blocks-are setup h is run = grind (arith, nat_tests, arrivals-run, cumulative_is_seen, kept-same)

pub sacks_say : OnEveryRun SacksSay
sacks_say setup h is run credit = grind (arith, nat_tests, arrivals-run, cumulative_is_seen, get-last, blocks-are)
