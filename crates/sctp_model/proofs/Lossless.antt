-- Histories in which nothing is lost.
use Rattle.sctp_model.proofs.Names.{◌≡◌, ℕ, zero, suc, ◌<◌, Bool, true, false, List, [], ◌∷◌, ◌++◌, length, Option, Some, None, refl, ap, sym, ◌∙◌, arith, ◌||◌}
use Rattle.sctp_model.proofs.Names.{slice_get, slice_index_or, list_any, list_all, subst, not_both, both, Event, Reply, Setup, LinkRecord, LogEntry}
use Rattle.sctp_model.proofs.Names.{SlotReceived, SkipReceived, SackMade, Made, MadeData, MadeForward, MadeSack, made_in, made_by, log_of, named_by, is_skipped}
use Rattle.sctp_model.proofs.Names.{History, record_of, after, loses_nothing, by_last, nat_tests}
use Rattle.sctp_model.specs.declared.event.Event.TheVariants as E
use Rattle.sctp_model.specs.Messages
use Rattle.sctp_model.specs.Changes
use Rattle.sctp_model.specs.Log
use Rattle.sctp_model.proofs.sender.Shape.{Shape, shape, message_part, written}
use Rattle.sctp_model.proofs.sender.Shapes
use Rattle.sctp_model.proofs.sender.SenderEnds.{message-old, message-new}
use Rattle.sctp_model.proofs.sender.SenderRun.{written_as}
use Rattle.sctp_model.proofs.sender.Network
use Rattle.sctp_model.proofs.acknowledgement.BytesAnswered.{messages-sent}

-- ## No message expires or is abandoned

abbrev pub AllAlive : Shape → Type 0
AllAlive x = (n : ℕ) → n < x.count → ((x.message n).expired ≡ false) × ((x.message n).abandoned ≡ false)

alive-sent : (w : LinkRecord) (now : ℕ) (o : Option ℕ) → AllAlive (shape w) → AllAlive (shape (Changes.send_from (Changes.after_start w now) o))
alive-sent w now None a = subst AllAlive (sym (Shapes.shape-started w now)) a
alive-sent w now (Some m) a = λ n lt.
    let e = messages-sent (Changes.after_start w now) in
    let b = (subst AllAlive (sym (Shapes.shape-started w now)) a) n (omega (arith, lt, ap length e)) in
    (ap (λ ms. (slice_index_or ms n Messages.no_message).expired) e ∙ b.0, ap (λ ms. (slice_index_or ms n Messages.no_message).abandoned) e ∙ b.1)

alive-after : (w : LinkRecord) (e : Event) → loses_nothing e ≡ true → AllAlive (shape w) → AllAlive (shape (after w e))
alive-after w (E.Write s ppi (b ∷ bs)) k a =
    let m = message_part (written_as w s ppi (b ∷ bs)) in
    subst AllAlive (sym (Shapes.shape-written w (written_as w s ppi (b ∷ bs))))
    (λ n lt. by_last {P = (((written (shape w) m).message n).expired ≡ false) × (((written (shape w) m).message n).abandoned ≡ false)} n (length w.messages) lt
    (λ o. let c = a n o in let e = message-old (shape w) m n o in (ap (λ y. y.expired) e ∙ c.0, ap (λ y. y.abandoned) e ∙ c.1))
    (λ z. let e : (written (shape w) m).message n ≡ m = ap (written (shape w) m).message z ∙ message-new (shape w) m in
    (ap (λ y. y.expired) e, ap (λ y. y.abandoned) e)))
alive-after w (E.Send now) k a = alive-sent w now (Messages.front w) a
alive-after w (E.Expire now) k a = cc
alive-after w (E.Tail now) k a = cc
alive-after w (E.Late now) k a = cc
alive-after w (E.Abandon tsn) k a = cc
alive-after w (E.Skip upto names) k a = cc
alive-after w event k a = subst AllAlive (sym (Network.shape-after w event refl)) a

abbrev pub Lossless : History → Type 0
Lossless h = list_all (λ entry. loses_nothing entry.0) h ≡ true

pub alive-run : (setup : Setup) (h : History) → Lossless h → AllAlive (shape (record_of setup h))
alive-run setup [] l = λ n lt. absurd (omega arith)
alive-run setup (entry ∷ older) l = let a = both (loses_nothing entry.0) (list_all (λ entry. loses_nothing entry.0) older) l in
    alive-after (record_of setup older) entry.0 a.0 (alive-run setup older a.1)

-- ## No skip comes

abbrev is_forward : Made → Bool
is_forward (MadeForward upto names) = true
is_forward _ = false

abbrev pub is_skip : LogEntry → Bool
is_skip (SkipReceived upto names) = true
is_skip _ = false

any-append : (xs ys : List Made) → list_any is_forward xs ≡ false → list_any is_forward ys ≡ false → list_any is_forward (xs ++ ys) ≡ false
any-append [] ys a b = b
any-append (x ∷ xs) ys a b = step (is_forward x) a (λ h. any-append xs ys h b)
  where
    step : (c : Bool) → (c || list_any is_forward xs) ≡ false → (list_any is_forward xs ≡ false → list_any is_forward (xs ++ ys) ≡ false)
        → (c || list_any is_forward (xs ++ ys)) ≡ false
    step c h1 h2 = grind (arith, nat_tests)

none-made : (setup : Setup) (e : Event) (r : Reply) → loses_nothing e ≡ true → list_any is_forward (made_by setup e r) ≡ false
none-made setup e r h1 = grind (arith, nat_tests)

none-forward : (setup : Setup) (h : History) → Lossless h → list_any is_forward (made_in setup h) ≡ false
none-forward setup [] l = refl
none-forward setup (entry ∷ older) l = let a = both (loses_nothing entry.0) (list_all (λ entry. loses_nothing entry.0) older) l in
    any-append (made_in setup older) (made_by setup entry.0 entry.1) (none-forward setup older a.1) (none-made setup entry.0 entry.1 a.0)

not-at : (ds : List Made) (k : ℕ) (d : Made) → list_any is_forward ds ≡ false → slice_get ds k ≡ Some d → is_forward d ≡ false
not-at [] k d a e = cc
not-at (c ∷ ds) zero d a e = grind (arith, nat_tests)
not-at (c ∷ ds) (suc k) d a e = not-at ds k d (right (is_forward c) (list_any is_forward ds) a) e
  where
    right : (a b : Bool) → (a || b) ≡ false → b ≡ false
    right a b h1 = grind (arith, nat_tests)

skips-slots : (ps : List ℕ) (log : List LogEntry) → list_any is_skip log ≡ false → list_any is_skip (Log.slots_come ps log) ≡ false
skips-slots [] log e = e
skips-slots (p ∷ ps) log e = skips-slots ps (SlotReceived p ∷ log) e

skips-received : (o : Option Made) (log : List LogEntry) → ((d : Made) → o ≡ Some d → is_forward d ≡ false) → list_any is_skip log ≡ false
    → list_any is_skip (Log.datagram_comes o log) ≡ false
skips-received None log f e = e
skips-received (Some (MadeData ps)) log f e = skips-slots ps log e
skips-received (Some (MadeForward upto names)) log f e = absurd (not_both (sym (f (MadeForward upto names) refl)))
skips-received (Some MadeSack) log f e = e

pub no-skips : (setup : Setup) (h : History) → Lossless h → list_any is_skip (log_of setup h) ≡ false
no-skips setup [] l = refl
no-skips setup ((e, r) ∷ older) l = let a = both (loses_nothing e) (list_all (λ entry. loses_nothing entry.0) older) l in step e (no-skips setup older a.1) a.1
  where
    step : (e : Event) → list_any is_skip (log_of setup older) ≡ false → Lossless older → list_any is_skip (log_of setup ((e, r) ∷ older)) ≡ false
    step e h1 h2 = grind (arith, nat_tests, skips-received, not-at, none-forward)

pub none-named : (w : LinkRecord) (s : ℕ) (log : List LogEntry) → list_any is_skip log ≡ false → named_by w s log ≡ 0
none-named w s [] e = refl
none-named w s (SlotReceived p ∷ log) e = none-named w s log e
none-named w s (SkipReceived upto names ∷ log) e = cc
none-named w s (SackMade ∷ log) e = none-named w s log e

pub none-skipped : (log : List LogEntry) (p : ℕ) → list_any is_skip log ≡ false → is_skipped log p ≡ false
none-skipped [] p e = refl
none-skipped (SlotReceived q ∷ log) p e = none-skipped log p e
none-skipped (SkipReceived upto names ∷ log) p e = cc
none-skipped (SackMade ∷ log) p e = none-skipped log p e
