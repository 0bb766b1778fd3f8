-- The messages of the record are the accepted writes.
use Rattle.sctp_model.proofs.Names.{◌≡◌, ℕ, ◌+◌, Bool, true, false, List, [], ◌∷◌, ◌++◌, map, Option, Some, None, refl, ap, ◌∙◌, arith, add-one, if◌then◌else◌}
use Rattle.sctp_model.proofs.Names.{map-append, numbers_where, always, map-kept-same, kept-snoc_in, PayloadProtocolIdentifier, Event, Reply, Setup, LinkRecord}
use Rattle.sctp_model.proofs.Names.{Shown, writes_in, History, record_of, refusal_of, after, OnEveryRun, MessagesAreWrites, nat_tests}
use Rattle.sctp_model.specs.declared.event.Event.TheVariants as E
use Rattle.sctp_model.specs.Messages
use Rattle.sctp_model.specs.Changes
use Rattle.sctp_model.proofs.sender.Shape.{Shape, MessagePart, shape, message_part, written}
use Rattle.sctp_model.proofs.sender.Shapes
use Rattle.sctp_model.proofs.sender.SenderEnds.{message-old, message-new}
use Rattle.sctp_model.proofs.sender.SenderRun.{fold-keeps, sends-keep, found, written_as}
use Rattle.sctp_model.proofs.sender.Network

abbrev pub shown_part : MessagePart → Shown
shown_part m = (m.stream, m.ppi, m.bytes)

-- the messages as they were written
abbrev pub answered : Shape → List Shown
answered x = map (λ n. shown_part (x.message n)) (numbers_where always 0 x.count)

answered-written : (x : Shape) (m : MessagePart) → answered (written x m) ≡ answered x ++ shown_part m ∷ []
answered-written x m =
    ap (λ c. map (λ n. shown_part ((written x m).message n)) (numbers_where always 0 c)) (add-one x.count)
    ∙ ap (map (λ n. shown_part ((written x m).message n))) (kept-snoc_in always 0 x.count x.count (omega arith) refl)
    ∙ map-append (λ n. shown_part ((written x m).message n)) (numbers_where always 0 x.count) (x.count ∷ [])
    ∙ ap (λ l. l ++ shown_part ((written x m).message x.count) ∷ []) (map-kept-same (λ n. shown_part ((written x m).message n))
    (λ n. shown_part (x.message n)) always always 0 x.count (λ k a b. refl) (λ k a b e. ap shown_part (message-old x m k (omega arith))))
    ∙ ap (λ y. answered x ++ shown_part y ∷ []) (message-new x m)

answered-sent : (w : LinkRecord) → answered (shape (Changes.send_fragment w)) ≡ answered (shape w)
answered-sent w = elim (Messages.front w) as (λ o. answered (shape (Changes.send_fragment_of w o)) ≡ answered (shape w)) [ None ↦ refl | Some n ↦ refl ]

answered-sends : (w : LinkRecord) (now : ℕ) (o : Option ℕ) → answered (shape (Changes.send_from (Changes.after_start w now) o)) ≡ answered (shape w)
answered-sends w now None = ap answered (Shapes.shape-started w now)
answered-sends w now (Some n) =
    sends-keep (λ v. answered (shape v) ≡ answered (shape w)) (λ v e. answered-sent v ∙ e) (Changes.after_start w now)
    (ap answered (Shapes.shape-started w now))

answered-abandoned : (w : LinkRecord) (n : ℕ) → answered (shape (Changes.after_abandon w n)) ≡ answered (shape w)
answered-abandoned w n = step (Messages.is_partially_sent w n)
  where
    step : (b : Bool) → answered (shape (Changes.message_changed (if b then Changes.with_slot w n true else w) n Changes.mark_abandoned)) ≡ answered (shape w)
    step true = ap answered (Shapes.shape-abandoned (Changes.with_slot w n true) n)
    step false = ap answered (Shapes.shape-abandoned w n)

answered-tail : (w : LinkRecord) (o : Option ℕ) → answered (shape (Changes.after_tail w o)) ≡ answered (shape w)
answered-tail w o = grind (arith, nat_tests, answered-abandoned)

answered-expired : (w : LinkRecord) (o : Option ℕ) → answered (shape (Changes.after_expire w o)) ≡ answered (shape w)
answered-expired w None = refl
answered-expired w (Some n) = ap answered (Shapes.shape-expired w n)

-- the stream of a write that was accepted
pub stream-named : (w : LinkRecord) (s : ℕ) → Messages.is_open w s ≡ true → (Messages.stream_of w s).stream ≡ s
stream-named w s open' = grind (arith, nat_tests, found)

pub write-open : (w : LinkRecord) (s : ℕ) (ppi : PayloadProtocolIdentifier) (bytes : List ℕ) → refusal_of w (E.Write s ppi bytes) ≡ None
    → Messages.is_open w s ≡ true
write-open w s ppi bytes ok = grind (arith, nat_tests)

written-step : (setup : Setup) (older : History) (e : Event) (r : Reply) → refusal_of (record_of setup older) e ≡ None
    → answered (shape (record_of setup older)) ≡ writes_in older → answered (shape (after (record_of setup older) e)) ≡ writes_in ((e, r) ∷ older)
written-step setup older (E.Write s ppi (b ∷ bs)) r ok t =
    let w = record_of setup older in
    ap answered (Shapes.shape-written w (written_as w s ppi (b ∷ bs))) ∙ answered-written (shape w) (message_part (written_as w s ppi (b ∷ bs)))
    ∙ ap (λ l. l ++ shown_part (message_part (written_as w s ppi (b ∷ bs))) ∷ []) t
    ∙ (let pair : ℕ → Shown = λ k. (k, ppi, b ∷ bs) in ap (λ k. writes_in older ++ pair k ∷ []) (stream-named w s (write-open w s ppi (b ∷ bs) ok)))
written-step setup older (E.Send now) r ok t = answered-sends (record_of setup older) now (Messages.front (record_of setup older)) ∙ t
written-step setup older (E.Expire now) r ok t = answered-expired (record_of setup older) (Changes.expiring (record_of setup older) now) ∙ t
written-step setup older (E.Tail now) r ok t = answered-tail (record_of setup older) (Changes.tailing (record_of setup older) now) ∙ t
written-step setup older (E.Late now) r ok t = fold-keeps (λ v. answered (shape v) ≡ answered (shape (record_of setup older))) Changes.after_abandon
    (λ v n e. answered-abandoned v n ∙ e) (Changes.late_messages (record_of setup older) now) (record_of setup older) refl ∙ t
written-step setup older (E.Abandon tsn) r ok t = grind (arith, nat_tests, answered-abandoned)
written-step setup older event r ok t = ap answered (Network.shape-after (record_of setup older) event refl) ∙ t

pub messages_are_writes : OnEveryRun MessagesAreWrites
messages_are_writes setup [] is run = refl
messages_are_writes setup (entry ∷ older) is run = written-step setup older entry.0 entry.1 run.0 (messages_are_writes setup older is run.1.1)
