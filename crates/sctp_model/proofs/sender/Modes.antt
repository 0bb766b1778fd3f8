use Rattle.sctp_model.proofs.Names.{◌≡◌, ℕ, zero, suc, ◌+◌, Bool, true, false, List, [], ◌∷◌, map, Option, Some, None, refl, ap, ◌∙◌, arith, if◌then◌else◌}
use Rattle.sctp_model.proofs.Names.{◌==◌, slice_get, find, unwrap_or, map-append, nat_tests, change_at, same_test, Event, StreamUnknown, Reply, Setup}
use Rattle.sctp_model.proofs.Names.{StreamRecord, Message, Datagram, Data, Forward, Sack, LinkRecord, stream_of, next_read, Mode, mode_in, modes_in, History}
use Rattle.sctp_model.proofs.Names.{record_of, IsRun, refusal_of, after, OnEveryRun, ModesAreKept, mode_of}
use Rattle.sctp_model.specs.declared.event.Event.TheVariants as E
use Rattle.sctp_model.specs.Messages
use Rattle.sctp_model.specs.Changes
use Rattle.sctp_model.proofs.sender.SenderRun.{consistent-run, fold-keeps, unless-holds, written_as}
use Rattle.sctp_model.proofs.sender.Moves
use Rattle.sctp_model.proofs.receiver.View.{field-kept, field-changed, find-more, either-keeps}
use Rattle.sctp_model.proofs.acknowledgement.BytesAnswered.{messages-sent}
use Rattle.sctp_model.proofs.sender.Lifetimes.{messages-received, messages-taken}

-- Each message has the mode that its stream had when it was written.

-- ## The modes of streams

abbrev mode_now : StreamRecord → Mode
mode_now r = record { unordered = r.unordered; reliability = r.reliability; value = r.value }

abbrev ModesAre : History → LinkRecord → Type 0
ModesAre h w = (s : ℕ) → mode_now (stream_of w s) ≡ mode_in h s

-- streams with the same modes
abbrev SameModes : LinkRecord → LinkRecord → Type 0
SameModes w v = (s : ℕ) → mode_now (stream_of v s) ≡ mode_now (stream_of w s)

modes-changed : (w : LinkRecord) (s : ℕ) (f : StreamRecord → StreamRecord) → ((r : StreamRecord) → (f r).stream ≡ r.stream)
    → ((r : StreamRecord) → mode_now (f r) ≡ mode_now r) → SameModes w (Changes.stream_changed w s f)
modes-changed w s f a b t = field-kept mode_now (λ r. if r.stream == s then f r else r) (either-keeps (λ r. r.stream) f a s) (either-keeps mode_now f b s) w t

modes-slot : (w : LinkRecord) (p : ℕ) → SameModes w (Changes.receive_slot w p)
modes-slot w p = grind (arith, nat_tests, modes-changed)

modes-received : (w : LinkRecord) (o : Option Datagram) → SameModes w (Changes.after_arrive w o)
modes-received w None = λ t. refl
modes-received w (Some (Data ps)) = fold-keeps (SameModes w) Changes.receive_slot (λ v p e t. modes-slot v p t ∙ e t) ps w (λ t. refl)
modes-received w (Some (Forward upto names)) = step (Changes.skip_counts w upto)
  where
    step : (b : Bool) → SameModes w (if b then record w { skipped = upto + 1; streams = map (Changes.named_by w names) w.streams } else w)
    step true = λ t. field-kept mode_now (Changes.named_by w names) (λ r. refl) (λ r. refl) w t
    step false = λ t. refl
modes-received w (Some (Sack r)) = λ t. refl

modes-taken : (w : LinkRecord) (o : Option Datagram) → SameModes w (Changes.after_acked w o)
modes-taken w o = grind (arith, nat_tests)

modes-read : (w : LinkRecord) (s : ℕ) (o : Option ℕ) → SameModes w (Changes.read_of w s o)
modes-read w s o = grind (arith, nat_tests, modes-changed)

modes-quiet : (w v : LinkRecord) → Moves.Quiet w v → SameModes w v
modes-quiet w v q t = ap (λ rs. mode_now (unwrap_or (find (λ r. r.stream == t) rs) (Messages.no_stream t))) q.streams

-- ## The modes of messages

modes-mapped : (f : Message → Message) → ((m : Message) → mode_of (f m) ≡ mode_of m) → (ms : List Message) → map mode_of (map f ms) ≡ map mode_of ms
modes-mapped f keeps [] = refl
modes-mapped f keeps (m ∷ ms) = ap (λ y. y ∷ map mode_of (map f ms)) (keeps m) ∙ ap (λ l. mode_of m ∷ l) (modes-mapped f keeps ms)

modes-flagged : (f : Message → Message) → ((m : Message) → mode_of (f m) ≡ mode_of m) → (i : ℕ) (ms : List Message)
    → map mode_of (change_at f i ms) ≡ map mode_of ms
modes-flagged f keeps i [] = refl
modes-flagged f keeps zero (m ∷ ms) = ap (λ y. y ∷ map mode_of ms) (keeps m)
modes-flagged f keeps (suc i) (m ∷ ms) = ap (λ l. mode_of m ∷ l) (modes-flagged f keeps i ms)

abbrev kept_modes : LinkRecord → List Mode
kept_modes w = map mode_of w.messages

kept-abandoned : (w : LinkRecord) (n : ℕ) → kept_modes (Changes.after_abandon w n) ≡ kept_modes w
kept-abandoned w n = grind (arith, nat_tests, modes-flagged)

kept-tail : (w : LinkRecord) (o : Option ℕ) → kept_modes (Changes.after_tail w o) ≡ kept_modes w
kept-tail w o = grind (arith, nat_tests, kept-abandoned)

kept-expired : (w : LinkRecord) (o : Option ℕ) → kept_modes (Changes.after_expire w o) ≡ kept_modes w
kept-expired w o = grind (arith, nat_tests, modes-flagged)

kept-read : (w : LinkRecord) (s : ℕ) (o : Option ℕ) → kept_modes (Changes.read_of w s o) ≡ kept_modes w
kept-read w s o = grind (arith, nat_tests, modes-flagged)

kept-sent : (w : LinkRecord) (now : ℕ) (o : Option ℕ) → kept_modes (Changes.send_from (Changes.after_start w now) o) ≡ kept_modes w
kept-sent w now None = modes-mapped (Changes.start_lifetime now) (λ m. refl) w.messages
kept-sent w now (Some n) = ap (map mode_of) (messages-sent (Changes.after_start w now)) ∙ modes-mapped (Changes.start_lifetime now) (λ m. refl) w.messages

-- ## Each event

record Moded (h : History) (w : LinkRecord) : Type 0 where
  streams : ModesAre h w
  messages : kept_modes w ≡ modes_in h

moded-step : (setup : Setup) (older : History) (e : Event) (r : Reply) → refusal_of (record_of setup older) e ≡ None → IsRun setup older
    → Moded older (record_of setup older) → Moded ((e, r) ∷ older) (after (record_of setup older) e)
moded-step setup older e r ok run m = record { streams = streams e ok; messages = messages e }
  where
    w : LinkRecord
    w = record_of setup older

    swap : (a b : ℕ) → (a == b) ≡ (b == a)
    swap a b = same_test (a == b) (b == a) (λ e. grind (arith, nat_tests)) (λ e. grind (arith, nat_tests))

    streams : (e : Event) → refusal_of w e ≡ None → ModesAre ((e, r) ∷ older) (after w e)
    streams (E.Open s) ok t = grind (arith, nat_tests, find-more)
    streams (E.Mode s unordered reliability value) ok t =
        let new : Mode = record { unordered = unordered; reliability = reliability; value = value } in
        field-changed mode_now (λ y. new) (Changes.with_mode unordered reliability value) (λ r. refl) (λ r. refl)
        w s t (unless-holds (Messages.is_open w s) StreamUnknown None ok).0
        ∙ ap (λ b. if b then new else mode_now (stream_of w t)) (swap t s) ∙ ap (λ y. if s == t then new else y) (m.streams t)
    streams (E.Ack credit) ok t = m.streams t
    streams (E.Arrive k) ok t = modes-received w (slice_get w.network k) t ∙ m.streams t
    streams (E.Acked k) ok t = modes-taken w (slice_get w.network k) t ∙ m.streams t
    streams (E.Read s) ok t = modes-read w s (next_read w s) t ∙ m.streams t
    streams event ok t = modes-quiet w (after w event) (Moves.quiet-after setup w event refl (consistent-run setup older run)) t ∙ m.streams t

    messages : (e : Event) → kept_modes (after w e) ≡ modes_in ((e, r) ∷ older)
    messages (E.Write s ppi (b ∷ bs)) = cc (map-append mode_of w.messages (written_as w s ppi (b ∷ bs) ∷ []), m.messages, m.streams s)
    messages (E.Start now) = kept-sent w now None ∙ m.messages
    messages (E.Send now) = kept-sent w now (Messages.front w) ∙ m.messages
    messages (E.Expire now) = kept-expired w (Changes.expiring w now) ∙ m.messages
    messages (E.Tail now) = kept-tail w (Changes.tailing w now) ∙ m.messages
    messages (E.Late now) = fold-keeps (λ v. kept_modes v ≡ kept_modes w) Changes.after_abandon (λ v n e. kept-abandoned v n ∙ e)
        (Changes.late_messages w now) w refl ∙ m.messages
    messages (E.Abandon tsn) = kept-abandoned w (Messages.message_of w (Messages.place_of w tsn)) ∙ m.messages
    messages (E.Arrive k) = ap (map mode_of) (messages-received w (slice_get w.network k)) ∙ m.messages
    messages (E.Acked k) = ap (map mode_of) (messages-taken w (slice_get w.network k)) ∙ m.messages
    messages (E.Read s) = kept-read w s (next_read w s) ∙ m.messages
    messages event = m.messages

pub modes_are_kept : OnEveryRun ModesAreKept
modes_are_kept setup h is run = (all h run).messages
  where
    all : (h : History) → IsRun setup h → Moded h (record_of setup h)
    all [] run = record { streams = λ s. refl; messages = refl }
    all (entry ∷ older) run = moded-step setup older entry.0 entry.1 run.0 run.1.1 (all older run.1.1)
