-- Sessions of every call: on a stream that goes on each unordered chunk that was taken is held, was read, or is passed by a FORWARD-TSN.
use Rattle.sctp_delivery.proofs.Names.{common_steps, nat_tests, ◌≡◌, ℕ, Bool, true, false, not, List, [], ◌∷◌, Option, ap, sym, subst, arith, ⊤, list_any}
use Rattle.sctp_delivery.proofs.Names.{Contains, ChunkPayloadData, Reassembly, InboundStream, stream_of, Stand, passes, Made, forward_tsn, ForwardTsn}
use Rattle.sctp_delivery.proofs.Names.{list_any_at, Session, both, negated, ◌||◌, of_sender, of_receiver, ReceiverCall, was_passed}
use Rattle.sctp_receiver.specs.Inbound.{numbers_of}
use Rattle.sctp_receiver.specs.ReceiverRuns as receiver_runs
use Rattle.sctp_receiver.proofs.StreamCosts.{are_apart}
use Rattle.sctp_delivery.specs.EveryCall.{AfterEachAny, AnyCall, FollowsAny, IsMadeChunk, ReceiverOther, RunsAny, as_receiver_run, makes, of_receiving}
use Rattle.sctp_delivery.specs.EveryCall.{of_sending}
use Rattle.sctp_delivery.specs.EveryEnd.{IsUnorderedHeldReadOrPassed}
use Rattle.sctp_delivery.specs.EveryOrder.{breaks, goes_on, is_unbroken, opens_incoming}
use Rattle.sctp_delivery.specs.ReceiverCalls as incoming
use Rattle.sctp_delivery.specs.Session.{IsSent}
use Rattle.sctp_receiver.proofs.Closed.{stays-apart}
use Rattle.sctp_delivery.proofs.Stands.{more-made}
use Rattle.sctp_delivery.proofs.Every.{all-of-every, every-all}
use Rattle.sctp_delivery.proofs.Kept.{held-weighs}
use Rattle.sctp_delivery.proofs.Even.{Fits, IsEven, IsKeptByCalls, Leaves, Puts, step}

-- # A session

-- what was made stays so
made-stays : (cs : List AnyCall) (old new : Session) → RunsAny old cs new → (m : Made) → Contains old.made m → Contains new.made m
made-stays [] old new r m c = subst (λ (s : Session). Contains s.made m) (sym r) c
made-stays (makes (of_sender call) ∷ cs) old new r m c =
    made-stays cs r.0 new r.1.1 m (subst (λ ms. Contains ms m) (sym (ap (λ (s : Session). s.made) r.1.0.after))
    (more-made call old.sending.sender old.made m c))
made-stays (makes (of_receiver call) ∷ cs) old new r m c =
    made-stays cs r.0 new r.1.1 m (subst (λ ms. Contains ms m) (sym (ap (λ (s : Session). s.made) r.1.0.after)) c)
made-stays (of_sending call ∷ cs) old new r m c =
    made-stays cs r.0 new r.1.1 m (subst (λ ms. Contains ms m) (sym (ap (λ (s : Session). s.made) r.1.0.after)) c)
made-stays (of_receiving call ∷ cs) old new r m c =
    made-stays cs r.0 new r.1.1 m (subst (λ ms. Contains ms m) (sym (ap (λ (s : Session). s.made) r.1.0.after)) c)

-- one of these FORWARD-TSNs passes it
abbrev pub IsSpent : List Made → ChunkPayloadData → Type 0
IsSpent ms c = list_any (passes c.tsn) ms ≡ true

-- of what is unassembled nothing is said
abbrev pub Anything : Reassembly → Type 0
Anything q = ⊤

pub any-kept : IsKeptByCalls Anything
any-kept = record { fresh = λ s max. tt; read = λ q h. tt; left = λ t q h. tt; alike = λ q r u a h. tt }

module _ (st : ℕ) where
  abbrev pub IsEvenBut : List Made → Stand → Type 0
  IsEvenBut ms = IsEven st (IsSpent ms) Anything

  abbrev FitsBut : List Made → receiver_runs.Call → Option InboundStream → Type 0
  FitsBut ms = Fits st (IsSpent ms) Anything

  module _ (ms : List Made) (o : Option InboundStream) where
    leaves : (g : ForwardTsn) → Contains ms (forward_tsn g) → Leaves st (IsSpent ms) Anything g o
    leaves g in' = grind (arith, nat_tests, common_steps, list_any_at, every-all)

    puts : (c : ChunkPayloadData) (said : Bool) → Puts st (IsSpent ms) Anything c said o
    puts c said = grind (arith, nat_tests, common_steps)

    -- a call of the receiver, in a session that goes on to where these are made
    plain-fits : (call : ReceiverCall) (s : Session) → IsSent call s → ((m : Made) → Contains s.made m → Contains ms m) → FitsBut ms (incoming.as_run call) o
    plain-fits h0 h1 h2 h3 = grind (arith, nat_tests, common_steps, leaves, puts)

    other-fits : (opened : Bool) (call : ReceiverOther) (s : Session) → breaks opened st (of_receiving call) ≡ false → IsMadeChunk call s
        → ((m : Made) → Contains s.made m → Contains ms m) → FitsBut ms (as_receiver_run call) o
    other-fits h0 h1 h2 h3 h4 h5 = grind (arith, nat_tests, common_steps, leaves)

  even-run : (opened : Bool) (cs : List AnyCall) (old new : Session) (r : RunsAny old cs new) → goes_on opened st cs ≡ true
      → are_apart (numbers_of old.receiving.receiver.streams) ≡ true → IsEvenBut new.made old.receiving → IsEvenBut new.made new.receiving
  even-run opened [] old new r on apart i = subst (λ (s : Session). IsEvenBut new.made s.receiving) (sym r) i
  even-run opened (c ∷ cs) old new r on apart i =
      let b = both (not (breaks opened st c)) (goes_on (opened || opens_incoming st c) st cs) on in
      let x = one c r.0 r.1.0 (made-stays (c ∷ cs) old new r) (negated (breaks opened st c) b.0) in
      even-run (opened || opens_incoming st c) cs r.0 new r.1.1 b.1 x.0 x.1
    where
      o : Option InboundStream
      o = stream_of st old.receiving.receiver

      still : (v : Session) → v.receiving ≡ old.receiving → (are_apart (numbers_of v.receiving.receiver.streams) ≡ true) × IsEvenBut new.made v.receiving
      still v e = subst (λ (y : Stand). (are_apart (numbers_of y.receiver.streams) ≡ true) × IsEvenBut new.made y) (sym e) (apart, i)

      received : (c : receiver_runs.Call) (v : Session) → FitsBut new.made c o → receiver_runs.Follows c old.receiving v.receiving
          → (are_apart (numbers_of v.receiving.receiver.streams) ≡ true) × IsEvenBut new.made v.receiving
      received c v k f = grind (arith, nat_tests, common_steps, stays-apart, step, any-kept)

      one : (c : AnyCall) (v : Session) → FollowsAny c old v → ((m : Made) → Contains old.made m → Contains new.made m) → breaks opened st c ≡ false
          → (are_apart (numbers_of v.receiving.receiver.streams) ≡ true) × IsEvenBut new.made v.receiving
      one (makes (of_sender call)) v f stays off = still v (ap (λ (s : Session). s.receiving) f.after)
      one (makes (of_receiver call)) v f stays off = received (incoming.as_run call) v (plain-fits new.made o call old f.handed stays) f.step
      one (of_sending call) v f stays off = still v (ap (λ (s : Session). s.receiving) f.after)
      one (of_receiving call) v f stays off = received (as_receiver_run call) v (other-fits new.made o opened call old off f.handed stays) f.step

pub even : AfterEachAny (λ cs s. (st : ℕ) → is_unbroken cs st ≡ true → IsEvenBut st s.made s.receiving)
even reported first size max most limits cs s r st on = grind (arith, nat_tests, common_steps, even-run)

pub held-or-read : AfterEachAny IsUnorderedHeldReadOrPassed
held-or-read reported first size max most limits cs s r st on =
    let x = even reported first size max most limits cs s r st on in (
      x.lost,
      all-of-every (λ c. was_passed c.tsn s ≡ true) x.lost x.spent,
      λ w h. omega (arith, x.so.weighs w h, held-weighs w (stream_of st s.receiving.receiver)),
    )
