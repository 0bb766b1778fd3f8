-- Sessions of a sender that keeps what is reported: what holds of sessions of every call, and that only what may expire expires.
use Rattle.sctp_delivery.proofs.Names.{nat_tests, common_steps, ◌≡◌, ℕ, ◌<◌, ◌+◌, ◌^◌, List, [], ◌∷◌, refl, ap, sym, subst, ◌∙◌, arith, Option, Contains}
use Rattle.sctp_delivery.proofs.Names.{ChunkPayloadData, Sack, Transmission, Session, SenderFollows, OutboundStream, map, ⊤, Limits, Modes, abandoned_by}
use Rattle.sctp_delivery.proofs.Names.{bytes_written, tsn, tsns_from, takes_sack, next_pending, modes_from, at_first}
use Rattle.sctp_sender.specs.declared.sender.Reported.{Reported}
use Rattle.sctp_delivery.specs.Expiries.{EachDueExpires, OnlyTheDueExpire, IsReason}
use Rattle.sctp_delivery.specs.Modes.{Sending, numbered_in}
use Rattle.sctp_delivery.specs.EveryCall.{SenderDoes, takes_back}
use Rattle.sctp_delivery.specs.Messages.{AreSame}
use Rattle.sctp_delivery.specs.SenderCalls.{TakesBackAndSack}
use Rattle.sctp_delivery.specs.Returns.{AfterEachWithReturnsOfFewInFlight, AfterEachWithReturnsOfFewTsns, AreFewInFlightSo, CallOrReturn, EachAckedIsTwoCalls}
use Rattle.sctp_delivery.specs.Returns.{NoneIsRefusedSo, RunsWithReturns, after_return, at_start_with, other_calls}
use Rattle.sctp_sender.specs.declared.sender.flight.Released.{Released}
use Rattle.sctp_sender.specs.declared.sender.flight.kept.TakenBack.{TakenBack}
use Rattle.sctp_delivery.specs.Session.{count_in_flight}
use Rattle.sctp_delivery.proofs.Every.{Every, all-of-every, every-all, every-of, every-of-all}
use Rattle.sctp_delivery.proofs.Plain.{IsLike, are-long, are-tsns, paired}
use Rattle.sctp_delivery.proofs.EveryMessages as messages
use Rattle.sctp_delivery.proofs.PlainRuns.{goes, shadow, so, none-flying}
use Rattle.sctp_delivery.proofs.ReturnsAny.{of-few-bytes}
use Rattle.sctp_delivery.proofs.PlainSessions.{kept_of}
use Rattle.sctp_delivery.proofs.QueueChunks.{AllWait}
use Rattle.sctp_delivery.specs.Counters.{AreSums, HasSums}
use Rattle.sctp_delivery.proofs.CounterLaws as counters
use Rattle.sctp_delivery.proofs.PlainStreams.{bare}
use Rattle.sctp_delivery.proofs.ExpiryLaws.{each-reason, front-goes, late-are, tail-goes, worn-are}
use Rattle.sctp_delivery.proofs.FilledQueues.{IsFilled}
use Rattle.sctp_delivery.proofs.FewInFlight.{IsInRun}
use Rattle.sctp_delivery.proofs.GivenTsns.{IsNumbered}
use Rattle.sctp_delivery.proofs.ModeQueues.{AreModed, IsFlying, has-mode-kept}
use Rattle.sctp_delivery.proofs.ModeSessions.{HasSaid, said-in}

-- ## Chunks, and what comes back

pub same : AfterEachWithReturnsOfFewTsns (λ first n gone cs s. AreSame s)
same = of-few-bytes (λ cs s. AreSame s) messages.same

pub none-refused-back : AfterEachWithReturnsOfFewTsns (λ first n gone cs s. NoneIsRefusedSo s)
none-refused-back = of-few-bytes (λ cs s. NoneIsRefusedSo s) messages.none-refused-back

-- what `acked` makes of the sender is two calls of such a session
abbrev AckedIsTwoCalls : Session → Type 0
AckedIsTwoCalls s =
    (sack : Sack) (back : List TakenBack) (gone : List Released) (new : Transmission) → Contains s.sacks sack
    → TakesBackAndSack sack back gone s.sending.sender new → SenderDoes (takes_back sack back) s (after_return sack back s)
    × (t : Session) × SenderFollows (takes_sack sack gone) (after_return sack back s) t × (t.sending.sender ≡ new)

pub two-calls : AfterEachWithReturnsOfFewTsns (λ first n gone cs s. EachAckedIsTwoCalls s)
two-calls reported first size max most limits cs s run small some few short sack back gone new handed x =
    let w = of-few-bytes (λ cs s. AckedIsTwoCalls s) messages.two-calls reported first size max most limits cs s run small some few short sack back gone new
    handed x in (
      record { handed = w.0.handed; step = w.0.step; exact = w.0.exact; accepted = w.0.accepted.0; answered = w.0.accepted.1; after = w.0.after },
      w.1,
      w.2,
      w.3,
    )

-- ## Only what may expire expires

-- a chunk is sent as the other one is
flying-like : (ws : List Sending) (n : ℕ) (k : Option (List ℕ)) (c d : ChunkPayloadData) → IsLike k c d → IsFlying ws n d → IsFlying ws n c
flying-like ws n k c d i j = grind (arith, nat_tests, common_steps, has-mode-kept)

-- few are in flight in the end, where they were at first
few-at : (cs : List CallOrReturn) (old new : Session) (r : RunsWithReturns old cs new) → count_in_flight old < 2 ^ 31 → AreFewInFlightSo old cs new r
    → count_in_flight new < 2 ^ 31
few-at [] old new r was few = subst (λ (s : Session). count_in_flight s < 2 ^ 31) (sym r) was
few-at (c ∷ cs) old new r was few = few-at cs r.0 new r.1.1 few.0 few.1

-- what the other session says of its queues this one says too
module _ (reported : Reported) (first size max most : ℕ) (limits : Option Limits) (calls : List CallOrReturn) (s : Session)
    (run : RunsWithReturns (at_start_with reported first size max most limits) calls s) (small : first < 2 ^ 32) (some : 0 < size)
    (few : AreFewInFlightSo (at_start_with reported first size max most limits) calls s run) (short : bytes_written s < 2 ^ 64) where
  abbrev Other : Session
  Other = (goes reported first size max most limits calls s run small few short).other

  abbrev t : Transmission
  t = s.sending.sender

  sent-so : (m : Modes) → AreModed m.of_writes Other.sending.sender.flight.queue → AreModed m.of_writes t.flight.queue
  sent-so m h =
      let x = shadow reported first size max most limits calls s run small few short in
      let q = subst (λ (u : Transmission). AreModed m.of_writes u.flight.queue) x.sender h in
      record {
        ordered = q.ordered;
        unordered = q.unordered;
        inflight = paired (λ c. ⊤) (IsFlying m.of_writes t.flight.queue.next_unstarted) (IsFlying m.of_writes t.flight.queue.next_unstarted)
            (λ k c d i _ j. flying-like m.of_writes t.flight.queue.next_unstarted k c d i j) (kept_of t.kept) t.flight.queue.inflight.chunks x.chunks x.like
            (every-all (λ c. ⊤) (λ c. tt) t.flight.queue.inflight.chunks) q.inflight;
        count = q.count;
        upto = q.upto;
        begun = q.begun;
        unbegun = q.unbegun;
      }

  said : HasSaid first (modes_from at_first (other_calls calls)) Other
  said = grind (arith, nat_tests, common_steps, said-in)

  filled : AllWait IsFilled t.flight.queue.pending
  filled = let x = shadow reported first size max most limits calls s run small few short in
      subst (λ (u : Transmission). AllWait IsFilled u.flight.queue.pending) x.sender said.said.filled

  numbered : IsInRun t.flight
  numbered =
      let x = shadow reported first size max most limits calls s run small few short in
      let g = goes reported first size max most limits calls s run small few short in
      let h = subst (λ (u : Transmission). IsInRun u.flight) x.sender g.plays.regular.regular.numbered in
      let cs = t.flight.queue.inflight.chunks in
      let long = are-long (kept_of t.kept) cs x.chunks x.like in
      let total = h.total in
      subst (λ k. IsNumbered t.flight.acked_tsn k t.flight) (sym long) (record {
        acked = h.acked;
        acked_is = h.acked_is;
        next_is = h.next_is;
        run = are-tsns (kept_of t.kept) cs x.chunks x.like ∙ h.run ∙ ap (tsns_from (tsn t.flight.acked_tsn (h.acked + 1))) (sym long);
        total = omega (arith, total, long);
      })

  flying-few : count_in_flight s < 2 ^ 31
  flying-few = grind (arith, nat_tests, common_steps, few-at, none-flying)

  pub only-due-so : OnlyTheDueExpire (other_calls calls) s
  only-due-so call =
      let m = modes_from at_first (other_calls calls) in
      all-of-every (λ n. IsReason call t n (numbered_in n m.of_writes)) (abandoned_by call t)
      (each-reason t.flight.acked_tsn (count_in_flight s) flying-few m.of_writes t (sent-so m said.said.sender.queue) filled numbered call)

  pub due-expires-so : EachDueExpires (other_calls calls) s
  due-expires-so now =
      let ws = (modes_from at_first (other_calls calls)).of_writes in
      let h = sent-so (modes_from at_first (other_calls calls)) said.said.sender.queue in
      let q = t.flight.queue.pending in (
        (front-goes now ws q (h.ordered, h.unordered) filled (next_pending q) refl, tail-goes now ws q (h.ordered, h.unordered) filled (next_pending q) refl),
        (
          late-are ws t.flight.queue.next_unstarted now q t.flight.queue.inflight.chunks h.inflight,
          worn-are ws t.flight.queue.next_unstarted t.flight.queue.inflight.chunks h.inflight,
        ),
      )

pub only-due : AfterEachWithReturnsOfFewInFlight (λ cs s. OnlyTheDueExpire (other_calls cs) s)
only-due reported first size max most limits cs s run small some few short = only-due-so reported first size max most limits cs s run small some few short

pub due-expires : AfterEachWithReturnsOfFewInFlight (λ cs s. EachDueExpires (other_calls cs) s)
due-expires reported first size max most limits cs s run small some few short = due-expires-so reported first size max most limits cs s run small some few short

-- ## Counters

-- of a stream that is the same but for its amount
sums-alike : (s : Session) (l k : OutboundStream) → bare k ≡ bare l → HasSums s l → HasSums s k
sums-alike s l k e h = grind (arith, nat_tests, common_steps)

each-sum : (s : Session) (ks ls : List OutboundStream) → map bare ks ≡ map bare ls → Every (HasSums s) ls → Every (HasSums s) ks
each-sum s [] ls e h = tt
each-sum s (k ∷ ks) [] e h = cc
each-sum s (k ∷ ks) (l ∷ ls) e h =
    let one : bare k ≡ bare l = cc in
    let rest : map bare ks ≡ map bare ls = cc in
    (sums-alike s l k one h.0, each-sum s ks ls rest h.1)

pub sums : AfterEachWithReturnsOfFewInFlight (λ cs s. AreSums s)
sums reported first size max most limits cs s run small some few short =
    let x = shadow reported first size max most limits cs s run small few short in
    let g = goes reported first size max most limits cs s run small few short in
    let law =
    so reported first size max most limits cs s run small few short AreSums (λ ks r e. counters.are-sums first size max most limits ks _ small some r) in
    all-of-every (HasSums s) s.sending.sender.streams (each-sum s s.sending.sender.streams x.streams x.alike
    (subst (λ (u : Transmission). Every (HasSums s) u.streams) x.sender
    (every-of (HasSums _) (HasSums s) (λ l h. record { messages = h.messages; bytes = h.bytes }) g.other.sending.sender.streams
    (every-of-all (HasSums _) g.other.sending.sender.streams law))))
