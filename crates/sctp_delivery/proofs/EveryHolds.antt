-- Sessions of every call: what a sender gave TSNs to, while fewer than 2^31 chunks are in flight, also where it takes back what is no more reported.
use Rattle.sctp_delivery.proofs.Names.{common_steps, nat_tests, ⊤, ◌≡◌, ℕ, ◌+◌, ◌<◌, ◌^◌, Bool, true, false, List, [], ◌∷◌, ◌++◌, Option, refl, ap, sym, subst}
use Rattle.sctp_delivery.proofs.Names.{◌∙◌, arith, list_any, ChunkPayloadData, data_of, Sack, Limits, Modes, Transmission, Session, Call, Follows, at_first}
use Rattle.sctp_delivery.proofs.Names.{abandoned_by, bytes_written, change_where, distance, modes_after, has_number, is_of, is_outstanding, of_receiver}
use Rattle.sctp_delivery.proofs.Names.{of_sender, same-yes}
use Rattle.sctp_sender.specs.declared.sender.Reported.{Reported}
use Rattle.sctp_sender.specs.Keeping.{restored}
use Rattle.sctp_sender.specs.Outgoing.{from_first}
use Rattle.sctp_sender.specs.Sender.{after_take_back, back_by, taken_back_by, with_streams}
use Rattle.sctp_sender.specs.SenderRuns as sender_runs
use Rattle.sctp_stream.specs.Numbers.{swapped_out}
use Rattle.sctp_delivery.specs.EveryCall.{AnyCall, FollowsAny, SenderDoes, SenderOther, closes, makes, of_receiving, of_sending, renews, resets, takes_back}
use Rattle.sctp_delivery.specs.Returns.{at_start_with}
use Rattle.sctp_delivery.specs.Session.{count_in_flight}
use Rattle.sctp_delivery.proofs.AmountLaws.{HasMadeOn, WasMade, each-made, made-after}
use Rattle.sctp_delivery.proofs.Delivered.{HoldsOn, found-sent-on, held-first, next_tsn}
use Rattle.sctp_delivery.proofs.Every.{Every, every-all, every-of}
use Rattle.sctp_delivery.proofs.EveryGoes.{HasRun, closed-goes, closes-held, received-goes, reset-goes, resets-held, run-accounted, run-after, run-beside}
use Rattle.sctp_delivery.proofs.EveryGoes.{run-first, run-restreamed, with_sender, returns-goes}
use Rattle.sctp_delivery.proofs.FewInFlight.{AreRegular, regular-first, regular-then}
use Rattle.sctp_delivery.proofs.InFlight.{IsKnownOn, placed-alike}
use Rattle.sctp_delivery.proofs.Numbers.{all-open}
use Rattle.sctp_delivery.proofs.Plain.{AreLike, any-plain, are-plain, paired, rest_of}
use Rattle.sctp_delivery.proofs.PlainCalls.{sender-goes}
use Rattle.sctp_delivery.proofs.PlainHolds.{known-like, steady-alike}
use Rattle.sctp_delivery.proofs.PlainReturns.{back-like}
use Rattle.sctp_delivery.proofs.PlainSessions.{Goes, Others, kept_of, receives-too, goes-first}
use Rattle.sctp_delivery.proofs.PlainStreams.{returned-alike}
use Rattle.sctp_delivery.proofs.Senders.{IsHeldOn}
use Rattle.sctp_delivery.proofs.Sent.{Entry, Numbered, WasSent}

-- ## The session beside it

-- what is so of a session of a sender that keeps nothing: each chunk that got a TSN was made
module _ (going : ℕ → Bool) (first : ℕ) where
  pub record IsHolding (d : Session) : Type 0 where
    pub made : HasMadeOn going first d
    pub regular : AreRegular d
    pub ran : HasRun first d

  pub onward : (c : Call) (d e : Session) → count_in_flight d < 2 ^ 31 → count_in_flight e < 2 ^ 31 → Follows c d e → IsHolding d → IsHolding e
  onward h0 h1 h2 h3 h4 h5 h6 = grind (arith, nat_tests, common_steps, made-after, regular-then, run-after, run-beside)

  abbrev pub holding : Others first
  holding = record {
    Bound = λ n k. k < 2 ^ 31;
    fewer = λ n k more b. omega (arith, b);
    Plays = λ d n gone m. IsHolding d;
    onward = λ d e n gone m was few h c f. onward c d e was few f h;
    regular = λ d n gone m few h. h.regular.regular;
    room = λ d n gone m more few h. few;
    accounted = λ d n gone m few h. run-accounted first d h.ran;
  }

  pub record HasBeside (s : Session) : Type 0 where
    pub given : ℕ
    pub gone : List ℕ
    pub modes : Modes
    pub goes : Goes first holding s.sending.sender s given gone modes

  -- its sender has other streams
  restreamed : (d : Session) (ls : _) (c : sender_runs.Call)
      → sender_runs.Follows c d.sending (record d.sending { sender = with_streams ls d.sending.sender }) → (h : IsHolding d)
      → IsHeldOn going h.made.numbered first (with_streams ls d.sending.sender) h.made.sent
      → IsHolding (with_sender (with_streams ls d.sending.sender) d)
  restreamed d ls c f h held = grind (arith, nat_tests, common_steps, run-restreamed)

  pub beside-after : (c : AnyCall) (s v : Session) → FollowsAny c s v → count_in_flight s < 2 ^ 31 → count_in_flight v < 2 ^ 31 → bytes_written v < 2 ^ 64
      → ((r : ℕ) → renews r c ≡ true → going r ≡ false) → AreRegular v → HasBeside s → HasBeside v
  beside-after (makes (of_sender call)) s v f was few short off regular h =
      record {
        given = h.given + distance (next_tsn s) (next_tsn v);
        gone = h.gone ++ abandoned_by call s.sending.sender;
        modes = modes_after call h.modes;
        goes = sender-goes first holding s v h.given h.gone h.modes was few h.goes call short f;
      }
  beside-after (makes (of_receiver call)) s v f was few short off regular h =
      record { given = h.given; gone = h.gone; modes = h.modes; goes = receives-too first holding call s v h.given h.gone h.modes was h.goes f }
  beside-after (of_sending (takes_back sack back)) s v f was few short off regular h = grind (arith, nat_tests, common_steps, returns-goes)
  beside-after (of_sending (closes st)) s v f was few short off regular h =
      let d = h.goes.other in
      let i = h.goes.plays in
      record {
        given = h.given;
        gone = h.gone;
        modes = h.modes;
        goes = closed-goes first holding s v h.given h.gone h.modes h.goes st f (restreamed d (swapped_out (has_number st) d.sending.sender.streams)
            (sender_runs.closes st) (record { sender = refl; written = omega arith; released = omega arith; taken_back = omega arith }) i
            (closes-held going first st (off st (same-yes st)) i.made.numbered d.sending.sender i.made.sent i.made.holds.held));
      }
  beside-after (of_sending (resets st)) s v f was few short off regular h =
      let d = h.goes.other in
      let i = h.goes.plays in
      record {
        given = h.given;
        gone = h.gone;
        modes = h.modes;
        goes = reset-goes first holding s v h.given h.gone h.modes h.goes st f (restreamed d (change_where (has_number st) from_first d.sending.sender.streams)
            (sender_runs.resets st) (record { sender = refl; written = omega arith; released = omega arith; taken_back = omega arith }) i
            (resets-held going first st (off st (same-yes st)) i.made.numbered d.sending.sender i.made.sent i.made.holds.held));
      }
  beside-after (of_receiving call) s v f was few short off regular h =
      let d = h.goes.other in
      let i = h.goes.plays in
      let e : Session = record d { receiving = v.receiving } in
      record {
        given = h.given;
        gone = h.gone;
        modes = h.modes;
        goes = received-goes first holding s v h.given h.gone h.modes h.goes call f (record {
          made = grind (arith, nat_tests, common_steps);
          regular = assumption (regular, i.regular);
          ran = run-beside first d e refl refl i.ran;
        });
      }

  pub beside-start : (reported : Reported) (size max most : ℕ) (limits : Option Limits) → first < 2 ^ 32 → 0 < size
      → HasBeside (at_start_with reported first size max most limits)
  beside-start reported size max most limits small some = record {
    given = 0;
    gone = [];
    modes = at_first;
    goes = goes-first first holding reported size max most limits (record {
      made = record {
        numbered = [];
        sent = [];
        holds = record { held = held-first going first size max most limits small some; made = tt; writes = refl; placed = tt };
        made = tt;
      };
      regular = regular-first first size max most limits small;
      ran = run-first first size max most limits;
    });
  }

-- ## What comes back

module _ (going : ℕ → Bool) (first : ℕ) (ns : List Numbered) (sent : List Entry) where
  -- what is in flight beside is known where what is in flight is, and what is outstanding there got a TSN
  known-there : (ks : List (Option (List ℕ))) (cs ds : List ChunkPayloadData) → AreLike ks cs ds → Every (IsKnownOn going first sent) cs
      → Every (λ d. is_outstanding d ≡ true → WasSent sent (data_of d)) ds → Every (IsKnownOn going first sent) ds
  known-there ks [] [] a k w = tt
  known-there ks [] (d ∷ ds) a k w = absurd a
  known-there ks (c ∷ cs) [] a k w = absurd a
  known-there ks (c ∷ cs) (d ∷ ds) a k w = grind (arith, nat_tests, common_steps, placed-alike, known-there (rest_of ks) cs ds a.1 k.1 w.1)

  module _ (sack : Sack) (t : Transmission) (ds : List ChunkPayloadData) (like : AreLike (kept_of t.kept) t.flight.queue.inflight.chunks ds)
      (was : Every (λ d. is_outstanding d ≡ true → WasSent sent (data_of d)) ds) (h : IsHeldOn going ns first t sent) where
    abbrev cs : List ChunkPayloadData
    cs = t.flight.queue.inflight.chunks

    abbrev back : List ChunkPayloadData
    back = restored (back_by sack t.flight t.kept) t.flight.queue.inflight.chunks

    back-held : IsHeldOn going ns first (after_take_back sack t) sent
    back-held =
        let ks = kept_of t.kept in
        let u = after_take_back sack t in
        let like' = back-like sack t.flight t.kept ds like in
        let steady = steady-alike t.streams u.streams (returned-alike (taken_back_by sack t) t.streams) in
        let any : (m : ℕ) → list_any (is_of m) back ≡ list_any (is_of m) cs = λ m.
        any-plain (is_of m) (λ c. refl) back cs (are-plain ks back ds like' ∙ sym (are-plain ks cs ds like)) in
        let known = paired (λ c. Unit {0}) (IsKnownOn going first sent) (IsKnownOn going first sent) (known-like going first sent) ks back ds like'
        (every-all (λ c. Unit {0}) (λ c. tt) back) (known-there ks cs ds like h.stands.known was) in
        record {
          stands = grind (arith, nat_tests, common_steps);
          open' = all-open going t.streams u.streams (λ r _. steady.there r) ns h.open';
          sized = steady.sized h.sized;
          apart = steady.apart h.apart;
          size = h.size;
        }

-- ## Each call of the sender that most sessions do not have

-- where the call takes back what a SACK no longer reports
abbrev pub WhereBack : SenderOther → Type 0 → Type 0
WhereBack (takes_back sack back) T = T
WhereBack (closes st) T = ⊤
WhereBack (resets st) T = ⊤

module _ (going : ℕ → Bool) (first : ℕ) (s v : Session) (ns : List Numbered) (sent : List Entry) (h : HoldsOn going first s ns sent) where
  -- what is outstanding beside was made, so it got a TSN
  was-sent : (b : HasBeside going first s) → Every (λ d. is_outstanding d ≡ true → WasSent sent (data_of d)) b.goes.shadow.chunks
  was-sent b =
      let x = b.goes.shadow in
      let i = b.goes.plays.made in
      let there = b.goes.other.sending.sender.flight.queue.inflight.chunks in
      let is : there ≡ x.chunks = ap (λ (u : Transmission). u.flight.queue.inflight.chunks) x.sender in
      every-of (WasMade s.made) (λ d. is_outstanding d ≡ true → WasSent sent (data_of d))
      (λ d m o. found-sent-on going sent s.made (data_of d) h.made (m o)) x.chunks
      (subst (Every (WasMade s.made)) is (subst (λ ms. Every (WasMade ms) there) x.made
      (each-made going first i.sent b.goes.other.made there i.made i.holds.held.stands.known)))

  other-holds : (call : SenderOther) → SenderDoes call s v → IsHeldOn going ns first v.sending.sender sent → HoldsOn going first v ns sent
  other-holds call f held = grind (arith, nat_tests, common_steps)

  pub other-step : (call : SenderOther) → WhereBack call (HasBeside going first s) → ((r : ℕ) → renews r (of_sending call) ≡ true → going r ≡ false)
      → SenderDoes call s v → HoldsOn going first v ns sent
  other-step (takes_back sack back) b off f =
      other-holds (takes_back sack back) f (subst (λ u. IsHeldOn going ns first u sent) (sym f.exact)
      (back-held going first ns sent sack s.sending.sender b.goes.shadow.chunks b.goes.shadow.like (was-sent b) h.held))
  other-step (closes st) b off f =
      other-holds (closes st) f (subst (λ u. IsHeldOn going ns first u sent) (sym f.step.sender)
      (closes-held going first st (off st (same-yes st)) ns s.sending.sender sent h.held))
  other-step (resets st) b off f =
      other-holds (resets st) f (subst (λ u. IsHeldOn going ns first u sent) (sym f.step.sender)
      (resets-held going first st (off st (same-yes st)) ns s.sending.sender sent h.held))
