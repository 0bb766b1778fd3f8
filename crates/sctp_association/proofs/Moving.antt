-- A SACK that is taken makes of the sending half what it is to make.
use Rattle.std.proofs.Common.{◌≡◌, ℕ, ◌-◌, Bool, true, List, length, None, refl, ap, sym, subst, ◌∙◌}
use Rattle.std.specs.Prelude.{◌==◌, not, if◌then◌else◌, Result, Ok}
use Rattle.sctp_association.specs.Acks.{acked_by, grown_by}
use Rattle.sctp_association.specs.Paths.{FollowsSack, IsAcked, IsMissedBefore, acked_with, advances, cleared_by, gone_by, measured_by, missing_before}
use Rattle.sctp_association.specs.Paths.{sent_once, trips_of}
use Rattle.sctp_association.specs.Sending.{flight_of, t3_after}
use Rattle.sctp_association.specs.declared.outbound.Outbound.{Outbound}
use Rattle.sctp_data.specs.SelectiveAck.{Sack}
use Rattle.sctp_path.specs.Congestion.{Control, after_repeats}
use Rattle.sctp_sender.specs.Calls.{Acknowledges}
use Rattle.sctp_sender.specs.Sender.{Transmission, taken_back_by}
use Rattle.sctp_sender.specs.declared.sender.Acked.{Acked}
use Rattle.sctp_sender.specs.declared.sender.flight.Released.{Released}
use Rattle.sctp_sender.specs.declared.sender.flight.kept.TakenBack.{TakenBack}
use Rattle.sctp_sender.specs.declared.sender.refusal.SenderRefusal.{SenderRefusal}
use Rattle.sctp_stream.specs.Stats.{count_up}
use Rattle.sctp_util.specs.Serial.{distance}

-- what is acknowledged is followed
pub record IsFollowed (now before flight : ℕ) (gone : List Released) (old new : Outbound) : Type 0 where
  pub grown : new.congestion ≡ grown_by (acked_by before flight gone old.sender) gone old.congestion
  pub trips : trips_of new ≡ measured_by now (sent_once gone) (trips_of old)
  pub failures : new.failures ≡ cleared_by old.peer_window gone old.failures
  pub timer : new.timer.at ≡ (if not (old.sender.flight.acked_tsn == before) then None else old.timer.at)
  pub rest : new ≡ record old {
    congestion = new.congestion;
    rto = new.rto;
    timer = new.timer;
    failures = new.failures;
    measured = new.measured;
    burst = None;
    is_skip_due = true;
  }

-- the sender took the SACK, and so much came back
abbrev pub with_sack : Sack → Outbound → Transmission → List TakenBack → Outbound
with_sack k o u back = record o {
  sender = u;
  came_back = count_up (o.came_back - distance o.sender.flight.acked_tsn u.flight.acked_tsn) (length back);
  peer_window = k.advertised_receiver_window_credit;
  congestion = after_repeats k.duplicate_tsn o.congestion;
}

module _ (k : Sack) (now : ℕ) (old : Outbound) where
  abbrev before-now : ℕ
  before-now = old.sender.flight.acked_tsn

  abbrev flight-now : ℕ
  flight-now = flight_of old.sender.flight.queue.inflight.chunks

  acked-by : (new : Outbound)
      → IsFollowed now before-now flight-now (gone_by k old.sender) (with_sack k old (acked_with k old.sender) (taken_back_by k old.sender)) new
      → IsAcked k now old new
  acked-by new f =
      let sender : new.sender ≡ acked_with k old.sender = ap (λ (o : Outbound). o.sender) f.rest in
      let came : new.came_back ≡ (with_sack k old (acked_with k old.sender) (taken_back_by k old.sender)).came_back =
      ap (λ (o : Outbound). o.came_back) f.rest in
      let window : new.peer_window ≡ k.advertised_receiver_window_credit = ap (λ (o : Outbound). o.peer_window) f.rest in
      record {
        sender = sender;
        came_back = came;
        peer_window = window;
        congestion = f.grown;
        trips = f.trips;
        failures = f.failures;
        timer = f.timer;
        rest = subst (λ (o : Outbound). o ≡ record old {
          sender = o.sender;
          came_back = o.came_back;
          peer_window = o.peer_window;
          congestion = o.congestion;
          rto = o.rto;
          measured = o.measured;
          failures = o.failures;
          timer = o.timer;
          burst = None;
          is_skip_due = true;
        }) (sym f.rest) refl;
      }

  module _ (before flight : ℕ) (gone : List Released) (back : List TakenBack) (u : Transmission) (mid acked : Outbound) where
    followed-by : before ≡ before-now → flight ≡ flight-now → gone ≡ gone_by k old.sender → back ≡ taken_back_by k old.sender
        → u ≡ acked_with k old.sender → mid ≡ with_sack k old u back → IsFollowed now before flight gone mid acked → IsAcked k now old acked
    followed-by before-is flight-is gone-is back-is u-is mid-is f =
        acked-by acked (
        subst (λ (l : List TakenBack). IsFollowed now before-now flight-now (gone_by k old.sender) (with_sack k old (acked_with k old.sender) l) acked) back-is
        (
        subst (λ (t : Transmission). IsFollowed now before-now flight-now (gone_by k old.sender) (with_sack k old t back) acked) u-is (
        subst (λ (g : List Released). IsFollowed now before-now flight-now g (with_sack k old u back) acked) gone-is (
        subst (λ (n : ℕ). IsFollowed now before-now n gone (with_sack k old u back) acked) flight-is (
        subst (λ (n : ℕ). IsFollowed now n flight gone (with_sack k old u back) acked) before-is (
        subst (λ (m : Outbound). IsFollowed now before flight gone m acked) mid-is f
        ))))))

  mid-is : (note : Outbound) (u : Transmission) (back : List TakenBack) (before len : ℕ) (twice : Control) (dups : List ℕ)
      → note ≡ record old { sender = u; came_back = count_up (old.came_back - distance before u.flight.acked_tsn) len }
      → before ≡ before-now → len ≡ length back → dups ≡ k.duplicate_tsn → twice ≡ after_repeats dups note.congestion
      → record note { peer_window = k.advertised_receiver_window_credit; congestion = twice } ≡ with_sack k old u back
  mid-is note u back before len twice dups note-is before-is len-is dups-is twice-is =
      let window : ℕ = k.advertised_receiver_window_credit in
      let control : twice ≡ after_repeats k.duplicate_tsn old.congestion =
      twice-is ∙ ap (λ (l : List ℕ). after_repeats l note.congestion) dups-is
      ∙ ap (λ (o : Outbound). after_repeats k.duplicate_tsn o.congestion) note-is in
      let made : ℕ → ℕ → Control → Outbound = λ n l c. record old {
        sender = u;
        came_back = count_up (old.came_back - distance n u.flight.acked_tsn) l;
        peer_window = window;
        congestion = c;
      } in
      ap (λ (o : Outbound). record o { peer_window = window; congestion = twice }) note-is
      ∙ ap (λ (n : ℕ). made n len twice) before-is ∙ ap (λ (l : ℕ). made before-now l twice) len-is
      ∙ ap (λ (c : Control). made before-now (length back) c) control

  pub follows_sack : (a : Acked) (r : Result Acked SenderRefusal) (u : Transmission) → r ≡ Ok a → Acknowledges k old.sender u r
      → (before flight : ℕ) → before ≡ old.sender.flight.acked_tsn → flight ≡ flight_of old.sender.flight.queue.inflight.chunks
      → (note : Outbound) (len : ℕ) (twice : Control) (dups : List ℕ)
      → note ≡ record old { sender = u; came_back = count_up (old.came_back - distance before u.flight.acked_tsn) len }
      → len ≡ length a.taken_back.items → dups ≡ k.duplicate_tsn → twice ≡ after_repeats dups note.congestion
      → (gone later : List Released) → gone ≡ a.released.items → later ≡ a.released.items → (acked missed new : Outbound)
      → IsFollowed now before flight gone (record note { peer_window = k.advertised_receiver_window_credit; congestion = twice }) acked
      → (behind : ℕ) → behind ≡ acked.sender.flight.acked_tsn
      → IsMissedBefore now (sent_once later) (missing_before k later (not (behind == before)) acked) acked missed
      → new.timer.at ≡ t3_after now missed.rto.rto missed.sender.flight.queue.inflight.chunks missed.timer.at → new ≡ record missed { timer = new.timer }
      → FollowsSack k now old new
  follows_sack a r u is took before flight before-is flight-is note len twice dups note-is len-is dups-is twice-is gone later gone-is later-is acked missed new
      f
      behind behind-is misses timer rest =
      let P : Result Acked SenderRefusal → Type 0 = λ q. Acknowledges k old.sender u q in
      let h : Acknowledges k old.sender u (Ok a) = subst P is took in
      let takes : IsAcked k now old acked =
      followed-by before flight gone a.taken_back.items u (record note { peer_window = k.advertised_receiver_window_credit; congestion = twice }) acked
      before-is flight-is (gone-is ∙ h.answer) h.back h.ok
      (mid-is note u a.taken_back.items before len twice dups note-is before-is len-is dups-is twice-is) f in
      let has-same : not (behind == before) ≡ advances k old.sender =
      ap (λ (n : ℕ). not (n == before)) behind-is ∙ ap (λ (t : Transmission). not (t.flight.acked_tsn == before)) takes.sender
      ∙ ap (λ (n : ℕ). not ((acked_with k old.sender).flight.acked_tsn == n)) before-is in
      record {
        acked = acked;
        missed = missed;
        takes = takes;
        misses = subst (λ (g : List Released). IsMissedBefore now (sent_once g) (missing_before k g (advances k old.sender) acked) acked missed)
            (later-is ∙ h.answer)
            (subst (λ (b : Bool). IsMissedBefore now (sent_once later) (missing_before k later b acked) acked missed) has-same misses);
        timer = timer;
        rest = rest;
      }
