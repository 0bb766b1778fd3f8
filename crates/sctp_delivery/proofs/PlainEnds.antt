-- Each session of a sender that keeps what is reported can end: the session beside it can, in which no gap ack block is taken.
use Rattle.sctp_delivery.proofs.Names.{nat_tests, common_steps, ◌≡◌, ℕ, ◌<◌, ◌+◌, ◌^◌, Bool, true, false, not, List, [], ◌∷◌, length, refl, ap, ap₂, sym, subst}
use Rattle.sctp_delivery.proofs.Names.{◌∙◌, arith, Option, Some, None, inl, inr, min, nat_le, ◌==◌, ◌&&◌, ◌||◌, filter, list_any, sum_by, both, not_both}
use Rattle.sctp_delivery.proofs.Names.{or-left, or-split, sum_by-cons, same-is, ChunkPayloadData, Limits, Reception, Transmission, Stand, Session, has_tsn}
use Rattle.sctp_delivery.proofs.Names.{filter_of, has_come, at_start, bytes_written, chunks_left, chunks_waiting, EachOtherIsReadOnce}
use Rattle.std.specs.Prelude.{max}
use Rattle.sctp_sender.specs.declared.sender.Reported.{Reported}
use Rattle.sctp_receiver.specs.Credit.{cost_of_chunks}
use Rattle.sctp_delivery.specs.Ending.{each_within, has_window, is_to_come, left_on, rest_cost}
use Rattle.sctp_delivery.specs.ReturnEndings.{AfterEachWithReturnsAndTsnsLeft, EndsWhereTakenSo, EndsWithAllReadSo}
use Rattle.sctp_delivery.specs.Returns.{AreFewInFlightSo, CallOrReturn, RunsWithReturns, at_start_with, tsns_given_so}
use Rattle.sctp_delivery.proofs.Besides.{IsBeside, IsCame}
use Rattle.sctp_delivery.proofs.EndDelivers.{due-to-come}
use Rattle.sctp_delivery.proofs.EndSessions.{ends-beside}
use Rattle.sctp_delivery.proofs.EndSteps.{RoomIn}
use Rattle.sctp_delivery.proofs.EndWindows.{grows-each, room-each}
use Rattle.sctp_delivery.proofs.Every.{Every, every-of, every-of-all, one-of}
use Rattle.sctp_delivery.proofs.NoneAbandoned.{each-of-others}
use Rattle.sctp_delivery.proofs.Plain.{AreLike, are-long, rest_of}
use Rattle.sctp_delivery.proofs.PlainRuns.{acknowledged-came, flying-of, goes, other, shadow}
use Rattle.sctp_delivery.proofs.PlainSessions.{as_plain, kept_of}
use Rattle.sctp_delivery.proofs.RefusedLaw.{limits-same}
use Rattle.sctp_delivery.proofs.SackLaws.{IsInStep, in-step}
use Rattle.sctp_delivery.proofs.TakenCalls.{HasCome}
use Rattle.sctp_delivery.proofs.TsnPlaces.{base}

-- ## What has to come first costs the same

-- a chunk is to come here and there; and where it is, it is not acknowledged, and has its bytes
same-to-come : (r : Reception) (ks : List (Option (List ℕ))) (cs ds : List ChunkPayloadData) → AreLike ks cs ds
    → Every (λ c. c.acked ≡ true → is_to_come r c ≡ false) cs → cost_of_chunks (filter (is_to_come r) ds) ≡ cost_of_chunks (filter (is_to_come r) cs)
same-to-come r ks [] [] a e = refl
same-to-come r ks [] (d ∷ ds) a e = absurd a
same-to-come r ks (c ∷ cs) [] a e = absurd a
same-to-come r ks (c ∷ cs) (d ∷ ds) a e = grind (arith, nat_tests, common_steps, not_both, sum_by-cons, same-to-come r (rest_of ks) cs ds a.1 e.1)

module _ (reported : Reported) (first size max' most : ℕ) (limits : Option Limits) (calls : List CallOrReturn) (s : Session)
    (run : RunsWithReturns (at_start_with reported first size max' most limits) calls s) (small : first < 2 ^ 32) (some : 0 < size)
    (few : tsns_given_so (at_start_with reported first size max' most limits) calls s run < 2 ^ 31) (short : bytes_written s < 2 ^ 64) where
  abbrev flying : AreFewInFlightSo (at_start_with reported first size max' most limits) calls s run
  flying = flying-of reported first size max' most limits calls s run small few

  abbrev n : ℕ
  n = tsns_given_so (at_start_with reported first size max' most limits) calls s run

  abbrev t : Transmission
  t = s.sending.sender

  abbrev cs : List ChunkPayloadData
  cs = s.sending.sender.flight.queue.inflight.chunks

  chunks-are : (other reported first size max' most limits calls s run small flying short).sending.sender.flight.queue.inflight.chunks
      ≡ (shadow reported first size max' most limits calls s run small flying short).chunks
  chunks-are = ap (λ (u : Transmission). u.flight.queue.inflight.chunks) (shadow reported first size max' most limits calls s run small flying short).sender

  came : Every (IsCame s.receiving.accepted) s.sending.sender.flight.queue.inflight.chunks
  came = every-of-all (IsCame s.receiving.accepted) cs
      (λ k c lt a. acknowledged-came reported first size max' most limits calls s run small some few short k c lt (or-left _ _ a))

  pub is-beside : IsBeside (other reported first size max' most limits calls s run small flying short) s
  is-beside = grind (arith, nat_tests, common_steps, shadow, chunks-are, came)

  -- what is acknowledged is not to come
  settled : Every (λ c. c.acked ≡ true → is_to_come s.receiving.receiver c ≡ false) s.sending.sender.flight.queue.inflight.chunks
  settled = every-of (IsCame s.receiving.accepted) (λ c. c.acked ≡ true → is_to_come s.receiving.receiver c ≡ false) one cs came
    where
      step : IsInStep (base first) (tsns_given_so (at_start_with reported first size max' most limits) calls s run)
          (other reported first size max' most limits calls s run small flying short)
      step =
          let p = (goes reported first size max' most limits calls s run small flying short).plays.plain in
          let e = p.given in
          subst (λ k. IsInStep (base first) k (other reported first size max' most limits calls s run small flying short)) e
          (in-step first size max' most limits p.calls _ p.run small (omega (arith, e, few)))

      each : Every (HasCome (base first) n s.receiving.receiver) s.receiving.accepted
      each = grind (arith, nat_tests, common_steps, shadow, step)

      has : (tsn : ℕ) → list_any (has_tsn tsn) s.receiving.accepted ≡ true → has_come tsn (filter_of s.receiving.receiver) ≡ true
      has tsn e = grind (arith, nat_tests, common_steps, one-of, each, same-is)

      one : (c : ChunkPayloadData) → IsCame s.receiving.accepted c → c.acked ≡ true → is_to_come s.receiving.receiver c ≡ false
      one c h a = elim (or-split (list_any (has_tsn c.tsn) s.receiving.accepted) c.abandoned (h a)) [
        | inl e ↦ by c.abandoned (has c.tsn e)
        | inr e ↦ ap (λ g. not (g || has_come c.tsn (filter_of s.receiving.receiver))) e
      ]
        where
          by : (b : Bool) → has_come c.tsn (filter_of s.receiving.receiver) ≡ true → not (b || has_come c.tsn (filter_of s.receiving.receiver)) ≡ false
          by true e = refl
          by false e = ap not e

  pub same-window : (o : Option Limits)
      → has_window o (other reported first size max' most limits calls s run small flying short).sending.sender s.receiving.receiver
      ≡ has_window o s.sending.sender s.receiving.receiver
  same-window o =
      let x = shadow reported first size max' most limits calls s run small flying short in
      let r = s.receiving.receiver in
      ap (λ u. has_window o u r) x.sender ∙ by o
    where
      x' : AreLike (kept_of s.sending.sender.kept) s.sending.sender.flight.queue.inflight.chunks
          (shadow reported first size max' most limits calls s run small flying short).chunks
      x' = (shadow reported first size max' most limits calls s run small flying short).like

      by : (o : Option Limits) → has_window o (as_plain s.sending.sender (shadow reported first size max' most limits calls s run small flying short).streams
          (shadow reported first size max' most limits calls s run small flying short).chunks) s.receiving.receiver
          ≡ has_window o s.sending.sender s.receiving.receiver
      by None = refl
      by (Some l) =
          let q = t.flight.queue.pending in
          let ks = kept_of t.kept in
          let ds = (shadow reported first size max' most limits calls s run small flying short).chunks in
          ap₂ (λ m b. nat_le (max m (min 1 (chunks_waiting t))) l.reach && ((b == 0 || nat_le (sum_by left_on s.receiving.receiver.streams + b) l.window)
          && each_within l.window q)) (sym (are-long ks cs ds x'))
          (ap (λ b. b + rest_cost q.selected q) (same-to-come s.receiving.receiver ks cs ds x' settled))

-- ## The law

pub all-end : AfterEachWithReturnsAndTsnsLeft EndsWhereTakenSo
all-end reported first size max' most limits calls s run small some few short takes now =
    let start = at_start first size max' most limits in
    let given' : tsns_given_so (at_start_with reported first size max' most limits) calls s run < 2 ^ 31 = omega (arith, few) in
    let g = goes reported first size max' most limits calls s run small (flying-of reported first size max' most limits calls s run small given') short in
    let d = g.other in
    let p = g.plays.plain in
    let x = is-beside reported first size max' most limits calls s run small some given' short in
    let e0 = p.given in
    let waiting = ap (λ (u : Transmission). chunks_waiting u) g.shadow.sender in
    let long = are-long (kept_of s.sending.sender.kept) s.sending.sender.flight.queue.inflight.chunks g.shadow.chunks g.shadow.like in
    let left = ap (λ (u : Transmission). chunks_left u) g.shadow.sender in
    let h = both (has_window s.receiving.receiver.limits s.sending.sender s.receiving.receiver)
    (nat_le s.sending.sender.max_message_size s.receiving.receiver.max_message_size) takes in
    let enough : nat_le d.sending.sender.max_message_size d.receiving.receiver.max_message_size ≡ true =
    ap₂ (λ (u : Transmission) (r : Stand). nat_le u.max_message_size r.receiver.max_message_size) g.shadow.sender g.shadow.receiving ∙ h.1 in
    let window : has_window d.receiving.receiver.limits d.sending.sender d.receiving.receiver ≡ true = grind (arith, nat_tests, common_steps, same-window) in
    let room : RoomIn limits d = room-each limits d (due-to-come first size max' most limits p.calls d small some p.run (omega (arith, e0, given')))
    (subst (λ o. has_window o d.sending.sender d.receiving.receiver ≡ true) (limits-same p.calls start d p.run) window) in
    let e = ends-beside first size max' most limits p.calls d small some p.run (omega (arith, e0, waiting, few)) enough grows-each room now s x in
    let less = e.few-sacks in
    let made = e.few-made in
    let same-made = ap length g.shadow.made in
    record {
      calls = e.calls;
      ended = e.ended;
      run = e.run;
      delivery = e.delivery;
      acked = e.acked;
      given = e.given ∙ waiting;
      written = e.written;
      sacks = omega (arith, less, left, long);
      made = omega (arith, made, left, long, same-made);
      exhausted = e.exhausted;
      read = subst (λ xs. EachOtherIsReadOnce xs e.ended) p.left e.read;
    }

pub all-read : AfterEachWithReturnsAndTsnsLeft EndsWithAllReadSo
all-read reported first size max' most limits calls s run small some few short none takes now =
    let e = all-end reported first size max' most limits calls s run small some few short takes now in
    (e, each-of-others e.ended (subst (λ gone. EachOtherIsReadOnce gone e.ended) none e.read))
