-- What each call asks for, so that nothing is old in the session behind it.
use Rattle.std.proofs.Common.{◌≡◌, ◌+◌, ◌<◌, ◌≤◌, ◌^◌, ℕ, Bool, true, false, List, [], ◌∷◌, length, map, Option, Some, None, refl, ap, sym}
use Rattle.std.proofs.Common.{subst}
use Rattle.std.proofs.Common.{◌∙◌, arith}
use Rattle.std.specs.Prelude.{Contains, if◌then◌else◌}
use Rattle.std.specs.List.{list_all}
use Rattle.sctp_association.proofs.Long.{Allows, Long, ages-in, ages-of, distinct-of, first-of, holds-of, near-of}
use Rattle.sctp_association.specs.Hosts.{bytes_of}
use Rattle.sctp_data.specs.declared.chunk.chunk_payload_data.ChunkPayloadData.{ChunkPayloadData}
use Rattle.sctp_data.specs.PayloadData.{data_of}
use Rattle.sctp_data.specs.SelectiveAck.{Sack}
use Rattle.sctp_delivery.proofs.Cases.{at-test}
use Rattle.sctp_delivery.proofs.Every.{Every, every-contained, every-joined, every-mapped, every-of}
use Rattle.sctp_delivery.proofs.EveryRuns.{next-same, restored-tsns}
use Rattle.sctp_delivery.proofs.FewInFlight.{IsInRun, IsSmall, sack-place}
use Rattle.sctp_delivery.proofs.GivenTsns.{as-long, taken-numbered}
use Rattle.sctp_delivery.proofs.HeldWeights.{weighs, weighs-so}
use Rattle.sctp_delivery.proofs.Kept.{held-weighs}
use Rattle.sctp_delivery.proofs.Names.{held_weight, is_on}
use Rattle.sctp_delivery.proofs.Sessions.{all-pass, fails}
use Rattle.sctp_delivery.proofs.Stands.{more-made, more-reported}
use Rattle.sctp_delivery.proofs.YoungReads.{none-fail}
use Rattle.sctp_delivery.specs.Complete.{fragments_held, fragments_on}
use Rattle.sctp_delivery.specs.EveryCall.{AnyCall, FollowsAny, ReceiverDoes, ReceiverOther, RunsAny, SenderDoes, makes, of_receiving, of_sending, resets}
use Rattle.sctp_delivery.specs.EveryCall.{takes_back}
use Rattle.sctp_delivery.specs.EveryRecent.{IsPassedYoung, IsRecentAny, IsYoungAny, aged_any}
use Rattle.sctp_delivery.specs.ReceiverCalls as incoming
use Rattle.sctp_delivery.specs.ReceiverCalls.{ReceiverCall}
use Rattle.sctp_delivery.specs.Recent.{Aged, HoldsRecent, IsForwardYoung, IsRecent, IsYoung, new_chunks, older}
use Rattle.sctp_delivery.specs.SenderCalls as outgoing
use Rattle.sctp_delivery.specs.SenderCalls.{Made, Write, data_chunk, forward_tsn, next_chunk, takes_sack, with_chunk}
use Rattle.sctp_delivery.specs.Session.{Call, Follows, ReceiverFollows, SenderFollows, Session, count_in_flight, of_receiver, of_sender}
use Rattle.sctp_receiver.specs.Receiver.{stream_of}
use Rattle.sctp_receiver.specs.ReceiverRuns.{Stand}
use Rattle.sctp_receiver.specs.declared.receiver.arrival.Arrival.TheVariants.{New}
use Rattle.sctp_sender.specs.Flight.{Flight, after_sack, is_outdated, sack_refusal, take_sack}
use Rattle.sctp_sender.specs.Keeping.{restored}
use Rattle.sctp_sender.specs.Sender.{Transmission, back_by}
use Rattle.sctp_sender.specs.SenderRuns.{Ledger}
use Rattle.sctp_sender.specs.declared.sender.flight.Released.{Released}
use Rattle.sctp_sender.specs.declared.sender.flight.kept.TakenBack.{TakenBack}
use Rattle.sctp_util.specs.Serial.{at_or_before, comes_before, distance}

-- ## A SACK

few-sacked : (k : Sack) (f : Flight) → IsSmall k.cumulative_tsn_ack → length f.queue.inflight.chunks < 2 ^ 31 → sack_refusal k f ≡ None → IsInRun f
    → length (after_sack k f).queue.inflight.chunks ≤ length f.queue.inflight.chunks
few-sacked k f small few none h = by (is_outdated k f) refl
  where
    by : (b : Bool) → is_outdated k f ≡ b → length (if b then f else take_sack k f).queue.inflight.chunks ≤ length f.queue.inflight.chunks
    by true e = omega arith
    by false e =
        let n = length f.queue.inflight.chunks in
        let at = sack-place k f small none h e in
        let total = (taken-numbered f.acked_tsn n _ k f few at.0 at.1 h).total in
        let same = ap (λ b. length (if b then f else take_sack k f).queue.inflight.chunks) e in
        omega (arith, total, same)

next-sacked : (k : Sack) (f : Flight) → (after_sack k f).next_tsn ≡ f.next_tsn
next-sacked k f = by (is_outdated k f)
  where
    by : (b : Bool) → (if b then f else take_sack k f).next_tsn ≡ f.next_tsn
    by true = refl
    by false = refl

module _ (st : Long) where
  abbrev before : ChunkPayloadData → Bool
  before c = comes_before c.tsn st.ran.session.sending.sender.flight.next_tsn

  -- ## A call by which no TSN is given out, and nothing is held that was not

  quiet-allows : (c : AnyCall) (t : Session) → t.receiving ≡ st.ran.session.receiving
      → t.sending.sender.flight.next_tsn ≡ st.ran.session.sending.sender.flight.next_tsn → count_in_flight t ≤ count_in_flight st.ran.session
      → t.written ≡ st.ran.session.written → IsRecentAny c st.ran.session → IsYoungAny c (ages-of st) → IsPassedYoung c (ages-of st) → Allows st c t
  quiet-allows c t same is count written q y z = record {
    recent = q;
    flying = let few = (near-of st).few in omega (arith, count, few);
    young = y;
    holds = λ stream.
        subst (λ (n : ℕ). list_all (λ (d : ChunkPayloadData). comes_before d.tsn n) (fragments_held stream t.receiving.receiver) ≡ true) (sym is)
        (subst (λ (r : Stand). list_all before (fragments_held stream r.receiver) ≡ true) (sym same) (holds-of st stream));
    passed = z;
    short = subst (λ (ws : List Write). bytes_of ws < 2 ^ 64) (sym written) st.short;
  }

  pub back-allows : (k : Sack) (back : List TakenBack) (t : Session) → SenderDoes (takes_back k back) st.ran.session t
      → Allows st (of_sending (takes_back k back)) t
  back-allows k back t f =
      let u = st.ran.session.sending.sender in
      let cs = u.flight.queue.inflight.chunks in
      let long = ap (λ (v : Transmission). length v.flight.queue.inflight.chunks) f.exact in
      let restored-long = as-long (restored (back_by k u.flight u.kept) cs) cs (restored-tsns (back_by k u.flight u.kept) cs) in
      quiet-allows (of_sending (takes_back k back)) t (ap (λ (x : Session). x.receiving) f.after) (next-same (takes_back k back) st.ran.session t f)
      (omega (arith, long, restored-long)) (ap (λ (x : Session). x.written) f.after) tt tt tt

  pub reset-allows : (stream : ℕ) (t : Session) → SenderDoes (resets stream) st.ran.session t → Allows st (of_sending (resets stream)) t
  reset-allows stream t f =
      let long = ap (λ (v : Transmission). length v.flight.queue.inflight.chunks) f.step.sender in
      quiet-allows (of_sending (resets stream)) t (ap (λ (x : Session). x.receiving) f.after) (next-same (resets stream) st.ran.session t f)
      (omega (arith, long)) (ap (λ (x : Session). x.written) f.after) tt tt tt

  pub sack-next : (k : Sack) (gone : List Released) (t : Session) → SenderFollows (takes_sack k gone) st.ran.session t
      → t.sending.sender.flight.next_tsn ≡ st.ran.session.sending.sender.flight.next_tsn
  sack-next k gone t f = ap (λ (v : Transmission). v.flight.next_tsn) f.exact ∙ next-sacked k st.ran.session.sending.sender.flight

  pub sack-allows : (k : Sack) (gone : List Released) (t : Session) → SenderFollows (takes_sack k gone) st.ran.session t
      → at_or_before k.cumulative_tsn_ack st.ran.session.receiving.receiver.cumulative_tsn ≡ true → Allows st (makes (of_sender (takes_sack k gone))) t
  sack-allows k gone t f q =
      let i = near-of st in
      let long = ap (λ (v : Transmission). length v.flight.queue.inflight.chunks) f.exact in
      let fewer = few-sacked k st.ran.session.sending.sender.flight
      (every-contained (λ (x : Sack). IsSmall x.cumulative_tsn_ack) st.ran.session.sacks k f.handed i.regular.regular.sacks) i.few f.accepted
      i.regular.regular.numbered in
      quiet-allows (makes (of_sender (takes_sack k gone))) t (ap (λ (x : Session). x.receiving) f.after) (sack-next k gone t f) (omega (arith, long, fewer))
      (ap (λ (x : Session). x.written) f.after) q tt tt

  -- ## A call of the receiver

  weight-none : (stream : ℕ) → held_weight (fails before) (stream_of stream st.ran.session.receiving.receiver) ≡ 0
  weight-none stream =
      let o = stream_of stream st.ran.session.receiving.receiver in sym (held-weighs (fails before) o) ∙ none-fail before (fragments_on o) (holds-of st stream)

  held-by : (t : Session) → t.sending ≡ st.ran.session.sending
      → ((stream : ℕ) → held_weight (fails before) (stream_of stream t.receiving.receiver) ≡ 0) → HoldsRecent t
  held-by t same none stream =
      let o = stream_of stream t.receiving.receiver in
      subst (λ (l : Ledger). list_all (λ (c : ChunkPayloadData). comes_before c.tsn l.sender.flight.next_tsn) (fragments_on o) ≡ true) (sym same)
      (all-pass before (fragments_on o) (held-weighs (fails before) o ∙ none stream))

  held-after : (call : ReceiverCall) (t : Session) → ReceiverFollows call st.ran.session t → IsRecent (of_receiver call) st.ran.session → (stream : ℕ)
      → held_weight (fails before) (stream_of stream t.receiving.receiver) ≡ 0
  held-after (incoming.takes c (New said)) t f q stream =
      let h = weighs (fails before) stream (incoming.takes c (New said)) st.ran.session t f in
      let z = weight-none stream in
      let none : ◌≡◌ {A = ℕ} (if is_on stream c then fails before c else 0) 0 = at-test (λ b. (if b then fails before c else 0) ≡ 0)
      (is_on stream c) (λ on. ap (λ b. if b then 0 else 1) q) (λ off. refl) in
      omega (arith, h, z, none)
  held-after call t f q stream =
      let h = weighs (fails before) stream call st.ran.session t f in let z = weight-none stream in omega (arith, h, z)

  pub receiver-allows : (call : ReceiverCall) (t : Session) → ReceiverFollows call st.ran.session t → IsRecent (of_receiver call) st.ran.session
      → IsYoung (of_receiver call) (ages-of st) → IsForwardYoung (of_receiver call) (ages-of st) → Allows st (makes (of_receiver call)) t
  receiver-allows call t f q y z =
      let same = ap (λ (x : Session). x.sending) f.after in
      record {
        recent = q;
        flying = subst (λ (l : Ledger). length l.sender.flight.queue.inflight.chunks < 2 ^ 31) (sym same) (near-of st).few;
        young = y;
        holds = held-by t same (held-after call t f q);
        passed = z;
        short = subst (λ (ws : List Write). bytes_of ws < 2 ^ 64) (sym (ap (λ (x : Session). x.written) f.after)) st.short;
      }

  pub other-allows : (call : ReceiverOther) (t : Session) → ReceiverDoes call st.ran.session t → IsRecentAny (of_receiving call) st.ran.session
      → IsPassedYoung (of_receiving call) (ages-of st) → Allows st (of_receiving call) t
  other-allows call t f q z =
      let same = ap (λ (x : Session). x.sending) f.after in
      record {
        recent = q;
        flying = subst (λ (l : Ledger). length l.sender.flight.queue.inflight.chunks < 2 ^ 31) (sym same) (near-of st).few;
        young = tt;
        holds = held-by t same (λ stream.
            let h = weighs-so (fails before) stream call st.ran.session t (distinct-of st) f in
            let none = weight-none stream in
            omega (arith, h, none));
        passed = z;
        short = subst (λ (ws : List Write). bytes_of ws < 2 ^ 64) (sym (ap (λ (x : Session). x.written) f.after)) st.short;
      }

-- ## What is old is what was made

new-made : (call : Call) (old v : Session) → Follows call old v
    → Every (λ (a : Aged). Contains v.made a.chunk) (map (λ m. record { chunk = m; age = 1 }) (new_chunks call old))
new-made (of_sender (outgoing.sends now)) old v f = by (next_chunk now old.sending.sender) (ap (λ (x : Session). x.made) f.after)
  where
    by : (o : Option ChunkPayloadData) → v.made ≡ with_chunk o old.made
        → Every (λ (a : Aged). Contains v.made a.chunk) (map (λ m. record { chunk = m; age = 1 }) (with_chunk o []))
    by None e = tt
    by (Some c) e = (subst (λ (ms : List Made). Contains ms (data_chunk (data_of c))) (sym e) (0, omega arith, refl), tt)
new-made (of_sender (outgoing.forwards tsn g)) old v f =
    (subst (λ (ms : List Made). Contains ms (forward_tsn g)) (sym (ap (λ (x : Session). x.made) f.after)) (0, omega arith, refl), tt)
new-made (of_sender (outgoing.forwards_within bytes g)) old v f =
    (subst (λ (ms : List Made). Contains ms (forward_tsn g)) (sym (ap (λ (x : Session). x.made) f.after)) (0, omega arith, refl), tt)
new-made call old v f = tt

-- what was made is there still, and the SACKs
pub record StillThere (old v : Session) : Type 0 where
  pub made : (m : Made) → Contains old.made m → Contains v.made m
  pub sacks : (k : Sack) → Contains old.sacks k → Contains v.sacks k

pub still-there : (c : AnyCall) (old v : Session) → FollowsAny c old v → StillThere old v
still-there (makes (of_sender call)) old v f = record {
  made = λ m h. subst (λ (ms : List Made). Contains ms m) (sym (ap (λ (x : Session). x.made) f.after)) (more-made call old.sending.sender old.made m h);
  sacks = λ k h. subst (λ (ks : List Sack). Contains ks k) (sym (ap (λ (x : Session). x.sacks) f.after)) h;
}
still-there (makes (of_receiver call)) old v f = record {
  made = λ m h. subst (λ (ms : List Made). Contains ms m) (sym (ap (λ (x : Session). x.made) f.after)) h;
  sacks = λ k h.
      subst (λ (ks : List Sack). Contains ks k) (sym (ap (λ (x : Session). x.sacks) f.after)) (more-reported call old.receiving.receiver old.sacks k h);
}
still-there (of_sending call) old v f = record {
  made = λ m h. subst (λ (ms : List Made). Contains ms m) (sym (ap (λ (x : Session). x.made) f.after)) h;
  sacks = λ k h. subst (λ (ks : List Sack). Contains ks k) (sym (ap (λ (x : Session). x.sacks) f.after)) h;
}
still-there (of_receiving call) old v f = record {
  made = λ m h. subst (λ (ms : List Made). Contains ms m) (sym (ap (λ (x : Session). x.made) f.after)) h;
  sacks = λ k h. subst (λ (ks : List Sack). Contains ks k) (sym (ap (λ (x : Session). x.sacks) f.after)) h;
}

abbrev AreMadeIn : Session → List Aged → Type 0
AreMadeIn s ages = Every (λ (a : Aged). Contains s.made a.chunk) ages

made-after : (c : AnyCall) (old v : Session) (ages : List Aged) → FollowsAny c old v → AreMadeIn old ages → AreMadeIn v (aged_any c old v ages)
made-after (makes call) old v ages f h =
    let given = distance old.sending.sender.flight.next_tsn v.sending.sender.flight.next_tsn in
    every-joined (λ (a : Aged). Contains v.made a.chunk) (map (λ m. record { chunk = m; age = 1 }) (new_chunks call old)) (map (older given) ages)
    (new-made call old v f)
    (every-mapped (λ (a : Aged). Contains old.made a.chunk) (λ (a : Aged). Contains v.made a.chunk) (older given)
    (λ a c. (still-there (makes call) old v f).made a.chunk c) ages h)
made-after (of_sending call) old v ages f h =
    every-of (λ (a : Aged). Contains old.made a.chunk) (λ (a : Aged). Contains v.made a.chunk)
    (λ a c. (still-there (of_sending call) old v f).made a.chunk c) ages h
made-after (of_receiving call) old v ages f h =
    every-of (λ (a : Aged). Contains old.made a.chunk) (λ (a : Aged). Contains v.made a.chunk)
    (λ a c. (still-there (of_receiving call) old v f).made a.chunk c) ages h

made-in : (ages : List Aged) (old : Session) (cs : List AnyCall) (new : Session) (r : RunsAny old cs new) → AreMadeIn old ages
    → AreMadeIn new (ages-in ages old cs new r)
made-in ages old [] new r h = subst (λ (s : Session). AreMadeIn s ages) (sym r) h
made-in ages old (c ∷ cs) new r h = made-in (aged_any c old r.0 ages) r.0 cs new r.1.1 (made-after c old r.0 ages r.1.0 h)

pub aged-made : (st : Long) (a : Aged) → Contains (ages-of st) a → Contains st.ran.session.made a.chunk
aged-made st a c =
    every-contained (λ (x : Aged). Contains st.ran.session.made x.chunk) (ages-of st) a c
    (made-in [] (first-of st.ran) st.ran.calls st.ran.session st.ran.run tt)

-- ## Where no TSN is given out, nothing grows older

pub older-none : (g : ℕ) → g ≡ 0 → (ages : List Aged) → map (older g) ages ≡ ages
older-none g none [] = refl
older-none g none (a ∷ ages) =
    let same : a.age + g ≡ a.age = omega (arith, none) in
    let one : older g a ≡ a = ap (λ (n : ℕ). record a { age = n }) same in
    ap (λ (x : Aged). x ∷ map (older g) ages) one ∙ ap (λ (xs : List Aged). a ∷ xs) (older-none g none ages)
