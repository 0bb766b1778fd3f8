-- A receiver that is read refuses nothing of what a sender that keeps what is reported still needs taken.
use Rattle.sctp_delivery.proofs.Names.{nat_tests, common_steps, ◌≡◌, ℕ, zero, suc, ◌<◌, ◌^◌, List, [], ◌∷◌, length, ap, sym, subst, ◌∙◌, arith, inl, inr}
use Rattle.sctp_delivery.proofs.Names.{Option, Some, None, Contains, get_or, get_or_default, ChunkPayloadData, ForwardTsn, Limits, Transmission, Session, Call}
use Rattle.sctp_delivery.proofs.Names.{RunsTo, at_start, tsns_given, bytes_written, IsInFlight, MayMake}
use Rattle.sctp_sender.specs.declared.sender.Reported.{Reported}
use Rattle.sctp_delivery.specs.Refused.{IsInFlightSo, NoneInFlightIsRefused, NoneInFlightIsRefusedSo, NoneIsRefusedWhereRead, NoneIsRefusedWhereReadSo}
use Rattle.sctp_delivery.specs.Refused.{NoneMadeIsRefused}
use Rattle.sctp_delivery.specs.Returns.{AfterEachWithReturnsOfFewTsns, AreFewInFlightSo, CallOrReturn, RunsWithReturns, at_start_with, tsns_given_so}
use Rattle.sctp_delivery.proofs.ForwardLaw.{none-made}
use Rattle.sctp_delivery.proofs.Plain.{AreLike, IsLike, are-long, first_of, rest_of}
use Rattle.sctp_delivery.proofs.PlainFlights.{can-same, end-same, named-same, skip-same}
use Rattle.sctp_delivery.proofs.PlainRuns.{flying-of, goes, shadow, so}
use Rattle.sctp_delivery.proofs.PlainSessions.{kept_of}
use Rattle.sctp_delivery.proofs.RefusedLaw.{limits-same, none-in-flight, none-where-read}

-- the chunks at a place are alike
like-at : (ks : List (Option (List ℕ))) (cs ds : List ChunkPayloadData) → AreLike ks cs ds → (i : ℕ) (z : ChunkPayloadData) → i < length cs
    → (k : Option (List ℕ)) × IsLike k (get_or cs i z) (get_or ds i z)
like-at ks [] ds a i z lt = absurd (omega (arith, lt))
like-at ks (c ∷ cs) [] a i z lt = absurd a
like-at ks (c ∷ cs) (d ∷ ds) a zero z lt = (first_of ks, a.0)
like-at ks (c ∷ cs) (d ∷ ds) a (suc i) z lt = like-at (rest_of ks) cs ds a.1 i z (omega (arith, lt))

-- without limits
module _ (first size max most : ℕ) (cs : List Call) (d : Session) (small : first < 2 ^ 32) (some : 0 < size) where
  unlimited : (P : Session → Type 0) → ((run : RunsTo (at_start first size max most None) cs d)
      → tsns_given (at_start first size max most None) cs d run < 2 ^ 31 → P d) → (o : Option Limits) → o ≡ None
      → (run : RunsTo (at_start first size max most o) cs d) → tsns_given (at_start first size max most o) cs d run < 2 ^ 31 → P d
  unlimited P law None e run few = law run few
  unlimited P law (Some l) e run few = absurd (cc)

module _ (reported : Reported) (first size max most : ℕ) (limits : Option Limits) (calls : List CallOrReturn) (s : Session)
    (run : RunsWithReturns (at_start_with reported first size max most limits) calls s) (small : first < 2 ^ 32) (some : 0 < size)
    (few : tsns_given_so (at_start_with reported first size max most limits) calls s run < 2 ^ 31) (short : bytes_written s < 2 ^ 64) where
  abbrev flying : AreFewInFlightSo (at_start_with reported first size max most limits) calls s run
  flying = flying-of reported first size max most limits calls s run small few

  abbrev there : Session
  there = record {
    sending = (goes reported first size max most limits calls s run small flying short).other.sending;
    receiving = s.receiving;
    made = s.made;
    sacks = (goes reported first size max most limits calls s run small flying short).other.sacks;
    written = s.written;
  }

  -- what is in flight here is there, too
  in-flight : (x : ChunkPayloadData) → IsInFlightSo x s → IsInFlight x there
  in-flight x h =
      let w = shadow reported first size max most limits calls s run small flying short in
      let t = s.sending.sender in
      let cs = t.flight.queue.inflight.chunks in
      let at = like-at (kept_of t.kept) cs w.chunks w.like h.sent.0 h.chunk h.sent.1 in
      let d = get_or w.chunks h.sent.0 h.chunk in
      let like : IsLike at.0 h.chunk d = subst (λ c. IsLike at.0 c d) h.sent.2 at.1 in
      let long = are-long (kept_of t.kept) cs w.chunks w.like in
      let lt : h.sent.0 < length w.chunks = let l = h.sent.1 in omega (arith, l, long) in
      record {
        chunk = d;
        sent = subst (λ (u : Transmission). Contains u.flight.queue.inflight.chunks d) (sym w.sender)
            (h.sent.0, lt, get_or_default w.chunks h.sent.0 d h.chunk lt);
        kept = ap (λ (c : ChunkPayloadData). c.abandoned) (sym like.same) ∙ h.kept;
        same = grind (arith, nat_tests, common_steps);
      }

  sizes : s.sending.sender.max_message_size ≡ there.sending.sender.max_message_size
  sizes = sym (ap (λ (u : Transmission). u.max_message_size) (shadow reported first size max most limits calls s run small flying short).sender)

  without : s.receiving.receiver.limits ≡ None → limits ≡ None
  without e =
      let g = goes reported first size max most limits calls s run small flying short in
      sym (limits-same g.plays.plain.calls (at_start first size max most limits) g.other g.plays.plain.run) ∙ ap (λ r. r.receiver.limits) g.shadow.receiving ∙ e

  due-so : NoneInFlightIsRefusedSo s
  due-so none fits x h takable =
      so reported first size max most limits calls s run small flying short NoneInFlightIsRefused
      (λ ks r e. unlimited first size max most ks _ small some NoneInFlightIsRefused (none-in-flight first size max most ks _ small some)
      limits (without none) r
      (omega (arith, e, few)))
      (let e = sizes in omega (arith, e, fits)) x (in-flight x h) takable

  read-so : NoneIsRefusedWhereReadSo s
  read-so none fits unread x h there' =
      so reported first size max most limits calls s run small flying short NoneIsRefusedWhereRead
      (λ ks r e. unlimited first size max most ks _ small some NoneIsRefusedWhereRead (none-where-read first size max most ks _ small some)
      limits (without none) r
      (omega (arith, e, few)))
      (let e = sizes in omega (arith, e, fits)) unread x (in-flight x h) there'

  -- the same FORWARD-TSNs may be made
  may-make : (f : ForwardTsn) → MayMake f s.sending.sender → MayMake f there.sending.sender
  may-make f h =
      let w = shadow reported first size max most limits calls s run small flying short in
      let t = s.sending.sender in
      let ks = kept_of t.kept in
      subst (MayMake f) (sym w.sender) (elim h [
        | inl a ↦
            inl (a.0, (a.1.0 ∙ sym (skip-same t.flight ks w.chunks w.like a.0), named-same t.flight ks w.chunks w.like f.streams f.new_cumulative_tsn a.1.1))
        | inr a ↦ grind (arith, nat_tests, common_steps, can-same, end-same, named-same)
      ])

  made-so : NoneMadeIsRefused s
  made-so f may due =
      so reported first size max most limits calls s run small flying short NoneMadeIsRefused
      (λ ks r e. none-made first size max most limits ks _ small some r (omega (arith, e, few))) f (may-make f may) due

pub none-due : AfterEachWithReturnsOfFewTsns (λ first n gone calls s. NoneInFlightIsRefusedSo s)
none-due reported first size max most limits calls s run small some few short = due-so reported first size max most limits calls s run small some few short

pub none-read : AfterEachWithReturnsOfFewTsns (λ first n gone calls s. NoneIsRefusedWhereReadSo s)
none-read reported first size max most limits calls s run small some few short = read-so reported first size max most limits calls s run small some few short

pub none-forward : AfterEachWithReturnsOfFewTsns (λ first n gone calls s. NoneMadeIsRefused s)
none-forward reported first size max most limits calls s run small some few short = made-so reported first size max most limits calls s run small some few short
