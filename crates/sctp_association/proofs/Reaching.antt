-- Each call of a receiver leads on from where calls led to.
use Rattle.std.proofs.Common.{◌≡◌, ℕ, ◌^◌, ◌<◌, Bool, true, false, List, [], ◌∷◌, ◌++◌, length, ◌≤◌, Option, Some, None, Result, Ok, Err, refl, ap, sym, ◌∙◌}
use Rattle.std.proofs.Common.{subst}
use Rattle.std.proofs.Math.Logic.{∥∥₁_map}
use Rattle.std.specs.Prelude.{not, ◌&&◌, if◌then◌else◌}
use Rattle.sctp_association.specs.Reached.{AreUsual, IsLimited, IsReached, IsUsual, most_user_data}
use Rattle.sctp_data.specs.declared.chunk.chunk_payload_data.ChunkPayloadData.{ChunkPayloadData}
use Rattle.sctp_data.specs.ForwardTsn.{ForwardTsn}
use Rattle.sctp_receiver.specs.declared.receiver.arrival.Arrival.{Arrival}
use Rattle.sctp_receiver.specs.declared.receiver.arrival.Arrival.TheVariants.{New, Repeat}
use Rattle.sctp_receiver.specs.declared.receiver.arrival.Forwarded.{Forwarded}
use Rattle.sctp_receiver.specs.declared.receiver.limits.Limits.{Limits}
use Rattle.sctp_receiver.specs.declared.receiver.refusal.ReceiverRefusal.{ReceiverRefusal}
use Rattle.sctp_receiver.specs.Calls.{Skips, TakesData}
use Rattle.sctp_receiver.specs.declared.receiver.refusal.ReceiverRefusal.TheVariants.{SsnTooFar, NamedSsnTooFar}
use Rattle.sctp_receiver.specs.Receiver.{Reception, after_discard, after_read, arrival_of, arrival_refusal, at_first, close_stream, data_refusal}
use Rattle.sctp_receiver.specs.Receiver.{discard_refusal}
use Rattle.sctp_receiver.specs.Receiver.{filter_of, follow_forward_tsn, forward_refusal, is_answered_complete, is_open, is_stale, open_stream, repeat_tsn}
use Rattle.sctp_receiver.specs.Receiver.{stream_of}
use Rattle.sctp_receiver.specs.Receiver.{with_filter, without_duplicates, Takes}
use Rattle.sctp_receiver.specs.ReceiverRuns.{Call, Follows, IsUnrefused, Makes, RunsUnrefused, Stand, accepted_after, at_start, messages_after}
use Rattle.sctp_receiver.specs.ReceiverRuns.{opens, closes, takes, discards, reports, reads, resets, forwards}
use Rattle.sctp_receiver.specs.Resets.{reset_refusal, reset_stream}
use Rattle.sctp_receiver.specs.Skips.{after_forward_tsn, names_too_far, past_closed_refusal, without_incomplete}
use Rattle.sctp_receiver.specs.Ssns.{is_too_far_on}
use Rattle.sctp_receiver.specs.TsnFilter.{has_come, with_tsn}

-- ## One call more at the end of a run

one-more : (old : Stand) (calls : List Call) (mid new : Stand) (c : Call) → RunsUnrefused old calls mid → IsUnrefused c mid.receiver → Follows c mid new
    → RunsUnrefused old (calls ++ c ∷ []) new
one-more old [] mid new c e u f = subst (λ s. RunsUnrefused s (c ∷ []) new) e (new, ((u, f), refl))
one-more old (x ∷ xs) mid new c r u f = (r.0, (r.1.0, one-more r.0 xs mid new c r.1.1 u f))

usual-more : (n : ℕ) (calls : List Call) (c : Call) → AreUsual n calls → IsUsual n c → AreUsual n (calls ++ c ∷ [])
usual-more n [] c all usual = (usual, tt)
usual-more n (x ∷ xs) c all usual = (all.0, usual-more n xs c all.1 usual)

module _ (n : ℕ) (c : Call) (old new : Reception) (usual : IsUsual n c) (unrefused : IsUnrefused c old) (made : Makes c old new) where
  step : (l : Limits) → IsReached l n old → IsReached l n new
  step l h =
      let s = h.stand in
      let next : Stand = record { receiver = new; accepted = accepted_after c s.accepted; read = messages_after c s.receiver s.read } in
      record {
        tsn = h.tsn;
        max = h.max;
        calls = h.calls ++ c ∷ [];
        stand = next;
        usual = usual-more n h.calls c h.usual usual;
        run = one-more (at_start h.tsn h.max (Some l)) h.calls s next c h.run (subst (IsUnrefused c) (sym h.there) unrefused)
            (record { receiver = subst (λ r. Makes c r new) (sym h.there) made; accepted = refl; read = refl });
        there = refl;
        usize = h.usize;
      }

  -- the limits stay the same
  leads : new.limits ≡ old.limits → ∥ IsLimited n old ∥₁ → ∥ IsLimited n new ∥₁
  leads same h = ∥∥₁_map h (λ h. record { limits = h.limits; own = same ∙ h.own; reached = step h.limits h.reached })

-- ## The calls of a receiver, by what they ensure

abbrev limits-in : Reception → Option Limits
limits-in r = r.limits

pub begun : (n tsn max : ℕ) (l : Limits) (r : Reception) → l.window < 2 ^ 64 → r ≡ at_first tsn max (Some l) → ∥ IsLimited n r ∥₁
begun n tsn max l r usize e = ∣ record {
  limits = l;
  own = ap limits-in e;
  reached = record {
    tsn = tsn;
    max = max;
    calls = [];
    stand = at_start tsn max (Some l);
    usual = tt;
    run = refl;
    there = sym e;
    usize = usize;
  };
} ∣₁

pub opened : (n s : ℕ) (old new : Reception) → s < n → new ≡ open_stream s old → is_open s old ≡ false → ∥ IsLimited n old ∥₁ → ∥ IsLimited n new ∥₁
opened n s old new few made shut = leads n (opens s) old new few tt (shut, made) (ap limits-in made)

pub closed : (n s : ℕ) (old new : Reception) → new ≡ close_stream s old → ∥ IsLimited n old ∥₁ → ∥ IsLimited n new ∥₁
closed n s old new made = leads n (closes s) old new tt tt made (ap limits-in made)

-- a chunk that is not refused for its number is refused for nothing else
pub not-too-far : (c : ChunkPayloadData) (r : Reception) → arrival_refusal c r ≡ None → data_refusal c r ≡ None
not-too-far c r e = by (not (has_come c.tsn (filter_of r)) && is_too_far_on c (stream_of c.stream_identifier r)) e
  where
    by : (b : Bool) → (if b then Some SsnTooFar else data_refusal c r) ≡ None → data_refusal c r ≡ None
    by true e = cc
    by false e = e

pub taken_limits : (c : ChunkPayloadData) (a : Arrival) (old new : Reception) → Takes c a old new → new.limits ≡ old.limits
taken_limits c (New complete) old new t = ap limits-in t.after
taken_limits c Repeat old new t = ap limits-in t

pub taken : (n : ℕ) (c : ChunkPayloadData) (a : Arrival) (old new : Reception) → c.tsn < 2 ^ 32 → length c.user_data ≤ most_user_data
    → arrival_refusal c old ≡ None → a ≡ arrival_of c.tsn (is_answered_complete a) old → Takes c a old new → ∥ IsLimited n old ∥₁ → ∥ IsLimited n new ∥₁
taken n c a old new fits short e answer made =
    leads n (takes c a) old new short (record { fits = fits; accepted = not-too-far c old e; answer = answer }) made (taken_limits c a old new made)

pub data_led : (n : ℕ) (c : ChunkPayloadData) (old new : Reception) (r : Result Arrival ReceiverRefusal) → c.tsn < 2 ^ 32
    → length c.user_data ≤ most_user_data → TakesData c old new r → ∥ IsLimited n old ∥₁ → ∥ IsLimited n new ∥₁
data_led n c old new (Ok a) fits short t h = taken n c a old new fits short (t.accepted refl) t.answer t.ok h
data_led n c old new (Err e) fits short t h = subst (λ r. ∥ IsLimited n r ∥₁) (sym t.err) h

pub dropped_limits : (tsn : ℕ) (r : Reception) → (after_discard tsn r).limits ≡ r.limits
dropped_limits tsn r = by (has_come tsn (filter_of r))
  where
    by : (b : Bool) → (if b then repeat_tsn tsn r else with_filter (with_tsn tsn (filter_of r)) r).limits ≡ r.limits
    by true = refl
    by false = refl

pub dropped : (n tsn : ℕ) (old new : Reception) → tsn < 2 ^ 32 → discard_refusal tsn old ≡ None → new ≡ after_discard tsn old
    → ∥ IsLimited n old ∥₁ → ∥ IsLimited n new ∥₁
dropped n tsn old new fits e made = leads n (discards tsn) old new tt (fits, e) made (ap limits-in made ∙ dropped_limits tsn old)

pub was_read : (n s : ℕ) (old new : Reception) → new ≡ after_read s old → ∥ IsLimited n old ∥₁ → ∥ IsLimited n new ∥₁
was_read n s old new made = leads n (reads s) old new tt tt made (ap limits-in made)

pub was_reset : (n s last : ℕ) (old new : Reception) → reset_refusal s last old ≡ None → new ≡ reset_stream s last old
    → ∥ IsLimited n old ∥₁ → ∥ IsLimited n new ∥₁
was_reset n s last old new e made = leads n (resets s last) old new tt e made (ap limits-in made)

pub reported : (n : ℕ) (old new : Reception) → new ≡ without_duplicates old → ∥ IsLimited n old ∥₁ → ∥ IsLimited n new ∥₁
reported n old new made = leads n reports old new tt tt made (ap limits-in made)

-- a FORWARD-TSN that is refused for no name is refused for its TSN alone
pub not-named-too-far : (f : ForwardTsn) (r : Reception) → past_closed_refusal f r ≡ None → forward_refusal f r ≡ None
not-named-too-far f r e = by (names_too_far f r) e
  where
    by : (b : Bool) → (if b then Some NamedSsnTooFar else forward_refusal f r) ≡ None → forward_refusal f r ≡ None
    by true e = cc
    by false e = e

pub skipped_limits : (f : ForwardTsn) (r : Reception) → (after_forward_tsn f r).limits ≡ r.limits
skipped_limits f r = by (is_stale f r)
  where
    by : (b : Bool) → (if b then r else without_incomplete f.new_cumulative_tsn (if b then r else follow_forward_tsn f r)).limits ≡ r.limits
    by true = refl
    by false = refl

pub skipped : (n : ℕ) (f : ForwardTsn) (old new : Reception) → f.new_cumulative_tsn < 2 ^ 32 → past_closed_refusal f old ≡ None
    → new ≡ after_forward_tsn f old → ∥ IsLimited n old ∥₁ → ∥ IsLimited n new ∥₁
skipped n f old new fits e made =
    leads n (forwards f) old new tt (fits, not-named-too-far f old e) made (ap limits-in made ∙ skipped_limits f old)

pub skip_led : (n : ℕ) (f : ForwardTsn) (old new : Reception) (r : Result Forwarded ReceiverRefusal) → f.new_cumulative_tsn < 2 ^ 32
    → Skips past_closed_refusal f old new r → ∥ IsLimited n old ∥₁ → ∥ IsLimited n new ∥₁
skip_led n f old new (Ok a) fits s h = skipped n f old new fits (s.accepted refl) s.ok h
skip_led n f old new (Err e) fits s h = subst (λ r. ∥ IsLimited n r ∥₁) (sym s.err) h
