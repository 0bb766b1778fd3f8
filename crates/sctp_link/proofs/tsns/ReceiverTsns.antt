-- The TSNs of a receiver without limits, as its calls leave them.
use Rattle.std.proofs.Common.{◌≡◌, ◌<◌, ◌^◌, Bool, true, false, List, [], ◌∷◌, ◌++◌, None, Some, Option, refl, ap, sym, ◌∙◌, Result, Ok, Err}
use Rattle.std.specs.Prelude.{if◌then◌else◌, OnOk, OnErr}
use Rattle.sctp_data.specs.declared.chunk.chunk_payload_data.ChunkPayloadData.{ChunkPayloadData}
use Rattle.sctp_data.specs.ForwardTsn.{ForwardTsn}
use Rattle.sctp_receiver.specs.declared.receiver.arrival.Arrival.{Arrival}
use Rattle.sctp_receiver.specs.declared.receiver.arrival.Arrival.TheVariants.{New, Repeat}
use Rattle.sctp_receiver.specs.declared.receiver.refusal.ReceiverRefusal.{ReceiverRefusal}
use Rattle.sctp_receiver.specs.declared.receiver.refusal.ReceiverRefusal.TheVariants.{TsnOpposite}
use Rattle.sctp_receiver.specs.TsnFilter.{Filter, has_come, is_opposite, with_tsn, skipped_to}
use Rattle.sctp_receiver.specs.Receiver.{Reception, filter_of, arrival_of, is_answered_complete, data_refusal, new_refusal, stream_refusal, stream_of}
use Rattle.sctp_receiver.specs.Receiver.{Takes, TakesFirstBy, TakesEach, is_stale, forward_refusal, follow_forward_tsn, after_forward, repeat_tsn}
use Rattle.std.specs.Option.{option_or}
use Rattle.sctp_link.specs.Tsns.{with_arrival, with_arrivals, with_skip}
use Rattle.sctp_receiver.proofs.Receptions.{after}
use Rattle.sctp_link.proofs.tsns.QueueCalls.{not-after}

-- ## DATA

-- the TSNs after one chunk, and the limits
pub record Came (c : ChunkPayloadData) (old mid : Reception) : Type 0 where
  pub filter : filter_of mid ≡ with_arrival c.tsn (filter_of old)
  pub limits : mid.limits ≡ None

module _ (c : ChunkPayloadData) (old mid : Reception) (unlimited : old.limits ≡ None) where
  abbrev f : Filter
  f = filter_of old

  again : has_come c.tsn f ≡ true → mid ≡ repeat_tsn c.tsn old → Came c old mid
  again come t = record {
    filter = cc (t, unlimited, come);
    limits = ap (λ (r : Reception). r.limits) t ∙ unlimited;
  }

  rest : Option ReceiverRefusal
  rest = option_or (new_refusal c.tsn old) (stream_refusal c (stream_of c.stream_identifier old))

  near : has_come c.tsn f ≡ false → data_refusal c old ≡ None → is_opposite c.tsn f ≡ false
  unfolding rest
  near come ok = by (is_opposite c.tsn f)
      (sym (ap (λ b. if b then None else (if is_opposite c.tsn f then Some TsnOpposite else rest)) come) ∙ ok)
    where
      by : (b : Bool) → (if b then Some TsnOpposite else rest) ≡ None → b ≡ false
      by true e = cc
      by false e = refl

  fresh : has_come c.tsn f ≡ false → data_refusal c old ≡ None → filter_of mid ≡ with_tsn c.tsn f → mid.limits ≡ old.limits → Came c old mid
  fresh come ok e l = record {
    filter = cc (e, near come ok, come);
    limits = l ∙ unlimited;
  }

  pub came-one : (a : Arrival) → TakesFirstBy data_refusal c a old mid → Came c old mid
  came-one a t = by a t.answer t.taken (has_come c.tsn f) refl
    where
      answered : (complete b : Bool) → has_come c.tsn f ≡ b → arrival_of c.tsn complete old ≡ (if b then Repeat else New complete)
      answered complete b h = ap (λ b. if b then Repeat else New complete) h

      by : (a : Arrival) → a ≡ arrival_of c.tsn (is_answered_complete a) old → Takes c a old mid → (b : Bool) → has_come c.tsn f ≡ b → Came c old mid
      by (New complete) e k true h = let z : New complete ≡ Repeat = e ∙ answered complete true h in cc
      by (New complete) e k false h = fresh h t.accepted (ap filter_of k.after) (ap (λ (r : Reception). r.limits) k.after)
      by Repeat e k true h = again h k
      by Repeat e k false h = let z : Repeat ≡ New false = e ∙ answered false false h in cc

-- and after several
pub came-each : (cs : List ChunkPayloadData) (bs : List Arrival) (old new : Reception) → old.limits ≡ None → TakesEach cs bs old new
    → (filter_of new ≡ with_arrivals cs (filter_of old)) × (new.limits ≡ None)
came-each [] [] old new un t = (ap filter_of t, ap (λ (r : Reception). r.limits) t ∙ un)
came-each [] (b ∷ bs) old new un t = absurd t
came-each (c ∷ cs) [] old new un t = absurd t
came-each (c ∷ cs) (b ∷ bs) old new un t =
    let one = came-one c old t.0 un b t.1.0 in
    let more = came-each cs bs t.0 new one.limits t.1.1 in
    (more.0 ∙ ap (with_arrivals cs) one.filter, more.1)

-- the TSNs of one chunk more
pub arrivals-more : (cs : List ChunkPayloadData) (c : ChunkPayloadData) (f : Filter)
    → with_arrivals (cs ++ c ∷ []) f ≡ with_arrival c.tsn (with_arrivals cs f)
arrivals-more [] c f = refl
arrivals-more (d ∷ cs) c f = arrivals-more cs c (with_arrival d.tsn f)

-- ## FORWARD-TSN

module _ (w : ForwardTsn) (old new : Reception) (small : old.cumulative_tsn < 2 ^ 32) (tsn : w.new_cumulative_tsn < 2 ^ 32)
    (accepted : forward_refusal w old ≡ None) (is : new ≡ after_forward w old) where
  forward-near : is_opposite w.new_cumulative_tsn (filter_of old) ≡ false
  forward-near = by (is_opposite w.new_cumulative_tsn (filter_of old)) accepted
    where
      by : (b : Bool) → (if b then Some TsnOpposite else None) ≡ None → b ≡ false
      by true e = cc
      by false e = refl

  pub forward-filter : filter_of new ≡ with_skip w.new_cumulative_tsn (filter_of old)
  forward-filter = ap filter_of is ∙ by (is_stale w old) refl
    where
      skip : Bool → Filter
      skip b = if b then skipped_to w.new_cumulative_tsn (filter_of old) else filter_of old

      by : (b : Bool) → is_stale w old ≡ b
          → filter_of (if b then old else follow_forward_tsn w old) ≡ with_skip w.new_cumulative_tsn (filter_of old)
      by true e = ap skip (sym (not-after old.cumulative_tsn w.new_cumulative_tsn small tsn e))
      by false e = ap skip (sym (after old.cumulative_tsn w.new_cumulative_tsn small tsn forward-near e))

  pub forward-limits : new.limits ≡ old.limits
  forward-limits = ap (λ (r : Reception). r.limits) is ∙ by (is_stale w old)
    where
      by : (b : Bool) → (if b then old else follow_forward_tsn w old).limits ≡ old.limits
      by true = refl
      by false = refl

-- ## Calls that leave the TSNs

pub record SameTsns (old new : Reception) : Type 0 where
  pub filter : filter_of new ≡ filter_of old
  pub limits : new.limits ≡ old.limits

pub left-by : (old next new : Reception) → SameTsns old next → new ≡ next → SameTsns old new
left-by old next new s e = record { filter = ap filter_of e ∙ s.filter; limits = ap (λ (r : Reception). r.limits) e ∙ s.limits }

pub left : {A : Type 0} {E : Type 0} (r : Result A E) (old next new : Reception) → SameTsns old next → OnOk r (new ≡ next) → OnErr r (new ≡ old)
    → SameTsns old new
left (Ok x) old next new s ok err = left-by old next new s ok
left (Err e) old next new s ok err = left-by old old new (record { filter = refl; limits = refl }) err
