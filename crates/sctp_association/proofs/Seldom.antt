-- A stream is reset, and an association begins, by few datagrams.
use Rattle.std.proofs.Common.{◌≡◌, ℕ, true, List, subst, inl, inr}
use Rattle.std.proofs.lemmas.Bool.{false≢true}
use Rattle.std.specs.Prelude.{◌⊎◌}
use Rattle.sctp_association.specs.Arrivals.{Arrival, Asks, AsksFor, AsksToHear, HasType, IsBrought, TypeAsks}
use Rattle.sctp_association.specs.Arrivals.{begins, by_chunk, by_param, by_type, hears, receives, renews, restarts}
use Rattle.sctp_association.specs.Delivered.{EachSeldomIsCarried, is_seldom}
use Rattle.sctp_chunks.specs.Wire.{Wire, data_chunk, forward_tsn_chunk, sack_chunk, shutdown_chunk}
use Rattle.sctp_receiver.specs.ReceiverRuns.{resets}

never-reset : (w : Wire) (stream last : ℕ) → AsksFor w (resets stream last) → ⊥
never-reset (data_chunk d) stream last h = h
never-reset (forward_tsn_chunk f) stream last h = h
never-reset _ stream last h = h

never-restart : (w : Wire) (stream : ℕ) → AsksToHear w (restarts stream) → ⊥
never-restart (sack_chunk s) stream h = h
never-restart (shutdown_chunk n) stream h = h
never-restart _ stream h = h

-- DATA, FORWARD-TSN, SACK and SHUTDOWN ask for no such call
never-asked : (w : Wire) (a : Arrival) → Asks w a → is_seldom a ≡ true → ⊥
never-asked w (receives (resets stream last)) h e = never-reset w stream last h
never-asked w (receives _) h e = false≢true e
never-asked w (hears (restarts stream)) h e = never-restart w stream h
never-asked w (hears _) h e = false≢true e
never-asked w (begins tsn max limits) h e = h
never-asked w (renews tsn size max) h e = h

module _ (datagram : List ℕ) where
  abbrev HasOne : Type 0
  HasOne = HasType datagram 10 ⊎ HasType datagram 11 ⊎ HasType datagram 130

  by-cookie : (typ : ℕ) → HasType datagram typ → (typ ≡ 10) ⊎ (typ ≡ 11) → HasOne
  by-cookie typ h (inl e) = inl (subst (HasType datagram) e h)
  by-cookie typ h (inr e) = inr (inl (subst (HasType datagram) e h))

  by-typ : (typ : ℕ) (a : Arrival) → HasType datagram typ → TypeAsks typ a → HasOne
  by-typ typ (receives call) h asks = absurd asks
  by-typ typ (hears x) h asks = absurd asks
  by-typ typ (begins tsn max limits) h asks = by-cookie typ h asks
  by-typ typ (renews tsn size max) h asks = by-cookie typ h (inl asks)

  carried : (a : Arrival) → IsBrought datagram a → is_seldom a ≡ true → HasOne
  carried a (by_chunk w c asks) e = absurd (never-asked w a asks e)
  carried a (by_param p h asks) e = inr (inr (record { place = h.place; own = h.own; is = h.is }))
  carried a (by_type typ h asks) e = by-typ typ a h asks

pub each-seldom : EachSeldomIsCarried
each-seldom datagram a h e = carried datagram a h e
