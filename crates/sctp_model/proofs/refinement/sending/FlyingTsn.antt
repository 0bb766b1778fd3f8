-- A TSN in flight: the place of its slot, and its chunk.
use Rattle.sctp_model.proofs.Names.{◌≡◌, ℕ, ◌-◌, ◌<◌, ◌≤◌, ◌^◌, true, length, Some, ap, sym, ◌∙◌, arith, nat_le, nat_lt, find, nat_tests, both, has_tsn}
use Rattle.sctp_model.proofs.Names.{Outbound, LinkRecord, is_in_flight, place_of, tsn_of}
use Rattle.sctp_model.proofs.refinement.sending.InFlight.{Found, found-in}
use Rattle.sctp_model.proofs.refinement.Histories.{Sends, facts}

pub place-made : (w : LinkRecord) (t : ℕ) → is_in_flight w (place_of w t) ≡ true → place_of w t < length w.slots
place-made w t e = let a = (both (nat_le w.taken (place_of w t)) (nat_lt (place_of w t) (length w.slots)) e).1 in grind (arith, nat_tests)

module _ {w : LinkRecord} {had : Outbound} {coming : ℕ} (l : Sends w had coming) (tsn : ℕ) (fits : tsn < 2 ^ 32)
    (flies : is_in_flight w (place_of w tsn) ≡ true) where
  pub low : w.taken ≤ place_of w tsn
  low = let a = (both (nat_le w.taken (place_of w tsn)) (nat_lt (place_of w tsn) (length w.slots)) flies).0 in grind (arith, nat_tests)

  pub high : place_of w tsn < length w.slots
  high = place-made w tsn flies

  pub back : tsn_of w (place_of w tsn) ≡ tsn
  back = let f = l.told.setup.first in omega (arith, f, fits)

  pub found : Found w (place_of w tsn) had.inflight.chunks
  found =
      let f = facts l.told in
      found-in w (place_of w tsn) (omega (arith, high, f.few)) had.inflight.chunks w.taken (length w.slots - w.taken)
      (omega (arith, f.few, f.taken)) low (omega (arith, high, f.taken)) l.outbound.in_flight

  pub there : find (has_tsn tsn) had.inflight.chunks ≡ Some found.chunk
  there = ap (λ t. find (has_tsn t) had.inflight.chunks) (sym back) ∙ found.is
