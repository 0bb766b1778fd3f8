-- A FORWARD-TSN that is due leaves, or stays due.
use Rattle.std.proofs.Common.{◌≡◌, ◌⊎◌, inl, inr, ℕ, ◌+◌, ◌*◌, ◌-◌, ◌≤◌, Bool, true, List, length, ap, subst, ◌∙◌, arith}
use Rattle.sctp_association.proofs.Leaving.{stands_first, stands_later, stands_longer, stands_sealed}
use Rattle.sctp_association.specs.Leaving.{IsSentIn}
use Rattle.sctp_association.specs.Packets.{Adds, Stands, sum_of}
use Rattle.sctp_association.specs.Skips.{LeavesSkip, NoneFits}
use Rattle.sctp_chunks.proofs.Lengths.{length_forward_tsn_value}
use Rattle.sctp_chunks.specs.Wire.{HasEncoding, Wire, forward_tsn_chunk, value_of}
use Rattle.sctp_data.specs.ForwardTsn.{ForwardTsn}
use Rattle.sctp_packets.proofs.Written.{length_padded_encoding}
use Rattle.sctp_packets.specs.Draft.{IsDraft, headed}
use Rattle.sctp_packets.specs.Packet.{Parts, packet_encoding, padded_encoding}
use Rattle.sctp_packets.specs.declared.packet.CommonHeader.{CommonHeader}
use Rattle.sctp_sender.specs.Sender.{Transmission}
use Rattle.sctp_util.specs.Padding.{padding_of}

-- one that has so many names can be put
pub skip_fits : (f : ForwardTsn) (old limit room : ℕ) → room ≡ limit - old → 8 + 4 * length f.streams ≤ room → limit ≤ 65535
    → HasEncoding (forward_tsn_chunk f) × (old + length (padded_encoding (forward_tsn_chunk f)) ≤ limit)
skip_fits f old limit room is fit most =
    let w : Wire = forward_tsn_chunk f in
    let value = length_forward_tsn_value f in
    let four : 4 + length (value_of w) ≡ 4 * (2 + length f.streams) = omega (arith, value) in
    let zeros : padding_of (4 + length (value_of w)) ≡ 0 = ap padding_of four ∙ omega arith in
    ((tt, omega (arith, is, fit, most, value)), omega (arith, is, fit, four, zeros, length_padded_encoding w))

module _ (limit : ℕ) (t : Transmission) (o m n : Bool) where
  -- behind it chunks are put
  pub skip_first : (vs : List Wire) (x y z : List ℕ) → LeavesSkip (Stands x y) limit t o m → Adds vs y z → n ≡ m → LeavesSkip (Stands x z) limit t o n
  skip_first vs x y z h more same e = by (h e)
    where
      by : (m ≡ true) ⊎ (((f : ForwardTsn) × Stands x y (forward_tsn_chunk f)) ⊎ NoneFits (limit - 12) t)
          → (n ≡ true) ⊎ (((f : ForwardTsn) × Stands x z (forward_tsn_chunk f)) ⊎ NoneFits (limit - 12) t)
      by (inl due) = inl (same ∙ due)
      by (inr (inl (f, s))) = inr (inl (f, stands_first vs x y z (forward_tsn_chunk f) s more))
      by (inr (inr none)) = inr (inr none)

-- before it chunks were put
pub skip_later : (l k : ℕ) (t u : Transmission) (a b c : Bool) (ws : List Wire) (x y z : List ℕ) → Adds ws x y → k ≡ l → u ≡ t → b ≡ a
    → LeavesSkip (Stands y z) k u b c → LeavesSkip (Stands x z) l t a c
skip_later l k t u a b c ws x y z first limit sender same h e = by (h (same ∙ e))
  where
    none-so : NoneFits (k - 12) u → NoneFits (l - 12) t
    none-so none = subst (λ (v : Transmission). NoneFits (l - 12) v) sender (subst (λ (n : ℕ). NoneFits (n - 12) u) limit none)

    by : (c ≡ true) ⊎ (((f : ForwardTsn) × Stands y z (forward_tsn_chunk f)) ⊎ NoneFits (k - 12) u)
        → (c ≡ true) ⊎ (((f : ForwardTsn) × Stands x z (forward_tsn_chunk f)) ⊎ NoneFits (l - 12) t)
    by (inl due) = inl due
    by (inr (inl (f, s))) = inr (inl (f, stands_later ws x y z (forward_tsn_chunk f) first s))
    by (inr (inr none)) = inr (inr (none-so none))

module _ (h : CommonHeader) (l : ℕ) (t : Transmission) (o m n : Bool) (x y z : List ℕ) (begun : IsDraft (headed h) x)
    (fill : LeavesSkip (Stands x y) l t o m) (rest : n ≡ m) where
  -- none leaves where nothing was put
  pub skip_none : (sent : Bool) → length y ≤ 12 → LeavesSkip (IsSentIn sent z) l t o n
  skip_none sent short e = by (fill e)
    where
      by : (m ≡ true) ⊎ (((f : ForwardTsn) × Stands x y (forward_tsn_chunk f)) ⊎ NoneFits (l - 12) t)
          → (n ≡ true) ⊎ (((f : ForwardTsn) × IsSentIn sent z (forward_tsn_chunk f)) ⊎ NoneFits (l - 12) t)
      by (inl due) = inl (rest ∙ due)
      by (inr (inl (f, s))) = absurd (omega (arith, short, stands_longer (headed h) x y (forward_tsn_chunk f) begun s))
      by (inr (inr none)) = inr (inr none)

  pub skip_sealed : (zero : Bool) → ((p : Parts) → IsDraft p y → z ≡ packet_encoding (sum_of zero) p) → LeavesSkip (IsSentIn true z) l t o n
  skip_sealed zero encoded e = by (fill e)
    where
      by : (m ≡ true) ⊎ (((f : ForwardTsn) × Stands x y (forward_tsn_chunk f)) ⊎ NoneFits (l - 12) t)
          → (n ≡ true) ⊎ (((f : ForwardTsn) × IsSentIn true z (forward_tsn_chunk f)) ⊎ NoneFits (l - 12) t)
      by (inl due) = inl (rest ∙ due)
      by (inr (inl (f, s))) = inr (inl (f, stands_sealed h x y z (forward_tsn_chunk f) begun s zero encoded))
      by (inr (inr none)) = inr (inr none)
