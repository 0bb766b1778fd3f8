-- What a reader that ignores padding tells of a chunk with its padding of zeroes holds by the reader of whole packets.
use Rattle.std.proofs.Common.{◌≡◌, ℕ, ◌+◌, ◌-◌, ◌<◌, ◌≤◌, List, length, drop, sym, ap, ◌∙◌, subst, arith, inl, inr}
use Rattle.std.specs.Prelude.{◌≢◌, ◌*◌, ◌%◌, ◌⊎◌}
use Rattle.sctp_util.specs.Outcome.{OrMemory}
use Rattle.sctp_util.specs.declared.error.Error.{Error}
use Rattle.sctp_chunks.specs.Fault.{HeaderFault, OpenFault, IsChunk, IsInitChunk, DataFault, SackFault, CausesFault, ShutdownFault}
use Rattle.sctp_chunks.specs.Fault.{ForwardTsnFault, IForwardTsnFault, InitFault, InfoFault, PairValueFault}
use Rattle.sctp_chunks.specs.Framing.{IsFramed, type_at, flags_at, value_at, declared_length}
use Rattle.sctp_chunks.specs.Kind.{KindFault, IsOtherType}
use Rattle.sctp_chunks.specs.Params.{ParamsFault}
use Rattle.sctp_chunks.specs.Wire.{ReadsChunk, Wire}
use Rattle.sctp_data.specs.SelectiveAck.{blocks_in, duplicates_in}
use Rattle.sctp_datagram.proofs.Alone.{by-itself, has-frame, no-frame-fault, no-header-fault}
use Rattle.sctp_datagram.specs.Framing.{ChunkFault, StartsWith, alone}

-- both begin with a chunk of one type, with the same flags and value
pub record SameChunk (a b : List ℕ) : Type 0 where
  pub left : IsFramed a
  pub right : IsFramed b
  pub typ : type_at a ≡ type_at b
  pub flags : flags_at a ≡ flags_at b
  pub value : value_at a ≡ value_at b

-- ## Refusals

module _ (e : Error) (a b : List ℕ) (s : SameChunk a b) where
  again-value : (P : List ℕ → Type 0) → P (value_at a) → P (value_at b)
  again-value P p = subst P s.value p

  again-chunk : (t : ℕ) → IsChunk t a → IsChunk t b
  again-chunk t c = (s.right, sym s.typ ∙ c.1)

  again-init : IsInitChunk a → IsInitChunk b
  again-init c = (s.right, subst (λ (t : ℕ). (t ≡ 1) ⊎ (t ≡ 2)) s.typ c.1)

  again-open : (t : ℕ) (other : Error) → OpenFault t other e a → OpenFault t other e b
  again-open t other (inl h) = absurd (no-header-fault e a s.left h)
  again-open t other (inr o) = inr (o.0, s.right.headed, λ is. o.2 (s.typ ∙ is))

  again-data : DataFault e a → DataFault e b
  again-data (inl o) = inl (again-open 0 _ o)
  again-data (inr v) = inr (v.0, again-chunk 0 v.1, again-value (λ (x : List ℕ). length x < 12) v.2)

  again-sack : SackFault e a → SackFault e b
  again-sack (inl o) = inl (again-open 3 _ o)
  again-sack (inr v) =
      let P : List ℕ → Type 0 = λ x. (length x < 12) ⊎ (length x < 12 + 4 * blocks_in x + 4 * duplicates_in x) in
      inr (v.0, again-chunk 3 v.1, again-value P v.2)

  again-shutdown : ShutdownFault e a → ShutdownFault e b
  again-shutdown (inl o) = inl (again-open 7 _ o)
  again-shutdown (inr v) = inr (v.0, again-chunk 7 v.1, again-value (λ (x : List ℕ). length x ≢ 4) v.2)

  again-forward-tsn : ForwardTsnFault e a → ForwardTsnFault e b
  again-forward-tsn (inl o) = inl (again-open 192 _ o)
  again-forward-tsn (inr v) =
      inr (v.0, again-chunk 192 v.1, again-value (λ (x : List ℕ). (length x < 4) ⊎ ((length x - 4) % 4 ≢ 0)) v.2)

  again-i-forward-tsn : IForwardTsnFault e a → IForwardTsnFault e b
  again-i-forward-tsn (inl o) = inl (again-open 194 _ o)
  again-i-forward-tsn (inr v) = inr (v.0, again-chunk 194 v.1, again-value (λ (x : List ℕ). length x < 4) v.2)

  -- where a whole value is at fault
  again-whole : (t : ℕ) (other : Error) (F : List ℕ → Type 0) → OpenFault t other e a ⊎ (IsChunk t a × F (value_at a))
      → OpenFault t other e b ⊎ (IsChunk t b × F (value_at b))
  again-whole t other F (inl o) = inl (again-open t other o)
  again-whole t other F (inr v) = inr (again-chunk t v.0, again-value F v.1)

  again-init-fault : InitFault e a → InitFault e b
  again-init-fault (inl h) = absurd (no-header-fault e a s.left h)
  again-init-fault (inr (inl o)) = inr (inl (o.0, s.right.headed, λ is. o.2 (s.typ ∙ is), λ is. o.3 (s.typ ∙ is)))
  again-init-fault (inr (inr (inl v))) = inr (inr (inl (v.0, again-init v.1, again-value (λ (x : List ℕ). length x < 16) v.2)))
  again-init-fault (inr (inr (inr (inl f)))) = inr (inr (inr (inl (f.0, again-init f.1, λ is. f.2 (s.flags ∙ is)))))
  again-init-fault (inr (inr (inr (inr p)))) =
      inr (inr (inr (inr (again-init p.0, again-value (λ (x : List ℕ). 16 ≤ length x) p.1, again-value (λ (x : List ℕ). ParamsFault e (drop 16 x)) p.2))))

  -- the numbers of the kinds whose whole value is at fault, or nothing but the header
  pub same-fault : KindFault e a → KindFault e b
  unfolding KindFault
  same-fault (inl h) = absurd (no-header-fault e a s.left h)
  same-fault (inr (inl o)) = inr (inl (o.0, s.right.headed, subst IsOtherType s.typ o.2))
  same-fault (inr (inr (inl k))) = inr (inr (inl (sym s.typ ∙ k.0, again-data k.1)))
  same-fault (inr (inr (inr (inl k)))) = inr (inr (inr (inl (subst (λ (t : ℕ). (t ≡ 1) ⊎ (t ≡ 2)) s.typ k.0, again-init-fault k.1))))
  same-fault (inr (inr (inr (inr (inl k))))) = inr (inr (inr (inr (inl (sym s.typ ∙ k.0, again-sack k.1)))))
  same-fault (inr (inr (inr (inr (inr (inl k)))))) = inr (inr (inr (inr (inr (inl (sym s.typ ∙ k.0, again-whole 4 _ (InfoFault e) k.1))))))
  same-fault (inr (inr (inr (inr (inr (inr (inl k))))))) = inr (inr (inr (inr (inr (inr (inl (sym s.typ ∙ k.0, again-whole 5 _ (InfoFault e) k.1)))))))
  same-fault (inr (inr (inr (inr (inr (inr (inr (inl k)))))))) =
      inr (inr (inr (inr (inr (inr (inr (inl (sym s.typ ∙ k.0, again-whole 6 _ (CausesFault e) k.1))))))))
  same-fault (inr (inr (inr (inr (inr (inr (inr (inr (inl k))))))))) =
      inr (inr (inr (inr (inr (inr (inr (inr (inl (sym s.typ ∙ k.0, again-shutdown k.1)))))))))
  same-fault (inr (inr (inr (inr (inr (inr (inr (inr (inr (inl k)))))))))) =
      inr (inr (inr (inr (inr (inr (inr (inr (inr (inl (sym s.typ ∙ k.0, again-open 8 _ k.1))))))))))
  same-fault (inr (inr (inr (inr (inr (inr (inr (inr (inr (inr (inl k))))))))))) =
      inr (inr (inr (inr (inr (inr (inr (inr (inr (inr (inl (sym s.typ ∙ k.0, again-whole 9 _ (CausesFault e) k.1)))))))))))
  same-fault (inr (inr (inr (inr (inr (inr (inr (inr (inr (inr (inr (inl k)))))))))))) =
      inr (inr (inr (inr (inr (inr (inr (inr (inr (inr (inr (inl (sym s.typ ∙ k.0, again-open 10 _ k.1))))))))))))
  same-fault (inr (inr (inr (inr (inr (inr (inr (inr (inr (inr (inr (inr (inl k))))))))))))) =
      inr (inr (inr (inr (inr (inr (inr (inr (inr (inr (inr (inr (inl (sym s.typ ∙ k.0, again-open 11 _ k.1)))))))))))))
  same-fault (inr (inr (inr (inr (inr (inr (inr (inr (inr (inr (inr (inr (inr (inl k)))))))))))))) =
      inr (inr (inr (inr (inr (inr (inr (inr (inr (inr (inr (inr (inr (inl (sym s.typ ∙ k.0, again-open 14 _ k.1))))))))))))))
  same-fault (inr (inr (inr (inr (inr (inr (inr (inr (inr (inr (inr (inr (inr (inr (inl k))))))))))))))) =
      inr (inr (inr (inr (inr (inr (inr (inr (inr (inr (inr (inr (inr (inr (inl (sym s.typ ∙ k.0, again-whole 130 _ (PairValueFault e) k.1)))))))))))))))
  same-fault (inr (inr (inr (inr (inr (inr (inr (inr (inr (inr (inr (inr (inr (inr (inr (inl k)))))))))))))))) =
      inr (inr (inr (inr (inr (inr (inr (inr (inr (inr (inr (inr (inr (inr (inr (inl (sym s.typ ∙ k.0, again-forward-tsn k.1))))))))))))))))
  same-fault (inr (inr (inr (inr (inr (inr (inr (inr (inr (inr (inr (inr (inr (inr (inr (inr k)))))))))))))))) =
      inr (inr (inr (inr (inr (inr (inr (inr (inr (inr (inr (inr (inr (inr (inr (inr (sym s.typ ∙ k.0, again-i-forward-tsn k.1))))))))))))))))

-- ## With its padding of zeroes

pub reads_framed : (bytes : List ℕ) (w : Wire) → IsFramed bytes → StartsWith bytes w → ReadsChunk bytes w
reads_framed bytes w f starts = record { is_framed = f; typ = starts.typ; value = starts.value }

pub fault_framed : (e : Error) (bytes : List ℕ) → IsFramed bytes → OrMemory e (ChunkFault KindFault e bytes) → OrMemory e (KindFault e bytes)
fault_framed e bytes f (inl memory) = inl memory
fault_framed e bytes f (inr (inl header)) = absurd (no-frame-fault e bytes (has-frame bytes f) header)
fault_framed e bytes f (inr (inr (framed, fault))) =
    let s = by-itself bytes framed in
    let same : SameChunk (alone bytes) bytes = record { left = s.is_framed; right = f; typ = s.typ; flags = s.flags; value = s.value } in
    inr (same-fault e (alone bytes) bytes same fault)
