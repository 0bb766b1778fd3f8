-- Where the pair of a stream stands.
use Rattle.sctp_sender.proofs.Names.{◌≡◌, ℕ, zero, suc, ◌<◌, true, List, [], ◌∷◌, length, set, get_or, slice_get, Option, Some, None, ap, sym, subst, ◌∙◌}
use Rattle.sctp_sender.proofs.Names.{arith, IfSome, MatchOption, eq-eqb, false≢true, none-some, same-is, fails, ChunkForwardTsnStream, IsAbsent, IsOnlyPlace}
use Rattle.sctp_sender.proofs.Names.{IsFirstPair, IsNoPair, is_pair_of}
use Rattle.sctp_sender.specs.Abandonment.{streams_of}

any_pair : ChunkForwardTsnStream
any_pair = record { identifier = 0; sequence = 0 }

-- ## The streams of pairs

pair-there : (ps : List ChunkForwardTsnStream) (k s : ℕ) → slice_get (streams_of ps) k ≡ Some s
    → (k < length ps) × ((d : ChunkForwardTsnStream) → is_pair_of s (get_or ps k d) ≡ true)
pair-there [] k s e = absurd (none-some s e)
pair-there (p ∷ ps) zero s e = let same : p.identifier ≡ s = cc in (omega arith, λ d. eq-eqb _ _ same)
pair-there (p ∷ ps) (suc k) s e = let h = pair-there ps k s e in (omega (arith, h.0), h.1)

stream-there : (ps : List ChunkForwardTsnStream) (k s : ℕ) (d : ChunkForwardTsnStream) → k < length ps → is_pair_of s (get_or ps k d) ≡ true
    → slice_get (streams_of ps) k ≡ Some s
stream-there [] k s d lt e = absurd (omega (arith, lt))
stream-there (p ∷ ps) zero s d lt e = ap Some (same-is p.identifier s e)
stream-there (p ∷ ps) (suc k) s d lt e = stream-there ps k s d (omega (arith, lt)) e

module _ (s : ℕ) (ps : List ChunkForwardTsnStream) where
  first-of : (k : ℕ) → IsOnlyPlace s (streams_of ps) k → IsFirstPair s ps k
  first-of k h = let r = pair-there ps k s h.here in record {
    inside = r.0;
    here = r.1;
    before =
        λ j d lt. fails (is_pair_of s (get_or ps j d)) (λ e. let at = h.only j (stream-there ps j s d (omega (arith, lt, r.0)) e) in omega (arith, at, lt));
  }

  none-of : IsAbsent s (streams_of ps) → IsNoPair s ps (length ps)
  none-of h k d lt = fails (is_pair_of s (get_or ps k d)) (λ e. h k (stream-there ps k s d lt e))

  pub absent : IsNoPair s ps (length ps) → IsAbsent s (streams_of ps)
  absent none k at = let r = pair-there ps k s at in false≢true (sym (none k any_pair r.0) ∙ r.1 any_pair)

  pub placed : (ns : List ℕ) (o : Option ℕ) → ns ≡ streams_of ps → MatchOption o (IsAbsent s ns) (IsOnlyPlace s ns) → IfSome o (λ k. IsFirstPair s ps k)
  placed ns None e h = tt
  placed ns (Some k) e h = first-of k (subst (λ ms. IsOnlyPlace s ms k) e h)

  pub missing : (ns : List ℕ) (o : Option ℕ) → ns ≡ streams_of ps → MatchOption o (IsAbsent s ns) (IsOnlyPlace s ns) → o ≡ None → IsNoPair s ps (length ps)
  missing ns None e h none = none-of (subst (IsAbsent s) e h)
  missing ns (Some k) e h none = absurd (none-some k (sym none))

-- a pair in the place of one of its stream
pub same-streams : (ps : List ChunkForwardTsnStream) (k : ℕ) (x : ChunkForwardTsnStream) → k < length ps
    → ((d : ChunkForwardTsnStream) → is_pair_of x.identifier (get_or ps k d) ≡ true) → streams_of (set ps k x) ≡ streams_of ps
same-streams [] k x lt here = absurd (omega (arith, lt))
same-streams (p ∷ ps) zero x lt here = let same : p.identifier ≡ x.identifier = same-is p.identifier x.identifier (here p) in
    ap (λ n. n ∷ streams_of ps) (sym same)
same-streams (p ∷ ps) (suc k) x lt here = ap (λ ns. p.identifier ∷ ns) (same-streams ps k x (omega (arith, lt)) here)
