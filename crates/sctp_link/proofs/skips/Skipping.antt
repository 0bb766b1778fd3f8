-- What a skip names, one message after another.
use Rattle.sctp_link.proofs.Names.{◌≡◌, ℕ, ◌+◌, ◌<◌, List, length, map, ap, slice_index_or, change_at, Standing, with_named, Message, progress_of, index_in}
use Rattle.sctp_link.proofs.Names.{named_from, none_named, standing_named, get_or-map, Bool, true, false, [], ◌∷◌, ◌==◌, ◌≤◌, if◌then◌else◌, max, refl, sym}
use Rattle.sctp_link.proofs.Names.{◌∙◌, arith, filter, change_where, not_both, same-is, same-yes, greatest, Named, is_on, message_in, get_or_default}
use Rattle.sctp_link.proofs.Names.{with_name, IsAbsent, IsOnlyPlace, set-changed}
use Rattle.sctp_stream.proofs.StreamPlaces as Places
use Rattle.sctp_link.specs.Progress as Progress
use Rattle.sctp_link.proofs.skips.NamedTables.{name-next, name-other, on-other, on-none, stream-is}

-- the index that is kept, where there is such a message
pub index-raw : (ms : List Message) (n : ℕ) (d : Message) → n < length ms → index_in ms n ≡ (slice_index_or ms n d).index
index-raw ms n d lt = ap (λ p. p.1) (get_or-map progress_of ms n d (0, 0) lt)

-- ## Progress as names are recorded one after another

with-none : (p : Standing) → with_named 0 p ≡ p
with-none p = let next : max p.next 0 ≡ p.next = omega arith in
    let named : max p.named 0 ≡ p.named = omega arith in
    ap (λ n. let q : Standing = record p { next = n; named = max p.named 0 } in q) next ∙ ap (λ n. let q : Standing = record p { named = n } in q) named

-- no names
pub none-named : (ms : List Message) (ps : List Standing) → ps ≡ map (standing_named ms []) ps
none-named ms [] = refl
none-named ms (p ∷ ps) = ap (λ q. q ∷ ps) (sym (with-none p)) ∙ ap (λ qs. standing_named ms [] p ∷ qs) (none-named ms ps)

with-twice : (a b c : ℕ) (p : Standing) → c ≡ max a b → with_named b (with_named a p) ≡ with_named c p
with-twice a b c p e =
    let next : max (max p.next a) b ≡ max p.next c = omega (arith, e) in
    let named : max (max p.named a) b ≡ max p.named c = omega (arith, e) in
    cc (next, named)

greatest-from : (c : ℕ) (is : List ℕ) → greatest c is ≡ max c (greatest 0 is)
greatest-from c [] = omega arith
greatest-from c (i ∷ is) = omega (arith, greatest-from (max c i) is, greatest-from (max 0 i) is)

module _ (ms : List Message) (n : ℕ) where
  -- the end of what this message alone names on a stream
  abbrev end : ℕ → ℕ
  end s = (named_from ms s none_named (n ∷ [])).end

  ends-joined : (s : ℕ) (rest : List ℕ) → (named_from ms s none_named (n ∷ rest)).end ≡ max (end s) (named_from ms s none_named rest).end
  ends-joined s rest =
      ap (λ (d : Named). d.end) (name-next ms n s none_named rest)
      ∙ greatest-from (with_name ms s n none_named).end (map (λ m. index_in ms m + 1) (filter (is_on ms s) rest))
      ∙ ap (λ (d : Named). max d.end (named_from ms s none_named rest).end) (sym (name-next ms n s none_named []))

  -- it first, and then the rest
  pub named-rest : (rest : List ℕ) (ps : List Standing)
      → map (standing_named ms rest) (map (standing_named ms (n ∷ [])) ps) ≡ map (standing_named ms (n ∷ rest)) ps
  named-rest rest [] = refl
  named-rest rest (p ∷ ps) =
      ap (λ q. q ∷ map (standing_named ms rest) (map (standing_named ms (n ∷ [])) ps))
      (with-twice (end p.number) (named_from ms p.number none_named rest).end (named_from ms p.number none_named (n ∷ rest)).end p (ends-joined p.number rest))
      ∙ ap (λ qs. standing_named ms (n ∷ rest) p ∷ qs) (named-rest rest ps)

  -- a stream on which it names nothing
  named-off : (p : Standing) → is_on ms p.number n ≡ false → standing_named ms (n ∷ []) p ≡ p
  named-off p off = ap (λ (d : Named). with_named d.end p) (name-other ms n p.number none_named [] off) ∙ with-none p

  -- it is not there
  pub nowhere-named : length ms ≤ n → (ps : List Standing) → ps ≡ map (standing_named ms (n ∷ [])) ps
  nowhere-named le [] = refl
  nowhere-named le (p ∷ ps) = cc (named-off p (on-none ms n p.number le), nowhere-named le ps)

  -- it changes its own stream alone
  named-where : (s : ℕ) → (message_in ms n).stream ≡ s → (ps : List Standing)
      → change_where (Progress.has_number s) (with_named (end s)) ps ≡ map (standing_named ms (n ∷ [])) ps
  named-where s is [] = refl
  named-where s is (p ∷ ps) = ap (λ q. q ∷ change_where (Progress.has_number s) (with_named (end s)) ps) (one (p.number == s) refl)
      ∙ ap (λ qs. standing_named ms (n ∷ []) p ∷ qs) (named-where s is ps)
    where
      one : (b : Bool) → (p.number == s) ≡ b → (if b then with_named (end s) p else p) ≡ standing_named ms (n ∷ []) p
      one true e = ap (λ t. with_named (end t) p) (sym (same-is p.number s e))
      one false e = sym (named-off p (on-other ms n p.number (λ z. not_both (sym e ∙ ap (λ t. p.number == t) (sym is ∙ z) ∙ same-yes p.number))))

  module _ (m : Message) (some : n < length ms) (is-m : m ≡ slice_index_or ms n m) (ps : List Standing) where
    -- its stream is not open
    pub absent-named : IsAbsent m.stream (Progress.numbers_of ps) → ps ≡ map (standing_named ms (n ∷ [])) ps
    absent-named absent = Places.absent-change Progress.number ps (Progress.numbers_of ps) refl m.stream (with_named (end m.stream)) absent
        ∙ named-where m.stream (stream-is ms n ps [] [] [] m some is-m) ps

    -- it is recorded in its place
    pub place-named : (k : ℕ) → IsOnlyPlace m.stream (Progress.numbers_of ps) k → (top : ℕ) → top ≡ (with_name ms m.stream n none_named).end
        → change_at (with_named top) k ps ≡ map (standing_named ms (n ∷ [])) ps
    place-named k only top e =
        let f = with_named (end m.stream) in
        let x = slice_index_or ps k (Progress.fresh 0) in
        let inside = Places.inside Progress.number ps (Progress.numbers_of ps) refl m.stream k only in
        ap (λ t. change_at (with_named t) k ps) (e ∙ ap (λ (d : Named). d.end) (sym (name-next ms n m.stream none_named [])))
        ∙ sym (set-changed f ps k (Progress.fresh 0) inside) ∙ Places.changed Progress.number ps (Progress.numbers_of ps) refl m.stream k only f x (f x)
        (get_or_default ps k (Progress.fresh 0) x inside) refl ∙ named-where m.stream (stream-is ms n ps [] [] [] m some is-m) ps
