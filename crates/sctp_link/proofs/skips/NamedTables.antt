-- What a skip names on each stream, in a table, while one message more is counted in.
use Rattle.sctp_link.proofs.Names.{◌≡◌, ℕ, zero, suc, ◌+◌, ◌<◌, ◌≤◌, Bool, true, false, List, [], ◌∷◌, length, map, Some, refl, ap, sym, ◌∙◌, arith, ◌==◌}
use Rattle.sctp_link.proofs.Names.{◌&&◌, not, if◌then◌else◌, min, max, slice_get, slice_index_or, slice_set, filter, ne_eqb, some-same, length-mapped}
use Rattle.sctp_link.proofs.Names.{no_message, get_or-map, least, greatest, Standing, Named, Message, message_record, index_in, message_in, is_on, named_from}
use Rattle.sctp_link.proofs.Names.{none_named, get-beyond, IsAbsent, IsOnlyPlace, with_name, HasNames, each-put}
use Rattle.sctp_link.specs.Progress.{numbers_of}

number-of : (ps : List Standing) (k : ℕ) (p : Standing) → k < length ps → p ≡ slice_index_or ps k p → slice_get (numbers_of ps) k ≡ Some p.number
number-of [] k p lt e = absurd (omega (arith, lt))
number-of (y ∷ ys) zero p lt e = ap (λ (x : Standing). Some x.number) (sym e)
number-of (y ∷ ys) (suc k) p lt e = number-of ys k p (omega (arith, lt)) e

-- ## One message

module _ (ms : List Message) (n : ℕ) where
  -- it is counted in
  pub name-next : (s : ℕ) (d : Named) (rest : List ℕ) → named_from ms s d (n ∷ rest) ≡ named_from ms s (with_name ms s n d) rest
  name-next s d rest = by (is_on ms s n)
    where
      names : List ℕ
      names = filter (is_on ms s) rest

      by : (b : Bool) → (let r : Named = record {
        low = least d.low (map (index_in ms) (if b then n ∷ names else names));
        end = greatest d.end (map (λ m. index_in ms m + 1) (if b then n ∷ names else names));
      } in r) ≡ named_from ms s (if b then record { low = min d.low (index_in ms n); end = max d.end (index_in ms n + 1) } else d) rest
      by true = refl
      by false = refl

  -- on another stream it names nothing
  pub name-other : (s : ℕ) (d : Named) (rest : List ℕ) → is_on ms s n ≡ false → named_from ms s d (n ∷ rest) ≡ named_from ms s d rest
  name-other s d rest e = cc (name-next s d rest, e)

  pub on-other : (s : ℕ) → ((message_in ms n).stream ≡ s → ⊥) → is_on ms s n ≡ false
  on-other s ne = ap (λ b. b && ((message_in ms n).ordered && not (message_in ms n).expired)) (ne_eqb _ _ ne)

  -- nor does one that is not there
  pub on-none : (s : ℕ) → length ms ≤ n → is_on ms s n ≡ false
  on-none s le =
      ap (λ m. (m.stream == s) && (m.ordered && not m.expired))
      (get-beyond (map message_record ms) n no_message (omega (arith, le, length-mapped message_record ms))) ∙ off ((no_message).stream == s)
    where
      off : (b : Bool) → (b && false) ≡ false
      off true = refl
      off false = refl

-- ## One message in a table

module _ (ms : List Message) (n : ℕ) (ps : List Standing) (names rest : List ℕ) (table : List Named) where
  -- it is not there
  pub named-none : length ms ≤ n → HasNames ms names (n ∷ rest) ps table → HasNames ms names rest ps table
  named-none le h = λ k p d lt inside at' is. sym (name-other ms n p.number d rest (on-none ms n p.number le)) ∙ h k p d lt inside at' is

  module _ (m : Message) (some : n < length ms) (is-m : m ≡ slice_index_or ms n m) where
    pub stream-is : (message_in ms n).stream ≡ m.stream
    stream-is = ap (λ x. x.stream) (get_or-map message_record ms n m no_message some) ∙ ap (λ (x : Message). x.stream) (sym is-m)

    -- its stream is not open
    pub named-absent : IsAbsent m.stream (numbers_of ps) → HasNames ms names (n ∷ rest) ps table → HasNames ms names rest ps table
    named-absent absent h = λ k p d lt inside at' is.
        sym (name-other ms n p.number d rest (on-other ms n p.number (λ z. absent k (number-of ps k p inside at' ∙ ap Some (sym (sym stream-is ∙ z))))))
        ∙ h k p d lt inside at' is

    module _ (place : ℕ) (only : IsOnlyPlace m.stream (numbers_of ps) place) where
      elsewhere : (k : ℕ) (p : Standing) → k < length ps → p ≡ slice_index_or ps k p → (k ≡ place → ⊥) → is_on ms p.number n ≡ false
      elsewhere k p inside at' ne = on-other ms n p.number (λ z. ne (only.only k (number-of ps k p inside at' ∙ ap Some (sym (sym stream-is ∙ z)))))

      -- the table has nothing of its stream
      pub named-past : length table ≤ place → HasNames ms names (n ∷ rest) ps table → HasNames ms names rest ps table
      named-past le h = λ k p d lt inside at' is.
          sym (name-other ms n p.number d rest (elsewhere k p inside at' (λ z. omega (arith, z, lt, le)))) ∙ h k p d lt inside at' is

      -- it is put there
      pub named-put : (old : Named) → place < length table → old ≡ slice_index_or table place old → HasNames ms names (n ∷ rest) ps table
          → HasNames ms names rest ps (slice_set table place (with_name ms m.stream n old))
      named-put old there is-old h = λ k p d lt inside at' is.
          each-put (λ i x. (q : Standing) → i < length ps → q ≡ slice_index_or ps i q
          → named_from ms q.number x rest ≡ named_from ms q.number none_named names) table place (with_name ms m.stream n old)
          (λ q here at-q. ap (λ s. named_from ms q.number (with_name ms s n old) rest) (same q here at-q)
          ∙ sym (name-next ms n q.number old rest) ∙ h place q old there here at-q is-old)
          (λ i x less e ne q here at-q. sym (name-other ms n q.number x rest (elsewhere i q here at-q ne)) ∙ h i q x less here at-q e) k d lt is p inside at'
        where
          same : (q : Standing) → place < length ps → q ≡ slice_index_or ps place q → m.stream ≡ q.number
          same q here at-q = some-same (sym only.here ∙ number-of ps place q here at-q)
