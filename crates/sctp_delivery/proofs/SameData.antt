-- DATA chunks with the same wire fields, by a test.
use Rattle.sctp_delivery.proofs.Names.{arith, common_steps, nat_tests, ◌≡◌, ℕ, Bool, true, false, List, [], ◌∷◌, refl, ap, sym, ◌∙◌, ◌==◌, ◌&&◌, same-is}
use Rattle.sctp_delivery.proofs.Names.{same-yes, and, both, PayloadProtocolIdentifier, Data}
use Rattle.sctp_data.specs.PayloadData.{payload_type_from, payload_type_number}

abbrev pub are_same_bytes : List ℕ → List ℕ → Bool
are_same_bytes [] [] = true
are_same_bytes (x ∷ xs) (y ∷ ys) = (x == y) && are_same_bytes xs ys
are_same_bytes [] (y ∷ ys) = false
are_same_bytes (x ∷ xs) [] = false

abbrev pub are_same_flags : Bool → Bool → Bool
are_same_flags true b = b
are_same_flags false true = false
are_same_flags false false = true

-- the same TSN, stream, number, flags, payload type and user data
abbrev pub is_same : Data → Data → Bool
is_same x y =
    (x.tsn == y.tsn) && ((x.stream_identifier == y.stream_identifier)
    && ((x.stream_sequence_number == y.stream_sequence_number)
    && (are_same_flags x.unordered y.unordered
    && (are_same_flags x.beginning_fragment y.beginning_fragment
    && (are_same_flags x.ending_fragment y.ending_fragment
    && (are_same_flags x.immediate_sack y.immediate_sack
    && ((payload_type_number x.payload_type == payload_type_number y.payload_type)
    && are_same_bytes x.user_data y.user_data)))))))

same-bytes : (xs : List ℕ) → are_same_bytes xs xs ≡ true
same-bytes [] = refl
same-bytes (x ∷ xs) = and (x == x) (are_same_bytes xs xs) (same-yes x) (same-bytes xs)

bytes-same : (xs ys : List ℕ) → are_same_bytes xs ys ≡ true → xs ≡ ys
bytes-same [] [] e = refl
bytes-same [] (y ∷ ys) e = cc
bytes-same (x ∷ xs) [] e = cc
bytes-same (x ∷ xs) (y ∷ ys) e =
    let b = both (x == y) (are_same_bytes xs ys) e in
    ap (λ z. z ∷ xs) (same-is x y b.0) ∙ ap (λ zs. y ∷ zs) (bytes-same xs ys b.1)

same-flags : (b : Bool) → are_same_flags b b ≡ true
same-flags true = refl
same-flags false = refl

flags-same : (a b : Bool) → are_same_flags a b ≡ true → a ≡ b
flags-same h0 h1 h2 = grind (arith, nat_tests, common_steps)

type-again : (p : PayloadProtocolIdentifier) → payload_type_from (payload_type_number p) ≡ p
unfolding payload_type_from payload_type_number
type-again h0 = grind (arith, nat_tests, common_steps)

types-same : (p q : PayloadProtocolIdentifier) → (payload_type_number p == payload_type_number q) ≡ true → p ≡ q
types-same p q e = sym (type-again p) ∙ (ap payload_type_from (same-is (payload_type_number p) (payload_type_number q) e) ∙ type-again q)

pub same-itself : (d : Data) → is_same d d ≡ true
same-itself d = grind (arith, nat_tests, common_steps, and, same-yes, same-flags, same-bytes)

-- the data by its fields
abbrev all_of : Data → Data
all_of x = record {
  unordered = x.unordered;
  beginning_fragment = x.beginning_fragment;
  ending_fragment = x.ending_fragment;
  immediate_sack = x.immediate_sack;
  tsn = x.tsn;
  stream_identifier = x.stream_identifier;
  stream_sequence_number = x.stream_sequence_number;
  payload_type = x.payload_type;
  user_data = x.user_data;
}

pub same-data : (x y : Data) → is_same x y ≡ true → x ≡ y
same-data x y e =
    let a = both _ _ e in
    let b = both _ _ a.1 in
    let c = both _ _ b.1 in
    let d = both _ _ c.1 in
    let f = both _ _ d.1 in
    let g = both _ _ f.1 in
    let h = both _ _ g.1 in
    let i = both _ _ h.1 in
    let tsns = same-is x.tsn y.tsn a.0 in
    let streams = same-is x.stream_identifier y.stream_identifier b.0 in
    let numbers = same-is x.stream_sequence_number y.stream_sequence_number c.0 in
    let unordered = flags-same x.unordered y.unordered d.0 in
    let begins = flags-same x.beginning_fragment y.beginning_fragment f.0 in
    let ends = flags-same x.ending_fragment y.ending_fragment g.0 in
    let at_once = flags-same x.immediate_sack y.immediate_sack h.0 in
    let types = types-same x.payload_type y.payload_type i.0 in
    let bytes = bytes-same x.user_data y.user_data i.1 in
    let it : all_of x ≡ all_of y = cc in
    it
