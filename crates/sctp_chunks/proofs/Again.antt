-- What is written reads back.
use Rattle.std.proofs.Common.{◌≡◌, ℕ, ◌+◌, ◌-◌, ◌^◌, ◌<◌, Bool, true, false, List, [], ◌∷◌, ◌++◌, length, take, drop, All, refl, sym, ap, ◌∙◌, arith}
use Rattle.std.proofs.Common.{append_assoc, length-append}
use Rattle.std.proofs.lemmas.List.{take_at, drop_at}
use Rattle.sctp_util.specs.Field.{be16, be32, u16_at, u32_at}
use Rattle.sctp_util.proofs.Fields.{length_be16, length_be32, u16_at_be16, u32_at_be32}
use Rattle.sctp_data.specs.declared.chunk.chunk_payload_data.PayloadProtocolIdentifier.{PayloadProtocolIdentifier}
use Rattle.sctp_data.specs.declared.chunk.chunk_payload_data.PayloadProtocolIdentifier.TheVariants.{Dcep, String, Binary, StringEmpty, BinaryEmpty, Unknown}
use Rattle.sctp_chunks.specs.Framing.{value_at, declared_length, IsFramed, chunk_encoding}
use Rattle.sctp_data.specs.PayloadData.{Data, ReadsData, data_flags, data_value, has_flag, weight, payload_type_from, payload_type_number}
use Rattle.sctp_chunks.specs.Fits.{FitsData}
use Rattle.sctp_chunks.proofs.Lengths.{length_data_value}

-- ---- framing

module _ (typ flags : ℕ) (value rest : List ℕ) (short : 4 + length value < 2 ^ 16) where
  abbrev encoding : List ℕ
  encoding = chunk_encoding typ flags value ++ rest

  regroup : encoding ≡ typ ∷ flags ∷ [] ++ (be16 (4 + length value) ++ (value ++ rest))
  regroup = ap (λ (x : List ℕ). typ ∷ flags ∷ x) (append_assoc (be16 (4 + length value)) value rest)

  pub framed_declared : declared_length encoding ≡ 4 + length value
  framed_declared = ap (λ (x : List ℕ). u16_at x 2) regroup ∙ u16_at_be16 (typ ∷ flags ∷ []) (value ++ rest) (4 + length value) 2 refl short

  pub framed_value : value_at encoding ≡ value
  unfolding value_at
  framed_value =
      let front : List ℕ = typ ∷ flags ∷ [] ++ be16 (4 + length value) in
      let four : length front ≡ 4 = omega (arith, length_be16 (4 + length value)) in
      let e : encoding ≡ front ++ (value ++ rest) = ap (λ (x : List ℕ). typ ∷ flags ∷ x) (append_assoc (be16 (4 + length value)) value rest) in
      let n : declared_length encoding - 4 ≡ length value = omega (arith, framed_declared) in
      rw n (ap (λ (x : List ℕ). take (length value) (drop 4 x)) e ∙ ap (take (length value)) (drop_at front (value ++ rest) 4 four)
      ∙ take_at value rest (length value) refl)

  pub framed_rest : drop (4 + length value) encoding ≡ rest
  framed_rest = drop_at (chunk_encoding typ flags value) rest (4 + length value)
      (omega (arith, length-append (be16 (4 + length value)) value, length_be16 (4 + length value)))

  pub framed_reads : (length rest < 4 → All (λ x. x ≡ 0) rest) → IsFramed encoding
  framed_reads zeros =
      let len : length encoding ≡ 4 + length value + length rest =
      omega (arith, length-append (chunk_encoding typ flags value) rest, length-append (be16 (4 + length value)) value, length_be16 (4 + length value)) in
      record {
        headed = omega (arith, len);
        least = omega (arith, framed_declared);
        within = omega (arith, framed_declared, len);
        padded = λ h. rw (framed_declared, framed_rest) (zeros (omega (arith, h, len, framed_declared)));
      }

-- ---- DATA

payload_type_again : (p : PayloadProtocolIdentifier) → payload_type_from (payload_type_number p) ≡ p
unfolding payload_type_from payload_type_number
payload_type_again Dcep = refl
payload_type_again String = refl
payload_type_again Binary = refl
payload_type_again StringEmpty = refl
payload_type_again BinaryEmpty = refl
payload_type_again Unknown = refl

payload_type_fits : (p : PayloadProtocolIdentifier) → payload_type_number p < 2 ^ 32
unfolding payload_type_number
payload_type_fits Dcep = omega arith
payload_type_fits String = omega arith
payload_type_fits Binary = omega arith
payload_type_fits StringEmpty = omega arith
payload_type_fits BinaryEmpty = omega arith
payload_type_fits Unknown = omega arith

abbrev flags_by : (e b u i : Bool) → ℕ
flags_by e b u i = weight e 1 + weight b 2 + weight u 4 + weight i 8

flags_again : (e b u i : Bool)
    → (has_flag (flags_by e b u i) 1 ≡ e) × (has_flag (flags_by e b u i) 2 ≡ b) × (has_flag (flags_by e b u i) 4 ≡ u) × (has_flag (flags_by e b u i) 8 ≡ i)
flags_again true true true true = (refl, refl, refl, refl)
flags_again true true true false = (refl, refl, refl, refl)
flags_again true true false true = (refl, refl, refl, refl)
flags_again true true false false = (refl, refl, refl, refl)
flags_again true false true true = (refl, refl, refl, refl)
flags_again true false true false = (refl, refl, refl, refl)
flags_again true false false true = (refl, refl, refl, refl)
flags_again true false false false = (refl, refl, refl, refl)
flags_again false true true true = (refl, refl, refl, refl)
flags_again false true true false = (refl, refl, refl, refl)
flags_again false true false true = (refl, refl, refl, refl)
flags_again false true false false = (refl, refl, refl, refl)
flags_again false false true true = (refl, refl, refl, refl)
flags_again false false true false = (refl, refl, refl, refl)
flags_again false false false true = (refl, refl, refl, refl)
flags_again false false false false = (refl, refl, refl, refl)

pub data_again : (d : Data) → FitsData d → ReadsData (data_flags d) (data_value d) d
unfolding data_flags data_value
data_again d fits =
    let n = payload_type_number d.payload_type in
    let tail : List ℕ = be32 n ++ d.user_data in
    let all : data_value d ≡ be32 d.tsn ++ (be16 d.stream_identifier ++ (be16 d.stream_sequence_number ++ tail)) = simp append_assoc in
    let tsn : u32_at (data_value d) 0 ≡ d.tsn = ap (λ (x : List ℕ). u32_at x 0) all ∙ u32_at_be32 [] _ d.tsn 0 refl fits.tsn in
    let sid : u16_at (data_value d) 4 ≡ d.stream_identifier = ap (λ (x : List ℕ). u16_at x 4) all
    ∙ u16_at_be16 (be32 d.tsn) _ d.stream_identifier 4 (length_be32 d.tsn) fits.stream_identifier in
    let ssn : u16_at (data_value d) 6 ≡ d.stream_sequence_number =
    ap (λ (x : List ℕ). u16_at x 6) (all ∙ sym (append_assoc (be32 d.tsn) (be16 d.stream_identifier) (be16 d.stream_sequence_number ++ tail)))
    ∙ u16_at_be16 (be32 d.tsn ++ be16 d.stream_identifier) tail d.stream_sequence_number 6
    (simp (length-append, length_be16, length_be32) refl) fits.stream_sequence_number in
    let front : List ℕ = be32 d.tsn ++ be16 d.stream_identifier ++ be16 d.stream_sequence_number in
    let eight : length front ≡ 8 = simp (length-append, length_be16, length_be32) refl in
    let ppi : u32_at (data_value d) 8 ≡ n = ap (λ (x : List ℕ). u32_at x 8) (append_assoc front (be32 n) d.user_data)
    ∙ u32_at_be32 front d.user_data n 8 eight (payload_type_fits d.payload_type) in
    let user : drop 12 (data_value d) ≡ d.user_data = drop_at (front ++ be32 n) d.user_data 12 (simp (length-append, length_be16, length_be32) refl) in
    let f = flags_again d.ending_fragment d.beginning_fragment d.unordered d.immediate_sack in
    record {
      long = omega (arith, length_data_value d);
      fields = sym (rw (f.0, f.1, f.2, f.3, tsn, sid, ssn, ppi, user, payload_type_again d.payload_type) refl);
    }
