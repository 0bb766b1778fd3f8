-- A DATA chunk and its padding, in the parts that are written one after another.
use Rattle.std.proofs.Common.{◌≡◌, ℕ, ◌+◌, ◌++◌, ◌∷◌, [], List, length, length-append, drop, refl, ap, sym, ◌∙◌, arith}
use Rattle.std.specs.Prelude.{replicate}
use Rattle.std.proofs.lemmas.List.{append_assoc, drop-drop, length-replicate}
use Rattle.sctp_util.specs.Field.{be16, be32}
use Rattle.sctp_util.specs.Padding.{padding_of}
use Rattle.sctp_data.specs.PayloadData.{Data, data_flags}
use Rattle.sctp_c.specs.Out.{at_front, padded}
use Rattle.sctp_c.specs.PayloadTypes.{encoding_with, value_with}

abbrev pub numbers_of : ℕ → Data → List ℕ
numbers_of n d = be32 d.tsn ++ be16 d.stream_identifier ++ be16 d.stream_sequence_number ++ be32 n

abbrev pub head_of : ℕ → Data → List ℕ
head_of n d = (0 ∷ data_flags d ∷ []) ++ be16 (16 + length d.user_data) ++ numbers_of n d

abbrev pub rest_of : Data → List ℕ
rest_of d = d.user_data ++ replicate (padding_of (16 + length d.user_data)) 0

padded-is : (xs ys : List ℕ) (n : ℕ) → length xs + length ys ≡ n → padded (xs ++ ys) ≡ xs ++ (ys ++ replicate (padding_of n) 0)
unfolding padded
padded-is xs ys n e = ap (λ k. (xs ++ ys) ++ replicate (padding_of k) 0) (length-append xs ys ∙ e)
    ∙ append_assoc xs ys (replicate (padding_of n) 0)

-- with a payload type
module _ (n : ℕ) (d : Data) where
  value-is : value_with n d ≡ numbers_of n d ++ d.user_data
  unfolding be16 be32
  value-is = refl

  numbers-length : length (numbers_of n d) ≡ 12
  unfolding be16 be32
  numbers-length = refl

  head-length : length (head_of n d) ≡ 16
  unfolding be16 be32
  head-length = refl

  value-length : 4 + length (value_with n d) ≡ 16 + length d.user_data
  value-length =
      let a = ap length value-is ∙ length-append (numbers_of n d) d.user_data in
      omega (arith, a, numbers-length)

  encoding-is : encoding_with n d ≡ head_of n d ++ d.user_data
  unfolding be16 be32
  encoding-is =
      ap (λ k. 0 ∷ data_flags d ∷ (be16 k ++ value_with n d)) value-length
      ∙ ap (λ v. 0 ∷ data_flags d ∷ (be16 (16 + length d.user_data) ++ v)) value-is

  parts : padded (encoding_with n d) ≡ head_of n d ++ rest_of d
  parts =
      ap padded encoding-is
      ∙ padded-is (head_of n d) d.user_data (16 + length d.user_data) (ap (λ k. k + length d.user_data) head-length)

  pub room : length (padded (encoding_with n d)) ≡ 16 + (length d.user_data + padding_of (16 + length d.user_data))
  room =
      let a = ap length parts ∙ length-append (head_of n d) (rest_of d) in
      let b = length-append d.user_data (replicate (padding_of (16 + length d.user_data)) 0) in
      let z = length-replicate {A = ℕ} (padding_of (16 + length d.user_data)) 0 in
      omega (arith, a, b, z, head-length)

  pub joined : (out : List ℕ) → head_of n d ++ at_front (rest_of d) (drop 16 out) ≡ at_front (padded (encoding_with n d)) out
  unfolding be16 be32
  joined out =
      ap (λ xs. head_of n d ++ (rest_of d ++ xs)) (drop-drop (length (rest_of d)) 16 out
      ∙ ap (λ k. drop k out) (sym (ap length parts ∙ length-append (head_of n d) (rest_of d) ∙ ap (λ k. k + length (rest_of d)) head-length)))
      ∙ ap (λ xs. xs ++ drop (length (padded (encoding_with n d))) out) (sym parts)
