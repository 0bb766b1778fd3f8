-- Keys of 32 bytes.
use Rattle.std.proofs.Common.{◌≡◌, ℕ, ◌-◌, List, [], ◌++◌, length, map, take, drop, replicate, sym, ap, ◌∙◌, arith}
use Rattle.std.specs.Int.RustNames.{bit_xor}
use Rattle.std.proofs.lemmas.List.{append-nil, map-append, take_all, drop_all}
use Rattle.sctp_cookie.specs.Hmac.{masked_block}

-- the zeros behind the key become the pad
masked_block-key : (pad : ℕ) (key : List ℕ) → length key ≡ 32 → masked_block pad key ≡ map (λ byte. bit_xor byte pad) key ++ replicate 32 pad
masked_block-key pad key long =
    ap (λ n. map (λ byte. bit_xor byte pad) (key ++ replicate (64 - n) 0)) long ∙ map-append (λ byte. bit_xor byte pad) key (replicate 32 0)

-- once all its bytes are masked
pub masked_block-done : (pad : ℕ) (key masked : List ℕ) (n : ℕ) → length key ≡ 32 → n ≡ 32
    → masked ≡ map (λ byte. bit_xor byte pad) (take n key) ++ drop n key → masked ++ replicate 32 pad ≡ masked_block pad key
masked_block-done pad key masked n long end is =
    let front : take n key ≡ key = take_all n key (omega arith) in
    let rest : drop n key ≡ [] = drop_all n key (omega arith) in
    let mask = λ (byte : ℕ). bit_xor byte pad in
    let all : masked ≡ map mask key = is ∙ ap (λ x. map mask x ++ drop n key) front ∙ ap (λ x. map mask key ++ x) rest ∙ append-nil (map mask key) in
    ap (λ x. x ++ replicate 32 pad) all ∙ sym (masked_block-key pad key long)
