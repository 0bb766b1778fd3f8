-- The parts of a cookie.
use Rattle.std.proofs.Common.{◌≡◌, ℕ, ◌-◌, ◌+◌, ◌<◌, ◌≤◌, ◌^◌, List, [], ◌++◌, length, take, drop, refl, sym, ap, ◌∙◌, arith, length-append}
use Rattle.std.specs.Int.{w64, from_be_bytes}
use Rattle.std.proofs.lemmas.List.{take_at, drop_at, take-append-drop, length-take-le}
use Rattle.std.proofs.lemmas.Nat.{be_bytes_8, from_be_bytes-to_be_bytes_8}
use Rattle.sctp_util.specs.Field.{AreBytes}
use Rattle.sctp_util.proofs.Bytes.{bytes_take}
use Rattle.sctp_cookie.specs.Cookie.{be64, content, sealed}

length-be64 : (moment : ℕ) → length (be64 moment) ≡ 8
unfolding be64
length-be64 moment = refl

-- a moment is written as the bytes that it was read from, and read as it was written
be64-read : (bytes : List ℕ) → length bytes ≡ 8 → AreBytes bytes → be64 (from_be_bytes w64 bytes) ≡ bytes
unfolding be64
be64-read bytes long small = be_bytes_8 bytes _ long small refl

read-be64 : (moment : ℕ) → moment < 2 ^ 64 → from_be_bytes w64 (be64 moment) ≡ moment
unfolding be64
read-be64 moment fits = from_be_bytes-to_be_bytes_8 moment fits

-- four pieces one after another are a cookie
pub sealed-written : (code : List ℕ → List ℕ) (moment : ℕ) (payload b0 b1 b2 b3 m r : List ℕ)
    → b0 ≡ [] → b1 ≡ b0 ++ m → b2 ≡ b1 ++ payload → r ≡ code b2 → b3 ≡ b2 ++ r → m ≡ be64 moment → b3 ≡ sealed code moment payload
sealed-written code moment payload b0 b1 b2 b3 m r none first second made third is =
    let front : b2 ≡ content moment payload = second ∙ ap (λ x. x ++ payload) (first ∙ ap (λ x. x ++ m) none ∙ is) in
    third ∙ ap (λ x. b2 ++ x) made ∙ ap (λ x. x ++ code x) front

-- the front of a cookie is its content
pub front-sealed : (code : List ℕ → List ℕ) (cookie : List ℕ) (moment : ℕ) (payload : List ℕ)
    → ((message : List ℕ) → length (code message) ≡ 32) → cookie ≡ sealed code moment payload → take (length cookie - 32) cookie ≡ content moment payload
front-sealed code cookie moment payload size is =
    let front = content moment payload in
    let at : length front ≡ length cookie - 32 = omega (arith, length-append front (code front), size front, ap length is) in
    ap (take (length cookie - 32)) is ∙ take_at front (code front) (length cookie - 32) at

-- so it is not too short
pub long-sealed : (code : List ℕ → List ℕ) (cookie front : List ℕ) (moment : ℕ) (payload : List ℕ)
    → ((message : List ℕ) → length (code message) ≡ 32) → cookie ≡ sealed code moment payload → front ≡ take (length cookie - 32) cookie → 8 ≤ length front
long-sealed code cookie front moment payload size is cut =
    omega (arith, ap length (cut ∙ front-sealed code cookie moment payload size is), length-append (be64 moment) payload, length-be64 moment)

-- and what is read in it is what was sealed
pub parts-sealed : (code : List ℕ → List ℕ) (cookie front m p : List ℕ) (n moment : ℕ) (payload : List ℕ) → moment < 2 ^ 64
    → ((message : List ℕ) → length (code message) ≡ 32) → cookie ≡ sealed code moment payload → front ≡ take (length cookie - 32) cookie
    → m ≡ take 8 front → p ≡ drop 8 front → n ≡ from_be_bytes w64 m → (n ≡ moment) × (p ≡ payload)
parts-sealed code cookie front m p n moment payload fits size is cut first rest read =
    let whole : front ≡ content moment payload = cut ∙ front-sealed code cookie moment payload size is in
    let one : m ≡ be64 moment = first ∙ ap (take 8) whole ∙ take_at (be64 moment) payload 8 (length-be64 moment) in
    (read ∙ ap (from_be_bytes w64) one ∙ read-be64 moment fits, rest ∙ ap (drop 8) whole ∙ drop_at (be64 moment) payload 8 (length-be64 moment))

-- bytes whose end is the code of their front are a cookie
pub sealed-read : (code : List ℕ → List ℕ) (cookie front last m p made : List ℕ) (n cut : ℕ) → AreBytes cookie
    → front ≡ take cut cookie → last ≡ drop cut cookie → m ≡ take 8 front → p ≡ drop 8 front → length p + 8 ≡ length front
    → made ≡ code front → made ≡ last → n ≡ from_be_bytes w64 m → cookie ≡ sealed code n p
sealed-read code cookie front last m p made n cut small fore aft first rest long code-made same read =
    let bytes : AreBytes m = rw (first, fore) (bytes_take 8 (take cut cookie) (bytes_take cut cookie small)) in
    let eight : length m ≡ 8 = ap length first ∙ length-take-le 8 front (omega arith) in
    let moment : be64 n ≡ m = ap be64 read ∙ be64-read m eight bytes in
    let whole : content n p ≡ front = ap (λ x. x ++ p) (moment ∙ first) ∙ ap (λ x. take 8 front ++ x) rest ∙ take-append-drop 8 front in
    let end : code front ≡ drop cut cookie = sym code-made ∙ same ∙ aft in
    sym (ap (λ x. x ++ code x) whole ∙ ap (λ x. front ++ x) end ∙ ap (λ x. x ++ drop cut cookie) fore ∙ take-append-drop cut cookie)
