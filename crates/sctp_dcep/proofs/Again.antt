-- What is written is read again.
use Rattle.std.proofs.Common.{◌≡◌, ℕ, ◌+◌, ◌-◌, ◌%◌, ◌<◌, ◌^◌, Bool, true, false, List, [], ◌∷◌, ◌++◌, length, take, drop, refl, ap, ◌∙◌, arith, append_assoc}
use Rattle.std.proofs.Common.{length-append, Ok}
use Rattle.std.specs.Prelude.{nat_lt, nat_le, ◌==◌, slice_index, slice_range}
use Rattle.std.proofs.lemmas.List.{take_at, drop_at, take_all}
use Rattle.std.proofs.lemmas.Bool.Decides.{nat_tests}
use Rattle.sctp_util.specs.Field.{be16, be32, u16_at, u32_at}
use Rattle.sctp_util.proofs.Fields.{length_be16, length_be32, u16_at_be16, u32_at_be32}
use Rattle.sctp_data.specs.Reliability.{reliability_from}
use Rattle.sctp_data.specs.declared.chunk.chunk_payload_data.ReliabilityType.{ReliabilityType}
use Rattle.sctp_data.specs.declared.chunk.chunk_payload_data.ReliabilityType.TheVariants.{Reliable, Rexmit, Timed}
use Rattle.sctp_dcep.specs.declared.message.Open.{Open}
use Rattle.sctp_dcep.specs.declared.message.Message.TheVariants as messages
use Rattle.sctp_dcep.specs.Message.{FitsFields, as_read, channel_type, is_channel_type, label_end, open_encoding, open_in, opened, parameter_of, read_of}
use Rattle.sctp_dcep.specs.Message.{read_open_of, reliability_in}

known_type : (u : Bool) (r : ReliabilityType) → is_channel_type (channel_type u r) ≡ true
known_type false Reliable = refl
known_type true Reliable = refl
known_type false Rexmit = refl
known_type true Rexmit = refl
known_type false Timed = refl
known_type true Timed = refl

order_again : (u : Bool) (r : ReliabilityType) → nat_le 0x80 (channel_type u r) ≡ u
order_again false Reliable = refl
order_again true Reliable = refl
order_again false Rexmit = refl
order_again true Rexmit = refl
order_again false Timed = refl
order_again true Timed = refl

reliability_again : (u : Bool) (r : ReliabilityType) → reliability_from (channel_type u r % 0x80) ≡ r
reliability_again false Reliable = refl
reliability_again true Reliable = refl
reliability_again false Rexmit = refl
reliability_again true Rexmit = refl
reliability_again false Timed = refl
reliability_again true Timed = refl

pub parameter_again : (r : ReliabilityType) (v : ℕ) → parameter_of r (parameter_of r v) ≡ parameter_of r v
parameter_again Reliable v = refl
parameter_again Rexmit v = refl
parameter_again Timed v = refl

parameter_fits : (r : ReliabilityType) (v : ℕ) → v < 2 ^ 32 → parameter_of r v < 2 ^ 32
parameter_fits Reliable v fits = omega arith
parameter_fits Rexmit v fits = fits
parameter_fits Timed v fits = fits

-- where each field stands
record Stands (e : List ℕ) (u : Bool) (r : ReliabilityType) (p v : ℕ) (l q : List ℕ) : Type 0 where
  typ : slice_index e 0 ≡ 3
  channel : slice_index e 1 ≡ channel_type u r
  priority : u16_at e 2 ≡ p
  value : u32_at e 4 ≡ parameter_of r v
  label_length : u16_at e 8 ≡ length l
  protocol_length : u16_at e 10 ≡ length q
  long : length e ≡ 12 + length l + length q
  label : slice_range e 12 (12 + length l) ≡ l
  protocol : slice_range e (12 + length l) (length e) ≡ q

at2 : (h p v a b l q : List ℕ) → h ++ p ++ v ++ a ++ b ++ l ++ q ≡ h ++ (p ++ (v ++ (a ++ (b ++ (l ++ q)))))
at2 h p v a b l q = simp append_assoc

at4 : (h p v a b l q : List ℕ) → h ++ p ++ v ++ a ++ b ++ l ++ q ≡ (h ++ p) ++ (v ++ (a ++ (b ++ (l ++ q))))
at4 h p v a b l q = simp append_assoc

at8 : (h p v a b l q : List ℕ) → h ++ p ++ v ++ a ++ b ++ l ++ q ≡ (h ++ p ++ v) ++ (a ++ (b ++ (l ++ q)))
at8 h p v a b l q = simp append_assoc

at10 : (h p v a b l q : List ℕ) → h ++ p ++ v ++ a ++ b ++ l ++ q ≡ (h ++ p ++ v ++ a) ++ (b ++ (l ++ q))
at10 h p v a b l q = simp append_assoc

at12 : (h p v a b l q : List ℕ) → h ++ p ++ v ++ a ++ b ++ l ++ q ≡ (h ++ p ++ v ++ a ++ b) ++ (l ++ q)
at12 h p v a b l q = simp append_assoc

-- pieces one after another
stands : (u : Bool) (r : ReliabilityType) (p v : ℕ) (l q : List ℕ) → p < 2 ^ 16 → v < 2 ^ 32 → length l < 2 ^ 16 → length q < 2 ^ 16
    → Stands (3 ∷ channel_type u r ∷ be16 p ++ be32 (parameter_of r v) ++ be16 (length l) ++ be16 (length q) ++ l ++ q) u r p v l q
stands u r p v l q p-fits v-fits l-fits q-fits = record {
  typ = refl;
  channel = refl;
  priority = ap (λ x. u16_at x 2) (at2 h pr va a b l q) ∙ u16_at_be16 h _ p 2 refl p-fits;
  value = ap (λ x. u32_at x 4) (at4 h pr va a b l q) ∙ u32_at_be32 (h ++ pr) _ (parameter_of r v) 4 four (parameter_fits r v v-fits);
  label_length = ap (λ x. u16_at x 8) (at8 h pr va a b l q) ∙ u16_at_be16 (h ++ pr ++ va) _ (length l) 8 eight l-fits;
  protocol_length = ap (λ x. u16_at x 10) (at10 h pr va a b l q) ∙ u16_at_be16 (h ++ pr ++ va ++ a) _ (length q) 10 ten q-fits;
  long = all;
  label = ap (λ n. take n (drop 12 whole)) (width 12 (length l)) ∙ ap (take (length l)) (ap (drop 12) (at12 h pr va a b l q) ∙ drop_at front (l ++ q) 12 twelve)
      ∙ take_at l q (length l) refl;
  protocol = ap (take (length whole - (12 + length l))) (drop_at (front ++ l) q (12 + length l) behind) ∙ take_all _ q (omega (arith, all));
}
  where
    h : List ℕ
    h = 3 ∷ channel_type u r ∷ []

    pr : List ℕ
    pr = be16 p

    va : List ℕ
    va = be32 (parameter_of r v)

    a : List ℕ
    a = be16 (length l)

    b : List ℕ
    b = be16 (length q)

    front : List ℕ
    front = h ++ pr ++ va ++ a ++ b

    whole : List ℕ
    whole = front ++ l ++ q

    width : (m n : ℕ) → m + n - m ≡ n
    width m n = omega arith

    four : length (h ++ pr) ≡ 4
    four = omega (arith, length-append h pr, length_be16 p)

    eight : length (h ++ pr ++ va) ≡ 8
    eight = omega (arith, length-append (h ++ pr) va, four, length_be32 (parameter_of r v))

    ten : length (h ++ pr ++ va ++ a) ≡ 10
    ten = omega (arith, length-append (h ++ pr ++ va) a, eight, length_be16 (length l))

    twelve : length front ≡ 12
    twelve = omega (arith, length-append (h ++ pr ++ va ++ a) b, ten, length_be16 (length q))

    behind : length (front ++ l) ≡ 12 + length l
    behind = omega (arith, length-append front l, twelve)

    all : length whole ≡ 12 + length l + length q
    all = omega (arith, length-append (front ++ l) q, behind)

-- a request by its fields
abbrev made : Bool → ReliabilityType → ℕ → ℕ → List ℕ → List ℕ → Open
made u r v p l q = record { unordered = u; reliability = r; value = v; priority = p; label = l; protocol = q }

made_same : (u u' : Bool) (r r' : ReliabilityType) (v v' p p' : ℕ) (l l' q q' : List ℕ)
    → u ≡ u' → r ≡ r' → v ≡ v' → p ≡ p' → l ≡ l' → q ≡ q' → made u r v p l q ≡ made u' r' v' p' l' q'
made_same u u' r r' v v' p p' l l' q q' a b c d e f =
    ap (λ x. made x r v p l q) a ∙ ap (λ x. made u' x v p l q) b ∙ ap (λ x. made u' r' x p l q) c ∙ ap (λ x. made u' r' v' x l q) d
    ∙ ap (λ x. made u' r' v' p' x q) e ∙ ap (made u' r' v' p' l') f

open_in-fields : (e : List ℕ) (u : Bool) (r : ReliabilityType) (p v : ℕ) (l q : List ℕ) → Stands e u r p v l q
    → open_in e ≡ made u r (parameter_of r v) p l q
open_in-fields e u r p v l q s =
    let sending : reliability_in e ≡ r = ap (λ typ. reliability_from (typ % 0x80)) s.channel ∙ reliability_again u r in
    made_same _ _ _ _ _ _ _ _ _ _ _ _
    (ap (nat_le 0x80) s.channel ∙ order_again u r)
    sending
    (ap (λ x. parameter_of x (u32_at e 4)) sending ∙ ap (parameter_of r) s.value ∙ parameter_again r v)
    s.priority
    (ap (λ n. slice_range e 12 (12 + n)) s.label_length ∙ s.label)
    (ap (λ n. slice_range e (12 + n) (length e)) s.label_length ∙ s.protocol)

-- where no test refuses
passed : (short known ends : Bool) (e : List ℕ) → nat_lt (length e) 12 ≡ short → is_channel_type (slice_index e 1) ≡ known
    → (length e == label_end e + u16_at e 10) ≡ ends → short ≡ false → known ≡ true → ends ≡ true → read_open_of e ≡ Ok (open_in e)
passed short known ends e a b c d f g = rw (a, b, c, d, f, g) refl

read_open_of-fields : (e : List ℕ) (u : Bool) (r : ReliabilityType) (p v : ℕ) (l q : List ℕ) → Stands e u r p v l q
    → read_open_of e ≡ Ok (made u r (parameter_of r v) p l q)
read_open_of-fields e u r p v l q s =
    let long : nat_lt (length e) 12 ≡ false = grind (arith, nat_tests, s.long) in
    let same : length e ≡ label_end e + u16_at e 10 = omega (arith, s.long, s.label_length, s.protocol_length) in
    let ends : (length e == label_end e + u16_at e 10) ≡ true = grind (arith, nat_tests) in
    passed _ _ _ e refl refl refl long (ap is_channel_type s.channel ∙ known_type u r) ends ∙ ap Ok (open_in-fields e u r p v l q s)

-- where the type is that of a request
of_open : (none ack asks : Bool) (e : List ℕ) → (length e == 0) ≡ none → (slice_index e 0 == 2) ≡ ack → (slice_index e 0 == 3) ≡ asks
    → none ≡ false → ack ≡ false → asks ≡ true → read_of e ≡ opened (read_open_of e)
of_open none ack asks e a b c d f g = rw (a, b, c, d, f, g) refl

read_of-fields : (e : List ℕ) (u : Bool) (r : ReliabilityType) (p v : ℕ) (l q : List ℕ) → Stands e u r p v l q
    → read_of e ≡ Ok (messages.Open (made u r (parameter_of r v) p l q))
read_of-fields e u r p v l q s =
    let some : (length e == 0) ≡ false = grind (arith, nat_tests, s.long) in
    of_open _ _ _ e refl refl refl some (ap (λ n. n == 2) s.typ) (ap (λ n. n == 3) s.typ) ∙ ap opened (read_open_of-fields e u r p v l q s)

pub read_of-encoding : (o : Open) → FitsFields o → read_of (open_encoding o) ≡ Ok (as_read (messages.Open o))
unfolding open_encoding
read_of-encoding o fits =
    read_of-fields _ o.unordered o.reliability o.priority o.value o.label o.protocol
    (stands o.unordered o.reliability o.priority o.value o.label o.protocol fits.priority fits.value fits.label fits.protocol)
