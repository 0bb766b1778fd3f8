-- A message is begun: what its stream counts then, and the index that it takes.
use Rattle.sctp_link.proofs.Names.{◌≡◌, ℕ, zero, suc, ◌+◌, ◌<◌, Bool, true, false, List, [], ◌∷◌, length, map, Option, Some, None, refl, ap, sym, ◌∙◌, arith}
use Rattle.sctp_link.proofs.Names.{if◌then◌else◌, ◌==◌, ◌&&◌, find, option_map, slice_index_or, subst, change_where, some-same, shape, Indexed, same-turned}
use Rattle.sctp_link.proofs.Names.{OutboundStream, InboundStream, Standing, Message, begins, begun_of, begun_by, OpenStream, join_each, has_number}
use Rattle.sctp_link.proofs.Names.{stream_numbers, State, IsLinked, stream_record}
use Rattle.sctp_link.specs.Progress as Progress
use Rattle.sctp_link.proofs.sides.Joined.{Alike, found-progress, progress-changed}
use Rattle.sctp_link.proofs.sides.Aligned.{standing-changed}

-- the index that a link keeps of each message
abbrev pub index_kept : List (ℕ × ℕ) → ℕ → ℕ
index_kept ps n = (slice_index_or ps n (0, 0)).1

pub indexed-of : {sum : List ℕ → ℕ} {x : State} → IsLinked sum x → Indexed (shape x.recorded) (index_kept x.progress)
indexed-of l = record { is = l.indexes; low = l.low }

-- ## The streams, one of which begins a message or none

abbrev pub with_begun : OpenStream → OpenStream
with_begun l = record l { begun = l.begun + 1 }

abbrev pub begun_with : Bool → ℕ → List OpenStream → List OpenStream
begun_with go s ls = if go then change_where (has_number s) with_begun ls else ls

abbrev pub plus_begun : ℕ → OpenStream → OpenStream
plus_begun n l = record l { begun = l.begun + n }

pub same-field : {A : Type 0} (f : OpenStream → A) → ((l : OpenStream) → f (with_begun l) ≡ f l) → (go : Bool) (s : ℕ) (ls : List OpenStream)
    → map f (begun_with go s ls) ≡ map f ls
same-field f e false s ls = refl
same-field f e true s [] = refl
same-field f e true s (l ∷ ls) = ap (λ x. x ∷ map f (change_where (has_number s) with_begun ls)) (one (has_number s l))
    ∙ ap (λ xs. f l ∷ xs) (same-field f e true s ls)
  where
    one : (b : Bool) → f (if b then with_begun l else l) ≡ f l
    one true = e l
    one false = refl

pub numbers-begun : (go : Bool) (s : ℕ) (ls : List OpenStream) → stream_numbers (begun_with go s ls) ≡ stream_numbers ls
numbers-begun go s ls = same-field (λ l. l.state.stream_identifier) (λ l. refl) go s ls

pub records-begun : (go : Bool) (s : ℕ) (ls : List OpenStream) → map stream_record (begun_with go s ls) ≡ map stream_record ls
records-begun go s ls = same-field stream_record (λ l. refl) go s ls

pub length-begun : (go : Bool) (s : ℕ) (ls : List OpenStream) → length (begun_with go s ls) ≡ length ls
length-begun false s ls = refl
length-begun true s [] = refl
length-begun true s (l ∷ ls) = ap suc (length-begun true s ls)

pub begun-at : (go : Bool) (s : ℕ) (ls : List OpenStream) (k : ℕ) (d : OpenStream) → k < length ls → slice_index_or (begun_with go s ls) k d
    ≡ plus_begun (if (s == (slice_index_or ls k d).state.stream_identifier) && go then 1 else 0) (slice_index_or ls k d)
begun-at false s ls k d lt = none (s == (slice_index_or ls k d).state.stream_identifier) (slice_index_or ls k d)
  where
    none : (b : Bool) (l : OpenStream) → l ≡ plus_begun (if b && false then 1 else 0) l
    none true l = let e : l.begun ≡ l.begun + 0 = omega arith in ap (λ n. record l { begun = n }) e
    none false l = let e : l.begun ≡ l.begun + 0 = omega arith in ap (λ n. record l { begun = n }) e
begun-at true s [] k d lt = absurd (omega arith)
begun-at true s (l ∷ ls) zero d lt = one (l.state.stream_identifier == s)
    ∙ ap (λ b. plus_begun (if b && true then 1 else 0) l) (same-turned l.state.stream_identifier s)
  where
    one : (b : Bool) → (if b then with_begun l else l) ≡ plus_begun (if b && true then 1 else 0) l
    one true = refl
    one false = let e : l.begun ≡ l.begun + 0 = omega arith in ap (λ n. record l { begun = n }) e
begun-at true s (l ∷ ls) (suc k) d lt = begun-at true s ls k d (omega arith)

-- ## The streams and their progress

abbrev pub begun_in : Option OpenStream → ℕ
begun_in None = 0
begun_in (Some l) = l.begun

module _ (states : List OutboundStream) (inbounds : List InboundStream) (ps : List Standing) (a : Alike states inbounds ps) where
  pub begun-joined : (t : ℕ) → begun_of t ps ≡ begun_in (find (has_number t) (join_each states inbounds ps))
  begun-joined t = by (find (has_number t) (join_each states inbounds ps)) (find (Progress.has_number t) ps)
      (found-progress (λ (l : OpenStream). l.begun) (λ (p : Standing). p.begun) (λ s i p. refl) t states inbounds ps a)
    where
      by : (o : Option OpenStream) (q : Option Standing) → option_map (λ l. l.begun) o ≡ option_map (λ p. p.begun) q → Progress.begun_in q ≡ begun_in o
      by None None e = refl
      by None (Some p) e = cc
      by (Some l) None e = cc
      by (Some l) (Some p) e = sym (some-same e)

  pub begun-streams : (m : Message) → join_each states inbounds (begun_by m ps) ≡ begun_with (begins m) m.stream (join_each states inbounds ps)
  begun-streams m = by (begins m)
    where
      by : (b : Bool) → join_each states inbounds (if b then change_where (Progress.has_number m.stream) Progress.with_begun ps else ps)
          ≡ begun_with b m.stream (join_each states inbounds ps)
      by true = progress-changed Progress.with_begun with_begun (λ s i p _. refl) m.stream states inbounds ps a.progresses
      by false = refl

  pub begun-alike : (m : Message) → Alike states inbounds (begun_by m ps)
  begun-alike m = record { numbers = a.numbers; progresses = a.progresses ∙ sym (by (begins m)) }
    where
      by : (b : Bool) → Progress.numbers_of (if b then change_where (Progress.has_number m.stream) Progress.with_begun ps else ps) ≡ Progress.numbers_of ps
      by true = standing-changed Progress.with_begun (λ p. refl) (Progress.has_number m.stream) ps
      by false = refl

-- ## The count of a stream

-- what holds of each holds of the one that is found
pub found-one : (P : OpenStream → Type 0) (s : ℕ) (ls : List OpenStream) → ((k : ℕ) (d : OpenStream) → k < length ls → P (slice_index_or ls k d))
    → (l : OpenStream) → find (has_number s) ls ≡ Some l → P l
found-one P s [] h l e = cc
found-one P s (x ∷ ls) h l e = step (x.state.stream_identifier == s) e (λ z. found-one P s ls (λ k d lt. h (suc k) d (omega (arith, lt))) l z)
  where
    step : (b : Bool) → (if b then Some x else find (has_number s) ls) ≡ Some l → (find (has_number s) ls ≡ Some l → P l) → P l
    step true z ih = let same : x ≡ l = cc in subst P same (h 0 x (omega arith))
    step false z ih = ih z
