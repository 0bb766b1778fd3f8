-- The ordered messages of a stream that got TSNs: each has the number after that of the one before it, and they were written in this order.
use Rattle.sctp_delivery.proofs.Names.{◌≡◌, ℕ, ◌+◌, ◌%◌, ◌^◌, ◌<◌, ◌≤◌, Bool, true, false, not, List, [], ◌∷◌, ◌++◌, length, map, Option, Some, None, inl, inr}
use Rattle.sctp_delivery.proofs.Names.{refl, ap, sym, subst, ◌∙◌, arith, ⊤, ◌==◌, ◌&&◌, if◌then◌else◌, filter, nat_tests, common_steps, change_where, and-none}
use Rattle.sctp_delivery.proofs.Names.{and-true, ChunkPayloadData, Data, Selected, with_message_id, IsMessage}
use Rattle.sctp_delivery.proofs.Cases.{Where, all_streams}
use Rattle.sctp_delivery.proofs.Sent.{Entry, IsPart, Numbered, fragment, terminal}
use Rattle.sctp_delivery.proofs.Turns.{counts, inner-not}

-- ## Numbers

-- the chunk begins an ordered message of the stream
abbrev pub begins_on : ℕ → Data → Bool
begins_on s d = (d.stream_identifier == s) && (d.beginning_fragment && not d.unordered)

abbrev pub one : Bool → ℕ
one b = if b then 1 else 0

-- so many ordered messages of the stream were begun
abbrev pub begun_on : ℕ → List Entry → ℕ
begun_on s [] = 0
begun_on s (terminal ∷ xs) = begun_on s xs
begun_on s (fragment d w after ∷ xs) = one (begins_on s d) + begun_on s xs

-- the first entries begin no more of them than all
pub part-fewer : (s : ℕ) (xs ys : List Entry) → IsPart ys xs → begun_on s ys ≤ begun_on s xs
part-fewer s [] ys p = let e = ap (begun_on s) p in omega (arith, e)
part-fewer s (x ∷ xs) ys (inl p) = let e = ap (begun_on s) p in omega (arith, e)
part-fewer s (terminal ∷ xs) ys (inr p) = part-fewer s xs ys p
part-fewer s (fragment d w after ∷ xs) ys (inr p) = let ih = part-fewer s xs ys p in omega (arith, ih)

-- the number is that of the last of so many messages
abbrev pub IsLatest : ℕ → ℕ → Type 0
IsLatest count ssn = (k : ℕ) × (k + 1 ≡ count) × (ssn ≡ k % 2 ^ 16)

-- the number is that of an ordered message of the stream that was begun
abbrev pub IsNumberOf : List Entry → ℕ → ℕ → Type 0
IsNumberOf sent stream ssn = (k : ℕ) × (k < begun_on stream sent) × (ssn ≡ k % 2 ^ 16)

-- the number of an ordered chunk is its message's index modulo 2^16: so many ordered messages of its stream were begun before
abbrev pub IsIndexed : Data → List Entry → Type 0
IsIndexed d xs =
    d.unordered ≡ false → (k : ℕ) × (k + 1 ≡ one (begins_on d.stream_identifier d) + begun_on d.stream_identifier xs) ×
    (d.stream_sequence_number ≡ k % 2 ^ 16)

-- so it is of each chunk on these streams
abbrev pub AreIndexedOn : (ℕ → Bool) → List Entry → Type 0
AreIndexedOn on [] = ⊤
AreIndexedOn on (terminal ∷ xs) = AreIndexedOn on xs
AreIndexedOn on (fragment d w after ∷ xs) = Where (on d.stream_identifier) (IsIndexed d xs) × AreIndexedOn on xs

abbrev pub AreIndexed : List Entry → Type 0
AreIndexed xs = AreIndexedOn all_streams xs

pub part-indexed : (on : ℕ → Bool) (xs ys : List Entry) → IsPart ys xs → AreIndexedOn on xs → AreIndexedOn on ys
part-indexed on [] ys p i = subst (AreIndexedOn on) (sym p) i
part-indexed on (x ∷ xs) ys (inl e) i = subst (AreIndexedOn on) (sym e) i
part-indexed on (terminal ∷ xs) ys (inr p) i = part-indexed on xs ys p i
part-indexed on (fragment d w after ∷ xs) ys (inr p) i = part-indexed on xs ys p i.1

pub begins-ordered : (s : ℕ) (d : Data) → d.unordered ≡ false → begins_on s d ≡ ((d.stream_identifier == s) && d.beginning_fragment)
begins-ordered s d k =
    ap (λ b. (d.stream_identifier == s) && (d.beginning_fragment && not b)) k ∙ ap (λ b. (d.stream_identifier == s) && b) (and-true d.beginning_fragment)

pub begins-unordered : (s : ℕ) (d : Data) → d.unordered ≡ true → begins_on s d ≡ false
begins-unordered s d k = grind (arith, nat_tests, common_steps)

pub begins-inner : (s : ℕ) (d : Data) → d.beginning_fragment ≡ false → begins_on s d ≡ false
begins-inner s d k = ap (λ b. (d.stream_identifier == s) && (b && not d.unordered)) k ∙ and-none (d.stream_identifier == s)

pub number-more : (x : Entry) (sent : List Entry) (stream ssn : ℕ) → IsNumberOf sent stream ssn → IsNumberOf (x ∷ sent) stream ssn
number-more terminal sent stream ssn n = n
number-more (fragment d w after) sent stream ssn n = let lt = n.1 in (n.0, omega (arith, lt), n.2)

-- the number of an entry
pub latest-here : (d : Data) (w : Numbered) (after : List ℕ) (xs : List Entry) → d.unordered ≡ false → IsIndexed d xs
    → IsLatest (begun_on d.stream_identifier (fragment d w after ∷ xs)) d.stream_sequence_number
latest-here d w after xs k i = i k

-- ## Messages

-- the last entry is an ordered fragment of the stream, or the terminal chunk behind such
abbrev pub ends_on : ℕ → List Entry → Bool
ends_on s [] = false
ends_on s (terminal ∷ xs) = ends_on s xs
ends_on s (fragment d w after ∷ xs) = (d.stream_identifier == s) && not d.unordered

-- behind these entries a fragment begins a message where the last one ended, and else goes on with one of its kind and stream
abbrev pub Joins : Data → List Entry → Type 0
Joins d [] = d.beginning_fragment ≡ true
Joins d (terminal ∷ xs) = d.beginning_fragment ≡ true
Joins d (fragment e v rest ∷ xs) =
    (d.beginning_fragment ≡ true → e.ending_fragment ≡ true)
    × (d.beginning_fragment ≡ false → (e.ending_fragment ≡ false) × (e.unordered ≡ d.unordered) × (e.stream_identifier ≡ d.stream_identifier))

abbrev pub AreJoined : List Entry → Type 0
AreJoined [] = ⊤
AreJoined (terminal ∷ xs) = AreJoined xs
AreJoined (fragment d w after ∷ xs) = Joins d xs × AreJoined xs

-- the last fragment ends its message where none is partially sent, and else is of the message that is
abbrev pub IsOpen : List Entry → Option Selected → Type 0
IsOpen [] sel = ⊤
IsOpen (terminal ∷ xs) sel = ⊤
IsOpen (fragment d w after ∷ xs) None = d.ending_fragment ≡ true
IsOpen (fragment d w after ∷ xs) (Some s) = (d.ending_fragment ≡ false) × (w.place ≡ s.message_id)

-- ## Places

-- no ordered entry is of a write past this place
abbrev pub IsUnder : ℕ → List Entry → Type 0
IsUnder p [] = ⊤
IsUnder p (terminal ∷ xs) = IsUnder p xs
IsUnder p (fragment d w after ∷ xs) = (d.unordered ≡ false → w.place ≤ p) × IsUnder p xs

-- the places of ordered entries do not fall
abbrev pub AreRising : List Entry → Type 0
AreRising [] = ⊤
AreRising (terminal ∷ xs) = AreRising xs
AreRising (fragment d w after ∷ xs) = (d.unordered ≡ false → IsUnder w.place xs) × AreRising xs

-- nor do those of the messages that wait, from one place to another
abbrev pub Rises : ℕ → List ChunkPayloadData → ℕ → Type 0
Rises m [] n = m ≤ n
Rises m (c ∷ cs) n = (m ≤ c.message_id) × Rises c.message_id cs n

-- how many messages of the stream the chunks begin, and how many writes are on it
abbrev pub waiting_on : ℕ → List ChunkPayloadData → ℕ
waiting_on s [] = 0
waiting_on s (c ∷ cs) = one (counts s c) + waiting_on s cs

abbrev pub written_on : ℕ → List Numbered → ℕ
written_on s [] = 0
written_on s (w ∷ ws) = one (w.stream == s) + written_on s ws

-- the ordered messages that wait are behind those that got TSNs in the order of the writes, and together they are no more than these
pub record AreRanked (ws : List Numbered) (os : List ChunkPayloadData) (sent : List Entry) : Type 0 where
  pub top : ℕ
  pub under : IsUnder top sent
  pub waiting : Rises top os (length ws)
  pub rising : AreRising sent
  pub few : (s : ℕ) → waiting_on s os + begun_on s sent ≤ written_on s ws

pub under-more : (p q : ℕ) (xs : List Entry) → p ≤ q → IsUnder p xs → IsUnder q xs
under-more p q [] le u = tt
under-more p q (terminal ∷ xs) le u = under-more p q xs le u
under-more p q (fragment d w after ∷ xs) le u = ((λ k. let h = u.0 k in omega (arith, h, le)), under-more p q xs le u.1)

rises-from : (k m n : ℕ) (cs : List ChunkPayloadData) → k ≤ m → Rises m cs n → Rises k cs n
rises-from k m n [] le r = omega (arith, le, r)
rises-from k m n (c ∷ cs) le r = (omega (arith, le), r.1)

rises-to : (m n : ℕ) (cs : List ChunkPayloadData) → Rises m cs n → Rises m cs (n + 1)
rises-to m n [] r = omega (arith, r)
rises-to m n (c ∷ cs) r = (r.0, rises-to c.message_id n cs r.1)

-- ## Changes of what waits

-- with the same message numbers, streams and first fragments
pub record KeepsPlaces (f : ChunkPayloadData → ChunkPayloadData) : Type 0 where
  pub message : (c : ChunkPayloadData) → (f c).message_id ≡ c.message_id
  pub begins : (s : ℕ) (c : ChunkPayloadData) → counts s (f c) ≡ counts s c

rises-changed : (p : ChunkPayloadData → Bool) (f : ChunkPayloadData → ChunkPayloadData) → KeepsPlaces f → (m n : ℕ) (cs : List ChunkPayloadData)
    → Rises m cs n → Rises m (change_where p f cs) n
rises-changed p f keeps m n [] r = r
rises-changed p f keeps m n (c ∷ cs) r = grind (arith, nat_tests, common_steps, rises-changed p f keeps c.message_id n cs r.1)

waiting-changed : (p : ChunkPayloadData → Bool) (f : ChunkPayloadData → ChunkPayloadData) → KeepsPlaces f → (s : ℕ) (cs : List ChunkPayloadData)
    → waiting_on s (change_where p f cs) ≡ waiting_on s cs
waiting-changed p f keeps s [] = refl
waiting-changed p f keeps s (c ∷ cs) = grind (arith, nat_tests, common_steps, waiting-changed p f keeps s cs)

pub ranked-changed : (p : ChunkPayloadData → Bool) (f : ChunkPayloadData → ChunkPayloadData) → KeepsPlaces f
    → (ws : List Numbered) (os : List ChunkPayloadData) (sent : List Entry) → AreRanked ws os sent → AreRanked ws (change_where p f os) sent
ranked-changed p f keeps ws os sent r = grind (arith, nat_tests, common_steps, rises-changed, waiting-changed)

rises-those : (p : ChunkPayloadData → Bool) (m n : ℕ) (cs : List ChunkPayloadData) → Rises m cs n → Rises m (filter p cs) n
rises-those p m n [] r = r
rises-those p m n (c ∷ cs) r = grind (arith, nat_tests, common_steps, rises-from, rises-those p c.message_id n cs r.1)

waiting-those : (p : ChunkPayloadData → Bool) (s : ℕ) (cs : List ChunkPayloadData) → waiting_on s (filter p cs) ≤ waiting_on s cs
waiting-those p s [] = omega arith
waiting-those p s (c ∷ cs) = grind (arith, nat_tests, common_steps, waiting-those p s cs)

-- a message is gone
pub ranked-those : (p : ChunkPayloadData → Bool) (ws : List Numbered) (os : List ChunkPayloadData) (sent : List Entry) → AreRanked ws os sent
    → AreRanked ws (filter p os) sent
ranked-those p ws os sent r = grind (arith, nat_tests, common_steps, rises-those, waiting-those)

pub ranked-ended : (ws : List Numbered) (os : List ChunkPayloadData) (sent : List Entry) → AreRanked ws os sent → AreRanked ws os (terminal ∷ sent)
ranked-ended ws os sent r = record { top = r.top; under = r.under; waiting = r.waiting; rising = r.rising; few = r.few }

-- ## A write

pub ranked-more : (w : Numbered) (ws : List Numbered) (os : List ChunkPayloadData) (sent : List Entry) → AreRanked ws os sent → AreRanked (w ∷ ws) os sent
ranked-more w ws os sent r = grind (arith, nat_tests, common_steps, rises-to)

rises-behind : (m n : ℕ) (cs ms : List ChunkPayloadData) → Rises m cs n → Rises m (cs ++ map (with_message_id n) ms) (n + 1)
rises-behind m n (c ∷ cs) ms r = (r.0, rises-behind c.message_id n cs ms r.1)
rises-behind m n [] [] r = omega (arith, r)
rises-behind m n [] (x ∷ xs) r = (r, rises-behind n n [] xs (omega arith))

waiting-behind : (s : ℕ) (xs ys : List ChunkPayloadData) → waiting_on s (xs ++ ys) ≡ waiting_on s xs + waiting_on s ys
waiting-behind s [] ys = omega arith
waiting-behind s (c ∷ cs) ys = let ih = waiting-behind s cs ys in omega (arith, ih)

-- behind its first fragment a message begins none
rest-begins-none : (kind : Bool) (s n : ℕ) (cs : List ChunkPayloadData) → IsMessage kind true cs → waiting_on s (map (with_message_id n) cs) ≡ 0
rest-begins-none kind s n [] m = absurd m
rest-begins-none kind s n (c ∷ []) m = ap (λ b. one b + 0) (inner-not s (with_message_id n c) m.0)
rest-begins-none kind s n (c ∷ d ∷ ds) m =
    omega (arith, rest-begins-none kind s n (d ∷ ds) m.3, ap one (inner-not s (with_message_id n c) m.0))

one-first : (a b : Bool) → one (a && b) ≤ one a
one-first h0 h1 = grind (arith, nat_tests, common_steps)

message-begins-one : (kind : Bool) (s n : ℕ) (c : ChunkPayloadData) (cs : List ChunkPayloadData) → IsMessage kind false (c ∷ cs)
    → waiting_on s (map (with_message_id n) (c ∷ cs)) ≤ one (c.stream_identifier == s)
message-begins-one h0 h1 h2 h3 h4 h5 = grind (arith, nat_tests, common_steps, one-first, rest-begins-none)

pub ranked-written : (w : Numbered) (ws : List Numbered) (os : List ChunkPayloadData) (sent : List Entry) (n : ℕ) (c : ChunkPayloadData)
    (cs : List ChunkPayloadData) (kind : Bool) → n ≡ length ws → c.stream_identifier ≡ w.stream → IsMessage kind false (c ∷ cs) → AreRanked ws os sent
    → AreRanked (w ∷ ws) (os ++ map (with_message_id n) (c ∷ cs)) sent
ranked-written w ws os sent n c cs kind same on message r = record {
  top = r.top;
  under = r.under;
  waiting =
      let e : n + 1 ≡ length (w ∷ ws) = omega (arith, same) in
      subst (Rises r.top (os ++ map (with_message_id n) (c ∷ cs))) e (rises-behind r.top n os (c ∷ cs) (subst (Rises r.top os) (sym same) r.waiting));
  rising = r.rising;
  few = grind (arith, nat_tests, common_steps, waiting-behind, message-begins-one);
}

-- ## A fragment is sent

pub ranked-unordered : (d : Data) (w : Numbered) (after : List ℕ) (ws : List Numbered) (os : List ChunkPayloadData) (sent : List Entry)
    → d.unordered ≡ true → AreRanked ws os sent → AreRanked ws os (fragment d w after ∷ sent)
ranked-unordered d w after ws os sent k r = grind (arith, nat_tests, common_steps)

-- its write is at a place from the top on, up to its number
pub ranked-ordered : (d : Data) (w : Numbered) (after : List ℕ) (ws : List Numbered) (c : ChunkPayloadData) (os : List ChunkPayloadData)
    (sent : List Entry) (r : AreRanked ws (c ∷ os) sent) → IsUnder w.place sent → w.place ≤ c.message_id → ((s : ℕ) → begins_on s d ≡ counts s c)
    → AreRanked ws os (fragment d w after ∷ sent)
ranked-ordered d w after ws c os sent r under le same = grind (arith, nat_tests, common_steps, under-more)
