-- The entries of a message by their places, where messages may be cut short: what stands before and behind a fragment, and which
-- ordered messages of a stream are begun past the end of one.
use Rattle.sctp_delivery.proofs.Names.{◌≡◌, ℕ, zero, suc, ◌<◌, ◌≤◌, Bool, true, false, not, List, [], ◌∷◌, length, inl, inr, refl, ap, sym, subst, ◌∙◌, arith}
use Rattle.sctp_delivery.proofs.Names.{◌+◌, ◌^◌, ◌-◌, ◌==◌, ◌&&◌, cases_lt, both, not_both, and, Data, data_of, list_any, nat_tests, common_steps, at_or_before}
use Rattle.sctp_delivery.proofs.Names.{or-left, or-right, same-is, tsn, ChunkPayloadData, completes, is_complete, misses, misses_behind, following_tsn, has_tsn}
use Rattle.sctp_delivery.proofs.Names.{preceding_tsn}
use Rattle.std.proofs.Common.{◌⊎◌}
use Rattle.sctp_delivery.proofs.Cases.{by-test}
use Rattle.sctp_delivery.proofs.OrderedEntries.{AreJoined, begins_on, one}
use Rattle.sctp_delivery.proofs.PassedMessages.{AreCutGone, EndsGone, EndsMessage}
use Rattle.sctp_delivery.proofs.Sent.{Entry, IsLine, IsPart, Numbered, fragment, part-itself, part-length, part-line, same-parts, tail-part, terminal, WasSent}
use Rattle.sctp_delivery.proofs.SpreadEntries.{begun_to, part-joined, to-part, to-up, is_at}
use Rattle.sctp_delivery.proofs.TsnPlaces.{base, next-place, same-place, upto-yes}
use Rattle.sctp_delivery.proofs.UnwrappedHolds as holds
use Rattle.sctp_delivery.proofs.FragmentPlaces.{Shows, part-place}

-- the chunk is an ordered one of the stream
abbrev pub is_of_stream : ℕ → Data → Bool
is_of_stream st d = (d.stream_identifier == st) && not d.unordered

-- the entry at a place is this fragment of this write
pub record IsEntryAt (sent : List Entry) (y : ℕ) (d : Data) (w : Numbered) : Type 0 where
  pub after : List ℕ
  pub entries : List Entry
  pub part : IsPart (fragment d w after ∷ entries) sent
  pub place : y ≡ suc (length entries)

-- at this place a message ends, or is cut short
abbrev pub EndsAt : List Entry → ℕ → Type 0
EndsAt sent m = (passed : List Entry) × IsPart passed sent × (length passed ≡ m) × EndsMessage passed

-- the fragment does not end its message, which is on the stream of the other one and of its kind
abbrev pub IsBeforeIn : Data → Data → Type 0
IsBeforeIn e d = (e.ending_fragment ≡ false) × (e.unordered ≡ d.unordered) × (e.stream_identifier ≡ d.stream_identifier)

-- an ordered fragment of the stream stands at the place, or has to: the message of the one before it goes on
abbrev pub IsHere : ℕ → List Entry → ℕ → Type 0
IsHere st sent y = (d : Data) × (w : Numbered) × IsEntryAt sent y d w × (is_of_stream st d ≡ true)

abbrev pub IsNext : ℕ → List Entry → ℕ → Type 0
IsNext st sent y =
    (z : ℕ) × (y ≡ suc z) × (d : Data) × (w : Numbered) × IsEntryAt sent z d w × (is_of_stream st d ≡ true) × (d.ending_fragment ≡ false)

abbrev pub IsWanted : ℕ → List Entry → ℕ → Type 0
IsWanted st sent y = IsHere st sent y ⊎ IsNext st sent y

pub ordered-alike : (st : ℕ) (d e : Data) → IsBeforeIn e d → is_of_stream st e ≡ is_of_stream st d
ordered-alike st d e b = ap (λ k. (k == st) && not e.unordered) b.2 ∙ ap (λ k. (d.stream_identifier == st) && not k) b.1

-- the entry at the next place
pub next-part : (sent ys : List Entry) → IsPart ys sent → length ys < length sent → (x : Entry) × IsPart (x ∷ ys) sent
next-part [] ys p lt = absurd (omega (arith, lt))
next-part (x ∷ xs) ys (inl e) lt = let n = ap length e in absurd (omega (arith, n, lt))
next-part (x ∷ xs) ys (inr p) lt = elim (cases_lt (length ys) (length xs)) [
  | inl less ↦ let n = next-part xs ys p less in (n.0, inr n.1)
  | inr ge ↦
      let same : ys ≡ xs = same-parts xs ys xs p (part-itself xs) (omega (arith, ge, part-length xs ys p)) in
      (x, inl (ap (λ zs. x ∷ zs) same))
]

pub cut-part : (gone : List ℕ) (sent ys : List Entry) → IsPart (terminal ∷ ys) sent → AreCutGone gone sent → EndsGone gone ys
cut-part gone [] ys p c = cc
cut-part gone (terminal ∷ xs) ys (inl e) c = let same : xs ≡ ys = cc in subst (EndsGone gone) same c.0
cut-part gone (fragment d w after ∷ xs) ys (inl e) c = cc
cut-part gone (terminal ∷ xs) ys (inr p) c = cut-part gone xs ys p c.1
cut-part gone (fragment d w after ∷ xs) ys (inr p) c = cut-part gone xs ys p c

-- ## A message from its first fragment to its last one

abbrev pub IsKin : Data → Data → Type 0
IsKin e d = (e.unordered ≡ d.unordered) × (e.stream_identifier ≡ d.stream_identifier)

-- at the place stands what f has there, a fragment of this write, of the kind and the stream of this one
abbrev pub IsOne : (ℕ → Data) → List Entry → Numbered → Data → ℕ → Type 0
IsOne f sent w d j = IsEntryAt sent j (f j) w × IsKin (f j) d

-- from the first fragment to the place
pub record IsBack (f : ℕ → Data) (sent : List Entry) (w : Numbered) (d : Data) (y : ℕ) : Type 0 where
  pub start : ℕ
  pub some : 0 < start
  pub upto : start ≤ y
  pub begins : (f start).beginning_fragment ≡ true
  pub inner : (j : ℕ) → start < j → j ≤ y → (f j).beginning_fragment ≡ false
  pub open' : (j : ℕ) → start ≤ j → j < y → (f j).ending_fragment ≡ false
  pub each : (j : ℕ) → start ≤ j → j ≤ y → IsOne f sent w d j

-- from the place to the last fragment
record IsForth (f : ℕ → Data) (sent : List Entry) (m : ℕ) (w : Numbered) (d : Data) (y : ℕ) : Type 0 where
  finish : ℕ
  from : y ≤ finish
  below : finish ≤ m
  ends : (f finish).ending_fragment ≡ true
  inner : (j : ℕ) → y < j → j ≤ finish → (f j).beginning_fragment ≡ false
  open' : (j : ℕ) → y ≤ j → j < finish → (f j).ending_fragment ≡ false
  each : (j : ℕ) → y ≤ j → j ≤ finish → IsOne f sent w d j

-- from the one to the other
pub record IsSpan (f : ℕ → Data) (sent : List Entry) (m : ℕ) (w : Numbered) (d : Data) (y : ℕ) : Type 0 where
  pub start : ℕ
  pub finish : ℕ
  pub some : 0 < start
  pub upto : start ≤ y
  pub from : y ≤ finish
  pub below : finish ≤ m
  pub begins : (f start).beginning_fragment ≡ true
  pub ends : (f finish).ending_fragment ≡ true
  pub inner : (j : ℕ) → start < j → j ≤ finish → (f j).beginning_fragment ≡ false
  pub open' : (j : ℕ) → start ≤ j → j < finish → (f j).ending_fragment ≡ false
  pub each : (j : ℕ) → start ≤ j → j ≤ finish → IsOne f sent w d j

kin-then : (a b c : Data) → IsKin a b → IsKin b c → IsKin a c
kin-then a b c x y = (x.0 ∙ y.0, x.1 ∙ y.1)

module _ (ws : List Numbered) (first : ℕ) (sent : List Entry) (line : IsLine ws first sent) (joined : AreJoined sent) where
  pub within : (y : ℕ) (d : Data) (w : Numbered) → IsEntryAt sent y d w → (0 < y) × (y ≤ length sent)
  within y d w i =
      (omega arith, omega (arith, part-length sent (fragment d w i.after ∷ i.entries) i.part))

  -- one place has one entry
  pub same-entry : (y : ℕ) (d e : Data) (w v : Numbered) → IsEntryAt sent y d w → IsEntryAt sent y e v → (d ≡ e) × (w ≡ v)
  same-entry y d e w v i k = grind (arith, nat_tests, common_steps, same-parts)

  pub ends-own : (y : ℕ) (d : Data) (w : Numbered) → IsEntryAt sent y d w → EndsAt sent y → d.ending_fragment ≡ true
  ends-own y d w i e = grind (arith, nat_tests, common_steps, same-parts)

  pub own-ends : (y : ℕ) (d : Data) (w : Numbered) → IsEntryAt sent y d w → d.ending_fragment ≡ true → EndsAt sent y
  own-ends y d w i e = (fragment d w i.after ∷ i.entries, i.part, sym i.place, e)

  -- before a fragment that does not begin its message stands one of it
  pub prior-of : (y : ℕ) (d : Data) (w : Numbered) → IsEntryAt sent y d w → d.beginning_fragment ≡ false
      → (z : ℕ) × (y ≡ suc z) × (e : Data) × IsEntryAt sent z e w × IsBeforeIn e d
  prior-of y d w i b = grind (arith, part-joined, part-line, not_both, tail-part)

  -- behind a fragment that does not end its message stands one of it, or a terminal chunk
  pub next-of : (y : ℕ) (d : Data) (w : Numbered) (i : IsEntryAt sent y d w) → d.ending_fragment ≡ false → y < length sent
      → (IsPart (terminal ∷ fragment d w i.after ∷ i.entries) sent → ⊥)
      → (e : Data) × IsEntryAt sent (suc y) e w × (e.beginning_fragment ≡ false) × IsBeforeIn d e
  next-of y d w i open' lt uncut = grind (arith, nat_tests, common_steps, next-part, terminal, not_both, part-joined, part-line)

  -- ## Ordered messages of a stream

  module _ (st : ℕ) where
    abbrev to : ℕ → ℕ
    to k = begun_to st k sent

    up : (j k : ℕ) → j ≤ k → to j ≤ to k
    up j k le = to-up st j k sent le

    -- where it begins one, one more is begun
    pub begins-more : (z : ℕ) (d : Data) (w : Numbered) → IsEntryAt sent (suc z) d w → is_of_stream st d ≡ true → d.beginning_fragment ≡ true
        → to (suc z) ≡ suc (to z)
    begins-more z d w i on b =
        let long : length (fragment d w i.after ∷ i.entries) ≡ suc z = omega arith in
        let less : length i.entries ≡ z = omega arith in
        let k = both (d.stream_identifier == st) (not d.unordered) on in
        let begins : begins_on st d ≡ true = cc (k.0, b, k.1) in
        let before = to-part st sent i.entries (tail-part sent i.entries (fragment d w i.after) i.part) in
        omega (arith, to-part st sent (fragment d w i.after ∷ i.entries) i.part, before, ap one begins, ap to long, ap to less)

    -- past the end of a message each ordered fragment is of a later one
    pub here-after : (m : ℕ) → EndsAt sent m → (y : ℕ) (d : Data) (w : Numbered) → IsEntryAt sent y d w → is_of_stream st d ≡ true → m < y
        → to m < to y
    here-after m ends zero d w i on lt = absurd (omega (arith, lt))
    here-after m ends (suc z) d w i on lt = by d.beginning_fragment refl
        (λ e k o l. here-after m ends z e w k o l)
      where
        by : (b : Bool) → d.beginning_fragment ≡ b
            → ((e : Data) → IsEntryAt sent z e w → is_of_stream st e ≡ true → m < z → to m < to z) → to m < to (suc z)
        by true b ih = let n = begins-more z d w i on b in let u = up m z (omega (arith, lt)) in omega (arith, n, u)
        by false b ih =
            let r = prior-of (suc z) d w i b in
            let same : r.0 ≡ z = (omega arith) in
            let k = subst (λ x. IsEntryAt sent x r.2 w) same r.3 in
            elim (cases_lt m z) [
              | inl less ↦ let n = ih r.2 k (ordered-alike st d r.2 r.4 ∙ on) less in let u = up z (suc z) (omega arith) in omega (arith, n, u)
              | inr ge ↦
                  let it : m ≡ z = omega (arith, lt, ge) in
                  absurd (not_both (sym r.4.0 ∙ ends-own z r.2 w k (subst (EndsAt sent) it ends)))
            ]

    pub wanted-after : (m : ℕ) → EndsAt sent m → (y : ℕ) → IsWanted st sent y → m < y → to m < to y
    wanted-after m ends y (inl h) lt = here-after m ends y h.0 h.1 h.2 h.3 lt
    wanted-after m ends y (inr h) lt =
        elim (cases_lt m h.0) [
          | inl less ↦ let n = here-after m ends h.0 h.2 h.3 h.4 h.5 less in let u = up h.0 y (omega arith) in omega (arith, n, u)
          | inr ge ↦
              let it : m ≡ h.0 = omega (arith, lt, ge) in
              absurd (not_both (sym h.6 ∙ ends-own h.0 h.2 h.3 h.4 (subst (EndsAt sent) it ends)))
        ]

    -- of the stream some message was begun
    here-some : (y : ℕ) (d : Data) (w : Numbered) → IsEntryAt sent y d w → is_of_stream st d ≡ true → 0 < to y
    here-some zero d w i on = let p = i.place in absurd (omega (arith, p))
    here-some (suc z) d w i on = by-test d.beginning_fragment
        (λ b. let n = begins-more z d w i on b in omega (arith, n))
        (λ b.
        let r = prior-of (suc z) d w i b in
        let same : r.0 ≡ z = (omega arith) in
        let n = (here-some z r.2 w (subst (λ x. IsEntryAt sent x r.2 w) same r.3) (ordered-alike st d r.2 r.4 ∙ on)) in
        omega (arith, n, up z (suc z) (omega arith)))

    pub wanted-some : (y : ℕ) → IsWanted st sent y → 0 < to y
    wanted-some y (inl h) = here-some y h.0 h.1 h.2 h.3
    wanted-some y (inr h) =
        omega (arith, here-some h.0 h.2 h.3 h.4 h.5, up h.0 y (omega arith))

    -- where as many were begun, they are of one message
    same-under : (y : ℕ) (d : Data) (w : Numbered) → IsEntryAt sent y d w → (z : ℕ) (e : Data) (v : Numbered) → IsEntryAt sent z e v
        → is_of_stream st e ≡ true → y ≤ z → to y ≡ to z → w ≡ v
    same-under y d w i zero e v k on le same = let p = k.place in absurd (omega (arith, p))
    same-under y d w i (suc z) e v k on le same = elim (cases_lt y (suc z)) [
      | inr ge ↦
          let it : suc z ≡ y = omega (arith, le, ge) in
          (same-entry y d e w v i (subst (λ x. IsEntryAt sent x e v) it k)).1
      | inl lt ↦ by e.beginning_fragment refl lt (λ f j o l s. same-under y d w i z f v j o l s)
    ]
      where
        by : (b : Bool) → e.beginning_fragment ≡ b → y < suc z
            → ((f : Data) → IsEntryAt sent z f v → is_of_stream st f ≡ true → y ≤ z → to y ≡ to z → w ≡ v) → w ≡ v
        by true b lt ih =
            absurd (omega (arith, begins-more z e v k on b, up y z (omega (arith, lt)), same))
        by false b lt ih =
            let r = prior-of (suc z) e v k b in
            let it : r.0 ≡ z = (omega arith) in
            let u = up y z (omega (arith, lt)) in
            let x = up z (suc z) (omega arith) in
            ih r.2 (subst (λ m. IsEntryAt sent m r.2 v) it r.3) (ordered-alike st e r.2 r.4 ∙ on) (omega (arith, lt)) (omega (arith, u, x, same))

    pub same-message : (y z : ℕ) (d e : Data) (w v : Numbered) → IsEntryAt sent y d w → IsEntryAt sent z e v → is_of_stream st d ≡ true
        → is_of_stream st e ≡ true → to y ≡ to z → w ≡ v
    same-message y z d e w v i k on there same = elim (cases_lt z y) [
      | inl lt ↦ sym (same-under z e v k y d w i on (omega (arith, lt)) (sym same))
      | inr ge ↦ same-under y d w i z e v k there ge same
    ]

  -- # The fragments of an ordered message that a stream holds, where messages may be cut short: a complete set has all of the message, and an
  -- incomplete one misses a TSN up to each place past the message's first at which a message ends.

  module _ (n : ℕ) (long : length sent ≡ n) (few : n < 2 ^ 31) where
    abbrev p : ℕ
    p = base first

    -- the entry of a chunk that was made
    pub entry-of : (c : ChunkPayloadData) → WasSent sent (data_of c)
        → (y : ℕ) × (w : Numbered) × IsEntryAt sent y (data_of c) w × (y ≤ n) × (c.tsn ≡ tsn p y)
    entry-of c s =
        let number = (part-line ws first sent (fragment (data_of c) s.0 s.1 ∷ s.2) s.3 line).0.number in
        let most = part-length sent (fragment (data_of c) s.0 s.1 ∷ s.2) s.3 in
        (suc (length s.2), s.0, record { after = s.1; entries = s.2; part = s.3; place = refl }, omega (arith, most, long), omega (arith, number))

    -- an entry has the TSN of its place
    pub place-tsn : (y : ℕ) (d : Data) (w : Numbered) → IsEntryAt sent y d w → d.tsn ≡ tsn p y
    place-tsn y d w i = grind (arith, nat_tests, common_steps, (part-line ws first sent (fragment d w i.after ∷ i.entries) i.part line).0.number)

    -- where its TSN is that of a place
    pub entry-at : (c : ChunkPayloadData) → WasSent sent (data_of c) → (y : ℕ) → y ≤ n → c.tsn ≡ tsn p y
        → (w : Numbered) × IsEntryAt sent y (data_of c) w
    entry-at c s y le e =
        let r = entry-of c s in
        let same : r.0 ≡ y = same-place p r.0 y (omega (arith, few)) (omega (arith, le, few)) (sym r.4 ∙ e) in
        (r.1, subst (λ x. IsEntryAt sent x (data_of c) r.1) same r.2)

    module _ (st : ℕ) where
      abbrev IsOf : ℕ → ChunkPayloadData → Type 0
      IsOf = holds.IsOf p st n (λ k. begun_to st k sent) (λ k. is_at st k sent) (λ c. WasSent sent (data_of c))

      abbrev Rises : ℕ → ℕ → List ChunkPayloadData → Type 0
      Rises = holds.Rises p st n (λ k. begun_to st k sent) (λ k. is_at st k sent) (λ c. WasSent sent (data_of c))

      pub of-entry : (k : ℕ) (c : ChunkPayloadData) (o : IsOf k c) → (w : Numbered) × IsEntryAt sent (o.before + 1) (data_of c) w
      of-entry k c o = entry-at c o.made (o.before + 1) o.within o.is

      -- ## A complete set

      has-from : (k : ℕ) (c : ChunkPayloadData) (cs : List ChunkPayloadData) (o : IsOf k c) → completes c cs ≡ true → Rises k (o.before + 1) cs
          → (y : ℕ) → IsWanted st sent y → to st y ≡ k + 1 → o.before + 1 ≤ y → list_any (has_tsn (tsn p y)) (c ∷ cs) ≡ true
      has-from k c [] o e r y want count le = elim (cases_lt (o.before + 1) y) [
        | inr ge ↦ grind (arith, nat_tests, common_steps)
        | inl lt ↦
            let i = of-entry k c o in
            let end = own-ends (o.before + 1) (data_of c) i.0 i.1 e in
            absurd (omega (arith, wanted-after st (o.before + 1) end y want lt, count))
      ]
      has-from k c (x ∷ xs) o e r y want count le = elim (cases_lt (o.before + 1) y) [
        | inr ge ↦ grind (arith, nat_tests, common_steps)
        | inl lt ↦
            let b = both (x.tsn == following_tsn c.tsn) (completes x xs) e in
            let next : tsn p (r.0.before + 1) ≡ tsn p (o.before + 1 + 1) =
            sym r.0.is ∙ same-is x.tsn (following_tsn c.tsn) b.0 ∙ ap following_tsn o.is ∙ next-place p (o.before + 1) in
            let same : r.0.before + 1 ≡ o.before + 1 + 1 = omega (arith, few, next) in
            or-right (has_tsn (tsn p y) c) (list_any (has_tsn (tsn p y)) (x ∷ xs))
            (has-from k x xs r.0 b.1 r.2 y want count (omega (arith, same, lt)))
      ]

      pub has-all : (k : ℕ) (cs : List ChunkPayloadData) → Rises k 0 cs → is_complete cs ≡ true → (y : ℕ) → IsWanted st sent y → to st y ≡ k + 1
          → list_any (has_tsn (tsn p y)) cs ≡ true
      has-all k [] r e y want count = absurd (not_both e)
      has-all k (c ∷ cs) r e y want count =
          let b = both c.beginning_fragment (completes c cs) e in
          let o = r.0 in
          let i = of-entry k c o in
          has-from k c cs o b.1 r.2 y want count (elim (cases_lt o.before y) [
            | inl lt ↦ omega (arith, lt)
            | inr ge ↦
                let plus : o.before + 1 ≡ suc o.before = omega arith in
                let more = begins-more st o.before (data_of c) i.0 (subst (λ x. IsEntryAt sent x (data_of c) i.0) plus i.1) o.on b.0 in
                absurd (omega (arith, more, ap (to st) plus, to-up st y o.before sent ge, count))
          ])

      -- ## An incomplete one

      module _ (k m : ℕ) (within : m ≤ n) where
        -- where each fragment lies up to the place, and before it where the message goes on
        module _ (upto : (c : ChunkPayloadData) (o : IsOf k c) → o.before + 1 ≤ m)
            (open' : (c : ChunkPayloadData) (o : IsOf k c) → c.ending_fragment ≡ false → o.before + 1 < m) where
          follows-upto : (c : ChunkPayloadData) (o : IsOf k c) → o.before + 1 < m → at_or_before (following_tsn c.tsn) (tsn p m) ≡ true
          follows-upto c o lt = grind (arith, nat_tests, common_steps, upto-yes, next-place)

          misses-after : (c : ChunkPayloadData) (cs : List ChunkPayloadData) (o : IsOf k c) → Rises k (o.before + 1) cs → completes c cs ≡ false
              → misses_behind (tsn p m) c cs ≡ true
          misses-after c [] o r e = and (not c.ending_fragment) (at_or_before (following_tsn c.tsn) (tsn p m)) (ap not e)
              (follows-upto c o (open' c o e))
          misses-after c (x ∷ xs) o r e = by-test (x.tsn == following_tsn c.tsn)
              (λ f.
              or-right (not (x.tsn == following_tsn c.tsn) && at_or_before (following_tsn c.tsn) (tsn p m)) (misses_behind (tsn p m) x xs)
              ((misses-after x xs r.0 r.2 (ap (λ b. b && completes x xs) (sym f) ∙ e))))
              (λ f.
              or-left (not (x.tsn == following_tsn c.tsn) && at_or_before (following_tsn c.tsn) (tsn p m)) (misses_behind (tsn p m) x xs)
              (and (not (x.tsn == following_tsn c.tsn)) (at_or_before (following_tsn c.tsn) (tsn p m)) (ap not f)
              (follows-upto c o (omega (arith, upto x r.0)))))

          pub misses-in : (cs : List ChunkPayloadData) → Rises k 0 cs → 0 < length cs → is_complete cs ≡ false → misses (tsn p m) cs ≡ true
          misses-in [] r some e = absurd (omega (arith, some))
          misses-in (c ∷ cs) r some e = by-test c.beginning_fragment
              (λ f.
              or-right (not c.beginning_fragment && at_or_before (preceding_tsn c.tsn) (tsn p m)) (misses_behind (tsn p m) c cs)
              (misses-after c cs r.0 r.2 (ap (λ b. b && completes c cs) (sym f) ∙ e)))
              (λ f.
              let o = r.0 in
              let le = upto c o in
              let prior : preceding_tsn (tsn p (o.before + 1)) ≡ tsn p o.before = omega arith in
              or-left (not c.beginning_fragment && at_or_before (preceding_tsn c.tsn) (tsn p m)) (misses_behind (tsn p m) c cs)
              (and (not c.beginning_fragment) (at_or_before (preceding_tsn c.tsn) (tsn p m)) (ap not f)
              (upto-yes p o.before m (ap preceding_tsn o.is ∙ prior) refl (omega (arith, le, within, few)) (omega (arith, within, few))
              (omega (arith, le)))))

        module _ (ends : EndsAt sent m) (past : k + 1 ≤ to st m) where
          -- each fragment lies up to the place
          pub fragment-upto : (c : ChunkPayloadData) (o : IsOf k c) → o.before + 1 ≤ m
          fragment-upto c o = elim (cases_lt m (o.before + 1)) [
            | inr ge ↦ ge
            | inl lt ↦
                let i = of-entry k c o in
                absurd (omega (arith, here-after st m ends (o.before + 1) (data_of c) i.0 i.1 o.on lt, past))
          ]

          open-before : (c : ChunkPayloadData) (o : IsOf k c) → c.ending_fragment ≡ false → o.before + 1 < m
          open-before c o e = elim (cases_lt (o.before + 1) m) [
            | inl lt ↦ lt
            | inr ge ↦
                let i = of-entry k c o in
                let it : m ≡ o.before + 1 = omega (arith, fragment-upto c o, ge) in
                absurd (not_both (sym e ∙ ends-own (o.before + 1) (data_of c) i.0 i.1 (subst (EndsAt sent) it ends)))
          ]

          pub misses-one : (cs : List ChunkPayloadData) → Rises k 0 cs → 0 < length cs → is_complete cs ≡ false → misses (tsn p m) cs ≡ true
          misses-one = misses-in fragment-upto open-before

  -- # The places of a message that is not gone, from its first fragment to its last one, up to a place at which a message ends.

  module _ (f : ℕ → Data) (show : Shows f sent) where
    pub shown-at : (y : ℕ) (d : Data) (w : Numbered) → IsEntryAt sent y d w → f y ≡ d
    shown-at y d w i = ap f i.place ∙ part-place f sent show d w i.after i.entries i.part

    one-at : (y : ℕ) (e d : Data) (w : Numbered) → IsEntryAt sent y e w → IsKin e d → IsOne f sent w d y
    one-at y e d w i k =
        let same = shown-at y e w i in
        (subst (λ x. IsEntryAt sent y x w) (sym same) i, subst (λ x. IsKin x d) (sym same) k)

    one-kin : (j : ℕ) (w : Numbered) (d e : Data) → IsKin e d → IsOne f sent w e j → IsOne f sent w d j
    one-kin j w d e k o = (o.0, kin-then (f j) e d o.1 k)

    pub back : (y : ℕ) (d : Data) (w : Numbered) → IsEntryAt sent y d w → IsBack f sent w d y
    back zero d w i = let p = i.place in absurd (omega (arith, p))
    back (suc z) d w i = by d.beginning_fragment refl (λ e k. back z e w k)
      where
        same : f (suc z) ≡ d
        same = shown-at (suc z) d w i

        here : IsOne f sent w d (suc z)
        here = one-at (suc z) d d w i (refl, refl)

        by : (b : Bool) → d.beginning_fragment ≡ b → ((e : Data) → IsEntryAt sent z e w → IsBack f sent w e z) → IsBack f sent w d (suc z)
        by true b ih = grind (arith, nat_tests, common_steps, same)
        by false b ih =
            let r = prior-of (suc z) d w i b in
            let it : r.0 ≡ z = (omega arith) in
            let k : IsEntryAt sent z r.2 w = subst (λ x. IsEntryAt sent x r.2 w) it r.3 in
            let h = ih r.2 k in
            let prior = shown-at z r.2 w k in
            let upto = h.upto in
            record {
              start = h.start;
              some = h.some;
              upto = omega (arith, upto);
              begins = h.begins;
              inner = λ j lt le. elim (cases_lt z j) [
                | inl more ↦
                    let last : suc z ≡ j = omega (arith, more, le) in
                    ap (λ x. (f x).beginning_fragment) (sym last) ∙ ap (λ (x : Data). x.beginning_fragment) same ∙ b
                | inr under ↦ h.inner j lt under
              ];
              open' = λ j le lt. elim (cases_lt j z) [
                | inl less ↦ h.open' j le less
                | inr ge ↦
                    let last : z ≡ j = omega (arith, ge, lt) in
                    ap (λ x. (f x).ending_fragment) (sym last) ∙ ap (λ (x : Data). x.ending_fragment) prior ∙ r.4.0
              ];
              each = λ j from le. elim (cases_lt z j) [
                | inl more ↦ let last : suc z ≡ j = omega (arith, more, le) in subst (IsOne f sent w d) last here
                | inr under ↦ one-kin j w d r.2 (r.4.1, r.4.2) (h.each j from under)
              ];
            }

    -- where it does not end its message, the next entry is of it; so it is of a message of which this is so, at the one place and then at the other
    module _ (m : ℕ) (le : m ≤ length sent) (ends : EndsAt sent m) (Q : Numbered → ℕ → Type 0) (on : (w : Numbered) (y : ℕ) → Q w y → Q w (suc y))
        (goes : (y : ℕ) (d : Data) (w : Numbered) → IsEntryAt sent y d w → d.ending_fragment ≡ false → y < m → Q w y
        → (e : Data) × IsEntryAt sent (suc y) e w × (e.beginning_fragment ≡ false) × IsBeforeIn d e) where
      ended : (y : ℕ) (d : Data) (w : Numbered) → y ≤ m → IsEntryAt sent y d w → d.ending_fragment ≡ true → IsForth f sent m w d y
      ended y d w below i b = record {
        finish = y;
        from = omega arith;
        below = below;
        ends = ap (λ (x : Data). x.ending_fragment) (shown-at y d w i) ∙ b;
        inner = λ j lt under. absurd (omega (arith, lt, under));
        open' = λ j ge lt. absurd (omega (arith, lt, ge));
        each = λ j ge under.
            let it : y ≡ j = omega (arith, ge, under) in
            subst (IsOne f sent w d) it (one-at y d d w i (refl, refl));
      }

      forth : (gap y : ℕ) (d : Data) (w : Numbered) → y + gap ≡ m → IsEntryAt sent y d w → Q w y → IsForth f sent m w d y
      forth zero y d w total i alive =
          let it : m ≡ y = omega (arith, total) in
          ended y d w (omega (arith, total)) i (ends-own y d w i (subst (EndsAt sent) it ends))
      forth (suc k) y d w total i alive = by-test d.ending_fragment
          (λ b. ended y d w (omega (arith, total)) i b)
          (λ b.
          let r = goes y d w i b (omega (arith, total)) alive in
          let h = (forth k (suc y) r.0 w (omega (arith, total)) r.1 (on w y alive)) in
          let from = h.from in
          let kin : IsKin r.0 d = (sym r.3.1, sym r.3.2) in
          let next = shown-at (suc y) r.0 w r.1 in
          let same = shown-at y d w i in
          record {
            finish = h.finish;
            from = omega (arith, from);
            below = h.below;
            ends = h.ends;
            inner = grind (arith, nat_tests, common_steps);
            open' = grind (arith, nat_tests, common_steps);
            each = grind (arith, nat_tests, common_steps);
          })

      pub span-of : (y : ℕ) (d : Data) (w : Numbered) → y ≤ m → IsEntryAt sent y d w → Q w y → IsSpan f sent m w d y
      span-of y d w upto i alive =
          let a = back y d w i in
          let b = forth (m - y) y d w (omega (arith, upto)) i alive in
          record {
            start = a.start;
            finish = b.finish;
            some = a.some;
            upto = a.upto;
            from = b.from;
            below = b.below;
            begins = a.begins;
            ends = b.ends;
            inner = λ j lt under. elim (cases_lt y j) [ inl over ↦ b.inner j over under | inr le' ↦ a.inner j lt le' ];
            open' = λ j ge lt. elim (cases_lt j y) [ inl less ↦ a.open' j ge less | inr over ↦ b.open' j over lt ];
            each = λ j ge under. elim (cases_lt j y) [ inl less ↦ a.each j ge (omega (arith, less)) | inr over ↦ b.each j over under ];
          }
