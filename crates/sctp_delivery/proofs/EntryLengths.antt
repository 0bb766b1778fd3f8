-- The fragments of a message together are no longer than its write, those of an ordered message that a set has, and those of an unordered one
-- that stand beside a chunk among unassembled ones.
use Rattle.sctp_delivery.proofs.Names.{◌≡◌, ℕ, ◌+◌, ◌^◌, ◌<◌, ◌≤◌, Bool, true, false, not, List, [], ◌∷◌, length, length-append, inl, inr, refl, ap, sym, subst}
use Rattle.sctp_delivery.proofs.Names.{◌∙◌, arith, ◌==◌, ◌&&◌, if◌then◌else◌, cases_lt, sum_by-cons, nat_tests, common_steps, same-is, not_both}
use Rattle.sctp_delivery.proofs.Names.{ChunkPayloadData, Data, data_of, bytes_of, following_tsn, has_tsn, preceding_tsn, size_after, size_before}
use Rattle.std.specs.Prelude.{reverse}
use Rattle.std.proofs.lemmas.List.{reverse-append}
use Rattle.sctp_reassembly.specs.reassembly_queue.Sizes.{back_from, bytes_down, bytes_up, on_from}
use Rattle.sctp_delivery.proofs.Cases.{at-if, at-test, by-test}
use Rattle.sctp_delivery.proofs.Every.{Every, every-joined}
use Rattle.sctp_delivery.proofs.OrderedEntries.{AreJoined, Joins, begins_on, begun_on, one}
use Rattle.sctp_delivery.proofs.Sent.{Entry, GoesOn, IsLine, IsPart, Numbered, WasSent, fragment, part-length, part-line, stands-behind, terminal}
use Rattle.sctp_delivery.proofs.SpreadEntries.{begun_to, is_at, joined-rest, part-joined, to-all, to-more, to-most}
use Rattle.sctp_delivery.proofs.TsnPlaces.{base}
use Rattle.sctp_delivery.proofs.UnwrappedHolds.{IsOf, Rises}
use Rattle.sctp_delivery.proofs.UnwrappedReads.{leading-each}

-- ## Entries

-- of the entry at a place, or this where it has none
abbrev of_entry : {A : Type 0} → A → (Entry → A) → ℕ → List Entry → A
of_entry o f k [] = o
of_entry o f k (x ∷ xs) = if length (x ∷ xs) == k then f x else of_entry o f k xs

module _ {A : Type 0} (o : A) (f : Entry → A) where
  entry-more : (k : ℕ) (x : Entry) (xs : List Entry) → k ≤ length xs → of_entry o f k (x ∷ xs) ≡ of_entry o f k xs
  entry-more k x xs le = grind (arith, nat_tests, common_steps)

  entry-here : (x : Entry) (xs : List Entry) (k : ℕ) → k ≡ length (x ∷ xs) → of_entry o f k (x ∷ xs) ≡ f x
  entry-here x xs k e = grind (arith, nat_tests, common_steps)

  entry-part : (sent : List Entry) (y : Entry) (ys : List Entry) → IsPart (y ∷ ys) sent → of_entry o f (length (y ∷ ys)) sent ≡ f y
  entry-part [] y ys p = cc
  entry-part (x ∷ xs) y ys (inl e) = grind (arith, nat_tests, common_steps)
  entry-part (x ∷ xs) y ys (inr p) = entry-more (length (y ∷ ys)) x xs (part-length xs (y ∷ ys) p) ∙ entry-part xs y ys p

-- an ordered fragment of the stream
abbrev is_fragment_on : ℕ → Entry → Bool
is_fragment_on st terminal = false
is_fragment_on st (fragment d w after) = (d.stream_identifier == st) && not d.unordered

abbrev has_fragment : ℕ → ℕ → List Entry → Bool
has_fragment st k sent = of_entry false (is_fragment_on st) k sent

entry-within : (q : Entry → Bool) (k : ℕ) (sent : List Entry) → of_entry false q k sent ≡ true → (0 < k) × (k ≤ length sent)
entry-within q k [] e = absurd (not_both e)
entry-within q k (x ∷ xs) e = grind (arith, nat_tests, common_steps, entry-within q k xs)

-- how many bytes a fragment has, and how many of its write are left behind it
abbrev pub size_of : Entry → ℕ
size_of terminal = 0
size_of (fragment d w after) = length d.user_data

abbrev pub left_of : Entry → ℕ
left_of terminal = 0
left_of (fragment d w after) = length after

abbrev number_at : (Entry → ℕ) → ℕ → List Entry → ℕ
number_at f k sent = of_entry 0 f k sent

rest-line : (ns : List Numbered) (first : ℕ) (y : Entry) (ys : List Entry) → IsLine ns first (y ∷ ys) → IsLine ns first ys
rest-line ns first terminal ys l = l
rest-line ns first (fragment d w after) ys l = l.1.1

counted : (st : ℕ) (d : Data) → d.beginning_fragment ≡ true → ((d.stream_identifier == st) && not d.unordered) ≡ true → begins_on st d ≡ true
counted st d h on = ap (λ b. (d.stream_identifier == st) && (b && not d.unordered)) h ∙ on

-- a later fragment of the same ordered message, and what is left behind it, is of what is left behind the earlier one
later-left : (ns : List Numbered) (first st x y : ℕ) (sent : List Entry) → AreJoined sent → IsLine ns first sent → x < y → has_fragment st x sent ≡ true
    → has_fragment st y sent ≡ true → begun_to st x sent ≡ begun_to st y sent → number_at size_of y sent + number_at left_of y sent ≤ number_at left_of x sent
later-left ns first st x y [] joined line lt from at same = absurd (not_both at)
later-left ns first st x y (z ∷ zs) joined line lt from at same = elim (cases_lt y (length (z ∷ zs))) [
  | inl less ↦
      let ih = later-left ns first st x y zs (joined-rest z zs joined) (rest-line ns first z zs line) lt
      (sym (entry-more false (is_fragment_on st) x z zs (omega (arith, lt, less))) ∙ from)
      (sym (entry-more false (is_fragment_on st) y z zs (omega (arith, less))) ∙ at)
      (sym (to-more st x z zs (omega (arith, lt, less))) ∙ same ∙ to-more st y z zs (omega (arith, less))) in
      let a = entry-more 0 size_of y z zs (omega (arith, less)) in
      omega (arith, ih, a, entry-more 0 left_of y z zs (omega (arith, less)), entry-more 0 left_of x z zs (omega (arith, lt, less)))
  | inr ge ↦
      let last : y ≡ length (z ∷ zs) = omega (arith, (entry-within (is_fragment_on st) y (z ∷ zs) at).1, ge) in
      let e = to-all st y (z ∷ zs) ge in
      let f = to-more st x z zs (omega (arith, lt, last)) in
      let u = here (λ l k s. later-left ns first st x (length zs) zs (joined-rest z zs joined) (rest-line ns first z zs line) l
      (sym (entry-more false (is_fragment_on st) x z zs (omega (arith, lt, last))) ∙ from) k s) last z joined line
      (sym (entry-here false (is_fragment_on st) z zs y last) ∙ at) (sym f ∙ same ∙ e) in
      omega (arith, u, entry-here 0 size_of z zs y last, entry-here 0 left_of z zs y last, entry-more 0 left_of x z zs (omega (arith, lt, last)))
]
  where
    here : (x < length zs → has_fragment st (length zs) zs ≡ true → begun_to st x zs ≡ begun_to st (length zs) zs
        → number_at size_of (length zs) zs + number_at left_of (length zs) zs ≤ number_at left_of x zs) → y ≡ length (z ∷ zs) → (u : Entry)
        → AreJoined (u ∷ zs) → IsLine ns first (u ∷ zs) → is_fragment_on st u ≡ true → begun_to st x zs ≡ begun_on st (u ∷ zs)
        → size_of u + left_of u ≤ number_at left_of x zs
    here ih last terminal j l on e = absurd (not_both on)
    here ih last (fragment d w after) j l on e = by-test d.beginning_fragment
        (λ h.
        absurd (omega (arith, ap one (counted st d h on), to-most st x zs, e)))
        (λ h. inner h zs refl j.0 l.1.0)
      where
        inner : d.beginning_fragment ≡ false → (vs : List Entry) → zs ≡ vs → Joins d vs → GoesOn d w after vs
            → length d.user_data + length after ≤ number_at left_of x zs
        inner h [] g k i = absurd (not_both (sym h ∙ k))
        inner h (terminal ∷ vs) g k i = absurd (not_both (sym h ∙ k))
        inner h (fragment c v rest ∷ vs) g k i =
            let p = k.1 h in
            let q = (i h).1 in
            let sum : length rest ≡ length d.user_data + length after = ap length q ∙ length-append d.user_data after in
            let long : length zs ≡ length (fragment c v rest ∷ vs) = ap length g in
            let on' : ((c.stream_identifier == st) && not c.unordered) ≡ true = cc (p.2, p.1, on) in
            let frag : has_fragment st (length zs) zs ≡ true =
            ap (λ vs'. has_fragment st (length vs') vs') g ∙ entry-here false (is_fragment_on st) (fragment c v rest) vs (length (fragment c v rest ∷ vs)) refl
            ∙ on' in
            let left : number_at left_of (length zs) zs ≡ length rest =
            ap (λ vs'. number_at left_of (length vs') vs') g ∙ entry-here 0 left_of (fragment c v rest) vs (length (fragment c v rest ∷ vs)) refl in
            let all = to-all st (length zs) zs (omega arith) in
            let none = ap one (begins-none (d.stream_identifier == st) d.beginning_fragment (not d.unordered) h) in
            elim (cases_lt x (length zs)) [
              | inl l ↦
                  let less = ih l frag (e ∙ (let s : begun_on st (fragment d w after ∷ zs) ≡ begun_to st (length zs) zs = omega (arith, none, all) in s)) in
                  omega (arith, less, left, sum)
              | inr m ↦
                  let same' : x ≡ length zs = omega (arith, m, lt, last) in
                  omega (arith, ap (λ k'. number_at left_of k' zs) same', left, sum)
            ]
          where
            begins-none : (a b u : Bool) → b ≡ false → (a && (b && u)) ≡ false
            begins-none true b u f = ap (λ k'. k' && u) f
            begins-none false b u f = refl

-- ## The chunks of a set

-- a fragment and what is left behind it are no longer than the write
pub part-fits : (ns : List Numbered) (first : ℕ) (sent : List Entry) → IsLine ns first sent → (c : ChunkPayloadData)
    → (was : WasSent sent (data_of c)) → length c.user_data + length was.1 ≤ length was.0.bytes
part-fits ns first sent line c (w, after, xs, part) =
    grind (arith, nat_tests, common_steps, length-append c.user_data after, (part-line ns first sent (fragment (data_of c) w after ∷ xs) part line).0.part)

module _ (st first n : ℕ) (few : n < 2 ^ 31) (ns : List Numbered) (sent : List Entry) (long : length sent ≡ n) (line : IsLine ns first sent)
    (joined : AreJoined sent) where
  abbrev Of : ℕ → ChunkPayloadData → Type 0
  Of = IsOf (base first) st n (λ k. begun_to st k sent) (λ k. is_at st k sent) (λ c. WasSent sent (data_of c))

  abbrev Rising : ℕ → ℕ → List ChunkPayloadData → Type 0
  Rising = Rises (base first) st n (λ k. begun_to st k sent) (λ k. is_at st k sent) (λ c. WasSent sent (data_of c))

  -- by its place, the bytes of a chunk, those left behind it, and that it is an ordered fragment of the stream
  at-place : (i : ℕ) (c : ChunkPayloadData) (o : Of i c) → (number_at size_of (o.before + 1) sent ≡ length c.user_data)
      × (number_at left_of (o.before + 1) sent ≡ length o.made.1) × (has_fragment st (o.before + 1) sent ≡ true)
  at-place i c o = by o.made
    where
      by : (was : WasSent sent (data_of c)) → (number_at size_of (o.before + 1) sent ≡ length c.user_data)
          × (number_at left_of (o.before + 1) sent ≡ length was.1) × (has_fragment st (o.before + 1) sent ≡ true)
      by (w, after, xs, part) =
          let most = part-length sent (fragment (data_of c) w after ∷ xs) part in
          let number = (part-line ns first sent (fragment (data_of c) w after ∷ xs) part line).0.number in
          let next : length (fragment (data_of c) w after ∷ xs) ≡ o.before + 1 = omega (arith, most, number, long, few) in (
            ap (λ k. number_at size_of k sent) (sym next) ∙ entry-part 0 size_of sent (fragment (data_of c) w after) xs part,
            ap (λ k. number_at left_of k sent) (sym next) ∙ entry-part 0 left_of sent (fragment (data_of c) w after) xs part,
            ap (λ k. has_fragment st k sent) (sym next) ∙ entry-part false (is_fragment_on st) sent (fragment (data_of c) w after) xs part ∙ o.on,
          )

  -- the chunks behind one of the message are of what is left behind it
  behind-fits : (i : ℕ) (c : ChunkPayloadData) (cs : List ChunkPayloadData) (o : Of i c) → Rising i (o.before + 1) cs
      → bytes_of cs ≤ number_at left_of (o.before + 1) sent
  behind-fits i c [] o r = omega arith
  behind-fits i c (d ∷ ds) o r =
      let a = at-place i d r.0 in
      let p = o.begun in
      let q = r.0.begun in
      let less = later-left ns first st (o.before + 1) (r.0.before + 1) sent joined line (omega arith)
      (at-place i c o).2 a.2 (p ∙ sym q) in
      omega (arith, behind-fits i d ds r.0 r.2, sum_by-cons (λ (x : ChunkPayloadData). length x.user_data) d ds, less)

  -- so together they are no longer than the write of the first one
  pub set-fits : (most : ℕ) → ((c : ChunkPayloadData) (was : WasSent sent (data_of c)) → length was.0.bytes ≤ most) → (i : ℕ) (cs : List ChunkPayloadData)
      → Rising i 0 cs → bytes_of cs ≤ most
  set-fits most bound i [] r = omega arith
  set-fits most bound i (c ∷ cs) r =
      let o = r.0 in
      let sum = sum_by-cons (λ (x : ChunkPayloadData). length x.user_data) c cs in
      omega (arith, behind-fits i c cs o r.2, sum, (at-place i c o).1, part-fits ns first sent line c o.made, bound c o.made)

-- ## Unassembled fragments

abbrev AreSent : List Entry → List ChunkPayloadData → Type 0
AreSent sent cs = Every (λ c. WasSent sent (data_of c)) cs

every-reversed : (P : ChunkPayloadData → Type 0) (xs : List ChunkPayloadData) → Every P xs → Every P (reverse xs)
every-reversed P [] h = tt
every-reversed P (x ∷ xs) h =
    subst (Every P) (sym (reverse-append (x ∷ []) xs)) (every-joined P (reverse xs) (x ∷ []) (every-reversed P xs h.1) (h.0, tt))

every-on : (P : ChunkPayloadData → Type 0) (t : ℕ) (xs : List ChunkPayloadData) → Every P xs → Every P (on_from t xs)
every-on P t [] h = tt
every-on P t (x ∷ xs) h = grind (arith, nat_tests, common_steps, every-on P t xs h.1)

module _ (first : ℕ) (ns : List Numbered) (sent : List Entry) (few : length sent < 2 ^ 32) (line : IsLine ns first sent) (joined : AreJoined sent) where
  -- down from a fragment that does not begin its message: the neighbours and the fragment, with what is left behind it
  down-fits : (ys : List ChunkPayloadData) → AreSent sent ys → (c : ChunkPayloadData) (was : WasSent sent (data_of c)) → c.beginning_fragment ≡ false
      → bytes_down c.tsn ys + (length c.user_data + length was.1) ≤ length was.0.bytes
  down-fits [] h c was inner = let p = part-fits ns first sent line c was in omega (arith, p)
  down-fits (z ∷ zs) h c was inner =
      at-test (λ b. (if b then length z.user_data + (if z.beginning_fragment then 0 else bytes_down z.tsn zs) else 0) +
      (length c.user_data + length was.1) ≤ length was.0.bytes) (z.tsn == preceding_tsn c.tsn)
      (λ e.
      let n = next-to (same-is z.tsn (preceding_tsn c.tsn) e) in
      let same = ap (λ (w : Numbered). length w.bytes) n.0 in
      at-if (λ y. length z.user_data + y + (length c.user_data + length was.1) ≤ length was.0.bytes) z.beginning_fragment
      (λ f. let p = part-fits ns first sent line z h.0 in omega (arith, p, same))
      (λ f. let p = down-fits zs h.1 z h.0 f in omega (arith, p, same)))
      (λ e. omega (arith, alone))
    where
      alone : length c.user_data + length was.1 ≤ length was.0.bytes
      alone = part-fits ns first sent line c was

      -- the one before it
      next-to : z.tsn ≡ preceding_tsn c.tsn → (was.0 ≡ h.0.0) × (length h.0.1 ≡ length c.user_data + length was.1)
      next-to e = grind (arith, nat_tests, common_steps, part-line, stands-behind, length-append)

  -- up from a fragment that does not end its message: the neighbours are of what is left behind it
  up-fits : (ys : List ChunkPayloadData) → AreSent sent ys → (c : ChunkPayloadData) (was : WasSent sent (data_of c)) → c.ending_fragment ≡ false
      → bytes_up c.tsn ys ≤ length was.1
  up-fits [] h c was open' = omega arith
  up-fits (z ∷ zs) h c was open' = at-test (λ b. (if b then length z.user_data + (if z.ending_fragment then 0 else bytes_up z.tsn zs) else 0) ≤ length
      was.1) (z.tsn == following_tsn c.tsn)
      (λ e. at-if (λ y. length z.user_data + y ≤ length was.1) z.ending_fragment
      (λ f. omega (arith, next-to (same-is z.tsn (following_tsn c.tsn) e)))
      (λ f. let p = up-fits zs h.1 z h.0 f in omega (arith, p, next-to (same-is z.tsn (following_tsn c.tsn) e))))
      (λ e. omega arith)
    where
      next-to : z.tsn ≡ following_tsn c.tsn → length was.1 ≡ length z.user_data + length h.0.1
      next-to e = grind (arith, nat_tests, common_steps, stands-behind, part-line, part-joined, not_both, length-append)

  -- a fragment with its neighbours among unassembled ones is no longer than its write
  pub unassembled-fits : (xs : List ChunkPayloadData) → AreSent sent xs → (c : ChunkPayloadData) (was : WasSent sent (data_of c))
      → size_before c xs + length c.user_data + size_after c xs ≤ length was.0.bytes
  unassembled-fits xs h c was =
      let a : size_before c xs + (length c.user_data + length was.1) ≤ length was.0.bytes = at-if
      (λ z. z + (length c.user_data + length was.1) ≤ length was.0.bytes) c.beginning_fragment
      (λ e. omega (arith, alone))
      (λ e. down-fits (back_from (preceding_tsn c.tsn) xs)
      (leading-each (λ y. WasSent sent (data_of y)) (λ y. not (has_tsn (preceding_tsn c.tsn) y)) (reverse xs)
      (every-reversed (λ y. WasSent sent (data_of y)) xs h)) c was e) in
      let b : size_after c xs ≤ length was.1 = grind (arith, nat_tests, common_steps, up-fits, every-on) in
      omega (arith, a, b)
    where
      alone : length c.user_data + length was.1 ≤ length was.0.bytes
      alone = part-fits ns first sent line c was
