-- Which writes were begun: each once, and none of which the first fragment waits.
use Rattle.sctp_delivery.proofs.Names.{common_steps, ◌≡◌, ℕ, ◌+◌, ◌<◌, Bool, true, false, List, [], ◌∷◌, ◌++◌, map, Option, Some, None, slice_get, inl, inr}
use Rattle.sctp_delivery.proofs.Names.{refl, sym, subst, ◌∙◌, arith, ⊤, ◌==◌, ◌&&◌, ◌||◌, if◌then◌else◌, list_any, none-some, nat_tests, change_where, or-left}
use Rattle.sctp_delivery.proofs.Names.{or-right, or-split, same-is, same-yes, some-same, list_any-append, and, both, fails, not_both, ChunkPayloadData, Data}
use Rattle.sctp_delivery.proofs.Names.{Selected, is_of, with_message_id, Pending, list_to_pop, next_pending, rest_after, rest_from, IsSendable, IsWhole, begun}
use Rattle.sctp_delivery.proofs.Names.{free, partially_sent, stage_of, made, or_false, KeepsMessage, none_before}
use Rattle.sctp_outbound.proofs.lemmas.pending_queue.CompleteMessages.{list_any-message}
use Rattle.sctp_delivery.proofs.Cases.{at-test, by-test}
use Rattle.sctp_delivery.proofs.Sent.{Entry, Numbered, fragment, terminal}

abbrev pub begins : ℕ → ChunkPayloadData → Bool
begins m c = (c.message_id == m) && c.beginning_fragment

-- the first fragment of this write got a TSN
abbrev pub was_begun : ℕ → List Entry → Bool
was_begun m [] = false
was_begun m (terminal ∷ xs) = was_begun m xs
was_begun m (fragment d w after ∷ xs) = (d.beginning_fragment && (w.place == m)) || was_begun m xs

-- of no write twice
abbrev pub AreOnce : List Entry → Type 0
AreOnce [] = ⊤
AreOnce (terminal ∷ xs) = AreOnce xs
AreOnce (fragment d w after ∷ xs) = (d.beginning_fragment ≡ true → was_begun w.place xs ≡ false) × AreOnce xs

pub record IsBegun (os us : List ChunkPayloadData) (n : ℕ) (sent : List Entry) : Type 0 where
  pub once : AreOnce sent
  pub ordered : (m : ℕ) → list_any (begins m) os ≡ true → was_begun m sent ≡ false
  pub unordered : (m : ℕ) → list_any (begins m) us ≡ true → was_begun m sent ≡ false
  pub below : (m : ℕ) → was_begun m sent ≡ true → m < n

pub begun-less : (os us ps vs : List ChunkPayloadData) (n : ℕ) (sent : List Entry) → ((m : ℕ) → list_any (begins m) ps ≡ true → list_any (begins m) os ≡ true)
    → ((m : ℕ) → list_any (begins m) vs ≡ true → list_any (begins m) us ≡ true) → IsBegun os us n sent → IsBegun ps vs n sent
begun-less os us ps vs n sent f g b = record { once = b.once; ordered = λ m h. b.ordered m (f m h); unordered = λ m h. b.unordered m (g m h); below = b.below }

pub begun-ended : (os us : List ChunkPayloadData) (n : ℕ) (sent : List Entry) → IsBegun os us n sent → IsBegun os us n (terminal ∷ sent)
begun-ended os us n sent b = record { once = b.once; ordered = b.ordered; unordered = b.unordered; below = b.below }

pub begins-changed : (p : ChunkPayloadData → Bool) (f : ChunkPayloadData → ChunkPayloadData) → KeepsMessage f → (m : ℕ) (cs : List ChunkPayloadData)
    → list_any (begins m) (change_where p f cs) ≡ list_any (begins m) cs
begins-changed p f keeps m [] = refl
begins-changed p f keeps m (c ∷ cs) = grind (arith, nat_tests, common_steps, begins-changed p f keeps m cs)

-- ## A write

begins-of : (m : ℕ) (cs : List ChunkPayloadData) → list_any (begins m) cs ≡ true → list_any (is_of m) cs ≡ true
begins-of m [] h = h
begins-of m (c ∷ cs) h = grind (arith, nat_tests, common_steps, begins-of m cs)

not-begun : (os us : List ChunkPayloadData) (n : ℕ) (sent : List Entry) → IsBegun os us n sent → was_begun n sent ≡ false
not-begun os us n sent b = fails (was_begun n sent) (λ h. let lt = b.below n h in omega (arith, lt))

more-begins : (os us : List ChunkPayloadData) (n : ℕ) (sent : List Entry) → IsBegun os us n sent → (xs ms : List ChunkPayloadData)
    → ((m : ℕ) → list_any (begins m) xs ≡ true → was_begun m sent ≡ false) → (m : ℕ) → list_any (begins m) (xs ++ map (with_message_id n) ms) ≡ true
    → was_begun m sent ≡ false
more-begins os us n sent b xs ms old m h = elim (or-split (list_any (begins m) xs) (list_any (begins m) (map (with_message_id n) ms))
    (sym (list_any-append (begins m) xs (map (with_message_id n) ms)) ∙ h)) [
      | inl l ↦ old m l
      | inr r ↦
          subst (λ k. was_begun k sent ≡ false) (same-is n m (list_any-message m n ms (begins-of m (map (with_message_id n) ms) r))) (not-begun os us n sent b)
    ]

pub begun-ordered : (os us : List ChunkPayloadData) (n : ℕ) (sent : List Entry) (ms : List ChunkPayloadData) → IsBegun os us n sent
    → IsBegun (os ++ map (with_message_id n) ms) us (n + 1) sent
begun-ordered os us n sent ms b = grind (arith, nat_tests, common_steps, more-begins)

pub begun-unordered : (os us : List ChunkPayloadData) (n : ℕ) (sent : List Entry) (ms : List ChunkPayloadData) → IsBegun os us n sent
    → IsBegun os (us ++ map (with_message_id n) ms) (n + 1) sent
begun-unordered os us n sent ms b = grind (arith, nat_tests, common_steps, more-begins)

-- ## A fragment is sent

-- of a message that is begun no first fragment waits
rest-begins : (kind : Bool) (n m : ℕ) (cs : List ChunkPayloadData) → IsWhole kind n (begun m) cs → list_any (begins m) cs ≡ false
rest-begins kind n m [] w = absurd w
rest-begins kind n m (c ∷ cs) w = or_false (begins m c) (list_any (begins m) cs) here
    (at-test (λ b. IsWhole kind n (if b then free (c.message_id + 1) else begun c.message_id) cs → list_any (begins m) cs ≡ false) c.ending_fragment
    (λ f v.
    let past : m < c.message_id + 1 = (omega arith) in
    fails (list_any (begins m) cs) (λ h. not_both (sym (none_before kind n m (free (c.message_id + 1)) cs past v) ∙ begins-of m cs h)))
    (λ e v. (rest-begins kind n m cs) (subst (λ j. IsWhole kind n (begun j) cs) w.0.1 v)) w.3)
  where
    here : begins m c ≡ false
    here = elim (c.message_id == m) as (λ b. (b && c.beginning_fragment) ≡ false) [ true ↦ w.0.0 | false ↦ refl ]

-- what is in flight does not begin again
pub none-again : (os us : List ChunkPayloadData) (sel : Option Selected) (ro ru n : ℕ) (xs : List ChunkPayloadData) → IsSendable (made os us sel ro ru) xs n
    → (m : ℕ) → list_any (is_of m) xs ≡ true → (list_any (begins m) os ≡ false) × (list_any (begins m) us ≡ false)
none-again os us sel ro ru n xs s m there = by-test (list_any (is_of m) us || list_any (is_of m) os)
    (λ e. partial sel s.ordered s.unordered (s.sent m there e))
    (λ e. (
      none os (fails (list_any (is_of m) os) (λ h. not_both (sym e ∙ or-right (list_any (is_of m) us) (list_any (is_of m) os) h))),
      none us (fails (list_any (is_of m) us) (λ h. not_both (sym e ∙ or-left (list_any (is_of m) us) (list_any (is_of m) os) h))),
    ))
  where
    none : (cs : List ChunkPayloadData) → list_any (is_of m) cs ≡ false → list_any (begins m) cs ≡ false
    none cs e = fails (list_any (begins m) cs) (λ h. not_both (sym e ∙ begins-of m cs h))

    apart-from : list_any (is_of m) us ≡ true → list_any (is_of m) os ≡ false
    apart-from e = fails (list_any (is_of m) os) (λ h. not_both (sym (s.apart m h) ∙ e))

    partial : (o : Option Selected) → IsWhole false n (stage_of false o) os → IsWhole true n (stage_of true o) us → partially_sent (made os us o ro ru) ≡ Some m
        → (list_any (begins m) os ≡ false) × (list_any (begins m) us ≡ false)
    partial None w v h = absurd (none-some m h)
    partial (Some t) w v h = kind t.unordered w v
      where
        same : t.message_id ≡ m
        same = some-same h

        front : (k : Bool) (cs : List ChunkPayloadData) → IsWhole k n (begun t.message_id) cs → list_any (is_of m) cs ≡ true
        front k [] w = absurd w
        front k (c ∷ cs) w = or-left (c.message_id == m) (list_any (is_of m) cs) (subst (λ j. (j == m) ≡ true) (sym (w.0.1 ∙ same)) (same-yes m))

        kind : (k : Bool) → IsWhole false n (if k then free 0 else begun t.message_id) os → IsWhole true n (if k then begun t.message_id else free 0) us
            → (list_any (begins m) os ≡ false) × (list_any (begins m) us ≡ false)
        kind true w v = (none os (apart-from (front true us v)), rest-begins true n m us (subst (λ j. IsWhole true n (begun j) us) same v))
        kind false w v = (rest-begins false n m os (subst (λ j. IsWhole false n (begun j) os) same w), none us (s.apart m (front false os w)))

front-any : (p : ChunkPayloadData → Bool) (xs : List ChunkPayloadData) (c : ChunkPayloadData) → p c ≡ true → slice_get xs 0 ≡ Some c → list_any p xs ≡ true
front-any p [] c h e = absurd (none-some c e)
front-any p (x ∷ xs) c h e = or-left (p x) (list_any p xs) (subst (λ y. p y ≡ true) (sym (some-same e)) h)

-- what is next waits
pub next-any : (p : ChunkPayloadData → Bool) (os us : List ChunkPayloadData) (sel : Option Selected) (ro ru : ℕ) (c : ChunkPayloadData) → p c ≡ true
    → next_pending (made os us sel ro ru) ≡ Some c → (list_any p us || list_any p os) ≡ true
next-any h0 h1 h2 h3 h4 h5 h6 h7 h8 = grind (arith, nat_tests, common_steps, or-left, front-any, slice_get, or-right)

rest-any : (p : ChunkPayloadData → Bool) (k : Option Bool) (os us : List ChunkPayloadData) (sel : Option Selected) (ro ru : ℕ)
    → (list_any p (rest_from k (made os us sel ro ru)).ordered ≡ true → list_any p os ≡ true)
    × (list_any p (rest_from k (made os us sel ro ru)).unordered ≡ true → list_any p us ≡ true)
rest-any h0 h1 h2 h3 h4 h5 h6 = grind (arith, nat_tests, common_steps)

pub begun-sent : (q : Pending) (xs ys : List ChunkPayloadData) (n : ℕ) (sent : List Entry) (c : ChunkPayloadData) (d : Data) (w : Numbered) (after : List ℕ)
    → d.beginning_fragment ≡ c.beginning_fragment → (c.beginning_fragment ≡ true → w.place ≡ c.message_id) → next_pending q ≡ Some c → IsSendable q xs n
    → IsSendable (rest_after c.beginning_fragment c.unordered q) ys n → list_any (is_of c.message_id) ys ≡ true → IsBegun q.ordered q.unordered n sent
    → IsBegun (rest_after c.beginning_fragment c.unordered q).ordered (rest_after c.beginning_fragment c.unordered q).unordered n (fragment d w after ∷ sent)
begun-sent q xs ys n sent c d w after same placed e s r there b = record {
  once = (λ h. let f = sym same ∙ h in subst (λ k. was_begun k sent ≡ false) (sym (placed f)) (fresh f), b.once);
  ordered = λ m h. apart m (λ k. not_both (sym (none m k).0 ∙ h)) (b.ordered m
      ((rest-any (begins m) (list_to_pop q.selected c.beginning_fragment c.unordered) q.ordered q.unordered q.selected q.ordered_room q.unordered_room).0 h));
  unordered = λ m h. apart m (λ k. not_both (sym (none m k).1 ∙ h)) (b.unordered m
      ((rest-any (begins m) (list_to_pop q.selected c.beginning_fragment c.unordered) q.ordered q.unordered q.selected q.ordered_room q.unordered_room).1 h));
  below = grind (arith, nat_tests, common_steps);
}
  where
    fresh : c.beginning_fragment ≡ true → was_begun c.message_id sent ≡ false
    fresh f = grind (arith, nat_tests, common_steps, or-split, next-any, and, same-yes)

    is-it : (m : ℕ) → (d.beginning_fragment && (w.place == m)) ≡ true → c.message_id ≡ m
    is-it m h = let x = both d.beginning_fragment (w.place == m) h in sym (placed (sym same ∙ x.0)) ∙ same-is w.place m x.1

    none : (m : ℕ) → c.message_id ≡ m → (list_any (begins m) (rest_after c.beginning_fragment c.unordered q).ordered ≡ false)
        × (list_any (begins m) (rest_after c.beginning_fragment c.unordered q).unordered ≡ false)
    none m k =
        let p = rest_after c.beginning_fragment c.unordered q in
        none-again p.ordered p.unordered p.selected p.ordered_room p.unordered_room n ys r m (subst (λ j. list_any (is_of j) ys ≡ true) k there)

    apart : (m : ℕ) → (c.message_id ≡ m → ⊥) → was_begun m sent ≡ false → ((d.beginning_fragment && (w.place == m)) || was_begun m sent) ≡ false
    apart m other f =
        or_false (d.beginning_fragment && (w.place == m)) (was_begun m sent) (fails (d.beginning_fragment && (w.place == m)) (λ h. other (is-it m h))) f
