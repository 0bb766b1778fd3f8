-- No write is read twice: each message that was read is a write at a place of its own.
use Rattle.sctp_delivery.proofs.Names.{common_steps, nat_tests, ◌≡◌, ℕ, zero, suc, ◌<◌, true, false, not, List, [], ◌∷◌, ◌++◌, length, inl, inr, ap, sym, subst}
use Rattle.sctp_delivery.proofs.Names.{◌∙◌, arith, All, AllPairs, ◌==◌, ◌&&◌, slice_index_or, list_any, negated, or-left, or-right, same-yes, list_any-append}
use Rattle.sctp_delivery.proofs.Names.{pairs_cons, and, both, not_both, ChunkPayloadData, Data, data_of, Message, has_tsn, AreWritesOfTheirOwn, NoneIsReadTwice}
use Rattle.sctp_delivery.proofs.Names.{StandAt, fragments_of_all, are_apart, Session}
use Rattle.std.proofs.Common.{◌≢◌}
use Rattle.sctp_delivery.proofs.Begun.{AreOnce, was_begun}
use Rattle.sctp_delivery.proofs.Calls.{at-forgotten, forgotten, length-forgotten}
use Rattle.sctp_delivery.proofs.Delivered.{IsReadOf, IsReadSession}
use Rattle.sctp_delivery.proofs.Sent.{Entry, IsPart, Numbered, fragment, terminal}
use Rattle.sctp_delivery.proofs.Every.{Every, every-of-all}
use Rattle.sctp_delivery.proofs.Sessions.{neither}

-- ## Entries of one write

part-begun : (sent : List Entry) (d : Data) (w : Numbered) (after : List ℕ) (xs : List Entry) → d.beginning_fragment ≡ true
    → IsPart (fragment d w after ∷ xs) sent → was_begun w.place sent ≡ true
part-begun [] d w after xs b p = cc
part-begun (x ∷ ys) d w after xs b (inl e) = subst (λ zs. was_begun w.place zs ≡ true) e
    (or-left (d.beginning_fragment && (w.place == w.place)) (was_begun w.place xs) (and d.beginning_fragment (w.place == w.place) b (same-yes w.place)))
part-begun (terminal ∷ ys) d w after xs b (inr p) = part-begun ys d w after xs b p
part-begun (fragment e v rest ∷ ys) d w after xs b (inr p) =
    or-right (e.beginning_fragment && (v.place == w.place)) (was_begun w.place ys) (part-begun ys d w after xs b p)

-- two first fragments of one write have one place
pub one-begun : (sent : List Entry) → AreOnce sent → (d e : Data) (w v : Numbered) (after rest : List ℕ) (xs ys : List Entry) → d.beginning_fragment ≡ true
    → e.beginning_fragment ≡ true → w.place ≡ v.place → IsPart (fragment d w after ∷ xs) sent → IsPart (fragment e v rest ∷ ys) sent
    → fragment d w after ∷ xs ≡ fragment e v rest ∷ ys
one-begun [] o d e w v after rest xs ys b c same p q = cc
one-begun (x ∷ zs) o d e w v after rest xs ys b c same (inl p) (inl q) = p ∙ sym q
one-begun (x ∷ zs) o d e w v after rest xs ys b c same (inl p) (inr q) =
    let once = subst AreOnce (sym p) o in
    let tails : zs ≡ xs = cc in
    let there = part-begun xs e v rest ys c (subst (IsPart (fragment e v rest ∷ ys)) tails q) in
    absurd (not_both (sym (once.0 b) ∙ ap (λ k. was_begun k xs) same ∙ there))
one-begun (x ∷ zs) o d e w v after rest xs ys b c same (inr p) (inl q) =
    let once = subst AreOnce (sym q) o in
    let tails : zs ≡ ys = cc in
    let there = part-begun ys d w after xs b (subst (IsPart (fragment d w after ∷ xs)) tails p) in
    absurd (not_both (sym (once.0 c) ∙ ap (λ k. was_begun k ys) (sym same) ∙ there))
one-begun (terminal ∷ zs) o d e w v after rest xs ys b c same (inr p) (inr q) = one-begun zs o d e w v after rest xs ys b c same p q
one-begun (fragment f u left ∷ zs) o d e w v after rest xs ys b c same (inr p) (inr q) = one-begun zs o.1 d e w v after rest xs ys b c same p q

-- ## Places

module _ (ns : List Numbered) (sent : List Entry) (once : AreOnce sent) where
  abbrev pub EachRead : List Message → Type 0
  EachRead ms = Every (λ m. IsReadOf ns sent m) ms

  pub each-read : (ms : List Message) → All (λ m. IsReadOf ns sent m) ms → EachRead ms
  each-read ms all = every-of-all (λ m. IsReadOf ns sent m) ms all

  abbrev pub places : (ms : List Message) → EachRead ms → List ℕ
  places [] e = []
  places (m ∷ ms) e = e.0.written.0 ∷ places ms e.1

  pub stand : (ms : List Message) (e : EachRead ms) → StandAt (forgotten ns) ms (places ms e)
  stand [] e = tt
  stand (m ∷ ms) e = grind (arith, nat_tests, common_steps, length-forgotten, at-forgotten, stand ms e.1)

  same-at : (ws : List Numbered) (k : ℕ) (a b : Numbered) → k < length ws → slice_index_or ws k a ≡ a → slice_index_or ws k b ≡ b → a ≡ b
  same-at [] k a b lt e f = absurd (omega (arith, lt))
  same-at (w ∷ ws) zero a b lt e f = sym e ∙ f
  same-at (w ∷ ws) (suc k) a b lt e f = same-at ws k a b (omega (arith, lt)) e f

  -- messages at one place begin with one chunk, at one place
  pub one-start : (m o : Message) (x : IsReadOf ns sent m) (y : IsReadOf ns sent o) → x.written.0 ≡ y.written.0
      → fragment (data_of x.chunk) x.numbered x.after ∷ x.entries ≡ fragment (data_of y.chunk) y.numbered y.after ∷ y.entries
  one-start m o x y e = grind (arith, nat_tests, common_steps, same-at, one-begun)

  one-chunk : (m o : Message) (x : IsReadOf ns sent m) (y : IsReadOf ns sent o) → x.written.0 ≡ y.written.0 → y.chunk.tsn ≡ x.chunk.tsn
  one-chunk m o x y e =
      let start = one-start m o x y e in
      let it : data_of x.chunk ≡ data_of y.chunk = cc in
      sym (ap (λ (d : Data). d.tsn) it)

  away : (m : Message) (x : IsReadOf ns sent m) (ms : List Message) (e : EachRead ms) → list_any (has_tsn x.chunk.tsn) (fragments_of_all ms) ≡ false
      → All (λ q. x.written.0 ≢ q) (places ms e)
  away m x [] e none k d lt = absurd (omega (arith, lt))
  away m x (o ∷ ms) e none zero d lt = λ same.
      let parts = neither (list_any (has_tsn x.chunk.tsn) o.fragments) (list_any (has_tsn x.chunk.tsn) (fragments_of_all ms))
      (sym (list_any-append (has_tsn x.chunk.tsn) o.fragments (fragments_of_all ms)) ∙ none) in
      let tsn = one-chunk m o x e.0 same in
      let first = neither (has_tsn x.chunk.tsn e.0.chunk) (list_any (has_tsn x.chunk.tsn) e.0.others)
      (subst (λ cs. list_any (has_tsn x.chunk.tsn) cs ≡ false) e.0.fragments parts.0) in
      not_both (sym first.0 ∙ subst (λ k. (k == x.chunk.tsn) ≡ true) (sym tsn) (same-yes x.chunk.tsn))
  away m x (o ∷ ms) e none (suc k) d lt =
      let parts = neither (list_any (has_tsn x.chunk.tsn) o.fragments) (list_any (has_tsn x.chunk.tsn) (fragments_of_all ms))
      (sym (list_any-append (has_tsn x.chunk.tsn) o.fragments (fragments_of_all ms)) ∙ none) in
      away m x ms e.1 parts.1 k d (omega (arith, lt))

  later-apart : (xs ys : List ChunkPayloadData) → are_apart (xs ++ ys) ≡ true → are_apart ys ≡ true
  later-apart [] ys e = e
  later-apart (x ∷ xs) ys e = later-apart xs ys (both (not (list_any (has_tsn x.tsn) (xs ++ ys))) (are_apart (xs ++ ys)) e).1

  pub apart : (ms : List Message) (e : EachRead ms) → are_apart (fragments_of_all ms) ≡ true → AllPairs (λ p q. p ≢ q) (places ms e)
  apart [] e h = λ i j d lt short. absurd (omega (arith, short))
  apart (m ∷ ms) e h =
      let x = e.0 in
      let all = subst (λ cs. are_apart (cs ++ fragments_of_all ms) ≡ true) x.fragments h in
      let b = both (not (list_any (has_tsn x.chunk.tsn) (x.others ++ fragments_of_all ms))) (are_apart (x.others ++ fragments_of_all ms)) all in
      let none = negated (list_any (has_tsn x.chunk.tsn) (x.others ++ fragments_of_all ms)) b.0 in
      let parts = neither (list_any (has_tsn x.chunk.tsn) x.others) (list_any (has_tsn x.chunk.tsn) (fragments_of_all ms))
      (sym (list_any-append (has_tsn x.chunk.tsn) x.others (fragments_of_all ms)) ∙ none) in
      pairs_cons (λ p q. p ≢ q) x.written.0 (places ms e.1) (away m x ms e.1 parts.1) (apart ms e.1 (later-apart m.fragments (fragments_of_all ms) h))

-- ## The law

pub own-so : (s : Session) → IsReadSession s → NoneIsReadTwice s → AreWritesOfTheirOwn s
own-so s a apart' =
    let e = each-read a.numbered a.sent a.once s.receiving.read a.each in (
      places a.numbered a.sent a.once s.receiving.read e,
      subst (λ ws. StandAt ws s.receiving.read (places a.numbered a.sent a.once s.receiving.read e)) a.writes
          (stand a.numbered a.sent a.once s.receiving.read e),
      apart a.numbered a.sent a.once s.receiving.read e apart',
    )
