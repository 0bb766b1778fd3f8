-- Blocks of which some bytes are held, and what is left behind them.
use Rattle.std.proofs.Common.{◌≡◌, ℕ, ◌+◌, ◌<◌, ◌≤◌, true, false, List, [], ◌++◌, length, take, drop, Some, None, Err, IfSome, refl, ap, sym, ◌∙◌, inl, inr}
use Rattle.std.proofs.Common.{arith}
use Rattle.std.specs.Prelude.{Option, ◌⊎◌}
use Rattle.std.specs.Io.KnownBytes.{Keeps, IsAtEnd, prepend_known}
use Rattle.std.proofs.lemmas.List.{append-nil, length-append, take-append-le}
use Rattle.std.proofs.Math.ListN.{drop_of_length-le}
use Rattle.sctp_capture.specs.declared.record.Order.{Order}
use Rattle.sctp_capture.specs.declared.record.Order.TheVariants.{Big, Little}
use Rattle.sctp_capture.specs.declared.record.Fault.TheVariants.{CutOff, BadBlock}
use Rattle.sctp_capture.specs.declared.record.Record.{Record}
use Rattle.sctp_capture.specs.declared.blocks.BlockHead.{BlockHead}
use Rattle.sctp_capture.specs.declared.input.Format.TheVariants.{Blocks}
use Rattle.sctp_capture.specs.Blocks.{Known, Piece, order_in, IsBlockHead, Gives, HoldsBlock}
use Rattle.sctp_capture.specs.Input.{IsTaken}
use Rattle.sctp_capture.proofs.Entries.{number_more}

more_order : (o : Order) (held more : List ℕ) → 12 ≤ length held → order_in o (held ++ more) ≡ order_in o held
more_order o held more long = rw
    (number_more Big held more 0 (omega (arith, long)), number_more Big held more 8 (omega (arith, long)), number_more Little held more 8 (omega (arith, long)))
    refl

more_head : (o : Order) (held more : List ℕ) (h : BlockHead) → IsBlockHead o held h → IsBlockHead o (held ++ more) h
more_head o held more h is =
    let longer : length (held ++ more) ≡ length held + length more = length-append held more in
    record {
      long = omega (arith, is.long, longer);
      order = more_order o held more is.long ∙ is.order;
      typ = is.typ ∙ sym (number_more h.order held more 0 (omega (arith, is.long)));
      declares = is.declares ∙ sym (number_more h.order held more 4 (omega (arith, is.long)));
      least = is.least;
      fours = is.fours;
    }

less_head : (o : Order) (held more : List ℕ) (h : BlockHead) → 12 ≤ length held → IsBlockHead o (held ++ more) h → IsBlockHead o held h
less_head o held more h long is = record {
  long = long;
  order = sym (more_order o held more long) ∙ is.order;
  typ = is.typ ∙ number_more h.order held more 0 (omega (arith, long));
  declares = is.declares ∙ number_more h.order held more 4 (omega (arith, long));
  least = is.least;
  fours = is.fours;
}

more_gives : (k after : Known) (h : BlockHead) (held more : List ℕ) (r : Option Record) → HoldsBlock h held → Gives k h (take h.length held) r after
    → Gives k h (take h.length (held ++ more)) r after
more_gives k after h held more r holds is =
    let same : h.length ≤ 262144 → take h.length (held ++ more) ≡ take h.length held = λ fits. take-append-le h.length held more (holds fits) in
    record {
      cut_off = λ fits. rw (same fits) (is.cut_off fits);
      whole = λ fits. rw (same fits) (is.whole fits);
      long = is.long;
    }

-- fewer than twelve bytes are left
pub block_cut : (k : Known) (a b e : Option (List ℕ)) (held : List ℕ) (r : Record) → k.is_lost ≡ false → Keeps a (prepend_known held b)
    → (12 ≤ length held) ⊎ IsAtEnd b → 0 < length held → length held < 12 → r.frame ≡ Err CutOff
    → IfSome (prepend_known held b) (λ xs. Keeps (Some (drop 12 xs)) e) → IfSome a (λ xs. IsTaken Blocks k xs (Some r) k e)
block_cut k None b e held r next keeps full some few cut left = tt
block_cut k (Some xs) None e held r next keeps full some few cut left = absurd keeps
block_cut k (Some xs) (Some ys) e held r next keeps (inl long) some few cut left = absurd (omega (arith, long, few))
block_cut k (Some xs) (Some ys) e held r next keeps (inr ended) some few cut left =
    let all : held ++ ys ≡ held = ap (λ l. held ++ l) ended ∙ append-nil held in
    let is : xs ≡ held = sym keeps ∙ all in
    let none : drop 12 (held ++ ys) ≡ [] = rw all (let short : length held ≤ 12 = omega (arith, few) in drop_of_length-le held short) in
    let gone : Keeps (Some []) e = rw none at left in
    let p : Piece = record { found = Some r; known = k; left = [] } in
    rw is (p, some, (next, inl (record { few = few; found = cut; known = refl; left = refl })), refl, refl, gone)

-- no head of a block stands here
pub block_bad : (k : Known) (a b : Option (List ℕ)) (held : List ℕ) (r : Record) → k.is_lost ≡ false → Keeps a (prepend_known held b) → 12 ≤ length held
    → ((h : BlockHead) → IsBlockHead k.order held h → ⊥) → r.frame ≡ Err BadBlock
    → IfSome a (λ xs. IsTaken Blocks k xs (Some r) (record { order = k.order; interfaces = k.interfaces; is_lost = true }) (prepend_known held b))
block_bad k None b held r next keeps long none bad = tt
block_bad k (Some xs) None held r next keeps long none bad = absurd keeps
block_bad k (Some xs) (Some ys) held r next keeps long none bad =
    let p : Piece = record { found = Some r; known = record { order = k.order; interfaces = k.interfaces; is_lost = true }; left = held ++ ys } in
    let longer : length (held ++ ys) ≡ length held + length ys = length-append held ys in
    let here : 12 ≤ length (held ++ ys) = omega (arith, long, longer) in
    let nowhere : (h : BlockHead) → IsBlockHead k.order (held ++ ys) h → ⊥ = λ h is. none h (less_head k.order held ys h long is) in
    rw (← keeps) (p, omega (arith, here), (next, inr (inl (record { long = here; none = nowhere; found = bad; known = refl; left = refl }))), refl, refl, refl)

headed : (k after : Known) (bytes : List ℕ) (e : Option (List ℕ)) (h : BlockHead) (r : Option Record) → k.is_lost ≡ false → IsBlockHead k.order bytes h
    → Gives k h (take h.length bytes) r after → Keeps (Some (drop h.length bytes)) e → IsTaken Blocks k bytes r after e
headed k after bytes e h r next is gives left =
    let p : Piece = record { found = r; known = after; left = drop h.length bytes } in
    (p, omega (arith, is.long), (next, inr (inr (record { head = h; is = is; gives = gives; left = refl }))), refl, refl, left)

-- the block whose head is held is the next of the input
pub block_next : (k after : Known) (a b c e : Option (List ℕ)) (first held : List ℕ) (h : BlockHead) (r : Option Record) → k.is_lost ≡ false
    → Keeps a (prepend_known first b) → IsBlockHead k.order first h → Keeps (prepend_known first b) (prepend_known held c) → HoldsBlock h held ⊎ IsAtEnd c
    → Gives k h (take h.length held) r after → IfSome (prepend_known held c) (λ xs. Keeps (Some (drop h.length xs)) e)
    → IfSome a (λ xs. IsTaken Blocks k xs r after e)
block_next k after None b c e first held h r next k1 is k2 holds gives left = tt
block_next k after (Some xs) None c e first held h r next k1 is k2 holds gives left = absurd k1
block_next k after (Some xs) (Some ys) None e first held h r next k1 is k2 holds gives left = absurd k2
block_next k after (Some xs) (Some ys) (Some zs) e first held h r next k1 is k2 (inl holds) gives left =
    let all : held ++ zs ≡ xs = k2 ∙ k1 in
    let one : first ++ ys ≡ xs = k1 in
    let head : IsBlockHead k.order xs h = rw one at (more_head k.order first ys h is) in
    let given : Gives k h (take h.length xs) r after = rw all at (more_gives k after h held zs r holds gives) in
    let left_of : Keeps (Some (drop h.length xs)) e = rw all at left in
    headed k after xs e h r next head given left_of
block_next k after (Some xs) (Some ys) (Some zs) e first held h r next k1 is k2 (inr ended) gives left =
    let all : held ++ zs ≡ xs = k2 ∙ k1 in
    let one : first ++ ys ≡ xs = k1 in
    let same : held ≡ xs = sym (append-nil held) ∙ ap (λ l. held ++ l) (sym ended) ∙ all in
    let head : IsBlockHead k.order xs h = rw one at (more_head k.order first ys h is) in
    let given : Gives k h (take h.length xs) r after = rw same at gives in
    let left_of : Keeps (Some (drop h.length xs)) e = rw all at left in
    headed k after xs e h r next head given left_of
