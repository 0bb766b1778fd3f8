-- Entries of which some bytes are held.
use Rattle.std.proofs.Common.{◌≡◌, ℕ, ◌+◌, ◌<◌, ◌≤◌, ◌-◌, List, [], ◌++◌, length, take, drop, slice_range, Some, None, IfSome, refl, ap, sym, ◌∙◌, inl, inr}
use Rattle.std.proofs.Common.{arith}
use Rattle.std.specs.Prelude.{Option, ◌⊎◌}
use Rattle.std.specs.Io.KnownBytes.{Keeps, IsAtEnd, prepend_known}
use Rattle.std.proofs.lemmas.Bool.{cases_lt}
use Rattle.std.proofs.lemmas.List.{append-nil, take-append-le, length-drop, length-append, nil_from_length}
use Rattle.std.proofs.Math.ListN.{drop_of_length-le}
use lib.Seq.{drop-append-le}
use Rattle.sctp_util.specs.Field.{u32_at, u32_le_at}
use Rattle.sctp_capture.specs.declared.record.Order.{Order}
use Rattle.sctp_capture.specs.declared.record.Order.TheVariants.{Big, Little}
use Rattle.sctp_capture.specs.declared.record.Head.{Head}
use Rattle.sctp_capture.specs.declared.record.Record.{Record}
use Rattle.sctp_capture.specs.Record.{number_at, IsEntry, entry_span, after_entry}

-- four bytes that are held do not change by what follows
four_more : (held more : List ℕ) (at : ℕ) → at + 4 ≤ length held → take 4 (drop at (held ++ more)) ≡ take 4 (drop at held)
four_more held more at within =
    let long : 4 ≤ length (drop at held) = rw length-drop (omega arith) in
    rw (drop-append-le at held more (omega arith)) (take-append-le 4 (drop at held) more long)

pub number_more : (o : Order) (held more : List ℕ) (at : ℕ) → at + 4 ≤ length held → number_at o (held ++ more) at ≡ number_at o held at
unfolding u32_at u32_le_at
number_more Big held more at within = rw (four_more held more at within) refl
number_more Little held more at within = rw (four_more held more at within) refl

-- bytes that are held do not change by what follows
slice_more : (held more : List ℕ) (i j : ℕ) → i ≤ j → j ≤ length held → slice_range (held ++ more) i j ≡ slice_range held i j
slice_more held more i j up within =
    let long : j - i ≤ length (drop i held) = rw length-drop (omega (arith, up, within)) in
    rw (drop-append-le i held more (omega (arith, up, within))) (take-append-le (j - i) (drop i held) more long)

-- an entry is held as far as it is read: all of it, or its header where its frame is too long
abbrev pub HoldsEntry : Head → List ℕ → Type 0
HoldsEntry h held = (16 ≤ length held) × (entry_span h held ≤ 16 + 262144 → entry_span h held ≤ length held)

pub span_more : (h : Head) (held more : List ℕ) → 16 ≤ length held → entry_span h (held ++ more) ≡ entry_span h held
span_more h held more long = ap (λ n. 16 + n) (number_more h.order held more 8 (omega (arith, long)))

-- an entry that is read of what is held is that of all the bytes
pub more_entry : (h : Head) (held more : List ℕ) (r : Record) → IsEntry h held r → HoldsEntry h held → IsEntry h (held ++ more) r
more_entry h held more r is holds =
    let long : 16 ≤ length held = holds.0 in
    let longer : length (held ++ more) ≡ length held + length more = length-append held more in
    let span = span_more h held more long in
    let first = number_more h.order held more 0 (omega (arith, long)) in
    let second = number_more h.order held more 4 (omega (arith, long)) in
    let third = number_more h.order held more 8 (omega (arith, long)) in
    let fourth = number_more h.order held more 12 (omega (arith, long)) in
    record {
      link_type = is.link_type;
      direction = is.direction;
      short = λ less. absurd (omega (arith, less, longer, long));
      time = λ _. rw (first, second) (is.time long);
      too_long = λ _. rw span (is.too_long long);
      cut_off = λ _. rw span (λ fits cut. absurd (omega (arith, holds.1 fits, cut, longer)));
      whole = rw span (λ fits _. rw (slice_more held more 16 (entry_span h held) (omega arith) (holds.1 fits)) (is.whole fits (holds.1 fits)));
      lost = rw span (λ fits _. rw (third, fourth) (is.lost fits (holds.1 fits)));
    }

-- what is wanted of an entry is enough
pub wanted_holds : (h : Head) (a : List ℕ) (held more first rest : List ℕ) (wanted : ℕ) → first ++ rest ≡ a → held ++ more ≡ a
    → (16 ≤ length first) ⊎ (rest ≡ []) → 16 ≤ wanted → (16 ≤ length first → number_at h.order first 8 ≤ 262144 → wanted ≡ entry_span h first)
    → wanted ≤ length held → HoldsEntry h held
wanted_holds h a held more first rest wanted is_first is_held (inl long) least whole within =
    let enough : 16 ≤ length held = omega (arith, least, within) in
    let one = span_more h first rest long in
    let two = span_more h held more enough in
    let same : entry_span h held ≡ entry_span h first = sym two ∙ ap (entry_span h) (is_held ∙ sym is_first) ∙ one in
    (enough, λ fits. let all = whole long (omega (arith, fits, same)) in omega (arith, all, same, within))
wanted_holds h a held more first rest wanted is_first is_held (inr ended) least whole within =
    let enough : 16 ≤ length held = omega (arith, least, within) in
    let same : first ≡ held ++ more = sym (append-nil first) ∙ ap (λ l. first ++ l) (sym ended) ∙ is_first ∙ sym is_held in
    let longer : length (held ++ more) ≡ length held + length more = length-append held more in
    let long : 16 ≤ length first = omega (arith, ap length same, longer, enough) in
    let spans : entry_span h held ≡ entry_span h first = sym (span_more h held more enough) ∙ ap (entry_span h) (sym same) in
    (enough, λ fits. let all = whole long (omega (arith, fits, spans)) in omega (arith, all, spans, within))

-- the entry that is read of what is held is the next of the input
pub entry_next : (h : Head) (a b c e : Option (List ℕ)) (first held : List ℕ) (wanted span : ℕ) (r : Record)
    → Keeps a (prepend_known first b) → (16 ≤ length first) ⊎ IsAtEnd b → Keeps (prepend_known first b) (prepend_known held c) → (wanted ≤ length held)
    ⊎ IsAtEnd c → 16 ≤ wanted → (16 ≤ length first → number_at h.order first 8 ≤ 262144 → wanted ≡ entry_span h first) → 0 < length held → IsEntry h held r
    → (length held < 16 → span ≡ 16) → (16 ≤ length held → span ≡ entry_span h held) → IfSome (prepend_known held c) (λ xs. Keeps (Some (drop span xs)) e)
    → IfSome a (λ xs. (0 < length xs) × IsEntry h xs r × Keeps (Some (after_entry h xs)) e)
entry_next h None b c e first held wanted span r k1 f1 k2 f2 least whole some is short long left = tt
entry_next h (Some xs) None c e first held wanted span r k1 f1 k2 f2 least whole some is short long left = absurd k1
entry_next h (Some xs) (Some ys) None e first held wanted span r k1 f1 k2 f2 least whole some is short long left = absurd k2
entry_next h (Some xs) (Some ys) (Some zs) e first held wanted span r k1 f1 k2 (inl enough) least whole some is short long left =
    let all : held ++ zs ≡ xs = k2 ∙ k1 in
    let holds = wanted_holds h xs held zs first ys wanted k1 all f1 least whole enough in
    let longer : 0 < length (held ++ zs) = rw length-append (omega (arith, some)) in
    let spans : span ≡ entry_span h (held ++ zs) = long holds.0 ∙ sym (span_more h held zs holds.0) in
    rw (← all) (longer, more_entry h held zs r is holds, rw spans at left)
entry_next h (Some xs) (Some ys) (Some zs) e first held wanted span r k1 f1 k2 (inr ended) least whole some is short long left =
    let same : held ++ zs ≡ held = ap (λ l. held ++ l) ended ∙ append-nil held in
    let all : xs ≡ held = sym (k2 ∙ k1) ∙ same in
    let here : Keeps (Some (drop span held)) e = rw same at left in
    let drops : drop span held ≡ drop (entry_span h held) held = elim (cases_lt (length held) 16) [
      | inl lt ↦ drop_of_length-le held (omega (arith, lt, short lt)) ∙ sym (drop_of_length-le held (omega (arith, lt)))
      | inr le ↦ ap (λ n. drop n held) (long le)
    ] in
    rw all (some, is, rw drops at here)

-- where nothing is held nothing is left
pub entry_none : (a b c : Option (List ℕ)) (first held : List ℕ) (wanted : ℕ) → Keeps a (prepend_known first b)
    → Keeps (prepend_known first b) (prepend_known held c) → (wanted ≤ length held) ⊎ IsAtEnd c → 16 ≤ wanted → length held ≡ 0 → IfSome a (λ xs. xs ≡ [])
entry_none None b c first held wanted k1 k2 f2 least none = tt
entry_none (Some xs) None c first held wanted k1 k2 f2 least none = absurd k1
entry_none (Some xs) (Some ys) None first held wanted k1 k2 f2 least none = absurd k2
entry_none (Some xs) (Some ys) (Some zs) first held wanted k1 k2 (inl enough) least none = absurd (omega (arith, enough, least, none))
entry_none (Some xs) (Some ys) (Some zs) first held wanted k1 k2 (inr ended) least none =
    let gone : held ≡ [] = nil_from_length held none in
    sym k1 ∙ sym k2 ∙ rw (gone, ended) refl
