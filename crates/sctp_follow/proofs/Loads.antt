-- Each byte of a packet is counted once.
use Rattle.std.proofs.Common.{rules, ◌≡◌, ℕ, ◌-◌, ◌==◌, ◌&&◌, ◌||◌, Bool, true, false, if◌then◌else◌, cond, List, [], ◌∷◌, min, refl, arith, ap, sym, ◌∙◌}
use Rattle.std.specs.List.{list_any}
use Rattle.sctp_util.specs.Field.{u32_at}
use Rattle.sctp_show.specs.Filter.{is_data}
use Rattle.sctp_follow.specs.Flow.{counted}
use Rattle.sctp_follow.specs.Load.{total, with_bytes, kind_of, size_of, has_tsn, came, behind}
use Rattle.sctp_follow.specs.Tsns.{contains}
use Rattle.sctp_follow.specs.declared.load.Kind.{Kind}
use Rattle.sctp_follow.specs.declared.load.Kind.TheVariants.{First, Again, Control, Headers}
use Rattle.sctp_follow.specs.declared.load.Load.{Load}
use Rattle.sctp_follow.specs.declared.tsns.Tsns.{Tsns}

-- so many bytes more, of whatever kind, are so many more of all
pub total_with : (kind : Kind) (bytes : ℕ) (load : Load) → total (with_bytes kind bytes load) ≡ counted (total load) bytes
total_with First bytes load = omega (arith)
total_with Again bytes load = omega (arith)
total_with Control bytes load = omega (arith)
total_with Headers bytes load = omega (arith)

-- so many bytes, of which a part is counted before
counted_parts : (a left size : ℕ) → counted (counted a (min left size)) (left - size) ≡ counted a left
counted_parts a left size = omega (arith)

-- all bytes of a packet that are left are counted
pub total_behind : (seen : Tsns) (earlier : List (List ℕ)) (left : ℕ) (chunks : List (List ℕ)) (load : Load)
    → total (behind seen earlier left chunks load) ≡ counted (total load) left
unfolding behind
total_behind seen earlier left [] load = total_with Headers left load
total_behind seen earlier left (chunk ∷ chunks) load =
    let size = size_of chunk in
    let kind = kind_of (came seen earlier (u32_at chunk 4)) chunk in
    total_behind seen (chunk ∷ earlier) (left - size) chunks (with_bytes kind (min left size) load)
    ∙ ap (λ (t : ℕ). counted t (left - size)) (total_with kind (min left size) load)
    ∙ counted_parts (total load) left size

-- what a chunk's bytes are is the same, if only DATA and I-DATA are told apart by their TSNs
pub kind_same : (a b : Bool) (chunk : List ℕ) → (is_data chunk ≡ true → a ≡ b) → kind_of a chunk ≡ kind_of b chunk
kind_same a b chunk h = by (is_data chunk) refl
  where
    by : (d : Bool) → is_data chunk ≡ d → kind_of a chunk ≡ kind_of b chunk
    by true e = ap (λ (x : Bool). kind_of x chunk) (h e)
    by false e = ap (λ (d : Bool). if d then (if a then Again else First) else Control) e
        ∙ sym (ap (λ (d : Bool). if d then (if b then Again else First) else Control) e)

same_either_way : (k q : ℕ) → (q == k) ≡ (k == q)
same_either_way k q = search (rules, arith)

either : (a b c : Bool) → cond a true (b || c) ≡ (b || (a || c))
either true true c = refl
either true false c = refl
either false b c = refl

-- the TSNs that came behind DATA or I-DATA
pub came_data : (seen mid new : Tsns) (earlier : List (List ℕ)) (chunk : List ℕ) (tsn : ℕ) → is_data chunk ≡ true
    → contains new tsn ≡ cond (tsn == u32_at chunk 4) true (contains mid tsn)
    → contains mid tsn ≡ came seen earlier tsn → contains new tsn ≡ came seen (chunk ∷ earlier) tsn
came_data seen mid new earlier chunk tsn is noted before =
    noted
    ∙ ap (λ (at : Bool). cond at true (contains mid tsn)) (same_either_way (u32_at chunk 4) tsn)
    ∙ ap (λ (b : Bool). cond (u32_at chunk 4 == tsn) true b) before
    ∙ either (u32_at chunk 4 == tsn) (contains seen tsn) (list_any (has_tsn tsn) earlier)
    ∙ sym (ap (λ (d : Bool). contains seen tsn || ((d && (u32_at chunk 4 == tsn)) || list_any (has_tsn tsn) earlier)) is)

-- the same behind another chunk
pub came_other : (seen new : Tsns) (earlier : List (List ℕ)) (chunk : List ℕ) (tsn : ℕ) → is_data chunk ≡ false
    → contains new tsn ≡ came seen earlier tsn → contains new tsn ≡ came seen (chunk ∷ earlier) tsn
came_other seen new earlier chunk tsn is before =
    before ∙ sym (ap (λ (d : Bool). contains seen tsn || ((d && (u32_at chunk 4 == tsn)) || list_any (has_tsn tsn) earlier)) is)

-- behind the last chunk
pub behind_none : (seen : Tsns) (earlier : List (List ℕ)) (left : ℕ) (load : Load) → behind seen earlier left [] load ≡ with_bytes Headers left load
unfolding behind
behind_none seen earlier left load = refl

-- behind a chunk
pub behind_next : (seen : Tsns) (earlier : List (List ℕ)) (left : ℕ) (chunk : List ℕ) (chunks : List (List ℕ)) (load : Load) (again : Bool) (less : ℕ)
    (more : Load) → (is_data chunk ≡ true → again ≡ came seen earlier (u32_at chunk 4)) → less ≡ left - size_of chunk → more ≡ with_bytes (kind_of again chunk)
    (min left (size_of chunk)) load → behind seen (chunk ∷ earlier) less chunks more ≡ behind seen earlier left (chunk ∷ chunks) load
unfolding behind
behind_next seen earlier left chunk chunks load again less more told e f =
    ap (λ (n : ℕ). behind seen (chunk ∷ earlier) n chunks more) e
    ∙ ap (behind seen (chunk ∷ earlier) (left - size_of chunk) chunks)
    (f ∙ ap (λ (k : Kind). with_bytes k (min left (size_of chunk)) load) (kind_same again (came seen earlier (u32_at chunk 4)) chunk told))
