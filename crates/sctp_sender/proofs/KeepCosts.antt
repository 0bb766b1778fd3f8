-- What keeping costs, beside taking the SACK.
use Rattle.sctp_sender.proofs.Names.{◌≡◌, ℕ, ◌+◌, ◌≤◌, true, false, Bool, List, length, drop, Option, Some, None, inl, inr, refl, ap, sym, ◌∙◌, arith, ◌⊎◌}
use Rattle.sctp_sender.proofs.Names.{IfSome, is_some, count_by, false≢true, none-some, some-same, ChunkPayloadData, Sack, Anew, Kept, anew_turns, keeping_turns}
use Rattle.sctp_sender.proofs.Names.{sack_turns, Flight, count_acked, is_outdated, reports, reports_anew, sack_refusal, data_after, kept_after, places_kept}
use Rattle.sctp_sender.proofs.Names.{put_all}
use Rattle.std.specs.Option.{option_map}

abbrev pub data-of : Option Kept → Option (List (Option (List ℕ)))
data-of o = option_map (λ k. k.user_data.items) o

-- what holds in any case holds where there is something
pub if-some : {X : Type 0} (o : Option X) {P : X → Type 0} → ((x : X) → P x) → IfSome o P
if-some None h = tt
if-some (Some x) h = h x

-- there is nothing, where something would say otherwise
pub none-when : {X : Type 0} (o : Option X) (b : Bool) → IfSome o (λ x. b ≡ false) → b ≡ true → o ≡ None
none-when None b h e = refl
none-when (Some x) b h e = absurd (false≢true (sym h ∙ e))

pub none-kept : {X Y : Type 0} (o : Option X) (kept : Option Y) → IfSome o (λ x. is_some kept ≡ true) → kept ≡ None → o ≡ None
none-kept None kept h e = refl
none-kept (Some x) kept h e = absurd (false≢true (ap is_some (sym e) ∙ h))

-- the first of two facts
pub some-first : {X : Type 0} (o : Option X) (P Q : X → Type 0) → IfSome o (λ x. P x × Q x) → IfSome o P
some-first None P Q h = tt
some-first (Some x) P Q h = h.0

module _ (s : Sack) (f : Flight) (t0 t1 t2 t3 t4 : ℕ) (first : t1 ≤ t0 + length s.gap_ack_blocks + anew_turns s f) (third : t3 ≤ t2 + sack_turns s f) where
  abbrev cs : List ChunkPayloadData
  cs = f.queue.inflight.chunks

  pub keep-cost : (old room new : Option Kept) (anew : Option Anew)
      → (anew ≡ None → t2 ≡ t1) → IfSome anew (λ a. t2 ≤ t1 + length a.chunks.items)
      → (anew ≡ None → t4 ≡ t3)
      → IfSome room (λ k. IfSome anew (λ a. t4 + length (drop a.count k.user_data.items) ≤ t3 + a.count + length a.chunks.items
      + length (put_all a.chunks.items (drop a.count k.user_data.items))))
      → IfSome anew (λ a. length a.chunks.items ≤ count_by (reports_anew s) cs) → IfSome anew (λ a. a.count ≤ count_by (reports s) cs)
      → IfSome anew (λ a. a.count ≡ count_acked s f) → data-of room ≡ data-of old
      → data-of new ≡ option_map (λ k. data_after anew k.user_data.items) room → data-of new ≡ option_map (kept_after s f) (data-of old)
      → IfSome (data-of old) (λ ks. t4 ≤ t0 + sack_turns s f + keeping_turns s f (places_kept s f ks))
  keep-cost None room new anew e2 c2 e4 c4 few passed count same items kept = tt
  keep-cost (Some k) None new anew e2 c2 e4 c4 few passed count same items kept = absurd (none-some k.user_data.items same)
  keep-cost (Some k) (Some r) None anew e2 c2 e4 c4 few passed count same items kept = absurd (none-some (kept_after s f k.user_data.items) kept)
  keep-cost (Some k) (Some r) (Some n) None e2 c2 e4 c4 few passed count same items kept =
      let two = e2 refl in let four = e4 refl in omega (arith, first, third, two, four)
  keep-cost (Some k) (Some r) (Some n) (Some a) e2 c2 e4 c4 few passed count same items kept =
      let own = some-same same in
      let put = ap length (sym (some-same items) ∙ some-same kept) in
      let gone = ap (λ xs. length (drop a.count xs)) own ∙ ap (λ m. length (drop m k.user_data.items)) count in
      omega (arith, first, third, c2, c4, few, passed, put, gone)

-- where the SACK is refused after what it makes of what is kept was found
pub refused-cost : (s : Sack) (f : Flight) (t0 t1 t2 t3 : ℕ) → t1 ≤ t0 + length s.gap_ack_blocks + anew_turns s f → t3 ≤ t2 + sack_turns s f
    → (o : Option (List (Option (List ℕ)))) (anew : Option Anew) → (anew ≡ None → t2 ≡ t1) → IfSome anew (λ a. t2 ≤ t1 + length a.chunks.items)
    → IfSome anew (λ a. length a.chunks.items ≤ count_by (reports_anew s) f.queue.inflight.chunks)
    → IfSome o (λ ks. t3 ≤ t0 + sack_turns s f + keeping_turns s f (places_kept s f ks))
refused-cost s f t0 t1 t2 t3 first third None anew e2 c2 few = tt
refused-cost s f t0 t1 t2 t3 first third (Some ks) None e2 c2 few = let two = e2 refl in omega (arith, first, third, two)
refused-cost s f t0 t1 t2 t3 first third (Some ks) (Some a) e2 c2 few = omega (arith, first, third, c2, few)

-- where the SACK is refused for what it claims
pub forged-cost : {X : Type 0} (s : Sack) (f : Flight) (t0 t1 t2 t3 t4 : ℕ) (kept : Option X) (anew : Option Anew) → is_some (sack_refusal s f) ≡ true
    → IfSome anew (λ a. sack_refusal s f ≡ None) → (anew ≡ None → (kept ≡ None) ⊎ (is_outdated s f ≡ true)) → (kept ≡ None → t1 ≡ t0)
    → (is_outdated s f ≡ true → t1 ≡ t0) → (anew ≡ None → t2 ≡ t1) → t3 ≤ t2 + length s.gap_ack_blocks → (anew ≡ None → t4 ≡ t3)
    → t4 ≤ t0 + length s.gap_ack_blocks
forged-cost s f t0 t1 t2 t3 t4 kept None some taken idle absent stale e2 third e4 =
    let two = e2 refl in
    let four = e4 refl in
    let one : t1 ≡ t0 = elim (idle refl) [ inl e ↦ absent e | inr e ↦ stale e ] in
    omega (arith, one, two, third, four)
forged-cost s f t0 t1 t2 t3 t4 kept (Some a) some taken idle absent stale e2 third e4 = absurd (false≢true (ap is_some (sym taken) ∙ some))
