-- The first channel of which something is to be told.
use Rattle.std.proofs.Common.{◌≡◌, ℕ, zero, suc, ◌+◌, ◌<◌, Bool, true, false, not, ◌||◌, cond, List, [], ◌∷◌, ◌++◌, length, get_or, set, take, drop, position}
use Rattle.std.proofs.Common.{Some, None, refl, ap, sym, ◌∙◌, arith}
use Rattle.std.specs.List.{list_any, position_or_len}
use Rattle.std.specs.Option.{option_map}
use Rattle.std.proofs.lemmas.Bool.Decides.{nat_tests}
use Rattle.std.proofs.lemmas.List.{get_or_default}
use Rattle.sctp_channels.proofs.Lists.{find_at_none, found_at, none_from_position}
use Rattle.sctp_channels.specs.Answers.{after_told, event_of, next_told, told_of, told_once}
use Rattle.sctp_channels.specs.Channels.{has_news, is_reset}
use Rattle.sctp_channels.specs.declared.channel.Channel.{Channel}
use Rattle.sctp_channels.specs.declared.event.ChannelEvent.TheVariants.{Closed}

-- ## What is told

told_at : (xs : List Channel) (i : ℕ) (c : Channel) → position has_news xs ≡ Some i → i < length xs → c ≡ get_or xs i c → next_told xs ≡ Some (told_of c)
told_at xs i c at h is = ap (option_map told_of) (found_at has_news xs i c at h is)

kept_open : {X : Type 0} (b : Bool) (x y : X) → b ≡ false → y ≡ cond b x y
kept_open true x y e = cc
kept_open false x y e = refl

gone_closed : {X : Type 0} (b : Bool) (x y : X) → b ≡ true → x ≡ cond b x y
gone_closed true x y e = refl
gone_closed false x y e = cc

pub next_open : (xs : List Channel) (i : ℕ) (c : Channel) → position has_news xs ≡ Some i → i < length xs → c ≡ get_or xs i c → is_reset c ≡ false
    → next_told xs ≡ Some (event_of c)
next_open xs i c at h is stays = told_at xs i c at h is ∙ ap Some (sym (kept_open (is_reset c) (Closed c.stream) (event_of c) stays))

pub next_closed : (xs : List Channel) (i : ℕ) (c : Channel) → position has_news xs ≡ Some i → i < length xs → c ≡ get_or xs i c → is_reset c ≡ true
    → next_told xs ≡ Some (Closed c.stream)
next_closed xs i c at h is closed = told_at xs i c at h is ∙ ap Some (sym (gone_closed (is_reset c) (Closed c.stream) (event_of c) closed))

pub next_none : (xs : List Channel) → position has_news xs ≡ None → next_told xs ≡ None
next_none xs none = ap (option_map told_of) (find_at_none has_news xs none)

-- ## What is left

once_within : (xs : List Channel) (i : ℕ) (c : Channel) → is_reset c ≡ false → position_or_len has_news xs ≡ i → i < length xs → c ≡ get_or xs i c
    → set xs i (told_once c) ≡ after_told xs
once_within [] i c stays e h is = refl
once_within (d ∷ xs) i c stays e h is = by (has_news d) i e h is (λ m. once_within xs m c stays)
  where
    by : (b : Bool) (k : ℕ) → cond (not b) (1 + position_or_len has_news xs) 0 ≡ k → k < suc (length xs) → c ≡ get_or (d ∷ xs) k c
        → ((m : ℕ) → position_or_len has_news xs ≡ m → m < length xs → c ≡ get_or xs m c → set xs m (told_once c) ≡ after_told xs)
        → set (d ∷ xs) k (told_once c) ≡ cond b (cond (is_reset d) xs (told_once d ∷ xs)) (d ∷ after_told xs)
    by true zero e h is rest = ap (λ (x : Channel). told_once x ∷ xs) is ∙ kept_open (is_reset d) xs (told_once d ∷ xs) (ap is_reset (sym is) ∙ stays)
    by true (suc k) e h is rest = absurd (omega (arith, e))
    by false zero e h is rest = absurd (omega (arith, e))
    by false (suc k) e h is rest = ap (λ ds. d ∷ ds) (rest k (omega (arith, e)) (omega (arith, h)) is)

gone_within : (xs : List Channel) (i : ℕ) (c : Channel) → is_reset c ≡ true → position_or_len has_news xs ≡ i → i < length xs → c ≡ get_or xs i c
    → take i xs ++ drop (suc i) xs ≡ after_told xs
gone_within [] i c closed e h is = absurd (omega (arith, h))
gone_within (d ∷ xs) i c closed e h is = by (has_news d) i e h is (λ m. gone_within xs m c closed)
  where
    by : (b : Bool) (k : ℕ) → cond (not b) (1 + position_or_len has_news xs) 0 ≡ k → k < suc (length xs) → c ≡ get_or (d ∷ xs) k c
        → ((m : ℕ) → position_or_len has_news xs ≡ m → m < length xs → c ≡ get_or xs m c → take m xs ++ drop (suc m) xs ≡ after_told xs)
        → take k (d ∷ xs) ++ drop (suc k) (d ∷ xs) ≡ cond b (cond (is_reset d) xs (told_once d ∷ xs)) (d ∷ after_told xs)
    by true zero e h is rest = gone_closed (is_reset d) xs (told_once d ∷ xs) (ap is_reset (sym is) ∙ closed)
    by true (suc k) e h is rest = absurd (omega (arith, e))
    by false zero e h is rest = absurd (omega (arith, e))
    by false (suc k) e h is rest = ap (λ ds. d ∷ ds) (rest k (omega (arith, e)) (omega (arith, h)) is)

pub left_open : (xs : List Channel) (i : ℕ) (c : Channel) → position has_news xs ≡ Some i → i < length xs → c ≡ get_or xs i c → is_reset c ≡ false
    → set xs i (told_once c) ≡ after_told xs
left_open xs i c at h is stays = once_within xs i c stays (grind (arith, nat_tests)) h is

pub left_closed : (xs : List Channel) (i : ℕ) (c : Channel) → position has_news xs ≡ Some i → i < length xs → c ≡ get_or xs i c → is_reset c ≡ true
    → take i xs ++ drop (suc i) xs ≡ after_told xs
left_closed xs i c at h is closed = gone_within xs i c closed (grind (arith, nat_tests)) h is

left_where : (xs : List Channel) → list_any has_news xs ≡ false → xs ≡ after_told xs
left_where [] h = refl
left_where (d ∷ xs) h = by (has_news d) h (left_where xs)
  where
    by : (b : Bool) → b || list_any has_news xs ≡ false → (list_any has_news xs ≡ false → xs ≡ after_told xs)
        → d ∷ xs ≡ cond b (cond (is_reset d) xs (told_once d ∷ xs)) (d ∷ after_told xs)
    by true at rest = cc
    by false at rest = ap (λ ds. d ∷ ds) (rest at)

pub left_none : (xs : List Channel) → position has_news xs ≡ None → xs ≡ after_told xs
left_none xs none = left_where xs (none_from_position has_news xs none)

pub silent_none : (xs : List Channel) → position has_news xs ≡ None → list_any has_news xs ≡ false
silent_none xs none = none_from_position has_news xs none

-- what stands at a place
pub same_at : (xs : List Channel) (i : ℕ) (c d : Channel) → i < length xs → c ≡ get_or xs i c → d ≡ get_or xs i d → c ≡ d
same_at xs i c d h is other = grind (arith, get_or_default xs i c d h)
