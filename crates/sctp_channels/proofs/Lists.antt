-- Lists of channels: places in them, and what is noted.
use Rattle.std.proofs.Common.{◌≡◌, ℕ, zero, suc, ◌+◌, ◌<◌, ◌≤◌, ◌==◌, Bool, true, false, not, ◌||◌, cond, List, [], ◌∷◌, ◌++◌, length, get_or, set, take, drop}
use Rattle.std.proofs.Common.{position, find, Some, None, refl, ap, sym, ◌∙◌, arith}
use Rattle.std.specs.List.{list_any, position_or_len}
use Rattle.std.proofs.lemmas.Bool.Decides.{nat_tests}
use Rattle.sctp_channels.specs.Channels.{as_asked, asked, has_channel, is_on, is_once, note_on, noted}
use Rattle.sctp_channels.specs.declared.channel.Channel.{Channel}
use Rattle.sctp_channels.specs.declared.channel.News.{News}
use Rattle.sctp_channels.specs.declared.channel.News.TheVariants.{Known, Readable, Closing, OursReset, PeersReset}

-- ## Places

-- where none passes there is no place
none_within : {X : Type 0} (p : X → Bool) (xs : List X) → length xs ≤ position_or_len p xs → list_any p xs ≡ false
none_within p [] h = refl
none_within {X} p (x ∷ xs) h = by (p x) h (none_within p xs)
  where
    by : (b : Bool) → suc (length xs) ≤ cond (not b) (1 + position_or_len p xs) 0 → (length xs ≤ position_or_len p xs → list_any p xs ≡ false)
        → b || list_any p xs ≡ false
    by true at rest = absurd (omega (arith, at))
    by false at rest = rest (omega (arith, at))

pub none_from_position : {X : Type 0} (p : X → Bool) (xs : List X) → position p xs ≡ None → list_any p xs ≡ false
none_from_position p xs none = none_within p xs (grind (arith, nat_tests))

find_none : {X : Type 0} (p : X → Bool) (xs : List X) → list_any p xs ≡ false → find p xs ≡ None
find_none p [] h = refl
find_none {X} p (x ∷ xs) h = by (p x) h (find_none p xs)
  where
    by : (b : Bool) → b || list_any p xs ≡ false → (list_any p xs ≡ false → find p xs ≡ None) → cond b (Some x) (find p xs) ≡ None
    by true at rest = cc
    by false at rest = rest at

pub find_at_none : {X : Type 0} (p : X → Bool) (xs : List X) → position p xs ≡ None → find p xs ≡ None
find_at_none p xs none = find_none p xs (none_from_position p xs none)

-- the first that passes stands at the place
found_within : {X : Type 0} (p : X → Bool) (xs : List X) (i : ℕ) (x : X) → position_or_len p xs ≡ i → i < length xs → x ≡ get_or xs i x → find p xs ≡ Some x
found_within p [] i x e h is = absurd (omega (arith, h))
found_within {X} p (y ∷ xs) i x e h is = by (p y) i e h is (λ m. found_within p xs m x)
  where
    by : (b : Bool) (n : ℕ) → cond (not b) (1 + position_or_len p xs) 0 ≡ n → n < suc (length xs) → x ≡ get_or (y ∷ xs) n x
        → ((m : ℕ) → position_or_len p xs ≡ m → m < length xs → x ≡ get_or xs m x → find p xs ≡ Some x) → cond b (Some y) (find p xs) ≡ Some x
    by true zero e h is rest = ap Some (sym is)
    by true (suc n) e h is rest = absurd (omega (arith, e))
    by false zero e h is rest = absurd (omega (arith, e))
    by false (suc n) e h is rest = rest n (omega (arith, e)) (omega (arith, h)) is

pub found_at : {X : Type 0} (p : X → Bool) (xs : List X) (i : ℕ) (x : X) → position p xs ≡ Some i → i < length xs → x ≡ get_or xs i x → find p xs ≡ Some x
found_at p xs i x at h is = found_within p xs i x (grind (arith, nat_tests)) h is

-- a list at a place
pub split_at : {X : Type 0} (xs : List X) (i : ℕ) (x : X) → i < length xs → x ≡ get_or xs i x → xs ≡ take i xs ++ x ∷ drop (suc i) xs
split_at [] i x h is = absurd (omega (arith, h))
split_at (y ∷ xs) zero x h is = ap (λ z. z ∷ xs) (sym is)
split_at (y ∷ xs) (suc i) x h is = ap (λ ys. y ∷ ys) (split_at xs i x (omega (arith, h)) is)

-- ## What is noted

pub as_asked_noted : (n : News) (c : Channel) → as_asked (noted n c) ≡ as_asked c
as_asked_noted Known c = refl
as_asked_noted Readable c = refl
as_asked_noted Closing c = refl
as_asked_noted OursReset c = refl
as_asked_noted PeersReset c = refl

pub asked_noted : (s : ℕ) (n : News) (xs : List Channel) → asked (note_on s n xs) ≡ asked xs
asked_noted s n [] = refl
asked_noted s n (c ∷ xs) = by (is_on s c) (as_asked_noted n c) (asked_noted s n xs)
  where
    by : (b : Bool) → as_asked (noted n c) ≡ as_asked c → asked (note_on s n xs) ≡ asked xs
        → asked (cond b (noted n c ∷ xs) (c ∷ note_on s n xs)) ≡ as_asked c ∷ asked xs
    by true same rest = ap (λ d. d ∷ asked xs) same
    by false same rest = ap (λ ds. as_asked c ∷ ds) rest

noted_within : (s : ℕ) (n : News) (xs : List Channel) (i : ℕ) (c : Channel) → position_or_len (is_on s) xs ≡ i → i < length xs → c ≡ get_or xs i c
    → set xs i (noted n c) ≡ note_on s n xs
noted_within s n [] i c e h is = refl
noted_within s n (d ∷ xs) i c e h is = by (is_on s d) i e h is (λ m. noted_within s n xs m c)
  where
    by : (b : Bool) (k : ℕ) → cond (not b) (1 + position_or_len (is_on s) xs) 0 ≡ k → k < suc (length xs) → c ≡ get_or (d ∷ xs) k c
        → ((m : ℕ) → position_or_len (is_on s) xs ≡ m → m < length xs → c ≡ get_or xs m c → set xs m (noted n c) ≡ note_on s n xs)
        → set (d ∷ xs) k (noted n c) ≡ cond b (noted n d ∷ xs) (d ∷ note_on s n xs)
    by true zero e h is rest = ap (λ x. noted n x ∷ xs) is
    by true (suc k) e h is rest = absurd (omega (arith, e))
    by false zero e h is rest = absurd (omega (arith, e))
    by false (suc k) e h is rest = ap (λ ds. d ∷ ds) (rest k (omega (arith, e)) (omega (arith, h)) is)

-- a write at the place of the stream notes it
pub set_noted : (s : ℕ) (n : News) (xs : List Channel) (i : ℕ) (c d : Channel) → position (is_on s) xs ≡ Some i → i < length xs → c ≡ get_or xs i c
    → d ≡ noted n c → set xs i d ≡ note_on s n xs
set_noted s n xs i c d at h is noted-is = rw noted-is (noted_within s n xs i c (grind (arith, nat_tests)) h is)

-- where the stream has no channel nothing is noted
noted_none : (s : ℕ) (n : News) (xs : List Channel) → has_channel s xs ≡ false → note_on s n xs ≡ xs
noted_none s n [] h = refl
noted_none s n (c ∷ xs) h = by (is_on s c) h (noted_none s n xs)
  where
    by : (b : Bool) → b || has_channel s xs ≡ false → (has_channel s xs ≡ false → note_on s n xs ≡ xs) → cond b (noted n c ∷ xs) (c ∷ note_on s n xs) ≡ c ∷ xs
    by true at rest = cc
    by false at rest = ap (λ ds. c ∷ ds) (rest at)

pub noted_at_none : (s : ℕ) (n : News) (xs : List Channel) → position (is_on s) xs ≡ None → note_on s n xs ≡ xs
noted_at_none s n xs none = noted_none s n xs (none_from_position (is_on s) xs none)

-- a write that leaves what was asked for
pub asked_set : (xs : List Channel) (i : ℕ) (c d : Channel) → i < length xs → c ≡ get_or xs i c → as_asked d ≡ as_asked c → asked (set xs i d) ≡ asked xs
asked_set [] i c d h is same = refl
asked_set (e ∷ xs) zero c d h is same = ap (λ x. x ∷ asked xs) (same ∙ ap as_asked is)
asked_set (e ∷ xs) (suc i) c d h is same = ap (λ ys. as_asked e ∷ ys) (asked_set xs i c d (omega (arith, h)) is same)

pub asked_set_noted : (n : News) (xs : List Channel) (i : ℕ) (c d : Channel) → i < length xs → c ≡ get_or xs i c → d ≡ noted n c → asked (set xs i d) ≡ asked xs
asked_set_noted n xs i c d h is noted-is = asked_set xs i c d h is (ap as_asked noted-is ∙ as_asked_noted n c)

-- ## Streams are distinct

pub has_asked : (s : ℕ) (xs : List Channel) → has_channel s (asked xs) ≡ has_channel s xs
has_asked s [] = refl
has_asked s (c ∷ xs) = ap (λ b. is_on s c || b) (has_asked s xs)

pub once_asked : (xs : List Channel) → is_once (asked xs) ≡ is_once xs
once_asked [] = refl
once_asked (c ∷ xs) = rw (has_asked c.stream xs, once_asked xs) refl

pub once_same : (xs ys : List Channel) → asked ys ≡ asked xs → is_once xs ≡ true → is_once ys ≡ true
once_same xs ys same h = sym (once_asked ys) ∙ ap is_once same ∙ once_asked xs ∙ h

pub once_set : (xs : List Channel) (i : ℕ) (c d : Channel) → is_once xs ≡ true → i < length xs → c ≡ get_or xs i c → as_asked d ≡ as_asked c
    → is_once (set xs i d) ≡ true
once_set xs i c d once h is same = once_same xs (set xs i d) (asked_set xs i c d h is same) once

pub once_set_noted : (n : News) (xs : List Channel) (i : ℕ) (c d : Channel) → is_once xs ≡ true → i < length xs → c ≡ get_or xs i c → d ≡ noted n c
    → is_once (set xs i d) ≡ true
once_set_noted n xs i c d once h is noted-is = once_same xs (set xs i d) (asked_set_noted n xs i c d h is noted-is) once

pub has_same : (s : ℕ) (xs ys : List Channel) → asked ys ≡ asked xs → has_channel s ys ≡ has_channel s xs
has_same s xs ys same = sym (has_asked s ys) ∙ ap (has_channel s) same ∙ has_asked s xs

pub has_append : (s : ℕ) (xs ys : List Channel) → has_channel s (xs ++ ys) ≡ has_channel s xs || has_channel s ys
has_append s [] ys = refl
has_append s (c ∷ xs) ys = by (is_on s c) (has_append s xs ys)
  where
    by : (b : Bool) → has_channel s (xs ++ ys) ≡ has_channel s xs || has_channel s ys
        → b || has_channel s (xs ++ ys) ≡ (b || has_channel s xs) || has_channel s ys
    by true rest = refl
    by false rest = rest

-- whose streams are the same is symmetric
other_end : (a b : ℕ) → (a == b) ≡ (b == a)
other_end a b = grind (arith, nat_tests)

push_by : (c d : Channel) (xs : List Channel) → has_channel c.stream (d ∷ xs) ≡ false → not (has_channel d.stream xs) ≡ true
    → has_channel d.stream (xs ++ c ∷ []) ≡ false
push_by c d xs new own = grind (arith, has_append, other_end)

pub once_push : (xs : List Channel) (c : Channel) → is_once xs ≡ true → has_channel c.stream xs ≡ false → is_once (xs ++ c ∷ []) ≡ true
once_push [] c h new = refl
once_push (d ∷ xs) c h new = grind (arith, push_by c d xs, once_push xs c)

-- what is left when one is taken out
has_without : (s : ℕ) (xs ys : List Channel) (c : Channel) → has_channel s (xs ++ c ∷ ys) ≡ false → has_channel s (xs ++ ys) ≡ false
has_without s xs ys c h = grind (arith, has_append)

pub once_without : (xs ys : List Channel) (c : Channel) → is_once (xs ++ c ∷ ys) ≡ true → is_once (xs ++ ys) ≡ true
once_without [] ys c h = grind arith
once_without (d ∷ xs) ys c h = grind (arith, has_without d.stream xs ys c, once_without xs ys c)

pub once_remove : (xs : List Channel) (i : ℕ) (c : Channel) → is_once xs ≡ true → i < length xs → c ≡ get_or xs i c
    → is_once (take i xs ++ drop (suc i) xs) ≡ true
once_remove xs i c once h is = once_without (take i xs) (drop (suc i) xs) c (ap is_once (sym (split_at xs i c h is)) ∙ once)

-- the channel at a place is there
pub has_at : (xs : List Channel) (i : ℕ) (c : Channel) → i < length xs → c ≡ get_or xs i c → has_channel c.stream xs ≡ true
has_at [] i c h is = absurd (omega (arith, h))
has_at (d ∷ xs) zero c h is = rw (← is) (grind (arith, nat_tests))
has_at (d ∷ xs) (suc i) c h is = let rest = has_at xs i c (omega (arith, h)) is in grind arith
