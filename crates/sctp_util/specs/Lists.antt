-- Lists: putting in, changing, cutting into pieces.
use Rattle.std.specs.Prelude.{ℕ, zero, suc, ◌+◌, ◌%◌, ◌^◌, Bool, ◌==◌, if◌then◌else◌, List, [], ◌∷◌, take, drop}

-- x before the first element that it comes before, else at the end
abbrev pub insert_before : {A : Type 0} → (A → A → Bool) → A → List A → List A
insert_before before x [] = x ∷ []
insert_before before x (e ∷ es) = if before x e then x ∷ e ∷ es else e ∷ insert_before before x es

-- the list with the element at a place replaced by what f makes of it
abbrev pub change_at : {A : Type 0} → (A → A) → ℕ → List A → List A
change_at f i [] = []
change_at f zero (x ∷ xs) = f x ∷ xs
change_at f (suc i) (x ∷ xs) = x ∷ change_at f i xs

-- what f makes of each element and its number, counted from here
abbrev pub each_numbered : {A : Type 0} → (ℕ → A → A) → ℕ → List A → List A
each_numbered f from [] = []
each_numbered f from (x ∷ xs) = f from x ∷ each_numbered f (from + 1) xs

-- the list cut into pieces of this size, the last one shorter; the first number is at least its length
abbrev pub pieces : ℕ → ℕ → List ℕ → List (List ℕ)
pieces zero size bytes = []
pieces (suc most) size [] = []
pieces (suc most) size (x ∷ xs) = take size (x ∷ xs) ∷ pieces most size (drop size (x ∷ xs))

-- what a filter of TSNs knows: the cumulative one, and those held beyond it
pub record Seen : Type 0 where
  pub cum : ℕ
  pub held : List ℕ

-- the cumulative TSN moves over those held next to it
abbrev pub advance_over : ℕ → List ℕ → Seen
advance_over c [] = record { cum = c; held = [] }
advance_over c (t ∷ ts) =
    if t == (c + 1) % 2 ^ 32 then advance_over t ts else record { cum = c; held = t ∷ ts }

-- the first element that passes, changed
abbrev pub change_first : {A : Type 0} → (A → Bool) → (A → A) → List A → List A
change_first p f [] = []
change_first p f (x ∷ xs) = if p x then f x ∷ xs else x ∷ change_first p f xs

-- each element that passes, changed
abbrev pub change_where : {A : Type 0} → (A → Bool) → (A → A) → List A → List A
change_where p f [] = []
change_where p f (x ∷ xs) = (if p x then f x else x) ∷ change_where p f xs

-- the list from its first element on that does not pass
abbrev pub after_leading : {A : Type 0} → (A → Bool) → List A → List A
after_leading p [] = []
after_leading p (x ∷ xs) = if p x then after_leading p xs else x ∷ xs
