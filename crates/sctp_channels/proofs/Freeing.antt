-- The least free number is looked for upwards.
use Rattle.std.proofs.Common.{◌≡◌, ℕ, ◌+◌, ◌-◌, ◌<◌, ◌≤◌, Bool, true, false, List, Option, Some, None, refl, arith}
use Rattle.std.proofs.Common.{if◌then◌else◌, lit≤}
use Rattle.std.specs.Prelude.{nat_le}
use Rattle.std.proofs.lemmas.Bool.Decides.{nat_tests}
use Rattle.sctp_channels.specs.Channels.{IsFull, IsNextFree, has_channel, is_of}
use Rattle.sctp_channels.specs.declared.channel.Channel.{Channel}
use Rattle.sctp_dcep.specs.Side.{first_of, next_of}
use Rattle.sctp_dcep.specs.declared.side.Side.{Side}
use Rattle.sctp_dcep.specs.declared.side.Side.TheVariants.{Client, Server}

-- each number of the side below this one has a channel
abbrev pub AllBelow : Side → List Channel → ℕ → Type 0
AllBelow side list n = (m : ℕ) → m < n → is_of side m ≡ true → has_channel m list ≡ true

-- where the number to be tried is this one
abbrev pub IsSearched : Side → List Channel → Option ℕ → Type 0
IsSearched side list None = AllBelow side list 65535
IsSearched side list (Some s) = (is_of side s ≡ true) × (s ≤ 65534) × AllBelow side list s

-- how many are left
abbrev pub left : Option ℕ → ℕ
left None = 0
left (Some s) = 65536 - s

below_two : (side : Side) (list : List Channel) (s m : ℕ) → is_of side s ≡ true → (m < s → has_channel m list ≡ true) → has_channel s list ≡ true → m < s + 2
    → is_of side m ≡ true → has_channel m list ≡ true
below_two side list s m own below has lt is = grind (arith, nat_tests)

pub searched_first : (side : Side) (list : List Channel) → IsSearched side list (Some (first_of side))
searched_first Client list = (refl, lit≤ tt, λ m lt is. absurd (omega (arith, lt)))
searched_first Server list = (refl, lit≤ tt, λ m lt is. let e : m ≡ 0 = omega (arith, lt) in let never : is_of Server 0 ≡ true = rw e at is in cc)

pub searched_next : (side : Side) (list : List Channel) (s : ℕ) → IsSearched side list (Some s) → has_channel s list ≡ true → IsSearched side list (next_of s)
searched_next side list s (own, within, below) has = by (nat_le (s + 2) 65534) refl
  where
    more : AllBelow side list (s + 2)
    more m lt is = below_two side list s m own (λ l. below m l is) has lt is

    by : (b : Bool) → nat_le (s + 2) 65534 ≡ b → IsSearched side list (if b then Some (s + 2) else None)
    by true e = (grind (arith, nat_tests), grind (arith, nat_tests), more)
    by false e = λ m lt is. more m (grind (arith, nat_tests)) is

lower : (side : Side) (list : List Channel) (s n : ℕ) → (n < s → is_of side n ≡ true → has_channel n list ≡ true) → is_of side n ≡ true
    → has_channel n list ≡ false → s ≤ n
lower side list s n below is none = grind arith

pub searched_found : (side : Side) (list : List Channel) (s : ℕ) → IsSearched side list (Some s) → has_channel s list ≡ false → IsNextFree side list s
searched_found side list s (own, within, below) free = record {
  own = own;
  within = within;
  free = free;
  least = λ n is none. lower side list s n (below n) is none;
}

pub searched_none : (side : Side) (list : List Channel) → IsSearched side list None → IsFull side list
searched_none side list below n le is = below n (omega (arith, le)) is
