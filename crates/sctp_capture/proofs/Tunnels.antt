-- What stands in tunnels, one tunnel further.
use Rattle.std.proofs.Common.{◌≡◌, ◌≢◌, ℕ, zero, suc, ◌+◌, ◌-◌, ◌<◌, ◌≤◌, inl, inr, List, length, slice_range, refl, sym, ◌∙◌, arith}
use Rattle.std.proofs.lemmas.Grind.{common_steps}
use Rattle.sctp_util.specs.Field.{u16_at}
use Rattle.sctp_capture.specs.Frame.{IsIpPayload, IsVersion0, gre_header, gre_rest, IsNetworkPlace, IsEthernetPlace, IsGrePlace, IsGre, IsTunnelled, IsInner}
use Rattle.sctp_capture.specs.Frame.{InIp}
use Rattle.sctp_capture.proofs.Uppers.{only_upper}
use Rattle.sctp_capture.proofs.Frames.{has_header, only_network, only_behind}

-- an IP packet carries one thing
pub only_payload : (packet : List ℕ) (lost p : ℕ) (q : List ℕ) (c : ℕ) (p' : ℕ) (q' : List ℕ) (c' : ℕ) → IsIpPayload packet lost p q c
    → IsIpPayload packet lost p' q' c' → (p ≡ p') × (q ≡ q') × (c ≡ c')
only_payload packet lost p q c p' q' c' (inl x) (inl y) = (x.1.is_protocol ∙ sym y.1.is_protocol, x.1.is ∙ sym y.1.is, x.1.is_cut ∙ sym y.1.is_cut)
only_payload packet lost p q c p' q' c' (inl x) (inr y) = absurd (omega (arith, x.0, y.0))
only_payload packet lost p q c p' q' c' (inr x) (inl y) = absurd (omega (arith, x.0, y.0))
only_payload packet lost p q c p' q' c' (inr x) (inr y) =
    let same = only_upper 16 _ _ p q p' q' x.1.is y.1.is in (same.0, same.1, x.1.is_cut ∙ sym y.1.is_cut)

only_gre_place : (typ : ℕ) (rest : List ℕ) (a b : ℕ) → IsGrePlace typ rest a → IsGrePlace typ rest b → a ≡ b
only_gre_place typ rest a b (inl x) (inl y) = only_behind rest a b x.1 y.1
only_gre_place typ rest a b (inl x) (inr y) = absurd (y.0 x.0)
only_gre_place typ rest a b (inr x) (inl y) = absurd (x.0 y.0)
only_gre_place typ rest a b (inr x) (inr y) = only_network typ rest 0 a b x.1 y.1

-- GRE carries no packet where what it carries has no place for one
pub no_gre_place : (gre packet : List ℕ) (header typ : ℕ) → header ≡ gre_header gre → typ ≡ u16_at gre 2
    → ((at : ℕ) → IsGrePlace typ (slice_range gre header (length gre)) at → length (slice_range gre header (length gre)) < at + 20)
    → IsGre gre packet → ⊥
no_gre_place gre packet header typ is number short_at it =
    let short = short_at it.at (rw (is, number) it.place) in omega (arith, rw is at short, it.room)

-- or no room
pub no_gre_room : (gre packet : List ℕ) (header typ at : ℕ) → header ≡ gre_header gre → typ ≡ u16_at gre 2
    → IsGrePlace typ (slice_range gre header (length gre)) at → length (slice_range gre header (length gre)) - at < 20
    → IsGre gre packet → ⊥
no_gre_room gre packet header typ at is number place short it =
    let same = only_gre_place (u16_at gre 2) (gre_rest gre) it.at at it.place (rw (is, number) at place) in
    omega (arith, rw is at short, it.room, same)

-- else it carries this one
pub gre_here : (gre : List ℕ) (header typ at : ℕ) → 4 ≤ length gre → IsVersion0 gre → header ≡ gre_header gre → header ≤ length gre → typ ≡ u16_at gre 2
    → IsGrePlace typ (slice_range gre header (length gre)) at → 20 ≤ length (slice_range gre header (length gre)) - at
    → IsGre gre (slice_range (slice_range gre header (length gre)) at (length (slice_range gre header (length gre))))
gre_here gre header typ at long version is held number place room =
    rw is (record {
      long = long;
      version = version;
      is_held = rw is at held;
      at = at;
      place = rw (is, number) at place;
      room = omega (arith, rw is at room);
      is = refl;
    })

-- the protocol number leaves one form
pub only_bridged : (typ : ℕ) (rest : List ℕ) (at : ℕ) → typ ≡ 25944 → IsGrePlace typ rest at → IsEthernetPlace rest at
only_bridged typ rest at e (inl it) = it.1
only_bridged typ rest at e (inr it) = absurd (it.0 e)

pub only_routed : (typ : ℕ) (rest : List ℕ) (at : ℕ) → typ ≢ 25944 → IsGrePlace typ rest at → IsNetworkPlace typ rest 0 at
only_routed typ rest at e (inl it) = absurd (e it.0)
only_routed typ rest at e (inr it) = it.1

only_gre : (gre a b : List ℕ) → IsGre gre a → IsGre gre b → a ≡ b
only_gre gre a b x y =
    let same = only_gre_place _ (gre_rest gre) x.at y.at x.place y.place in rw (x.is, y.is, same) refl

only_tunnelled : (packet : List ℕ) (lost : ℕ) (a : List ℕ) (m : ℕ) (b : List ℕ) (n : ℕ) → IsTunnelled packet lost a m → IsTunnelled packet lost b n
    → (a ≡ b) × (m ≡ n)
only_tunnelled packet lost a m b n x y =
    let same = only_payload packet lost 47 x.gre m 47 y.gre n x.is y.is in (only_gre y.gre a b (rw same.1 at x.inside) y.inside, same.2)

-- behind so many tunnels stands one packet
pub only_inner : (n : ℕ) (packet : List ℕ) (lost : ℕ) (a : List ℕ) (c : ℕ) (b : List ℕ) (d : ℕ) → IsInner n packet lost a c → IsInner n packet lost b d
    → (a ≡ b) × (c ≡ d)
unfolding IsInner
only_inner zero packet lost a c b d x y = (x.0 ∙ sym y.0, x.1 ∙ sym y.1)
only_inner (suc n) packet lost a c b d (inl x) (inl y) =
    let same = only_tunnelled packet lost x.0 x.1 y.0 y.1 x.2 y.2 in only_inner n y.0 y.1 a c b d (rw (same.0, same.1) at x.3) y.3
only_inner (suc n) packet lost a c b d (inl x) (inr y) = absurd (y.0 x.0 x.1 x.2)
only_inner (suc n) packet lost a c b d (inr x) (inl y) = absurd (x.0 y.0 y.1 y.2)
only_inner (suc n) packet lost a c b d (inr x) (inr y) = (x.1 ∙ sym y.1, x.2 ∙ sym y.2)

further_of : (n : ℕ) (packet : List ℕ) (lost : ℕ) (next : List ℕ) (less : ℕ) (q : List ℕ) (c : ℕ) → IsTunnelled packet lost next less
    → IsInner n next less q c → IsInner (suc n) packet lost q c
unfolding IsInner
further_of n packet lost next less q c is inner = inl (next, less, is, inner)

-- one tunnel is passed
pub tunnel_further : (k : ℕ) (packet : List ℕ) (lost : ℕ) (next : List ℕ) (less : ℕ) (q : List ℕ) (c : ℕ) → k < 4 → IsTunnelled packet lost next less
    → IsInner (4 - (k + 1)) next less q c → IsInner (4 - k) packet lost q c
tunnel_further k packet lost next less q c lt is inner =
    let e : 4 - k ≡ suc (4 - (k + 1)) = omega arith in rw e (further_of (4 - (k + 1)) packet lost next less q c is inner)

here_of : (n : ℕ) (packet : List ℕ) (lost : ℕ) → ((next : List ℕ) (less : ℕ) → IsTunnelled packet lost next less → ⊥) → IsInner (suc n) packet lost packet lost
unfolding IsInner
here_of n packet lost none = inr (none, refl, refl)

-- no tunnel follows
pub tunnel_ends : (k : ℕ) (packet : List ℕ) (lost : ℕ) → k < 4 → ((next : List ℕ) (less : ℕ) → IsTunnelled packet lost next less → ⊥)
    → IsInner (4 - k) packet lost packet lost
tunnel_ends k packet lost lt none =
    let e : 4 - k ≡ suc (4 - (k + 1)) = omega arith in rw e (here_of (4 - (k + 1)) packet lost none)

last_of : (n : ℕ) (packet : List ℕ) (lost : ℕ) → n ≡ 0 → IsInner n packet lost packet lost
unfolding IsInner
last_of zero packet lost e = (refl, refl)
last_of (suc n) packet lost e = absurd (omega (arith, e))

-- no further one is looked into
pub tunnel_last : (k : ℕ) (packet : List ℕ) (lost : ℕ) → 4 ≤ k → IsInner (4 - k) packet lost packet lost
tunnel_last k packet lost le = last_of (4 - k) packet lost (omega arith)

inner_long : (n : ℕ) (packet : List ℕ) (lost : ℕ) (inner : List ℕ) (cut : ℕ) → IsInner n packet lost inner cut → 20 ≤ length inner → 20 ≤ length packet
unfolding IsInner
inner_long zero packet lost inner cut x long = rw (sym x.0) long
inner_long (suc n) packet lost inner cut (inl x) long = has_header packet lost 47 x.2.gre x.1 x.2.is
inner_long (suc n) packet lost inner cut (inr x) long = rw (sym x.1) long

-- no packet stands where there is no room for a header
pub no_room : (port : ℕ) (frame : List ℕ) (lost : ℕ) (packet : List ℕ) (cut : ℕ) (bytes : List ℕ) (missing at : ℕ) → length frame < at + 20
    → IsInner 4 (slice_range frame at (length frame)) lost packet cut → InIp port packet cut bytes missing → ⊥
no_room port frame lost packet cut bytes missing at short inner it =
    let all : length (slice_range frame at (length frame)) ≡ length frame - at = grind (arith, common_steps) in
    let long = inner_long 4 (slice_range frame at (length frame)) lost packet cut inner (has_header packet cut it.protocol it.payload it.cut it.is) in
    omega (arith, all, short, long)
