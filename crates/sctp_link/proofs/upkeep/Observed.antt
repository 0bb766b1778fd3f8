-- What a link tells that is asked of it: which streams are open, what a datagram's bytes say, which TSNs can be sent again.
use Rattle.sctp_link.proofs.Names.{◌≡◌, ℕ, zero, suc, ◌<◌, ◌^◌, List, [], ◌∷◌, length, map, Some, ap, sym, ◌∙◌, arith, slice_get, slice_index_or, get_or-map}
use Rattle.sctp_link.proofs.Names.{length-mapped, slot_at, no_slot, Contents, contents_of, contents_in, datagram, Datagram, Slot, State, IsLinked}
use Rattle.sctp_link.proofs.Names.{datagram_record, slot_record, datagram_encoding, kind_record, IsDatagram, subst, some-same, slice_get_within}
use Rattle.sctp_link.proofs.upkeep.Facts.{facts}
use Rattle.sctp_model.specs.LinkRecord as W

-- what is recorded of a datagram that a link keeps
pub kept-kind : (ds : List Datagram) (k : ℕ) (y : Datagram) → k < length ds → y ≡ slice_index_or ds k y
    → slice_get (map datagram_record ds) k ≡ Some (kind_record y.kind)
kept-kind [] k y lt is = absurd (omega arith)
kept-kind (d ∷ ds) zero y lt is = ap (λ (z : Datagram). Some (kind_record z.kind)) (sym is)
kept-kind (d ∷ ds) (suc k) y lt is = kept-kind ds k y (omega arith) is

pub kind-there : (ds : List Datagram) (k : ℕ) (y : Datagram) (g : W.Datagram) → slice_get (map datagram_record ds) k ≡ Some g → y ≡ slice_index_or ds k y
    → kind_record y.kind ≡ g
kind-there ds k y g e is =
    some-same (sym (kept-kind ds k y (omega (arith, slice_get_within (map datagram_record ds) k g e, length-mapped datagram_record ds)) is) ∙ e)

-- its bytes are those of what is recorded
pub encoded : {sum : List ℕ → ℕ} {x : State} (ds : List Datagram) (k : ℕ) (y : Datagram) (g : W.Datagram) → IsLinked sum x
    → x.recorded.network ≡ map datagram_record ds → x.datagrams ≡ map (λ d. d.bytes) ds → slice_get x.recorded.network k ≡ Some g → y ≡ slice_index_or ds k y
    → IsDatagram sum (contents_of x.recorded g) y.bytes
encoded {sum} {x} ds k y g l network bytes e is =
    let lt : k < length ds = omega (arith, slice_get_within x.recorded.network k g e, ap length network, length-mapped datagram_record ds) in
    let here : slice_index_or x.datagrams k y.bytes ≡ y.bytes = ap (λ bs. slice_index_or bs k y.bytes) bytes
    ∙ get_or-map (λ (d : Datagram). d.bytes) ds k y y.bytes lt ∙ ap (λ (d : Datagram). d.bytes) (sym is) in
    subst (IsDatagram sum (contents_of x.recorded g)) here (l.encodings k y.bytes g e)

pub says-bytes : {sum : List ℕ → ℕ} {x : State} (ds : List Datagram) (k : ℕ) (d : Datagram) → IsLinked sum x → x.recorded.network ≡ map datagram_record ds
    → x.datagrams ≡ map (λ d. d.bytes) ds → k < length ds → d ≡ slice_index_or ds k d
    → (c : Contents) × (datagram x.recorded k ≡ Some c) × (d.bytes ≡ datagram_encoding sum c)
says-bytes {x} ds k d l network bytes lt is =
    let g = kind_record d.kind in
    let made : slice_get x.recorded.network k ≡ Some g = ap (λ n. slice_get n k) network ∙ kept-kind ds k d lt is in
    (contents_of x.recorded g, ap (contents_in x.recorded) made, (encoded ds k d g l network bytes made is).encoding)

-- fewer fragments than TSNs were accepted
pub few-fragments : {sum : List ℕ → ℕ} {x : State} → IsLinked sum x → x.fragments < 2 ^ 31
few-fragments l = omega (arith, l.fragments, (facts l).consistent.accepted)

-- the message of a slot
pub slot-message : {sum : List ℕ → ℕ} {x : State} (xs : List Slot) (p : ℕ) (s : Slot) → IsLinked sum x → x.recorded.slots ≡ map slot_record xs
    → p < length x.recorded.slots → s ≡ slice_index_or xs p s → (slot_at x.recorded p ≡ slot_record s) × (s.message < length x.recorded.messages)
slot-message {x} xs p s l slots lt is =
    let within : p < length xs = omega (arith, lt, ap length slots, length-mapped slot_record xs) in
    let same : slot_at x.recorded p ≡ slot_record s = ap (λ ys. slice_index_or ys p no_slot) slots ∙ get_or-map slot_record xs p s no_slot within
    ∙ ap slot_record (sym is) in
    let made = (facts l).consistent.sender.made p lt in
    (same, omega (arith, made, ap (λ t. t.message) same))
