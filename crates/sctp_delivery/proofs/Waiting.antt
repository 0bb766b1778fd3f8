-- What waits in a list of a sender: messages one behind another, each the fragments of a write, or the rest of one and then such.
use Rattle.sctp_delivery.proofs.Names.{◌≡◌, ℕ, ◌+◌, ◌-◌, ◌%◌, ◌^◌, Bool, true, false, List, [], ◌∷◌, ◌++◌, Option, Some, None, arith, ⊤, ◌==◌, if◌then◌else◌}
use Rattle.sctp_delivery.proofs.Names.{nat_tests, change_where, ChunkPayloadData, data_of, Selected, one_lower, with_deadline, without_message, is_on}
use Rattle.sctp_delivery.proofs.Sent.{Entry, Fits, Numbered, fits-more, fragment, terminal}

-- ## Fragments that go on

-- where a list begins: at a message; or within this one, behind a chunk with this number and kind, with so many bytes of the write
-- left; or nowhere, since nothing can go on there
pub data Place : Type 0 where
  between : Place
  within : ℕ → ℕ → Bool → Numbered → List ℕ → Place
  nowhere : Place

pub record Continues (m ssn : ℕ) (kind : Bool) (w : Numbered) (left : List ℕ) (c : ChunkPayloadData) (v : Numbered) (after : List ℕ) : Type 0 where
  pub message : c.message_id ≡ m
  pub inner : c.beginning_fragment ≡ false
  pub write : v ≡ w
  pub bytes : left ≡ c.user_data ++ after
  pub same_number : c.stream_sequence_number ≡ ssn
  pub same_kind : c.unordered ≡ kind

abbrev pub Goes : Place → ChunkPayloadData → Numbered → List ℕ → Type 0
Goes between c w after = (c.beginning_fragment ≡ true) × (w.place ≡ c.message_id)
Goes (within m ssn kind v left) c w after = Continues m ssn kind v left c w after
Goes nowhere c w after = ⊥

abbrev pub IsBetween : Place → Type 0
IsBetween between = ⊤
IsBetween (within m ssn kind w left) = ⊥
IsBetween nowhere = ⊥

abbrev pub place_after : ChunkPayloadData → Numbered → List ℕ → Place
place_after c w after = if c.ending_fragment then between else within c.message_id c.stream_sequence_number c.unordered w after

-- the list, from a place on
abbrev pub Waits : List Numbered → List ChunkPayloadData → Place → Type 0
Waits ws [] p = IsBetween p
Waits ws (c ∷ cs) p =
    (w : Numbered) × (after : List ℕ) × (Fits ws c.tsn (data_of c) w after × (Goes p c w after × Waits ws cs (place_after c w after)))

-- the place within a message of which the last entry is a fragment
abbrev pub inside : ℕ → List Entry → Place
inside m [] = nowhere
inside m (terminal ∷ xs) = nowhere
inside m (fragment d w after ∷ xs) = within m d.stream_sequence_number d.unordered w after

-- where the list of a kind begins, by the partially sent message
abbrev pub place_of : Bool → Option Selected → List Entry → Place
place_of kind None sent = between
place_of true (Some s) sent = if s.unordered then inside s.message_id sent else between
place_of false (Some s) sent = if s.unordered then between else inside s.message_id sent

-- ## Changes

pub waits-more : (v : Numbered) (ws : List Numbered) (cs : List ChunkPayloadData) (p : Place) → Waits ws cs p → Waits (v ∷ ws) cs p
waits-more v ws [] p h = h
waits-more v ws (c ∷ cs) p h = (h.0, h.1, (fits-more v ws c.tsn (data_of c) h.0 h.1 h.2.0, (h.2.1.0, waits-more v ws cs (place_after c h.0 h.1) h.2.1.1)))

pub waits-behind : (ws : List Numbered) (xs ys : List ChunkPayloadData) (p : Place) → Waits ws xs p → Waits ws ys between → Waits ws (xs ++ ys) p
waits-behind ws [] ys between h k = k
waits-behind ws [] ys (within m ssn kind w left) h k = absurd h
waits-behind ws [] ys nowhere h k = absurd h
waits-behind ws (c ∷ cs) ys p h k = (h.0, h.1, (h.2.0, (h.2.1.0, waits-behind ws cs ys (place_after c h.0 h.1) h.2.1.1 k)))

pub waits-started : (ws : List Numbered) (now : ℕ) (t : ChunkPayloadData → Bool) (cs : List ChunkPayloadData) (p : Place) → Waits ws cs p
    → Waits ws (change_where t (with_deadline now) cs) p
waits-started ws now t [] p h = h
waits-started ws now t (c ∷ cs) p h = grind (arith, nat_tests, waits-started ws now t cs (place_after c h.0 h.1) h.2.1.1)

-- ## A message is gone

-- where the list begins then
abbrev pub place_without : ℕ → Place → Place
place_without m between = between
place_without m (within k ssn kind w left) = if k == m then between else within k ssn kind w left
place_without m nowhere = nowhere

pub waits-without : (ws : List Numbered) (m : ℕ) (cs : List ChunkPayloadData) (p : Place) → Waits ws cs p → Waits ws (without_message m cs) (place_without m p)
waits-without ws m [] between h = tt
waits-without ws m [] (within k ssn kind w left) h = absurd h
waits-without ws m [] nowhere h = absurd h
waits-without ws m (c ∷ cs) p h = grind (arith, nat_tests, waits-without ws m cs (place_after c h.0 h.1) h.2.1.1)

-- ## Numbers one lower

abbrev pub lower : ℕ → ℕ
lower ssn = (ssn + (2 ^ 16 - 1)) % 2 ^ 16

-- the same place, where the numbers of a stream are one lower
abbrev pub place_lower : ℕ → Place → Place
place_lower s between = between
place_lower s (within k ssn kind w left) = within k (if w.stream == s then lower ssn else ssn) kind w left
place_lower s nowhere = nowhere

pub waits-lower : (ws : List Numbered) (s : ℕ) (cs : List ChunkPayloadData) (p : Place) → Waits ws cs p
    → Waits ws (change_where (is_on s) one_lower cs) (place_lower s p)
waits-lower ws s [] between h = tt
waits-lower ws s [] (within k ssn kind w left) h = absurd h
waits-lower ws s [] nowhere h = absurd h
waits-lower ws s (c ∷ cs) p h = grind (arith, nat_tests, waits-lower ws s cs (place_after c h.0 h.1) h.2.1.1)
