-- The list gains channels of the peer alone.
use Rattle.std.proofs.Common.{◌≡◌, true, false, List, [], ◌∷◌, ◌++◌, refl, ap, sym, ◌∙◌, subst, arith, append_assoc}
use Rattle.std.proofs.lemmas.List.{append-nil, map-append}
use Rattle.std.specs.List.{list_all}
use Rattle.sctp_channels.specs.Channels.{Gains, as_asked, asked, is_of, is_peers}
use Rattle.sctp_channels.specs.declared.channel.Channel.{Channel}
use Rattle.sctp_dcep.specs.declared.side.Side.{Side}

-- nothing is gained
pub gains_same : (side : Side) (old new : List Channel) → asked new ≡ asked old → Gains side old new
gains_same side old new same = record { gained = []; are = same ∙ sym (append-nil (asked old)); peers = refl }

all_append : (side : Side) (xs ys : List Channel) → list_all (is_peers side) xs ≡ true → list_all (is_peers side) ys ≡ true
    → list_all (is_peers side) (xs ++ ys) ≡ true
all_append side [] ys h k = k
all_append side (c ∷ xs) ys h k = grind (arith, all_append side xs ys)

pub gains_more : (side : Side) (old mid new : List Channel) → Gains side old mid → Gains side mid new → Gains side old new
gains_more side old mid new a b = record {
  gained = a.gained ++ b.gained;
  are = b.are ∙ ap (λ xs. xs ++ asked b.gained) a.are ∙ append_assoc (asked old) (asked a.gained) (asked b.gained)
      ∙ ap (λ xs. asked old ++ xs) (sym (map-append as_asked a.gained b.gained));
  peers = all_append side a.gained b.gained a.peers b.peers;
}

-- so from one call to the next one
pub gains_then : (a b : Side) (old mid new : List Channel) → Gains a old mid → b ≡ a → Gains b mid new → Gains a old new
gains_then a b old mid new first same next = gains_more a old mid new first (subst (λ s. Gains s mid new) same next)

-- a channel on a number of the peer
pub gains_push : (side : Side) (old : List Channel) (c : Channel) → is_of side c.stream ≡ false → Gains side old (old ++ c ∷ [])
gains_push side old c is = record {
  gained = c ∷ [];
  are = map-append as_asked old (c ∷ []);
  peers = rw is refl;
}
