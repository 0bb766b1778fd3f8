-- Chunks are put in their order.
use Rattle.std.proofs.Common.{◌≡◌, inl, inr, ℕ, List, [], ◌∷◌, ◌++◌, Bool, true, false, refl, ap, sym, subst, ◌∙◌, append_assoc}
use Rattle.std.proofs.lemmas.List.{append-nil}
use Rattle.std.specs.List.{AllByRecursion}
use Rattle.sctp_association.proofs.Putting.{adds_none, adds_then, all_append}
use Rattle.sctp_association.specs.Ordered.{AreOf, IsInOrder, PutsInOrder, PutsTypes, control_order}
use Rattle.sctp_association.specs.Packets.{Adds, IsData, put_where, sum_of, with_chunks}
use Rattle.sctp_chunks.specs.Wire.{Wire, type_of}
use Rattle.sctp_packets.specs.declared.packet.CommonHeader.{CommonHeader}
use Rattle.sctp_packets.specs.Draft.{IsDraft, headed}
use Rattle.sctp_packets.specs.Packet.{Parts, packet_encoding}

pub are_none : (ts : List ℕ) → AreOf ts []
are_none [] = refl
are_none (t ∷ ts) = inl (are_none ts)

pub are_then : (ts us : List ℕ) (ws vs : List Wire) → AreOf ts ws → AreOf us vs → AreOf (ts ++ us) (ws ++ vs)
are_then [] us ws vs h k = subst (λ (l : List Wire). AreOf us (l ++ vs)) (sym h) k
are_then (t ∷ ts) us ws vs (inl h) k = inl (are_then ts us ws vs h k)
are_then (t ∷ ts) us [] vs (inr h) k = absurd h
are_then (t ∷ ts) us (w ∷ ws) vs (inr h) k = inr (h.0, are_then ts us ws vs h.1 k)

-- ## One chunk, or none

pub order_none : (ts x y : List ℕ) → y ≡ x → PutsTypes ts x y
order_none ts x y e = record { chunks = []; added = subst (λ (z : List ℕ). Adds [] x z) (sym e) (adds_none x); order = are_none ts }

are-one : (k : Bool) (w : Wire) (t : ℕ) → type_of w ≡ t → AreOf (t ∷ []) (put_where k w)
are-one true w t e = inr (e, refl)
are-one false w t e = inl refl

pub order_one : (k : Bool) (w : Wire) (t : ℕ) (x y : List ℕ) → Adds (put_where k w) x y → type_of w ≡ t → PutsTypes (t ∷ []) x y
order_one k w t x y added e = record { chunks = put_where k w; added = added; order = are-one k w t e }

-- ## One after another

pub order_then : (ts us x y z : List ℕ) → PutsTypes ts x y → PutsTypes us y z → PutsTypes (ts ++ us) x z
order_then ts us x y z p q = record {
  chunks = p.chunks ++ q.chunks;
  added = adds_then p.chunks q.chunks x y z p.added q.added;
  order = are_then ts us p.chunks q.chunks p.order q.order;
}

-- of some types none follows
pub order_more : (ts us x y : List ℕ) → PutsTypes ts x y → PutsTypes (ts ++ us) x y
order_more ts us x y p = order_then ts us x y y p (order_none us y y refl)

-- nor of some before
pub order_late : (ts us x y : List ℕ) → PutsTypes us x y → PutsTypes (ts ++ us) x y
order_late ts us x y p = order_then ts us x x y (order_none ts x x refl) p

pub order_data : (ts x y : List ℕ) → PutsTypes ts x y → PutsInOrder ts x y
order_data ts x y p = record {
  chunks = p.chunks;
  added = p.added;
  order = record { control = p.chunks; users = []; all = sym (append-nil p.chunks); order = p.order; behind = tt };
}

-- DATA behind
pub order_behind : (ts x y z : List ℕ) (ds : List Wire) → PutsInOrder ts x y → Adds ds y z → AllByRecursion IsData ds → PutsInOrder ts x z
order_behind ts x y z ds p added plain = record {
  chunks = p.chunks ++ ds;
  added = adds_then p.chunks ds x y z p.added added;
  order = record {
    control = p.order.control;
    users = p.order.users ++ ds;
    all = ap (λ (l : List Wire). l ++ ds) p.order.all ∙ append_assoc p.order.control p.order.users ds;
    order = p.order.order;
    behind = all_append IsData p.order.users ds p.order.behind plain;
  };
}

-- chunks before
pub order_before : (ts us x y z : List ℕ) → PutsTypes ts x y → PutsInOrder us y z → PutsInOrder (ts ++ us) x z
order_before ts us x y z p q = record {
  chunks = p.chunks ++ q.chunks;
  added = adds_then p.chunks q.chunks x y z p.added q.added;
  order = record {
    control = p.chunks ++ q.order.control;
    users = q.order.users;
    all = ap (λ (l : List Wire). p.chunks ++ l) q.order.all ∙ sym (append_assoc p.chunks q.order.control q.order.users);
    order = are_then ts us p.chunks q.order.control p.order q.order.order;
    behind = q.order.behind;
  };
}

-- ## A datagram

pub order_sealed : (h : CommonHeader) (begun full sealed : List ℕ) (z : Bool) → IsDraft (headed h) begun → PutsInOrder control_order begun full
    → ((p : Parts) → IsDraft p full → sealed ≡ packet_encoding (sum_of z) p) → IsInOrder sealed
order_sealed h begun full sealed z draft p encoded =
    let d = p.added.draft (headed h) draft in
    record {
      packet = with_chunks p.chunks (headed h);
      is_zero = z;
      encoded = encoded _ d;
      encodings = d.encodings;
      fits = d.fits;
      order = p.order;
    }
