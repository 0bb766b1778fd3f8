-- Which INIT and INIT ACK a datagram of this side has.
use Rattle.std.proofs.Common.{◌≡◌, ℕ, List, [], ◌++◌, Bool, Option, Some, sym, subst}
use Rattle.sctp_association.proofs.Known.{unmoved_then}
use Rattle.sctp_association.proofs.Others.{alike_then}
use Rattle.sctp_association.proofs.Putting.{adds_none, adds_then, all_append, all_put, all_so}
use Rattle.sctp_association.specs.declared.association.Association.{Association}
use Rattle.sctp_association.specs.declared.due.Alone.{Alone}
use Rattle.sctp_association.specs.declared.due.AloneKind.{AloneKind}
use Rattle.sctp_association.specs.Halves.{HalvesAlike}
use Rattle.sctp_association.specs.Kept.{IsUnmoved}
use Rattle.sctp_association.specs.Offering.{IsInitDue, IsInitOf, IsOffering, IsReplyOf, OffersAsDue, PutsReply}
use Rattle.sctp_association.specs.Leaving.{IsDueOrData, owed_at}
use Rattle.sctp_association.specs.Packets.{Adds, IsOf, IsPacketOf, put_where}
use Rattle.sctp_chunks.specs.Init.{Init}
use Rattle.sctp_chunks.specs.Wire.{Wire, init_chunk}
use Rattle.sctp_handshake.specs.declared.machine.Machine.{Machine}

-- ## Chunk by chunk

no-offering : (now : ℕ) (a b c : Association) (w : Wire) → IsDueOrData (owed_at now b) (owed_at now c) w → IsOffering a w
no-offering now a b c (init_chunk i) h = absurd h
no-offering now a b c _ h = tt

reply-offering : (a : Association) (due : Alone) → a.due.alone ≡ Some due → (w : Wire) → IsReplyOf a.key a.machine due.kind w → IsOffering a w
reply-offering a due e (init_chunk i) h = subst (λ (o : Option Alone). IsInitDue a.key a.machine o i) (sym e) h
reply-offering a due e _ h = tt

-- ## A reply

-- of the same key and machine
reply-at : (kind : AloneKind) (a b : Association) → IsUnmoved a b → (w : Wire) → IsReplyOf b.key b.machine kind w → IsReplyOf a.key a.machine kind w
reply-at kind a b u w h = subst (λ k. IsReplyOf k a.machine kind w) u.key (subst (λ (m : Machine). IsReplyOf b.key m kind w) u.machine h)

-- a chunk that is no INIT
pub reply_one : (k : Bool) (w : Wire) (kind : AloneKind) (a b : Association) → Adds (put_where k w) a.draft.bytes b.draft.bytes → IsOf [] [] w
    → IsReplyOf a.key a.machine kind w → HalvesAlike a b → IsUnmoved a b → PutsReply kind a b
reply_one k w kind a b added of is h u = record {
  halves = h;
  chunks = put_where k w;
  added = added;
  own = all_put (IsOf [] []) k w of;
  replies = all_put (IsReplyOf a.key a.machine kind) k w is;
  kept = u;
}

pub reply_none : (kind : AloneKind) (a b : Association) → HalvesAlike a b → IsUnmoved a b → b.draft.bytes ≡ a.draft.bytes → PutsReply kind a b
reply_none kind a b h u e = record {
  halves = h;
  chunks = [];
  added = subst (λ x. Adds [] a.draft.bytes x) (sym e) (adds_none a.draft.bytes);
  own = tt;
  replies = tt;
  kept = u;
}

-- one reply behind another
pub reply_then : (kind : AloneKind) (a b c : Association) → PutsReply kind a b → PutsReply kind b c → PutsReply kind a c
reply_then kind a b c p q =
    let P : Wire → Type 0 = IsReplyOf a.key a.machine kind in
    record {
      halves = alike_then a b c p.halves q.halves;
      chunks = p.chunks ++ q.chunks;
      added = adds_then p.chunks q.chunks a.draft.bytes b.draft.bytes c.draft.bytes p.added q.added;
      own = all_append (IsOf [] []) p.chunks q.chunks p.own q.own;
      replies = all_append P p.chunks q.chunks p.replies (all_so (IsReplyOf b.key b.machine kind) P (reply-at kind a b p.kept) q.chunks q.replies);
      kept = unmoved_then a b c p.kept q.kept;
    }

pub reply_init : (k : Bool) (i : Init) (kind : AloneKind) (a b : Association) → Adds (put_where k (init_chunk i)) a.draft.bytes b.draft.bytes
    → IsInitOf a.key a.machine kind i → HalvesAlike a b → IsUnmoved a b → PutsReply kind a b
reply_init k i kind a b added of h u = record {
  halves = h;
  chunks = put_where k (init_chunk i);
  added = added;
  own = all_put (IsOf [] []) k (init_chunk i) tt;
  replies = all_put (IsReplyOf a.key a.machine kind) k (init_chunk i) of;
  kept = u;
}

-- ## A datagram

pub packet_so : (P Q : Wire → Type 0) → ((w : Wire) → P w → Q w) → (bytes : List ℕ) → IsPacketOf P bytes → IsPacketOf Q bytes
packet_so P Q f bytes p = record {
  packet = p.packet;
  is_zero = p.is_zero;
  encoded = p.encoded;
  encodings = p.encodings;
  fits = p.fits;
  own = all_so P Q f p.packet.chunks p.own;
}

pub offers_reply : (a : Association) (due : Alone) (bytes : List ℕ) → a.due.alone ≡ Some due
    → IsPacketOf (IsReplyOf a.key a.machine due.kind) bytes → OffersAsDue a bytes
offers_reply a due bytes e p = packet_so (IsReplyOf a.key a.machine due.kind) (IsOffering a) (reply-offering a due e) bytes p

pub offers_none : (now : ℕ) (a b c : Association) (bytes : List ℕ) → IsPacketOf (IsDueOrData (owed_at now b) (owed_at now c)) bytes → OffersAsDue a bytes
offers_none now a b c bytes p = packet_so (IsDueOrData (owed_at now b) (owed_at now c)) (IsOffering a) (no-offering now a b c) bytes p
