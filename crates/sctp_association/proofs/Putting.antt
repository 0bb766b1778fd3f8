-- Chunks that are put behind others are of what calls answered.
use Rattle.std.proofs.Common.{◌≡◌, ℕ, List, [], ◌∷◌, ◌++◌, Bool, true, false, Option, Some, refl, ap, sym, subst, ◌∙◌, append_assoc, arith}
use Rattle.std.proofs.lemmas.List.{append-nil}
use Rattle.std.proofs.lemmas.List.Elements.{Contains-append_left, Contains-append_right}
use Rattle.std.specs.Prelude.{Contains}
use Rattle.std.specs.List.{AllByRecursion}
use Rattle.sctp_association.proofs.Running.{none_in, none_sent, reported_in, reported_once, sent_by, sent_then}
use Rattle.sctp_association.specs.Packets.{Adds, IsData, IsOf, IsSkipOnce, Puts, PutsOf, PutsOut, PutsSkip, Sides, made_in, made_of, put_where, sides}
use Rattle.sctp_association.specs.Packets.{with_chunks}
use Rattle.sctp_association.specs.Runs.{AcksBy, SendsBy, made_by, reported_by}
use Rattle.sctp_chunks.specs.Wire.{Wire, data_chunk, forward_tsn_chunk, i_forward_tsn_chunk, sack_chunk, shutdown_chunk}
use Rattle.sctp_chunks.specs.Wire.{abort_chunk, cookie_ack_chunk, cookie_echo_chunk, error_chunk, heartbeat_ack_chunk, heartbeat_chunk, init_chunk}
use Rattle.sctp_chunks.specs.Wire.{reconfig_chunk, shutdown_ack_chunk, shutdown_complete_chunk}
use Rattle.sctp_data.specs.SelectiveAck.{Sack}
use Rattle.sctp_delivery.specs.ReceiverCalls.{ReceiverCall, makes_sack}
use Rattle.sctp_delivery.specs.SenderCalls.{Made, SenderCall}
use Rattle.sctp_packets.specs.Draft.{IsDraft, with_chunk}
use Rattle.sctp_packets.specs.Packet.{Parts}
use Rattle.sctp_receiver.specs.Receiver.{Reception, sack_within}
use Rattle.sctp_sender.specs.Sender.{Transmission}

-- ## A packet

pub adds_none : (b : List ℕ) → Adds [] b b
adds_none b = record { draft = λ p d. subst (λ l. IsDraft (record p { chunks = l }) b) (sym (append-nil p.chunks)) d }

pub adds_then : (ws vs : List Wire) (x y z : List ℕ) → Adds ws x y → Adds vs y z → Adds (ws ++ vs) x z
adds_then ws vs x y z a b = record {
  draft = λ p d. subst (λ l. IsDraft (record p { chunks = l }) z) (append_assoc p.chunks ws vs) (b.draft (with_chunks ws p) (a.draft p d));
}

-- a chunk that is put, where that is answered
pub added_put : (b : Bool) (w : Wire) (old new : List ℕ) → (b ≡ true → (p : Parts) → IsDraft p old → IsDraft (with_chunk w p) new)
    → (b ≡ false → new ≡ old) → Adds (put_where b w) old new
added_put true w old new added full = record { draft = added refl }
added_put false w old new added full = subst (λ x. Adds [] old x) (sym (full refl)) (adds_none old)

-- ## Of whom chunks are

module _ (ms ns : List Made) (ss ts : List Sack) (more : (m : Made) → Contains ms m → Contains ns m) (others : (s : Sack) → Contains ss s → Contains ts s) where
  of_more : (w : Wire) → IsOf ms ss w → IsOf ns ts w
  of_more (data_chunk d) h = more _ h
  of_more (init_chunk i) h = h
  of_more (sack_chunk s) h = others _ h
  of_more (heartbeat_chunk ps) h = h
  of_more (heartbeat_ack_chunk ps) h = h
  of_more (abort_chunk cs) h = h
  of_more (shutdown_chunk n) h = record { sack = h.sack; own = others _ h.own; cumulative = h.cumulative }
  of_more shutdown_ack_chunk h = h
  of_more (error_chunk cs) h = h
  of_more (cookie_echo_chunk b) h = h
  of_more cookie_ack_chunk h = h
  of_more shutdown_complete_chunk h = h
  of_more (reconfig_chunk r) h = h
  of_more (forward_tsn_chunk f) h = more _ h
  of_more (i_forward_tsn_chunk f) h = h

  pub all_of_more : (ws : List Wire) → AllByRecursion (IsOf ms ss) ws → AllByRecursion (IsOf ns ts) ws
  all_of_more [] h = tt
  all_of_more (w ∷ ws) h = (of_more w h.0, all_of_more ws h.1)

pub all_append : {X : Type 0} (P : X → Type 0) (xs ys : List X) → AllByRecursion P xs → AllByRecursion P ys → AllByRecursion P (xs ++ ys)
all_append P [] ys h k = k
all_append P (x ∷ xs) ys h k = (h.0, all_append P xs ys h.1 k)

pub all_so : {X : Type 0} (P Q : X → Type 0) → ((x : X) → P x → Q x) → (xs : List X) → AllByRecursion P xs → AllByRecursion Q xs
all_so P Q f [] h = tt
all_so P Q f (x ∷ xs) h = (f x h.0, all_so P Q f xs h.1)

pub all_put : (P : Wire → Type 0) (b : Bool) (w : Wire) → P w → AllByRecursion P (put_where b w)
all_put P true w h = (h, tt)
all_put P false w h = tt

-- ## What the sender made

pub made_append : (ws vs : List Wire) → made_in (ws ++ vs) ≡ made_in vs ++ made_in ws
made_append [] vs = sym (append-nil (made_in vs))
made_append (w ∷ ws) vs = ap (λ (ms : List Made). ms ++ made_of w) (made_append ws vs) ∙ append_assoc (made_in vs) (made_in ws) (made_of w)

-- a chunk that no call of the sender answers is not of it
made-none : (ss : List Sack) (w : Wire) → IsOf [] ss w → made_of w ≡ []
made-none ss (data_chunk d) h = absurd (omega (arith, h.1))
made-none ss (forward_tsn_chunk f) h = absurd (omega (arith, h.1))
made-none ss _ h = refl

pub none_made : (ss : List Sack) (ws : List Wire) → AllByRecursion (IsOf [] ss) ws → made_in ws ≡ []
none_made ss [] h = refl
none_made ss (w ∷ ws) h = ap (λ (ms : List Made). made_in ws ++ ms) (made-none ss w h.0) ∙ append-nil (made_in ws) ∙ none_made ss ws h.1

-- so it need be only of one that is put
pub all_where : (P : Wire → Type 0) (b : Bool) (w : Wire) → (b ≡ true → P w) → AllByRecursion P (put_where b w)
all_where P true w h = (h refl, tt)
all_where P false w h = tt

-- ## Puts

pub nothing : {P : Wire → Type 0} (s : Sides) → PutsOf P s s
nothing s = record {
  made = [];
  sacks = [];
  chunks = [];
  sent = none_sent s.sender;
  reported = none_in s.receiver;
  added = adds_none s.bytes;
  own = tt;
  plain = tt;
  each = λ _ _. refl;
}

pub and_so : (P Q R : Wire → Type 0) (a b c : Sides) → ((w : Wire) → P w → R w) → ((w : Wire) → Q w → R w) → PutsOf P a b → PutsOf Q b c → PutsOf R a c
and_so P Q R a b c f g p q = record {
  made = q.made ++ p.made;
  sacks = q.sacks ++ p.sacks;
  chunks = p.chunks ++ q.chunks;
  sent = sent_then p.made q.made a.sender b.sender c.sender p.sent q.sent;
  reported = reported_in p.sacks q.sacks a.receiver b.receiver c.receiver p.reported q.reported;
  added = adds_then p.chunks q.chunks a.bytes b.bytes c.bytes p.added q.added;
  own = all_append (IsOf (q.made ++ p.made) (q.sacks ++ p.sacks)) p.chunks q.chunks
      (all_of_more p.made (q.made ++ p.made) p.sacks (q.sacks ++ p.sacks) (λ m h. Contains-append_right q.made p.made m h)
      (λ s h. Contains-append_right q.sacks p.sacks s h) p.chunks p.own)
      (all_of_more q.made (q.made ++ p.made) q.sacks (q.sacks ++ p.sacks) (λ m h. Contains-append_left q.made p.made m h)
      (λ s h. Contains-append_left q.sacks p.sacks s h) q.chunks q.own);
  plain = all_append R p.chunks q.chunks (all_so P R f p.chunks p.plain) (all_so Q R g q.chunks q.plain);
  each = λ d draft. ap (λ (ms : List Made). ms ++ p.made) (q.each (with_chunks p.chunks d) (p.added.draft d draft))
      ∙ ap (λ (ms : List Made). made_in q.chunks ++ ms) (p.each d draft) ∙ sym (made_append p.chunks q.chunks);
}

-- what is said of the chunks may be less
pub puts_so : (P Q : Wire → Type 0) → ((w : Wire) → P w → Q w) → (a b : Sides) → PutsOf P a b → PutsOf Q a b
puts_so P Q f a b p = record {
  made = p.made;
  sacks = p.sacks;
  chunks = p.chunks;
  sent = p.sent;
  reported = p.reported;
  added = p.added;
  own = p.own;
  plain = all_so P Q f p.chunks p.plain;
  each = p.each;
}

pub and_then : (a b c : Sides) → Puts a b → Puts b c → Puts a c
and_then a b c p q = and_so IsData IsData IsData a b c (λ w h. h) (λ w h. h) p q

-- where neither half changes, nor the packet
pub kept : (t u : Transmission) (x y : List ℕ) → u ≡ t → y ≡ x → PutsOut t u x y
kept t u x y e f r =
    subst (λ v. Puts (sides t r x) (sides v r y)) (sym e) (subst (λ b. Puts (sides t r x) (sides t r b)) (sym f) (nothing (sides t r x)))

-- and what follows
pub from_same : (t u v : Transmission) (x y : List ℕ) → u ≡ t → PutsOut u v x y → PutsOut t v x y
from_same t u v x y e p = subst (λ w. PutsOut w v x y) e p

pub to_same : (t u v : Transmission) (x y : List ℕ) → v ≡ u → PutsOut t u x y → PutsOut t v x y
to_same t u v x y e p = subst (λ w. PutsOut t w x y) (sym e) p

pub out_then : (t u v : Transmission) (x y z : List ℕ) → PutsOut t u x y → PutsOut u v y z → PutsOut t v x z
out_then t u v x y z p q r = and_then (sides t r x) (sides u r y) (sides v r z) (p r) (q r)

-- DATA behind a FORWARD-TSN
data-once : (due still : Bool) (w : Wire) → IsData w → IsSkipOnce due still w
data-once due still (data_chunk d) h = tt
data-once due still _ h = absurd h

pub skip_then : (due still : Bool) (t u v : Transmission) (x y z : List ℕ) → PutsSkip due still t u x y → PutsOut u v y z → PutsSkip due still t v x z
skip_then due still t u v x y z p q r = and_so (IsSkipOnce due still) IsData (IsSkipOnce due still) (sides t r x) (sides u r y) (sides v r z)
    (λ w h. h) (data-once due still) (p r) (q r)

pub still_so : (due one two : Bool) (t u : Transmission) (x y : List ℕ) → two ≡ one → PutsSkip due one t u x y → PutsSkip due two t u x y
still_so due one two t u x y e p = subst (λ (b : Bool). PutsSkip due b t u x y) (sym e) p

-- a chunk that a call of the sender answers
pub puts_made : (P : Wire → Type 0) (c : SenderCall) (b : Bool) (w : Wire) (t u : Transmission) (old new : List ℕ) → SendsBy c t u
    → IsOf (made_by c t) [] w → P w → Adds (put_where b w) old new → ((p : Parts) → IsDraft p old → made_by c t ≡ made_in (put_where b w))
    → (r : Option Reception) → PutsOf P (sides t r old) (sides u r new)
puts_made P c b w t u old new m of plain added each r = record {
  made = made_by c t;
  sacks = [];
  chunks = put_where b w;
  sent = sent_by c t u m;
  reported = none_in r;
  added = added;
  own = all_put (IsOf (made_by c t) []) b w of;
  plain = all_put P b w plain;
  each = each;
}

-- nothing is put
pub puts_none : {P : Wire → Type 0} (t : Transmission) (old new : List ℕ) → Adds [] old new
    → (r : Option Reception) → PutsOf P (sides t r old) (sides t r new)
puts_none t old new added r = record {
  made = [];
  sacks = [];
  chunks = [];
  sent = none_sent t;
  reported = none_in r;
  added = added;
  own = tt;
  plain = tt;
  each = λ _ _. refl;
}

-- a chunk that a call of the receiver answers
pub puts_reported : (P : Wire → Type 0) (c : ReceiverCall) (b : Bool) (w : Wire) (r s : Reception) (old new : List ℕ) → AcksBy c r s
    → IsOf [] (reported_by c r) w → P w → Adds (put_where b w) old new → (t : Transmission) → PutsOf P (sides t (Some r) old) (sides t (Some s) new)
puts_reported P c b w r s old new m of plain added t = record {
  made = [];
  sacks = reported_by c r;
  chunks = put_where b w;
  sent = none_sent t;
  reported = reported_once c r s m;
  added = added;
  own = all_put (IsOf [] (reported_by c r)) b w of;
  plain = all_put P b w plain;
  each = λ _ _. sym (none_made (reported_by c r) (put_where b w) (all_put (IsOf [] (reported_by c r)) b w of));
}

pub there : {X : Type 0} (x : X) → Contains (x ∷ []) x
there x = (0, omega arith, refl)

-- a SHUTDOWN acknowledges what a SACK would
pub shutdown_put : (P : Wire → Type 0) (n : ℕ) (b : Bool) (r : Reception) (old new : List ℕ) → n ≡ r.cumulative_tsn → P (shutdown_chunk n)
    → Adds (put_where b (shutdown_chunk n)) old new → (t : Transmission) → PutsOf P (sides t (Some r) old) (sides t (Some r) new)
shutdown_put P n b r old new e plain added t = puts_reported P (makes_sack 0 16) b (shutdown_chunk n) r r old new (refl, (refl, tt))
    (record { sack = sack_within 0 16 r; own = there (sack_within 0 16 r); cumulative = sym e }) plain added t
