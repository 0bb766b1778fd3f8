-- What calls of a session leave as it is, and which of them most sessions do not have.
use Rattle.std.proofs.Common.{◌≡◌, true, List, [], refl, inl, inr, arith}
use Rattle.std.proofs.lemmas.Bool.{false≢true}
use Rattle.std.specs.Prelude.{◌⊎◌, Contains}
use Rattle.sctp_association.specs.Acks.{without_blocks}
use Rattle.sctp_association.specs.Hosts.{fragments_by}
use Rattle.sctp_association.specs.OneLife.{others_of}
use Rattle.sctp_association.specs.Runs.{is_sending}
use Rattle.sctp_data.specs.SelectiveAck.{Sack}
use Rattle.sctp_delivery.proofs.Every.{Every}
use Rattle.sctp_delivery.specs.EveryCall.{AnyCall, ReceiverOther, as_receiver_run, closes_incoming}
use Rattle.sctp_delivery.specs.EveryCall.{discards, passes_over, resets_incoming}
use Rattle.sctp_delivery.specs.SenderCalls.{SenderCall, TakesBackAndSack, Write, written_after}
use Rattle.sctp_delivery.specs.SenderCalls.{expires, expires_late, expires_rexmit, expires_tail, forwards_within, resends, sends, starts}
use Rattle.sctp_delivery.specs.Session.{Session}
use Rattle.sctp_receiver.specs.Receiver.{Reception}
use Rattle.sctp_receiver.specs.ReceiverRuns.{Message, messages_after}
use Rattle.sctp_sender.specs.Sender.{Transmission}
use Rattle.sctp_sender.specs.declared.sender.flight.Released.{Released}
use Rattle.sctp_sender.specs.declared.sender.flight.kept.TakenBack.{TakenBack}

pub either : {A B C : Type 0} → (A → C) → (B → C) → A ⊎ B → C
either f g (inl a) = f a
either f g (inr b) = g b

pub contains-none : {A : Type 0} (x : A) → Contains [] x → ⊥
contains-none x c = let lt = c.1 in omega (arith, lt)

-- ## What calls do not change

pub none-written : (c : SenderCall) (ws : List Write) → is_sending c ≡ true → written_after c ws ≡ ws
none-written (sends now) ws e = refl
none-written (resends tsn now c) ws e = refl
none-written (forwards_within bytes f) ws e = refl
none-written (starts now) ws e = refl
none-written (expires now m) ws e = refl
none-written (expires_tail now m) ws e = refl
none-written (expires_late now gone) ws e = refl
none-written (expires_rexmit gone) ws e = refl
none-written _ ws e = absurd (false≢true e)

pub none-cut : (c : SenderCall) (t : Transmission) → is_sending c ≡ true → fragments_by c t ≡ 0
none-cut (sends now) t e = refl
none-cut (resends tsn now c) t e = refl
none-cut (forwards_within bytes f) t e = refl
none-cut (starts now) t e = refl
none-cut (expires now m) t e = refl
none-cut (expires_tail now m) t e = refl
none-cut (expires_late now gone) t e = refl
none-cut (expires_rexmit gone) t e = refl
none-cut _ t e = absurd (false≢true e)

-- the SACK was made, and one that acknowledges as it does and has neither gap ack blocks nor duplicates
pub record IsThere (s : Session) (k : Sack) : Type 0 where
  pub own : Contains s.sacks k
  pub plain : Contains s.sacks (without_blocks k.cumulative_tsn_ack)

-- a SACK counts by its cumulative TSN and its gap ack blocks alone
pub plain-sack : (k : Sack) (back : List TakenBack) (gone : List Released) (t u : Transmission)
    → TakesBackAndSack (record k { gap_ack_blocks = [] }) back gone t u → TakesBackAndSack (without_blocks k.cumulative_tsn_ack) back gone t u
plain-sack k back gone t u h = record {
  returned = h.returned;
  exact = h.exact;
  accepted = h.accepted;
  answered = h.answered;
  bytes = h.bytes;
  whole = h.whole;
}

-- a call that most sessions do not have hands out no message
pub none-read : (call : ReceiverOther) (r : Reception) (ms : List Message) → messages_after (as_receiver_run call) r ms ≡ ms
none-read (discards c) r ms = refl
none-read (closes_incoming stream) r ms = refl
none-read (resets_incoming stream last) r ms = refl
none-read (passes_over f) r ms = refl

-- # Where each call that most sessions do not have is so

module _ (P : AnyCall → Type 0) where
  abbrev pub Only : List AnyCall → Type 0
  Only cs = Every P (others_of cs)
