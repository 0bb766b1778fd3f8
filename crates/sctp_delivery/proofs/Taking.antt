-- A SACK can be made and taken.
use Rattle.sctp_delivery.proofs.Names.{◌≡◌, ℕ, ◌+◌, ◌^◌, ◌<◌, Bool, true, List, [], ◌∷◌, refl, arith}
use Rattle.sctp_delivery.proofs.Names.{not_both, ChunkPayloadData, Sack, total_bytes, Reception, max_sack_entries, sack_entries, sack_of_entries, Released}
use Rattle.sctp_delivery.proofs.Names.{after_sack, released_by, after_acked, with_lows, ReceiverCall, is_reporting, CanBeAnswered, IsAnswered}
use Rattle.sctp_delivery.proofs.Names.{takes_sack, ReceiverFollows, SenderFollows, Session}
use Rattle.sctp_receiver.specs.Receiver.{after_sack_within, without_duplicates}
use Rattle.sctp_sender.specs.Totals.{AreSettled, bytes_in}
use Rattle.sctp_sender.proofs.Lows.{released-same}
use Rattle.sctp_sender.proofs.Settled.{sack-bytes}
use Rattle.sctp_delivery.specs.ReceiverCalls as incoming
use Rattle.sctp_delivery.proofs.ArrivedTsns.{IsArrived}
use Rattle.sctp_delivery.proofs.Every.{Every}
use Rattle.sctp_delivery.proofs.GivenTsns.{IsNumbered}
use Rattle.sctp_delivery.proofs.ReportedTsns.{not-refused, sack-truthful}
use Rattle.sctp_delivery.proofs.SackLaws.{IsInStep, IsInStepBut}
use Rattle.sctp_delivery.proofs.SackSteps.{came_in, passed_in, known_or, none_dropped}
use Rattle.sctp_delivery.proofs.ValidMarks.{IsRight}

-- what is acknowledged has no bytes
pub settled : (taken passed : ℕ → Bool) (cs : List ChunkPayloadData) → Every (IsRight taken passed) cs → AreSettled cs
settled taken passed [] e = tt
settled taken passed (c ∷ cs) e = (e.0.settled, settled taken passed cs e.1)

-- ## The two calls

module _ (known : ℕ → Bool) (p n : ℕ) (s : Session) (few : n < 2 ^ 31) (numbered : IsNumbered p n s.sending.sender.flight)
    (arrived : IsArrived p n known s.receiving.receiver.cumulative_tsn s.receiving.receiver.beyond)
    (bare : AreSettled s.sending.sender.flight.queue.inflight.chunks) (credit entries : ℕ) (after : Reception) where
  abbrev k : Sack
  k = sack_of_entries credit entries s.receiving.receiver

  abbrev pub reported : Session
  reported = record s {
    receiving = record s.receiving { receiver = after };
    sacks = sack_of_entries credit entries s.receiving.receiver ∷ s.sacks;
  }

  abbrev gone : List Released
  gone = with_lows (released_by (sack_of_entries credit entries s.receiving.receiver) s.sending.sender.flight) s.sending.sender.streams

  abbrev taken : Session
  taken = record reported {
    sending = record s.sending {
      sender = after_acked (sack_of_entries credit entries s.receiving.receiver) s.sending.sender;
      released = s.sending.released + bytes_in gone;
    };
  }

  taking : SenderFollows (takes_sack (sack_of_entries credit entries s.receiving.receiver) gone) reported taken
  taking = record {
    handed = (0, omega arith, refl);
    step = record {
      sender =
          let f = s.sending.sender.flight in
          released-same (total_bytes f.queue) (total_bytes (after_sack k f).queue) s.sending.sender.streams (released_by k f) gone refl
          (sack-bytes k f bare);
      written = omega arith;
      released = refl;
      taken_back = omega arith;
    };
    exact = refl;
    accepted =
        not-refused p n known k s.sending.sender.flight few numbered (sack-truthful p n known credit entries s.receiving.receiver few arrived);
    answered = refl;
    after = refl;
  }

  pub can-by : (call : ReceiverCall) → is_reporting call ≡ true → ReceiverFollows call s reported
      → (t : Session) × (a : IsAnswered s t) × (a.call ≡ call)
  can-by call e f = (
    taken,
    record {
      call = call;
      makes = e;
      reported = reported;
      reporting = f;
      sack = k;
      made = refl;
      gone = gone;
      taking = taking;
    },
    refl,
  )

pub can-near : (known : ℕ → Bool) (p n : ℕ) (s : Session) → n < 2 ^ 31 → IsNumbered p n s.sending.sender.flight
    → IsArrived p n known s.receiving.receiver.cumulative_tsn s.receiving.receiver.beyond → AreSettled s.sending.sender.flight.queue.inflight.chunks
    → CanBeAnswered s
can-near known p n s few numbered arrived bare (incoming.reports credit) e =
    can-by known p n s few numbered arrived bare credit max_sack_entries (without_duplicates s.receiving.receiver) (incoming.reports credit) e
    (record { handed = tt; step = record { receiver = refl; accepted = refl; read = refl }; accepted = tt; after = refl })
can-near known p n s few numbered arrived bare (incoming.reports_within credit bytes) e =
    can-by known p n s few numbered arrived bare credit (sack_entries bytes) (after_sack_within bytes s.receiving.receiver)
    (incoming.reports_within credit bytes) e
    (record { handed = tt; step = record { receiver = refl; accepted = refl; read = refl }; accepted = tt; after = refl })
can-near known p n s few numbered arrived bare (incoming.makes_sack credit bytes) e =
    can-by known p n s few numbered arrived bare credit (sack_entries bytes) (after_sack_within 0 s.receiving.receiver) (incoming.makes_sack credit bytes) e
    (record { handed = tt; step = record { receiver = refl; accepted = refl; read = refl }; accepted = tt; after = refl })
can-near known p n s few numbered arrived bare call e = absurd (not_both e)

pub can-but : (dropped : ℕ → Bool) (p n : ℕ) (s : Session) → n < 2 ^ 31 → IsInStepBut dropped p n s → CanBeAnswered s
can-but dropped p n s few i = can-near (known_or dropped s) p n s few i.numbered i.arrived
    (settled (came_in dropped s) (passed_in s.made) s.sending.sender.flight.queue.inflight.chunks i.valid.inflight)

pub can : (p n : ℕ) (s : Session) → n < 2 ^ 31 → IsInStep p n s → CanBeAnswered s
can p n s few i = can-but none_dropped p n s few i
