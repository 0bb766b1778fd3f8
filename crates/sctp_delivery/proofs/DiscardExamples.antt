-- A session in which the receiver drops a chunk: it is acknowledged, though it was not taken.
use Rattle.sctp_delivery.proofs.Names.{◌≡◌, true, false, List, [], ◌∷◌, refl, arith, Binary, CallOrDiscard, Discards, RunsWithDiscards, discards, makes}
use Rattle.sctp_delivery.proofs.Names.{reports_tsn, was_taken, sends, writes, ReceiverFollows, Session, of_receiver, of_sender}
use Rattle.sctp_util.specs.Serial.{at_or_before, at_or_before16, comes_before, comes_before16, distance, distance16}
use Rattle.sctp_delivery.specs.Discards.{came}
use Rattle.sctp_delivery.specs.ReceiverCalls.{reports_within}
use Rattle.sctp_delivery.specs.SenderCalls as outgoing
use Rattle.sctp_delivery.proofs.Examples.{in_flight, opened, opens, sends-one, start, writes-one, written, chunk, sack_of}

-- the chunk that is in flight is dropped: its stream is not open at the receiver
abbrev dropped : Session
dropped = record in_flight { receiving = record in_flight.receiving { receiver = record in_flight.receiving.receiver { cumulative_tsn = 10 } } }

drops-one : Discards chunk in_flight dropped
unfolding at_or_before at_or_before16 comes_before comes_before16 distance distance16
drops-one = record { handed = (0, omega arith, refl); step = record { receiver = refl; accepted = refl; read = refl }; accepted = refl; after = refl }

-- and a SACK of 16 bytes is made
abbrev reported : Session
reported = record dropped { sacks = sack_of 10 ∷ [] }

reports-one : ReceiverFollows (reports_within 1000 16) dropped reported
reports-one = record { handed = tt; step = record { receiver = refl; accepted = refl; read = refl }; accepted = tt; after = refl }

abbrev calls : List CallOrDiscard
calls =
    makes (of_sender (outgoing.opens 1)) ∷ makes (of_sender (writes 1 Binary (7 ∷ []))) ∷ makes (of_sender (sends 5)) ∷ discards chunk
    ∷ makes (of_receiver (reports_within 1000 16)) ∷ []

session : RunsWithDiscards start calls reported
session = (opened, (opens, (written, (writes-one, (in_flight, (sends-one, (dropped, (drops-one, (reported, (reports-one, refl))))))))))

-- so what sessions without such calls have is not so here: the SACK reports the TSN, and no chunk with it was taken
is-reported : reports_tsn 10 (sack_of 10) ≡ true
unfolding at_or_before at_or_before16 comes_before comes_before16 distance distance16
is-reported = refl

is-not-taken : was_taken 10 reported ≡ false
is-not-taken = refl

but-came : came 10 calls reported ≡ true
but-came = refl
