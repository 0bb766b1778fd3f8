-- What is in flight, and a sender, as callers see them: of what they consist.
use Rattle.sctp_sender.proofs.Names.{Flight, Transmission}
use Rattle.std.specs.Option.{option_map}
use Rattle.sctp_sender.specs.declared.sender.Sender.TheInside as sender
use Rattle.sctp_sender.specs.declared.sender.flight.InFlight.TheInside as flight

abbrev pub flight_in : flight.Inside → Flight
flight_in a = record { queue = a.queue; next_tsn = a.next_tsn; acked_tsn = a.acked_tsn }

abbrev pub sender_in : sender.Inside → Transmission
sender_in a = record {
  streams = a.streams;
  flight = a.flight;
  fragment_size = a.fragment_size;
  max_message_size = a.max_message_size;
  kept = option_map (λ k. k.user_data.items) a.kept;
}
