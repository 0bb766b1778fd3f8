-- A link with nothing opened yet.
use Rattle.sctp_link.proofs.Names.{◌≡◌, ℕ, ◌+◌, ◌-◌, ◌<◌, ◌≤◌, ◌%◌, ◌^◌, List, [], map, refl, ap, arith, FilterRecord, Sides, reception_of, Message, Slot}
use Rattle.sctp_link.proofs.Names.{Datagram, setup_of, State, IsLinked, stream_record, message_record, slot_record, datagram_record, progress_of}
use Rattle.sctp_receiver.specs.Receiver.{filter_of}
use Rattle.sctp_link.specs.Sides.{fresh}

abbrev pub start_state : ℕ → ℕ → Sides → List Message → List Slot → List Datagram → List ℕ → State
start_state first limit sides messages slots network duplicates =
    record {
      recorded = record {
        setup = setup_of first sides.fragment_size sides.max_message_size limit;
        streams = map stream_record sides.streams;
        messages = map message_record messages;
        slots = map slot_record slots;
        network = map datagram_record network;
        skipped = 0;
        taken = 0;
        duplicates = duplicates;
      };
      open_streams = sides.streams;
      progress = map progress_of messages;
      unstarted = 0;
      datagrams = map (λ d. d.bytes) network;
      outbound = sides.flight.queue;
      next_tsn = sides.flight.next_tsn;
      acked_tsn = sides.flight.acked_tsn;
      filter = filter_of (reception_of sides);
      fragments = 0;
      written = 0;
    }

linked-start : (sum : List ℕ → ℕ) (first size largest limit : ℕ) → first < 2 ^ 32 → 0 < size → size ≤ 65519
    → IsLinked sum (start_state first limit (fresh first size largest) [] [] [] [])
linked-start sum first size largest limit fits some short = record {
  setup = record { first = fits; some = some; size = short };
  history = [];
  stands = record { is = refl; run = tt };
  outbound = record {
    pending = record { ordered = refl; unordered = refl; selected = refl };
    in_flight = refl;
    next = refl;
    unstarted = λ n lt. absurd (omega (arith, lt));
    started = omega arith;
    begun = λ p lt. absurd (omega (arith, lt));
  };
  unstarted = refl;
  filter = let same : first + (2 ^ 32 - 1) ≡ first + (2 ^ 32 - 1) + 0 = omega arith in
      ap (λ t. let r : FilterRecord = record { cumulative = t % 2 ^ 32; held = []; duplicates = [] } in r) same;
  next = omega (arith, fits);
  acked = let same : first + (2 ^ 32 - 1) ≡ first + (2 ^ 32 - 1) + 0 = omega arith in ap (λ t. t % 2 ^ 32) same;
  fragments = refl;
  written = refl;
  sents = λ n lt. absurd (omega (arith, lt));
  indexes = λ n pos o. absurd (omega (arith, pos));
  low = λ n. omega arith;
  open_streams = λ k d lt. absurd (omega (arith, lt));
  apart = tt;
  encodings = λ k d g e. cc;
}

pub linked-fresh : (sum : List ℕ → ℕ) (first size largest limit : ℕ) (sides : Sides) (messages : List Message) (slots : List Slot) (network : List Datagram)
    (duplicates : List ℕ) → first < 2 ^ 32 → 0 < size → size ≤ 65519 → sides ≡ fresh first size largest → messages ≡ [] → slots ≡ [] → network ≡ []
    → duplicates ≡ [] → IsLinked sum (start_state first limit sides messages slots network duplicates)
linked-fresh sum first size largest limit sides messages slots network duplicates fits some short a b c d e =
    rw (a, b, c, d, e) (linked-start sum first size largest limit fits some short)
