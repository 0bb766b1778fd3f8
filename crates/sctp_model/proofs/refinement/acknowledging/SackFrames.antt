-- A SACK that is taken leaves what the receiver has as it is.
use Rattle.sctp_model.proofs.Names.{◌≡◌, ℕ, ◌+◌, ◌-◌, ◌%◌, ◌^◌, Bool, length, map, Some, ap, if◌then◌else◌, ◌==◌, ◌&&◌, ◌||◌, not, nat_le, nat_lt, list_any}
use Rattle.sctp_model.proofs.Names.{numbers_where, unbroken, ChunkPayloadData, ChunkSet, fresh, Reassembly, LinkRecord, Report, Sack, message_at, stream_of}
use Rattle.sctp_model.proofs.Names.{is_ordered_on, is_unordered_on, index_of, ssn_of, fragment_count, tsn_of, is_unread, next_of, data_fields, cumulative_tsn}
use Rattle.sctp_model.proofs.Names.{filter_of, after_acked}
use Rattle.sctp_model.specs.Queues.{FilterRecord}
use Rattle.sctp_model.proofs.sender.Shape.{has}
use Rattle.sctp_model.proofs.receiver.View.{View, view-taken}
use Rattle.sctp_model.specs.refinement.Holds.{reassembly_of}

-- ## What came, by what a view tells of the slots

abbrev chunk_in : LinkRecord → View → ℕ → ChunkPayloadData
chunk_in w y p = fresh (data_fields w (y.x.slot p).message (y.x.slot p).fragment (tsn_of w p))

abbrev come : View → ℕ → ℕ → Bool
come y n p = has y.x n p && y.arrived p

abbrev count_in : View → ℕ → ℕ
count_in y n = length (numbers_where (come y n) 0 y.x.slots)

abbrev complete_in : LinkRecord → View → ℕ → Bool
complete_in w y n =
    if (message_at w n).ordered then count_in y n == fragment_count w n
    else (message_at w n).read || list_any (λ k. k == n) (stream_of w (message_at w n).stream).complete

abbrev set_in : LinkRecord → View → ℕ → ChunkSet
set_in w y n = record { ssn = ssn_of w n; ppi = (message_at w n).ppi; chunks = map (chunk_in w y) (numbers_where (come y n) 0 y.x.slots) }

abbrev complete_set_in : LinkRecord → View → ℕ → ChunkSet
complete_set_in w y n = record { ssn = 0; ppi = (message_at w n).ppi; chunks = map (chunk_in w y) (numbers_where (has y.x n) 0 y.x.slots) }

abbrev held_in : LinkRecord → View → ℕ → ℕ → Bool
held_in w y s n = is_ordered_on w s n && (is_unread w n && (nat_lt 0 (count_in y n) && (complete_in w y n || nat_le (stream_of w s).named (index_of w n))))

abbrev unassembled_in : LinkRecord → View → ℕ → ℕ → Bool
unassembled_in w y s p = y.arrived p && (nat_le w.skipped p && (is_unordered_on w s (y.x.slot p).message && not (complete_in w y (y.x.slot p).message)))

abbrev reassembly_in : LinkRecord → ℕ → View → Reassembly
reassembly_in w s y =
    record {
      next_ssn = next_of w s % 2 ^ 16;
      ordered = map (set_in w y) (numbers_where (held_in w y s) 0 (length w.messages));
      unordered = map (complete_set_in w y) (stream_of w s).complete;
      unassembled = map (chunk_in w y) (numbers_where (unassembled_in w y s) 0 y.x.slots);
    }

abbrev cumulative_in : LinkRecord → View → ℕ
cumulative_in w y = w.skipped + unbroken y.arrived w.skipped (y.x.slots - w.skipped)

abbrev filter_in : LinkRecord → View → FilterRecord
filter_in w y =
    record {
      cumulative = cumulative_tsn w (cumulative_in w y);
      held = map (tsn_of w) (numbers_where y.arrived (cumulative_in w y) (y.x.slots - cumulative_in w y));
      duplicates = map (tsn_of w) w.duplicates;
    }

-- ## A SACK changes none of it

pub reassembly-taken : (w : LinkRecord) (r : Report) (s : ℕ) → reassembly_of (after_acked w (Some (Sack r))) s ≡ reassembly_of w s
reassembly-taken w r s = ap (reassembly_in w s) (view-taken w r)

pub filter-taken : (w : LinkRecord) (r : Report) → filter_of (after_acked w (Some (Sack r))) ≡ filter_of w
filter-taken w r = ap (filter_in w) (view-taken w r)
