-- The names that most of these proofs cite, passed on from one place. Declares nothing.
pub use Rattle.std.proofs.Common.{◌≡◌, ap, ◌∙◌, arith, sym, length, ◌+◌, refl, ℕ, ◌∷◌, List, [], false, ◌≤◌, Some, ◌<◌, subst, true, Bool, ◌++◌, ◌-◌, None, ◌^◌}
pub use Rattle.std.proofs.Common.{drop, rules, suc, Option, map, take, zero, inr, inl, length-set, ◌*◌, Result, get_or, Ok, Err, ap₂, ◌%◌, add-one, ◌⊎◌}
pub use Rattle.std.proofs.Common.{drop-cons}
pub use Rattle.std.specs.Prelude.{if◌then◌else◌, ◌==◌, slice_get, not, slice_index_or, slice_set, ◌||◌, ◌&&◌, find, nat_lt, is_some, option_map, IfOk, nat_le}
pub use Rattle.std.specs.Prelude.{⊤, OnErr, OnOk, IfErr, min, IfSome, unwrap_or, All}
pub use Rattle.sctp_receiver.specs.declared.receiver.inbound_streams.InboundStream.{InboundStream}
pub use Rattle.sctp_receiver.specs.Inbound.{number, numbers_of, has_number, with_queue, named_forwarded, new_stream, ssn_forwarded, stream_read}
pub use Rattle.sctp_receiver.specs.Inbound.{unassembled_forwarded, Pushes, PushesAs}
pub use Rattle.sctp_receiver.specs.Receiver.{Reception, stream_of, after_forward, filter_of, follow_forward_tsn, is_stale, with_filter, repeat_tsn, message_of}
pub use Rattle.sctp_receiver.specs.Receiver.{Accepts, message_on, after_discard, data_refusal, new_refusal, stream_refusal, duplicates_answered, sack_entries}
pub use Rattle.sctp_receiver.specs.Receiver.{TakesEach, noted_by, Takes, TakesFirstBy, IsRefusedFor, open_stream, arrival_refusal, discard_refusal, window}
pub use Rattle.sctp_receiver.specs.Receiver.{is_open, after_sack_within, forward_refusal, max_sack_entries}
pub use Rattle.sctp_data.specs.declared.chunk.chunk_payload_data.ChunkPayloadData.{ChunkPayloadData}
pub use Rattle.std.specs.List.{filter, sum_by, list_any, list_all, remove}
pub use Rattle.sctp_reassembly.specs.reassembly_queue.ReassemblyQueue.{ReassemblyState, Reassembly, message_read, after_read, rest_among, after_ordered_skip}
pub use Rattle.sctp_reassembly.specs.reassembly_queue.ReassemblyQueue.{is_readable, front_readable, message_among, is_passed, set_of_run, TakesRun}
pub use Rattle.sctp_reassembly.specs.reassembly_queue.ReassemblyQueue.{BecomesComplete, rest_read, without_first, held_after_ordered_push, after_unordered_skip}
pub use Rattle.sctp_reassembly.specs.reassembly_queue.ReassemblyQueue.{after_ordered_push, is_too_large, held_chunks}
pub use Rattle.sctp_receiver.specs.TsnFilter.{Filter, has_come, with_tsn, rise_beyond, is_opposite, highest_tsn, skipped_to, block_of, placeholder}
pub use Rattle.sctp_receiver.specs.TsnFilter.{gap_ack_blocks}
pub use Rattle.std.proofs.lemmas.Bool.Decides.{nat_tests}
pub use Rattle.sctp_util.specs.Lists.{change_where, insert_before, advance_over, Seen, after_leading, change_first}
pub use Rattle.sctp_serial.specs.DataChunks.{following_tsn, chunk_before, bytes_of, has_tsn, is_on}
pub use Rattle.std.proofs.lemmas.List.Sums.{sum_by-cons, sum_by-append, sum_by-set}
pub use Rattle.sctp_util.specs.Serial.{distance, comes_before, at_or_before, comes_before16, at_or_before16, distance16}
pub use Rattle.sctp_data.specs.ChunkSet.{ChunkSet}
pub use Rattle.sctp_receiver.specs.TsnRuns.{tsns_of, AreRuns, tsns_from, count_of_runs, IsRun, later, run_before, reaches, pieces}
pub use Rattle.sctp_util.proofs.Cases.{same-is, same-yes, some-same, by_same}
pub use Rattle.sctp_data.specs.ForwardTsn.{ForwardTsn}
pub use Rattle.sctp_data.specs.declared.chunk.chunk_forward_tsn.ChunkForwardTsnStream.{ChunkForwardTsnStream}
pub use Rattle.sctp_receiver.specs.declared.receiver.refusal.ReceiverRefusal.{ReceiverRefusal}
pub use Rattle.sctp_util.proofs.More.{not_both, fails, and, both}
pub use Rattle.sctp_receiver.specs.declared.receiver.arrival.Arrival.TheVariants.{New, Repeat}
pub use Rattle.std.proofs.lemmas.Bool.{eq-eqb, cases_lt, le-ltb, lt-ltb, ne_eqb}
pub use Rattle.sctp_receiver.specs.Visited.{is_spot_before, to_visit, AreInverse, skip_forwarded, IsListing, holds_any, is_visited, holds_incomplete}
pub use Rattle.sctp_receiver.specs.Visited.{VisitOrder, swapped}
pub use Rattle.sctp_stream.proofs.StreamPlaces.{inside, found, changed, absent-find, numbers-stay, map-set_same}
pub use Rattle.sctp_serial.proofs.lemmas.ListEdits.{neither}
pub use Rattle.std.proofs.lemmas.List.{length-append, length-drop, length-take, append-nil, take-append-drop, get_or-drop, get_or_default, append_assoc}
pub use Rattle.std.proofs.lemmas.List.{drop_all}
pub use Rattle.std.proofs.lemmas.Option.{slice_get_within, slice_get_read, get_or_from_slice_get, slice_get_past}
pub use Rattle.sctp_receiver.specs.declared.receiver.limits.Limits.{Limits}
pub use Rattle.sctp_receiver.specs.Noted.{each_made, AreNamed, is_named, noted_made, AreNone}
pub use Rattle.sctp_receiver.specs.Undo.{chunks_undone, CanUndoChunks, parts, Parts, undo_of, retracted, reception_of, chunk_undone, passed, CanRetract}
pub use Rattle.sctp_receiver.specs.Undo.{stream_undone, CanUndoAt}
pub use Rattle.sctp_receiver.specs.Resets.{stream_reset}
pub use Rattle.sctp_receiver.specs.Skips.{incomplete_forwarded, without_incomplete, after_forward_tsn, has_incomplete, skip_refusal, past_closed_refusal}
pub use Rattle.sctp_receiver.specs.declared.receiver.tsn_filter.runs.Run.{Run}
pub use Rattle.sctp_reassembly.proofs.lemmas.reassembly_queue.SerialPlaces.{after_one}
pub use Rattle.sctp_receiver.specs.ReceiverRuns.{Call, Makes, opens, closes, takes, discards, reports, reports_within, reads, resets, forwards}
pub use Rattle.sctp_receiver.specs.ReceiverRuns.{forwards_by_names, Stand, Follows, at_start, is_one_message, Message, accepted_after, with_message, RunsTo}
pub use Rattle.sctp_receiver.specs.Costs.{IsWithinData, IsWithinPush, IsWithinPushOn}
pub use Rattle.sctp_reassembly.specs.reassembly_queue.Skips.{cannot_complete}
pub use Rattle.sctp_stream.specs.Numbers.{IsOnlyPlace}
pub use Rattle.sctp_receiver.specs.declared.receiver.refusal.ReceiverRefusal.TheVariants.{StreamUnknown, OutOfMemory, MessageTooLarge, TsnTooFar, WindowFull}
pub use Rattle.sctp_receiver.specs.declared.receiver.refusal.ReceiverRefusal.TheVariants.{TsnOpposite, SsnTooFar, NamedStreamUnknown, NamedSsnTooFar}
pub use Rattle.sctp_serial.proofs.lemmas.AscendingEdits.{distance_rest, before_farther, same_distance, distance_self, not_before_nearer}
pub use Rattle.sctp_receiver.specs.Limits.{cost_of, cost_within, held_cost, refusal_by, chunk_cost}
pub use Rattle.std.specs.Option.{option_or}
pub use Rattle.sctp_reassembly.specs.reassembly_queue.Orders.{digits, IsOrderly}
pub use Rattle.sctp_reassembly.specs.reassembly_queue.Counts.{set_chunks}
pub use Rattle.sctp_reassembly.specs.reassembly_queue.Fragments.{is_complete, sets_with, has_ssn, with_chunk, new_set, set_before}
pub use Rattle.sctp_receiver.specs.SkipCosts.{settle_walk, unordered_skips_walk, incomplete_skips_walk, visit_walk}
pub use Rattle.sctp_receiver.specs.declared.receiver.arrival.Arrival.{Arrival}
pub use Rattle.sctp_reassembly.proofs.lemmas.reassembly_queue.Digits.{within_digits}
pub use Rattle.sctp_receiver.specs.declared.receiver.intake.ChunkUndo.{ChunkUndo}
pub use Rattle.sctp_receiver.specs.Ssns.{is_ssn_too_far, lowest_ssn}
pub use Rattle.sctp_reassembly.specs.reassembly_queue.Resets.{is_old_message, held_after_reset}
pub use Rattle.sctp_receiver.specs.declared.receiver.visit.Skip.{Skip}
pub use Rattle.sctp_receiver.specs.declared.receiver.visit.Skip.TheVariants.{Unassembled, Incomplete}
pub use Rattle.sctp_reassembly.specs.declared.reassembly_queue.ordered_skips.OrderedSkips.{OrderedSkips}
pub use Rattle.std.specs.VecDeque.{deque_len, deque_capacity}
pub use Rattle.sctp_reassembly.proofs.lemmas.reassembly_queue.ByteCounts.{incomplete_agrees}
pub use Rattle.sctp_util.proofs.Distances.{before_is, comes_before_from, distance_cases}
pub use Rattle.std.proofs.lemmas.List.Folds.{list_all-append, find-append}
pub use Rattle.sctp_receiver.specs.declared.receiver.tsn_filter.undo.FilterUndo.TheVariants.{Beyond, Next}
pub use Rattle.sctp_receiver.specs.Credit.{AfterEachLimitedRun}
pub use Rattle.sctp_reassembly.specs.declared.reassembly_queue.undo.PushUndo.{PushUndo}
pub use Rattle.sctp_data.specs.SelectiveAck.{Sack, sack_of}
pub use Rattle.sctp_receiver.specs.Duplicates.{AfterEachRunWithRepeats}
pub use Rattle.sctp_reassembly.specs.reassembly_queue.OrderedSkips.{after_noted}
