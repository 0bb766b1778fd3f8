-- The names that most of these proofs cite, passed on from one place. Declares nothing.
pub use Rattle.std.proofs.Common.{◌≡◌, true, ℕ, List, ◌∷◌, arith, [], refl, sym, ◌∙◌, ap, subst, false, Bool, ◌+◌, ◌<◌, length, Some, ◌^◌, Option, None, ◌≤◌}
pub use Rattle.std.proofs.Common.{inl, inr, ◌++◌, suc, ◌%◌, not, zero, ◌-◌, map, take, drop, is_some, Result, Ok, Err, get_or, ap₂, length-append, slice_get}
pub use Rattle.std.proofs.Common.{length-drop}
pub use Rattle.sctp_data.specs.declared.chunk.chunk_payload_data.ChunkPayloadData.{ChunkPayloadData}
pub use Rattle.std.proofs.lemmas.Bool.Decides.{nat_tests}
pub use Rattle.std.specs.Prelude.{if◌then◌else◌, ◌==◌, ◌&&◌, ◌||◌, ⊤, nat_le, All, option_map, Contains, find, ◌⊎◌, nat_lt, slice_index_or, IfOk, IfSome}
pub use Rattle.std.specs.Prelude.{nat_eq, IsOk, AllPairs, option_to_list, min, IfErr}
pub use Rattle.sctp_util.proofs.More.{not_both, both, and, fails, same_test}
pub use Rattle.std.specs.List.{list_any, filter, list_all, sum_by}
pub use Rattle.sctp_util.proofs.Cases.{same-is, same-yes, or-left, or-right, or-split, some-same, negated, and-none, by_same, and-true}
pub use Rattle.sctp_delivery.specs.Session.{Session, at_start, SenderFollows, ReceiverFollows, of_receiver, of_sender, Call, RunsTo, Follows, AreMade}
pub use Rattle.sctp_delivery.specs.Session.{AreMessages, IsReported, IsAccounted, bytes_written}
pub use Rattle.sctp_serial.specs.DataChunks.{has_tsn, is_on, chunk_before, following_tsn, bytes_of, preceding_tsn, tsns}
pub use Rattle.sctp_util.specs.Lists.{change_where, insert_before, advance_over, pieces, Seen, after_leading, change_first}
pub use Rattle.sctp_util.proofs.Round.{tsn, distance-tsn, distance-tsn_back}
pub use Rattle.sctp_data.specs.PayloadData.{data_of, Data}
pub use Rattle.std.proofs.lemmas.Bool.{cases_lt, eq-eqb}
pub use Rattle.std.proofs.lemmas.Option.{none-some}
pub use Rattle.sctp_delivery.specs.SenderCalls.{SenderCall, Made, data_chunk, forward_tsn, made_after, takes_sack, IsAccepted, writes, MakesExactly, sends}
pub use Rattle.sctp_delivery.specs.SenderCalls.{Write, written_after, as_run, with_chunk, forwards, resends, next_chunk, Expires, abandons, expires}
pub use Rattle.sctp_delivery.specs.SenderCalls.{expires_late, expires_rexmit, expires_tail, forwards_within, opens, sets_low, sets_mode, sets_size, starts}
pub use Rattle.sctp_delivery.specs.SenderCalls.{marks, reserves, SenderMakes, ExpiresTail, Answers}
pub use Rattle.sctp_sender.specs.Sender.{Transmission, after_expire, written_to, with_flight, after_acked, after_abandon, write_refusal}
pub use Rattle.sctp_receiver.specs.Receiver.{Reception, stream_of, is_open, filter_of, follow_forward_tsn, is_stale, sack_of_entries, message_on, Accepts}
pub use Rattle.sctp_receiver.specs.Receiver.{arrival_refusal, max_sack_entries, sack_entries, forward_refusal, new_refusal, with_filter, window}
pub use Rattle.std.proofs.lemmas.Grind.{common_steps}
pub use Rattle.sctp_sender.specs.Flight.{Flight, message_to_abandon, after_sack, is_outdated, take_sack, released_by, reports_anew, after_abandonment}
pub use Rattle.sctp_sender.specs.Flight.{next_after_send, reports, with_room, can_resend, is_outstanding_in, released_of, tsns_from, is_whole, sack_refusal}
pub use Rattle.sctp_outbound.specs.pending_queue.PendingQueue.{next_pending, Pending, last_of, with_deadline, list_to_pop, without_message, one_lower}
pub use Rattle.sctp_outbound.specs.pending_queue.PendingQueue.{rest_from, without, chunk_count, last_removed, rest_after, is_to_start, start_pending, list_of}
pub use Rattle.sctp_outbound.specs.pending_queue.PendingQueue.{closed_up, chunk_to_pop_from, selected_after, front_of, next_pending_of}
pub use Rattle.sctp_data.specs.SelectiveAck.{Sack, sack_of}
pub use Rattle.sctp_stream.specs.declared.outbound_stream.OutboundStream.{OutboundStream}
pub use Rattle.sctp_outbound.specs.outbound_queue.OutboundQueue.{Outbound, all_started, as_sent, expired_of, with_message, abandoned_of, sent_of, sent_next}
pub use Rattle.sctp_outbound.specs.outbound_queue.OutboundQueue.{with_message_id, expiring_tail, message_of, terminal_chunk, with_inflight, expiring}
pub use Rattle.sctp_outbound.specs.outbound_queue.OutboundQueue.{total_bytes, with_terminal_chunk, is_expired, passing, append_chunks, late_tsns}
pub use Rattle.sctp_outbound.specs.outbound_queue.OutboundQueue.{is_expired_tail, tsn_after_of, to_abandon, is_late, abandon_chunks}
pub use Rattle.sctp_util.specs.Serial.{distance, at_or_before, comes_before, at_or_before16, comes_before16, distance16}
pub use Rattle.sctp_delivery.specs.ReceiverCalls.{ReceiverCall, reads, reports_after, is_reporting, takes, follows}
pub use Rattle.sctp_data.specs.ChunkSet.{ChunkSet}
pub use Rattle.sctp_receiver.specs.declared.receiver.limits.Limits.{Limits}
pub use Rattle.sctp_delivery.specs.Sacks.{was_taken, tsns_given, passes, was_passed, are_apart, reports_tsn, AfterEachSessionOfFewTsns, EachSackTells}
pub use Rattle.sctp_delivery.specs.Sacks.{NoneIsTakenTwice, is_reported, NextSackTells, AllReportedLeaves, NoneIsRefused, PassAbandoned, StaysAcknowledged}
pub use Rattle.sctp_delivery.specs.Sacks.{AcknowledgedCame}
pub use Rattle.sctp_receiver.specs.declared.receiver.inbound_streams.InboundStream.{InboundStream}
pub use Rattle.sctp_reassembly.specs.reassembly_queue.ReassemblyQueue.{Reassembly, ReassemblyState, message_read, front_readable, BecomesComplete, rest_read}
pub use Rattle.sctp_reassembly.specs.reassembly_queue.ReassemblyQueue.{set_of_run, held_after_ordered_skip, is_readable, held_after_ordered_push, after_read}
pub use Rattle.sctp_reassembly.specs.reassembly_queue.ReassemblyQueue.{is_passed, held_after_unordered_skip, rest_among, held_chunks, without_first}
pub use Rattle.sctp_reassembly.specs.reassembly_queue.ReassemblyQueue.{after_ordered_push}
pub use Rattle.sctp_data.specs.declared.chunk.chunk_payload_data.PayloadProtocolIdentifier.{PayloadProtocolIdentifier}
pub use Rattle.sctp_sender.specs.Outgoing.{fragments_with_mode, has_number, less_by, wrote, after_releases, with_size, with_reliability, with_low, with_mode}
pub use Rattle.sctp_sender.specs.Outgoing.{after_expiry}
pub use Rattle.sctp_receiver.specs.ReceiverRuns.{Message, Stand, fragments_read, is_one_message, accepted_after}
pub use Rattle.std.proofs.lemmas.List.Sums.{sum_by-cons, sum_by-append, AllPass-from_list_all}
pub use Rattle.sctp_data.specs.ForwardTsn.{ForwardTsn}
pub use Rattle.sctp_outbound.specs.Marks.{is_of, as_acknowledged, as_abandoned, is_outstanding, with_retransmit}
pub use Rattle.sctp_reassembly.specs.reassembly_queue.Fragments.{is_complete, completes, sets_with, has_ssn, new_set, set_before}
pub use Rattle.sctp_outbound.specs.declared.pending_queue.Selected.{Selected}
pub use Rattle.sctp_sender.specs.Late.{abandoned_each, late_order, worn_order, abandoned_at, leaving_each, after_leaving, abandoned_with, after_abandoning}
pub use Rattle.sctp_sender.specs.Late.{leaving_at}
pub use Rattle.sctp_sender.specs.declared.sender.flight.Released.{Released}
pub use Rattle.sctp_outbound.specs.pending_queue.Whole.{IsSendable, partially_sent, IsWhole, free, waits, begun, ends, stage_of, partial_of, GoesOn, IsMessage}
pub use Rattle.sctp_receiver.specs.declared.receiver.arrival.Arrival.TheVariants.{New, Repeat}
pub use Rattle.sctp_delivery.specs.Abandoned.{abandoned_in, abandoned_by, EachOtherIsReadOnce}
pub use Rattle.sctp_sender.specs.declared.sender.flight.late.AbandonedMessage.{AbandonedMessage}
pub use Rattle.sctp_delivery.specs.Complete.{reads_nothing, is_all_acknowledged, is_reliable, holds_nothing, fragments_of_sets, is_reliable_at_sender}
pub use Rattle.sctp_delivery.specs.Complete.{is_reliable_at_receiver, fragments_held, is_exhausted, AfterEachReliableSession, fragments_on}
pub use Rattle.sctp_delivery.specs.Messages.{WhileFewTsns, StandAt, fragments_of_all, AfterEachFitSession, NoneIsReadTwice, AreWrites, IsWrite, WhileTsnsLast}
pub use Rattle.sctp_delivery.specs.Messages.{AreWritesOfTheirOwn}
pub use Rattle.sctp_sender.proofs.Runs.{IsRunFrom, changed-run, past-is, tsn-at}
pub use Rattle.sctp_receiver.specs.Inbound.{Pushes, with_queue, new_stream, stream_read, PushesAs, unassembled_forwarded, number, ssns_of, stream_forwarded}
pub use Rattle.sctp_receiver.specs.Inbound.{skipped_each}
pub use Rattle.sctp_sender.specs.Resending.{missed, sent_again, count_again, after_misses, can_miss, resent_at, all_marked, is_worn, worn_tsns}
pub use Rattle.sctp_sender.specs.SenderRuns.{Makes, Ledger, held_by_sender, taken_back_by, written_by}
pub use Rattle.sctp_receiver.specs.TsnFilter.{has_come, with_tsn, is_opposite}
pub use Rattle.sctp_data.specs.declared.chunk.chunk_forward_tsn.ChunkForwardTsnStream.{ChunkForwardTsnStream}
pub use Rattle.sctp_receiver.proofs.Handed.{held_weight, is_orderly}
pub use Rattle.sctp_receiver.proofs.Weights.{set_weight, weight}
pub use Rattle.sctp_sender.specs.Numbers.{is_ordered_on, is_too_far, past_number, begins_ordered, first_ordered, send_refusal}
pub use Rattle.sctp_sender.proofs.Flights.{started-inflight}
pub use Rattle.sctp_util.proofs.Edits.{sum_by-inserted, list_any-append, length-change_where, list_any-those, pairs_cons, list_any-inserted}
pub use Rattle.sctp_receiver.specs.Skips.{without_incomplete, after_forward_tsn, names_too_far, skip_refusal, incomplete_forwarded, names_closed, is_ahead}
pub use Rattle.sctp_sender.specs.Abandonment.{Name, is_pair_of, named_up_to, ahead, pairs_of, skip_end, advanced_ack_point, is_named, can_skip_to, last_end}
pub use Rattle.sctp_sender.specs.Abandonment.{is_kept, ends_in, is_end}
pub use Rattle.sctp_sender.specs.declared.sender.ExpiredMessage.{ExpiredMessage}
pub use Rattle.sctp_receiver.specs.declared.receiver.refusal.ReceiverRefusal.{ReceiverRefusal}
pub use Rattle.sctp_outbound.proofs.lemmas.outbound_queue.Sendable.{made, sendable-sent, goes_on, partial_gone, or_false}
pub use Rattle.sctp_sender.proofs.Lates.{found-passes}
pub use Rattle.sctp_outbound.proofs.lemmas.pending_queue.CompleteMessages.{KeepsMessage, none_before}
pub use Rattle.sctp_sender.specs.Thresholds.{with_lows, with_message_lows}
pub use Rattle.sctp_receiver.specs.Ssns.{is_name_too_far, is_ssn_too_far, is_too_far_on, lowest_ssn, lowest_among, is_named_too_far}
pub use Rattle.sctp_stream.specs.Stream.{fragment_at, fragments_of, pieces_of}
pub use Rattle.sctp_sender.proofs.InLine.{found-partial, tail-partial}
pub use Rattle.sctp_sender.specs.declared.sender.refusal.SenderRefusal.{SenderRefusal}
pub use Rattle.sctp_delivery.specs.Rounds.{chunks_left, in_flight, flight_of, IsCaughtUp, is_first_abandoned, is_exchange, CanBeAnswered, IsAnswered, IsRound}
pub use Rattle.sctp_delivery.specs.Rounds.{Rounds}
pub use Rattle.sctp_outbound.proofs.lemmas.outbound_queue.Outbounds.{peeked_all_started}
pub use Rattle.sctp_util.specs.Kept.{always, numbers_where, runs_of, put_before_runs}
pub use Rattle.std.proofs.lemmas.List.{length-map, take-append-drop, append-nil, map-append, get_or_default, append_assoc}
pub use Rattle.std.proofs.lemmas.List.Folds.{list_all-append, list_any_at, find-append}
pub use Rattle.sctp_outbound.specs.payload_queue.PayloadQueue.{past}
pub use Rattle.sctp_delivery.specs.Ending.{chunks_waiting, has_room, takes_each_of}
pub use Rattle.sctp_reassembly.specs.reassembly_queue.Skips.{misses, cannot_complete, misses_behind, held_after_incomplete_skip}
pub use Rattle.sctp_util.proofs.Wraps.{at_or_before16-index, comes_before16-index, next16}
pub use Rattle.sctp_data.specs.PayloadTypes.{is_ordered, is_dcep}
pub use Rattle.sctp_receiver.specs.declared.receiver.refusal.ReceiverRefusal.TheVariants.{NamedStreamUnknown, NamedSsnTooFar, TsnOpposite}
pub use Rattle.sctp_delivery.specs.Refused.{MayMake, is_due_named, IsInFlight, is_takable, reads_nothing_on, AfterEachUnlimitedSession}
pub use Rattle.sctp_delivery.specs.Modes.{Mode, Sending, reliable_mode, AfterEachFitRun, numbered_in, Modes, at_first, mode_of_write, modes_after, modes_from}
pub use Rattle.sctp_delivery.specs.Modes.{starting, AfterEachRunOfFewTsns, deadline_of}
pub use Rattle.sctp_data.specs.declared.chunk.chunk_payload_data.PayloadProtocolIdentifier.TheVariants.{Unknown, Binary}
pub use Rattle.sctp_outbound.proofs.lemmas.outbound_queue.Abandoned.{last_is_of, no_last, abandoned_none, partial_waits}
pub use Rattle.sctp_delivery.specs.Amounts.{bytes_for, bytes_of_messages, bytes_of_chunks}
pub use Rattle.std.specs.Option.{option_or}
pub use Rattle.sctp_serial.specs.Runs.{IsRun, HasNoRun, IsEarliestRun}
pub use Rattle.sctp_receiver.proofs.CompleteMessages.{all_complete}
pub use Rattle.sctp_receiver.proofs.OneMessage.{is_unmixed}
pub use Rattle.sctp_outbound.specs.payload_queue.Blocks.{is_in_blocks, is_offset}
pub use Rattle.sctp_sender.specs.declared.sender.Reported.TheVariants.{Drop}
pub use Rattle.sctp_reassembly.specs.declared.reassembly_queue.chunks.Chunks.{Chunks}
pub use Rattle.sctp_delivery.specs.Order.{AreReadInOrder}
pub use Rattle.sctp_outbound.proofs.lemmas.pending_queue.Waiting.{removed_le}
pub use Rattle.sctp_receiver.specs.Limits.{cost_of}
pub use Rattle.sctp_receiver.proofs.Inbounds.{pushed-number}
pub use Rattle.sctp_delivery.specs.Discards.{CallOrDiscard, Discards, RunsWithDiscards, discards, makes}
pub use Rattle.sctp_reassembly.specs.reassembly_queue.Sizes.{size_after, size_before}
pub use Rattle.sctp_data.specs.declared.chunk.chunk_payload_data.ReliabilityType.TheVariants.{Reliable}
pub use Rattle.sctp_receiver.specs.declared.receiver.arrival.Arrival.{Arrival}
