-- The names that most of these proofs cite, passed on from one place. Declares nothing.
pub use Rattle.std.proofs.Common.{◌≡◌, ℕ, refl, arith, true, length, ap, false, ◌∙◌, ◌<◌, Bool, [], ◌∷◌, sym, ◌+◌, List, Some, ◌≤◌, map, ◌-◌, None, Option}
pub use Rattle.std.proofs.Common.{◌++◌, suc, ◌^◌, zero, inl, inr, ◌%◌, get_or, length-append, drop, take, append-nil, add-one, zero-add, append_assoc, ◌*◌, ◌/◌}
pub use Rattle.std.proofs.lemmas.Bool.Decides.{nat_tests}
pub use Rattle.sctp_model.specs.LinkRecord.{LinkRecord, Setup, StreamRecord, Sack, Message, Datagram, Forward, Data, Slot, Report, start}
pub use Rattle.std.specs.Prelude.{if◌then◌else◌, ◌==◌, ◌&&◌, not, nat_lt, ◌||◌, ◌⊎◌, nat_le, slice_get, slice_index_or, max, find, fold, is_some, min, codes}
pub use Rattle.std.specs.Prelude.{unwrap_or, option_to_list, option_map, ◌↔◌, is_none, IfSome, All, Result, Ok}
pub use Rattle.sctp_util.specs.Kept.{numbers_where, always, numbers_from, first_of, total_over, or_else, leading, runs_of, unbroken, put_before_runs}
pub use Rattle.sctp_model.specs.Messages.{message_at, message_of, is_ordered_on, stream_of, tsn_of, fragment_count, slot_at, sent_of, index_of}
pub use Rattle.sctp_model.specs.Messages.{is_partially_sent, ssn_of, no_message, has_fragment, messages_where, is_unordered_on, stream_at, front, no_slot}
pub use Rattle.sctp_model.specs.Messages.{ordered_before, place_of, is_in_flight, ordered_on, slots_of, is_past_deadline, is_unsent, is_open, slots_where}
pub use Rattle.sctp_model.specs.Messages.{no_stream, deadline_from, fragment_at, deadline_of}
pub use Rattle.sctp_model.specs.Steps.{record_of, History, IsRun, after, refusal_of, reply_to, sent_reply, IsRight, unless, fragments_accepted, expired_reply}
pub use Rattle.sctp_model.specs.Steps.{arrival_fits, tail_reply, takes_memory, read_reply, can_name, can_resend, fragments_in, may_want_memory, adds_to_span}
pub use Rattle.sctp_model.specs.Steps.{is_ended, Answers, is_for_receiver}
pub use Rattle.std.proofs.Math.Path.{subst, fun_ext}
pub use Rattle.sctp_util.proofs.More.{both, fails, not_both, and, length-changed, changed-keeps, kept-short, changed-same, changed-other, length-kept-positive}
pub use Rattle.sctp_util.proofs.More.{same_test, length-kept-one_more, those-kept}
pub use Rattle.sctp_util.proofs.Passing.{kept-same, map-kept-same, kept-none, front-kept, kept-snoc_in, FrontOf, length-kept-le, length-kept-lt, kept-snoc}
pub use Rattle.sctp_util.proofs.Passing.{kept-skip, map-kept-inserted, kept-snoc_out, unbroken-le, length-kept-mono, unbroken-same, IsFront, unbroken-passes}
pub use Rattle.sctp_util.proofs.Passing.{unbroken-on, unbroken-stops}
pub use Rattle.std.proofs.lemmas.Bool.{cases_lt, lt-ltb, le-ltb}
pub use Rattle.sctp_data.specs.declared.chunk.chunk_payload_data.ChunkPayloadData.{ChunkPayloadData}
pub use Rattle.sctp_model.specs.Laws.{IsSetup, OnEveryRun, shown_of, loses_nothing, mode_of, IsReadWholly, fragment_arrived, arrivals_on, was_lost, has_loss_on}
pub use Rattle.sctp_model.specs.Laws.{ordered_run, complete_unordered, ordered_shown, unordered_shown, ordered_reads, unordered_reads, data_length}
pub use Rattle.sctp_model.specs.Laws.{packet_length, next_fragment, kind_of, unsent_past_deadline, partially_sent_past_deadline, late_slots_by_events}
pub use Rattle.sctp_model.specs.Laws.{AllDifferent, ReadsShowMessages, EachSendEmits, SlotsAreValid, ArrivalsAgree, OrderedReads, UnorderedReads}
pub use Rattle.sctp_model.specs.Laws.{NothingWhenExhausted, OnlyArrivedIsAcknowledged, BytesBalance, LifetimesEnd, DatagramsKeepLimit, CountersCount}
pub use Rattle.sctp_model.specs.Laws.{Composition, RecordsAreValid, Headline, Beside, ReliableDelivery, PartialDelivery, ReadsAreSettled, ReadsByArrivals}
pub use Rattle.sctp_model.specs.Laws.{NoneIsLost, messages_on, arrived_wholly, is_passed_over, has_expired, is_ordered, StartsOnce, LateAbandonsListed}
pub use Rattle.sctp_model.specs.Laws.{WithinLimit, FilledToLimit, MessagesAreWrites, NoTerminalChunkIsSent, DatagramsStay, pending_count, EmitsWherePending}
pub use Rattle.sctp_model.specs.Laws.{TakesPending, IdleIsAnswered, NetworkIsMade, ModesAreKept, SlotsInOrder, SlotsFollow, OnePartiallySent, SentInTurn}
pub use Rattle.sctp_model.specs.Laws.{IndexesLeaveNoGap, DeadlinesByEvents, ExpiresPastDeadline, TailAbandonsPastDeadline, LateListsPastDeadline, answered_of}
pub use Rattle.sctp_model.specs.Laws.{is_this, is_late_in, AcknowledgedArrived, AcknowledgedIsReported, SacksSay, blocks_by, SumsAgree, Balances, SpansFit}
pub use Rattle.sctp_model.specs.Laws.{NamedIsNamed, ReadsBeginRun, ReadsBeginCompleteRun, ReadsBeginComplete, UnorderedFirst, NothingWhereRead, ReadsDiffer}
pub use Rattle.sctp_model.specs.Laws.{CountersAreSums, ArrivedIsNew, CumulativeIsSeen, ArrivalsAnswered, CompletenessAgrees}
pub use Rattle.sctp_model.specs.declared.event.Event.{Event}
pub use Rattle.std.specs.List.{list_any, filter, list_all, flat_map}
pub use Rattle.sctp_util.proofs.Cases.{same-yes, same-is, by_same, or-right, negated, and-none, by_last, or-split, or-none, and-true, or-left, some-same}
pub use Rattle.sctp_outbound.specs.outbound_queue.OutboundQueue.{Outbound, total_bytes, all_started, expiring_tail, after_sends, expired_of, to_abandon}
pub use Rattle.sctp_outbound.specs.outbound_queue.OutboundQueue.{abandoned_of, late_tsns, sent_peeked, with_inflight, taken_of, passing, tsn_after_of, has_tail}
pub use Rattle.sctp_model.specs.Contents.{chunk_at, DataContents, SackContents, datagram, contents_of, Contents, contents_in, data_fields, cumulative_tsn}
pub use Rattle.sctp_model.specs.Contents.{ForwardContents, name_of}
pub use Rattle.sctp_model.specs.refinement.Refines.{RefinesOutbound, waiting_at, waiting_of, waiting_where, sending_at, selected_of, RefinesPending, sending_of}
pub use Rattle.sctp_model.specs.refinement.Refines.{waits_ordered, waits_unordered, sendings_of, Sending, sending_by, IsInFlight}
pub use Rattle.sctp_model.specs.Receiver.{arrived_at, next_of, cumulative, is_new, is_complete_message, is_held, next_read, arrived_of, is_unread, greatest}
pub use Rattle.sctp_model.specs.Receiver.{has_arrived, fits, held_on, spans_fit, least, run_of}
pub use Rattle.sctp_model.specs.Valid.{Valid, IsSpan, ValidUnassembled, IsLaid, IsValid, AllFragments}
pub use Rattle.sctp_util.specs.Lists.{pieces, change_at, insert_before, change_where, after_leading, advance_over, each_numbered}
pub use Rattle.sctp_model.specs.Log.{LogEntry, log_of, SlotReceived, SkipReceived, Shown, writes_in, SackMade, modes_in, is_skipped, Made, made_in, taken_in}
pub use Rattle.sctp_model.specs.Log.{is_acknowledged_in, numbers_read, named_by, Mode, writes_on, MadeData, made_by, started_in, is_past_deadline_by_events}
pub use Rattle.sctp_model.specs.Log.{joined_bytes, total_shown, number_read, reads_in, arrived_new, were_complete, is_complete_by, run_by, complete_by}
pub use Rattle.sctp_model.specs.Log.{written_on, seen_count, MadeForward, MadeSack, moment_of, place_in, mode_in, has_lifetime, is_over, is_seen, reported_by}
pub use Rattle.sctp_model.specs.Log.{length_shown, released_by, released_in, shown_on, counted_shown, counted_length, datagram_comes, slots_come}
pub use Rattle.sctp_model.specs.Queues.{set_of, complete_set_of, is_unassembled, filter_of, handed_out, pending_fragments, is_cleared, pending_of, in_flight_of}
pub use Rattle.sctp_model.specs.Queues.{pending_at, PendingFragment, InFlightChunk, reassembly_of}
pub use Rattle.sctp_util.proofs.Getting.{length-mapped, get-snoc_old, get-snoc_new, numbered-at, length-numbered, get-numbered, get-beyond, get-last, get-map}
pub use Rattle.sctp_util.proofs.Getting.{map-twice, map-at, get-changed, slice-front, get-snoc}
pub use Rattle.sctp_data.specs.declared.chunk.chunk_payload_data.PayloadProtocolIdentifier.{PayloadProtocolIdentifier}
pub use Rattle.sctp_model.specs.Changes.{receive_slot, with_slot, read_of, after_abandon, message_changed, after_start, after_reading, stream_changed}
pub use Rattle.sctp_model.specs.Changes.{with_complete, becomes_complete, mark_abandoned, expiring, front_if, message_on, mark_read, after_write, after_acked}
pub use Rattle.sctp_model.specs.Changes.{after_expire, tailing, after_tail, start_lifetime, send_fragment, send_fragment_of, chunk_length, mark_arrived}
pub use Rattle.sctp_model.specs.Changes.{receive_skip, acknowledged_by, mark_expired, late_slots, skip_counts}
pub use Rattle.sctp_model.specs.Reply.{Reply}
pub use Rattle.sctp_model.specs.refinement.Holds.{unassembled_chunks, ordered_sets, complete_sets, has_come, seen_of, chunks_come}
pub use Rattle.sctp_util.proofs.Totals.{total-kept_same, length-numbers, total-append, total-plus, total-where, total-one, total-none, total-at, total-le}
pub use Rattle.sctp_util.proofs.Totals.{total-split, numbers-append, length-gathered, total-wider, total-map}
pub use Rattle.sctp_data.specs.ChunkSet.{ChunkSet, fresh}
pub use Rattle.std.proofs.lemmas.List.{map-append, get_or-map, length-drop}
pub use Rattle.sctp_model.specs.Amounts.{in_all, is_expired_or_abandoned, growth, written_bytes, pending_bytes, in_flight_bytes, released_bytes, unsent_bytes}
pub use Rattle.sctp_model.specs.Amounts.{Counters, saturate, Ledger, ledger, buffered_amount, counters_of}
pub use Rattle.sctp_outbound.specs.pending_queue.PendingQueue.{next_pending, Pending, without}
pub use Rattle.std.proofs.Math.Nat.{eq-or-lt_of_le}
pub use Rattle.std.proofs.lemmas.Grind.{common_steps}
pub use Rattle.sctp_serial.specs.DataChunks.{has_tsn, chunk_before, following_tsn, bytes_of, under_tsn, tsns}
pub use Rattle.sctp_reassembly.specs.reassembly_queue.ReassemblyQueue.{Reassembly, held_after_ordered_skip, held_after_ordered_skips, message_read}
pub use Rattle.sctp_reassembly.specs.reassembly_queue.ReassemblyQueue.{without_first, after_read, is_too_large, held_after_unordered_skip, set_of_run}
pub use Rattle.sctp_reassembly.specs.reassembly_queue.ReassemblyQueue.{BecomesComplete, held_after_ordered_push}
pub use Rattle.sctp_util.proofs.Tests.{all-more, all-out, any-append, FirstOf, first-kept, any-in, any-out, among-kept}
pub use Rattle.sctp_model.specs.Reports.{reports, report_of, distances, gap_blocks}
pub use Rattle.sctp_model.specs.refinement.Counts.{is_write, is_read, counters_on}
pub use Rattle.sctp_model.specs.declared.event.LinkRefusal.TheVariants.{StreamUnknown, NotInFlight, MessageTooLarge, TsnsUsedUp, NoSuchDatagram, SpanTooWide}
pub use Rattle.sctp_data.specs.declared.chunk.chunk_payload_data.ReliabilityType.{ReliabilityType}
pub use Rattle.sctp_data.specs.PayloadTypes.{is_dcep}
pub use Rattle.sctp_model.specs.refinement.Amount.{amount, held_bytes, stream_of_slot, bytes_at, acknowledged_at, keeps_amounts, bytes_but_for}
pub use Rattle.sctp_model.specs.refinement.Amount.{acknowledged_then}
pub use Rattle.sctp_util.proofs.Rows.{numbered, IsRow, row, at-most-one}
pub use Rattle.sctp_data.specs.Reliability.{is_past, is_timed}
pub use Rattle.sctp_util.proofs.Places.{length-dropped, kept-get, kept-place, leading-le, leading-is, get-drop, leading-passes, leading-stops}
pub use Rattle.std.proofs.lemmas.List.Sums.{sum_by-cons, fold-append}
pub use Rattle.sctp_model.specs.refinement.Naming.{lowest_held, highest_held, on_stream, end_named, low_named, complete_first, min_with, names_fit}
pub use Rattle.sctp_util.proofs.Alls.{all-kept, all-at, all-same, all-append}
pub use Rattle.sctp_model.specs.declared.event.LinkRefusal.{LinkRefusal}
pub use Rattle.sctp_util.proofs.Round.{comes_before-tsn, tsn_differ, tsn_same, tsn}
pub use Rattle.sctp_outbound.specs.declared.pending_queue.Selected.{Selected}
pub use Rattle.sctp_util.proofs.Wraps.{same16-index, at_or_before16-index, at_or_before-tsn}
pub use Rattle.sctp_util.specs.Serial.{comes_before, at_or_before}
pub use Rattle.sctp_reassembly.specs.reassembly_queue.Fragments.{is_complete, has_ssn}
pub use Rattle.sctp_serial.specs.Runs.{IsEarliestRun, HasNoRun}
pub use Rattle.sctp_data.specs.PayloadData.{data_of}
pub use Rattle.sctp_model.specs.refinement.Filling.{further, chunks_taken}
pub use Rattle.sctp_data.specs.declared.chunk.chunk_payload_data.PayloadProtocolIdentifier.TheVariants.{Dcep, String, Binary, StringEmpty, BinaryEmpty, Unknown}
pub use Rattle.sctp_outbound.specs.payload_queue.Blocks.{gap_offsets}
pub use Rattle.sctp_outbound.specs.Marks.{is_of}
pub use Rattle.sctp_util.proofs.Edits.{those-append}
pub use Rattle.sctp_outbound.specs.pending_queue.Whole.{waits}
pub use Rattle.sctp_model.specs.refinement.InTurn.{message_of_tsn, abandoned_tsn}
