-- The names that most of these proofs cite, passed on from one place. Declares nothing.
pub use Rattle.std.proofs.Common.{◌≡◌, sym, ◌∙◌, ap, length, ◌+◌, arith, List, ℕ, subst, ◌≤◌, ◌<◌, true, get_or, false, refl, [], ◌∷◌, take, suc, Some, None}
pub use Rattle.std.proofs.Common.{drop, Bool, ◌++◌, ◌-◌, Option, zero, map, inr, inl, ◌^◌, rules, ◌%◌, set, ◌*◌, length-append, Result, slice_get, Ok, Err, ◌≢◌}
pub use Rattle.std.proofs.Common.{length-drop, append_assoc, length-set, ◌/◌}
pub use Rattle.sctp_data.specs.declared.chunk.chunk_payload_data.ChunkPayloadData.{ChunkPayloadData}
pub use Rattle.sctp_sender.specs.Flight.{Flight, IsContiguous, is_outdated, sack_refusal, tsns_from, released_of, reports, reports_anew, can_resend}
pub use Rattle.sctp_sender.specs.Flight.{count_acked, with_queue, after_sack, is_outstanding_in, take_sack, may_send, has_tail_at, released_by, is_within}
pub use Rattle.sctp_sender.specs.Flight.{after_abandonment, message_to_abandon, resent, is_whole, is_half}
pub use Rattle.std.specs.Prelude.{if◌then◌else◌, ◌&&◌, not, find, ◌||◌, nat_lt, is_some, ◌==◌, IfSome, nat_le, option_map, slice_index_or, OnOk, ◌⊎◌}
pub use Rattle.std.specs.Prelude.{vec_capacity, IsOk, OnErr, IfOk, min, max, option_to_list, MatchOption, nat_eq, cond, IfErr}
pub use Rattle.sctp_data.specs.declared.chunk.chunk_selective_ack.GapAckBlock.{GapAckBlock}
pub use Rattle.std.specs.List.{list_any, filter, All, count_by, list_all, sum_by}
pub use Rattle.sctp_outbound.specs.outbound_queue.OutboundQueue.{Outbound, with_inflight, total_bytes, all_started, as_sent, sent_next, sent_of}
pub use Rattle.sctp_outbound.specs.outbound_queue.OutboundQueue.{with_terminal_chunk, abandoned_of, terminal_chunk, expired_of, to_abandon, expiring}
pub use Rattle.sctp_outbound.specs.outbound_queue.OutboundQueue.{message_of, with_message, has_tail, append_chunks, with_message_id, expiring_tail, is_late}
pub use Rattle.std.proofs.lemmas.Bool.Decides.{nat_tests}
pub use Rattle.sctp_serial.specs.DataChunks.{has_tsn, following_tsn, tsns, chunk_before, bytes_of, is_on}
pub use Rattle.sctp_util.specs.Lists.{change_where, insert_before, change_at}
pub use Rattle.sctp_outbound.specs.payload_queue.Blocks.{is_in_blocks, is_in_block}
pub use Rattle.std.proofs.lemmas.Option.{none-some, slice_get-get_or}
pub use Rattle.std.proofs.lemmas.Bool.{false≢true, cases_lt, eq-eqb, ne_eqb, cases_eq}
pub use Rattle.sctp_sender.specs.Reporting.{AreKnown, ascends_from, AreSorted, after_blocks, after_block, goes_from_to, HasEnds}
pub use Rattle.sctp_data.specs.SelectiveAck.{Sack, sack_of}
pub use Rattle.sctp_sender.specs.Totals.{IsAllSettled, AreSettled, bytes_in}
pub use Rattle.std.proofs.lemmas.List.{get_or_default, length-map, take-append-drop, get_or-map, take_more, append-nil, drop_more, get_or-drop, get_or_past}
pub use Rattle.std.proofs.lemmas.List.{map-append, length_push, get_or_append_left, length-take-le, take_all, drop_all}
pub use Rattle.sctp_sender.specs.Keeping.{IsCovered, AreReported, with_restored, Cover, restored, back_each, is_at, placed, answered_back, bytes_back, tells_of}
pub use Rattle.sctp_sender.specs.Keeping.{answered_of_placed, return_at, after_returns, kept_after, put_all, bytes_coming, put_back, IsOwn, with_reported_again}
pub use Rattle.sctp_sender.specs.Keeping.{blocks_left, is_uncovered, restored_with, places_kept, returns_at, rises_from, filled, keep_each, kept_from, trimmed}
pub use Rattle.sctp_sender.specs.Keeping.{reported_again, can_come_back, takes_back, data_after, ArePassed, can_at, blocks_after, keep, HaveOwnTsns}
pub use Rattle.sctp_sender.specs.Keeping.{as_reported}
pub use Rattle.sctp_sender.specs.Sender.{Transmission, take_back_refusal, taken_back_by, with_streams, back_by, after_take_back, is_open, after_acked}
pub use Rattle.sctp_sender.specs.Sender.{with_flight, or_full, write_refusal, after_abandon}
pub use Rattle.sctp_sender.specs.declared.sender.flight.Released.{Released}
pub use Rattle.sctp_sender.specs.declared.sender.flight.returns.PlacedData.{PlacedData}
pub use Rattle.sctp_util.specs.Serial.{distance, comes_before, at_or_before}
pub use Rattle.sctp_stream.specs.declared.outbound_stream.OutboundStream.{OutboundStream}
pub use Rattle.sctp_util.proofs.Cases.{or-left, or-right, or-none, same-is, and-none, same-yes, and-true, some-same, negated, by_last, or-split}
pub use Rattle.sctp_sender.specs.SideBySide.{messages_of, StandSideBySide, is_number, number_of_half, IsApartAt, messages_in_line}
pub use Rattle.sctp_outbound.specs.Marks.{as_acknowledged, as_abandoned, is_of, with_retransmit, is_outstanding, as_taken_back, with_nsent, IsBetween}
pub use Rattle.sctp_sender.specs.Outgoing.{number, with_reliability, after_releases, fragments_with_mode, has_number, numbers_of, with_size, after_expiries}
pub use Rattle.sctp_sender.specs.Outgoing.{less_by}
pub use Rattle.sctp_outbound.specs.pending_queue.PendingQueue.{next_pending, last_removed, Pending, start_pending, is_to_start, with_deadline, without}
pub use Rattle.sctp_outbound.specs.pending_queue.PendingQueue.{closed_up, list_to_pop, last_of, front_of, list_of, one_lower, next_pending_of, rest_from}
pub use Rattle.sctp_outbound.specs.pending_queue.PendingQueue.{rest_of}
pub use Rattle.sctp_util.proofs.Edits.{list_any-append, length-change_where, those-more, change_where-only, those-append, list_any-those, OnlyAt}
pub use Rattle.sctp_util.proofs.More.{not_both, fails, and, both, length-changed}
pub use Rattle.sctp_sender.specs.declared.sender.flight.kept.TakenBack.{TakenBack}
pub use Rattle.sctp_stream.proofs.StreamPlaces.{inside, absent-change, changed, numbers-stay, absent-find, found}
pub use Rattle.sctp_sender.specs.Abandonment.{Name, is_named, advanced_ack_point, ahead, IsFirstPair, IsNoPair, IsLastEnd, is_pair_of, pair_of, IsMore}
pub use Rattle.sctp_sender.specs.Abandonment.{can_skip_to, is_kept}
pub use Rattle.sctp_sender.specs.declared.sender.refusal.SenderRefusal.{SenderRefusal}
pub use Rattle.sctp_data.specs.declared.chunk.chunk_forward_tsn.ChunkForwardTsnStream.{ChunkForwardTsnStream}
pub use Rattle.sctp_sender.specs.Resending.{can_miss, missed, AreUnmarked, is_worn, is_to_resend, resent_at, after_misses, all_marked, are_listed, worn_tsns}
pub use Rattle.sctp_sender.specs.Resending.{is_third, sent_again}
pub use Rattle.std.proofs.lemmas.List.Sums.{sum_by-cons, sum_by-append, length-filter, count_by_more_yes}
pub use Rattle.sctp_sender.specs.Telling.{no_message, is_answered, is_open_of, is_reached, AreInFlight, PicksAnew, judged, is_of_chunk, PicksOpen, is_closed}
pub use Rattle.sctp_outbound.specs.pending_queue.Whole.{partially_sent, IsSendable, ends, waits, IsMessageOrNone}
pub use Rattle.sctp_sender.specs.declared.sender.flight.kept.Kept.{Kept}
pub use Rattle.sctp_sender.specs.declared.sender.flight.late.AbandonedMessage.{AbandonedMessage}
pub use Rattle.sctp_sender.specs.Costs.{PicksLeftOut, to_sort, sack_turns, is_left_out, take_back_turns, unknown_from, keeping_turns, distances_in, anew_turns}
pub use Rattle.sctp_sender.specs.Costs.{chunks_of}
pub use Rattle.sctp_sender.specs.Thresholds.{with_lows, with_message_lows, falls_in, falls_on, tells_message_low}
pub use Rattle.sctp_sender.specs.Late.{abandoned_at, leaving_each, abandoned_each, after_leaving, with_tail, late_order, tail_first}
pub use Rattle.sctp_data.specs.declared.chunk.chunk_payload_data.PayloadProtocolIdentifier.{PayloadProtocolIdentifier}
pub use Rattle.sctp_stream.specs.Stream.{fragment_at, fragments_of, pieces_of, new_stream}
pub use Rattle.sctp_stream.specs.Numbers.{IsAbsent, IsOnlyPlace}
pub use Rattle.sctp_sender.specs.declared.sender.refusal.SenderRefusal.TheVariants.{QueueFull, InflightQueueTsnPop, TsnRequestNotExist, OutOfMemory}
pub use Rattle.sctp_sender.specs.declared.sender.flight.anew.Anew.{Anew}
pub use Rattle.sctp_outbound.proofs.lemmas.outbound_queue.Abandoned.{last_removed_none}
pub use Rattle.sctp_util.proofs.Getting.{map-twice}
pub use Rattle.sctp_sender.specs.Numbers.{is_ordered_on}
pub use Rattle.std.proofs.lemmas.Grind.{common_steps}
pub use Rattle.std.specs.VecDeque.{deque_capacity}
pub use Rattle.std.proofs.lemmas.List.Folds.{list_any_none}
pub use Rattle.sctp_util.specs.Kept.{numbers_from}
pub use Rattle.sctp_outbound.specs.payload_queue.PayloadQueue.{without_front, past}
pub use Rattle.sctp_data.specs.ChunkSet.{fresh}
pub use Rattle.sctp_outbound.proofs.lemmas.outbound_queue.Sendable.{sendable-changed, sendable-sent, found_in, partial_gone, partial_in_front}
pub use Rattle.sctp_outbound.proofs.lemmas.pending_queue.Waiting.{bytes_of-change_where}
pub use Rattle.sctp_outbound.proofs.lemmas.pending_queue.CompleteMessages.{KeepsMessage}
pub use Rattle.sctp_outbound.proofs.lemmas.outbound_queue.Outbounds.{peeked_all_started}
pub use Rattle.sctp_sender.specs.Settings.{is_drained}
pub use Rattle.std.proofs.lemmas.List.Edits.{map_over_more}
