-- The names that most of these proofs cite, passed on from one place. Declares nothing.
pub use Rattle.std.proofs.Common.{◌≡◌, ℕ, ◌+◌, ◌-◌, ◌<◌, Bool, true, false, List, [], ◌∷◌, ◌++◌, length, map, Some, None, refl, ap, sym, ◌∙◌, arith, ◌%◌, ◌^◌}
pub use Rattle.std.proofs.Common.{Option, ◌≤◌, drop, get_or, suc, length-append, zero, length-set, set, take, inl, inr, add-one, rules, Vec, Global, ◌/◌}
pub use Rattle.std.proofs.Common.{Result, Ok, Err, append_assoc, Bor, length-take, ext_get_or, set-set}
pub use Rattle.std.specs.Prelude.{if◌then◌else◌, ◌==◌, slice_get, slice_index_or, slice_set, ◌&&◌, not, is_some, find, nat_le, nat_lt, option_map, ◌||◌, max}
pub use Rattle.std.specs.Prelude.{min, reverse, ◌⊎◌, fold, option_copied, option_to_list, vec_capacity, IfSome, unwrap_or, OnErr, OnOk, IfErr, is_err, IsOk}
pub use Rattle.std.specs.Prelude.{MatchOption, is_none, is_ok}
pub use Rattle.std.proofs.Math.Path.{subst}
pub use Rattle.std.proofs.lemmas.List.{map-append, get_or-set_same, get_or-set_other, get_or_default, take-map, get_or-map, reverse-append, nil_from_length}
pub use Rattle.std.proofs.lemmas.List.{with_items_is, take_all, drop_more, append-nil, length-drop, get_or-append_right, set-append_right, length-take-le}
pub use Rattle.std.proofs.lemmas.List.{take-append-drop, drop_all}
pub use Rattle.std.specs.List.{list_all, list_any, filter, AllByRecursion, sum_by}
pub use Rattle.std.proofs.lemmas.Bool.{false≢true, lt-ltb, cases_lt, cases_eq, eq-eqb, ne_eqb, le-ltb, le-leb, lt-leb, leb-true, ltb-true}
pub use Rattle.std.proofs.lemmas.Bool.Decides.{nat_tests}
pub use Rattle.std.proofs.lemmas.Result.{err_from_is_err_and}
pub use Rattle.std.specs.Vec.{with_items, vec_len}
pub use Rattle.std.specs.VecDeque.{deque_len}
pub use Rattle.std.proofs.lemmas.Option.{slice_get_within, get_or_from_slice_get}
pub use Rattle.std.proofs.lemmas.List.Folds.{list_any_at, list_any_more}
pub use Rattle.sctp_chunks.specs.Wire.{sack_chunk, data_chunk, forward_tsn_chunk, HasEncoding, Wire}
pub use Rattle.sctp_packets.specs.Packet.{ReadsPacket, packet_encoding}
pub use Rattle.sctp_chunks.specs.Kind.{wire_of, IsFreshKind}
pub use Rattle.sctp_chunks.specs.declared.chunk.chunk_kind.ChunkKind.{ChunkKind}
pub use Rattle.sctp_chunks.specs.Fits.{Canonical}
pub use Rattle.sctp_util.specs.Lists.{change_where, change_at, pieces, advance_over, insert_before, Seen}
pub use Rattle.sctp_util.proofs.Edits.{length-change_where, or_assoc, change_where-map, change_where-only}
pub use Rattle.sctp_util.proofs.Getting.{length-mapped, length-numbered, numbered-at, map-at, map-twice, get-snoc_old, get-snoc_new, get-last}
pub use Rattle.sctp_util.proofs.Getting.{slice-front, get-beyond}
pub use Rattle.sctp_util.proofs.More.{length-changed, both, same_test, not_both, fails, and, changed-same, changed-other}
pub use Rattle.sctp_util.proofs.Cases.{or-none, or-true, and-none, by_last, same-yes, some-same, same-is, or-left, negated, and-true, by_same, or-right}
pub use Rattle.sctp_util.specs.Kept.{numbers_where, always, runs_of, total_over, numbers_from}
pub use Rattle.sctp_util.specs.Serial.{comes_before, distance, at_or_before}
pub use Rattle.sctp_util.proofs.Passing.{kept-snoc_in, front-kept, FrontOf, length-kept-le}
pub use Rattle.sctp_data.specs.declared.chunk.chunk_payload_data.ChunkPayloadData.{ChunkPayloadData}
pub use Rattle.sctp_data.specs.declared.chunk.chunk_selective_ack.GapAckBlock.{GapAckBlock}
pub use Rattle.sctp_data.specs.SelectiveAck.{Sack, sack_value, sack_of}
pub use Rattle.sctp_data.specs.ChunkSet.{ChunkSet, fresh, IsFreshData}
pub use Rattle.sctp_data.specs.ForwardTsn.{forward_tsn_of, ForwardTsn, forward_tsn_value}
pub use Rattle.sctp_data.specs.declared.chunk.chunk_selective_ack.ChunkSelectiveAck.{ChunkSelectiveAck}
pub use Rattle.sctp_data.specs.PayloadData.{data_of, data_value}
pub use Rattle.sctp_data.specs.PayloadTypes.{counted_as, is_ordered}
pub use Rattle.sctp_data.specs.declared.chunk.chunk_payload_data.PayloadProtocolIdentifier.{PayloadProtocolIdentifier}
pub use Rattle.sctp_data.specs.declared.chunk.chunk_payload_data.PayloadProtocolIdentifier.TheVariants.{Dcep, String, Binary, StringEmpty, BinaryEmpty}
pub use Rattle.sctp_data.specs.declared.chunk.chunk_payload_data.PayloadProtocolIdentifier.TheVariants.{Unknown}
pub use Rattle.sctp_data.specs.declared.chunk.chunk_payload_data.ReliabilityType.{ReliabilityType}
pub use Rattle.sctp_serial.specs.DataChunks.{has_tsn, bytes_of, tsns, following_tsn, under_tsn, chunk_before}
pub use Rattle.sctp_outbound.specs.outbound_queue.OutboundQueue.{Outbound, expired_of, total_bytes, late_tsns, to_abandon, abandoned_of, tsn_after_of}
pub use Rattle.sctp_outbound.specs.outbound_queue.OutboundQueue.{has_tail, expiring_tail, with_inflight, all_started, after_sends, sent_next, sent_peeked}
pub use Rattle.sctp_outbound.specs.outbound_queue.OutboundQueue.{with_message_id, as_sent, with_message}
pub use Rattle.sctp_outbound.specs.pending_queue.PendingQueue.{next_pending}
pub use Rattle.sctp_outbound.specs.Marks.{as_acknowledged, with_nsent}
pub use Rattle.sctp_outbound.specs.payload_queue.Blocks.{is_in_blocks, is_in_block, gap_offsets, ends_of, is_offset}
pub use Rattle.sctp_outbound.specs.payload_queue.PayloadQueue.{past, Payload}
pub use Rattle.sctp_reassembly.specs.reassembly_queue.ReassemblyQueue.{Reassembly, ReassemblyState, at_start, message_read, rest_read, state_read}
pub use Rattle.sctp_reassembly.specs.reassembly_queue.ReassemblyQueue.{is_too_large, held_after_ordered_push, BecomesComplete, PushesUnordered}
pub use Rattle.sctp_reassembly.specs.reassembly_queue.ReassemblyQueue.{after_ordered_push, after_ordered_skip, held_after_ordered_skips}
pub use Rattle.sctp_reassembly.specs.reassembly_queue.ReassemblyQueue.{held_after_unordered_skip}
pub use Rattle.sctp_reassembly.specs.reassembly_queue.Fragments.{is_complete}
pub use Rattle.sctp_stream.proofs.StreamPlaces.{map-set_same, taken-back}
pub use Rattle.sctp_stream.specs.declared.outbound_stream.OutboundStream.{OutboundStream}
pub use Rattle.sctp_stream.specs.declared.stream.DataChannelStats.{DataChannelStats}
pub use Rattle.sctp_sender.specs.Flight.{reports, reports_anew, Flight, is_within, sack_refusal, take_sack, after_sack, is_whole, released_of, released_by}
pub use Rattle.sctp_sender.specs.Flight.{message_to_abandon, after_abandonment, has_tail_at, may_send, with_queue, with_room}
pub use Rattle.sctp_sender.specs.declared.sender.refusal.SenderRefusal.TheVariants.{InflightQueueTsnPop, TsnRequestNotExist, TsnsUsedUp, OutOfMemory}
pub use Rattle.sctp_sender.specs.declared.sender.flight.Released.{Released}
pub use Rattle.sctp_sender.specs.Sender.{Transmission, with_nothing, with_flight, is_full_of, write_refusal}
pub use Rattle.sctp_sender.specs.Outgoing.{numbers_of, with_mode, fragments_with_mode, with_reliability}
pub use Rattle.sctp_sender.proofs.Flights.{started-inflight}
pub use Rattle.sctp_sender.proofs.Walks.{none-of, found-changed}
pub use Rattle.sctp_receiver.specs.Receiver.{Reception, sack, StopsAt, data_refusal, at_first, arrival_of, is_answered_complete, stream_refusal}
pub use Rattle.sctp_receiver.specs.Receiver.{forward_refusal}
pub use Rattle.sctp_receiver.specs.TsnFilter.{Filter, gap_ack_blocks, has_come, is_opposite, with_tsn, with_duplicate, skipped_to, offsets, placeholder}
pub use Rattle.sctp_receiver.specs.declared.receiver.refusal.ReceiverRefusal.{ReceiverRefusal}
pub use Rattle.sctp_link.proofs.tsns.Placeholders.{tsns-placeholder}
pub use Rattle.sctp_receiver.specs.declared.receiver.inbound_streams.InboundStream.{InboundStream}
pub use Rattle.sctp_receiver.specs.declared.receiver.arrival.Arrival.{Arrival}
pub use Rattle.sctp_receiver.specs.declared.receiver.arrival.Arrival.TheVariants.{New, Repeat}
pub use Rattle.sctp_receiver.specs.Inbound.{count_read, stream_read, Pushes, PushesAs, ssns_of, skipped_each}
pub use Rattle.sctp_receiver.specs.declared.receiver.refusal.ReceiverRefusal.TheVariants.{TsnOpposite, MessageTooLarge}
pub use Rattle.sctp_link.specs.Progress.{Standing, with_expiry, with_read, after_one, after_each, with_named}
pub use Rattle.sctp_model.specs.declared.event.Event.{Event}
pub use Rattle.sctp_model.specs.LinkRecord.{LinkRecord, Report, Setup, Forward, Data, StreamRecord}
pub use Rattle.sctp_model.specs.Messages.{message_at, ordered_before, sent_of, is_partially_sent, tsn_of, front, is_in_flight, place_of, message_of}
pub use Rattle.sctp_model.specs.Messages.{fragment_count, deadline_of, is_past_deadline, slot_at, stream_of, is_ordered_on, index_of, ssn_of, no_slot}
pub use Rattle.sctp_model.specs.Messages.{belongs_to, is_open, stream_at, no_stream, no_message, slots_of, slots_where}
pub use Rattle.sctp_model.specs.Receiver.{next_of, cumulative, is_held, held_on, arrived_at, is_new, fits, least, greatest, next_read, has_arrived, spans_fit}
pub use Rattle.sctp_model.specs.Receiver.{is_complete_message}
pub use Rattle.sctp_model.specs.Contents.{contents_of, cumulative_tsn, chunk_at, name_of, contents_in, datagram, Contents}
pub use Rattle.sctp_model.specs.Queues.{filter_of, FilterRecord, set_of, is_cleared, complete_set_of, handed_out}
pub use Rattle.sctp_model.specs.Amounts.{in_all, written_bytes, growth, is_expired_or_abandoned, slot_bytes, pending_bytes, ledger, buffered_amount}
pub use Rattle.sctp_model.specs.Amounts.{counters_of, in_flight_bytes, released_bytes}
pub use Rattle.sctp_model.specs.Changes.{after_abandon, mark_abandoned, after_expire, expiring, mark_expired, message_changed, tailing, after_tail, front_if}
pub use Rattle.sctp_model.specs.Changes.{after_ack, after_acked, acknowledged_by, receive_slot, skip_counts, after_arrive, receive_skip, after_mode}
pub use Rattle.sctp_model.specs.Changes.{after_open, after_resend, after_start, with_datagram, chunk_length, read_of, after_reading, mark_read, without_first}
pub use Rattle.sctp_model.specs.Changes.{note_completion, becomes_complete, mark_arrived, with_complete, stream_changed, start_lifetime, with_slot}
pub use Rattle.sctp_model.specs.Changes.{send_fragment, send_fragment_of, message_on, after_send, send_from, send_fragments, after_write, named_by}
pub use Rattle.sctp_model.specs.Laws.{IsSetup}
pub use Rattle.sctp_model.specs.Steps.{StandsFor, refusal_of, after, reply_to, fragments_accepted, IsRight, expired_reply, takes_memory, tail_reply, record_of}
pub use Rattle.sctp_model.specs.Steps.{History, IsRun, unless, arrive_reply, can_name, is_for_receiver, arrival_fits, skip_refusal, fragments_in, read_reply}
pub use Rattle.sctp_model.specs.Steps.{can_resend, sent_reply, may_want_memory}
pub use Rattle.sctp_model.proofs.sender.Moves.{Quiet}
pub use Rattle.sctp_model.proofs.sender.Shape.{shape, sent, Shape, index, parts, slotted, on}
pub use Rattle.sctp_model.proofs.acknowledgement.Bytes.{size-some, balances}
pub use Rattle.sctp_model.proofs.sender.Fronts.{front-takes, slot-sent}
pub use Rattle.sctp_model.specs.declared.event.LinkRefusal.TheVariants.{NotInFlight, NoSuchDatagram, SpanTooWide, StreamUnknown, StreamOpen, SkipUnassigned}
pub use Rattle.sctp_model.specs.declared.event.LinkRefusal.TheVariants.{SkipNames}
pub use Rattle.sctp_model.proofs.sender.SenderRun.{unless-holds, consistent-run, Consistent, consistent-received, consistent-after}
pub use Rattle.sctp_model.proofs.receiver.Arrivals.{cumulative-le}
pub use Rattle.sctp_model.proofs.sender.Sender.{Sender, sent-slotted}
pub use Rattle.sctp_model.specs.Valid.{Valid, IsSpan, ComesValid, AllFragments}
pub use Rattle.sctp_model.specs.declared.event.LinkRefusal.{LinkRefusal}
pub use Rattle.sctp_model.proofs.sender.Network.{IsNamable, NamesFit, fit-at, names-fit, Same}
pub use Rattle.sctp_model.specs.refinement.Amount.{amount, held_bytes, bytes_but_for, unacked_on, bytes_at, acknowledged_at, acknowledged_then, stream_of_slot}
pub use Rattle.sctp_model.specs.refinement.Amount.{keeps_amounts}
pub use Rattle.sctp_model.specs.refinement.Holds.{reassembly_of, seen_of, ordered_sets}
pub use Rattle.sctp_model.specs.refinement.Counts.{counters_on, is_write, is_read, received_more, sent_more}
pub use Rattle.sctp_model.specs.refinement.Indexes.{begun_on, is_begun_on}
pub use Rattle.sctp_model.proofs.refinement.sending.Begun.{Indexed, indexed-taken}
pub use Rattle.sctp_model.proofs.refinement.sending.BegunRun.{SendsNone, begun-closed, none-after, counted-after}
pub use Rattle.sctp_model.proofs.refinement.abandonment.AbandonedLink.{terminal_of, abandoned-is, count-then, before-then}
pub use Rattle.sctp_model.proofs.refinement.reading.ReadOne.{KeepsNext, ReadsComplete, ReadsOrdered, next-arrive, next-same}
pub use Rattle.sctp_model.proofs.refinement.amounts.StreamCounters.{counters-same, counters-read, counters-nothing, counters-none, written-wrote}
pub use Rattle.sctp_model.proofs.refinement.amounts.StreamCounters.{counters-wrote}
pub use Rattle.sctp_model.proofs.refinement.amounts.StreamCounters.{written-same}
pub use Rattle.sctp_model.specs.refinement.Refines.{RefinesOutbound, Sending, sending_of, sending_by, IsInFlight, waiting_at, waiting_of}
pub use Rattle.sctp_model.specs.refinement.InTurn.{message_of_tsn, abandoned_tsn}
pub use Rattle.sctp_model.proofs.refinement.abandonment.AbandonedInTurn.{IsTurn, GivesInTurn, turn-written, late-fly, late-takes, late-done, find-among}
pub use Rattle.sctp_model.proofs.refinement.abandonment.AbandonedInTurn.{each-of}
pub use Rattle.sctp_model.proofs.refinement.abandonment.AbandonedInTurn.{accepted-now, takes-none, goes-on}
pub use Rattle.sctp_model.proofs.refinement.sending.InFlight.{Found, found-in, head_of, tail_of, says-same, refines-marked, nsent-quiet}
pub use Rattle.sctp_model.proofs.refinement.amounts.StreamAmounts.{same-turned, amount-none, amount-wrote, write-open, amount-same}
pub use Rattle.sctp_model.specs.refinement.Naming.{min_with, names_fit, lowest_held, highest_held, complete_first, end_named, low_named}
pub use Rattle.sctp_model.specs.refinement.Filling.{chunks_taken, further}
pub use Rattle.sctp_model.proofs.refinement.arriving.SpanEnds.{Begins, set-begins, complete-begins, set-at, sets-held, ends-none, lowest-front, highest-back}
pub use Rattle.sctp_model.proofs.refinement.arriving.SpanEnds.{fits-span}
pub use Rattle.sctp_model.proofs.refinement.arriving.Carried.{Carried, carried, enters}
pub use Rattle.sctp_model.proofs.refinement.arriving.Arrival.{with_arrived}
pub use Rattle.sctp_model.proofs.refinement.acknowledging.QuietSender.{SameToSender, same-then, outbound-same, same-self}
pub use Rattle.sctp_model.proofs.refinement.arriving.Stays.{by_place, map-all}
pub use Rattle.sctp_model.proofs.refinement.sending.FilledDatagrams.{after_fragments, after-next, next-tsn, Fills, fill-sent, fill-started, sent-started}
pub use Rattle.sctp_model.proofs.refinement.sending.FilledDatagrams.{only-slots}
pub use Rattle.sctp_model.proofs.refinement.sending.FilledDatagrams.{shown-after}
pub use Rattle.sctp_model.proofs.refinement.sending.Fragments.{shown, all-begun, refines-fragment, going-started, idle}
pub use Rattle.sctp_model.proofs.refinement.sending.LifetimesStart.{refines-started}
pub use Rattle.sctp_model.proofs.refinement.sending.InLine.{before-started}
pub use Rattle.sctp_model.proofs.refinement.skipping.SkipStep.{with_skip, skip-step}
pub use Rattle.sctp_model.proofs.refinement.Histories.{stands-then, says-still, Facts, Stands, Sends}
pub use Rattle.sctp_model.proofs.refinement.amounts.Bounds.{written-few, messages-few}
pub use Rattle.sctp_model.proofs.refinement.acknowledging.Reported.{count-made, sack-there, Reported, reported-run}
pub use Rattle.sctp_model.proofs.refinement.Lists.{map-set, piece-short, progress-more, filter-inserted, length-inserted, twice, unchanged, none-changed}
pub use Rattle.sctp_model.proofs.refinement.Lists.{same-at}
pub use Rattle.sctp_model.proofs.refinement.Lists.{front_all, all_last, all-more, all-no, found-step, found-none, set-changed, any-same, all-from, take-min}
pub use Rattle.sctp_model.proofs.refinement.Lists.{each-put}
pub use Rattle.sctp_link.specs.Streams.{OpenStream, has_number, less_by, expired_on, stats_in, stream_numbers, after_releases, read_recorded, new_open_stream}
pub use Rattle.sctp_link.specs.Streams.{written_of, both_ways, on_inbound, Keeps, join_each, on_state, wrote_to, number, join, forwarded_on}
pub use Rattle.sctp_link.specs.declared.record.Message.{Message}
pub use Rattle.sctp_link.specs.declared.record.Slot.{Slot}
pub use Rattle.sctp_link.specs.OpenStreams.{terminals, fragment_slot, start_from, message_written, begun_by, with_start, begins, begun_of, with_fragment}
pub use Rattle.sctp_link.specs.Linked.{State, IsOpenStream, IsLinked, stats_of, ledger_of, filter_shown}
pub use Rattle.sctp_link.specs.Records.{message_record, progress_of, slot_record, stream_record, datagram_record, kind_record}
pub use Rattle.sctp_link.specs.Encodings.{IsDatagram, packet_with, block_of, wire_data, named_stream, datagram_encoding}
pub use Rattle.sctp_link.specs.Places.{IsApart}
pub use Rattle.sctp_link.specs.Acking.{IsMarking, and_one, and_run, and_blocks, in_block, IsNearer, Acks, amount_with}
pub use Rattle.sctp_link.specs.declared.record.Datagram.{Datagram}
pub use Rattle.sctp_link.specs.Sides.{Sides, IsAligned, CanTake, TakesEach, sides, expired_unsent, on_stream, stream_in, written_on, reception_of}
pub use Rattle.sctp_link.specs.Sides.{with_filter_of, Accepts, Takes, repeat_tsn, follow_forward_tsn, after_forward, sack_taken, opened_on}
pub use Rattle.sctp_link.specs.Fields.{state_in, record_in, state_from, record_from, sides_in, setup_of}
pub use Rattle.sctp_link.specs.declared.record.Kind.{Kind}
pub use Rattle.sctp_link.specs.declared.link.Link.TheInside.{Inside}
pub use Rattle.sctp_link.specs.Receiving.{number_at, arrived_in, repeated_of, is_first, with_arrival, IsReceiver, HoldsQueue}
pub use Rattle.sctp_model.specs.refinement.Arriving.{slot_fits, Comes, AllCome, LiesSomewhere}
pub use Rattle.sctp_link.specs.Skips.{wire_skip, with_names, standing_named, pair_in, named_from, none_named, index_in, message_in, is_on, named_in, HasNames}
pub use Rattle.sctp_link.specs.Skips.{IsFullOrEmpty, with_name}
pub use Rattle.sctp_link.specs.declared.skipped.Named.{Named}
pub use Rattle.sctp_link.specs.declared.record.Written.{Written}
pub use Rattle.sctp_link.specs.Sends.{AreNoted, outgoing_of, Leave, SendsOnly, Outgoing, CanSend, Leaves, started_from, is_sent_at}
pub use Rattle.sctp_model.proofs.refinement.sending.Rooms.{none-start, next-unstarted, refines-room}
pub use Rattle.sctp_model.proofs.refinement.sending.Flying.{one-more-fits, flying}
pub use Rattle.sctp_stream.specs.Stats.{with_sent, with_received}
pub use Rattle.sctp_model.proofs.refinement.Kept.{begun-kept, held-quiet, next-kept, stream-quiet, fragments-same, written-kept, SameStream, filter-kept}
pub use Rattle.sctp_stream.specs.Stream.{pieces_of, new_stream}
pub use Rattle.sctp_model.proofs.refinement.sending.NextFragment.{Next, next-is, idle-right, looks-short}
pub use Rattle.sctp_chunks.proofs.Lengths.{length_data_value, length_sack_value, length_forward_tsn_value}
pub use Rattle.sctp_receiver.proofs.Forwarded.{followed-mapped, after-numbers, after-size, skipped-number, skipped-size}
pub use Rattle.sctp_model.proofs.refinement.skipping.SkipFits.{Judged, judged, lowest-short, skips-in, same-names, complete-set, first-at, past-none, past-some}
pub use Rattle.sctp_model.proofs.refinement.skipping.SkipFits.{all-fit, named-on, Skips, accepted}
pub use Rattle.sctp_model.proofs.refinement.arriving.SlotsCome.{all-inside, all-carried, rest-all, quiet-slots}
pub use Rattle.sctp_model.proofs.refinement.reading.HandsOut.{ppi-handed, filter-read, joined-length, HandsOut, hands-out, none-mapped, some-mapped}
pub use Rattle.sctp_model.proofs.refinement.skipping.SkipSpans.{stale-fits, gone_forward, queue-skip, next-skip, named-from}
pub use Rattle.sctp_model.proofs.refinement.abandonment.QueueAnswers.{none-tails, partial-front, complete-idle, early-idle, tails, idle-tail, tail-right}
pub use Rattle.sctp_model.proofs.refinement.abandonment.QueueAnswers.{past_deadline, number-is, rest-fits, gives-tail, Gives, gives, stream-is, high, held}
pub use Rattle.sctp_model.proofs.refinement.abandonment.QueueAnswers.{partial-tail, tail-fits}
pub use Rattle.sctp_model.proofs.refinement.arriving.SlotSpans.{fits-new, added_on, added-any, any-carried, all-each, each-all, AddsAt, added-from, fits-each}
pub use Rattle.sctp_model.proofs.refinement.arriving.SlotSpans.{only-one, own-stream, fits-all, new-among}
pub use Rattle.sctp_model.proofs.refinement.sending.Ahead.{room-less}
pub use Rattle.sctp_model.proofs.refinement.Walks.{changed_to, changed_none, changed_more, changed_all}
pub use Rattle.sctp_model.proofs.receiver.ValidRun.{span-open, slots_come_valid, skips_come_valid}
pub use Rattle.sctp_model.proofs.refinement.arriving.Filter.{tsn_before, filter-skipped}
pub use Rattle.sctp_model.proofs.refinement.acknowledging.SackDistances.{between, up-to-date, far, at-top}
pub use Rattle.sctp_model.proofs.refinement.amounts.InFlightBytes.{chunk-on, bytes-unacked, taken-acknowledged, then-below, ledger-is, ledger_by}
pub use Rattle.sctp_model.proofs.refinement.amounts.InFlightBytes.{in-flight-bytes}
pub use Rattle.sctp_util.proofs.Totals.{total-none, total-append, total-where, total-kept_same, numbers-append, total-wider}
pub use Rattle.sctp_stream.specs.Numbers.{IsAbsent, IsOnlyPlace}
pub use Rattle.sctp_model.proofs.refinement.Results.{on-err, on-error, on-ok, not-err, unless-refused}
pub use Rattle.sctp_model.proofs.refinement.arriving.SlotFits.{data-fits, lying}
pub use Rattle.sctp_model.proofs.refinement.abandonment.QueueExpires.{quiet, outbound-expired, unstarted-expired}
