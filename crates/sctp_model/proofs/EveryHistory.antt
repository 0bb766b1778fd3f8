-- All laws at once.
use Rattle.sctp_model.proofs.Names.{EachSendEmits, SlotsAreValid, ArrivalsAgree, OrderedReads, UnorderedReads, NothingWhenExhausted, OnlyArrivedIsAcknowledged}
use Rattle.sctp_model.proofs.Names.{BytesBalance, LifetimesEnd, DatagramsKeepLimit, CountersCount, Composition, RecordsAreValid, Headline, Beside}
use Rattle.sctp_model.proofs.Names.{ReliableDelivery, PartialDelivery}
use Rattle.sctp_model.proofs.acknowledgement.Acknowledged.{acknowledged_arrived, acknowledged_is_reported, sacks_say}
use Rattle.sctp_model.proofs.receiver.Arrivals.{arrived_is_new, cumulative_is_seen, arrivals_answered}
use Rattle.sctp_model.proofs.acknowledgement.Bytes.{balances}
use Rattle.sctp_model.proofs.acknowledgement.BytesAnswered.{sums_agree}
use Rattle.sctp_model.proofs.receiver.Counted.{reads_differ, counters_are_sums}
use Rattle.sctp_model.proofs.receiver.KnownRun.{completeness_agrees}
use Rattle.sctp_model.proofs.sender.Lifetimes.{starts_once, late_abandons_listed}
use Rattle.sctp_model.proofs.sender.Deadlines.{deadlines_by_events, expires_past_deadline, tail_abandons_past_deadline, late_lists_past_deadline}
use Rattle.sctp_model.proofs.sender.Limits.{within_limit, filled_to_limit}
use Rattle.sctp_model.proofs.sender.Made.{network_is_made}
use Rattle.sctp_model.proofs.sender.Modes.{modes_are_kept}
use Rattle.sctp_model.proofs.receiver.Names.{named_is_named}
use Rattle.sctp_model.proofs.sender.Network.{no_terminal_chunk_is_sent, datagrams_stay}
use Rattle.sctp_model.proofs.receiver.ReadLaws.{reads_begin_run, reads_begin_complete_run, reads_begin_complete, unordered_first, nothing_where_read}
use Rattle.sctp_model.proofs.sender.Sends.{emits_where_pending, takes_pending, idle_is_answered}
use Rattle.sctp_model.proofs.receiver.Shown.{reads_show_messages}
use Rattle.sctp_model.proofs.sender.Slots.{slots_in_order, slots_follow, one_partially_sent, sent_in_turn, indexes_leave_no_gap}
use Rattle.sctp_model.proofs.receiver.Spans.{spans_fit_always}
use Rattle.sctp_model.proofs.receiver.ValidRun.{record_is_valid, slots_come_valid, skips_come_valid}
use Rattle.sctp_model.proofs.sender.Written.{messages_are_writes}
use Rattle.sctp_model.proofs.Composed.{reads_are_settled, reads_by_arrivals, none_is_lost}

each-send : EachSendEmits
each-send = (emits_where_pending, (takes_pending, idle_is_answered))

slots : SlotsAreValid
slots = (slots_in_order, (slots_follow, (one_partially_sent, (sent_in_turn, (indexes_leave_no_gap, (no_terminal_chunk_is_sent, datagrams_stay))))))

arrivals : ArrivalsAgree
arrivals = (network_is_made, (arrived_is_new, (cumulative_is_seen, (arrivals_answered, (completeness_agrees, (named_is_named, spans_fit_always))))))

ordered : OrderedReads
ordered = (messages_are_writes, (modes_are_kept, (reads_show_messages, (reads_begin_run, reads_begin_complete_run))))

unordered : UnorderedReads
unordered = (reads_begin_complete, (reads_differ, unordered_first))

nothing : NothingWhenExhausted
nothing = nothing_where_read

acknowledged : OnlyArrivedIsAcknowledged
acknowledged = (acknowledged_arrived, (acknowledged_is_reported, sacks_say))

bytes : BytesBalance
bytes = (balances, sums_agree)

lifetimes : LifetimesEnd
lifetimes = (starts_once, (deadlines_by_events, (expires_past_deadline, (tail_abandons_past_deadline, (late_lists_past_deadline, late_abandons_listed)))))

limits : DatagramsKeepLimit
limits = (within_limit, filled_to_limit)

counters : CountersCount
counters = counters_are_sums

composition : Composition
composition = (reads_are_settled, (reads_by_arrivals, none_is_lost))

records : RecordsAreValid
records = (record_is_valid, (slots_come_valid, skips_come_valid))

pub headline : Headline
headline = (each-send, (ordered, (unordered, (nothing, (acknowledged, bytes)))))

pub beside : Beside
beside = (slots, (limits, (arrivals, (lifetimes, (counters, (composition, records))))))

pub reliable : ReliableDelivery
reliable = (reads_begin_complete_run, (composition, (unordered, (nothing, (acknowledged, (bytes, (arrivals, counters)))))))

pub partial : PartialDelivery
partial = (headline, beside)
