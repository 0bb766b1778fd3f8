-- A FORWARD-TSN, and what no name of it covers (RFC 3758 3.6).
use Rattle.std.specs.Prelude.{ℕ, Bool, not, ◌&&◌, if◌then◌else◌, List, map, Option, Some}
use Rattle.std.specs.List.{list_any}
use Rattle.sctp_util.specs.Serial.{comes_before}
use Rattle.sctp_data.specs.ForwardTsn.{ForwardTsn}
use Rattle.sctp_reassembly.specs.reassembly_queue.Skips.{cannot_complete, after_incomplete_skip}
use Rattle.sctp_receiver.specs.declared.receiver.arrival.Closed.{Closed}
use Rattle.sctp_receiver.specs.declared.receiver.arrival.Closed.TheVariants.{Refuse, PassOver}
use Rattle.sctp_receiver.specs.declared.receiver.inbound_streams.InboundStream.{InboundStream}
use Rattle.sctp_receiver.specs.declared.receiver.refusal.ReceiverRefusal.{ReceiverRefusal}
use Rattle.sctp_receiver.specs.declared.receiver.refusal.ReceiverRefusal.TheVariants.{NamedStreamUnknown, NamedSsnTooFar}
use Rattle.sctp_receiver.specs.Receiver.{Reception, stream_of, is_open, is_stale, forward_refusal, after_forward}
use Rattle.sctp_receiver.specs.Ssns.{is_named_too_far}

abbrev pub incomplete_forwarded : ℕ → InboundStream → InboundStream
incomplete_forwarded tsn l = record l { queue = after_incomplete_skip tsn l.queue }

-- each stream without its incomplete messages that miss a TSN at or before this one
abbrev pub without_incomplete : ℕ → Reception → Reception
without_incomplete tsn r = record r { streams = map (incomplete_forwarded tsn) r.streams }

-- what is named is discarded, and then what can't become complete without a name
abbrev pub after_forward_tsn : ForwardTsn → Reception → Reception
after_forward_tsn f r =
    if is_stale f r then r else without_incomplete f.new_cumulative_tsn (after_forward f r)

-- a stream has such a message
abbrev pub has_incomplete : ℕ → List InboundStream → Bool
has_incomplete tsn ls = list_any (λ l. list_any (cannot_complete tsn) l.queue.held.ordered) ls

-- ## What is refused

-- its TSN comes after the cumulative one, so that it is followed
abbrev pub is_ahead : ForwardTsn → Reception → Bool
is_ahead f r = comes_before r.cumulative_tsn f.new_cumulative_tsn

-- it is, and names a stream that is not open
abbrev pub names_closed : ForwardTsn → Reception → Bool
names_closed f r = is_ahead f r && list_any (λ n. not (is_open n.identifier r)) f.streams

-- it is, and names on an open stream a number that may be ahead or behind: each name is looked at as the stream is before the chunk
abbrev pub names_too_far : ForwardTsn → Reception → Bool
names_too_far f r =
    is_ahead f r && list_any (λ n. is_named_too_far n (stream_of n.identifier r)) f.streams

-- why it is refused, where names of streams that are not open are passed over
abbrev pub past_closed_refusal : ForwardTsn → Reception → Option ReceiverRefusal
past_closed_refusal f r = if names_too_far f r then Some NamedSsnTooFar else forward_refusal f r

-- and where they are not
abbrev pub skip_refusal : ForwardTsn → Reception → Option ReceiverRefusal
skip_refusal f r = if names_closed f r then Some NamedStreamUnknown else past_closed_refusal f r

-- and by what becomes of names of streams that are not open
abbrev pub refusal_to_skip : Closed → ForwardTsn → Reception → Option ReceiverRefusal
refusal_to_skip Refuse = skip_refusal
refusal_to_skip PassOver = past_closed_refusal
