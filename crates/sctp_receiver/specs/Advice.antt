-- What to do with a chunk that a receiver refused (RFC 9260 3.3.10, 6.2, 6.5).
use Rattle.std.specs.Prelude.{◌≡◌, ⊤, ℕ, ◌<◌, ◌^◌, ◌==◌, Bool, true, false, not, ◌&&◌, is_some, if◌then◌else◌, Option, Some, None}
use Rattle.std.specs.List.{list_any}
use Rattle.sctp_data.specs.declared.chunk.chunk_payload_data.ChunkPayloadData.{ChunkPayloadData}
use Rattle.sctp_data.specs.ForwardTsn.{ForwardTsn}
use Rattle.sctp_reassembly.specs.reassembly_queue.ReassemblyQueue.{message_read}
use Rattle.sctp_receiver.specs.declared.advice.AbortCause.{AbortCause}
use Rattle.sctp_receiver.specs.declared.advice.AbortCause.TheVariants.{OutOfResource, ProtocolViolation}
use Rattle.sctp_receiver.specs.declared.advice.Advice.{Advice}
use Rattle.sctp_receiver.specs.declared.advice.Advice.TheVariants as advice
use Rattle.sctp_receiver.specs.declared.advice.SkipAdvice.{SkipAdvice}
use Rattle.sctp_receiver.specs.declared.advice.SkipAdvice.TheVariants as skip
use Rattle.sctp_receiver.specs.declared.receiver.refusal.ReceiverRefusal.{ReceiverRefusal}
use Rattle.sctp_receiver.specs.declared.receiver.refusal.ReceiverRefusal.TheVariants.{StreamUnknown, MessageTooLarge, TsnTooFar, WindowFull, SsnTooFar}
use Rattle.sctp_receiver.specs.declared.receiver.refusal.ReceiverRefusal.TheVariants.{NamedStreamUnknown, NamedSsnTooFar}
use Rattle.sctp_receiver.specs.Receiver.{Reception, filter_of, is_open, open_stream, close_stream, arrival_refusal, discard_refusal, discard_takes_memory}
use Rattle.sctp_receiver.specs.Skips.{past_closed_refusal, skip_refusal}
use Rattle.sctp_receiver.specs.TsnFilter.{is_opposite}
use Rattle.sctp_serial.specs.DataChunks.{following_tsn}

-- a stream has a message to read
abbrev pub is_any_readable : Reception → Bool
is_any_readable r = list_any (λ l. is_some (message_read l.queue.held)) r.streams

-- the chunk has the lowest TSN that is missing, and no stream has a message to read
abbrev pub is_next_to_come : ChunkPayloadData → Reception → Bool
is_next_to_come c r = (c.tsn == following_tsn r.cumulative_tsn) && not (is_any_readable r)

-- a refused chunk is sent again, and may be taken then; but where it is the next to come, reading makes no room for it
abbrev pub drop_or_abort : AbortCause → ChunkPayloadData → Reception → Advice
drop_or_abort cause c r = if is_next_to_come c r then advice.Abort cause else advice.Drop

abbrev pub advice_for : ReceiverRefusal → ChunkPayloadData → Reception → Advice
advice_for StreamUnknown c r = advice.OpenOrDiscard
advice_for MessageTooLarge c r = advice.CloseAndDiscard
advice_for WindowFull c r = drop_or_abort OutOfResource c r
advice_for TsnTooFar c r = drop_or_abort OutOfResource c r
advice_for SsnTooFar c r = drop_or_abort ProtocolViolation c r
advice_for _ c r = advice.Drop

-- of a FORWARD-TSN
abbrev pub skip_advice_for : ReceiverRefusal → Reception → SkipAdvice
skip_advice_for NamedStreamUnknown r = skip.PassOver
skip_advice_for NamedSsnTooFar r = if is_any_readable r then skip.Drop else skip.Abort ProtocolViolation
skip_advice_for _ r = skip.Drop

-- ## The law

-- `discard` takes the TSN, and needs no memory for it
pub record IsDiscarded (tsn : ℕ) (r : Reception) : Type 0 where
  pub accepted : discard_refusal tsn r ≡ None
  pub free : discard_takes_memory tsn r ≡ false

-- nothing stays of its message, since its stream is closed, and its TSN is discarded
pub record IsDropped (c : ChunkPayloadData) (r : Reception) : Type 0 where
  pub closed : is_open c.stream_identifier r ≡ false
  pub discarded : IsDiscarded c.tsn r

-- following this advice, the TSN of the chunk comes, or the association ends; no stream is opened for it
abbrev pub SettlesAtOnce : Advice → ChunkPayloadData → Reception → Type 0
SettlesAtOnce advice.CloseAndDiscard c r = IsDropped c (close_stream c.stream_identifier r)
SettlesAtOnce (advice.Abort cause) c r = ⊤
SettlesAtOnce advice.Drop c r = ⊥
SettlesAtOnce advice.OpenOrDiscard c r = ⊥

-- `data` takes the chunk, or the advice at its refusal settles it at once
abbrev pub IsSettledBy : Option ReceiverRefusal → ChunkPayloadData → Reception → Type 0
IsSettledBy None c r = ⊤
IsSettledBy (Some e) c r = SettlesAtOnce (advice_for e c r) c r

abbrev pub IsSettled : ChunkPayloadData → Reception → Type 0
IsSettled c r = IsSettledBy (arrival_refusal c r) c r

-- where the stream may be opened, both ways settle it
abbrev pub Settles : Advice → ChunkPayloadData → Reception → Type 0
Settles advice.OpenOrDiscard c r =
    IsDiscarded c.tsn r × IsSettled c (open_stream c.stream_identifier r)
Settles a c r = SettlesAtOnce a c r

-- the next chunk to come never waits for ever: it is taken, or the advice at its refusal settles it
abbrev pub AdviceSettles : Type 0
AdviceSettles =
    (c : ChunkPayloadData) (r : Reception) (e : ReceiverRefusal) → r.cumulative_tsn < 2 ^ 32
    → is_next_to_come c r ≡ true → arrival_refusal c r ≡ Some e → Settles (advice_for e c r) c r

-- following this advice, the FORWARD-TSN is followed, or the association ends; a TSN half the circle away is no one's
abbrev pub SettlesSkip : SkipAdvice → ForwardTsn → Reception → Type 0
SettlesSkip skip.Drop f r = is_opposite f.new_cumulative_tsn (filter_of r) ≡ true
SettlesSkip skip.PassOver f r = (e : ReceiverRefusal) → past_closed_refusal f r ≡ Some e
    → e ≡ NamedSsnTooFar
SettlesSkip (skip.Abort cause) f r = ⊤

-- nor does a FORWARD-TSN, where no stream has a message to read
abbrev pub SkipAdviceSettles : Type 0
SkipAdviceSettles =
    (f : ForwardTsn) (r : Reception) (e : ReceiverRefusal) → is_any_readable r ≡ false
    → skip_refusal f r ≡ Some e → SettlesSkip (skip_advice_for e r) f r
