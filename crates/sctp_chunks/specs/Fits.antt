-- Numbers that fit the widths that they are written in.
use Rattle.std.specs.Prelude.{◌^◌, ◌<◌}
use Rattle.std.specs.List.{AllByRecursion}
use Rattle.sctp_data.specs.declared.chunk.chunk_selective_ack.GapAckBlock.{GapAckBlock}
use Rattle.sctp_chunks.specs.declared.chunk.chunk_i_forward_tsn.ChunkIForwardTsnStream.{ChunkIForwardTsnStream}
use Rattle.sctp_chunks.specs.declared.chunk.error_cause.ErrorCause.{ErrorCause}
use Rattle.sctp_data.specs.PayloadData.{Data}
use Rattle.sctp_data.specs.SelectiveAck.{Sack}
use Rattle.sctp_data.specs.ForwardTsn.{ForwardTsn, FitsStream}
use Rattle.sctp_chunks.specs.IForwardTsn.{IForwardTsn}
use Rattle.sctp_chunks.specs.Params.{ReadBack}
use Rattle.sctp_chunks.specs.Init.{Init}
use Rattle.sctp_chunks.specs.Heartbeat.{IsReadHeartbeat}
use Rattle.sctp_chunks.specs.Reconfig.{PairReadsBack}
use Rattle.sctp_chunks.specs.Wire.{Wire, data_chunk, init_chunk, sack_chunk, heartbeat_chunk, heartbeat_ack_chunk, reconfig_chunk, abort_chunk, shutdown_chunk}
use Rattle.sctp_chunks.specs.Wire.{error_chunk, forward_tsn_chunk, i_forward_tsn_chunk}

pub record FitsData (d : Data) : Type 0 where
  pub tsn : d.tsn < 2 ^ 32
  pub stream_identifier : d.stream_identifier < 2 ^ 16
  pub stream_sequence_number : d.stream_sequence_number < 2 ^ 16

pub record FitsInit (i : Init) : Type 0 where
  pub initiate_tag : i.initiate_tag < 2 ^ 32
  pub credit : i.advertised_receiver_window_credit < 2 ^ 32
  pub num_outbound_streams : i.num_outbound_streams < 2 ^ 16
  pub num_inbound_streams : i.num_inbound_streams < 2 ^ 16
  pub initial_tsn : i.initial_tsn < 2 ^ 32

pub record FitsBlock (b : GapAckBlock) : Type 0 where
  pub start : b.start < 2 ^ 16
  pub end : b.end < 2 ^ 16

pub record FitsSack (s : Sack) : Type 0 where
  pub cumulative_tsn_ack : s.cumulative_tsn_ack < 2 ^ 32
  pub credit : s.advertised_receiver_window_credit < 2 ^ 32
  pub blocks : AllByRecursion FitsBlock s.gap_ack_blocks
  pub duplicates : AllByRecursion (λ n. n < 2 ^ 32) s.duplicate_tsn

pub record FitsForwardTsn (f : ForwardTsn) : Type 0 where
  pub new_cumulative_tsn : f.new_cumulative_tsn < 2 ^ 32
  pub streams : AllByRecursion FitsStream f.streams

pub record FitsEntry (s : ChunkIForwardTsnStream) : Type 0 where
  pub identifier : s.identifier < 2 ^ 16
  pub mid : s.mid < 2 ^ 32

pub record FitsIForwardTsn (f : IForwardTsn) : Type 0 where
  pub new_cumulative_tsn : f.new_cumulative_tsn < 2 ^ 32
  pub streams : AllByRecursion FitsEntry f.streams

abbrev pub FitsCause : ErrorCause → Type 0
FitsCause c = c.code.0 < 2 ^ 16

-- the numbers of a chunk fit
abbrev pub Fits : Wire → Type 0
Fits (data_chunk d) = FitsData d
Fits (init_chunk i) = FitsInit i
Fits (sack_chunk s) = FitsSack s
Fits (abort_chunk cs) = AllByRecursion FitsCause cs
Fits (shutdown_chunk n) = n < 2 ^ 32
Fits (error_chunk cs) = AllByRecursion FitsCause cs
Fits (forward_tsn_chunk f) = FitsForwardTsn f
Fits (i_forward_tsn_chunk f) = FitsIForwardTsn f
Fits _ = Unit {0}

-- a chunk whose encoding reads back to it: every chunk that was read is one
abbrev pub Canonical : Wire → Type 0
Canonical (init_chunk i) = ReadBack i.params
Canonical (heartbeat_chunk ps) = IsReadHeartbeat ps
Canonical (heartbeat_ack_chunk ps) = IsReadHeartbeat ps
Canonical (reconfig_chunk r) = PairReadsBack r.param_a r.param_b
Canonical _ = Unit {0}
