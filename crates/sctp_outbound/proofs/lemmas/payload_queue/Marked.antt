-- What a mark leaves as it is.
use Rattle.std.proofs.Common.{◌≡◌, ℕ, false, [], refl}
use Rattle.sctp_data.specs.ChunkSet.{fresh}
use Rattle.sctp_data.specs.declared.chunk.chunk_payload_data.ChunkPayloadData.{ChunkPayloadData}
use Rattle.sctp_data.specs.declared.chunk.chunk_payload_data.PayloadProtocolIdentifier.TheVariants.{Unknown}
use Rattle.sctp_outbound.specs.declared.payload_queue.held.Mark.{Mark}
use Rattle.sctp_outbound.specs.declared.payload_queue.held.Mark.TheVariants.{Acknowledged, Abandoned, Retransmit, Nsent, Since, MissIndicator}
use Rattle.sctp_outbound.specs.Marks.{with_mark}
use Rattle.sctp_outbound.specs.Stored.{IsNotBefore}

-- any chunk, where a place asks for one to fall back on
abbrev pub any_chunk : ChunkPayloadData
any_chunk = fresh (record {
  unordered = false;
  beginning_fragment = false;
  ending_fragment = false;
  immediate_sack = false;
  tsn = 0;
  stream_identifier = 0;
  stream_sequence_number = 0;
  payload_type = Unknown;
  user_data = [];
})

pub marked-tsn : (mark : Mark) (c : ChunkPayloadData) → (with_mark mark c).tsn ≡ c.tsn
marked-tsn Acknowledged c = refl
marked-tsn Abandoned c = refl
marked-tsn (Retransmit b) c = refl
marked-tsn (Nsent n) c = refl
marked-tsn (Since since) c = refl
marked-tsn (MissIndicator n) c = refl

-- nor does it bring a deadline nearer
pub marked-not_before : (moment : ℕ) (mark : Mark) (c : ChunkPayloadData) → IsNotBefore moment c → IsNotBefore moment (with_mark mark c)
marked-not_before moment Acknowledged c h = h
marked-not_before moment Abandoned c h = λ e. absurd (cc)
marked-not_before moment (Retransmit b) c h = h
marked-not_before moment (Nsent n) c h = h
marked-not_before moment (Since since) c h = h
marked-not_before moment (MissIndicator n) c h = h
