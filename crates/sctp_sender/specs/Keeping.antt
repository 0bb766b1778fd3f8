-- What a sender keeps of the chunks that gap ack blocks reported, and what a SACK takes back of that (RFC 4960 6.2.1 D iv).
use Rattle.std.specs.Prelude.{◌≡◌, ◌==◌, ◌^◌, ℕ, zero, suc, ◌+◌, ◌-◌, ◌<◌, ◌≤◌, nat_le, Bool, false, true, not, ◌&&◌, ◌||◌, nat_lt, if◌then◌else◌, List, [], ◌∷◌, ◌++◌}
use Rattle.std.specs.Prelude.{length, map, take}
use Rattle.std.specs.Prelude.{drop, slice_index_or}
use Rattle.std.specs.Prelude.{Option, Some, None, IfSome}
use Rattle.std.specs.List.{All, list_any, sum_by}
use Rattle.sctp_util.specs.Lists.{change_at, change_where}
use Rattle.sctp_util.specs.Serial.{distance}
use Rattle.sctp_data.specs.declared.chunk.chunk_payload_data.ChunkPayloadData.{ChunkPayloadData}
use Rattle.sctp_data.specs.declared.chunk.chunk_selective_ack.GapAckBlock.{GapAckBlock}
use Rattle.sctp_data.specs.SelectiveAck.{Sack}
use Rattle.sctp_outbound.specs.Marks.{as_taken_back}
use Rattle.sctp_outbound.specs.outbound_queue.OutboundQueue.{with_inflight}
use Rattle.sctp_outbound.specs.payload_queue.Blocks.{is_in_blocks}
use Rattle.sctp_stream.specs.Stats.{count_up}
use Rattle.sctp_stream.specs.declared.outbound_stream.OutboundStream.{OutboundStream}
use Rattle.sctp_sender.specs.declared.sender.flight.anew.Anew.{Anew}
use Rattle.sctp_sender.specs.declared.sender.flight.kept.Kept.{Kept}
use Rattle.sctp_sender.specs.declared.sender.flight.kept.TakenBack.{TakenBack}
use Rattle.sctp_sender.specs.declared.sender.flight.runs.Left.{Left}
use Rattle.sctp_sender.specs.declared.sender.flight.returns.PlacedData.{PlacedData}
use Rattle.sctp_sender.specs.Flight.{Flight, count_acked, is_outdated, reports, reports_anew, with_queue}
use Rattle.sctp_sender.specs.Outgoing.{has_number}
use Rattle.sctp_sender.specs.Reporting.{AreKnown, after_blocks, ascends_from}
use Rattle.sctp_sender.specs.Telling.{is_reached}

-- ## What is kept, place by place in flight: the user data of a chunk, or nothing; and nothing behind the list

-- of this place and those behind it, as far as something is kept
abbrev pub kept_from : Option (List ℕ) → List (Option (List ℕ)) → List (Option (List ℕ))
kept_from None [] = []
kept_from None (k ∷ ks) = None ∷ k ∷ ks
kept_from (Some bytes) ks = Some bytes ∷ ks

-- as far as something is kept
abbrev pub trimmed : List (Option (List ℕ)) → List (Option (List ℕ))
trimmed [] = []
trimmed (k ∷ ks) = kept_from k (trimmed ks)

-- a chunk that a SACK reports anew: its user data; any other: what was kept of it before
abbrev pub keep : Sack → ChunkPayloadData → Option (List ℕ) → Option (List ℕ)
keep s c k = if reports_anew s c then Some c.user_data else k

abbrev pub keep_each : Sack → List ChunkPayloadData → List (Option (List ℕ))
    → List (Option (List ℕ))
keep_each s [] ks = []
keep_each s (c ∷ cs) [] = keep s c None ∷ keep_each s cs []
keep_each s (c ∷ cs) (k ∷ ks) = keep s c k ∷ keep_each s cs ks

-- what is kept after a SACK: nothing of what it reports cumulatively
abbrev pub kept_after : Sack → Flight → List (Option (List ℕ)) → List (Option (List ℕ))
kept_after s f ks =
    if is_outdated s f then ks
    else trimmed (drop (count_acked s f) (keep_each s f.queue.inflight.chunks ks))

-- how many places come to those at which something is kept, by a SACK
abbrev pub places_kept : Sack → Flight → List (Option (List ℕ)) → ℕ
places_kept s f ks = length (kept_after s f ks) - length (drop (count_acked s f) ks)

-- ## What comes back

-- the greatest distance that the blocks report, 0 where they report none
abbrev pub greatest_distance : List GapAckBlock → ℕ
greatest_distance blocks = after_blocks blocks - 1

-- whether they tell of a distance: a SACK that is cut to the path MTU leaves out the highest TSNs (RFC 4960 6.7)
abbrev pub tells_of : List GapAckBlock → ℕ → Bool
tells_of blocks n = (greatest_distance blocks == 0) || nat_lt n (greatest_distance blocks)

-- an earlier SACK reported the chunk, its message is not abandoned, and this one tells of it, and does not report it
abbrev pub takes_back : Sack → ChunkPayloadData → Bool
takes_back s c =
    ((c.acked && not c.abandoned) && not (reports s c))
    && tells_of s.gap_ack_blocks (distance s.cumulative_tsn_ack c.tsn)

-- what is kept of it comes back, if it is so
abbrev pub back_of : Sack → ChunkPayloadData → Option (List ℕ) → Option (List ℕ)
back_of s c k = if takes_back s c then k else None

abbrev pub back_each : Sack → List ChunkPayloadData → List (Option (List ℕ))
    → List (Option (List ℕ))
back_each s cs [] = []
back_each s [] (k ∷ ks) = []
back_each s (c ∷ cs) (k ∷ ks) = back_of s c k ∷ back_each s cs ks

-- by a SACK that is out of date nothing
abbrev pub coming_back : Sack → Flight → List (Option (List ℕ)) → List (Option (List ℕ))
coming_back s f ks = if is_outdated s f then [] else back_each s f.queue.inflight.chunks ks

-- the chunk is outstanding again, with what comes back of it
abbrev pub restored_with : Option (List ℕ) → ChunkPayloadData → ChunkPayloadData
restored_with None c = c
restored_with (Some bytes) c = as_taken_back bytes c

abbrev pub restored : List (Option (List ℕ)) → List ChunkPayloadData → List ChunkPayloadData
restored [] cs = cs
restored (b ∷ bs) [] = []
restored (b ∷ bs) (c ∷ cs) = restored_with b c ∷ restored bs cs

abbrev pub with_restored : List (Option (List ℕ)) → Flight → Flight
with_restored bs f =
    with_queue f (with_inflight f.queue (restored bs f.queue.inflight.chunks))

-- ## Undone, where the rest of a call is refused

-- the chunk is acknowledged again, and what came back of it is gone
abbrev pub as_reported : ChunkPayloadData → ChunkPayloadData
as_reported c = record c { acked = true; user_data = [] }

-- so is that at each of these places
abbrev pub reported_again : List ℕ → List ChunkPayloadData → List ChunkPayloadData
reported_again [] cs = cs
reported_again (k ∷ ks) cs = reported_again ks (change_at as_reported k cs)

abbrev pub with_reported_again : List ℕ → Flight → Flight
with_reported_again ks f =
    with_queue f (with_inflight f.queue (reported_again ks f.queue.inflight.chunks))

-- no two chunks have one TSN
abbrev pub HaveOwnTsns : List ChunkPayloadData → Type 0
HaveOwnTsns cs =
    (i k : ℕ) (d : ChunkPayloadData) → i < length cs → k < length cs
    → (slice_index_or cs i d).tsn ≡ (slice_index_or cs k d).tsn → i ≡ k

-- ## What is told of it

abbrev pub answered_of : Option (List ℕ) → ChunkPayloadData → List TakenBack
answered_of None c = []
answered_of (Some bytes) c =
    record {
      tsn = c.tsn;
      stream = c.stream_identifier;
      bytes = length bytes;
      message = c.message_id;
    } ∷ []

abbrev pub answered_back : List (Option (List ℕ)) → List ChunkPayloadData → List TakenBack
answered_back [] cs = []
answered_back (b ∷ bs) [] = []
answered_back (b ∷ bs) (c ∷ cs) = answered_of b c ++ answered_back bs cs

-- the bytes of all
abbrev pub bytes_back : List TakenBack → ℕ
bytes_back rs = sum_by (λ r. r.bytes) rs

-- so many bytes wait and are in flight again, up to the greatest usize
abbrev pub more_by : ℕ → OutboundStream → OutboundStream
more_by bytes l = record l { buffered_amount = count_up l.buffered_amount bytes }

-- each stream has more by what came back of it, one chunk after another
abbrev pub after_returns : List TakenBack → List OutboundStream → List OutboundStream
after_returns [] ls = ls
after_returns (r ∷ rs) ls =
    after_returns rs (change_where (has_number r.stream) (more_by r.bytes) ls)

-- ## Which chunks can come back, by the blocks of an earlier SACK

-- the chunk is acknowledged, and its message not abandoned
abbrev pub can_come_back : ChunkPayloadData → Bool
can_come_back c = c.acked && not c.abandoned

-- it can come back, and stands at a distance past the TSN that the blocks do not report
abbrev pub is_uncovered : List GapAckBlock → ℕ → ChunkPayloadData → Bool
is_uncovered blocks tsn c = can_come_back c && not (is_in_blocks blocks (distance tsn c.tsn))

-- the blocks ascend, and report each chunk in flight that can come back; and what is kept goes as far as something is, and no
-- farther than what is in flight
pub record Cover (blocks : List GapAckBlock) (ks : List (Option (List ℕ))) (f : Flight)
    : Type 0 where
  pub ascend : ascends_from 0 blocks ≡ true
  pub each : list_any (is_uncovered blocks f.acked_tsn) f.queue.inflight.chunks ≡ false
  pub within : length ks ≤ length f.queue.inflight.chunks
  pub trim : trimmed ks ≡ ks

-- where a sender keeps what was reported, its blocks report nothing but what is acknowledged
abbrev pub AreReported : Option Kept → Flight → Type 0
AreReported kept f = IfSome kept (λ k. AreKnown k.reported.items f.queue.inflight.chunks)

-- no chunk that waits is acknowledged, and, where a sender keeps what was reported, its blocks do so
pub record IsCovered (kept : Option Kept) (f : Flight) : Type 0 where
  pub ordered : list_any (λ c. c.acked) f.queue.pending.ordered ≡ false
  pub unordered : list_any (λ c. c.acked) f.queue.pending.unordered ≡ false
  pub cover : IfSome kept (λ k. Cover k.reported.items k.user_data.items f)

-- ## Place by place, where so many places are reported cumulatively

abbrev pub can_at : List ChunkPayloadData → ℕ → Bool
can_at chunks k = slice_index_or (map can_come_back chunks) k false

-- the chunk at the place can come back, and these blocks do not report it
abbrev pub returns_at : ℕ → List GapAckBlock → List ChunkPayloadData → ℕ → Bool
returns_at count blocks chunks k = can_at chunks k && not (is_reached count blocks k)

-- the first so many blocks lie before the place
abbrev pub ArePassed : ℕ → ℕ → List GapAckBlock → ℕ → Type 0
ArePassed count i blocks place =
    (n : ℕ) → place < count + n → is_in_blocks (take i blocks) n ≡ false

-- what is kept, where the chunk at the place comes back, as the blocks tell of it
abbrev pub return_at : ℕ → List GapAckBlock → List ChunkPayloadData → List (Option (List ℕ)) → ℕ
    → Option (List ℕ)
return_at count blocks chunks ks k =
    if returns_at count blocks chunks k && tells_of blocks (suc k - count)
    then slice_index_or ks k None else None

-- ## What comes back, with its place

-- those of which there is something, the first at the place
abbrev pub placed : ℕ → List (Option (List ℕ)) → List PlacedData
placed n [] = []
placed n (None ∷ ks) = placed (suc n) ks
placed n (Some bytes ∷ ks) = record { place = n; user_data = bytes } ∷ placed (suc n) ks

abbrev pub answered_of_placed : PlacedData → ChunkPayloadData → TakenBack
answered_of_placed b c = record {
  tsn = c.tsn;
  stream = c.stream_identifier;
  bytes = length b.user_data;
  message = c.message_id;
}

abbrev pub bytes_coming : List PlacedData → ℕ
bytes_coming bs = sum_by (λ b. length b.user_data) bs

-- their places ascend, the first from one on
abbrev pub rises_from : ℕ → List PlacedData → Bool
rises_from n [] = true
rises_from n (b ∷ bs) = nat_le n b.place && rises_from (suc b.place) bs

-- each chunk is outstanding again, with what comes back of it
abbrev pub put_back : List PlacedData → List ChunkPayloadData → List ChunkPayloadData
put_back [] cs = cs
put_back (b ∷ bs) cs = change_at (as_taken_back b.user_data) b.place (put_back bs cs)

-- ## What a SACK reports anew, with its place past those that it reports cumulatively

-- the user data is that of the chunk at its place past the first so many
abbrev pub IsOwn : ℕ → List ChunkPayloadData → PlacedData → Type 0
IsOwn count cs b = (d : ChunkPayloadData) → (count + b.place < length cs)
    × ((slice_index_or cs (count + b.place) d).user_data ≡ b.user_data)

abbrev pub is_at : ℕ → PlacedData → Bool
is_at k b = b.place == k

-- that of each chunk past those that the SACK reports anew
pub record AreAnew (s : Sack) (f : Flight) (bs : List PlacedData) : Type 0 where
  pub own : All (IsOwn (count_acked s f) f.queue.inflight.chunks) bs
  pub small : All (λ b. b.place < 2 ^ 31) bs
  pub each : (k : ℕ) (d : ChunkPayloadData)
      → count_acked s f + k < length f.queue.inflight.chunks → list_any (is_at k) bs
      ≡ reports_anew s (slice_index_or f.queue.inflight.chunks (count_acked s f + k) d)

-- as many places, with nothing at those that were not there
abbrev pub filled : ℕ → List (Option (List ℕ)) → List (Option (List ℕ))
filled zero ks = ks
filled (suc n) [] = None ∷ filled n []
filled (suc n) (k ∷ ks) = k ∷ filled n ks

-- what is kept, with this at a place
abbrev pub kept_with : ℕ → List ℕ → List (Option (List ℕ)) → List (Option (List ℕ))
kept_with zero bytes [] = Some bytes ∷ []
kept_with zero bytes (k ∷ ks) = Some bytes ∷ ks
kept_with (suc n) bytes [] = None ∷ kept_with n bytes []
kept_with (suc n) bytes (k ∷ ks) = k ∷ kept_with n bytes ks

abbrev pub put_all : List PlacedData → List (Option (List ℕ)) → List (Option (List ℕ))
put_all [] ks = ks
put_all (b ∷ bs) ks = kept_with b.place b.user_data (put_all bs ks)

-- what is kept then, and by which blocks it is covered, where there is something to do
abbrev pub data_after : Option Anew → List (Option (List ℕ)) → List (Option (List ℕ))
data_after None ks = ks
data_after (Some a) ks = put_all a.chunks.items (drop a.count ks)

abbrev pub blocks_after : Option Anew → List GapAckBlock → List GapAckBlock
blocks_after None bs = bs
blocks_after (Some a) bs = a.reported.items

-- the blocks that are left, or the same where nothing is cut out of them
abbrev pub blocks_left : Option Left → List GapAckBlock → List GapAckBlock
blocks_left None bs = bs
blocks_left (Some l) bs = l.reported.items
