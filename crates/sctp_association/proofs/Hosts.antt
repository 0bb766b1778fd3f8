-- What two hosts do: what datagrams bring to sessions, and how many fragments and bytes are written.
use Rattle.std.proofs.Common.{◌≡◌, ◌+◌, ◌≤◌, ◌<◌, ◌^◌, ℕ, true, List, [], ◌∷◌, length, ap, sym}
use Rattle.std.proofs.Common.{subst, arith}
use Rattle.std.proofs.lemmas.Bool.{false≢true}
use Rattle.std.proofs.lemmas.List.Sums.{sum_by-cons}
use Rattle.std.specs.Prelude.{◌⊎◌, ⊤}
use Rattle.sctp_association.proofs.Tsns.{few-fragments}
use Rattle.sctp_association.specs.Arrivals.{Arrival, Halves}
use Rattle.sctp_association.specs.Arrivals.{begins, hears, receives, renews, restarts}
use Rattle.sctp_association.specs.Hosts.{Act, Acts, EachIsCut, Host, Hosts, IsPlain}
use Rattle.sctp_association.specs.Hosts.{Move, MovesTo, NamesOpen, Way, WroteFew, asks, bytes_of, first_host, fragments_by, handles}
use Rattle.sctp_association.specs.Hosts.{hosts, is_asking, one_acts, other_acts, polls, reads_on}
use Rattle.sctp_data.specs.PayloadData.{Data}
use Rattle.sctp_data.specs.declared.chunk.chunk_payload_data.ChunkPayloadData.{ChunkPayloadData}
use Rattle.sctp_delivery.specs.EveryCall.{AnyCall, closes_incoming, discards, of_receiving}
use Rattle.sctp_delivery.specs.EveryCall.{of_sending, passes_over, resets, resets_incoming}
use Rattle.sctp_delivery.specs.SenderCalls as outgoing
use Rattle.sctp_delivery.specs.SenderCalls.{Made, data_chunk, SenderCall, SenderMakes, TakesBackAndSack, Write, written_after}
use Rattle.sctp_delivery.specs.Session.{IsReported, Session}
use Rattle.sctp_receiver.specs.ReceiverRuns as runs
use Rattle.sctp_receiver.specs.ReceiverRuns.{Message, messages_after, with_message}
use Rattle.sctp_receiver.specs.TsnFilter.{placeholder}
use Rattle.sctp_sender.specs.Sender.{Transmission, stream_of}

-- ## What may come

-- where a datagram brings it, the calls that most sessions do not have are so: P of the session of this sender, and Q of that of this receiver
abbrev pub Fits : (P Q : AnyCall → Type 0) → Way → Arrival → Halves → Type 0
Fits P Q w (receives (runs.discards tsn)) h = (c : ChunkPayloadData) → c.tsn ≡ tsn → Q (of_receiving (discards c))
Fits P Q w (receives (runs.closes stream)) h = Q (of_receiving (closes_incoming stream))
Fits P Q w (receives (runs.resets stream last)) h = Q (of_receiving (resets_incoming stream last))
Fits P Q w (receives (runs.forwards f)) h = NamesOpen f h.receiver ⊎ Q (of_receiving (passes_over f))
Fits P Q w (receives _) h = ⊤
Fits P Q w (hears (restarts stream)) h = P (of_sending (resets stream))
Fits P Q w (hears _) h = ⊤
Fits P Q w (begins tsn max limits) h = IsPlain w (begins tsn max limits) h
Fits P Q w (renews tsn size max) h = ⊥

-- a chunk that says this, and of which a sender noted nothing
abbrev pub chunk-of : Data → ChunkPayloadData
chunk-of d = record (placeholder d.tsn) {
  unordered = d.unordered;
  beginning_fragment = d.beginning_fragment;
  ending_fragment = d.ending_fragment;
  immediate_sack = d.immediate_sack;
  stream_identifier = d.stream_identifier;
  stream_sequence_number = d.stream_sequence_number;
  payload_type = d.payload_type;
  user_data = d.user_data;
}

-- ## Calls for the application

pub none-reported : (call : SenderCall) (s : Session) → is_asking call ≡ true → IsReported call s
none-reported (outgoing.opens stream) s e = tt
none-reported (outgoing.sets_mode stream unordered reliability value) s e = tt
none-reported (outgoing.writes stream ppi bytes) s e = tt
none-reported (outgoing.sets_low stream bytes) s e = tt
none-reported (outgoing.sets_size size) s e = tt
none-reported outgoing.marks s e = tt
none-reported _ s e = absurd (false≢true e)

-- ## What is few in the end was few before

-- so many fragments more, and no fewer bytes
pub more-bytes : (call : SenderCall) (t : Transmission) (ws : List Write) → is_asking call ≡ true
    → fragments_by call t + bytes_of ws ≤ bytes_of (written_after call ws)
more-bytes (outgoing.opens stream) t ws e = omega arith
more-bytes (outgoing.sets_mode stream unordered reliability value) t ws e = omega arith
more-bytes (outgoing.writes stream ppi []) t ws e = let n = few-fragments (stream_of stream t) [] in omega (arith, n)
more-bytes (outgoing.writes stream ppi (b ∷ bytes)) t ws e =
    let n = few-fragments (stream_of stream t) (b ∷ bytes) in
    let sum = sum_by-cons (λ (w : Write). length w.bytes) (record { stream = stream; payload_type = ppi; bytes = b ∷ bytes }) ws in
    omega (arith, n, sum)
more-bytes (outgoing.sets_low stream bytes) t ws e = omega arith
more-bytes (outgoing.sets_size size) t ws e = omega arith
more-bytes outgoing.marks t ws e = omega arith
more-bytes _ t ws e = absurd (false≢true e)

few-as : (x y : Host) → y.fragments ≡ x.fragments → y.written ≡ x.written → WroteFew y → WroteFew x
few-as x y cut written few =
    let room = few.0 in
    (omega (arith, cut, room), subst (λ (ws : List Write). bytes_of ws < 2 ^ 64) written few.1)

pub few-before : (peer : List (List ℕ)) (act : Act) (x y : Host) → Acts peer act x y → WroteFew y → WroteFew x
few-before peer (asks call) x y h few =
    let cut = ap (λ (i : Host). i.fragments) h.after in
    let written = ap (λ (i : Host). bytes_of i.written) h.after in
    let more = more-bytes call x.sender x.written h.asking in
    let room = few.0 in
    let bytes = few.1 in
    (omega (arith, cut, room), omega (arith, written, more, bytes))
few-before peer (reads_on stream) x y h few = few-as x y (ap (λ (i : Host). i.fragments) h.after) (ap (λ (i : Host). i.written) h.after) few
few-before peer (polls is_sent datagram) x y h few =
    few-as x y (ap (λ (i : Host). i.fragments) h.after) (ap (λ (i : Host). i.written) h.after) few
few-before peer (handles datagram) x y h few = few-as x y (ap (λ (i : Host). i.fragments) h.after) (ap (λ (i : Host). i.written) h.after) few

pub both-few : (ms : List Move) (h new : Hosts) → MovesTo h ms new → WroteFew new.one → WroteFew new.other → WroteFew h.one × WroteFew h.other
both-few [] h new r one other = (subst (λ (k : Hosts). WroteFew k.one) r one, subst (λ (k : Hosts). WroteFew k.other) r other)
both-few (one_acts act ∷ ms) h new r one other =
    let k = both-few ms r.0 new r.1.1 one other in
    (few-before h.other.sent act h.one r.0.one r.1.0.0 k.0, subst WroteFew r.1.0.1 k.1)
both-few (other_acts act ∷ ms) h new r one other =
    let k = both-few ms r.0 new r.1.1 one other in
    (subst WroteFew r.1.0.1 k.0, few-before h.one.sent act h.other r.0.other r.1.0.0 k.1)

-- ## Fragments and bytes

abbrev IsCut : Host → Type 0
IsCut h = h.fragments ≤ bytes_of h.written

cut-as : (x y : Host) → y.fragments ≡ x.fragments → y.written ≡ x.written → IsCut x → IsCut y
cut-as x y cut written h = let same = ap bytes_of written in omega (arith, cut, same, h)

cut-by : (peer : List (List ℕ)) (act : Act) (x y : Host) → Acts peer act x y → IsCut x → IsCut y
cut-by peer (asks call) x y h cut =
    let more = more-bytes call x.sender x.written h.asking in
    let pieces = ap (λ (i : Host). i.fragments) h.after in
    let written = ap (λ (i : Host). bytes_of i.written) h.after in
    omega (arith, cut, more, pieces, written)
cut-by peer (reads_on stream) x y h cut = cut-as x y (ap (λ (i : Host). i.fragments) h.after) (ap (λ (i : Host). i.written) h.after) cut
cut-by peer (polls is_sent datagram) x y h cut = cut-as x y (ap (λ (i : Host). i.fragments) h.after) (ap (λ (i : Host). i.written) h.after) cut
cut-by peer (handles datagram) x y h cut = cut-as x y (ap (λ (i : Host). i.fragments) h.after) (ap (λ (i : Host). i.written) h.after) cut

cut-each : (ms : List Move) (h new : Hosts) → MovesTo h ms new → IsCut h.one → IsCut h.other → IsCut new.one × IsCut new.other
cut-each [] h new r one other = (subst (λ (k : Hosts). IsCut k.one) (sym r) one, subst (λ (k : Hosts). IsCut k.other) (sym r) other)
cut-each (one_acts act ∷ ms) h new r one other =
    cut-each ms r.0 new r.1.1 (cut-by h.other.sent act h.one r.0.one r.1.0.0 one) (subst IsCut (sym r.1.0.1) other)
cut-each (other_acts act ∷ ms) h new r one other =
    cut-each ms r.0 new r.1.1 (subst IsCut (sym r.1.0.1) one) (cut-by h.one.sent act h.other r.0.other r.1.0.0 other)

pub each-cut : EachIsCut
each-cut f b moves new run = cut-each moves (hosts (first_host f) (first_host b)) new run (omega arith) (omega arith)
