-- What an association does is what a host does.
use Rattle.std.proofs.Common.{◌≡◌, ◌+◌, ◌<◌, ◌≤◌, ℕ, Bool, true, false, List, [], ◌∷◌, map, Option, Some, None, refl, ap, sym, subst, ◌∙◌, arith}
use Rattle.std.specs.Prelude.{if◌then◌else◌}
use Rattle.sctp_association.proofs.Opened.{none-of}
use Rattle.sctp_association.specs.declared.association.Association.{Association}
use Rattle.sctp_association.specs.declared.inbound.Inbound.{Inbound}
use Rattle.sctp_association.specs.Arrivals.{Halves, new_sender}
use Rattle.sctp_association.specs.Asked.{calls_on}
use Rattle.sctp_association.specs.Halves.{expires_t3, fragment_size, marked, receiver_of}
use Rattle.sctp_association.specs.HostCalls.{ActsEach, EachAskActs, EachBegins, EachDatagramActs, EachOtherIsQuiet, EachPollActs, EachReadActs, EachSizeActs}
use Rattle.sctp_association.specs.HostCalls.{EachTimeoutActs, Log, acts_of_read, asked_of, host_of, no_log, read_of, sent_of}
use Rattle.sctp_association.specs.Hosts.{Host, asks, fragments_by, is_asking, reads_on}
use Rattle.sctp_association.specs.OneLife.{EachDatagramBrings}
use Rattle.sctp_association.specs.Reads.{AreReadOff, message_in}
use Rattle.sctp_delivery.specs.SenderCalls.{SenderCall, SenderMakes, SenderMakesEach, Write, marks, opens, sets_size, written_after}
use Rattle.sctp_receiver.specs.Receiver.{Reception, after_read, is_open, message_of, message_on, stream_of}
use Rattle.sctp_receiver.specs.ReceiverRuns.{with_message}
use Rattle.sctp_sender.specs.Sender.{Transmission, open_stream}
use Rattle.sctp_sender.specs.Sender as sender

-- a host whose halves are these, with this log
abbrev host_with : Transmission → Option Reception → Log → Host
host_with t r l =
    record { sender = t; receiver = r; written = l.written; read = l.read; sent = l.sent; fragments = l.fragments }

pub each-begins : EachBegins
each-begins w mtu a size e =
    ap (λ (t : Transmission). host_with t (receiver_of a.inbound) no_log)
    (ap (λ (h : Halves). h.sender) e ∙ sym (ap (λ (n : ℕ). new_sender w.tsn n w.max) size))
    ∙ ap (λ (r : Option Reception). host_with (new_sender w.tsn w.size w.max) r no_log) (ap (λ (h : Halves). h.receiver) e)

-- ## Calls of the sender

module _ (peer : List (List ℕ)) (call : SenderCall) (asking : is_asking call ≡ true) (a b : Association) (l : Log)
    (same : receiver_of b.inbound ≡ receiver_of a.inbound) where
  -- the same host, but for how its receiver and the fragments are said
  last : (n k : ℕ) → k ≡ n → host_of b (record l { written = written_after call l.written; fragments = k })
      ≡ record (host_of a l) { sender = b.outbound.sender; written = written_after call l.written; fragments = n }
  last n k e =
      ap (λ r. host_with b.outbound.sender r (record l { written = written_after call l.written; fragments = k })) same
      ∙ ap (λ j. host_with b.outbound.sender (receiver_of a.inbound) (record l { written = written_after call l.written; fragments = j })) e

  -- one call
  asked-one : (k : ℕ) → k ≡ l.fragments + fragments_by call a.outbound.sender → SenderMakes call a.outbound.sender b.outbound.sender
      → ActsEach peer (asks call ∷ []) (host_of a l) (host_of b (record l { written = written_after call l.written; fragments = k }))
  asked-one k e m = (
    host_of b (record l { written = written_after call l.written; fragments = k }),
    (record { asking = asking; makes = m; after = last (l.fragments + fragments_by call a.outbound.sender) k e }, refl),
  )

  -- behind the opening of its stream
  asked-two : (stream : ℕ) (mid : Transmission) (k : ℕ) → k ≡ l.fragments + fragments_by call mid → SenderMakes (opens stream) a.outbound.sender mid
      → SenderMakes call mid b.outbound.sender
      → ActsEach peer (asks (opens stream) ∷ asks call ∷ []) (host_of a l)
      (host_of b (record l { written = written_after call l.written; fragments = k }))
  asked-two stream mid k e o m =
      let none : l.fragments + 0 ≡ l.fragments = omega arith in (
        host_with mid (receiver_of a.inbound) l,
        (
          record { asking = refl; makes = o; after = ap (λ (j : ℕ). host_with mid (receiver_of a.inbound) (record l { fragments = j })) (sym none) },
          (
            host_of b (record l { written = written_after call l.written; fragments = k }),
            (record { asking = asking; makes = m; after = last (l.fragments + fragments_by call mid) k e }, refl),
          ),
        ),
      )

  asked : (stream : ℕ) → SenderMakesEach (calls_on stream call a.outbound.sender) a.outbound.sender b.outbound.sender
      → ActsEach peer (map asks (calls_on stream call a.outbound.sender)) (host_of a l) (host_of b (asked_of stream call a l))
  asked stream r = by (sender.is_open stream a.outbound.sender) r
    where
      by : (o : Bool) → SenderMakesEach (if o then call ∷ [] else opens stream ∷ call ∷ []) a.outbound.sender b.outbound.sender
          → ActsEach peer (map asks (if o then call ∷ [] else opens stream ∷ call ∷ [])) (host_of a l)
          (host_of b (record l {
            written = written_after call l.written;
            fragments = l.fragments + fragments_by call (if o then a.outbound.sender else open_stream stream a.outbound.sender);
          }))
      by true r =
          asked-one (l.fragments + fragments_by call a.outbound.sender) refl
          (subst (λ (u : Transmission). SenderMakes call a.outbound.sender u) (sym r.1.1) r.1.0)
      by false r =
          asked-two stream r.0 (l.fragments + fragments_by call (open_stream stream a.outbound.sender))
          (ap (λ (u : Transmission). l.fragments + fragments_by call u) (sym r.1.0.0)) r.1.0
          (subst (λ (u : Transmission). SenderMakes call r.0 u) (sym r.1.1.1.1) r.1.1.1.0)

pub each-ask-acts : EachAskActs
each-ask-acts stream call a b l asking r same peer = asked peer call asking a b l same stream r

-- a call that writes nothing
asked-alone : (call : SenderCall) → is_asking call ≡ true → (a b : Association) (l : Log) (peer : List (List ℕ))
    → written_after call l.written ≡ l.written → fragments_by call a.outbound.sender ≡ 0 → SenderMakes call a.outbound.sender b.outbound.sender
    → receiver_of b.inbound ≡ receiver_of a.inbound → ActsEach peer (asks call ∷ []) (host_of a l) (host_of b l)
asked-alone call asking a b l peer written none m same =
    subst (λ (ws : List Write). ActsEach peer (asks call ∷ []) (host_of a l) (host_of b (record l { written = ws }))) written
    (asked-one peer call asking a b l same l.fragments (omega (arith, none)) m)

pub each-size-acts : EachSizeActs
each-size-acts mtu a b l m peer =
    let size = fragment_size mtu in
    let some : 0 < size = omega arith in
    let few : size ≤ 65519 = omega arith in
    asked-alone (sets_size size) refl a b l peer refl refl (m.sender, (tt, ((some, few), tt))) m.receiver

-- nothing changes in a half
pub same-host : (a b : Association) (l : Log) → b.outbound.sender ≡ a.outbound.sender → receiver_of b.inbound ≡ receiver_of a.inbound
    → host_of b l ≡ host_of a l
same-host a b l t r =
    ap (λ (u : Transmission). host_with u (receiver_of b.inbound) l) t
    ∙ ap (λ (q : Option Reception). host_with a.outbound.sender q l) r

pub each-timeout-acts : EachTimeoutActs
each-timeout-acts now a b l m peer = by (expires_t3 now a) m.sender
  where
    by : (e : Bool) → b.outbound.sender ≡ (if e then marked a.outbound.sender else a.outbound.sender)
        → ActsEach peer (if e then asks marks ∷ [] else []) (host_of a l) (host_of b l)
    by true s = asked-alone marks refl a b l peer refl refl (s, (tt, (tt, tt))) m.receiver
    by false s = same-host a b l s m.receiver

-- ## Reading

-- a message is read, where the stream is open
read-by : (now stream : ℕ) (peer : List (List ℕ)) (l : Log) (t : Transmission) (o p : Option Inbound) → AreReadOff now stream o p
    → ActsEach peer (acts_of_read stream o) (host_with t (receiver_of o) l)
    (host_with t (receiver_of p) (record l { read = with_message stream (message_in stream o) l.read }))
read-by now stream peer l t None p r = ap (λ (q : Option Inbound). host_with t (receiver_of q) l) r
read-by now stream peer l t (Some i) None r = absurd r
read-by now stream peer l t (Some i) (Some j) r = by (is_open stream i.receiver) refl r.receiver
  where
    by : (e : Bool) → is_open stream i.receiver ≡ e → j.receiver ≡ (if e then after_read stream i.receiver else i.receiver)
        → ActsEach peer (if e then reads_on stream ∷ [] else []) (host_with t (Some i.receiver) l)
        (host_with t (Some j.receiver) (record l { read = with_message stream (message_on stream i.receiver) l.read }))
    by true open' new = (
      host_with t (Some j.receiver) (record l { read = with_message stream (message_on stream i.receiver) l.read }),
      (
        record {
          receiver = i.receiver;
          there = refl;
          is = open';
          after = ap (λ (r : Reception). host_with t (Some r) (record l { read = with_message stream (message_on stream i.receiver) l.read })) new;
        },
        refl,
      ),
    )
    by false shut new =
        ap (λ (r : Reception). host_with t (Some r) (record l { read = with_message stream (message_on stream i.receiver) l.read })) new
        ∙ ap (λ o. host_with t (Some i.receiver) (record l { read = with_message stream (message_of o) l.read })) (none-of (stream_of stream i.receiver) shut)

pub each-read-acts : EachReadActs
each-read-acts now stream a b l r beside peer =
    subst (λ (u : Transmission). ActsEach peer (acts_of_read stream a.inbound) (host_of a l) (host_with u (receiver_of b.inbound) (read_of stream a l)))
    (sym (ap (λ o. o.sender) beside.outbound)) (read-by now stream peer l a.outbound.sender a.inbound b.inbound r)

-- ## Datagrams

pub each-poll-acts : EachPollActs
each-poll-acts is_sent a b l t peer =
    (host_of b (sent_of is_sent b l), (record { before = a.draft.bytes; transmits = t; after = refl }, refl))

pub each-datagram-acts : EachDatagramActs
each-datagram-acts datagram a b l peer handed came =
    (record { handed = handed; arrives = came; after = refl }, λ w plain. plain)

pub each-datagram-brings : EachDatagramBrings
each-datagram-brings datagram a b l peer handed came =
    (record { handed = handed; arrives = came; after = refl }, λ w once. once, refl, λ out ages z young. young)

pub each-other-is-quiet : EachOtherIsQuiet
each-other-is-quiet a b l same peer = same-host a b l same.sender same.receiver
