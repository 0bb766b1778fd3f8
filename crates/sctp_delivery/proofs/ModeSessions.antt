-- In each session: each entry of the line is of the kind of its write, and so are the DATA chunks that were made and the messages that were read.
use Rattle.sctp_delivery.proofs.Names.{◌≡◌, ℕ, ◌+◌, Bool, true, false, List, [], ◌∷◌, map, Option, Some, None, is_some, refl, sym, subst, arith, ◌^◌, ◌<◌}
use Rattle.sctp_delivery.proofs.Names.{length, inl, inr, ap, ◌∙◌, not, find, if◌then◌else◌, ◌==◌, ⊤, Contains, option_map, slice_index_or, nat_tests, always}
use Rattle.sctp_delivery.proofs.Names.{numbers_where, change_where, pieces, same-yes, some-same, negated, not_both, both, PayloadProtocolIdentifier}
use Rattle.sctp_delivery.proofs.Names.{expiring_tail, message_of, Outbound, all_started, as_sent, ExpiredMessage, AbandonedMessage, Released}
use Rattle.sctp_delivery.proofs.Names.{message_to_abandon, after_leaving, late_order, worn_order, after_expiry, after_releases, has_number, less_by, with_mode}
use Rattle.sctp_delivery.proofs.Names.{with_reliability, with_size, wrote, Transmission, after_expire, written_to, Makes, OutboundStream, fragment_at, Mode}
use Rattle.sctp_delivery.proofs.Names.{Modes, Sending, at_first, mode_of_write, modes_after, reliable_mode, AfterEachFitRun, modes_from, numbered_in, starting}
use Rattle.sctp_delivery.proofs.Names.{Expires, ExpiresTail, IsAccepted, MakesExactly, SenderCall, abandons, as_run, expires, expires_late, expires_rexmit}
use Rattle.sctp_delivery.proofs.Names.{expires_tail, forwards, forwards_within, marks, opens, resends, reserves, sends, sets_low, sets_mode, sets_size, starts}
use Rattle.sctp_delivery.proofs.Names.{takes_sack, writes, length-map, none-some, ChunkPayloadData, Data, data_of, next_pending, Limits, ReceiverCall, Call}
use Rattle.sctp_delivery.proofs.Names.{ReceiverFollows, RunsTo, SenderFollows, Session, at_start, of_receiver, of_sender, common_steps, distance, Message}
use Rattle.sctp_delivery.proofs.Names.{tsns_given}
use Rattle.std.specs.Prelude.{drop}
use Rattle.sctp_sender.proofs.SenderStreams.{made}
use Rattle.sctp_stream.specs.Stream.{new_stream}
use Rattle.sctp_delivery.specs.Modes.{all_starting, with_mode_of, AreSentAsWritten, IsUnorderedAt, unknown, was_written_ordered}
use Rattle.sctp_delivery.specs.SenderCalls.{misses}
use Rattle.sctp_delivery.proofs.Every.{Every, every-changed, every-found, every-joined, every-mapped}
use Rattle.sctp_delivery.proofs.ModeQueues.{AreModed, HasModeOf, abandoned-moded, each-moded, expired-moded, fragments-new, marked-moded, message-moded}
use Rattle.sctp_delivery.proofs.ModeQueues.{missed-moded, resent-moded, sack-moded, sent-moded, started-moded, IsWaiting, numbered-at, numbered-more}
use Rattle.sctp_delivery.proofs.ModeQueues.{numbered-started}
use Rattle.sctp_delivery.proofs.Numbers.{number-is, AreSized}
use Rattle.sctp_delivery.proofs.Writing.{accepted-stream}
use Rattle.sctp_delivery.proofs.Changes.{expired-one}
use Rattle.sctp_delivery.specs.Messages.{IsPart as IsPartOf}
use Rattle.sctp_delivery.specs.SenderCalls as outgoing
use Rattle.sctp_delivery.proofs.Calls.{at-forgotten, forget, length-forgotten, numbered_after, sent_by}
use Rattle.sctp_delivery.proofs.Delivered.{Holds, at-first, found-sent, receiver-step, sender-step, IsReadOf, next_tsn}
use Rattle.sctp_delivery.proofs.FilledQueues.{IsFilled, filled-step}
use Rattle.sctp_delivery.proofs.OrderedPlaces.{AreNumbered, place-at}
use Rattle.sctp_delivery.proofs.Senders.{IsMoreBy}
use Rattle.sctp_delivery.proofs.Sent.{Entry, IsPart, Numbered, fragment, part-line, terminal}
use Rattle.sctp_delivery.proofs.QueueChunks.{AllWait, peeked}
use Rattle.sctp_delivery.proofs.OrderedMessages.{is_in_order}
use Rattle.sctp_delivery.proofs.SackLaws as sacks
use Rattle.sctp_delivery.proofs.SpreadCalls.{sender-spreads}
use Rattle.sctp_delivery.proofs.TsnPlaces.{base}
use Rattle.sctp_delivery.proofs.UnwrappedSessions.{IsUnwrapped, receiver-unwrapped, sender-answered, unwrapped-first}

-- # Each call of a sender, and how each stream and each chunk is sent after it

-- ## Streams

abbrev pub IsInModes : (ℕ → Mode) → OutboundStream → Type 0
IsInModes f l = HasModeOf (f l.stream_identifier) l

abbrev pub AreInModes : (ℕ → Mode) → List OutboundStream → Type 0
AreInModes f ls = Every (IsInModes f) ls

-- a change of a stream by which its mode stays
pub record KeepsMode (g : OutboundStream → OutboundStream) : Type 0 where
  pub number : (l : OutboundStream) → (g l).stream_identifier ≡ l.stream_identifier
  pub unordered : (l : OutboundStream) → (g l).unordered ≡ l.unordered
  pub reliability : (l : OutboundStream) → (g l).reliability_type ≡ l.reliability_type
  pub value : (l : OutboundStream) → (g l).reliability_value ≡ l.reliability_value

in-modes-kept : (f : ℕ → Mode) (g : OutboundStream → OutboundStream) → KeepsMode g → (l : OutboundStream) → IsInModes f l → IsInModes f (g l)
in-modes-kept f g k l h = grind (arith, nat_tests)

pub changed-in : (f : ℕ → Mode) (p : OutboundStream → Bool) (g : OutboundStream → OutboundStream) → KeepsMode g → (ls : List OutboundStream) → AreInModes f ls
    → AreInModes f (change_where p g ls)
changed-in f p g k ls h = every-changed (IsInModes f) p g (λ l _ i. in-modes-kept f g k l i) ls h

less-keeps : (bytes : ℕ) → KeepsMode (less_by bytes)
less-keeps bytes = record { number = λ l. refl; unordered = λ l. refl; reliability = λ l. refl; value = λ l. refl }

released-in : (f : ℕ → Mode) (rs : List Released) (ls : List OutboundStream) → AreInModes f ls → AreInModes f (after_releases rs ls)
released-in f [] ls h = h
released-in f (r ∷ rs) ls h =
    released-in f rs (change_where (has_number r.stream) (less_by r.bytes) ls) (changed-in f (has_number r.stream) (less_by r.bytes) (less-keeps r.bytes) ls h)

left-in : (f : ℕ → Mode) (gs : List AbandonedMessage) (ls : List OutboundStream) → AreInModes f ls → AreInModes f (after_leaving gs ls)
left-in f [] ls h = h
left-in f (g ∷ gs) ls h =
    left-in f gs (change_where (has_number g.stream) (less_by g.bytes) ls) (changed-in f (has_number g.stream) (less_by g.bytes) (less-keeps g.bytes) ls h)

expiry-keeps : (unordered : Bool) (bytes : ℕ) → KeepsMode (after_expiry unordered bytes)
expiry-keeps true bytes = record { number = λ l. refl; unordered = λ l. refl; reliability = λ l. refl; value = λ l. refl }
expiry-keeps false bytes = record { number = λ l. refl; unordered = λ l. refl; reliability = λ l. refl; value = λ l. refl }

-- the mode of another stream
elsewhere : (s : ℕ) (mode : Mode) (f : ℕ → Mode) (l : OutboundStream) → (l.stream_identifier == s) ≡ false → IsInModes f l
    → IsInModes (λ r. if r == s then mode else f r) l
elsewhere s mode f l e h = subst (λ b. HasModeOf (if b then mode else f l.stream_identifier) l) (sym e) h

-- a stream that was not open
opened-in : (s : ℕ) (mode : Mode) (f : ℕ → Mode) (ls : List OutboundStream) → is_some (find (has_number s) ls) ≡ false → AreInModes f ls
    → AreInModes (λ r. if r == s then mode else f r) ls
opened-in s mode f [] e h = tt
opened-in s mode f (l ∷ ls) e h = by (l.stream_identifier == s) refl e (λ g. opened-in s mode f ls g h.1)
  where
    by : (b : Bool) → (l.stream_identifier == s) ≡ b → is_some (if b then Some l else find (has_number s) ls) ≡ false
        → (is_some (find (has_number s) ls) ≡ false → AreInModes (λ r. if r == s then mode else f r) ls)
        → AreInModes (λ r. if r == s then mode else f r) (l ∷ ls)
    by true i g ih = absurd (not_both (sym g))
    by false i g ih = (elsewhere s mode f l i h.0, ih g)

-- the stream whose mode is set
set-in : (s : ℕ) (mode : Mode) (f : ℕ → Mode) (ls : List OutboundStream) → AreInModes f ls
    → AreInModes (λ r. if r == s then mode else f r) (change_where (has_number s) (with_mode mode.unordered mode.reliability mode.value) ls)
set-in s mode f [] h = tt
set-in s mode f (l ∷ ls) h = grind (arith, nat_tests, common_steps, set-in s mode f ls h.1)

-- ## The sender

pub record IsModed (m : Modes) (t : Transmission) : Type 0 where
  pub streams : AreInModes m.of_streams t.streams
  pub queue : AreModed m.of_writes t.flight.queue

pub moded-first : (tsn size max : ℕ) → IsModed at_first (Rattle.sctp_sender.specs.Sender.with_nothing tsn size max)
moded-first tsn size max = grind (arith, nat_tests)

module _ (m : Modes) (t : Transmission) (h : IsModed m t) where
  -- where the call makes this of it
  to : (k : Modes) (u v : Transmission) → u ≡ v → IsModed k v → IsModed k u
  to k u v e i = subst (IsModed k) (sym e) i

  expires-call : (now : ℕ) (x : Option ExpiredMessage) (u : Transmission) → Expires now x t u → IsModed m u
  expires-call now None u x = to m u t (x.1.1 refl) h
  expires-call now (Some e) u x =
      let i = expired-one now e t u x in
      to m u (after_expire i.0 e.bytes now t) i.2 (record {
        streams = changed-in m.of_streams (has_number i.0.stream_identifier)
            (after_expiry i.0.unordered e.bytes) (expiry-keeps i.0.unordered e.bytes) t.streams h.streams;
        queue = expired-moded m.of_writes (Some i.0) t.flight.queue h.queue;
      })

  abandons-call : (o : Option ℕ) (stream bytes : ℕ) (u : Transmission) → u ≡ Rattle.sctp_sender.specs.Sender.after_abandon o stream bytes t → IsModed m u
  abandons-call o stream bytes u e = grind (arith, nat_tests, abandoned-moded, changed-in, less-keeps)

  expires-tail-call : (now : ℕ) (x : Option AbandonedMessage) (u : Transmission) → ExpiresTail now x t u → IsModed m u
  expires-tail-call now None u x = to m u t (x.1 refl) h
  expires-tail-call now (Some a) u x = abandons-call (message_of (expiring_tail now t.flight.queue)) a.stream a.bytes u x.0

  abandons-all : (tsns : List ℕ) → IsModed m (Rattle.sctp_sender.specs.Late.after_abandoning tsns t)
  abandons-all tsns = grind (arith, nat_tests, each-moded, left-in)

  writes-call : (stream : ℕ) (ppi : PayloadProtocolIdentifier) (b : ℕ) (bs : List ℕ) (l : OutboundStream) → find (has_number stream) t.streams ≡ Some l
      → IsModed (modes_after (writes stream ppi (b ∷ bs)) m) (written_to l stream ppi (b ∷ bs) t)
  writes-call stream ppi b bs l found = record {
    streams = changed-in m.of_streams (has_number stream) (wrote ppi (b ∷ bs))
        (record { number = λ x. refl; unordered = λ x. refl; reliability = λ x. refl; value = λ x. refl }) t.streams h.streams;
    queue = message-moded w m.of_writes (made l ppi (b ∷ bs) 0)
        (map (with_reliability l.reliability_type l.reliability_value) (map (fragment_at l ppi (b ∷ bs)) (numbers_where always (0 + 1) later)))
        t.flight.queue refl (fragments-new (m.of_streams stream) l ppi (b ∷ bs) mode) h.queue;
  }
    where
      w : Sending
      w = record { mode = mode_of_write ppi (m.of_streams stream); started = None }

      later : ℕ
      later = length (pieces (length bs) l.max_payload_size (drop l.max_payload_size (b ∷ bs)))

      mode : HasModeOf (m.of_streams stream) l
      mode = subst (λ s. HasModeOf (m.of_streams s) l) (number-is stream t.streams l found)
          (every-found (IsInModes m.of_streams) (has_number stream) t.streams l found h.streams)

  pub moded-step : (call : SenderCall) (u : Transmission) → Makes (as_run call) t u → MakesExactly call t u → IsAccepted call t
      → IsModed (modes_after call m) u
  moded-step (opens stream) u e x a = to (modes_after (opens stream) m) u _ e (record {
    streams = every-joined (IsInModes (with_mode_of stream reliable_mode m).of_streams) t.streams
        (new_stream stream t.fragment_size ∷ []) (opened-in stream reliable_mode m.of_streams t.streams a h.streams)
        (fresh-mode, tt);
    queue = h.queue;
  })
    where
      fresh-mode : HasModeOf (if stream == stream then reliable_mode else m.of_streams stream)
          (new_stream stream t.fragment_size)
      fresh-mode = subst (λ b. HasModeOf (if b then reliable_mode else m.of_streams stream) (new_stream stream t.fragment_size))
          (sym (same-yes stream)) (record { unordered = refl; reliability = refl; value = refl })
  moded-step (sets_mode stream unordered reliability value) u e x a =
      to (modes_after (sets_mode stream unordered reliability value) m) u _ e (record {
        streams =
            set-in stream (record { unordered = unordered; reliability = reliability; value = value }) m.of_streams t.streams h.streams;
        queue = h.queue;
      })
  moded-step (writes stream ppi []) u e x a = to m u t (x.0 refl) h
  moded-step (writes stream ppi (b ∷ bs)) u e x a =
      let l = accepted-stream stream (length (b ∷ bs)) t a in
      to (modes_after (writes stream ppi (b ∷ bs)) m) u (written_to l.0 stream ppi (b ∷ bs) t) (x.1 (omega arith) l.0 l.1) (writes-call stream ppi b bs l.0 l.1)
  moded-step (starts now) u e x a =
      to (all_starting now m) u _ e (record { streams = h.streams; queue = (started-moded now m.of_writes t.flight.queue h.queue).0 })
  moded-step (sends now) u e x a =
      to (all_starting now m) u _ x (record { streams = h.streams; queue = sent-moded now t.flight.next_tsn m.of_writes t.flight.queue h.queue })
  moded-step (resends tsn now c) u e x a = to m u _ e (record { streams = h.streams; queue = resent-moded m.of_writes tsn now c t.flight h.queue })
  moded-step (abandons tsn y) u e x a = abandons-call (message_to_abandon tsn t.flight) y.stream y.bytes u x
  moded-step (expires now y) u e x a = expires-call now y u x
  moded-step (expires_tail now y) u e x a = expires-tail-call now y u x
  moded-step (expires_late now gone) u e x a = to m u _ x (abandons-all (late_order now t.flight))
  moded-step (expires_rexmit gone) u e x a = to m u _ x (abandons-all (worn_order t.flight))
  moded-step (forwards tsn f) u e x a = to m u t x h
  moded-step (forwards_within bytes f) u e x a = to m u t x h
  moded-step marks u e x a = to m u _ e (record { streams = h.streams; queue = marked-moded m.of_writes t.flight h.queue })
  moded-step (misses count) u e x a = to m u _ e (record { streams = h.streams; queue = missed-moded m.of_writes count t.flight h.queue })
  moded-step (sets_size size) u e x a = to m u _ e (record {
    streams = every-mapped (IsInModes m.of_streams) (IsInModes m.of_streams) (with_size size)
        (λ l i. in-modes-kept m.of_streams (with_size size)
        (record { number = λ x. refl; unordered = λ x. refl; reliability = λ x. refl; value = λ x. refl }) l i) t.streams h.streams;
    queue = h.queue;
  })
  moded-step (sets_low stream bytes) u e x a = grind (arith, nat_tests, changed-in)
  moded-step (reserves count) u e x a = grind (arith, nat_tests)
  moded-step (takes_sack sack gone) u e x a = grind (arith, nat_tests, released-in, sack-moded)

-- # In each session: each entry of the line is of the kind of its write, and so are the DATA chunks that were made and the messages that were read

-- ## Entries

-- the write with the number is of the kind
abbrev pub IsKindOf : List Sending → ℕ → Bool → Type 0
IsKindOf ws n unordered = (n < length ws) × (unordered ≡ (numbered_in n ws).mode.unordered)

-- each entry is of the kind of its write
abbrev pub AreOfKinds : List Sending → List Entry → Type 0
AreOfKinds ws [] = ⊤
AreOfKinds ws (terminal ∷ xs) = AreOfKinds ws xs
AreOfKinds ws (fragment d w after ∷ xs) = IsKindOf ws w.place d.unordered × AreOfKinds ws xs

-- writes that are added or started stay in their modes
abbrev pub KeepsModes : List Sending → List Sending → Type 0
KeepsModes ws vs = (n : ℕ) → n < length ws → (n < length vs) × ((numbered_in n vs).mode ≡ (numbered_in n ws).mode)

kinds-kept : (ws vs : List Sending) → KeepsModes ws vs → (sent : List Entry) → AreOfKinds ws sent → AreOfKinds vs sent
kinds-kept ws vs keep [] h = tt
kinds-kept ws vs keep (terminal ∷ xs) h = kinds-kept ws vs keep xs h
kinds-kept ws vs keep (fragment d w after ∷ xs) h =
    let k = keep w.place h.0.0 in ((k.0, h.0.1 ∙ ap (λ (m : Mode). m.unordered) (sym k.1)), kinds-kept ws vs keep xs h.1)

kinds-part : (ws : List Sending) (sent ys : List Entry) → IsPart ys sent → AreOfKinds ws sent → AreOfKinds ws ys
kinds-part ws [] ys p h = subst (AreOfKinds ws) (sym p) h
kinds-part ws (x ∷ xs) ys (inl e) h = subst (AreOfKinds ws) (sym e) h
kinds-part ws (terminal ∷ xs) ys (inr p) h = kinds-part ws xs ys p h
kinds-part ws (fragment d w after ∷ xs) ys (inr p) h = kinds-part ws xs ys p h.1

pub kind-of-part : (ws : List Sending) (sent : List Entry) (d : Data) (w : Numbered) (after : List ℕ) (xs : List Entry) → AreOfKinds ws sent
    → IsPart (fragment d w after ∷ xs) sent → IsKindOf ws w.place d.unordered
kind-of-part ws sent d w after xs h p = (kinds-part ws sent (fragment d w after ∷ xs) p h).0

keeps-same : (ws : List Sending) → KeepsModes ws ws
keeps-same ws n lt = (lt, refl)

keeps-more : (w : Sending) (ws : List Sending) → KeepsModes ws (w ∷ ws)
keeps-more w ws n lt = (omega (arith, lt), ap (λ (v : Sending). v.mode) (numbered-more w ws n lt))

keeps-started : (now : ℕ) (ws : List Sending) → KeepsModes ws (map (starting now) ws)
keeps-started now ws n lt = grind (arith, nat_tests, length-map, numbered-started)

pub keeps-after : (call : SenderCall) (m : Modes) → KeepsModes m.of_writes (modes_after call m).of_writes
keeps-after h0 h1 = grind (arith, nat_tests, common_steps, keeps-same, keeps-more, keeps-started)

-- as many writes as the session has
pub counts-after : (call : SenderCall) (m : Modes) (ns : List Numbered) → length m.of_writes ≡ length ns
    → length (modes_after call m).of_writes ≡ length (numbered_after call ns)
counts-after call m ns h4 = grind (arith, nat_tests, length-map)

-- ## One call

-- the sender, and what got TSNs, is as the calls say
pub record IsAsSaid (m : Modes) (s : Session) (ns : List Numbered) (sent : List Entry) : Type 0 where
  pub sender : IsModed m s.sending.sender
  pub kinds : AreOfKinds m.of_writes sent
  pub count : length m.of_writes ≡ length ns
  pub filled : AllWait IsFilled s.sending.sender.flight.queue.pending

-- the chunk that is sent is of the kind of its write
sent-kind : (call : SenderCall) (m : Modes) (t : Transmission) (c : ChunkPayloadData) → sent_by call t ≡ Some c → IsModed m t
    → IsKindOf (modes_after call m).of_writes c.message_id c.unordered
sent-kind (outgoing.sends now) m t c e h = by (next_pending q.pending) refl e
  where
    q : Outbound
    q = all_started now t.flight.queue

    ready : AreModed (map (starting now) m.of_writes) q
    ready = (started-moded now m.of_writes t.flight.queue h.queue).0

    by : (o : Option ChunkPayloadData) → next_pending q.pending ≡ o → option_map (as_sent t.flight.next_tsn now) o ≡ Some c
        → IsKindOf (map (starting now) m.of_writes) c.message_id c.unordered
    by None f g = absurd (none-some c g)
    by (Some x) f g =
        let w = peeked (IsWaiting (map (starting now) m.of_writes)) q.pending.selected q.pending x f (ready.ordered, ready.unordered) in
        subst (λ (y : ChunkPayloadData). IsKindOf (map (starting now) m.of_writes) y.message_id y.unordered) (some-same g) (w.0.0, w.0.1.kind)
sent-kind call m t c e h = absurd (none-some c e)

pub said-after : (call : SenderCall) (old new : Session) (m : Modes) (ns : List Numbered) (sent more : List Entry)
    → SenderFollows call old new → IsMoreBy (sent_by call old.sending.sender) sent more → AreSized old.sending.sender.streams
    → IsAsSaid m old ns sent → IsAsSaid (modes_after call m) new (numbered_after call ns) more
said-after call old new m ns sent more f grown sized h = record {
  sender = moded-step m old.sending.sender h.sender call new.sending.sender f.step.sender f.exact f.accepted;
  kinds = by (sent_by call old.sending.sender) refl grown;
  count = counts-after call m ns h.count;
  filled = filled-step call old.sending.sender new.sending.sender f.step.sender f.exact f.accepted sized h.filled;
}
  where
    vs : List Sending
    vs = (modes_after call m).of_writes

    kept : AreOfKinds vs sent
    kept = kinds-kept m.of_writes vs (keeps-after call m) sent h.kinds

    by : (o : Option ChunkPayloadData) → sent_by call old.sending.sender ≡ o → IsMoreBy o sent more → AreOfKinds vs more
    by o h2 h3 = grind (arith, nat_tests, kept, sent-kind, vs)

-- where the sender stays as it is, it is as the calls say still
pub said-beside : (d e : Session) (m : Modes) (ns : List Numbered) (sent : List Entry) → e.sending ≡ d.sending → IsAsSaid m d ns sent → IsAsSaid m e ns sent
said-beside d e m ns sent same h = grind (arith, nat_tests, common_steps)

pub said-first : (tsn size max most : ℕ) (limits : Option Limits) → IsAsSaid at_first (at_start tsn size max most limits) [] []
said-first tsn size max most limits = record { sender = moded-first tsn size max; kinds = tt; count = refl; filled = (tt, tt) }

-- ## Every session

-- the writes and entries of a session, where the calls say so of its writes
pub record HasSaid (first : ℕ) (m : Modes) (s : Session) : Type 0 where
  pub numbered : List Numbered
  pub sent : List Entry
  pub holds : Holds first s numbered sent
  pub said : IsAsSaid m s numbered sent

said-run : (first : ℕ) (cs : List Call) (old new : Session) (m : Modes) → RunsTo old cs new → HasSaid first m old → HasSaid first (modes_from m cs) new
said-run first [] old new m r h = subst (HasSaid first m) (sym r) h
said-run first (of_sender call ∷ cs) old new m r h =
    let x = sender-step first call old r.0 h.numbered h.sent r.1.0 h.holds in
    said-run first cs r.0 new (modes_after call m) r.1.1 (record {
      numbered = numbered_after call h.numbered;
      sent = x.more;
      holds = x.holds;
      said = said-after call old r.0 m h.numbered h.sent x.more r.1.0 x.grown h.holds.held.sized h.said;
    })
said-run first (of_receiver call ∷ cs) old new m r h = said-run first cs r.0 new m r.1.1 (record {
  numbered = h.numbered;
  sent = h.sent;
  holds = receiver-step first call old r.0 h.numbered h.sent r.1.0 h.holds;
  said = said-beside old r.0 m h.numbered h.sent (ap (λ (y : Session). y.sending) r.1.0.after) h.said;
})

pub said-in : (tsn size max most : ℕ) (limits : Option Limits) (cs : List Call) (s : Session) → tsn < 2 ^ 32 → 0 < size
    → RunsTo (at_start tsn size max most limits) cs s → HasSaid tsn (modes_from at_first cs) s
said-in tsn size max most limits cs s small some r = said-run tsn cs (at_start tsn size max most limits) s at_first r (record {
  numbered = [];
  sent = [];
  holds = at-first tsn size max most limits small some;
  said = said-first tsn size max most limits;
})

-- ## The law

module _ (m : Modes) (s : Session) (ns : List Numbered) (sent : List Entry) (h : IsAsSaid m s ns sent) (placed : AreNumbered ns) where
  -- an entry is of the kind of the write at its place
  pub kind-at : (d : Data) (w : Numbered) (after : List ℕ) (xs : List Entry) (c : Contains ns w) → IsPart (fragment d w after ∷ xs) sent
      → IsUnorderedAt m.of_writes c.0 d.unordered
  kind-at d w after xs c p v = grind (arith, nat_tests, kind-of-part, numbered-at, place-at)

pub sent-as-written : AfterEachFitRun AreSentAsWritten
sent-as-written tsn size max most limits cs s small some r = (
  h.said.count ∙ sym (length-forgotten h.numbered) ∙ ap length h.holds.writes,
  λ d c.
      let x = found-sent h.sent s.made d h.holds.made c in
      let f = (part-line h.numbered tsn h.sent (fragment d x.0 x.1 ∷ x.2) x.3 h.holds.held.stands.queued.line).0 in
      let at = f.written in
      let long = length-forgotten h.numbered in
      let total = ap length h.holds.writes in (
        at.0,
        (let lt = at.1 in omega (arith, lt, long, total)),
        λ w.
            let is : slice_index_or s.written at.0 w ≡ forget x.0 =
            ap (λ ws. slice_index_or ws at.0 w) (sym h.holds.writes) ∙ at-forgotten h.numbered at.0 x.0 w at.1 at.2 in
            subst (IsPartOf d) (sym is) (record { stream = f.stream; payload_type = f.payload; bytes = (f.part.0, x.1, f.part.1) }),
        kind-at (modes_from at_first cs) s h.numbered h.sent h.said h.holds.placed d x.0 x.1 x.2 at x.3,
      ),
)
  where
    h : HasSaid tsn (modes_from at_first cs) s
    h = said-in tsn size max most limits cs s small some r

-- # What was written in ordered mode is read in the order of the writes

-- ## Sessions of few TSNs

-- the writes and entries of a session in which what is read is in turn, where the calls say so of its writes
pub record HasSaidOfFew (first n : ℕ) (m : Modes) (s : Session) : Type 0 where
  pub numbered : List Numbered
  pub sent : List Entry
  pub unwrapped : IsUnwrapped first n s numbered sent
  pub said : IsAsSaid m s numbered sent

-- one call more
pub said-then : (first n : ℕ) (call : SenderCall) (old new : Session) (m : Modes) → n + distance (next_tsn old) (next_tsn new) < 2 ^ 31
    → SenderFollows call old new → HasSaidOfFew first n m old
    → HasSaidOfFew first (n + distance (next_tsn old) (next_tsn new)) (modes_after call m) new
said-then first n call old new m few f h =
    let i = h.unwrapped in
    let x = sender-spreads first n call old new h.numbered h.sent i.spread few f in
    record {
      numbered = numbered_after call h.numbered;
      sent = x.more;
      unwrapped = record {
        spread = x.spread;
        answered = λ st. sender-answered st first n call old new h.numbered h.sent i.spread few f x (i.answered st);
      };
      said = said-after call old new m h.numbered h.sent x.more f x.grown i.spread.holds.held.sized h.said;
    }

pub still-then : (first n : ℕ) (call : ReceiverCall) (old new : Session) (m : Modes) → n < 2 ^ 31 → ReceiverFollows call old new
    → HasSaidOfFew first n m old → HasSaidOfFew first n m new
still-then first n call old new m few f h = record {
  numbered = h.numbered;
  sent = h.sent;
  unwrapped = receiver-unwrapped first n call old new h.numbered h.sent few f h.unwrapped;
  said = said-beside old new m h.numbered h.sent (ap (λ (y : Session). y.sending) f.after) h.said;
}

-- none is given out by a call of the receiver
pub none-given : (first n : ℕ) (call : ReceiverCall) (old new : Session) (m : Modes) → ReceiverFollows call old new → HasSaidOfFew first n m old
    → distance (next_tsn old) (next_tsn new) ≡ 0
none-given first n call old new m f h =
    sacks.no-move (base first) n old new (ap (λ (s : Session). s.sending) f.after) h.unwrapped.spread.step.numbered

few-run : (first n : ℕ) (cs : List Call) (old new : Session) (m : Modes) (r : RunsTo old cs new) → n + tsns_given old cs new r < 2 ^ 31
    → HasSaidOfFew first n m old → HasSaidOfFew first (n + tsns_given old cs new r) (modes_from m cs) new
few-run first n [] old new m r few h =
    subst (λ k. HasSaidOfFew first k m new) {x = n} {y = n + 0} (omega arith) (subst (HasSaidOfFew first n m) (sym r) h)
few-run first n (of_sender call ∷ cs) old new m r few h =
    let d = distance (next_tsn old) (next_tsn r.0) in
    let sum : (n + d) + tsns_given r.0 cs new r.1.1 ≡ n + (d + tsns_given r.0 cs new r.1.1) = omega arith in
    subst (λ k. HasSaidOfFew first k (modes_from (modes_after call m) cs) new) sum
    (few-run first (n + d) cs r.0 new (modes_after call m) r.1.1 (omega (arith, few)) (said-then first n call old r.0 m (omega (arith, few)) r.1.0 h))
few-run first n (of_receiver call ∷ cs) old new m r few h =
    let ih = few-run first n cs r.0 new m r.1.1 (omega (arith, few)) (still-then first n call old r.0 m (omega (arith, few)) r.1.0 h) in
    grind (arith, common_steps, none-given, still-then, ih)

pub few-start : (tsn size max most : ℕ) (limits : Option Limits) → tsn < 2 ^ 32 → 0 < size
    → HasSaidOfFew tsn 0 at_first (at_start tsn size max most limits)
few-start tsn size max most limits small some = record {
  numbered = [];
  sent = [];
  unwrapped = unwrapped-first tsn size max most limits small some;
  said = said-first tsn size max most limits;
}

pub said-of-few : (tsn size max most : ℕ) (limits : Option Limits) (cs : List Call) (s : Session) → tsn < 2 ^ 32 → 0 < size
    → (r : RunsTo (at_start tsn size max most limits) cs s) → tsns_given (at_start tsn size max most limits) cs s r < 2 ^ 31
    → HasSaidOfFew tsn (tsns_given (at_start tsn size max most limits) cs s r) (modes_from at_first cs) s
said-of-few tsn size max most limits cs s small some r few =
    let n = tsns_given (at_start tsn size max most limits) cs s r in
    subst (λ k. HasSaidOfFew tsn k (modes_from at_first cs) s) {x = 0 + n} {y = n} (omega arith)
    (few-run tsn 0 cs (at_start tsn size max most limits) s at_first r (omega (arith, few)) (few-start tsn size max most limits small some))

-- ## The law

-- a message whose write is ordered begins with an ordered fragment
pub starts-ordered : (m : Modes) (s : Session) (ns : List Numbered) (sent : List Entry) → IsAsSaid m s ns sent → AreNumbered ns → (st : ℕ) (o : Message)
    (x : IsReadOf ns sent o) → was_written_ordered m.of_writes st o x.written.0 ≡ true → (x.chunk.unordered ≡ false) × (is_in_order st o ≡ true)
starts-ordered m s ns sent said placed st o x h =
    let b = both (o.stream == st) (not (slice_index_or m.of_writes x.written.0 unknown).mode.unordered) h in
    let kind = kind-at m s ns sent said placed (data_of x.chunk) x.numbered x.after x.entries x.written x.part unknown in
    let ordered : x.chunk.unordered ≡ false = sym kind ∙ negated (slice_index_or m.of_writes x.written.0 unknown).mode.unordered b.1 in
    grind (arith, nat_tests)
