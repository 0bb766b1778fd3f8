-- The counters of each open stream are sums over what was written to it.
use Rattle.sctp_delivery.proofs.Names.{◌≡◌, ℕ, ◌-◌, ◌^◌, Bool, true, false, List, [], ◌∷◌, length, Option, Some, None, is_some, refl, ap, sym, subst, ◌∙◌}
use Rattle.sctp_delivery.proofs.Names.{arith, find, min, sum_by, sum_by-cons, nat_tests, common_steps, change_where, same-is, not_both}
use Rattle.sctp_delivery.proofs.Names.{PayloadProtocolIdentifier, ExpiredMessage, Released, AbandonedMessage, after_leaving, late_order, leaving_each}
use Rattle.sctp_delivery.proofs.Names.{worn_order, after_expiry, after_releases, has_number, less_by, with_size, wrote, Transmission, Makes, OutboundStream}
use Rattle.sctp_delivery.proofs.Names.{AfterEachFitSession, Expires, IsAccepted, MakesExactly, SenderCall, Write, abandons, as_run, expires, expires_late}
use Rattle.sctp_delivery.proofs.Names.{expires_rexmit, expires_tail, forwards, forwards_within, opens, sends, sets_low, sets_mode, sets_size, takes_sack}
use Rattle.sctp_delivery.proofs.Names.{writes, written_after, Call, RunsTo, Session, at_start, of_receiver, of_sender}
use Rattle.sctp_sender.specs.Flight as flight
use Rattle.sctp_delivery.specs.Counters.{AreSums, bytes_on, messages_on}
use Rattle.sctp_delivery.proofs.Calls.{forgotten, numbered_after}
use Rattle.sctp_delivery.proofs.Delivered.{Holds, at-first, receiver-step, sender-step}
use Rattle.sctp_delivery.proofs.Every.{Every, all-of-every, every-changed, every-joined, every-mapped}
use Rattle.sctp_delivery.proofs.Numbers.{found-there, is_there}
use Rattle.sctp_delivery.proofs.Sent.{Entry, Numbered}
use Rattle.sctp_delivery.proofs.Writing.{accepted-stream}
use Rattle.sctp_delivery.proofs.Changes.{expired-one}

-- ## One stream

-- as `HasSums`, of these writes
pub record Counts (ws : List Write) (l : OutboundStream) : Type 0 where
  pub messages : l.stats.messages_sent ≡ min (sum_by (messages_on l.stream_identifier) ws) (2 ^ 64 - 1)
  pub bytes : l.stats.bytes_sent ≡ min (sum_by (bytes_on l.stream_identifier) ws) (2 ^ 64 - 1)

-- a change by which the counters stay
record KeepsCounts (g : OutboundStream → OutboundStream) : Type 0 where
  number : (l : OutboundStream) → (g l).stream_identifier ≡ l.stream_identifier
  stats : (l : OutboundStream) → (g l).stats ≡ l.stats

counts-kept : (ws : List Write) (g : OutboundStream → OutboundStream) → KeepsCounts g → (l : OutboundStream) → Counts ws l → Counts ws (g l)
counts-kept ws g k l h = grind (arith, nat_tests)

changed-counts : (ws : List Write) (p : OutboundStream → Bool) (g : OutboundStream → OutboundStream) → KeepsCounts g → (ls : List OutboundStream)
    → Every (Counts ws) ls → Every (Counts ws) (change_where p g ls)
changed-counts ws p g k ls h = every-changed (Counts ws) p g (λ l _ i. counts-kept ws g k l i) ls h

less-keeps : (bytes : ℕ) → KeepsCounts (less_by bytes)
less-keeps bytes = record { number = λ l. refl; stats = λ l. refl }

released-counts : (ws : List Write) (rs : List Released) (ls : List OutboundStream) → Every (Counts ws) ls → Every (Counts ws) (after_releases rs ls)
released-counts ws [] ls h = h
released-counts ws (r ∷ rs) ls h =
    released-counts ws rs (change_where (has_number r.stream) (less_by r.bytes) ls)
    (changed-counts ws (has_number r.stream) (less_by r.bytes) (less-keeps r.bytes) ls h)

left-counts : (ws : List Write) (gs : List AbandonedMessage) (ls : List OutboundStream) → Every (Counts ws) ls → Every (Counts ws) (after_leaving gs ls)
left-counts ws [] ls h = h
left-counts ws (g ∷ gs) ls h =
    left-counts ws gs (change_where (has_number g.stream) (less_by g.bytes) ls)
    (changed-counts ws (has_number g.stream) (less_by g.bytes) (less-keeps g.bytes) ls h)

expiry-keeps : (unordered : Bool) (bytes : ℕ) → KeepsCounts (after_expiry unordered bytes)
expiry-keeps true bytes = record { number = λ l. refl; stats = λ l. refl }
expiry-keeps false bytes = record { number = λ l. refl; stats = λ l. refl }

-- ## A write

module _ (stream : ℕ) (ppi : PayloadProtocolIdentifier) (bytes : List ℕ) (ws : List Write) where
  abbrev w : Write
  w = record { stream = stream; payload_type = ppi; bytes = bytes }

  written-counts : (ls : List OutboundStream) → Every (Counts ws) ls → Every (Counts (w ∷ ws)) (change_where (has_number stream) (wrote ppi bytes) ls)
  written-counts [] h = tt
  written-counts (l ∷ ls) h = grind (arith, nat_tests, common_steps, written-counts ls h.1)

-- ## A stream that is opened

-- each write is on a stream that is open
abbrev AreThere : List OutboundStream → List Numbered → Type 0
AreThere ls ns = Every (λ n. is_there n.stream ls ≡ true) ns

-- nothing was written to a stream that is not open
none-on : (s : ℕ) (ls : List OutboundStream) (ns : List Numbered) → is_some (find (has_number s) ls) ≡ false → AreThere ls ns
    → (sum_by (messages_on s) (forgotten ns) ≡ 0) × (sum_by (bytes_on s) (forgotten ns) ≡ 0)
none-on s ls [] e o = (refl, refl)
none-on s ls (n ∷ ns) e o = grind (arith, nat_tests, found-there, is_some, not_both, same-is, sum_by-cons, none-on s ls ns e o.1)

-- ## The calls

module _ (t : Transmission) (ns : List Numbered) (o : AreThere t.streams ns) (h : Every (Counts (forgotten ns)) t.streams) where
  to : (ws : List Write) (u v : Transmission) → u ≡ v → Every (Counts ws) v.streams → Every (Counts ws) u.streams
  to ws u v e i = subst (λ (x : Transmission). Every (Counts ws) x.streams) (sym e) i

  expires-call : (now : ℕ) (x : Option ExpiredMessage) (u : Transmission) → Expires now x t u → Every (Counts (forgotten ns)) u.streams
  expires-call now x u h4 = grind (arith, nat_tests, changed-counts, expired-one, expiry-keeps)

  less-call : (stream bytes : ℕ) → Every (Counts (forgotten ns)) (change_where (has_number stream) (less_by bytes) t.streams)
  less-call stream bytes = changed-counts (forgotten ns) (has_number stream) (less_by bytes) (less-keeps bytes) t.streams h

  counts-call : (call : SenderCall) (u : Transmission) → Makes (as_run call) t u → MakesExactly call t u → IsAccepted call t
      → Every (Counts (written_after call (forgotten ns))) u.streams
  counts-call (opens stream) u e x a = grind (arith, nat_tests, every-joined, none-on)
  counts-call (sets_mode stream unordered reliability value) u e x a = grind (arith, nat_tests, changed-counts)
  counts-call (writes stream ppi []) u e x a = to (forgotten ns) u t (x.0 refl) h
  counts-call (writes stream ppi (b ∷ bs)) u e x a =
      let l = accepted-stream stream (length (b ∷ bs)) t a in
      to (written_after (writes stream ppi (b ∷ bs)) (forgotten ns)) u _ (x.1 (omega arith) l.0 l.1)
      (written-counts stream ppi (b ∷ bs) (forgotten ns) t.streams h)
  counts-call (sends now) u e x a = to (forgotten ns) u _ x h
  counts-call (abandons tsn y) u e x a = to (forgotten ns) u _ x (less-call y.stream y.bytes)
  counts-call (expires now y) u e x a = expires-call now y u x
  counts-call (expires_tail now None) u e x a = to (forgotten ns) u _ (x.1 refl) h
  counts-call (expires_tail now (Some y)) u e x a = to (forgotten ns) u _ x.0 (less-call y.stream y.bytes)
  counts-call (expires_late now gone) u e x a =
      to (forgotten ns) u _ x (left-counts (forgotten ns) (leaving_each (late_order now t.flight) t.flight) t.streams h)
  counts-call (expires_rexmit gone) u e x a =
      to (forgotten ns) u _ x (left-counts (forgotten ns) (leaving_each (worn_order t.flight) t.flight) t.streams h)
  counts-call (forwards tsn f) u e x a = to (forgotten ns) u _ x h
  counts-call (forwards_within bytes f) u e x a = to (forgotten ns) u _ x h
  counts-call (sets_size size) u e x a = to (forgotten ns) u _ e
      (every-mapped (Counts (forgotten ns)) (Counts (forgotten ns)) (with_size size)
      (λ l i. counts-kept (forgotten ns) (with_size size) (record { number = λ k. refl; stats = λ k. refl }) l i) t.streams h)
  counts-call (sets_low stream bytes) u e x a = grind (arith, nat_tests, common_steps, changed-counts)
  counts-call (takes_sack sack gone) u e x a =
      to (forgotten ns) u _ x (released-counts (forgotten ns) (flight.released_by sack t.flight) t.streams h)
  counts-call call u e x a = to (forgotten ns) u _ e h

-- ## Every session

counts-run : (first : ℕ) (cs : List Call) (old new : Session) (ns : List Numbered) (sent : List Entry) → RunsTo old cs new → Holds first old ns sent
    → Every (Counts old.written) old.sending.sender.streams → Every (Counts new.written) new.sending.sender.streams
counts-run first [] old new ns sent r h e = subst (λ (s : Session). Every (Counts s.written) s.sending.sender.streams) (sym r) e
counts-run first (of_sender call ∷ cs) old new ns sent r h e =
    let f = r.1.0 in
    let x = sender-step first call old r.0 ns sent f h in
    let next : Every (Counts (written_after call (forgotten ns))) r.0.sending.sender.streams =
    counts-call old.sending.sender ns h.held.open' (subst (λ ws. Every (Counts ws) old.sending.sender.streams) (sym h.writes) e) call
    r.0.sending.sender f.step.sender f.exact f.accepted in
    counts-run first cs r.0 new (numbered_after call ns) x.more r.1.1 x.holds
    (subst (λ ws. Every (Counts ws) r.0.sending.sender.streams)
    (ap (written_after call) h.writes ∙ sym (ap (λ (s : Session). s.written) f.after)) next)
counts-run first (of_receiver call ∷ cs) old new ns sent r h e =
    counts-run first cs r.0 new ns sent r.1.1 (receiver-step first call old r.0 ns sent r.1.0 h)
    (subst (λ (s : Session). Every (Counts s.written) s.sending.sender.streams) (sym r.1.0.after) e)

pub are-sums : AfterEachFitSession AreSums
are-sums tsn size max most limits cs s small some r k d lt =
    let h = all-of-every (Counts s.written) s.sending.sender.streams
    (counts-run tsn cs (at_start tsn size max most limits) s [] [] r (at-first tsn size max most limits small some) tt) k d lt in
    record { messages = h.messages; bytes = h.bytes }
