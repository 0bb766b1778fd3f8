-- A message is abandoned: what the outbound queue answers.
use Rattle.sctp_model.proofs.Names.{◌≡◌, ℕ, ◌+◌, ◌-◌, ◌<◌, ◌^◌, Bool, true, false, [], ◌∷◌, length, length-append, Option, Some, None, refl, ap, sym, ◌∙◌}
use Rattle.sctp_model.proofs.Names.{arith, if◌then◌else◌, ◌==◌, ◌&&◌, not, nat_lt, find, is_some, option_map, subst, lt-ltb, nat_tests, ChunkPayloadData}
use Rattle.sctp_model.proofs.Names.{has_tsn, next_pending, Outbound, to_abandon, abandoned_of, tsn_after_of, has_tail, total_bytes, expiring_tail, Event}
use Rattle.sctp_model.proofs.Names.{NotInFlight, LinkRecord, Slot, message_at, message_of, tsn_of, place_of, sent_of, fragment_count, deadline_of}
use Rattle.sctp_model.proofs.Names.{is_past_deadline, is_partially_sent, is_in_flight, growth, after_abandon, tailing, after_tail, front_if, IsRight}
use Rattle.sctp_model.proofs.Names.{refusal_of, reply_to, tail_reply, after, record_of, held_bytes, RefinesOutbound, some-same, is_past}
use Rattle.sctp_model.proofs.sender.SenderRun.{unless-holds, consistent-run}
use Rattle.sctp_model.proofs.sender.Fronts.{front-takes}
use Rattle.sctp_model.proofs.sender.Shape.{shape}
use Rattle.sctp_model.proofs.refinement.abandonment.AbandonedLink.{terminal_of, abandoned-is}
use Rattle.sctp_model.proofs.refinement.Histories.{stands-then, Sends, facts, over}
use Rattle.sctp_model.proofs.refinement.abandonment.ChunkStreams.{flying-answer, tail-stream}
use Rattle.sctp_model.proofs.refinement.abandonment.Released.{growth-abandon, growth-tail}
use Rattle.sctp_model.proofs.sender.SenderSteps.{is-partial}
use Rattle.sctp_outbound.specs.outbound_queue.OutboundQueue as queue
use Rattle.sctp_model.specs.declared.event.Event.TheVariants as E
use Rattle.sctp_model.specs.Reply as R
use Rattle.sctp_model.proofs.sender.Few
use Rattle.sctp_model.proofs.refinement.abandonment.AbandonedBytes.{bytes-abandon, bytes-tail}
use Rattle.sctp_model.proofs.refinement.abandonment.AbandonedEvents.{refines-abandon, next-abandon, refines-tail, next-tail, tail-is, tail-tsn}
use Rattle.sctp_model.proofs.refinement.sending.Flying.{flying}
use Rattle.sctp_model.proofs.refinement.sending.NextFragment.{Next, next-is, none-next}
use Rattle.sctp_model.proofs.refinement.sending.FlyingTsn.{place-made, low, back, there}

-- the event abandons the message: its stream, the bytes that left, the queue and the next TSN then
pub record Gives (w : LinkRecord) (had : Outbound) (e : Event) (n s bytes : ℕ) (q : Outbound) (next : ℕ) : Type 0 where
  pub is : after w e ≡ after_abandon w n
  pub made : n < length w.messages
  pub stream : s ≡ (message_at w n).stream
  pub held : bytes ≡ held_bytes w n
  pub grows : bytes ≡ growth w (after_abandon w n)
  pub refines : RefinesOutbound (after_abandon w n) q
  pub unstarted : q.next_unstarted ≡ had.next_unstarted
  pub next_is : next ≡ tsn_of (after_abandon w n) (length (after_abandon w n).slots)

unstarted-same : (o : Option ℕ) (tsn : ℕ) (q : Outbound) → (abandoned_of o tsn q).next_unstarted ≡ q.next_unstarted
unstarted-same None tsn q = refl
unstarted-same (Some n) tsn q = refl

-- where the message is partially sent its terminal chunk takes a slot, so a further TSN may be given out
partial-fits : {w : LinkRecord} {had : Outbound} {coming : ℕ} (l : Sends w had coming) (e : Event) (n : ℕ) → refusal_of w e ≡ None
    → after w e ≡ after_abandon w n → is_partially_sent w n ≡ true → nat_lt (length had.inflight.chunks + 1) (2 ^ 31) ≡ true
partial-fits {w} {had} l e n ok is partial =
    let s = stands-then e ok l.told.stands in
    let few = Few.few w.setup (record_of w.setup ((e, reply_to w e) ∷ l.told.history))
    (consistent-run w.setup ((e, reply_to w e) ∷ l.told.history) s.run) in
    let count : length (record_of w.setup ((e, reply_to w e) ∷ l.told.history)).slots ≡ length w.slots + 1 =
    ap (λ u. length u.slots) (sym s.is ∙ is ∙ abandoned-is w n) ∙ length-append w.slots (terminal_of w n)
    ∙ ap (λ b. length w.slots + length {A = Slot} (if b
    then record { message = n; fragment = sent_of w n; is_terminal_chunk = true; arrived = false; acknowledged = false } ∷ [] else [])) partial in
    lt-ltb _ _ (omega (arith, few, count, flying w had l.outbound))

-- ## The message of a TSN in flight

module _ {w : LinkRecord} {had : Outbound} {coming : ℕ} (l : Sends w had coming) (tsn : ℕ) (fits : tsn < 2 ^ 32)
    (ok : refusal_of w (E.Abandon tsn) ≡ None) where
  abbrev p : ℕ
  p = place_of w tsn

  abbrev n : ℕ
  n = message_of w (place_of w tsn)

  flies : is_in_flight w p ≡ true
  flies = (unless-holds (is_in_flight w p) NotInFlight None ok).0

  pub high : p < length w.slots
  high = place-made w tsn flies

  pub made : n < length w.messages
  made = (facts l.told).consistent.sender.made p high

  pub partial-tail : has_tail (to_abandon (find (has_tsn tsn) had.inflight.chunks)) had ≡ is_partially_sent w n
  partial-tail =
      let f = facts l.told in
      cc (back l tsn fits flies, tail-tsn w.setup w p had f.consistent (low l tsn fits flies) high l.outbound)

  -- the queue answers
  pub held : is_some (find (has_tsn tsn) had.inflight.chunks) ≡ true
  held = ap is_some (there l tsn fits flies)

  pub tail-fits : has_tail (to_abandon (find (has_tsn tsn) had.inflight.chunks)) had ≡ true
      → nat_lt (length had.inflight.chunks + 1) (2 ^ 31) ≡ true
  tail-fits tail = partial-fits l (E.Abandon tsn) n ok refl (sym partial-tail ∙ tail)

  -- the stream that the queue answers is the message's
  pub stream-is : (s : ℕ) → Some s ≡ option_map (λ (c : ChunkPayloadData). c.stream_identifier) (find (has_tsn tsn) had.inflight.chunks)
      → s ≡ (message_at w (message_of w (place_of w tsn))).stream
  stream-is s e = some-same (e ∙ flying-answer w.setup w tsn had (facts l.told).consistent l.told.setup.first fits flies l.outbound)

  pub gives : (s bytes : ℕ) (q : Outbound) (next : ℕ) → Some s ≡ option_map (λ (c : ChunkPayloadData). c.stream_identifier)
      (find (has_tsn tsn) had.inflight.chunks) → q ≡ abandoned_of (to_abandon (find (has_tsn tsn) had.inflight.chunks)) coming had
      → next ≡ tsn_after_of (to_abandon (find (has_tsn tsn) had.inflight.chunks)) coming had → total_bytes q + bytes ≡ total_bytes had
      → Gives w had (E.Abandon tsn) n s bytes q next
  gives s bytes q next es eq en eb =
      let f = facts l.told in
      let g = f.consistent in
      let o = to_abandon (find (has_tsn tsn) had.inflight.chunks) in
      let here : q ≡ abandoned_of o (tsn_of w (length w.slots)) had = eq ∙ ap (λ t. abandoned_of o t had) l.next in
      let left = over (λ u. (r : Outbound) → refusal_of u (E.Abandon tsn) ≡ None → RefinesOutbound u r → growth u (after u (E.Abandon tsn))
      ≡ total_bytes r - total_bytes (abandoned_of (to_abandon (find (has_tsn tsn) r.inflight.chunks)) (tsn_of u (length u.slots)) r)) l.told
      (λ r ok' t. bytes-abandon w.setup l.told.history l.told.setup l.told.stands.run r t tsn fits ok') had ok l.outbound in
      let held = growth-abandon w.setup w tsn g ok l.told.setup in
      let same = ap total_bytes here in
      record {
        is = refl;
        made = made;
        stream = stream-is s es;
        held = omega (arith, left, held, same, eb);
        grows = omega (arith, left, same, eb);
        refines = subst (RefinesOutbound (after_abandon w n)) (sym here) (refines-abandon w.setup w tsn had g l.told.setup.first fits ok l.outbound);
        unstarted = ap (λ (r : Outbound). r.next_unstarted) eq ∙ unstarted-same o coming had;
        next_is = en ∙ ap (λ t. tsn_after_of o t had) l.next ∙ next-abandon w.setup w tsn had g l.told.setup.first fits ok l.outbound;
      }

-- ## The message in front

module _ {w : LinkRecord} {had : Outbound} {coming : ℕ} (l : Sends w had coming) (now : ℕ) where
  pub none-tails : next_pending had.pending ≡ None → tailing w now ≡ None
  none-tails e = ap (front_if w (λ n. is_partially_sent w n && is_past_deadline w now n)) (none-next l e)

  module _ (c : ChunkPayloadData) (e : next_pending had.pending ≡ Some c) where
    abbrev k : ℕ
    k = c.message_id

    next : Next w c
    next = next-is l c e

    begins-is : c.beginning_fragment ≡ (sent_of w k == 0)
    begins-is = ap (λ (d : ChunkPayloadData). d.beginning_fragment) next.is

    partial-is : not c.beginning_fragment ≡ is_partially_sent w k
    partial-is = ap not begins-is ∙ by (sent_of w k == 0) refl
      where
        by : (b : Bool) → (sent_of w k == 0) ≡ b → not b ≡ is_partially_sent w k
        by true z = let y : nat_lt 0 (sent_of w k) ≡ false = grind (arith, nat_tests) in
            ap (λ b. b && (nat_lt (sent_of w k) (fragment_count w k) && not (message_at w k).abandoned)) (sym y)
        by false z =
            let t = front-takes (shape w) k (facts l.told).consistent.sender next.front in
            let some : 0 < sent_of w k = grind (arith, nat_tests) in
            sym (is-partial (shape w) k some t.more t.alive)

    deadline-is : c.deadline ≡ deadline_of w k
    deadline-is = ap (λ (d : ChunkPayloadData). d.deadline) next.is

    tailing-is : tailing w now ≡ (if not c.beginning_fragment && is_past now c.deadline then Some k else None)
    tailing-is = cc (next.front, partial-is, deadline-is)

    pub partial-front : c.beginning_fragment ≡ false → true ≡ is_partially_sent w k
    partial-front e = sym (ap not e) ∙ partial-is

    pub complete-idle : c.beginning_fragment ≡ true → tailing w now ≡ None
    complete-idle e = tailing-is ∙ ap (λ b. if not b && is_past now c.deadline then Some k else None) e

    pub early-idle : is_past now c.deadline ≡ false → tailing w now ≡ None
    early-idle e = grind (arith, nat_tests, tailing-is)

    pub tails : c.beginning_fragment ≡ false → is_past now c.deadline ≡ true → tailing w now ≡ Some k
    tails e f = tailing-is ∙ ap (λ b. if not b && is_past now c.deadline then Some k else None) e ∙ ap (λ b. if b then Some k else None) f

  pub idle-tail : tailing w now ≡ None → IsRight w (E.Tail now) R.Idle w
  idle-tail none = record { right = sym (ap (tail_reply w (after w (E.Tail now))) none); moves = sym (ap (after_tail w) none) }

  pub tail-right : (n s bytes : ℕ) → tailing w now ≡ Some n → s ≡ (message_at w n).stream
      → bytes ≡ growth w (after w (E.Tail now)) → R.Released s bytes ≡ reply_to w (E.Tail now)
  tail-right n s bytes e es eb = cc (es, eb, e)

  -- where it is partially sent and late the queue abandons it
  module _ (n : ℕ) (e : tailing w now ≡ Some n) where
    answered : queue.message_of (expiring_tail now had) ≡ Some n
    answered = tail-is w.setup w now had (facts l.told).going l.outbound ∙ e

    pub past_deadline : is_some (expiring_tail now had) ≡ true
    past_deadline = grind (arith, nat_tests, answered)

    pub number-is : (a : ℕ) → queue.message_of (expiring_tail now had) ≡ Some a → a ≡ n
    number-is a h = some-same (sym h ∙ answered)

    pub rest-fits : is_partially_sent w n ≡ true → nat_lt (length had.inflight.chunks + 1) (2 ^ 31) ≡ true
    rest-fits partial = partial-fits l (E.Tail now) n refl (ap (after_tail w) e) partial

    -- the stream that the queue answers is the message's
    stream-tail : (s : ℕ) → Some s ≡ option_map (λ (c : ChunkPayloadData). c.stream_identifier) (expiring_tail now had)
        → s ≡ (message_at w n).stream
    stream-tail s = by (expiring_tail now had) refl answered
      where
        by : (o : Option ChunkPayloadData) → expiring_tail now had ≡ o → queue.message_of o ≡ Some n
            → Some s ≡ option_map (λ (c : ChunkPayloadData). c.stream_identifier) o → s ≡ (message_at w n).stream
        by None h t e = cc
        by (Some c) h t e = cc (some-same e, tail-stream w.setup w now had c (facts l.told).going l.outbound h, some-same t)

    pub gives-tail : (s bytes : ℕ) (q : Outbound) (next : ℕ) → n < length w.messages
        → Some s ≡ option_map (λ (c : ChunkPayloadData). c.stream_identifier) (expiring_tail now had)
        → q ≡ abandoned_of (queue.message_of (expiring_tail now had)) coming had
        → next ≡ tsn_after_of (queue.message_of (expiring_tail now had)) coming had → total_bytes q + bytes ≡ total_bytes had
        → Gives w had (E.Tail now) n s bytes q next
    gives-tail s bytes q next made es eq en eb =
        let f = facts l.told in
        let g = f.consistent in
        let o = queue.message_of (expiring_tail now had) in
        let is : after w (E.Tail now) ≡ after_abandon w n = ap (after_tail w) e in
        let here : q ≡ abandoned_of o (tsn_of w (length w.slots)) had = eq ∙ ap (λ t. abandoned_of o t had) l.next in
        let left = over (λ u. (r : Outbound) → RefinesOutbound u r → growth u (after u (E.Tail now))
        ≡ total_bytes r - total_bytes (abandoned_of (queue.message_of (expiring_tail now r)) (tsn_of u (length u.slots)) r)) l.told
        (λ r t. bytes-tail w.setup l.told.history l.told.setup l.told.stands.run r t now) had l.outbound in
        let held = growth-tail w.setup w now n g l.told.setup e in
        let same = ap total_bytes here in
        record {
          is = is;
          made = made;
          stream = stream-tail s es;
          held = omega (arith, left, held, same, eb);
          grows = omega (arith, left, same, eb, ap (growth w) is);
          refines = subst (λ u. RefinesOutbound u q) is
              (subst (RefinesOutbound (after w (E.Tail now))) (sym here) (refines-tail w.setup w now had f.going f.taken l.outbound));
          unstarted = ap (λ (r : Outbound). r.next_unstarted) eq ∙ unstarted-same o coming had;
          next_is = en ∙ ap (λ t. tsn_after_of o t had) l.next ∙ next-tail w.setup w now had f.going f.taken l.outbound
              ∙ ap (λ u. tsn_of u (length u.slots)) is;
        }
