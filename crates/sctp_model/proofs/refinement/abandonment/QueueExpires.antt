-- A message expires: what the outbound queue answers.
use Rattle.sctp_model.proofs.Names.{◌≡◌, ℕ, ◌+◌, ◌<◌, Bool, true, false, length, Option, Some, None, ap, sym, ◌∙◌, arith, not, is_some, subst, ChunkPayloadData}
use Rattle.sctp_model.proofs.Names.{next_pending, Outbound, expired_of, total_bytes, LinkRecord, message_at, front, after_expire, expiring, IsRight, after}
use Rattle.sctp_model.proofs.Names.{reply_to, expired_reply, RefinesOutbound, held_bytes, some-same, nat_tests}
use Rattle.sctp_model.proofs.acknowledgement.Bytes.{size-some}
use Rattle.sctp_model.proofs.sender.Fronts.{front-takes}
use Rattle.sctp_model.proofs.sender.Moves.{Quiet}
use Rattle.sctp_model.proofs.sender.Shape.{shape}
use Rattle.sctp_model.proofs.refinement.abandonment.ChunkStreams.{peeked-stream}
use Rattle.std.specs.Option.{option_map}
use Rattle.sctp_outbound.specs.outbound_queue.OutboundQueue as outbound
use Rattle.sctp_model.specs.declared.event.Event.TheVariants as E
use Rattle.sctp_model.specs.Reply as R
use Rattle.sctp_model.proofs.sender.Moves
use Rattle.sctp_model.proofs.refinement.abandonment.Expired.{refines-expire, expiring-front}
use Rattle.sctp_model.proofs.refinement.abandonment.ExpiredReply.{tells, Tells, peeked-is, reply-expire, bytes-expire}
use Rattle.sctp_model.proofs.refinement.Histories.{Sends, facts, over}

-- what is shown is what is past its deadline, where something is
pub shown-past_deadline : (now : ℕ) (c : ChunkPayloadData) (o : Option ChunkPayloadData) → o ≡ Some c
    → is_some (outbound.passing (outbound.is_expired now) o) ≡ true → outbound.passing (outbound.is_expired now) o ≡ Some c
shown-past_deadline now c b e some = grind (arith, nat_tests)

module _ {w : LinkRecord} {had : Outbound} {coming : ℕ} (l : Sends w had coming) (now : ℕ) where
  pub quiet : Quiet w (after w (E.Expire now))
  quiet = Moves.quiet-expire w.setup w now (front w) (facts l.told).consistent

  size : 0 < w.setup.size
  size = size-some w.setup w l.told.setup (facts l.told).consistent

  module _ (q : Outbound) (moves : q ≡ expired_of (outbound.expiring now had) had) where
    pub outbound-expired : RefinesOutbound (after w (E.Expire now)) q
    outbound-expired = subst (RefinesOutbound (after w (E.Expire now))) (sym moves) (refines-expire w.setup w now had size (facts l.told).going l.outbound)

    pub unstarted-expired : had.next_unstarted ≡ q.next_unstarted
    unstarted-expired = grind (arith, nat_tests)

  pub idle-right : expiring w now ≡ None → IsRight w (E.Expire now) R.Idle w
  idle-right none =
      record { right = sym (ap (expired_reply w (after w (E.Expire now))) none); moves = sym (ap (after_expire w) none) }

  -- the message that begins with the chunk expires, and so many bytes leave
  pub record Expires (c : ChunkPayloadData) (bytes : ℕ) : Type 0 where
    pub shown : outbound.expiring now had ≡ Some c
    pub is : expiring w now ≡ Some c.message_id
    pub made : c.message_id < length w.messages
    pub stream : c.stream_identifier ≡ (message_at w c.message_id).stream
    pub kind : c.unordered ≡ not (message_at w c.message_id).ordered
    pub held : bytes ≡ held_bytes w c.message_id
    pub right : R.Expired c.stream_identifier bytes ≡ reply_to w (E.Expire now)

  abbrev answered : Option (ℕ × Bool × ℕ) → Option (ℕ × Bool)
  answered = option_map {U = ℕ × Bool} (λ a. (a.0, a.1))

  abbrev kinds : Option ChunkPayloadData → Option (ℕ × Bool)
  kinds = option_map {U = ℕ × Bool} (λ c. (c.stream_identifier, c.unordered))

  none-expires : outbound.expiring now had ≡ None → expiring w now ≡ None
  none-expires e = tells w.setup w now had None size (facts l.told).going l.outbound (sym (ap kinds e))

  pub none-waits : next_pending had.pending ≡ None → expiring w now ≡ None
  none-waits e = none-expires (ap (outbound.passing (outbound.is_expired now)) e)

  pub none-past_deadline : is_some (outbound.expiring now had) ≡ false → expiring w now ≡ None
  none-past_deadline e = grind (arith, nat_tests, none-expires)

  pub expires : (c : ChunkPayloadData) (bytes : ℕ) (q : Outbound) → next_pending had.pending ≡ Some c → is_some (outbound.expiring now had) ≡ true
      → total_bytes q + bytes ≡ total_bytes had → q ≡ expired_of (Some c) had → Expires c bytes
  expires c bytes q front some left takes =
      let f = facts l.told in
      let a : ℕ × Bool × ℕ = (c.stream_identifier, c.unordered, bytes) in
      let past_deadline : outbound.expiring now had ≡ Some c = shown-past_deadline now c (next_pending had.pending) front some in
      let answer : answered (Some a) ≡ kinds (outbound.expiring now had) = sym (ap kinds past_deadline) in
      let moves : q ≡ expired_of (outbound.expiring now had) had = takes ∙ ap (λ o. expired_of o had) (sym past_deadline) in
      let t : Tells w now a.0 a.1 = tells w.setup w now had (Some a) size f.going l.outbound answer in
      let own : t.number ≡ c.message_id = ap (λ (d : ChunkPayloadData). d.message_id)
      (some-same (sym (peeked-is w.setup w now t.number had f.going l.outbound t.is) ∙ front)) in
      let is : expiring w now ≡ Some c.message_id = t.is ∙ ap Some own in
      record {
        shown = past_deadline;
        is = is;
        made = (front-takes (shape w) c.message_id f.consistent.sender (expiring-front w now c.message_id is).0).made;
        stream = peeked-stream w.setup w had c f.going l.outbound front;
        kind = sym t.kind ∙ ap (λ k. not (message_at w k).ordered) own;
        held =
            over (λ u. (q r : Outbound) → RefinesOutbound u q → r ≡ expired_of (outbound.expiring now q) q → total_bytes r + a.2 ≡ total_bytes q
            → expiring u now ≡ Some c.message_id → a.2 ≡ held_bytes u c.message_id) l.told (λ q r t m b i.
            bytes-expire w.setup l.told.history l.told.setup l.told.stands.run now c.message_id q r (Some a) t m b i) had q l.outbound moves left is;
        right =
            over (λ u. (q r : Outbound) → RefinesOutbound u q → r ≡ expired_of (outbound.expiring now q) q → answered (Some a) ≡ kinds (outbound.expiring now q)
            → total_bytes r + a.2 ≡ total_bytes q → R.Expired a.0 a.2 ≡ reply_to u (E.Expire now)) l.told (λ q r t m b i.
            reply-expire w.setup l.told.history l.told.setup l.told.stands.run now q r (Some a) t m b i) had q l.outbound moves answer left;
      }
