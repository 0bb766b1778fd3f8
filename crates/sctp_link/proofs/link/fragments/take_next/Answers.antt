use Rattle.sctp_link.proofs.Names.{◌≡◌, ◌+◌, ◌<◌, ◌^◌, true, None, Some, length, ap, rules, arith, refl, sym, ◌∙◌, is_some, if◌then◌else◌, nat_tests, next_pending}
use Rattle.sctp_sender.specs.Numbers.{tsn_refusal}
use Rattle.sctp_link.proofs.Names.{sent_next, may_send, begun_by, following_tsn, room-less, on-ok, not-err}
use Rattle.sctp_link.proofs.sender.Noted.{noted-next}
use Rattle.sctp_link.proofs.link.fragments.take_next.Goals as goal

pub unreachable-requires-then-is_err : goal.unreachable-requires-then-is_err
unreachable-requires-then-is_err c =
    let lt : length c.args.sender.now.flight.queue.inflight.chunks + 1 < 2 ^ 31 = c.requires.able.room in
    let may : may_send c.args.sender.now.flight ≡ true = grind (arith, nat_tests) in
    let next : tsn_refusal c.args.sender.now.flight ≡ None = rw may refl in
    not-err c.send_next_tsn_unbounded.result (c.send_next_tsn_unbounded.ensures.succeeds c.requires.flight next) (sym c.is_err.ensures.value ∙ c.if-is_err.true)

pub returns-clause-noted : goal.returns-clause-noted
returns-clause-noted c =
    let f = c.args.sender.now.flight in
    let sent = on-ok c.send_next_tsn_unbounded.result c.is_err.result c.is_err.ensures.value c.if-is_err.false c.send_next_tsn_unbounded.ensures.ok in
    rw sent (noted-next f.queue f.next_tsn c.args.now c.requires.able.chunk c.requires.able.shown)

pub returns-clause-rest : goal.returns-clause-rest
returns-clause-rest c =
    let sent = on-ok c.send_next_tsn_unbounded.result c.is_err.result c.is_err.ensures.value c.if-is_err.false c.send_next_tsn_unbounded.ensures.ok in
    rw sent (record { acked = refl; streams = refl; fragment_size = refl; max_message_size = refl; kept = refl })

pub returns-clause-flight : goal.returns-clause-flight
returns-clause-flight c =
    let f = c.args.sender.now.flight in
    let sent = on-ok c.send_next_tsn_unbounded.result c.is_err.result c.is_err.ensures.value c.if-is_err.false c.send_next_tsn_unbounded.ensures.ok in
    rw sent
    (room-less f.queue (sent_next f.queue f.next_tsn c.args.now) f.next_tsn c.args.now c.requires.able.chunk c.requires.able.shown refl c.requires.flight)

pub returns-clause-leaves : goal.returns-clause-leaves
returns-clause-leaves c =
    let f = c.args.sender.now.flight in
    let shown : next_pending f.queue.pending ≡ Some c.in-Some.chunk.now = search rules in
    let sent = on-ok c.send_next_tsn_unbounded.result c.is_err.result c.is_err.ensures.value c.if-is_err.false c.send_next_tsn_unbounded.ensures.ok in
    rw sent
    (record {
      chunk = c.in-Some.chunk.now;
      shown = shown;
      message = c.index-messages-number.result;
      is = c.index-messages-number.is;
      outbound = refl;
      messages = search rules;
      progress = c.take_fragment-slot.ensures.rest ∙ ap (λ m. begun_by m c.args.progress.now) (sym c.index-messages-number.is);
      slots = search rules;
      next_tsn = ap (λ o. if is_some o then following_tsn f.next_tsn else f.next_tsn) shown;
    })
