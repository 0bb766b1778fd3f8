use Rattle.sctp_association.proofs.Known.{knows_same}
use Rattle.sctp_association.proofs.Telling.{tells_cookie, tells_kept, tells_same, to_same}
use Rattle.std.proofs.Common.{rules, ◌≡◌, ap, refl, sym, ◌∙◌}
use Rattle.std.specs.Prelude.{None, Option, Some, false}
use Rattle.sctp_handshake.specs.Tickets.{ticket_in}
use Rattle.sctp_handshake.specs.declared.ticket.Ticket.{Ticket}
use Rattle.sctp_association.proofs.Arrived.{came_same}
use Rattle.sctp_association.proofs.Firsts.{begins_by_ticket}
use Rattle.sctp_association.proofs.Kept.{same_machine}
use Rattle.sctp_association.proofs.Offered.{offered_kept, offered_same}
use Rattle.sctp_association.proofs.Offers.{cookie_offered}
use Rattle.sctp_association.proofs.Stale.{stale_keeps}
use Rattle.sctp_association.proofs.Rows.{follows_from}
use Rattle.sctp_association.proofs.Openings.{echo_expected, echoes_by, err_ok, ok_same}
use Rattle.sctp_association.specs.Openings.{is_stale_reply}
use Rattle.sctp_association.specs.Beginnings.{IsEchoed, is_standing}
use Rattle.sctp_association.specs.Cookies.{IsSealedAt, cookie_in}
use Rattle.sctp_association.specs.declared.inbound.Inbound.{Inbound}
use Rattle.sctp_association.specs.Halves.{receiver_of}
use Rattle.std.proofs.Common.{arith, drop, length, List, ℕ}
use Rattle.std.specs.Prelude.{slice_range}
use Rattle.sctp_chunks.specs.Framing.{declared_length}
use Rattle.sctp_datagram.specs.declared.datagram.ChunkPlace.{ChunkPlace}
use Rattle.sctp_association.proofs.Brought.{whole_passed}
use Rattle.sctp_association.proofs.association.Association.take_cookie.Goals as goal
use Rattle.sctp_association.proofs.association.Association.take_cookie.Goals.{then-chunk-raw-via-then-chunk-raw}
use Rattle.sctp_association.proofs.association.Association.take_cookie.Goals.{then-chunk-raw-via-else-chunk-raw+then-chunk-lt4}
use Rattle.sctp_handshake.specs.declared.answer.Reply.TheVariants as reply

pub returns-then-chunk-raw-clause-came : goal.returns-then-chunk-raw-clause-came
returns-then-chunk-raw-clause-came c = offered_same _ _ _ refl

pub returns-in_default-clause-came : goal.returns-in_default-clause-came
returns-in_default-clause-came c = offered_same _ _ _ refl

pub returns-in_default-read-clause-came : goal.returns-in_default-read-clause-came
returns-in_default-read-clause-came c = offered_same _ _ _ refl

pub returns-then-ticket-tag-clause-came : goal.returns-then-ticket-tag-clause-came
returns-then-ticket-tag-clause-came c = offered_same _ _ _ refl

pub returns-then-is_none-2-clause-came : goal.returns-then-is_none-2-clause-came
returns-then-is_none-2-clause-came c =
    let same : c.cookie_echo-answer.new.self ≡ c.args.self.now.machine = search rules in
    offered_kept _ _ _ (came_same _ _ _ refl) (record { config = refl; key = refl; machine = same; owes = λ t e. e; sending = (λ e. e, λ e. e) })

pub returns-in-Some-StaleCookie-clause-came : goal.returns-in-Some-StaleCookie-clause-came
returns-in-Some-StaleCookie-clause-came c =
    let echoed : IsEchoed c.args.datagram.now c.args.self.now.key c.in-Ok.ticket = record {
      place = c.args.chunk;
      own = c.requires.own;
      typ = c.requires.typ;
      moment = c.in-Some.moment;
      made = record { payload = c.in-Some.payload.now; ticket = c.in-Ok.ticket; code = search rules; holds = search rules; own = refl };
      is = refl;
    } in
    let kept = c.follow.ensures.kept in
    cookie_offered _ _ c.requires.own _ _ _ _ c.requires.typ _ echoed _ c.cookie_echo-answer.ensures.takes
    (c.may_begin.ensures.once (search rules)) c.follow.ensures.begun (record {
      config = kept.config;
      key = kept.key;
      machine = kept.machine;
      owes = kept.owes;
      sending = kept.sending;
    })

pub returns-in_default-reply-2-clause-came : goal.returns-in_default-reply-2-clause-came
returns-in_default-reply-2-clause-came c =
    let echoed : IsEchoed c.args.datagram.now c.args.self.now.key c.in-Ok.ticket = record {
      place = c.args.chunk;
      own = c.requires.own;
      typ = c.requires.typ;
      moment = c.in-Some.moment;
      made = record { payload = c.in-Some.payload.now; ticket = c.in-Ok.ticket; code = search rules; holds = search rules; own = refl };
      is = refl;
    } in
    let kept = c.follow.ensures.kept in
    cookie_offered _ _ c.requires.own _ _ _ _ c.requires.typ _ echoed _ c.cookie_echo-answer.ensures.takes
    (c.may_begin.ensures.once (search rules)) c.follow.ensures.begun (record {
      config = kept.config;
      key = kept.key;
      machine = kept.machine;
      owes = kept.owes;
      sending = kept.sending;
    })

-- what is answered by a stale cookie changed nothing
pub returns-in-Some-StaleCookie-clause-stale : goal.returns-in-Some-StaleCookie-clause-stale
returns-in-Some-StaleCookie-clause-stale c _ =
    let takes = c.cookie_echo-answer.ensures.takes in
    let found : c.cookie_echo-answer.result.reply ≡ Some reply.StaleCookie = search rules in
    c.follow.ensures.kept.machine ∙ takes.machine ∙ stale_keeps _ _ _ (sym (ap (λ a. a.reply) takes.answer) ∙ found)

-- what is not answered changed nothing
pub returns-then-is_none-2-clause-refused : goal.returns-then-is_none-2-clause-refused
returns-then-is_none-2-clause-refused c =
    let same : c.cookie_echo-answer.new.self ≡ c.args.self.now.machine = search rules in
    λ _ _. same_machine _ _ _ same

pub returns-in_default-reply-clause-came : goal.returns-in_default-reply-clause-came
returns-in_default-reply-clause-came c =
    let echoed : IsEchoed c.args.datagram.now c.args.self.now.key c.in-Ok.ticket = record {
      place = c.args.chunk;
      own = c.requires.own;
      typ = c.requires.typ;
      moment = c.in-Some.moment;
      made = record { payload = c.in-Some.payload.now; ticket = c.in-Ok.ticket; code = search rules; holds = search rules; own = refl };
      is = refl;
    } in
    let kept = c.follow.ensures.kept in
    cookie_offered _ _ c.requires.own _ _ _ _ c.requires.typ _ echoed _ c.cookie_echo-answer.ensures.takes
    (c.may_begin.ensures.once (search rules)) c.follow.ensures.begun (record {
      config = kept.config;
      key = kept.key;
      machine = kept.machine;
      owes = kept.owes;
      sending = kept.sending;
    })

pub returns-in_default-reply-clause-first : goal.returns-in_default-reply-clause-first
returns-in_default-reply-clause-first c closed next =
    let made : IsSealedAt c.in-Some.moment c.args.self.now.key c.args.tag (cookie_in c.args.datagram.now c.args.chunk) = record {
      payload = c.in-Some.payload.now;
      ticket = c.in-Ok.ticket;
      code = search rules;
      holds = search rules;
      own = search rules;
    } in
    let is = c.in_default-reply.is in
    let fresh : is_stale_reply c.cookie_echo-answer.result.reply ≡ false = search rules in
    let none = ap (λ (i : Option Inbound). receiver_of i) (c.may_begin.ensures.once (search rules) (ap is_standing closed)) in
    begins_by_ticket _ _ _ _ _ _ _ made _ c.args.self.now.machine c.cookie_echo-answer.new.self c.cookie_echo-answer.result closed
    c.cookie_echo-answer.ensures.takes fresh none c.follow.ensures.begun

pub returns-then-chunk-raw-clause-tells : goal.returns-then-chunk-raw-clause-tells
returns-then-chunk-raw-clause-tells c = tells_same _ _ refl

pub returns-in_default-clause-tells : goal.returns-in_default-clause-tells
returns-in_default-clause-tells c = tells_same _ _ refl

pub returns-in_default-read-clause-tells : goal.returns-in_default-read-clause-tells
returns-in_default-read-clause-tells c = tells_same _ _ refl

pub returns-then-ticket-tag-clause-tells : goal.returns-then-ticket-tag-clause-tells
returns-then-ticket-tag-clause-tells c = tells_same _ _ refl

pub returns-then-not-may_begin-clause-tells : goal.returns-then-not-may_begin-clause-tells
returns-then-not-may_begin-clause-tells c = tells_same _ _ refl

pub returns-then-is_none-2-clause-tells : goal.returns-then-is_none-2-clause-tells
returns-then-is_none-2-clause-tells c =
    let same : c.cookie_echo-answer.new.self ≡ c.args.self.now.machine = search rules in
    tells_kept _ _ (knows_same _ _ same) to_same

pub returns-in-Some-StaleCookie-clause-tells : goal.returns-in-Some-StaleCookie-clause-tells
returns-in-Some-StaleCookie-clause-tells c =
    tells_cookie _ _ _ _ _ _ c.follow.ensures.kept.machine c.follow.ensures.tells.end c.follow.ensures.tells _ _ c.cookie_echo-answer.ensures.takes

pub returns-in_default-reply-clause-tells : goal.returns-in_default-reply-clause-tells
returns-in_default-reply-clause-tells c =
    tells_cookie _ _ _ _ _ _ c.follow.ensures.kept.machine c.follow.ensures.tells.end c.follow.ensures.tells _ _ c.cookie_echo-answer.ensures.takes

pub returns-in_default-reply-2-clause-tells : goal.returns-in_default-reply-2-clause-tells
returns-in_default-reply-2-clause-tells c =
    tells_cookie _ _ _ _ _ _ c.follow.ensures.kept.machine c.follow.ensures.tells.end c.follow.ensures.tells _ _ c.cookie_echo-answer.ensures.takes

-- ## The row of its ticket

pub returns-in-Some-StaleCookie-clause-row : goal.returns-in-Some-StaleCookie-clause-row
returns-in-Some-StaleCookie-clause-row c =
    let made : IsSealedAt c.in-Some.moment c.args.self.now.key c.args.tag (cookie_in c.args.datagram.now c.args.chunk) = record {
      payload = c.in-Some.payload.now;
      ticket = c.in-Ok.ticket;
      code = search rules;
      holds = search rules;
      own = search rules;
    } in
    let takes = c.cookie_echo-answer.ensures.takes in
    let found : c.cookie_echo-answer.result.reply ≡ Some reply.StaleCookie = search rules in
    let h = c.follow.ensures.answer in (
      _,
      ap is_stale_reply (sym (ap (λ a. a.reply) takes.answer) ∙ found),
      echoes_by c.args.tag _ c.args.now c.args.self.now c.follow.new.self c.in-Some.moment made c.is_stale-is_old.result c.is_stale-is_old.ensures _ _ takes
          c.follow.ensures.kept.machine (
          follows_from _ _ c.args.self.now.machine.state _ _ c.args.self.now _ _ h c.state-before.ensures refl refl refl refl refl refl
          ) c.follow.ensures.acks,
    )

pub returns-in_default-reply-clause-row : goal.returns-in_default-reply-clause-row
returns-in_default-reply-clause-row c =
    let made : IsSealedAt c.in-Some.moment c.args.self.now.key c.args.tag (cookie_in c.args.datagram.now c.args.chunk) = record {
      payload = c.in-Some.payload.now;
      ticket = c.in-Ok.ticket;
      code = search rules;
      holds = search rules;
      own = search rules;
    } in
    let takes = c.cookie_echo-answer.ensures.takes in
    let fresh : is_stale_reply c.cookie_echo-answer.result.reply ≡ false = search rules in
    let h = c.follow.ensures.answer in (
      _,
      ap is_stale_reply (sym (ap (λ a. a.reply) takes.answer)) ∙ fresh,
      echoes_by c.args.tag _ c.args.now c.args.self.now c.follow.new.self c.in-Some.moment made c.is_stale-is_old.result c.is_stale-is_old.ensures _ _ takes
          c.follow.ensures.kept.machine (
          follows_from _ _ c.args.self.now.machine.state _ _ c.args.self.now _ _ h c.state-before.ensures refl refl refl refl refl refl
          ) c.follow.ensures.acks,
    )

pub returns-in_default-reply-2-clause-row : goal.returns-in_default-reply-2-clause-row
returns-in_default-reply-2-clause-row c =
    let made : IsSealedAt c.in-Some.moment c.args.self.now.key c.args.tag (cookie_in c.args.datagram.now c.args.chunk) = record {
      payload = c.in-Some.payload.now;
      ticket = c.in-Ok.ticket;
      code = search rules;
      holds = search rules;
      own = search rules;
    } in
    let takes = c.cookie_echo-answer.ensures.takes in
    let fresh : is_stale_reply c.cookie_echo-answer.result.reply ≡ false = search rules in
    let h = c.follow.ensures.answer in (
      _,
      ap is_stale_reply (sym (ap (λ a. a.reply) takes.answer)) ∙ fresh,
      echoes_by c.args.tag _ c.args.now c.args.self.now c.follow.new.self c.in-Some.moment made c.is_stale-is_old.result c.is_stale-is_old.ensures _ _ takes
          c.follow.ensures.kept.machine (
          follows_from _ _ c.args.self.now.machine.state _ _ c.args.self.now _ _ h c.state-before.ensures refl refl refl refl refl refl
          ) c.follow.ensures.acks,
    )

-- ## What is expected is not refused

cut_as : {b d code : List ℕ} (n : ℕ) → b ≡ d → slice_range d 4 n ≡ code → slice_range b 4 n ≡ code
cut_as n same is = ap (λ (l : List ℕ). slice_range l 4 n) same ∙ is

pub returns-then-chunk-raw-clause-expected : goal.returns-then-chunk-raw-clause-expected
returns-then-chunk-raw-clause-expected c expected r is =
    let frame = c.requires.place.there.is_framed in
    let size : c.args.chunk.length ≡ declared_length (drop c.args.chunk.at c.args.datagram.now) =
    ap (λ (k : ChunkPlace). k.length) c.requires.place.told in
    let raw : length c.bytes_of-raw.result.now ≡ length (drop c.args.chunk.at c.args.datagram.now) = ap length c.bytes_of-raw.ensures in
    elim c.then-chunk-raw.branch [
      | then-chunk-raw-via-then-chunk-raw w ↦ omega (arith, w.if-chunk-raw.true, size, raw, frame.within)
      | then-chunk-raw-via-else-chunk-raw+then-chunk-lt4 w ↦ omega (arith, w.if-chunk-lt4.true, size, frame.least)
    ]

pub returns-in_default-clause-expected : goal.returns-in_default-clause-expected
returns-in_default-clause-expected c expected r is =
    c.in_default.ensures.only expected.moment expected.made.payload expected.long (cut_as c.args.chunk.length c.bytes_of-raw.ensures expected.made.code)

pub returns-in_default-read-clause-expected : goal.returns-in_default-read-clause-expected
returns-in_default-read-clause-expected c expected r is =
    let same =
    c.in-Some.ensures.only expected.moment expected.made.payload expected.long (cut_as c.args.chunk.length c.bytes_of-raw.ensures expected.made.code) in
    err_ok expected.made.ticket _ (sym c.in_default-read.is ∙ c.read.ensures ∙ ap ticket_in same.1 ∙ expected.made.holds)

pub returns-then-ticket-tag-clause-expected : goal.returns-then-ticket-tag-clause-expected
returns-then-ticket-tag-clause-expected c expected r is =
    let same =
    c.in-Some.ensures.only expected.moment expected.made.payload expected.long (cut_as c.args.chunk.length c.bytes_of-raw.ensures expected.made.code) in
    let ticket : c.in-Ok.ticket ≡ expected.made.ticket = ok_same c.read.result _ _ c.in-Ok.is (c.read.ensures ∙ ap ticket_in same.1 ∙ expected.made.holds) in
    let own : c.in-Ok.ticket.own.tag ≡ c.args.tag = ap (λ (t : Ticket). t.own.tag) ticket ∙ expected.made.own in
    absurd (search (rules, own))

pub returns-then-is_none-2-clause-expected : goal.returns-then-is_none-2-clause-expected
returns-then-is_none-2-clause-expected c expected r is =
    let same =
    c.in-Some.ensures.only expected.moment expected.made.payload expected.long (cut_as c.args.chunk.length c.bytes_of-raw.ensures expected.made.code) in
    let ticket : c.in-Ok.ticket ≡ expected.made.ticket = ok_same c.read.result _ _ c.in-Ok.is (c.read.ensures ∙ ap ticket_in same.1 ∙ expected.made.holds) in
    let reply : c.cookie_echo-answer.result.reply ≡ None = search rules in
    let told : c.cookie_echo-answer.result.told ≡ None = search rules in
    echo_expected c.args.now c.args.self.now c.in-Some.moment c.in-Ok.ticket c.is_stale-is_old.result c.is_stale-is_old.ensures _ _
    c.cookie_echo-answer.ensures.takes _ _ same.0 ticket expected.speaks reply told

pub returns-then-not-may_begin-clause-came : goal.returns-then-not-may_begin-clause-came
returns-then-not-may_begin-clause-came c = offered_same _ _ _ refl

-- ## What it brings

pub returns-in-Some-StaleCookie-clause-events : goal.returns-in-Some-StaleCookie-clause-events
returns-in-Some-StaleCookie-clause-events c = whole_passed _ _ _ _ c.follow.ensures.tells

pub returns-in_default-reply-clause-events : goal.returns-in_default-reply-clause-events
returns-in_default-reply-clause-events c = whole_passed _ _ _ _ c.follow.ensures.tells

pub returns-in_default-reply-2-clause-events : goal.returns-in_default-reply-2-clause-events
returns-in_default-reply-2-clause-events c = whole_passed _ _ _ _ c.follow.ensures.tells
