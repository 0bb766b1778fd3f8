use Rattle.sctp_association.proofs.AcksOn.{acks_rows}
use Rattle.sctp_association.proofs.Rows.{row_reset, row_typ}
use Rattle.sctp_handshake.specs.Machines.{dropped}
use Rattle.std.proofs.Common.{Ok}
use Rattle.sctp_association.proofs.Behind.{still_ends}
use Rattle.sctp_association.proofs.Ends.{ends_echo, ends_init_ack, ends_row, ends_same_of, if_then, off_other, row_has}
use Rattle.sctp_association.specs.declared.association.Association.{Association}
use Rattle.sctp_association.proofs.Expected.{as_same, closed_unexpected, control_expected, expected_at, expected_begun, expected_control, expected_echo}
use Rattle.sctp_association.proofs.Expected.{expected_init, expected_init_ack, never_refused, resets_expected}
use Rattle.sctp_association.specs.Coming.{is_due}
use Rattle.sctp_association.specs.Expected.{expects, is_expected, takes_resets}
use Rattle.sctp_handshake.specs.declared.state.State.TheVariants.{Closed}
use Rattle.sctp_association.proofs.Telling.{tells_due, tells_peer, tells_same, tells_still}
use Rattle.std.proofs.Common.{ap, arith, refl, rules, sym, ◌≡◌, ◌∙◌}
use Rattle.std.proofs.lemmas.Bool.{false≢true}
use Rattle.sctp_association.proofs.Single.{alone_by, alone_plain, alone_reconfig, alone_refused}
use Rattle.sctp_association.specs.Rows.{has_row}
use Rattle.sctp_association.proofs.Offered.{offered_calls, offered_due, offered_kept, offered_same}
use Rattle.sctp_association.proofs.Paths.{moves_none}
use Rattle.sctp_association.proofs.Brought.{brings_none, brings_reset, brings_whole}
use Rattle.sctp_association.proofs.association.Association.take_chunk.Goals as goal

pub returns-then-not-admits-clause-came : goal.returns-then-not-admits-clause-came
returns-then-not-admits-clause-came c = offered_same _ _ _ refl

pub returns-then-not-is_beginning-clause-came : goal.returns-then-not-is_beginning-clause-came
returns-then-not-is_beginning-clause-came c = offered_same _ _ _ refl

pub returns-in-0-clause-came : goal.returns-in-0-clause-came
returns-in-0-clause-came c = offered_calls _ _ _ c.take_data.ensures.came c.take_data.ensures.peer

pub returns-in-1-clause-came : goal.returns-in-1-clause-came
returns-in-1-clause-came c = offered_due _ _ _ _ c.take_init.ensures.due c.take_init.ensures.owes

pub returns-in-3-clause-came : goal.returns-in-3-clause-came
returns-in-3-clause-came c = offered_calls _ _ _ c.take_sack.ensures.came c.take_sack.ensures.peer

pub returns-in-130-clause-came : goal.returns-in-130-clause-came
returns-in-130-clause-came c = offered_kept _ _ _ c.take_reconfig.ensures.came c.take_reconfig.ensures.kept

pub returns-in-192-clause-came : goal.returns-in-192-clause-came
returns-in-192-clause-came c = offered_calls _ _ _ c.take_skip.ensures.came c.take_skip.ensures.peer

pub returns-then-not-admits-clause-tells : goal.returns-then-not-admits-clause-tells
returns-then-not-admits-clause-tells c = tells_same _ _ refl

pub returns-then-not-is_beginning-clause-tells : goal.returns-then-not-is_beginning-clause-tells
returns-then-not-is_beginning-clause-tells c = tells_same _ _ refl

pub returns-in-0-clause-tells : goal.returns-in-0-clause-tells
returns-in-0-clause-tells c = tells_peer _ _ c.take_data.ensures.peer c.take_data.ensures.tells

pub returns-in-1-clause-tells : goal.returns-in-1-clause-tells
returns-in-1-clause-tells c = tells_due _ _ _ c.take_init.ensures.due

pub returns-in-3-clause-tells : goal.returns-in-3-clause-tells
returns-in-3-clause-tells c = tells_peer _ _ c.take_sack.ensures.peer c.take_sack.ensures.tells

pub returns-in-130-clause-tells : goal.returns-in-130-clause-tells
returns-in-130-clause-tells c = tells_still _ _ c.take_reconfig.ensures.kept c.take_reconfig.ensures.tells

pub returns-in-192-clause-tells : goal.returns-in-192-clause-tells
returns-in-192-clause-tells c = tells_peer _ _ c.take_skip.ensures.peer c.take_skip.ensures.tells

pub returns-in-0-clause-path : goal.returns-in-0-clause-path
returns-in-0-clause-path c going =
    moves_none c.args.chunk c.args.datagram.now c.args.now c.take_data.result c.args.self.now.outbound c.take_data.new.self.outbound
    (λ is. absurd (omega (arith, is))) c.take_data.ensures.sending

pub returns-in-192-clause-path : goal.returns-in-192-clause-path
returns-in-192-clause-path c going =
    moves_none c.args.chunk c.args.datagram.now c.args.now c.take_skip.result c.args.self.now.outbound c.take_skip.new.self.outbound
    (λ is. absurd (omega (arith, is))) c.take_skip.ensures.sending

pub returns-in-3-clause-sacks : goal.returns-in-3-clause-sacks
returns-in-3-clause-sacks c takes going = c.take_sack.ensures.sacks c.args.tag takes

-- ## A chunk that comes alone

pub returns-then-not-admits-clause-alone : goal.returns-then-not-admits-clause-alone
returns-then-not-admits-clause-alone c = alone_refused c.args.chunk c.args.tag c.args.datagram.now c.args.now c.args.self.now c.args.self.now _
    (brings_none _ _ _ _ refl)

pub returns-then-not-is_beginning-clause-alone : goal.returns-then-not-is_beginning-clause-alone
returns-then-not-is_beginning-clause-alone c = alone_refused c.args.chunk c.args.tag c.args.datagram.now c.args.now c.args.self.now c.args.self.now _
    (brings_none _ _ _ _ refl)

pub returns-in-0-clause-alone : goal.returns-in-0-clause-alone
returns-in-0-clause-alone c =
    let typ : c.args.chunk.typ ≡ 0 = search rules in
    alone_plain c.args.chunk c.args.tag c.args.datagram.now c.args.now c.args.self.now c.take_data.new.self c.take_data.result
    c.take_data.ensures.events 0 typ refl
    c.take_data.ensures.acks
    c.take_data.ensures.row

pub returns-in-1-clause-alone : goal.returns-in-1-clause-alone
returns-in-1-clause-alone c =
    let typ : c.args.chunk.typ ≡ 1 = search rules in
    alone_by c.args.chunk c.args.tag c.args.datagram.now c.args.now c.args.self.now c.take_init.new.self c.take_init.result
    (brings_none c.args.chunk c.args.datagram.now c.args.self.now c.take_init.new.self (ap (λ (x : Association). x.events) c.take_init.ensures.due))
    (λ row. absurd (false≢true (sym (ap has_row typ) ∙ row)))
    (λ is. absurd (omega (arith, is, typ)))
    (λ is. c.take_init.ensures.offers) (λ is. absurd (omega (arith, is, typ))) (λ is. absurd (omega (arith, is, typ)))
    (λ is. absurd (omega (arith, is, typ))) (λ is. absurd (omega (arith, is, typ))) (λ is. absurd (omega (arith, is, typ)))
    (λ is. absurd (omega (arith, is, typ))) (λ row. absurd (false≢true (sym (ap has_row typ) ∙ row)))

pub returns-in-2-clause-alone : goal.returns-in-2-clause-alone
returns-in-2-clause-alone c =
    let typ : c.args.chunk.typ ≡ 2 = search rules in
    alone_by c.args.chunk c.args.tag c.args.datagram.now c.args.now c.args.self.now c.take_init_ack.new.self c.take_init_ack.result
    (brings_whole c.args.chunk c.args.datagram.now c.args.self.now c.take_init_ack.new.self 2 typ refl c.take_init_ack.ensures.events)
    (λ row. absurd (false≢true (sym (ap has_row typ) ∙ row)))
    (λ is. absurd (omega (arith, is, typ)))
    (λ is. absurd (omega (arith, is, typ))) (λ is. c.take_init_ack.ensures.row) (λ is. absurd (omega (arith, is, typ)))
    (λ is. absurd (omega (arith, is, typ))) (λ is. absurd (omega (arith, is, typ))) (λ is. absurd (omega (arith, is, typ)))
    (λ is. absurd (omega (arith, is, typ))) (λ row. absurd (false≢true (sym (ap has_row typ) ∙ row)))

pub returns-in-3-clause-alone : goal.returns-in-3-clause-alone
returns-in-3-clause-alone c =
    let typ : c.args.chunk.typ ≡ 3 = search rules in
    alone_plain c.args.chunk c.args.tag c.args.datagram.now c.args.now c.args.self.now c.take_sack.new.self c.take_sack.result
    c.take_sack.ensures.events 3 typ refl
    c.take_sack.ensures.acks
    c.take_sack.ensures.row

pub returns-in-10-clause-alone : goal.returns-in-10-clause-alone
returns-in-10-clause-alone c =
    let typ : c.args.chunk.typ ≡ 10 = search rules in
    alone_by c.args.chunk c.args.tag c.args.datagram.now c.args.now c.args.self.now c.take_cookie.new.self c.take_cookie.result
    (brings_whole c.args.chunk c.args.datagram.now c.args.self.now c.take_cookie.new.self 10 typ refl c.take_cookie.ensures.events)
    (λ row. absurd (false≢true (sym (ap has_row typ) ∙ row)))
    (λ is. absurd (omega (arith, is, typ)))
    (λ is. absurd (omega (arith, is, typ))) (λ is. absurd (omega (arith, is, typ))) (λ is. absurd (omega (arith, is, typ)))
    (λ is. absurd (omega (arith, is, typ))) (λ is. absurd (omega (arith, is, typ))) (λ is. absurd (omega (arith, is, typ))) (λ is. c.take_cookie.ensures.row)
    (λ row. absurd (false≢true (sym (ap has_row typ) ∙ row)))

pub returns-in-130-clause-alone : goal.returns-in-130-clause-alone
returns-in-130-clause-alone c =
    let typ : c.args.chunk.typ ≡ 130 = search rules in
    alone_reconfig c.args.chunk c.args.tag c.args.datagram.now c.args.now c.args.self.now c.take_reconfig.new.self c.take_reconfig.result
    (brings_reset c.args.chunk c.args.datagram.now c.args.self.now c.take_reconfig.new.self typ c.take_reconfig.ensures.rest.events)
    typ
    (acks_rows c.args.chunk c.args.datagram.now c.args.now c.args.self.now c.take_reconfig.new.self (dropped c.args.self.now.machine)
    (row_typ c.args.chunk c.args.datagram.now c.args.now c.args.self.now 130 typ) c.take_reconfig.result (λ _. c.take_reconfig.ensures.rest.acks)
    (λ is. omega (arith, is, typ)) (λ is. omega (arith, is, typ))) (
    row_reset c.args.chunk c.args.datagram.now c.args.now c.args.self.now c.take_reconfig.new.self typ c.take_reconfig.ensures.kept
    c.take_reconfig.ensures.rest c.take_reconfig.result c.take_reconfig.ensures.goes_on
    ) c.take_reconfig.ensures.reconfig

pub returns-in-192-clause-alone : goal.returns-in-192-clause-alone
returns-in-192-clause-alone c =
    let typ : c.args.chunk.typ ≡ 192 = search rules in
    alone_plain c.args.chunk c.args.tag c.args.datagram.now c.args.now c.args.self.now c.take_skip.new.self c.take_skip.result
    c.take_skip.ensures.events 192 typ refl
    c.take_skip.ensures.acks
    c.take_skip.ensures.row

pub returns-in_default-clause-alone : goal.returns-in_default-clause-alone
returns-in_default-clause-alone c = c.take_control.ensures.alone (search rules, search rules, search rules, search rules, search rules, search rules) c.args.tag

-- ## What is expected is not refused

pub returns-then-not-is_beginning-clause-due : goal.returns-then-not-is_beginning-clause-due
returns-then-not-is_beginning-clause-due c admitted expected r is =
    expected_begun c.args.chunk c.args.tag c.args.datagram.now c.args.now c.args.self.now expected (search rules) (search rules) (search rules)

pub returns-in-1-clause-due : goal.returns-in-1-clause-due
returns-in-1-clause-due c admitted expected =
    let typ : c.args.chunk.typ ≡ 1 = search rules in
    c.take_init.ensures.expected (expected_init c.args.chunk c.args.tag c.args.datagram.now c.args.now c.args.self.now expected typ)

pub returns-in-2-clause-due : goal.returns-in-2-clause-due
returns-in-2-clause-due c admitted expected =
    let typ : c.args.chunk.typ ≡ 2 = search rules in
    c.take_init_ack.ensures.expected (expected_init_ack c.args.chunk c.args.tag c.args.datagram.now c.args.now c.args.self.now expected typ)

pub returns-in-10-clause-due : goal.returns-in-10-clause-due
returns-in-10-clause-due c admitted expected =
    let typ : c.args.chunk.typ ≡ 10 = search rules in
    c.take_cookie.ensures.expected (expected_echo c.args.chunk c.args.tag c.args.datagram.now c.args.now c.args.self.now expected typ)

pub returns-in-0-clause-due : goal.returns-in-0-clause-due
returns-in-0-clause-due c admitted expected r =
    let typ : c.args.chunk.typ ≡ 0 = search rules in
    never_refused (is_due 0 c.args.self.now) c.take_data.result c.take_data.ensures.due r
    (expected_at c.args.chunk c.args.tag c.args.datagram.now c.args.now c.args.self.now expected 0 typ (λ e. omega (arith, e)) (λ e. omega (arith, e))
    (λ e. omega (arith, e)))

pub returns-in-3-clause-due : goal.returns-in-3-clause-due
returns-in-3-clause-due c admitted expected r =
    let typ : c.args.chunk.typ ≡ 3 = search rules in
    never_refused (is_due 3 c.args.self.now) c.take_sack.result c.take_sack.ensures.due r
    (expected_at c.args.chunk c.args.tag c.args.datagram.now c.args.now c.args.self.now expected 3 typ (λ e. omega (arith, e)) (λ e. omega (arith, e))
    (λ e. omega (arith, e)))

pub returns-in-192-clause-due : goal.returns-in-192-clause-due
returns-in-192-clause-due c admitted expected r =
    let typ : c.args.chunk.typ ≡ 192 = search rules in
    never_refused (is_due 192 c.args.self.now) c.take_skip.result c.take_skip.ensures.due r
    (expected_at c.args.chunk c.args.tag c.args.datagram.now c.args.now c.args.self.now expected 192 typ (λ e. omega (arith, e)) (λ e. omega (arith, e))
    (λ e. omega (arith, e)))

pub returns-in-130-clause-due : goal.returns-in-130-clause-due
returns-in-130-clause-due c admitted expected r =
    let typ : c.args.chunk.typ ≡ 130 = search rules in
    let at = expected_at c.args.chunk c.args.tag c.args.datagram.now c.args.now c.args.self.now expected 130 typ (λ e. omega (arith, e))
    (λ e. omega (arith, e)) (λ e. omega (arith, e)) in
    never_refused (takes_resets c.args.self.now.machine.state) c.take_reconfig.result c.take_reconfig.ensures.expected r
    (expected_control c.args.self.now 130 (λ e. omega (arith, e)) (λ e. omega (arith, e)) (λ e. omega (arith, e)) at).1

pub returns-in_default-clause-due : goal.returns-in_default-clause-due
returns-in_default-clause-due c admitted expected r =
    let at = expected_at c.args.chunk c.args.tag c.args.datagram.now c.args.now c.args.self.now expected c.args.chunk.typ refl (search rules) (search rules)
    (search rules) in
    never_refused (expects c.args.chunk.typ c.args.self.now) c.take_control.result
    (c.take_control.ensures.expected (search rules, search rules, search rules, search rules, search rules, search rules) (search rules)) r
    (expected_control c.args.self.now c.args.chunk.typ (search rules) (search rules) (search rules) at).1

-- ## Where a chunk is taken

pub returns-then-not-is_beginning-clause-expected : goal.returns-then-not-is_beginning-clause-expected
returns-then-not-is_beginning-clause-expected c admitted row =
    let closed : c.args.self.now.machine.state ≡ Closed = search rules in
    (refl, closed_unexpected c.args.chunk.typ c.args.self.now closed)

pub returns-in-0-clause-expected : goal.returns-in-0-clause-expected
returns-in-0-clause-expected c admitted row =
    let typ : c.args.chunk.typ ≡ 0 = search rules in
    as_same (is_due 0 c.args.self.now) c.take_data.result c.take_data.ensures.due (is_expected c.args.chunk.typ c.args.self.now)
    (sym (ap (λ n. is_expected n c.args.self.now) typ))

pub returns-in-3-clause-expected : goal.returns-in-3-clause-expected
returns-in-3-clause-expected c admitted row =
    let typ : c.args.chunk.typ ≡ 3 = search rules in
    as_same (is_due 3 c.args.self.now) c.take_sack.result c.take_sack.ensures.due (is_expected c.args.chunk.typ c.args.self.now)
    (sym (ap (λ n. is_expected n c.args.self.now) typ))

pub returns-in-192-clause-expected : goal.returns-in-192-clause-expected
returns-in-192-clause-expected c admitted row =
    let typ : c.args.chunk.typ ≡ 192 = search rules in
    as_same (is_due 192 c.args.self.now) c.take_skip.result c.take_skip.ensures.due (is_expected c.args.chunk.typ c.args.self.now)
    (sym (ap (λ n. is_expected n c.args.self.now) typ))

pub returns-in-1-clause-expected : goal.returns-in-1-clause-expected
returns-in-1-clause-expected c admitted row =
    let typ : c.args.chunk.typ ≡ 1 = search rules in
    absurd (false≢true (sym (ap has_row typ) ∙ row))

pub returns-in-2-clause-expected : goal.returns-in-2-clause-expected
returns-in-2-clause-expected c admitted row =
    let typ : c.args.chunk.typ ≡ 2 = search rules in
    absurd (false≢true (sym (ap has_row typ) ∙ row))

pub returns-in-10-clause-expected : goal.returns-in-10-clause-expected
returns-in-10-clause-expected c admitted row =
    let typ : c.args.chunk.typ ≡ 10 = search rules in
    absurd (false≢true (sym (ap has_row typ) ∙ row))

pub returns-in-130-clause-expected : goal.returns-in-130-clause-expected
returns-in-130-clause-expected c admitted row =
    let typ : c.args.chunk.typ ≡ 130 = search rules in
    as_same (takes_resets c.args.self.now.machine.state) c.take_reconfig.result c.take_reconfig.ensures.expected (is_expected c.args.chunk.typ c.args.self.now)
    (resets_expected c.args.self.now.machine.state ∙ sym (ap (λ n. is_expected n c.args.self.now) typ))

pub returns-in_default-clause-expected : goal.returns-in_default-clause-expected
returns-in_default-clause-expected c admitted row =
    let begun : c.args.self.now.machine.state ≡ Closed → ⊥ = search rules in
    as_same (expects c.args.chunk.typ c.args.self.now) c.take_control.result
    (c.take_control.ensures.expected (search rules, search rules, search rules, search rules, search rules, search rules) (search rules))
    (is_expected c.args.chunk.typ c.args.self.now)
    (control_expected c.args.self.now c.args.chunk.typ (search rules) (search rules) (search rules) begun)

-- ## What ends the association

pub returns-then-not-admits-clause-over : goal.returns-then-not-admits-clause-over
returns-then-not-admits-clause-over c = tt

pub returns-then-not-is_beginning-clause-over : goal.returns-then-not-is_beginning-clause-over
returns-then-not-is_beginning-clause-over c = tt

pub returns-in-0-clause-over : goal.returns-in-0-clause-over
returns-in-0-clause-over c =
    if_then c.take_data.result (λ s is h. still_ends c.args.chunk c.args.datagram.now c.args.self.now c.take_data.new.self s h) c.take_data.ensures.still

pub returns-in-3-clause-over : goal.returns-in-3-clause-over
returns-in-3-clause-over c =
    if_then c.take_sack.result (λ s is h. still_ends c.args.chunk c.args.datagram.now c.args.self.now c.take_sack.new.self s h) c.take_sack.ensures.still

pub returns-in-192-clause-over : goal.returns-in-192-clause-over
returns-in-192-clause-over c =
    if_then c.take_skip.result (λ s is h. still_ends c.args.chunk c.args.datagram.now c.args.self.now c.take_skip.new.self s h) c.take_skip.ensures.still

pub returns-in-1-clause-over : goal.returns-in-1-clause-over
returns-in-1-clause-over c =
    ends_same_of c.args.chunk c.args.datagram.now c.args.self.now c.take_init.new.self
    (ap (λ (a : Association). a.is_over) c.take_init.ensures.due) c.take_init.result

pub returns-in-2-clause-over : goal.returns-in-2-clause-over
returns-in-2-clause-over c =
    let typ : c.args.chunk.typ ≡ 2 = search rules in
    if_then c.take_init_ack.result (λ s is h. ends_init_ack c.args.chunk c.args.datagram.now c.args.self.now c.take_init_ack.new.self c.args.now typ s h)
    c.take_init_ack.ensures.row

pub returns-in-10-clause-over : goal.returns-in-10-clause-over
returns-in-10-clause-over c =
    if_then c.take_cookie.result
    (λ s is h. ends_echo c.args.chunk c.args.datagram.now c.args.self.now c.take_cookie.new.self c.args.tag c.args.now s h) c.take_cookie.ensures.row

pub returns-in-130-clause-over : goal.returns-in-130-clause-over
returns-in-130-clause-over c =
    ends_same_of c.args.chunk c.args.datagram.now c.args.self.now c.take_reconfig.new.self c.take_reconfig.ensures.rest.over c.take_reconfig.result

pub returns-in_default-clause-over : goal.returns-in_default-clause-over
returns-in_default-clause-over c =
    let n0 : c.args.chunk.typ ≡ 0 → ⊥ = search rules in
    let n1 : c.args.chunk.typ ≡ 1 → ⊥ = search rules in
    let n2 : c.args.chunk.typ ≡ 2 → ⊥ = search rules in
    let n3 : c.args.chunk.typ ≡ 3 → ⊥ = search rules in
    let n10 : c.args.chunk.typ ≡ 10 → ⊥ = search rules in
    let n192 : c.args.chunk.typ ≡ 192 → ⊥ = search rules in
    if_then c.take_control.result (λ s is h. ends_row c.args.chunk c.args.datagram.now c.args.self.now c.take_control.new.self
    c.args.now (off_other c.args.chunk.typ n0 n3 n192) s (λ cut. c.take_control.ensures.whole (is ∙ ap Ok cut)) (h.row (row_has c.args.chunk.typ n1 n2 n10)))
    (c.take_control.ensures.alone (n0, n1, n2, n10, n192, search rules) c.args.tag)

-- ## What a chunk leaves behind which the datagram goes on

pub returns-in-0-clause-still : goal.returns-in-0-clause-still
returns-in-0-clause-still c going = c.take_data.ensures.still

pub returns-in-3-clause-still : goal.returns-in-3-clause-still
returns-in-3-clause-still c going = c.take_sack.ensures.still

pub returns-in-192-clause-still : goal.returns-in-192-clause-still
returns-in-192-clause-still c going = c.take_skip.ensures.still

-- ## Where memory is wanting

pub returns-in-130-clause-cut_resets : goal.returns-in-130-clause-cut_resets
returns-in-130-clause-cut_resets c typ is = record {
  part = c.take_reconfig.ensures.part (search rules);
  calls = c.take_reconfig.ensures.came;
  machine = c.take_reconfig.ensures.kept.machine;
  rest = c.take_reconfig.ensures.rest;
}
