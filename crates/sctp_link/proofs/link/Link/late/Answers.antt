use Rattle.sctp_link.proofs.Names.{◌≡◌, ◌<◌, ◌+◌, true, refl, ap, sym, ◌∙◌, arith, length, subst, find, list_all, late_tsns, place_of, is_in_flight}
use Rattle.sctp_link.proofs.Names.{is_partially_sent, growth, message_of_tsn, abandoned_tsn, GivesInTurn, accepted-now, takes-none, goes-on, record_in, on-err}
use Rattle.sctp_model.proofs.refinement.abandonment.LateTsns.{fly, takes, takes-unless, begun, done, turn-few}
use Rattle.sctp_link.proofs.link.Link.late.Given.{Over}
use Rattle.sctp_link.proofs.link.Link.late.Goals.{After-index, After-abandon_fully_sent-bytes}
use Rattle.sctp_link.proofs.link.Link.late.Goals as goal
use Rattle.sctp_link.proofs.upkeep.Facts.{sends}

pub returns-in_err-tsns-clause-wants : goal.returns-in_err-tsns-clause-wants
returns-in_err-tsns-clause-wants g c =
    rw (← c.self.view_is) (on-err c.from_residual.result _
    (takes-unless (sends c.self.invariant.1) c.args.now _ refl (λ e. c.in_err-tsns.ensures.idle (ap (late_tsns c.args.now) (c.outbound.ensures) ∙ e))))

pub abandon_partially_sent-requires : goal.abandon_partially_sent-requires
abandon_partially_sent-requires g c =
    rw (c.deref.ensures.value, ← c.self.view_is)
    (fly (sends c.self.invariant.1) c.args.now c.in_ok-tsns.tsns.items (c.in_ok-tsns.ensures.ok ∙ ap (late_tsns c.args.now) (c.outbound.ensures)))

pub returns-in_err-bytes-clause-wants : goal.returns-in_err-bytes-clause-wants
returns-in_err-bytes-clause-wants g c =
    let some : 0 < length c.in_ok-tsns.tsns.items = rw c.deref.ensures.value at c.in_err-bytes.ensures.wants in
    rw (← c.self.view_is) (on-err c.from_residual-in_err-bytes.result _
    (takes (sends c.self.invariant.1) c.args.now c.in_ok-tsns.tsns.items (c.in_ok-tsns.ensures.ok ∙ ap (late_tsns c.args.now) (c.outbound.ensures)) some))

pub loop-at-init : goal.loop-at-init
loop-at-init g c =
    let w = record_in c.self.inside in
    let v = c.abandon_partially_sent.new.self.recorded in
    let ts = c.in_ok-tsns.tsns.items in
    let o = find (λ t. is_partially_sent w (message_of_tsn w t)) ts in
    let moves : v ≡ abandoned_tsn w o = rw (c.deref.ensures.value, ← c.self.view_is) at c.in_ok-bytes.ensures.moves in
    let bytes : c.in_ok-bytes.bytes ≡ growth w v = rw (← c.self.view_is) at c.in_ok-bytes.ensures.bytes in
    let first : GivesInTurn w v o ts 0 c.in_ok-bytes.bytes = subst (λ u. GivesInTurn w u o ts 0 c.in_ok-bytes.bytes) (sym moves)
    (begun (sends c.self.invariant.1) c.args.now ts
    (c.in_ok-tsns.ensures.ok ∙ ap (late_tsns c.args.now) (c.outbound.ensures)) o c.in_ok-bytes.bytes refl (bytes ∙ ap (growth w) moves)) in
    record { turns = rw (← c.self.view_is) first; checksum = c.in_ok-bytes.ensures.checksum }

-- All of them are in flight.
all : (g : Over) (c : After-index g)
    → list_all (λ t. is_in_flight c.args.self.now.recorded (place_of c.args.self.now.recorded t)) c.in_ok-tsns.tsns.items ≡ true
all g c = rw (← c.self.view_is)
    (fly (sends c.self.invariant.1) c.args.now c.in_ok-tsns.tsns.items (c.in_ok-tsns.ensures.ok ∙ ap (late_tsns c.args.now) (c.outbound.ensures)))

inside : (g : Over) (c : After-index g) → c.loop-at.at < length c.in_ok-tsns.tsns.items
inside g c = omega (arith, c.loop-at-test.true, c.len-at-end.ensures)

pub abandon_fully_sent-bytes-requires-clause-accepted : goal.abandon_fully_sent-bytes-requires-clause-accepted
abandon_fully_sent-bytes-requires-clause-accepted g c =
    let p = (goal.at.abandon_fully_sent-bytes-requires-clause-accepted g c).After-index in
    let w = c.args.self.now.recorded in
    let ts = c.in_ok-tsns.tsns.items in
    accepted-now w ts _ (all g p) c.loop-at.self.recorded c.loop-at.at c.loop-at.bytes c.index.result.now c.loop-at.invariant.turns (inside g p) c.index.ensures

pub abandon_fully_sent-bytes-requires-clause-complete : goal.abandon_fully_sent-bytes-requires-clause-complete
abandon_fully_sent-bytes-requires-clause-complete g c =
    let p = (goal.at.abandon_fully_sent-bytes-requires-clause-complete g c).After-index in
    let w = c.args.self.now.recorded in
    let ts = c.in_ok-tsns.tsns.items in
    takes-none w ts _ (all g p) c.loop-at.self.recorded c.loop-at.at c.loop-at.bytes c.index.result.now c.loop-at.invariant.turns (inside g p) c.index.ensures

-- What one more gives.
next : (g : Over) (c : After-abandon_fully_sent-bytes g) → list_all (λ t. is_in_flight c.args.self.now.recorded (place_of c.args.self.now.recorded t))
    c.in_ok-tsns.tsns.items ≡ true → c.loop-at.at < length c.in_ok-tsns.tsns.items → GivesInTurn c.args.self.now.recorded
    c.abandon_fully_sent-bytes.new.self.recorded (find (λ t. is_partially_sent c.args.self.now.recorded (message_of_tsn c.args.self.now.recorded t))
    c.in_ok-tsns.tsns.items) c.in_ok-tsns.tsns.items (c.loop-at.at + 1) (c.loop-at.bytes + c.abandon_fully_sent-bytes.result)
next g c all inside =
    goes-on c.args.self.now.recorded c.in_ok-tsns.tsns.items _ all c.loop-at.self.recorded c.loop-at.at c.loop-at.bytes c.index.result.now
    c.loop-at.invariant.turns inside c.index.ensures c.abandon_fully_sent-bytes.new.self.recorded c.abandon_fully_sent-bytes.result
    c.abandon_fully_sent-bytes.ensures.moves c.abandon_fully_sent-bytes.ensures.bytes

pub overflow_add-bytes : goal.overflow_add-bytes
overflow_add-bytes g c =
    let p = goal.at.overflow_add-bytes g c in
    let n = next g p.After-abandon_fully_sent-bytes (all g p.After-index) (inside g p.After-index) in
    omega (arith, n.bytes_are, turn-few c.args.self.now.recorded c.abandon_fully_sent-bytes.new.self.recorded n.turn)

pub loop-at-preserved : goal.loop-at-preserved
loop-at-preserved g c =
    let p = goal.at.loop-at-preserved g c in
    record {
      turns = next g p.After-abandon_fully_sent-bytes (all g p.After-index) (inside g p.After-index);
      checksum = c.abandon_fully_sent-bytes.ensures.checksum ∙ c.loop-at.invariant.checksum;
    }

pub returns-clause-ok : goal.returns-clause-ok
returns-clause-ok g c =
    let w = record_in c.self.inside in
    let v = c.loop-at.self.recorded in
    let ts = c.in_ok-tsns.tsns.items in
    let o = find (λ t. is_partially_sent w (message_of_tsn w t)) ts in
    let so-far : GivesInTurn w v o ts c.loop-at.at c.loop-at.bytes = rw (← c.self.view_is) at c.loop-at.invariant.turns in
    let end : c.loop-at.at ≡ length ts = omega (arith, c.loop-at-test.false, c.loop-at.auto.at-end, c.len-at-end.ensures) in
    let count : c.len.result ≡ length ts = omega (arith, c.len.ensures, c.in_ok-tsns.tsns.ok.0) in
    rw (count, ← c.self.view_is) (done (sends c.self.invariant.1) c.args.now ts (c.in_ok-tsns.ensures.ok
    ∙ ap (late_tsns c.args.now) (c.outbound.ensures)) v o c.loop-at.bytes refl (subst (λ k. GivesInTurn w v o ts k c.loop-at.bytes) end so-far))

pub returns-clause-checksum : goal.returns-clause-checksum
returns-clause-checksum g c = c.loop-at.invariant.checksum
