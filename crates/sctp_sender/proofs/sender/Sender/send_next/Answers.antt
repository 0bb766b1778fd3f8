use Rattle.sctp_sender.proofs.Names.{◌≡◌, ℕ, Some, ap, sym, ◌∙◌, find, option_map, none-some, ChunkPayloadData, all_started, as_sent, next_pending}
use Rattle.sctp_sender.proofs.Names.{has_tsn, Transmission}
use Rattle.sctp_sender.proofs.Sent.{as-noted, none-noted, some-noted}
use Rattle.sctp_sender.proofs.sender.Sender.send_next.Goals.{After-get}
use Rattle.sctp_sender.proofs.sender.Sender.send_next.Goals as goal

pub returns-in_default-clause-answer : goal.returns-in_default-clause-answer
returns-in_default-clause-answer c =
    let f = c.args.self.now.flight in
    none-noted f.queue f.next_tsn c.args.now (sym c.in_default.is ∙ c.in_ok-chunk.ensures.ok)

-- The TSN that was next is that of the chunk that is looked for.
numbered : (c : After-get) → c.next_tsn-tsn.result ≡ c.args.self.now.flight.next_tsn
numbered c = c.next_tsn-tsn.ensures ∙ ap (λ (t : Transmission). t.flight.next_tsn) c.self.view_is

-- What is looked up stands in the sender as it is then.
looked-up : (c : After-get) → find (has_tsn c.next_tsn-tsn.result) c.self-2.inside.flight.queue.inflight.chunks
    ≡ find (has_tsn c.args.self.now.flight.next_tsn) c.send_next_tsn_unbounded-2.new.self.flight.queue.inflight.chunks
looked-up c = ap (λ (n : ℕ). find (has_tsn n) c.self-2.inside.flight.queue.inflight.chunks) (numbered c)
    ∙ ap (λ (t : Transmission). find (has_tsn c.args.self.now.flight.next_tsn) t.flight.queue.inflight.chunks) c.self-2.view_is

-- It is noted there as it is sent.
noted : (c : After-get) → (next_pending c.args.self.now.flight.queue.pending ≡ Some c.in-Some.chunk)
    × (find (has_tsn c.args.self.now.flight.next_tsn) c.send_next_tsn_unbounded-2.new.self.flight.queue.inflight.chunks
    ≡ option_map (as_sent c.args.self.now.flight.next_tsn c.args.now) (next_pending (all_started c.args.now c.args.self.now.flight.queue).pending))
noted c =
    let e = sym c.in_ok-chunk.ensures.ok ∙ c.in-Some.is in
    (e, c.in_ok-send_next_tsn_unbounded-2.ensures.noted (λ none. none-some c.in-Some.chunk (sym none ∙ e)))

pub unreachable-requires : goal.unreachable-requires
unreachable-requires c =
    let f = c.args.self.now.flight in
    let p = (goal.at.unreachable-requires c).After-get in
    let n = noted p in
    some-noted f.queue f.next_tsn c.args.now c.in-Some.chunk n.0 (c.in_default-get.ensures ∙ looked-up p ∙ n.1)

pub returns-clause-answer : goal.returns-clause-answer
returns-clause-answer c =
    let f = c.args.self.now.flight in
    let x = c.in-Some.chunk in
    let n = c.in-Some-get.noted.now in
    let p = (goal.at.returns-clause-answer c).After-get in
    let told = noted p in
    let is = c.in-Some-get.ensures ∙ looked-up p ∙ told.1 in
    ap (λ (m : ℕ). let r : ChunkPayloadData = record x { tsn = m; since = n.since; nsent = n.nsent; deadline = n.deadline } in Some r) (numbered p)
    ∙ ap Some (as-noted f.queue f.next_tsn c.args.now x n told.0 is) ∙ is

pub returns-clause-noted : goal.returns-clause-noted
returns-clause-noted c =
    let f = c.args.self.now.flight in
    let x = c.in-Some.chunk in
    let n = c.in-Some-get.noted.now in
    let p = (goal.at.returns-clause-noted c).After-get in
    let told = noted p in
    let found = c.in-Some-get.ensures ∙ looked-up p in
    sym found
    ∙ sym (ap (λ (m : ℕ). let r : ChunkPayloadData = record x { tsn = m; since = n.since; nsent = n.nsent; deadline = n.deadline } in Some r) (numbered p)
    ∙ ap Some (as-noted f.queue f.next_tsn c.args.now x n told.0 (found ∙ told.1)))
