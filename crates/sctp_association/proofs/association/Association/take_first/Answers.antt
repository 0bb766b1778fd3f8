use Rattle.sctp_association.proofs.Walks.{first_on, passes, tells_by}
use Rattle.sctp_association.specs.Single.{AloneOn}
use Rattle.std.proofs.Common.{inr}
use Rattle.sctp_association.proofs.Ends.{if_then}
use Rattle.sctp_association.proofs.Ends.{ends_same}
use Rattle.std.proofs.Common.{Ok, ap, refl, rules, ◌≡◌}
use Rattle.sctp_association.proofs.Coming.{if_ok}
use Rattle.sctp_association.proofs.Each.{past_goes}
use Rattle.sctp_association.proofs.Paths.{moves_still}
use Rattle.sctp_association.specs.Coming.{GoesOn}
use Rattle.sctp_association.specs.Sacks.{HearsOn}
use Rattle.sctp_association.specs.declared.association.Association.{Association}
use Rattle.sctp_association.specs.declared.association.Reason.TheVariants.{Unexpected}
use Rattle.sctp_association.specs.declared.association.arrivals.Step.TheVariants.{Next, Refused}
use Rattle.sctp_association.proofs.association.Association.take_first.Goals as goal

-- one that is not expected changes nothing

pub returns-in-Refused-Unexpected-clause-on : goal.returns-in-Refused-Unexpected-clause-on
returns-in-Refused-Unexpected-clause-on c takes going =
    let is : c.take_chunk-2.result ≡ Ok (Refused Unexpected) = search rules in
    let was : GoesOn c.args.chunk c.args.tag c.args.datagram.now (Refused Unexpected) c.args.self.now c.take_chunk-2.new.self =
    if_ok (λ s. GoesOn c.args.chunk c.args.tag c.args.datagram.now s c.args.self.now c.take_chunk-2.new.self) _ _ is (c.take_chunk-2.ensures.on takes going) in
    past_goes c.args.chunk c.args.tag c.args.datagram.now Unexpected Next c.args.self.now c.take_chunk-2.new.self takes
    (c.take_chunk-2.ensures.refused Unexpected is) was (λ e. refl)

pub returns-in-Refused-Unexpected-clause-path : goal.returns-in-Refused-Unexpected-clause-path
returns-in-Refused-Unexpected-clause-path c takes going =
    let is : c.take_chunk-2.result ≡ Ok (Refused Unexpected) = search rules in
    let was : HearsOn c.args.chunk c.args.tag c.args.datagram.now (Refused Unexpected) c.args.self.now c.take_chunk-2.new.self =
    if_ok (λ s. HearsOn c.args.chunk c.args.tag c.args.datagram.now s c.args.self.now c.take_chunk-2.new.self) _ _ is
    (c.take_chunk-2.ensures.sacks takes going) in
    moves_still c.args.chunk c.args.datagram.now c.args.now Next c.args.self.now.outbound c.take_chunk-2.new.self.outbound was.1
    (ap (λ (a : Association). a.outbound) (c.take_chunk-2.ensures.refused Unexpected is))

pub returns-in-Refused-Unexpected-clause-over : goal.returns-in-Refused-Unexpected-clause-over
returns-in-Refused-Unexpected-clause-over c =
    let is : c.take_chunk-2.result ≡ Ok (Refused Unexpected) = search rules in
    ends_same c.args.chunk c.args.datagram.now c.args.self.now c.take_chunk-2.new.self
    (ap (λ (a : Association). a.is_over) (c.take_chunk-2.ensures.refused Unexpected is)) Next

-- ## The first chunk

pub returns-in-Refused-Unexpected-clause-walks : goal.returns-in-Refused-Unexpected-clause-walks
returns-in-Refused-Unexpected-clause-walks c =
    let is : c.take_chunk-2.result ≡ Ok (Refused Unexpected) = search rules in
    inr (record {
      passes = passes c.args.chunk c.args.tag c.args.count c.args.datagram.now c.args.now c.args.self.now c.take_chunk-2.new.self c.take_chunk-2.result
          c.take_chunk-2.ensures.foreign c.take_chunk-2.ensures.expected c.take_chunk-2.ensures.due c.take_chunk-2.ensures.unexpected is
          (c.take_chunk-2.ensures.refused Unexpected is);
      others = search rules;
      begun = search rules;
      init = search rules;
      cookie_echo = search rules;
    })

pub returns-in_default-clause-walks : goal.returns-in_default-clause-walks
returns-in_default-clause-walks c = tt

pub returns-in_default-clause-due : goal.returns-in_default-clause-due
returns-in_default-clause-due c admitted expected r is =
    let refused : c.take_chunk-2.result ≡ Ok (Refused r) = search rules in
    c.take_chunk-2.ensures.due admitted expected r refused

pub returns-in_default-2-clause-walks : goal.returns-in_default-2-clause-walks
returns-in_default-2-clause-walks c =
    let is : c.take_chunk-2.result ≡ Ok c.in_ok-step.step = c.in_ok-step.was in
    first_on c.args.chunk c.args.tag c.args.count c.args.datagram.now c.args.now c.args.self.now c.take_chunk-2.new.self c.take_chunk-2.result
    c.take_chunk-2.ensures.foreign c.take_chunk-2.ensures.expected c.in_ok-step.step is
    (if_ok (λ s. AloneOn c.args.chunk c.args.tag c.args.datagram.now c.args.now s c.args.self.now c.take_chunk-2.new.self) _ _ is c.take_chunk-2.ensures.alone)
    c.take_chunk-2.ensures.still c.take_chunk-2.ensures.path
    (tells_by c.args.chunk c.args.datagram.now c.args.self.now c.take_chunk-2.new.self c.take_chunk-2.result c.take_chunk-2.ensures.by_sack
    c.take_chunk-2.ensures.by_shutdown
    c.take_chunk-2.ensures.by_data)
    (record {
      part = c.take_chunk-2.ensures.cut;
      of_data = c.take_chunk-2.ensures.cut_data;
      of_skip = c.take_chunk-2.ensures.cut_skip;
      of_reconfig = c.take_chunk-2.ensures.cut_resets;
    })

pub returns-then-is_alone-clause-walks : goal.returns-then-is_alone-clause-walks
returns-then-is_alone-clause-walks c =
    if_then c.take_chunk.result (λ s is h. first_on c.args.chunk c.args.tag c.args.count c.args.datagram.now c.args.now c.args.self.now
    c.take_chunk.new.self c.take_chunk.result c.take_chunk.ensures.foreign c.take_chunk.ensures.expected s is h c.take_chunk.ensures.still
    c.take_chunk.ensures.path
    (tells_by c.args.chunk c.args.datagram.now c.args.self.now c.take_chunk.new.self c.take_chunk.result c.take_chunk.ensures.by_sack
    c.take_chunk.ensures.by_shutdown
    c.take_chunk.ensures.by_data)
    (record {
      part = c.take_chunk.ensures.cut;
      of_data = c.take_chunk.ensures.cut_data;
      of_skip = c.take_chunk.ensures.cut_skip;
      of_reconfig = c.take_chunk.ensures.cut_resets;
    }))
    c.take_chunk.ensures.alone
