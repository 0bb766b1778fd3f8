use Rattle.std.proofs.Common.{Ok, ap, refl, rules, subst, sym, ◌≡◌}
use Rattle.sctp_association.proofs.Coming.{if_ok}
use Rattle.sctp_association.proofs.Each.{past_goes, past_never, step_same}
use Rattle.sctp_association.proofs.Paths.{moves_still}
use Rattle.sctp_association.proofs.Sacks.{past_hears, past_hears_never}
use Rattle.sctp_association.proofs.Walks.{other_on, other_past, tells_by}
use Rattle.sctp_association.specs.Single.{AloneOn}
use Rattle.sctp_association.specs.Coming.{GoesOn}
use Rattle.sctp_association.specs.Sacks.{HearsOn, TakesSacksOf}
use Rattle.sctp_association.specs.declared.association.Association.{Association}
use Rattle.sctp_association.specs.declared.association.arrivals.Step.TheVariants.{Refused}
use Rattle.sctp_association.proofs.association.Association.take_other.Goals as goal

-- one that is not expected changes nothing

pub returns-in-Refused-clause-on : goal.returns-in-Refused-clause-on
returns-in-Refused-clause-on c takes going =
    let is : c.take_chunk.result ≡ Ok (Refused c.in-Refused.reason) = search rules in
    let was : GoesOn c.args.chunk c.args.tag c.args.datagram.now (Refused c.in-Refused.reason) c.args.self.now c.take_chunk.new.self =
    if_ok (λ s. GoesOn c.args.chunk c.args.tag c.args.datagram.now s c.args.self.now c.take_chunk.new.self) _ _ is (c.take_chunk.ensures.on takes going) in
    past_goes c.args.chunk c.args.tag c.args.datagram.now c.in-Refused.reason c.past.result c.args.self.now c.take_chunk.new.self takes
    (c.take_chunk.ensures.refused c.in-Refused.reason is) was c.past.ensures.unexpected

pub returns-in-Refused-clause-never : goal.returns-in-Refused-clause-never
returns-in-Refused-clause-never c takes going x e =
    let is : c.take_chunk.result ≡ Ok (Refused c.in-Refused.reason) = search rules in
    let was : GoesOn c.args.chunk c.args.tag c.args.datagram.now (Refused c.in-Refused.reason) c.args.self.now c.take_chunk.new.self =
    if_ok (λ s. GoesOn c.args.chunk c.args.tag c.args.datagram.now s c.args.self.now c.take_chunk.new.self) _ _ is (c.take_chunk.ensures.on takes going) in
    past_never c.args.chunk c.args.tag c.args.datagram.now c.in-Refused.reason x c.past.result c.args.self.now c.take_chunk.new.self was
    c.past.ensures.unexpected
    (step_same _ _ e)

pub returns-in-Refused-clause-sacks : goal.returns-in-Refused-clause-sacks
returns-in-Refused-clause-sacks c takes going =
    let is : c.take_chunk.result ≡ Ok (Refused c.in-Refused.reason) = search rules in
    let was : HearsOn c.args.chunk c.args.tag c.args.datagram.now (Refused c.in-Refused.reason) c.args.self.now c.take_chunk.new.self =
    if_ok (λ s. HearsOn c.args.chunk c.args.tag c.args.datagram.now s c.args.self.now c.take_chunk.new.self) _ _ is (c.take_chunk.ensures.sacks takes going) in
    past_hears c.args.chunk c.args.tag c.args.datagram.now c.in-Refused.reason c.past.result c.args.self.now c.take_chunk.new.self
    (subst (TakesSacksOf c.args.tag) (sym (c.take_chunk.ensures.refused c.in-Refused.reason is)) takes) was c.past.ensures.unexpected

pub returns-in-Refused-clause-never_sacks : goal.returns-in-Refused-clause-never_sacks
returns-in-Refused-clause-never_sacks c takes going x e =
    let is : c.take_chunk.result ≡ Ok (Refused c.in-Refused.reason) = search rules in
    let was : HearsOn c.args.chunk c.args.tag c.args.datagram.now (Refused c.in-Refused.reason) c.args.self.now c.take_chunk.new.self =
    if_ok (λ s. HearsOn c.args.chunk c.args.tag c.args.datagram.now s c.args.self.now c.take_chunk.new.self) _ _ is (c.take_chunk.ensures.sacks takes going) in
    past_hears_never c.args.chunk c.args.tag c.args.datagram.now c.in-Refused.reason x c.past.result c.args.self.now c.take_chunk.new.self was
    c.past.ensures.unexpected (step_same _ _ e)

pub returns-in-Refused-clause-path : goal.returns-in-Refused-clause-path
returns-in-Refused-clause-path c takes going =
    let is : c.take_chunk.result ≡ Ok (Refused c.in-Refused.reason) = search rules in
    let was : HearsOn c.args.chunk c.args.tag c.args.datagram.now (Refused c.in-Refused.reason) c.args.self.now c.take_chunk.new.self =
    if_ok (λ s. HearsOn c.args.chunk c.args.tag c.args.datagram.now s c.args.self.now c.take_chunk.new.self) _ _ is (c.take_chunk.ensures.sacks takes going) in
    moves_still c.args.chunk c.args.datagram.now c.args.now c.past.result c.args.self.now.outbound c.take_chunk.new.self.outbound was.1
    (ap (λ (a : Association). a.outbound) (c.take_chunk.ensures.refused c.in-Refused.reason is))

-- ## What becomes of it

pub returns-in-Refused-clause-walks : goal.returns-in-Refused-clause-walks
returns-in-Refused-clause-walks c =
    let is : c.take_chunk.result ≡ Ok (Refused c.in-Refused.reason) = search rules in
    other_past c.args.chunk c.args.tag c.args.datagram.now c.args.now c.args.self.now c.take_chunk.new.self c.take_chunk.result
    c.take_chunk.ensures.foreign c.take_chunk.ensures.expected c.take_chunk.ensures.due c.take_chunk.ensures.unexpected c.take_chunk.ensures.waits
    c.requires.counted
    (c.take_chunk.ensures.refused c.in-Refused.reason is)
    c.in-Refused.reason c.past.result is c.past.ensures.unexpected c.past.ensures.other

pub returns-in_default-clause-walks : goal.returns-in_default-clause-walks
returns-in_default-clause-walks c =
    let is : c.take_chunk.result ≡ Ok c.in_ok-taken.taken = c.in_ok-taken.was in
    other_on c.args.chunk c.args.tag 2 c.args.datagram.now c.args.now c.args.self.now c.take_chunk.new.self c.take_chunk.result
    c.take_chunk.ensures.foreign c.take_chunk.ensures.expected refl c.in_ok-taken.taken is (search rules)
    (if_ok (λ s. AloneOn c.args.chunk c.args.tag c.args.datagram.now c.args.now s c.args.self.now c.take_chunk.new.self) _ _ is c.take_chunk.ensures.alone)
    c.take_chunk.ensures.still c.take_chunk.ensures.path
    (tells_by c.args.chunk c.args.datagram.now c.args.self.now c.take_chunk.new.self c.take_chunk.result c.take_chunk.ensures.by_sack
    c.take_chunk.ensures.by_shutdown
    c.take_chunk.ensures.by_data)
    (record {
      part = c.take_chunk.ensures.cut;
      of_data = c.take_chunk.ensures.cut_data;
      of_skip = c.take_chunk.ensures.cut_skip;
      of_reconfig = c.take_chunk.ensures.cut_resets;
    })
