use Rattle.sctp_receiver.proofs.Names.{◌≡◌, ◌^◌, false, ap, sym, ◌∙◌, nat_le, is_ssn_too_far, distance16}
use Rattle.sctp_receiver.proofs.Ssns.{kept-or-passed}
use Rattle.sctp_receiver.proofs.receiver.ssns.is_ssn_too_far.Goals as goal

pub returns-clause-kept : goal.returns-clause-kept
returns-clause-kept c = λ near.
    let q = c.args.queue.now.held in
    let is : distance16 c.lowest_ssn.result c.args.ssn ≡ c.distance.result = sym c.distance.ensures.value in
    let far : is_ssn_too_far c.args.ssn q ≡ false = ap (λ l. nat_le (2 ^ 15) (distance16 l c.args.ssn)) (sym c.lowest_ssn.ensures.value)
    ∙ ap (nat_le (2 ^ 15)) is ∙ near in
    kept-or-passed c.args.ssn q c.distance.ensures.to_fits (rw (← c.lowest_ssn.ensures.value) c.lowest_ssn.ensures.fits) c.lowest_ssn.ensures.next_fits far
