use Rattle.sctp_link.proofs.Names.{◌≡◌, ℕ, ◌≤◌, ◌+◌, true, List, None, Some, refl, ap, sym, ◌∙◌, subst, arith, map, slice_get, nat_tests, forward_tsn_of}
use Rattle.sctp_link.proofs.Names.{Forward, cumulative, skip_counts, receive_skip, refusal_of, IsLinked, Sides, IsAligned, sides, record_in, state_from}
use Rattle.sctp_link.proofs.Names.{record_from, sides_in, kind_record, with_names, standing_named, wire_skip, skips-in, same-names, with_filter_of}
use Rattle.sctp_link.proofs.Names.{reception_of, tsn_of, skipped_to}
use Rattle.sctp_model.specs.declared.event.Event.TheVariants as E
use Rattle.sctp_link.proofs.upkeep.Facts.{facts}
use Rattle.sctp_link.proofs.skips.SkipComes.{names-kept}
use Rattle.sctp_link.proofs.skips.SkipFollowed.{never-refused, followed-aligned, followed-sides, named-aligned, named-sides, sides-then, linked-follow}
use Rattle.sctp_link.proofs.skips.SkipFollowed.{received-follow, skipped_stream}
use Rattle.sctp_link.proofs.link.Link.follow.Given.{Over}
use Rattle.sctp_link.proofs.link.Link.follow.Goals.{After-record_names}
use Rattle.sctp_link.proofs.link.Link.follow.Goals as goal
use Rattle.sctp_receiver.specs.Receiver as R

pub overflow_add-self : goal.overflow_add-self
overflow_add-self g c =
    let w = record_in c.self.inside in
    let lies : (names : List ℕ) × (slice_get w.network c.args.k ≡ Some (Forward c.args.upto names)) = rw (← c.self.view_is) at c.requires.lies in
    let skips = skips-in (facts c.self.invariant.1) c.args.k c.args.upto lies.0 lies.1 in
    omega (arith, skips.made, (facts c.self.invariant.1).few)

-- What the chunk says was followed, and recorded of each stream.
record Followed (g : Over) (c : After-record_names g) : Type 0 where
  names : List ℕ
  lies : slice_get (record_in c.self.inside).network c.args.k ≡ Some (Forward c.args.upto names)
  none : refusal_of (record_in c.self.inside) (E.Arrive c.args.k) ≡ None
  counts : cumulative (record_in c.self.inside) ≤ c.args.upto
  aligned : IsAligned c.self.inside.sender c.forward_tsn_by_names.new.self c.self.inside.progress
  standing : c.record_names.new.progress ≡ map (standing_named c.self.inside.messages.items names) c.self.inside.progress
  both : sides c.self.inside.sender c.forward_tsn_by_names.new.self c.record_names.new.progress ≡ record
      (with_filter_of (skipped_to (tsn_of (record_in c.self.inside) c.args.upto) (R.filter_of (reception_of (sides_in c.self.inside))))
      (sides_in c.self.inside))
      { streams = map (skipped_stream (record_in c.self.inside) c.args.upto names c.self.inside.messages.items) (sides_in c.self.inside).streams }

followed : (g : Over) (c : After-record_names g) → Followed g c
followed g c =
    let w = record_in c.self.inside in
    let ms = c.self.inside.messages.items in
    let k = c.args.k in
    let upto = c.args.upto in
    let mid = sides c.self.inside.sender c.forward_tsn_by_names.new.self c.self.inside.progress in
    let lies : (names : List ℕ) × (slice_get w.network k ≡ Some (Forward upto names)) = rw (← c.self.view_is) at c.requires.lies in
    let none : refusal_of w (E.Arrive k) ≡ None = rw (← c.self.view_is) at c.requires.none in
    let counted : skip_counts w upto ≡ true = rw (← c.self.view_is) at c.requires.counts in
    let counts : cumulative w ≤ upto = grind (arith, nat_tests) in
    let says : (names : List ℕ) → slice_get w.network k ≡ Some (Forward upto names)
    → forward_tsn_of c.args.chunk.now ≡ wire_skip w upto names = rw (← c.self.view_is) at c.requires.says in
    let never = never-refused c.self.invariant.1 k upto lies.0 none lies.1 counts (forward_tsn_of c.args.chunk.now) (sides_in c.self.inside)
    (says lies.0 lies.1) refl in
    let calls = c.forward_tsn_by_names in
    let aligned =
    followed-aligned calls.new.self c.self.invariant.0 (forward_tsn_of c.args.chunk.now) never calls.result calls.ensures.ok calls.ensures.refused in
    let followed =
    followed-sides calls.new.self c.self.invariant.0 (forward_tsn_of c.args.chunk.now) never calls.result calls.ensures.ok calls.ensures.refused in
    let names = names-kept c.self.inside.network.items k c.index.result.now c.in-Forward.upto upto c.in-Forward.messages.items lies.0 lies.1 c.index.ensures
    (ap kind_record c.in-Forward.is) in
    let standing : c.record_names.new.progress ≡ map (standing_named ms lies.0) c.self.inside.progress = c.record_names.ensures
    ∙ ap (λ qs. map (standing_named qs c.deref-2.result.now) c.self.inside.progress) c.deref.ensures.value
    ∙ ap (λ ns. map (standing_named ms ns) c.self.inside.progress) (c.deref-2.ensures.value ∙ names) in
    let last = sides c.self.inside.sender calls.new.self c.record_names.new.progress in
    let answered : last ≡ record mid { streams = map (with_names ms lies.0) mid.streams } = ap (sides c.self.inside.sender calls.new.self) standing
    ∙ named-sides aligned ms lies.0 in
    let both = sides-then c.self.invariant.1 k upto lies.0 none lies.1 counts (forward_tsn_of c.args.chunk.now) (sides_in c.self.inside)
    (says lies.0 lies.1) refl ms mid last followed answered in
    record { names = lies.0; lies = lies.1; none = none; counts = counts; aligned = aligned; standing = standing; both = both }

pub invariant_of-self : goal.invariant_of-self
invariant_of-self g c =
    let f = followed g (goal.at.invariant_of-self g c).After-record_names in
    let ms = c.self.inside.messages.items in (
      subst (λ ps. IsAligned c.self.inside.sender c.forward_tsn_by_names.new.self ps) (sym f.standing) (named-aligned f.aligned ms f.names),
      subst (λ (y : Sides). IsLinked (g.C.Checksum.sum c.self.inside.checksum) (state_from y (record c.self.inside { skipped = c.args.upto + 1 })))
          (sym f.both) (linked-follow c.self.invariant.1 c.args.k c.args.upto f.names f.none f.lies f.counts ms refl refl refl (c.args.upto + 1) _ refl refl),
    )

pub returns-clause-followed : goal.returns-clause-followed
returns-clause-followed g c =
    let w = record_in c.self.inside in
    let upto = c.args.upto in
    let f = followed g (goal.at.returns-clause-followed g c).After-record_names in
    let ms = c.self.inside.messages.items in
    rw (← c.self.view_is) (λ others e. ap (λ (y : Sides). record_from y (record c.self.inside { skipped = upto + 1 })) f.both
    ∙ received-follow c.self.invariant.1 c.args.k upto f.names f.none f.lies f.counts ms refl refl refl (upto + 1) refl
    ∙ ap (receive_skip w upto) (same-names w c.args.k upto f.names others f.lies e))
