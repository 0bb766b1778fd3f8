use Rattle.sctp_association.specs.Parts.{PartOf}
use Rattle.sctp_association.specs.Walks.{WalksOf}
use Rattle.sctp_association.proofs.Telling.{tells_due, tells_same}
use Rattle.std.proofs.Common.{ap, inl, refl, rules, ◌∙◌, List, subst, sym, ◌≡◌, ◌∷◌}
use Rattle.sctp_association.proofs.Arrived.{arrives_of, arrives_same}
use Rattle.sctp_association.specs.Halves.{halves_of}
use Rattle.sctp_association.specs.declared.association.Association.{Association}
use Rattle.std.proofs.lemmas.Bool.{false≢true}
use Rattle.sctp_association.proofs.Coming.{if_ok, never_accepted, never_told, on_ok}
use Rattle.sctp_association.proofs.Going.{accepted_as}
use Rattle.sctp_association.proofs.First.{begins, first_is, for_admitted, on_err, only_data, type_of_one}
use Rattle.sctp_association.proofs.Offered.{limits_of_offered, offered_less, offered_same}
use Rattle.sctp_association.proofs.association.Association.handle_datagram.Goals as goal
use Rattle.sctp_association.proofs.Each.{told_once}
use Rattle.sctp_association.specs.Coming.{TakesEachOf, zero_checksum_of}
use Rattle.sctp_association.specs.Paths.{MovesByFirstOf, all_go_on}
use Rattle.sctp_association.specs.Sacks.{HearsFirstOf}
use Rattle.std.specs.Prelude.{ℕ, true}
use Rattle.sctp_association.proofs.association.Association.handle_datagram.Goals.{else-self, then-self}
use Rattle.sctp_datagram.specs.declared.datagram.ChunkPlace.{ChunkPlace}
use Rattle.sctp_datagram.specs.Places.{TellsAll, place_at}

pub returns-clause-init : goal.returns-clause-init
returns-clause-init c begun =
    let all : TellsAll place_at c.args.datagram.now c.in-Ok.chunks.left = search rules in
    c.take_chunks.ensures.init (first_is c.args.datagram.now c.in-Ok.chunks.left all 1 begun)

pub returns-clause-begun : goal.returns-clause-begun
returns-clause-begun c closed stands =
    let all : TellsAll place_at c.args.datagram.now c.in-Ok.chunks.left = search rules in
    begins c.args.datagram.now c.in-Ok.chunks.left _ _ _ all (c.take_chunks.ensures.begun closed stands)

-- what is not read changes nothing
pub returns-in-Err : goal.returns-in-Err
returns-in-Err c = record {
  tells = tells_same _ _ refl;
  dropped = λ r e. refl;
  came = arrives_same _ _ _ refl;
  offered = offered_same _ _ _ refl;
  limits = limits_of_offered (offered_same c.args.datagram.now c.args.self.now c.args.self.now refl);
  accepted = never_accepted _ _ c.dropped_by.ensures.never;
  foreign = λ other. refl;
  init = λ begun. refl;
  begun = λ closed stands. absurd (stands closed);
  first = λ closed stands. absurd (stands closed);
  memory = on_err _ refl;
  partly = λ e. absurd (never_told _ _ e refl c.dropped_by.ensures.never);
  in_part = λ e. absurd (never_told _ _ e refl c.dropped_by.ensures.never);
  takes = λ one typ e. absurd (never_told _ _ e refl c.dropped_by.ensures.never);
  over = λ going over. absurd (false≢true (sym going ∙ over));
  walks = λ e. absurd (never_told _ _ e refl c.dropped_by.ensures.never);
  due = λ due r e.
      let zero : zero_checksum_of c.args.self.now.config ≡ c.if-self.zero = elim c.if-self.branch [
        | then-self w ↦ rw w.if-self.true (sym w.zero-is)
        | else-self w ↦ rw w.if-self.false (sym w.zero-is)
      ] in
      let valid = accepted_as c.args.self.now.config c.if-self.zero c.args.datagram.now c.as_slice.result.now zero c.as_slice.ensures due.valid in
      let tells = subst (λ (l : List ℕ). TellsAll place_at l (due.first ∷ due.rest)) (sym c.as_slice.ensures) due.tells in
      on_ok _ _ e c.dropped_by.ensures.read (c.in-Err.ensures.only (due.first ∷ due.rest) valid tells);
  each = λ takes e. absurd (never_told _ _ e refl c.dropped_by.ensures.never);
  path = λ takes e. absurd (never_told _ _ e refl c.dropped_by.ensures.never);
  sacks = λ takes e. absurd (never_told _ _ e refl c.dropped_by.ensures.never);
}

pub returns-then-header-self-clause-came : goal.returns-then-header-self-clause-came
returns-then-header-self-clause-came c = arrives_same _ _ _ refl

pub returns-then-self-2-clause-came : goal.returns-then-self-2-clause-came
returns-then-self-2-clause-came c = arrives_same _ _ _ (ap halves_of c.take_after_end.ensures.rest)

pub returns-clause-came : goal.returns-clause-came
returns-clause-came c = arrives_of _ _ _ _ c.take_chunks.ensures.came.arrives

pub returns-then-header-self-clause-offered : goal.returns-then-header-self-clause-offered
returns-then-header-self-clause-offered c = offered_same _ _ _ refl

pub returns-then-self-2-clause-offered : goal.returns-then-self-2-clause-offered
returns-then-self-2-clause-offered c = offered_less _ _ _ _ c.take_after_end.ensures.rest c.take_after_end.ensures.owes

-- ## The limits stay

pub returns-then-header-self-clause-limits : goal.returns-then-header-self-clause-limits
returns-then-header-self-clause-limits c = limits_of_offered (offered_same c.args.datagram.now c.args.self.now c.args.self.now refl)

pub returns-then-self-2-clause-limits : goal.returns-then-self-2-clause-limits
returns-then-self-2-clause-limits c = limits_of_offered (offered_less c.args.datagram.now _ _ _ c.take_after_end.ensures.rest c.take_after_end.ensures.owes)

pub returns-clause-limits : goal.returns-clause-limits
returns-clause-limits c = limits_of_offered c.take_chunks.ensures.came

pub returns-clause-accepted : goal.returns-clause-accepted
returns-clause-accepted c =
    let all : TellsAll place_at c.args.datagram.now c.in-Ok.chunks.left = search rules in
    for_admitted _ _ _ _ all _ c.take_chunks.ensures.accepted

pub returns-clause-partly : goal.returns-clause-partly
returns-clause-partly c is one =
    let all : TellsAll place_at c.args.datagram.now c.in-Ok.chunks.left = search rules in
    type_of_one _ _ all one (λ first are. c.take_chunks.ensures.partly first are is)

pub returns-then-self-2-clause-takes : goal.returns-then-self-2-clause-takes
returns-then-self-2-clause-takes c one typ is = inl (ap (λ (a : Association). a.is_over) c.take_after_end.ensures.rest ∙ c.if-self-2.true)

pub returns-clause-takes : goal.returns-clause-takes
returns-clause-takes c one typ is =
    let all : TellsAll place_at c.args.datagram.now c.in-Ok.chunks.left = search rules in
    only_data _ _ _ _ c.args.self.now c.take_chunks.new.self all one typ (if_ok _ _ _ is c.take_chunks.ensures.accepted refl)
    (λ first are t. c.take_chunks.ensures.takes first are t is)

-- ## What is due, and each DATA chunk

pub returns-then-self-2-clause-each : goal.returns-then-self-2-clause-each
returns-then-self-2-clause-each c takes is chunks tells = inl (ap (λ (a : Association). a.is_over) c.take_after_end.ensures.rest ∙ c.if-self-2.true)

pub returns-clause-each : goal.returns-clause-each
returns-clause-each c takes is chunks tells =
    let all : TellsAll place_at c.args.datagram.now c.in-Ok.chunks.left = search rules in
    subst (λ (l : List ChunkPlace). TakesEachOf l c.args.datagram.now c.args.self.now c.take_chunks.new.self) (told_once _ _ _ all tells)
    (c.take_chunks.ensures.each takes is)

pub returns-then-self-2-clause-sacks : goal.returns-then-self-2-clause-sacks
returns-then-self-2-clause-sacks c takes is chunks tells = inl (ap (λ (a : Association). a.is_over) c.take_after_end.ensures.rest ∙ c.if-self-2.true)

pub returns-clause-sacks : goal.returns-clause-sacks
returns-clause-sacks c takes is chunks tells =
    let all : TellsAll place_at c.args.datagram.now c.in-Ok.chunks.left = search rules in
    subst (λ (l : List ChunkPlace). HearsFirstOf l c.args.datagram.now c.args.self.now c.take_chunks.new.self) (told_once _ _ _ all tells)
    (c.take_chunks.ensures.sacks takes is)

pub returns-clause-due : goal.returns-clause-due
returns-clause-due c due r is =
    let all : TellsAll place_at c.args.datagram.now c.in-Ok.chunks.left = search rules in
    c.take_chunks.ensures.due due.first due.rest (told_once _ _ _ all due.tells) due.admitted due.expected r is

pub returns-then-header-self-clause-tells : goal.returns-then-header-self-clause-tells
returns-then-header-self-clause-tells c = tells_same _ _ refl

pub returns-then-self-2-clause-tells : goal.returns-then-self-2-clause-tells
returns-then-self-2-clause-tells c = tells_due _ _ _ c.take_after_end.ensures.rest

pub returns-clause-tells : goal.returns-clause-tells
returns-clause-tells c = c.take_chunks.ensures.tells

pub returns-then-self-2-clause-path : goal.returns-then-self-2-clause-path
returns-then-self-2-clause-path c takes is chunks tells all =
    inl (ap (λ (a : Association). a.is_over) c.take_after_end.ensures.rest ∙ c.if-self-2.true)

pub returns-clause-path : goal.returns-clause-path
returns-clause-path c takes is chunks tells each =
    let all : TellsAll place_at c.args.datagram.now c.in-Ok.chunks.left = search rules in
    let same = told_once _ _ _ all tells in
    subst (λ (l : List ChunkPlace). MovesByFirstOf l c.args.datagram.now c.args.now c.args.self.now c.take_chunks.new.self) same
    (c.take_chunks.ensures.path takes is (subst (λ (l : List ChunkPlace). all_go_on l ≡ true) (sym same) each))

-- ## What ends the association

pub returns-then-self-2-clause-over : goal.returns-then-self-2-clause-over
returns-then-self-2-clause-over c going over = absurd (false≢true (sym going ∙ c.if-self-2.true))

-- ## Each chunk

pub returns-then-self-2-clause-walks : goal.returns-then-self-2-clause-walks
returns-then-self-2-clause-walks c is going = absurd (false≢true (sym going ∙ c.if-self-2.true))

pub returns-clause-walks : goal.returns-clause-walks
returns-clause-walks c is going chunks tells =
    let all : TellsAll place_at c.args.datagram.now c.in-Ok.chunks.left = search rules in
    subst (λ (l : List ChunkPlace). WalksOf l c.args.datagram.now c.args.now c.args.self.now c.take_chunks.new.self) (told_once _ _ _ all tells)
    (c.take_chunks.ensures.walks is)

-- ## Where memory is wanting

pub returns-then-self-2-clause-in_part : goal.returns-then-self-2-clause-in_part
returns-then-self-2-clause-in_part c is = absurd (c.take_after_end.ensures.whole (search rules))

pub returns-clause-in_part : goal.returns-clause-in_part
returns-clause-in_part c is chunks tells =
    let all : TellsAll place_at c.args.datagram.now c.in-Ok.chunks.left = search rules in
    subst (λ (l : List ChunkPlace). PartOf l c.args.datagram.now c.args.now c.args.self.now c.take_chunks.new.self) (told_once _ _ _ all tells)
    (c.take_chunks.ensures.in_part is)
