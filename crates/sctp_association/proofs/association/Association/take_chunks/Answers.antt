use Rattle.sctp_association.proofs.Walks.{first_at, walks_at, part_at}
use Rattle.sctp_association.specs.Walks.{FirstOn}
use Rattle.sctp_association.proofs.Ends.{ended_first, ended_next, ended_same, ended_still, ended_stop, ended_then}
use Rattle.sctp_association.specs.Ends.{EndsOn}
use Rattle.sctp_association.proofs.Telling.{tells_peer, tells_same, tells_then}
use Rattle.std.proofs.Common.{false}
use Rattle.std.proofs.Common.{Ok, ap, arith, inl, inr, length, refl, rules, subst, sym, ◌≡◌, ◌<◌, ◌∙◌, ◌∷◌, List}
use Rattle.std.proofs.lemmas.Bool.{false≢true}
use Rattle.sctp_association.proofs.Arrived.{arrives_of, alike_halves}
use Rattle.sctp_association.specs.Expected.{IsExpected}
use Rattle.sctp_association.proofs.Coming.{if_ok, takes_still}
use Rattle.sctp_association.proofs.First.{admits_of, one_first}
use Rattle.sctp_association.proofs.Firsts.{by_datagram}
use Rattle.sctp_association.proofs.Offered.{offered_alike, offered_same, offered_then}
use Rattle.sctp_association.specs.Coming.{TakesDataAt, TakesDataOf, TakesEachOf}
use Rattle.sctp_association.specs.Halves.{receiver_of}
use Rattle.sctp_association.specs.Tags.{is_admitted, is_all_or_nothing}
use Rattle.sctp_association.specs.declared.association.Association.{Association}
use Rattle.sctp_association.specs.declared.association.arrivals.Step.TheVariants as step
use Rattle.sctp_util.specs.Field.{u32_at}
use Rattle.sctp_association.proofs.Carrying.{all_own, next_own}
use Rattle.sctp_association.proofs.association.Association.take_chunks.Goals as goal
use Rattle.sctp_association.proofs.Each.{each_ended, first_next, first_same, first_stop}
use Rattle.sctp_association.proofs.Paths.{first_move_next, first_move_stop, move_ended}
use Rattle.sctp_association.proofs.Sacks.{first_sack_next, first_sack_stop, sack_ended}
use Rattle.sctp_association.specs.Paths.{MovesByFirstOf, all_go_on}
use Rattle.sctp_association.specs.Sacks.{HearsFirstOf, TakesSacksOf}
use Rattle.std.specs.Prelude.{ℕ, true}
use Rattle.sctp_datagram.specs.declared.datagram.ChunkPlace.{ChunkPlace}

pub take_first-requires-clause-own : goal.take_first-requires-clause-own
take_first-requires-clause-own c = (next_own _ _ _ _ c.in-Some.ensures.place (all_own _ _ c.requires.all)).0

pub take_others-is_whole-requires-clause-own : goal.take_others-is_whole-requires-clause-own
take_others-is_whole-requires-clause-own c = (next_own _ _ _ _ c.in-Some.ensures.place (all_own _ _ c.requires.all)).1

pub returns-in_default-clause-came : goal.returns-in_default-clause-came
returns-in_default-clause-came c = offered_same _ _ _ refl

pub returns-in_err-reason-clause-came : goal.returns-in_err-reason-clause-came
returns-in_err-reason-clause-came c = c.take_first.ensures.came

pub returns-in-Refused-clause-came : goal.returns-in-Refused-clause-came
returns-in-Refused-clause-came c = c.take_first.ensures.came

pub returns-in-Stop-clause-came : goal.returns-in-Stop-clause-came
returns-in-Stop-clause-came c = c.take_first.ensures.came

pub returns-in-Cut-clause-came : goal.returns-in-Cut-clause-came
returns-in-Cut-clause-came c =
    let ended = c.end_datagram.ensures in
    offered_then _ _ _ c.take_first.ensures.came _ (offered_alike _ _ _ ended.halves ended.peer)

pub returns-then-not-is_whole-clause-came : goal.returns-then-not-is_whole-clause-came
returns-then-not-is_whole-clause-came c =
    let ended = c.end_datagram-2.ensures in
    offered_then _ _ _ c.take_first.ensures.came _ (
    offered_then _ _ _ c.take_others-is_whole.ensures.came _ (offered_alike _ _ _ ended.halves ended.peer)
    )

pub returns-clause-came : goal.returns-clause-came
returns-clause-came c =
    let ended = c.end_datagram-2.ensures in
    offered_then _ _ _ c.take_first.ensures.came _ (
    offered_then _ _ _ c.take_others-is_whole.ensures.came _ (offered_alike _ _ _ ended.halves ended.peer)
    )

pub returns-in-Stop-clause-accepted : goal.returns-in-Stop-clause-accepted
returns-in-Stop-clause-accepted c is =
    admits_of c.in-Some.first c.next.new.self.left c.args.chunks.left c.args.datagram.now c.args.self.now.key c.args.self.now.machine
    c.take_first.result _ _ c.in-Some.ensures.place (c.header-tag.ensures.verification_tag ∙ ap (λ l. u32_at l 4) c.requires.whole)
    c.left-count.ensures c.take_first.ensures.foreign c.take_first.ensures.cookie step.Stop (search rules) refl

pub returns-in-Stop-clause-foreign : goal.returns-in-Stop-clause-foreign
returns-in-Stop-clause-foreign c other = absurd (other (
    admits_of c.in-Some.first c.next.new.self.left c.args.chunks.left c.args.datagram.now c.args.self.now.key c.args.self.now.machine
    c.take_first.result _ _ c.in-Some.ensures.place (c.header-tag.ensures.verification_tag ∙ ap (λ l. u32_at l 4) c.requires.whole)
    c.left-count.ensures c.take_first.ensures.foreign c.take_first.ensures.cookie step.Stop (search rules) refl
    ))

pub returns-in-Cut-clause-accepted : goal.returns-in-Cut-clause-accepted
returns-in-Cut-clause-accepted c is =
    admits_of c.in-Some.first c.next.new.self.left c.args.chunks.left c.args.datagram.now c.args.self.now.key c.args.self.now.machine
    c.take_first.result _ _ c.in-Some.ensures.place (c.header-tag.ensures.verification_tag ∙ ap (λ l. u32_at l 4) c.requires.whole)
    c.left-count.ensures c.take_first.ensures.foreign c.take_first.ensures.cookie step.Cut (search rules) refl

pub returns-in-Cut-clause-foreign : goal.returns-in-Cut-clause-foreign
returns-in-Cut-clause-foreign c other = absurd (other (
    admits_of c.in-Some.first c.next.new.self.left c.args.chunks.left c.args.datagram.now c.args.self.now.key c.args.self.now.machine
    c.take_first.result _ _ c.in-Some.ensures.place (c.header-tag.ensures.verification_tag ∙ ap (λ l. u32_at l 4) c.requires.whole)
    c.left-count.ensures c.take_first.ensures.foreign c.take_first.ensures.cookie step.Cut (search rules) refl
    ))

pub returns-then-not-is_whole-clause-accepted : goal.returns-then-not-is_whole-clause-accepted
returns-then-not-is_whole-clause-accepted c is =
    admits_of c.in-Some.first c.next.new.self.left c.args.chunks.left c.args.datagram.now c.args.self.now.key c.args.self.now.machine
    c.take_first.result _ _ c.in-Some.ensures.place (c.header-tag.ensures.verification_tag ∙ ap (λ l. u32_at l 4) c.requires.whole)
    c.left-count.ensures c.take_first.ensures.foreign c.take_first.ensures.cookie step.Next (search rules) refl

pub returns-then-not-is_whole-clause-foreign : goal.returns-then-not-is_whole-clause-foreign
returns-then-not-is_whole-clause-foreign c other = absurd (other (
    admits_of c.in-Some.first c.next.new.self.left c.args.chunks.left c.args.datagram.now c.args.self.now.key c.args.self.now.machine
    c.take_first.result _ _ c.in-Some.ensures.place (c.header-tag.ensures.verification_tag ∙ ap (λ l. u32_at l 4) c.requires.whole)
    c.left-count.ensures c.take_first.ensures.foreign c.take_first.ensures.cookie step.Next (search rules) refl
    ))

pub returns-clause-accepted : goal.returns-clause-accepted
returns-clause-accepted c is =
    admits_of c.in-Some.first c.next.new.self.left c.args.chunks.left c.args.datagram.now c.args.self.now.key c.args.self.now.machine
    c.take_first.result _ _ c.in-Some.ensures.place (c.header-tag.ensures.verification_tag ∙ ap (λ l. u32_at l 4) c.requires.whole)
    c.left-count.ensures c.take_first.ensures.foreign c.take_first.ensures.cookie step.Next (search rules) refl

pub returns-clause-foreign : goal.returns-clause-foreign
returns-clause-foreign c other = absurd (other (
    admits_of c.in-Some.first c.next.new.self.left c.args.chunks.left c.args.datagram.now c.args.self.now.key c.args.self.now.machine
    c.take_first.result _ _ c.in-Some.ensures.place (c.header-tag.ensures.verification_tag ∙ ap (λ l. u32_at l 4) c.requires.whole)
    c.left-count.ensures c.take_first.ensures.foreign c.take_first.ensures.cookie step.Next (search rules) refl
    ))

-- from Closed an association stands only behind a first chunk that begins it
pub returns-then-not-is_whole-clause-first : goal.returns-then-not-is_whole-clause-first
returns-then-not-is_whole-clause-first c closed stands =
    let ended = c.end_datagram-2.ensures in
    let next : c.take_first.result ≡ Ok step.Next = search rules in
    by_datagram _ _ _ _ _ _ _ (next_own _ _ _ _ c.in-Some.ensures.place (all_own _ _ c.requires.all)).0 (c.take_first.ensures.closed_next closed next).0 _
    (c.header-tag.ensures.verification_tag ∙ ap (λ l. u32_at l 4) c.requires.whole) (c.take_first.ensures.closed_first closed next)
    (arrives_of _ _ _ _ (offered_then _ _ _ c.take_others-is_whole.ensures.came _ (offered_alike _ _ _ ended.halves ended.peer)).arrives)

pub returns-clause-first : goal.returns-clause-first
returns-clause-first c closed stands =
    let ended = c.end_datagram-2.ensures in
    let next : c.take_first.result ≡ Ok step.Next = search rules in
    by_datagram _ _ _ _ _ _ _ (next_own _ _ _ _ c.in-Some.ensures.place (all_own _ _ c.requires.all)).0 (c.take_first.ensures.closed_next closed next).0 _
    (c.header-tag.ensures.verification_tag ∙ ap (λ l. u32_at l 4) c.requires.whole) (c.take_first.ensures.closed_first closed next)
    (arrives_of _ _ _ _ (offered_then _ _ _ c.take_others-is_whole.ensures.came _ (offered_alike _ _ _ ended.halves ended.peer)).arrives)

-- a datagram of one chunk is taken in part where that is
pub returns-in-Cut-clause-partly : goal.returns-in-Cut-clause-partly
returns-in-Cut-clause-partly c first are is =
    let same = one_first _ _ _ (sym c.in-Some.ensures.place ∙ are) in
    let cut : c.take_first.result ≡ Ok step.Cut = search rules in
    sym (ap (λ (p : ChunkPlace). is_all_or_nothing p.typ) same.0) ∙ c.take_first.ensures.cut cut

-- nothing stands behind the only chunk
pub returns-then-not-is_whole-clause-partly : goal.returns-then-not-is_whole-clause-partly
returns-then-not-is_whole-clause-partly c first are is =
    let same = one_first _ _ _ (sym c.in-Some.ensures.place ∙ are) in
    absurd (false≢true (sym c.if-not-is_whole.true ∙ (c.take_others-is_whole.ensures.none same.1).0))

-- ## DATA as the only chunk

pub returns-in-Stop-clause-takes : goal.returns-in-Stop-clause-takes
returns-in-Stop-clause-takes c first are typ is =
    let same = one_first _ _ _ (sym c.in-Some.ensures.place ∙ are) in
    let stop : c.take_first.result ≡ Ok step.Stop = search rules in
    let alone : c.left-count.result < 2 = omega (arith, c.left-count.ensures, ap length are) in
    inl (if_ok _ _ _ stop (c.take_first.ensures.takes alone (ap (λ (p : ChunkPlace). p.typ) same.0 ∙ typ)))

pub returns-clause-takes : goal.returns-clause-takes
returns-clause-takes c first are typ is =
    let same = one_first _ _ _ (sym c.in-Some.ensures.place ∙ are) in
    let next : c.take_first.result ≡ Ok step.Next = search rules in
    let alone : c.left-count.result < 2 = omega (arith, c.left-count.ensures, ap length are) in
    let came = if_ok _ _ _ next (c.take_first.ensures.takes alone (ap (λ (p : ChunkPlace). p.typ) same.0 ∙ typ)) in
    let idle = (c.take_others-is_whole.ensures.none same.1).1 in
    inr (subst (λ (p : ChunkPlace). TakesDataAt p.at c.args.datagram.now c.args.self.now c.end_datagram-2.new.self) same.0
    (takes_still _ _ c.args.self.now c.take_first.new.self c.end_datagram-2.new.self (c.end_datagram-2.ensures.halves.receiver
    ∙ ap (λ (a : Association). receiver_of a.inbound) idle) came))

-- ## What is due, and each DATA chunk

pub returns-in-Refused-clause-due : goal.returns-in-Refused-clause-due
returns-in-Refused-clause-due c first rest are admitted expected r is =
    let same = first_same _ _ _ _ (sym c.in-Some.ensures.place ∙ are) in
    let refused : c.take_first.result ≡ Ok (step.Refused c.in-Refused.reason) = search rules in
    let tag : u32_at c.args.datagram.now 4 ≡ c.header-tag.result.verification_tag =
    sym (c.header-tag.ensures.verification_tag ∙ ap (λ l. u32_at l 4) c.requires.whole) in
    let count : length (first ∷ rest) ≡ c.left-count.result = sym (c.left-count.ensures ∙ ap length are) in
    c.take_first.ensures.due
    (ap (λ (p : ChunkPlace). is_admitted p c.header-tag.result.verification_tag c.left-count.result c.args.self.now.machine) same
    ∙ sym (ap (λ n. is_admitted first n c.left-count.result c.args.self.now.machine) tag)
    ∙ sym (ap (λ n. is_admitted first (u32_at c.args.datagram.now 4) n c.args.self.now.machine) count) ∙ admitted)
    (subst (λ (p : ChunkPlace). IsExpected p c.header-tag.result.verification_tag c.args.datagram.now c.args.now c.args.self.now) (sym same)
    (subst (λ (n : ℕ). IsExpected first n c.args.datagram.now c.args.now c.args.self.now) tag expected)) _ refused

pub returns-in-Stop-clause-each : goal.returns-in-Stop-clause-each
returns-in-Stop-clause-each c takes is =
    let stop : c.take_first.result ≡ Ok step.Stop = search rules in
    let tag : c.header-tag.result.verification_tag ≡ u32_at c.args.datagram.now 4 =
    c.header-tag.ensures.verification_tag ∙ ap (λ l. u32_at l 4) c.requires.whole in
    let of : TakesDataOf c.header-tag.result.verification_tag c.args.self.now = subst (λ (n : ℕ). TakesDataOf n c.args.self.now) (sym tag) takes in
    subst (λ (l : List ChunkPlace). TakesEachOf l c.args.datagram.now c.args.self.now c.take_first.new.self) (sym c.in-Some.ensures.place)
    (first_stop _ c.args.datagram.now c.in-Some.first c.next.new.self.left c.args.self.now c.take_first.new.self c.take_first.result
    (c.take_first.ensures.on of) (arrives_of _ _ _ _ c.take_first.ensures.came.arrives) stop)

pub returns-clause-each : goal.returns-clause-each
returns-clause-each c takes is =
    let ended = c.end_datagram-2.ensures in
    let next : c.take_first.result ≡ Ok step.Next = search rules in
    let tag : c.header-tag.result.verification_tag ≡ u32_at c.args.datagram.now 4 =
    c.header-tag.ensures.verification_tag ∙ ap (λ l. u32_at l 4) c.requires.whole in
    let of : TakesDataOf c.header-tag.result.verification_tag c.args.self.now = subst (λ (n : ℕ). TakesDataOf n c.args.self.now) (sym tag) takes in
    let others = λ (t : TakesDataOf c.header-tag.result.verification_tag c.take_first.new.self).
    c.take_others-is_whole.ensures.each (subst (λ (n : ℕ). TakesDataOf n c.take_first.new.self) tag t) c.if-not-is_whole.false in
    subst (λ (l : List ChunkPlace). TakesEachOf l c.args.datagram.now c.args.self.now c.end_datagram-2.new.self) (sym c.in-Some.ensures.place) (
    each_ended (c.in-Some.first ∷ c.next.new.self.left) c.args.datagram.now c.args.self.now c.take_others-is_whole.new.self c.end_datagram-2.new.self
    ended.over (record {
      halves = alike_halves c.take_others-is_whole.new.self c.end_datagram-2.new.self ended.halves;
      usable = ended.usable;
    }) (
    first_next _ c.args.datagram.now c.in-Some.first c.next.new.self.left c.args.self.now c.take_first.new.self c.take_first.result
    (c.take_first.ensures.on of) (arrives_of _ _ _ _ c.take_first.ensures.came.arrives) next c.take_others-is_whole.new.self
    (arrives_of _ _ _ _ c.take_others-is_whole.ensures.came.arrives) others
    )
    )

pub returns-in-Stop-clause-sacks : goal.returns-in-Stop-clause-sacks
returns-in-Stop-clause-sacks c takes is =
    let stop : c.take_first.result ≡ Ok step.Stop = search rules in
    let tag : c.header-tag.result.verification_tag ≡ u32_at c.args.datagram.now 4 =
    c.header-tag.ensures.verification_tag ∙ ap (λ l. u32_at l 4) c.requires.whole in
    let of : TakesSacksOf c.header-tag.result.verification_tag c.args.self.now = subst (λ (n : ℕ). TakesSacksOf n c.args.self.now) (sym tag) takes in
    subst (λ (l : List ChunkPlace). HearsFirstOf l c.args.datagram.now c.args.self.now c.take_first.new.self) (sym c.in-Some.ensures.place)
    (first_sack_stop _ c.args.datagram.now c.in-Some.first c.next.new.self.left c.args.self.now c.take_first.new.self c.take_first.result
    (c.take_first.ensures.sacks of) stop)

pub returns-clause-sacks : goal.returns-clause-sacks
returns-clause-sacks c takes is =
    let ended = c.end_datagram-2.ensures in
    let next : c.take_first.result ≡ Ok step.Next = search rules in
    let tag : c.header-tag.result.verification_tag ≡ u32_at c.args.datagram.now 4 =
    c.header-tag.ensures.verification_tag ∙ ap (λ l. u32_at l 4) c.requires.whole in
    let of : TakesSacksOf c.header-tag.result.verification_tag c.args.self.now = subst (λ (n : ℕ). TakesSacksOf n c.args.self.now) (sym tag) takes in
    let others = λ (other : c.in-Some.first.typ ≡ 3 → ⊥) (t : TakesSacksOf c.header-tag.result.verification_tag c.take_first.new.self).
    c.take_others-is_whole.ensures.sacks other (subst (λ (n : ℕ). TakesSacksOf n c.take_first.new.self) tag t) c.if-not-is_whole.false in
    subst (λ (l : List ChunkPlace). HearsFirstOf l c.args.datagram.now c.args.self.now c.end_datagram-2.new.self) (sym c.in-Some.ensures.place) (
    sack_ended (c.in-Some.first ∷ c.next.new.self.left) c.args.datagram.now c.args.self.now c.take_others-is_whole.new.self c.end_datagram-2.new.self
    ended.over (alike_halves c.take_others-is_whole.new.self c.end_datagram-2.new.self ended.halves) (
    first_sack_next _ c.args.datagram.now c.in-Some.first c.next.new.self.left c.args.self.now c.take_first.new.self c.take_first.result
    (c.take_first.ensures.sacks of) (arrives_of _ _ _ _ c.take_first.ensures.came.arrives) c.take_others-is_whole.new.self
    (arrives_of _ _ _ _ c.take_others-is_whole.ensures.came.arrives) others next
    )
    )

pub returns-in_default-clause-tells : goal.returns-in_default-clause-tells
returns-in_default-clause-tells c = tells_same _ _ refl

pub returns-in_err-reason-clause-tells : goal.returns-in_err-reason-clause-tells
returns-in_err-reason-clause-tells c = c.take_first.ensures.tells

pub returns-in-Refused-clause-tells : goal.returns-in-Refused-clause-tells
returns-in-Refused-clause-tells c = c.take_first.ensures.tells

pub returns-in-Stop-clause-tells : goal.returns-in-Stop-clause-tells
returns-in-Stop-clause-tells c = c.take_first.ensures.tells

pub returns-in-Cut-clause-tells : goal.returns-in-Cut-clause-tells
returns-in-Cut-clause-tells c =
    let ended = c.end_datagram.ensures in
    tells_then _ _ _ c.take_first.ensures.tells (tells_peer _ _ ended.peer ended.tells)

pub returns-then-not-is_whole-clause-tells : goal.returns-then-not-is_whole-clause-tells
returns-then-not-is_whole-clause-tells c =
    let ended = c.end_datagram-2.ensures in
    tells_then _ _ _ c.take_first.ensures.tells (tells_then _ _ _ c.take_others-is_whole.ensures.tells (tells_peer _ _ ended.peer ended.tells))

pub returns-clause-tells : goal.returns-clause-tells
returns-clause-tells c =
    let ended = c.end_datagram-2.ensures in
    tells_then _ _ _ c.take_first.ensures.tells (tells_then _ _ _ c.take_others-is_whole.ensures.tells (tells_peer _ _ ended.peer ended.tells))

-- ## What moves

pub returns-in-Stop-clause-path : goal.returns-in-Stop-clause-path
returns-in-Stop-clause-path c takes is all =
    let stop : c.take_first.result ≡ Ok step.Stop = search rules in
    let tag : c.header-tag.result.verification_tag ≡ u32_at c.args.datagram.now 4 =
    c.header-tag.ensures.verification_tag ∙ ap (λ l. u32_at l 4) c.requires.whole in
    let of : TakesSacksOf c.header-tag.result.verification_tag c.args.self.now = subst (λ (n : ℕ). TakesSacksOf n c.args.self.now) (sym tag) takes in
    let each = subst (λ (l : List ChunkPlace). all_go_on l ≡ true) c.in-Some.ensures.place all in
    subst (λ (l : List ChunkPlace). MovesByFirstOf l c.args.datagram.now c.args.now c.args.self.now c.take_first.new.self) (sym c.in-Some.ensures.place)
    (first_move_stop c.header-tag.result.verification_tag c.args.datagram.now c.args.now c.in-Some.first c.next.new.self.left c.args.self.now
    c.take_first.new.self c.take_first.result each (c.take_first.ensures.sacks of) stop)

pub returns-clause-path : goal.returns-clause-path
returns-clause-path c takes is all =
    let ended = c.end_datagram-2.ensures in
    let next : c.take_first.result ≡ Ok step.Next = search rules in
    let tag : c.header-tag.result.verification_tag ≡ u32_at c.args.datagram.now 4 =
    c.header-tag.ensures.verification_tag ∙ ap (λ l. u32_at l 4) c.requires.whole in
    let of : TakesSacksOf c.header-tag.result.verification_tag c.args.self.now = subst (λ (n : ℕ). TakesSacksOf n c.args.self.now) (sym tag) takes in
    let others = λ (t : TakesSacksOf c.header-tag.result.verification_tag c.take_first.new.self).
    c.take_others-is_whole.ensures.path (subst (λ (n : ℕ). TakesSacksOf n c.take_first.new.self) tag t) c.if-not-is_whole.false in
    let each = subst (λ (l : List ChunkPlace). all_go_on l ≡ true) c.in-Some.ensures.place all in
    subst (λ (l : List ChunkPlace). MovesByFirstOf l c.args.datagram.now c.args.now c.args.self.now c.end_datagram-2.new.self) (sym c.in-Some.ensures.place) (
    move_ended (c.in-Some.first ∷ c.next.new.self.left) c.args.datagram.now c.args.now c.args.self.now c.take_others-is_whole.new.self
    c.end_datagram-2.new.self ended.over ended.sending (
    first_move_next c.header-tag.result.verification_tag c.args.datagram.now c.args.now c.in-Some.first c.next.new.self.left c.args.self.now
    c.take_first.new.self c.take_first.result each (c.take_first.ensures.sacks of) (c.take_first.ensures.path of) c.take_others-is_whole.new.self others next
    )
    )

-- ## What ends the association

pub returns-in-Stop-clause-over : goal.returns-in-Stop-clause-over
returns-in-Stop-clause-over c =
    ended_stop _ c.args.self.now c.args.self.now c.take_first.new.self c.in-Some.first
    (next_own _ _ _ _ c.in-Some.ensures.place (all_own _ _ c.requires.all)).0 (ended_first c.args.datagram.now c.args.self.now)
    (if_ok (λ s. EndsOn c.in-Some.first c.args.datagram.now s c.args.self.now c.take_first.new.self) c.take_first.result step.Stop
    (search rules) c.take_first.ensures.over)

pub returns-in-Cut-clause-over : goal.returns-in-Cut-clause-over
returns-in-Cut-clause-over c =
    ended_same _ c.args.self.now c.args.self.now c.end_datagram.new.self (ended_first c.args.datagram.now c.args.self.now) (c.end_datagram.ensures.over
    ∙ if_ok (λ s. EndsOn c.in-Some.first c.args.datagram.now s c.args.self.now c.take_first.new.self) c.take_first.result step.Cut
    (search rules) c.take_first.ensures.over)

pub returns-then-not-is_whole-clause-over : goal.returns-then-not-is_whole-clause-over
returns-then-not-is_whole-clause-over c =
    let ended = c.end_datagram-2.ensures in
    ended_still c.args.now c.take_others-is_whole.new.self c.end_datagram-2.new.self ended.halves.receiver ended.events ended.settles
    c.args.datagram.now c.args.self.now (
    ended_then _ c.args.self.now c.take_first.new.self c.take_others-is_whole.new.self (
    ended_next _ c.args.self.now c.args.self.now c.take_first.new.self c.in-Some.first
    (next_own _ _ _ _ c.in-Some.ensures.place (all_own _ _ c.requires.all)).0 (ended_first c.args.datagram.now c.args.self.now)
    (if_ok (λ s. EndsOn c.in-Some.first c.args.datagram.now s c.args.self.now c.take_first.new.self) c.take_first.result step.Next
    (search rules) c.take_first.ensures.over)
    ) c.take_others-is_whole.ensures.over
    )

pub returns-clause-over : goal.returns-clause-over
returns-clause-over c =
    let ended = c.end_datagram-2.ensures in
    ended_still c.args.now c.take_others-is_whole.new.self c.end_datagram-2.new.self ended.halves.receiver ended.events ended.settles
    c.args.datagram.now c.args.self.now (
    ended_then _ c.args.self.now c.take_first.new.self c.take_others-is_whole.new.self (
    ended_next _ c.args.self.now c.args.self.now c.take_first.new.self c.in-Some.first
    (next_own _ _ _ _ c.in-Some.ensures.place (all_own _ _ c.requires.all)).0 (ended_first c.args.datagram.now c.args.self.now)
    (if_ok (λ s. EndsOn c.in-Some.first c.args.datagram.now s c.args.self.now c.take_first.new.self) c.take_first.result step.Next
    (search rules) c.take_first.ensures.over)
    ) c.take_others-is_whole.ensures.over
    )

-- ## Each chunk

pub returns-in-Stop-clause-walks : goal.returns-in-Stop-clause-walks
returns-in-Stop-clause-walks c is =
    walks_at c.in-Some.first c.next.new.self.left _ c.args.datagram.now c.args.now c.args.self.now c.take_first.new.self c.in-Some.ensures.place (inl (
    first_at c.in-Some.first _ _ _ _ c.args.datagram.now c.args.now step.Stop c.args.self.now c.take_first.new.self
    (c.header-tag.ensures.verification_tag ∙ ap (λ l. u32_at l 4) c.requires.whole) (c.left-count.ensures ∙ ap length c.in-Some.ensures.place)
    (if_ok (λ s. FirstOn c.in-Some.first c.header-tag.result.verification_tag c.left-count.result c.args.datagram.now c.args.now s c.args.self.now
    c.take_first.new.self) c.take_first.result step.Stop
    (search rules) c.take_first.ensures.walks)
    ))

pub returns-clause-walks : goal.returns-clause-walks
returns-clause-walks c is =
    let ended = c.end_datagram-2.ensures in
    walks_at c.in-Some.first c.next.new.self.left _ c.args.datagram.now c.args.now c.args.self.now c.end_datagram-2.new.self c.in-Some.ensures.place
    (inr (record {
      behind = c.take_first.new.self;
      first = first_at c.in-Some.first _ _ _ _ c.args.datagram.now c.args.now step.Next c.args.self.now c.take_first.new.self
          (c.header-tag.ensures.verification_tag ∙ ap (λ l. u32_at l 4) c.requires.whole) (c.left-count.ensures ∙ ap length c.in-Some.ensures.place)
          (if_ok (λ s. FirstOn c.in-Some.first c.header-tag.result.verification_tag c.left-count.result c.args.datagram.now c.args.now s c.args.self.now
          c.take_first.new.self) c.take_first.result step.Next
          (search rules) c.take_first.ensures.walks);
      last = c.take_others-is_whole.new.self;
      others = c.take_others-is_whole.ensures.walks c.if-not-is_whole.false;
      ends = record { settles = ended.settles; events = ended.events; receiver = ended.halves.receiver; heartbeat = ended.heartbeat; acks = ended.acks };
    }))

-- ## Where memory is wanting

pub returns-in-Cut-clause-in_part : goal.returns-in-Cut-clause-in_part
returns-in-Cut-clause-in_part c is =
    let ended = c.end_datagram.ensures in
    part_at c.in-Some.first c.next.new.self.left _ c.args.datagram.now c.args.now c.args.self.now c.end_datagram.new.self c.in-Some.ensures.place
    (inl (record {
      last = c.take_first.new.self;
      cut = first_at c.in-Some.first _ _ _ _ c.args.datagram.now c.args.now step.Cut c.args.self.now c.take_first.new.self
          (c.header-tag.ensures.verification_tag ∙ ap (λ l. u32_at l 4) c.requires.whole) (c.left-count.ensures ∙ ap length c.in-Some.ensures.place)
          (if_ok (λ s. FirstOn c.in-Some.first c.header-tag.result.verification_tag c.left-count.result c.args.datagram.now c.args.now s c.args.self.now
          c.take_first.new.self) c.take_first.result step.Cut
          (search rules) c.take_first.ensures.walks);
      ends = record { settles = ended.settles; events = ended.events; receiver = ended.halves.receiver; heartbeat = ended.heartbeat; acks = ended.acks };
    }))

pub returns-then-not-is_whole-clause-in_part : goal.returns-then-not-is_whole-clause-in_part
returns-then-not-is_whole-clause-in_part c is =
    let ended = c.end_datagram-2.ensures in
    let short : c.take_others-is_whole.result ≡ false = search rules in
    part_at c.in-Some.first c.next.new.self.left _ c.args.datagram.now c.args.now c.args.self.now c.end_datagram-2.new.self c.in-Some.ensures.place
    (inr (record {
      behind = c.take_first.new.self;
      first = first_at c.in-Some.first _ _ _ _ c.args.datagram.now c.args.now step.Next c.args.self.now c.take_first.new.self
          (c.header-tag.ensures.verification_tag ∙ ap (λ l. u32_at l 4) c.requires.whole) (c.left-count.ensures ∙ ap length c.in-Some.ensures.place)
          (if_ok (λ s. FirstOn c.in-Some.first c.header-tag.result.verification_tag c.left-count.result c.args.datagram.now c.args.now s c.args.self.now
          c.take_first.new.self) c.take_first.result step.Next
          (search rules) c.take_first.ensures.walks);
      last = c.take_others-is_whole.new.self;
      others = c.take_others-is_whole.ensures.in_part short;
      ends = record { settles = ended.settles; events = ended.events; receiver = ended.halves.receiver; heartbeat = ended.heartbeat; acks = ended.acks };
    }))
