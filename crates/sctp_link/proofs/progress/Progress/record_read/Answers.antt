use Rattle.std.proofs.Common.{◌≡◌, ℕ, ◌+◌, Bool, List, ap, sym, ◌∙◌, refl, arith, drop, map}
use Rattle.std.specs.Prelude.{◌==◌, ◌&&◌, if◌then◌else◌, slice_set}
use Rattle.std.proofs.lemmas.Bool.{eq-eqb, ne_eqb}
use Rattle.sctp_link.specs.declared.progress.StreamProgress.{StreamProgress}
use Rattle.sctp_link.specs.Progress.{Standing, standing_of, with_read}
use Rattle.sctp_link.proofs.standings.Kept.{absent-on, place-inside, numbered, put-on}
use Rattle.sctp_link.proofs.progress.Progress.record_read.Goals as goal
use Rattle.sctp_link.proofs.progress.Progress.record_read.Goals.{then-not-ordered, else-not-ordered+then-index-progress}
use Rattle.sctp_link.proofs.progress.Progress.record_read.Goals.{else-not-ordered+else-index-progress}

read-made : (ordered : Bool) (index : ℕ) (p : Standing) (complete : List ℕ) (next : ℕ) → complete ≡ (if ordered then p.complete else drop 1 p.complete)
    → next ≡ (if ordered && (index == p.next) then index + 1 else p.next) → record p { complete = complete; next = next } ≡ with_read ordered index p
read-made ordered index p complete next w n = cc (w, n)

pub returns-in_default : goal.returns-in_default
returns-in_default c =
    let h = c.self.inside in
    rw (← c.self.view_is) (absent-on h.numbers h.streams.items c.self.invariant c.args.stream (with_read c.args.ordered c.args.index) c.in_default.ensures)

pub index_mut-progress-requires : goal.index_mut-progress-requires
index_mut-progress-requires c =
    let h = c.self.inside in
    omega (arith, place-inside h.numbers h.streams.items c.self.invariant c.args.stream c.in-Some.place c.in-Some.ensures)

stays : (c : goal.Joined-not-ordered) (q : StreamProgress) → q.number ≡ c.index_mut-progress.result.now.number
    → c.self.inside.numbers ≡ map (λ (x : StreamProgress). x.number) (slice_set c.self.inside.streams.items c.in-Some.place q)
stays c q same =
    let h = c.self.inside in
    numbered h.numbers h.streams.items c.self.invariant c.in-Some.place c.index_mut-progress.result.now q c.index_mut-progress.ensures.value same

pub invariant_of-self : goal.invariant_of-self
invariant_of-self c = elim c.if-not-ordered.branch [
  | then-not-ordered w ↦ rw w.self-inside-is (stays c (record c.index_mut-progress.result.now { complete = w.pop_front.new.self }) refl)
  | else-not-ordered+then-index-progress w ↦ rw w.self-inside-is (stays c (record c.index_mut-progress.result.now { next = c.args.index + 1 }) refl)
  | else-not-ordered+else-index-progress w ↦ rw w.self-inside-is (stays c c.index_mut-progress.result.now refl)
]

pub returns : goal.returns
returns c = elim c.if-not-ordered.branch [
  | then-not-ordered w ↦
      let h = c.self.inside in
      let p = c.index_mut-progress.result.now in
      rw (w.self-inside-is, ← c.self.view_is)
      (put-on h.numbers h.streams.items c.self.invariant c.args.stream c.in-Some.place c.in-Some.ensures p
      (record p { complete = w.pop_front.new.self }) c.index_mut-progress.ensures.value (with_read c.args.ordered c.args.index)
      (read-made c.args.ordered c.args.index (standing_of p) w.pop_front.new.self.items p.next
      (w.pop_front.ensures.rest ∙ ap (λ b. if b then p.complete.items else drop 1 p.complete.items) (sym w.if-not-ordered.true))
      (ap (λ b. if b && (c.args.index == p.next) then c.args.index + 1 else p.next) (sym w.if-not-ordered.true))))
  | else-not-ordered+then-index-progress w ↦
      let h = c.self.inside in
      let p = c.index_mut-progress.result.now in
      rw (w.self-inside-is, ← c.self.view_is)
      (put-on h.numbers h.streams.items c.self.invariant c.args.stream c.in-Some.place c.in-Some.ensures p
      (record p { next = c.args.index + 1 }) c.index_mut-progress.ensures.value (with_read c.args.ordered c.args.index)
      (read-made c.args.ordered c.args.index (standing_of p) p.complete.items (c.args.index + 1)
      (ap (λ b. if b then p.complete.items else drop 1 p.complete.items) (sym w.if-not-ordered.false))
      (ap (λ b. if b then c.args.index + 1 else p.next) (sym (eq-eqb c.args.index p.next w.if-index-progress.true))
      ∙ ap (λ b. if b && (c.args.index == p.next) then c.args.index + 1 else p.next) (sym w.if-not-ordered.false))))
  | else-not-ordered+else-index-progress w ↦
      let h = c.self.inside in
      let p = c.index_mut-progress.result.now in
      rw (w.self-inside-is, ← c.self.view_is)
      (put-on h.numbers h.streams.items c.self.invariant c.args.stream c.in-Some.place c.in-Some.ensures p p c.index_mut-progress.ensures.value
      (with_read c.args.ordered c.args.index)
      (read-made c.args.ordered c.args.index (standing_of p) p.complete.items p.next
      (ap (λ b. if b then p.complete.items else drop 1 p.complete.items) (sym w.if-not-ordered.false))
      (ap (λ b. if b then c.args.index + 1 else p.next) (sym (ne_eqb c.args.index p.next w.if-index-progress.false))
      ∙ ap (λ b. if b && (c.args.index == p.next) then c.args.index + 1 else p.next) (sym w.if-not-ordered.false))))
]
