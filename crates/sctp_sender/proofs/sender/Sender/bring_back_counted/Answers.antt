use Rattle.sctp_sender.proofs.Names.{◌≡◌, true, false, ℕ, ◌+◌, ◌*◌, ◌<◌, ◌≤◌, ◌^◌, List, Option, Some, None, length, map, get_or, inr, refl, ap, sym, subst}
use Rattle.sctp_sender.proofs.Names.{◌∙◌, arith, rules, All, count_by, IfSome, is_some, nat_lt, false≢true, none-some, length-map, nat_tests, negated, Sack}
use Rattle.sctp_sender.proofs.Names.{sack_of, ChunkPayloadData, GapAckBlock, Outbound, total_bytes, bytes_of, is_left_out, take_back_turns, to_sort, Flight}
use Rattle.sctp_sender.proofs.Names.{can_resend, is_outdated, sack_refusal, Kept, TakenBack, PlacedData, AreKnown, ascends_from, AreReported, Cover, IsCovered}
use Rattle.sctp_sender.proofs.Names.{blocks_left, with_reported_again, rises_from, back_each, bytes_back, bytes_coming, placed, answered_back}
use Rattle.sctp_sender.proofs.Names.{answered_of_placed, restored, with_restored, Transmission, after_take_back, with_streams, back_by, take_back_refusal}
use Rattle.sctp_sender.proofs.Names.{taken_back_by, IsAllSettled}
use Rattle.std.specs.Option.{option_map}
use Rattle.sctp_sender.specs.Calls.{CountsBack}
use Rattle.sctp_sender.proofs.Covers.{restored-covered}
use Rattle.sctp_sender.proofs.Undone.{before-covers, before-known, places-within, undone}
use Rattle.sctp_sender.proofs.Keepings.{length-restored, back-bytes, restored-all-settled, answered-weight, weight}
use Rattle.sctp_sender.proofs.LeftReported.{noted-twice}
use Rattle.sctp_sender.proofs.Listed.{others-covered, others-reported}
use Rattle.sctp_sender.proofs.Placed.{back-length, placed-rises, placed-within, answer-bytes}
use Rattle.sctp_sender.proofs.Runs.{any_chunk}
use Rattle.sctp_sender.proofs.SackCosts.{few-known}
use Rattle.sctp_sender.proofs.Seen.{sender_in}
use Rattle.sctp_sender.proofs.TakenBacks.{back-count, back-by-is, refusal-is, answer-is}
use Rattle.sctp_sender.proofs.sender.Sender.bring_back_counted.Goals.{After-coming_back_counted, After-is_room_for, After-left_reported, After-restore_counted}
use Rattle.sctp_sender.proofs.sender.Sender.bring_back_counted.Goals.{After-set_left-before, In_ok-told, In_ok-backs, In_ok-left}
use Rattle.sctp_sender.proofs.sender.Sender.bring_back_counted.Goals as goal

-- Something is kept, the SACK is not out of date, and this comes back by it.
record Backs (s : Sack) (t : Transmission) (ks : List (Option (List ℕ))) (backs : List PlacedData) : Type 0 where
  kept : t.kept ≡ Some ks
  current : is_outdated s t.flight ≡ false
  is : backs ≡ placed 0 (back_each s t.flight.queue.inflight.chunks ks)
  short : length (back_each s t.flight.queue.inflight.chunks ks) ≤ length t.flight.queue.inflight.chunks

backs : (c : In_ok-backs) → Backs (sack_of c.args.sack.now) (sender_in c.self.inside) c.in-Some.kept.user_data.items c.in_ok-backs.backs.items
backs c = record {
  kept = ap (option_map (λ k. k.user_data.items)) c.in-Some.is;
  current = negated (is_outdated (sack_of c.args.sack.now) c.self.inside.flight) (sym c.in_ok-is_current_counted.ensures.answer ∙ c.if-not-branch.false);
  is = c.in_ok-backs.ensures.ok;
  short = back-length (sack_of c.args.sack.now) c.self.inside.flight.queue.inflight.chunks c.in-Some.kept.user_data.items;
}

within : {s : Sack} {t : Transmission} {ks : List (Option (List ℕ))} {ps : List PlacedData} → Backs s t ks ps
    → All (λ (b : PlacedData). b.place < length t.flight.queue.inflight.chunks) ps
within {s} {t} {ks} {ps} b =
    let cs = t.flight.queue.inflight.chunks in
    subst (λ (xs : List PlacedData). All (λ (b : PlacedData). b.place < length cs) xs) (sym b.is)
    (placed-within 0 (length cs) (back_each s cs ks) (omega (arith, b.short)))

-- What is answered of it.
record Answered (s : Sack) (t : Transmission) (ps : List PlacedData) (rs : List TakenBack) : Type 0 where
  mapped : rs ≡ map (λ b. answered_of_placed b (get_or t.flight.queue.inflight.chunks b.place any_chunk)) ps
  is : rs ≡ taken_back_by s t

answered : (c : In_ok-told)
    → Backs (sack_of c.args.sack.now) (sender_in c.self.inside) c.in-Some.kept.user_data.items c.in_ok-backs.backs.items
    → Answered (sack_of c.args.sack.now) (sender_in c.self.inside) c.in_ok-backs.backs.items c.in_ok-told.told.answered.items
answered c b =
    let cs = c.self.inside.flight.queue.inflight.chunks in
    let mapped : c.in_ok-told.told.answered.items ≡ map (λ b. answered_of_placed b (get_or cs b.place any_chunk)) c.in_ok-backs.backs.items =
    c.in_ok-told.ensures.ok any_chunk
    ∙ ap (λ (o : Outbound). map (λ b. answered_of_placed b (get_or o.inflight.chunks b.place any_chunk)) c.deref-2.result.now) c.queue.ensures
    ∙ ap (map (λ b. answered_of_placed b (get_or cs b.place any_chunk))) c.deref-2.ensures.value in
    record {
      mapped = mapped;
      is = mapped ∙ answer-is (sack_of c.args.sack.now) (sender_in c.self.inside) c.in-Some.kept.user_data.items b.kept b.current
          c.in_ok-backs.backs.items b.is any_chunk;
    }

-- Whether there is room for it.
room : (c : After-is_room_for)
    → c.is_room_for.result ≡ nat_lt (total_bytes c.self.inside.flight.queue + bytes_back c.in_ok-told.told.answered.items) (2 ^ 64)
room c =
    let all : ℕ = total_bytes c.self.inside.flight.queue in
    c.is_room_for.ensures.value ∙ ap (λ (o : Outbound). nat_lt (total_bytes o + bytes_back c.deref-3.result.now) (2 ^ 64)) c.queue-2.ensures
    ∙ ap (λ (rs : List TakenBack). nat_lt (all + bytes_back rs) (2 ^ 64)) c.deref-3.ensures.value

-- What is left of what was reported.
record Leaves (f : Flight) (reported : List GapAckBlock) (ks bs : List (Option (List ℕ))) : Type 0 where
  cover : Cover reported ks (with_restored bs f)
  known : AreKnown reported (restored bs f.queue.inflight.chunks)

leaves : (c : In_ok-left)
    → Backs (sack_of c.args.sack.now) (sender_in c.self.inside) c.in-Some.kept.user_data.items c.in_ok-backs.backs.items
    → Leaves c.self.inside.flight (blocks_left c.in_ok-left.left c.in-Some.kept.reported.items) c.in-Some.kept.user_data.items
    (back_each (sack_of c.args.sack.now) c.self.inside.flight.queue.inflight.chunks c.in-Some.kept.user_data.items)
leaves c b =
    let dense = back_each (sack_of c.args.sack.now) c.self.inside.flight.queue.inflight.chunks c.in-Some.kept.user_data.items in
    let there = c.deref.ensures.value ∙ b.is in
    record {
      cover = c.in_ok-left.ensures.covered dense there b.short;
      known = c.in_ok-left.ensures.known dense (subst (λ (o : Option Kept). AreReported o c.self.inside.flight) c.in-Some.is c.self.invariant.4) there;
    }

-- What is in flight then.
after : (c : After-restore_counted)
    → Backs (sack_of c.args.sack.now) (sender_in c.self.inside) c.in-Some.kept.user_data.items c.in_ok-backs.backs.items
    → c.restore_counted.new.self
    ≡ with_restored (back_each (sack_of c.args.sack.now) c.self.inside.flight.queue.inflight.chunks c.in-Some.kept.user_data.items) c.self.inside.flight
after c b = c.restore_counted.ensures.restored _ b.is b.short

-- ## What it costs

-- until it is found what comes back, and until it is cut out of what was reported
walked : (c : After-coming_back_counted)
    → (c.coming_back_counted.new.turns ≤ c.args.turns.now + 7 * length (sack_of c.args.sack.now).gap_ack_blocks
    + 4 * to_sort (sack_of c.args.sack.now).gap_ack_blocks + count_by (λ (c : ChunkPayloadData). c.acked) c.self.inside.flight.queue.inflight.chunks
    + count_by (is_left_out (sack_of c.args.sack.now)) c.self.inside.flight.queue.inflight.chunks + 1)
    × (length c.in-Some.kept.reported.items ≤ count_by (λ (c : ChunkPayloadData). c.acked) c.self.inside.flight.queue.inflight.chunks)
walked c =
    let f : Flight = c.self.inside.flight in
    let known = subst (λ (o : Option Kept). AreReported o f) c.in-Some.is c.self.invariant.4 in
    let cover = subst (λ (o : Option Kept). IfSome o (λ k. Cover k.reported.items k.user_data.items f)) c.in-Some.is c.self.invariant.3.cover in (
      omega (arith, c.is_current_counted.ensures.cost, c.coming_back_counted.ensures.cost known),
      few-known c.in-Some.kept.reported.items f.queue.inflight.chunks cover.ascend known,
    )

cut : (c : After-left_reported)
    → Backs (sack_of c.args.sack.now) (sender_in c.self.inside) c.in-Some.kept.user_data.items c.in_ok-backs.backs.items
    → (length c.in_ok-backs.backs.items ≡ length (taken_back_by (sack_of c.args.sack.now) (sender_in c.self.inside)))
    × (c.left_reported.new.turns ≤ c.coming_back_counted.new.turns + length c.in-Some.kept.reported.items + length c.in_ok-backs.backs.items)
cut c b =
    let n = ap length c.deref.ensures.value in (
      back-count (sack_of c.args.sack.now) (sender_in c.self.inside) c.in-Some.kept.user_data.items b.kept b.current c.in_ok-backs.backs.items b.is,
      omega (arith, n, c.left_reported.ensures.cost),
    )

-- none of this stands where the SACK is out of date or refused, or nothing is kept
stale : (c : After-coming_back_counted) {A : Type 0} → is_outdated (sack_of c.args.sack.now) c.self.inside.flight ≡ true → A
stale c old = absurd (false≢true (sym (negated _ (sym c.in_ok-is_current_counted.ensures.answer ∙ c.if-not-branch.false)) ∙ old))

forged : (c : After-coming_back_counted) {A : Type 0} → is_some (sack_refusal (sack_of c.args.sack.now) c.self.inside.flight) ≡ true → A
forged c some = absurd (false≢true (ap is_some (sym (c.in_ok-is_current_counted.ensures.accepted refl)) ∙ some))

nothing : (c : After-coming_back_counted) {A : Type 0} → (sender_in c.self.inside).kept ≡ None → A
nothing c none = absurd (none-some c.in-Some.kept.user_data.items (sym none ∙ ap (option_map (λ k. k.user_data.items)) c.in-Some.is))

-- ## The calls

pub left_reported-requires-clause-in_order : goal.left_reported-requires-clause-in_order
left_reported-requires-clause-in_order c =
    ap (rises_from 0) (c.deref.ensures.value ∙ c.in_ok-backs.ensures.ok)
    ∙ placed-rises 0 0 (back_each (sack_of c.args.sack.now) c.self.inside.flight.queue.inflight.chunks c.in-Some.kept.user_data.items) (omega arith)

pub answered_back_counted-requires : goal.answered_back_counted-requires
answered_back_counted-requires c = λ k d lt.
    let cs = c.self.inside.flight.queue.inflight.chunks in
    let here : All (λ (b : PlacedData). b.place < length cs) c.deref-2.result.now =
    subst (λ (xs : List PlacedData). All (λ (b : PlacedData). b.place < length cs) xs) (sym c.deref-2.ensures.value)
    (within (backs (goal.at.answered_back_counted-requires c).In_ok-backs)) in
    let n = ap (λ (o : Outbound). length o.inflight.chunks) c.queue.ensures in
    let h = here k d lt in omega (arith, h, n)

pub restore_counted-requires-clause-within : goal.restore_counted-requires-clause-within
restore_counted-requires-clause-within c = within (backs (goal.at.restore_counted-requires-clause-within c).In_ok-backs)

pub restore_counted-requires-clause-bytes : goal.restore_counted-requires-clause-bytes
restore_counted-requires-clause-bytes c =
    let p = goal.at.restore_counted-requires-clause-bytes c in
    let a = answered p.In_ok-told (backs p.In_ok-backs) in
    let same : bytes_back c.in_ok-told.told.answered.items ≡ bytes_coming c.in_ok-backs.backs.items =
    ap bytes_back a.mapped ∙ answer-bytes c.in_ok-backs.backs.items c.self.inside.flight.queue.inflight.chunks any_chunk in
    let fits = sym (room p.After-is_room_for) ∙ c.if-not-is_room_for.false in
    grind (arith, nat_tests, same, fits)

pub set_left-before-requires-clause-known : goal.set_left-before-requires-clause-known
set_left-before-requires-clause-known c =
    let p = goal.at.set_left-before-requires-clause-known c in
    let b = backs p.In_ok-backs in
    subst (λ (f : Flight). IfSome c.in_ok-left.left (λ l. AreKnown l.known.items f.queue.inflight.chunks)) (sym (after p.After-restore_counted b))
    (noted-twice (λ bs. AreKnown bs (restored (back_each (sack_of c.args.sack.now) c.self.inside.flight.queue.inflight.chunks
    c.in-Some.kept.user_data.items) c.self.inside.flight.queue.inflight.chunks)) c.in_ok-left.left c.in-Some.kept.reported.items
    c.in_ok-left.ensures.twice (leaves p.In_ok-left b).known)

pub set_left-before-requires-clause-ascend : goal.set_left-before-requires-clause-ascend
set_left-before-requires-clause-ascend c =
    let p = goal.at.set_left-before-requires-clause-ascend c in
    noted-twice (λ bs. ascends_from 0 bs ≡ true) c.in_ok-left.left c.in-Some.kept.reported.items c.in_ok-left.ensures.twice
    (leaves p.In_ok-left (backs p.In_ok-backs)).cover.ascend

pub invariant_of-self : goal.invariant_of-self
invariant_of-self c =
    let p = goal.at.invariant_of-self c in
    let b = backs p.In_ok-backs in
    let l = leaves p.In_ok-left b in
    let f : Flight = c.self.inside.flight in
    let dense = back_each (sack_of c.args.sack.now) f.queue.inflight.chunks c.in-Some.kept.user_data.items in
    let new : c.set_left-before.new.flight ≡ with_restored dense f = c.set_left-before.ensures.flight ∙ after p.After-restore_counted b in
    let left-of : List GapAckBlock → List GapAckBlock = blocks_left c.in_ok-left.left in
    let old = restored-covered c.self.inside.kept dense f c.self.invariant.3 in (
      c.self.invariant.0,
      c.self.invariant.1,
      subst (λ (g : Flight). IsAllSettled g.queue) (sym new) (restored-all-settled dense f c.self.invariant.2),
      subst (IsCovered c.set_left-before.new.kept) (sym new) (record {
        ordered = old.ordered;
        unordered = old.unordered;
        cover = others-covered c.self.inside.kept c.set_left-before.new.kept (with_restored dense f) left-of c.set_left-before.ensures.data c.set_left-before.ensures.blocks
            (subst (λ (o : Option Kept). IfSome o (λ k. Cover (left-of k.reported.items) k.user_data.items (with_restored dense f))) (sym c.in-Some.is)
            l.cover);
      }),
      subst (AreReported c.set_left-before.new.kept) (sym new) (others-reported c.self.inside.kept c.set_left-before.new.kept (with_restored dense f) left-of
          c.set_left-before.ensures.blocks
          (subst (λ (o : Option Kept). IfSome o (λ k. AreKnown (left-of k.reported.items) (with_restored dense f).queue.inflight.chunks)) (sym c.in-Some.is)
          l.known)),
    )

-- ## The answer

pub returns-then-not-is_room_for-clause-restores : goal.returns-then-not-is_room_for-clause-restores
returns-then-not-is_room_for-clause-restores c =
    let p = goal.at.returns-then-not-is_room_for-clause-restores c in
    let b = backs p.In_ok-backs in
    let t : Transmission = sender_in c.self.inside in
    let s : Sack = sack_of c.args.sack.now in
    let full : nat_lt (total_bytes t.flight.queue + bytes_back (taken_back_by s t)) (2 ^ 64) ≡ false =
    ap (λ (rs : List TakenBack). nat_lt (total_bytes t.flight.queue + bytes_back rs) (2 ^ 64)) (sym (answered p.In_ok-told b).is)
    ∙ sym (room p.After-is_room_for) ∙ c.if-not-is_room_for.true in
    record {
      answer = search rules;
      ok = search rules;
      outstanding = search rules;
      bytes = search rules;
      accepted = search rules;
      refused = inr (ap (take_back_refusal s) (sym c.self.view_is)
          ∙ refusal-is s t c.in-Some.kept.user_data.items b.kept b.current false (c.in_ok-is_current_counted.ensures.accepted refl) full);
      idle = λ none. nothing p.After-coming_back_counted (ap (λ (u : Transmission). u.kept) c.self.view_is ∙ none);
      outdated = λ old. stale p.After-coming_back_counted (ap (λ (u : Transmission). is_outdated s u.flight) c.self.view_is ∙ old);
      err = search rules;
    }

pub returns-clause-restores : goal.returns-clause-restores
returns-clause-restores c =
    let p = goal.at.returns-clause-restores c in
    let b = backs p.In_ok-backs in
    let s : Sack = sack_of c.args.sack.now in
    let t : Transmission = sender_in c.self.inside in
    let cs = t.flight.queue.inflight.chunks in
    let ks = c.in-Some.kept.user_data.items in
    let dense = back_each s cs ks in
    let is = (answered p.In_ok-told b).is in
    let fits : nat_lt (total_bytes t.flight.queue + bytes_back (taken_back_by s t)) (2 ^ 64) ≡ true =
    ap (λ (rs : List TakenBack). nat_lt (total_bytes t.flight.queue + bytes_back rs) (2 ^ 64)) (sym is)
    ∙ sym (room p.After-is_room_for) ∙ c.if-not-is_room_for.false in
    let by-dense : c.in_ok-told.told.answered.items ≡ answered_back dense cs = is
    ∙ ap (λ bs. answered_back bs cs) (sym (back-by-is s t ks b.kept b.current)) in
    let restored-flight = c.set_left-before.ensures.flight ∙ after p.After-restore_counted b in
    let new : c.set_left-before.new.flight ≡ with_restored (back_by s t.flight t.kept) t.flight = restored-flight
    ∙ ap (λ bs. with_restored bs t.flight) (back-by-is s t ks b.kept b.current) in
    let total = ap (λ (g : Flight). total_bytes g.queue) restored-flight in
    let back : bytes_of (restored dense cs) ≡ bytes_of cs + weight dense = back-bytes s cs ks c.self.invariant.2.inflight in
    let answers : bytes_back c.in_ok-told.told.answered.items ≡ weight dense = ap bytes_back by-dense ∙ answered-weight dense cs b.short in
    let all : total_bytes c.set_left-before.new.flight.queue ≡ total_bytes t.flight.queue + bytes_back c.in_ok-told.told.answered.items =
    omega (arith, answers, back, total) in
    record {
      answer = is ∙ ap (taken_back_by s) c.self.view_is;
      ok = ap (λ (o : Option (List (Option (List ℕ)))). let u : Transmission = record t { flight = c.set_left-before.new.flight; kept = o } in u)
          c.set_left-before.ensures.data ∙ ap (λ (g : Flight). let u : Transmission = record t { flight = g } in u) new
          ∙ ap (λ (u : Transmission). with_streams u.streams (after_take_back s u)) c.self.view_is;
      outstanding = subst (λ (f : Flight). All (λ (b : TakenBack). can_resend b.tsn f ≡ true) c.in_ok-told.told.answered.items)
          (sym c.set_left-before.ensures.flight) (subst (λ ts. All (λ (b : TakenBack). can_resend b.tsn c.restore_counted.new.self ≡ true) ts) (sym by-dense)
          (c.restore_counted.ensures.outstanding s ks b.is));
      bytes = rw (← c.self.view_is) all;
      accepted = λ ok. ap (take_back_refusal s) (sym c.self.view_is)
          ∙ refusal-is s t ks b.kept b.current true (c.in_ok-is_current_counted.ensures.accepted refl) fits;
      refused = search rules;
      idle = search rules;
      outdated = search rules;
      err = search rules;
    }

-- ## The turns, for each way out

-- so many until one of these, and none of that stands where nothing is kept, or the SACK is out of date or refused
spent : (c : After-coming_back_counted) (last : ℕ) → c.args.turns.now ≤ last
    → last ≤ c.args.turns.now + take_back_turns (sack_of c.args.sack.now) c.self.inside.flight
    (length (taken_back_by (sack_of c.args.sack.now) (sender_in c.self.inside)))
    → CountsBack (sack_of c.args.sack.now) c.args.self.now (length (taken_back_by (sack_of c.args.sack.now) c.args.self.now)) c.args.turns.now last
spent c last not-back cost =
    let s : Sack = sack_of c.args.sack.now in
    subst (λ (t : Transmission). CountsBack s t (length (taken_back_by s t)) c.args.turns.now last) c.self.view_is (record {
      not_back = not-back;
      cost = cost;
      nothing_kept = nothing c;
      stale = stale c;
      forged = forged c;
    })

pub returns-in_err-backs-clause-turns : goal.returns-in_err-backs-clause-turns
returns-in_err-backs-clause-turns c =
    let p = (goal.at.returns-in_err-backs-clause-turns c).After-coming_back_counted in
    let w = walked p in
    spent p c.coming_back_counted.new.turns (omega arith) (omega (arith, w.0))

pub returns-in_err-left-clause-turns : goal.returns-in_err-left-clause-turns
returns-in_err-left-clause-turns c =
    let p = goal.at.returns-in_err-left-clause-turns c in
    let w = walked p.After-coming_back_counted in
    let l = cut p.After-left_reported (backs p.In_ok-backs) in
    spent p.After-coming_back_counted c.left_reported.new.turns (omega arith) (omega (arith, w.0, w.1, l.0, l.1))

pub returns-in_err-told-clause-turns : goal.returns-in_err-told-clause-turns
returns-in_err-told-clause-turns c =
    let p = goal.at.returns-in_err-told-clause-turns c in
    let w = walked p.After-coming_back_counted in
    let l = cut p.After-left_reported (backs p.In_ok-backs) in
    let d2 = ap length c.deref-2.ensures.value in
    spent p.After-coming_back_counted c.answered_back_counted.new.turns (omega arith)
    (omega (arith, w.0, w.1, l.0, l.1, d2, c.answered_back_counted.ensures.cost))

pub returns-then-not-is_room_for-clause-turns : goal.returns-then-not-is_room_for-clause-turns
returns-then-not-is_room_for-clause-turns c =
    let p = goal.at.returns-then-not-is_room_for-clause-turns c in
    let w = walked p.After-coming_back_counted in
    let b = backs p.In_ok-backs in
    let l = cut p.After-left_reported b in
    let d2 = ap length c.deref-2.ensures.value in
    let d3 = ap length (c.deref-3.ensures.value ∙ (answered p.In_ok-told b).is) in
    spent p.After-coming_back_counted c.is_room_for.new.turns (omega arith)
    (omega (arith, w.0, w.1, l.0, l.1, d2, d3, c.answered_back_counted.ensures.cost, c.is_room_for.ensures.cost))

pub returns-clause-turns : goal.returns-clause-turns
returns-clause-turns c =
    let p = goal.at.returns-clause-turns c in
    let w = walked p.After-coming_back_counted in
    let l = cut p.After-left_reported (backs p.In_ok-backs) in
    let d2 = ap length c.deref-2.ensures.value in
    let d3 = ap length (c.deref-3.ensures.value ∙ (answered p.In_ok-told (backs p.In_ok-backs)).is) in
    spent p.After-coming_back_counted c.restore_counted.new.turns (omega arith) (omega (
      arith,
      w.0,
      w.1,
      l.0,
      l.1,
      d2,
      d3,
      c.answered_back_counted.ensures.cost,
      c.is_room_for.ensures.cost,
      c.restore_counted.ensures.cost,
    ))

pub returns-clause-room : goal.returns-clause-room
returns-clause-room c =
    let p = goal.at.returns-clause-room c in
    let w = walked p.After-coming_back_counted in
    let l = cut p.After-left_reported (backs p.In_ok-backs) in
    let is = ap length (answered p.In_ok-told (backs p.In_ok-backs)).is in
    let d2 = ap length c.deref-2.ensures.value in
    let d3 = ap length c.deref-3.ensures.value in
    rw (← c.self.view_is) (omega (
      arith,
      w.0,
      w.1,
      l.0,
      l.1,
      is,
      d2,
      d3,
      c.answered_back_counted.ensures.cost,
      c.is_room_for.ensures.cost,
      c.restore_counted.ensures.cost,
    ))

-- ## How it is undone

pub returns-clause-undo : goal.returns-clause-undo
returns-clause-undo c =
    let p = goal.at.returns-clause-undo c in
    let b = backs p.In_ok-backs in
    let s : Sack = sack_of c.args.sack.now in
    let t : Transmission = sender_in c.self.inside in
    let cs = t.flight.queue.inflight.chunks in
    let ks = c.in-Some.kept.user_data.items in
    let dense = back_each s cs ks in
    let new : c.set_left-before.new.flight ≡ with_restored dense t.flight = c.set_left-before.ensures.flight ∙ after p.After-restore_counted b in
    let places : c.in_ok-told.told.places.items ≡ map (λ b. b.place) (placed 0 dense) = c.in_ok-told.ensures.places
    ∙ ap (map (λ b. b.place)) (c.deref-2.ensures.value ∙ b.is) in
    let n = ap (λ (g : Flight). length g.queue.inflight.chunks) new ∙ length-restored dense cs in
    rw (← c.self.view_is) (record {
      within = subst (λ xs. All (λ k. k < length c.set_left-before.new.flight.queue.inflight.chunks) xs) (sym places)
          (subst (λ m. All (λ k. k < m) (map (λ b. b.place) (placed 0 dense))) (sym n) (places-within 0 (length cs) dense (omega (arith, b.short))));
      same = ap (λ xs. with_reported_again xs c.set_left-before.new.flight) places ∙ ap (with_reported_again (map (λ b. b.place) (placed 0 dense))) new
          ∙ undone s ks dense t.flight refl b.short c.self.invariant.2.inflight;
      few =
          let x = ap length places in
          let y = length-map (placed 0 dense) (λ b. b.place) in
          let z = ap length (answered p.In_ok-told b).is in
          let w = back-count s t ks b.kept b.current c.in_ok-backs.backs.items b.is in
          let v = ap length b.is in
          omega (arith, x, y, z, w, v);
      cover = before-covers c.self.inside.kept c.set_left-before.result t.flight c.set_left-before.ensures.before c.self.invariant.3.cover;
      known = before-known c.self.inside.kept c.set_left-before.result t.flight c.in-Some.kept c.in-Some.is c.set_left-before.ensures.before c.self.invariant.4;
      none = λ e.
          let left : c.in_ok-left.left ≡ None = subst (λ (o : Option Kept). IfSome o (λ k. c.in_ok-left.left ≡ None)) c.in-Some.is (c.set_left-before.ensures.none e) in
          c.in_ok-told.ensures.places
          ∙ ap (map (λ b. b.place)) (c.deref-2.ensures.value ∙ sym c.deref.ensures.value ∙ c.in_ok-left.ensures.none left);
    })
