-- What leaves, one chunk after another, and what that makes of cwnd and of a burst.
use Rattle.std.proofs.Common.{◌≡◌, inl, inr, ℕ, Bool, true, false, [], Option, Some, None, refl, ap, sym, subst, ◌∙◌, arith, ◌==◌, ◌<◌}
use Rattle.std.proofs.lemmas.Bool.{false≢true}
use Rattle.std.proofs.lemmas.Option.{none-some}
use Rattle.std.specs.Prelude.{◌&&◌, ◌||◌, ◌+◌, ◌⊎◌, IsErr, Ok, Err, Result, find, if◌then◌else◌, is_some, not, suc, zero}
use Rattle.std.specs.Option.{option_map}
use Rattle.sctp_association.proofs.Making.{fitting}
use Rattle.sctp_association.proofs.Running.{none_sent}
use Rattle.sctp_association.specs.Congested.{IsAsFull, LeavesAgain, LeavesFrom, LeavesNew, LeavesWithin, Path, PausesFrom, PausesWithin, Repeats, Resends}
use Rattle.sctp_association.specs.Congested.{SendsNew, SendsWithin, StaysOrAgain, StaysOrLeaves, base_at, begun, ended, idle_at, idled, is_unsent, may_again}
use Rattle.sctp_association.specs.Congested.{path_of, pauses, told_at, used_after, with_burst}
use Rattle.sctp_association.specs.declared.association.Association.{Association}
use Rattle.sctp_association.specs.declared.fault.Fault.{Fault}
use Rattle.sctp_association.specs.declared.outbound.Outbound.{Outbound}
use Rattle.sctp_association.specs.Halves.{HalvesAlike, PutsOthers}
use Rattle.sctp_association.specs.Idle.{in_flight}
use Rattle.sctp_association.specs.Runs.{Sends}
use Rattle.sctp_association.specs.Sending.{base_of, flight_of, is_later, is_none_of, lowered_times, marked_in, may_drop}
use Rattle.sctp_data.specs.declared.chunk.chunk_payload_data.ChunkPayloadData.{ChunkPayloadData}
use Rattle.sctp_outbound.specs.pending_queue.PendingQueue.{chunk_count}
use Rattle.sctp_path.specs.Rto.{Timeout}
use Rattle.sctp_sender.specs.Drops.{with_lifetimes}
use Rattle.sctp_sender.specs.Resending.{is_to_resend, next_within, resent_at}
use Rattle.sctp_sender.specs.Sender.{Transmission, after_send, with_flight}

-- ## Nothing leaves

pub as_full : (a b : Outbound) → b ≡ a → IsAsFull a b
as_full a b e = record { path = ap path_of e; rto = ap (λ (o : Outbound). o.rto) e }

pub full_then : (a b c : Outbound) → IsAsFull a b → IsAsFull b c → IsAsFull a c
full_then a b c f g = record { path = g.path ∙ f.path; rto = g.rto ∙ f.rto }

-- where the halves are alike
pub full_of : (a b : Association) → HalvesAlike a b → b.outbound.rto ≡ a.outbound.rto → IsAsFull a.outbound b.outbound
full_of a b h rto = record { path = h.path; rto = rto }

pub full_others : (a : Outbound) (b c : Association) → IsAsFull a b.outbound → PutsOthers b c → IsAsFull a c.outbound
full_others a b c f p = full_then a b.outbound c.outbound f (full_of b c p.halves p.kept.rto)

-- T3-rtx is none of it
pub timed : (a b : Outbound) → b ≡ record a { timer = b.timer } → IsAsFull a b
timed a b e = record { path = ap path_of e; rto = ap (λ (o : Outbound). o.rto) e }

-- ## One after another

repeats-then : (R : Path → Path → Type 0) (m n : ℕ) (a b c : Path) → Repeats R n a b → Repeats R m b c → Repeats R (m + n) a c
repeats-then R zero n a b c f e = subst (λ (k : ℕ). Repeats R k a c) {x = n} {y = zero + n} (omega arith) (subst (λ (p : Path). Repeats R n a p) (sym e) f)
repeats-then R (suc m) n a b c f (mid, g, step) =
    subst (λ (k : ℕ). Repeats R k a c) {x = suc (m + n)} {y = suc m + n} (omega arith) (mid, repeats-then R m n a b mid f g, step)

-- some such steps
abbrev pub Each : (Path → Path → Type 0) → Path → Path → Type 0
Each R a b = (n : ℕ) × Repeats R n a b

pub each_none : (R : Path → Path → Type 0) (a b : Path) → b ≡ a → Each R a b
each_none R a b e = (0, e)

pub each_then : (R : Path → Path → Type 0) (a b c : Path) → Each R a b → Each R b c → Each R a c
each_then R a b c (n, f) (m, g) = (m + n, repeats-then R m n a b c f g)

each-one : (R : Path → Path → Type 0) (a b : Path) → R a b → Each R a b
each-one R a b step = (1, (a, refl, step))

pub each_again : (now : ℕ) (may : Bool) (a b : Path) → StaysOrAgain now may a b → Each (LeavesAgain now) a b
each_again now may a b (inl e) = each_none (LeavesAgain now) a b e
each_again now may a b (inr (m, step)) = each-one (LeavesAgain now) a b step

pub each_new : (now : ℕ) (a b : Path) → StaysOrLeaves now a b → Each (LeavesNew now) a b
each_new now a b (inl e) = each_none (LeavesNew now) a b e
each_new now a b (inr step) = each-one (LeavesNew now) a b step

-- ## What leaves again

pub resends_none : (now : ℕ) (rto : Timeout) (fast : Bool) (flight : ℕ) (a b : Path) → b ≡ a → Resends now rto fast flight a b
resends_none now rto fast flight a b e = record { count = 0; each = e; may = λ more. absurd (omega (arith, more)) }

pub resends_one : (now : ℕ) (rto : Timeout) (fast : Bool) (flight : ℕ) (a b : Path) → StaysOrAgain now (may_again now rto fast flight a) a b
    → Resends now rto fast flight a b
resends_one now rto fast flight a b (inl e) = resends_none now rto fast flight a b e
resends_one now rto fast flight a b (inr (may, step)) = record { count = 1; each = (a, refl, step); may = λ _. may }

pub resends_by : (now : ℕ) (rto : Timeout) (fast : Bool) (flight : ℕ) (a b : Path) → may_again now rto fast flight a ≡ true → Each (LeavesAgain now) a b
    → Resends now rto fast flight a b
resends_by now rto fast flight a b may (n, f) = record { count = n; each = f; may = λ _. may }

pub again_where : (now : ℕ) (may : Bool) (a b : Path) → may ≡ true → StaysOrAgain now true a b → StaysOrAgain now may a b
again_where now may a b is (inl e) = inl e
again_where now may a b is (inr (_, step)) = inr (is, step)

-- the first chunk that is marked, where it fits
pub marked_first : (now room : ℕ) (t u : Transmission) (chunk : ChunkPayloadData) (g : ChunkPayloadData → ChunkPayloadData)
    → Some chunk ≡ option_map g (next_within room t.flight)
    → ((c : ChunkPayloadData) → next_within room t.flight ≡ Some c → u ≡ with_flight (resent_at c.tsn now c t.flight) t)
    → (c : ChunkPayloadData) × (find is_to_resend (in_flight t) ≡ Some c) × (u ≡ with_flight (resent_at c.tsn now c t.flight) t)
marked_first now room t u chunk g answer exact = by (next_within room t.flight) refl answer
  where
    by : (o : Option ChunkPayloadData) → next_within room t.flight ≡ o → Some chunk ≡ option_map g o
        → (c : ChunkPayloadData) × (find is_to_resend (in_flight t) ≡ Some c) × (u ≡ with_flight (resent_at c.tsn now c t.flight) t)
    by None at e = absurd (none-some chunk (sym e))
    by (Some c) at e = (c, fitting room c (find is_to_resend (in_flight t)) at, exact c at)

-- ## What leaves for the first time

at-base : (flight base : ℕ) (burst : Option ℕ) → (flight ≡ 0 → base ≡ 0) → (0 < flight → base ≡ base_of flight burst) → base ≡ base_at flight burst
at-base flight base burst none some = by (flight == 0) refl
  where
    by : (b : Bool) → (flight == 0) ≡ b → base ≡ (if b then 0 else base_of flight burst)
    by true is = none (grind (is, arith))
    by false is = some (grind (is, arith))

pub base_on : (flight base : ℕ) (burst : Option ℕ) → 0 < flight → burst ≡ Some base → base ≡ base_at flight burst
base_on flight base burst some e =
    at-base flight base burst (λ none. absurd (omega (arith, some, none))) (λ more. sym (ap (λ (o : Option ℕ). base_of flight o) e))

-- a burst begins
pub base_first : (flight base : ℕ) (burst : Option ℕ) → base ≡ flight → (burst ≡ None) ⊎ (flight ≡ 0) → base ≡ base_at flight burst
base_first flight base burst e begins = at-base flight base burst (λ none. e ∙ none) (by begins)
  where
    by : (burst ≡ None) ⊎ (flight ≡ 0) → 0 < flight → base ≡ base_of flight burst
    by (inl none) more = e ∙ sym (ap (λ (o : Option ℕ). base_of flight o) none)
    by (inr none) more = absurd (omega (arith, none, more))

pub left_as : (now : ℕ) (a : Outbound) (t : Transmission) (base : ℕ) → t ≡ after_send now a.sender
    → base ≡ base_at (flight_of (in_flight a.sender)) a.burst
    → path_of (record a { sender = t; burst = Some base; used = now })
    ≡ record (path_of a) { sender = after_send now a.sender; used = now; burst = Some (base_at (flight_of (in_flight a.sender)) a.burst) }
left_as now a t base e is = ap (λ (u : Transmission). let p : Path = record (path_of a) { sender = u; used = now; burst = Some base } in p) e
    ∙ ap (λ (n : ℕ). let p : Path = record (path_of a) { sender = after_send now a.sender; used = now; burst = Some n } in p) is

-- where nothing may
pub news_held : (now : ℕ) (rto : Timeout) (a b : Path) → b ≡ begun now rto false a → SendsNew now rto a b
news_held now rto a b e = record {
  goes = false;
  waits = λ going. absurd (false≢true going);
  clear = λ going. absurd (false≢true going);
  count = 0;
  held = λ _. refl;
  each = e;
}

pub news_by : (now : ℕ) (rto : Timeout) (a b c : Path) → 0 < chunk_count a.sender.flight.queue.pending → marked_in a.sender ≡ 0 → b ≡ begun now rto true a
    → Each (LeavesNew now) b c → SendsNew now rto a c
news_by now rto a b c waits clear e (n, f) = record {
  goes = true;
  waits = λ _. waits;
  clear = λ _. clear;
  count = n;
  held = λ going. absurd (false≢true (sym going));
  each = subst (λ (p : Path). Repeats (LeavesNew now) n p c) e f;
}

-- ## Both

pub within_full : (now : ℕ) (a b : Outbound) → IsAsFull a b → LeavesWithin now a b
within_full now a b f = record {
  path = record { told = false; mid = path_of a; again = resends_none now a.rto _ _ (path_of a) (path_of a) refl; left = inl f.path };
  rto = f.rto;
}

pub within_same : (now : ℕ) (a b : Outbound) → b ≡ a → LeavesWithin now a b
within_same now a b e = within_full now a b (as_full a b e)

-- where nothing leaves before
pub within_behind : (now : ℕ) (a b c : Outbound) → IsAsFull a b → LeavesWithin now b c → LeavesWithin now a c
within_behind now a b c f g = record {
  path = subst (λ (t : Timeout). LeavesFrom now t (path_of a) (path_of c)) f.rto (subst (λ (p : Path). LeavesFrom now b.rto p (path_of c)) f.path g.path);
  rto = g.rto ∙ f.rto;
}

-- where nothing leaves behind it
pub within_before : (now : ℕ) (a b c : Outbound) → LeavesWithin now a b → IsAsFull b c → LeavesWithin now a c
within_before now a b c f g = record {
  path = subst (λ (p : Path). LeavesFrom now a.rto (path_of a) p) (sym g.path) f.path;
  rto = g.rto ∙ f.rto;
}

pub within_again : (now : ℕ) (a b : Outbound) → Resends now a.rto a.is_fast (flight_of (in_flight a.sender)) (path_of a) (path_of b) → b.rto ≡ a.rto
    → LeavesWithin now a b
within_again now a b f rto = record { path = record { told = false; mid = path_of b; again = f; left = inl refl }; rto = rto }

pub within_both : (now : ℕ) (a b c : Outbound) → Resends now a.rto a.is_fast (flight_of (in_flight a.sender)) (path_of a) (path_of b) → b.rto ≡ a.rto
    → SendsNew now b.rto (path_of b) (path_of c) → c.rto ≡ b.rto → LeavesWithin now a c
within_both now a b c f rto g same = record {
  path = record { told = false; mid = path_of b; again = f; left = inr (subst (λ (t : Timeout). SendsNew now t (path_of b) (path_of c)) rto g) };
  rto = same ∙ rto;
}

-- where a FORWARD-TSN was due before
told-from : (now : ℕ) (rto : Timeout) (a b : Path) → LeavesFrom now rto (told_at true a) b → LeavesFrom now rto a b
told-from now rto a b f = record { told = true; mid = f.mid; again = by f.told f.again; left = f.left }
  where
    by : (t : Bool) → Resends now rto a.fast (flight_of (in_flight a.sender)) (told_at t (told_at true a)) f.mid
        → Resends now rto a.fast (flight_of (in_flight a.sender)) (told_at true a) f.mid
    by true r = r
    by false r = r

pub within_told : (now : ℕ) (a b c : Outbound) → (b ≡ a) ⊎ (b ≡ record a { is_skip_due = false }) → LeavesWithin now b c → LeavesWithin now a c
within_told now a b c (inl e) g = within_behind now a b c (as_full a b e) g
within_told now a b c (inr e) g =
    let rto : b.rto ≡ a.rto = ap (λ (o : Outbound). o.rto) e in
    record {
      path = told-from now a.rto (path_of a) (path_of c) (subst (λ (t : Timeout). LeavesFrom now t (told_at true (path_of a)) (path_of c)) rto
          (subst (λ (p : Path). LeavesFrom now b.rto p (path_of c)) (ap path_of e) g.path));
      rto = g.rto ∙ rto;
    }

-- ## Whether a FORWARD-TSN is due

repeats-skip : (R : Path → Path → Type 0) → ((a b : Path) → R a b → b.skip ≡ a.skip) → (n : ℕ) (a b : Path) → Repeats R n a b → b.skip ≡ a.skip
repeats-skip R each zero a b e = ap (λ (p : Path). p.skip) e
repeats-skip R each (suc n) a b (mid, f, step) = each mid b step ∙ repeats-skip R each n a mid f

pub resends_skip : (now : ℕ) (rto : Timeout) (fast : Bool) (flight : ℕ) (a b : Path) → Resends now rto fast flight a b → b.skip ≡ a.skip
resends_skip now rto fast flight a b f = repeats-skip (LeavesAgain now) (λ p q step. ap (λ (r : Path). r.skip) step.after) f.count a b f.each

burst-skip : (now : ℕ) (p : Path) → (with_burst now p).skip ≡ p.skip
burst-skip now p = by (is_later now p.paused)
  where
    by : (b : Bool) → (if b then record p { burst = None; paused = None } else p).skip ≡ p.skip
    by true = refl
    by false = refl

idled-skip : (now : ℕ) (rto : Timeout) (p : Path) → (idled now rto p).skip ≡ p.skip
idled-skip now rto p = by (is_none_of (in_flight p.sender))
  where
    by : (b : Bool) → (if b then record p {
      congestion = lowered_times (idle_at now rto p) p.congestion;
      used = used_after now (idle_at now rto p) p.used;
    } else p).skip ≡ p.skip
    by true = refl
    by false = refl

begun-skip : (now : ℕ) (rto : Timeout) (goes : Bool) (p : Path) → (begun now rto goes p).skip ≡ p.skip
begun-skip now rto true p = idled-skip now rto (with_burst now p) ∙ burst-skip now p
begun-skip now rto false p = burst-skip now p

pub news_skip : (now : ℕ) (rto : Timeout) (a b : Path) → SendsNew now rto a b → b.skip ≡ a.skip
news_skip now rto a b f =
    repeats-skip (LeavesNew now) (λ p q step. ap (λ (r : Path). r.skip) step.after) f.count (begun now rto f.goes a) b f.each ∙ begun-skip now rto f.goes a

-- none comes to be due as chunks leave
pub from_skip : (now : ℕ) (rto : Timeout) (a b : Path) → LeavesFrom now rto a b → a.skip ≡ false → b.skip ≡ false
from_skip now rto a b f none = left f.left
  where
    told : (t : Bool) → (told_at t a).skip ≡ false
    told true = refl
    told false = none

    left : (b ≡ f.mid) ⊎ SendsNew now rto f.mid b → b.skip ≡ false
    left (inl e) = ap (λ (p : Path). p.skip) e ∙ resends_skip now rto _ _ (told_at f.told a) f.mid f.again ∙ told f.told
    left (inr s) = news_skip now rto f.mid b s ∙ resends_skip now rto _ _ (told_at f.told a) f.mid f.again ∙ told f.told

-- ## Where the time to send is over

pub unsent_of : (o : Result Bool Fault) → IsErr o → is_unsent o ≡ false
unsent_of (Err e) h = refl
unsent_of (Ok sent) h = absurd (false≢true h)

pub pauses_not : (now : ℕ) (ends : Bool) (a b : Outbound) → ends ≡ false → LeavesWithin now a b → PausesWithin now ends a b
pauses_not now ends a b went f = record {
  path = record { last = path_of b; left = f.path; paused = ap (λ (e : Bool). ended now e (path_of b)) (sym went) };
  rto = f.rto;
}

pub pauses_then : (now : ℕ) (a b c : Outbound) → LeavesWithin now a b → c ≡ record b { paused = Some now } → PausesWithin now true a c
pauses_then now a b c f e = record {
  path = record { last = path_of b; left = f.path; paused = ap path_of e };
  rto = ap (λ (o : Outbound). o.rto) e ∙ f.rto;
}

-- where a datagram left, or memory was refused
pub goes_on : (o : Result Bool Fault) (a : Association) → is_unsent o ≡ false → pauses o a ≡ false
goes_on o a went = by (not a.is_over) (is_some a.machine.peer)
  where
    by : (x y : Bool) → x && (y && is_unsent o) ≡ false
    by false y = refl
    by true false = refl
    by true true = went

pub over_not : (o : Result Bool Fault) (a : Association) → a.is_over ≡ true → pauses o a ≡ false
over_not o a over = ap (λ (x : Bool). not x && (is_some a.machine.peer && is_unsent o)) over

pub unknown_not : (o : Result Bool Fault) (a : Association) → a.machine.peer ≡ None → pauses o a ≡ false
unknown_not o a none = by (not a.is_over) (is_some a.machine.peer) (ap is_some none)
  where
    by : (x y : Bool) → y ≡ false → x && (y && is_unsent o) ≡ false
    by false y e = refl
    by true false e = refl
    by true true e = absurd (false≢true (sym e))

-- the association goes on, with a peer that is known
pub stops : (o : Result Bool Fault) (a : Association) → a.is_over ≡ false → is_some a.machine.peer ≡ true → is_unsent o ≡ pauses o a
stops o a going known = sym (ap (λ (x : Bool). not x && (is_some a.machine.peer && is_unsent o)) going ∙ ap (λ (x : Bool). x && is_unsent o) known)

-- ## Behind what is abandoned

-- a FORWARD-TSN comes to be due only where something may be abandoned
pub dropped_due : (now : ℕ) (a b : Outbound)
    → (may_drop now a.sender ≡ false → (b ≡ a) ⊎ (b ≡ record a { sender = with_lifetimes now a.sender })) → b.is_skip_due ≡ true
    → may_drop now a.sender || a.is_skip_due ≡ true
dropped_due now a b early is = by (may_drop now a.sender) refl
  where
    same : (b ≡ a) ⊎ (b ≡ record a { sender = with_lifetimes now a.sender }) → a.is_skip_due ≡ true
    same (inl e) = sym (ap (λ (o : Outbound). o.is_skip_due) e) ∙ is
    same (inr e) = sym (ap (λ (o : Outbound). o.is_skip_due) e) ∙ is

    by : (d : Bool) → may_drop now a.sender ≡ d → d || a.is_skip_due ≡ true
    by true e = refl
    by false e = same (early e)

or-true : (x y : Bool) → y ≡ true → x || y ≡ true
or-true true y e = refl
or-true false y e = e

-- what is abandoned is no part of the rest
abandoned : (a b : Outbound) (t : Transmission) (due : Bool) → b ≡ record a { sender = t; is_skip_due = due }
    → path_of b ≡ record (path_of a) { sender = b.sender; skip = b.is_skip_due }
abandoned a b t due e =
    subst (λ (o : Outbound). path_of o ≡ record (path_of a) { sender = o.sender; skip = o.is_skip_due }) (sym e) refl

pub sends_same : (now : ℕ) (ends : Bool) (a b : Outbound) → ends ≡ false → IsAsFull a b → SendsWithin now ends a b
sends_same now ends a b went f =
    let g = pauses_not now ends a b went (within_full now a b f) in
    record {
      kept = a.sender;
      skip = a.is_skip_due;
      dropped = none_sent a.sender;
      due = or-true (may_drop now a.sender) a.is_skip_due;
      path = g.path;
      rto = g.rto;
    }

pub sends_after : (now : ℕ) (ends : Bool) (a b c : Outbound) → Sends [] a.sender b.sender
    → b ≡ record a { sender = b.sender; is_skip_due = b.is_skip_due } → (b.is_skip_due ≡ true → may_drop now a.sender || a.is_skip_due ≡ true)
    → PausesWithin now ends b c → SendsWithin now ends a c
sends_after now ends a b c dropped e due f =
    let rto : b.rto ≡ a.rto = ap (λ (o : Outbound). o.rto) e in
    record {
      kept = b.sender;
      skip = b.is_skip_due;
      dropped = dropped;
      due = due;
      path = subst (λ (t : Timeout). PausesFrom now ends t (record (path_of a) { sender = b.sender; skip = b.is_skip_due }) (path_of c)) rto
          (subst (λ (p : Path). PausesFrom now ends b.rto p (path_of c)) (abandoned a b b.sender b.is_skip_due e) f.path);
      rto = f.rto ∙ rto;
    }

-- and nothing leaves behind it
pub sends_alike : (now : ℕ) (ends : Bool) (a b c : Outbound) → ends ≡ false → Sends [] a.sender b.sender
    → b ≡ record a { sender = b.sender; is_skip_due = b.is_skip_due } → (b.is_skip_due ≡ true → may_drop now a.sender || a.is_skip_due ≡ true)
    → IsAsFull b c → SendsWithin now ends a c
sends_alike now ends a b c went dropped e due f = sends_after now ends a b c dropped e due (pauses_not now ends b c went (within_full now b c f))
