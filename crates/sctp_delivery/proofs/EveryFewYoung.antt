-- Sessions of every call: in each that gives out fewer than 2^31 TSNs nothing is handed over or held that is 2^31 TSNs old.
use Rattle.sctp_delivery.proofs.Names.{common_steps, nat_tests, ⊤, ◌≡◌, ℕ, ◌+◌, ◌%◌, ◌<◌, ◌≤◌, ◌^◌, Bool, true, false, not, List, [], ◌∷◌, length, map, Option}
use Rattle.sctp_delivery.proofs.Names.{refl, ap, sym, subst, ◌∙◌, arith, ◌==◌, same-is, or-left, or-right, list_any, list_all, filter, if◌then◌else◌, Contains}
use Rattle.sctp_delivery.proofs.Names.{Data, data_of, data_chunk, forward_tsn, ForwardTsn, Sack, Reception, Stand, Limits, tsn, advance_over, comes_before}
use Rattle.sctp_delivery.proofs.Names.{at_or_before, distance, fragments_on, stream_of, Made, Session, after_forward_tsn, is_stale, without_incomplete}
use Rattle.sctp_delivery.proofs.Names.{follow_forward_tsn, has_come, filter_of, with_filter, with_tsn, ReceiverCall, New, Repeat, reports_after, of_receiver}
use Rattle.sctp_delivery.proofs.Names.{of_sender, bytes_written}
use Rattle.sctp_sender.specs.declared.sender.Reported.{Reported}
use Rattle.sctp_sender.specs.declared.sender.Reported.TheVariants.{Drop, Keep}
use Rattle.sctp_delivery.specs.EveryCall.{AnyCall, FollowsAny, RunsAny, closes_incoming, discards, drops, makes, of_receiving, is_steady, of_sending}
use Rattle.sctp_delivery.specs.EveryCall.{passes_over, renews, resets_incoming, tsns_given_any, was_dropped}
use Rattle.sctp_delivery.specs.EveryRecent.{ArePassedYoung, AreRecentAny, AreYoungAny, FewTsnsAreYoungAny, IsPassedYoung, IsRecentAny, IsYoungAny, aged_any}
use Rattle.sctp_delivery.specs.ReceiverCalls as incoming
use Rattle.sctp_delivery.specs.Recent.{Aged, HoldsRecent, IsAmongYoung, older}
use Rattle.sctp_delivery.specs.Returns.{at_start_with}
use Rattle.sctp_delivery.specs.SenderCalls as outgoing
use Rattle.sctp_delivery.specs.Session.{count_in_flight}
use Rattle.sctp_delivery.proofs.ArrivedTsns.{IsArrived}
use Rattle.sctp_delivery.proofs.Cases.{at-if, at-test}
use Rattle.sctp_delivery.proofs.Delivered.{beside-on, found-sent-on, next_tsn, sender-step-on}
use Rattle.sctp_delivery.proofs.Every.{Every, every-contained, every-inserted, every-of, every-passing}
use Rattle.sctp_delivery.proofs.EveryRuns as runs
use Rattle.sctp_delivery.proofs.EveryYoung.{AreBacked, IsBacked, all-backed, IsNow, after, quiet-young, read-same, start}
use Rattle.sctp_delivery.proofs.Ages.{AreAged, IsAged, IsEntryAged, IsForwardAged, aged-then, all-before, entry-later, forward-later, given-before, part-aged}
use Rattle.sctp_delivery.proofs.HeldWeights.{weighs-so}
use Rattle.sctp_delivery.proofs.SackLaws.{IsInStepBut, no-move}
use Rattle.sctp_delivery.proofs.SackSteps.{IsMadeGiven, known_or}
use Rattle.sctp_delivery.proofs.Sent.{Entry, Numbered}
use Rattle.sctp_delivery.proofs.TakenCalls.{beyond-given}
use Rattle.sctp_delivery.proofs.TsnPlaces.{IsGiven, base, past-is, same-place, upto-yes}
use Rattle.sctp_delivery.proofs.YoungReads.{is_recent, more-long, receiver-young}

-- ## The cumulative TSN does not fall

-- it goes to a place from this one on
abbrev GoesUp : (p n place cum : ℕ) → Type 0
GoesUp p n place cum = (x : ℕ) × (place ≤ x) × (x ≤ n) × (cum ≡ tsn p x)

advance-up : (p n c place : ℕ) (ts : List ℕ) → n < 2 ^ 31 → c ≡ tsn p place → place ≤ n → Every (IsGiven p n) ts → GoesUp p n place (advance_over c ts).cum
advance-up p n c place [] few is le e = (place, omega arith, le, is)
advance-up p n c place (t ∷ ts) few is le e =
    at-test (λ b. GoesUp p n place (if b then advance_over t ts else record { cum = c; held = t ∷ ts }).cum) (t == (c + 1) % 2 ^ 32)
    (λ h.
    let same : t ≡ tsn p (place + 1) = (let s = same-is t ((c + 1) % 2 ^ 32) h in omega (arith, s, is)) in
    let within = e.0.within in
    let here : e.0.place ≡ place + 1 = same-place p e.0.place (place + 1) (omega (arith, within, few)) (omega (arith, le, few)) (sym e.0.is ∙ same) in
    let up = advance-up p n t (place + 1) ts few same (omega (arith, here, within)) e.1 in
    let lo = up.1 in
    (up.0, omega (arith, lo), up.2, up.3))
    (λ h. (place, omega arith, le, is))

module _ (p n : ℕ) (kn : ℕ → Bool) (r : Reception) (few : n < 2 ^ 31) (h : IsArrived p n kn r.cumulative_tsn r.beyond) where
  with-up : (t : ℕ) → IsGiven p n t → GoesUp p n h.place (with_filter (with_tsn t (filter_of r)) r).cumulative_tsn
  with-up t g = search (advance-up, every-inserted, beyond-given)

  past-up : (f : ForwardTsn) → IsGiven p n f.new_cumulative_tsn → GoesUp p n h.place (after_forward_tsn f r).cumulative_tsn
  past-up f g = at-test (λ b. GoesUp p n h.place
      (if b then r else without_incomplete f.new_cumulative_tsn (if b then r else follow_forward_tsn f r)).cumulative_tsn) (is_stale f r)
      (λ e. (h.place, omega arith, h.within, h.is))
      (λ e.
      let within = g.within in
      let le : h.place ≤ g.place = omega (arith, past-is p g.place h.place g.is h.is (omega (arith, within, few)) (omega (arith, few)) e) in
      let up = advance-up p n f.new_cumulative_tsn g.place (filter (λ t. not (at_or_before t f.new_cumulative_tsn)) r.beyond) few g.is within
      (every-passing (IsGiven p n) (λ t. not (at_or_before t f.new_cumulative_tsn)) r.beyond (beyond-given p n r kn few h)) in
      let lo = up.1 in
      (up.0, omega (arith, lo, le), up.2, up.3))

-- the SACK goes to a place up to this one
abbrev IsSackUpTo : ℕ → ℕ → Sack → Type 0
IsSackUpTo p place k = (x : ℕ) × (k.cumulative_tsn_ack ≡ tsn p x) × (x ≤ place)

more-upto : (p a b : ℕ) (ks : List Sack) → a ≤ b → Every (IsSackUpTo p a) ks → Every (IsSackUpTo p b) ks
more-upto p a b ks le e =
    every-of (IsSackUpTo p a) (IsSackUpTo p b) (λ k x. let y = x.2 in (x.0, x.1, omega (arith, y, le))) ks e

new-upto : (p place more : ℕ) (c : ReceiverCall) (r : Reception) (ks : List Sack) → r.cumulative_tsn ≡ tsn p place → place ≤ more
    → Every (IsSackUpTo p place) ks → Every (IsSackUpTo p more) (reports_after c r ks)
new-upto h0 h1 h2 h3 h4 h5 h6 h7 h8 = grind (arith, nat_tests, common_steps, more-upto)

-- ## Each call

module _ (K : Type 0) (going dropped : ℕ → Bool) (first : ℕ) where
  abbrev P : ℕ
  P = base first

  record IsFew (n : ℕ) (s : Session) (ns : List Numbered) (sent : List Entry) (ages : List Aged) (ps : List ℕ) : Type 0 where
    now : IsNow K going first s ns sent ages ps
    step : IsInStepBut dropped P n s
    long : length sent ≤ n
    aged : AreAged n ages sent s.made
    sacks : Every (IsSackUpTo P step.arrived.place) s.sacks

  module _ (n : ℕ) (s v : Session) (ns : List Numbered) (sent : List Entry) (ages : List Aged) (ps : List ℕ) (i : IsFew n s ns sent ages ps) where
    abbrev far : ℕ
    far = distance (next_tsn s) (next_tsn v)

    abbrev r : Reception
    r = s.receiving.receiver

    made-of : (m : Made) → Contains s.made m → IsMadeGiven P n m
    made-of m c = every-contained (IsMadeGiven P n) s.made m c i.step.made

    module _ (few : n + distance (next_tsn s) (next_tsn v) < 2 ^ 31) where
      less : n < 2 ^ 31
      less = omega (arith, few)

      before : (t : ℕ) → IsGiven P n t → comes_before t (next_tsn s) ≡ true
      before t g = given-before P n t (next_tsn s) less i.step.numbered.next_is g

      among : (m : Made) → IsAged n ages m → IsAmongYoung m ages
      among m a = let le = a.1 in (a.0, omega (arith, le, less), a.2)

      data-young : (d : Data) → Contains s.made (data_chunk d) → IsAmongYoung (data_chunk d) ages
      data-young d c =
          let w = found-sent-on going sent s.made d i.now.young.holds.made c in
          among (data_chunk d) (part-aged n ages sent w.2 d w.0 w.1 w.3 i.aged.0)

      forward-young : (f : ForwardTsn) → Contains s.made (forward_tsn f) → IsAmongYoung (forward_tsn f) ages
      forward-young f c = among (forward_tsn f) (every-contained (IsForwardAged n ages) s.made (forward_tsn f) c i.aged.1)

      -- a SACK that was made
      sack-recent : (k : Sack) → Contains s.sacks k → at_or_before k.cumulative_tsn_ack s.receiving.receiver.cumulative_tsn ≡ true
      sack-recent k c = grind (arith, nat_tests, common_steps, every-contained, upto-yes)

      is-recent : (c : AnyCall) → FollowsAny c s v → IsRecentAny c s
      is-recent (makes (of_sender (outgoing.takes_sack k gone))) f = sack-recent k f.handed
      is-recent (makes (of_sender c)) f = tt
      is-recent (makes (of_receiver (incoming.takes c arrival))) f = before c.tsn (made-of (data_chunk (data_of c)) f.handed)
      is-recent (makes (of_receiver (incoming.follows g))) f = before g.new_cumulative_tsn (made-of (forward_tsn g) f.handed)
      is-recent (makes (of_receiver c)) f = tt
      is-recent (of_sending c) f = tt
      is-recent (of_receiving (discards c)) f = before c.tsn (made-of (data_chunk (data_of c)) f.handed)
      is-recent (of_receiving (closes_incoming stream)) f = tt
      is-recent (of_receiving (resets_incoming stream last)) f = tt
      is-recent (of_receiving (passes_over g)) f = before g.new_cumulative_tsn (made-of (forward_tsn g) f.handed)

      is-young : (c : AnyCall) → FollowsAny c s v → IsYoungAny c ages
      is-young (makes (of_sender c)) f = tt
      is-young (makes (of_receiver (incoming.takes c arrival))) f = data-young (data_of c) f.handed
      is-young (makes (of_receiver c)) f = tt
      is-young (of_sending c) f = tt
      is-young (of_receiving c) f = tt

      is-passed : (c : AnyCall) → FollowsAny c s v → IsPassedYoung c ages
      is-passed (makes (of_sender c)) f = tt
      is-passed (makes (of_receiver (incoming.follows g))) f = forward-young g f.handed
      is-passed (makes (of_receiver c)) f = tt
      is-passed (of_sending c) f = tt
      is-passed (of_receiving (discards c)) f = data-young (data_of c) f.handed
      is-passed (of_receiving (closes_incoming stream)) f = tt
      is-passed (of_receiving (resets_incoming stream last)) f = tt
      is-passed (of_receiving (passes_over g)) f = forward-young g f.handed

      -- what is held then stands at places, so it is before the next TSN
      before-next : (m : ℕ) → length sent ≤ m → m < 2 ^ 31 → next_tsn v ≡ (first + m) % 2 ^ 32
          → ((st : ℕ) → list_all (is_recent sent st) (fragments_on (stream_of st v.receiving.receiver)) ≡ true) → HoldsRecent v
      before-next m le small is held st =
          all-before first m (next_tsn v) st ns sent i.now.young.holds.held.stands.queued.line le small is
          (fragments_on (stream_of st v.receiving.receiver)) (held st)

      same-held : v.receiving ≡ s.receiving → (st : ℕ) → list_all (is_recent sent st) (fragments_on (stream_of st v.receiving.receiver)) ≡ true
      same-held same st =
          ap (λ (y : Stand). list_all (is_recent sent st) (fragments_on (stream_of st y.receiver))) same ∙ i.now.young.held st

      counted : next_tsn s ≡ (first + length sent) % 2 ^ 32
      counted = i.now.young.holds.held.stands.counted

      short : length sent < 2 ^ 31
      short = let le = i.long in omega (arith, le, few)

      holds-recent : (c : AnyCall) (f : FollowsAny c s v) → IsYoungAny c ages → HoldsRecent v
      holds-recent (makes (of_sender call)) f y =
          let x = sender-step-on going first call s v ns sent f i.now.young.holds in
          let most = x.few in
          let le = i.long in
          before-next (length x.more) (more-long sent x.more x.once).0 (omega (arith, most, le, few)) x.holds.held.stands.counted
          (same-held (ap (λ (z : Session). z.receiving) f.after))
      holds-recent (makes (of_receiver call)) f y =
          before-next (length sent) (omega arith) short (ap (λ (z : Session). next_tsn z) f.after ∙ counted)
          (receiver-young going first call s v ns sent ages f i.now.young y).held
      holds-recent (of_sending call) f y =
          before-next (length sent) (omega arith) short (runs.next-same call s v f ∙ counted) (same-held (ap (λ (z : Session). z.receiving) f.after))
      holds-recent (of_receiving call) f y = grind (arith, nat_tests, common_steps, before-next, short, quiet-young, weighs-so, read-same, beside-on)

      -- ### What stays so

      abbrev h : IsArrived P n (known_or dropped s) r.cumulative_tsn r.beyond
      h = i.step.arrived

      abbrev Up : Reception → Type 0
      Up q = GoesUp P n i.step.arrived.place q.cumulative_tsn

      stays : Up s.receiving.receiver
      stays = (h.place, omega arith, h.within, h.is)

      goes-up : (c : AnyCall) → FollowsAny c s v → Up v.receiving.receiver
      goes-up (makes (of_sender c)) f = subst (λ (y : Stand). Up y.receiver) (sym (ap (λ (z : Session). z.receiving) f.after)) stays
      goes-up (makes (of_receiver (incoming.opens stream))) f = subst Up (sym f.step.receiver.1) stays
      goes-up (makes (of_receiver (incoming.takes c Repeat))) f = subst Up (sym f.step.receiver) stays
      goes-up (makes (of_receiver (incoming.takes c (New said)))) f =
          subst Up (sym f.step.receiver.after) (with-up P n (known_or dropped s) r less h c.tsn (made-of (data_chunk (data_of c)) f.handed))
      goes-up (makes (of_receiver (incoming.follows g))) f =
          subst Up (sym f.step.receiver) (past-up P n (known_or dropped s) r less h g (made-of (forward_tsn g) f.handed))
      goes-up (makes (of_receiver c)) f = subst Up (sym f.step.receiver) stays
      goes-up (of_sending c) f = subst (λ (y : Stand). Up y.receiver) (sym (ap (λ (z : Session). z.receiving) f.after)) stays
      goes-up (of_receiving (discards c)) f =
          subst Up (sym f.step.receiver) (at-if Up (has_come c.tsn (filter_of r)) (λ e. stays)
          (λ e. with-up P n (known_or dropped s) r less h c.tsn (made-of (data_chunk (data_of c)) f.handed)))
      goes-up (of_receiving (closes_incoming stream)) f = subst Up (sym f.step.receiver) stays
      goes-up (of_receiving (resets_incoming stream last)) f = subst Up (sym f.step.receiver) stays
      goes-up (of_receiving (passes_over g)) f =
          subst Up (sym f.step.receiver) (past-up P n (known_or dropped s) r less h g (made-of (forward_tsn g) f.handed))

      sacks-same : (c : AnyCall) (more : ℕ) → i.step.arrived.place ≤ more → FollowsAny c s v → Every (IsSackUpTo P more) v.sacks
      sacks-same (makes (of_sender c)) more le f =
          subst (Every (IsSackUpTo P more)) (sym (ap (λ (z : Session). z.sacks) f.after)) (more-upto P i.step.arrived.place more s.sacks le i.sacks)
      sacks-same (makes (of_receiver c)) more le f =
          subst (Every (IsSackUpTo P more)) (sym (ap (λ (z : Session). z.sacks) f.after)) (new-upto P i.step.arrived.place more c r s.sacks h.is le i.sacks)
      sacks-same (of_sending c) more le f =
          subst (Every (IsSackUpTo P more)) (sym (ap (λ (z : Session). z.sacks) f.after)) (more-upto P i.step.arrived.place more s.sacks le i.sacks)
      sacks-same (of_receiving c) more le f =
          subst (Every (IsSackUpTo P more)) (sym (ap (λ (z : Session). z.sacks) f.after)) (more-upto P i.step.arrived.place more s.sacks le i.sacks)

      sacks-after : (c : AnyCall) → FollowsAny c s v → (j : IsInStepBut dropped P (n + distance (next_tsn s) (next_tsn v)) v)
          → Every (IsSackUpTo P j.arrived.place) v.sacks
      sacks-after c f j =
          let up = goes-up c f in
          let lo = up.1 in
          let hi = up.2 in
          let within = j.arrived.within in
          let same : up.0 ≡ j.arrived.place = same-place P up.0 j.arrived.place (omega (arith, hi, few)) (omega (arith, within, few))
          (sym up.3 ∙ j.arrived.is) in
          sacks-same c j.arrived.place (omega (arith, lo, same)) f

      older-aged : AreAged (n + distance (next_tsn s) (next_tsn v)) (map (older (distance (next_tsn s) (next_tsn v))) ages) sent s.made
      older-aged =
          let far = distance (next_tsn s) (next_tsn v) in (
            every-of (IsEntryAged n ages) (IsEntryAged (n + far) (map (older far) ages)) (entry-later n far [] ages) sent i.aged.0,
            every-of (IsForwardAged n ages) (IsForwardAged (n + far) (map (older far) ages)) (forward-later n far [] ages) s.made i.aged.1,
          )

      still-aged : next_tsn v ≡ next_tsn s → AreAged (n + distance (next_tsn s) (next_tsn v)) ages sent s.made
      still-aged same =
          let none : distance (next_tsn s) (next_tsn v) ≡ 0 = ap (distance (next_tsn s)) same ∙ no-move P n s s refl i.step.numbered in
          subst (λ k. AreAged k ages sent s.made) {x = n} {y = n + distance (next_tsn s) (next_tsn v)} (omega (arith, none)) i.aged

      few-next : (c : AnyCall) (f : FollowsAny c s v) (flying : count_in_flight v < 2 ^ 31) (bytes : K → bytes_written v < 2 ^ 64) (back : IsBacked K c)
          (off : (k : ℕ) → renews k c ≡ true → going k ≡ false) (q : IsRecentAny c s) (y : IsYoungAny c ages) (recent : HoldsRecent v)
          → IsInStepBut dropped P (n + distance (next_tsn s) (next_tsn v)) v
          → IsFew (n + distance (next_tsn s) (next_tsn v)) v
          (after K going first c s v ns sent ages ps f flying bytes back off q y recent i.now).numbered
          (after K going first c s v ns sent ages ps f flying bytes back off q y recent i.now).sent (aged_any c s v ages)
          (after K going first c s v ns sent ages ps f flying bytes back off q y recent i.now).places'
      unfolding after
      few-next (makes (of_sender call)) f flying bytes back off q y recent j =
          let x = sender-step-on going first call s v ns sent f i.now.young.holds in
          let most = x.few in
          let le = i.long in
          let made = sym (ap (λ (z : Session). z.made) f.after) in
          record {
            now = (after K going first (makes (of_sender call)) s v ns sent ages ps f flying bytes back off q y recent i.now).now;
            step = j;
            long = omega (arith, most, le);
            aged = subst (AreAged (n + distance (next_tsn s) (next_tsn v)) (aged_any (makes (of_sender call)) s v ages) x.more) made
                (aged-then first n s v sent x.more ages (omega (arith, most, le)) call x.grown
                (subst (Every (IsMadeGiven P (n + distance (next_tsn s) (next_tsn v)))) (sym made) j.made) i.aged);
            sacks = sacks-after (makes (of_sender call)) f j;
          }
      few-next (makes (of_receiver call)) f flying bytes back off q y recent j = record {
        now = (after K going first (makes (of_receiver call)) s v ns sent ages ps f flying bytes back off q y recent i.now).now;
        step = j;
        long = let le = i.long in omega (arith, le);
        aged = subst (AreAged (n + distance (next_tsn s) (next_tsn v)) (aged_any (makes (of_receiver call)) s v ages) sent)
            (sym (ap (λ (z : Session). z.made) f.after)) older-aged;
        sacks = sacks-after (makes (of_receiver call)) f j;
      }
      few-next (of_sending call) f flying bytes back off q y recent j = record {
        now = (after K going first (of_sending call) s v ns sent ages ps f flying bytes back off q y recent i.now).now;
        step = j;
        long = let le = i.long in omega (arith, le);
        aged = subst (AreAged (n + distance (next_tsn s) (next_tsn v)) ages sent) (sym (ap (λ (z : Session). z.made) f.after))
            (still-aged (runs.next-same call s v f));
        sacks = sacks-after (of_sending call) f j;
      }
      few-next (of_receiving call) f flying bytes back off q y recent j = record {
        now = (after K going first (of_receiving call) s v ns sent ages ps f flying bytes back off q y recent i.now).now;
        step = j;
        long = let le = i.long in omega (arith, le);
        aged = subst (AreAged (n + distance (next_tsn s) (next_tsn v)) ages sent) (sym (ap (λ (z : Session). z.made) f.after))
            (still-aged (ap (λ (z : Session). next_tsn z) f.after));
        sacks = sacks-after (of_receiving call) f j;
      }

  -- ## Each session

  few-then : (n : ℕ) (cs : List AnyCall) (s new : Session) (ns : List Numbered) (sent : List Entry) (ages : List Aged) (ps : List ℕ) (r : RunsAny s cs new)
      → n + tsns_given_any s cs new r < 2 ^ 31 → (K → bytes_written new < 2 ^ 64) → AreBacked K cs → ((k : ℕ) → list_any (renews k) cs ≡ true → going k ≡ false)
      → ((t : ℕ) → was_dropped cs t ≡ true → dropped t ≡ true) → IsFew n s ns sent ages ps
      → AreRecentAny s cs new r × AreYoungAny ages s cs new r × ArePassedYoung ages s cs new r
  few-then n [] s new ns sent ages ps r few short back off so i = (tt, tt, tt)
  few-then n (c ∷ cs) s new ns sent ages ps r few short back off so i =
      let v = r.0 in
      let f = r.1.0 in
      let bytes = runs.grows cs v new r.1.1 in
      let less : n + distance (next_tsn s) (next_tsn r.0) < 2 ^ 31 = omega (arith, few) in
      let b : K → bytes_written r.0 < 2 ^ 64 = λ k. (let x = short k in omega (arith, bytes, x)) in
      let j = runs.one-step dropped P c n s v less (λ t e. so t (or-left (drops t c) (was_dropped cs t) e)) f i.step in
      let total = j.numbered.total in
      let flying : count_in_flight r.0 < 2 ^ 31 = omega (arith, total, less) in
      let q = is-recent n s v ns sent ages ps i less c f in
      let y = is-young n s v ns sent ages ps i less c f in
      let recent = holds-recent n s v ns sent ages ps i less c f y in
      let off' : (k : ℕ) → renews k c ≡ true → going k ≡ false = λ k e. off k (or-left (renews k c) (list_any (renews k) cs) e) in
      let a = after K going first c s v ns sent ages ps f flying b back.0 off' q y recent i.now in
      let next =
      few-then (n + distance (next_tsn s) (next_tsn v)) cs v new a.numbered a.sent (aged_any c s v ages) a.places' r.1.1 (omega (arith, few)) short back.1
      (λ k e. off k (or-right (renews k c) (list_any (renews k) cs) e)) (λ t e. so t (or-right (drops t c) (was_dropped cs t) e))
      (few-next n s v ns sent ages ps i less c f flying b back.0 off' q y recent j) in
      ((q, flying, next.0), (y, recent, next.1), (is-passed n s v ns sent ages ps i less c f, next.2))

few-start : (K : Type 0) (going dropped : ℕ → Bool) (reported : Reported) (first size max most : ℕ) (limits : Option Limits) (small : first < 2 ^ 32)
    (some : 0 < size)
    → IsFew K going dropped first 0 (at_start_with reported first size max most limits) (start K going first reported size max most limits small some).numbered
    (start K going first reported size max most limits small some).sent [] (start K going first reported size max most limits small some).places'
unfolding start
few-start K going dropped Drop first size max most limits small some = record {
  now = (start K going first Drop size max most limits small some).now;
  step = runs.begin-any dropped Drop first size max most limits small;
  long = omega arith;
  aged = (tt, tt);
  sacks = tt;
}
few-start K going dropped Keep first size max most limits small some = record {
  now = (start K going first Keep size max most limits small some).now;
  step = runs.begin-any dropped Keep first size max most limits small;
  long = omega arith;
  aged = (tt, tt);
  sacks = tt;
}

pub few-any : (K : Type 0) (reported : Reported) (first size max most : ℕ) (limits : Option Limits) (cs : List AnyCall) (s : Session)
    (run : RunsAny (at_start_with reported first size max most limits) cs s) → first < 2 ^ 32 → 0 < size
    → tsns_given_any (at_start_with reported first size max most limits) cs s run < 2 ^ 31 → (K → bytes_written s < 2 ^ 64) → AreBacked K cs
    → AreRecentAny (at_start_with reported first size max most limits) cs s run
    × AreYoungAny [] (at_start_with reported first size max most limits) cs s run
    × ArePassedYoung [] (at_start_with reported first size max most limits) cs s run
few-any K reported first size max most limits cs s run small some few short back =
    let a = start K (is_steady cs) first reported size max most limits small some in
    few-then K (is_steady cs) (was_dropped cs) first 0 cs (at_start_with reported first size max most limits) s a.numbered a.sent [] a.places' run
    (omega (arith, few)) short back (λ k e. ap not e) (λ t e. e)
    (few-start K (is_steady cs) (was_dropped cs) reported first size max most limits small some)

pub few-young : FewTsnsAreYoungAny
few-young reported first size max most limits cs s run small some few short =
    few-any ⊤ reported first size max most limits cs s run small some few (λ k. short) (all-backed ⊤ tt cs)
