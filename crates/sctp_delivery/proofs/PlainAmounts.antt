-- Sessions of a sender that keeps what is reported: the amount of each open stream, and what is told of chunks.
use Rattle.sctp_delivery.proofs.Names.{nat_tests, common_steps, ◌≡◌, ℕ, ◌<◌, ◌≤◌, ◌+◌, ◌-◌, ◌^◌, Bool, true, false, not, List, [], ◌∷◌, refl, ap, sym, subst}
use Rattle.sctp_delivery.proofs.Names.{◌∙◌, arith, zero, suc, ap₂, not_both, min, Option, Some, None, is_some, IfSome, if◌then◌else◌, ◌==◌, ◌&&◌, find}
use Rattle.sctp_delivery.proofs.Names.{sum_by-cons, both, negated, same-is, same-yes, change_where, Contains, ChunkPayloadData, Sack, OutboundStream, Limits}
use Rattle.sctp_delivery.proofs.Names.{Transmission, Outbound, Session, Modes, at_first, modes_from, of_sender, of_receiver, data_chunk, bytes_written}
use Rattle.sctp_delivery.proofs.Names.{distance, total_bytes, with_inflight, has_number, data_of, Write, bytes_for}
use Rattle.sctp_sender.specs.declared.sender.Reported.{Reported}
use Rattle.sctp_sender.specs.declared.sender.Reported.TheVariants.{Drop, Keep}
use Rattle.sctp_sender.specs.declared.sender.flight.kept.TakenBack.{TakenBack}
use Rattle.sctp_sender.specs.Flight.{is_outdated}
use Rattle.sctp_sender.specs.Keeping.{after_returns, answered_back, back_each, more_by, restored, takes_back as is_back}
use Rattle.sctp_sender.specs.Sender.{back_by, stream_of, taken_back_by}
use Rattle.sctp_delivery.specs.Amounts.{AmountsEnd, EachIsTold, told_by, told_on, written_by, written_on}
use Rattle.sctp_delivery.specs.Returns.{AfterEachWithReturnsOfFewInFlight, AmountsAreLeftSo, AreFewInFlightSo, CallOrReturn, EachReturnIsTold, IsOfMade}
use Rattle.sctp_delivery.specs.Returns.{RunsWithReturns, TakesBack, abandoned_so, at_start_with, bytes_back_on, makes, other_calls, returned_by, returned_on}
use Rattle.sctp_delivery.specs.Returns.{takes_back, tsns_given_so}
use Rattle.sctp_delivery.specs.Session.{count_in_flight}
use Rattle.sctp_delivery.proofs.AmountLaws.{AllOf, AreCounted, IsOf, WasMade, all-told, counted-in, counted-then, each-made, ends-of, made-in, moved}
use Rattle.sctp_delivery.proofs.Cases.{all_streams, at-if}
use Rattle.sctp_delivery.proofs.Delivered.{next_tsn}
use Rattle.sctp_delivery.proofs.Every.{Every, all-of-every, every-of}
use Rattle.sctp_delivery.proofs.Plain.{AreLike, rest_of}
use Rattle.sctp_delivery.proofs.PlainHolds.{has-made}
use Rattle.sctp_delivery.proofs.PlainReturns.{back-few}
use Rattle.sctp_delivery.proofs.PlainRuns.{at-start, goes, grows, one-goes, none-flying}
use Rattle.sctp_delivery.proofs.PlainSessions.{Goes, kept_of, plain}
use Rattle.sctp_delivery.proofs.PlainStreams.{open-alike, one-more}
use Rattle.sctp_delivery.proofs.Sessions.{accounted}
use Rattle.sctp_delivery.proofs.StreamBytes.{amount, amount-at, amount-changed, amount-elsewhere, amount-found, amount-open, held, only, size, split-all, weigh}

-- ## What comes back

-- of chunks in flight that are like others: what they weigh more, that each is on the stream of its write, and that the others weigh as much
record Comes (ws : List Write) (cs ds : List ChunkPayloadData) (bs : List (Option (List ℕ))) : Type 0 where
  weighed : (st : ℕ) → weigh (only st) (restored bs cs) ≡ weigh (only st) cs + bytes_back_on st (answered_back bs cs)
  all : Every (IsOf ws) (restored bs cs)
  within : Every (λ (r : TakenBack). r.bytes ≤ weigh (only r.stream) ds) (answered_back bs cs)

is-back-of : (sack : Sack) (c : ChunkPayloadData) → is_back sack c ≡ true → (c.acked ≡ true) × (c.abandoned ≡ false)
is-back-of sack c e = grind (arith, nat_tests, common_steps, both, negated)

module _ (ws : List Write) (sack : Sack) where
  comes : (ks : List (Option (List ℕ))) (cs ds : List ChunkPayloadData) → AreLike ks cs ds → Every (IsOf ws) cs → Comes ws cs ds (back_each sack cs ks)
  comes [] cs ds a e = record { weighed = λ st. omega arith; all = e; within = tt }
  comes (k ∷ ks) [] ds a e = record { weighed = λ st. omega arith; all = tt; within = tt }
  comes (k ∷ ks) (c ∷ cs) [] a e = absurd a
  comes (k ∷ ks) (c ∷ cs) (d ∷ ds) a e =
      grind (arith, nat_tests, common_steps, is-back-of, every-of, sum_by-cons, not_both, not, same-yes, comes ks cs ds a.1 e.1)

-- it is something, so each stream is open
module _ (st : ℕ) where
  amount-returned : (rs : List TakenBack) (ls : List OutboundStream)
      → Every (λ (r : TakenBack). 0 < r.bytes → is_some (find (has_number r.stream) ls) ≡ true) rs → amount st ls + bytes_back_on st rs < 2 ^ 64
      → amount st (after_returns rs ls) ≡ amount st ls + bytes_back_on st rs
  amount-returned [] ls e few = omega arith
  amount-returned (r ∷ rs) ls e few =
      let more = change_where (has_number r.stream) (more_by r.bytes) ls in
      let n = sum_by-cons (λ (x : TakenBack). bytes_for st x.stream x.bytes) r rs in
      let one = by (r.stream == st) refl (omega (arith, n, few)) in
      let rest = amount-returned rs more (every-of (λ (x : TakenBack). 0 < x.bytes → is_some (find (has_number x.stream) ls) ≡ true)
      (λ (x : TakenBack). 0 < x.bytes → is_some (find (has_number x.stream) more) ≡ true)
      (λ x h some. open-alike x.stream more ls (one-more r.stream r.bytes ls) ∙ h some) rs e.1) (omega (arith, n, one, few)) in
      omega (arith, n, one, rest)
    where
      there : (b : ℕ) → r.bytes ≡ suc b → (o : Option OutboundStream) → find (has_number r.stream) ls ≡ o → is_some o ≡ true
          → amount r.stream ls + r.bytes < 2 ^ 64 → amount r.stream (change_where (has_number r.stream) (more_by r.bytes) ls) ≡ amount r.stream ls + r.bytes
      there h0 h1 h2 h3 h4 h5 = grind (arith, nat_tests, common_steps, not_both, amount-at, amount-found)

      own : (n : ℕ) → r.bytes ≡ n → amount r.stream ls + r.bytes < 2 ^ 64
          → amount r.stream (change_where (has_number r.stream) (more_by r.bytes) ls) ≡ amount r.stream ls + r.bytes
      own zero is lt =
          let x = amount-changed r.stream r.stream (more_by r.bytes) (λ y. refl) (λ k. min (k + r.bytes) (2 ^ 64 - 1)) (λ y. refl) (omega (arith, is))
          (same-yes r.stream) ls in
          omega (arith, x, is, lt)
      own (suc b) is lt = there b is (find (has_number r.stream) ls) refl (e.0 (omega (arith, is))) lt

      by : (b : Bool) → (r.stream == st) ≡ b → amount st ls + (if b then r.bytes else 0) < 2 ^ 64
          → amount st (change_where (has_number r.stream) (more_by r.bytes) ls) ≡ amount st ls + (if b then r.bytes else 0)
      by h0 h1 h2 = grind (arith, nat_tests, common_steps, same-is, own, amount-elsewhere)

-- ## One session

module _ (first size max most : ℕ) (limits : Option Limits) (small : first < 2 ^ 32) (some : 0 < size) where
  module _ (s : Session) (n : ℕ) (gone : List ℕ) (m : Modes) (g : Goes first (plain first size max most limits) s.sending.sender s n gone m) where
    abbrev beside : List ChunkPayloadData
    beside = g.shadow.chunks

    -- ## A SACK that takes back

    module _ (sack : Sack) (back : List TakenBack) (v : Session) (f : TakesBack sack back s v) (k : AreCounted s) where
      abbrev t : Transmission
      t = s.sending.sender

      coming : Comes s.written s.sending.sender.flight.queue.inflight.chunks g.shadow.chunks (back_by sack s.sending.sender.flight s.sending.sender.kept)
      coming = grind (arith, nat_tests, common_steps, comes)

      -- each stream on which something comes back is open
      open-there : Every (λ (r : TakenBack). 0 < r.bytes → is_some (find (has_number r.stream) s.sending.sender.streams) ≡ true)
          (taken_back_by sack s.sending.sender)
      open-there = every-of (λ (r : TakenBack). r.bytes ≤ weigh (only r.stream) beside) (λ (r : TakenBack). 0 < r.bytes
          → is_some (find (has_number r.stream) t.streams) ≡ true) one (taken_back_by sack t) coming.within
        where
          one : (r : TakenBack) → r.bytes ≤ weigh (only r.stream) g.shadow.chunks → 0 < r.bytes
              → is_some (find (has_number r.stream) s.sending.sender.streams) ≡ true
          one r le lt =
              let d = (counted-in first size max most limits g.plays.plain.calls g.other small some g.plays.plain.run).counted.amounts r.stream in
              let e = ap (λ (u : Transmission). amount r.stream u.streams) g.shadow.sender in
              let h = ap (λ (u : Transmission). held (only r.stream) u.flight.queue) g.shadow.sender in
              open-alike r.stream t.streams g.shadow.streams g.shadow.alike ∙ amount-open r.stream g.shadow.streams (omega (arith, d, e, h, le, lt))

      abbrev w : Outbound
      w = with_inflight s.sending.sender.flight.queue (restored (back_by sack s.sending.sender.flight s.sending.sender.kept)
          s.sending.sender.flight.queue.inflight.chunks)

      -- what waits and is in flight then is no more than what was written
      few : bytes_written s < 2 ^ 64 → total_bytes w < 2 ^ 64
      few short = grind (arith, nat_tests, common_steps, accounted, back-few)

      -- so the amount of each stream stays what it holds
      record Returned : Type 0 where
        counted : AreCounted v
        balance : (st : ℕ) → held (only st) v.sending.sender.flight.queue ≡ held (only st) s.sending.sender.flight.queue + bytes_back_on st back

      returned : bytes_written s < 2 ^ 64 → Returned
      returned short = record {
        counted = record {
          all = subst (λ (u : Transmission). AllOf v.written u.flight.queue) (sym f.exact)
              (subst (λ ws. AllOf ws w) (sym (ap (λ (y : Session). y.written) f.after))
              (record { ordered = k.all.ordered; unordered = k.all.unordered; inflight = coming.all }));
          amounts = λ st.
              let b = held-more st in
              let a = k.amounts st in
              let c = split-all st w in
              let few' = few short in
              let more = amount-returned st (taken_back_by sack t) t.streams open-there (omega (arith, a, b, c, few')) in
              let e = ap (λ (u : Transmission). amount st u.streams) f.exact in
              let h = ap (λ (u : Transmission). held (only st) u.flight.queue) f.exact in
              omega (arith, a, b, more, e, h);
        };
        balance = grind (arith, nat_tests, common_steps, held-more);
      }
        where
          held-more : (st : ℕ) → held (only st) w ≡ held (only st) s.sending.sender.flight.queue + bytes_back_on st (taken_back_by sack s.sending.sender)
          held-more st = let h = coming.weighed st in omega (arith, h)

  -- ## Call by call

  -- the amounts stay, and move by what is told, written and comes back
  record GoesSo (cs : List CallOrReturn) (old new : Session) : Type 0 where
    counted : AreCounted new
    balance : (st : ℕ) → held (only st) new.sending.sender.flight.queue + told_on st (other_calls cs)
        ≡ held (only st) old.sending.sender.flight.queue + (written_on st (other_calls cs) + returned_on st cs)

  counts : (cs : List CallOrReturn) (s new : Session) (r : RunsWithReturns s cs new) (n : ℕ) (gone : List ℕ) (m : Modes)
      → count_in_flight s < 2 ^ 31 → AreFewInFlightSo s cs new r → bytes_written new < 2 ^ 64
      → Goes first (plain first size max most limits) s.sending.sender s n gone m → AreCounted s
      → GoesSo cs s new
  counts [] s new r n gone m was few short g k = subst (GoesSo [] s) (sym r) (record { counted = k; balance = λ st. omega arith })
  counts (makes (of_sender call) ∷ cs) s new r n gone m was few short g k =
      let f = r.1.0 in
      let bytes = grows cs r.0 new r.1.1 in
      let h = one-goes first (plain first size max most limits) (makes (of_sender call)) s r.0 n gone m f was few.0
      (omega (arith, bytes, short)) g in
      let x = has-made first size max most limits small some s n gone m g in
      let rest = counts cs r.0 new r.1.1 (n + distance (next_tsn s) (next_tsn r.0)) _ _ few.0 few.1 short h
      (counted-then first call s r.0 x.numbered x.sent f x.holds k) in
      record {
        counted = rest.counted;
        balance = λ st.
            let o = (moved first call s r.0 x.numbered x.sent f x.holds k st).balance in
            let y = rest.balance st in
            let a = sum_by-cons (told_by st) (of_sender call) (other_calls cs) in
            let b = sum_by-cons (written_by st) (of_sender call) (other_calls cs) in
            let c = sum_by-cons (returned_by st) (makes (of_sender call)) cs in
            omega (arith, o, y, a, b, c);
      }
  counts (makes (of_receiver call) ∷ cs) s new r n gone m was few short g k =
      let f = r.1.0 in
      let bytes = grows cs r.0 new r.1.1 in
      let h = one-goes first (plain first size max most limits) (makes (of_receiver call)) s r.0 n gone m f was few.0
      (omega (arith, bytes, short)) g in
      let rest = counts cs r.0 new r.1.1 (n + distance (next_tsn s) (next_tsn r.0)) _ _ few.0 few.1 short h
      (subst AreCounted (sym f.after) (record { all = k.all; amounts = k.amounts })) in
      record {
        counted = rest.counted;
        balance = λ st.
            let x = ap (λ (y : Session). held (only st) y.sending.sender.flight.queue) f.after in
            let y = rest.balance st in
            let a = sum_by-cons (told_by st) (of_receiver call) (other_calls cs) in
            let b = sum_by-cons (written_by st) (of_receiver call) (other_calls cs) in
            let c = sum_by-cons (returned_by st) (makes (of_receiver call)) cs in
            omega (arith, x, y, a, b, c);
      }
  counts (takes_back sack back ∷ cs) s new r n gone m was few short g k =
      let f = r.1.0 in
      let bytes = grows cs r.0 new r.1.1 in
      let same = ap bytes_written f.after in
      let h = one-goes first (plain first size max most limits) (takes_back sack back) s r.0 n gone m f was few.0
      (omega (arith, bytes, short)) g in
      let b = returned s n gone m g sack back r.0 f k (omega (arith, same, bytes, short)) in
      let rest = counts cs r.0 new r.1.1 (n + distance (next_tsn s) (next_tsn r.0)) _ _ few.0 few.1 short h b.counted in
      record {
        counted = rest.counted;
        balance = λ st.
            let x = b.balance st in
            let y = rest.balance st in
            let c = sum_by-cons (returned_by st) (takes_back sack back) cs in
            omega (arith, x, y, c);
      }

-- ## The laws

module _ (reported : Reported) (first size max most : ℕ) (limits : Option Limits) (calls : List CallOrReturn) (s : Session)
    (run : RunsWithReturns (at_start_with reported first size max most limits) calls s) (small : first < 2 ^ 32) (some : 0 < size)
    (few : AreFewInFlightSo (at_start_with reported first size max most limits) calls s run) (short : bytes_written s < 2 ^ 64) where
  counts-all : GoesSo first size max most limits small some calls (at_start_with reported first size max most limits) s
  counts-all =
      counts first size max most limits small some calls (at_start_with reported first size max most limits) s run 0 [] _
      (let none = none-flying reported first size max most limits in omega (arith, none)) few short
      (at-start reported first size max most limits small) (by reported)
    where
      by : (k : Reported) → AreCounted (at_start_with k first size max most limits)
      by Drop = record { all = record { ordered = tt; unordered = tt; inflight = tt }; amounts = λ st. refl }
      by Keep = record { all = record { ordered = tt; unordered = tt; inflight = tt }; amounts = λ st. refl }

  held-first : (st : ℕ) → held (only st) (at_start_with reported first size max most limits).sending.sender.flight.queue ≡ 0
  held-first st = grind (arith, nat_tests, common_steps)

  left-so : AmountsAreLeftSo calls s
  left-so st = by (stream_of st s.sending.sender) refl
    where
      by : (o : Option OutboundStream) → stream_of st s.sending.sender ≡ o
          → IfSome o (λ l. l.buffered_amount + told_on st (other_calls calls) ≡ written_on st (other_calls calls) + returned_on st calls)
      by None e = tt
      by (Some l) e =
          let a = amount-found st s.sending.sender.streams l e in
          let h = counts-all.counted.amounts st in
          let b = counts-all.balance st in
          let z = held-first st in
          omega (arith, a, h, b, z)

pub are-left : AfterEachWithReturnsOfFewInFlight (λ calls s. AmountsAreLeftSo calls s)
are-left reported first size max most limits calls s run small some few short = left-so reported first size max most limits calls s run small some few short

pub end : AfterEachWithReturnsOfFewInFlight (λ calls s. AmountsEnd s)
end reported first size max most limits calls s run small some few short =
    ends-of s (counts-all reported first size max most limits calls s run small some few short).counted

pub each-told : AfterEachWithReturnsOfFewInFlight (λ calls s. EachIsTold s)
each-told reported first size max most limits calls s run small some few short k left t f =
    let g = goes reported first size max most limits calls s run small few short in
    let h = has-made first size max most limits small some s _ _ _ g in
    all-told s t k left f (each-made all_streams first h.sent s.made s.sending.sender.flight.queue.inflight.chunks h.made h.holds.held.stands.known)
    h.holds.held.stands.sendable
    (counts-all reported first size max most limits calls s run small some few short).counted

-- ## What is told of what comes back

-- a chunk that is not abandoned was made
abbrev IsMade : Session → ChunkPayloadData → Type 0
IsMade s d = d.abandoned ≡ false → Contains s.made (data_chunk (data_of d))

returns-made : (s : Session) (sack : Sack) (ks : List (Option (List ℕ))) (cs ds : List ChunkPayloadData) → AreLike ks cs ds → Every (IsMade s) ds
    → Every (IsOfMade s) (answered_back (back_each sack cs ks) cs)
returns-made s sack [] cs ds a e = tt
returns-made s sack (k ∷ ks) [] ds a e = tt
returns-made s sack (k ∷ ks) (c ∷ cs) [] a e = absurd a
returns-made s sack (k ∷ ks) (c ∷ cs) (d ∷ ds) a e = grind (arith, nat_tests, common_steps, is-back-of, returns-made s sack ks cs ds a.1 e.1)

-- none of the others is acknowledged
each-there : (s : Session) (ks : List (Option (List ℕ))) (cs ds : List ChunkPayloadData) → AreLike ks cs ds → Every (WasMade s.made) ds → Every (IsMade s) ds
each-there s ks [] [] a e = tt
each-there s ks [] (d ∷ ds) a e = absurd a
each-there s ks (c ∷ cs) [] a e = absurd a
each-there s ks (c ∷ cs) (d ∷ ds) a e =
    ((λ h. e.0 (ap₂ (λ x y. not x && not y) a.0.open' h)), each-there s (rest_of ks) cs ds a.1 e.1)

pub each-return-told : AfterEachWithReturnsOfFewInFlight (λ calls s. EachReturnIsTold s)
each-return-told reported first size max most limits calls s run small some few short sack back v f =
    all-of-every (IsOfMade s) back (subst (Every (IsOfMade s)) (sym f.answered) (by s.sending.sender.kept g.shadow.like))
  where
    g : Goes first (plain first size max most limits) s.sending.sender s (tsns_given_so (at_start_with reported first size max most limits) calls s run)
        (abandoned_so (at_start_with reported first size max most limits) calls s run) (modes_from at_first (other_calls calls))
    g = goes reported first size max most limits calls s run small few short

    cs : List ChunkPayloadData
    cs = s.sending.sender.flight.queue.inflight.chunks

    made : Every (WasMade s.made) g.shadow.chunks
    made = grind (arith, nat_tests, common_steps, made-in, each-made)

    by : (o : Option (List (Option (List ℕ)))) → AreLike (kept_of o) s.sending.sender.flight.queue.inflight.chunks g.shadow.chunks
        → Every (IsOfMade s) (answered_back (back_by sack s.sending.sender.flight o) s.sending.sender.flight.queue.inflight.chunks)
    by None a = tt
    by (Some ks) a = at-if (λ bs. Every (IsOfMade s) (answered_back bs cs)) (is_outdated sack s.sending.sender.flight) (λ _. tt)
        (λ _. returns-made s sack ks cs g.shadow.chunks a (each-there s ks cs g.shadow.chunks a made))
