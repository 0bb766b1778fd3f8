-- How many TSNs a sender gave out, and which of them are in flight.
use Rattle.sctp_delivery.proofs.Names.{◌≡◌, ℕ, zero, suc, ◌+◌, ◌-◌, ◌<◌, ◌≤◌, ◌%◌, ◌^◌, Bool, true, false, List, [], ◌∷◌, ◌++◌, length, length-append}
use Rattle.sctp_delivery.proofs.Names.{length-drop, drop, Option, Some, None, refl, ap, sym, subst, ◌∙◌, arith, take, if◌then◌else◌, nat_lt, nat_le, option_map}
use Rattle.sctp_delivery.proofs.Names.{length-map, nat_tests, common_steps, change_where, insert_before, distance, comes_before, at_or_before}
use Rattle.sctp_delivery.proofs.Names.{length-change_where, not_both, both, tsn, distance-tsn, ChunkPayloadData, Sack, chunk_before, following_tsn, tsns}
use Rattle.sctp_delivery.proofs.Names.{has_tsn, preceding_tsn, as_acknowledged, sent_next, last_of, ends, no_last, peeked_all_started, Flight}
use Rattle.sctp_delivery.proofs.Names.{after_abandonment, after_sack, is_outdated, message_to_abandon, next_after_send, reports_anew, take_sack, tsns_from}
use Rattle.sctp_delivery.proofs.Names.{abandoned_at, abandoned_each, started-inflight, IsRunFrom, changed-run, past-is, filter, cases_lt, none-some, same-is}
use Rattle.sctp_delivery.proofs.Names.{some-same, advanced_ack_point, ahead, can_skip_to, ends_in, is_end, is_kept, last_end, skip_end, found-passes}
use Rattle.std.specs.Prelude.{unwrap_or}
use Rattle.sctp_outbound.specs.payload_queue.PayloadQueue as payload
use Rattle.sctp_outbound.proofs.lemmas.outbound_queue.Abandoned.{last_removed_none}
use Rattle.sctp_sender.proofs.Flights.{put-last}
use Rattle.sctp_sender.proofs.Runs.{dropped}
use Rattle.sctp_delivery.proofs.TsnPlaces.{before, tsn-small, IsGiven, at-or-before}
use Rattle.std.specs.List.{find}
use Rattle.sctp_delivery.proofs.Every.{Every, every-found, every-of, every-passing}
use Rattle.sctp_delivery.proofs.Sessions.{unnot}

-- n TSNs were given out: those up to the acknowledged one, and those in flight
pub record IsNumbered (p n : ℕ) (f : Flight) : Type 0 where
  pub acked : ℕ
  pub acked_is : f.acked_tsn ≡ tsn p acked
  pub next_is : f.next_tsn ≡ tsn p (n + 1)
  pub run : IsRunFrom (tsn p (acked + 1)) f.queue.inflight.chunks
  pub total : acked + length f.queue.inflight.chunks ≡ n

count : (xs : List ChunkPayloadData) → length (tsns xs) ≡ length xs
count xs = length-map xs (λ c. c.tsn)

-- as many as are in flight, behind the acknowledged one
pub rebased : (p n : ℕ) (f : Flight) → IsNumbered p n f → IsNumbered f.acked_tsn (length f.queue.inflight.chunks) f
rebased p n f h = grind (arith, nat_tests, common_steps)

-- ## The same TSNs, and one more

pub same-numbered : (p n : ℕ) (f g : Flight) → tsns g.queue.inflight.chunks ≡ tsns f.queue.inflight.chunks → g.next_tsn ≡ f.next_tsn
    → g.acked_tsn ≡ f.acked_tsn → IsNumbered p n f → IsNumbered p n g
same-numbered p n f g same next acked h = grind (arith, common_steps)

one-more : (t n : ℕ) → t < 2 ^ 32 → tsns_from t n ++ ((t + n) % 2 ^ 32) ∷ [] ≡ tsns_from t (suc n)
one-more t zero small = ap (λ u. u ∷ []) {x = (t + 0) % 2 ^ 32} {y = t} (omega arith)
one-more t (suc n) small = grind (arith, nat_tests, one-more (following_tsn t) n (omega arith))

pub put-length : (x : ChunkPayloadData) (cs : List ChunkPayloadData) → length (insert_before chunk_before x cs) ≡ length cs + 1
put-length x [] = omega arith
put-length x (c ∷ cs) = grind (arith, nat_tests, put-length x cs)

pub as-long : (xs ys : List ChunkPayloadData) → tsns xs ≡ tsns ys → length xs ≡ length ys
as-long xs ys same = sym (count xs) ∙ ap length same ∙ count ys

-- a chunk with the next TSN, put behind chunks with the TSNs of those in flight
pub more-numbered : (p n : ℕ) (f g : Flight) (x : ChunkPayloadData) (cs : List ChunkPayloadData) → tsns cs ≡ tsns f.queue.inflight.chunks → x.tsn ≡ f.next_tsn
    → g.queue.inflight.chunks ≡ insert_before chunk_before x cs → g.next_tsn ≡ following_tsn f.next_tsn → g.acked_tsn ≡ f.acked_tsn
    → length f.queue.inflight.chunks < 2 ^ 31 → IsNumbered p n f → IsNumbered p (n + 1) g
more-numbered p n f g x cs same is put next acked few h = grind (arith, nat_tests, common_steps, as-long, put-last, tsn-small, length-append, one-more)

-- ## A call

-- so many more TSNs are given out, at most so many, and are in flight
pub record Raises (p most : ℕ) (f g : Flight) : Type 0 where
  pub count : ℕ
  pub few : count ≤ most
  pub acked : g.acked_tsn ≡ f.acked_tsn
  pub next : (n : ℕ) → f.next_tsn ≡ tsn p n → g.next_tsn ≡ tsn p (n + count)
  pub long : length g.queue.inflight.chunks ≡ length f.queue.inflight.chunks + count
  pub numbered : (n : ℕ) → length f.queue.inflight.chunks + count < 2 ^ 31 → IsNumbered p n f → IsNumbered p (n + count) g

none-more : (n : ℕ) → n ≡ n + 0
none-more n = omega arith

pub raises-none : (p most : ℕ) (f g : Flight) → tsns g.queue.inflight.chunks ≡ tsns f.queue.inflight.chunks → g.next_tsn ≡ f.next_tsn
    → g.acked_tsn ≡ f.acked_tsn → Raises p most f g
raises-none p most f g same next acked = grind (arith, nat_tests, none-more, same-numbered, as-long)

raises-one : (p most : ℕ) (f g : Flight) (x : ChunkPayloadData) (cs : List ChunkPayloadData) → 1 ≤ most → tsns cs ≡ tsns f.queue.inflight.chunks
    → x.tsn ≡ f.next_tsn → g.queue.inflight.chunks ≡ insert_before chunk_before x cs → g.next_tsn ≡ following_tsn f.next_tsn → g.acked_tsn ≡ f.acked_tsn
    → Raises p most f g
raises-one p most f g x cs some same is put next acked = grind (arith, nat_tests, common_steps, put-length, as-long, more-numbered)

pub raises-sent : (p most : ℕ) (now : ℕ) (f : Flight) → 1 ≤ most → Raises p most f
    (record f { queue = sent_next f.queue f.next_tsn now; next_tsn = next_after_send f })
raises-sent p most now f some = grind (arith, nat_tests, not_both, peeked_all_started, raises-none, raises-one, started-inflight)

pub raises-abandoned : (p most : ℕ) (o : Option ℕ) (f : Flight) → 1 ≤ most → Raises p most f (after_abandonment o f)
raises-abandoned p most None f some = raises-none p most f (after_abandonment None f) refl refl refl
raises-abandoned p most (Some m) f some = grind (arith, nat_tests, changed-run, last_removed_none, no_last, raises-none, raises-one)

-- one call after another
raises-both : (p a b : ℕ) (f g h : Flight) → Raises p a f g → Raises p b g h → Raises p (a + b) f h
raises-both p a b f g h x y =
    let sum : (n : ℕ) → (n + x.count) + y.count ≡ n + (x.count + y.count) = λ n. omega arith in
    record {
      count = x.count + y.count;
      few = omega (arith, x.few, y.few);
      acked = y.acked ∙ x.acked;
      next = λ n e. y.next (n + x.count) (x.next n e) ∙ ap (tsn p) (sum n);
      long = omega (arith, x.long, y.long);
      numbered = λ n few i.
          let long = x.long in
          subst (λ m. IsNumbered p m h) (sum n) (y.numbered (n + x.count) (omega (arith, few, long)) (x.numbered n (omega (arith, few)) i));
    }

pub raises-fewer : (p a b : ℕ) (f g : Flight) → a ≤ b → Raises p a f g → Raises p b f g
raises-fewer p a b f g le r =
    record { count = r.count; few = omega (arith, le, r.few); acked = r.acked; next = r.next; long = r.long; numbered = r.numbered }

pub raises-each : (p : ℕ) (ts : List ℕ) (f : Flight) → Raises p (length ts) f (abandoned_each ts f)
raises-each p [] f = raises-none p 0 f f refl refl refl
raises-each p (t ∷ ts) f =
    raises-fewer p (1 + length ts) (length (t ∷ ts)) f (abandoned_each (t ∷ ts) f) (omega arith)
    (raises-both p 1 (length ts) f (abandoned_at t f) (abandoned_each ts (abandoned_at t f)) (raises-abandoned p 1 (message_to_abandon t f) f (omega arith))
    (raises-each p ts (abandoned_at t f)))

-- how many were given out is what the next TSN shows
pub given : (p n most : ℕ) (f g : Flight) → most < 2 ^ 32 → f.next_tsn ≡ tsn p (n + 1) → (r : Raises p most f g) → distance f.next_tsn g.next_tsn ≡ r.count
given p n most f g short is r = grind (arith, nat_tests, distance-tsn)

-- ## A SACK

pub taken-numbered : (p n place : ℕ) (s : Sack) (f : Flight) → n < 2 ^ 31 → place ≤ n → s.cumulative_tsn_ack ≡ tsn p place → IsNumbered p n f → IsNumbered p n
    (after_sack s f)
taken-numbered p n place s f few within is h = by (is_outdated s f) refl
  where
    by : (b : Bool) → is_outdated s f ≡ b → IsNumbered p n (if b then f else take_sack s f)
    by true e = h
    by false e =
        let cs = change_where (reports_anew s) as_acknowledged f.queue.inflight.chunks in
        let long = length-change_where (reports_anew s) as_acknowledged f.queue.inflight.chunks in
        let total = h.total in
        let order : nat_lt place h.acked ≡ false = sym (before p place h.acked (omega (arith, within, few)) (omega (arith, total, few))) ∙ ap
        (λ t. comes_before t (tsn p h.acked)) (sym is) ∙ ap (comes_before s.cumulative_tsn_ack) (sym h.acked_is) ∙ e in
        let le : h.acked ≤ place = grind (arith, nat_tests) in
        let far : distance f.acked_tsn s.cumulative_tsn_ack ≡ place - h.acked = ap (λ t. distance t s.cumulative_tsn_ack) h.acked_is ∙ ap
        (distance (tsn p h.acked)) is ∙ distance-tsn p h.acked place le (omega (arith, within, few)) in
        let small : f.acked_tsn < 2 ^ 32 = let t = tsn-small p h.acked in omega (arith, t, h.acked_is) in
        let fits : s.cumulative_tsn_ack < 2 ^ 32 = let t = tsn-small p place in omega (arith, t, is) in
        let run : IsRunFrom (tsn p (h.acked + 1)) cs = changed-run (reports_anew s) as_acknowledged (λ c. refl) f.queue.inflight.chunks ∙ h.run ∙ ap
        (tsns_from (tsn p (h.acked + 1))) (sym long) in
        let first : following_tsn f.acked_tsn ≡ tsn p (h.acked + 1) = let a = h.acked_is in omega (arith, a) in
        let enough : distance f.acked_tsn s.cumulative_tsn_ack ≤ length cs = omega (arith, far, long, total, within) in
        let left : payload.past s.cumulative_tsn_ack cs ≡ drop (place - h.acked) cs = past-is cs f.acked_tsn s.cumulative_tsn_ack small fits
        (omega (arith, long, total, few)) enough (subst (λ t. IsRunFrom t cs) (sym first) run) ∙ ap (λ k. drop k cs) far in
        let rest : IsRunFrom ((tsn p (h.acked + 1) + (place - h.acked)) % 2 ^ 32) (drop (place - h.acked) cs) = dropped cs (tsn p (h.acked + 1))
        (place - h.acked) (tsn-small p (h.acked + 1)) run (omega (arith, enough, far)) in
        let next : (tsn p (h.acked + 1) + (place - h.acked)) % 2 ^ 32 ≡ tsn p (place + 1) = omega (arith, le) in
        let n' = length-drop (place - h.acked) cs in
        record {
          acked = place;
          acked_is = is;
          next_is = h.next_is;
          run = subst (λ xs. IsRunFrom (tsn p (place + 1)) xs) (sym left) (subst (λ t. IsRunFrom t (drop (place - h.acked) cs)) next rest);
          total = let l = ap length left in omega (arith, l, n', long, total, le, within);
        }

-- # Which chunks in flight a FORWARD-TSN passes: those before the first whose message is kept

-- ## A run

-- the run behind the first chunk
pub rest-run : (p a : ℕ) (c : ChunkPayloadData) (cs : List ChunkPayloadData) → IsRunFrom (tsn p (a + 1)) (c ∷ cs) → (c.tsn ≡ tsn p (a + 1)) × IsRunFrom
    (tsn p (a + 1 + 1)) cs
rest-run p a c cs run = grind (arith, nat_tests)

-- one of the places behind a, up to n
pub record IsPast (p a n t : ℕ) : Type 0 where
  pub place : ℕ
  pub past : a < place
  pub within : place ≤ n
  pub is : t ≡ tsn p place

abbrev pub past-given : (p a n t : ℕ) → IsPast p a n t → IsGiven p n t
past-given p a n t g = let lt = g.past in record { place = g.place; some = omega (arith, lt); within = g.within; is = g.is }

-- the first so many chunks have the first so many TSNs behind the acknowledged one
run-past : (p a j : ℕ) (cs : List ChunkPayloadData) → IsRunFrom (tsn p (a + 1)) cs → Every (λ (c : ChunkPayloadData). IsPast p a (a + j) c.tsn) (take j cs)
run-past p a zero cs run = tt
run-past p a (suc j) [] run = tt
run-past p a (suc j) (c ∷ cs) run =
    let r = rest-run p a c cs run in
    grind (arith, nat_tests, every-of, run-past p (a + 1) j cs r.1)

take-all : {A : Type 0} (xs : List A) → take (length xs) xs ≡ xs
take-all [] = refl
take-all (x ∷ xs) = ap (λ ys. x ∷ ys) (take-all xs)

flight-past : (p n : ℕ) (f : Flight) (h : IsNumbered p n f) → Every (λ (c : ChunkPayloadData). IsPast p h.acked n c.tsn) f.queue.inflight.chunks
flight-past p n f h =
    let cs = f.queue.inflight.chunks in
    subst (λ m. Every (λ (c : ChunkPayloadData). IsPast p h.acked m c.tsn) cs) h.total
    (subst (Every (λ (c : ChunkPayloadData). IsPast p h.acked (h.acked + length cs) c.tsn)) (take-all cs) (run-past p h.acked (length cs) cs h.run))

pub flight-given : (p n : ℕ) (f : Flight) → IsNumbered p n f → Every (λ (c : ChunkPayloadData). IsGiven p n c.tsn) f.queue.inflight.chunks
flight-given p n f h =
    every-of (λ (c : ChunkPayloadData). IsPast p h.acked n c.tsn) (λ (c : ChunkPayloadData). IsGiven p n c.tsn)
    (λ c g. past-given p h.acked n c.tsn g) f.queue.inflight.chunks (flight-past p n f h)

-- ## The advanced point

-- how many chunks in front are of abandoned messages
abbrev pub lead : List ChunkPayloadData → ℕ
lead [] = 0
lead (c ∷ cs) = if is_kept c then 0 else lead cs + 1

pub lead-within : (cs : List ChunkPayloadData) → lead cs ≤ length cs
lead-within [] = omega arith
lead-within (c ∷ cs) = grind (arith, nat_tests, lead-within cs)

preceding : (p k : ℕ) → preceding_tsn (tsn p (k + 1)) ≡ tsn p k
preceding p k = omega arith

pub point-is : (p a : ℕ) (cs : List ChunkPayloadData) (next : ℕ) → IsRunFrom (tsn p (a + 1)) cs → next ≡ tsn p (a + length cs + 1) → preceding_tsn
    (unwrap_or (option_map (λ (c : ChunkPayloadData). c.tsn) (find is_kept cs)) next) ≡ tsn p (a + lead cs)
point-is p a [] next run is = ap preceding_tsn is ∙ preceding p (a + 0)
point-is p a (c ∷ cs) next run is = by (is_kept c) (point-is p (a + 1) cs next r.1 (is ∙ ap (tsn p) long))
  where
    r : (c.tsn ≡ tsn p (a + 1)) × IsRunFrom (tsn p (a + 1 + 1)) cs
    r = rest-run p a c cs run

    long : a + length (c ∷ cs) + 1 ≡ a + 1 + length cs + 1
    long = omega arith

    by : (b : Bool) → preceding_tsn (unwrap_or (option_map (λ (d : ChunkPayloadData). d.tsn) (find is_kept cs)) next) ≡ tsn p (a + 1 + lead cs)
        → preceding_tsn (unwrap_or (option_map (λ (d : ChunkPayloadData). d.tsn) (if b then Some c else find is_kept cs)) next) ≡ tsn p
        (a + (if b then 0 else lead cs + 1))
    by true ih = ap preceding_tsn r.0 ∙ preceding p a ∙ ap (tsn p) {x = a} {y = a + 0} (omega arith)
    by false ih = ih ∙ ap (tsn p) {x = a + 1 + lead cs} {y = a + (lead cs + 1)} (omega arith)

module _ (p n : ℕ) (f : Flight) (h : IsNumbered p n f) (few : n < 2 ^ 31) where
  pub point-ahead : ahead f (advanced_ack_point f) ≡ lead f.queue.inflight.chunks
  point-ahead =
      let cs = f.queue.inflight.chunks in
      let total = h.total in
      let within = lead-within cs in
      let end : f.next_tsn ≡ tsn p (h.acked + length cs + 1) = h.next_is ∙ ap (λ m. tsn p (m + 1)) (sym total) in
      ap (λ t. distance t (advanced_ack_point f)) h.acked_is ∙ ap (distance (tsn p h.acked)) (point-is p h.acked cs f.next_tsn h.run end)
      ∙ distance-tsn p h.acked (h.acked + lead cs) (omega arith) (omega (arith, within, total, few)) ∙
      (let e : h.acked + lead cs - h.acked ≡ lead cs = omega arith in e)

  can-within : (t : ℕ) → can_skip_to t f ≡ true → ahead f t ≤ lead f.queue.inflight.chunks
  can-within t can = grind (arith, nat_tests, both, point-ahead)

  -- a TSN in flight, with none but abandoned messages up to it
  pub record IsPassable (t : ℕ) : Type 0 where
    pub given : IsGiven p n t
    pub past : h.acked < given.place
    pub upto : given.place ≤ h.acked + lead f.queue.inflight.chunks

  ahead-given : (t : ℕ) (g : IsGiven p n t) → ahead f t ≤ lead f.queue.inflight.chunks → g.place ≤ h.acked + lead f.queue.inflight.chunks
  ahead-given t g le = grind (arith, nat_tests, cases_lt, distance-tsn, lead-within)

  pub passable-end : (t : ℕ) → can_skip_to t f ≡ true → is_end t f ≡ true → IsPassable t
  passable-end t can end = by (find (has_tsn t) f.queue.inflight.chunks) refl
      (both (can_skip_to t f) (ends_in (find (has_tsn t) f.queue.inflight.chunks)) end).1
    where
      by : (o : Option ChunkPayloadData) → find (has_tsn t) f.queue.inflight.chunks ≡ o → ends_in o ≡ true → IsPassable t
      by None e i = absurd (not_both i)
      by (Some c) e i =
          let same : c.tsn ≡ t = same-is c.tsn t (found-passes (has_tsn t) f.queue.inflight.chunks c e) in
          let g : IsPast p h.acked n t = subst (IsPast p h.acked n) same (every-found (λ (d : ChunkPayloadData). IsPast p h.acked n d.tsn)
          (has_tsn t) f.queue.inflight.chunks c e (flight-past p n f h)) in
          let k = past-given p h.acked n t g in
          record { given = k; past = g.past; upto = ahead-given t k (can-within t can) }

pub last-every : (P : ChunkPayloadData → Type 0) (xs : List ChunkPayloadData) (x : ChunkPayloadData) → last_of xs ≡ Some x → Every P xs → P x
last-every P [] x e h = absurd (none-some x e)
last-every P (y ∷ []) x e h = subst P (some-same e) h.0
last-every P (y ∷ z ∷ zs) x e h = last-every P (z ∷ zs) x e h.1

module _ (p n : ℕ) (f : Flight) (h : IsNumbered p n f) (few : n < 2 ^ 31) where
  pub passable-skip : (t u : ℕ) → Some u ≡ skip_end t f → IsPassable p n f h few u
  passable-skip t u is = by (can_skip_to t f) refl is
    where
      in-front : Every (λ (c : ChunkPayloadData). IsPast p h.acked (h.acked + ahead f t) c.tsn) (filter ends (take (ahead f t) f.queue.inflight.chunks))
      in-front = every-passing (λ (c : ChunkPayloadData). IsPast p h.acked (h.acked + ahead f t) c.tsn) ends (take (ahead f t) f.queue.inflight.chunks)
          (run-past p h.acked (ahead f t) f.queue.inflight.chunks h.run)

      found : can_skip_to t f ≡ true → (o : Option ChunkPayloadData) → last_end t f ≡ o → Some u ≡ option_map (λ (c : ChunkPayloadData). c.tsn) o
          → IsPassable p n f h few u
      found can None e i = absurd (none-some u (sym i))
      found can (Some c) e i =
          let same : c.tsn ≡ u = sym (some-same i) in
          let g : IsPast p h.acked (h.acked + ahead f t) u = subst (IsPast p h.acked (h.acked + ahead f t)) same
          (last-every (λ (d : ChunkPayloadData). IsPast p h.acked (h.acked + ahead f t) d.tsn)
          (filter ends (take (ahead f t) f.queue.inflight.chunks)) c e in-front) in
          let le = can-within p n f h few t can in
          let within = lead-within f.queue.inflight.chunks in
          let total = h.total in
          let last = g.within in
          let past = g.past in
          record {
            given = record { place = g.place; some = omega (arith, past); within = omega (arith, last, le, within, total); is = g.is };
            past = past;
            upto = omega (arith, last, le);
          }

      by : (b : Bool) → can_skip_to t f ≡ b → Some u ≡ (if b then option_map (λ (c : ChunkPayloadData). c.tsn) (last_end t f) else None)
          → IsPassable p n f h few u
      by true can i = found can (last_end t f) refl i
      by false can i = absurd (none-some u (sym i))

-- ## What is passed

abbrev pub IsGoneUpTo : ℕ → ChunkPayloadData → Type 0
IsGoneUpTo t c = at_or_before c.tsn t ≡ true → c.abandoned ≡ true

none-upto : (p a m : ℕ) (cs : List ChunkPayloadData) → m ≤ a → a + length cs < 2 ^ 31 → IsRunFrom (tsn p (a + 1)) cs → Every (IsGoneUpTo (tsn p m)) cs
none-upto p a m [] le few run = tt
none-upto p a m (c ∷ cs) le few run =
    let r = rest-run p a c cs run in (
      λ h. let later : nat_le (a + 1) m ≡ true = sym (at-or-before p (a + 1) m (omega (arith, few)) (omega (arith, few, le))) ∙ ap
          (λ t. at_or_before t (tsn p m)) (sym r.0) ∙ h in absurd (grind (arith, nat_tests)),
      none-upto p (a + 1) m cs (omega (arith, le)) (omega (arith, few)) r.1,
    )

gone-upto : (p a m : ℕ) (cs : List ChunkPayloadData) → m ≤ a + lead cs → a + length cs < 2 ^ 31 → IsRunFrom (tsn p (a + 1)) cs → Every (IsGoneUpTo (tsn p m)) cs
gone-upto p a m [] le few run = tt
gone-upto p a m (c ∷ cs) le few run = by (is_kept c) refl le (λ l. gone-upto p (a + 1) m cs l (omega (arith, few)) (rest-run p a c cs run).1)
  where
    by : (b : Bool) → is_kept c ≡ b → m ≤ a + (if b then 0 else lead cs + 1) → (m ≤ a + 1 + lead cs → Every (IsGoneUpTo (tsn p m)) cs) → Every
        (IsGoneUpTo (tsn p m)) (c ∷ cs)
    by true e l ih = none-upto p a m (c ∷ cs) (omega (arith, l)) few run
    by false e l ih = ((λ h. unnot c.abandoned e), ih (omega (arith, l)))

pub passed-gone : (p n : ℕ) (f : Flight) (h : IsNumbered p n f) (few : n < 2 ^ 31) (t : ℕ) → IsPassable p n f h few t → Every
    (IsGoneUpTo t) f.queue.inflight.chunks
passed-gone p n f h few t g = grind (arith, nat_tests, gone-upto)
