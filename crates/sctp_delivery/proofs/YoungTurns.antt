-- What a stream holds and awaits, seen from the first place that is less than 2^31 TSNs old: so what is so of few TSNs is so in a whole life.
use Rattle.sctp_delivery.proofs.Names.{common_steps, nat_tests, ◌≡◌, ℕ, ◌+◌, ◌-◌, ◌<◌, ◌≤◌, ◌^◌, Bool, true, false, List, [], ◌∷◌, length, Option, Some, None}
use Rattle.sctp_delivery.proofs.Names.{refl, ap, sym, subst, ◌∙◌, arith, inl, inr, list_all, list_all-append, list_any, both, tsn, ChunkPayloadData, ChunkSet}
use Rattle.sctp_delivery.proofs.Names.{data_of, has_tsn, fragments_of_sets, fragments_on, InboundStream, Reassembly, Reception, stream_of, misses}
use Rattle.sctp_receiver.specs.TsnFilter.{rise_beyond}
use Rattle.sctp_util.specs.Serial.{distance}
use Rattle.sctp_delivery.proofs.Every.{every-both}
use Rattle.sctp_delivery.proofs.OrderedEntries.{AreIndexedOn, AreJoined}
use Rattle.sctp_delivery.proofs.Queues.{IsOnceMore}
use Rattle.sctp_delivery.proofs.Recent.{rise-each}
use Rattle.sctp_delivery.proofs.Sent.{Entry, IsLine, Numbered, fragment, part-length, part-line}
use Rattle.sctp_delivery.proofs.SpreadEntries.{IsEntry, begun_to, is_at, made-entry, to-up}
use Rattle.sctp_delivery.proofs.TsnPlaces.{base}
use Rattle.sctp_delivery.proofs.UnwrappedArrived.{Rising, between, missing}
use Rattle.sctp_delivery.proofs.UnwrappedHolds.{AreDue, Came, DueOn, Fits, IsBeyond, IsOf, IsStepOf, Rises}
use Rattle.sctp_delivery.proofs.UnwrappedReads.{AreSets, IsDue}
use Rattle.sctp_delivery.proofs.UnwrappedSessions.{are-more, same-at, same-to}
use Rattle.sctp_delivery.proofs.YoungReads.{StandsFrom, more-part}

module _ (st first : ℕ) where
  abbrev pub Begun : List Entry → ℕ → ℕ → ℕ
  Begun sent low = λ k. begun_to st (low + k) sent

  abbrev pub At : List Entry → ℕ → ℕ → Bool
  At sent low = λ k. is_at st (low + k) sent

  abbrev pub Stands : List Entry → ℕ → ChunkPayloadData → Type 0
  Stands sent low = λ c. StandsFrom low (data_of c) sent

  -- what is due on the stream, by places from this one on
  abbrev pub Due : List Entry → (low a : ℕ) → Reception → Type 0
  Due sent low a r =
      AreDue (base first + low) st (length sent - low) (Begun sent low) (At sent low) (Stands sent low) a
      (record { receiver = r; accepted = []; read = [] })

  -- ## From a later place on

  module _ (ns : List Numbered) (sent : List Entry) (line : IsLine ns first sent) (low d : ℕ) (within : low + d ≤ length sent)
      (few : length sent - low < 2 ^ 31) where
    abbrev p : ℕ
    p = base first + low

    abbrev n : ℕ
    n = length sent - low

    abbrev p' : ℕ
    p' = base first + (low + d)

    abbrev n' : ℕ
    n' = length sent - (low + d)

    of-later : (i : ℕ) (c : ChunkPayloadData) (o : IsOf p st n (Begun sent low) (At sent low) (Stands sent low) i c) → d ≤ o.before
        → IsOf p' st n' (Begun sent (low + d)) (At sent (low + d)) (Stands sent (low + d)) i c
    of-later i c o le =
        let b = o.before in
        let w = o.within in
        let is = o.is in
        let m = o.made in
        let number = (part-line ns first sent (fragment (data_of c) m.0 m.1 ∷ m.2) m.3 line).0.number in
        let lt = part-length sent (fragment (data_of c) m.0 m.1 ∷ m.2) m.3 in
        let lo = m.4 in
        let same : length m.2 ≡ low + b = omega (arith, number, is, lt, lo, few, w) in
        let here : low + d + (b - d + 1) ≡ low + (b + 1) = omega (arith, le) in
        let back : low + d + (b - d) ≡ low + b = omega (arith, le) in
        record {
          before = b - d;
          within = omega (arith, w, le);
          is = omega (arith, is, le);
          begun = ap (λ k. begun_to st k sent) here ∙ o.begun;
          made = (m.0, m.1, m.2, m.3, omega (arith, same, le));
          on = o.on;
          inner = λ f. ap (λ k. begun_to st k sent) back ∙ o.inner f;
        }

    -- q: a test by which a chunk has a later place
    module _ (q : ChunkPayloadData → Bool)
        (late : (c : ChunkPayloadData) (b : ℕ) → q c ≡ true → b + 1 ≤ n → c.tsn ≡ tsn p (b + 1) → d ≤ b) where
      rises-later : (i x y : ℕ) → y ≤ x - d → (cs : List ChunkPayloadData) → list_all q cs ≡ true
          → Rises p st n (Begun sent low) (At sent low) (Stands sent low) i x cs
          → Rises p' st n' (Begun sent (low + d)) (At sent (low + d)) (Stands sent (low + d)) i y cs
      unfolding of-later
      rises-later i x y le [] e r = tt
      rises-later i x y le (c ∷ cs) e r =
          let t = both (q c) (list_all q cs) e in
          let o = r.0 in
          let past = late c o.before t.0 o.within o.is in
          let lo = r.1 in
          let f = of-later i c o past in
          (f, omega (arith, lo, le), rises-later i (o.before + 1) (o.before - d + 1) (omega (arith, past)) cs t.1 r.2)

      sets-later : (D G : ℕ → Type 0) (x y : ℕ) (ss : List ChunkSet) → list_all q (fragments_of_sets ss) ≡ true
          → AreSets p n (Begun sent low) (Fits p st n (Begun sent low) (At sent low) (Stands sent low)) D x y ss
          → AreSets p' n' (Begun sent (low + d)) (Fits p' st n' (Begun sent (low + d)) (At sent (low + d)) (Stands sent (low + d))) G x y ss
      sets-later D G x y [] e r = tt
      sets-later D G x y (s ∷ ss) e r =
          let t = both (list_all q s.chunks) (list_all q (fragments_of_sets ss)) (sym (list_all-append q s.chunks (fragments_of_sets ss)) ∙ e) in
          (r.0, (r.1.0, rises-later r.0 0 0 (omega arith) s.chunks t.0 r.1.1), sets-later D G (r.0 + 1) y ss t.1 r.2)

      came-back : (cum : ℕ) (beyond : List ℕ) (y : ℕ) → Came p' st n' (Begun sent (low + d)) (At sent (low + d)) (Stands sent (low + d)) cum beyond y
          → Came p st n (Begun sent low) (At sent low) (Stands sent low) cum beyond (y + d)
      came-back cum beyond y c = grind (arith, nat_tests, common_steps)

      held-later : (cum : ℕ) (beyond : List ℕ) (k reach : ℕ) (r : Reassembly) → list_all q (fragments_of_sets r.ordered) ≡ true
          → IsDue p n (Begun sent low) (Fits p st n (Begun sent low) (At sent low) (Stands sent low))
          (Came p st n (Begun sent low) (At sent low) (Stands sent low) cum beyond) k reach r
          → IsDue p' n' (Begun sent (low + d)) (Fits p' st n' (Begun sent (low + d)) (At sent (low + d)) (Stands sent (low + d)))
          (Came p' st n' (Begun sent (low + d)) (At sent (low + d)) (Stands sent (low + d)) cum beyond) k reach r
      held-later cum beyond k reach r e x = record {
        index = x.index;
        low = x.low;
        next = x.next;
        lowest = x.lowest;
        due = x.due;
        from = x.from;
        near = x.near;
        within = x.within;
        far = x.far;
        sets = sets-later (Came p st n (Begun sent low) (At sent low) (Stands sent low) cum beyond)
            (Came p' st n' (Begun sent (low + d)) (At sent (low + d)) (Stands sent (low + d)) cum beyond) x.low reach r.ordered e x.sets;
        kept = λ y le c.
            let at : low + (y + d) ≡ low + d + y = omega arith in
            let t : tsn p (y + d) ≡ tsn p' y = omega arith in
            elim (x.kept (y + d) (omega (arith, le)) (came-back cum beyond y c)) [
              | inl h ↦ inl (let b = ap (λ k. begun_to st k sent) at in omega (arith, h, b))
              | inr h ↦ inr (subst (λ u. list_any (λ (s : ChunkSet). list_any (has_tsn u) s.chunks) r.ordered ≡ true) t h)
            ];
        unordered = x.unordered;
        unassembled = x.unassembled;
      }

      on-later : (cum : ℕ) (beyond : List ℕ) (k reach : ℕ) (o : Option InboundStream) → list_all q (fragments_on o) ≡ true
          → DueOn p st n (Begun sent low) (At sent low) (Stands sent low)
          (Came p st n (Begun sent low) (At sent low) (Stands sent low) cum beyond) k reach o
          → DueOn p' st n' (Begun sent (low + d)) (At sent (low + d)) (Stands sent (low + d))
          (Came p' st n' (Begun sent (low + d)) (At sent (low + d)) (Stands sent (low + d)) cum beyond) k reach o
      on-later cum beyond k reach None e x = (x.0, x.1, λ y le c. x.2 (y + d) (omega (arith, le)) (came-back cum beyond y c))
      on-later cum beyond k reach (Some l) e x = grind (arith, nat_tests, common_steps, held-later, list_all-append)

      beyond-later : (reach place cum t : ℕ) → place ≤ n → cum ≡ tsn p place → d ≤ place → (1 < distance cum t) × (distance cum t < 2 ^ 31)
          → IsBeyond p st n (Begun sent low) (At sent low) (Stands sent low) reach t
          → IsBeyond p' st n' (Begun sent (low + d)) (At sent (low + d)) (Stands sent (low + d)) reach t
      unfolding distance
      beyond-later reach place cum t upto is le far b =
          let w = b.within in
          let at = b.is in
          let f = far.0 in
          let g = far.1 in
          let past : place ≤ b.before = omega (arith, w, at, f, g, is, upto, few) in
          let here : low + d + (b.before - d + 1) ≡ low + (b.before + 1) = omega (arith, le, past) in
          let back : low + d + (b.before - d) ≡ low + b.before = omega (arith, le, past) in
          let x = ap (λ k. begun_to st k sent) here in
          let y = ap (λ k. begun_to st k sent) back in
          record {
            before = b.before - d;
            within = omega (arith, w, past, le);
            is = omega (arith, at, past, le);
            so = elim b.so [ inl h ↦ inl (omega (arith, h, x, y)) | inr h ↦ inr (omega (arith, h, x)) ];
          }

      pub due-later : (a : ℕ) (r : Reception) (x : Due sent low a r) → d ≤ x.arrived.place → list_all q (fragments_on (stream_of st r)) ≡ true
          → rise_beyond r.cumulative_tsn 1 r.beyond ≡ true
          → (e : Due sent (low + d) (x.arrived.place - d) r) × (e.k ≡ x.k) × (e.arrived.place ≡ x.arrived.place - d)
      due-later a r x le test order =
          let h = x.arrived in
          let w = h.within in
          let is = h.is in
          let most = x.most in
          let covered = h.covered in
          let here : low + d + (h.place - d) ≡ low + h.place = omega (arith, le) in
          let all : low + d + (length sent - (low + d)) ≡ low + (length sent - low) = omega (arith, within) in
          let e : Due sent (low + d) (h.place - d) r = record {
            k = x.k;
            reach = x.reach;
            due = on-later r.cumulative_tsn r.beyond x.k x.reach (stream_of st r) test x.due;
            most = let b = ap (λ k. begun_to st k sent) all in omega (arith, most, b);
            arrived = record {
              place = h.place - d;
              least_is = omega arith;
              within = omega (arith, w, le);
              is = omega (arith, is, le);
              covered = let b = ap (λ k. begun_to st k sent) here in omega (arith, covered, b);
              each = every-both (λ t. (1 < distance r.cumulative_tsn t) × (distance r.cumulative_tsn t < 2 ^ 31))
                  (IsBeyond p st n (Begun sent low) (At sent low) (Stands sent low) x.reach)
                  (IsBeyond p' st n' (Begun sent (low + d)) (At sent (low + d)) (Stands sent (low + d)) x.reach)
                  (λ t f b. beyond-later x.reach h.place r.cumulative_tsn t w is le f b) r.beyond
                  (rise-each r.cumulative_tsn 1 r.beyond order) h.each;
            };
          } in
          (e, refl, refl)

  -- ## More TSNs are given out

  pub due-more : (sent more : List Entry) (low a b : ℕ) → IsOnceMore sent more → low ≤ length sent → length sent ≤ length more
      → length more - low < 2 ^ 31 → (r : Reception) (x : Due sent low a r) → b ≤ x.arrived.place
      → (e : Due more low b r) × (e.k ≡ x.k)
  due-more sent more low a b once within long few r x least = (
    are-more (base first + low) st (length sent - low) (length more - low) (Begun sent low) (Begun more low) (At sent low) (At more low)
        (Stands sent low) (Stands more low) few (omega (arith, long)) (λ k le. same-to st first (length sent) sent more refl once (low + k)
        (omega (arith, le, within))) (to-up st (low + (length sent - low)) (low + (length more - low)) more (omega (arith, long)))
        (λ k le. same-at st first (length sent) sent more refl once (low + k) (omega (arith, le, within)))
        (λ c m. (m.0, m.1, m.2, more-part sent more (fragment (data_of c) m.0 m.1 ∷ m.2) once m.3, m.4)) a b
        (record { receiver = r; accepted = []; read = [] }) x least,
    refl,
  )

  -- ## What was made

  module _ (going : ℕ → Bool) (goes : going st ≡ true) (ns : List Numbered) (sent : List Entry) (line : IsLine ns first sent)
      (indexed : AreIndexedOn going sent) (joined : AreJoined sent) (low : ℕ) (few : length sent - low < 2 ^ 31) (within : low ≤ length sent) where
    abbrev q : ℕ
    q = base first + low

    abbrev m : ℕ
    m = length sent - low

    entry-of : (c : ChunkPayloadData) → Stands sent low c → (e : IsEntry st first sent c) × (low ≤ e.before)
    entry-of c w =
        let x = made-entry going ns first sent line indexed joined st goes c (w.0, w.1, w.2, w.3) in
        let same = x.1 in
        let lo = w.4 in
        (x.0, omega (arith, same, lo))

    pub step-of : (c : ChunkPayloadData) → Stands sent low c → IsStepOf q st m (Begun sent low) (At sent low) (Stands sent low) c
    step-of c w =
        let x = entry-of c w in
        let e = x.0 in
        let lo = x.1 in
        let b = e.before - low in
        let in' = e.within in
        let is = e.is in
        let here : low + (b + 1) ≡ e.before + 1 = omega (arith, lo) in
        let back : low + b ≡ e.before = omega (arith, lo) in
        let up = ap (λ k. begun_to st k sent) here in
        let down = ap (λ k. begun_to st k sent) back in
        record {
          before = b;
          within = omega (arith, in', lo);
          is = omega (arith, is, lo);
          made = w;
          on = ap (λ k. is_at st k sent) here ∙ e.on;
          other = λ h. up ∙ e.step.other h ∙ sym down;
          own = λ h. let k = e.step.number h in (k.0, up ∙ sym k.1, k.2);
          inner = λ h g. down ∙ sym (e.inner g) ∙ sym up;
        }

    -- the place is one of the message with this index
    abbrev IsIn : ℕ → ℕ → Type 0
    IsIn j z = (At sent low z ≡ true) × (Begun sent low z ≡ j + 1)

    all-in : (j k l x : ℕ) → IsIn j k → IsIn j l → k ≤ x → x ≤ l → IsIn j x
    all-in j k l x a b le most =
        let up = to-up st (low + k) (low + x) sent (omega (arith, le)) in
        let c = a.1 in
        let d = b.1 in (
          between st sent joined (low + k) (low + l) (low + x) a.0 b.0 (omega (arith, le)) (omega (arith, most)) (c ∙ sym d),
          omega (arith, up, to-up st (low + x) (low + l) sent (omega (arith, most)), c, d),
        )

    rising-of : (j x : ℕ) (cs : List ChunkPayloadData) → Rises q st m (Begun sent low) (At sent low) (Stands sent low) j x cs
        → Rising q m few (IsIn j) (all-in j) x cs
    rising-of j x [] r = tt
    rising-of j x (c ∷ cs) r =
        let o = r.0 in
        let y = entry-of c o.made in
        let e = y.0 in
        let lo = y.1 in
        let from = r.1 in
        let w = o.within in
        let v = e.within in
        let i = e.is in
        let is = o.is in
        let same : e.before + 1 ≡ low + (o.before + 1) = omega (arith, few, i, is, w, v, lo) in
        let back : e.before ≡ low + (o.before + 1 - 1) = omega (arith, same) in
        let more : e.before + 1 + 1 ≡ low + (o.before + 1 + 1) = omega (arith, same) in
        let begun = ap (λ k. begun_to st k sent) same ∙ o.begun in (
          record {
            place = o.before + 1;
            past = omega (arith, from);
            within = o.within;
            is = o.is;
            of = (ap (λ k. is_at st k sent) (sym same) ∙ e.on ∙ o.on, o.begun);
            next = grind (arith, nat_tests, common_steps);
            prior = grind (arith, nat_tests, common_steps);
          },
          rising-of j (o.before + 1) cs r.2,
        )

    pub missed : (x j : ℕ) (cs : List ChunkPayloadData) → x ≤ m → Fits q st m (Begun sent low) (At sent low) (Stands sent low) j cs
        → misses (tsn q x) cs ≡ true
        → (z : ℕ) × (z ≤ x) × (At sent low z ≡ true) × (Begun sent low z ≡ j + 1) × (list_any (has_tsn (tsn q z)) cs ≡ false)
    missed x j cs le r e =
        let g = missing q m few (IsIn j) (all-in j) x le cs (rising-of j 0 cs r) e in
        (g.place, g.upto, g.of.0, g.of.1, g.absent)
