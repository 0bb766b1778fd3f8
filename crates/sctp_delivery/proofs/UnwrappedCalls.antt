-- In each session the indexes of the ordered messages that are read on a stream rise: a call of the receiver.
use Rattle.sctp_delivery.proofs.Names.{common_steps, ◌≡◌, ℕ, ◌+◌, ◌%◌, ◌^◌, ◌<◌, ◌≤◌, Bool, true, false, not, List, [], ◌∷◌, ◌++◌, map, Option, Some, None, inl}
use Rattle.sctp_delivery.proofs.Names.{inr, refl, ap, sym, subst, ◌∙◌, arith, ◌⊎◌, ◌==◌, ◌&&◌, if◌then◌else◌, find, nat_lt, option_map, filter, list_any}
use Rattle.sctp_delivery.proofs.Names.{cases_lt, eq-eqb, nat_tests, find-append, change_where, insert_before, at_or_before, comes_before, negated, or-left}
use Rattle.sctp_delivery.proofs.Names.{or-right, or-split, same-is, list_any-inserted, list_any-those, both, fails, not_both, tsn, ChunkPayloadData}
use Rattle.sctp_delivery.proofs.Names.{ChunkForwardTsnStream, ChunkSet, ForwardTsn, has_tsn, is_on, Reassembly, held_after_ordered_skip}
use Rattle.sctp_delivery.proofs.Names.{held_after_unordered_skip, cannot_complete, misses, InboundStream, new_stream, number, skipped_each, ssns_of}
use Rattle.sctp_delivery.proofs.Names.{stream_forwarded, stream_read, unassembled_forwarded, with_queue, Accepts, Reception, filter_of, follow_forward_tsn}
use Rattle.sctp_delivery.proofs.Names.{is_open, is_stale, stream_of, Stand, after_forward_tsn, incomplete_forwarded, is_ahead, names_too_far, with_filter}
use Rattle.sctp_delivery.proofs.Names.{with_tsn, without_incomplete, is_name_too_far, is_ssn_too_far, is_too_far_on, has_come, is_pair_of, is_ordered_on}
use Rattle.sctp_delivery.proofs.Names.{found-passes}
use Rattle.std.specs.Prelude.{is_some}
use Rattle.sctp_receiver.specs.Inbound.{has_number}
use Rattle.sctp_receiver.proofs.Forwarded.{found-followed, found-mapped}
use Rattle.sctp_delivery.proofs.Cases.{by-test}
use Rattle.sctp_delivery.proofs.Every.{Every, every-inserted, every-of, every-passing}
use Rattle.sctp_delivery.proofs.Kept.{accepted-on, changed-elsewhere, changed-here}
use Rattle.sctp_delivery.proofs.TakenTsns.{come}
use Rattle.sctp_delivery.proofs.TsnPlaces.{before, same-place, upto-yes, upto-is, past-is}
use Rattle.sctp_delivery.proofs.UnwrappedReads.{AreSets, Gone, IsDue, IsKeptAt, has_place, in-window, incomplete-due, name-due, push-ordered, push-unordered}
use Rattle.sctp_delivery.proofs.UnwrappedReads.{later-none, read-due, recame, unassembled-due}
use Rattle.sctp_delivery.proofs.Sessions.{neither, unnot}
use Rattle.sctp_delivery.proofs.UnwrappedHolds as holds
use Rattle.sctp_delivery.proofs.UnwrappedHolds.{advance-back, advanced, at-in, beyond-more, on-of, rises-put}

-- st: a stream. Of n TSNs from the base p on, B k says how many ordered messages of the stream the first k begin
-- E k: the chunk at place k is an ordered one of the stream; M c: the chunk was made
module _ (p st n : ℕ) (B : ℕ → ℕ) (E : ℕ → Bool) (M : ChunkPayloadData → Type 0) where
  abbrev IsStepOf : ChunkPayloadData → Type 0
  IsStepOf = holds.IsStepOf p st n B E M

  abbrev IsBeyond : ℕ → ℕ → Type 0
  IsBeyond = holds.IsBeyond p st n B E M

  abbrev Covers : ℕ → ℕ → ℕ → List ℕ → Type 0
  Covers = holds.Covers p st n B E M

  abbrev Fits : ℕ → List ChunkPayloadData → Type 0
  Fits = holds.Fits p st n B E M

  abbrev Came : ℕ → List ℕ → ℕ → Type 0
  Came = holds.Came p st n B E M

  abbrev DueOn : (ℕ → Type 0) → ℕ → ℕ → Option InboundStream → Type 0
  DueOn = holds.DueOn p st n B E M

  abbrev AreDue : ℕ → Stand → Type 0
  AreDue = holds.AreDue p st n B E M

  -- and the messages still to be read have no lower indexes than before
  abbrev pub AreDueSince : ℕ → ℕ → Stand → Type 0
  AreDueSince k a s = (d : AreDue a s) × (k ≤ d.k)

  -- its place is m: of the stream it has no name, and no message is begun from the place a up to m; or one, of the last message begun up to m
  abbrev pub IsNamingTo : ℕ → ℕ → List ChunkForwardTsnStream → Type 0
  IsNamingTo a m ns =
      ((filter (is_pair_of st) ns ≡ []) × (B m ≤ B a) × ((k : ℕ) → a < k → k ≤ m → E k ≡ false))
      ⊎ ((j : ℕ) × (j + 1 ≡ B m) × (filter (is_pair_of st) ns ≡ record { identifier = st; sequence = j % 2 ^ 16 } ∷ []))

  module _ (few : n < 2 ^ 31) (up : (j k : ℕ) → j ≤ k → B j ≤ B k) where
    -- ## Calls of the receiver

    pub opened-due : (C : ℕ → Type 0) (k reach s max : ℕ) (ls : List InboundStream) → DueOn C k reach (find (has_number st) ls)
        → DueOn C k reach (find (has_number st) (ls ++ new_stream s max ∷ []))
    opened-due C k reach s max ls d = grind (arith, nat_tests, common_steps, find-append)

    -- no TSN comes
    abbrev pub moved : (a : ℕ) (old new : Stand) (d : AreDue a old) (k : ℕ)
        → DueOn (Came old.receiver.cumulative_tsn old.receiver.beyond) k d.reach (stream_of st new.receiver)
        → new.receiver.cumulative_tsn ≡ old.receiver.cumulative_tsn → new.receiver.beyond ≡ old.receiver.beyond → AreDue d.arrived.place new
    moved a old new d k due c b =
        let h = d.arrived in
        record {
          k = k;
          reach = d.reach;
          due = subst (λ t. DueOn (Came t new.receiver.beyond) k d.reach (stream_of st new.receiver)) (sym c)
              (subst (λ ts. DueOn (Came old.receiver.cumulative_tsn ts) k d.reach (stream_of st new.receiver)) (sym b) due);
          most = d.most;
          arrived = record {
            place = h.place;
            least_is = omega arith;
            within = h.within;
            is = c ∙ h.is;
            covered = h.covered;
            each = subst (Every (IsBeyond d.reach)) (sym b) h.each;
          };
        }

    -- and nothing is read
    abbrev pub quiet : (a : ℕ) (old new : Stand) (d : AreDue a old)
        → DueOn (Came old.receiver.cumulative_tsn old.receiver.beyond) d.k d.reach (stream_of st new.receiver)
        → new.receiver.cumulative_tsn ≡ old.receiver.cumulative_tsn → new.receiver.beyond ≡ old.receiver.beyond → AreDue d.arrived.place new
    quiet a old new d due = moved a old new d d.k due

    -- one that did not come, by its place
    module _ (a : ℕ) (c : ChunkPayloadData) (old : Stand) (d : AreDue a old) (g : IsStepOf c)
        (fresh : has_come c.tsn (filter_of old.receiver) ≡ false) where
      past : d.arrived.place < g.before + 1
      past = grind (arith, nat_tests, common_steps, neither, past-is)

      -- an ordered one that is not too far on is of an index less than half the circle past the lowest one
      pub window : B n ≤ B a + 2 ^ 14 → c.unordered ≡ false → (o : (i : ℕ) × (B (g.before + 1) ≡ i + 1) × (c.stream_sequence_number ≡ i % 2 ^ 16))
          → (q : Reassembly) (dd : IsDue p n B Fits (Came old.receiver.cumulative_tsn old.receiver.beyond) d.k d.reach q)
          → (not c.unordered && is_ssn_too_far c.stream_sequence_number q) ≡ false → (dd.low ≤ o.0) × (o.0 < dd.low + 2 ^ 15)
      window near kind o q dd close =
          let h = d.arrived in
          let f = past in
          let x = up h.place (g.before + 1) (omega (arith, f)) in
          let y = up a h.place h.least_is in
          let z = h.covered in
          let m = d.most in
          let b = o.1 in
          let top = up (g.before + 1) n g.within in
          in-window p n B Fits (Came old.receiver.cumulative_tsn old.receiver.beyond) (at-in p st n B E M few up) d.k d.reach o.0 c.stream_sequence_number q dd
          o.2 (omega (arith, m, near, y, x, b)) (omega (arith, top, near, y, z, b))
          (ap (λ b. not b && is_ssn_too_far c.stream_sequence_number q) (sym kind) ∙ close)

    module _ (a : ℕ) (near : B n ≤ B a + 2 ^ 14) where
      -- a chunk with a new TSN comes
      module _ (c : ChunkPayloadData) (old new : Stand) (d : AreDue a old) (g : IsStepOf c) (kept : Reception)
          (after : new.receiver ≡ with_filter (with_tsn c.tsn (filter_of old.receiver)) kept)
          (fresh : has_come c.tsn (filter_of old.receiver) ≡ false) where
        abbrev Old : ℕ → Type 0
        Old = Came old.receiver.cumulative_tsn old.receiver.beyond

        pub inserted : (more : ℕ) → d.reach ≤ more → (B (g.before + 1) ≤ B g.before) ⊎ (B (g.before + 1) ≤ more)
            → Covers more d.arrived.place old.receiver.cumulative_tsn (insert_before comes_before c.tsn old.receiver.beyond)
        inserted more le so =
            let h = d.arrived in
            record {
              place = h.place;
              least_is = omega arith;
              within = h.within;
              is = h.is;
              covered = omega (arith, le);
              each = every-inserted (IsBeyond more) comes_before c.tsn old.receiver.beyond
                  (record { before = g.before; within = g.within; is = g.is; so = so })
                  (every-of (IsBeyond d.reach) (IsBeyond more) (λ t. beyond-more p st n B E M few up d.reach more t le) old.receiver.beyond h.each);
            }

        -- what came, but for the chunk, came before
        pub back : (y : ℕ) → y ≤ n → Came new.receiver.cumulative_tsn new.receiver.beyond y → Old y ⊎ ((y ≡ g.before + 1) × (E y ≡ true))
        back y le h =
            let k = advance-back p st n B E M few up (d.reach + B (g.before + 1)) d.arrived.place old.receiver.cumulative_tsn
            (insert_before comes_before c.tsn old.receiver.beyond) (inserted (d.reach + B (g.before + 1)) (omega arith) (inr (omega arith))) y le
            (subst (λ (r : Reception). come (tsn p y) r.cumulative_tsn r.beyond ≡ true) after h.1) in
            elim (or-split (at_or_before (tsn p y) old.receiver.cumulative_tsn)
            (list_any (λ t. t == tsn p y) (insert_before comes_before c.tsn old.receiver.beyond)) k) [
              | inl z ↦ inl (h.0, or-left (at_or_before (tsn p y) old.receiver.cumulative_tsn) (list_any (λ t. t == tsn p y) old.receiver.beyond) z)
              | inr z ↦ grind (arith, nat_tests, common_steps, or-split, list_any-inserted, same-place, same-is, or-right)
            ]

        abbrev build : (more : ℕ) → d.reach ≤ more → more ≤ B n → holds.DueIn p st n B E M d.k more new.receiver
            → (B (g.before + 1) ≤ B g.before) ⊎ (B (g.before + 1) ≤ more) → AreDue d.arrived.place new
        build more le most due so = record {
          k = d.k;
          reach = more;
          due = due;
          most = most;
          arrived =
              subst (λ (r : Reception). Covers more d.arrived.place r.cumulative_tsn r.beyond) (sym after)
              (advanced p st n B E M few up more d.arrived.place old.receiver.cumulative_tsn (insert_before comes_before c.tsn old.receiver.beyond)
              (inserted more le so));
        }

        -- one that is no ordered one of the stream, where on the stream is due what was
        abbrev pub other-due : is_ordered_on st c ≡ false → DueOn Old d.k d.reach (stream_of st new.receiver) → AreDue d.arrived.place new
        other-due e due = build d.reach (omega arith) d.most
            (on-of p st n B E M few up Old (Came new.receiver.cumulative_tsn new.receiver.beyond) less d.k d.reach (stream_of st new.receiver) due)
            (inl (let x = g.other e in omega (arith, x)))
          where
            less : (y : ℕ) → y ≤ n → Came new.receiver.cumulative_tsn new.receiver.beyond y → Old y
            less y le h = elim (back y le h) [ inl z ↦ z | inr z ↦ absurd (not_both (sym (ap E z.0 ∙ g.on ∙ e) ∙ z.1)) ]

      -- that is not too far past the lowest number
      module _ (c : ChunkPayloadData) (answered : Bool) (old new : Stand) (d : AreDue a old) (g : IsStepOf c)
          (acc : Accepts c answered old.receiver new.receiver)
          (fresh : has_come c.tsn (filter_of old.receiver) ≡ false)
          (close : is_too_far_on c (stream_of c.stream_identifier old.receiver) ≡ false) where
        abbrev Was : ℕ → Type 0
        Was = Came old.receiver.cumulative_tsn old.receiver.beyond

        abbrev with_chunk : Reception
        with_chunk = record old.receiver { streams = change_where (has_number c.stream_identifier) (with_queue acc.queue) old.receiver.streams }

        -- what is due on the stream, where it is that of the chunk
        is-due : (C : ℕ → Type 0) (k reach : ℕ) → (is_on st c ≡ false → DueOn C k reach (stream_of st old.receiver))
            → (is_on st c ≡ true → IsDue p n B Fits Was d.k d.reach acc.stream.queue.held → IsDue p n B Fits C k reach acc.queue.held)
            → DueOn C k reach (stream_of st new.receiver)
        is-due C k reach off on = accepted-on c answered old.receiver new.receiver acc st (DueOn C k reach) off
            (λ e there. on e (subst (DueOn Was d.k d.reach) there d.due))

        ordered : is_ordered_on st c ≡ true → AreDueSince d.k d.arrived.place new
        ordered e = elim (cases_lt d.reach (i + 1)) [
          | inl lt ↦ put (i + 1) (omega (arith, lt)) (omega arith) (omega (arith, wide.1)) (omega (arith, top, o.1))
          | inr ge ↦ put d.reach (omega arith) (omega (arith, ge)) dd.far d.most
        ]
          where
            o : (i : ℕ) × (B (g.before + 1) ≡ i + 1) × (c.stream_sequence_number ≡ i % 2 ^ 16)
            o = g.own e

            i : ℕ
            i = o.0

            on : (is_on st c ≡ true) × (not c.unordered ≡ true)
            on = both (is_on st c) (not c.unordered) e

            kind : c.unordered ≡ false
            kind = negated c.unordered on.1

            dd : IsDue p n B Fits Was d.k d.reach acc.stream.queue.held
            dd = subst (DueOn Was d.k d.reach) (subst (λ s. stream_of s old.receiver ≡ Some acc.stream) (same-is c.stream_identifier st on.0) acc.found) d.due

            top : B (g.before + 1) ≤ B n
            top = up (g.before + 1) n g.within

            wide : (dd.low ≤ i) × (i < dd.low + 2 ^ 15)
            wide = window a c old d g fresh near kind o acc.stream.queue.held dd (ap (is_too_far_on c) (sym acc.found) ∙ close)

            of : holds.IsOf p st n B E M i c
            of = record { before = g.before; within = g.within; is = g.is; begun = o.1; made = g.made; on = e; inner = λ f. g.inner e f ∙ o.1 }

            put : (more : ℕ) → d.reach ≤ more → i < more → more ≤ dd.low + 2 ^ 15 → more ≤ B n → AreDueSince d.k d.arrived.place new
            put more le lt far most =
                let b = o.1 in
                let at : has_tsn (tsn p (g.before + 1)) c ≡ true = eq-eqb c.tsn (tsn p (g.before + 1)) g.is in
                let x = push-ordered p n B Fits Was (at-in p st n B E M few up) d.k d.reach more i (g.before + 1) c answered acc.stream.queue acc.queue dd kind
                (of, omega arith, tt)
                (λ cs none r. rises-put p st n B E M few up i 0 c cs of (omega arith) none r) o.2 at o.1 wide.0 wide.1 le lt far acc.pushed in (
                  build c old new d g with_chunk acc.after fresh more le most
                      (is-due (Came new.receiver.cumulative_tsn new.receiver.beyond) d.k more (λ no. absurd (not_both (sym no ∙ on.0)))
                      (λ yes held.
                      recame p n B Fits Was (Came new.receiver.cumulative_tsn new.receiver.beyond) d.k more acc.queue.held x.0
                      (λ y m h. elim (back c old new d g with_chunk acc.after fresh y m h) [
                        | inl z ↦ inl z
                        | inr z ↦ inr (subst (IsKeptAt p n B Fits Was x.0.index acc.queue.held.ordered) (sym z.0) x.1)
                      ]))) (inr (omega (arith, b, lt))),
                  omega arith,
                )

        other : is_ordered_on st c ≡ false → AreDueSince d.k d.arrived.place new
        other e = (
          other-due c old new d g with_chunk acc.after fresh e
              (is-due Was d.k d.reach (λ no. d.due) (λ on held.
              push-unordered p n B Fits Was (at-in p st n B E M few up) d.k d.reach c answered acc.stream.queue acc.queue
              (unnot c.unordered (ap (λ b. b && not c.unordered) (sym on) ∙ e)) acc.pushed held)),
          omega arith,
        )

        pub taken-due : AreDueSince d.k d.arrived.place new
        taken-due = by-test (is_ordered_on st c) ordered other

    -- a message is read
    module _ (a stream : ℕ) (old new : Stand) (d : AreDue a old)
        (streams : new.receiver.streams ≡ change_where (has_number stream) stream_read old.receiver.streams)
        (cumulative : new.receiver.cumulative_tsn ≡ old.receiver.cumulative_tsn) (beyond : new.receiver.beyond ≡ old.receiver.beyond) where
      abbrev Then : ℕ → Type 0
      Then = Came old.receiver.cumulative_tsn old.receiver.beyond

      read-to : (k : ℕ) → DueOn Then k d.reach (stream_of st new.receiver) → AreDue d.arrived.place new
      read-to k due = moved a old new d k due cumulative beyond

      found : stream_of st new.receiver ≡ find (has_number st) (change_where (has_number stream) stream_read old.receiver.streams)
      found = ap (find (has_number st)) streams

      here : (stream == st) ≡ true → (o : Option InboundStream) → stream_of st old.receiver ≡ o → AreDue d.arrived.place new
      here on o e =
          by o (found ∙ changed-here stream stream_read (λ l h. refl) old.receiver.streams st on ∙ ap (option_map stream_read) e)
          (subst (DueOn Then d.k d.reach) e d.due)
        where
          by : (o : Option InboundStream) → stream_of st new.receiver ≡ option_map stream_read o → DueOn Then d.k d.reach o → AreDue d.arrived.place new
          by None is due = read-to d.k (subst (DueOn Then d.k d.reach) (sym is) due)
          by (Some l) is due =
              let r = read-due p n B Fits Then (at-in p st n B E M few up) d.k d.reach l.queue.held due in
              read-to r.after (subst (DueOn Then r.after d.reach) (sym is) r.due)

      elsewhere : (stream == st) ≡ false → AreDue d.arrived.place new
      elsewhere differ =
          read-to d.k (subst (DueOn Then d.k d.reach) (sym (found ∙ changed-elsewhere stream stream_read (λ l h. refl) old.receiver.streams st differ)) d.due)

      pub read-on-due : AreDue d.arrived.place new
      read-on-due = by-test (stream == st) (λ e. here e (stream_of st old.receiver) refl) elsewhere

    -- ## A FORWARD-TSN

    pub own-names : (ns : List ChunkForwardTsnStream) → ssns_of st ns ≡ map (λ x. x.sequence) (filter (is_pair_of st) ns)
    own-names [] = refl
    own-names (x ∷ xs) = grind (arith, nat_tests)

    -- what misses a TSN up to that of a place misses a chunk of its message
    abbrev pub Misses : ℕ → Type 0
    Misses m =
        (i : ℕ) (cs : List ChunkPayloadData) → Fits i cs → misses (tsn p m) cs ≡ true
        → (z : ℕ) × (z ≤ m) × (E z ≡ true) × (B z ≡ i + 1) × (list_any (has_tsn (tsn p z)) cs ≡ false)

    module _ (t m : ℕ) (le : m ≤ n) (is : t ≡ tsn p m) (C : ℕ → Type 0) where
      abbrev Sets : ℕ → ℕ → List ChunkSet → Type 0
      Sets = AreSets p n B Fits C

      abbrev has : ℕ → ChunkSet → Bool
      has = has_place p n B Fits C

      abbrev Goes : ℕ → (low top : ℕ) (ss : List ChunkSet) → Sets low top ss → Type 0
      Goes = Gone p n B Fits C (λ set. not (cannot_complete t set))

      missed : Misses m → (i : ℕ) (s : ChunkSet) → Fits i s.chunks → not (cannot_complete t s) ≡ false
          → (z : ℕ) × (z ≤ m) × (E z ≡ true) × (B z ≡ i + 1) × (list_any (has_tsn (tsn p z)) s.chunks ≡ false)
      missed missing i s h e = grind (arith, nat_tests, common_steps)

      -- where each place up to m of a message from the index on is held, no such message misses one
      pub gone-held : Misses m → (index low top : ℕ) (ss : List ChunkSet) (r : Sets low top ss)
          → ((z : ℕ) → z ≤ m → E z ≡ true → low + 1 ≤ B z → index + 1 ≤ B z → list_any (has z) ss ≡ true) → Goes index low top ss r
      gone-held missing index low top [] r hold = tt
      gone-held missing index low top (s ∷ ss) r hold = (
        λ e. elim (cases_lt r.0 index) [
          | inl lt ↦ lt
          | inr ge ↦
              let x = r.1.0.0 in
              let z = missed missing r.0 s r.1.1 e in
              let upto = z.1 in
              let b = z.3 in
              elim (or-split (has z.0 s) (list_any (has z.0) ss) (hold z.0 z.1 z.2 (omega (arith, b, x)) (omega (arith, b, ge)))) [
                | inl h ↦ absurd (not_both (sym z.4 ∙ h))
                | inr h ↦ absurd (later-none p n B Fits C (at-in p st n B E M few up) (r.0 + 1) top z.0 ss r.2 (omega (arith, upto, le)) (omega (arith, b)) h)
              ]
        ],
        gone-held missing index (r.0 + 1) top ss r.2 (λ z upto a lo from.
            elim (or-split (has z s) (list_any (has z) ss) (hold z upto a (omega (arith, lo)) from)) [
              | inl h ↦ let b = (at-in p st n B E M few up) r.0 z s.chunks (omega (arith, upto, le)) r.1.1 h in absurd (omega (arith, b, lo))
              | inr h ↦ h
            ]),
      )

      -- where the index is past all messages begun up to m
      pub gone-begun : Misses m → (index low top : ℕ) (ss : List ChunkSet) (r : Sets low top ss) → B m ≤ index → Goes index low top ss r
      gone-begun missing index low top [] r past = tt
      gone-begun missing index low top (s ∷ ss) r past = grind (arith, nat_tests, common_steps, gone-begun missing index (r.0 + 1) top ss r.2 past)

    -- one whose place is m
    module _ (a : ℕ) (f : ForwardTsn) (m : ℕ) (old : Stand) (d : AreDue a old) (le : m ≤ n) (is : f.new_cumulative_tsn ≡ tsn p m) where
      pub ahead-is : is_stale f old.receiver ≡ false → d.arrived.place < m
      ahead-is e = grind (arith, nat_tests, common_steps, past-is)

      -- of the one name of the stream what is refused of any does not hold
      pub none-among : (q : ChunkForwardTsnStream → Bool) → (is_ahead f old.receiver && list_any q f.streams) ≡ false → d.arrived.place < m
          → (x : ChunkForwardTsnStream) → filter (is_pair_of st) f.streams ≡ x ∷ [] → q x ≡ false
      none-among q e lt x only =
          let h = d.arrived in
          let v = h.within in
          let t : nat_lt h.place m ≡ true = grind (arith, nat_tests) in
          let lead : is_ahead f old.receiver ≡ true = cc (h.is, is, before p h.place m (omega (arith, v, few)) (omega (arith, le, few)), t) in
          let any : list_any q f.streams ≡ false = ap (λ b. b && list_any q f.streams) (sym lead) ∙ e in
          let those : list_any q (filter (is_pair_of st) f.streams) ≡ false = fails (list_any q (filter (is_pair_of st) f.streams))
          (λ h. not_both (sym any ∙ list_any-those q (is_pair_of st) f.streams h)) in
          (neither (q x) false (ap (list_any q) (sym only) ∙ those)).0

      pub close : names_too_far f old.receiver ≡ false → d.arrived.place < m → (l : InboundStream) → stream_of st old.receiver ≡ Some l → (k : ℕ)
          → filter (is_pair_of st) f.streams ≡ record { identifier = st; sequence = k } ∷ [] → is_name_too_far k l.queue.held ≡ false
      close answered lt l g k only = grind (arith, nat_tests, common_steps, none-among)

      -- its index is near what is held
      pub name-within : B n ≤ B a + 2 ^ 14 → d.arrived.place < m → (j : ℕ) → j + 1 ≡ B m → (d.reach ≤ j + 1 + 2 ^ 14) × (j + 1 ≤ d.reach + 2 ^ 14)
      name-within near lt j last = grind (arith, nat_tests, common_steps)

      -- where it passes nothing of the stream, all up to it came
      pub clear-came : ((k : ℕ) → a < k → k ≤ m → E k ≡ false) → (y : ℕ) → y ≤ m → E y ≡ true → Came old.receiver.cumulative_tsn old.receiver.beyond y
      clear-came clear y upto on = grind (arith, nat_tests, common_steps, cases_lt, not_both, or-left, upto-yes)

      -- the queue of the stream, by its names
      pub named-by : (l : InboundStream) → stream_of st old.receiver ≡ Some l
          → ssns_of l.queue.si f.streams ≡ map (λ x. x.sequence) (filter (is_pair_of st) f.streams)
      named-by l e =
          ap (λ s. ssns_of s f.streams) (same-is (number l) st (found-passes (has_number st) old.receiver.streams l e)) ∙ own-names f.streams

    -- what it makes of the receiver
    module _ (f : ForwardTsn) (old new : Stand) (after : new.receiver ≡ after_forward_tsn f old.receiver) where
      abbrev pub changed : InboundStream → InboundStream
      changed l = incomplete_forwarded f.new_cumulative_tsn (unassembled_forwarded f.new_cumulative_tsn (stream_forwarded f.streams l))

      by-stale : (b : Bool) → is_stale f old.receiver ≡ b → new.receiver
          ≡ (if b then old.receiver else without_incomplete f.new_cumulative_tsn (if b then old.receiver else follow_forward_tsn f old.receiver))
      by-stale b e = after ∙ ap (λ b. if b then old.receiver else without_incomplete f.new_cumulative_tsn
          (if b then old.receiver else follow_forward_tsn f old.receiver)) e

      pub stale-same : is_stale f old.receiver ≡ true → new.receiver ≡ old.receiver
      stale-same = by-stale true

      pub now-is : is_stale f old.receiver ≡ false → new.receiver ≡ without_incomplete f.new_cumulative_tsn (follow_forward_tsn f old.receiver)
      now-is = by-stale false

      pub found-after : is_stale f old.receiver ≡ false → stream_of st new.receiver ≡ option_map changed (stream_of st old.receiver)
      found-after e = grind (arith, nat_tests, common_steps, now-is, found-mapped, found-followed)

    module _ (a : ℕ) (near : B n ≤ B a + 2 ^ 14) (f : ForwardTsn) (m : ℕ) (old new : Stand) (d : AreDue a old) (le : m ≤ n)
        (is : f.new_cumulative_tsn ≡ tsn p m) (after : new.receiver ≡ after_forward_tsn f old.receiver)
        (naming : IsNamingTo a m f.streams) (answered : names_too_far f old.receiver ≡ false)
        (open' : d.arrived.place < m → (j : ℕ) → filter (is_pair_of st) f.streams ≡ record { identifier = st; sequence = j } ∷ []
        → is_open st old.receiver ≡ true)
        (missing : Misses m) where
      abbrev t : ℕ
      t = f.new_cumulative_tsn

      abbrev change : InboundStream → InboundStream
      change = changed f old new after

      abbrev Prior : ℕ → Type 0
      Prior = Came old.receiver.cumulative_tsn old.receiver.beyond

      abbrev New : ℕ → Type 0
      New = Came new.receiver.cumulative_tsn new.receiver.beyond

      abbrev rest : List ℕ
      rest = filter (λ u. not (at_or_before u t)) old.receiver.beyond

      arrived-upto : is_stale f old.receiver ≡ false → (more : ℕ) → d.reach ≤ more → B m ≤ more → Covers more d.arrived.place t rest
      arrived-upto e more up' covered =
          record {
            place = m;
            least_is = omega (arith, ahead-is a f m old d le is e);
            within = le;
            is = is;
            covered = covered;
            each = every-of (IsBeyond d.reach) (IsBeyond more) (λ u. beyond-more p st n B E M few up d.reach more u up') rest
                (every-passing (IsBeyond d.reach) (λ u. not (at_or_before u t)) old.receiver.beyond d.arrived.each);
          }

      -- what came lies up to the place of the FORWARD-TSN, or came before
      came-by : is_stale f old.receiver ≡ false → (y : ℕ) → y ≤ n → New y → (y ≤ m) ⊎ Prior y
      came-by e y most h =
          let k = advance-back p st n B E M few up (d.reach + B m) d.arrived.place t rest (arrived-upto e (d.reach + B m) (omega arith) (omega arith)) y most
          (subst (λ (r : Reception). come (tsn p y) r.cumulative_tsn r.beyond ≡ true) (now-is f old new after e) h.1) in
          elim (or-split (at_or_before (tsn p y) t) (list_any (λ u. u == tsn p y) rest) k) [
            | inl z ↦
                inl (upto-is p y m refl is (omega (arith, most, few)) (omega (arith, le, few)) z)
            | inr z ↦ grind (arith, nat_tests, common_steps, or-right, list_any-those, not)
          ]

      -- with this reach
      abbrev leads-to : is_stale f old.receiver ≡ false → (more : ℕ) → d.reach ≤ more → more ≤ B n → B m ≤ more
          → DueOn New d.k more (option_map change (stream_of st old.receiver)) → AreDue d.arrived.place new
      leads-to e more up' most covered due = record {
        k = d.k;
        reach = more;
        due = subst (DueOn New d.k more) (sym (found-after f old new after e)) due;
        most = most;
        arrived =
            subst (λ (r : Reception). Covers more d.arrived.place r.cumulative_tsn r.beyond) (sym (now-is f old new after e))
            (advanced p st n B E M few up more d.arrived.place t rest (arrived-upto e more up' covered));
      }

      -- the queue after its names, and what is incomplete then
      abbrev with-names : List ℕ → InboundStream → InboundStream
      with-names ssns l = incomplete_forwarded t (unassembled_forwarded t (with_queue (skipped_each ssns l.queue) l))

      unnamed : is_stale f old.receiver ≡ false → filter (is_pair_of st) f.streams ≡ [] → B m ≤ B a → ((k : ℕ) → a < k → k ≤ m → E k ≡ false)
          → AreDueSince d.k d.arrived.place new
      unnamed e none most clear = (leads-to e d.reach (omega arith) d.most covered (by (stream_of st old.receiver) refl), omega arith)
        where
          covered : B m ≤ d.reach
          covered = let h = d.arrived in let y = up a h.place h.least_is in omega (arith, most, y)

          came : (y : ℕ) → y ≤ m → E y ≡ true → Prior y
          came = clear-came a f m old d le is clear

          less : (y : ℕ) → y ≤ n → New y → Prior y
          less y within h = elim (came-by e y within h) [ inl x ↦ came y x h.0 | inr x ↦ x ]

          by : (o : Option InboundStream) → stream_of st old.receiver ≡ o → DueOn New d.k d.reach (option_map change o)
          by None g = on-of p st n B E M few up Prior New less d.k d.reach None (subst (DueOn Prior d.k d.reach) g d.due)
          by (Some l) g =
              let held = subst (DueOn Prior d.k d.reach) g d.due in
              let now = recame p n B Fits Prior New d.k d.reach l.queue.held held (λ y within h. inl (less y within h)) in
              let u = unassembled-due p n B Fits New (at-in p st n B E M few up) d.k d.reach t l.queue.held now in
              let gone = gone-held t m le is Prior missing held.index held.low d.reach l.queue.held.ordered held.sets
              (λ z upto on lo from. elim (held.kept z (omega (arith, upto, le)) (came z upto on)) [
                | inl h ↦ absurd (omega (arith, h, from))
                | inr h ↦ h
              ]) in
              let names : ssns_of l.queue.si f.streams ≡ [] = named-by a f m old d le is l g ∙ ap (map (λ (x : ChunkForwardTsnStream). x.sequence)) none in
              subst (λ ssns. IsDue p n B Fits New d.k d.reach (with-names ssns l).queue.held) (sym names)
              (incomplete-due p n B Fits New (at-in p st n B E M few up) d.k d.reach t (held_after_unordered_skip t l.queue.held) u gone)

      named : is_stale f old.receiver ≡ false → (j : ℕ) → j + 1 ≡ B m
          → filter (is_pair_of st) f.streams ≡ record { identifier = st; sequence = j % 2 ^ 16 } ∷ [] → AreDueSince d.k d.arrived.place new
      named e j last only = by (stream_of st old.receiver) refl
        where
          lt : d.arrived.place < m
          lt = ahead-is a f m old d le is e

          by : (o : Option InboundStream) → stream_of st old.receiver ≡ o → AreDueSince d.k d.arrived.place new
          by None g =
              absurd (not_both (sym (ap is_some g) ∙ open' lt (j % 2 ^ 16) only))
          by (Some l) g =
              let held = subst (DueOn Prior d.k d.reach) g d.due in
              let w = name-within a f m old d le is near lt j last in
              let s = name-due p n B Fits Prior (at-in p st n B E M few up) d.k d.reach j (j % 2 ^ 16) (B n) l.queue.held held refl w.0 w.1 d.most
              (omega (arith, up m n le, last)) (close a f m old d le is answered lt l g (j % 2 ^ 16) only) in
              let q = held_after_ordered_skip (j % 2 ^ 16) l.queue.held in
              let now = recame p n B Fits Prior New d.k s.more q s.due (λ y within h. elim (came-by e y within h) [
                | inl z ↦ inr (inl (let b = up y m z in omega (arith, b, last)))
                | inr z ↦ inl z
              ]) in
              let u = unassembled-due p n B Fits New (at-in p st n B E M few up) d.k s.more t q now in
              let past = gone-begun t m le is Prior missing s.due.index s.due.low s.more q.ordered s.due.sets (omega (arith, last)) in
              let names : ssns_of l.queue.si f.streams ≡ j % 2 ^ 16 ∷ [] = cc (named-by a f m old d le is l g, only) in (
                leads-to e s.more s.up s.within (omega (arith, last)) (subst (λ o. DueOn New d.k s.more (option_map change o)) (sym g)
                    (subst (λ ssns. IsDue p n B Fits New d.k s.more (with-names ssns l).queue.held) (sym names)
                    (incomplete-due p n B Fits New (at-in p st n B E M few up) d.k s.more t (held_after_unordered_skip t q) u past))),
                omega arith,
              )

      pub followed-due : AreDueSince d.k d.arrived.place new
      followed-due = by-test (is_stale f old.receiver)
          (λ e.
          let same = stale-same f old new after e in (
            quiet a old new d (subst (λ (r : Reception). DueOn Prior d.k d.reach (stream_of st r)) (sym same) d.due)
                (ap (λ (r : Reception). r.cumulative_tsn) same) (ap (λ (r : Reception). r.beyond) same),
            omega arith,
          ))
          (λ e. elim naming [ inl x ↦ unnamed e x.0 x.1 x.2 | inr x ↦ named e x.0 x.1 x.2 ])
