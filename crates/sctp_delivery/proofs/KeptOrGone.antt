-- What was taken on a stream is held or was read, but for fragments of messages that are gone: what holds of the stream after each call.
use Rattle.sctp_delivery.proofs.Names.{common_steps, nat_tests, ◌≡◌, ℕ, ◌+◌, ◌%◌, ◌^◌, ◌<◌, ◌≤◌, Bool, true, false, List, [], ◌∷◌, length, Option, Some, None}
use Rattle.sctp_delivery.proofs.Names.{refl, ap, sym, subst, ◌⊎◌, ◌||◌, distance, distance-tsn, nat_le, arith, ⊤, filter, list_any, sum_by, eq-eqb, or-left}
use Rattle.sctp_delivery.proofs.Names.{sum_by-inserted, and, both, tsn, ChunkPayloadData, ChunkSet, data_of, sets_with, Reassembly, ReassemblyState, rest_among}
use Rattle.sctp_delivery.proofs.Names.{InboundStream, Pushes, stream_of, Stand, fragments_read, all_complete, held_weight, is_orderly, pushed-number}
use Rattle.sctp_delivery.proofs.Names.{is_unmixed, weight, has_tsn, is_on, passes, Made}
use Rattle.sctp_reassembly.specs.reassembly_queue.ReassemblyQueue.{state_read}
use Rattle.sctp_receiver.proofs.CompleteMessages.{pushed-complete}
use Rattle.sctp_receiver.proofs.OneMessage.{pushed-unmixed}
use Rattle.sctp_receiver.proofs.Weights as weights
use Rattle.sctp_delivery.proofs.UnwrappedHolds.{IsCurrent, current-put, current-same, front-current, put-in}
use Rattle.sctp_delivery.proofs.Every.{Every}
use Rattle.sctp_delivery.proofs.PassingCalls.{IsGone}
use Rattle.sctp_delivery.proofs.KeptSets.{sets-more, IsFit, IsTidy, pushed-tidy, read-tidy}
use Rattle.sctp_delivery.proofs.ArrivedTsns.{IsArrived}
use Rattle.sctp_delivery.proofs.MessagePlaces.{EndsAt, IsWanted, has-all}
use Rattle.sctp_delivery.proofs.OrderedEntries.{AreJoined}
use Rattle.sctp_delivery.proofs.Sent.{Entry, IsLine, Numbered, WasSent}
use Rattle.sctp_delivery.proofs.SpreadEntries.{begun_to, is_at, to-up}
use Rattle.sctp_delivery.proofs.TakenTsns.{come}
use Rattle.sctp_delivery.proofs.TsnPlaces.{base}
use Rattle.sctp_delivery.proofs.UnwrappedHolds as holds
use Rattle.sctp_delivery.proofs.UnwrappedReads as reads
use Rattle.sctp_delivery.proofs.UnwrappedReads.{IsDue}

-- the chunk is of a message that is gone, and a FORWARD-TSN that was made passes it
abbrev pub IsPassedBy : List ℕ → List Entry → List Made → ChunkPayloadData → Type 0
IsPassedBy gone sent made c = IsGone gone sent c × (list_any (passes c.tsn) made ≡ true)

-- a TSN stands up to the place
abbrev pub is_upto : ℕ → ℕ → ℕ → Bool
is_upto p m t = nat_le (distance (tsn p 0) t) m

pub upto-place : (p m y t : ℕ) → t ≡ tsn p y → y < 2 ^ 32 → is_upto p m t ≡ nat_le y m
upto-place p m y t is few = grind (arith, nat_tests, common_steps, distance-tsn)

module _ (first : ℕ) (sent : List Entry) (st : ℕ) where
  -- an ordered fragment of the stream at the place is still to come
  abbrev pub IsLate : ℕ → List ℕ → ℕ → Type 0
  IsLate cumulative beyond y = IsWanted st sent y × (come (tsn (base first) y) cumulative beyond ≡ false)

  -- where n TSNs were given out, and those up to the place a are acknowledged
  pub record IsHeldWell (n a : ℕ) (L : ℕ → Type 0) (q : ReassemblyState) : Type 0 where
    pub current : IsCurrent (base first) n (λ k. begun_to st k sent) (begun_to st a sent) (begun_to st n sent) L q.held
    pub tidy : IsTidy (base first) n q.held
    pub orderly : is_orderly q ≡ true

  abbrev pub HeldWell : ℕ → ℕ → (ℕ → Type 0) → Option InboundStream → Type 0
  HeldWell n a L None = ⊤
  HeldWell n a L (Some l) = IsHeldWell n a L l.queue

  -- nothing unassembled of the stream stands up to the place
  abbrev pub IsPast : ℕ → Option InboundStream → Type 0
  IsPast floor None = ⊤
  IsPast floor (Some l) = Every (λ c. is_upto (base first) floor c.tsn ≡ false) l.queue.held.unassembled

  -- a TSN was taken, or stands up to the place
  abbrev pub known_past : ℕ → Stand → ℕ → Bool
  known_past floor s t = list_any (has_tsn t) s.accepted || is_upto (base first) floor t

  -- FORWARD-TSNs that were followed went to a place at most: a message ends there, all up to it has come, what is lost stands up to it, what is
  -- unassembled past it, and what came past it was taken
  pub record IsPassedTo (n : ℕ) (lost : List ChunkPayloadData) (s : Stand) : Type 0 where
    pub floor : ℕ
    pub within : floor ≤ n
    pub ends : (floor ≡ 0) ⊎ EndsAt sent floor
    pub below : (y : ℕ) → 0 < y → y ≤ floor → come (tsn (base first) y) s.receiver.cumulative_tsn s.receiver.beyond ≡ true
    pub gone-to : Every (λ c. is_upto (base first) floor c.tsn ≡ true) lost
    pub past : IsPast floor (stream_of st s.receiver)
    pub arrived : IsArrived (base first) n (known_past floor s) s.receiver.cumulative_tsn s.receiver.beyond

  -- however chunks are weighed: those that were taken on the stream weigh as much as the fragments that were read there, those that are held
  -- there, and some that FORWARD-TSNs pass, of messages that are gone
  pub record IsKeptBut (n a : ℕ) (gone : List ℕ) (made : List Made) (s : Stand) : Type 0 where
    pub lost : List ChunkPayloadData
    pub of-gone : Every (IsPassedBy gone sent made) lost
    pub weighs : (w : ChunkPayloadData → ℕ) → sum_by w (filter (is_on st) s.accepted)
        ≡ sum_by w (fragments_read st s.read) + held_weight w (stream_of st s.receiver) + sum_by w lost
    pub holds : HeldWell n a (IsLate s.receiver.cumulative_tsn s.receiver.beyond) (stream_of st s.receiver)
    pub floor : IsPassedTo n lost s

module _ (ws : List Numbered) (first : ℕ) (sent : List Entry) (line : IsLine ws first sent) (joined : AreJoined sent) (n : ℕ)
    (long : length sent ≡ n) (few : n < 2 ^ 31) (st : ℕ) where
  abbrev p : ℕ
  p = base first

  abbrev B : ℕ → ℕ
  B k = begun_to st k sent

  abbrev E : ℕ → Bool
  E k = is_at st k sent

  abbrev M : ChunkPayloadData → Type 0
  M c = WasSent sent (data_of c)

  abbrev pub Pieces : ℕ → List ChunkPayloadData → Type 0
  Pieces = holds.Fits p st n B E M

  abbrev pub Due : (ℕ → Type 0) → ℕ → ℕ → Reassembly → Type 0
  Due = IsDue p n B Pieces

  pub at-in : (i y : ℕ) (cs : List ChunkPayloadData) → y ≤ n → Pieces i cs → list_any (has_tsn (tsn p y)) cs ≡ true → B y ≡ i + 1
  at-in = holds.at-in p st n B E M few (λ j k le. to-up st j k sent le)

  pub place-in : (i : ℕ) (cs : List ChunkPayloadData) → Pieces i cs → 0 < length cs → (y : ℕ) × (y ≤ n) × (list_any (has_tsn (tsn p y)) cs ≡ true)
  place-in i [] f some = absurd (omega (arith, some))
  place-in i (c ∷ cs) f some =
      let o = f.0 in
      let t = tsn p (o.before + 1) in
      (o.before + 1, o.within, or-left (has_tsn t c) (list_any (has_tsn t) cs) (eq-eqb c.tsn t o.is))

  module _ (a : ℕ) (L : ℕ → Type 0) where
    abbrev Now : Reassembly → Type 0
    Now = IsCurrent p n B (B a) (B n) L

    abbrev Well : ReassemblyState → Type 0
    Well = IsHeldWell first sent st n a L

    orderly-both : (q : ReassemblyState) → is_orderly q ≡ true → (all_complete q.held.unordered ≡ true) × (is_unmixed q.si q.held ≡ true)
    orderly-both q h = both (all_complete q.held.unordered) (is_unmixed q.si q.held) h

    -- ## A fragment comes

    -- of which message an ordered one is, and that it is near the next index
    pub record IsComing (index : ℕ) (x : ChunkPayloadData) : Type 0 where
      pub place : ℕ
      pub of : ℕ
      pub within : place ≤ n
      pub is : x.tsn ≡ tsn p place
      pub begun : B place ≡ of + 1
      pub number : x.stream_sequence_number ≡ of % 2 ^ 16
      pub late : L place
      pub near : of < index + 2 ^ 15

    module _ (x : ChunkPayloadData) (answered : Bool) (old new : ReassemblyState) (pushes : Pushes x answered old new) (h : Well old)
        (fresh : Every (λ (s : ChunkSet). list_any (has_tsn x.tsn) s.chunks ≡ false) old.held.ordered) (C : ℕ → Type 0) where
      abbrev Weighs : Type 0
      Weighs = (w : ChunkPayloadData → ℕ) → weight w new.held ≡ w x + weight w old.held

      put-ordered : (u : x.unordered ≡ false) → IsComing h.current.index x → (low top : ℕ)
          → reads.AreSets p n B Pieces C low top new.held.ordered → Now new.held × Weighs
      put-ordered u e low top sets = (
        subst Now (sym held) (current-put p n B Pieces C at-in place-in x (B a) (B n) L old.held h.current e.place low top
            e.within e.is after (subst (λ (q : Reassembly). reads.AreSets p n B Pieces C low top q.ordered) held sets)),
        λ w.
            omega (arith, sets-more w x old.held.ordered fresh, ap (weight w) held),
      )
        where
          after : h.current.index < begun_to st e.place sent
          after = h.current.late e.place (omega arith) e.late

          held : new.held ≡ record old.held { ordered = sets_with x old.held.ordered }
          held = grind (arith, nat_tests, common_steps, put-in)

      put-unordered : x.unordered ≡ true → Now new.held × Weighs
      put-unordered u = grind (arith, nat_tests, common_steps, current-same, weights.becomes, sum_by-inserted)

      pub pushed-well : is_on old.si x ≡ true → IsFit p n x → list_any (has_tsn x.tsn) old.held.unassembled ≡ false
          → (x.unordered ≡ false → IsComing h.current.index x × ((low : ℕ) × (top : ℕ) × reads.AreSets p n B Pieces C low top new.held.ordered))
          → Well new × Weighs
      pushed-well on fit bare ordered =
          grind (arith, put-unordered, put-ordered, orderly-both, pushed-tidy, and, pushed-complete, pushed-number, pushed-unmixed)

    -- ## A message is read

    module _ (q : ReassemblyState) (h : Well q) (C : ℕ → Type 0) (k reach : ℕ) (d : Due C k reach q.held) (same : h.current.index ≡ d.index)
        (most : reach ≤ B n) (wanted : (y : ℕ) → L y → IsWanted st sent y)
        (came : (y : ℕ) → list_any (λ (s : ChunkSet). list_any (has_tsn (tsn p y)) s.chunks) q.held.ordered ≡ true → L y → ⊥) where
      pub read-well : Well (state_read q)
      read-well =
          let o = orderly-both q h.orderly in
          record {
            current = by q.held.unordered refl;
            tidy = read-tidy p n few q.held h.tidy;
            orderly = grind (arith, nat_tests, common_steps);
          }
        where
          by : (us : List ChunkSet) → q.held.unordered ≡ us → Now (rest_among us q.held)
          by [] e =
              front-current p n B Pieces C at-in place-in (B a) (B n) L q.held k reach d
              (λ i y cs fits whole l count. has-all ws first sent line joined n long few st i cs fits whole y (wanted y l) count) came most h.current same
          by (u ∷ us) e = grind (arith, nat_tests, common_steps)
