-- On a stream that goes on: of unordered chunks, how many were taken, read, are held or are lost, whatever the receiver is called for.
use Rattle.sctp_delivery.proofs.Names.{common_steps, nat_tests, ◌≡◌, ℕ, ◌+◌, ◌≤◌, Bool, true, false, not, List, [], ◌∷◌, ◌++◌, Option, Some, None, refl, ap}
use Rattle.sctp_delivery.proofs.Names.{sym, subst, ◌∙◌, arith, ⊤, if◌then◌else◌, ◌==◌, option_map, filter, sum_by, sum_by-cons, sum_by-append, sum_by-inserted}
use Rattle.sctp_delivery.proofs.Names.{at_or_before, after_leading, cannot_complete, is_passed, ChunkPayloadData, ChunkSet, New, Pushes, Reassembly}
use Rattle.sctp_delivery.proofs.Names.{ReassemblyState, sets_with, InboundStream, new_stream, skipped_each, ssns_of, Accepts, Reception, stream_of, Stand}
use Rattle.sctp_delivery.proofs.Names.{fragments_read, held_weight, set_weight, weight, is_on, held_after_unordered_skip, after_forward_tsn, rest_read}
use Rattle.sctp_delivery.proofs.Names.{ForwardTsn, is_stale}
use Rattle.sctp_receiver.specs.Inbound.{stream_forwarded, unassembled_forwarded, numbers_of}
use Rattle.sctp_receiver.specs.Skips.{incomplete_forwarded}
use Rattle.sctp_reassembly.specs.reassembly_queue.ReassemblyQueue.{after_ordered_skip}
use Rattle.sctp_reassembly.specs.reassembly_queue.Skips.{held_after_incomplete_skip}
use Rattle.sctp_receiver.specs.ReceiverRuns as receiver_runs
use Rattle.sctp_receiver.specs.Resets.{stream_reset}
use Rattle.sctp_receiver.proofs.Closed.{others-left}
use Rattle.sctp_receiver.proofs.StreamCosts.{are_apart}
use Rattle.sctp_receiver.proofs.Weights as weights
use Rattle.sctp_delivery.proofs.Cases.{by-test}
use Rattle.sctp_delivery.proofs.Every.{Every, every-inserted, every-joined, every-of, every-passing}
use Rattle.sctp_delivery.proofs.Kept as streams
use Rattle.sctp_delivery.proofs.Kept.{IsSo, changed-elsewhere}
use Rattle.sctp_delivery.proofs.KeptSets.{IsOrdered, IsUnordered, IsWhole, every-first, pushed-sets, read-sets}
use Rattle.sctp_delivery.proofs.Unassembled.{each-leading, leading, leading-split}
use Rattle.sctp_delivery.proofs.UnwrappedCalls.{found-after, stale-same}

-- ## Sets of ordered chunks

abbrev pub AreOrdered : List ChunkSet → Type 0
AreOrdered ss = Every (λ (x : ChunkSet). Every IsOrdered x.chunks) ss

-- a weight that ordered chunks do not have
abbrev pub IsLight : (ChunkPayloadData → ℕ) → Type 0
IsLight w = (c : ChunkPayloadData) → c.unordered ≡ false → w c ≡ 0

-- what unordered ones have alone
abbrev pub lonely : (ChunkPayloadData → ℕ) → ChunkPayloadData → ℕ
lonely w c = if c.unordered then w c else 0

module _ (w : ChunkPayloadData → ℕ) where
  pub lonely-light : IsLight (lonely w)
  lonely-light c e = ap (λ b. if b then w c else 0) e

  pub lonely-less : (cs : List ChunkPayloadData) → sum_by (lonely w) cs ≤ sum_by w cs
  lonely-less [] = omega arith
  lonely-less (c ∷ cs) = grind (arith, nat_tests, common_steps, lonely-less cs)

  pub lonely-kind : (cs : List ChunkPayloadData) → Every IsUnordered cs → sum_by (lonely w) cs ≡ sum_by w cs
  lonely-kind [] e = refl
  lonely-kind (c ∷ cs) e = grind (arith, nat_tests, common_steps, lonely-kind cs e.1)

  pub lonely-sets : (ss : List ChunkSet) → Every IsWhole ss → sum_by (set_weight (lonely w)) ss ≡ sum_by (set_weight w) ss
  lonely-sets [] e = refl
  lonely-sets (s ∷ ss) e =
      omega (arith, lonely-kind s.chunks e.0, lonely-sets ss e.1, sum_by-cons (set_weight (lonely w)) s ss, sum_by-cons (set_weight w) s ss)

chunks-light : (w : ChunkPayloadData → ℕ) → IsLight w → (cs : List ChunkPayloadData) → Every IsOrdered cs → sum_by w cs ≡ 0
chunks-light w h [] e = refl
chunks-light w h (c ∷ cs) e = omega (arith, sum_by-cons w c cs, h c e.0, chunks-light w h cs e.1)

pub sets-light : (w : ChunkPayloadData → ℕ) → IsLight w → (ss : List ChunkSet) → AreOrdered ss → sum_by (set_weight w) ss ≡ 0
sets-light w h [] e = refl
sets-light w h (s ∷ ss) e = omega (arith, sum_by-cons (set_weight w) s ss, chunks-light w h s.chunks e.0, sets-light w h ss e.1)

sets-ordered : (x : ChunkPayloadData) → IsOrdered x → (ss : List ChunkSet) → AreOrdered ss → AreOrdered (sets_with x ss)
sets-ordered x kind ss e = grind (arith, nat_tests, common_steps, every-first, every-of, every-inserted)

-- a skip by names drops of these alone
record IsNamed (q r : Reassembly) : Type 0 where
  unordered : r.unordered ≡ q.unordered
  unassembled : r.unassembled ≡ q.unassembled
  ordered : AreOrdered r.ordered

named : (ssns : List ℕ) (q : ReassemblyState) → AreOrdered q.held.ordered → IsNamed q.held (skipped_each ssns q).held
named [] q e = record { unordered = refl; unassembled = refl; ordered = e }
named (ssn ∷ ssns) q e =
    let x = named ssns (after_ordered_skip ssn q)
    (every-passing (λ (s : ChunkSet). Every IsOrdered s.chunks) (λ s. not (is_passed ssn s)) q.held.ordered e) in
    record { unordered = x.unordered; unassembled = x.unassembled; ordered = x.ordered }

-- ## A stream

-- what is so of unordered fragments, whatever is called for
pub record IsKeptByCalls (L : Reassembly → Type 0) : Type 0 where
  pub fresh : (s max : ℕ) → L (new_stream s max).queue.held
  pub read : (q : Reassembly) → L q → L (rest_read q)
  pub left : (t : ℕ) (q : Reassembly) → L q → L (held_after_unordered_skip t q)
  pub alike : (q r : Reassembly) → r.unordered ≡ q.unordered → r.unassembled ≡ q.unassembled → L q → L r

module _ (st : ℕ) (P : ChunkPayloadData → Type 0) (L : Reassembly → Type 0) where
  abbrev pub Sorted : Option InboundStream → Type 0
  Sorted None = ⊤
  Sorted (Some l) = AreOrdered l.queue.held.ordered × L l.queue.held

  -- however unordered chunks are weighed: what was taken was read, is held, or is lost
  pub record IsEven (s : Stand) : Type 0 where
    pub lost : List ChunkPayloadData
    pub spent : Every P lost
    pub so : IsSo st IsLight Sorted lost s

  -- ## A chunk is taken

  pushed-sorted : (c : ChunkPayloadData) (said : Bool) (q r : ReassemblyState) → Pushes c said q r → AreOrdered q.held.ordered → AreOrdered r.held.ordered
  pushed-sorted c said q r p e = pushed-sets AreOrdered c said q r p (λ u. sets-ordered c u q.held.ordered e) e

  pushed-weighs : (c : ChunkPayloadData) (said : Bool) (q r : ReassemblyState) → Pushes c said q r → AreOrdered q.held.ordered
      → (w : ChunkPayloadData → ℕ) → IsLight w → weight w r.held ≡ w c + weight w q.held
  pushed-weighs c said q r p e w h = grind (arith, nat_tests, common_steps, weights.becomes, sum_by-inserted, sets-light, pushed-sorted)

  -- where it is of the stream, it fits there
  abbrev pub Puts : ChunkPayloadData → Bool → Option InboundStream → Type 0
  Puts c said None = ⊤
  Puts c said (Some l) = is_on st c ≡ true → (q : ReassemblyState) → Pushes c said l.queue q → L l.queue.held → L q.held

  -- what a FORWARD-TSN takes out is lost
  abbrev pub Leaves : ForwardTsn → Option InboundStream → Type 0
  Leaves g None = ⊤
  Leaves g (Some l) = Every (λ c. at_or_before c.tsn g.new_cumulative_tsn ≡ true → P c) l.queue.held.unassembled

  -- by it no stream with the number is closed or reset; a chunk that is taken fits; and what a FORWARD-TSN takes out is lost
  abbrev pub Fits : receiver_runs.Call → Option InboundStream → Type 0
  Fits (receiver_runs.closes s) o = (s == st) ≡ false
  Fits (receiver_runs.resets s last) o = (s == st) ≡ false
  Fits (receiver_runs.takes c (New said)) o = Puts c said o
  Fits (receiver_runs.forwards g) o = Leaves g o
  Fits (receiver_runs.forwards_by_names g) o = ⊥
  Fits call o = ⊤

  module _ (kept : IsKeptByCalls L) where
    module _ (old new : Stand) (i : IsEven old) where
      abbrev r : Reception
      r = old.receiver

      abbrev now : Option InboundStream
      now = stream_of st new.receiver

      -- what is lost stays so
      made-of : IsSo st IsLight Sorted i.lost new → IsEven new
      made-of x = record { lost = i.lost; spent = i.spent; so = x }

      still : new.accepted ≡ old.accepted → new.read ≡ old.read → now ≡ stream_of st r → IsEven new
      still a e same = made-of (streams.still st IsLight Sorted i.lost old new i.so a e same)

      taken : (c : ChunkPayloadData) (said : Bool) → Puts c said (stream_of st r) → Accepts c said r new.receiver → new.accepted ≡ c ∷ old.accepted
          → new.read ≡ old.read → IsEven new
      taken c said put acc a e = made-of (streams.taken st IsLight Sorted i.lost old new i.so c said acc (λ on there.
          let h = subst Sorted there i.so.holds in
          record {
            weighs = λ w v. pushed-weighs c said acc.stream.queue acc.queue acc.pushed h.0 w v;
            holds = grind (arith, nat_tests, common_steps, pushed-sorted);
          }) a e)

      -- a FORWARD-TSN comes
      module _ (g : ForwardTsn) where
        abbrev t : ℕ
        t = g.new_cumulative_tsn

        abbrev goes : ChunkPayloadData → Bool
        goes x = at_or_before x.tsn t

        forwards : Leaves g (stream_of st r) → new.receiver ≡ after_forward_tsn g r → new.accepted ≡ old.accepted → new.read ≡ old.read
            → IsEven new
        forwards left f a e = by-test (is_stale g r)
            (λ s. still a e (ap (stream_of st)
            (stale-same 0 st 0 (λ k. 0) (λ k. false) (λ c. ⊤) (omega arith) (λ j k le. omega arith) g old new f s)))
            (λ s. by (stream_of st r) refl (found-after 0 st 0 (λ k. 0) (λ k. false) (λ c. ⊤) (omega arith) (λ j k le. omega arith) g old new f s))
          where
            by : (o : Option InboundStream) → stream_of st r ≡ o
                → now ≡ option_map (λ l. incomplete_forwarded t (unassembled_forwarded t (stream_forwarded g.streams l))) o → IsEven new
            by None is to = still a e (to ∙ sym is)
            by (Some l) is to =
                let h = subst Sorted is i.so.holds in
                let x = named (ssns_of l.queue.si g.streams) l.queue h.0 in
                let q = (skipped_each (ssns_of l.queue.si g.streams) l.queue).held in
                let after = every-passing (λ (s : ChunkSet). Every IsOrdered s.chunks) (λ s. not (cannot_complete t s)) q.ordered x.ordered in
                record {
                  lost = leading goes l.queue.held.unassembled ++ i.lost;
                  spent = every-joined P (leading goes l.queue.held.unassembled) i.lost
                      (each-leading P goes l.queue.held.unassembled (subst (Leaves g) is left)) i.spent;
                  so = record {
                    weighs = λ w k.
                        let none = sets-light w k _ after in
                        let some = sets-light w k l.queue.held.ordered h.0 in
                        let us = ap (sum_by (set_weight w)) x.unordered in
                        let left = ap (λ xs. sum_by w (after_leading goes xs)) x.unassembled in
                        omega (
                          arith,
                          i.so.weighs w k,
                          ap (λ cs. sum_by w (filter (is_on st) cs)) a,
                          ap (λ ms. sum_by w (fragments_read st ms)) e,
                          ap (held_weight w) to,
                          ap (held_weight w) is,
                          none,
                          some,
                          us,
                          left,
                          leading-split goes w l.queue.held.unassembled,
                          sum_by-append w (leading goes l.queue.held.unassembled) i.lost,
                        );
                    holds = subst Sorted (sym to) (
                      after,
                      kept.alike (held_after_unordered_skip t q) (held_after_incomplete_skip t (held_after_unordered_skip t q)) refl refl
                          (kept.left t q (kept.alike l.queue.held q x.unordered x.unassembled h.1)),
                    );
                  };
                }

    -- ## Each call

    pub step : (c : receiver_runs.Call) (old new : Stand) → are_apart (numbers_of old.receiver.streams) ≡ true → Fits c (stream_of st old.receiver)
        → receiver_runs.Follows c old new → IsEven old → IsEven new
    step (receiver_runs.opens stream) old new apart k f i =
        made-of old new i (streams.opened st IsLight Sorted i.lost old new i.so stream f.receiver.1 f.accepted f.read
        (λ e. (tt, kept.fresh stream old.receiver.max_message_size)))
    step (receiver_runs.closes s) old new apart k f i =
        still old new i f.accepted f.read (ap (stream_of st) f.receiver ∙ others-left s st k old.receiver.streams apart)
    step (receiver_runs.resets s last) old new apart k f i =
        still old new i f.accepted f.read (ap (stream_of st) f.receiver ∙ changed-elsewhere s (stream_reset last) (λ l h. refl) old.receiver.streams st k)
    step (receiver_runs.takes c (New said)) old new apart k f i = taken old new i c said k f.receiver f.accepted f.read
    step (receiver_runs.discards t) old new apart k f i = grind (arith, nat_tests, common_steps)
    step (receiver_runs.reads stream) old new apart k f i =
        made-of old new i (streams.reads st IsLight Sorted i.lost old new i.so stream f.receiver f.accepted f.read (λ l e.
        let h = subst Sorted e i.so.holds in
        (read-sets (λ (x : ChunkSet). Every IsOrdered x.chunks) l.queue.held h.0, kept.read l.queue.held h.1)))
    step (receiver_runs.forwards g) old new apart k f i = forwards old new i g k f.receiver f.accepted f.read
    step (receiver_runs.forwards_by_names g) old new apart k f i = absurd k
    step c old new apart k f i = still old new i f.accepted f.read (ap (stream_of st) f.receiver)

-- where more is said
pub even-of : (st : ℕ) (P Q : ChunkPayloadData → Type 0) (L M : Reassembly → Type 0) (s : Stand)
    → ((c : ChunkPayloadData) → P c → Q c) → ((q : Reassembly) → L q → M q) → IsEven st P L s → IsEven st Q M s
even-of st P Q L M s f g i = grind (arith, nat_tests, common_steps, every-of)
