-- A call of the receiver, but a FORWARD-TSN, by what it makes of one stream: what was taken there is held or was read, but for what is lost.
use Rattle.sctp_delivery.proofs.Names.{common_steps, nat_tests, ◌≡◌, ℕ, ◌+◌, Bool, true, false, List, [], ◌∷◌, Option, Some, None, refl, ap, sym, subst, ◌∙◌}
use Rattle.sctp_delivery.proofs.Names.{arith, ⊤, ◌==◌, find, if◌then◌else◌, option_map, ◌&&◌, filter, list_any, sum_by, list_all, eq-eqb, find-append}
use Rattle.sctp_delivery.proofs.Names.{change_where, same-is, negated, not_both, both, ChunkPayloadData, New, InboundStream, new_stream, number, stream_read}
use Rattle.sctp_delivery.proofs.Names.{with_queue, Pushes, Accepts, Reception, message_on, stream_of, Stand, fragments_read, held_weight, pushed-number}
use Rattle.sctp_delivery.proofs.Names.{set_weight, found-passes, has_tsn, is_on, ReceiverCall, ReceiverFollows, Session, Call, RunsTo, SenderFollows, at_start}
use Rattle.sctp_delivery.proofs.Names.{of_receiver, of_sender, sum_by-append, sum_by-cons, sum_by-inserted, ChunkSet, data_of, BecomesComplete, Reassembly}
use Rattle.sctp_delivery.proofs.Names.{ReassemblyState, is_ssn_too_far, is_too_far_on, AfterEachReliableSession, fragments_of_sets, fragments_on, is_reliable}
use Rattle.sctp_delivery.proofs.Names.{is_reliable_at_receiver, is_reliable_at_sender, Limits, are_apart, data_chunk}
use Rattle.std.specs.Prelude.{not}
use Rattle.sctp_receiver.specs.Inbound.{has_number}
use Rattle.sctp_receiver.specs.Receiver.{after_read, open_stream}
use Rattle.sctp_receiver.specs.ReceiverRuns as receiver_runs
use Rattle.sctp_receiver.proofs.Handed.{found-changed, read-more, taken-more}
use Rattle.sctp_receiver.proofs.Weights as weights
use Rattle.sctp_receiver.proofs.Weights.{message_weight}
use Rattle.sctp_delivery.specs.ReceiverCalls as incoming
use Rattle.sctp_delivery.proofs.ReadOnce.{none-count, one, count-none}
use Rattle.sctp_delivery.specs.Complete.{IsHeldOrRead}
use Rattle.sctp_delivery.proofs.Every.{Every, every-contained}
use Rattle.sctp_delivery.proofs.KeptSets.{IsInTurn, IsNear, near-of, put-in, put-in-turn, read-in-turn, sets-more}
use Rattle.sctp_delivery.proofs.OrderedMessages.{not-far}
use Rattle.sctp_delivery.proofs.SackLaws as sacks
use Rattle.sctp_delivery.proofs.ShortNumbers.{AreShort, IsShort, IsShortMade, made-short, stays-short}
use Rattle.sctp_delivery.proofs.TakenCalls.{fresh-new}

-- ## Streams by their numbers

module _ (s : ℕ) (f : InboundStream → InboundStream) (keeps : (l : InboundStream) → has_number s l ≡ true → number (f l) ≡ number l)
    (ls : List InboundStream) (st : ℕ) where
  pub changed-here : (s == st) ≡ true → find (has_number st) (change_where (has_number s) f ls) ≡ option_map f (find (has_number st) ls)
  changed-here e = grind (arith, nat_tests, common_steps, found-changed, same-is, found-passes)

  pub changed-elsewhere : (s == st) ≡ false → find (has_number st) (change_where (has_number s) f ls) ≡ find (has_number st) ls
  changed-elsewhere differ = grind (arith, nat_tests, common_steps, found-changed, not_both, eq-eqb, same-is, found-passes)

-- a property of what the stream is, after a chunk is accepted
pub accepted-on : (c : ChunkPayloadData) (said : Bool) (old new : Reception) (a : Accepts c said old new) (st : ℕ) (Q : Option InboundStream → Type 0)
    → (is_on st c ≡ false → Q (stream_of st old)) → (is_on st c ≡ true → stream_of st old ≡ Some a.stream → Q (Some (with_queue a.queue a.stream)))
    → Q (stream_of st new)
accepted-on c said old new a st Q off on = grind (arith, nat_tests, common_steps, same-is, changed-here, changed-elsewhere, pushed-number, found-passes)

-- ## Its chunks, weighed

-- each of these calls
abbrev pub IsOther : ReceiverCall → Type 0
IsOther (incoming.follows g) = ⊥
IsOther call = ⊤

-- any weight of chunks
abbrev pub AnyWeight : (ChunkPayloadData → ℕ) → Type 0
AnyWeight w = ⊤

-- W: how chunks are weighed; P: what is so of the stream
module _ (st : ℕ) (W : (ChunkPayloadData → ℕ) → Type 0) (P : Option InboundStream → Type 0) where
  -- so much more is held
  pub record IsMore (more : (ChunkPayloadData → ℕ) → ℕ) (old new : Option InboundStream) : Type 0 where
    pub weighs : (w : ChunkPayloadData → ℕ) → W w → held_weight w new ≡ more w + held_weight w old
    pub holds : P new

  same-more : (o : Option InboundStream) → P o → IsMore (λ w. 0) o o
  same-more o h = record { weighs = λ w v. omega arith; holds = h }

  -- however chunks are weighed so: those that were taken weigh as much as those that were read, those that are held, and those that are lost
  pub record IsSo (lost : List ChunkPayloadData) (s : Stand) : Type 0 where
    pub weighs : (w : ChunkPayloadData → ℕ) → W w → sum_by w (filter (is_on st) s.accepted)
        ≡ sum_by w (fragments_read st s.read) + held_weight w (stream_of st s.receiver) + sum_by w lost
    pub holds : P (stream_of st s.receiver)

  -- none of what is held has a TSN that was not taken
  pub none-held : (lost : List ChunkPayloadData) (s : Stand) → IsSo lost s → (t : ℕ) → W (one t) → list_any (has_tsn t) s.accepted ≡ false
      → held_weight (one t) (stream_of st s.receiver) ≡ 0
  none-held lost s k t v e =
      omega (arith, k.weighs (one t) v, weights.fewer (one t) (one t) (is_on st) s.accepted, none-count t s.accepted e)

  module _ (lost : List ChunkPayloadData) (old new : Stand) (k : IsSo lost old) where
    abbrev r : Reception
    r = old.receiver

    abbrev now : Option InboundStream
    now = stream_of st new.receiver

    quiet : new.accepted ≡ old.accepted → new.read ≡ old.read → IsMore (λ w. 0) (stream_of st r) now → IsSo lost new
    quiet a e m = grind (arith, nat_tests, common_steps)

    pub still : new.accepted ≡ old.accepted → new.read ≡ old.read → now ≡ stream_of st r → IsSo lost new
    still a e same = quiet a e (subst (IsMore (λ w. 0) (stream_of st r)) (sym same) (same-more (stream_of st r) k.holds))

    pub opened : (stream : ℕ) → new.receiver ≡ open_stream stream r → new.accepted ≡ old.accepted → new.read ≡ old.read
        → (stream_of st r ≡ None → P (Some (new_stream stream r.max_message_size))) → IsSo lost new
    opened stream f a e fresh = grind (arith, nat_tests, common_steps, find-append, same-more)

    -- the chunk is put into its queue
    abbrev pub Puts : (c : ChunkPayloadData) (said : Bool) → Accepts c said r new.receiver → Type 0
    Puts c said acc = is_on st c ≡ true → stream_of st r ≡ Some acc.stream → IsMore (λ w. w c) (Some acc.stream) (Some (with_queue acc.queue acc.stream))

    pub taken : (c : ChunkPayloadData) (said : Bool) (acc : Accepts c said r new.receiver) → Puts c said acc → new.accepted ≡ c ∷ old.accepted
        → new.read ≡ old.read → IsSo lost new
    taken c said acc put a e = record {
      weighs = λ w v.
          let h = k.weighs w v in
          let m = more.weighs w v in
          let t = taken-more w st c old.accepted (is_on st c) refl in
          omega (arith, h, m, t, ap (λ cs. sum_by w (filter (is_on st) cs)) a, ap (λ ms. sum_by w (fragments_read st ms)) e);
      holds = more.holds;
    }
      where
        After : Bool → Option InboundStream → Type 0
        After b o = IsMore (λ w. if b then w c else 0) (stream_of st r) o

        more : After (is_on st c) now
        more = accepted-on c said r new.receiver acc st (After (is_on st c))
            (λ f. subst (λ b. After b (stream_of st r)) (sym f) (same-more (stream_of st r) k.holds))
            (λ f there. subst (λ b. After b (Some (with_queue acc.queue acc.stream))) (sym f)
            (subst (λ o. IsMore (λ w. w c) o (Some (with_queue acc.queue acc.stream))) (sym there) (put f there)))

    pub reads : (stream : ℕ) → new.receiver ≡ after_read stream r → new.accepted ≡ old.accepted
        → new.read ≡ receiver_runs.with_message stream (message_on stream r) old.read
        → ((l : InboundStream) → stream_of st r ≡ Some l → P (Some (stream_read l))) → IsSo lost new
    reads stream f a g read = record {
      weighs = grind (arith, nat_tests, common_steps, less, read-more);
      holds = less.1;
    }
      where
        Less : Bool → Option InboundStream → Type 0
        Less b o = ((w : ChunkPayloadData → ℕ) → (if b then message_weight w (message_on stream r) else 0) + held_weight w o ≡ held_weight w (stream_of st r))
            × P o

        by : (b : Bool) → (stream == st) ≡ b → Less b (stream_of st (after_read stream r))
        by h0 h1 = grind (arith, nat_tests, common_steps, changed-elsewhere, changed-here, same-is)

        less : Less (stream == st) now
        less = subst (λ (q : Reception). Less (stream == st) (stream_of st q)) (sym f) (by (stream == st) refl)

  pub after-call : (lost : List ChunkPayloadData) (old new : Session) (k : IsSo lost old.receiving) (call : ReceiverCall) → IsOther call
      → ReceiverFollows call old new
      → ((stream : ℕ) → stream_of st old.receiving.receiver ≡ None → P (Some (new_stream stream old.receiving.receiver.max_message_size)))
      → ((c : ChunkPayloadData) (said : Bool) → call ≡ incoming.takes c (New said) → (f : ReceiverFollows (incoming.takes c (New said)) old new)
      → Puts lost old.receiving new.receiving k c said f.step.receiver)
      → ((l : InboundStream) → stream_of st old.receiving.receiver ≡ Some l → P (Some (stream_read l))) → IsSo lost new.receiving
  after-call lost old new k (incoming.opens stream) o f fresh put read =
      opened lost old.receiving new.receiving k stream f.step.receiver.1 f.step.accepted f.step.read (fresh stream)
  after-call lost old new k (incoming.takes c (New said)) o f fresh put read =
      taken lost old.receiving new.receiving k c said f.step.receiver (put c said refl f) f.step.accepted f.step.read
  after-call lost old new k (incoming.follows g) o f fresh put read = absurd o
  after-call lost old new k (incoming.reads stream) o f fresh put read =
      reads lost old.receiving new.receiving k stream f.step.receiver f.step.accepted f.step.read read
  after-call lost old new k call o f fresh put read =
      still lost old.receiving new.receiving k f.step.accepted f.step.read (ap (stream_of st) f.step.receiver)

-- # In a reliable session nothing that was taken is dropped: it is held, or it was read.

-- ## What a stream holds

abbrev pub InTurn : Option InboundStream → Type 0
InTurn None = ⊤
InTurn (Some l) = IsInTurn l.queue.held

-- ## A fragment comes

-- no fragment of a set has the TSN
pub sets-fresh : (t : ℕ) (ss : List ChunkSet) → sum_by (set_weight (one t)) ss ≡ 0 → Every (λ (s : ChunkSet). list_any (has_tsn t) s.chunks ≡ false) ss
sets-fresh t [] e = tt
sets-fresh t (s ∷ ss) e =
    let m = sum_by-cons (set_weight (one t)) s ss in
    (count-none t s.chunks (omega (arith, m, e)), sets-fresh t ss (omega (arith, m, e)))

unordered-turn : (xs : List ChunkPayloadData) (old new : Reassembly) (answered : Bool) → BecomesComplete xs old new answered → IsInTurn old → IsInTurn new
unordered-turn xs old new true b t = subst IsInTurn (sym b.moved) (record { index = t.index; next = t.next; rise = t.rise })
unordered-turn xs old new false b t = subst IsInTurn (sym b.1) (record { index = t.index; next = t.next; rise = t.rise })

pushed : (st : ℕ) (c : ChunkPayloadData) (answered : Bool) (l : InboundStream) (new : ReassemblyState) → Pushes c answered l.queue new
    → (t : IsInTurn l.queue.held) → (c.unordered ≡ false → IsNear t.index c.stream_sequence_number)
    → Every (λ (s : ChunkSet). list_any (has_tsn c.tsn) s.chunks ≡ false) l.queue.held.ordered
    → IsMore st AnyWeight InTurn (λ w. w c) (Some l) (Some (with_queue new l))
pushed st c answered l new p t near fresh =
    grind (arith, nat_tests, common_steps, weights.becomes, sum_by-inserted, unordered-turn, sets-more, put-in, put-in-turn)

-- ## The calls

abbrev pub IsKept : ℕ → Stand → Type 0
IsKept st = IsSo st AnyWeight InTurn []

-- no chunk is held with the TSN of one that is taken as new
abbrev pub IsAbsent : ReceiverCall → Session → Type 0
IsAbsent call s =
    (st : ℕ) (c : ChunkPayloadData) (said : Bool) → call ≡ incoming.takes c (New said) → held_weight (one c.tsn) (stream_of st s.receiving.receiver) ≡ 0

kept-on : (call : ReceiverCall) (old new : Session) (st : ℕ) → is_reliable_at_receiver call ≡ true → Every IsShortMade old.made
    → IsAbsent call old → ReceiverFollows call old new → IsKept st old.receiving → IsKept st new.receiving
kept-on call old new st reliable made absent f k =
    after-call st AnyWeight InTurn [] old new k call (other call reliable) f (λ stream e. record { index = 0; next = omega arith; rise = tt }) put
    (λ l e. read-in-turn l.queue.held (subst InTurn e k.holds))
  where
    r : Reception
    r = old.receiving.receiver

    other : (call : ReceiverCall) → is_reliable_at_receiver call ≡ true → IsOther call
    other (incoming.follows g) e = absurd (not_both e)
    other call e = tt

    put : (c : ChunkPayloadData) (said : Bool) → call ≡ incoming.takes c (New said) → (f : ReceiverFollows (incoming.takes c (New said)) old new)
        → Puts st AnyWeight InTurn [] old.receiving new.receiving k c said f.step.receiver
    put c said same f on there =
        let a = f.step.receiver in
        let short : IsShort c = every-contained IsShortMade old.made (data_chunk (data_of c)) f.handed made in
        let near = not-far c r (fresh-new c.tsn said r f.accepted.1) f.accepted.0 in
        let zero = absent st c said same in
        let is = ap (held_weight (one c.tsn)) there in
        let t : IsInTurn a.stream.queue.held = subst InTurn there k.holds in
        let test : (not c.unordered && is_ssn_too_far c.stream_sequence_number a.stream.queue.held) ≡ false = ap (is_too_far_on c) (sym a.found) ∙ near in
        pushed st c said a.stream a.queue a.pushed t
        (λ u. near-of c.stream_sequence_number a.stream.queue.held short t
        (ap (λ b. not b && is_ssn_too_far c.stream_sequence_number a.stream.queue.held) (sym u) ∙ test))
        (sets-fresh c.tsn a.stream.queue.held.ordered (omega (arith, zero, is)))

-- ## Every session

-- what was taken before has TSNs of its own too
apart-then : (call : ReceiverCall) (old new : Session) → ReceiverFollows call old new → are_apart new.receiving.accepted ≡ true
    → are_apart old.receiving.accepted ≡ true
apart-then h0 h1 h2 h3 h4 = grind (arith, nat_tests, common_steps)

pub apart-before : (cs : List Call) (old new : Session) → RunsTo old cs new → are_apart new.receiving.accepted ≡ true → are_apart old.receiving.accepted ≡ true
apart-before [] old new r a = ap (λ (s : Session). are_apart s.receiving.accepted) (sym r) ∙ a
apart-before (of_sender call ∷ cs) old new r a = ap (λ (s : Session). are_apart s.receiving.accepted) (sym r.1.0.after) ∙ apart-before cs r.0 new r.1.1 a
apart-before (of_receiver call ∷ cs) old new r a = apart-then call old r.0 r.1.0 (apart-before cs r.0 new r.1.1 a)

pub record IsKeptIn (s : Session) : Type 0 where
  pub kept : (st : ℕ) → IsKept st s.receiving
  pub short : AreShort s.sending.sender
  pub made : Every IsShortMade s.made

pub sender-kept : (call : _) (old new : Session) → is_reliable_at_sender call ≡ true → SenderFollows call old new → IsKeptIn old → IsKeptIn new
sender-kept call old new r f k = grind (arith, nat_tests, common_steps, stays-short, made-short)

-- where what was taken has TSNs of its own
apart-absent : (call : ReceiverCall) (old new : Session) → are_apart new.receiving.accepted ≡ true → ReceiverFollows call old new → IsKeptIn old
    → IsAbsent call old
apart-absent call old new apart g k st c said is =
    let f = subst (λ d. ReceiverFollows d old new) is g in
    let all = subst (λ cs. are_apart cs ≡ true) f.step.accepted apart in
    let none = negated (list_any (has_tsn c.tsn) old.receiving.accepted)
    (both (not (list_any (has_tsn c.tsn) old.receiving.accepted)) (are_apart old.receiving.accepted) all).0 in
    none-held st AnyWeight InTurn [] old.receiving (k.kept st) c.tsn tt none

pub receiver-kept : (call : ReceiverCall) (old new : Session) → is_reliable_at_receiver call ≡ true → IsAbsent call old
    → ReceiverFollows call old new → IsKeptIn old → IsKeptIn new
receiver-kept call old new r absent f k = grind (arith, nat_tests, common_steps, kept-on)

kept-after : (cs : List Call) (old new : Session) → list_all is_reliable cs ≡ true → are_apart new.receiving.accepted ≡ true → RunsTo old cs new
    → IsKeptIn old → IsKeptIn new
kept-after [] old new all apart r k = subst IsKeptIn (sym r) k
kept-after (of_sender call ∷ cs) old new all apart r k =
    let b = both (is_reliable_at_sender call) (list_all is_reliable cs) all in
    kept-after cs r.0 new b.1 apart r.1.1 (sender-kept call old r.0 b.0 r.1.0 k)
kept-after (of_receiver call ∷ cs) old new all apart r k =
    let b = both (is_reliable_at_receiver call) (list_all is_reliable cs) all in
    kept-after cs r.0 new b.1 apart r.1.1 (receiver-kept call old r.0 b.0 (apart-absent call old r.0 (apart-before cs r.0 new r.1.1 apart) r.1.0 k) r.1.0 k)

-- ## The law

sets-weigh : (w : ChunkPayloadData → ℕ) (ss : List ChunkSet) → sum_by w (fragments_of_sets ss) ≡ sum_by (set_weight w) ss
sets-weigh w [] = refl
sets-weigh w (s ∷ ss) =
    omega (arith, sum_by-append w s.chunks (fragments_of_sets ss), sum_by-cons (set_weight w) s ss, sets-weigh w ss)

pub held-weighs : (w : ChunkPayloadData → ℕ) (o : Option InboundStream) → sum_by w (fragments_on o) ≡ held_weight w o
held-weighs h0 h1 = grind (arith, nat_tests, common_steps, sum_by-append, sets-weigh)

pub kept-first : (tsn size max most : ℕ) (limits : Option Limits) → IsKeptIn (at_start tsn size max most limits)
kept-first tsn size max most limits = grind (arith, nat_tests, common_steps)

pub kept : AfterEachReliableSession (λ size s. (st : ℕ) → IsKept st s.receiving)
kept tsn size max most limits cs s run small few all = grind (arith, nat_tests, common_steps, sacks.none-twice, kept-after, kept-first)

pub of-kept : (s : Session) → ((st : ℕ) → IsKept st s.receiving) → IsHeldOrRead s
of-kept s k st w = omega (arith, (k st).weighs w tt, held-weighs w (stream_of st s.receiving.receiver))

pub held-or-read : AfterEachReliableSession (λ size s. IsHeldOrRead s)
held-or-read tsn size max most limits cs s run small few all = of-kept s (kept tsn size max most limits cs s run small few all)
