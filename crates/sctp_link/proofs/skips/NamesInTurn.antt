-- The names of a FORWARD-TSN that arrives, one after another: what they have for a stream, and what becomes of its queue.
use Rattle.sctp_link.proofs.Names.{◌≡◌, ℕ, ◌≤◌, ◌^◌, ◌%◌, Bool, true, false, List, [], ◌∷◌, map, Some, None, refl, ap, sym, ◌∙◌, if◌then◌else◌, ◌==◌, is_some}
use Rattle.sctp_link.proofs.Names.{slice_get, filter, ReassemblyState, after_ordered_skip, held_after_ordered_skips, LinkRecord, StreamRecord, Forward}
use Rattle.sctp_link.proofs.Names.{message_at, stream_at, is_ordered_on, index_of, ssn_of, cumulative, name_of, refusal_of, shape, Sender, NamesFit}
use Rattle.sctp_link.proofs.Names.{reassembly_of, end_named, ssns_of, skipped_each, Message, State, IsLinked, message_record, progress_of}
use Rattle.sctp_link.proofs.Names.{message_in, pair_in, named_stream, gone_forward, skips-in, named-on}
use Rattle.sctp_data.specs.declared.chunk.chunk_forward_tsn.ChunkForwardTsnStream.{ChunkForwardTsnStream}
use Rattle.sctp_model.specs.declared.event.Event.TheVariants as E
use Rattle.sctp_model.specs.refinement.Naming.{on_stream}
use Rattle.sctp_model.proofs.refinement.skipping.SkipsInTurn.{skips-in-turn}
use Rattle.sctp_link.proofs.upkeep.Facts.{facts}
use Rattle.sctp_link.proofs.skips.SkipComes.{index-is, spans}

-- ## What they have for a stream

-- the pairs that name these messages
abbrev pub pairs_of : LinkRecord → List ℕ → List ChunkForwardTsnStream
pairs_of w names = map named_stream (map (name_of w) names)

pub names-in-turn : (w : LinkRecord) (upto s : ℕ) (names : List ℕ) → Sender (shape w) → NamesFit (shape w) upto names
    → ssns_of s (pairs_of w names) ≡ map (λ n. index_of w n % 2 ^ 16) (on_stream w s names)
names-in-turn w upto s [] sender fit = refl
names-in-turn w upto s (n ∷ ns) sender fit =
    ap (λ b. map (λ (p : ChunkForwardTsnStream). p.sequence) (if b then named_stream (name_of w n) ∷ rest else rest)) (named-on w upto s n sender fit.0)
    ∙ step (is_ordered_on w s n) (names-in-turn w upto s ns sender fit.1)
  where
    rest : List ChunkForwardTsnStream
    rest = filter (λ p. s == p.identifier) (pairs_of w ns)

    ssn : ssn_of w n ≡ index_of w n % 2 ^ 16
    ssn = ap (λ b. (if b then index_of w n else (message_at w n).before) % 2 ^ 16) fit.0.ordered

    step : (b : Bool) → map (λ (p : ChunkForwardTsnStream). p.sequence) rest ≡ map (λ n. index_of w n % 2 ^ 16) (on_stream w s ns)
        → map (λ (p : ChunkForwardTsnStream). p.sequence) (if b then named_stream (name_of w n) ∷ rest else rest) ≡ map (λ n. index_of w n % 2 ^ 16)
        (if b then n ∷ on_stream w s ns else on_stream w s ns)
    step true ih = ap (λ i. i ∷ map (λ (p : ChunkForwardTsnStream). p.sequence) rest) ssn ∙ ap (λ is. index_of w n % 2 ^ 16 ∷ is) ih
    step false ih = ih

-- the pairs that a link makes of its messages are these
pub pairs-are : {sum : List ℕ → ℕ} {x : State} (l : IsLinked sum x) (ms : List Message) → x.recorded.messages ≡ map message_record ms → x.progress
    ≡ map progress_of ms → (upto : ℕ) (names : List ℕ) → NamesFit (shape x.recorded) upto names → map (pair_in ms) names ≡ pairs_of x.recorded names
pairs-are l ms messages_are progress_are upto [] fit = refl
pairs-are {x} l ms messages_are progress_are upto (n ∷ ns) fit =
    let w = x.recorded in
    let stream : (message_in ms n).stream ≡ (message_at w n).stream = ap (λ rs. (message_at (record w { messages = rs }) n).stream) (sym messages_are) in
    let index = index-is l ms messages_are progress_are upto n fit.0 in
    let ssn = ap (λ b. (if b then index_of w n else (message_at w n).before) % 2 ^ 16) fit.0.ordered in
    cc (stream, index, ssn, pairs-are l ms messages_are progress_are upto ns fit.1)

-- ## What becomes of a queue

-- the skips of a FORWARD-TSN, one after another, leave of what is held what they leave of it at once
held-each : (ssns : List ℕ) (q : ReassemblyState) → (skipped_each ssns q).held ≡ held_after_ordered_skips ssns q.held
held-each [] q = refl
held-each (ssn ∷ ssns) q = held-each ssns (after_ordered_skip ssn q)

module _ {sum : List ℕ → ℕ} {x : State} (l : IsLinked sum x) (k upto : ℕ) (names : List ℕ) (none : refusal_of x.recorded (E.Arrive k) ≡ None)
    (e : slice_get x.recorded.network k ≡ Some (Forward upto names)) (counts : cumulative x.recorded ≤ upto) where
  abbrev w : LinkRecord
  w = x.recorded

  -- after each as much is held as after the last one
  pub queue-in-turn : (s : ℕ) (r : StreamRecord) (q : ReassemblyState) → stream_at w s ≡ Some r → q.held ≡ reassembly_of w s
      → (skipped_each (ssns_of s (pairs_of w names)) q).held ≡ gone_forward (end_named w s names) (reassembly_of w s)
  queue-in-turn s r q o held =
      let f = facts l in
      let skips = skips-in (facts l) k upto names e in
      let sp = spans l k upto names none e counts s (ap is_some o) in
      let ssns = names-in-turn w upto s names f.consistent.sender skips.fit in
      cc (held-each (ssns_of s (pairs_of w names)) q, ssns, held, skips-in-turn w s upto names r f.valid.valid skips.made counts o sp.0 sp.1)
