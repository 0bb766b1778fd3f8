-- A caller of two associations: its calls are moves of the two, one after another, and what these deliver.
use Rattle.std.proofs.Common.{◌≡◌, ℕ, ◌+◌, ◌<◌, Bool, true, false, List, [], ◌∷◌, ◌++◌, length, map, Option, Some, None, refl, ap, sym, subst, ◌∙◌, arith}
use Rattle.std.proofs.Math.Seq.{take-length}
use Rattle.std.proofs.lemmas.List.{replicate-append-replicate, take_more}
use Rattle.std.specs.Prelude.{All, Contains, Err, Ok, OnErr, Result, option_map, slice_index_or, take, ⊤}
use Rattle.sctp_association.proofs.PairOrder.{all-same, read-more, written-more}
use Rattle.sctp_association.proofs.Links.{each-link-delivers, each-link-is-cut}
use Rattle.sctp_association.specs.declared.association.Association.{Association}
use Rattle.sctp_association.specs.HostCalls.{ActsEach, Leads, Log, host_of, sent_of}
use Rattle.sctp_association.specs.Hosts.{Act, ArePlainMoves, Host, Hosts, Move, MovesTo, Way, first_host, handles, hosts, one_acts, other_acts, polls}
use Rattle.sctp_association.specs.Links.{AreInOrder, AreLinked, IsReadAsWritten, Party, host_at, party}
use Rattle.sctp_association.specs.Pairs.{Comes, Delivers, DeliversOne, Exchanges, IsPlainSince, Led, Transfers, acts_of_write, answer_of, answered, comes}
use Rattle.sctp_association.specs.Pairs.{passes}
use Rattle.sctp_association.specs.Pairs.{read_each, write_of, written_each}
use Rattle.sctp_data.specs.ChunkSet.{ChunkSet}
use Rattle.sctp_data.specs.declared.chunk.chunk_payload_data.PayloadProtocolIdentifier.{PayloadProtocolIdentifier}
use Rattle.sctp_delivery.specs.SenderCalls.{Write, writes, written_after}
use Rattle.sctp_reassembly.specs.declared.reassembly_queue.chunks.Chunks.{Chunks}
use Rattle.sctp_reassembly.specs.reassembly_queue.ReassemblyQueue.{at_start}
use Rattle.sctp_receiver.specs.ReceiverRuns.{Message}

-- ## What is so at a refusal

pub where-refused : {T E P : Type 0} (r : Result T E) → P → OnErr r P
where-refused (Ok x) p = tt
where-refused (Err e) p = p

-- ## Moves one after another

pub then-moves : (ms ns : List Move) (h i j : Hosts) → MovesTo h ms i → MovesTo i ns j → MovesTo h (ms ++ ns) j
then-moves [] ns h i j r s = subst (λ (k : Hosts). MovesTo k ns j) r s
then-moves (m ∷ ms) ns h i j r s = (r.0, (r.1.0, then-moves ms ns r.0 i j r.1.1 s))

-- acts of the one, and of the other
pub one-acting : (acts : List Act) (x y z : Host) → ActsEach z.sent acts x y → MovesTo (hosts x z) (map one_acts acts) (hosts y z)
one-acting [] x y z done = ap (λ (k : Host). hosts k z) done
one-acting (act ∷ acts) x y z done = (hosts done.0 z, ((done.1.0, refl), one-acting acts done.0 y z done.1.1))

pub other-acting : (acts : List Act) (x y z : Host) → ActsEach z.sent acts x y → MovesTo (hosts z x) (map other_acts acts) (hosts z y)
other-acting [] x y z done = ap (λ (k : Host). hosts z k) done
other-acting (act ∷ acts) x y z done = (hosts z done.0, ((done.1.0, refl), other-acting acts done.0 y z done.1.1))

-- the two change places
abbrev turned-move : Move → Move
turned-move (one_acts act) = other_acts act
turned-move (other_acts act) = one_acts act

abbrev turned : Hosts → Hosts
turned h = hosts h.other h.one

turned-moves : (ms : List Move) (h i : Hosts) → MovesTo h ms i → MovesTo (turned h) (map turned-move ms) (turned i)
turned-moves [] h i r = ap turned r
turned-moves (one_acts act ∷ ms) h i r = (turned r.0, (r.1.0, turned-moves ms r.0 i r.1.1))
turned-moves (other_acts act ∷ ms) h i r = (turned r.0, (r.1.0, turned-moves ms r.0 i r.1.1))

-- ## How two were led

pub led-none : (a b : Party) → Led a b a b
led-none a b = record { moves = []; run = refl }

pub led-then : (a b c d e f : Party) → Led a b c d → Led c d e f → Led a b e f
led-then a b c d e f x y = record {
  moves = x.moves ++ y.moves;
  run = then-moves x.moves y.moves (hosts (host_at a) (host_at b)) (hosts (host_at c) (host_at d)) (hosts (host_at e) (host_at f)) x.run y.run;
}

pub led-back : (a b c d : Party) → Led a b c d → Led b a d c
led-back a b c d x = record {
  moves = map turned-move x.moves;
  run = turned-moves x.moves (hosts (host_at a) (host_at b)) (hosts (host_at c) (host_at d)) x.run;
}

pub led-one : (acts : List Act) (old new : Association) (l k : Log) (z : Party) → Leads old l acts new k → Led (party old l) z (party new k) z
led-one acts old new l k z done = record { moves = map one_acts acts; run = one-acting acts (host_of old l) (host_of new k) (host_at z) (done z.log.sent) }

pub led-other : (acts : List Act) (old new : Association) (l k : Log) (z : Party) → Leads old l acts new k → Led z (party old l) z (party new k)
led-other acts old new l k z done =
    record { moves = map other_acts acts; run = other-acting acts (host_of old l) (host_of new k) (host_at z) (done z.log.sent) }

-- ## What is read

pub is-answered : (o : Option Chunks) (m : Option ChunkSet) → o ≡ option_map at_start m → m ≡ option_map (λ c. c.set) o
is-answered o m e = by m ∙ sym (ap (option_map (λ (c : Chunks). c.set)) e)
  where
    by : (m : Option ChunkSet) → m ≡ option_map (λ (c : Chunks). c.set) (option_map at_start m)
    by None = refl
    by (Some set) = refl

-- ## A datagram comes

pub none-came : (datagram : List ℕ) (a : Association) → Comes datagram 0 a a
none-came datagram a z m own = refl

pub one-came : (datagram : List ℕ) (n : ℕ) (a b c : Association) → Comes datagram n a b
    → ((l : Log) (peer : List (List ℕ)) → Contains peer datagram → ActsEach peer (handles datagram ∷ []) (host_of b l) (host_of c l))
    → Comes datagram (n + 1) a c
one-came datagram n a b c before one z m own =
    subst (λ (ms : List Move). MovesTo (hosts z (host_of a m)) ms (hosts z (host_of c m))) (replicate-append-replicate n 1 (other_acts (handles datagram)))
    (then-moves (comes n datagram) (other_acts (handles datagram) ∷ []) (hosts z (host_of a m)) (hosts z (host_of b m))
    (hosts z (host_of c m)) (before z m own) (other-acting (handles datagram ∷ []) (host_of b m) (host_of c m) z (one m z.sent own)))

-- ## A datagram is passed

module _ (a p b : Association) where
  -- the one asks for a datagram
  abbrev pub Polls : Bool → Type 0
  Polls is_sent = (l : Log) → Leads a l (polls is_sent p.draft.bytes ∷ []) p (sent_of is_sent p l)

  -- there is none
  pub none-passed : Polls false → (l m : Log)
      → MovesTo (hosts (host_of a l) (host_of b m)) (one_acts (polls false p.draft.bytes) ∷ []) (hosts (host_of p l) (host_of b m))
  none-passed polled l m = one-acting (polls false p.draft.bytes ∷ []) (host_of a l) (host_of p l) (host_of b m) (polled l m.sent)

  -- it comes so many times
  pub passed : (times : ℕ) (q : Association) → Polls true → Comes p.draft.bytes times b q → (l m : Log)
      → MovesTo (hosts (host_of a l) (host_of b m)) (passes true times p.draft.bytes) (hosts (host_of p (sent_of true p l)) (host_of q m))
  passed times q polled came l m =
      let sent = host_of p (sent_of true p l) in
      let own : Contains (p.draft.bytes ∷ l.sent) p.draft.bytes = (0, omega arith, refl) in
      then-moves (one_acts (polls true p.draft.bytes) ∷ []) (comes times p.draft.bytes) (hosts (host_of a l) (host_of b m))
      (hosts sent (host_of b m)) (hosts sent (host_of q m)) (one-acting (polls true p.draft.bytes ∷ []) (host_of a l) sent (host_of b m) (polled l m.sent))
      (came sent m own)

  -- the one alone wrote datagrams
  pub by-moves : (is_sent : Bool) (q : Association) (ms : List Move) (l m : Log)
      → MovesTo (hosts (host_of a l) (host_of b m)) ms (hosts (host_of p (sent_of is_sent p l)) (host_of q m)) → Exchanges a b p q l m
  by-moves is_sent q ms l m run = record { one_sent = (sent_of is_sent p l).sent; other_sent = m.sent; led = record { moves = ms; run = run } }

  pub by-poll : (is_sent : Bool) → Polls is_sent → (l m : Log) → Exchanges a b p b l m
  by-poll is_sent polled l m =
      by-moves is_sent b (one_acts (polls is_sent p.draft.bytes) ∷ []) l m
      (one-acting (polls is_sent p.draft.bytes ∷ []) (host_of a l) (host_of p (sent_of is_sent p l)) (host_of b m) (polled l m.sent))

-- ## Datagrams are passed both ways

pub none-exchanged : (a b : Association) (l m : Log) → Exchanges a b a b l m
none-exchanged a b l m = record { one_sent = l.sent; other_sent = m.sent; led = led-none (party a l) (party b m) }

pub exchanged-then : (a b c d e f : Association) → ((l m : Log) → Exchanges a b c d l m) → ((l m : Log) → Exchanges c d e f l m) → (l m : Log)
    → Exchanges a b e f l m
exchanged-then a b c d e f first then l m =
    let x = first l m in
    let k : Log = record l { sent = x.one_sent } in
    let n : Log = record m { sent = x.other_sent } in
    let y = then k n in
    record {
      one_sent = y.one_sent;
      other_sent = y.other_sent;
      led =
          led-then (party a l) (party b m) (party c k) (party d n) (party e (record k { sent = y.one_sent })) (party f (record n { sent = y.other_sent })) x.led
          y.led;
    }

pub exchanged-back : (a b c d : Association) → ((l m : Log) → Exchanges a b c d l m) → (m l : Log) → Exchanges b a d c m l
exchanged-back a b c d h m l =
    let x = h l m in
    record {
      one_sent = x.other_sent;
      other_sent = x.one_sent;
      led = led-back (party a l) (party b m) (party c (record l { sent = x.one_sent })) (party d (record m { sent = x.other_sent })) x.led;
    }

-- ## What is delivered

module _ (f b : Way) where
  -- such moves, which are plain where this is given
  record PlainWhere (Given : Type 0) (h : Hosts) (ms : List Move) (j : Hosts) : Type 0 where
    run : MovesTo h ms j
    plain : Given → ArePlainMoves f b h ms j run

  plain-then : (ms ns : List Move) (h i j : Hosts) (r : MovesTo h ms i) (s : MovesTo i ns j)
      → PlainWhere (ArePlainMoves f b h ms i r × ArePlainMoves f b i ns j s) h (ms ++ ns) j
  plain-then [] ns h i j r s =
      subst (λ (k : Hosts). PlainWhere (⊤ × ArePlainMoves f b i ns j s) k ns j) r (record { run = s; plain = λ p. p.1 })
  plain-then (m ∷ ms) ns h i j r s =
      let g = plain-then ms ns r.0 i j r.1.1 s in record { run = (r.0, (r.1.0, g.run)); plain = λ p. (p.0.0, g.plain (p.0.1, p.1)) }

module _ (f b : Way) (x y u v : Party) (led : Led x y u v) (s : IsPlainSince f b x y u v led) where
  all-read : IsReadAsWritten f u v × IsReadAsWritten b v u
  all-read =
      let all = plain-then f b s.link.moves led.moves (hosts (first_host f) (first_host b)) (hosts (host_at x) (host_at y)) (hosts (host_at u) (host_at v))
      s.link.run led.run in
      let link : AreLinked f b u v = record { moves = s.link.moves ++ led.moves; run = all.run } in
      let cut = each-link-is-cut f b u v link in
      let few = s.few in
      let back = s.few_back in
      let one = cut.0 in
      let other = cut.1 in
      each-link-delivers f b u v link (all.plain (s.plain, s.moved)) s.fit.0 s.fit.1 (omega (arith, few, one), omega (arith, few))
      (omega (arith, back, other), omega (arith, back))

-- such moves, and such logs
pub delivering : (ws : List Write) (ms : List Message) (one other next_one next_other : Association) (l m k n : Log)
    → Led (party one l) (party other m) (party next_one k) (party next_other n) → k.written ≡ ws → n.read ≡ ms → k.read ≡ l.read → n.written ≡ m.written
    → Delivers ws ms one other next_one next_other l m
delivering ws ms one other next_one next_other l m k n led written read beside back = record {
  one_log = k;
  other_log = n;
  led = led;
  written = written;
  read = read;
  beside = (beside, back);
  order = λ f b s.
      subst (λ (zs : List Write). AreInOrder zs ms) written
      (subst (λ (zs : List Message). AreInOrder k.written zs) read
      (all-read f b (party one l) (party other m) (party next_one k) (party next_other n) led s).0.order);
}

pub delivered : (stream : ℕ) (ppi : PayloadProtocolIdentifier) (bytes : List ℕ) (message : Option Chunks) (acts : List Act)
    (one wrote next_one other came next_other : Association)
    → ((l : Log) → Leads one l (acts_of_write stream ppi bytes one) wrote (write_of stream ppi bytes one l))
    → ((l m : Log) → Exchanges wrote other next_one came l m)
    → ((l : Log) → Leads came l acts next_other (answer_of stream message l))
    → (l m : Log) → DeliversOne stream ppi bytes message one other next_one next_other l m
delivered stream ppi bytes message acts one wrote next_one other came next_other sent exchanged took l m =
    let k = write_of stream ppi bytes one l in
    let e = exchanged k m in
    let k' : Log = record k { sent = e.one_sent } in
    let m' : Log = record m { sent = e.other_sent } in
    let n = answer_of stream message m' in
    let first = led-one (acts_of_write stream ppi bytes one) one wrote l k (party other m) (sent l) in
    let last = led-other acts came next_other m' n (party next_one k') (took m') in
    delivering _ _ one other next_one next_other l m k' n
    (led-then (party one l) (party other m) (party wrote k) (party other m) (party next_one k') (party next_other n) first
    (led-then (party wrote k) (party other m) (party next_one k') (party came m') (party next_one k') (party next_other n) e.led last)) refl refl refl refl

-- where the message was written, and then memory ran out
pub delivered-none : (stream : ℕ) (ppi : PayloadProtocolIdentifier) (bytes : List ℕ) (one wrote next_one other came : Association)
    → ((l : Log) → Leads one l (acts_of_write stream ppi bytes one) wrote (write_of stream ppi bytes one l))
    → ((l m : Log) → Exchanges wrote other next_one came l m) → (l m : Log)
    → Delivers (written_after (writes stream ppi bytes) l.written) m.read one other next_one came l m
delivered-none stream ppi bytes one wrote next_one other came sent exchanged l m =
    let k = write_of stream ppi bytes one l in
    let e = exchanged k m in
    let k' : Log = record k { sent = e.one_sent } in
    let m' : Log = record m { sent = e.other_sent } in
    let first = led-one (acts_of_write stream ppi bytes one) one wrote l k (party other m) (sent l) in
    delivering _ _ one other next_one came l m k' m'
    (led-then (party one l) (party other m) (party wrote k) (party other m) (party next_one k') (party came m') first e.led) refl refl refl refl

pub delivered-nothing : (one other : Association) (l m : Log) → Delivers l.written m.read one other one other l m
delivered-nothing one other l m = delivering _ _ one other one other l m l m (led-none (party one l) (party other m)) refl refl refl refl

-- ## Messages one after another

module _ (stream : ℕ) (ppi : PayloadProtocolIdentifier) (messages : List (List ℕ)) (one other : Association) where
  -- the first so many were written, and these were read
  abbrev pub DeliversFirst : ℕ → List Chunks → Association → Association → Type 0
  DeliversFirst i read u v =
      (l m : Log) → Delivers (written_each stream ppi (take i messages) l.written) (read_each stream read m.read) one other u v l m

  pub none-first : DeliversFirst 0 [] one other
  none-first l m = delivered-nothing one other l m

  pub one-first : (i : ℕ) (bytes : List ℕ) (message : Chunks) (read : List Chunks) (u v x y : Association) → i < length messages
      → bytes ≡ slice_index_or messages i bytes → DeliversFirst i read u v → ((l m : Log) → DeliversOne stream ppi bytes (Some message) u v x y l m)
      → DeliversFirst (i + 1) (read ++ message ∷ []) x y
  one-first i bytes message read u v x y lt is before one' l m =
      let d = before l m in
      let e = one' d.one_log d.other_log in
      let more : take (i + 1) messages ≡ take i messages ++ bytes ∷ [] =
      take_more messages i bytes lt ∙ ap (λ (b : List ℕ). take i messages ++ b ∷ []) (sym is) in
      delivering _ _ one other x y l m e.one_log e.other_log
      (led-then (party one l) (party other m) (party u d.one_log) (party v d.other_log) (party x e.one_log) (party y e.other_log) d.led e.led)
      (e.written ∙ (ap (written_after (writes stream ppi bytes)) d.written
      ∙ (sym (written-more stream ppi (take i messages) bytes l.written) ∙ ap (λ bs. written_each stream ppi bs l.written) (sym more))))
      (e.read ∙ (ap (answered stream (Some message)) d.read ∙ sym (read-more stream ppi read message m.read))) (e.beside.0 ∙ d.beside.0)
      (e.beside.1 ∙ d.beside.1)

  pub transferred : (read : List Chunks) (u v : Association) → All (λ bytes. 0 < length bytes) messages → length read ≡ length messages
      → DeliversFirst (length messages) read u v → (l m : Log) → Transfers stream ppi messages read one other u v l m
  transferred read u v some many all l m =
      let d = subst (λ bs. Delivers (written_each stream ppi bs l.written) (read_each stream read m.read) one other u v l m) (take-length messages) (all l m)
      in record { delivers = d; same = λ f b s nothing none o. all-same stream ppi messages read l.written m.read nothing none some many o (d.order f b s) }
