-- What a receiver hands out, in every run of calls.
use Rattle.sctp_receiver.proofs.Names.{◌≡◌, ℕ, ◌+◌, ◌≤◌, Bool, true, false, List, [], ◌∷◌, ◌++◌, Option, Some, None, refl, ap, sym, ◌∙◌, arith, subst, ◌==◌}
use Rattle.sctp_receiver.proofs.Names.{◌&&◌, if◌then◌else◌, find, option_map, option_or, list_all, sum_by, filter, eq-eqb, find-append, sum_by-cons}
use Rattle.sctp_receiver.proofs.Names.{sum_by-append, change_where, same-is, and, both, fails, not_both, ChunkPayloadData, ChunkForwardTsnStream, ChunkSet}
use Rattle.sctp_receiver.proofs.Names.{ForwardTsn, is_complete, ReassemblyState, message_read, New, Repeat, Limits, InboundStream, number, has_number}
use Rattle.sctp_receiver.proofs.Names.{new_stream, with_queue, Pushes, stream_read, ssn_forwarded, named_forwarded, unassembled_forwarded, Reception, filter_of}
use Rattle.sctp_receiver.proofs.Names.{with_filter, stream_of, Accepts, repeat_tsn, after_discard, message_of, message_on, is_stale, follow_forward_tsn}
use Rattle.sctp_receiver.proofs.Names.{after_forward, stream_reset, incomplete_forwarded, without_incomplete, after_forward_tsn, has_come, with_tsn, Call}
use Rattle.sctp_receiver.proofs.Names.{opens, closes, takes, discards, reports, reports_within, reads, resets, forwards, forwards_by_names, Message, Stand}
use Rattle.sctp_receiver.proofs.Names.{with_message, Follows, RunsTo, at_start, is_one_message, is_on}
use Rattle.sctp_receiver.specs.Receiver.{after_read}
use Rattle.sctp_receiver.specs.ReceiverRuns.{AfterEachRun, AreComplete, AreOfOneMessage, WereAccepted}
use Rattle.sctp_receiver.specs.ReceiverRuns.{fragments_read}
use Rattle.sctp_receiver.proofs.Inbounds.{pushed-number}
use Rattle.sctp_receiver.proofs.Weights as weights
use Rattle.sctp_receiver.proofs.Weights.{weight, message_weight}
use Rattle.sctp_receiver.proofs.CompleteMessages.{all_complete, message_complete, pushed-complete, read-complete, rest-complete, reset-complete}
use Rattle.sctp_receiver.proofs.OneMessage.{is_unmixed, message_one, pushed-unmixed, read-one, rest-unmixed, named-unmixed, unassembled-unmixed}
use Rattle.sctp_receiver.proofs.OneMessage.{incomplete-unmixed, reset-unmixed}
use Rattle.sctp_receiver.proofs.Forwarded.{found-mapped}
use Rattle.sctp_receiver.proofs.Closed.{others-left, stays-apart}
use Rattle.sctp_receiver.proofs.Names.{numbers_of}
use Rattle.sctp_receiver.proofs.StreamCosts.{are_apart}
use Rattle.sctp_stream.proofs.Removals.{out-none}
use Rattle.sctp_stream.specs.Numbers.{swapped_out}

-- ## A stream, by its number

found-number : (s : ℕ) (ls : List InboundStream) (x : InboundStream) → find (has_number s) ls ≡ Some x → (number x == s) ≡ true
found-number s [] x e = cc
found-number s (l ∷ ls) x e = by (number l == s) refl e (found-number s ls x)
  where
    by : (b : Bool) → (number l == s) ≡ b → (if b then Some l else find (has_number s) ls) ≡ Some x → (find (has_number s) ls ≡ Some x → (number x == s) ≡ true)
        → (number x == s) ≡ true
    by true h e ih = let same : l ≡ x = cc in ap (λ y. number y == s) (sym same) ∙ h
    by false h e ih = ih e

-- after a change of one stream, which keeps its number
pub found-changed : (s st : ℕ) (f : InboundStream → InboundStream) → ((l : InboundStream) → (number l == s) ≡ true → number (f l) ≡ number l)
    → (ls : List InboundStream)
    → find (has_number st) (change_where (has_number s) f ls) ≡ option_map (λ l. if has_number s l then f l else l) (find (has_number st) ls)
found-changed s st f keeps [] = refl
found-changed s st f keeps (l ∷ ls) = by (number l == s) refl (number l == st) refl (found-changed s st f keeps ls)
  where
    by : (b : Bool) → (number l == s) ≡ b → (c : Bool) → (number l == st) ≡ c
        → find (has_number st) (change_where (has_number s) f ls) ≡ option_map (λ l. if has_number s l then f l else l) (find (has_number st) ls)
        → find (has_number st) ((if b then f l else l) ∷ change_where (has_number s) f ls) ≡ option_map (λ l. if has_number s l then f l else l)
        (if c then Some l else find (has_number st) ls)
    by true h true g ih =
        ap (λ (n : ℕ). if n == st then Some (f l) else find (has_number st) (change_where (has_number s) f ls)) (keeps l h)
        ∙ ap (λ b. if b then Some (f l) else find (has_number st) (change_where (has_number s) f ls)) g ∙ ap (λ b. Some (if b then f l else l)) (sym h)
    by true h false g ih =
        ap (λ (n : ℕ). if n == st then Some (f l) else find (has_number st) (change_where (has_number s) f ls)) (keeps l h)
        ∙ ap (λ b. if b then Some (f l) else find (has_number st) (change_where (has_number s) f ls)) g ∙ ih
    by false h true g ih = ap (λ b. if b then Some l else find (has_number st) (change_where (has_number s) f ls)) g
        ∙ ap (λ b. Some (if b then f l else l)) (sym h)
    by false h false g ih = ap (λ b. if b then Some l else find (has_number st) (change_where (has_number s) f ls)) g ∙ ih

-- ## What a stream holds

abbrev pub held_weight : (ChunkPayloadData → ℕ) → Option InboundStream → ℕ
held_weight w None = 0
held_weight w (Some l) = weight w l.queue.held

-- complete messages are complete, and what is held as one message is of one
abbrev pub is_orderly : ReassemblyState → Bool
is_orderly q = all_complete q.held.unordered && is_unmixed q.si q.held

abbrev pub held_orderly : Option InboundStream → Bool
held_orderly None = true
held_orderly (Some l) = is_orderly l.queue

orderly-both : (q : ReassemblyState) → is_orderly q ≡ true → (all_complete q.held.unordered ≡ true) × (is_unmixed q.si q.held ≡ true)
orderly-both q h = both (all_complete q.held.unordered) (is_unmixed q.si q.held) h

-- no more than before
record IsNoMore (old new : Option InboundStream) : Type 0 where
  weighs : (w : ChunkPayloadData → ℕ) → held_weight w new ≤ held_weight w old
  orderly : held_orderly old ≡ true → held_orderly new ≡ true

same-held : (o : Option InboundStream) → IsNoMore o o
same-held o = record { weighs = λ w. omega arith; orderly = λ h. h }

then-less : (a b c : Option InboundStream) → IsNoMore a b → IsNoMore b c → IsNoMore a c
then-less a b c x y = record { weighs = λ w. let p = x.weighs w in let q = y.weighs w in omega arith; orderly = λ h. y.orderly (x.orderly h) }

-- a stream of which less is held
record Lightens (f : InboundStream → InboundStream) : Type 0 where
  number : (l : InboundStream) → (f l).queue.si ≡ l.queue.si
  weighs : (w : ChunkPayloadData → ℕ) (l : InboundStream) → weight w (f l).queue.held ≤ weight w l.queue.held
  orderly : (l : InboundStream) → is_orderly l.queue ≡ true → is_orderly (f l).queue ≡ true

names-lighten : (ssn : ℕ) → Lightens (ssn_forwarded ssn)
names-lighten ssn = record {
  number = λ l. refl;
  weighs = λ w l. weights.named w ssn l.queue;
  orderly = λ l h. let p = orderly-both l.queue h in and _ _ p.0 (named-unmixed l.queue.si ssn l.queue.held p.1);
}

unassembled-lightens : (tsn : ℕ) → Lightens (unassembled_forwarded tsn)
unassembled-lightens tsn = record {
  number = λ l. refl;
  weighs = λ w l. weights.unassembled w tsn l.queue;
  orderly = λ l h. let p = orderly-both l.queue h in and _ _ p.0 (unassembled-unmixed l.queue.si tsn l.queue.held p.1);
}

incomplete-lightens : (tsn : ℕ) → Lightens (incomplete_forwarded tsn)
incomplete-lightens tsn = record {
  number = λ l. refl;
  weighs = λ w l. weights.incomplete w tsn l.queue;
  orderly = λ l h. let p = orderly-both l.queue h in and _ _ p.0 (incomplete-unmixed l.queue.si tsn l.queue.held p.1);
}

reset-lightens : (last : ℕ) → Lightens (stream_reset last)
reset-lightens last = record {
  number = λ l. refl;
  weighs = λ w l. weights.reset w last l.queue;
  orderly = λ l h. let p = orderly-both l.queue h in and _ _ (reset-complete last l.queue.held p.0) (reset-unmixed l.queue.si last l.queue.held p.1);
}

lighter : (f : InboundStream → InboundStream) (o : Option InboundStream) → Lightens f → IsNoMore o (option_map f o)
lighter f None h = same-held None
lighter f (Some l) h = record { weighs = λ w. h.weighs w l; orderly = λ t. h.orderly l t }

lighter-one : (s : ℕ) (f : InboundStream → InboundStream) (o : Option InboundStream) → Lightens f
    → IsNoMore o (option_map (λ l. if has_number s l then f l else l) o)
lighter-one s f None h = same-held None
lighter-one s f (Some l) h = by (has_number s l)
  where
    by : (b : Bool) → IsNoMore (Some l) (Some (if b then f l else l))
    by true = lighter f (Some l) h
    by false = same-held (Some l)

named-less : (st : ℕ) (names : List ChunkForwardTsnStream) (ls : List InboundStream)
    → IsNoMore (find (has_number st) ls) (find (has_number st) (named_forwarded names ls))
named-less st [] ls = same-held (find (has_number st) ls)
named-less st (n ∷ ns) ls =
    let f = ssn_forwarded n.sequence in
    let h = names-lighten n.sequence in
    let once = subst (IsNoMore (find (has_number st) ls)) (sym (found-changed n.identifier st f (λ l e. h.number l) ls))
    (lighter-one n.identifier f (find (has_number st) ls) h) in
    then-less _ _ _ once (named-less st ns (change_where (has_number n.identifier) f ls))

followed-less : (st : ℕ) (f : ForwardTsn) (r : Reception) → IsNoMore (stream_of st r) (stream_of st (after_forward f r))
followed-less st f r = by (is_stale f r)
  where
    by : (b : Bool) → IsNoMore (stream_of st r) (stream_of st (if b then r else follow_forward_tsn f r))
    by true = same-held (stream_of st r)
    by false =
        let ls = named_forwarded f.streams r.streams in
        then-less _ _ _ (named-less st f.streams r.streams)
        (subst (IsNoMore (find (has_number st) ls)) (sym (found-mapped st (unassembled_forwarded f.new_cumulative_tsn) (λ l. refl) ls))
        (lighter (unassembled_forwarded f.new_cumulative_tsn) (find (has_number st) ls) (unassembled-lightens f.new_cumulative_tsn)))

skipped-less : (st : ℕ) (f : ForwardTsn) (r : Reception) → IsNoMore (stream_of st r) (stream_of st (after_forward_tsn f r))
skipped-less st f r = by (is_stale f r) (followed-less st f r)
  where
    by : (b : Bool) → IsNoMore (stream_of st r) (stream_of st (after_forward f r))
        → IsNoMore (stream_of st r) (stream_of st (if b then r else without_incomplete f.new_cumulative_tsn (after_forward f r)))
    by true less = same-held (stream_of st r)
    by false less =
        let ls = (after_forward f r).streams in
        then-less _ _ _ less
        (subst (IsNoMore (find (has_number st) ls)) (sym (found-mapped st (incomplete_forwarded f.new_cumulative_tsn) (λ l. refl) ls))
        (lighter (incomplete_forwarded f.new_cumulative_tsn) (find (has_number st) ls) (incomplete-lightens f.new_cumulative_tsn)))

reset-less : (st s last : ℕ) (ls : List InboundStream)
    → IsNoMore (find (has_number st) ls) (find (has_number st) (change_where (has_number s) (stream_reset last) ls))
reset-less st s last ls = subst (IsNoMore (find (has_number st) ls)) (sym (found-changed s st (stream_reset last) (λ l e. refl) ls))
    (lighter-one s (stream_reset last) (find (has_number st) ls) (reset-lightens last))

opened-less : (st s max : ℕ) (ls : List InboundStream) → IsNoMore (find (has_number st) ls) (find (has_number st) (ls ++ new_stream s max ∷ []))
opened-less st s max ls =
    subst (IsNoMore (find (has_number st) ls)) (sym (find-append (has_number st) ls (new_stream s max ∷ []))) (by (find (has_number st) ls) (s == st))
  where
    by : (o : Option InboundStream) (b : Bool) → IsNoMore o (option_or o (if b then Some (new_stream s max) else None))
    by None true = record { weighs = λ w. omega arith; orderly = λ h. refl }
    by None false = same-held None
    by (Some l) b = same-held (Some l)

closed-less : (st s : ℕ) (ls : List InboundStream) → are_apart (numbers_of ls) ≡ true
    → IsNoMore (find (has_number st) ls) (find (has_number st) (swapped_out (has_number s) ls))
closed-less st s ls apart = by (s == st) refl
  where
    gone : (o : Option InboundStream) → IsNoMore o None
    gone o = record { weighs = λ w. omega arith; orderly = λ h. refl }

    by : (b : Bool) → (s == st) ≡ b → IsNoMore (find (has_number st) ls) (find (has_number st) (swapped_out (has_number s) ls))
    by true e =
        let none : find (has_number st) (swapped_out (has_number s) ls) ≡ None
        = ap (λ n. find (has_number n) (swapped_out (has_number s) ls)) (sym (same-is s st e)) ∙ out-none (has_number s) ls in
        subst (IsNoMore (find (has_number st) ls)) (sym none) (gone (find (has_number st) ls))
    by false e = subst (IsNoMore (find (has_number st) ls)) (sym (others-left s st e ls apart)) (same-held (find (has_number st) ls))

-- ## What holds of a stream, and of all that was read

record Holds (st : ℕ) (s : Stand) : Type 0 where
  weighs : (w : ChunkPayloadData → ℕ) → sum_by w (fragments_read st s.read) + held_weight w (stream_of st s.receiver) ≤ sum_by w (filter (is_on st) s.accepted)
  orderly : held_orderly (stream_of st s.receiver) ≡ true

record IsValid (s : Stand) : Type 0 where
  holds : (st : ℕ) → Holds st s
  read : AreComplete s
  one : AreOfOneMessage s

-- a call by which no stream holds more, no chunk is taken and none is read
quiet : (old new : Stand) → IsValid old → new.accepted ≡ old.accepted → new.read ≡ old.read
    → ((st : ℕ) → IsNoMore (stream_of st old.receiver) (stream_of st new.receiver)) → IsValid new
quiet old new s a r less = record {
  holds = λ st. record {
    weighs = λ w.
        let h = (s.holds st).weighs w in
        let l = (less st).weighs w in
        let e = ap (λ ms. sum_by w (fragments_read st ms)) r in
        let f = ap (λ cs. sum_by w (filter (is_on st) cs)) a in
        omega arith;
    orderly = (less st).orderly (s.holds st).orderly;
  };
  read = ap (λ ms. list_all (λ m. is_complete m.fragments) ms) r ∙ s.read;
  one = ap (λ ms. list_all (λ m. is_one_message m.fragments) ms) r ∙ s.one;
}

-- ## A chunk is taken

pub taken-more : (w : ChunkPayloadData → ℕ) (st : ℕ) (c : ChunkPayloadData) (cs : List ChunkPayloadData) (b : Bool) → is_on st c ≡ b
    → sum_by w (filter (is_on st) (c ∷ cs)) ≡ (if b then w c else 0) + sum_by w (filter (is_on st) cs)
taken-more w st c cs b e = ap (λ t. sum_by w (if t then c ∷ filter (is_on st) cs else filter (is_on st) cs)) e ∙ by b
  where
    by : (b : Bool) → sum_by w (if b then c ∷ filter (is_on st) cs else filter (is_on st) cs) ≡ (if b then w c else 0) + sum_by w (filter (is_on st) cs)
    by true = sum_by-cons w c (filter (is_on st) cs)
    by false = omega arith

-- of the stream with this number so much more is held, where the chunk is of it
record IsMoreBy (c : ChunkPayloadData) (b : Bool) (old new : Option InboundStream) : Type 0 where
  weighs : (w : ChunkPayloadData → ℕ) → held_weight w new ≤ (if b then w c else 0) + held_weight w old
  orderly : held_orderly old ≡ true → held_orderly new ≡ true

no-less : (c : ChunkPayloadData) (b : Bool) (o : Option InboundStream) → IsMoreBy c b o o
no-less c true o = record { weighs = λ w. omega arith; orderly = λ h. h }
no-less c false o = record { weighs = λ w. omega arith; orderly = λ h. h }

pushed-orderly : (c : ChunkPayloadData) (answered : Bool) (old new : ReassemblyState) → is_on old.si c ≡ true → Pushes c answered old new
    → is_orderly old ≡ true → is_orderly new ≡ true
pushed-orderly c answered old new on p h =
    let s = orderly-both old h in
    and _ _ (pushed-complete c answered old new p s.0)
    (ap (λ n. is_unmixed n new.held) (pushed-number c answered old new p) ∙ pushed-unmixed c answered old new on p s.1)

module _ (c : ChunkPayloadData) (answered : Bool) (old new : Reception) (a : Accepts c answered old new) (st : ℕ) where
  abbrev sid : ℕ
  sid = c.stream_identifier

  on-stream : is_on (number a.stream) c ≡ true
  on-stream = eq-eqb sid (number a.stream) (sym (same-is (number a.stream) sid (found-number sid old.streams a.stream a.found)))

  keeps : (l : InboundStream) → (number l == sid) ≡ true → a.queue.si ≡ number l
  keeps l e = pushed-number c answered a.stream.queue a.queue a.pushed ∙ same-is (number a.stream) sid (found-number sid old.streams a.stream a.found)
      ∙ sym (same-is (number l) sid e)

  now : stream_of st new ≡ option_map (λ l. if has_number sid l then with_queue a.queue l else l) (stream_of st old)
  now = ap (λ (r : Reception). stream_of st r) a.after ∙ found-changed sid st (with_queue a.queue) keeps old.streams

  at : (o : Option InboundStream) → stream_of st old ≡ o → IsMoreBy c (is_on st c) o (option_map (λ l. if has_number sid l then with_queue a.queue l else l) o)
  at None e = no-less c (is_on st c) None
  at (Some l) e = by (has_number sid l) refl
    where
      by : (b : Bool) → has_number sid l ≡ b → IsMoreBy c (is_on st c) (Some l) (Some (if b then with_queue a.queue l else l))
      by false h = no-less c (is_on st c) (Some l)
      by true h =
          let same : st ≡ sid = sym (same-is (number l) st (found-number st old.streams l e)) ∙ same-is (number l) sid h in
          let one : Some l ≡ Some a.stream = sym e ∙ ap (λ n. stream_of n old) same ∙ a.found in
          let is : l ≡ a.stream = cc in
          let on : is_on st c ≡ true = eq-eqb sid st (sym same) in
          subst (λ b. IsMoreBy c b (Some l) (Some (with_queue a.queue l))) (sym on)
          (record {
            weighs = λ w. let p = weights.pushed w c answered a.stream.queue a.queue a.pushed in let q = ap (λ (x : InboundStream). weight w x.queue.held) is in
                omega arith;
            orderly = λ t. pushed-orderly c answered a.stream.queue a.queue on-stream a.pushed (ap (λ (x : InboundStream). is_orderly x.queue) (sym is) ∙ t);
          })

  more : IsMoreBy c (is_on st c) (stream_of st old) (stream_of st new)
  more = subst (IsMoreBy c (is_on st c) (stream_of st old)) (sym now) (at (stream_of st old) refl)

taken-valid : (c : ChunkPayloadData) (answered : Bool) (old new : Stand) → IsValid old → Accepts c answered old.receiver new.receiver
    → new.accepted ≡ c ∷ old.accepted → new.read ≡ old.read → IsValid new
taken-valid c answered old new s a e r = record {
  holds = λ st. record {
    weighs = λ w.
        let h = (s.holds st).weighs w in
        let m = (more c answered old.receiver new.receiver a st).weighs w in
        let t = taken-more w st c old.accepted (is_on st c) refl in
        let f = ap (λ cs. sum_by w (filter (is_on st) cs)) e in
        let g = ap (λ ms. sum_by w (fragments_read st ms)) r in
        omega arith;
    orderly = (more c answered old.receiver new.receiver a st).orderly (s.holds st).orderly;
  };
  read = ap (λ ms. list_all (λ m. is_complete m.fragments) ms) r ∙ s.read;
  one = ap (λ ms. list_all (λ m. is_one_message m.fragments) ms) r ∙ s.one;
}

-- ## A message is read

pub read-more : (w : ChunkPayloadData → ℕ) (st s : ℕ) (m : Option ChunkSet) (ms : List Message)
    → sum_by w (fragments_read st (with_message s m ms)) ≡ (if s == st then message_weight w m else 0) + sum_by w (fragments_read st ms)
read-more w st s None ms = by (s == st)
  where
    by : (b : Bool) → sum_by w (fragments_read st ms) ≡ (if b then 0 else 0) + sum_by w (fragments_read st ms)
    by true = omega arith
    by false = omega arith
read-more w st s (Some set) ms = by (s == st)
  where
    by : (b : Bool) → sum_by w (if b then set.chunks ++ fragments_read st ms else fragments_read st ms)
        ≡ (if b then sum_by w set.chunks else 0) + sum_by w (fragments_read st ms)
    by true = sum_by-append w set.chunks (fragments_read st ms)
    by false = omega arith

-- what is read leaves the stream
record IsLessBy (b : Bool) (m : Option ChunkSet) (old new : Option InboundStream) : Type 0 where
  weighs : (w : ChunkPayloadData → ℕ) → (if b then message_weight w m else 0) + held_weight w new ≤ held_weight w old
  orderly : held_orderly old ≡ true → held_orderly new ≡ true

module _ (s st : ℕ) (r : Reception) where
  here : (o : Option InboundStream) → stream_of st r ≡ o → s ≡ st
      → IsLessBy true (message_of o) o (option_map (λ l. if has_number s l then stream_read l else l) o)
  here None e same = record { weighs = λ w. omega arith; orderly = λ h. h }
  here (Some l) e same =
      let on : has_number s l ≡ true = ap (λ n. number l == n) same ∙ found-number st r.streams l e in
      subst (λ b. IsLessBy true (message_read l.queue.held) (Some l) (Some (if b then stream_read l else l))) (sym on)
      (record {
        weighs = λ w. let h = weights.read w l.queue.held in omega arith;
        orderly = λ h. let p = orderly-both l.queue h in and _ _ (rest-complete l.queue.held p.0) (rest-unmixed l.queue.si l.queue.held p.1);
      })

  elsewhere : (m : Option ChunkSet) (o : Option InboundStream) → stream_of st r ≡ o → (s == st) ≡ false
      → IsLessBy false m o (option_map (λ l. if has_number s l then stream_read l else l) o)
  elsewhere m None e differ = record { weighs = λ w. omega arith; orderly = λ h. h }
  elsewhere m (Some l) e differ =
      let off : has_number s l ≡ false = fails (has_number s l)
      (λ t. not_both (sym differ ∙ eq-eqb s st (sym (same-is (number l) s t) ∙ same-is (number l) st (found-number st r.streams l e)))) in
      subst (λ b. IsLessBy false m (Some l) (Some (if b then stream_read l else l))) (sym off)
      (record { weighs = λ w. omega arith; orderly = λ h. h })

  either : (b : Bool) → (s == st) ≡ b
      → IsLessBy b (message_on s r) (stream_of st r) (option_map (λ l. if has_number s l then stream_read l else l) (stream_of st r))
  either true e =
      let same = same-is s st e in
      subst (λ m. IsLessBy true m (stream_of st r) (option_map (λ l. if has_number s l then stream_read l else l) (stream_of st r)))
      (ap (λ n. message_of (stream_of n r)) (sym same)) (here (stream_of st r) refl same)
  either false e = elsewhere (message_on s r) (stream_of st r) refl e

  read-less : IsLessBy (s == st) (message_on s r) (stream_of st r) (stream_of st (after_read s r))
  read-less =
      subst (IsLessBy (s == st) (message_on s r) (stream_of st r)) (sym (found-changed s st stream_read (λ l e. refl) r.streams)) (either (s == st) refl)

on-complete : (s : ℕ) (r : Reception) → held_orderly (stream_of s r) ≡ true → message_complete (message_on s r) ≡ true
on-complete s r h = by (stream_of s r) h
  where
    by : (o : Option InboundStream) → held_orderly o ≡ true → message_complete (message_of o) ≡ true
    by None h = refl
    by (Some l) h = read-complete l.queue.held (orderly-both l.queue h).0

on-one : (s : ℕ) (r : Reception) → held_orderly (stream_of s r) ≡ true → message_one (message_on s r) ≡ true
on-one s r h = by (stream_of s r) h
  where
    by : (o : Option InboundStream) → held_orderly o ≡ true → message_one (message_of o) ≡ true
    by None h = refl
    by (Some l) h = read-one l.queue.si l.queue.held (orderly-both l.queue h).1

with-complete : (s : ℕ) (m : Option ChunkSet) (ms : List Message) → message_complete m ≡ true → list_all (λ x. is_complete x.fragments) ms ≡ true
    → list_all (λ x. is_complete x.fragments) (with_message s m ms) ≡ true
with-complete s None ms h k = k
with-complete s (Some set) ms h k = and _ _ h k

with-one : (s : ℕ) (m : Option ChunkSet) (ms : List Message) → message_one m ≡ true → list_all (λ x. is_one_message x.fragments) ms ≡ true
    → list_all (λ x. is_one_message x.fragments) (with_message s m ms) ≡ true
with-one s None ms h k = k
with-one s (Some set) ms h k = and _ _ h k

read-valid : (stream : ℕ) (old new : Stand) → IsValid old → new.receiver ≡ after_read stream old.receiver → new.accepted ≡ old.accepted
    → new.read ≡ with_message stream (message_on stream old.receiver) old.read → IsValid new
read-valid stream old new s is a r = record {
  holds = λ st. record {
    weighs = λ w.
        let h = (s.holds st).weighs w in
        let l = (read-less stream st old.receiver).weighs w in
        let now = ap (λ (x : Reception). held_weight w (stream_of st x)) is in
        let m = read-more w st stream (message_on stream old.receiver) old.read in
        let e = ap (λ ms. sum_by w (fragments_read st ms)) r in
        let f = ap (λ cs. sum_by w (filter (is_on st) cs)) a in
        omega arith;
    orderly = ap (λ (x : Reception). held_orderly (stream_of st x)) is ∙ (read-less stream st old.receiver).orderly (s.holds st).orderly;
  };
  read = ap (λ ms. list_all (λ m. is_complete m.fragments) ms) r
      ∙ with-complete stream (message_on stream old.receiver) old.read (on-complete stream old.receiver (s.holds stream).orderly) s.read;
  one = ap (λ ms. list_all (λ m. is_one_message m.fragments) ms) r
      ∙ with-one stream (message_on stream old.receiver) old.read (on-one stream old.receiver (s.holds stream).orderly) s.one;
}

-- ## Every run

-- the streams stay
still : (old new : Stand) → IsValid old → new.receiver.streams ≡ old.receiver.streams → new.accepted ≡ old.accepted → new.read ≡ old.read → IsValid new
still old new s streams a r = quiet old new s a r
    (λ st. subst (λ ls. IsNoMore (stream_of st old.receiver) (find (has_number st) ls)) (sym streams) (same-held (stream_of st old.receiver)))

discard-streams : (tsn : ℕ) (r : Reception) → (after_discard tsn r).streams ≡ r.streams
discard-streams tsn r = by (has_come tsn (filter_of r))
  where
    by : (b : Bool) → (if b then repeat_tsn tsn r else with_filter (with_tsn tsn (filter_of r)) r).streams ≡ r.streams
    by true = refl
    by false = refl

step : (c : Call) (old new : Stand) → IsValid old → are_apart (numbers_of old.receiver.streams) ≡ true → Follows c old new → IsValid new
step (opens stream) old new s apart f =
    quiet old new s f.accepted f.read (λ st. subst (λ (r : Reception). IsNoMore (stream_of st old.receiver) (stream_of st r))
    (sym f.receiver.1) (opened-less st stream old.receiver.max_message_size old.receiver.streams))
step (closes stream) old new s apart f = quiet old new s f.accepted f.read
    (λ st. subst (λ (r : Reception). IsNoMore (stream_of st old.receiver) (stream_of st r)) (sym f.receiver) (closed-less st stream old.receiver.streams apart))
step (takes c (New answered)) old new s apart f = taken-valid c answered old new s f.receiver f.accepted f.read
step (takes c Repeat) old new s apart f = still old new s (ap (λ (r : Reception). r.streams) f.receiver) f.accepted f.read
step (discards tsn) old new s apart f = still old new s (ap (λ (r : Reception). r.streams) f.receiver ∙ discard-streams tsn old.receiver) f.accepted f.read
step (reports_within bytes) old new s apart f = still old new s (ap (λ (r : Reception). r.streams) f.receiver) f.accepted f.read
step reports old new s apart f = quiet old new s f.accepted f.read
    (λ st. subst (λ (r : Reception). IsNoMore (stream_of st old.receiver) (stream_of st r)) (sym f.receiver) (same-held (stream_of st old.receiver)))
step (reads stream) old new s apart f = read-valid stream old new s f.receiver f.accepted f.read
step (resets stream last) old new s apart f = quiet old new s f.accepted f.read
    (λ st. subst (λ (r : Reception). IsNoMore (stream_of st old.receiver) (stream_of st r)) (sym f.receiver) (reset-less st stream last old.receiver.streams))
step (forwards g) old new s apart f = quiet old new s f.accepted f.read
    (λ st. subst (λ (r : Reception). IsNoMore (stream_of st old.receiver) (stream_of st r)) (sym f.receiver) (skipped-less st g old.receiver))
step (forwards_by_names g) old new s apart f = quiet old new s f.accepted f.read
    (λ st. subst (λ (r : Reception). IsNoMore (stream_of st old.receiver) (stream_of st r)) (sym f.receiver) (followed-less st g old.receiver))

run : (calls : List Call) (old new : Stand) → IsValid old → are_apart (numbers_of old.receiver.streams) ≡ true → RunsTo old calls new → IsValid new
run [] old new s apart e = subst IsValid (sym e) s
run (c ∷ cs) old new s apart r =
    run cs r.0 new (step c old r.0 s apart r.1.0) (stays-apart c old.receiver r.0.receiver r.1.0.receiver apart) r.1.1

start : (tsn max : ℕ) (limits : Option Limits) → IsValid (at_start tsn max limits)
start tsn max limits = record { holds = λ st. record { weighs = λ w. omega arith; orderly = refl }; read = refl; one = refl }

pub complete : AfterEachRun AreComplete
complete tsn max limits calls s r = (run calls (at_start tsn max limits) s (start tsn max limits) refl r).read

pub alike : AfterEachRun AreOfOneMessage
alike tsn max limits calls s r = (run calls (at_start tsn max limits) s (start tsn max limits) refl r).one

pub accepted : AfterEachRun WereAccepted
accepted tsn max limits calls s r = λ st w. let h = ((run calls (at_start tsn max limits) s (start tsn max limits) refl r).holds st).weighs w in omega arith
