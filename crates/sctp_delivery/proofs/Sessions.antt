-- What holds of every session of two hosts.
use Rattle.sctp_delivery.proofs.Names.{common_steps, ◌≡◌, ℕ, Bool, true, false, List, [], ◌∷◌, ◌++◌, Option, refl, ap, sym, ◌∙◌, arith, subst, ◌==◌, ◌||◌}
use Rattle.sctp_delivery.proofs.Names.{if◌then◌else◌, All, Contains, slice_index_or, list_all, list_any, sum_by, filter, list_any_at, sum_by-cons}
use Rattle.sctp_delivery.proofs.Names.{sum_by-append, AllPass-from_list_all, nat_tests, same-yes, and, both, not_both, ChunkPayloadData, Data, data_of, New}
use Rattle.sctp_delivery.proofs.Names.{Repeat, Limits, Message, fragments_read, Transmission, taken_back_by, Drop, is_on, ReceiverCall, Made, SenderCall}
use Rattle.sctp_delivery.proofs.Names.{data_chunk, forward_tsn, made_after, writes, AreMade, AreMessages, Call, IsAccounted, ReceiverFollows, RunsTo}
use Rattle.sctp_delivery.proofs.Names.{SenderFollows, Session, at_start, bytes_written, of_receiver, of_sender}
use Rattle.std.specs.Prelude.{not}
use Rattle.std.proofs.lemmas.List.Folds.{Any-from_list_any}
use Rattle.sctp_receiver.specs.ReceiverRuns as receiver_runs
use Rattle.sctp_receiver.proofs.Handed as handed
use Rattle.sctp_sender.specs.SenderRuns as sender_runs
use Rattle.sctp_sender.proofs.Accounts as accounts
use Rattle.sctp_delivery.proofs.SameData.{is_same, same-data, same-itself}
use Rattle.sctp_delivery.specs.ReceiverCalls as incoming
use Rattle.sctp_delivery.specs.SenderCalls as outgoing
use Rattle.sctp_delivery.specs.Session.{AfterEachSession, AreRuns}

-- ## Each host by itself

abbrev pub sender_calls : List Call → List sender_runs.Call
sender_calls [] = []
sender_calls (of_sender call ∷ cs) = outgoing.as_run call ∷ sender_calls cs
sender_calls (of_receiver call ∷ cs) = sender_calls cs

abbrev pub receiver_calls : List Call → List receiver_runs.Call
receiver_calls [] = []
receiver_calls (of_sender call ∷ cs) = receiver_calls cs
receiver_calls (of_receiver call ∷ cs) = incoming.as_run call ∷ receiver_calls cs

pub sender-runs : (cs : List Call) (old new : Session) → RunsTo old cs new → sender_runs.RunsTo old.sending (sender_calls cs) new.sending
sender-runs [] old new r = ap (λ (s : Session). s.sending) r
sender-runs (of_sender call ∷ cs) old new r = (r.0.sending, (r.1.0.step, sender-runs cs r.0 new r.1.1))
sender-runs (of_receiver call ∷ cs) old new r =
    subst (λ l. sender_runs.RunsTo l (sender_calls cs) new.sending) (ap (λ (s : Session). s.sending) r.1.0.after) (sender-runs cs r.0 new r.1.1)

pub receiver-runs : (cs : List Call) (old new : Session) → RunsTo old cs new → receiver_runs.RunsTo old.receiving (receiver_calls cs) new.receiving
receiver-runs [] old new r = ap (λ (s : Session). s.receiving) r
receiver-runs (of_receiver call ∷ cs) old new r = (r.0.receiving, (r.1.0.step, receiver-runs cs r.0 new r.1.1))
receiver-runs (of_sender call ∷ cs) old new r =
    subst (λ l. receiver_runs.RunsTo l (receiver_calls cs) new.receiving) (ap (λ (s : Session). s.receiving) r.1.0.after) (receiver-runs cs r.0 new r.1.1)

pub runs : AfterEachSession AreRuns
runs tsn size max most limits cs s r = grind (arith, nat_tests, common_steps, sender-runs, receiver-runs)

-- ## Bytes

pub none-back : (call : SenderCall) → taken_back_by (outgoing.as_run call) ≡ 0
none-back (writes stream ppi bytes) = refl
none-back call = refl

-- what is counted is what was written, and nothing came back
pub record IsCounted (s : Session) : Type 0 where
  pub written : bytes_written s ≡ s.sending.written
  pub back : s.sending.taken_back ≡ 0

pub sender-counts : (call : SenderCall) (old new : Session) → SenderFollows call old new → IsCounted old → IsCounted new
sender-counts call old new f h = grind (arith, nat_tests, common_steps)

counted : (cs : List Call) (old new : Session) → RunsTo old cs new → IsCounted old → IsCounted new
counted [] old new r h = subst IsCounted (sym r) h
counted (of_sender call ∷ cs) old new r h = counted cs r.0 new r.1.1 (sender-counts call old r.0 r.1.0 h)
counted (of_receiver call ∷ cs) old new r h = counted cs r.0 new r.1.1 (record {
  written =
      omega (arith, ap bytes_written r.1.0.after, ap (λ (s : Session). s.sending.written) r.1.0.after);
  back = ap (λ (s : Session). s.sending.taken_back) r.1.0.after ∙ h.back;
})

pub accounted : AfterEachSession IsAccounted
accounted tsn size max most limits cs s r =
    let start = at_start tsn size max most limits in
    let law = accounts.accounted tsn size max Drop (sender_calls cs) s.sending (sender-runs cs start s r) in
    let c = counted cs start s r (record { written = refl; back = refl }) in
    omega (arith, law)

-- ## Tests of lists

every : {A : Type 0} (p q : A → Bool) → ((x : A) → p x ≡ true → q x ≡ true) → (xs : List A) → list_all p xs ≡ true → list_all q xs ≡ true
every p q h [] e = refl
every p q h (x ∷ xs) e = let b = both (p x) (list_all p xs) e in and (q x) (list_all q xs) (h x b.0) (every p q h xs b.1)

pub neither : (a b : Bool) → (a || b) ≡ false → (a ≡ false) × (b ≡ false)
neither true b e = absurd (not_both (sym e))
neither false b e = (refl, e)

pub unnot : (b : Bool) → not b ≡ false → b ≡ true
unnot true e = refl
unnot false e = absurd (not_both (sym e))

-- 1 where the test fails
abbrev pub fails : (ChunkPayloadData → Bool) → ChunkPayloadData → ℕ
fails p c = if p c then 0 else 1

pub none-fails : (p q : ChunkPayloadData → Bool) (cs : List ChunkPayloadData) → list_all p cs ≡ true → sum_by (fails p) (filter q cs) ≡ 0
none-fails p q [] e = refl
none-fails p q (c ∷ cs) e = let b = both (p c) (list_all p cs) e in by (q c) b.0 (none-fails p q cs b.1)
  where
    by : (b : Bool) → p c ≡ true → sum_by (fails p) (filter q cs) ≡ 0 → sum_by (fails p) (if b then c ∷ filter q cs else filter q cs) ≡ 0
    by true h rest = grind (arith, nat_tests, sum_by-cons (fails p) c (filter q cs))
    by false h rest = rest

pub all-pass : (p : ChunkPayloadData → Bool) (cs : List ChunkPayloadData) → sum_by (fails p) cs ≡ 0 → list_all p cs ≡ true
all-pass p [] e = refl
all-pass p (c ∷ cs) e = grind (arith, nat_tests, common_steps, all-pass p cs)

-- what every fragment that was read on a stream passes, each message passes
pub each-read : (p : ℕ → ChunkPayloadData → Bool) (ms : List Message) → ((st : ℕ) → sum_by (fails (p st)) (fragments_read st ms) ≡ 0)
    → list_all (λ m. list_all (p m.stream) m.fragments) ms ≡ true
each-read p [] h = refl
each-read p (m ∷ ms) h = and (list_all (p m.stream) m.fragments) (list_all (λ x. list_all (p x.stream) x.fragments) ms) first (each-read p ms rest)
  where
    joined : sum_by (fails (p m.stream)) (m.fragments ++ fragments_read m.stream ms) ≡ 0
    joined = ap (λ b. sum_by (fails (p m.stream)) (if b then m.fragments ++ fragments_read m.stream ms else fragments_read m.stream ms))
        (sym (same-yes m.stream)) ∙ h m.stream

    first : list_all (p m.stream) m.fragments ≡ true
    first = let s = sum_by-append (fails (p m.stream)) m.fragments (fragments_read m.stream ms) in all-pass (p m.stream) m.fragments (omega (arith, joined, s))

    by : (st : ℕ) (b : Bool) → sum_by (fails (p st)) (if b then m.fragments ++ fragments_read st ms else fragments_read st ms) ≡ 0
        → sum_by (fails (p st)) (fragments_read st ms) ≡ 0
    by st true e = let s = sum_by-append (fails (p st)) m.fragments (fragments_read st ms) in omega (arith, e, s)
    by st false e = e

    rest : (st : ℕ) → sum_by (fails (p st)) (fragments_read st ms) ≡ 0
    rest st = by st (m.stream == st) (h st)

-- ## Chunks

-- it is this DATA chunk
abbrev is_made_so : Data → Made → Bool
is_made_so d (data_chunk x) = is_same d x
is_made_so d (forward_tsn f) = false

found : (p : Made → Bool) (ms : List Made) (x : Made) → p x ≡ true → Contains ms x → list_any p ms ≡ true
found p ms x e h = list_any_at p ms h.0 x h.1 (ap p h.2 ∙ e)

-- whether a chunk was made
abbrev pub made_among : List Made → ChunkPayloadData → Bool
made_among ms c = list_any (is_made_so (data_of c)) ms

pub more-made : (p : Made → Bool) (call : SenderCall) (t : Transmission) (ms : List Made) → list_any p ms ≡ true → list_any p (made_after call t ms) ≡ true
more-made h0 h1 h2 h3 h4 = grind (arith, nat_tests, common_steps)

-- each chunk that was taken was made
abbrev pub IsTakenMade : Session → Type 0
IsTakenMade s = list_all (made_among s.made) s.receiving.accepted ≡ true

pub kept-so : (old new : Session) → new.made ≡ old.made → new.receiving.accepted ≡ old.receiving.accepted → IsTakenMade old → IsTakenMade new
kept-so old new same e h =
    ap (λ ms. list_all (made_among ms) new.receiving.accepted) same ∙ (ap (list_all (made_among old.made)) e ∙ h)

kept-made : (call : ReceiverCall) (old new : Session) → ReceiverFollows call old new → new.receiving.accepted ≡ old.receiving.accepted → IsTakenMade old
    → IsTakenMade new
kept-made call old new f e h = kept-so old new (ap (λ (s : Session). s.made) f.after) e h

pub taken-made : (call : ReceiverCall) (old new : Session) → ReceiverFollows call old new → IsTakenMade old → IsTakenMade new
taken-made (incoming.takes c (New answered)) old new f h =
    ap (λ ms. list_all (made_among ms) new.receiving.accepted) (ap (λ (s : Session). s.made) f.after)
    ∙ (ap (list_all (made_among old.made)) f.step.accepted
    ∙ and _ _ (found (is_made_so (data_of c)) old.made (data_chunk (data_of c)) (same-itself (data_of c)) f.handed) h)
taken-made (incoming.takes c Repeat) old new f h = kept-made (incoming.takes c Repeat) old new f f.step.accepted h
taken-made (incoming.opens stream) old new f h = kept-made (incoming.opens stream) old new f f.step.accepted h
taken-made (incoming.follows g) old new f h = kept-made (incoming.follows g) old new f f.step.accepted h
taken-made (incoming.reports credit) old new f h = kept-made (incoming.reports credit) old new f f.step.accepted h
taken-made (incoming.reports_within credit bytes) old new f h = kept-made (incoming.reports_within credit bytes) old new f f.step.accepted h
taken-made (incoming.makes_sack credit bytes) old new f h = kept-made (incoming.makes_sack credit bytes) old new f f.step.accepted h
taken-made incoming.forgets old new f h = kept-made incoming.forgets old new f f.step.accepted h
taken-made (incoming.reads stream) old new f h = kept-made (incoming.reads stream) old new f f.step.accepted h

pub sent-made : (call : SenderCall) (old new : Session) → SenderFollows call old new → IsTakenMade old → IsTakenMade new
sent-made call old new f h =
    ap (λ (s : Session). list_all (made_among s.made) s.receiving.accepted) f.after
    ∙ every (made_among old.made) (made_among (made_after call old.sending.sender old.made))
    (λ c. more-made (is_made_so (data_of c)) call old.sending.sender old.made) old.receiving.accepted h

pub all-made : (cs : List Call) (old new : Session) → RunsTo old cs new → IsTakenMade old → IsTakenMade new
all-made [] old new r h = subst IsTakenMade (sym r) h
all-made (of_sender call ∷ cs) old new r h = all-made cs r.0 new r.1.1 (sent-made call old r.0 r.1.0 h)
all-made (of_receiver call ∷ cs) old new r h = all-made cs r.0 new r.1.1 (taken-made call old r.0 r.1.0 h)

so-made : (d : Data) (x : Made) → is_made_so d x ≡ true → x ≡ data_chunk d
so-made d (data_chunk x) e = ap data_chunk (sym (same-data d x e))
so-made d (forward_tsn f) e = cc

pub found-made : (ms : List Made) (d : Data) → list_any (is_made_so d) ms ≡ true → Contains ms (data_chunk d)
found-made ms d e =
    let a = Any-from_list_any (is_made_so d) ms e in
    subst (Contains ms) (so-made d a.1 a.4) (a.0, a.2, a.3)

all-found : (ms : List Made) (read : List Message) → list_all (λ m. list_all (made_among ms) m.fragments) read ≡ true
    → All (λ m. All (λ c. Contains ms (data_chunk (data_of c))) m.fragments) read
all-found ms read e k d l =
    let m = slice_index_or read k d in
    let h = AllPass-from_list_all (λ (x : Message). list_all (made_among ms) x.fragments) read e k d l in
    λ i c n. found-made ms (data_of (slice_index_or m.fragments i c)) (AllPass-from_list_all (made_among ms) m.fragments h i c n)

-- of what a run of the receiver alone leads to
abbrev RunsSo : ℕ → ℕ → Option Limits → List receiver_runs.Call → Session → Type 0
RunsSo tsn most limits cs s = receiver_runs.RunsTo (receiver_runs.at_start tsn most limits) cs s.receiving

pub made-so : (tsn most : ℕ) (limits : Option Limits) (cs : List receiver_runs.Call) (s : Session) → RunsSo tsn most limits cs s → IsTakenMade s → AreMade s
made-so tsn most limits cs s r taken =
    let law = handed.accepted tsn most limits cs s.receiving r in
    all-found s.made s.receiving.read (each-read (λ _. made_among s.made) s.receiving.read (λ st. let l = law st (fails (made_among s.made)) in
    let z = none-fails (made_among s.made) (is_on st) s.receiving.accepted taken in omega (arith, l, z)))

pub made : AfterEachSession AreMade
made tsn size max most limits cs s r =
    let start = at_start tsn size max most limits in
    made-so tsn most limits (receiver_calls cs) s (receiver-runs cs start s r) (all-made cs start s r refl)

pub messages-so : (tsn most : ℕ) (limits : Option Limits) (cs : List receiver_runs.Call) (s : Session) → RunsSo tsn most limits cs s → AreMessages s
messages-so tsn most limits cs s r = (handed.complete tsn most limits cs s.receiving r, handed.alike tsn most limits cs s.receiving r)

pub messages : AfterEachSession AreMessages
messages tsn size max most limits cs s r =
    messages-so tsn most limits (receiver_calls cs) s (receiver-runs cs (at_start tsn size max most limits) s r)

none-off : (st : ℕ) (cs : List ChunkPayloadData) → sum_by (fails (is_on st)) (filter (is_on st) cs) ≡ 0
none-off st [] = refl
none-off st (c ∷ cs) = grind (arith, nat_tests, sum_by-cons (fails (is_on st)) c (filter (is_on st) cs), none-off st cs)

-- the fragments of a message are of the stream that it was read on
abbrev pub AreOn : Session → Type 0
AreOn s = list_all (λ m. list_all (is_on m.stream) m.fragments) s.receiving.read ≡ true

pub read-on-so : (tsn most : ℕ) (limits : Option Limits) (cs : List receiver_runs.Call) (s : Session) → RunsSo tsn most limits cs s → AreOn s
read-on-so tsn most limits cs s r =
    let law = handed.accepted tsn most limits cs s.receiving r in
    each-read is_on s.receiving.read (λ st. let w = law st (fails (is_on st)) in let z = none-off st s.receiving.accepted in omega (arith, w, z))

pub read-on : AfterEachSession (λ s. AreOn s)
read-on tsn size max most limits cs s r = read-on-so tsn most limits (receiver_calls cs) s (receiver-runs cs (at_start tsn size max most limits) s r)
