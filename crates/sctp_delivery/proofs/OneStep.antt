-- Each call leads from a session to one other alone.
use Rattle.sctp_delivery.proofs.Names.{common_steps, ◌≡◌, ℕ, ◌+◌, ◌<◌, ◌≤◌, Bool, true, false, List, [], ◌∷◌, ◌++◌, take, drop, length, Some, None, inl, inr}
use Rattle.sctp_delivery.proofs.Names.{refl, ap, sym, ◌∙◌, arith, ◌⊎◌, cases_lt, nat_tests, some-same, not_both, ChunkPayloadData, BecomesComplete, Reassembly}
use Rattle.sctp_delivery.proofs.Names.{ReassemblyState, set_of_run, Pushes, Accepts, Reception, Stand, IsEarliestRun, IsRun, Ledger, ReceiverCall, Made}
use Rattle.sctp_delivery.proofs.Names.{SenderCall, Write, ReceiverFollows, SenderFollows, Session, of_receiver, of_sender}
use Rattle.sctp_delivery.specs.Ending.{ArrivalsAreDetermined, EachMakesOneStep, ReleasesAreDetermined}
use Rattle.sctp_delivery.specs.SenderCalls as outgoing
use Rattle.sctp_delivery.proofs.Writing.{accepted-stream}

-- ## The sender

ledger-same : (l m : Ledger) → l.sender ≡ m.sender → l.written ≡ m.written → l.released ≡ m.released → l.taken_back ≡ m.taken_back → l ≡ m
ledger-same l m a b c d = grind (arith, nat_tests)

-- all but what is sent is settled by the session before
abbrev SentTo : Session → List Made → List Write → Session → Type 0
SentTo s made written t = t ≡ record { sending = t.sending; receiving = s.receiving; made = made; sacks = s.sacks; written = written }

sent-one : (s t u : Session) (made : List Made) (written : List Write) → SentTo s made written t → SentTo s made written u → t.sending ≡ u.sending → t ≡ u
sent-one s t u made written a b e =
    a ∙ ap (λ l. let r : Session = record { sending = l; receiving = s.receiving; made = made; sacks = s.sacks; written = written } in r) e ∙ sym b

abbrev SameSender : Session → Session → Type 0
SameSender t u = t.sending.sender ≡ u.sending.sender

sender-one : (call : SenderCall) (s t u : Session) → SenderFollows call s t → SenderFollows call s u → SameSender t u
sender-one (outgoing.sends now) s t u f g = f.exact ∙ sym g.exact
sender-one (outgoing.abandons tsn a) s t u f g = f.exact ∙ sym g.exact
sender-one (outgoing.expires_late now gone) s t u f g = f.exact ∙ sym g.exact
sender-one (outgoing.expires_rexmit gone) s t u f g = f.exact ∙ sym g.exact
sender-one (outgoing.forwards tsn c) s t u f g = f.exact ∙ sym g.exact
sender-one (outgoing.forwards_within bytes c) s t u f g = f.exact ∙ sym g.exact
sender-one (outgoing.takes_sack sack gone) s t u f g = f.exact ∙ sym g.exact
sender-one (outgoing.writes stream ppi []) s t u f g = f.exact.0 refl ∙ sym (g.exact.0 refl)
sender-one (outgoing.writes stream ppi (b ∷ bs)) s t u f g =
    let l = accepted-stream stream (length (b ∷ bs)) s.sending.sender f.accepted in
    f.exact.1 (omega arith) l.0 l.1 ∙ sym (g.exact.1 (omega arith) l.0 l.1)
sender-one (outgoing.expires now None) s t u f g = f.exact.1.1 refl ∙ sym (g.exact.1.1 refl)
sender-one (outgoing.expires now (Some e)) s t u f g = grind (arith, nat_tests)
sender-one (outgoing.expires_tail now None) s t u f g = f.exact.1 refl ∙ sym (g.exact.1 refl)
sender-one (outgoing.expires_tail now (Some a)) s t u f g = f.exact.0 ∙ sym g.exact.0
sender-one call s t u f g = f.step.sender ∙ sym g.step.sender

sending-one : (call : SenderCall) (s t u : Session) → SenderFollows call s t → SenderFollows call s u → t ≡ u
sending-one call s t u f g = grind (arith, nat_tests, ledger-same, sender-one, sent-one)

pub releases-one : ReleasesAreDetermined
releases-one sack gone other s t u f g = grind (arith, nat_tests, common_steps)

-- ## A chunk that comes

none : ChunkPayloadData → (xs : List ChunkPayloadData) (f n g m : ℕ) → IsRun xs f n → IsRun xs g m → f + n ≡ g + m → f < g → ⊥
none d xs f n g m a b ends lt = let some = b.some in not_both (sym (a.no_other g d lt (omega (arith, some, ends))) ∙ b.begins d)

-- two runs that end earliest are one
same-run : ChunkPayloadData → (xs : List ChunkPayloadData) (f n g m : ℕ) → IsEarliestRun xs f n → IsEarliestRun xs g m → (f ≡ g) × (n ≡ m)
same-run d xs f n g m a b = by (cases_lt f g) (cases_lt g f)
  where
    ends : f + n ≡ g + m
    ends = let x = a.earliest g m b.run in let y = b.earliest f n a.run in omega (arith, x, y)

    by : (f < g) ⊎ (g ≤ f) → (g < f) ⊎ (f ≤ g) → (f ≡ g) × (n ≡ m)
    by (inl l) t = absurd (none d xs f n g m a.run b.run ends l)
    by (inr l) (inl k) = absurd (none d xs g m f n b.run a.run (sym ends) k)
    by (inr l) (inr k) = (omega (arith, l, k), omega (arith, l, k, ends))

abbrev without_run : List ChunkPayloadData → Reassembly → ℕ → ℕ → Reassembly
without_run xs old first count =
    record old { unassembled = take first xs ++ drop (first + count) xs; unordered = old.unordered ++ set_of_run (take count (drop first xs)) ∷ [] }

becomes-one : ChunkPayloadData → (xs : List ChunkPayloadData) (old x y : Reassembly) (a b : Bool) → BecomesComplete xs old x a → BecomesComplete xs old y b
    → (x ≡ y) × (a ≡ b)
becomes-one d xs old x y true true t u =
    let s = same-run d xs t.first t.count u.first u.count t.run u.run in
    (t.moved ∙ ap (λ k. without_run xs old k t.count) s.0 ∙ ap (without_run xs old u.first) s.1 ∙ sym u.moved, refl)
becomes-one d xs old x y true false t u = absurd (u.0 t.first t.count t.run.run)
becomes-one d xs old x y false true t u = absurd (t.0 u.first u.count u.run.run)
becomes-one d xs old x y false false t u = (t.1 ∙ sym u.1, refl)

queue-one : (c : ChunkPayloadData) (a b : Bool) (old x y : ReassemblyState) → Pushes c a old x → Pushes c b old y → (x ≡ y) × (a ≡ b)
queue-one c a b old x y f g = grind (arith, nat_tests, becomes-one)

accepts-one : (c : ChunkPayloadData) (a b : Bool) (old x y : Reception) → Accepts c a old x → Accepts c b old y → (x ≡ y) × (a ≡ b)
accepts-one c a b old x y f g = grind (arith, nat_tests, queue-one, some-same)

-- ## The receiver

receiver-one : (call : ReceiverCall) (s t u : Session) → ReceiverFollows call s t → ReceiverFollows call s u
    → t.receiving.receiver ≡ u.receiving.receiver
receiver-one call s t u h5 h6 = grind (arith, nat_tests, accepts-one)

stand-same : (x y : Stand) → x.receiver ≡ y.receiver → x.accepted ≡ y.accepted → x.read ≡ y.read → x ≡ y
stand-same x y a b c = grind (arith, nat_tests)

receiving-one : (call : ReceiverCall) (s t u : Session) → ReceiverFollows call s t → ReceiverFollows call s u → t ≡ u
receiving-one call s t u f g = grind (arith, nat_tests, receiver-one, stand-same)

-- ## The laws

pub steps-one : EachMakesOneStep
steps-one (of_sender call) s t u f g = sending-one call s t u f g
steps-one (of_receiver call) s t u f g = receiving-one call s t u f g

pub arrivals-one : ArrivalsAreDetermined
arrivals-one h0 h1 h2 h3 h4 h5 h6 h7 = grind (arith, nat_tests, common_steps, accepts-one, not_both)
