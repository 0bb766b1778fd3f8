-- Sessions of every call: where nothing waits or is in flight, each unordered chunk of a stream that goes on was read, or is held.
use Rattle.sctp_delivery.proofs.Names.{common_steps, nat_tests, ◌≡◌, ℕ, ◌<◌, ◌^◌, Bool, true, false, List, [], ◌∷◌, ◌++◌, length, inl, inr, refl, ap, sym}
use Rattle.sctp_delivery.proofs.Names.{subst, ◌∙◌, arith, All, Contains, if◌then◌else◌, ◌==◌, ◌||◌, filter, list_any, sum_by, sum_by-cons, sum_by-append}
use Rattle.sctp_delivery.proofs.Names.{eq-eqb, ◌⊎◌, or-split, same-is, not_both, ChunkPayloadData, Data, data_of, data_chunk, has_tsn, is_on, passes, Message}
use Rattle.sctp_delivery.proofs.Names.{fragments_read, fragments_held, is_all_acknowledged, stream_of, was_passed, was_taken, AreMade, Session}
use Rattle.std.proofs.lemmas.List.Folds.{Any-from_list_any}
use Rattle.sctp_receiver.proofs.Handed.{taken-more}
use Rattle.sctp_delivery.specs.EveryEnd.{IsReadOn}
use Rattle.sctp_delivery.proofs.Cases.{at-test, by-test}
use Rattle.sctp_delivery.proofs.Delivered.{found-sent-on}
use Rattle.sctp_delivery.proofs.Every.{Every}
use Rattle.sctp_delivery.proofs.Even.{lonely, lonely-less, lonely-light}
use Rattle.sctp_delivery.proofs.EveryHeld.{IsEvenBut}
use Rattle.sctp_delivery.proofs.InTheEnd.{all-every}
use Rattle.sctp_delivery.proofs.Kept.{held-weighs}
use Rattle.sctp_delivery.proofs.KeptSessions.{idle-of}
use Rattle.sctp_delivery.proofs.ReadOnce.{none-count, one}
use Rattle.sctp_delivery.proofs.SackLaws.{IsInStepBut}
use Rattle.sctp_delivery.proofs.Senders.{AreSentOn}
use Rattle.sctp_delivery.proofs.Sent.{Entry, IsLine, Numbered, WasSent, contains-more, part-length, part-line, same-tsn}
use Rattle.sctp_delivery.proofs.Sessions.{IsTakenMade, found-made, made_among}
use Rattle.sctp_delivery.proofs.TsnPlaces.{base, same-place}

-- of a TSN that was read on the stream, a message and its fragment
pub found-read : (st t : ℕ) (ms : List Message) → 0 < sum_by (one t) (fragments_read st ms)
    → (m : Message) × Contains ms m × (m.stream ≡ st) × (c : ChunkPayloadData) × Contains m.fragments c × (has_tsn t c ≡ true)
found-read st t [] lt = absurd (omega (arith, lt))
found-read st t (m ∷ ms) lt = at-test (λ b. 0 < sum_by (one t) (if b then m.fragments ++ fragments_read st ms else fragments_read st ms)
    → (x : Message) × Contains (m ∷ ms) x × (x.stream ≡ st) × (c : ChunkPayloadData) × Contains x.fragments c × (has_tsn t c ≡ true)) (m.stream == st)
    (λ e more. by-test (list_any (has_tsn t) m.fragments)
    (λ h. let a = Any-from_list_any (has_tsn t) m.fragments h in (m, (0, omega arith, refl), same-is m.stream st e, a.1, (a.0, a.2, a.3), a.4))
    (λ h. later (found-read st t ms (omega (arith, more, sum_by-append (one t) m.fragments (fragments_read st ms), none-count t m.fragments h)))))
    (λ e more. later (found-read st t ms more)) lt
  where
    later : (x : Message) × Contains ms x × (x.stream ≡ st) × (c : ChunkPayloadData) × Contains x.fragments c × (has_tsn t c ≡ true)
        → (x : Message) × Contains (m ∷ ms) x × (x.stream ≡ st) × (c : ChunkPayloadData) × Contains x.fragments c × (has_tsn t c ≡ true)
    later x = (x.0, contains-more m ms x.0 x.1, x.2, x.3, x.4, x.5)

module _ (first n : ℕ) (few : n < 2 ^ 31) (on dropped : ℕ → Bool) (s : Session) (ns : List Numbered) (sent : List Entry) (long : length sent ≡ n)
    (line : IsLine ns first sent) (sent-made : AreSentOn on sent s.made) (step : IsInStepBut dropped (base first) n s) (taken-made : IsTakenMade s)
    (read-made : AreMade s) (st : ℕ) (even : IsEvenBut st s.made s.receiving) (acknowledged : is_all_acknowledged s.sending.sender ≡ true) (d : Data)
    (in' : Contains s.made (data_chunk d)) (there : d.stream_identifier ≡ st) (kind : d.unordered ≡ true) (undropped : dropped d.tsn ≡ false)
    (unpassed : was_passed d.tsn s ≡ false) where
  was : WasSent sent d
  was = found-sent-on on sent s.made d sent-made in'

  -- what was made with its TSN is it
  alike : (c : ChunkPayloadData) → Contains s.made (data_chunk (data_of c)) → has_tsn d.tsn c ≡ true → data_of c ≡ d
  alike c h e =
      same-tsn ns first sent (omega (arith, long, few)) line (data_of c) d (found-sent-on on sent s.made (data_of c) sent-made h) was
      (same-is c.tsn d.tsn e)

  -- it came
  came : was_taken d.tsn s ≡ true
  came = grind (arith, nat_tests, common_steps, part-length, part-line, idle-of, same-place, or-split, not_both)

  -- ## It weighs something

  abbrev w : ChunkPayloadData → ℕ
  w = lonely (one d.tsn)

  none : (cs : List ChunkPayloadData) → Every (λ c. list_any (passes c.tsn) s.made ≡ true) cs → sum_by w cs ≡ 0
  none [] e = refl
  none (c ∷ cs) e = grind (arith, nat_tests, common_steps, not_both, same-is, sum_by-cons, none cs e.1)

  among : (cs : List ChunkPayloadData) → Every (λ c. Contains s.made (data_chunk (data_of c))) cs → list_any (has_tsn d.tsn) cs ≡ true
      → 0 < sum_by w (filter (is_on st) cs)
  among [] h e = absurd (not_both e)
  among (c ∷ cs) h e = by-test (has_tsn d.tsn c)
      (λ g.
      let same = alike c h.0 g in
      let here : is_on st c ≡ true = eq-eqb c.stream_identifier st (ap (λ (x : Data). x.stream_identifier) same ∙ there) in
      let one' : w c ≡ 1 = ap (λ b. if b then one d.tsn c else 0) (ap (λ (x : Data). x.unordered) same ∙ kind) ∙ ap (λ b. if b then 1 else 0) g in
      omega (arith, taken-more w st c cs true here, one'))
      (λ g.
      let rest = among cs h.1 (ap (λ b. b || list_any (has_tsn d.tsn) cs) (sym g) ∙ e) in
      omega (arith, taken-more w st c cs (is_on st c) refl, rest))

  -- ## So it was read, if it is not held

  unheld : list_any (has_tsn d.tsn) (fragments_held st s.receiving.receiver) ≡ false → IsReadOn st d s.receiving.read
  unheld off =
      let all = all-every (made_among s.made) (λ c. Contains s.made (data_chunk (data_of c))) (λ c h. found-made s.made (data_of c) h) s.receiving.accepted
      taken-made in
      let some = among s.receiving.accepted all came in
      let held = lonely-less (one d.tsn) (fragments_held st s.receiving.receiver) in
      let more = lonely-less (one d.tsn) (fragments_read st s.receiving.read) in
      let empty = none-count d.tsn (fragments_held st s.receiving.receiver) off in
      let x = found-read st d.tsn s.receiving.read (omega (
        arith,
        some,
        even.so.weighs w (lonely-light (one d.tsn)),
        more,
        held-weighs w (stream_of st s.receiving.receiver),
        held,
        empty,
        none even.lost even.spent,
      )) in
      let made : All (λ c. Contains s.made (data_chunk (data_of c))) x.0.fragments =
      subst (λ (m : Message). All (λ c. Contains s.made (data_chunk (data_of c))) m.fragments) x.1.2 (read-made x.1.0 x.0 x.1.1) in
      let here : Contains s.made (data_chunk (data_of x.3)) =
      subst (λ c. Contains s.made (data_chunk (data_of c))) x.4.2 (made x.4.0 x.3 x.4.1) in
      (x.0, x.1, x.2, x.3, x.4, alike x.3 here x.5)

  pub read : IsReadOn st d s.receiving.read ⊎ (list_any (has_tsn d.tsn) (fragments_held st s.receiving.receiver) ≡ true)
  read = by-test (list_any (has_tsn d.tsn) (fragments_held st s.receiving.receiver)) (λ e. inr e) (λ e. inl (unheld e))
