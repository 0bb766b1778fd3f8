-- Sessions of every call: what is read, where entries got TSNs; each message of which no fragment but the first begins one is a write.
use Rattle.sctp_delivery.proofs.Names.{nat_tests, common_steps, ◌≡◌, ℕ, zero, suc, ◌<◌, ◌^◌, Bool, true, false, not, List, [], ◌∷◌, ◌++◌, length, refl, ap, sym}
use Rattle.sctp_delivery.proofs.Names.{subst, ◌∙◌, arith, All, Contains, slice_index_or, filter, list_all, list_any, AllPass-from_list_all, and, both, negated}
use Rattle.sctp_delivery.proofs.Names.{completes, fails, following_tsn, same-is, ◌==◌, not_both, list_any-append, ChunkPayloadData, Message, has_tsn}
use Rattle.sctp_delivery.proofs.Names.{is_complete, is_one_message, is_on, data_of, data_chunk, fragments_of_all, are_apart, AreMade, AreMessages, Session}
use Rattle.sctp_delivery.proofs.Names.{◌||◌, ap₂}
use Rattle.sctp_delivery.specs.EveryCall.{AfterEachAny, AnyCall, AreSingle, AreWritesWhereSingle, renews, AreToldApart, is_single, is_steady, single_messages}
use Rattle.sctp_delivery.specs.EveryOrder.{breaks, goes_on, opens_incoming}
use Rattle.sctp_delivery.proofs.Begun.{AreOnce}
use Rattle.sctp_delivery.proofs.Calls.{contains-forgotten, forget, forgotten}
use Rattle.sctp_delivery.proofs.Cases.{at-if}
use Rattle.sctp_delivery.proofs.Delivered.{AreInner, IsReadOf, inner-of, single-is, EachSentFrom, each-from, each-sent-on, single-on}
use Rattle.sctp_delivery.proofs.EveryRuns as runs
use Rattle.sctp_delivery.proofs.Every.{Every, every-at, every-of-all}
use Rattle.sctp_delivery.proofs.OnceWritten.{EachRead}
use Rattle.sctp_delivery.proofs.OrderedEntries.{AreIndexedOn}
use Rattle.sctp_delivery.proofs.Senders.{AreSentOn}
use Rattle.sctp_delivery.proofs.Sent.{Entry, IsLine, Numbered}
use Rattle.sctp_delivery.proofs.Sessions as sessions
use Rattle.sctp_delivery.proofs.Sessions.{neither}
use Rattle.sctp_delivery.proofs.YoungReads.{IsReadFrom}

-- ## Tests of fragments

pub none-begin : (cs : List ChunkPayloadData) → list_all (λ d. not d.beginning_fragment) cs ≡ true
    → Every (λ (d : ChunkPayloadData). d.beginning_fragment ≡ false) cs
none-begin [] e = tt
none-begin (c ∷ cs) e =
    let b = both (not c.beginning_fragment) (list_all (λ d. not d.beginning_fragment) cs) e in
    (negated c.beginning_fragment b.0, none-begin cs b.1)

none-begins : (cs : List ChunkPayloadData) → Every (λ (d : ChunkPayloadData). d.beginning_fragment ≡ false) cs
    → list_all (λ d. not d.beginning_fragment) cs ≡ true
none-begins [] e = refl
none-begins (c ∷ cs) e = and (not c.beginning_fragment) (list_all (λ d. not d.beginning_fragment) cs) (ap not e.0) (none-begins cs e.1)

-- messages that pass a test are some of all, so no two of their fragments have one TSN
pub some-apart : (p : Message → Bool) (ms : List Message) → are_apart (fragments_of_all ms) ≡ true → are_apart (fragments_of_all (filter p ms)) ≡ true
some-apart p [] e = refl
some-apart p (m ∷ ms) e = at-if (λ z. are_apart (fragments_of_all z) ≡ true) (p m)
    (λ _. with-front m.fragments e (some-apart p ms (rest m.fragments e)))
    (λ _. some-apart p ms (rest m.fragments e))
  where
    rest : (cs : List ChunkPayloadData) → are_apart (cs ++ fragments_of_all ms) ≡ true → are_apart (fragments_of_all ms) ≡ true
    rest [] h = h
    rest (c ∷ cs) h = rest cs (both (not (list_any (has_tsn c.tsn) (cs ++ fragments_of_all ms))) (are_apart (cs ++ fragments_of_all ms)) h).1

    fewer : (t : ℕ) (ks : List Message) → list_any (has_tsn t) (fragments_of_all ks) ≡ false → list_any (has_tsn t) (fragments_of_all (filter p ks)) ≡ false
    fewer t [] h = refl
    fewer t (k ∷ ks) h =
        let n = neither (list_any (has_tsn t) k.fragments) (list_any (has_tsn t) (fragments_of_all ks))
        (sym (list_any-append (has_tsn t) k.fragments (fragments_of_all ks)) ∙ h) in
        at-if (λ z. list_any (has_tsn t) (fragments_of_all z) ≡ false) (p k)
        (λ _. list_any-append (has_tsn t) k.fragments (fragments_of_all (filter p ks)) ∙ nor n.0 (fewer t ks n.1))
        (λ _. fewer t ks n.1)
      where
        nor : {a b : Bool} → a ≡ false → b ≡ false → (a || b) ≡ false
        nor x y = ap₂ (λ a b. a || b) x y

    with-front : (cs : List ChunkPayloadData) → are_apart (cs ++ fragments_of_all ms) ≡ true → are_apart (fragments_of_all (filter p ms)) ≡ true
        → are_apart (cs ++ fragments_of_all (filter p ms)) ≡ true
    with-front [] h k = k
    with-front (c ∷ cs) h k =
        let b = both (not (list_any (has_tsn c.tsn) (cs ++ fragments_of_all ms))) (are_apart (cs ++ fragments_of_all ms)) h in
        let n = neither (list_any (has_tsn c.tsn) cs) (list_any (has_tsn c.tsn) (fragments_of_all ms))
        (sym (list_any-append (has_tsn c.tsn) cs (fragments_of_all ms)) ∙ negated (list_any (has_tsn c.tsn) (cs ++ fragments_of_all ms)) b.0) in
        and (not (list_any (has_tsn c.tsn) (cs ++ fragments_of_all (filter p ms)))) (are_apart (cs ++ fragments_of_all (filter p ms)))
        (ap not (list_any-append (has_tsn c.tsn) cs (fragments_of_all (filter p ms)) ∙ ap₂ (λ x y. x || y) n.0 (fewer c.tsn ms n.1)))
        (with-front cs b.1 k)

-- ## What was read

-- of a session whose messages are of chunks that got TSNs, where these are the entries
module _ (on : ℕ → Bool) (first : ℕ) (s : Session) (ns : List Numbered) (sent : List Entry) (line : IsLine ns first sent)
    (indexed : AreIndexedOn on sent) (once : AreOnce sent) (writes : forgotten ns ≡ s.written)
    (reads-on : sessions.AreOn s) (whole : AreMessages s) (from : Every (IsReadFrom sent) s.receiving.read) where
  module _ (k : ℕ) (m : Message) (lt : k < length s.receiving.read) where
    abbrev it : Message
    it = slice_index_or s.receiving.read k m

    complete : is_complete it.fragments ≡ true
    complete = AllPass-from_list_all (λ x. is_complete x.fragments) s.receiving.read whole.0 k m lt

    there : list_all (is_on it.stream) it.fragments ≡ true
    there = AllPass-from_list_all (λ x. list_all (is_on x.stream) x.fragments) s.receiving.read reads-on k m lt

    gave : IsReadFrom sent it
    gave = every-at (IsReadFrom sent) s.receiving.read k m lt from

    -- one of which no fragment but the first begins one
    pub read-single : is_single it.fragments ≡ true → IsReadOf ns sent it
    read-single e = by it.fragments refl
      where
        by : (cs : List ChunkPayloadData) → it.fragments ≡ cs → IsReadOf ns sent it
        by [] is = absurd (not_both (sym (ap is_complete is) ∙ complete))
        by (c ∷ cs) is =
            (single-is ns first sent gave.0 line it complete c cs is (subst (EachSentFrom gave.0 sent) is gave.1) (none-begin cs (ap is_single (sym is) ∙ e))
            (ap (list_all (is_on it.stream)) (sym is) ∙ there)).0

    pub single-steady : on it.stream ≡ true → is_single it.fragments ≡ true
    single-steady o = by it.fragments refl
      where
        by : (cs : List ChunkPayloadData) → it.fragments ≡ cs → is_single it.fragments ≡ true
        by [] is = ap is_single is
        by (c ∷ cs) is =
            ap is_single is
            ∙ none-begins cs (single-on ns first sent gave.0 line on indexed it complete
            (AllPass-from_list_all (λ x. is_one_message x.fragments) s.receiving.read whole.1 k m lt) gave.1 there o c cs is)

  pub writes-single : AreWritesWhereSingle s
  writes-single k m lt e =
      let x = read-single k m lt e in
      (forget x.numbered, subst (λ ws. Contains ws (forget x.numbered)) writes (contains-forgotten ns x.numbered x.written), x.write)

  -- those that are so, each with its write
  singles : (ms : List Message) → All (λ m. is_single m.fragments ≡ true → IsReadOf ns sent m) ms → EachRead ns sent once (single_messages ms)
  singles [] all = tt
  singles (m ∷ ms) all = at-if (λ z. EachRead ns sent once z) (is_single m.fragments)
      (λ e. (all zero m (omega arith) e, singles ms (λ k d lt. all (suc k) d (omega (arith, lt)))))
      (λ e. singles ms (λ k d lt. all (suc k) d (omega (arith, lt))))

  pub each-single : EachRead ns sent once (single_messages s.receiving.read)
  each-single = singles s.receiving.read (λ k m lt. read-single k m lt)

-- where few TSNs were given out, and what was read was made
pub from-made : (on : ℕ → Bool) (sent : List Entry) (s : Session) → length sent < 2 ^ 32 → AreSentOn on sent s.made → AreMade s
    → Every (IsReadFrom sent) s.receiving.read
from-made on sent s few sent-made made =
    every-of-all (IsReadFrom sent) s.receiving.read (λ k m lt. (
      0,
      each-from sent few (slice_index_or s.receiving.read k m).fragments
          (each-sent-on on sent s.made (slice_index_or s.receiving.read k m).fragments sent-made (made k m lt)),
    ))

-- where ordered messages are told apart by their numbers, none is read with another one
apart-single : (s : Session) → AreMessages s → AreMade s → AreToldApart s → AreSingle s
apart-single s whole made told k m lt = by it.fragments refl
  where
    it : Message
    it = slice_index_or s.receiving.read k m

    none : (c : ChunkPayloadData) (cs : List ChunkPayloadData) → completes c cs ≡ true → AreInner c cs
        → Every (λ (d : ChunkPayloadData). Contains s.made (data_chunk (data_of d))) (c ∷ cs)
        → Every (λ (d : ChunkPayloadData). d.beginning_fragment ≡ false) cs
    none c [] e i h = tt
    none c (d ∷ ds) e i h =
        let b = both (d.tsn == following_tsn c.tsn) (completes d ds) e in (
          fails d.beginning_fragment (λ begins.
              let a = i.0 begins in
              told (data_of c) (data_of d) h.0 h.1.0 (same-is d.tsn (following_tsn c.tsn) b.0) begins a.1 a.0 (sym a.2) (sym a.3)),
          none d ds b.1 i.1 h.1,
        )

    by : (cs : List ChunkPayloadData) → (slice_index_or s.receiving.read k m).fragments ≡ cs → is_single (slice_index_or s.receiving.read k m).fragments ≡ true
    by [] is = ap is_single is
    by (c ∷ cs) is =
        let complete = AllPass-from_list_all (λ x. is_complete x.fragments) s.receiving.read whole.0 k m lt in
        let alike = AllPass-from_list_all (λ x. is_one_message x.fragments) s.receiving.read whole.1 k m lt in
        let all = every-of-all (λ (d : ChunkPayloadData). Contains s.made (data_chunk (data_of d))) it.fragments (made k m lt) in
        ap is_single is
        ∙ none-begins cs (none c cs (both c.beginning_fragment (completes c cs) (ap is_complete (sym is) ∙ complete)).1
        (inner-of c cs (ap is_one_message (sym is) ∙ alike))
        (subst (Every (λ (d : ChunkPayloadData). Contains s.made (data_chunk (data_of d)))) is all))

pub told-apart : AfterEachAny (λ calls s. AreToldApart s → AreSingle s)
told-apart reported size tsn max most limits cs s r =
    apart-single s (runs.messages reported size tsn max most limits cs s r) (runs.made reported size tsn max most limits cs s r)

-- ## Streams that go on

-- on a stream that goes on numbers do
pub steady-there : (opened : Bool) (cs : List AnyCall) (q : ℕ) → goes_on opened q cs ≡ true → is_steady cs q ≡ true
steady-there opened cs q e = ap not (none opened cs e)
  where
    renewed : (o : Bool) (c : AnyCall) → breaks o q c ≡ false → renews q c ≡ false
    renewed h0 h1 h2 = grind (arith, nat_tests, common_steps)

    none : (o : Bool) (ks : List AnyCall) → goes_on o q ks ≡ true → list_any (renews q) ks ≡ false
    none o [] h = refl
    none o (c ∷ ks) h =
        let b = both (not (breaks o q c)) (goes_on (o || opens_incoming q c) q ks) h in
        ap₂ (λ x y. x || y) (renewed o c (negated (breaks o q c) b.0)) (none (o || opens_incoming q c) ks b.1)
