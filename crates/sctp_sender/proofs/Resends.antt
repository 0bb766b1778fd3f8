-- The first chunk in flight that is marked for retransmission, and what leaves with messages that are abandoned.
use Rattle.sctp_sender.proofs.Names.{◌≡◌, ℕ, Bool, true, false, List, [], ◌∷◌, ◌++◌, map, Option, Some, None, Result, Ok, Err, refl, ap, sym, subst, ◌∙◌, arith}
use Rattle.sctp_sender.proofs.Names.{IfOk, not, find, if◌then◌else◌, option_map, option_to_list, filter, none-some, negated, both, not_both, ChunkPayloadData}
use Rattle.sctp_sender.proofs.Names.{is_outstanding, has_tail, is_late, to_abandon, Pending, following_tsn, has_tsn, AbandonedMessage, Flight, IsContiguous}
use Rattle.sctp_sender.proofs.Names.{can_resend, has_tail_at, is_outstanding_in, leaving_each, tail_first, with_tail, is_to_resend, is_worn, sent_again}
use Rattle.sctp_sender.proofs.Names.{with_message_lows, OutboundStream}
use Rattle.std.proofs.Common.{Vec, Global}
use Rattle.sctp_sender.specs.Late.{abandoned_with}
use Rattle.sctp_sender.specs.Resending.{count_again, fits, if_it_fits}
use Rattle.sctp_sender.proofs.Lates.{found-passes}
use Rattle.sctp_sender.proofs.Points.{found-place}
use Rattle.sctp_sender.proofs.Runs.{found-at, tsn-at}

module _ (f : Flight) (inv : IsContiguous f) where
  abbrev cs : List ChunkPayloadData
  cs = f.queue.inflight.chunks

  -- a chunk in flight is the one with its TSN
  pub own : (p : ChunkPayloadData → Bool) (c : ChunkPayloadData) → find p cs ≡ Some c → find (has_tsn c.tsn) cs ≡ Some c
  own p c e =
      let h = found-place p cs c e in
      let at = ap (λ (x : ChunkPayloadData). x.tsn) h.2 ∙ tsn-at cs (following_tsn f.acked_tsn) h.0 c (omega (arith, inv.in_range)) inv.run h.1 in
      ap (λ t. find (has_tsn t) cs) at ∙ found-at cs (following_tsn f.acked_tsn) h.0 c (omega (arith, inv.in_range)) inv.run inv.few h.1
      ∙ ap Some (sym h.2)

  pub again : (c : ChunkPayloadData) → find is_to_resend cs ≡ Some c → can_resend c.tsn f ≡ true
  again c e = ap is_outstanding_in (own is_to_resend c e) ∙ (both c.retransmit (is_outstanding c) (found-passes is_to_resend cs c e)).1

  -- ## Something leaves

  left : (o : Option ChunkPayloadData) (c : ChunkPayloadData) (n : ℕ) → o ≡ Some c → c.abandoned ≡ false
      → (gs : List AbandonedMessage) → abandoned_with o n ++ gs ≡ [] → ⊥
  left None c n e stays gs none = absurd (none-some c e)
  left (Some d) c n e stays gs none = let same : d ≡ c = cc in by d.abandoned (ap (λ (x : ChunkPayloadData). x.abandoned) same ∙ stays) none
    where
      by : (b : Bool) → b ≡ false
          → (if b then [] else record { stream = d.stream_identifier; number = d.message_id; bytes = n; is_low = false } ∷ []) ++ gs ≡ [] → ⊥
      by true h z = not_both (sym h)
      by false h z = cc

  tail-open : (o : Option ChunkPayloadData) → has_tail (to_abandon o) f.queue ≡ true → (c : ChunkPayloadData) × (o ≡ Some c) × (c.abandoned ≡ false)
  tail-open None h = absurd (not_both h)
  tail-open (Some c) h = by c.abandoned refl h
    where
      by : (b : Bool) → c.abandoned ≡ b → has_tail (if b then None else Some c.message_id) f.queue ≡ true
          → (d : ChunkPayloadData) × (Some c ≡ Some d) × (d.abandoned ≡ false)
      by true e t = absurd (not_both t)
      by false e t = (c, refl, e)

  module _ (p : ChunkPayloadData → Bool) (stays : (c : ChunkPayloadData) → p c ≡ true → c.abandoned ≡ false) where
    first : (xs : List ChunkPayloadData) (c : ChunkPayloadData) (ys : List ChunkPayloadData) → filter p xs ≡ c ∷ ys → find p xs ≡ Some c
    first [] c ys e = cc
    first (x ∷ xs) c ys e = by (p x) e (first xs c ys)
      where
        by : (b : Bool) → (if b then x ∷ filter p xs else filter p xs) ≡ c ∷ ys → (filter p xs ≡ c ∷ ys → find p xs ≡ Some c)
            → (if b then Some x else find p xs) ≡ Some c
        by true h ih = cc
        by false h ih = ih h

    some : (ts : List ℕ) (ds : List ChunkPayloadData) → filter p cs ≡ ds → ts ≡ map (λ c. c.tsn) ds → leaving_each ts f ≡ [] → ts ≡ []
    some ts [] e is none = is
    some ts (c ∷ ds) e is none =
        let found = first cs c ds e in
        let z = subst (λ us. leaving_each us f ≡ []) is none in
        absurd (left (find (has_tsn c.tsn) cs) c _ (own p c found) (stays c (found-passes p cs c found)) _ z)

    -- where there is one of these chunks, something leaves with them
    pub none-of-them : leaving_each (tail_first (map (λ c. c.tsn) (filter p cs)) f) f ≡ [] → map (λ c. c.tsn) (filter p cs) ≡ []
    none-of-them none = by (with_tail ts f) refl none
      where
        ts : List ℕ
        ts = map (λ (c : ChunkPayloadData). c.tsn) (filter p cs)

        by : (o : Option ℕ) → with_tail ts f ≡ o → leaving_each (option_to_list o ++ ts) f ≡ [] → ts ≡ []
        by None e z = some ts (filter p cs) refl refl z
        by (Some t) e z =
            let h = tail-open (find (has_tsn t) cs) (found-passes (has_tail_at f) ts t e) in
            absurd (left (find (has_tsn t) cs) h.0 _ h.1 h.2 _ z)

-- ## Nothing is answered

pub late-open : (now : ℕ) (q : Pending) (c : ChunkPayloadData) → is_late now q c ≡ true → c.abandoned ≡ false
late-open now q c e = negated c.abandoned (both (not c.abandoned) _ e).0

pub worn-open : (c : ChunkPayloadData) → is_worn c ≡ true → c.abandoned ≡ false
worn-open c e =
    let marked = (both (is_to_resend c) _ e).0 in
    let out = (both c.retransmit (is_outstanding c) marked).1 in
    negated c.abandoned (both (not c.acked) (not c.abandoned) out).1

pub none-on : {E : Type 0} (r : Result (Vec AbandonedMessage Global) E) (f : Flight) (us ts : List ℕ) → us ≡ ts
    → IfOk r (λ a. a.items ≡ leaving_each (tail_first us f) f) → (leaving_each (tail_first ts f) f ≡ [] → ts ≡ [])
    → IfOk r (λ a. a.items ≡ [] → ts ≡ [])
none-on (Ok v) f us ts e h k = λ none. k (ap (λ ws. leaving_each (tail_first ws f) f) (sym e) ∙ sym h ∙ none)
none-on (Err x) f us ts e h k = tt

pub lows-none : (gs : List AbandonedMessage) (ls : List OutboundStream) → with_message_lows gs ls ≡ [] → gs ≡ []
lows-none [] ls e = refl
lows-none (g ∷ gs) ls e = cc

-- ## The chunk that is sent again

pub named : (o : Option ChunkPayloadData) (tsn : ℕ) → Some tsn ≡ option_map (λ c. c.tsn) o → (c : ChunkPayloadData) × (o ≡ Some c) × (tsn ≡ c.tsn)
named None tsn e = absurd (none-some tsn (sym e))
named (Some c) tsn e = (c, refl, cc)

-- what it answers, by what `resend` says of its TSN
module _ (cs : List ChunkPayloadData) (o : Option ChunkPayloadData) (tsn now : ℕ) (is : Some tsn ≡ option_map (λ c. c.tsn) o)
    (own : (c : ChunkPayloadData) → o ≡ Some c → find (has_tsn c.tsn) cs ≡ Some c) where
  marked : (c : ChunkPayloadData) × (o ≡ Some c) × (tsn ≡ c.tsn)
  marked = named o tsn is

  found : find (has_tsn tsn) cs ≡ Some marked.0
  found = ap (λ t. find (has_tsn t) cs) marked.2 ∙ own marked.0 marked.1

  module _ (again : ChunkPayloadData) (answer : (c : ChunkPayloadData) → find (has_tsn tsn) cs ≡ Some c → again ≡ sent_again (count_again c) now c) where
    pub next-answer : Some again ≡ option_map (λ c. sent_again (count_again c) now c) o
    next-answer = ap Some (answer marked.0 found) ∙ sym (ap (option_map (λ c. sent_again (count_again c) now c)) marked.1)

    pub next-tsn : again.tsn ≡ tsn
    next-tsn = ap (λ (c : ChunkPayloadData). c.tsn) (answer marked.0 found) ∙ sym marked.2

  pub same-tsn : (c : ChunkPayloadData) → o ≡ Some c → c.tsn ≡ tsn
  same-tsn c e = let both : Some tsn ≡ Some c.tsn = is ∙ ap (option_map (λ (d : ChunkPayloadData). d.tsn)) e in let h : tsn ≡ c.tsn = cc in sym h

  pub any-marked : o ≡ None → ⊥
  any-marked e = none-some marked.0 (sym e ∙ marked.1)

-- ## It fits

-- what fits is what was found
pub within-is : (room : ℕ) (o : Option ChunkPayloadData) (c : ChunkPayloadData) → if_it_fits room o ≡ Some c → o ≡ Some c
within-is room None c e = e
within-is room (Some d) c e = by (fits room d) e
  where
    by : (b : Bool) → (if b then Some d else None) ≡ Some c → Some d ≡ Some c
    by true h = h
    by false h = absurd (none-some c h)
