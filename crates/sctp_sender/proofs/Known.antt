-- What is known to be acknowledged stays so.
use Rattle.sctp_sender.proofs.Names.{◌≡◌, ℕ, suc, ◌<◌, Bool, true, false, List, [], ◌∷◌, ◌++◌, length, map, take, drop, get_or, Option, Some, None, refl, ap}
use Rattle.sctp_sender.proofs.Names.{sym, ◌∙◌, subst, inl, inr, arith, if◌then◌else◌, cases_lt, false≢true, get_or-map, get_or_append_left, get_or_past}
use Rattle.sctp_sender.proofs.Names.{length-map, map-append, take-append-drop, change_where, length-change_where, ChunkPayloadData, GapAckBlock, as_abandoned}
use Rattle.sctp_sender.proofs.Names.{is_of, Outbound, abandoned_of, all_started, as_sent, expired_of, sent_next, sent_of, terminal_chunk, with_terminal_chunk}
use Rattle.sctp_sender.proofs.Names.{is_in_blocks, last_removed, next_pending, following_tsn, Flight, IsContiguous, tsns_from, AreKnown}
use Rattle.sctp_outbound.specs.payload_queue.PayloadQueue as payload
use Rattle.sctp_sender.proofs.Flights.{started-inflight}
use Rattle.sctp_sender.proofs.InLine.{put-behind}
use Rattle.sctp_sender.proofs.Runs.{IsRunFrom, changed-run}

abbrev flags : List ChunkPayloadData → List Bool
flags cs = map (λ c. c.acked) cs

pub changed-flags : (p : ChunkPayloadData → Bool) (f : ChunkPayloadData → ChunkPayloadData) → ((c : ChunkPayloadData) → (f c).acked ≡ c.acked)
    → (cs : List ChunkPayloadData) → flags (change_where p f cs) ≡ flags cs
changed-flags p f same [] = refl
changed-flags p f same (c ∷ cs) = by (p c) (changed-flags p f same cs)
  where
    by : (b : Bool) → flags (change_where p f cs) ≡ flags cs → flags ((if b then f c else c) ∷ change_where p f cs) ≡ flags (c ∷ cs)
    by true ih = ap (λ a. a ∷ flags (change_where p f cs)) (same c) ∙ ap (λ bits. c.acked ∷ bits) ih
    by false ih = ap (λ bits. c.acked ∷ bits) ih

module _ (bs : List GapAckBlock) (cs : List ChunkPayloadData) (known : AreKnown bs cs) where
  pub same-known : (ds : List ChunkPayloadData) → flags ds ≡ flags cs → AreKnown bs ds
  same-known ds e k h = ap (λ bits. get_or bits k false) e ∙ known k h

  pub changed-known : (p : ChunkPayloadData → Bool) (f : ChunkPayloadData → ChunkPayloadData) → ((c : ChunkPayloadData) → (f c).acked ≡ c.acked)
      → AreKnown bs (change_where p f cs)
  changed-known p f same = same-known (change_where p f cs) (changed-flags p f same cs)

  pub part-changed-known : (p : ChunkPayloadData → Bool) (f : ChunkPayloadData → ChunkPayloadData) → ((c : ChunkPayloadData) → (f c).acked ≡ c.acked)
      → (i : ℕ) → AreKnown bs (change_where p f (take i cs) ++ drop i cs)
  part-changed-known p f same i = same-known (change_where p f (take i cs) ++ drop i cs)
      (map-append (λ (c : ChunkPayloadData). c.acked) (change_where p f (take i cs)) (drop i cs)
      ∙ ap (λ bits. bits ++ flags (drop i cs)) (changed-flags p f same (take i cs))
      ∙ sym (map-append (λ (c : ChunkPayloadData). c.acked) (take i cs) (drop i cs)) ∙ ap flags (take-append-drop i cs))

  pub more-known : (ds : List ChunkPayloadData) (x : ChunkPayloadData) → flags ds ≡ flags cs → AreKnown bs (ds ++ x ∷ [])
  more-known ds x e k h = elim (cases_lt k (length (flags ds))) [
    | inl lt ↦
        ap (λ bits. get_or bits k false) (map-append (λ (c : ChunkPayloadData). c.acked) ds (x ∷ [])) ∙ get_or_append_left (flags ds) (x.acked ∷ []) false k lt
        ∙ same-known ds e k h
    | inr ge ↦ absurd (false≢true (sym (get_or_past (flags ds) k false ge) ∙ same-known ds e k h))
  ]

pub sent-known : (bs : List GapAckBlock) (f : Flight) → IsContiguous f → AreKnown bs f.queue.inflight.chunks → (now : ℕ) (then' : Outbound)
    → then' ≡ sent_next f.queue f.next_tsn now → AreKnown bs then'.inflight.chunks
sent-known bs f inv known now then' is = subst (λ (o : Outbound). AreKnown bs o.inflight.chunks) (sym is) (by (next_pending (all_started now f.queue).pending))
  where
    same : (all_started now f.queue).inflight.chunks ≡ f.queue.inflight.chunks
    same = ap (λ (p : payload.Payload). p.chunks) (started-inflight now f.queue)

    by : (o : Option ChunkPayloadData) → AreKnown bs (sent_of o (all_started now f.queue) f.next_tsn now).inflight.chunks
    by None = subst (AreKnown bs) (sym same) known
    by (Some c) =
        let xs = (all_started now f.queue).inflight.chunks in
        let n = ap length same in
        let at-end = put-behind (as_sent f.next_tsn now c) xs (following_tsn f.acked_tsn) (omega arith) (omega (arith, n, inv.few))
        (subst (IsRunFrom (following_tsn f.acked_tsn)) (sym same) inv.run) (let next = inv.next in omega (arith, next, n)) in
        subst (AreKnown bs) (sym at-end) (more-known bs f.queue.inflight.chunks known xs (as_sent f.next_tsn now c) (ap flags same))

pub abandoned-known : (bs : List GapAckBlock) (f : Flight) → IsContiguous f → AreKnown bs f.queue.inflight.chunks → (o : Option ℕ) (then' : Outbound)
    → then' ≡ abandoned_of o f.next_tsn f.queue → AreKnown bs then'.inflight.chunks
abandoned-known bs f inv known None then' is = subst (λ (o : Outbound). AreKnown bs o.inflight.chunks) (sym is) known
abandoned-known bs f inv known (Some m) then' is = subst (λ (o : Outbound). AreKnown bs o.inflight.chunks) (sym is) (by (last_removed m f.queue.pending))
  where
    xs : List ChunkPayloadData
    xs = change_where (is_of m) as_abandoned f.queue.inflight.chunks

    same : flags xs ≡ flags f.queue.inflight.chunks
    same = changed-flags (is_of m) as_abandoned (λ c. refl) f.queue.inflight.chunks

    n : length xs ≡ length f.queue.inflight.chunks
    n = length-change_where (is_of m) as_abandoned f.queue.inflight.chunks

    run : IsRunFrom (following_tsn f.acked_tsn) xs
    run = changed-run (is_of m) as_abandoned (λ c. refl) f.queue.inflight.chunks ∙ inv.run ∙ ap (tsns_from (following_tsn f.acked_tsn)) (sym n)

    by : (o : Option ChunkPayloadData) → AreKnown bs (with_terminal_chunk o f.next_tsn (payload.with_chunks f.queue.inflight xs)).chunks
    by None = same-known bs f.queue.inflight.chunks known xs same
    by (Some c) =
        let t = terminal_chunk f.next_tsn c in
        let at-end = put-behind t xs (following_tsn f.acked_tsn) (omega arith)
        (omega (arith, n, inv.few)) run (let next = inv.next in omega (arith, next, n)) in
        subst (AreKnown bs) (sym at-end) (more-known bs f.queue.inflight.chunks known xs t same)

pub started-known : (bs : List GapAckBlock) (q r : Outbound) (now : ℕ) → r ≡ all_started now q → AreKnown bs q.inflight.chunks → AreKnown bs r.inflight.chunks
started-known bs q r now is known = subst (λ (o : Outbound). AreKnown bs o.inflight.chunks) (sym is)
    (subst (λ (p : payload.Payload). AreKnown bs p.chunks) (sym (started-inflight now q)) known)

pub expired-known : (bs : List GapAckBlock) (q r : Outbound) (o : Option ChunkPayloadData) → r ≡ expired_of o q → AreKnown bs q.inflight.chunks
    → AreKnown bs r.inflight.chunks
expired-known bs q r None is known = subst (λ (o : Outbound). AreKnown bs o.inflight.chunks) (sym is) known
expired-known bs q r (Some c) is known = subst (λ (o : Outbound). AreKnown bs o.inflight.chunks) (sym is) known

pub none-known : (cs : List ChunkPayloadData) → AreKnown [] cs
none-known cs k h = absurd (false≢true h)

-- the chunk at a distance that they report
pub known-at : (bs : List GapAckBlock) (cs : List ChunkPayloadData) → AreKnown bs cs → (k : ℕ) (d : ChunkPayloadData) → is_in_blocks bs (suc k) ≡ true
    → (k < length cs) × ((get_or cs k d).acked ≡ true)
known-at bs cs known k d h =
    let yes = known k h in
    let n = length-map cs (λ (c : ChunkPayloadData). c.acked) in
    let lt : k < length cs = elim (cases_lt k (length cs)) [
      | inl lt ↦ lt
      | inr ge ↦ absurd (false≢true (sym (get_or_past (flags cs) k false (omega (arith, n, ge))) ∙ yes))
    ] in (lt, sym (get_or-map (λ (c : ChunkPayloadData). c.acked) cs k d false lt) ∙ yes)
