-- The fragments of a write wait one behind another, and together have its bytes.
use Rattle.sctp_delivery.proofs.Names.{common_steps, ◌≡◌, ℕ, zero, suc, ◌+◌, ◌<◌, ◌≤◌, true, false, List, [], ◌∷◌, ◌++◌, length, map, take, drop, refl, ap, sym}
use Rattle.sctp_delivery.proofs.Names.{subst, ◌∙◌, arith, ◌==◌, if◌then◌else◌, slice_index_or, nat_tests, append_assoc, always, numbers_where, pieces, same-is}
use Rattle.sctp_delivery.proofs.Names.{ChunkPayloadData, PayloadProtocolIdentifier, data_of, with_message_id, fragments_with_mode, OutboundStream, pieces_of}
use Rattle.sctp_util.specs.Kept.{numbers_from}
use Rattle.sctp_util.proofs.Getting.{map-twice}
use Rattle.sctp_util.proofs.Lines.{take-drop}
use Rattle.sctp_sender.proofs.SenderStreams.{fragments-made, made}
use Rattle.sctp_delivery.proofs.Sent.{Fits, Numbered}
use Rattle.sctp_delivery.proofs.Turns.{Turns, counts, inner-not, number_after}
use Rattle.sctp_delivery.proofs.Waiting.{Goes, Place, Waits, between, within}

-- ## Pieces

abbrev pub joined : List (List ℕ) → List ℕ
joined [] = []
joined (p ∷ ps) = p ++ joined ps

shorter : (i : ℕ) (xs : List ℕ) (most : ℕ) → length xs ≤ most → length (drop i xs) ≤ most
shorter zero xs most le = le
shorter (suc i) [] most le = le
shorter (suc i) (y ∷ ys) most le = shorter i ys most (omega arith)

pieces-joined : (most size : ℕ) (bytes : List ℕ) → 0 < size → length bytes ≤ most → joined (pieces most size bytes) ≡ bytes
pieces-joined zero size [] some le = refl
pieces-joined zero size (x ∷ xs) some le = absurd (omega arith)
pieces-joined (suc most) size [] some le = refl
pieces-joined (suc most) zero (x ∷ xs) some le = absurd (omega arith)
pieces-joined (suc most) (suc size) (x ∷ xs) some le =
    let less : length (drop (suc size) (x ∷ xs)) ≤ most = shorter size xs most (omega arith) in
    ap (λ ys. take (suc size) (x ∷ xs) ++ ys) (pieces-joined most (suc size) (drop (suc size) (x ∷ xs)) some less) ∙ take-drop (suc size) (x ∷ xs)

-- what stands before a place, and what from there on
joined-both : (ps : List (List ℕ)) (j : ℕ) → joined ps ≡ joined (take j ps) ++ joined (drop j ps)
joined-both ps zero = refl
joined-both [] (suc j) = refl
joined-both (p ∷ ps) (suc j) = ap (λ bs. p ++ bs) (joined-both ps j) ∙ sym (append_assoc p (joined (take j ps)) (joined (drop j ps)))

-- from a place on
joined-from : (ps : List (List ℕ)) (j : ℕ) → j < length ps → joined (drop j ps) ≡ slice_index_or ps j [] ++ joined (drop (j + 1) ps)
joined-from [] j lt = absurd (omega (arith, lt))
joined-from (p ∷ ps) zero lt = refl
joined-from (p ∷ ps) (suc j) lt =
    let next : suc j + 1 ≡ suc (j + 1) = omega arith in
    joined-from ps j (omega (arith, lt)) ∙ ap (λ k. slice_index_or ps j [] ++ joined (drop k (p ∷ ps))) (sym next)

drop-all : (ps : List (List ℕ)) (j : ℕ) → length ps ≤ j → drop j ps ≡ []
drop-all [] zero le = refl
drop-all [] (suc j) le = refl
drop-all (p ∷ ps) zero le = absurd (omega (arith, le))
drop-all (p ∷ ps) (suc j) le = drop-all ps j (omega (arith, le))

-- ## The fragments

module _ (ws : List Numbered) (n : ℕ) (l : OutboundStream) (ppi : PayloadProtocolIdentifier) (bytes : List ℕ) (some : 0 < l.max_payload_size) where
  abbrev write : Numbered
  write = record { stream = l.stream_identifier; payload_type = ppi; bytes = bytes; place = n }

  abbrev ps : List (List ℕ)
  ps = pieces_of l bytes

  abbrev pub nth : ℕ → ChunkPayloadData
  nth i = with_message_id n (made l ppi bytes i)

  abbrev left : ℕ → List ℕ
  left j = joined (drop (j + 1) ps)

  fits : (j : ℕ) → j < length ps → Fits (write ∷ ws) (nth j).tsn (data_of (nth j)) write (left j)
  fits j lt = record {
    written = (0, omega arith, refl);
    number = refl;
    stream = refl;
    payload = refl;
    begins = λ b.
        let z : j ≡ 0 = same-is j 0 b in
        sym (pieces-joined (length bytes) l.max_payload_size bytes some (omega arith)) ∙ ap (λ i. joined (drop i ps)) (sym z) ∙ joined-from ps j lt;
    part = (
      joined (take j ps),
      sym (pieces-joined (length bytes) l.max_payload_size bytes some (omega arith)) ∙ joined-both ps j
          ∙ ap (λ bs. joined (take j ps) ++ bs) (joined-from ps j lt),
    );
    ends = λ e. let z : j + 1 ≡ length ps = same-is (j + 1) (length ps) e in ap joined (drop-all ps (j + 1) (omega (arith, z)));
  }

  waits-from : (j k : ℕ) (p : Place) → j + suc k ≡ length ps → Goes p (nth j) write (left j) → Waits (write ∷ ws) (map nth (numbers_where always j (suc k))) p
  waits-from j zero p e g =
      let last : (j + 1 == length ps) ≡ true = (let z : j + 1 ≡ length ps = omega (arith, e) in grind (arith, nat_tests)) in (
        write,
        left j,
        (
          fits j (omega (arith, e)),
          (g, subst (λ b. Waits (write ∷ ws) [] (if b then between else within n l.sequence_number (nth j).unordered write (left j))) (sym last) tt),
        ),
      )
  waits-from j (suc k) p e g =
      let more : (j + 1 == length ps) ≡ false = (let z : j + 1 < length ps = omega (arith, e) in grind (arith, nat_tests)) in
      let rest = waits-from (j + 1) k (within n l.sequence_number (nth j).unordered write (left j)) (omega (arith, e)) (record {
        message = refl;
        inner = grind (arith, nat_tests);
        write = refl;
        bytes = joined-from ps (j + 1) (omega (arith, e));
        same_number = refl;
        same_kind = refl;
      }) in (
        write,
        left j,
        (
          fits j (omega (arith, e)),
          (
            g,
            subst (λ b. Waits (write ∷ ws) (map nth (numbers_where always (j + 1) (suc k))) (if b then between
                else within n l.sequence_number (nth j).unordered write (left j))) (sym more) rest,
          ),
        ),
      )

  turns-later : (r m j k : ℕ) → 0 < j → Turns r (map nth (numbers_where always j k)) m m
  turns-later r m j zero lt = refl
  turns-later r m j (suc k) lt = grind (arith, nat_tests, common_steps, inner-not, turns-later r m (j + 1) k (omega arith))

  numbered : (k : ℕ) → length ps ≡ k → map (with_message_id n) (fragments_with_mode l ppi bytes) ≡ map nth (numbers_where always 0 k)
  numbered k e = ap (map (with_message_id n)) (fragments-made l ppi bytes) ∙ map-twice (with_message_id n) (made l ppi bytes) (numbers_from 0 (length ps))
      ∙ ap (λ i. map nth (numbers_from 0 i)) e

  pub fragments-wait : (k : ℕ) → length ps ≡ suc k → Waits (write ∷ ws) (map (with_message_id n) (fragments_with_mode l ppi bytes)) between
  fragments-wait k e = subst (λ cs. Waits (write ∷ ws) cs between) (sym (numbered (suc k) e)) (waits-from 0 k between (omega (arith, e)) (refl, refl))

  -- they take one number, where they begin a message of the stream
  pub fragments-turn : (k r m : ℕ) → length ps ≡ suc k → (counts r (nth 0) ≡ true → l.sequence_number ≡ m)
      → Turns r (map (with_message_id n) (fragments_with_mode l ppi bytes)) m (number_after (counts r (nth 0)) m)
  fragments-turn k r m e is =
      subst (λ cs. Turns r cs m (number_after (counts r (nth 0)) m)) (sym (numbered (suc k) e))
      (is, turns-later r (number_after (counts r (nth 0)) m) (0 + 1) k (omega arith))
