-- The chunks that fill a datagram are those of the slots that it takes.
use Rattle.sctp_model.proofs.Names.{◌≡◌, ℕ, zero, suc, ◌+◌, ◌<◌, ◌≤◌, Bool, true, false, List, [], ◌∷◌, ◌++◌, length, map, get_or, Option, Some, None, refl, ap}
use Rattle.sctp_model.proofs.Names.{sym, ◌∙◌, arith, length-append, ◌*◌, if◌then◌else◌, nat_le, is_some, IfSome, not, ◌==◌, subst, nat_tests, numbers_from}
use Rattle.sctp_model.proofs.Names.{pieces, get-snoc_old, get-snoc_new, ChunkPayloadData, data_of, Pending, next_pending, taken_of, after_sends, Setup}
use Rattle.sctp_model.proofs.Names.{LinkRecord, Slot, front, sent_of, slot_at, tsn_of, no_slot, chunk_at, data_fields, after_start, with_slot, send_fragment}
use Rattle.sctp_model.proofs.Names.{send_fragment_of, chunk_length, waiting_at, RefinesPending, further, chunks_taken, following_tsn, under_tsn}
use Rattle.std.specs.Prelude.{◌%◌, ◌^◌}
use Rattle.sctp_data.specs.PayloadData.{Data}
use Rattle.sctp_model.specs.Changes.{send_fragments, fill_datagram, plus, chunk_fits}
use Rattle.sctp_model.specs.Changes.{next_length, next_length_of}
use Rattle.sctp_model.proofs.sender.Shape.{Shape, shape, sent, parts, index, front_of}
use Rattle.sctp_model.proofs.sender.Shapes
use Rattle.sctp_model.proofs.sender.Fronts.{front-none}
use Rattle.sctp_model.specs.refinement.Filling.{leaving, length_shown, fits_in}
use Rattle.sctp_model.proofs.refinement.sending.Sent.{front_is, pending-sent, pending-idle}
use Rattle.sctp_model.proofs.refinement.sending.KindsRun.{Going, going-takes}

-- ## One fragment after another

-- the record after so many fragments
abbrev pub after_fragments : ℕ → LinkRecord → LinkRecord
after_fragments zero w = w
after_fragments (suc n) w = after_fragments n (send_fragment w)

pub after-next : (n : ℕ) (w : LinkRecord) → after_fragments (suc n) w ≡ send_fragment (after_fragments n w)
after-next zero w = refl
after-next (suc n) w = after-next n (send_fragment w)

pub going-after : (setup : Setup) (n : ℕ) (w : LinkRecord) → Going setup w → Going setup (after_fragments n w)
going-after setup zero w g = g
going-after setup (suc n) w g = going-after setup n (send_fragment w) (going-takes setup w g)

-- they change nothing but the slots
slots-alone : (w : LinkRecord) (o : Option ℕ) → send_fragment_of w o ≡ record w { slots = (send_fragment_of w o).slots }
slots-alone w None = refl
slots-alone w (Some n) = refl

pub only-slots : (n : ℕ) (w : LinkRecord) → after_fragments n w ≡ record w { slots = (after_fragments n w).slots }
only-slots zero w = refl
only-slots (suc n) w = cc (only-slots n (send_fragment w), slots-alone w (front w))

-- the slots of before stay
pub slots-longer : (n : ℕ) (w : LinkRecord) → length w.slots ≤ length (after_fragments n w).slots
slots-longer zero w = omega arith
slots-longer (suc n) w = omega (arith, longer (front w), slots-longer n (send_fragment w))
  where
    longer : (o : Option ℕ) → length w.slots ≤ length (send_fragment_of w o).slots
    longer None = omega arith
    longer (Some m) = let new : Slot = record { message = m; fragment = sent_of w m; is_terminal_chunk = false; arrived = false; acknowledged = false } in
        omega (arith, length-append w.slots (new ∷ []))

pub slots-stay : (n p : ℕ) (w : LinkRecord) → p < length w.slots → slot_at (after_fragments n w) p ≡ slot_at w p
slots-stay zero p w lt = refl
slots-stay (suc n) p w lt = slots-stay n p (send_fragment w) (omega (arith, lt, slots-longer 1 w)) ∙ stays (front w)
  where
    stays : (o : Option ℕ) → slot_at (send_fragment_of w o) p ≡ slot_at w p
    stays b = grind (arith, nat_tests, get-snoc_old)

-- ## What a queue shows, against the record

-- these chunks are those of the slots that z has more than w
pub record Fills (w z : LinkRecord) (cs : List ChunkPayloadData) : Type 0 where
  pub all : z ≡ after_fragments (length cs) w
  pub fronts : (i : ℕ) → i < length cs → is_some (front (after_fragments i w)) ≡ true
  pub count : length z.slots ≡ length w.slots + length cs
  pub says : map data_of cs ≡ map (λ p. data_of (chunk_at z p)) (numbers_from (length w.slots) (length cs))

-- nothing more
fills-none : (w : LinkRecord) → Fills w w []
fills-none w = record { all = refl; fronts = λ i lt. absurd (omega arith); count = omega arith; says = refl }

-- one chunk more
fills-more : (w z : LinkRecord) (n : ℕ) (c : ChunkPayloadData) (cs : List ChunkPayloadData) → front w ≡ Some n
    → data_of c ≡ data_fields w n (sent_of w n) (tsn_of w (length w.slots)) → Fills (with_slot w n false) z cs → Fills w z (c ∷ cs)
fills-more w z n c cs fr is f = record {
  all = f.all ∙ ap (after_fragments (length cs)) (sym takes);
  fronts = λ i lt. each i lt;
  count = omega (arith, f.count, longer);
  says = ap (λ d. d ∷ map data_of cs) (is ∙ sym first) ∙ ap (λ l. data_of (chunk_at z (length w.slots)) ∷ l) rest;
}
  where
    new : Slot
    new = record { message = n; fragment = sent_of w n; is_terminal_chunk = false; arrived = false; acknowledged = false }

    takes : send_fragment w ≡ with_slot w n false
    takes = ap (send_fragment_of w) fr

    longer : length (with_slot w n false).slots ≡ length w.slots + 1
    longer = length-append w.slots (new ∷ [])

    each : (i : ℕ) → i < suc (length cs) → is_some (front (after_fragments i w)) ≡ true
    each zero lt = ap is_some fr
    each (suc i) lt = ap (λ y. is_some (front (after_fragments i y))) takes ∙ f.fronts i (omega (arith, lt))

    slot : slot_at z (length w.slots) ≡ new
    slot = cc (f.all, slots-stay (length cs) (length w.slots) (with_slot w n false) (omega (arith, longer)), get-snoc_new w.slots new no_slot)

    same : z ≡ record w { slots = z.slots }
    same = f.all ∙ only-slots (length cs) (with_slot w n false) ∙ ap (λ s. record w { slots = s }) (ap (λ y. y.slots) (sym f.all))

    first : data_of (chunk_at z (length w.slots)) ≡ data_fields w n (sent_of w n) (tsn_of w (length w.slots))
    first =
        ap (λ (y : Slot). data_fields z y.message y.fragment (tsn_of z (length w.slots))) slot
        ∙ ap (λ y. data_fields y n (sent_of w n) (tsn_of y (length w.slots))) same

    rest : map data_of cs ≡ map (λ p. data_of (chunk_at z p)) (numbers_from (length w.slots + 1) (length cs))
    rest = f.says ∙ ap (λ k. map (λ p. data_of (chunk_at z p)) (numbers_from k (length cs))) longer

-- the TSN after it
pub next-tsn : (w : LinkRecord) (n : ℕ) → following_tsn (tsn_of w (length w.slots)) ≡ tsn_of (with_slot w n false) (length (with_slot w n false).slots)
next-tsn w n = let new : Slot = record { message = n; fragment = sent_of w n; is_terminal_chunk = false; arrived = false; acknowledged = false } in
    omega (arith, length-append w.slots (new ∷ []))

-- a queue that shows what the record says fills a datagram with it
pub fill-from : (setup : Setup) (most used tsn : ℕ) (w : LinkRecord) (q : Pending) → Going setup w → RefinesPending w q → tsn ≡ tsn_of w (length w.slots)
    → Fills w (fill_datagram most used w) (further most w.setup.limit used tsn q)
fill-from setup zero used tsn w q g t e = fills-none w
fill-from setup (suc most) used tsn w q g t e = by (λ used' tsn' v r g' t' e'. fill-from setup most used' tsn' v r g' t' e') (front w) refl
  where
    Rest : Type 0
    Rest = (used' tsn' : ℕ) (v : LinkRecord) (r : Pending) → Going setup v → RefinesPending v r → tsn' ≡ tsn_of v (length v.slots)
        → Fills v (fill_datagram most used' v) (further most v.setup.limit used' tsn' r)

    Step : Option ℕ → Option ChunkPayloadData → Type 0
    Step o p =
        Fills w (if chunk_fits w used (next_length_of w o) then fill_datagram most (plus used (next_length_of w o)) (send_fragment_of w o) else w)
        (if fits_in w.setup.limit used (length_shown p)
        then leaving tsn p ++ further most w.setup.limit (plus used (length_shown p)) (following_tsn tsn) (taken_of p q) else [])

    by : Rest → (o : Option ℕ) → front w ≡ o → Step o (next_pending q)
    by rest None fr = subst (Step None) (sym (pending-idle w q t (λ k lt. front-none (shape w) fr k lt))) (fills-none w)
    by rest (Some n) fr = subst (Step (Some n)) (sym shows.0) (test (nat_le (used + more) w.setup.limit))
      where
        c : ChunkPayloadData
        c = waiting_at w n (sent_of w n)

        more : ℕ
        more = chunk_length (length (waiting_at w n (sent_of w n)).user_data)

        shows : (next_pending q ≡ Some c) × RefinesPending (with_slot w n false) (taken_of (Some c) q)
        shows = pending-sent w n (front_is w g.consistent.sender g.turns n fr) q t

        going : Going setup (with_slot w n false)
        going = subst (λ o. Going setup (send_fragment_of w o)) fr (going-takes setup w g)

        test : (b : Bool) → Fills w (if b then fill_datagram most (used + more) (with_slot w n false) else w)
            (if b then leaving tsn (Some c) ++ further most w.setup.limit (used + more) (following_tsn tsn) (taken_of (Some c) q) else [])
        test true =
            fills-more w (fill_datagram most (used + more) (with_slot w n false)) n (under_tsn tsn c)
            (further most w.setup.limit (used + more) (following_tsn tsn) (taken_of (Some c) q)) fr
            (ap (λ k. data_fields w n (sent_of w n) k) e)
            (rest (used + more) (following_tsn tsn) (with_slot w n false) (taken_of (Some c) q) going shows.1 (ap following_tsn e ∙ next-tsn w n))
        test false = fills-none w

-- after so many sends it holds what the record says after so many fragments
pub pending-after : (setup : Setup) (i : ℕ) (w : LinkRecord) (q : Pending) → Going setup w → RefinesPending w q
    → RefinesPending (after_fragments i w) (after_sends i q)
pending-after setup zero w q g t = t
pending-after setup (suc i) w q g t = pending-after setup i (send_fragment w) (taken_of (next_pending q) q) (going-takes setup w g) (by (front w) refl)
  where
    by : (o : Option ℕ) → front w ≡ o → RefinesPending (send_fragment_of w o) (taken_of (next_pending q) q)
    by None fr = subst (λ p. RefinesPending w (taken_of p q)) (sym (pending-idle w q t (λ k lt. front-none (shape w) fr k lt))) t
    by (Some n) fr =
        let shows : (next_pending q ≡ Some (waiting_at w n (sent_of w n))) × RefinesPending (with_slot w n false)
        (taken_of (Some (waiting_at w n (sent_of w n))) q) = pending-sent w n (front_is w g.consistent.sender g.turns n fr) q t in
        subst (λ p. RefinesPending (with_slot w n false) (taken_of p q)) (sym shows.0) shows.1

-- what it shows then is a fragment of the record
pub shown-after : (setup : Setup) (i : ℕ) (w : LinkRecord) (q : Pending) (P : ChunkPayloadData → Type 0) → Going setup w → RefinesPending w q
    → ((n : ℕ) → P (waiting_at (after_fragments i w) n (sent_of (after_fragments i w) n))) → IfSome (next_pending (after_sends i q)) P
shown-after setup i w q P g t each = by (front (after_fragments i w)) refl
  where
    r : RefinesPending (after_fragments i w) (after_sends i q)
    r = pending-after setup i w q g t

    z : Going setup (after_fragments i w)
    z = going-after setup i w g

    by : (o : Option ℕ) → front (after_fragments i w) ≡ o → IfSome (next_pending (after_sends i q)) P
    by None fr =
        subst (λ p. IfSome p P) (sym (pending-idle (after_fragments i w) (after_sends i q) r (λ k lt. front-none (shape (after_fragments i w)) fr k lt))) tt
    by (Some n) fr = subst (λ p. IfSome p P)
        (sym (pending-sent (after_fragments i w) n (front_is (after_fragments i w) z.consistent.sender z.turns n fr) (after_sends i q) r).0) (each n)

-- a Send takes what the queue shows
pub fill-sent : (setup : Setup) (tsn n : ℕ) (w : LinkRecord) (q : Pending) → Going setup w → RefinesPending w q → front w ≡ Some n
    → tsn ≡ tsn_of w (length w.slots) → Fills w (send_fragments w) (chunks_taken w.setup.limit tsn q)
fill-sent setup tsn n w q g t fr e = subst (λ o. Takes o (next_pending q)) (sym fr) (subst (Takes (Some n)) (sym shows.0) one)
  where
    c : ChunkPayloadData
    c = waiting_at w n (sent_of w n)

    shows : (next_pending q ≡ Some c) × RefinesPending (with_slot w n false) (taken_of (Some c) q)
    shows = pending-sent w n (front_is w g.consistent.sender g.turns n fr) q t

    more : ℕ
    more = chunk_length (length (waiting_at w n (sent_of w n)).user_data)

    Takes : Option ℕ → Option ChunkPayloadData → Type 0
    Takes o p =
        Fills w (fill_datagram w.setup.limit (plus 12 (next_length_of w o)) (send_fragment_of w o))
        (leaving tsn p ++ further w.setup.limit w.setup.limit (plus 12 (length_shown p)) (following_tsn tsn) (taken_of p q))

    one : Takes (Some n) (Some c)
    one =
        fills-more w (fill_datagram w.setup.limit (12 + more) (with_slot w n false)) n (under_tsn tsn c)
        (further w.setup.limit w.setup.limit (12 + more) (following_tsn tsn) (taken_of (Some c) q)) fr
        (ap (λ k. data_fields w n (sent_of w n) k) e)
        (fill-from setup w.setup.limit (12 + more) (following_tsn tsn) (with_slot w n false) (taken_of (Some c) q)
        (subst (λ o. Going setup (send_fragment_of w o)) fr (going-takes setup w g)) shows.1 (ap following_tsn e ∙ next-tsn w n))

-- ## Lifetimes start first

-- what the next fragment is rests on the shape of the record
abbrev next_by : Shape → Option ℕ → Option ℕ
next_by y None = None
next_by y (Some n) = Some (chunk_length (length (get_or (pieces (length (y.message n).bytes) y.size (y.message n).bytes) (sent y n) [])))

next-shape : (w : LinkRecord) (o : Option ℕ) → next_length_of w o ≡ next_by (shape w) o
next-shape w None = refl
next-shape w (Some n) = refl

front-started : (w : LinkRecord) (now : ℕ) → front (after_start w now) ≡ front w
front-started w now = ap front_of (Shapes.shape-started w now)

next-started : (w : LinkRecord) (now : ℕ) → next_length (after_start w now) ≡ next_length w
next-started w now = next-shape (after_start w now) (front (after_start w now)) ∙ ap (λ y. next_by y (front_of y)) (Shapes.shape-started w now)
    ∙ sym (next-shape w (front w))

fragment-started : (w : LinkRecord) (now : ℕ) → send_fragment (after_start w now) ≡ after_start (send_fragment w) now
fragment-started w now = grind (arith, nat_tests, front-started)

pub after-started : (n : ℕ) (w : LinkRecord) (now : ℕ) → after_fragments n (after_start w now) ≡ after_start (after_fragments n w) now
after-started zero w now = refl
after-started (suc n) w now = ap (after_fragments n) (fragment-started w now) ∙ after-started n (send_fragment w) now

filled-started : (most used : ℕ) (w : LinkRecord) (now : ℕ) → fill_datagram most used (after_start w now) ≡ after_start (fill_datagram most used w) now
filled-started zero used w now = refl
filled-started (suc most) used w now =
    cc (next-started w now, fragment-started w now, by (next_length w) (λ used'. filled-started most used' (send_fragment w) now))
  where
    by : (o : Option ℕ)
        → ((used' : ℕ) → fill_datagram most used' (after_start (send_fragment w) now) ≡ after_start (fill_datagram most used' (send_fragment w)) now)
        → (if chunk_fits (after_start w now) used o then fill_datagram most (plus used o) (after_start (send_fragment w) now) else after_start w now)
        ≡ after_start (if chunk_fits w used o then fill_datagram most (plus used o) (send_fragment w) else w) now
    by b rest = grind (arith, nat_tests)

pub sent-started : (w : LinkRecord) (now : ℕ) → send_fragments (after_start w now) ≡ after_start (send_fragments w) now
sent-started w now = cc (next-started w now, fragment-started w now, filled-started w.setup.limit (plus 12 (next_length w)) (send_fragment w) now)

-- what a chunk says does not rest on lifetimes
abbrev data_by : Shape → ℕ → ℕ → ℕ → Data
data_by y n i tsn =
    record {
      unordered = not (y.message n).ordered;
      beginning_fragment = i == 0;
      ending_fragment = i + 1 == parts y n;
      immediate_sack = false;
      tsn = tsn;
      stream_identifier = (y.message n).stream;
      stream_sequence_number = (if (y.message n).ordered then index y n else (y.message n).before) % 2 ^ 16;
      payload_type = (y.message n).ppi;
      user_data = get_or (pieces (length (y.message n).bytes) y.size (y.message n).bytes) i [];
    }

pub data-started : (w : LinkRecord) (now n i tsn : ℕ) → data_fields (after_start w now) n i tsn ≡ data_fields w n i tsn
data-started w now n i tsn = ap (λ y. data_by y n i tsn) (Shapes.shape-started w now)

-- so the datagram of a Send says what was taken from the queue
pub fill-started : (w z : LinkRecord) (now : ℕ) (cs : List ChunkPayloadData) → Fills w z cs → Fills (after_start w now) (after_start z now) cs
fill-started w z now cs f = record {
  all = ap (λ v. after_start v now) f.all ∙ sym (after-started (length cs) w now);
  fronts = λ i lt. ap (λ v. is_some (front v)) (after-started i w now) ∙ ap is_some (front-started (after_fragments i w) now) ∙ f.fronts i lt;
  count = f.count;
  says = f.says ∙ map-same (numbers_from (length w.slots) (length cs));
}
  where
    map-same : (ps : List ℕ) → map (λ p. data_of (chunk_at z p)) ps ≡ map (λ p. data_of (chunk_at (after_start z now) p)) ps
    map-same [] = refl
    map-same (p ∷ ps) = cc (data-started z now (slot_at z p).message (slot_at z p).fragment (tsn_of z p), map-same ps)

-- ## The turns

-- a chunk has at least 16 bytes: none fits where fewer are left
none-fits : (most limit used tsn : ℕ) (q : Pending) → limit < used + 16 → further most limit used tsn q ≡ []
none-fits zero limit used tsn q short = refl
none-fits (suc most) limit used tsn q short = grind (arith, nat_tests)

-- so no more turns are of use than the limit has room for
pub turns-enough : (most more limit used tsn : ℕ) (q : Pending) → limit < used + 16 * (most + 1)
    → further (most + more) limit used tsn q ≡ further most limit used tsn q
turns-enough zero more limit used tsn q short = none-fits (zero + more) limit used tsn q (omega (arith, short))
turns-enough (suc most) more limit used tsn q short =
    let count : suc most + more ≡ suc (most + more) = omega arith in
    ap (λ k. further k limit used tsn q) count ∙ by (λ used' r low. turns-enough most more limit used' (following_tsn tsn) r low) (next_pending q)
  where
    by : ((used' : ℕ) (r : Pending) → limit < used' + 16 * (most + 1) → further (most + more) limit used' (following_tsn tsn) r
        ≡ further most limit used' (following_tsn tsn) r) → (p : Option ChunkPayloadData) → (if fits_in limit used (length_shown p)
        then leaving tsn p ++ further (most + more) limit (plus used (length_shown p)) (following_tsn tsn) (taken_of p q) else [])
        ≡ (if fits_in limit used (length_shown p) then leaving tsn p ++ further most limit (plus used (length_shown p)) (following_tsn tsn) (taken_of p q)
        else [])
    by rest None = refl
    by rest (Some c) = cc (rest (used + chunk_length (length c.user_data)) (taken_of (Some c) q) (omega (arith, short)))
