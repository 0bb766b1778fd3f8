-- What the receiver's laws speak of: the shape of the record, what arrived, what was read, and what each stream knows.
use Rattle.sctp_model.proofs.Names.{◌≡◌, ℕ, ◌+◌, ◌<◌, Bool, true, false, List, [], ◌∷◌, ◌++◌, length, map, take, drop, Option, Some, None, refl, ap, sym, ◌∙◌}
use Rattle.sctp_model.proofs.Names.{fun_ext, if◌then◌else◌, ◌==◌, ◌&&◌, ◌||◌, not, nat_lt, nat_le, find, is_some, unwrap_or, max, list_any, filter}
use Rattle.sctp_model.proofs.Names.{numbers_where, leading, first_of, or_else, not_both, changed-same, changed-other, ReliabilityType, StreamRecord, Sack}
use Rattle.sctp_model.proofs.Names.{Report, LinkRecord, no_stream, no_slot, no_message, stream_at, stream_of, arrived_at, greatest, same-is, get-changed}
use Rattle.sctp_model.proofs.Names.{get-numbered, arith, nat_tests}
use Rattle.sctp_model.specs.Messages
use Rattle.sctp_model.specs.Changes
use Rattle.sctp_model.proofs.sender.Shape.{Shape, shape, has, parts, on, index}
use Rattle.sctp_model.proofs.sender.Shapes
use Rattle.sctp_model.proofs.sender.SenderRun.{found}
use Rattle.sctp_model.proofs.receiver.Arrivals.{with_arrived}

pub record View : Type 0 where
  pub x : Shape
  pub arrived : ℕ → Bool
  pub read : ℕ → Bool
  -- of each stream
  pub named : ℕ → ℕ
  pub complete : ℕ → List ℕ
  pub skipped : ℕ

abbrev pub view : LinkRecord → View
view w = record {
  x = shape w;
  arrived = arrived_at w;
  read = λ n. (Messages.message_at w n).read;
  named = λ s. (stream_of w s).named;
  complete = λ s. (stream_of w s).complete;
  skipped = w.skipped;
}

-- ## The words of the record

abbrev pub has_come : View → ℕ → ℕ → Bool
has_come v n p = has v.x n p && v.arrived p

abbrev pub come_count : View → ℕ → ℕ
come_count v n = length (numbers_where (has_come v n) 0 v.x.slots)

abbrev pub all_come : View → ℕ → Bool
all_come v n = come_count v n == parts v.x n

abbrev pub complete_at : View → ℕ → Bool
complete_at v n = if (v.x.message n).ordered then all_come v n else v.read n || list_any (λ k. k == n) (v.complete (v.x.message n).stream)

abbrev pub line : View → ℕ → List ℕ
line v s = numbers_where (on v.x s) 0 v.x.count

abbrev pub run : View → ℕ → List ℕ
run v s = filter (complete_at v) (take (v.named s) (line v s)) ++ leading (complete_at v) (drop (v.named s) (line v s))

abbrev pub next : View → ℕ → ℕ
next v s = v.named s + length (leading v.read (drop (v.named s) (line v s)))

abbrev pub next_read : View → ℕ → Option ℕ
next_read v s = or_else (first_of (v.complete s)) (first_of (filter (λ n. not (v.read n)) (run v s)))

abbrev pub held : View → ℕ → ℕ → Bool
held v s n = on v.x s n && (not (v.read n) && (nat_lt 0 (come_count v n) && (complete_at v n || nat_le (v.named s) (index v.x n))))

-- ## Changes of a view

-- the slot at this place arrives
abbrev pub arrived_in : View → ℕ → View
arrived_in v p = record v { arrived = λ k. if k == p then true else v.arrived k }

-- message n of stream s became complete
abbrev pub noted_in : View → ℕ → ℕ → View
noted_in v s n = record v { complete = λ t. if t == s then v.complete t ++ n ∷ [] else v.complete t }

-- a skip that counts
abbrev pub named_more : View → List ℕ → ℕ → ℕ
named_more v names s = greatest (v.named s) (map (λ n. index v.x n + 1) (filter (on v.x s) names))

abbrev pub skipped_in : View → ℕ → List ℕ → View
skipped_in v upto names = record v { named = named_more v names; skipped = upto + 1 }

-- message n is read on stream s
abbrev pub read_in : View → ℕ → ℕ → View
read_in v s n = record v { read = λ k. if k == n then true else v.read k; complete = λ t. if t == s then drop 1 (v.complete t) else v.complete t }

-- ## Streams

-- the change of a record, where there is one
abbrev pub Changed : (StreamRecord → StreamRecord) → Option StreamRecord → Option StreamRecord
Changed f None = None
Changed f (Some r) = Some (f r)

-- what a change of each stream makes of the record found
pub find-mapped : (f : StreamRecord → StreamRecord) → ((r : StreamRecord) → (f r).stream ≡ r.stream) → (t : ℕ) (rs : List StreamRecord)
    → find (λ r. r.stream == t) (map f rs) ≡ (Changed f (find (λ r. r.stream == t) rs))
find-mapped f keeps t [] = refl
find-mapped f keeps t (r ∷ rs) = grind (arith, nat_tests, (find-mapped f keeps t rs))

-- a field of the record of a stream, where the change leaves it
pub field-kept : {A : Type 0} (g : StreamRecord → A) (f : StreamRecord → StreamRecord) → ((r : StreamRecord) → (f r).stream ≡ r.stream)
    → ((r : StreamRecord) → g (f r) ≡ g r) → (w : LinkRecord) (t : ℕ) → g (stream_of (record w { streams = map f w.streams }) t) ≡ g (stream_of w t)
field-kept {A} g f keeps same w t = grind (arith, nat_tests, find-mapped)

pub find-more : (s t : ℕ) (rs : List StreamRecord) → is_some (find (λ r. r.stream == s) rs) ≡ false
    → unwrap_or (find (λ r. r.stream == t) (rs ++ no_stream s ∷ [])) (no_stream t) ≡ unwrap_or (find (λ r. r.stream == t) rs) (no_stream t)
find-more s t [] e = grind (arith, nat_tests)
find-more s t (r ∷ rs) e = step (r.stream == s) e (λ h. find-more s t rs h) (r.stream == t)
  where
    step : (a : Bool) → is_some (if a then Some r else find (λ r. r.stream == s) rs) ≡ false → (is_some (find (λ r. r.stream == s) rs) ≡ false
        → unwrap_or (find (λ r. r.stream == t) (rs ++ no_stream s ∷ [])) (no_stream t) ≡ unwrap_or (find (λ r. r.stream == t) rs) (no_stream t)) → (b : Bool)
        → unwrap_or (if b then Some r else find (λ r. r.stream == t) (rs ++ no_stream s ∷ []))
        (no_stream t) ≡ unwrap_or (if b then Some r else find (λ r. r.stream == t) rs) (no_stream t)
    step a h1 h2 b = grind (arith, nat_tests)

-- ## The view after each change

abbrev view_by : Shape → (ℕ → Bool) → (ℕ → Bool) → (ℕ → ℕ) → (ℕ → List ℕ) → ℕ → View
view_by x arrived read named complete skipped = record { x = x; arrived = arrived; read = read; named = named; complete = complete; skipped = skipped }

view-streams : (w : LinkRecord) (rs : List StreamRecord) (named : ℕ → ℕ) (complete : ℕ → List ℕ)
    → ((t : ℕ) → (stream_of (record w { streams = rs }) t).named ≡ named t) → ((t : ℕ) → (stream_of (record w { streams = rs }) t).complete ≡ complete t)
    → view (record w { streams = rs }) ≡ record (view w) { named = named; complete = complete }
view-streams w rs named complete a b = cc (fun_ext a, fun_ext b)

pub view-opened : (w : LinkRecord) (s : ℕ) → Messages.is_open w s ≡ false → view (Changes.after_open w s) ≡ view w
view-opened w s e = grind (arith, nat_tests, find-more)

pub either-keeps : {A : Type 0} (g : StreamRecord → A) (f : StreamRecord → StreamRecord) → ((r : StreamRecord) → g (f r) ≡ g r) → (s : ℕ) (r : StreamRecord)
    → g (if r.stream == s then f r else r) ≡ g r
either-keeps g f same s r = elim (r.stream == s) as (λ b. g (if b then f r else r) ≡ g r) [ true ↦ same r | false ↦ refl ]

pub view-moded : (w : LinkRecord) (s : ℕ) (unordered : Bool) (reliability : ReliabilityType) (value : ℕ)
    → view (Changes.after_mode w s unordered reliability value) ≡ view w
view-moded w s u r n =
    let f = Changes.with_mode u r n in
    let g : StreamRecord → StreamRecord = λ r. if r.stream == s then f r else r in
    view-streams w (map g w.streams) (view w).named (view w).complete
    (λ t. field-kept (λ r. r.named) g (either-keeps (λ r. r.stream) f (λ r. refl) s) (either-keeps (λ r. r.named) f (λ r. refl) s) w t)
    (λ t. field-kept (λ r. r.complete) g (either-keeps (λ r. r.stream) f (λ r. refl) s) (either-keeps (λ r. r.complete) f (λ r. refl) s) w t)

pub view-taken : (w : LinkRecord) (r : Report) → view (Changes.after_acked w (Some (Sack r))) ≡ view w
view-taken w r =
    ap (λ y. view_by y (arrived_at (Changes.after_acked w (Some (Sack r)))) (view w).read (view w).named (view w).complete w.skipped)
    (Shapes.shape-acknowledged w r (max w.taken r.cumulative)) ∙ ap (λ f. view_by (shape w) f (view w).read (view w).named (view w).complete w.skipped)
    (fun_ext (λ p. get-numbered (Changes.acknowledged_by r) (λ x. x.arrived) (λ i x. refl) 0 p w.slots no_slot))

pub view-arrived : (w : LinkRecord) (p : ℕ) → p < length w.slots → view (with_arrived w p) ≡ arrived_in (view w) p
view-arrived w p lt = grind (arith, nat_tests, Shapes.shape-arrived, changed-same, changed-other)

-- a change of one stream that is open
pub field-changed : {A : Type 0} (g : StreamRecord → A) (h : A → A) (f : StreamRecord → StreamRecord) → ((r : StreamRecord) → (f r).stream ≡ r.stream)
    → ((r : StreamRecord) → g (f r) ≡ h (g r)) → (w : LinkRecord) (s t : ℕ) → Messages.is_open w s ≡ true
    → g (stream_of (Changes.stream_changed w s f) t) ≡ (if t == s then h (g (stream_of w t)) else g (stream_of w t))
field-changed {A} g h f keeps same w s t open' = search (arith, nat_tests, find-mapped, either-keeps, not_both, same-is, found)

pub view-noted : (w : LinkRecord) (s n : ℕ) → Messages.is_open w s ≡ true → view (Changes.stream_changed w s (Changes.with_complete n)) ≡ noted_in (view w) s n
view-noted w s n o =
    let f = Changes.with_complete n in
    view-streams w (map (λ r. if r.stream == s then f r else r) w.streams) (view w).named (noted_in (view w) s n).complete
    (λ t. field-kept (λ r. r.named) (λ r. if r.stream == s then f r
    else r) (either-keeps (λ r. r.stream) f (λ r. refl) s) (either-keeps (λ r. r.named) f (λ r. refl) s) w t)
    (λ t. field-changed (λ r. r.complete) (λ l. l ++ n ∷ []) f (λ r. refl) (λ r. refl) w s t o)

pub view-read : (w : LinkRecord) (s n : ℕ) → Messages.is_open w s ≡ true → view (Changes.read_of w s (Some n)) ≡ read_in (view w) s n
view-read w s n o =
    let u = Changes.message_changed w n Changes.mark_read in
    let f = Changes.without_first in
    view-streams u (map (λ r. if r.stream == s then f r else r) w.streams) (view w).named (read_in (view w) s n).complete
    (λ t. field-kept (λ r. r.named) (λ r. if r.stream == s then f r
    else r) (either-keeps (λ r. r.stream) f (λ r. refl) s) (either-keeps (λ r. r.named) f (λ r. refl) s) u t)
    (λ t. field-changed (λ r. r.complete) (λ l. drop 1 l) f (λ r. refl) (λ r. refl) u s t o)
    ∙ ap (λ y. view_by y (arrived_at w) (view u).read (view w).named (read_in (view w) s n).complete w.skipped) (Shapes.shape-read w n)
    ∙ ap (λ g. view_by (shape w) (arrived_at w) g (view w).named (read_in (view w) s n).complete w.skipped)
    (fun_ext (λ k. get-changed Changes.mark_read (λ m. m.read) n k w.messages no_message refl))

-- the messages that a skip names are of open streams
pub view-skipped : (w : LinkRecord) (upto : ℕ) (names : List ℕ) → ((t : ℕ) → Messages.is_open w t ≡ false → filter (on (shape w) t) names ≡ [])
    → view (record w { skipped = upto + 1; streams = map (Changes.named_by w names) w.streams }) ≡ skipped_in (view w) upto names
view-skipped w upto names known =
    view-streams (record w { skipped = upto + 1 }) (map (Changes.named_by w names) w.streams) (named_more (view w) names) (view w).complete
    (λ t. ap (λ o. (unwrap_or o (no_stream t)).named) (find-mapped (Changes.named_by w names) (λ r. refl) t w.streams) ∙ by t (stream_at w t) refl)
    (λ t. field-kept (λ r. r.complete) (Changes.named_by w names) (λ r. refl) (λ r. refl) w t)
  where
    by : (t : ℕ) (o : Option StreamRecord) → stream_at w t ≡ o → (unwrap_or (Changed (Changes.named_by w names) o) (no_stream t)).named
        ≡ greatest (unwrap_or o (no_stream t)).named (map (λ n. index (shape w) n + 1) (filter (on (shape w) t) names))
    by t None e = sym (ap (λ l. greatest 0 (map (λ n. index (shape w) n + 1) l)) (known t (ap is_some e)))
    by t (Some r) e = ap (λ s. greatest r.named (map (λ n. index (shape w) n + 1) (filter (on (shape w) s) names))) (found t w.streams r e)
