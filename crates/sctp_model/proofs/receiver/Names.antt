use Rattle.sctp_model.proofs.Names.{◌≡◌, ℕ, ◌+◌, ◌<◌, Bool, true, false, List, [], ◌∷◌, ◌++◌, map, Some, refl, ap, sym, ◌∙◌, arith, if◌then◌else◌, ◌==◌, ◌&&◌}
use Rattle.sctp_model.proofs.Names.{not, subst, filter, fails, not_both, Setup, Sack, LinkRecord, greatest, is_new, History, record_of, IsRun, LogEntry}
use Rattle.sctp_model.proofs.Names.{SlotReceived, SkipReceived, SackMade, IsSetup, OnEveryRun, NamedIsNamed}
use Rattle.sctp_model.specs.Messages
use Rattle.sctp_model.specs.Changes
use Rattle.sctp_model.specs.Log
use Rattle.sctp_model.proofs.sender.Shape.{Shape, shape, on, index, sent}
use Rattle.sctp_model.proofs.sender.Sender.{Sender}
use Rattle.sctp_model.proofs.sender.Slots.{sent-made, sent-alive}
use Rattle.sctp_model.proofs.sender.SenderRun.{Consistent}
use Rattle.sctp_model.proofs.sender.Grows.{Grows}
use Rattle.sctp_model.proofs.sender.Network.{NamesFit, names-grown, same-slot}
use Rattle.sctp_model.proofs.receiver.Events.{Keeps, run-keeps}
use Rattle.sctp_model.proofs.receiver.Arrivals.{Arrivals, arrivals-keeps, counts-arrivals, with_arrived}
use Rattle.sctp_model.proofs.receiver.View
use Rattle.sctp_model.proofs.receiver.View.{View, view}
use Rattle.sctp_model.proofs.receiver.Indexes.{on-stream}

-- What was named last on a stream is what the skips that counted named.

-- ## What was sent keeps its stream and index

pub on-grown : (x y : Shape) → Sender x → Sender y → Grows x y → (s n : ℕ) → 0 < sent x n → on y s n ≡ on x s n
on-grown x y a b g s n pos =
    let made = sent-made x n a pos in
    let later : 0 < sent y n = omega (arith, g.sent_more n) in
    ap (λ e. ((y.message n).stream == s) && ((y.message n).ordered && not e)) (sent-alive y n b later ∙ sym (sent-alive x n a pos))
    ∙ ap (λ m. (m.stream == s) && (m.ordered && not (x.message n).expired)) (g.message n made)

abbrev pub named_in : Shape → ℕ → List LogEntry → ℕ
named_in x s [] = 0
named_in x s (SkipReceived upto names ∷ log) =
    if Log.counts log upto then greatest (named_in x s log) (map (λ n. index x n + 1) (filter (on x s) names)) else named_in x s log
named_in x s (SlotReceived p ∷ log) = named_in x s log
named_in x s (SackMade ∷ log) = named_in x s log

pub named-is : (w : LinkRecord) (s : ℕ) (log : List LogEntry) → Log.named_by w s log ≡ named_in (shape w) s log
named-is w s [] = refl
named-is w s (SkipReceived upto names ∷ log) = cc (named-is w s log)
named-is w s (SlotReceived p ∷ log) = named-is w s log
named-is w s (SackMade ∷ log) = named-is w s log

-- the names of what came
abbrev pub NamesReceived : Shape → List LogEntry → Type 0
NamesReceived x [] = Unit {0}
NamesReceived x (SkipReceived upto names ∷ log) = NamesFit x upto names × NamesReceived x log
NamesReceived x (SlotReceived p ∷ log) = NamesReceived x log
NamesReceived x (SackMade ∷ log) = NamesReceived x log

names-received-later : (x y : Shape) → Sender x → Grows x y → (log : List LogEntry) → NamesReceived x log → NamesReceived y log
names-received-later x y a g [] f = tt
names-received-later x y a g (SkipReceived upto names ∷ log) f = (names-grown x y a g upto names f.0, names-received-later x y a g log f.1)
names-received-later x y a g (SlotReceived p ∷ log) f = names-received-later x y a g log f
names-received-later x y a g (SackMade ∷ log) f = names-received-later x y a g log f

indexes-later : (x y : Shape) → Sender x → Sender y → Grows x y → (s upto : ℕ) (names : List ℕ) → NamesFit x upto names
    → map (λ n. index y n + 1) (filter (on y s) names) ≡ map (λ n. index x n + 1) (filter (on x s) names)
indexes-later x y a b g s upto [] f = refl
indexes-later x y a b g s upto (n ∷ ns) f =
    ap (λ c. map (λ n. index y n + 1) (if c then n ∷ filter (on y s) ns else filter (on y s) ns)) (on-grown x y a b g s n f.0.some)
    ∙ step (on x s n) (indexes-later x y a b g s upto ns f.1)
  where
    step : (c : Bool) → map (λ n. index y n + 1) (filter (on y s) ns) ≡ map (λ n. index x n + 1) (filter (on x s) ns) → map (λ n. index y n + 1)
        (if c then n ∷ filter (on y s) ns else filter (on y s) ns) ≡ map (λ n. index x n + 1) (if c then n ∷ filter (on x s) ns else filter (on x s) ns)
    step true ih = ap (λ i. (i + 1) ∷ map (λ n. index y n + 1) (filter (on y s) ns)) (g.same_index n f.0.some f.0.ordered) ∙ ap (λ l. (index x n + 1) ∷ l) ih
    step false ih = ih

named-later : (x y : Shape) → Sender x → Sender y → Grows x y → (s : ℕ) (log : List LogEntry) → NamesReceived x log → named_in y s log ≡ named_in x s log
named-later x y a b g s [] f = refl
named-later x y a b g s (SkipReceived upto names ∷ log) f = cc (named-later x y a b g s log f.1, indexes-later x y a b g s upto names f.0)
named-later x y a b g s (SlotReceived p ∷ log) f = named-later x y a b g s log f
named-later x y a b g s (SackMade ∷ log) f = named-later x y a b g s log f

-- ## The invariant

pub record Named (v : View) (log : List LogEntry) : Type 0 where
  pub fit : NamesReceived v.x log
  pub is : (s : ℕ) → v.named s ≡ named_in v.x s log

named-as : (u v : View) (log : List LogEntry) → v ≡ u → Named u log → Named v log
named-as u v log e h = subst (λ y. Named y log) (sym e) h

-- the messages that a skip names are of open streams
pub closed-none : (setup : Setup) (w : LinkRecord) (upto t : ℕ) (names : List ℕ) → Consistent setup w → NamesFit (shape w) upto names
    → Messages.is_open w t ≡ false → filter (on (shape w) t) names ≡ []
closed-none setup w upto t [] g f e = refl
closed-none setup w upto t (n ∷ ns) g f e =
    ap (λ c. if c then n ∷ filter (on (shape w) t) ns else filter (on (shape w) t) ns)
    (fails (on (shape w) t n) (λ h. not_both (sym e ∙ ap (Messages.is_open w) (sym (on-stream (shape w) t n h))
    ∙ g.known n (sent-made (shape w) n g.sender f.0.some)))) ∙ closed-none setup w upto t ns g f.1 e

pub view-skip : (setup : Setup) (w : LinkRecord) (upto : ℕ) (names : List ℕ) → Consistent setup w → NamesFit (shape w) upto names
    → view (record w { skipped = upto + 1; streams = map (Changes.named_by w names) w.streams }) ≡ View.skipped_in (view w) upto names
view-skip setup w upto names g f = View.view-skipped w upto names (λ t e. closed-none setup w upto t names g f e)

record Both (w : LinkRecord) (log : List LogEntry) : Type 0 where
  arrivals : Arrivals w log
  named : Named (view w) log

named-slot : (setup : Setup) (w : LinkRecord) (log : List LogEntry) (p : ℕ) → Consistent setup w → Named (view w) log
    → Named (view (Changes.receive_slot w p)) (SlotReceived p ∷ log)
named-slot setup w log p g h = record {
  fit = subst (λ x. NamesReceived x log) (sym (same-slot w p).shape_is) h.fit;
  is = λ s. same s (is_new w p) ∙ h.is s ∙ ap (λ x. named_in x s log) (sym (same-slot w p).shape_is);
}
  where
    noted : (s n : ℕ) (v : LinkRecord) (b : Bool)
        → (Messages.stream_of (if b then Changes.stream_changed v (Messages.message_at v n).stream (Changes.with_complete n) else v) s).named
        ≡ (Messages.stream_of v s).named
    noted s n v true = View.field-kept (λ r. r.named) (λ r. if r.stream == (Messages.message_at v n).stream then Changes.with_complete n r else r)
        (λ r. stays (r.stream == (Messages.message_at v n).stream) r) (λ r. keeps (r.stream == (Messages.message_at v n).stream) r) v s
      where
        stays : (b : Bool) (r : _) → (if b then Changes.with_complete n r else r).stream ≡ r.stream
        stays true r = refl
        stays false r = refl

        keeps : (b : Bool) (r : _) → (if b then Changes.with_complete n r else r).named ≡ r.named
        keeps true r = refl
        keeps false r = refl
    noted s n v false = refl

    same : (s : ℕ) (b : Bool) → (Messages.stream_of (if b then Changes.note_completion (with_arrived w p) (Messages.message_of w p)
        else record w { duplicates = w.duplicates ++ p ∷ [] }) s).named ≡ (Messages.stream_of w s).named
    same s true = noted s (Messages.message_of w p) (with_arrived w p) (Changes.becomes_complete (with_arrived w p) (Messages.message_of w p))
    same s false = refl

named-skip : (setup : Setup) (w : LinkRecord) (log : List LogEntry) (upto : ℕ) (names : List ℕ) → Consistent setup w → NamesFit (shape w) upto names
    → Arrivals w log → Named (view w) log → Named (view (Changes.receive_skip w upto names)) (SkipReceived upto names ∷ log)
named-skip setup w log upto names g f arrivals h = step (Changes.skip_counts w upto) refl
  where
    step : (b : Bool) → Changes.skip_counts w upto ≡ b
        → Named (view (if b then record w { skipped = upto + 1; streams = map (Changes.named_by w names) w.streams } else w)) (SkipReceived upto names ∷ log)
    step true e = named-as (View.skipped_in (view w) upto names) (view (record w { skipped = upto + 1; streams = map (Changes.named_by w names) w.streams }))
        (SkipReceived upto names ∷ log) (view-skip setup w upto names g f)
        (record {
          fit = (f, h.fit);
          is = λ s. ap (λ k. greatest k (map (λ n. index (shape w) n + 1) (filter (on (shape w) s) names))) (h.is s)
              ∙ ap (λ b. if b then greatest (named_in (shape w) s log) (map (λ n. index (shape w) n + 1) (filter (on (shape w) s) names))
              else named_in (shape w) s log) (sym (counts-arrivals w log upto arrivals ∙ e));
        })
    step false e = record {
      fit = (f, h.fit);
      is = λ s. h.is s ∙ ap (λ b. if b then greatest (named_in (shape w) s log) (map (λ n. index (shape w) n + 1) (filter (on (shape w) s) names))
          else named_in (shape w) s log) (sym (counts-arrivals w log upto arrivals ∙ e));
    }

named-keeps : (setup : Setup) → Keeps setup Both
named-keeps setup =
    let k = arrivals-keeps setup in
    record {
      begins = record { arrivals = k.begins; named = record { fit = tt; is = λ s. refl } };
      quiet = λ w v log g a q b. record {
        arrivals = k.quiet w v log g a q b.arrivals;
        named = record {
          fit = names-received-later (shape w) (shape v) g.sender q.grows log b.named.fit;
          is = λ s. ap (λ rs. (Messages.stream_of (record v { streams = rs }) s).named) q.streams ∙ b.named.is s
              ∙ sym (named-later (shape w) (shape v) g.sender a.sender q.grows s log b.named.fit);
        };
      };
      opened = λ w log s g o b.
          record { arrivals = k.opened w log s g o b.arrivals; named = named-as (view w) (view (Changes.after_open w s)) log (View.view-opened w s o) b.named };
      moded = λ w log s u r n g b. record {
        arrivals = k.moded w log s u r n g b.arrivals;
        named = named-as (view w) (view (Changes.after_mode w s u r n)) log (View.view-moded w s u r n) b.named;
      };
      slot = λ w log p g lt m b. record { arrivals = k.slot w log p g lt m b.arrivals; named = named-slot setup w log p g b.named };
      skip =
          λ w log upto names g lt f b.
          record { arrivals = k.skip w log upto names g lt f b.arrivals; named = named-skip setup w log upto names g f b.arrivals b.named };
      reported = λ w log credit g b. record { arrivals = k.reported w log credit g b.arrivals; named = record { fit = b.named.fit; is = b.named.is } };
      taken = λ w log r g b. record {
        arrivals = k.taken w log r g b.arrivals;
        named = named-as (view w) (view (Changes.after_acked w (Some (Sack r)))) log (View.view-taken w r) b.named;
      };
      read = λ w log s n g o e b. record {
        arrivals = k.read w log s n g o e b.arrivals;
        named = named-as (View.read_in (view w) s n) (view (Changes.read_of w s (Some n))) log (View.view-read w s n o)
            (record { fit = b.named.fit; is = b.named.is });
      };
    }

pub named-run : (setup : Setup) (h : History) → IsSetup setup → IsRun setup h → Named (view (record_of setup h)) (Log.log_of setup h)
named-run setup h is run = (run-keeps setup Both (named-keeps setup) h is run).named

pub named_is_named : OnEveryRun NamedIsNamed
named_is_named setup h is run s = (named-run setup h is run).is s ∙ sym (named-is (record_of setup h) s (Log.log_of setup h))
