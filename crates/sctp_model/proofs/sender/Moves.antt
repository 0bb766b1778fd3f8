-- What the sender's events leave to the receiver as it was.
use Rattle.sctp_model.proofs.Names.{◌≡◌, ℕ, ◌-◌, ◌<◌, ◌≤◌, Bool, true, false, List, [], ◌∷◌, ◌++◌, length, map, Option, Some, None, refl, ap, sym, ◌∙◌, inl}
use Rattle.sctp_model.proofs.Names.{inr, arith, length-append, append-nil, append_assoc, if◌then◌else◌, ◌&&◌, fold, cases_lt, length-changed, changed-keeps}
use Rattle.sctp_model.proofs.Names.{change_at, PayloadProtocolIdentifier, Event, Setup, Message, Datagram, Data, Forward, LinkRecord, arrived_at, after}
use Rattle.sctp_model.proofs.Names.{numbers_from, get-snoc_old, get-snoc_new, get-map, length-mapped, nat_tests, common_steps}
use Rattle.sctp_model.specs.declared.event.Event.TheVariants as E
use Rattle.sctp_model.specs.Messages
use Rattle.sctp_model.specs.Changes
use Rattle.sctp_model.proofs.sender.Shape.{shape, message_part, slotted, abandoned_at, expired_at, written}
use Rattle.sctp_model.proofs.sender.Shapes
use Rattle.sctp_model.proofs.sender.Fronts.{front-takes, of-unsent}
use Rattle.sctp_model.proofs.sender.SenderRun.{Consistent, consistent-takes, consistent-abandoned, consistent-started, filled-keeps, written_as, AllSent}
use Rattle.sctp_model.proofs.sender.SenderRun.{sent-all, late-sent}
use Rattle.sctp_model.proofs.sender.Grows.{Grows, grows-same, grows-by, grows-then, grows-takes, grows-abandoned, grows-marked, grows-terminals, grows-expired}
use Rattle.sctp_model.proofs.sender.Grows.{grows-written}

-- what a sender's change leaves
pub record Quiet (w v : LinkRecord) : Type 0 where
  pub setup : v.setup ≡ w.setup
  pub streams : v.streams ≡ w.streams
  pub skipped : v.skipped ≡ w.skipped
  pub taken : v.taken ≡ w.taken
  pub duplicates : v.duplicates ≡ w.duplicates
  pub network : (rest : List Datagram) × (v.network ≡ w.network ++ rest)
  pub arrived : (p : ℕ) → arrived_at v p ≡ arrived_at w p
  pub acknowledged : (p : ℕ) → p < length w.slots → (Messages.slot_at v p).acknowledged ≡ (Messages.slot_at w p).acknowledged
  pub fresh : (p : ℕ) → length w.slots ≤ p → p < length v.slots → (Messages.slot_at v p).acknowledged ≡ false
  pub read : (n : ℕ) → n < length w.messages → (Messages.message_at v n).read ≡ (Messages.message_at w n).read
  pub unread : (n : ℕ) → length w.messages ≤ n → n < length v.messages → (Messages.message_at v n).read ≡ false
  pub grows : Grows (shape w) (shape v)

pub quiet-none : (w : LinkRecord) → Quiet w w
quiet-none w = grind (arith, nat_tests, append-nil)

pub quiet-then : (setup : Setup) (w v u : LinkRecord) → Consistent setup w → Quiet w v → Quiet v u → Quiet w u
quiet-then setup w v u g f h = record {
  setup = h.setup ∙ f.setup;
  streams = h.streams ∙ f.streams;
  skipped = h.skipped ∙ f.skipped;
  taken = h.taken ∙ f.taken;
  duplicates = h.duplicates ∙ f.duplicates;
  network = (f.network.0 ++ h.network.0, h.network.1 ∙ ap (λ l. l ++ h.network.0) f.network.1 ∙ append_assoc w.network f.network.0 h.network.0);
  arrived = λ p. h.arrived p ∙ f.arrived p;
  acknowledged = λ p lt. h.acknowledged p (omega (arith, f.grows.slots)) ∙ f.acknowledged p lt;
  fresh = λ p a b. (elim (cases_lt p (length v.slots)) [ inl l ↦ h.acknowledged p l ∙ f.fresh p a l | inr g ↦ h.fresh p g b ]);
  read = λ n lt. h.read n (omega (arith, f.grows.count)) ∙ f.read n lt;
  unread = λ n a b. (elim (cases_lt n (length v.messages)) [ inl l ↦ h.read n l ∙ f.unread n a l | inr g ↦ h.unread n g b ]);
  grows = grows-then (shape w) (shape v) (shape u) g.sender f.grows h.grows;
}

-- ## Each change

quiet-messages : (w : LinkRecord) (ms : List Message) → length ms ≡ length w.messages
    → ((n : ℕ) → (Messages.message_at (record w { messages = ms }) n).read ≡ (Messages.message_at w n).read)
    → Grows (shape w) (shape (record w { messages = ms })) → Quiet w (record w { messages = ms })
quiet-messages w ms l r g = grind (arith, nat_tests, append-nil)

pub quiet-started : (w : LinkRecord) (now : ℕ) → Quiet w (Changes.after_start w now)
quiet-started w now = quiet-messages w (map (Changes.start_lifetime now) w.messages) (length-mapped (Changes.start_lifetime now) w.messages)
    (λ n. get-map (Changes.start_lifetime now) (λ m. m.read) (λ m. refl) n w.messages Messages.no_message)
    (grows-same (shape w) (shape (Changes.after_start w now)) (Shapes.shape-started w now))

quiet-flagged : (w : LinkRecord) (n : ℕ) (f : Message → Message) → ((m : Message) → (f m).read ≡ m.read)
    → Grows (shape w) (shape (Changes.message_changed w n f)) → Quiet w (Changes.message_changed w n f)
quiet-flagged w n f keeps g =
    quiet-messages w (change_at f n w.messages) (length-changed f n w.messages) (λ k. changed-keeps f (λ m. m.read) keeps n k w.messages Messages.no_message) g

quiet-slot : (w : LinkRecord) (n : ℕ) (terminal : Bool) → Grows (shape w) (shape (Changes.with_slot w n terminal)) → Quiet w (Changes.with_slot w n terminal)
quiet-slot w n terminal g = grind (arith, nat_tests, common_steps)

pub quiet-takes : (setup : Setup) (w : LinkRecord) → Consistent setup w → Quiet w (Changes.send_fragment w)
quiet-takes setup w g = step (Messages.front w) refl
  where
    step : (o : Option ℕ) → Messages.front w ≡ o → Quiet w (Changes.send_fragment_of w o)
    step None e = quiet-none w
    step (Some n) e = quiet-slot w n false (grows-by (shape w) (shape (Changes.with_slot w n false)) (slotted (shape w) n false) (Shapes.shape-slot w n false)
        (grows-takes (shape w) n (front-takes (shape w) n g.sender e)))

pub quiet-abandoned : (setup : Setup) (w : LinkRecord) (n : ℕ) → Consistent setup w → Quiet w (Changes.after_abandon w n)
quiet-abandoned setup w n g = step (Messages.is_partially_sent w n) refl
  where
    joined : (v : LinkRecord) → Quiet w v → Grows (shape w) (shape (Changes.message_changed v n Changes.mark_abandoned))
        → Quiet w (Changes.message_changed v n Changes.mark_abandoned)
    joined v q grown = record {
      setup = q.setup;
      streams = q.streams;
      skipped = q.skipped;
      taken = q.taken;
      duplicates = q.duplicates;
      network = q.network;
      arrived = q.arrived;
      acknowledged = q.acknowledged;
      fresh = q.fresh;
      read = λ k lt. changed-keeps Changes.mark_abandoned (λ m. m.read) (λ m. refl) n k v.messages Messages.no_message ∙ q.read k lt;
      unread = λ k a b. changed-keeps Changes.mark_abandoned (λ m. m.read) (λ m. refl) n k v.messages Messages.no_message
          ∙ q.unread k a (omega (arith, b, length-changed Changes.mark_abandoned n v.messages));
      grows = grown;
    }

    slot-grows : Grows (shape w) (shape (Changes.with_slot w n true))
    slot-grows = grows-by (shape w) (shape (Changes.with_slot w n true)) (slotted (shape w) n true) (Shapes.shape-slot w n true) (grows-terminals (shape w) n)

    step : (b : Bool) → Messages.is_partially_sent w n ≡ b
        → Quiet w (Changes.message_changed (if b then Changes.with_slot w n true else w) n Changes.mark_abandoned)
    step true e = joined (Changes.with_slot w n true) (quiet-slot w n true slot-grows)
        (grows-by (shape w) (shape (Changes.message_changed (Changes.with_slot w n true) n Changes.mark_abandoned)) (abandoned_at (slotted (shape w) n true) n)
        (Shapes.shape-abandoned (Changes.with_slot w n true) n ∙ ap (λ y. abandoned_at y n) (Shapes.shape-slot w n true)) (grows-marked (shape w) n))
    step false e = joined w (quiet-none w) (grows-by (shape w) (shape (Changes.message_changed w n Changes.mark_abandoned)) (abandoned_at (shape w) n)
        (Shapes.shape-abandoned w n) (grows-abandoned (shape w) n))

pub quiet-expired : (setup : Setup) (w : LinkRecord) (n : ℕ) → Consistent setup w → Messages.is_unsent w n ≡ true
    → Quiet w (Changes.message_changed w n Changes.mark_expired)
quiet-expired setup w n g e = let u = of-unsent (shape w) n e in quiet-flagged w n Changes.mark_expired (λ m. refl) (grows-by (shape w) (shape
    (Changes.message_changed w n Changes.mark_expired)) (expired_at (shape w) n) (Shapes.shape-expired w n) (grows-expired (shape w) n g.sender u.none u.alive))

pub quiet-written : (setup : Setup) (w : LinkRecord) (s : ℕ) (ppi : PayloadProtocolIdentifier) (bytes : List ℕ) → Consistent setup w
    → Quiet w (Changes.after_write w s ppi bytes)
quiet-written setup w s ppi [] g = quiet-none w
quiet-written setup w s ppi (b ∷ bs) g = record {
  setup = refl;
  streams = refl;
  skipped = refl;
  taken = refl;
  duplicates = refl;
  network = ([], sym (append-nil w.network));
  arrived = λ p. refl;
  acknowledged = λ p lt. refl;
  fresh = λ p a b. absurd (omega arith);
  read = λ n lt. ap (λ m. m.read) (get-snoc_old w.messages m n Messages.no_message (λ e. absurd (omega arith)));
  unread = λ n a lt. let e : n ≡ length w.messages = omega (arith, length-append w.messages (m ∷ [])) in
      ap (λ q. (Messages.message_at (Changes.after_write w s ppi (b ∷ bs)) q).read) e ∙ ap (λ y. y.read) (get-snoc_new w.messages m Messages.no_message);
  grows = grows-by (shape w) (shape (Changes.after_write w s ppi (b ∷ bs))) (written (shape w) (message_part m)) (Shapes.shape-written w m)
      (grows-written (shape w) (message_part m) g.sender);
}
  where
    m : Message
    m = written_as w s ppi (b ∷ bs)

pub quiet-datagram : (w v : LinkRecord) (d : Datagram) → Quiet w v → Quiet w (Changes.with_datagram v d)
quiet-datagram w v d q = grind (arith, nat_tests, append_assoc)

-- ## Sends and late messages

pub record Reached (setup : Setup) (w v : LinkRecord) : Type 0 where
  pub consistent : Consistent setup v
  pub quiet : Quiet w v

pub reached-more : (setup : Setup) (w : LinkRecord) → Consistent setup w → (v : LinkRecord) → Reached setup w v → Reached setup w (Changes.send_fragment v)
reached-more setup w g v r = search (arith, nat_tests, consistent-takes, quiet-then, quiet-takes)

pub quiet-sent : (setup : Setup) (w : LinkRecord) (now : ℕ) (o : Option ℕ) → Consistent setup w → Quiet w (Changes.send_from (Changes.after_start w now) o)
quiet-sent setup w now None g = quiet-started w now
quiet-sent setup w now (Some n) g =
    let u = Changes.after_start w now in
    let first : Reached setup w (Changes.send_fragment u) =
    reached-more setup w g u (record { consistent = consistent-started setup w now g; quiet = quiet-started w now }) in
    let all : Reached setup w (Changes.send_fragments u) = filled-keeps (Reached setup w)
    (reached-more setup w g) u.setup.limit (Changes.plus 12 (Changes.next_length u)) (Changes.send_fragment u) first in
    quiet-datagram w (Changes.send_fragments u) (Data (numbers_from (length u.slots) (length (Changes.send_fragments u).slots - length u.slots))) all.quiet

quiet-late : (setup : Setup) (ns : List ℕ) (w : LinkRecord) → Consistent setup w → AllSent w ns → Quiet w (fold Changes.after_abandon w ns)
quiet-late setup [] w g a = quiet-none w
quiet-late setup (n ∷ ns) w g a =
    let h = consistent-abandoned setup w n g a.0 in
    quiet-then setup w (Changes.after_abandon w n) (fold Changes.after_abandon (Changes.after_abandon w n) ns) g (quiet-abandoned setup w n g)
    (quiet-late setup ns (Changes.after_abandon w n) h (sent-all w n ns a.1))

-- ## The sender's events

pub quiet-expire : (setup : Setup) (w : LinkRecord) (now : ℕ) (o : Option ℕ) → Consistent setup w
    → Quiet w (Changes.after_expire w (Changes.front_if w (λ n. Messages.is_unsent w n && Messages.is_past_deadline w now n) o))
quiet-expire setup w now None g = quiet-none w
quiet-expire setup w now (Some n) g = step (Messages.is_unsent w n) (Messages.is_past_deadline w now n) refl
  where
    step : (b c : Bool) → Messages.is_unsent w n ≡ b → Quiet w (Changes.after_expire w (if b && c then Some n else None))
    step true true e = quiet-expired setup w n g e
    step true false e = quiet-none w
    step false c e = quiet-none w

pub quiet-tail : (setup : Setup) (w : LinkRecord) (o : Option ℕ) → Consistent setup w → Quiet w (Changes.after_tail w o)
quiet-tail setup w None g = quiet-none w
quiet-tail setup w (Some n) g = quiet-abandoned setup w n g

pub quiet-lates : (setup : Setup) (w : LinkRecord) (now : ℕ) → Consistent setup w → Quiet w (Changes.after_late w now)
quiet-lates setup w now g = quiet-late setup (Changes.late_messages w now) w g (late-sent setup w now g)

-- not so are what opens a stream or sets its mode, what makes or takes a SACK, an arrival and a read
abbrev pub is_quiet : Event → Bool
is_quiet (E.Open s) = false
is_quiet (E.Mode s unordered reliability value) = false
is_quiet (E.Ack credit) = false
is_quiet (E.Arrive k) = false
is_quiet (E.Acked k) = false
is_quiet (E.Read s) = false
is_quiet event = true

pub quiet-after : (setup : Setup) (w : LinkRecord) (e : Event) → is_quiet e ≡ true → Consistent setup w → Quiet w (after w e)
quiet-after setup w (E.Write s ppi bytes) q g = quiet-written setup w s ppi bytes g
quiet-after setup w (E.Start now) q g = quiet-started w now
quiet-after setup w (E.Send now) q g = quiet-sent setup w now (Messages.front w) g
quiet-after setup w (E.Resend tsn) q g = quiet-datagram w w (Data (Messages.place_of w tsn ∷ [])) (quiet-none w)
quiet-after setup w (E.Expire now) q g = quiet-expire setup w now (Messages.front w) g
quiet-after setup w (E.Tail now) q g = quiet-tail setup w (Changes.tailing w now) g
quiet-after setup w (E.Late now) q g = quiet-lates setup w now g
quiet-after setup w (E.Abandon tsn) q g = quiet-abandoned setup w (Messages.message_of w (Messages.place_of w tsn)) g
quiet-after setup w (E.Skip upto names) q g = quiet-datagram w w (Forward (Messages.place_of w upto) names.items) (quiet-none w)
quiet-after setup w event q g = cc
