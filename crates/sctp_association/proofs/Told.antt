-- Along the calls of an association: what happens was told, or waits to be told.
use Rattle.std.proofs.Common.{◌≡◌, ◌⊎◌, inl, inr, ℕ, Bool, true, false, List, [], ◌∷◌, Option, Some, None, refl, ap, sym, subst, ◌∙◌}
use Rattle.std.proofs.lemmas.Bool.{false≢true}
use Rattle.std.proofs.lemmas.List.Elements.{Contains-append_left, Contains-append_right, Contains-push}
use Rattle.std.specs.Prelude.{Contains, is_some}
use Rattle.sctp_association.proofs.Rooms.{rooms_alike, rooms_then}
use Rattle.sctp_association.specs.Beginnings.{is_standing}
use Rattle.sctp_association.specs.declared.association.Association.{Association}
use Rattle.sctp_association.specs.declared.event.Ending.{Ending}
use Rattle.sctp_association.specs.declared.event.Event.{Event}
use Rattle.sctp_association.specs.declared.event.Event.TheVariants as event
use Rattle.sctp_association.specs.declared.event.Events.{Events}
use Rattle.sctp_association.specs.Events.{Waits}
use Rattle.sctp_association.specs.Reads.{message_in}
use Rattle.sctp_association.specs.Told.{Act, ActsEach, EachLosesNone, Gives, IsGivenOrWaits, lasts}
use Rattle.sctp_association.specs.Told.{calls, polls}
use Rattle.sctp_association.specs.Telling.{HasPlaces, IsNoted, KeepsEvents, KeepsRooms, Tells}

-- ## One more call before

first : (a : Act) (acts : List Act) → Contains (a ∷ acts) a
first a acts = Contains-append_left (a ∷ []) acts a (Contains-push [] a)

later : (a : Act) (acts : List Act) (v : Event) (e : Events) → IsGivenOrWaits v acts e → IsGivenOrWaits v (a ∷ acts) e
later a acts v e (inl h) = inl (Contains-append_right (a ∷ []) acts (polls (Some v)) h)
later a acts v e (inr h) = inr h

-- ## Events that last

kept-waits : (v : Event) (e f : Events) → lasts v ≡ true → KeepsEvents e f → Waits v e → Waits v f
kept-waits event.Connected e f l k w = k.connected w
kept-waits event.Restarted e f l k w = k.restarted w
kept-waits (event.BufferedAmountLow s) e f l k w = k.low s w
kept-waits (event.ResetByUs s) e f l k w = k.reset_by_us s w
kept-waits (event.ResetRefused s) e f l k w = k.reset_refused s w
kept-waits (event.ResetByPeer s) e f l k w = k.reset_by_peer s w
kept-waits (event.TooLong s) e f l k w = k.too_long s w
kept-waits event.Shutdown e f l k w = k.shutdown w
kept-waits _ e f l k w = absurd (false≢true l)

-- a step, and what follows
given-or : (v : Event) (given : Option Event) (acts : List Act) (e : Events) → given ≡ Some v → IsGivenOrWaits v (polls given ∷ acts) e
given-or v given acts e is =
    inl (subst (λ g. Contains (polls g ∷ acts) (polls (Some v))) (sym is) (first (polls (Some v)) acts))

-- by `poll`, or by what follows
either : (v : Event) (given : Option Event) (acts : List Act) (On : Type 0) (e : Events) → (On → IsGivenOrWaits v acts e) → (given ≡ Some v) ⊎ On
    → IsGivenOrWaits v (polls given ∷ acts) e
either v given acts On e on (inl is) = given-or v given acts e is
either v given acts On e on (inr h) = later (polls given) acts v e (on h)

waited-along : (acts : List Act) (v : Event) (a b : Association) → lasts v ≡ true → ActsEach acts a b → Waits v a.events → IsGivenOrWaits v acts b.events
waited-along [] v a b l run w = inr (subst (λ (x : Association). Waits v x.events) (sym run) w)
waited-along (calls ∷ acts) v a b l run w =
    later calls acts v b.events (waited-along acts v run.0 b l run.1.1 (kept-waits v a.events run.0.events l run.1.0.end.events.kept w))
waited-along (polls given ∷ acts) v a b l run w =
    either v given acts (Waits v run.0.events) b.events (waited-along acts v run.0 b l run.1.1) (run.1.0.others v w)

-- ## How it ended

abbrev IsEndGiven : List Act → Events → Type 0
IsEndGiven acts e = (how : Ending) × IsGivenOrWaits (event.Closed how) acts e

end-later : (a : Act) (acts : List Act) (e : Events) → IsEndGiven acts e → IsEndGiven (a ∷ acts) e
end-later a acts e h = (h.0, later a acts (event.Closed h.0) e h.1)

some-of : (o : Option Ending) → is_some o ≡ true → (how : Ending) × (o ≡ Some how)
some-of None h = absurd (false≢true h)
some-of (Some x) h = (x, refl)

end-either : (how : Ending) (given : Option Event) (acts : List Act) (On : Type 0) (e : Events) → (On → IsEndGiven acts e)
    → (given ≡ Some (event.Closed how)) ⊎ On → IsEndGiven (polls given ∷ acts) e
end-either how given acts On e on (inl is) = (how, given-or (event.Closed how) given acts e is)
end-either how given acts On e on (inr h) = end-later (polls given) acts e (on h)

ended-waits : (acts : List Act) (a b : Association) → ActsEach acts a b → is_some a.events.closed ≡ true → IsEndGiven acts b.events
ended-waits [] a b run w =
    let some = some-of a.events.closed w in
    (some.0, inr (subst (λ (x : Association). x.events.closed ≡ Some some.0) (sym run) some.1))
ended-waits (calls ∷ acts) a b run w =
    end-later calls acts b.events (ended-waits acts run.0 b run.1.1 (run.1.0.end.events.kept.closed w))
ended-waits (polls given ∷ acts) a b run w =
    let some = some-of a.events.closed w in
    end-either some.0 given acts (run.0.events.closed ≡ Some some.0) b.events
    (λ on. ended-waits acts run.0 b run.1.1 (ap (λ (o : Option Ending). is_some o) on)) (run.1.0.others (event.Closed some.0) some.1)

-- ## What turns

by-turn : (X : Type 0) (k : Bool) → (k ≡ true → X) → (k ≡ false → X) → X
by-turn X true f g = f refl
by-turn X false f g = g refl

-- it turns by a call that then has an event wait, and by no `poll`
module _ (p : Association → Bool) (Wait : Events → Type 0) (Done : List Act → Events → Type 0)
    (turns : (x y : Association) → Tells x y → p x ≡ false → p y ≡ true → Wait y.events)
    (same : (g : Option Event) (x y : Association) → Gives g x y → p y ≡ p x)
    (waits : (acts : List Act) (a b : Association) → ActsEach acts a b → Wait a.events → Done acts b.events)
    (more : (a : Act) (acts : List Act) (e : Events) → Done acts e → Done (a ∷ acts) e) where
  turned-along : (acts : List Act) (a b : Association) → ActsEach acts a b → p a ≡ false → p b ≡ true → Done acts b.events
  turned-along [] a b run e n = absurd (false≢true (sym e ∙ sym (ap p run) ∙ n))
  turned-along (calls ∷ acts) a b run e n =
      more calls acts b.events (by-turn (Done acts b.events) (p run.0) (λ is. waits acts run.0 b run.1.1 (turns a run.0 run.1.0 e is))
      (λ is. turned-along acts run.0 b run.1.1 is n))
  turned-along (polls given ∷ acts) a b run e n =
      more (polls given) acts b.events (turned-along acts run.0 b run.1.1 (same given a run.0 run.1.0 ∙ e) n)

-- ## Streams with a message to read

noted-by : (s : ℕ) (given : Option Event) (a b : Association) → Gives given a b → IsNoted s a.inbound a.events
    → (given ≡ Some (event.Readable s)) ⊎ IsNoted s b.inbound b.events
noted-by s given a b g noted = by (is_some (message_in s a.inbound)) refl
  where
    alike : is_some (message_in s b.inbound) ≡ is_some (message_in s a.inbound)
    alike = ap (λ (x : Association). is_some (message_in s x.inbound)) g.rest

    on : (given ≡ Some (event.Readable s)) ⊎ Waits (event.Readable s) b.events
        → (given ≡ Some (event.Readable s)) ⊎ IsNoted s b.inbound b.events
    on (inl is) = inl is
    on (inr w) = inr (λ m. w)

    by : (m : Bool) → is_some (message_in s a.inbound) ≡ m → (given ≡ Some (event.Readable s)) ⊎ IsNoted s b.inbound b.events
    by true is = on (g.others (event.Readable s) (noted is))
    by false is = inr (λ m. absurd (false≢true (sym is ∙ sym alike ∙ m)))

readable-along : (acts : List Act) (a b : Association) → ActsEach acts a b → HasPlaces a.inbound a.events → (s : ℕ) → IsNoted s a.inbound a.events
    → is_some (message_in s b.inbound) ≡ true → IsGivenOrWaits (event.Readable s) acts b.events
readable-along [] a b run h s noted m =
    inr (subst (λ (x : Association). IsNoted s x.inbound x.events) (sym run) noted m)
readable-along (calls ∷ acts) a b run h s noted m =
    let notes = run.1.0.end.events.readable in
    later calls acts (event.Readable s) b.events (readable-along acts run.0 b run.1.1 (notes.places h) s (notes.noted h s noted) m)
readable-along (polls given ∷ acts) a b run h s noted m =
    either (event.Readable s) given acts (IsNoted s run.0.inbound run.0.events) b.events
    (λ on. readable-along acts run.0 b run.1.1 (run.1.0.places h) s on m) (noted-by s given a run.0 run.1.0 noted)

-- ## The room of the sets

places-along : (acts : List Act) (a b : Association) → ActsEach acts a b → HasPlaces a.inbound a.events → HasPlaces b.inbound b.events
places-along [] a b run h = subst (λ (x : Association). HasPlaces x.inbound x.events) (sym run) h
places-along (calls ∷ acts) a b run h = places-along acts run.0 b run.1.1 (run.1.0.end.events.readable.places h)
places-along (polls given ∷ acts) a b run h = places-along acts run.0 b run.1.1 (run.1.0.places h)

rooms-along : (acts : List Act) (a b : Association) → ActsEach acts a b → KeepsRooms a.events b.events
rooms-along [] a b run = subst (λ (x : Association). KeepsRooms a.events x.events) (sym run) (rooms_alike a.events a.events refl refl refl refl refl refl)
rooms-along (calls ∷ acts) a b run =
    rooms_then a.events run.0.events b.events run.1.0.end.events.kept.rooms (rooms-along acts run.0 b run.1.1)
rooms-along (polls given ∷ acts) a b run = rooms_then a.events run.0.events b.events run.1.0.rooms (rooms-along acts run.0 b run.1.1)

pub each-loses-none : EachLosesNone
each-loses-none acts a b run = record {
  waited = λ v l w. waited-along acts v a b l run w;
  begun = turned-along (λ x. is_standing x.machine.state) (λ e. e.connected ≡ true) (IsGivenOrWaits event.Connected) (λ x y t. t.begun)
      (λ g x y k. ap (λ (z : Association). is_standing z.machine.state) k.rest)
      (λ cs x y r w. waited-along cs event.Connected x y refl r w) (λ c cs e h. later c cs event.Connected e h) acts a b run;
  restarted = turned-along (λ x. x.machine.has_restarted) (λ e. e.restarted ≡ true) (IsGivenOrWaits event.Restarted) (λ x y t. t.restarted)
      (λ g x y k. ap (λ (z : Association). z.machine.has_restarted) k.rest)
      (λ cs x y r w. waited-along cs event.Restarted x y refl r w) (λ c cs e h. later c cs event.Restarted e h) acts a b run;
  ended = turned-along (λ x. x.is_over) (λ e. is_some e.closed ≡ true) IsEndGiven (λ x y t. t.end.ended)
      (λ g x y k. ap (λ (z : Association). z.is_over) k.rest) ended-waits end-later acts a b run;
  readable = readable-along acts a b run;
  places = places-along acts a b run;
  rooms = rooms-along acts a b run;
}
