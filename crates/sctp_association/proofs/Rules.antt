-- What is so of each call that datagrams bring, and that each such call is one of those that they brought.
use Rattle.std.proofs.Common.{ℕ, List, [], ◌∷◌, refl, arith}
use Rattle.std.proofs.lemmas.List.Elements.{Contains-append_left, Contains-append_right}
use Rattle.std.specs.Prelude.{Contains}
use Rattle.sctp_association.specs.Arrivals.{Arrival, Does, Halves, IsBrought, IsBroughtAs, Steps, halves}
use Rattle.sctp_association.specs.Beginnings.{IsBegunBy}
use Rattle.sctp_association.specs.declared.association.Association.{Association}
use Rattle.sctp_association.specs.Halves.{halves_of}
use Rattle.sctp_association.specs.Hosts.{Act, Acts, AreByRule, AreMovesByRule, Host, Hosts, IsActByRule, Move, MovesTo, asks, handles, one_acts, other_acts}
use Rattle.sctp_association.specs.Hosts.{polls, reads_on}
use Rattle.sctp_association.specs.OneLife.{Brought, EachOfferedIsBrought, brought, brought_by, brought_in, brought_to_one, brought_to_other}

-- ## Two rules make a third

module _ (A B C : Arrival → Halves → Type 0) (to : (a : Arrival) (h : Halves) → A a h → B a h → C a h) where
  calls-both : (datagram : List ℕ) (calls : List Arrival) (old new : Halves) (r : Steps (IsBrought datagram) Does calls old new)
      → AreByRule A datagram calls old new r → AreByRule B datagram calls old new r → AreByRule C datagram calls old new r
  calls-both datagram [] old new r x y = tt
  calls-both datagram (a ∷ calls) old new r x y = (to a old x.0 y.0, calls-both datagram calls r.0 new r.1.1 x.1 y.1)

  act-both : (peer : List (List ℕ)) (act : Act) (x y : Host) (h : Acts peer act x y) → IsActByRule A peer act x y h → IsActByRule B peer act x y h
      → IsActByRule C peer act x y h
  act-both peer (asks call) x y h a b = tt
  act-both peer (reads_on stream) x y h a b = tt
  act-both peer (polls is_sent datagram) x y h a b = tt
  act-both peer (handles datagram) x y h a b =
      calls-both datagram h.arrives.calls (halves x.sender x.receiver) (halves y.sender y.receiver) h.arrives.run a b

module _ (A B C : Arrival → Halves → Type 0) (to-one : (a : Arrival) (h : Halves) → A a h → B a h → C a h)
    (D E F : Arrival → Halves → Type 0) (to-other : (a : Arrival) (h : Halves) → D a h → E a h → F a h) where
  pub moves-both : (ms : List Move) (h new : Hosts) (r : MovesTo h ms new) → AreMovesByRule A D h ms new r → AreMovesByRule B E h ms new r
      → AreMovesByRule C F h ms new r
  moves-both [] h new r x y = tt
  moves-both (one_acts act ∷ ms) h new r x y =
      (act-both A B C to-one h.other.sent act h.one r.0.one r.1.0.0 x.0 y.0, moves-both ms r.0 new r.1.1 x.1 y.1)
  moves-both (other_acts act ∷ ms) h new r x y =
      (act-both D E F to-other h.one.sent act h.other r.0.other r.1.0.0 x.0 y.0, moves-both ms r.0 new r.1.1 x.1 y.1)

-- ## Each call is one of those that were brought

module _ (all : List Brought) where
  calls-in : (datagram : List ℕ) (calls : List Arrival) (old new : Halves) (r : Steps (IsBrought datagram) Does calls old new)
      → ((b : Brought) → Contains (brought_in datagram calls old new r) b → Contains all b)
      → AreByRule (λ a h. Contains all (brought a h)) datagram calls old new r
  calls-in datagram [] old new r f = tt
  calls-in datagram (a ∷ calls) old new r f =
      let rest = brought_in datagram calls r.0 new r.1.1 in
      (f (brought a old) (0, omega arith, refl), calls-in datagram calls r.0 new r.1.1 (λ b c. f b (Contains-append_right (brought a old ∷ []) rest b c)))

  act-in : (peer : List (List ℕ)) (act : Act) (x y : Host) (h : Acts peer act x y) → ((b : Brought) → Contains (brought_by peer act x y h) b → Contains all b)
      → IsActByRule (λ a h. Contains all (brought a h)) peer act x y h
  act-in peer (asks call) x y h f = tt
  act-in peer (reads_on stream) x y h f = tt
  act-in peer (polls is_sent datagram) x y h f = tt
  act-in peer (handles datagram) x y h f =
      calls-in datagram h.arrives.calls (halves x.sender x.receiver) (halves y.sender y.receiver) h.arrives.run f

module _ (ones others : List Brought) where
  pub moves-in : (ms : List Move) (h new : Hosts) (r : MovesTo h ms new) → ((a : Brought) → Contains (brought_to_one h ms new r) a → Contains ones a)
      → ((a : Brought) → Contains (brought_to_other h ms new r) a → Contains others a)
      → AreMovesByRule (λ a h. Contains ones (brought a h)) (λ a h. Contains others (brought a h)) h ms new r
  moves-in [] h new r f g = tt
  moves-in (one_acts act ∷ ms) h new r f g =
      let first = brought_by h.other.sent act h.one r.0.one r.1.0.0 in
      let rest = brought_to_one r.0 ms new r.1.1 in (
        act-in ones h.other.sent act h.one r.0.one r.1.0.0 (λ a c. f a (Contains-append_left first rest a c)),
        moves-in ms r.0 new r.1.1 (λ a c. f a (Contains-append_right first rest a c)) g,
      )
  moves-in (other_acts act ∷ ms) h new r f g =
      let first = brought_by h.one.sent act h.other r.0.other r.1.0.0 in
      let rest = brought_to_other r.0 ms new r.1.1 in (
        act-in others h.one.sent act h.other r.0.other r.1.0.0 (λ a c. g a (Contains-append_left first rest a c)),
        moves-in ms r.0 new r.1.1 f (λ a c. g a (Contains-append_right first rest a c)),
      )

-- ## Each half begins by an offer

module _ (d : List ℕ) (a b : Association) where
  pub brought-steps : (calls : List Arrival) (x y : Halves) → Steps (IsBroughtAs (IsBegunBy d a b) d) Does calls x y → Steps (IsBrought d) Does calls x y
  brought-steps [] x y r = r
  brought-steps (c ∷ calls) x y r = (r.0, (record { asked = r.1.0.asked.brought; does = r.1.0.does }, brought-steps calls r.0 y r.1.1))

  calls-begun : (calls : List Arrival) (x y : Halves) (r : Steps (IsBroughtAs (IsBegunBy d a b) d) Does calls x y)
      → AreByRule (λ call h. IsBegunBy d a b call) d calls x y (brought-steps calls x y r)
  unfolding brought-steps
  calls-begun [] x y r = tt
  calls-begun (c ∷ calls) x y r = (r.1.0.asked.rule, calls-begun calls r.0 y r.1.1)

  -- by another rule
  pub calls-by : (R : Arrival → Halves → Type 0) → ((c : Arrival) (x y : Halves) → IsBegunBy d a b c → Does c x y → R c x) → (calls : List Arrival)
      (x y : Halves) (r : Steps (IsBroughtAs (IsBegunBy d a b) d) Does calls x y) → AreByRule R d calls x y (brought-steps calls x y r)
  unfolding brought-steps
  calls-by R to [] x y r = tt
  calls-by R to (c ∷ calls) x y r = (to c x r.0 r.1.0.asked.rule r.1.0.does, calls-by R to calls r.0 y r.1.1)

pub each-offered : EachOfferedIsBrought
each-offered d a b o =
    let calls = o.arrives.calls in
    let run = o.arrives.run in (
      record { calls = calls; run = brought-steps d a b calls (halves_of a) (halves_of b) run },
      calls-begun d a b calls (halves_of a) (halves_of b) run,
    )
