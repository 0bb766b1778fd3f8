-- What every record that a history leads to keeps, and what one more event adds.
use Rattle.sctp_model.proofs.Names.{◌≡◌, ℕ, ◌<◌, ◌≤◌, ◌^◌, true, [], ◌∷◌, length, Some, None, ap, sym, arith, slice_get, subst, Event, Setup, LinkRecord}
use Rattle.sctp_model.proofs.Names.{message_at, tsn_of, spans_fit, contents_of, datagram, History, IsRun, record_of, refusal_of, reply_to, after, IsSetup}
use Rattle.sctp_model.proofs.Names.{IsValid, Outbound, RefinesOutbound, nat_tests}
use Rattle.std.proofs.lemmas.Option.{slice_get_within}
use Rattle.sctp_model.specs.Steps.{StandsFor}
use Rattle.sctp_model.proofs.sender.Shape.{shape}
use Rattle.sctp_model.proofs.sender.SenderRun.{Consistent, consistent-run}
use Rattle.sctp_model.proofs.sender.Network.{AllFit, fit-run, datagrams_stay}
use Rattle.sctp_model.proofs.receiver.Spans.{spans_fit_always}
use Rattle.sctp_model.proofs.receiver.ValidRun.{record_is_valid}
use Rattle.sctp_model.proofs.refinement.sending.KindsRun.{Going, taken-run}
use Rattle.sctp_model.proofs.refinement.sending.Fragments.{going-run}
use Rattle.sctp_model.proofs.refinement.amounts.NoLarger.{no-larger}
use Rattle.sctp_model.specs.LinkRecord as W
use Rattle.sctp_model.proofs.sender.Few

-- what every record that a history leads to keeps
pub record Facts (w : LinkRecord) : Type 0 where
  pub setup : IsSetup w.setup
  pub consistent : Consistent w.setup w
  pub going : Going w.setup w
  pub valid : IsValid w
  pub spans : spans_fit w [] ≡ true
  pub few : length w.slots < 2 ^ 31
  pub taken : w.taken ≤ length w.slots
  pub fit : AllFit (shape w) w.network
  pub largest : (n : ℕ) → n < length w.messages → length (message_at w n).bytes ≤ w.setup.largest
  -- what a datagram says never changes
  pub stays : (e : Event) (k : ℕ) → refusal_of w e ≡ None → k < length w.network → datagram (after w e) k ≡ datagram w k

-- those of the record of a history
pub of-run : (setup : Setup) (h : History) → IsSetup setup → IsRun setup h → (record_of setup h).setup ≡ setup → Facts (record_of setup h)
of-run setup h is run same =
    grind (arith, nat_tests, consistent-run, going-run, record_is_valid, spans_fit_always, Few.few, taken-run, fit-run, no-larger, datagrams_stay)

-- after an accepted event the record stands for the longer history
pub stands-then : {setup : Setup} {w : LinkRecord} {h : History} (e : Event) → refusal_of w e ≡ None → StandsFor setup w h
    → StandsFor setup (after w e) ((e, reply_to w e) ∷ h)
stands-then e none s = grind (arith, nat_tests)

-- what a datagram of before says after it
pub says-still : {w : LinkRecord} (f : Facts w) (e : Event) → refusal_of w e ≡ None → (k : ℕ) (g g' : W.Datagram) → slice_get w.network k ≡ Some g
    → slice_get (after w e).network k ≡ Some g' → contents_of (after w e) g' ≡ contents_of w g
says-still {w} f e none k g g' old new = grind (arith, nat_tests, slice_get_within)

-- ## A record that stands for a history

pub record Stands (w : LinkRecord) : Type 0 where
  pub setup : IsSetup w.setup
  pub history : History
  pub stands : StandsFor w.setup w history

pub facts : {w : LinkRecord} → Stands w → Facts w
facts {w} s = subst Facts (sym s.stands.is) (of-run w.setup s.history s.setup s.stands.run (ap (λ v. v.setup) (sym s.stands.is)))

-- a property of every record that a history leads to, at this one
pub over : {w : LinkRecord} (P : LinkRecord → Type 0) (s : Stands w) → P (record_of w.setup s.history) → P w
over P s p = subst P (sym s.stands.is) p

-- and the outbound queue and the next TSN that it has
pub record Sends (w : LinkRecord) (q : Outbound) (tsn : ℕ) : Type 0 where
  pub told : Stands w
  pub outbound : RefinesOutbound w q
  pub next : tsn ≡ tsn_of w (length w.slots)
