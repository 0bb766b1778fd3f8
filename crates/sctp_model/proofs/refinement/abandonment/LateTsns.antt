-- A Late: what a link knows of the TSNs that are late, while their messages are abandoned in turn.
use Rattle.sctp_model.proofs.Names.{◌≡◌, ℕ, ◌<◌, ◌^◌, true, false, List, [], ◌∷◌, length, Option, refl, sym, ◌∙◌, arith, find, list_all, subst, late_tsns}
use Rattle.sctp_model.proofs.Names.{Outbound, LinkRecord, is_in_flight, is_partially_sent, place_of, growth, IsRight, takes_memory, IsSetup, message_of_tsn}
use Rattle.sctp_model.proofs.Names.{abandoned_tsn}
use Rattle.std.proofs.lemmas.Bool.{false≢true}
use Rattle.sctp_model.proofs.refinement.abandonment.AbandonedInTurn.{IsTurn, GivesInTurn, turn-written, late-fly, late-takes, late-done, begins}
use Rattle.sctp_model.proofs.refinement.amounts.Bounds.{written-few}
use Rattle.sctp_model.specs.declared.event.Event.TheVariants as E
use Rattle.sctp_model.specs.Reply as R
use Rattle.sctp_model.proofs.refinement.Histories.{Sends, facts}

-- the bytes that leave are few
pub turn-few : (w v : LinkRecord) → IsTurn w v → growth w v < 2 ^ 47
turn-few w v t =
    let is : IsSetup v.setup = subst IsSetup (sym t.abandoning.first) t.setup in
    omega (arith, turn-written w v t, written-few w.setup v is t.abandoning.consistent)

module _ {w : LinkRecord} {had : Outbound} {coming : ℕ} (l : Sends w had coming) (now : ℕ) (ts : List ℕ) (listed : ts ≡ late_tsns now had) where
  pub fly : list_all (λ t. is_in_flight w (place_of w t)) ts ≡ true
  fly = late-fly w now had ts l.told.setup (facts l.told).consistent (facts l.told).taken l.outbound listed

  pub takes : 0 < length ts → takes_memory w (E.Late now) ≡ true
  takes = late-takes w now had ts l.told.setup (facts l.told).consistent (facts l.told).taken l.outbound listed

  pub takes-unless : (late_tsns now had ≡ [] → false ≡ true) → takes_memory w (E.Late now) ≡ true
  takes-unless none = takes (some ts (λ e. none (sym listed ∙ e)))
    where
      some : (ks : List ℕ) → (ks ≡ [] → false ≡ true) → 0 < length ks
      some [] h = absurd (false≢true (h refl))
      some (k ∷ ks) h = omega arith

  pub begun : (o : Option ℕ) (bytes : ℕ) → o ≡ find (λ t. is_partially_sent w (message_of_tsn w t)) ts → bytes ≡ growth w (abandoned_tsn w o)
      → GivesInTurn w (abandoned_tsn w o) o ts 0 bytes
  begun o bytes e b = begins w ts o fly bytes l.told.setup (facts l.told).consistent e b

  pub done : (v : LinkRecord) (o : Option ℕ) (bytes : ℕ) → o ≡ find (λ t. is_partially_sent w (message_of_tsn w t)) ts → GivesInTurn w v o ts (length ts) bytes
      → IsRight w (E.Late now) (R.Late (length ts) bytes) v
  done v o bytes e i = late-done w now had ts l.told.setup (facts l.told).consistent (facts l.told).taken l.outbound listed v o bytes e i
