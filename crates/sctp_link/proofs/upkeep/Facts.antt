-- What the history that a link stands for tells of its record.
use Rattle.sctp_link.proofs.Names.{ℕ, List, State, IsLinked, LinkRecord, record_of, Facts, Stands, Sends}
use Rattle.sctp_model.proofs.refinement.Histories as Histories

abbrev pub told : {sum : List ℕ → ℕ} {x : State} → IsLinked sum x → Stands x.recorded
told l = record { setup = l.setup; history = l.history; stands = l.stands }

abbrev pub sends : {sum : List ℕ → ℕ} {x : State} → IsLinked sum x → Sends x.recorded x.outbound x.next_tsn
sends l = record { told = told l; outbound = l.outbound; next = l.next }

pub facts : {sum : List ℕ → ℕ} {x : State} → IsLinked sum x → Facts x.recorded
facts l = Histories.facts (told l)

-- a property of every record that a history leads to, at the link's
pub over : {sum : List ℕ → ℕ} {x : State} (P : LinkRecord → Type 0) (l : IsLinked sum x) → P (record_of x.recorded.setup l.history) → P x.recorded
over P l p = Histories.over P (told l) p
