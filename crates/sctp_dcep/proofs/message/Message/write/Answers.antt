use Rattle.std.proofs.Common.{◌≡◌, Result, Ok, Err, List, ℕ, sym, ap, ◌∙◌}
use Rattle.std.specs.Prelude.{IfOk, OnOk, None}
use Rattle.sctp_dcep.specs.declared.fault.Fault.{Fault}
use Rattle.sctp_dcep.specs.declared.message.Open.{Open}
use Rattle.sctp_dcep.specs.declared.message.Message.{Message}
use Rattle.sctp_dcep.specs.declared.message.Message.TheVariants as messages
use Rattle.sctp_dcep.specs.Message.{FitsFields, as_read, open_encoding, read_of, write_refusal}
use Rattle.sctp_dcep.proofs.Again.{read_of-encoding}
use Rattle.sctp_dcep.proofs.message.Message.write.Goals as goal

read_again : (m : Message) (o : Open) (r : Result (List ℕ) Fault) → m ≡ messages.Open o
    → IfOk r (λ bytes. (write_refusal (messages.Open o) ≡ None) × (bytes ≡ open_encoding o)) → OnOk r (FitsFields o)
    → IfOk r (λ bytes. read_of bytes ≡ Ok (as_read m))
read_again m o (Ok bytes) is written fits = ap read_of written.1 ∙ read_of-encoding o fits ∙ ap (λ x. Ok (as_read x)) (sym is)
read_again m o (Err fault) is written fits = written

pub returns-in-Open-clause-again : goal.returns-in-Open-clause-again
returns-in-Open-clause-again c =
    read_again c.args.self.now c.in-Open.request c.write_open.result c.in-Open.is c.write_open.ensures.ok c.write_open.ensures.fits
