use Rattle.std.proofs.lemmas.Result.{IfOk-weaker}
use Rattle.sctp_capture.specs.Blocks.{known_of}
use Rattle.sctp_capture.specs.declared.input.Format.TheVariants.{Lines, Capture, Blocks}
use Rattle.sctp_capture.proofs.Pieces.{text_taken, entry_taken}
use Rattle.sctp_capture.proofs.Passing.{passes_by}
use Rattle.sctp_capture.proofs.input.next_piece.Goals as goal

pub returns-in-Lines-clause-takes : goal.returns-in-Lines-clause-takes
returns-in-Lines-clause-takes g c =
    IfOk-weaker c.next_text.result _ _ (λ taken is. rw c.in-Lines.is (text_taken (known_of c.args.section.now) _ _ taken is)) c.next_text.ensures.takes

pub returns-in-Lines-clause-passes : goal.returns-in-Lines-clause-passes
returns-in-Lines-clause-passes g c =
    IfOk-weaker c.next_text.result _ _
    (λ taken is. passes_by Lines (known_of c.args.section.now) _ taken _ _ (text_taken (known_of c.args.section.now) _ _ taken is)) c.next_text.ensures.takes

pub returns-in_ok-next_entry-in-Capture-clause-takes : goal.returns-in_ok-next_entry-in-Capture-clause-takes
returns-in_ok-next_entry-in-Capture-clause-takes g c =
    rw (c.in-Capture.is, c.taken_of.ensures) (entry_taken c.in-Capture.head (known_of c.args.section.now) _ _ _ c.in_ok-next_entry-in-Capture.ensures.takes)

pub returns-in_ok-next_entry-in-Capture-clause-passes : goal.returns-in_ok-next_entry-in-Capture-clause-passes
returns-in_ok-next_entry-in-Capture-clause-passes g c =
    rw c.taken_of.ensures (passes_by (Capture c.in-Capture.head) (known_of c.args.section.now) _ _ _ _
    (entry_taken c.in-Capture.head (known_of c.args.section.now) _ _ _ c.in_ok-next_entry-in-Capture.ensures.takes))

pub returns-in-Blocks-clause-passes : goal.returns-in-Blocks-clause-passes
returns-in-Blocks-clause-passes g c =
    IfOk-weaker c.next_block.result _ _ (λ taken is. passes_by Blocks (known_of c.args.section.now) _ taken _ _ is) c.next_block.ensures.takes
