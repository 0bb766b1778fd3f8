-- A handle and its parts own what a box at the same types owns.
use mir.Syntax.{impl, tnil, dnil}
use mathlib.Core.List.{[]}
use denote.Signature.{Slot, plain}
use Rattle.std_alloc.proofs.BoxSteps.Form.{Bx}
use Rattle.std_heap.specs.contracts.Global as Heap
use Rattle.std_heap.specs.contracts.GlobalAllocator.TheImpl.{ghosts, dict}
use Rattle.std_heap.proofs.Global.TheLaws as heap
use Rattle.sctp_c.specs.contracts.sender.typed.TypedSender as Value
use Rattle.sctp_c.proofs.sender.typed.TypedSender.TheLaws as value
use Rattle.sctp_c.specs.contracts.sender.SctpSender as Handle
use Rattle.sctp_c.specs.contracts.sender.SctpNewSender as New
use Rattle.sctp_c.specs.contracts.parts.Parts as Parts

abbrev pub E : Bx
E = record {
  row = Value.the_row;
  laws = value.the_row_laws;
  al = record { row = Heap.the_row; laws = heap.the_row_laws; g = ghosts; d = dict; drops = impl [] tnil dnil };
}

abbrev pub FromHandle : Slot 0
FromHandle = plain (λ _. Handle.the_row)

abbrev pub FromNew : Slot 0
FromNew = plain (λ _. New.the_row)

abbrev pub FromParts : Slot 1
FromParts = plain (λ _. Parts.the_row Value.the_row Heap.the_row ghosts)
