use Rattle.std.proofs.Common.{◌∙◌, sym, rules, tests}
use Rattle.std.proofs.lemmas.Iterator.{YieldsList-from_slice}
use Rattle.std.proofs.lemmas.Iterator.Search.{any_from_yields_List}
use Rattle.sctp_chunks.specs.Kind.{wire_of}
use Rattle.sctp_packets.specs.Valid.{is_init}
use Rattle.sctp_packets.proofs.MappedLists.{any_mapped}
use Rattle.sctp_packets.proofs.packet.has_init.Goals as goal

pub returns : goal.returns
returns c =
    any_from_yields_List (λ x. is_init (wire_of x)) _ _ _ c.any.ensures.ran (YieldsList-from_slice c.args.chunks.now cc) (λ x b q k. search (rules, tests))
    ∙ sym (any_mapped wire_of is_init c.args.chunks.now)
