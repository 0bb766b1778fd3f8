-- Why no packet is shown of a record, in words.
use Rattle.std.specs.Prelude.{ℕ, List, ◌++◌, codes, decimal}
use Rattle.sctp_capture.specs.declared.record.Fault.{Fault}
use Rattle.sctp_capture.specs.declared.record.Fault.TheVariants.{NotHex, CutOff, TooLong, Short, Fragment, OtherProtocol, OtherLink, BadBlock, NoInterface}
use Rattle.sctp_capture.specs.declared.record.Fault.TheVariants.{BadOffset}

abbrev pub fault_text : Fault → List ℕ
fault_text NotHex = codes "not hex text"
fault_text CutOff = codes "cut off"
fault_text TooLong = codes "longer than 256 KiB"
fault_text Short = codes "frame cut off"
fault_text Fragment = codes "fragment of an IP packet"
fault_text OtherProtocol = codes "no SCTP"
fault_text (OtherLink link_type) = codes "unknown link type " ++ decimal link_type
fault_text BadBlock = codes "wrong length in a block"
fault_text NoInterface = codes "unknown interface"
fault_text BadOffset = codes "wrong offset in a dump"
