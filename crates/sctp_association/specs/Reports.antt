-- What this side tells a peer of what it does not know, and why it ends what it began.
use Rattle.std.specs.Prelude.{◌≡◌, ℕ, zero, suc, ◌+◌, ◌-◌, ◌*◌, ◌/◌, ◌==◌, Bool, true, not, ◌&&◌, ◌||◌, min, nat_lt, if◌then◌else◌, List, take, drop}
use Rattle.std.specs.Prelude.{[], ◌∷◌, ◌++◌, length, slice_range, Option, Some, None, is_none, is_some}
use Rattle.sctp_association.specs.Timers.{StopsTimers}
use Rattle.sctp_association.specs.declared.association.Association.{Association}
use Rattle.sctp_association.specs.declared.due.Alone.{Alone}
use Rattle.sctp_association.specs.declared.due.AloneKind.{AloneKind}
use Rattle.sctp_association.specs.declared.due.AloneKind.TheVariants.{HostName}
use Rattle.sctp_association.specs.declared.due.Report.{Report}
use Rattle.sctp_association.specs.declared.event.Ending.TheVariants.{Aborted}
use Rattle.sctp_chunks.specs.declared.chunk.error_cause.ErrorCause.{ErrorCause}
use Rattle.sctp_chunks.specs.Framing.{value_at}
use Rattle.sctp_datagram.specs.declared.datagram.ChunkPlace.{ChunkPlace}
use Rattle.sctp_datagram.specs.declared.params.ParamPlace.{ParamPlace}
use Rattle.sctp_handshake.specs.InitValues.{host_name_of, is_param, place, told_from}
use Rattle.sctp_handshake.specs.declared.init_value.Reported.{Reported}
use Rattle.sctp_util.specs.Field.{u32_at}
use Rattle.sctp_handshake.specs.Machines.{closed}
use Rattle.sctp_params.specs.Param.{Parameter, unknown_param}
use Rattle.sctp_util.specs.Padding.{padded_length, padding_of}

-- one cause: a code, and what is said of it (3.3.10)
abbrev pub one_cause : ℕ → List ℕ → List ErrorCause
one_cause code info = record { code = record { 0 = code }; raw = info } ∷ []

-- as much as fits into a packet, behind the headers of packet, chunk and cause, in whole words
abbrev pub most_reported : ℕ → ℕ
most_reported mtu = (mtu - 20) / 4 * 4

-- the peer of a chunk is told that its type is not known: the type says so, or it is that of an I-FORWARD-TSN; none waits to be told, and
-- the peer is known (RFC 9260 3.2)
abbrev pub is_told : ChunkPlace → Association → Bool
is_told c a = (c.is_reported || c.typ == 194) && (is_none a.due.report && is_some a.machine.peer)

-- the Host Name Address of the value, where it fits into a packet (RFC 9260 5.1.2)
abbrev pub host_name_told : List ℕ → ParamPlace → ℕ → Option (List ℕ)
host_name_told value p mtu =
    if nat_lt (most_reported mtu) (p.length + 4) then None
    else Some (slice_range value (p.at - 4) (p.at + p.length))

-- an ERROR with cause 6 and the chunk (RFC 9260 3.3.10.6)
abbrev pub report_of : List ℕ → ChunkPlace → ℕ → Report
report_of datagram c mtu =
    record { code = 6; raw = take (min c.length (most_reported mtu)) (drop c.at datagram) }

-- what is reported once a chunk came
abbrev pub reported_after : List ℕ → ChunkPlace → Association → Option Report
reported_after datagram c a =
    if is_told c a then Some (report_of datagram c a.config.mtu) else a.due.report

-- ## Parameters of an INIT and of an INIT ACK (RFC 9260 3.2.1, 3.2.2)

-- the bytes of a parameter that is told of, and those that are told behind it
abbrev pub with_later : Option Reported → List ℕ → (ℕ → List (List ℕ)) → List (List ℕ)
with_later None value later = []
with_later (Some r) value later = slice_range value r.from r.to ∷ later r.next

-- From a place on, at most so many: each parameter that this side does not know, and whose type has it told of. They are in their order.
abbrev pub told_params : (most : ℕ) → List ℕ → (at : ℕ) → List (List ℕ)
told_params zero value at = []
told_params (suc most) value at =
    with_later (told_from (length value) value at) value (λ next. told_params most value next)

-- bytes, and zeros behind them up to a multiple of four
abbrev pub padded : List ℕ → List ℕ
padded bytes = bytes ++ take (padding_of (length bytes)) (0 ∷ 0 ∷ 0 ∷ [])

-- such parameters behind these bytes, with padding between them, up to the first that has no room in so many bytes
abbrev pub joined : (most : ℕ) → List ℕ → List (List ℕ) → List ℕ
joined most bytes [] = bytes
joined most bytes (p ∷ ps) =
    if nat_lt (most - length bytes) (length p + padding_of (length bytes)) then bytes
    else joined most (padded bytes ++ p) ps

-- where there are some
abbrev pub if_some : List ℕ → Option (List ℕ)
if_some [] = None
if_some (b ∷ bs) = Some (b ∷ bs)

-- what the sender of a value is told of its parameters, where there are some: as many as fit into a packet
unfoldable pub params_told : (mtu : ℕ) → List ℕ → Option (List ℕ)
params_told mtu value =
    if_some (joined (most_reported mtu) [] (told_params (length value) value 16))

-- the sender of an INIT ACK is told by an ERROR with cause 8 (RFC 9260 3.3.10.8)
abbrev pub report_with : Option (List ℕ) → Option Report → Option Report
report_with None r = r
report_with (Some raw) r = Some (record { code = 8; raw = raw })

-- The sender of an INIT is told in its INIT ACK, by Unrecognized Parameters (RFC 9260 3.3.3): one for each parameter that stands in the bytes from a
-- place on, at most so many, as long as so many bytes have room for it.
abbrev pub unrecognized : (most room : ℕ) → List ℕ → (at : ℕ) → List Parameter
unrecognized zero room raw at = []
unrecognized (suc most) room raw at =
    if not (is_param raw at) then []
    else (if nat_lt ((room - 4) / 4 * 4) (4 + (place raw at).length) then []
    else unknown_param 8 (slice_range raw at (at + (4 + (place raw at).length))) ∷ unrecognized
    most (room - (4 + padded_length (4 + (place raw at).length))) raw (place raw at).next)

abbrev pub unrecognized_in : (room : ℕ) → Option (List ℕ) → List Parameter
unrecognized_in room None = []
unrecognized_in room (Some raw) = unrecognized (length raw) room raw 0

-- ## What a value says, and what ends

-- the value of the chunk at a place
abbrev pub value_in : List ℕ → ChunkPlace → List ℕ
value_in datagram c = value_at (drop c.at datagram)

-- such a reply to who has this tag
abbrev pub to_tag : AloneKind → ℕ → Alone
to_tag kind tag = record { tag = tag; kind = kind }

-- what was begun ends: such an ABORT is due, with the parameter that it tells, and again where it is lost, and how it ended is told
pub record EndsBegun (kind : AloneKind) (raw : Option (List ℕ)) (tag : ℕ) (old new : Association)
    : Type 0 where
  pub over : new.is_over ≡ true
  pub machine : new.machine ≡ closed old.machine
  pub due : new.due ≡ record old.due {
    alone = Some (to_tag kind tag);
    farewell = Some (to_tag kind tag);
    unknown_params = raw;
  }
  pub told : new.events ≡ record old.events { closed = Some Aborted }
  pub timers : StopsTimers new
  pub outbound : new.outbound ≡ old.outbound

-- an INIT with a Host Name Address is answered by an ABORT to its tag, with the parameter (RFC 9260 5.1.2)
abbrev pub AnswersHostName : List ℕ → Association → Type 0
AnswersHostName value a =
    (p : ParamPlace) → host_name_of value ≡ Some p
    → (a.due.alone ≡ Some (to_tag HostName (u32_at value 0)))
    × (a.due.unknown_params ≡ host_name_told value p a.config.mtu)

-- by an INIT ACK with one what was begun ends so
abbrev pub EndsByHostName : List ℕ → (old new : Association) → Type 0
EndsByHostName value old new =
    (p : ParamPlace) → host_name_of value ≡ Some p
    → EndsBegun HostName (host_name_told value p old.config.mtu) (u32_at value 0) old new
