-- Parameters of an INIT and of an INIT ACK: which are known, and how one is written (RFC 9260 3.3.2, 3.3.3).
use Rattle.std.specs.Prelude.{ℕ, Bool, true, false, ◌&&◌, ◌||◌, not, ◌==◌, List, []}
use Rattle.sctp_params.specs.ParamFraming.{param_framed}
use Rattle.sctp_datagram.specs.Params.{is_stopping, is_reported}

-- addresses (5, 6, 11), State Cookie, Unrecognized Parameter, Cookie Preservative, Supported Address Types, and the extensions of an offer
abbrev pub is_known : ℕ → Bool
is_known t =
    (t == 5) || (t == 6) || (t == 7) || (t == 8) || (t == 9) || (t == 11) || (t == 12)
    || (t == 0x8001) || (t == 0x8008) || (t == 0xC000)

-- nothing is read behind an unknown one without the highest bit (RFC 9260 3.2.1)
abbrev pub ends_at : ℕ → Bool
ends_at t = not (is_known t) && is_stopping t

-- its sender is told of it
abbrev pub is_told : ℕ → Bool
is_told t = not (is_known t) && is_reported t

-- a parameter, where an offer has it
abbrev pub param_if : Bool → ℕ → List ℕ → List ℕ
param_if true typ bytes = param_framed typ bytes
param_if false typ bytes = []
