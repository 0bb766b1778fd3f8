-- What may be done in each state of an association (RFC 9260 4).
use Rattle.std.specs.Prelude.{Bool, true, false, Option, Some, None}
use Rattle.sctp_handshake.specs.declared.state.State.{State}
use Rattle.sctp_handshake.specs.declared.state.State.TheVariants.{Closed, CookieWait, CookieEchoed, Established}
use Rattle.sctp_handshake.specs.declared.state.State.TheVariants.{ShutdownPending, ShutdownSent, ShutdownReceived, ShutdownAckSent}
use Rattle.sctp_handshake.specs.declared.state.Timer.{Timer}
use Rattle.sctp_handshake.specs.declared.state.Timer.TheVariants.{T1Init, T1Cookie, T2Shutdown}

-- the timer that runs (RFC 9260 5.1 A and C, 9.2)
abbrev pub timer : State → Option Timer
timer Closed = None
timer CookieWait = Some T1Init
timer CookieEchoed = Some T1Cookie
timer Established = None
timer ShutdownPending = None
timer ShutdownSent = Some T2Shutdown
timer ShutdownReceived = None
timer ShutdownAckSent = Some T2Shutdown

-- new data of the application is accepted (RFC 9260 9.2)
abbrev pub accepts_writes : State → Bool
accepts_writes Closed = false
accepts_writes CookieWait = true
accepts_writes CookieEchoed = true
accepts_writes Established = true
accepts_writes ShutdownPending = false
accepts_writes ShutdownSent = false
accepts_writes ShutdownReceived = false
accepts_writes ShutdownAckSent = false

-- DATA may be sent (RFC 9260 6); with a COOKIE ECHO too (5.1 C)
abbrev pub sends_data : State → Bool
sends_data Closed = false
sends_data CookieWait = false
sends_data CookieEchoed = true
sends_data Established = true
sends_data ShutdownPending = true
sends_data ShutdownSent = false
sends_data ShutdownReceived = true
sends_data ShutdownAckSent = false

-- DATA that arrives is taken (RFC 9260 6)
abbrev pub takes_data : State → Bool
takes_data Closed = false
takes_data CookieWait = false
takes_data CookieEchoed = false
takes_data Established = true
takes_data ShutdownPending = true
takes_data ShutdownSent = true
takes_data ShutdownReceived = false
takes_data ShutdownAckSent = false

-- a SACK that arrives is processed (RFC 9260 6)
abbrev pub takes_sacks : State → Bool
takes_sacks Closed = false
takes_sacks CookieWait = false
takes_sacks CookieEchoed = true
takes_sacks Established = true
takes_sacks ShutdownPending = true
takes_sacks ShutdownSent = false
takes_sacks ShutdownReceived = true
takes_sacks ShutdownAckSent = false
