-- The congestion window (RFC 9260 7.2). Amounts are bytes, and a quotient is rounded down.
use Rattle.std.specs.Prelude.{ℕ, ◌+◌, ◌-◌, ◌*◌, ◌/◌, ◌^◌, Bool, true, false, ◌&&◌, ◌==◌, nat_lt, nat_le, if◌then◌else◌, min, max, Option, Some, None, List, [], ◌∷◌}
use Rattle.sctp_util.specs.Serial.{at_or_before, comes_before}
use Rattle.sctp_path.specs.declared.congestion.Acknowledged.{Acknowledged}
use Rattle.sctp_path.specs.declared.congestion.Undo.{Undo}

-- PMDCS, cwnd, ssthresh, partial_bytes_acked; in Fast Recovery its exit point; whether T3-rtx expired and nothing was acknowledged
-- since; whether the path is idle, so that cwnd was adjusted for it; what the last loss changed
pub record Control : Type 0 where
  pub pmdcs : ℕ
  pub window : ℕ
  pub threshold : ℕ
  pub acked : ℕ
  pub exit : Option ℕ
  pub single : Bool
  pub idle : Bool
  pub undo : Option Undo

-- PMDCS: what a packet has room for after its header of 12 bytes, in whole words (RFC 9260 2.3, 3). A length of IP has 16 bits.
abbrev pub pmdcs_of : ℕ → ℕ
pmdcs_of mtu = max 4 ((min mtu 65535 - 12) / 4 * 4)

-- the first window (RFC 9260 7.2.1)
abbrev pub first_window : ℕ → ℕ
first_window p = min (4 * p) (max (2 * p) 4404)

-- a path of which nothing is known: ssthresh is the peer's window (RFC 9260 7.2.1)
abbrev pub first : ℕ → ℕ → Control
first mtu peer_window = record {
  pmdcs = pmdcs_of mtu;
  window = first_window (pmdcs_of mtu);
  threshold = peer_window;
  acked = 0;
  exit = None;
  single = false;
  idle = false;
  undo = None;
}

-- the greatest amount
abbrev pub most : ℕ
most = 2 ^ 64 - 1

-- a window that is so much larger
abbrev pub wider : ℕ → Control → Control
wider by c = record c { window = min (c.window + by) most }

-- ## A SACK

-- cwnd is fully used where no further packet fits beside what was outstanding
abbrev pub is_used : ℕ → Control → Bool
is_used flight c = nat_lt c.window (flight + c.pmdcs)

-- by how much a SACK widens cwnd in slow start at most: by PMDCS (RFC 9260 7.2.1); from 200 packets on by the Kth part of it, where K is cwnd by
-- 100 packets (RFC 3742, whose max_ssthresh is 200 packets here), and never by nothing
abbrev pub slow_step : Control → ℕ
slow_step c = max 1 (c.pmdcs / max 1 (c.window / (100 * c.pmdcs)))

-- slow start (RFC 9260 7.2.1): by what was acknowledged, at most so much, where the cumulative TSN advanced and cwnd was fully used
abbrev pub after_slow_start : Acknowledged → Control → Control
after_slow_start a c =
    if a.advances && is_used a.flight c then wider (min a.bytes (slow_step c)) c else c

-- congestion avoidance (RFC 9260 7.2.2), of partial_bytes_acked with what was acknowledged. Where cwnd bytes were outstanding and it is at
-- least cwnd, cwnd leaves it and grows by PMDCS (2); where fewer were, it is at most cwnd (1)
abbrev pub avoided : ℕ → ℕ → Control → Control
avoided acked flight c =
    if nat_lt flight c.window then record c { acked = min acked c.window }
    else (if nat_lt acked c.window then record c { acked = acked }
    else wider c.pmdcs (record c { acked = acked - c.window }))

abbrev pub after_avoidance : Acknowledged → Control → Control
after_avoidance a c = avoided (min (c.acked + a.bytes) most) a.flight c

-- a SACK that acknowledges all up to the exit point ends Fast Recovery (RFC 9260 7.2.4)
abbrev pub left : Option ℕ → ℕ → Option ℕ
left None cumulative = None
left (Some exit) cumulative = if at_or_before exit cumulative then None else Some exit

-- nothing grows by a SACK that leaves Fast Recovery standing (RFC 9260 7.2.1); the one that ends it counts as any other
abbrev pub after_growth : Option ℕ → Acknowledged → Control → Control
after_growth (Some exit) a c = c
after_growth None a c =
    if nat_le c.window c.threshold then after_slow_start a c else after_avoidance a c

-- partial_bytes_acked is 0 once all data is acknowledged (RFC 9260 7.2.2, 4); with any data acknowledged, more than one packet may be sent
-- (RFC 9260 7.2.3), and the path was not idle
abbrev pub settled : Acknowledged → Control → Control
settled a c = record c {
  acked = if a.all then 0 else c.acked;
  single = c.single && (a.bytes == 0);
  idle = c.idle && (a.bytes == 0);
}

abbrev pub after_sack : Acknowledged → Control → Control
after_sack a c =
    let exit = left c.exit a.cumulative_tsn in
    settled a (after_growth exit a (record c { exit = exit }))

-- ## Losses

-- half of cwnd, and at least four packets (RFC 9260 7.2.3)
abbrev pub halved : Control → ℕ
halved c = max (c.window / 2) (4 * c.pmdcs)

-- what a loss changes, where TSNs past one up to another are outstanding
abbrev pub before_loss : ℕ → ℕ → Control → Undo
before_loss acked highest c =
    record { window = c.window; threshold = c.threshold; above = acked; last = highest; again = 0 }

-- SACKs reported a chunk missing: Fast Recovery begins, with the highest outstanding TSN as its exit point (RFC 9260 7.2.3, 7.2.4).
-- Nothing changes in Fast Recovery
abbrev pub after_loss : ℕ → ℕ → Option ℕ → Control → Control
after_loss acked highest None c = record c {
  window = halved c;
  threshold = halved c;
  acked = 0;
  exit = Some highest;
  idle = false;
  undo = Some (before_loss acked highest c);
}
after_loss acked highest (Some exit) c = c

-- T3-rtx expired: slow start begins with one packet (RFC 9260 7.2.3), and a Fast Recovery ends
abbrev pub after_timeout : Control → Control
after_timeout c = record c {
  window = c.pmdcs;
  threshold = halved c;
  acked = 0;
  exit = None;
  single = true;
  idle = false;
  undo = None;
}

-- ## What was no loss: chunks that were sent again since, and came twice (RFC 9260 3.3.4)

-- one more was sent again
abbrev pub after_resending : Option Undo → Control → Control
after_resending None c = c
after_resending (Some u) c = record c { undo = Some (record u { again = min (u.again + 1) most }) }

-- the chunk was outstanding as the loss was told, and one that was sent again is not known to have come twice
abbrev pub is_repeat : ℕ → Undo → Bool
is_repeat tsn u = nat_lt 0 u.again && (comes_before u.above tsn && at_or_before tsn u.last)

-- nothing was lost: cwnd and ssthresh are no less than before
abbrev pub undone : Undo → Control → Control
undone u c =
    record c { window = max c.window u.window; threshold = max c.threshold u.threshold; undo = None }

-- one fewer is left, and with the last one nothing was lost
abbrev pub with_repeat : Undo → Control → Control
with_repeat u c =
    if nat_lt 1 u.again then record c { undo = Some (record u { again = u.again - 1 }) }
    else undone u c

abbrev pub after_repeat : ℕ → Option Undo → Control → Control
after_repeat tsn None c = c
after_repeat tsn (Some u) c = if is_repeat tsn u then with_repeat u c else c

-- so of each in turn
abbrev pub after_repeats : List ℕ → Control → Control
after_repeats [] c = c
after_repeats (t ∷ ts) c = after_repeats ts (after_repeat t c.undo c)

-- ## Idle paths

-- no DATA was sent for an RTO: half of cwnd, and at least four packets; before the first of these ssthresh becomes cwnd (RFC 9260 7.2.1)
abbrev pub after_idling : Control → Control
after_idling c =
    record c {
      window = halved c;
      threshold = if c.idle then c.threshold else c.window;
      idle = true;
      undo = None;
    }

-- ## The path MTU

-- another PMDCS (RFC 9260 7.3); cwnd stays, but is at least a packet
abbrev pub with_mtu : ℕ → Control → Control
with_mtu mtu c = record c { pmdcs = pmdcs_of mtu; window = max c.window (pmdcs_of mtu) }

-- ## What may be sent

-- another packet may be sent while at most cwnd is outstanding: so one packet at most breaches cwnd, and none leaves once cwnd + (PMDCS - 1) is
-- outstanding (RFC 9260 6.1 B); after T3-rtx expired, no packet beside another until something is acknowledged (RFC 9260 7.2.3)
abbrev pub may_send : ℕ → Control → Bool
may_send flight c = if c.single then flight == 0 else nat_le flight c.window

-- another packet belongs to a burst that began with so much outstanding: Max.Burst is four packets (RFC 9260 6.1 D)
abbrev pub may_burst : (base flight : ℕ) → Control → Bool
may_burst base flight c = nat_lt (flight - base) (4 * c.pmdcs)
