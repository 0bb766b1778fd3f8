-- Definitions of specs/ at numbers that a reader can check against RFC 9260.
use Rattle.std.specs.Prelude.{ℕ, ◌≡◌, ◌-◌, ◌*◌, ◌^◌, true, false, Option, Some, None, [], ◌∷◌, refl}
use Rattle.sctp_path.specs.Rto.{Timeout, usual, limits_of, first as first_timeout, next_trip, after_trip, after_back_off}
use Rattle.sctp_path.specs.Congestion.{Control, pmdcs_of, first, after_sack, after_loss, after_resending, after_repeats, after_timeout, after_idling, with_mtu, may_send, may_burst}
use Rattle.sctp_path.specs.declared.congestion.Acknowledged.{Acknowledged}
use Rattle.sctp_path.specs.declared.congestion.Undo.{Undo}
use Rattle.sctp_util.specs.Serial.{at_or_before, comes_before, distance}
use Rattle.sctp_path.specs.Timers.{started, is_due, earliest, new_delay, after_packet, one_more, is_passed}
use Rattle.sctp_path.specs.Heartbeats.{next_at, trip_of}

-- ## RTO, in nanoseconds

abbrev pub ms : ℕ → ℕ
ms n = n * 1_000_000

-- 1 s before the first round trip
rto-at-first : (first_timeout usual).rto ≡ ms 1000
rto-at-first = refl

-- a round trip of 100 ms: SRTT is 100 ms, RTTVAR 50 ms, RTO 300 ms
after_100 : Timeout
after_100 = after_trip (ms 100) (first_timeout usual)

rto-at-100 : after_100 ≡ record { limits = usual; trips = Some (record { smoothed = ms 100; variation = ms 50 }); rto = ms 300 }
unfolding after_100
rto-at-100 = refl

-- then one of 180 ms: RTTVAR is (3 * 50 + 80) / 4 = 57.5 ms, SRTT (7 * 100 + 180) / 8 = 110 ms, RTO 340 ms
rto-at-180 : after_trip (ms 180) after_100
    ≡ record { limits = usual; trips = Some (record { smoothed = ms 110; variation = 57_500_000 }); rto = ms 340 }
unfolding after_100
rto-at-180 = refl

-- a shorter round trip widens RTTVAR as well: 20 ms after 100 ms
rto-at-20 : next_trip (ms 1) (ms 20) (record { smoothed = ms 100; variation = ms 50 }) ≡ record { smoothed = ms 90; variation = 57_500_000 }
rto-at-20 = refl

-- 30 ms are raised to RTO.Min, 120 s lowered to RTO.Max
rto-least : (after_trip (ms 10) (first_timeout usual)).rto ≡ ms 200
rto-least = refl

rto-most : (after_trip (ms 40000) (first_timeout usual)).rto ≡ ms 60000
rto-most = refl

-- where round trips are alike, RTTVAR ends at G
variation-least : next_trip (ms 1) (ms 100) (record { smoothed = ms 100; variation = ms 1 }) ≡ record { smoothed = ms 100; variation = ms 1 }
variation-least = refl

-- back-off: 300 ms, 600 ms; 40 s, 60 s. A round trip ends it
back-off : (after_back_off after_100).rto ≡ ms 600
unfolding after_100
back-off = refl

back-off-most : (after_back_off (record { limits = usual; trips = None; rto = ms 40000 })).rto ≡ ms 60000
back-off-most = refl

back-off-ends : after_trip (ms 180) (after_back_off (after_back_off after_100)) ≡ after_trip (ms 180) after_100
unfolding after_100
back-off-ends = refl

-- limits that contradict each other: the greatest time is raised to the least
limits-mended : limits_of 5 30 10 1 ≡ record { initial = 30; least = 30; most = 30; granularity = 1 }
limits-mended = refl

-- ## The congestion window, of packets of 1,200 bytes

pmdcs-usual : pmdcs_of 1200 ≡ 1188
pmdcs-usual = refl

pmdcs-in-words : pmdcs_of 1203 ≡ 1188
pmdcs-in-words = refl

pmdcs-least : pmdcs_of 0 ≡ 4
pmdcs-least = refl

pmdcs-most : pmdcs_of 100_000 ≡ 65520
pmdcs-most = refl

-- min(4 * 1188, max(2 * 1188, 4404)); with 576 bytes 4 * 564; with 9,000 bytes 2 * 8988
window-at-first : (first 1200 65535).window ≡ 4404
window-at-first = refl

window-at-first-576 : (first 576 65535).window ≡ 2256
window-at-first-576 = refl

window-at-first-9000 : (first 9000 65535).window ≡ 17976
window-at-first-9000 = refl

-- a state of such a path, and a SACK
at : (window threshold acked : ℕ) → Option ℕ → Control
at window threshold acked exit =
    record { pmdcs = 1188; window = window; threshold = threshold; acked = acked; exit = exit; single = false; idle = false; undo = None }

sack : (tsn bytes flight : ℕ) → Acknowledged
sack tsn bytes flight = record { cumulative_tsn = tsn; advances = true; bytes = bytes; flight = flight; all = false }

-- slow start: two packets acknowledged, one packet more
slow-start : after_sack (sack 1 2376 4404) (first 1200 65535) ≡ at 5592 65535 0 None
unfolding at sack
slow-start = refl

slow-start-by-bytes : after_sack (sack 1 500 4404) (first 1200 65535) ≡ at 4904 65535 0 None
unfolding at sack
slow-start-by-bytes = refl

-- not where another packet had fitted, nor where the cumulative TSN stood still
slow-start-not-used : after_sack (sack 1 2376 3216) (first 1200 65535) ≡ at 4404 65535 0 None
unfolding at sack
slow-start-not-used = refl

slow-start-used : after_sack (sack 1 2376 3217) (first 1200 65535) ≡ at 5592 65535 0 None
unfolding at sack
slow-start-used = refl

slow-start-gaps : after_sack (record (sack 1 2376 4404) { advances = false }) (first 1200 65535) ≡ at 4404 65535 0 None
unfolding at sack
slow-start-gaps = refl

-- from 200 packets on by half a packet, from 300 on by a third
slow-start-whole : after_sack (sack 1 2376 237599) (at 237599 500000 0 None) ≡ at 238787 500000 0 None
unfolding at sack
slow-start-whole = refl

slow-start-half : after_sack (sack 1 2376 237600) (at 237600 500000 0 None) ≡ at 238194 500000 0 None
unfolding at sack
slow-start-half = refl

slow-start-third : after_sack (sack 1 2376 356400) (at 356400 500000 0 None) ≡ at 356796 500000 0 None
unfolding at sack
slow-start-third = refl

-- a window never passes the greatest number
slow-start-most : after_sack (sack 1 1188 (2 ^ 64 - 1)) (at (2 ^ 64 - 1) (2 ^ 64 - 1) 0 None) ≡ at (2 ^ 64 - 1) (2 ^ 64 - 1) 0 None
unfolding at sack
slow-start-most = refl

-- congestion avoidance: a packet more for cwnd bytes, the rest is kept (2); at most cwnd where fewer were outstanding (1)
avoidance-grows : after_sack (sack 1 1188 4752) (at 4752 4000 4000 None) ≡ at 5940 4000 436 None
unfolding at sack
avoidance-grows = refl

avoidance-counts : after_sack (sack 1 1188 4752) (at 4752 4000 1000 None) ≡ at 4752 4000 2188 None
unfolding at sack
avoidance-counts = refl

avoidance-not-used : after_sack (sack 1 1188 4751) (at 4752 4000 4000 None) ≡ at 4752 4000 4752 None
unfolding at sack
avoidance-not-used = refl

-- all data is acknowledged (4)
avoidance-all : after_sack (record (sack 1 1188 4752) { all = true }) (at 4752 4000 1000 None) ≡ at 4752 4000 0 None
unfolding at sack
avoidance-all = refl

-- a loss of what is outstanding, TSNs 4 to 7: half, with all that was acknowledged forgotten, and what was before is noted; a second one in
-- Fast Recovery changes nothing
undo : (window threshold again : ℕ) → Option Undo
undo window threshold again =
    Some (record { window = window; threshold = threshold; above = 3; last = 7; again = again })

loss : after_loss 3 7 None (at 20000 65535 300 None) ≡ record (at 10000 10000 0 (Some 7)) { undo = undo 20000 65535 0 }
unfolding at undo
loss = refl

loss-least : after_loss 3 7 None (at 5000 65535 300 None) ≡ record (at 4752 4752 0 (Some 7)) { undo = undo 5000 65535 0 }
unfolding at undo
loss-least = refl

loss-again : after_loss 3 9 (Some 7) (at 10000 10000 0 (Some 7)) ≡ at 10000 10000 0 (Some 7)
unfolding at
loss-again = refl

-- one chunk was sent again, and came twice: cwnd is 20,000 again, and ssthresh 15,000
fell : ℕ → Control
fell again = record (at 10000 10000 0 (Some 7)) { undo = undo 20000 15000 again }

resent-one : after_resending (undo 20000 15000 0) (fell 0) ≡ fell 1
unfolding fell undo at
resent-one = refl

twice-one : after_repeats (4 ∷ []) (fell 1) ≡ at 20000 15000 0 (Some 7)
unfolding fell undo at comes_before at_or_before distance
twice-one = refl

-- two were sent again: both have to come twice
twice-of-two : after_repeats (7 ∷ []) (fell 2) ≡ fell 1
unfolding fell undo at comes_before at_or_before distance
twice-of-two = refl

twice-both : after_repeats (7 ∷ 4 ∷ []) (fell 2) ≡ at 20000 15000 0 (Some 7)
unfolding fell undo at comes_before at_or_before distance
twice-both = refl

-- nothing follows from chunks that were not outstanding at the loss, nor where none was sent again, nor without a loss
twice-others : after_repeats (3 ∷ 8 ∷ []) (fell 1) ≡ fell 1
unfolding fell undo at comes_before at_or_before distance
twice-others = refl

twice-none : after_repeats (4 ∷ []) (fell 0) ≡ fell 0
unfolding fell undo at comes_before at_or_before distance
twice-none = refl

twice-no-loss : after_repeats (4 ∷ 5 ∷ []) (at 10000 10000 0 None) ≡ at 10000 10000 0 None
unfolding at
twice-no-loss = refl

-- in Fast Recovery nothing grows. TSN 7 ends it, also where TSNs wrap, and counts as any other SACK
recovery-lasts : after_sack (sack 6 2376 10000) (at 10000 10000 0 (Some 7)) ≡ at 10000 10000 0 (Some 7)
unfolding at sack at_or_before distance
recovery-lasts = refl

recovery-ends : after_sack (sack 7 2376 10000) (at 10000 10000 0 (Some 7)) ≡ at 11188 10000 0 None
unfolding at sack at_or_before distance
recovery-ends = refl

recovery-ends-over-zero : after_sack (sack 2 2376 10000) (at 10000 10000 0 (Some 4294967290)) ≡ at 11188 10000 0 None
unfolding at sack at_or_before distance
recovery-ends-over-zero = refl

-- T3-rtx expired: a packet, alone until something is acknowledged
expired : Control
expired = after_timeout (at 20000 65535 300 (Some 7))

timeout : expired ≡ record (at 1188 10000 0 None) { single = true }
unfolding expired at
timeout = refl

timeout-one : may_send 0 expired ≡ true
unfolding expired at
timeout-one = refl

timeout-no-second : may_send 100 expired ≡ false
unfolding expired at
timeout-no-second = refl

timeout-over : may_send 100 (after_sack (sack 1 1188 1188) expired) ≡ true
unfolding expired at sack
timeout-over = refl

-- an idle path: half each time, and at least four packets; ssthresh is the window before
idle-once : after_idling (at 20000 3000 0 None) ≡ record (at 10000 20000 0 None) { idle = true }
unfolding at
idle-once = refl

idle-thrice : after_idling (after_idling (after_idling (at 20000 3000 0 None))) ≡ record (at 4752 20000 0 None) { idle = true }
unfolding at
idle-thrice = refl

-- a larger packet: cwnd has room for one
mtu-raised : with_mtu 1500 (at 1188 10000 0 None) ≡ record (at 1488 10000 0 None) { pmdcs = 1488 }
unfolding at
mtu-raised = refl

-- cwnd may be breached by one packet, also where exactly cwnd is outstanding
send-at : may_send 4404 (at 4404 65535 0 None) ≡ true
unfolding at
send-at = refl

send-past : may_send 4405 (at 4404 65535 0 None) ≡ false
unfolding at
send-past = refl

-- four packets of 1,188 bytes at once, and no fifth one
burst-fourth : may_burst 2000 5564 (at 20000 65535 0 None) ≡ true
unfolding at
burst-fourth = refl

burst-fifth : may_burst 2000 6752 (at 20000 65535 0 None) ≡ false
unfolding at
burst-fifth = refl

-- ## Timers

started-once : started 30 5 (started 10 5 None) ≡ Some 15
started-once = refl

started-late : started (2 ^ 64 - 2) 5 None ≡ Some (2 ^ 64 - 1)
started-late = refl

due-at : is_due 15 (Some 15) ≡ true
due-at = refl

due-not-yet : is_due 14 (Some 15) ≡ false
due-not-yet = refl

due-never : is_due 15 None ≡ false
due-never = refl

first-of-two : earliest (Some 9) (earliest None (Some 4)) ≡ Some 4
first-of-two = refl

-- ## Delayed SACKs: 200 after the first packet, now with the second, at once for a gap, and never later than it was

delay-first : after_packet 1000 false (new_delay 200) ≡ record { delay = 200; due = Some 1200 }
delay-first = refl

delay-second : after_packet 1100 false (after_packet 1000 false (new_delay 200)) ≡ record { delay = 200; due = Some 1100 }
delay-second = refl

delay-late : after_packet 1300 false (after_packet 1000 false (new_delay 200)) ≡ record { delay = 200; due = Some 1200 }
delay-late = refl

delay-gap : after_packet 1000 true (new_delay 200) ≡ record { delay = 200; due = Some 1000 }
delay-gap = refl

delay-most : new_delay 3_000_000_000 ≡ record { delay = 500_000_000; due = None }
delay-most = refl

-- ## Failures: with a limit of 2 the third one is too many

failures-two : is_passed (one_more (one_more (record { count = 0; most = 2 }))) ≡ false
failures-two = refl

failures-three : is_passed (one_more (one_more (one_more (record { count = 0; most = 2 })))) ≡ true
failures-three = refl

-- ## Heartbeats: used at 100, RTO 20 and an interval of 30; asked at 150 with the nonce 5

heartbeat-next : next_at 20 (record { interval = 30; used = 100; asked = None }) ≡ 150
heartbeat-next = refl

heartbeat-trip : trip_of 190 5 (Some (record { nonce = 5; at = 150 })) ≡ Some 40
heartbeat-trip = refl

heartbeat-other : trip_of 190 6 (Some (record { nonce = 5; at = 150 })) ≡ None
heartbeat-other = refl

heartbeat-back : trip_of 140 5 (Some (record { nonce = 5; at = 150 })) ≡ Some 0
heartbeat-back = refl
