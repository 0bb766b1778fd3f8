-- A sender accounts for each byte that was written.
use Rattle.sctp_sender.proofs.Names.{◌≡◌, ◌+◌, ◌-◌, ◌^◌, List, [], ◌∷◌, true, length, take, drop, refl, ap, sym, subst, ◌∙◌, arith, min, take-append-drop}
use Rattle.sctp_sender.proofs.Names.{sum_by-append, change_where, ChunkPayloadData, is_outstanding, with_nsent, with_retransmit, bytes_of-change_where}
use Rattle.sctp_sender.proofs.Names.{bytes_of, has_tsn, can_miss, missed, sent_again, Transmission}
use Rattle.sctp_sender.specs.declared.sender.Reported.{Reported}
use Rattle.sctp_sender.specs.declared.sender.Reported.TheVariants.{Drop, Keep}
use Rattle.sctp_sender.specs.Sender.{with_nothing, with_reported}
use Rattle.sctp_sender.specs.SenderRuns.{AfterEachRun, Call, Follows, IsAccounted, Ledger, Makes, RunsTo, held_by_sender, abandons, abandons_late}
use Rattle.sctp_sender.specs.SenderRuns.{closes, marks, misses, opens, released_by, resends, resends_at, reserves, resets, sends, sets_low}
use Rattle.sctp_sender.specs.SenderRuns.{sets_mode, sets_size, starts, taken_back_by, takes_back, takes_sack, with_no_bytes, writes, written_by}
use Rattle.sctp_sender.proofs.Amounts.{started-bytes}

-- what a call makes of the bytes that wait and are in flight
moves : (c : Call) (old new : Transmission) → Makes c old new → held_by_sender new + released_by c ≡ held_by_sender old + written_by c + taken_back_by c
moves (opens stream) old new m = let e = ap held_by_sender m in omega (arith, e)
moves (closes stream) old new m = let e = ap held_by_sender m in omega (arith, e)
moves (sets_mode stream unordered reliability value) old new m = let e = ap held_by_sender m in omega (arith, e)
moves (starts now) old new m = let e = ap held_by_sender m ∙ started-bytes now old.flight.queue in omega (arith, e)
moves (reserves count) old new m = let e = ap held_by_sender m in omega (arith, e)
moves (sets_size size) old new m = let e = ap held_by_sender m in omega (arith, e)
moves (sets_low stream bytes) old new m = let e = ap held_by_sender m in omega (arith, e)
moves (resets stream) old new m = let e = ap held_by_sender m in omega (arith, e)
moves (resends_at tsn now c) old new m =
    let e = ap held_by_sender m in
    let b = bytes_of-change_where (has_tsn tsn) (sent_again (min (c.nsent + 1) (2 ^ 32 - 1)) now) (λ _. refl) old.flight.queue.inflight.chunks in
    omega (arith, e, b)
moves marks old new m =
    let e = ap held_by_sender m in
    let b = bytes_of-change_where is_outstanding (with_retransmit true) (λ _. refl) old.flight.queue.inflight.chunks in
    omega (arith, e, b)
moves (misses count) old new m =
    let cs = old.flight.queue.inflight.chunks in
    let e = ap held_by_sender m in
    let a = sum_by-append (λ (x : ChunkPayloadData). length x.user_data) (change_where can_miss missed (take count cs)) (drop count cs) in
    let b = bytes_of-change_where can_miss missed (λ _. refl) (take count cs) in
    let d = ap bytes_of (take-append-drop count cs) in
    let f = sum_by-append (λ (x : ChunkPayloadData). length x.user_data) (take count cs) (drop count cs) in
    omega (arith, e, a, b, d, f)
moves (resends tsn c) old new m =
    let e = ap held_by_sender m in
    let b = bytes_of-change_where (has_tsn tsn) (with_nsent (min (c.nsent + 1) (2 ^ 32 - 1))) (λ _. refl) old.flight.queue.inflight.chunks in
    omega (arith, e, b)
moves (writes bytes) old new m = omega (arith, m)
moves sends old new m = omega (arith, m)
moves (abandons bytes) old new m = omega (arith, m)
moves (abandons_late gone) old new m = omega (arith, m)
moves (takes_sack gone) old new m = omega (arith, m)
moves (takes_back back) old new m = omega (arith, m)

next : (c : Call) (old new : Ledger) → Follows c old new → IsAccounted old → IsAccounted new
next c old new f a = let m = moves c old.sender new.sender f.sender in omega (arith, m, f.written, f.released, f.taken_back, a)

run : (cs : List Call) (old new : Ledger) → RunsTo old cs new → IsAccounted old → IsAccounted new
run [] old new r a = subst IsAccounted (sym r) a
run (c ∷ cs) old new r a = run cs r.0 new r.1.1 (next c old r.0 r.1.0 a)

pub accounted : AfterEachRun IsAccounted
accounted tsn size max reported calls l r = run calls (with_no_bytes (with_reported reported t)) l r (start reported)
  where
    t : Transmission
    t = with_nothing tsn size max

    start : (reported : Reported) → IsAccounted (with_no_bytes (with_reported reported t))
    start Drop = refl
    start Keep = refl
