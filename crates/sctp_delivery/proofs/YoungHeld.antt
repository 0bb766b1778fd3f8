-- Reliable sessions of a whole life: each chunk that was taken is held, or was read.
use Rattle.sctp_delivery.proofs.Names.{◌≡◌, ℕ, true, List, [], ◌∷◌, sym, subst, list_all, both, Call, RunsTo, Session, at_start, of_receiver, of_sender}
use Rattle.sctp_delivery.proofs.Names.{is_reliable, is_reliable_at_receiver, is_reliable_at_sender}
use Rattle.sctp_delivery.specs.Complete.{IsHeldOrRead}
use Rattle.sctp_delivery.specs.Recent.{Aged, AreRecent, AreYoung, WhileReliableAndYoung, aged_after}
use Rattle.sctp_delivery.proofs.Calls.{numbered_after}
use Rattle.sctp_delivery.proofs.Cases.{all_streams}
use Rattle.sctp_delivery.proofs.Delivered.{sender-step}
use Rattle.sctp_delivery.proofs.Kept.{IsKeptIn, kept-first, of-kept, receiver-kept, sender-kept}
use Rattle.sctp_delivery.proofs.Recent.{IsNear, near-first, receiver-near, sender-near}
use Rattle.sctp_delivery.proofs.Sent.{Entry, Numbered}
use Rattle.sctp_delivery.proofs.YoungOwn.{IsOwned, absent, owned-first, receiver-owned, sender-owned}
use Rattle.sctp_delivery.proofs.YoungReads.{IsYoungSession, receiver-young, sender-young, young-first}

kept-then : (first : ℕ) (cs : List Call) (old new : Session) (ns : List Numbered) (sent : List Entry) (ages : List Aged) (r : RunsTo old cs new)
    → AreRecent old cs new r → AreYoung ages old cs new r → list_all is_reliable cs ≡ true → IsNear old → IsYoungSession first old ns sent ages
    → (ps : List ℕ) → IsOwned old sent ps → IsKeptIn old → IsKeptIn new
kept-then first [] old new ns sent ages r q y all j i ps h k = subst IsKeptIn (sym r) k
kept-then first (of_sender call ∷ cs) old new ns sent ages r q y all j i ps h k =
    let b = both (is_reliable_at_sender call) (list_all is_reliable cs) all in
    let x = sender-step first call old r.0 ns sent r.1.0 i.holds in
    let near = sender-near old r.0 q.1 j call r.1.0 q.0 in
    kept-then first cs r.0 new (numbered_after call ns) x.more (aged_after (of_sender call) old r.0 ages) r.1.1 q.2 y.2 b.1 near
    (sender-young all_streams first call old r.0 ns sent ages r.1.0 i y.1) ps
    (sender-owned all_streams first call old r.0 ns sent ages r.1.0 i y.1 q.1 j near ps h)
    (sender-kept call old r.0 b.0 r.1.0 k)
kept-then first (of_receiver call ∷ cs) old new ns sent ages r q y all j i ps h k =
    let b = both (is_reliable_at_receiver call) (list_all is_reliable cs) all in
    let o = receiver-owned all_streams first call old r.0 ns sent ages r.1.0 i y.0 y.1 q.1 q.0 j ps h in
    kept-then first cs r.0 new ns sent (aged_after (of_receiver call) old r.0 ages) r.1.1 q.2 y.2 b.1 (receiver-near old r.0 q.1 j call r.1.0 q.0)
    (receiver-young all_streams first call old r.0 ns sent ages r.1.0 i y.0) o.0 o.1
    (receiver-kept call old r.0 b.0 (absent all_streams first call old r.0 ns sent ages r.1.0 i y.0 y.1 q.1 q.0 j ps h) r.1.0 k)

pub law : WhileReliableAndYoung IsHeldOrRead
law tsn size max most limits cs s small some r q y all =
    of-kept s (kept-then tsn cs (at_start tsn size max most limits) s [] [] [] r q y all (near-first tsn size max most limits small)
    (young-first tsn size max most limits small some) [] (owned-first tsn size max most limits) (kept-first tsn size max most limits)).kept
