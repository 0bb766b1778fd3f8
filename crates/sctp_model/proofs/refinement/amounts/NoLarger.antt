-- In every history no message is longer than the longest that the link takes.
use Rattle.sctp_model.proofs.Names.{◌≡◌, ℕ, zero, suc, ◌+◌, ◌<◌, ◌≤◌, Bool, true, List, [], ◌∷◌, ◌++◌, length, map, refl, ap, ◌∙◌, arith, nat_le, list_all}
use Rattle.sctp_model.proofs.Names.{nat_tests, numbers_where, always, both, and, PayloadProtocolIdentifier, Setup, LinkRecord, message_at, History, record_of}
use Rattle.sctp_model.proofs.Names.{IsRun, refusal_of, Shown, writes_in, IsSetup, shown_of}
use Rattle.std.specs.Prelude.{None}
use Rattle.sctp_model.specs.declared.event.Event.TheVariants as E
use Rattle.sctp_model.proofs.sender.SenderRun.{consistent-run, unless-holds}
use Rattle.sctp_model.proofs.sender.Written.{messages_are_writes}

-- no longer than this
abbrev short : ℕ → Shown → Bool
short largest x = nat_le (length x.2) largest

all-both : (t : Shown → Bool) (xs ys : List Shown) → list_all t xs ≡ true → list_all t ys ≡ true → list_all t (xs ++ ys) ≡ true
all-both t [] ys a b = b
all-both t (x ∷ xs) ys a b = let c = both (t x) (list_all t xs) a in and (t x) (list_all t (xs ++ ys)) c.0 (all-both t xs ys c.1 b)

all-at : (t : Shown → Bool) (f : ℕ → Shown) (n from count : ℕ) → from ≤ n → n < from + count → list_all t (map f (numbers_where always from count)) ≡ true
    → t (f n) ≡ true
all-at t f n from zero low high a = absurd (omega arith)
all-at t f n from (suc count) low high a = grind (arith, nat_tests, all-at t f n (from + 1) count)

-- an accepted write is no longer
fits-write : (w : LinkRecord) (s : ℕ) (ppi : PayloadProtocolIdentifier) (bytes : List ℕ) → refusal_of w (E.Write s ppi bytes) ≡ None
    → nat_le (length bytes) w.setup.largest ≡ true
fits-write w s ppi bytes ok = grind (arith, nat_tests, unless-holds)

writes-short : (setup : Setup) (h : History) → IsRun setup h → list_all (short setup.largest) (writes_in h) ≡ true
writes-short setup [] run = refl
writes-short setup (entry ∷ older) run = grind (arith, nat_tests, consistent-run, fits-write, all-both, writes-short setup older)

-- no message is longer than the longest taken
pub no-larger : (setup : Setup) (h : History) (n : ℕ) → IsSetup setup → IsRun setup h → n < length (record_of setup h).messages
    → length (message_at (record_of setup h) n).bytes ≤ setup.largest
no-larger setup h n is run lt =
    let w = record_of setup h in
    let all = ap (list_all (short setup.largest)) (messages_are_writes setup h is run) ∙ writes-short setup h run in
    let one = all-at (short setup.largest) (shown_of w) n 0 (length w.messages) (omega arith) (omega arith) all in
    grind (arith, nat_tests)
