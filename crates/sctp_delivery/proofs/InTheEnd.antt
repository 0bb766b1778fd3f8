-- What is so in the end: where nothing waits, no message is partially sent; and where nothing is to be read, no stream has a message.
use Rattle.sctp_delivery.proofs.Names.{◌≡◌, ℕ, ◌<◌, Bool, true, not, List, [], ◌∷◌, Option, Some, None, is_some, refl, arith, find, list_all, list_any, sum_by}
use Rattle.sctp_delivery.proofs.Names.{cases_lt, none-some, nat_tests, both, not_both, ChunkPayloadData, ChunkSet, Data, Pending, message_read, InboundStream}
use Rattle.sctp_delivery.proofs.Names.{has_tsn}
use Rattle.sctp_receiver.specs.Inbound.{has_number}
use Rattle.sctp_sender.proofs.Runs.{any_chunk}
use Rattle.sctp_data.specs.PayloadData.{data_of}
use Rattle.sctp_delivery.proofs.Every.{Every}
use Rattle.sctp_delivery.proofs.ReadOnce.{count-none, none-count, one}
use Rattle.sctp_delivery.proofs.Sending.{QueuedOn}
use Rattle.sctp_delivery.proofs.Sent.{Entry, Numbered}

-- ## Lists

pub all-every : {A : Type 0} (t : A → Bool) (P : A → Type 0) → ((x : A) → t x ≡ true → P x) → (xs : List A) → list_all t xs ≡ true → Every P xs
all-every t P h [] e = tt
all-every t P h (x ∷ xs) e = let b = both (t x) (list_all t xs) e in (h x b.0, all-every t P h xs b.1)

pub any-of : (t : ℕ) (cs : List ChunkPayloadData) → 0 < sum_by (one t) cs → list_any (has_tsn t) cs ≡ true
any-of t cs lt = grind (arith, nat_tests, none-count)

pub some-of : (t : ℕ) (cs : List ChunkPayloadData) → list_any (has_tsn t) cs ≡ true → 0 < sum_by (one t) cs
some-of t cs e = grind (arith, nat_tests, cases_lt, count-none, not_both)

-- ## The sender's side

-- where nothing waits, no message is partially sent
pub none-selected : (on : ℕ → Bool) (ws : List Numbered) (first : ℕ) (number : ℕ → ℕ) (q : Pending) (sent : List Entry)
    → QueuedOn on ws first number q sent → q.ordered ≡ [] → q.unordered ≡ [] → q.selected ≡ None
none-selected on ws first number q sent h o u = grind (arith, nat_tests)

-- any data, where a look-up asks for some to fall back on
abbrev pub none-data : Data
none-data = data_of any_chunk

pub nothing : (o : Option ChunkSet) → not (is_some o) ≡ true → o ≡ None
nothing None e = refl
nothing (Some s) e = absurd (not_both e)

-- on a stream of these nothing is to be read
pub unread-of : (st : ℕ) (ls : List InboundStream) (l : InboundStream) → list_all (λ x. not (is_some (message_read x.queue.held))) ls ≡ true
    → find (has_number st) ls ≡ Some l → message_read l.queue.held ≡ None
unread-of st [] l e found = absurd (none-some l found)
unread-of st (x ∷ xs) l e found =
    let b = both (not (is_some (message_read x.queue.held))) (list_all (λ y. not (is_some (message_read y.queue.held))) xs) e in
    grind (arith, nat_tests, unread-of st xs l b.1)
