-- The streams of two senders that are alike but for how many bytes wait and are in flight.
use Rattle.sctp_delivery.proofs.Names.{arith, nat_tests, common_steps, ◌≡◌, ℕ, Bool, true, false, List, [], ◌∷◌, ◌++◌, map, refl, ap, ap₂, sym, ◌∙◌, Option}
use Rattle.sctp_delivery.proofs.Names.{Some, None, option_map, is_some, if◌then◌else◌, find, change_where, OutboundStream, PayloadProtocolIdentifier}
use Rattle.sctp_delivery.proofs.Names.{AbandonedMessage, Released, has_number, less_by, after_releases, after_leaving, after_expiry, wrote, with_size, with_low}
use Rattle.sctp_delivery.proofs.Names.{with_mode}
use Rattle.sctp_sender.specs.declared.sender.flight.kept.TakenBack.{TakenBack}
use Rattle.sctp_sender.specs.Keeping.{after_returns, more_by}
use Rattle.sctp_delivery.proofs.Cases.{at-if, at-test}

abbrev pub bare : OutboundStream → OutboundStream
bare l = record l { buffered_amount = 0 }

abbrev pub AreAlike : List OutboundStream → List OutboundStream → Type 0
AreAlike ls ms = map bare ls ≡ map bare ms

-- ## What changes the amounts alone

less-alike : (p : OutboundStream → Bool) (f : OutboundStream → OutboundStream) → ((l : OutboundStream) → bare (f l) ≡ bare l) → (ls : List OutboundStream)
    → AreAlike (change_where p f ls) ls
less-alike p f h [] = refl
less-alike p f h (l ∷ ls) = ap₂ (λ x xs. x ∷ xs) (at-if (λ x. bare x ≡ bare l) (p l) (λ _. h l) (λ _. refl)) (less-alike p f h ls)

pub one-less : (s bytes : ℕ) (ls : List OutboundStream) → AreAlike (change_where (has_number s) (less_by bytes) ls) ls
one-less s bytes ls = less-alike (has_number s) (less_by bytes) (λ l. refl) ls

pub one-more : (s bytes : ℕ) (ls : List OutboundStream) → AreAlike (change_where (has_number s) (more_by bytes) ls) ls
one-more s bytes ls = less-alike (has_number s) (more_by bytes) (λ l. refl) ls

pub released-alike : (rs : List Released) (ls : List OutboundStream) → AreAlike (after_releases rs ls) ls
released-alike [] ls = refl
released-alike (r ∷ rs) ls = released-alike rs (change_where (has_number r.stream) (less_by r.bytes) ls) ∙ one-less r.stream r.bytes ls

pub left-alike : (gs : List AbandonedMessage) (ls : List OutboundStream) → AreAlike (after_leaving gs ls) ls
left-alike [] ls = refl
left-alike (g ∷ gs) ls = left-alike gs (change_where (has_number g.stream) (less_by g.bytes) ls) ∙ one-less g.stream g.bytes ls

pub returned-alike : (rs : List TakenBack) (ls : List OutboundStream) → AreAlike (after_returns rs ls) ls
returned-alike [] ls = refl
returned-alike (r ∷ rs) ls =
    returned-alike rs (change_where (has_number r.stream) (more_by r.bytes) ls) ∙ one-more r.stream r.bytes ls

-- ## What changes both alike

pub both-changed : (s : ℕ) (f : OutboundStream → OutboundStream) → ((l : OutboundStream) → bare (f l) ≡ bare (f (bare l))) → (ls ms : List OutboundStream)
    → AreAlike ls ms → AreAlike (change_where (has_number s) f ls) (change_where (has_number s) f ms)
both-changed s f h ls ms e = one ls ∙ ap (λ xs. map bare (change_where (has_number s) f xs)) e ∙ sym (one ms)
  where
    one : (ls : List OutboundStream) → map bare (change_where (has_number s) f ls) ≡ map bare (change_where (has_number s) f (map bare ls))
    one [] = refl
    one (l ∷ ls) = ap₂ (λ x xs. x ∷ xs)
        (at-test (λ b. bare (if b then f l else l) ≡ bare (if b then f (bare l) else bare l)) (has_number s l) (λ _. h l) (λ _. refl)) (one ls)

pub both-moded : (s : ℕ) (unordered : Bool) (reliability : _) (value : ℕ) (ls ms : List OutboundStream) → AreAlike ls ms
    → AreAlike (change_where (has_number s) (with_mode unordered reliability value) ls) (change_where (has_number s) (with_mode unordered reliability value) ms)
both-moded s unordered reliability value ls ms e = both-changed s (with_mode unordered reliability value) (λ l. refl) ls ms e

pub both-lower : (s bytes : ℕ) (ls ms : List OutboundStream) → AreAlike ls ms
    → AreAlike (change_where (has_number s) (with_low bytes) ls) (change_where (has_number s) (with_low bytes) ms)
both-lower s bytes ls ms e = both-changed s (with_low bytes) (λ l. refl) ls ms e

pub both-wrote : (s : ℕ) (ppi : PayloadProtocolIdentifier) (bytes : List ℕ) (ls ms : List OutboundStream) → AreAlike ls ms
    → AreAlike (change_where (has_number s) (wrote ppi bytes) ls) (change_where (has_number s) (wrote ppi bytes) ms)
both-wrote s ppi bytes ls ms e = both-changed s (wrote ppi bytes) (λ l. refl) ls ms e

pub both-expired : (s : ℕ) (unordered : Bool) (bytes : ℕ) (ls ms : List OutboundStream) → AreAlike ls ms
    → AreAlike (change_where (has_number s) (after_expiry unordered bytes) ls) (change_where (has_number s) (after_expiry unordered bytes) ms)
both-expired s true bytes ls ms e = both-changed s (after_expiry true bytes) (λ l. refl) ls ms e
both-expired s false bytes ls ms e = both-changed s (after_expiry false bytes) (λ l. refl) ls ms e

pub both-sized : (size : ℕ) (ls ms : List OutboundStream) → AreAlike ls ms → AreAlike (map (with_size size) ls) (map (with_size size) ms)
both-sized size ls ms e = one ls ∙ ap (map (with_size size)) e ∙ sym (one ms)
  where
    one : (ls : List OutboundStream) → map bare (map (with_size size) ls) ≡ map (with_size size) (map bare ls)
    one [] = refl
    one (l ∷ ls) = ap (λ xs. with_size size (bare l) ∷ xs) (one ls)

pub both-opened : (l : OutboundStream) (ls ms : List OutboundStream) → AreAlike ls ms → AreAlike (ls ++ l ∷ []) (ms ++ l ∷ [])
both-opened l ls ms e = grind (arith, nat_tests, common_steps)

-- ## Which streams are open

pub found-alike : (s : ℕ) (ls ms : List OutboundStream) → AreAlike ls ms → option_map bare (find (has_number s) ls) ≡ option_map bare (find (has_number s) ms)
found-alike s ls ms e = sym (one ls) ∙ ap (find (has_number s)) e ∙ one ms
  where
    one : (ls : List OutboundStream) → find (has_number s) (map bare ls) ≡ option_map bare (find (has_number s) ls)
    one [] = refl
    one (l ∷ ls) =
        at-test (λ b. (if b then Some (bare l) else find (has_number s) (map bare ls)) ≡ option_map bare (if b then Some l else find (has_number s) ls))
        (has_number s l) (λ _. refl) (λ _. one ls)

pub open-alike : (s : ℕ) (ls ms : List OutboundStream) → AreAlike ls ms → is_some (find (has_number s) ls) ≡ is_some (find (has_number s) ms)
open-alike s ls ms e = sym (one (find (has_number s) ls)) ∙ ap is_some (found-alike s ls ms e) ∙ one (find (has_number s) ms)
  where
    one : (o : Option OutboundStream) → is_some (option_map bare o) ≡ is_some o
    one None = refl
    one (Some l) = refl
