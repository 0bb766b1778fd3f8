-- What a lent outbound queue shows is what the record says.
use Rattle.sctp_model.proofs.Names.{◌≡◌, ℕ, ◌-◌, List, [], ◌∷◌, ◌++◌, length, map, Option, Some, None, refl, ap, sym, ◌∙◌, arith, map-append, flat_map}
use Rattle.sctp_model.proofs.Names.{numbers_from, Pending, Outbound, LinkRecord, sent_of, fragment_count, pending_fragments, pending_of, in_flight_of}
use Rattle.sctp_model.proofs.Names.{waiting_at, waiting_of, sending_of, RefinesPending, RefinesOutbound, selected_of, map-twice, nat_tests}
use Rattle.sctp_model.specs.Queues.{kind_of}
use Rattle.sctp_model.specs.refinement.Refines.{pending_shown, in_flight_shown}
use Rattle.sctp_model.specs.refinement.Refines.{selected_shown}
use Rattle.sctp_model.specs.refinement.Refines.{shown}

map-gathered : {A B : Type 0} (f : A → B) (g : ℕ → List A) (h : ℕ → List B) (xs : List ℕ) → ((n : ℕ) → map f (g n) ≡ h n)
    → map f (flat_map g xs) ≡ flat_map h xs
map-gathered f g h [] e = refl
map-gathered f g h (x ∷ xs) e = map-append f (g x) (flat_map g xs) ∙ ap (λ l. l ++ map f (flat_map g xs)) (e x) ∙ ap (λ l. h x ++ l) (map-gathered f g h xs e)

fragments-shown : (w : LinkRecord) (n : ℕ) → map pending_shown (waiting_of w n) ≡ pending_fragments w n
fragments-shown w n = map-twice pending_shown (waiting_at w n) (numbers_from (sent_of w n) (fragment_count w n - sent_of w n))

selected-shown : (w : LinkRecord) (o : Option ℕ) → selected_shown (selected_of w o) ≡ kind_of w o
selected-shown w None = refl
selected-shown w (Some n) = refl

pub pending-shown : (w : LinkRecord) (q : Pending) → RefinesPending w q → shown q ≡ pending_of w
pending-shown w q t = grind (arith, nat_tests, map-gathered, fragments-shown, selected-shown)

pub in-flight-shown : (w : LinkRecord) (q : Outbound) → RefinesOutbound w q → map in_flight_shown q.inflight.chunks ≡ in_flight_of w
in-flight-shown w q t =
    sym (map-twice (λ s. s.chunk) sending_of q.inflight.chunks) ∙ ap (map (λ s. s.chunk)) t.in_flight
    ∙ map-twice (λ s. s.chunk) _ (numbers_from w.taken (length w.slots - w.taken))
