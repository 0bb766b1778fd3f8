-- What the sender has of each stream, what the receiver has, and its progress, joined: changes of a part are changes of the whole.
use Rattle.sctp_link.proofs.Names.{◌≡◌, ℕ, suc, Bool, true, false, List, [], ◌∷◌, ◌++◌, length, map, Some, refl, ap, sym, ◌∙◌, ◌==◌, if◌then◌else◌, option_map}
use Rattle.sctp_link.proofs.Names.{change_where, OutboundStream, InboundStream, Standing, OpenStream, join, join_each, has_number, stream_numbers, on_state}
use Rattle.sctp_link.proofs.Names.{on_inbound}
use Rattle.std.specs.List.{find}
use Rattle.sctp_receiver.specs.Inbound as Inbound
use Rattle.sctp_sender.specs.Outgoing as Outgoing
use Rattle.sctp_link.specs.Progress as Progress

-- one list for each part, with the same streams in the same order
pub record Alike (ss : List OutboundStream) (is : List InboundStream) (ps : List Standing) : Type 0 where
  pub numbers : Outgoing.numbers_of ss ≡ Inbound.numbers_of is
  pub progresses : Outgoing.numbers_of ss ≡ Progress.numbers_of ps

head-same : {a b : ℕ} {xs ys : List ℕ} → a ∷ xs ≡ b ∷ ys → a ≡ b
head-same e = cc

tail-same : {a b : ℕ} {xs ys : List ℕ} → a ∷ xs ≡ b ∷ ys → xs ≡ ys
tail-same e = cc

rest : (s : OutboundStream) (i : InboundStream) (p : Standing) (ss : List OutboundStream) (is : List InboundStream) (ps : List Standing)
    → Alike (s ∷ ss) (i ∷ is) (p ∷ ps) → Alike ss is ps
rest s i p ss is ps a = record { numbers = tail-same a.numbers; progresses = tail-same a.progresses }

-- ## The parts again

pub states-joined : (ss : List OutboundStream) (is : List InboundStream) (ps : List Standing) → Alike ss is ps → map (λ l. l.state) (join_each ss is ps) ≡ ss
states-joined [] is ps a = refl
states-joined (s ∷ ss) [] ps a = let e = a.numbers in cc
states-joined (s ∷ ss) (i ∷ is) [] a = (let e = a.progresses in cc)
states-joined (s ∷ ss) (i ∷ is) (p ∷ ps) a = ap (λ xs. s ∷ xs) (states-joined ss is ps (rest s i p ss is ps a))

pub inbounds-joined : (ss : List OutboundStream) (is : List InboundStream) (ps : List Standing) → Alike ss is ps → map (λ l. l.inbound) (join_each ss is ps) ≡ is
inbounds-joined [] [] ps a = refl
inbounds-joined [] (i ∷ is) ps a = let e = a.numbers in cc
inbounds-joined (s ∷ ss) [] ps a = let e = a.numbers in cc
inbounds-joined (s ∷ ss) (i ∷ is) [] a = (let e = a.progresses in cc)
inbounds-joined (s ∷ ss) (i ∷ is) (p ∷ ps) a = ap (λ xs. i ∷ xs) (inbounds-joined ss is ps (rest s i p ss is ps a))

pub length-joined : (ss : List OutboundStream) (is : List InboundStream) (ps : List Standing) → Alike ss is ps → length (join_each ss is ps) ≡ length ps
length-joined [] is [] a = refl
length-joined [] is (p ∷ ps) a = (let e = a.progresses in cc)
length-joined (s ∷ ss) [] ps a = let e = a.numbers in cc
length-joined (s ∷ ss) (i ∷ is) [] a = (let e = a.progresses in cc)
length-joined (s ∷ ss) (i ∷ is) (p ∷ ps) a = ap suc (length-joined ss is ps (rest s i p ss is ps a))

pub numbers-joined : (ss : List OutboundStream) (is : List InboundStream) (ps : List Standing) → Alike ss is ps
    → stream_numbers (join_each ss is ps) ≡ Outgoing.numbers_of ss
numbers-joined [] is ps a = refl
numbers-joined (s ∷ ss) [] ps a = let e = a.numbers in cc
numbers-joined (s ∷ ss) (i ∷ is) [] a = (let e = a.progresses in cc)
numbers-joined (s ∷ ss) (i ∷ is) (p ∷ ps) a = ap (λ ns. s.stream_identifier ∷ ns) (numbers-joined ss is ps (rest s i p ss is ps a))

-- ## One that is found

pub found-state : (n : ℕ) (ss : List OutboundStream) (is : List InboundStream) (ps : List Standing) → Alike ss is ps
    → option_map (λ l. l.state) (find (has_number n) (join_each ss is ps)) ≡ find (Outgoing.has_number n) ss
found-state n [] is ps a = refl
found-state n (s ∷ ss) [] ps a = let e = a.numbers in cc
found-state n (s ∷ ss) (i ∷ is) [] a = (let e = a.progresses in cc)
found-state n (s ∷ ss) (i ∷ is) (p ∷ ps) a = step (s.stream_identifier == n) (found-state n ss is ps (rest s i p ss is ps a))
  where
    step : (b : Bool) → option_map (λ l. l.state) (find (has_number n) (join_each ss is ps)) ≡ find (Outgoing.has_number n) ss
        → option_map (λ (l : OpenStream). l.state)
        (if b then Some (join s i p) else find (has_number n) (join_each ss is ps)) ≡ (if b then Some s else find (Outgoing.has_number n) ss)
    step true h = refl
    step false h = h

pub found-inbound : (n : ℕ) (ss : List OutboundStream) (is : List InboundStream) (ps : List Standing) → Alike ss is ps
    → option_map (λ l. l.inbound) (find (has_number n) (join_each ss is ps)) ≡ find (Inbound.has_number n) is
found-inbound n [] [] ps a = refl
found-inbound n [] (i ∷ is) ps a = let e = a.numbers in cc
found-inbound n (s ∷ ss) [] ps a = let e = a.numbers in cc
found-inbound n (s ∷ ss) (i ∷ is) [] a = (let e = a.progresses in cc)
found-inbound n (s ∷ ss) (i ∷ is) (p ∷ ps) a =
    ap (λ m. option_map (λ (l : OpenStream). l.inbound) (if m == n then Some (join s i p) else find (has_number n) (join_each ss is ps))) (head-same a.numbers)
    ∙ step (i.queue.si == n) (found-inbound n ss is ps (rest s i p ss is ps a))
  where
    step : (b : Bool) → option_map (λ l. l.inbound) (find (has_number n) (join_each ss is ps)) ≡ find (Inbound.has_number n) is
        → option_map (λ (l : OpenStream). l.inbound)
        (if b then Some (join s i p) else find (has_number n) (join_each ss is ps)) ≡ (if b then Some i else find (Inbound.has_number n) is)
    step true h = refl
    step false h = h

-- ## A change of a part

pub state-changed : (n : ℕ) (f : OutboundStream → OutboundStream) (ss : List OutboundStream) (is : List InboundStream) (ps : List Standing)
    → join_each (change_where (Outgoing.has_number n) f ss) is ps ≡ change_where (has_number n) (on_state f) (join_each ss is ps)
state-changed n f [] is ps = refl
state-changed n f (s ∷ ss) [] ps = refl
state-changed n f (s ∷ ss) (i ∷ is) [] = refl
state-changed n f (s ∷ ss) (i ∷ is) (p ∷ ps) = ap (λ xs. join (if s.stream_identifier == n then f s else s) i p ∷ xs) (state-changed n f ss is ps)
    ∙ ap (λ l. l ∷ change_where (has_number n) (on_state f) (join_each ss is ps)) (step (s.stream_identifier == n))
  where
    step : (b : Bool) → join (if b then f s else s) i p ≡ (if b then on_state f (join s i p) else join s i p)
    step true = refl
    step false = refl

pub inbound-changed : (n : ℕ) (f : InboundStream → InboundStream) (ss : List OutboundStream) (is : List InboundStream) (ps : List Standing)
    → Outgoing.numbers_of ss ≡ Inbound.numbers_of is
    → join_each ss (change_where (Inbound.has_number n) f is) ps ≡ change_where (has_number n) (on_inbound f) (join_each ss is ps)
inbound-changed n f [] is ps a = refl
inbound-changed n f (s ∷ ss) [] ps a = refl
inbound-changed n f (s ∷ ss) (i ∷ is) [] a = refl
inbound-changed n f (s ∷ ss) (i ∷ is) (p ∷ ps) a =
    ap (λ xs. join s (if i.queue.si == n then f i else i) p ∷ xs) (inbound-changed n f ss is ps (tail-same a))
    ∙ ap (λ l. l ∷ change_where (has_number n) (on_inbound f) (join_each ss is ps))
    (step (i.queue.si == n) ∙ ap (λ m. if m == n then on_inbound f (join s i p) else join s i p) (sym (head-same a)))
  where
    step : (b : Bool) → join s (if b then f i else i) p ≡ (if b then on_inbound f (join s i p) else join s i p)
    step true = refl
    step false = refl

pub inbound-mapped : (f : InboundStream → InboundStream) (ss : List OutboundStream) (is : List InboundStream) (ps : List Standing)
    → join_each ss (map f is) ps ≡ map (on_inbound f) (join_each ss is ps)
inbound-mapped f [] is ps = refl
inbound-mapped f (s ∷ ss) [] ps = refl
inbound-mapped f (s ∷ ss) (i ∷ is) [] = refl
inbound-mapped f (s ∷ ss) (i ∷ is) (p ∷ ps) = ap (λ xs. on_inbound f (join s i p) ∷ xs) (inbound-mapped f ss is ps)

-- so it is of the progress, where it keeps the number
module _ (f : Standing → Standing) (g : OpenStream → OpenStream)
    (made : (s : OutboundStream) (i : InboundStream) (p : Standing) → s.stream_identifier ≡ p.number → join s i (f p) ≡ g (join s i p)) where
  pub progress-changed : (n : ℕ) (ss : List OutboundStream) (is : List InboundStream) (ps : List Standing) → Outgoing.numbers_of ss ≡ Progress.numbers_of ps
      → join_each ss is (change_where (Progress.has_number n) f ps) ≡ change_where (has_number n) g (join_each ss is ps)
  progress-changed n [] is ps a = refl
  progress-changed n (s ∷ ss) [] ps a = refl
  progress-changed n (s ∷ ss) (i ∷ is) [] a = refl
  progress-changed n (s ∷ ss) (i ∷ is) (p ∷ ps) a =
      ap (λ xs. join s i (if p.number == n then f p else p) ∷ xs) (progress-changed n ss is ps (tail-same a))
      ∙ ap (λ l. l ∷ change_where (has_number n) g (join_each ss is ps))
      (step (p.number == n) ∙ ap (λ m. if m == n then g (join s i p) else join s i p) (sym (head-same a)))
    where
      step : (b : Bool) → join s i (if b then f p else p) ≡ (if b then g (join s i p) else join s i p)
      step true = made s i p (head-same a)
      step false = refl

  pub progress-mapped : (ss : List OutboundStream) (is : List InboundStream) (ps : List Standing) → Outgoing.numbers_of ss ≡ Progress.numbers_of ps
      → join_each ss is (map f ps) ≡ map g (join_each ss is ps)
  progress-mapped [] is ps a = refl
  progress-mapped (s ∷ ss) [] ps a = refl
  progress-mapped (s ∷ ss) (i ∷ is) [] a = refl
  progress-mapped (s ∷ ss) (i ∷ is) (p ∷ ps) a = cc (progress-mapped ss is ps (tail-same a), made s i p (head-same a))

-- what is told of the progress of the stream with a number
pub found-progress : {B : Type 0} (h : OpenStream → B) (k : Standing → B) → ((s : OutboundStream) (i : InboundStream) (p : Standing) → h (join s i p) ≡ k p)
    → (n : ℕ) (ss : List OutboundStream) (is : List InboundStream) (ps : List Standing) → Alike ss is ps
    → option_map h (find (has_number n) (join_each ss is ps)) ≡ option_map k (find (Progress.has_number n) ps)
found-progress h k same n [] is [] a = refl
found-progress h k same n [] is (p ∷ ps) a = let e = a.progresses in cc
found-progress h k same n (s ∷ ss) [] ps a = let e = a.numbers in cc
found-progress h k same n (s ∷ ss) (i ∷ is) [] a = let e = a.progresses in cc
found-progress h k same n (s ∷ ss) (i ∷ is) (p ∷ ps) a =
    ap (λ m. option_map h (if m == n then Some (join s i p) else find (has_number n) (join_each ss is ps))) (head-same a.progresses)
    ∙ step (p.number == n) (found-progress h k same n ss is ps (rest s i p ss is ps a))
  where
    step : (b : Bool) → option_map h (find (has_number n) (join_each ss is ps)) ≡ option_map k (find (Progress.has_number n) ps) → option_map h (if b
        then Some (join s i p) else find (has_number n) (join_each ss is ps)) ≡ option_map k (if b then Some p else find (Progress.has_number n) ps)
    step true e = ap Some (same s i p)
    step false e = e

pub joined-more : (s : OutboundStream) (i : InboundStream) (p : Standing) (ss : List OutboundStream) (is : List InboundStream) (ps : List Standing) → Alike ss is ps
    → join_each (ss ++ s ∷ []) (is ++ i ∷ []) (ps ++ p ∷ []) ≡ join_each ss is ps ++ join s i p ∷ []
joined-more s i p [] [] [] a = refl
joined-more s i p [] (j ∷ is) ps a = let e = a.numbers in cc
joined-more s i p [] [] (q ∷ ps) a = (let e = a.progresses in cc)
joined-more s i p (t ∷ ss) [] ps a = let e = a.numbers in cc
joined-more s i p (t ∷ ss) (j ∷ is) [] a = (let e = a.progresses in cc)
joined-more s i p (t ∷ ss) (j ∷ is) (q ∷ ps) a = ap (λ xs. join t j q ∷ xs) (joined-more s i p ss is ps (rest t j q ss is ps a))
