-- A sender, a receiver and the progress of their streams, where they have the same streams.
use Rattle.sctp_link.proofs.Names.{◌≡◌, ℕ, List, [], ◌∷◌, length, map, Bool, true, false, Option, Some, None, refl, ap, sym, ◌∙◌, if◌then◌else◌, option_map}
use Rattle.sctp_link.proofs.Names.{is_some, change_where, ForwardTsn, message_read, InboundStream, Reception, Transmission, Standing, OpenStream, join_each}
use Rattle.sctp_link.proofs.Names.{has_number, stream_numbers, on_inbound, Sides, sides, IsAligned, reception_of, stream_in, on_stream, follow_forward_tsn}
use Rattle.sctp_link.proofs.Names.{after_forward, followed-mapped, after-numbers, after-size}
use Rattle.sctp_receiver.specs.Inbound as Inbound
use Rattle.sctp_receiver.specs.Receiver as R
use Rattle.sctp_receiver.proofs.Inbounds.{stays-changed}
use Rattle.sctp_sender.specs.Outgoing as Outgoing
use Rattle.sctp_sender.specs.Sender as S
use Rattle.sctp_link.specs.Progress as Progress
use Rattle.sctp_link.specs.Sides.{is_open}
use Rattle.sctp_link.proofs.sides.Joined.{Alike, inbounds-joined, length-joined, numbers-joined, found-state, found-inbound, inbound-changed, inbound-mapped}

after-limits : (f : ForwardTsn) (r : Reception) → (R.after_forward f r).limits ≡ r.limits
after-limits f r = by (R.is_stale f r)
  where
    by : (b : Bool) → (if b then r else R.follow_forward_tsn f r).limits ≡ r.limits
    by true = refl
    by false = refl

-- progress that keeps its number
module _ (f : Standing → Standing) (same : (p : Standing) → (f p).number ≡ p.number) where
  pub standing-changed : (p : Standing → Bool) (ps : List Standing) → Progress.numbers_of (change_where p f ps) ≡ Progress.numbers_of ps
  standing-changed p [] = refl
  standing-changed p (x ∷ xs) = ap (λ n. n ∷ Progress.numbers_of (change_where p f xs)) (by (p x)) ∙ ap (λ ns. x.number ∷ ns) (standing-changed p xs)
    where
      by : (b : Bool) → Progress.number (if b then f x else x) ≡ x.number
      by true = same x
      by false = refl

  pub standing-mapped : (ps : List Standing) → Progress.numbers_of (map f ps) ≡ Progress.numbers_of ps
  standing-mapped [] = refl
  standing-mapped (x ∷ xs) = ap (λ n. n ∷ Progress.numbers_of (map f xs)) (same x) ∙ ap (λ ns. x.number ∷ ns) (standing-mapped xs)

module _ {t : Transmission} {r : Reception} {ps : List Standing} (a : IsAligned t r ps) where
  pub alike : Alike t.streams r.streams ps
  alike = record { numbers = a.receives; progresses = a.progresses }

  pub numbers-are : stream_numbers (join_each t.streams r.streams ps) ≡ Outgoing.numbers_of t.streams
  numbers-are = numbers-joined t.streams r.streams ps alike

  pub reception-is : reception_of (sides t r ps) ≡ r
  reception-is =
      let e = inbounds-joined t.streams r.streams ps alike in
      ap (λ is. let x : Reception = record {
        streams = is;
        cumulative_tsn = r.cumulative_tsn;
        beyond = r.beyond;
        duplicates = r.duplicates;
        max_message_size = t.max_message_size;
        limits = None;
      } in x) e ∙ ap (λ m. let x : Reception = record r { max_message_size = m; limits = None } in x) (sym a.size)
      ∙ ap (λ l. let x : Reception = record r { limits = l } in x) (sym a.unlimited)

  pub count-is : length (join_each t.streams r.streams ps) ≡ length ps
  count-is = length-joined t.streams r.streams ps alike

  -- ## A part that changes

  pub with-sender : (x : Transmission) → Outgoing.numbers_of x.streams ≡ Outgoing.numbers_of t.streams → x.max_message_size ≡ t.max_message_size
      → x.kept ≡ t.kept → IsAligned x r ps
  with-sender x same size kept =
      record { receives = same ∙ a.receives; progresses = same ∙ a.progresses; size = a.size ∙ sym size; unlimited = a.unlimited; forgets = kept ∙ a.forgets }

  pub with-receiver : (x : Reception) → Inbound.numbers_of x.streams ≡ Inbound.numbers_of r.streams → x.max_message_size ≡ r.max_message_size
      → x.limits ≡ r.limits → IsAligned t x ps
  with-receiver x same size limits =
      record { receives = a.receives ∙ sym same; progresses = a.progresses; size = size ∙ a.size; unlimited = limits ∙ a.unlimited; forgets = a.forgets }

  pub with-progress : (qs : List Standing) → Progress.numbers_of qs ≡ Progress.numbers_of ps → IsAligned t r qs
  with-progress qs same = record { receives = a.receives; progresses = a.progresses ∙ sym same; size = a.size; unlimited = a.unlimited; forgets = a.forgets }

  -- ## A stream by its number

  pub state-in : (s : ℕ) → option_map (λ l. l.state) (stream_in s (sides t r ps)) ≡ S.stream_of s t
  state-in s = found-state s t.streams r.streams ps alike

  pub inbound-in : (s : ℕ) → option_map (λ l. l.inbound) (stream_in s (sides t r ps)) ≡ R.stream_of s r
  inbound-in s = found-inbound s t.streams r.streams ps alike

  pub open-is : (s : ℕ) → is_open s (sides t r ps) ≡ R.is_open s r
  open-is s = mapped (stream_in s (sides t r ps)) ∙ ap is_some (inbound-in s)
    where
      mapped : (o : Option OpenStream) → is_some o ≡ is_some (option_map (λ l. l.inbound) o)
      mapped None = refl
      mapped (Some l) = refl

  -- ## What is read

  pub read-message : (s : ℕ) (l : OpenStream) → stream_in s (sides t r ps) ≡ Some l → R.message_on s r ≡ message_read l.inbound.queue.held
  read-message s l e = ap R.message_of (sym (inbound-in s) ∙ ap (option_map (λ l. l.inbound)) e)

  pub inbound-on : (s : ℕ) (f : InboundStream → InboundStream)
      → join_each t.streams (change_where (Inbound.has_number s) f r.streams) ps ≡ change_where (has_number s) (on_inbound f) (join_each t.streams r.streams ps)
  inbound-on s f = inbound-changed s f t.streams r.streams ps a.receives

  pub read-aligned : (s : ℕ) (x : Reception) → x ≡ R.after_read s r → IsAligned t x ps
  read-aligned s x e = with-receiver x (ap (λ (y : Reception). Inbound.numbers_of y.streams) e ∙ stays-changed Inbound.number Inbound.stream_read (λ l. refl)
      (Inbound.has_number s) r.streams) (ap (λ (y : Reception). y.max_message_size) e) (ap (λ (y : Reception). y.limits) e)

  pub read-sides : (s : ℕ) (x : Reception) → x ≡ R.after_read s r → sides t x ps ≡ on_stream s (on_inbound Inbound.stream_read) (sides t r ps)
  read-sides s x e = ap (λ y. sides t y ps) e ∙ ap (λ ls. let y : Sides = record (sides t r ps) { streams = ls } in y) (inbound-on s Inbound.stream_read)

  -- ## A FORWARD-TSN

  module _ (f : ForwardTsn) where
    followed-sides : sides t (R.follow_forward_tsn f r) ps ≡ follow_forward_tsn f (sides t r ps)
    followed-sides =
        ap (λ ls. let y : Sides = record (sides t (R.follow_forward_tsn f r) ps) { streams = ls } in y)
        (ap (λ is. join_each t.streams is ps) (followed-mapped f r)
        ∙ inbound-mapped (λ l. Inbound.unassembled_forwarded f.new_cumulative_tsn (Inbound.stream_forwarded f.streams l)) t.streams r.streams ps)

    pub forward-sides : (x : Reception) → x ≡ R.after_forward f r → sides t x ps ≡ after_forward f (sides t r ps)
    forward-sides x e = ap (λ y. sides t y ps) e ∙ by (R.is_stale f r)
      where
        by : (b : Bool) → sides t (if b then r else R.follow_forward_tsn f r) ps ≡ (if b then sides t r ps else follow_forward_tsn f (sides t r ps))
        by true = refl
        by false = followed-sides

    pub forward-aligned : (x : Reception) → x ≡ R.after_forward f r → IsAligned t x ps
    forward-aligned x e = with-receiver x (ap (λ (y : Reception). Inbound.numbers_of y.streams) e ∙ after-numbers f r)
        (ap (λ (y : Reception). y.max_message_size) e ∙ after-size f r) (ap (λ (y : Reception). y.limits) e ∙ after-limits f r)
