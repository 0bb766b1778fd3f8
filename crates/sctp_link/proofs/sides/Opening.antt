-- A stream is opened at both ends, or the opening is undone.
use Rattle.sctp_link.proofs.Names.{◌≡◌, ℕ, List, [], ◌∷◌, ◌++◌, None, ap, sym, ◌∙◌, find, is_some, option_map, map-append, same-yes, Unknown, taken-back}
use Rattle.sctp_link.proofs.Names.{Reception, Transmission, Standing, OpenStream, join_each, new_open_stream, Sides, IsAligned, stream_in, opened_on, sides}
use Rattle.sctp_link.proofs.Names.{none-of, new_stream, subst, refl}
use Rattle.sctp_receiver.specs.Inbound as Inbound
use Rattle.sctp_receiver.specs.Receiver as R
use Rattle.sctp_sender.specs.Outgoing as Outgoing
use Rattle.sctp_sender.specs.Sender as S
use Rattle.sctp_link.specs.Progress as Progress
use Rattle.sctp_link.proofs.sides.Joined.{joined-more}
use Rattle.sctp_link.proofs.sides.Aligned.{alike, state-in, inbound-in}
use Rattle.sctp_link.proofs.sides.Changes.{open-answered}

module _ {t : Transmission} {r : Reception} {ps : List Standing} (a : IsAligned t r ps) (s : ℕ) (none : stream_in s (sides t r ps) ≡ None) where
  pub no-progress : find (Progress.has_number s) ps ≡ None
  no-progress = none-of (find (Progress.has_number s) ps) (open-answered a s ∙ ap is_some none)

  no-state : find (Outgoing.has_number s) t.streams ≡ None
  no-state = sym (state-in a s) ∙ ap (λ o. option_map (λ (l : OpenStream). l.state) o) none

  no-inbound : find (Inbound.has_number s) r.streams ≡ None
  no-inbound = sym (inbound-in a s) ∙ ap (λ o. option_map (λ (l : OpenStream). l.inbound) o) none

  pub sender-undone : (x : Transmission) → x ≡ S.close_stream s (S.open_stream s t) → x ≡ t
  sender-undone x e =
      e ∙ ap (λ ss. let y : Transmission = record t { streams = ss } in y)
      (taken-back (Outgoing.has_number s) t.streams (new_stream s t.fragment_size) (same-yes s) no-state)

  pub receiver-undone : (x : Reception) → x ≡ R.close_stream s (R.open_stream s r) → x ≡ r
  receiver-undone x e =
      e ∙ ap (λ is. let y : Reception = record r { streams = is } in y)
      (taken-back (Inbound.has_number s) r.streams (Inbound.new_stream s r.max_message_size) (same-yes s) no-inbound)

  -- ## The stream is open

  module _ (x : Transmission) (y : Reception) (qs : List Standing) (sent : x ≡ S.open_stream s t) (received : y ≡ R.open_stream s r)
      (put : qs ≡ ps ++ Progress.fresh s ∷ []) where
    pub opened-sides : sides x y qs ≡ opened_on s (sides t r ps)
    opened-sides =
        ap (λ z. sides z y qs) sent ∙ ap (λ z. sides (S.open_stream s t) z qs) received ∙ ap (sides (S.open_stream s t) (R.open_stream s r)) put
        ∙ ap (λ ls. let z : Sides = record (sides t r ps) { streams = ls } in z) (joined-more (new_stream s t.fragment_size)
        (Inbound.new_stream s r.max_message_size) (Progress.fresh s) t.streams r.streams ps (alike a)
        ∙ ap (λ m. let z : OpenStream = record (new_open_stream s t.fragment_size m) { state = new_stream s t.fragment_size } in
        join_each t.streams r.streams ps ++ z ∷ []) a.size)

    pub opened-aligned : IsAligned x y qs
    opened-aligned = record {
      receives =
          ap (λ (z : Transmission). Outgoing.numbers_of z.streams) sent ∙ map-append Outgoing.number t.streams _ ∙ ap (λ ns. ns ++ s ∷ []) a.receives
          ∙ sym (ap (λ (z : Reception). Inbound.numbers_of z.streams) received ∙ map-append Inbound.number r.streams _);
      progresses =
          ap (λ (z : Transmission). Outgoing.numbers_of z.streams) sent ∙ map-append Outgoing.number t.streams _ ∙ ap (λ ns. ns ++ s ∷ []) a.progresses
          ∙ sym (ap Progress.numbers_of put ∙ map-append Progress.number ps _);
      size = ap (λ (z : Reception). z.max_message_size) received ∙ a.size ∙ ap (λ (z : Transmission). z.max_message_size) (sym sent);
      unlimited = ap (λ (z : Reception). z.limits) received ∙ a.unlimited;
      forgets = ap (λ (z : Transmission). z.kept) sent ∙ a.forgets;
    }

-- each part is what it was
pub same-parts : {t : Transmission} {r : Reception} {ps : List Standing} (x : Transmission) (y : Reception) (qs : List Standing) → x ≡ t → y ≡ r → qs ≡ ps
    → IsAligned t r ps → IsAligned x y qs × (sides x y qs ≡ sides t r ps)
same-parts {t} {r} {ps} x y qs sent received put a =
    subst (λ z. IsAligned z y qs × (sides z y qs ≡ sides t r ps)) (sym sent)
    (subst (λ z. IsAligned t z qs × (sides t z qs ≡ sides t r ps)) (sym received)
    (subst (λ z. IsAligned t r z × (sides t r z ≡ sides t r ps)) (sym put) (a, refl)))
