-- In the state Closed a cookie that is not too old begins an association, and its ticket has the peer's offer.
use Rattle.std.proofs.Common.{◌≡◌, List, ℕ, Bool, true, false, Some, None, Option, refl, ap, sym, subst, ◌∙◌}
use Rattle.std.proofs.lemmas.Bool.{false≢true}
use Rattle.sctp_association.specs.Openings.{is_stale_reply}
use Rattle.sctp_association.specs.Arrivals.{Arrives, Halves}
use Rattle.sctp_association.specs.Beginnings.{Begins, BeginsBy, BeginsByDatagram, BeginsByTicket}
use Rattle.sctp_association.specs.Cookies.{IsSealedAt, cookie_in}
use Rattle.sctp_association.specs.declared.config.Config.{Config}
use Rattle.sctp_datagram.specs.Carried.{IsChunkOf}
use Rattle.sctp_datagram.specs.declared.datagram.ChunkPlace.{ChunkPlace}
use Rattle.sctp_handshake.specs.Cookies.{begins, on_cookie_echo, unless_stale}
use Rattle.sctp_handshake.specs.Machines.{Step, Takes}
use Rattle.sctp_handshake.specs.declared.answer.Answer.{Answer}
use Rattle.sctp_handshake.specs.declared.answer.Told.{Told}
use Rattle.sctp_handshake.specs.declared.answer.Told.TheVariants.{Connected}
use Rattle.sctp_handshake.specs.declared.machine.Machine.{Machine}
use Rattle.sctp_handshake.specs.declared.offer.Offer.{Offer}
use Rattle.sctp_handshake.specs.declared.state.State.{State}
use Rattle.sctp_handshake.specs.declared.state.State.TheVariants.{Closed}
use Rattle.sctp_handshake.specs.declared.ticket.Ticket.{Ticket}
use Rattle.sctp_util.specs.Field.{u32_at}

-- unless it is answered by a stale cookie, the association stands
abbrev Stands : Ticket → Step → Type 0
Stands t s = is_stale_reply s.answer.reply ≡ false → (s.answer.told ≡ Some Connected) × (s.machine.peer ≡ Some t.peer)

stands-unless : (stale : Bool) (t : Ticket) (m : Machine) → Stands t (unless_stale stale m (begins t m))
stands-unless true t m e = absurd (false≢true (sym e))
stands-unless false t m e = (refl, refl)

stands : (t : Ticket) (stale : Bool) (m : Machine) → m.state ≡ Closed → Stands t (on_cookie_echo t stale m)
stands t stale m closed =
    subst (λ (s : State). Stands t (on_cookie_echo t stale (record m { state = s }))) (sym closed) (stands-unless stale t (record m { state = Closed }))

module _ (key : List ℕ) (tag : ℕ) (cookie : List ℕ) (c : Config) (x y : Halves) where
  pub begins_by_ticket : (moment : ℕ) (made : IsSealedAt moment key tag cookie) (stale : Bool) (m n : Machine) (a : Answer) → m.state ≡ Closed
      → Takes (on_cookie_echo made.ticket stale m) n a → is_stale_reply a.reply ≡ false → x.receiver ≡ None → BeginsBy a.told n c x y
      → BeginsByTicket key tag cookie c x y
  begins_by_ticket moment made stale m n a closed takes fresh none begun =
      let all = stands made.ticket stale m closed (sym (ap (λ k. is_stale_reply k.reply) takes.answer) ∙ fresh) in
      let told : a.told ≡ Some Connected = ap (λ (k : Answer). k.told) takes.answer ∙ all.0 in
      let peer : n.peer ≡ Some made.ticket.peer = ap (λ (k : Machine). k.peer) takes.machine ∙ all.1 in
      let first : Begins n.peer c x y = subst (λ (o : Option Told). BeginsBy o n c x y) told begun none in
      record { moment = moment; made = made; begins = subst (λ (o : Option Offer). Begins o c x y) peer first }

pub by_datagram : (d key : List ℕ) (c : Config) (x m y : Halves) (p : ChunkPlace) → IsChunkOf d p → p.typ ≡ 10 → (tag : ℕ) → tag ≡ u32_at d 4
    → BeginsByTicket key tag (cookie_in d p) c x m → Arrives d m y → BeginsByDatagram d key c x y
by_datagram d key c x m y p own typ tag e first came = record {
  place = p;
  own = own;
  typ = typ;
  middle = m;
  first = subst (λ k. BeginsByTicket key k (cookie_in d p) c x m) e first;
  came = came;
}
