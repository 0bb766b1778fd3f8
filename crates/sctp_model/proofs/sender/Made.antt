-- The datagrams of the record are those that the events and replies tell of.
use Rattle.sctp_model.proofs.Names.{◌≡◌, ℕ, ◌+◌, ◌-◌, ◌<◌, ◌%◌, ◌^◌, [], ◌∷◌, ◌++◌, length, map, Option, Some, None, refl, ap, sym, ◌∙◌, arith, append-nil}
use Rattle.sctp_model.proofs.Names.{map-append, numbers_from, Event, Setup, Datagram, LinkRecord, History, record_of, IsRun, reply_to, after, sent_reply}
use Rattle.sctp_model.proofs.Names.{MadeData, made_by, made_in, place_in, IsSetup, OnEveryRun, NetworkIsMade, kind_of, nat_tests}
use Rattle.sctp_model.specs.declared.event.Event.TheVariants as E
use Rattle.sctp_model.specs.LinkRecord as W
use Rattle.sctp_model.specs.Messages
use Rattle.sctp_model.specs.Changes
use Rattle.sctp_model.proofs.sender.SenderRun.{Consistent, consistent-run}
use Rattle.sctp_model.proofs.sender.Few.{few}
use Rattle.sctp_model.proofs.sender.Network.{same-network, network-after}

-- a TSN that was given out has its place
pub place-back : (first p : ℕ) → first < 2 ^ 32 → p < 2 ^ 32 → ((first + p) % 2 ^ 32 + (2 ^ 32 - first)) % 2 ^ 32 ≡ p
place-back first p a b = omega arith

kinds-more : (w v : LinkRecord) (d : Datagram) → v.network ≡ w.network ++ d ∷ [] → map kind_of v.network ≡ map kind_of w.network ++ kind_of d ∷ []
kinds-more w v d e = ap (map kind_of) e ∙ map-append kind_of w.network (d ∷ [])

kinds-same : (w v : LinkRecord) → v.network ≡ w.network → map kind_of v.network ≡ map kind_of w.network ++ []
kinds-same w v e = ap (map kind_of) e ∙ sym (append-nil (map kind_of w.network))

made-sent : (setup : Setup) (w : LinkRecord) (now : ℕ) (o : Option ℕ) → IsSetup setup → Consistent setup w
    → map kind_of (Changes.send_from (Changes.after_start w now) o).network ≡ map kind_of w.network ++ made_by setup (E.Send now)
    (sent_reply w (Changes.send_from (Changes.after_start w now) o) o)
made-sent setup w now None is g = kinds-same w (Changes.after_start w now) refl
made-sent setup w now (Some n) is g =
    let u = Changes.after_start w now in
    let v = Changes.send_fragments u in
    let f : w.setup.first ≡ setup.first = ap (λ s. s.first) g.setup_is in
    let place : place_in setup (Messages.tsn_of w (length w.slots)) ≡ length w.slots =
    ap (λ i. ((i + length w.slots) % 2 ^ 32 + (2 ^ 32 - setup.first)) % 2 ^ 32) f
    ∙ place-back setup.first (length w.slots) is.first (omega (arith, few setup w g)) in
    kinds-more w (Changes.with_data u v) (W.Data (numbers_from (length u.slots) (length v.slots - length u.slots)))
    (ap (λ l. l ++ W.Data (numbers_from (length u.slots) (length v.slots - length u.slots)) ∷ []) (same-network u))
    ∙ ap (λ i. map kind_of w.network ++ MadeData (numbers_from i (length v.slots - length w.slots)) ∷ []) (sym place)

made-step : (setup : Setup) (w : LinkRecord) (e : Event) → IsSetup setup → Consistent setup w
    → map kind_of (after w e).network ≡ map kind_of w.network ++ made_by setup e (reply_to w e)
made-step setup w e h1 h2 = grind (arith, nat_tests, made-sent, map-append, kinds-same, network-after)

pub made-run : (setup : Setup) (h : History) → IsSetup setup → IsRun setup h → map kind_of (record_of setup h).network ≡ made_in setup h
made-run setup [] is run = refl
made-run setup (entry ∷ older) is run = grind (arith, nat_tests, made-step, consistent-run, (made-run setup older is run.1.1))

pub network_is_made : OnEveryRun NetworkIsMade
network_is_made setup h is run = made-run setup h is run
