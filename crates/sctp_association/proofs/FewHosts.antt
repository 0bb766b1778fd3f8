-- Two associations that write few fragments: nothing that their datagrams bring is old, so they stand in two sessions in which nothing is.
use Rattle.std.proofs.Common.{◌≡◌, ◌+◌, ◌<◌, ◌^◌, ℕ, Bool, List, [], ◌∷◌, length, Option, Some, None, refl, ap, sym, subst, ◌∙◌, arith}
use Rattle.sctp_association.proofs.Delivered.{carries-only, of-call}
use Rattle.sctp_association.proofs.FewYoung.{each-young, few-send}
use Rattle.sctp_association.proofs.Hosts.{Fits, both-few}
use Rattle.sctp_association.proofs.HostSteps.{none-cut, none-written}
use Rattle.sctp_association.proofs.Long.{Long, ages-of, holds-of, near-of, used-of}
use Rattle.sctp_association.proofs.LongHosts.{Joined, JoinedSome, begun, by-asks, by-handles, by-polls, by-reads, turned}
use Rattle.sctp_association.proofs.LongSteps.{next-of, send-one}
use Rattle.sctp_association.proofs.Raises.{AreBefore}
use Rattle.sctp_association.proofs.Sessions.{none_taken}
use Rattle.sctp_association.specs.Arrivals.{halves}
use Rattle.sctp_association.specs.Hosts.{Act, Acts, AreMovesByRule, Handles, Host, Hosts, IsActByRule, IsFit, IsReceiver, Move, MovesTo, Polls, Way}
use Rattle.sctp_association.specs.Hosts.{WroteFew, asks, bytes_of, first_host, handles, hosts, one_acts, other_acts, polls, reads_on}
use Rattle.sctp_association.specs.Runs.{Runs, SendsBy, made_by}
use Rattle.sctp_association.specs.Ages.{AreYoungMoves, HoldsYoung, IsBounded, IsBoundedBy, IsYoungCall, aged_by}
use Rattle.sctp_delivery.proofs.Stands.{sender_after}
use Rattle.sctp_delivery.specs.Complete.{fragments_held}
use Rattle.sctp_delivery.specs.EveryCall.{AnyCall, makes}
use Rattle.sctp_delivery.specs.EveryRecent.{aged_any}
use Rattle.sctp_delivery.specs.Recent.{Aged}
use Rattle.sctp_delivery.specs.SenderCalls.{Made, SenderCall, SenderMakes, Write}
use Rattle.sctp_delivery.specs.Session.{Session, of_sender}
use Rattle.sctp_receiver.specs.Receiver.{Reception}
use Rattle.sctp_sender.specs.Sender.{Transmission}

-- ## What is sent

-- behind calls by which a sender sends few chunks are in flight, and nothing that is held is old
few-ends : (P : AnyCall → Type 0) (cs : List SenderCall) (ms : List Made) (t new : Transmission) (st : Long) (hs : List Aged) → hs ≡ ages-of st
    → st.ran.session.sending.sender ≡ t → Runs SendsBy made_by cs ms t new → used-of st + 1 < 2 ^ 31
    → (length new.flight.queue.inflight.chunks < 2 ^ 31)
    × ((stream : ℕ) → AreBefore (next-of new) (fragments_held stream st.ran.session.receiving.receiver))
few-ends P [] ms t new st hs aged is r few = (
  subst (λ (u : Transmission). length u.flight.queue.inflight.chunks < 2 ^ 31) (is ∙ sym r.1) (near-of st).few,
  λ stream.
      subst (λ (u : Transmission). AreBefore (next-of u) (fragments_held stream st.ran.session.receiving.receiver)) (is ∙ sym r.1) (holds-of st stream),
)
few-ends P (c ∷ cs) ms t new st hs aged is r few =
    let s = st.ran.session in
    let cut = none-cut c s.sending.sender r.made.0 in
    let none = none-written c s.written r.made.0 in
    let m = subst (λ (u : Transmission). SenderMakes c u r.mid) (sym is) r.made.1 in
    let a = few-send st c r.mid m (none_taken c s r.made.0) (omega (arith, few, cut))
    (subst (λ (ws : List Write). bytes_of ws < 2 ^ 64) (sym none) st.short) in
    let gs = aged_any (makes (of_sender c)) s (sender_after c s r.mid) (ages-of st) in
    let o = send-one P st hs aged c r.mid gs m (none_taken c s r.made.0) a refl in
    let given = o.given in
    let rest = few-ends P cs r.later r.mid new o.next gs o.aged (ap (λ (x : Session). x.sending.sender) o.there) r.rest (omega (arith, few, given, cut)) in
    (rest.0, λ stream. subst (λ (x : Session). AreBefore (next-of new) (fragments_held stream x.receiving.receiver)) o.there (rest.1 stream))

-- ## A move

-- what the receiver of the session holds is what that of a host does
held-in : (w : Way) (n : ℕ) (o : Option Reception) (r : Reception) → IsReceiver w o r → ((stream : ℕ) → AreBefore n (fragments_held stream r))
    → HoldsYoung n o
held-in w n None r is h = tt
held-in w n (Some s) r is h = λ stream. subst (λ (q : Reception). AreBefore n (fragments_held stream q)) is (h stream)

module _ (P Q : AnyCall → Type 0) (f b : Way) where
  module _ (ones others : List Aged) (x y z : Host) (j : Joined P Q f b ones others x z) (few : WroteFew y) (other : WroteFew z) where
    poll-few : (is_sent : Bool) (datagram : List ℕ) → Polls is_sent datagram x y → IsBounded y z
    poll-few is_sent datagram h =
        let t = h.transmits in
        let cut = ap (λ (i : Host). i.fragments) h.after in
        let before = j.goes.given in
        let room = few.0 in
        let e = few-ends P t.sent.calls t.made x.sender y.sender j.forth ones j.goes.aged j.goes.sends t.sent.run (omega (arith, cut, before, room)) in
        (e.0, held-in f (next-of y.sender) z.receiver j.forth.ran.session.receiving.receiver j.goes.receives e.1)

    handle-few : (datagram : List ℕ) (h : Handles z.sent datagram x y) → IsActByRule (Fits P Q b) z.sent (handles datagram) x y h
        → IsActByRule (IsYoungCall f others z) z.sent (handles datagram) x y h
    handle-few datagram h fits =
        let p = j.other-sent datagram h.handed in
        let cut = ap (λ (i : Host). i.fragments) h.after in
        let before = j.goes.given in
        let before-other = j.comes.given in
        let room = few.0 in
        let room-other = other.0 in
        each-young P Q b f z ones others p.ms p.ks datagram h.arrives.calls (halves x.sender x.receiver) (halves y.sender y.receiver) j.forth j.back
        h.arrives.run fits (of-call p.ms p.ks datagram (carries-only p.ms p.ks datagram p.written))
        (record {
          sends = j.goes.sends;
          receives = j.comes.receives;
          beyond = j.goes.receives;
          from' = j.comes.sends;
          made = p.made;
          sacks = p.sacks;
          aged = j.goes.aged;
          ages = j.comes.aged;
        }) (omega (arith, cut, before, room)) (omega (arith, before-other, room-other))

    -- what the act brings is not old, and they stand in such sessions then
    act-few : (act : Act) (h : Acts z.sent act x y) → IsActByRule (Fits P Q b) z.sent act x y h
        → IsActByRule (IsYoungCall f others z) z.sent act x y h × IsBoundedBy act y z × Joined P Q f b (aged_by ones z.sent act x y h) others y z
    act-few (asks call) h fits = (tt, tt, by-asks P Q f b ones others x y z j call h few.1)
    act-few (reads_on stream) h fits = (tt, tt, by-reads P Q f b ones others x y z j stream h)
    act-few (polls is_sent datagram) h fits =
        let k = poll-few is_sent datagram h in (tt, k, by-polls P Q f b ones others x y z j is_sent datagram h k)
    act-few (handles datagram) h fits =
        let y' = handle-few datagram h fits in (y', tt, by-handles P Q f b ones others x y z j datagram h fits y')

few-joined : (P Q : AnyCall → Type 0) (f b : Way) (ms : List Move) (ones others : List Aged) (h new : Hosts) (r : MovesTo h ms new)
    → AreMovesByRule (Fits P Q b) (Fits Q P f) h ms new r → Joined P Q f b ones others h.one h.other → WroteFew new.one → WroteFew new.other
    → AreYoungMoves f b ones others h ms new r × JoinedSome P Q f b new.one new.other
few-joined P Q f b [] ones others h new r fits j one other =
    (tt, record { ones = ones; others = others; joined' = subst (λ (k : Hosts). Joined P Q f b ones others k.one k.other) (sym r) j })
few-joined P Q f b (one_acts act ∷ ms) ones others h new r fits j one other =
    let few = both-few ms r.0 new r.1.1 one other in
    let hs = aged_by ones h.other.sent act h.one r.0.one r.1.0.0 in
    let a = act-few P Q f b ones others h.one r.0.one h.other j few.0 (subst WroteFew r.1.0.1 few.1) act r.1.0.0 fits.0 in
    let k = subst (λ z. Joined P Q f b hs others r.0.one z) (sym r.1.0.1) a.2 in
    let rest = few-joined P Q f b ms hs others r.0 new r.1.1 fits.1 k one other in
    ((a.0, subst (λ z. IsBoundedBy act r.0.one z) (sym r.1.0.1) a.1, rest.0), rest.1)
few-joined P Q f b (other_acts act ∷ ms) ones others h new r fits j one other =
    let few = both-few ms r.0 new r.1.1 one other in
    let hs = aged_by others h.one.sent act h.other r.0.other r.1.0.0 in
    let a = act-few Q P b f others ones h.other r.0.other h.one (turned P Q f b ones others h.one h.other j) few.1 (subst WroteFew r.1.0.1 few.0) act
    r.1.0.0 fits.0 in
    let k = subst (λ z. Joined P Q f b ones hs z r.0.other) (sym r.1.0.1) (turned Q P b f hs ones r.0.other h.one a.2) in
    let rest = few-joined P Q f b ms ones hs r.0 new r.1.1 fits.1 k one other in
    ((a.0, subst (λ z. IsBoundedBy act r.0.other z) (sym r.1.0.1) a.1, rest.0), rest.1)

pub each-few-joined : (P Q : AnyCall → Type 0) (f b : Way) (moves : List Move) (new : Hosts)
    (run : MovesTo (hosts (first_host f) (first_host b)) moves new)
    → AreMovesByRule (Fits P Q b) (Fits Q P f) (hosts (first_host f) (first_host b)) moves new run → IsFit f → IsFit b → WroteFew new.one
    → WroteFew new.other
    → AreYoungMoves f b [] [] (hosts (first_host f) (first_host b)) moves new run × JoinedSome P Q f b new.one new.other
each-few-joined P Q f b moves new run fits fit other one-few other-few =
    few-joined P Q f b moves [] [] (hosts (first_host f) (first_host b)) new run fits (begun P Q f b fit other) one-few other-few
