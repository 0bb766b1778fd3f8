use Rattle.sctp_link.proofs.Names.{◌≡◌, ap, sym, ◌∙◌, ◌-◌, ◌≤◌, [], ◌∷◌, true, false, arith, is_some, if◌then◌else◌, max, nat_lt, ◌&&◌, message_at, message_of}
use Rattle.sctp_link.proofs.Names.{index_of, is_open, is_new, next_of, fits, lowest_held, highest_held, record_in, message_record, and-none, fits-new}
use Rattle.sctp_link.proofs.receiver.Hears.{come-index}
use Rattle.sctp_link.proofs.receiver.Spans.{IsKept, kept-at, number-kept, message-kept, index-kept, kept-past}
use Rattle.sctp_link.proofs.link.Link.slot_fits.Given.{Over}
use Rattle.sctp_link.proofs.link.Link.slot_fits.Goals.{After-index, After-index-message}
use Rattle.sctp_link.proofs.link.Link.slot_fits.Goals as goal

kept : (g : Over) (c : After-index g) → IsKept c.self.inside c.args.place
kept g c = kept-at c.self.inside c.self.invariant.1 c.args.place (rw (← c.self.view_is) at c.requires)

message : (g : Over) (c : After-index-message g) → IsKept c.self.inside c.args.place
    → message_at (record_in c.self.inside) (message_of (record_in c.self.inside) c.args.place) ≡ message_record c.index-message.result.now
message g c k =
    message-kept c.self.inside c.self.invariant.1 c.args.place k c.index.result.now c.index.ensures c.index-message.result.now c.index-message.ensures

pub index-requires : goal.index-requires
index-requires g c =
    let k = kept-at c.self.inside c.self.invariant.1 c.args.place (rw (← c.self.view_is) at c.requires) in
    omega (arith, k.inside)

pub index-message-requires : goal.index-message-requires
index-message-requires g c =
    let k = kept g (goal.at.index-message-requires g c).After-index in
    let number = number-kept c.self.inside c.self.invariant.1 c.args.place k c.index.result.now c.index.ensures in
    omega (arith, number, k.made)

pub is_new-requires : goal.is_new-requires
is_new-requires g c = rw (← c.self.view_is) (kept g (goal.at.is_new-requires g c).After-index).carried.made

pub returns-then-not-message : goal.returns-then-not-message
returns-then-not-message g c =
    let p = goal.at.returns-then-not-message g c in
    let w = record_in c.self.inside in
    let n = message_of w c.args.place in
    let test = fits w (index_of w n ∷ []) (message_at w n).stream in
    let kind : (message_at w n).ordered ≡ false = ap (λ t. t.ordered) (message g p.After-index-message (kept g p.After-index)) ∙ c.if-not-message.true in
    rw (← c.self.view_is)
    (sym (ap (λ b. if is_new w c.args.place && b then test else true) kind ∙ ap (λ b. if b then test else true) (and-none (is_new w c.args.place))))

pub returns-then-not-is_new : goal.returns-then-not-is_new
returns-then-not-is_new g c =
    let w = record_in c.self.inside in
    let n = message_of w c.args.place in
    let test = fits w (index_of w n ∷ []) (message_at w n).stream in
    let answered : c.is_new.result ≡ is_new w c.args.place = rw (← c.self.view_is) at c.is_new.ensures in
    let old : is_new w c.args.place ≡ false = sym answered ∙ c.if-not-is_new.true in
    rw (← c.self.view_is) (sym (ap (λ b. if b && (message_at w n).ordered then test else true) old))

pub index_range-low-requires : goal.index_range-low-requires
index_range-low-requires g c =
    let p = goal.at.index_range-low-requires g c in
    let k = kept g p.After-index in
    let open' : is_open (record_in c.self.inside) c.index-message.result.now.stream ≡ true =
    ap (λ t. is_open (record_in c.self.inside) t.stream) (sym (message g p.After-index-message k)) ∙ ap is_some k.carried.known.1 in
    rw (← c.self.view_is) open'

pub returns : goal.returns
returns g c =
    let q = goal.at.returns g c in
    let a = c.self.inside in
    let w = record_in a in
    let p = c.args.place in
    let n = message_of w p in
    let k = kept g q.After-index in
    let m = c.index-message.result.now in
    let m_is = message g q.After-index-message k in
    let test = fits w (index_of w n ∷ []) (message_at w n).stream in
    let answered : c.is_new.result ≡ is_new w p = rw (← c.self.view_is) at c.is_new.ensures in
    let new : is_new w p ≡ true = sym answered ∙ c.if-not-is_new.false in
    let kind : (message_at w n).ordered ≡ true = ap (λ t. t.ordered) m_is ∙ c.if-not-message.false in
    let low : c.index_range-low.result.0 ≡ lowest_held w m.stream = rw (← c.self.view_is) at c.index_range-low.ensures.low in
    let high : c.index_range-low.result.1 ≡ highest_held w m.stream = rw (← c.self.view_is) at c.index_range-low.ensures.high in
    let index : m.index ≡ index_of w n = sym (index-kept c.self.inside c.self.invariant.1 p k c.index.result.now c.index.ensures m c.index-message.ensures)
    ∙ come-index c.self.invariant.1 k.carried kind in
    let start = ap (λ t. next_of w t.stream) (sym m_is) in
    let past : next_of w m.stream ≤ index_of w n = omega (arith, start, kept-past c.self.inside c.self.invariant.1 p k new kind) in
    rw (← c.self.view_is) (
    ap (λ d. nat_lt d 32768) (c.saturating_sub.ensures
    ∙ ap (λ b. b - c.index_range-low.result.0) (c.max.ensures ∙ ap (λ b. max b m.index) high ∙ ap (max (highest_held w m.stream)) index)
    ∙ ap (λ b. max (highest_held w m.stream) (index_of w n) - b) low) ∙ fits-new w m.stream (index_of w n) past
    ∙ ap (fits w (index_of w n ∷ [])) (sym (ap (λ t. t.stream) m_is))
    ∙ sym (ap (λ b. if b && (message_at w n).ordered then test else true) new ∙ ap (λ b. if b then test else true) kind)
    )
