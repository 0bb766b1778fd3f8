use Rattle.sctp_sender.proofs.Names.{◌≡◌, ◌+◌, true, rules, arith, List, [], None, refl, ap, sym, subst, ◌∙◌, All, Sack, sack_of, total_bytes, OutboundStream}
use Rattle.sctp_sender.proofs.Names.{Kept, Released, TakenBack, can_resend, released_by, bytes_back, after_releases, Transmission, after_acked, after_take_back}
use Rattle.sctp_sender.proofs.Names.{with_streams, with_lows, bytes_in}
use Rattle.sctp_sender.proofs.Lows.{chunks-tell, one-chunk-tells, released-same}
use Rattle.sctp_sender.proofs.Seen.{sender_in}
use Rattle.sctp_sender.proofs.TakenSacks.{none-listed, none-refused, none-told, nothing-kept}
use Rattle.sctp_sender.proofs.sender.Sender.acked_counted.Goals as goal

none-of : (P : TakenBack → Type 0) → All P []
none-of P k d lt = absurd (omega (arith, lt))

-- Where nothing is kept, it is as if nothing came back first.
pub returns-clause-acks : goal.returns-clause-acks
returns-clause-acks c =
    let s : Sack = sack_of c.args.sack.now in
    let old : Transmission = c.args.self.now in
    let none : old.kept ≡ None = ap (λ (u : Transmission). u.kept) (sym c.self.view_is)
    ∙ none-listed c.self.inside.kept (λ (k : Kept). k.user_data.items) (sym c.is_some.ensures ∙ c.if-is_some.false) in
    let mid : Transmission = after_take_back s old in
    let same : old ≡ mid = sym (nothing-kept s old none) in
    let rs : List Released = c.in_ok-released.released.items in
    let a = c.in_ok-released.ensures.acks in
    let empty = c.new.ensures.items in
    let v : sender_in c.self-2.inside ≡ with_streams old.streams (after_acked s mid) = c.self-2.view_is ∙ a.ok
    ∙ ap (λ (u : Transmission). with_streams old.streams (after_acked s u)) same in
    let told : rs ≡ released_by s mid.flight = a.answer ∙ ap (λ (u : Transmission). released_by s u.flight) same in
    let ls : c.self-2.inside.streams ≡ mid.streams = ap (λ (u : Transmission). u.streams) v ∙ ap (λ (u : Transmission). u.streams) same in
    let less : c.release_each.new.streams ≡ after_releases rs mid.streams = c.release_each.ensures.less ∙ ap (after_releases rs) ls in
    let lows : c.release_each.new.gone.items ≡ with_lows rs mid.streams = c.release_each.ensures.lows ∙ ap (with_lows rs) ls in
    let bytes : total_bytes c.self-2.inside.flight.queue + bytes_in c.release_each.new.gone.items ≡ total_bytes old.flight.queue =
    released-same _ _ _ _ _ lows (ap (λ (u : Transmission). total_bytes u.flight.queue + bytes_in rs) c.self-2.view_is ∙ a.released) in
    let no-bytes = ap bytes_back empty in
    record {
      back = empty ∙ sym (none-told s old none);
      outstanding = subst (λ xs. All (λ (k : TakenBack). can_resend k.tsn mid.flight ≡ true) xs) (sym empty) (none-of (λ k. can_resend k.tsn mid.flight ≡ true));
      answer = lows ∙ ap (λ xs. with_lows xs mid.streams) told;
      low = λ n. chunks-tell n _ _ _ _ lows less;
      once = λ n. one-chunk-tells n _ _ _ _ lows less;
      ok = ap (λ (xs : List OutboundStream). with_streams xs (sender_in c.self-2.inside)) (less ∙ ap (λ xs. after_releases xs mid.streams) told)
          ∙ ap (λ (u : Transmission). with_streams (after_releases (released_by s mid.flight) mid.streams) u) v;
      bytes = omega (arith, bytes, no-bytes);
      accepted = λ e. (a.accepted refl, none-refused s old none);
      refused = search rules;
      outdated = search rules;
      err = search rules;
    }
