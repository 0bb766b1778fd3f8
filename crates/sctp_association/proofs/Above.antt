-- As messages are sent or dropped no buffered amount rises: one that is above its low threshold was above it before.
use Rattle.std.proofs.Common.{◌≡◌, ◌⊎◌, ◌-◌, ℕ, zero, suc, Bool, true, false, List, [], ◌∷◌, Some, None, refl, ap, sym, subst, ◌∙◌, arith, inl, inr}
use Rattle.std.proofs.lemmas.Bool.{false≢true}
use Rattle.std.proofs.lemmas.Bool.Decides.{nat_tests}
use Rattle.std.specs.Prelude.{◌==◌, find, nat_lt, if◌then◌else◌}
use Rattle.sctp_delivery.proofs.Changes.{expired-one}
use Rattle.sctp_delivery.specs.SenderCalls.{SenderCall, SenderMakes, expires, expires_late, expires_rexmit, expires_tail, forwards_within, resends, sends}
use Rattle.sctp_delivery.specs.SenderCalls.{starts}
use Rattle.sctp_association.specs.Congested.{LeavesAgain, LeavesFrom, LeavesNew, Path, PausesFrom, Repeats, SendsNew, begun, ended, idle_at, idled, told_at}
use Rattle.sctp_association.specs.Congested.{used_after, with_burst}
use Rattle.sctp_association.specs.Idle.{in_flight}
use Rattle.sctp_association.specs.Runs.{Runs, Sends, SendsBy, is_sending, made_by}
use Rattle.sctp_association.specs.Sending.{is_later, is_none_of, lowered_times}
use Rattle.sctp_delivery.specs.SenderCalls.{Made}
use Rattle.sctp_path.specs.Rto.{Timeout}
use Rattle.sctp_sender.specs.Late.{after_leaving, late_order, leaving_each, worn_order}
use Rattle.sctp_sender.specs.Outgoing.{after_expiry, has_number, less_by}
use Rattle.sctp_sender.specs.Sender.{Transmission}
use Rattle.sctp_sender.specs.Thresholds.{is_above}
use Rattle.sctp_sender.specs.declared.sender.flight.late.AbandonedMessage.{AbandonedMessage}
use Rattle.sctp_stream.specs.declared.outbound_stream.OutboundStream.{OutboundStream}
use Rattle.sctp_util.specs.Lists.{change_where}

-- ## A stream

less : (low a n : ℕ) → nat_lt low (a - n) ≡ true → nat_lt low a ≡ true
less low a n e = grind (arith, nat_tests)

less-above : (n : ℕ) (l : OutboundStream) → is_above (Some (less_by n l)) ≡ true → is_above (Some l) ≡ true
less-above n l h = less l.buffered_amount_low l.buffered_amount n h

expiry-above : (b : Bool) (n : ℕ) (l : OutboundStream) → is_above (Some (after_expiry b n l)) ≡ true → is_above (Some l) ≡ true
expiry-above true n l h = less l.buffered_amount_low l.buffered_amount n h
expiry-above false n l h = less l.buffered_amount_low l.buffered_amount n h

expiry-number : (b : Bool) (n : ℕ) (l : OutboundStream) → (after_expiry b n l).stream_identifier ≡ l.stream_identifier
expiry-number true n l = refl
expiry-number false n l = refl

module _ (s : ℕ) where
  abbrev above : List OutboundStream → Bool
  above ls = is_above (find (has_number s) ls)

  -- one stream is changed, which keeps its number, and whose amount does not rise
  changed-above : (f : OutboundStream → OutboundStream) → ((l : OutboundStream) → (f l).stream_identifier ≡ l.stream_identifier)
      → ((l : OutboundStream) → is_above (Some (f l)) ≡ true → is_above (Some l) ≡ true) → (t : ℕ) (ls : List OutboundStream)
      → above (change_where (has_number t) f ls) ≡ true → above ls ≡ true
  changed-above f keeps lower t [] h = h
  changed-above f keeps lower t (l ∷ ls) h = by (changed-above f keeps lower t ls) (has_number t l) (has_number s l) refl h
    where
      own : (b : Bool) → is_above (Some (if b then f l else l)) ≡ true → is_above (Some l) ≡ true
      own true h = lower l h
      own false h = h

      same : (b : Bool) → has_number s (if b then f l else l) ≡ has_number s l
      same true = ap (λ n. n == s) (keeps l)
      same false = refl

      at : (above (change_where (has_number t) f ls) ≡ true → above ls ≡ true) → (b k : Bool) → has_number s (if b then f l else l) ≡ k
          → is_above (if k then Some (if b then f l else l) else find (has_number s) (change_where (has_number t) f ls)) ≡ true
          → is_above (if k then Some l else find (has_number s) ls) ≡ true
      at rest b true e h = own b h
      at rest b false e h = rest h

      by : (above (change_where (has_number t) f ls) ≡ true → above ls ≡ true) → (b k : Bool) → has_number s l ≡ k
          → is_above (if has_number s (if b then f l else l) then Some (if b then f l else l) else find (has_number s) (change_where (has_number t) f ls))
          ≡ true → is_above (if has_number s l then Some l else find (has_number s) ls) ≡ true
      by rest b k e h = subst (λ x. is_above (if x then Some l else find (has_number s) ls) ≡ true) (sym e)
          (at rest b k (same b
          ∙ e) (subst (λ x. is_above (if x then Some (if b then f l else l) else find (has_number s) (change_where (has_number t) f ls)) ≡ true)
          (same b ∙ e) h))

  left-above : (gs : List AbandonedMessage) (ls : List OutboundStream) → above (after_leaving gs ls) ≡ true → above ls ≡ true
  left-above [] ls h = h
  left-above (g ∷ gs) ls h = changed-above (less_by g.bytes) (λ l. refl) (less-above g.bytes) g.stream ls (left-above gs _ h)

  -- ## Calls of a sender that sends

  module _ (t u : Transmission) where
    calm : (v : Transmission) → u ≡ v → (above v.streams ≡ true → above t.streams ≡ true) → above u.streams ≡ true → above t.streams ≡ true
    calm v e more h = more (sym (ap (λ (w : Transmission). above w.streams) e) ∙ h)

    made-above : (call : SenderCall) → is_sending call ≡ true → SenderMakes call t u → above u.streams ≡ true → above t.streams ≡ true
    made-above (starts now) z m = calm _ m.0 (λ h. h)
    made-above (sends now) z m = calm _ m.1.0 (λ h. h)
    made-above (resends tsn now c) z m = calm _ m.0 (λ h. h)
    made-above (expires now None) z m = calm _ (m.1.0.1.1 refl) (λ h. h)
    made-above (expires now (Some e)) z m =
        let i = expired-one now e t u m.1.0 in
        calm _ i.2 (changed-above (after_expiry i.0.unordered e.bytes) (expiry-number i.0.unordered e.bytes) (expiry-above i.0.unordered e.bytes)
        i.0.stream_identifier t.streams)
    made-above (expires_tail now None) z m = calm _ (m.1.0.1 refl) (λ h. h)
    made-above (expires_tail now (Some a)) z m =
        calm _ m.1.0.0 (changed-above (less_by a.bytes) (λ l. refl) (less-above a.bytes) a.stream t.streams)
    made-above (expires_late now gone) z m = calm _ m.1.0 (left-above (leaving_each (late_order now t.flight) t.flight) t.streams)
    made-above (expires_rexmit gone) z m = calm _ m.1.0 (left-above (leaving_each (worn_order t.flight) t.flight) t.streams)
    made-above (forwards_within bytes f) z m = calm _ m.1.0 (λ h. h)
    made-above _ z m = absurd (false≢true z)

  runs-above : (cs : List SenderCall) (ms : List Made) (t u : Transmission) → Runs SendsBy made_by cs ms t u → above u.streams ≡ true → above t.streams ≡ true
  runs-above [] ms t u r h = ap (λ (w : Transmission). above w.streams) (sym r.1) ∙ h
  runs-above (c ∷ cs) ms t u r h = made-above t r.mid c r.made.0 r.made.1 (runs-above cs r.later r.mid u r.rest h)

  pub sends_above : (ms : List Made) (t u : Transmission) → Sends ms t u → above u.streams ≡ true → above t.streams ≡ true
  sends_above ms t u h = runs-above h.calls ms t u h.run

-- ## What leaves

-- what leaves leaves the streams
agains-streams : (now count : ℕ) (p q : Path) → Repeats (LeavesAgain now) count p q → q.sender.streams ≡ p.sender.streams
agains-streams now zero p q h = ap (λ (x : Path). x.sender.streams) h
agains-streams now (suc n) p q h = ap (λ (x : Path). x.sender.streams) h.2.after ∙ agains-streams now n p h.0 h.1

news-streams : (now count : ℕ) (p q : Path) → Repeats (LeavesNew now) count p q → q.sender.streams ≡ p.sender.streams
news-streams now zero p q h = ap (λ (x : Path). x.sender.streams) h
news-streams now (suc n) p q h = ap (λ (x : Path). x.sender.streams) h.2.after ∙ news-streams now n p h.0 h.1

burst-streams : (now : ℕ) (p : Path) → (with_burst now p).sender ≡ p.sender
burst-streams now p = by (is_later now p.paused)
  where
    by : (b : Bool) → (let q : Path = if b then record p { burst = None; paused = None } else p in q).sender ≡ p.sender
    by true = refl
    by false = refl

idled-streams : (now : ℕ) (rto : Timeout) (p : Path) → (idled now rto p).sender ≡ p.sender
idled-streams now rto p = by (is_none_of (in_flight p.sender))
  where
    by : (b : Bool) → (let q : Path = if b then record p {
      congestion = lowered_times (idle_at now rto p) p.congestion;
      used = used_after now (idle_at now rto p) p.used;
    } else p in q).sender ≡ p.sender
    by true = refl
    by false = refl

begun-streams : (now : ℕ) (rto : Timeout) (goes : Bool) (p : Path) → (begun now rto goes p).sender ≡ p.sender
begun-streams now rto true p = idled-streams now rto (with_burst now p) ∙ burst-streams now p
begun-streams now rto false p = burst-streams now p

told-streams : (told : Bool) (p : Path) → (told_at told p).sender ≡ p.sender
told-streams true p = refl
told-streams false p = refl

ended-streams : (now : ℕ) (ends : Bool) (p : Path) → (ended now ends p).sender ≡ p.sender
ended-streams now true p = refl
ended-streams now false p = refl

left-streams : (now : ℕ) (rto : Timeout) (p q : Path) → LeavesFrom now rto p q → q.sender.streams ≡ p.sender.streams
left-streams now rto p q h = last h.left ∙ agains-streams now h.again.count (told_at h.told p) h.mid h.again.each
    ∙ ap (λ (t : Transmission). t.streams) (told-streams h.told p)
  where
    last : (q ≡ h.mid) ⊎ SendsNew now rto h.mid q → q.sender.streams ≡ h.mid.sender.streams
    last (inl is) = ap (λ (x : Path). x.sender.streams) is
    last (inr n) = news-streams now n.count (begun now rto n.goes h.mid) q n.each
        ∙ ap (λ (t : Transmission). t.streams) (begun-streams now rto n.goes h.mid)

pub pauses_streams : (now : ℕ) (ends : Bool) (rto : Timeout) (p q : Path) → PausesFrom now ends rto p q → q.sender.streams ≡ p.sender.streams
pauses_streams now ends rto p q h =
    ap (λ (x : Path). x.sender.streams) h.paused ∙ ap (λ (t : Transmission). t.streams) (ended-streams now ends h.last)
    ∙ left-streams now rto p h.last h.left
