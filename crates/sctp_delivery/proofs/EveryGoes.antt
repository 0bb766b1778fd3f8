-- Sessions of every call: beside each there is one of a sender that keeps nothing, with the same chunks. What the calls that most sessions do not have
-- make of it.
use Rattle.sctp_delivery.proofs.Names.{◌+◌, nat_tests, common_steps, append-nil, Sack, distance, ◌≡◌, ℕ, Bool, false, not, List, [], ◌∷◌, ◌++◌, map, Option}
use Rattle.sctp_delivery.proofs.Names.{refl, ap, sym, subst, ◌∙◌, arith, filter, change_where, if◌then◌else◌, Limits, Modes, OutboundStream, Transmission}
use Rattle.sctp_delivery.proofs.Names.{Session, SenderCall, SenderFollows, IsAccounted, has_number, at_start, Drop}
use Rattle.sctp_sender.specs.Outgoing.{from_first}
use Rattle.sctp_sender.specs.Sender.{close_stream, with_streams}
use Rattle.sctp_sender.specs.Settings.{reset_on}
use Rattle.sctp_sender.specs.SenderRuns as sender_runs
use Rattle.sctp_sender.proofs.Accounts as accounts
use Rattle.sctp_stream.specs.Numbers.{swapped_out}
use Rattle.sctp_stream.proofs.Removals.{rotated-map}
use Rattle.std.specs.List.{slice_rotate_right}
use Rattle.sctp_delivery.specs.EveryCall.{ReceiverDoes, ReceiverOther, SenderDoes, SenderOther, closes, resets}
use Rattle.sctp_sender.specs.declared.sender.flight.kept.TakenBack.{TakenBack}
use Rattle.sctp_delivery.specs.Returns.{TakesBack}
use Rattle.sctp_delivery.specs.Session.{count_in_flight}
use Rattle.sctp_delivery.specs.SenderCalls as outgoing
use Rattle.sctp_delivery.proofs.Delivered.{next_tsn}
use Rattle.sctp_delivery.proofs.OneRead.{no-way}
use Rattle.sctp_delivery.proofs.PlainReturns.{back-like}
use Rattle.sctp_delivery.proofs.Cases.{at-test}
use Rattle.sctp_delivery.proofs.Numbers.{all-open, apart-changed, apart-closed, number-elsewhere, numbers-closed, sized-changed, sized-closed, there-changed}
use Rattle.sctp_delivery.proofs.Numbers.{there-closed}
use Rattle.sctp_delivery.proofs.PlainSessions.{Goes, Others, small-next}
use Rattle.sctp_delivery.proofs.PlainStreams.{AreAlike, bare, both-changed, returned-alike}
use Rattle.sctp_delivery.proofs.Senders.{IsHeldOn, renumbered}
use Rattle.sctp_delivery.proofs.Sent.{Entry, Numbered}
use Rattle.sctp_delivery.proofs.Sessions.{IsCounted, sender-counts}

-- ## What a sender does by its calls, and one more

pub ran-then : (cs : List sender_runs.Call) (c : sender_runs.Call) (old mid new : sender_runs.Ledger) → sender_runs.RunsTo old cs mid
    → sender_runs.Follows c mid new → sender_runs.RunsTo old (cs ++ c ∷ []) new
ran-then [] c old mid new r f = (new, (subst (λ l. sender_runs.Follows c l new) r f, refl))
ran-then (d ∷ cs) c old mid new r f = (r.0, (r.1.0, ran-then cs c r.0 mid new r.1.1 f))

-- the session with another sender
abbrev pub with_sender : Transmission → Session → Session
with_sender t d = record d { sending = record d.sending { sender = t } }

-- # A stream of the sender is closed or reset

module _ (on : ℕ → Bool) (first : ℕ) (st : ℕ) (off : on st ≡ false) where
  pub closes-held : (ns : List Numbered) (t : Transmission) (sent : List Entry) → IsHeldOn on ns first t sent → IsHeldOn on ns first (close_stream st t) sent
  closes-held ns t sent h = grind (arith, nat_tests, common_steps, renumbered, numbers-closed, all-open, there-closed, sized-closed, apart-closed)

  pub resets-held : (ns : List Numbered) (t : Transmission) (sent : List Entry) → IsHeldOn on ns first t sent → IsHeldOn on ns first (reset_on st t) sent
  resets-held ns t sent h = grind (arith, nat_tests, common_steps, renumbered, number-elsewhere, all-open, there-changed, sized-changed, apart-changed)

-- streams that are alike are so without one
pub both-closed : (s : ℕ) (ls ms : List OutboundStream) → AreAlike ls ms → AreAlike (swapped_out (has_number s) ls) (swapped_out (has_number s) ms)
both-closed s ls ms e = out ls ∙ ap (swapped_out (has_number s)) e ∙ sym (out ms)
  where
    without : List OutboundStream → List OutboundStream
    without ks = filter (λ l. not (has_number s l)) ks

    left : (ks : List OutboundStream) → map bare (without ks) ≡ without (map bare ks)
    left [] = refl
    left (l ∷ ks) = at-test (λ b. map bare (if not b then l ∷ without ks else without ks) ≡
        (if not b then bare l ∷ without (map bare ks) else without (map bare ks)))
        (has_number s l) (λ _. left ks) (λ _. ap (λ xs. bare l ∷ xs) (left ks))

    out : (ks : List OutboundStream) → map bare (swapped_out (has_number s) ks) ≡ swapped_out (has_number s) (map bare ks)
    out [] = refl
    out (l ∷ ks) = at-test (λ b. map bare (if b then slice_rotate_right (without ks) 1 else l ∷ swapped_out (has_number s) ks)
        ≡ (if b then slice_rotate_right (without (map bare ks)) 1 else bare l ∷ swapped_out (has_number s) (map bare ks))) (has_number s l)
        (λ _. rotated-map bare (without ks) ∙ ap (λ xs. slice_rotate_right xs 1) (left ks)) (λ _. ap (λ xs. bare l ∷ xs) (out ks))

-- # Bytes

-- what its sender was called for
pub record HasRun (first : ℕ) (d : Session) : Type 0 where
  pub counted : IsCounted d
  pub size : ℕ
  pub max : ℕ
  pub calls : List sender_runs.Call
  pub ran : sender_runs.RunsTo (sender_runs.at_start first size max) calls d.sending

pub run-first : (first size max most : ℕ) (limits : Option Limits) → HasRun first (at_start first size max most limits)
run-first first size max most limits = record { counted = record { written = refl; back = refl }; size = size; max = max; calls = []; ran = refl }

pub run-after : (first : ℕ) (call : SenderCall) (d e : Session) → SenderFollows call d e → HasRun first d → HasRun first e
run-after first call d e f h = record {
  counted = sender-counts call d e f h.counted;
  size = h.size;
  max = h.max;
  calls = h.calls ++ outgoing.as_run call ∷ [];
  ran = ran-then h.calls (outgoing.as_run call) (sender_runs.at_start first h.size h.max) d.sending e.sending h.ran f.step;
}

-- its sender stays as it is
pub run-beside : (first : ℕ) (d e : Session) → e.sending ≡ d.sending → e.written ≡ d.written → HasRun first d → HasRun first e
run-beside first d e same written h = grind (arith, nat_tests, common_steps)

-- it has other streams
pub run-restreamed : (first : ℕ) (d : Session) (ls : List OutboundStream) (c : sender_runs.Call)
    → sender_runs.Follows c d.sending (record d.sending { sender = with_streams ls d.sending.sender }) → HasRun first d
    → HasRun first (with_sender (with_streams ls d.sending.sender) d)
run-restreamed first d ls c f h = record {
  counted = record { written = h.counted.written; back = h.counted.back };
  size = h.size;
  max = h.max;
  calls = h.calls ++ c ∷ [];
  ran = ran-then h.calls c (sender_runs.at_start first h.size h.max) d.sending (record d.sending { sender = with_streams ls d.sending.sender }) h.ran f;
}

pub run-accounted : (first : ℕ) (d : Session) → HasRun first d → IsAccounted d
run-accounted first d h =
    let law = accounts.accounted first h.size h.max Drop h.calls d.sending h.ran in
    let w = h.counted.written in
    let b = h.counted.back in
    omega (arith, law, w, b)

-- # Each call

module _ (first : ℕ) (others : Others first) where
  pub returns-goes : (sack : Sack) (back : List TakenBack) (s v : Session) (n : ℕ) (gone : List ℕ) (m : Modes) → TakesBack sack back s v
      → Goes first others s.sending.sender s n gone m → Goes first others v.sending.sender v n gone m
  returns-goes sack back s v n gone m f g = grind (arith, nat_tests, common_steps, returned-alike, back-like)

  -- no TSN is given out, and no message abandoned
  pub unmoved : (s v : Session) (n : ℕ) (gone : List ℕ) (m : Modes) → next_tsn v ≡ next_tsn s → others.Bound n (count_in_flight s)
      → Goes first others s.sending.sender s n gone m → Goes first others v.sending.sender v n gone m
      → Goes first others v.sending.sender v (n + distance (next_tsn s) (next_tsn v)) (gone ++ []) m
  unmoved s v n gone m same few g h = grind (arith, nat_tests, common_steps, no-way, small-next, append-nil)

module _ (first : ℕ) (others : Others first) (s v : Session) (n : ℕ) (gone : List ℕ) (m : Modes) (g : Goes first others s.sending.sender s n gone m) where
  abbrev d : Session
  d = g.other

  -- the sender of the one has other streams, and so has that of the other
  restreams : (call : SenderOther) → SenderDoes call s v → (us ls : List OutboundStream) → v.sending.sender ≡ with_streams us s.sending.sender
      → AreAlike us ls → others.Plays (with_sender (with_streams ls g.other.sending.sender) g.other) n gone m
      → Goes first others v.sending.sender v n gone m
  restreams call f us ls e alike p = grind (arith, nat_tests, common_steps)

  pub closed-goes : (st : ℕ) → SenderDoes (closes st) s v
      → others.Plays (with_sender (with_streams (swapped_out (has_number st) g.other.sending.sender.streams) g.other.sending.sender) g.other) n gone m
      → Goes first others v.sending.sender v n gone m
  closed-goes st f =
      restreams (closes st) f (swapped_out (has_number st) s.sending.sender.streams) (swapped_out (has_number st) d.sending.sender.streams) f.step.sender
      (both-closed st s.sending.sender.streams g.shadow.streams g.shadow.alike
      ∙ ap (λ (t : Transmission). map bare (swapped_out (has_number st) t.streams)) (sym g.shadow.sender))

  pub reset-goes : (st : ℕ) → SenderDoes (resets st) s v
      → others.Plays (with_sender (with_streams (change_where (has_number st) from_first g.other.sending.sender.streams) g.other.sending.sender) g.other) n
      gone m
      → Goes first others v.sending.sender v n gone m
  reset-goes st f =
      restreams (resets st) f (change_where (has_number st) from_first s.sending.sender.streams)
      (change_where (has_number st) from_first d.sending.sender.streams) f.step.sender
      (both-changed st from_first (λ l. refl) s.sending.sender.streams g.shadow.streams g.shadow.alike
      ∙ ap (λ (t : Transmission). map bare (change_where (has_number st) from_first t.streams)) (sym g.shadow.sender))

  pub received-too : (call : ReceiverOther) → ReceiverDoes call s v → ReceiverDoes call g.other (record g.other { receiving = v.receiving })
  received-too call f = grind (arith, nat_tests, common_steps)

  pub received-goes : (call : ReceiverOther) → ReceiverDoes call s v → others.Plays (record g.other { receiving = v.receiving }) n gone m
      → Goes first others v.sending.sender v n gone m
  received-goes call f p = grind (arith, nat_tests, common_steps)
