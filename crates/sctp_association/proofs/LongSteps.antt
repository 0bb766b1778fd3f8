-- From sessions in which nothing is old, the calls of two associations lead to such sessions.
use Rattle.std.proofs.Common.{◌≡◌, ◌+◌, ◌-◌, ◌≤◌, ◌<◌, ◌^◌, ℕ, true, List, [], ◌∷◌, ◌++◌, length, map, Some, None, refl, ap, sym, subst, ◌∙◌, arith}
use Rattle.std.proofs.lemmas.Bool.{false≢true}
use Rattle.std.proofs.lemmas.List.Elements.{All-contains, All-from_recursion, Contains-append_cases, Contains-append_left, filter-append}
use Rattle.std.specs.Prelude.{Contains, if◌then◌else◌, nat_lt}
use Rattle.std.specs.List.{list_all}
use Rattle.sctp_association.proofs.HostSteps.{IsThere, Only, contains-none, either, none-cut, none-read, none-written}
use Rattle.sctp_association.proofs.Long.{Allows, Long, ages-of, beside-of, holds-of, leads-to, next-small, ready-of, same-way, used-of}
use Rattle.sctp_association.proofs.LongCalls.{back-allows, older-none, other-allows, receiver-allows, reset-allows, sack-allows, sack-next, still-there}
use Rattle.sctp_association.proofs.Raises.{AreBefore, all-between, rises-by, rises-each}
use Rattle.sctp_association.proofs.Sessions.{made_more, none_taken}
use Rattle.sctp_association.specs.Acks.{without_blocks}
use Rattle.sctp_association.proofs.Tsns.{Uses, makes-uses, no-further, uses-none, waiting_in}
use Rattle.sctp_association.specs.Hosts.{bytes_of, fragments_by}
use Rattle.sctp_association.specs.OneLife.{is_other, others_of}
use Rattle.sctp_association.specs.Runs.{AcksBy, Runs, SendsBy, is_sending, made_by, reported_by}
use Rattle.sctp_association.specs.Ages.{aged_over, new_by}
use Rattle.sctp_data.specs.SelectiveAck.{Sack}
use Rattle.sctp_delivery.proofs.Every.{Every, every-joined}
use Rattle.sctp_delivery.proofs.EveryGoes.{run-accounted}
use Rattle.sctp_delivery.proofs.EveryRuns.{restored-tsns}
use Rattle.sctp_delivery.proofs.GivenTsns.{as-long}
use Rattle.sctp_delivery.proofs.Names.{with_inflight}
use Rattle.sctp_delivery.proofs.PlainReturns.{back-fits, back-more}
use Rattle.sctp_delivery.proofs.Stands.{receiver-follows, receiver_after, sender-follows, sender_after}
use Rattle.sctp_delivery.specs.Complete.{fragments_held}
use Rattle.sctp_delivery.specs.EveryCall.{AnyCall, FollowsAny, IsMadeChunk, IsReceiverTaken, ReceiverDoes, ReceiverOther, SenderDoes, as_receiver_run, makes}
use Rattle.sctp_delivery.specs.EveryCall.{of_receiving, of_sending, resets, takes_back}
use Rattle.sctp_delivery.specs.EveryRecent.{IsPassedYoung, IsRecentAny, aged_any}
use Rattle.sctp_delivery.specs.ReceiverCalls as incoming
use Rattle.sctp_delivery.specs.ReceiverCalls.{ReceiverCall, ReceiverMakes, forgets, makes_sack}
use Rattle.sctp_delivery.specs.Recent.{Aged, IsForwardYoung, IsRecent, IsYoung, new_chunks, older}
use Rattle.sctp_delivery.specs.Returns.{after_return}
use Rattle.sctp_delivery.specs.SenderCalls as outgoing
use Rattle.sctp_delivery.specs.SenderCalls.{Made, SenderCall, SenderMakes, TakesBackAndSack, Write, takes_sack, written_after}
use Rattle.sctp_delivery.specs.Session.{IsAccounted, IsReported, IsSent, SenderFollows, Session, bytes_written, of_receiver, of_sender}
use Rattle.sctp_outbound.specs.outbound_queue.OutboundQueue.{total_bytes}
use Rattle.sctp_receiver.specs.Receiver.{Reception, sack_within}
use Rattle.sctp_receiver.specs.ReceiverRuns as receiver_runs
use Rattle.sctp_receiver.specs.ReceiverRuns.{Makes, Message, messages_after}
use Rattle.sctp_sender.specs.Flight.{count_acked, is_outdated, is_within, sack_refusal}
use Rattle.sctp_sender.specs.Keeping.{bytes_back, restored}
use Rattle.sctp_sender.specs.Sender.{Transmission, after_take_back, back_by, take_back_refusal}
use Rattle.sctp_sender.specs.SenderRuns.{held_by_sender}
use Rattle.sctp_sender.specs.Settings.{reset_on, reset_refusal}
use Rattle.sctp_sender.specs.declared.sender.refusal.SenderRefusal.TheVariants.{InflightQueueTsnPop, TsnRequestNotExist}
use Rattle.sctp_sender.specs.declared.sender.flight.Released.{Released}
use Rattle.sctp_sender.specs.declared.sender.flight.kept.TakenBack.{TakenBack}
use Rattle.sctp_util.specs.Serial.{at_or_before, distance}

abbrev pub next-of : Transmission → ℕ
next-of t = t.flight.next_tsn

-- a call that most sessions do not have leads to this session
abbrev pub other_after : ReceiverOther → Session → Reception → Session
other_after call s new = record s {
  receiving = record {
    receiver = new;
    accepted = receiver_runs.accepted_after (as_receiver_run call) s.receiving.accepted;
    read = messages_after (as_receiver_run call) s.receiving.receiver s.receiving.read;
  };
}

pub other-follows : (call : ReceiverOther) (s : Session) (new : Reception) → Makes (as_receiver_run call) s.receiving.receiver new
    → IsReceiverTaken call s.receiving.receiver → IsMadeChunk call s → ReceiverDoes call s (other_after call s new)
other-follows call s new m taken made =
    record { handed = made; step = record { receiver = m; accepted = refl; read = refl }; accepted = taken; after = refl }

-- # Where each call that most sessions do not have is so

module _ (P : AnyCall → Type 0) where
  -- what is still there
  pub record Later (old new : Long) : Type 0 where
    pub made : (m : Made) → Contains old.ran.session.made m → Contains new.ran.session.made m
    pub sacks : (k : Sack) → Contains old.ran.session.sacks k → Contains new.ran.session.sacks k
    pub only : Only P old.ran.calls → Only P new.ran.calls

  pub later-same : (st : Long) → Later st st
  later-same st = record { made = λ m c. c; sacks = λ k c. c; only = λ h. h }

  pub later-then : (x y z : Long) → Later x y → Later y z → Later x z
  later-then x y z f g = record { made = λ m c. g.made m (f.made m c); sacks = λ k c. g.sacks k (f.sacks k c); only = λ h. g.only (f.only h) }

  -- calls lead to a session with this sender, this receiver, these writes and these messages, and with these ages of what was made
  pub record Reach (n : ℕ) (st : Long) (t : Transmission) (r : Reception) (ws : List Write) (ms : List Message) (hs : List Aged) : Type 0 where
    pub next : Long
    pub sends : next.ran.session.sending.sender ≡ t
    pub receives : next.ran.session.receiving.receiver ≡ r
    pub written : next.ran.session.written ≡ ws
    pub read : next.ran.session.receiving.read ≡ ms
    pub aged : hs ≡ ages-of next
    pub given : used-of next ≤ used-of st + n
    pub later : Later st next

  pub reach-same : (st : Long) (hs : List Aged) → hs ≡ ages-of st
      → Reach 0 st st.ran.session.sending.sender st.ran.session.receiving.receiver st.ran.session.written st.ran.session.receiving.read hs
  reach-same st hs aged =
      record { next = st; sends = refl; receives = refl; written = refl; read = refl; aged = aged; given = omega arith; later = later-same st }

  -- one call leads to this session, and so many fragments more were written
  pub record One (n : ℕ) (st : Long) (t : Session) (hs : List Aged) : Type 0 where
    pub next : Long
    pub there : next.ran.session ≡ t
    pub aged : hs ≡ ages-of next
    pub given : used-of next ≤ used-of st + n
    pub later : Later st next

  one-by : (n : ℕ) (st : Long) (c : AnyCall) (t : Session) (hs : List Aged) → FollowsAny c st.ran.session t → Allows st c t → Every P (others_of (c ∷ []))
      → Uses n st.ran.session.sending.sender.flight t.sending.sender.flight → hs ≡ aged_any c st.ran.session t (ages-of st) → One n st t hs
  one-by n st c t hs f a one u aged =
      let x = leads-to st c t f a in
      let there = still-there c st.ran.session t f in
      let old = next-of st.ran.session.sending.sender in
      let given = x.given in
      let far : distance old (next-of t.sending.sender) ≤ u.given =
      subst (λ (k : ℕ). distance old k ≤ u.given) (sym u.next) (no-further old u.given (next-small st)) in
      let waits = ap (λ (s : Session). waiting_in s.sending.sender.flight) x.there in
      let fewer = u.fewer in
      record {
        next = x.next;
        there = x.there;
        aged = aged ∙ sym x.ages;
        given = omega (arith, given, far, waits, fewer);
        later = record {
          made = λ m h. subst (λ (s : Session). Contains s.made m) (sym x.there) (there.made m h);
          sacks = λ k h. subst (λ (s : Session). Contains s.sacks k) (sym x.there) (there.sacks k h);
          only = λ h. subst (Only P) (sym x.calls) (subst (Every P) (sym (filter-append is_other st.ran.calls (c ∷ [])))
              (every-joined P (others_of st.ran.calls) (others_of (c ∷ [])) h one));
        };
      }

  abbrev reach-of : (n : ℕ) (st : Long) (t : Session) (hs : List Aged) → One n st t hs
      → Reach n st t.sending.sender t.receiving.receiver t.written t.receiving.read hs
  reach-of n st t hs x = record {
    next = x.next;
    sends = ap (λ (s : Session). s.sending.sender) x.there;
    receives = ap (λ (s : Session). s.receiving.receiver) x.there;
    written = ap (λ (s : Session). s.written) x.there;
    read = ap (λ (s : Session). s.receiving.read) x.there;
    aged = x.aged;
    given = x.given;
    later = x.later;
  }

  -- the sender has the same flight
  same-uses : (st : Long) → Uses 0 st.ran.session.sending.sender.flight st.ran.session.sending.sender.flight
  same-uses st =
      let f = st.ran.session.sending.sender.flight in uses-none 0 f f (next-small st) refl (omega arith)

  module _ (st : Long) (hs : List Aged) (aged : hs ≡ ages-of st) where
    -- what the call makes that gets older
    abbrev new-in : AnyCall → List Made
    new-in (makes call) = new_chunks call st.ran.session
    new-in (of_sending call) = []
    new-in (of_receiving call) = []

    -- no TSN is given out
    still-aged : (c : AnyCall) (t : Session) → next-of t.sending.sender ≡ next-of st.ran.session.sending.sender → new-in c ≡ []
        → hs ≡ aged_any c st.ran.session t (ages-of st)
    still-aged (makes call) t same new =
        let given = distance (next-of st.ran.session.sending.sender) (next-of t.sending.sender) in
        let none : given ≡ 0 = ap (distance (next-of st.ran.session.sending.sender)) same ∙ same-way st in
        aged ∙ sym (older-none given none (ages-of st))
        ∙ ap (λ (ms : List Made). map (λ m. record { chunk = m; age = 1 }) ms ++ map (older given) (ages-of st)) (sym new)
    still-aged (of_sending call) t same new = aged
    still-aged (of_receiving call) t same new = aged

    -- ## A call of the receiver

    receive-one : (call : ReceiverCall) (new : Reception) → ReceiverMakes call st.ran.session.receiving.receiver new → IsSent call st.ran.session
        → IsRecent (of_receiver call) st.ran.session → IsYoung (of_receiver call) (ages-of st) → IsForwardYoung (of_receiver call) (ages-of st)
        → One 0 st (receiver_after call st.ran.session new) hs
    receive-one call new m h q y z =
        let t = receiver_after call st.ran.session new in
        let f = receiver-follows call st.ran.session new m h in
        one-by 0 st (makes (of_receiver call)) t hs f (receiver-allows st call t f q y z) tt (same-uses st)
        (still-aged (makes (of_receiver call)) t refl refl)

    pub receive-call : (call : ReceiverCall) (new : Reception) → ReceiverMakes call st.ran.session.receiving.receiver new → IsSent call st.ran.session
        → IsRecent (of_receiver call) st.ran.session → IsYoung (of_receiver call) (ages-of st) → IsForwardYoung (of_receiver call) (ages-of st)
        → Reach 0 st st.ran.session.sending.sender new st.ran.session.written
        (messages_after (incoming.as_run call) st.ran.session.receiving.receiver st.ran.session.receiving.read) hs
    receive-call call new m h q y z = reach-of 0 st (receiver_after call st.ran.session new) hs (receive-one call new m h q y z)

    pub other-call : (call : ReceiverOther) (new : Reception) → Makes (as_receiver_run call) st.ran.session.receiving.receiver new
        → IsReceiverTaken call st.ran.session.receiving.receiver → IsMadeChunk call st.ran.session → IsRecentAny (of_receiving call) st.ran.session
        → IsPassedYoung (of_receiving call) (ages-of st) → P (of_receiving call)
        → Reach 0 st st.ran.session.sending.sender new st.ran.session.written st.ran.session.receiving.read hs
    other-call call new m taken made q z p =
        let t = other_after call st.ran.session new in
        let f = other-follows call st.ran.session new m taken made in
        subst (λ (ms : List Message). Reach 0 st st.ran.session.sending.sender new st.ran.session.written ms hs)
        (none-read call st.ran.session.receiving.receiver st.ran.session.receiving.read)
        (reach-of 0 st t hs
        (one-by 0 st (of_receiving call) t hs f (other-allows st call t f q z) (p, tt) (same-uses st) (still-aged (of_receiving call) t refl refl)))

    -- ## A call of the sender

    pub send-one : (call : SenderCall) (new : Transmission) (gs : List Aged) (m : SenderMakes call st.ran.session.sending.sender new)
        (h : IsReported call st.ran.session)
        → Allows st (makes (of_sender call)) (sender_after call st.ran.session new)
        → gs ≡ aged_any (makes (of_sender call)) st.ran.session (sender_after call st.ran.session new) (ages-of st)
        → One (fragments_by call st.ran.session.sending.sender) st (sender_after call st.ran.session new) gs
    send-one call new gs m h a older =
        let t = sender_after call st.ran.session new in
        let u = makes-uses st.ran.session.sending.sender (next-small st) (ready-of st) call new m in
        one-by (fragments_by call st.ran.session.sending.sender) st (makes (of_sender call)) t gs (sender-follows call st.ran.session new m h) a tt u older

    pub ask-call : (call : SenderCall) (new : Transmission) → SenderMakes call st.ran.session.sending.sender new
        → IsReported call st.ran.session → IsRecent (of_sender call) st.ran.session → next-of new ≡ next-of st.ran.session.sending.sender
        → new_chunks (of_sender call) st.ran.session ≡ [] → length new.flight.queue.inflight.chunks < 2 ^ 31
        → bytes_of (written_after call st.ran.session.written) < 2 ^ 64
        → Reach (fragments_by call st.ran.session.sending.sender) st new st.ran.session.receiving.receiver (written_after call st.ran.session.written)
        st.ran.session.receiving.read hs
    ask-call call new m h q same none few bytes =
        let t = sender_after call st.ran.session new in
        reach-of (fragments_by call st.ran.session.sending.sender) st t hs
        (send-one call new hs m h (record {
          recent = q;
          flying = few;
          young = tt;
          holds = λ stream. subst (λ (n : ℕ). AreBefore n (fragments_held stream st.ran.session.receiving.receiver)) (sym same) (holds-of st stream);
          passed = tt;
          short = bytes;
        }) (still-aged (makes (of_sender call)) t same none))

    pub restart-call : (stream : ℕ) (new : Transmission) → reset_refusal stream st.ran.session.sending.sender ≡ None
        → new ≡ reset_on stream st.ran.session.sending.sender → P (of_sending (resets stream))
        → Reach 0 st new st.ran.session.receiving.receiver st.ran.session.written st.ran.session.receiving.read hs
    restart-call stream new taken m p =
        let l = st.ran.session.sending in
        let t : Session = record st.ran.session {
          sending = record { sender = new; written = l.written + 0; released = l.released + 0; taken_back = l.taken_back + 0 };
        } in
        let f : SenderDoes (resets stream) st.ran.session t = record {
          handed = tt;
          step = record { sender = m; written = refl; released = refl; taken_back = refl };
          exact = tt;
          accepted = taken;
          after = refl;
        } in
        let same = ap (λ (u : Transmission). next-of u) m in
        let waits = ap (λ (u : Transmission). waiting_in u.flight) m in
        let u = uses-none 0 l.sender.flight new.flight (next-small st) same (omega (arith, waits)) in
        reach-of 0 st t hs
        (one-by 0 st (of_sending (resets stream)) t hs f (reset-allows st stream t f) (p, tt) u (still-aged (of_sending (resets stream)) t same refl))

  -- ## A SACK

  module _ (st : Long) (hs : List Aged) (aged : hs ≡ ages-of st) where
    unrefused : (k : Sack) (back : List TakenBack) (gone : List Released) (new : Transmission)
        → TakesBackAndSack k back gone st.ran.session.sending.sender new → sack_refusal k st.ran.session.sending.sender.flight ≡ None
    unrefused k back gone new h =
        let t = st.ran.session.sending.sender in
        let cs = t.flight.queue.inflight.chunks in
        let long = as-long (restored (back_by k t.flight t.kept) cs) cs (restored-tsns (back_by k t.flight t.kept) cs) in
        let taken : sack_refusal k (after_take_back k t).flight ≡ None = h.accepted in
        subst (λ (n : ℕ). (if is_outdated k t.flight then None else (
        if nat_lt n (count_acked k t.flight) then Some InflightQueueTsnPop
        else (if list_all (is_within (n - count_acked k t.flight)) k.gap_ack_blocks then None else Some TsnRequestNotExist))) ≡ None) long taken

    -- what comes back is not refused
    comes-back : (k : Sack) (back : List TakenBack) (gone : List Released) (new : Transmission)
        → TakesBackAndSack k back gone st.ran.session.sending.sender new → take_back_refusal k st.ran.session.sending.sender ≡ None
    comes-back k back gone new h =
        let b = (beside-of st).goes in
        let x = b.shadow in
        let t = st.ran.session.sending.sender in
        let all : IsAccounted b.other = run-accounted st.ran.tsn b.other b.plays.ran in
        let held : held_by_sender b.other.sending.sender ≡ total_bytes (with_inflight t.flight.queue x.chunks) = ap held_by_sender x.sender in
        let before : bytes_written b.other ≡ bytes_written st.ran.session = ap bytes_of x.written in
        let short = st.short in
        back-fits k t x.chunks x.like (omega (arith, all, held, before, short)) (unrefused k back gone new h)

    -- what the SACK no longer reports comes back; then it may be taken
    pub record TakenBackTo (k : Sack) (gone : List Released) (new : Transmission) : Type 0 where
      pub reach : Reach 0 st (after_take_back k st.ran.session.sending.sender) st.ran.session.receiving.receiver st.ran.session.written
          st.ran.session.receiving.read hs
      pub follows : SenderFollows (takes_sack k gone) reach.next.ran.session (sender_after (takes_sack k gone) reach.next.ran.session new)
      pub makes' : SenderMakes (takes_sack k gone) reach.next.ran.session.sending.sender new

    pub take-back : (k : Sack) (back : List TakenBack) (gone : List Released) (new : Transmission)
        → TakesBackAndSack k back gone st.ran.session.sending.sender new → Contains st.ran.session.sacks k → TakenBackTo k gone new
    take-back k back gone new h handed =
        let t = st.ran.session.sending.sender in
        let x = (beside-of st).goes.shadow in
        let more = back-more k t x.chunks x.like in
        let same = ap bytes_back h.returned in
        let all = h.bytes in
        let v = after_return k back st.ran.session in
        let f : SenderDoes (takes_back k back) st.ran.session v = record {
          handed = handed;
          step = record { sender = omega (arith, more, same); written = omega arith; released = omega arith; taken_back = refl };
          exact = refl;
          accepted = (comes-back k back gone new h, h.returned);
          after = refl;
        } in
        let u = uses-none 0 t.flight (after_take_back k t).flight (next-small st) refl (omega arith) in
        let a = reach-of 0 st v hs (one-by 0 st (of_sending (takes_back k back)) v hs f (back-allows st k back v f) tt u aged) in
        let m : SenderMakes (takes_sack k gone) (after_take_back k t) new = (omega (arith, more, same, all), (h.exact, (h.accepted, h.answered))) in
        let n = subst (λ (w : Transmission). SenderMakes (takes_sack k gone) w new) (sym a.sends) m in
        record { reach = a; follows = sender-follows (takes_sack k gone) a.next.ran.session new n (a.later.sacks k handed); makes' = n }

  module _ (st : Long) (hs : List Aged) (aged : hs ≡ ages-of st) where
    -- a SACK without gap ack blocks, or behind what comes back by it
    pub pass-call : (k : Sack) (gone : List Released) (new : Transmission) → SenderMakes (takes_sack k gone) st.ran.session.sending.sender new
        → Contains st.ran.session.sacks k → at_or_before k.cumulative_tsn_ack st.ran.session.receiving.receiver.cumulative_tsn ≡ true
        → Reach 0 st new st.ran.session.receiving.receiver st.ran.session.written st.ran.session.receiving.read hs
    pass-call k gone new m handed recent =
        let v = sender_after (takes_sack k gone) st.ran.session new in
        let g : SenderFollows (takes_sack k gone) st.ran.session v = sender-follows (takes_sack k gone) st.ran.session new m handed in
        reach-of 0 st v hs
        (send-one st hs aged (takes_sack k gone) new hs m handed (sack-allows st k gone v g recent)
        (still-aged st hs aged (makes (of_sender (takes_sack k gone))) v (sack-next st k gone v g) refl))

  pub hear-sack : (st : Long) (hs : List Aged) (aged : hs ≡ ages-of st) (k : Sack) (back : List TakenBack) (gone : List Released) (new : Transmission)
      → TakesBackAndSack k back gone st.ran.session.sending.sender new → Contains st.ran.session.sacks k
      → at_or_before k.cumulative_tsn_ack st.ran.session.receiving.receiver.cumulative_tsn ≡ true
      → Reach 0 st new st.ran.session.receiving.receiver st.ran.session.written st.ran.session.receiving.read hs
  hear-sack st hs aged k back gone new h handed recent =
      let x = take-back st hs aged k back gone new h handed in
      let a = x.reach in
      let now = subst (λ (r : Reception). at_or_before k.cumulative_tsn_ack r.cumulative_tsn ≡ true) (sym a.receives) recent in
      let b = pass-call a.next hs a.aged k gone new x.makes' (a.later.sacks k handed) now in
      let first = a.given in
      let second = b.given in
      record {
        next = b.next;
        sends = b.sends;
        receives = b.receives ∙ a.receives;
        written = b.written ∙ a.written;
        read = b.read ∙ a.read;
        aged = b.aged;
        given = omega (arith, first, second);
        later = later-then st a.next b.next a.later b.later;
      }

  -- ## What is reported

  pub record ReportedTo (st : Long) (ks : List Sack) (new : Reception) (hs : List Aged) : Type 0 where
    pub reach : Reach 0 st st.ran.session.sending.sender new st.ran.session.written st.ran.session.receiving.read hs
    pub own : (k : Sack) → Contains ks k → IsThere reach.next.ran.session k

  pub there-later : (x y : Long) → Later x y → (k : Sack) → IsThere x.ran.session k → IsThere y.ran.session k
  there-later x y l k h = record { own = l.sacks k h.own; plain = l.sacks (without_blocks k.cumulative_tsn_ack) h.plain }

  -- before it the receiver makes a SACK without gap ack blocks, which changes nothing
  report-one : (c : ReceiverCall) (new : Reception) (st : Long) (hs : List Aged) → hs ≡ ages-of st → AcksBy c st.ran.session.receiving.receiver new
      → ReportedTo st (reported_by c st.ran.session.receiving.receiver) new hs
  report-one forgets new st hs aged m =
      record { reach = receive-call st hs aged forgets new m.1 tt tt tt tt; own = λ k c. absurd (contains-none k c) }
  report-one (makes_sack credit bytes) new st hs aged m =
      let r = st.ran.session.receiving.receiver in
      let o = receive-one st hs aged (makes_sack 0 16) r (refl, tt) tt tt tt tt in
      let x = reach-of 0 st (receiver_after (makes_sack 0 16) st.ran.session r) hs o in
      let n = subst (λ q. ReceiverMakes (makes_sack credit bytes) q new) (sym x.receives) m.1 in
      let p = receive-one x.next hs x.aged (makes_sack credit bytes) new n tt tt tt tt in
      let y = reach-of 0 x.next (receiver_after (makes_sack credit bytes) x.next.ran.session new) hs p in
      let plain : Contains x.next.ran.session.sacks (without_blocks r.cumulative_tsn) =
      subst (λ (s : Session). Contains s.sacks (without_blocks r.cumulative_tsn)) (sym o.there) (0, omega arith, refl) in
      let is : y.next.ran.session.sacks ≡ sack_within credit bytes r ∷ x.next.ran.session.sacks =
      ap (λ (s : Session). s.sacks) p.there ∙ ap (λ q. sack_within credit bytes q ∷ x.next.ran.session.sacks) x.receives in
      record {
        reach = record {
          next = y.next;
          sends = y.sends ∙ x.sends;
          receives = y.receives;
          written = y.written ∙ x.written;
          read = y.read ∙ x.read;
          aged = y.aged;
          given = (let first = x.given in let second = y.given in omega (arith, first, second));
          later = later-then st x.next y.next x.later y.later;
        };
        own = λ k c. record {
          own = subst (λ (l : List Sack). Contains l k) (sym is) (Contains-append_left (sack_within credit bytes r ∷ []) x.next.ran.session.sacks k c);
          plain = y.later.sacks (without_blocks k.cumulative_tsn_ack)
              (subst (λ (n : ℕ). Contains x.next.ran.session.sacks (without_blocks n))
              (sym (All-contains (λ (j : Sack). j.cumulative_tsn_ack ≡ r.cumulative_tsn) (sack_within credit bytes r ∷ []) k
              (All-from_recursion (λ (j : Sack). j.cumulative_tsn_ack ≡ r.cumulative_tsn) (sack_within credit bytes r ∷ []) (refl, tt)) c)) plain);
        };
      }
  report-one _ new st hs aged m = absurd (false≢true m.0)

  pub report-each : (cs : List ReceiverCall) (ks : List Sack) (new : Reception) (st : Long) (hs : List Aged) → hs ≡ ages-of st
      → Runs AcksBy reported_by cs ks st.ran.session.receiving.receiver new → ReportedTo st ks new hs
  report-each [] ks new st hs aged r = record {
    reach = subst (λ q. Reach 0 st st.ran.session.sending.sender q st.ran.session.written st.ran.session.receiving.read hs) (sym r.1) (reach-same st hs aged);
    own = λ k c. absurd (contains-none k (subst (λ (l : List Sack). Contains l k) r.0 c));
  }
  report-each (c ∷ cs) ks new st hs aged r =
      let one = report-one c r.mid st hs aged r.made in
      let x = one.reach in
      let rest = report-each cs r.later new x.next hs x.aged (subst (λ q. Runs AcksBy reported_by cs r.later q new) (sym x.receives) r.rest) in
      let g = rest.reach in
      record {
        reach = record {
          next = g.next;
          sends = g.sends ∙ x.sends;
          receives = g.receives;
          written = g.written ∙ x.written;
          read = g.read ∙ x.read;
          aged = g.aged;
          given = (let first = x.given in let second = g.given in omega (arith, first, second));
          later = later-then st x.next g.next x.later g.later;
        };
        own = λ k h.
            either (rest.own k)
            (λ (b : Contains (reported_by c st.ran.session.receiving.receiver) k). there-later x.next g.next g.later k (one.own k b))
            (Contains-append_cases r.later (reported_by c st.ran.session.receiving.receiver) k (subst (λ (l : List Sack). Contains l k) r.order h));
      }

  -- ## What is sent

  pub record SentTo (st : Long) (ms : List Made) (new : Transmission) (hs : List Aged) : Type 0 where
    pub reach : Reach 0 st new st.ran.session.receiving.receiver st.ran.session.written st.ran.session.receiving.read hs
    pub own : (m : Made) → Contains ms m → Contains reach.next.ran.session.made m

  new-same : (c : SenderCall) (s : Session) → new_by c s.sending.sender ≡ new_chunks (of_sender c) s
  new-same (outgoing.sends now) s = refl
  new-same (outgoing.forwards tsn f) s = refl
  new-same (outgoing.forwards_within bytes f) s = refl
  new-same c s = refl

  pub none-recent : (c : SenderCall) (s : Session) → is_sending c ≡ true → IsRecent (of_sender c) s
  none-recent (takes_sack k gone) s e = absurd (false≢true e)
  none-recent c s e = tt

  -- after a call by which the sender sends
  sent-aged : (c : SenderCall) (t mid : Transmission) (st : Long) (hs : List Aged) → hs ≡ ages-of st → st.ran.session.sending.sender ≡ t
      → map (λ m. record { chunk = m; age = 1 }) (new_by c t) ++ map (older (distance (next-of t) (next-of mid))) hs
      ≡ aged_any (makes (of_sender c)) st.ran.session (sender_after c st.ran.session mid) (ages-of st)
  sent-aged c t mid st hs aged is =
      let s = st.ran.session in
      ap (λ (u : Transmission). map (λ m. record { chunk = m; age = 1 }) (new_by c u) ++ map (older (distance (next-of u) (next-of mid))) hs) (sym is)
      ∙ ap (λ (xs : List Made). map (λ m. record { chunk = m; age = 1 }) xs ++ map (older (distance (next-of s.sending.sender) (next-of mid))) hs)
      (new-same c s)
      ∙ ap (λ (xs : List Aged). map (λ m. record { chunk = m; age = 1 }) (new_chunks (of_sender c) s)
      ++ map (older (distance (next-of s.sending.sender) (next-of mid))) xs) aged

  pub send-each : (cs : List SenderCall) (ms : List Made) (t new : Transmission) (st : Long) (hs : List Aged) → hs ≡ ages-of st
      → st.ran.session.sending.sender ≡ t → (r : Runs SendsBy made_by cs ms t new) → length new.flight.queue.inflight.chunks < 2 ^ 31
      → ((stream : ℕ) → AreBefore (next-of new) (fragments_held stream st.ran.session.receiving.receiver))
      → SentTo st ms new (aged_over hs cs ms t new r)
  send-each [] ms t new st hs aged is r few free = record {
    reach = subst (λ u. Reach 0 st u st.ran.session.receiving.receiver st.ran.session.written st.ran.session.receiving.read hs) (is ∙ sym r.1)
        (reach-same st hs aged);
    own = λ m c. absurd (contains-none m (subst (λ (l : List Made). Contains l m) r.0 c));
  }
  send-each (c ∷ cs) ms t new st hs aged is r few free =
      let s = st.ran.session in
      let small = subst (λ (u : Transmission). next-of u < 2 ^ 32) is (next-small st) in
      let up = rises-by c t r.mid small r.made in
      let first = up.next in
      let on = rises-each cs r.later r.mid new (omega (arith, first)) r.rest in
      let long = on.long in
      let given = distance (next-of t) (next-of r.mid) in
      let gs = map (λ m. record { chunk = m; age = 1 }) (new_by c t) ++ map (older given) hs in
      let older' = sent-aged c t r.mid st hs aged is in
      let none = none-written c s.written r.made.0 in
      let cut = none-cut c s.sending.sender r.made.0 in
      let o = send-one st hs aged c r.mid gs (subst (λ u. SenderMakes c u r.mid) (sym is) r.made.1) (none_taken c s r.made.0) (record {
        recent = none-recent c s r.made.0;
        flying = omega (arith, few, long);
        young = tt;
        holds = λ stream. all-between t.flight r.mid.flight new.flight up on few (fragments_held stream s.receiving.receiver)
            (subst (λ (u : Transmission). AreBefore (next-of u) (fragments_held stream s.receiving.receiver)) is (holds-of st stream)) (free stream);
        passed = tt;
        short = subst (λ (ws : List Write). bytes_of ws < 2 ^ 64) (sym none) st.short;
      }) older' in
      let x = reach-of (fragments_by c s.sending.sender) st (sender_after c s r.mid) gs o in
      let rest = send-each cs r.later r.mid new x.next gs x.aged x.sends r.rest few
      (λ stream. subst (λ (q : Reception). AreBefore (next-of new) (fragments_held stream q)) (sym x.receives) (free stream)) in
      let g = rest.reach in
      let made : x.next.ran.session.made ≡ made_by c s.sending.sender ++ s.made =
      ap (λ (y : Session). y.made) o.there ∙ made_more c s.sending.sender s.made r.made.0 in
      record {
        reach = record {
          next = g.next;
          sends = g.sends;
          receives = g.receives ∙ x.receives;
          written = g.written ∙ x.written ∙ none;
          read = g.read ∙ x.read;
          aged = g.aged;
          given = (let first = x.given in let second = g.given in omega (arith, first, second, cut));
          later = later-then st x.next g.next x.later g.later;
        };
        own = λ m h.
            either (rest.own m)
            (λ (b : Contains (made_by c t) m).
            g.later.made m
            (subst (λ (l : List Made). Contains l m) (sym made)
            (Contains-append_left (made_by c s.sending.sender) s.made m (subst (λ (u : Transmission). Contains (made_by c u) m) (sym is) b))))
            (Contains-append_cases r.later (made_by c t) m (subst (λ (l : List Made). Contains l m) r.order h));
      }
