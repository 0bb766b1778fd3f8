-- Two associations stand in two sessions in which nothing is old, one for each way.
use Rattle.std.proofs.Common.{◌≡◌, ◌+◌, ◌≤◌, ◌<◌, ◌^◌, ℕ, Bool, true, false, List, [], ◌∷◌, Option, Some, None, refl, ap, sym, subst, ◌∙◌, arith}
use Rattle.std.proofs.lemmas.Bool.{false≢true}
use Rattle.std.proofs.lemmas.List.Elements.{All-contains, All-from_recursion, Contains-append_cases}
use Rattle.std.specs.Prelude.{Contains, if◌then◌else◌}
use Rattle.sctp_association.proofs.Delivered.{carries-only, of-call}
use Rattle.sctp_association.proofs.Hosts.{Fits, more-bytes, none-reported}
use Rattle.sctp_association.proofs.HostSteps.{IsThere, Only, contains-none, either}
use Rattle.sctp_association.proofs.Long.{Long, ages-of, begins as long-begins, near-of, used-of}
use Rattle.sctp_association.proofs.LongArrivals.{Led, Sent, led-by, led-same, sent-by, sent-same, take-each}
use Rattle.sctp_association.proofs.LongSteps.{Later, ask-call, receive-call}
use Rattle.sctp_association.proofs.LongSteps.{report-each, send-each, there-later}
use Rattle.sctp_association.proofs.Tsns.{waiting_in}
use Rattle.sctp_association.proofs.Raises.{AreBefore, ask-long, ask-next}
use Rattle.sctp_association.specs.Arrivals.{halves}
use Rattle.sctp_association.specs.Hosts.{Act, Acts, AreMovesByRule, Asks, Handles, Host, Hosts, IsActByRule, IsFit}
use Rattle.sctp_association.specs.Hosts.{IsReceiver, Move, MovesTo, Polls, ReadsOn, Way, asks, bytes_of, first_host, fragments_by, handles}
use Rattle.sctp_association.specs.Hosts.{hosts, is_asking, one_acts, other_acts, polls, reads_on}
use Rattle.sctp_association.specs.Packets.{IsWritten}
use Rattle.sctp_association.specs.Runs.{AcksBy, ReportsIn, Runs, reported_by}
use Rattle.sctp_association.specs.Ages.{AreYoungMoves, HoldsYoung, IsBounded, IsBoundedBy, IsYoungCall, aged_by, aged_over}
use Rattle.sctp_data.specs.SelectiveAck.{Sack}
use Rattle.sctp_delivery.specs.EveryCall.{AnyCall}
use Rattle.sctp_delivery.specs.Complete.{fragments_held}
use Rattle.sctp_delivery.specs.ReceiverCalls as incoming
use Rattle.sctp_delivery.specs.ReceiverCalls.{ReceiverMakes}
use Rattle.sctp_delivery.specs.Recent.{new_chunks}
use Rattle.sctp_delivery.specs.Recent.{Aged, IsRecent}
use Rattle.sctp_delivery.specs.SenderCalls as outgoing
use Rattle.sctp_delivery.specs.SenderCalls.{Made, SenderCall, SenderMakes, TakesBackAndSack, Write, data_chunk, forward_tsn, written_after}
use Rattle.sctp_delivery.specs.Session.{Session, of_sender}
use Rattle.sctp_receiver.specs.Receiver.{Reception, after_read, message_on}
use Rattle.sctp_receiver.specs.ReceiverRuns as runs
use Rattle.sctp_receiver.specs.ReceiverRuns.{Message, messages_after, with_message}
use Rattle.sctp_sender.specs.declared.sender.Reported.TheVariants.{Keep}

-- ## Two associations

-- the sender of the one and the receiver of the other stand there, and the one made these chunks
pub record IsIn (P : AnyCall → Type 0) (w : Way) (a b : Host) (ages : List Aged) (st : Long) : Type 0 where
  pub sends : st.ran.session.sending.sender ≡ a.sender
  pub receives : IsReceiver w b.receiver st.ran.session.receiving.receiver
  pub written : st.ran.session.written ≡ a.written
  pub read : st.ran.session.receiving.read ≡ b.read
  pub given : used-of st ≤ a.fragments
  pub only : Only P st.ran.calls
  pub aged : ages ≡ ages-of st

-- the datagram is of what was made in the one session and reported in the other
pub record WasPolled (forth back : Long) (d : List ℕ) : Type 0 where
  pub ms : List Made
  pub ks : List Sack
  pub written : IsWritten ms ks d
  pub made : (m : Made) → Contains ms m → Contains forth.ran.session.made m
  pub sacks : (k : Sack) → Contains ks k → IsThere back.ran.session k

polled-later : (P Q : AnyCall → Type 0) (f b g c : Long) → Later P f g → Later Q b c → (d : List ℕ) → WasPolled f b d → WasPolled g c d
polled-later P Q f b g c m n d h = record {
  ms = h.ms;
  ks = h.ks;
  written = h.written;
  made = λ x y. m.made x (h.made x y);
  sacks = λ k y. there-later Q b c n k (h.sacks k y);
}

-- P of the session forth, and Q of that back
pub record Joined (P Q : AnyCall → Type 0) (f b : Way) (ones others : List Aged) (one other : Host) : Type 0 where
  pub forth : Long
  pub back : Long
  pub goes : IsIn P f one other ones forth
  pub comes : IsIn Q b other one others back
  pub one-sent : (d : List ℕ) → Contains one.sent d → WasPolled forth back d
  pub other-sent : (d : List ℕ) → Contains other.sent d → WasPolled back forth d

pub turned : (P Q : AnyCall → Type 0) (f b : Way) (ones others : List Aged) (x z : Host) → Joined P Q f b ones others x z
    → Joined Q P b f others ones z x
turned P Q f b ones others x z j =
    record { forth = j.back; back = j.forth; goes = j.comes; comes = j.goes; one-sent = j.other-sent; other-sent = j.one-sent }

pub asked-recent : (call : SenderCall) (s : Session) → is_asking call ≡ true → IsRecent (of_sender call) s
asked-recent (outgoing.takes_sack k gone) s e = absurd (false≢true e)
asked-recent call s e = tt

none-new : (call : SenderCall) (s : Session) → is_asking call ≡ true → new_chunks (of_sender call) s ≡ []
none-new (outgoing.sends now) s e = absurd (false≢true e)
none-new (outgoing.forwards tsn f) s e = absurd (false≢true e)
none-new (outgoing.forwards_within bytes f) s e = absurd (false≢true e)
none-new call s e = refl

-- what the receiver of a host holds is what that of the session does
holds-in : (w : Way) (n : ℕ) (o : Option Reception) (r : Reception) → HoldsYoung n o → IsReceiver w o r → (stream : ℕ)
    → AreBefore n (fragments_held stream r)
holds-in w n None r h is stream = subst (λ (q : Reception). AreBefore n (fragments_held stream q)) (sym is) refl
holds-in w n (Some s) r h is stream = subst (λ (q : Reception). AreBefore n (fragments_held stream q)) (sym is) (h stream)

module _ (P Q : AnyCall → Type 0) (f b : Way) (ones others : List Aged) (x y z : Host) (j : Joined P Q f b ones others x z) where
  abbrev there : Reception
  there = j.forth.ran.session.receiving.receiver

  joins : (n : ℕ) (hs : List Aged) (ws : List Write) (rs : List Message) (s : Sent P b n j.forth ws y.sender hs) (k : Led Q b j.back y.receiver rs others)
      → ws ≡ y.written → rs ≡ y.read → used-of j.forth + n ≤ y.fragments → ((d : List ℕ) → Contains y.sent d → WasPolled s.next k.next d)
      → Joined P Q f b hs others y z
  joins n hs ws rs s k written read cut sent = record {
    forth = s.next;
    back = k.next;
    goes = record {
      sends = s.sends;
      receives = subst (λ q. IsReceiver f z.receiver q) (sym s.receives) j.goes.receives;
      written = s.written ∙ written;
      read = s.read ∙ j.goes.read;
      given = (let given = s.given in omega (arith, given, cut));
      only = s.later.only j.goes.only;
      aged = s.aged;
    };
    comes = record {
      sends = k.sends ∙ j.comes.sends;
      receives = k.receives;
      written = k.written ∙ j.comes.written;
      read = k.read ∙ read;
      given = (let given = k.given in let before = j.comes.given in omega (arith, given, before));
      only = k.later.only j.comes.only;
      aged = k.aged;
    };
    one-sent = sent;
    other-sent = λ d c. polled-later Q P j.back j.forth k.next s.next k.later s.later d (j.other-sent d c);
  }

  -- what was sent before is there still
  sent-still : (s g : Long) → Later P j.forth s → Later Q j.back g → y.sent ≡ x.sent → (d : List ℕ) → Contains y.sent d → WasPolled s g d
  sent-still s g m n same d c =
      polled-later P Q j.forth j.back s g m n d (j.one-sent d (subst (λ (l : List (List ℕ)). Contains l d) same c))

  led-still : y.receiver ≡ x.receiver → Led Q b j.back y.receiver j.back.ran.session.receiving.read others
  led-still same =
      led-same Q b j.back y.receiver others (subst (λ o. IsReceiver b o j.back.ran.session.receiving.receiver) (sym same) j.comes.receives) j.comes.aged

  pub by-asks : (call : SenderCall) → Asks call x y → bytes_of y.written < 2 ^ 64
      → Joined P Q f b ones others y z
  by-asks call h short =
      let t = j.forth.ran.session.sending.sender in
      let m = subst (λ u. SenderMakes call u y.sender) (sym j.goes.sends) h.makes in
      let same = ap (written_after call) j.goes.written ∙ sym (ap (λ (i : Host). i.written) h.after) in
      let long = ask-long call t y.sender h.asking m in
      let few = (near-of j.forth).few in
      let s = sent-by P b (fragments_by call t) j.forth y.sender (written_after call j.forth.ran.session.written) ones
      (ask-call P j.forth ones j.goes.aged call y.sender m (none-reported call j.forth.ran.session h.asking)
      (asked-recent call j.forth.ran.session h.asking) (ask-next call t y.sender h.asking m) (none-new call j.forth.ran.session h.asking)
      (omega (arith, long, few))
      (subst (λ (ws : List Write). bytes_of ws < 2 ^ 64) (sym same) short)) in
      let k = led-still (ap (λ (i : Host). i.receiver) h.after) in
      let cut = ap (λ (i : Host). i.fragments) h.after in
      let cuts = ap (fragments_by call) j.goes.sends in
      let before = j.goes.given in
      joins (fragments_by call t) ones (written_after call j.forth.ran.session.written) j.back.ran.session.receiving.read s k same
      (j.comes.read ∙ sym (ap (λ (i : Host). i.read) h.after)) (omega (arith, cut, before, cuts))
      (sent-still s.next k.next s.later k.later (ap (λ (i : Host). i.sent) h.after))

  sent-unchanged : y.sender ≡ x.sender → Sent P b 0 j.forth j.forth.ran.session.written y.sender ones
  sent-unchanged same = sent-same P b j.forth y.sender ones (j.goes.sends ∙ sym same) j.goes.aged

  pub by-reads : (stream : ℕ) → ReadsOn stream x y → Joined P Q f b ones others y z
  by-reads stream h =
      let back = j.back.ran.session in
      let is : back.receiving.receiver ≡ h.receiver = subst (λ o. IsReceiver b o back.receiving.receiver) h.there j.comes.receives in
      let rs = messages_after (runs.reads stream) back.receiving.receiver back.receiving.read in
      let k = led-by Q b j.back (after_read stream h.receiver) rs others
      (receive-call Q j.back others j.comes.aged (incoming.reads stream) (after_read stream h.receiver)
      (subst (λ q. ReceiverMakes (incoming.reads stream) q (after_read stream h.receiver)) (sym is) (refl, h.is)) tt tt tt tt) in
      let m : Led Q b j.back y.receiver rs others =
      subst (λ o. Led Q b j.back o rs others) (sym (ap (λ (i : Host). i.receiver) h.after)) k in
      let s = sent-unchanged (ap (λ (i : Host). i.sender) h.after) in
      let cut = ap (λ (i : Host). i.fragments) h.after in
      let before = j.goes.given in
      joins 0 ones j.forth.ran.session.written rs s m (j.goes.written ∙ sym (ap (λ (i : Host). i.written) h.after))
      (ap (λ q. with_message stream (message_on stream q) back.receiving.read) is
      ∙ ap (λ l. with_message stream (message_on stream h.receiver) l) j.comes.read ∙ sym (ap (λ (i : Host). i.read) h.after)) (omega (arith, cut, before))
      (sent-still s.next m.next s.later m.later (ap (λ (i : Host). i.sent) h.after))

  -- the receiver reports, where there is one
  record ReportedIn (ks : List Sack) (new : Option Reception) : Type 0 where
    led : Led Q b j.back new j.back.ran.session.receiving.read others
    own : (k : Sack) → Contains ks k → IsThere led.next.ran.session k

  report-in : (ks : List Sack) (o p : Option Reception) → ReportsIn ks o p → IsReceiver b o j.back.ran.session.receiving.receiver → ReportedIn ks p
  report-in ks None None h is = record {
    led = led-same Q b j.back None others is j.comes.aged;
    own = λ k c. absurd (contains-none k (subst (λ (l : List Sack). Contains l k) h c));
  }
  report-in ks (Some r) (Some s) h is =
      let g = report-each Q h.calls ks s j.back others j.comes.aged (subst (λ q. Runs AcksBy reported_by h.calls ks q s) (sym is) h.run) in
      record { led = led-by Q b j.back s j.back.ran.session.receiving.read others g.reach; own = g.own }
  report-in ks None (Some s) h is = absurd h
  report-in ks (Some r) None h is = absurd h

  pub by-polls : (is_sent : Bool) (datagram : List ℕ) (h : Polls is_sent datagram x y) → IsBounded y z
      → Joined P Q f b (aged_over ones h.transmits.sent.calls h.transmits.made x.sender y.sender h.transmits.sent.run) others y z
  by-polls is_sent datagram h bounded =
      let t = h.transmits in
      let hs = aged_over ones t.sent.calls t.made x.sender y.sender t.sent.run in
      let g = send-each P t.sent.calls t.made x.sender y.sender j.forth ones j.goes.aged j.goes.sends t.sent.run bounded.0
      (holds-in f y.sender.flight.next_tsn z.receiver j.forth.ran.session.receiving.receiver bounded.1 j.goes.receives) in
      let s = sent-by P b 0 j.forth y.sender j.forth.ran.session.written hs g.reach in
      let k = report-in t.sacks x.receiver y.receiver t.reported j.comes.receives in
      let new : is_sent ≡ true → WasPolled s.next k.led.next datagram = λ e. record {
        ms = t.made;
        ks = t.sacks;
        written = t.written e;
        made = g.own;
        sacks = k.own;
      } in
      let cut = ap (λ (i : Host). i.fragments) h.after in
      let before = j.goes.given in
      joins 0 hs j.forth.ran.session.written j.back.ran.session.receiving.read s k.led
      (j.goes.written ∙ sym (ap (λ (i : Host). i.written) h.after)) (j.comes.read ∙ sym (ap (λ (i : Host). i.read) h.after)) (omega (arith, cut, before))
      (λ d c. by is_sent s.next k.led.next s.later k.led.later new d (subst (λ (l : List (List ℕ)). Contains l d) (ap (λ (i : Host). i.sent) h.after) c))
    where
      by : (e : Bool) (s g : Long) → Later P j.forth s → Later Q j.back g → (e ≡ true → WasPolled s g datagram) → (d : List ℕ)
          → Contains (if e then datagram ∷ x.sent else x.sent) d → WasPolled s g d
      by true s g m n new d c =
          either (All-contains (WasPolled s g) (datagram ∷ []) d (All-from_recursion (WasPolled s g) (datagram ∷ []) (new refl, tt)))
          (λ (old : Contains x.sent d). polled-later P Q j.forth j.back s g m n d (j.one-sent d old)) (Contains-append_cases (datagram ∷ []) x.sent d c)
      by false s g m n new d c = polled-later P Q j.forth j.back s g m n d (j.one-sent d c)

  pub by-handles : (datagram : List ℕ) (h : Handles z.sent datagram x y) → IsActByRule (Fits P Q b) z.sent (handles datagram) x y h
      → IsActByRule (IsYoungCall f others z) z.sent (handles datagram) x y h → Joined P Q f b ones others y z
  by-handles datagram h fits young =
      let p = j.other-sent datagram h.handed in
      let c = take-each P Q b f z ones others p.ms p.ks datagram h.arrives.calls (halves x.sender x.receiver) (halves y.sender y.receiver) j.forth j.back
      h.arrives.run fits young (of-call p.ms p.ks datagram (carries-only p.ms p.ks datagram p.written))
      (record {
        sends = j.goes.sends;
        receives = j.comes.receives;
        beyond = j.goes.receives;
        from' = j.comes.sends;
        made = p.made;
        sacks = p.sacks;
        aged = j.goes.aged;
        ages = j.comes.aged;
      }) in
      let cut = ap (λ (i : Host). i.fragments) h.after in
      let before = j.goes.given in
      joins 0 ones j.forth.ran.session.written j.back.ran.session.receiving.read c.sent c.led
      (j.goes.written ∙ sym (ap (λ (i : Host). i.written) h.after)) (j.comes.read ∙ sym (ap (λ (i : Host). i.read) h.after)) (omega (arith, cut, before))
      (sent-still c.sent.next c.led.next c.sent.later c.led.later (ap (λ (i : Host). i.sent) h.after))

-- ## A move

by-act : (P Q : AnyCall → Type 0) (f b : Way) (ones others : List Aged) (act : Act) (x y z : Host) (h : Acts z.sent act x y)
    → IsActByRule (Fits P Q b) z.sent act x y h → IsActByRule (IsYoungCall f others z) z.sent act x y h → IsBoundedBy act y z → bytes_of y.written < 2 ^ 64
    → Joined P Q f b ones others x z → Joined P Q f b (aged_by ones z.sent act x y h) others y z
by-act P Q f b ones others (asks call) x y z h fits young bounded short j = by-asks P Q f b ones others x y z j call h short
by-act P Q f b ones others (reads_on stream) x y z h fits young bounded short j = by-reads P Q f b ones others x y z j stream h
by-act P Q f b ones others (polls is_sent datagram) x y z h fits young bounded short j = by-polls P Q f b ones others x y z j is_sent datagram h bounded
by-act P Q f b ones others (handles datagram) x y z h fits young bounded short j = by-handles P Q f b ones others x y z j datagram h fits young

-- ## What is few in the end was few before

abbrev pub IsShort : Host → Type 0
IsShort h = bytes_of h.written < 2 ^ 64

short-as : (x y : Host) → y.written ≡ x.written → IsShort y → IsShort x
short-as x y same h = subst (λ (ws : List Write). bytes_of ws < 2 ^ 64) same h

short-before : (peer : List (List ℕ)) (act : Act) (x y : Host) → Acts peer act x y → IsShort y → IsShort x
short-before peer (asks call) x y h short =
    let written = ap (λ (i : Host). bytes_of i.written) h.after in
    let more = more-bytes call x.sender x.written h.asking in
    omega (arith, written, more, short)
short-before peer (reads_on stream) x y h short = short-as x y (ap (λ (i : Host). i.written) h.after) short
short-before peer (polls is_sent datagram) x y h short = short-as x y (ap (λ (i : Host). i.written) h.after) short
short-before peer (handles datagram) x y h short = short-as x y (ap (λ (i : Host). i.written) h.after) short

both-short : (ms : List Move) (h new : Hosts) → MovesTo h ms new → IsShort new.one → IsShort new.other → IsShort h.one × IsShort h.other
both-short [] h new r one other = (subst (λ (k : Hosts). IsShort k.one) r one, subst (λ (k : Hosts). IsShort k.other) r other)
both-short (one_acts act ∷ ms) h new r one other =
    let k = both-short ms r.0 new r.1.1 one other in
    (short-before h.other.sent act h.one r.0.one r.1.0.0 k.0, subst IsShort r.1.0.1 k.1)
both-short (other_acts act ∷ ms) h new r one other =
    let k = both-short ms r.0 new r.1.1 one other in
    (subst IsShort r.1.0.1 k.0, short-before h.one.sent act h.other r.0.other r.1.0.0 k.1)

module _ (P Q : AnyCall → Type 0) (f b : Way) where
  -- whatever they made
  pub record JoinedSome (one other : Host) : Type 0 where
    pub ones : List Aged
    pub others : List Aged
    pub joined' : Joined P Q f b ones others one other

  joined : (ms : List Move) (ones others : List Aged) (h new : Hosts) (r : MovesTo h ms new) → AreMovesByRule (Fits P Q b) (Fits Q P f) h ms new r
      → AreYoungMoves f b ones others h ms new r → Joined P Q f b ones others h.one h.other → IsShort new.one → IsShort new.other
      → JoinedSome new.one new.other
  joined [] ones others h new r fits young j one other =
      record { ones = ones; others = others; joined' = subst (λ (k : Hosts). Joined P Q f b ones others k.one k.other) (sym r) j }
  joined (one_acts act ∷ ms) ones others h new r fits young j one other =
      let short = both-short ms r.0 new r.1.1 one other in
      let hs = aged_by ones h.other.sent act h.one r.0.one r.1.0.0 in
      let k = by-act P Q f b ones others act h.one r.0.one h.other r.1.0.0 fits.0 young.0
      (subst (λ z. IsBoundedBy act r.0.one z) r.1.0.1 young.1) short.0 j in
      joined ms hs others r.0 new r.1.1 fits.1 young.2 (subst (λ z. Joined P Q f b hs others r.0.one z) (sym r.1.0.1) k) one other
  joined (other_acts act ∷ ms) ones others h new r fits young j one other =
      let short = both-short ms r.0 new r.1.1 one other in
      let hs = aged_by others h.one.sent act h.other r.0.other r.1.0.0 in
      let k = by-act Q P b f others ones act h.other r.0.other h.one r.1.0.0 fits.0 young.0
      (subst (λ z. IsBoundedBy act r.0.other z) r.1.0.1 young.1) short.1 (turned P Q f b ones others h.one h.other j) in
      joined ms ones hs r.0 new r.1.1 fits.1 young.2
      (subst (λ z. Joined P Q f b ones hs z r.0.other) (sym r.1.0.1) (turned Q P b f hs ones r.0.other h.one k)) one other

-- ## From `new` on

pub begun : (P Q : AnyCall → Type 0) (f b : Way) → IsFit f → IsFit b → Joined P Q f b [] [] (first_host f) (first_host b)
begun P Q f b fit other =
    let x = long-begins Keep f.tsn f.size f.max f.most (Some f.limits) fit.0 fit.1 in
    let y = long-begins Keep b.tsn b.size b.max b.most (Some b.limits) other.0 other.1 in
    record {
      forth = x.st;
      back = y.st;
      goes = record {
        sends = ap (λ (s : Session). s.sending.sender) x.there;
        receives = ap (λ (s : Session). s.receiving.receiver) x.there;
        written = ap (λ (s : Session). s.written) x.there;
        read = ap (λ (s : Session). s.receiving.read) x.there;
        given = (let none = x.given in let waits = ap (λ (s : Session). waiting_in s.sending.sender.flight) x.there in omega (arith, none, waits));
        only = subst (Only P) (sym x.calls) tt;
        aged = x.ages;
      };
      comes = record {
        sends = ap (λ (s : Session). s.sending.sender) y.there;
        receives = ap (λ (s : Session). s.receiving.receiver) y.there;
        written = ap (λ (s : Session). s.written) y.there;
        read = ap (λ (s : Session). s.receiving.read) y.there;
        given = (let none = y.given in let waits = ap (λ (s : Session). waiting_in s.sending.sender.flight) y.there in omega (arith, none, waits));
        only = subst (Only Q) (sym y.calls) tt;
        aged = y.ages;
      };
      one-sent = λ d c. absurd (contains-none d c);
      other-sent = λ d c. absurd (contains-none d c);
    }

pub each-joined : (P Q : AnyCall → Type 0) (f b : Way) (moves : List Move) (new : Hosts) (run : MovesTo (hosts (first_host f) (first_host b)) moves new)
    → AreMovesByRule (Fits P Q b) (Fits Q P f) (hosts (first_host f) (first_host b)) moves new run
    → AreYoungMoves f b [] [] (hosts (first_host f) (first_host b)) moves new run → IsFit f → IsFit b → IsShort new.one → IsShort new.other
    → JoinedSome P Q f b new.one new.other
each-joined P Q f b moves new run fits young fit other one-short other-short =
    joined P Q f b moves [] [] (hosts (first_host f) (first_host b)) new run fits young (begun P Q f b fit other) one-short other-short
