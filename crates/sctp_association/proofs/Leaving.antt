-- What is due stays due, or leaves.
use Rattle.std.proofs.Common.{◌≡◌, ◌⊎◌, inl, inr, ℕ, ◌+◌, ◌≤◌, ◌<◌, Bool, true, false, List, [], ◌∷◌, ◌++◌, None, Option, Some, refl, ap, sym, subst, ◌∙◌}
use Rattle.std.proofs.Common.{IfSome, append_assoc, arith, is_some, length}
use Rattle.std.proofs.lemmas.Bool.{false≢true}
use Rattle.std.proofs.lemmas.List.Elements.{Contains-append_right}
use Rattle.sctp_association.proofs.Idle.{added_longer, longer_by_chunk}
use Rattle.sctp_association.proofs.Known.{was}
use Rattle.sctp_association.proofs.Offering.{packet_so}
use Rattle.sctp_association.proofs.Others.{at_most_same, params_before}
use Rattle.sctp_association.proofs.Putting.{adds_none, adds_then}
use Rattle.sctp_association.specs.declared.association.Association.{Association}
use Rattle.sctp_association.specs.declared.due.Due.{Due}
use Rattle.sctp_association.specs.declared.due.Report.{Report}
use Rattle.sctp_association.specs.Kept.{IsUnmoved}
use Rattle.sctp_association.specs.Kept.{sack_waits, unknown_in}
use Rattle.sctp_association.specs.Leaving.{acked_of, error_about, stream_error}
use Rattle.sctp_association.specs.Leaving.{AsksNoMore, IsParamOnce, IsReplyOnce, IsSentIn, IsTooLong, IsTooLongIn, Leaves, LeavesInto, Owed, OwesNothingNew}
use Rattle.sctp_association.specs.Leaving.{Reaches, Replies, beats, owed_at, owed_before, owed_of, replies_of, requests_due, responses_due, IsDueOrData}
use Rattle.sctp_association.specs.Packets.{Adds, IsPacketOf, Stands, put_where, sum_of, with_chunks}
use Rattle.sctp_chunks.specs.Wire.{HasEncoding, Wire}
use Rattle.sctp_association.specs.Rows.{owed_by}
use Rattle.sctp_association.specs.Still.{heartbeat_in}
use Rattle.sctp_association.specs.declared.inbound.Inbound.{Inbound}
use Rattle.sctp_association.specs.declared.outbound.Outbound.{Outbound}
use Rattle.sctp_chunks.specs.Wire.{cookie_ack_chunk, cookie_echo_chunk, error_chunk, forward_tsn_chunk, heartbeat_ack_chunk, heartbeat_chunk, data_chunk}
use Rattle.sctp_chunks.specs.Wire.{reconfig_chunk, sack_chunk, shutdown_ack_chunk, shutdown_chunk}
use Rattle.sctp_data.specs.SelectiveAck.{Sack}
use Rattle.sctp_handshake.specs.Endings.{drained_row, on_drained, on_shutdown_asked, shutdown_asked_row}
use Rattle.sctp_handshake.specs.Machines.{Takes}
use Rattle.sctp_handshake.specs.declared.answer.Answer.{Answer}
use Rattle.sctp_handshake.specs.declared.machine.Machine.{Machine}
use Rattle.sctp_handshake.specs.declared.state.State.{State}
use Rattle.sctp_handshake.specs.declared.state.State.TheVariants.{CookieWait, Established, ShutdownAckSent, ShutdownPending, ShutdownReceived, ShutdownSent}
use Rattle.sctp_path.specs.declared.heartbeat.Heartbeat.{Heartbeat}
use Rattle.sctp_path.specs.Timers.{is_due}
use Rattle.sctp_packets.specs.Draft.{Draft, IsDraft, headed}
use Rattle.sctp_packets.specs.declared.packet.CommonHeader.{CommonHeader}
use Rattle.sctp_packets.specs.Packet.{Parts, packet_encoding, padded_encoding}
use Rattle.sctp_params.specs.Param.{Parameter, outgoing_reset_request, reconfig_response}

-- ## A chunk that was put

pub stands_put : (k : Bool) (w : Wire) (x y : List ℕ) → Adds (put_where k w) x y → k ≡ true → Stands x y w
stands_put k w x y added e = record { before = []; behind = []; added = subst (λ k. Adds (put_where k w) x y) e added }

pub stands_first : (vs : List Wire) (x y z : List ℕ) (w : Wire) → Stands x y w → Adds vs y z → Stands x z w
stands_first vs x y z w s more = record {
  before = s.before;
  behind = s.behind ++ vs;
  added = subst (λ l. Adds l x z) (append_assoc s.before (w ∷ s.behind) vs) (adds_then (s.before ++ w ∷ s.behind) vs x y z s.added more);
}

pub stands_later : (ws : List Wire) (x y z : List ℕ) (w : Wire) → Adds ws x y → Stands y z w → Stands x z w
stands_later ws x y z w first s = record {
  before = ws ++ s.before;
  behind = s.behind;
  added = subst (λ l. Adds l x z) (sym (append_assoc ws s.before (w ∷ s.behind))) (adds_then ws (s.before ++ w ∷ s.behind) x y z first s.added);
}

-- the packet is longer than its header
pub stands_longer : (p : Parts) (x y : List ℕ) (w : Wire) → IsDraft p x → Stands x y w → 12 < length y
stands_longer p x y w draft s = longer_by_chunk s.before s.behind w p y (s.added.draft p draft)

-- a chunk that was put, or for which a whole packet has no room
pub left_or_too_long : (k : Bool) (w v : Wire) (old new : Draft) → v ≡ w → Adds (put_where k v) old.bytes new.bytes
    → (HasEncoding v → 12 ≤ length old.bytes → length old.bytes + length (padded_encoding v) ≤ old.limit → k ≡ true) → (k ≡ false → new ≡ old)
    → (k ≡ true) ⊎ ((k ≡ false) × (length new.bytes ≤ 12)) → Stands old.bytes new.bytes w ⊎ IsTooLongIn old.limit old.bytes w
left_or_too_long k w v old new is added fits full (inl put) = inl (subst (Stands old.bytes new.bytes) is (stands_put k v old.bytes new.bytes added put))
left_or_too_long k w v old new is added fits full (inr none) = inr (subst (IsTooLongIn old.limit old.bytes) is (λ p draft encoding room.
    let head = (added_longer [] p old.bytes old.bytes (adds_none old.bytes) draft).0 in
    let short : length old.bytes ≤ 12 = subst (λ (d : Draft). length d.bytes ≤ 12) (full none.0) none.1 in
    false≢true (sym none.0 ∙ fits encoding head (omega (arith, short, room)))))

-- ## All replies

or-so : {P Q R : Type 0} → (Q → R) → P ⊎ Q → P ⊎ R
or-so f (inl p) = inl p
or-so f (inr q) = inr (f q)

or-then : {P Q R : Type 0} → (P → R ⊎ Q) → P ⊎ Q → R ⊎ Q
or-then f (inl p) = f p
or-then f (inr q) = inr q

both-so : {P Q R S : Type 0} → (P → R) → (Q → S) → P ⊎ Q → R ⊎ S
both-so f g (inl p) = inl (f p)
both-so f g (inr q) = inr (g q)

-- what is said of the chunks may be less
pub leaves_so : (S T L M : Wire → Type 0) (a b : Replies) → ((w : Wire) → S w → T w) → ((w : Wire) → L w → M w) → Leaves S L a b → Leaves T M a b
leaves_so S T L M a b f g h = record {
  cookie_echo = λ e. or-so (λ s. (s.0, s.1, f _ s.2)) (h.cookie_echo e);
  cookie_ack = λ e. or-so (f _) (h.cookie_ack e);
  shutdown = λ e. or-so (λ s. (s.0, s.1, f _ s.2)) (h.shutdown e);
  shutdown_ack = λ e. or-so (f _) (h.shutdown_ack e);
  heartbeat = λ info e. or-so (both-so (f _) (g _)) (h.heartbeat info e);
  sack = λ e. or-so (λ s. (s.0, s.1, f _ s.2)) (h.sack e);
  report = λ r e. or-so (both-so (f _) (g _)) (h.report r e);
  unknown = λ s e. or-so (both-so (f _) (g _)) (h.unknown s e);
  cookie = h.cookie;
  acked = h.acked;
  limit = h.limit;
}

module _ (T M : Wire → Type 0) where
  pub leaves_same : (a b : Replies) → b ≡ a → Leaves T M a b
  leaves_same a b is = subst (Leaves T M a) (sym is) (record {
    cookie_echo = λ e. inl e;
    cookie_ack = λ e. inl e;
    shutdown = λ e. inl e;
    shutdown_ack = λ e. inl e;
    heartbeat = λ info e. inl e;
    sack = λ e. inl e;
    report = λ r e. inl e;
    unknown = λ s e. inl e;
    cookie = refl;
    acked = refl;
    limit = refl;
  })

  pub leaves_then : (a b c : Replies) → Leaves T M a b → Leaves T M b c → Leaves T M a c
  leaves_then a b c h k = record {
    cookie_echo = λ e. or-then (λ m. or-so (λ s. (s.0, sym h.cookie ∙ s.1, s.2)) (k.cookie_echo m)) (h.cookie_echo e);
    cookie_ack = λ e. or-then k.cookie_ack (h.cookie_ack e);
    shutdown = λ e. or-then (λ m. or-so (λ s. (s.0, sym h.acked ∙ s.1, s.2)) (k.shutdown m)) (h.shutdown e);
    shutdown_ack = λ e. or-then k.shutdown_ack (h.shutdown_ack e);
    heartbeat = λ info e. or-then (k.heartbeat info) (h.heartbeat info e);
    sack = λ e. or-then (λ m. or-so (λ s. (s.0, sym h.acked ∙ s.1, s.2)) (k.sack m)) (h.sack e);
    report = λ r e. or-then (k.report r) (h.report r e);
    unknown = λ s e. or-then (k.unknown s) (h.unknown s e);
    cookie = k.cookie ∙ h.cookie;
    acked = k.acked ∙ h.acked;
    limit = k.limit ∙ h.limit;
  }

-- ## Into a packet

module _ (a b c : Association) (ws vs : List Wire) where
  -- one step behind another
  pub into_then : Adds ws a.draft.bytes b.draft.bytes → Adds vs b.draft.bytes c.draft.bytes → LeavesInto a b → LeavesInto b c → LeavesInto a c
  into_then first next h k =
      let T : Wire → Type 0 = Stands a.draft.bytes c.draft.bytes in
      let M : Wire → Type 0 = IsTooLongIn a.draft.limit a.draft.bytes in
      let early : Leaves T M (replies_of a) (replies_of b) =
      leaves_so (Stands a.draft.bytes b.draft.bytes) T M M (replies_of a) (replies_of b)
      (λ w s. stands_first vs a.draft.bytes b.draft.bytes c.draft.bytes w s next) (λ w m. m) h in
      let late : Leaves T M (replies_of b) (replies_of c) =
      leaves_so (Stands b.draft.bytes c.draft.bytes) T (IsTooLongIn b.draft.limit b.draft.bytes) M (replies_of b) (replies_of c)
      (λ w s. stands_later ws a.draft.bytes b.draft.bytes c.draft.bytes w first s)
      (λ w m p d. subst (λ l. IsTooLong l w) h.limit (m (with_chunks ws p) (first.draft p d))) k in
      leaves_then T M (replies_of a) (replies_of b) (replies_of c) early late

  -- behind a step that leaves what is due as it is, and before one
  pub into_kept : Adds vs b.draft.bytes c.draft.bytes → LeavesInto a b → replies_of c ≡ replies_of b → LeavesInto a c
  into_kept next h is =
      let T : Wire → Type 0 = Stands a.draft.bytes c.draft.bytes in
      let M : Wire → Type 0 = IsTooLongIn a.draft.limit a.draft.bytes in
      leaves_then T M (replies_of a) (replies_of b) (replies_of c)
      (leaves_so (Stands a.draft.bytes b.draft.bytes) T M M (replies_of a) (replies_of b)
      (λ w s. stands_first vs a.draft.bytes b.draft.bytes c.draft.bytes w s next) (λ w m. m) h)
      (leaves_same T M (replies_of b) (replies_of c) is)

-- nothing is due otherwise
pub into_same : (a b : Association) → replies_of b ≡ replies_of a → LeavesInto a b
into_same a b is = leaves_same (Stands a.draft.bytes b.draft.bytes) (IsTooLongIn a.draft.limit a.draft.bytes) (replies_of a) (replies_of b) is

-- a SACK is put, or waits on
pub sack_left : (o : Option Inbound) (i : Inbound) (n : Bool) (S : Sack → Type 0) → o ≡ Some i
    → (is_some i.delay.due ≡ true → (n ≡ true) ⊎ ((s : Sack) × (s.cumulative_tsn_ack ≡ i.receiver.cumulative_tsn) × S s))
    → sack_waits o ≡ true → (n ≡ true) ⊎ ((s : Sack) × (acked_of o ≡ Some s.cumulative_tsn_ack) × S s)
sack_left o i n S is sack e = or-so (λ s. (s.0, ap acked_of is ∙ ap Some (sym s.1), s.2)) (sack (sym (ap sack_waits is) ∙ e))

-- beside the receiving half what is due is the same
pub leaves_beside : (a b : Association) (i j : Inbound) → a.inbound ≡ Some i → b.inbound ≡ Some j → b.due ≡ a.due → b.cookie ≡ a.cookie
    → b.draft.limit ≡ a.draft.limit → j.receiver.cumulative_tsn ≡ i.receiver.cumulative_tsn
    → (is_some i.delay.due ≡ true → (is_some j.delay.due ≡ true)
    ⊎ ((s : Sack) × (s.cumulative_tsn_ack ≡ i.receiver.cumulative_tsn) × Stands a.draft.bytes b.draft.bytes (sack_chunk s)))
    → ((s : ℕ) → i.unknown_stream ≡ Some s → (j.unknown_stream ≡ Some s)
    ⊎ (Stands a.draft.bytes b.draft.bytes (stream_error s) ⊎ IsTooLongIn a.draft.limit a.draft.bytes (stream_error s)))
    → LeavesInto a b
leaves_beside a b i j is after due cookie limit cumulative sack unknown = record {
  cookie_echo = λ e. inl (ap (λ (d : Due). d.cookie_echo) due ∙ e);
  cookie_ack = λ e. inl (ap (λ (d : Due). d.cookie_ack) due ∙ e);
  shutdown = λ e. inl (ap (λ (d : Due). d.shutdown) due ∙ e);
  shutdown_ack = λ e. inl (ap (λ (d : Due). d.shutdown_ack) due ∙ e);
  heartbeat = λ info e. inl (ap (λ (d : Due). d.heartbeat) due ∙ e);
  sack = λ e. both-so (λ w. ap sack_waits after ∙ w) (λ s. (s.0, ap acked_of is ∙ ap Some (sym s.1), s.2)) (sack (sym (ap sack_waits is) ∙ e));
  report = λ r e. inl (ap (λ (d : Due). d.report) due ∙ e);
  unknown = λ s e. both-so (λ w. ap unknown_in after ∙ w) (λ t. t) (unknown s (sym (ap unknown_in is) ∙ e));
  cookie = cookie;
  acked = ap acked_of after ∙ ap Some cumulative ∙ sym (ap acked_of is);
  limit = limit;
}

-- the ERROR that reports is put, or is too long
pub report_leaves : (a : Association) (e : Due) (d : Draft) → e ≡ record a.due { report = e.report } → d.limit ≡ a.draft.limit
    → ((r : Report) → a.due.report ≡ Some r
    → Stands a.draft.bytes d.bytes (error_about r) ⊎ IsTooLongIn a.draft.limit a.draft.bytes (error_about r))
    → LeavesInto a (record a { due = e; draft = d })
report_leaves a e d is limit left = subst (λ (x : Due). LeavesInto a (record a { due = x; draft = d })) (sym is) (record {
  cookie_echo = λ e. inl e;
  cookie_ack = λ e. inl e;
  shutdown = λ e. inl e;
  shutdown_ack = λ e. inl e;
  heartbeat = λ info e. inl e;
  sack = λ e. inl e;
  report = λ r e. inr (left r e);
  unknown = λ s e. inl e;
  cookie = refl;
  acked = refl;
  limit = limit;
})

-- but for the limit of the packet
pub with_limit : (r : Replies) (l : ℕ) → l ≡ r.limit → record r { limit = l } ≡ r
with_limit r l e = ap (λ l. record r { limit = l }) e

-- ## A datagram

-- what stays due before leaves then, or stays
pub stays_leave : (T M : Wire → Type 0) (a b : Replies) → Leaves (λ _. ⊥) (λ _. ⊥) a b → Leaves T M a b
stays_leave T M a b h = leaves_so (λ _. ⊥) T (λ _. ⊥) M a b (λ w h. absurd h) (λ w h. absurd h) h

pub leaves_later : (T : Wire → Type 0) (a b c : Replies) → Leaves (λ _. ⊥) (λ _. ⊥) a b → Leaves T (IsTooLong b.limit) b c
    → Leaves T (IsTooLong a.limit) a c
leaves_later T a b c h k = leaves_then T (IsTooLong a.limit) a b c (stays_leave T (IsTooLong a.limit) a b h)
    (leaves_so T T (IsTooLong b.limit) (IsTooLong a.limit) b c (λ w s. s) (λ w m. subst (λ l. IsTooLong l w) h.limit m) k)

-- a chunk that was put is in the datagram
pub stands_sealed : (h : CommonHeader) (x y z : List ℕ) (w : Wire) → IsDraft (headed h) x → Stands x y w → (zero : Bool)
    → ((p : Parts) → IsDraft p y → z ≡ packet_encoding (sum_of zero) p) → IsSentIn true z w
stands_sealed h x y z w begun s zero encoded =
    let full = s.added.draft (headed h) begun in (
      refl,
      record {
        packet = with_chunks (s.before ++ w ∷ s.behind) (headed h);
        is_zero = zero;
        encoded = encoded _ full;
        encodings = full.encodings;
        fits = full.fits;
        own = Contains-append_right s.before (w ∷ s.behind) w (0, omega arith, refl);
      },
    )

module _ (h : CommonHeader) (a b c d : Replies) (x y z : List ℕ) (begun : IsDraft (headed h) x) (same : b ≡ a)
    (fill : Leaves (Stands x y) (IsTooLongIn b.limit x) b c) (rest : d ≡ c) where
  after : (T : Wire → Type 0) → ((w : Wire) → Stands x y w → T w) → Leaves T (IsTooLong a.limit) a d
  after T f =
      let M : Wire → Type 0 = IsTooLong a.limit in
      let limit : b.limit ≡ a.limit = ap (λ (r : Replies). r.limit) same in
      let filled : Leaves T M b c =
      leaves_so (Stands x y) T (IsTooLongIn b.limit x) M b c f (λ w m. subst (λ l. IsTooLong l w) limit (m (headed h) begun)) fill in
      leaves_then T M a c d (leaves_then T M a b c (leaves_same T M a b same) filled) (leaves_same T M c d rest)

  -- none leaves where nothing was put
  pub by_none : (sent : Bool) → length y ≤ 12 → Leaves (IsSentIn sent z) (IsTooLong a.limit) a d
  by_none sent short = after (IsSentIn sent z) (λ w s. absurd (omega (arith, short, stands_longer (headed h) x y w begun s)))

  pub by_sealed : (zero : Bool) → ((p : Parts) → IsDraft p y → z ≡ packet_encoding (sum_of zero) p) → Leaves (IsSentIn true z) (IsTooLong a.limit) a d
  by_sealed zero encoded = after (IsSentIn true z) (λ w s. stands_sealed h x y z w begun s zero encoded)

-- ## What is due once

-- a SHUTDOWN or SHUTDOWN-ACK was due, or came to be
due-or-reached : (x y z : Owed) (s : State) → z.state ≡ y.state → (P Q : Type 0) → (P → Q ⊎ Reaches s x y) → P ⊎ Reaches s y z → Q ⊎ Reaches s x z
due-or-reached x y z s same P Q f (inl p) = or-so (λ r. (r.0, same ∙ r.1)) (f p)
due-or-reached x y z s same P Q f (inr r) = absurd (r.0 (sym same ∙ r.1))

-- before that only what shuts down was made due
once-before : (x y z : Owed) → OwesNothingNew x y → z.state ≡ y.state → (w : Wire) → IsReplyOnce y z w → IsReplyOnce x z w
once-before x y z o s (cookie_echo_chunk k) h = (o.cookie_echo h.0, sym o.cookie ∙ h.1, h.2)
once-before x y z o s cookie_ack_chunk h = (o.cookie_ack h.0, h.1)
once-before x y z o s (shutdown_chunk n) h = (due-or-reached x y z ShutdownSent s (y.due.shutdown ≡ true) (x.due.shutdown ≡ true) o.shutdown h.0, h.1)
once-before x y z o s shutdown_ack_chunk h =
    (due-or-reached x y z ShutdownAckSent s (y.due.shutdown_ack ≡ true) (x.due.shutdown_ack ≡ true) o.shutdown_ack h.0, h.1)
once-before x y z o s (heartbeat_ack_chunk ps) h = (h.0, o.heartbeat h.0 h.1, h.2, h.3)
once-before x y z o s (sack_chunk k) h = (was x.sack y.sack o.sack h.0, h.1)
once-before x y z o s (error_chunk cs) h = both-so (λ r. (r.0, o.report r.0 r.1, r.2, r.3)) (λ u. (u.0, o.unknown u.0 u.1, u.2, u.3)) h
once-before x y z o s _ h = absurd h

-- a parameter is no FORWARD-TSN
param-alike : (now : ℕ) (a c : Association) (p : Option Parameter) → IfSome p (IsParamOnce (owed_at now a) (owed_at now c))
    → IfSome p (IsParamOnce (owed_before now a) (owed_at now c))
param-alike now a c None h = tt
param-alike now a c (Some (outgoing_reset_request r)) h = h
param-alike now a c (Some (reconfig_response r)) h = h
param-alike now a c (Some _) h = h

due-before : (now : ℕ) (a b c : Association) → OwesNothingNew (owed_of a) (owed_of b) → AsksNoMore now a b
    → (b.outbound.is_skip_due ≡ true → (owed_before now a).skip ≡ true) → c.machine.state ≡ b.machine.state → (w : Wire)
    → IsDueOrData (owed_at now b) (owed_at now c) w → IsDueOrData (owed_before now a) (owed_at now c) w
due-before now a b c o m f s (data_chunk d) h = tt
due-before now a b c o m f s (heartbeat_chunk ps) h = (was (beats now a) (beats now b) m.beat h.0, h.1)
due-before now a b c o m f s (reconfig_chunk r) h = (h.0, (before r.param_a h.1.0, before r.param_b h.1.1))
  where
    before : (p : Option Parameter) → IfSome p (IsParamOnce (owed_at now b) (owed_at now c)) → IfSome p (IsParamOnce (owed_before now a) (owed_at now c))
    before p h = param-alike now a c p (params_before now a b c m p h)
due-before now a b c o m f s (forward_tsn_chunk k) h = (f h.0, h.1)
due-before now a b c o m f s w h = once-before (owed_of a) (owed_of b) (owed_of c) o s w h

pub once_after : (now : ℕ) (a b c : Association) (bytes : List ℕ) → OwesNothingNew (owed_of a) (owed_of b) → AsksNoMore now a b
    → (b.outbound.is_skip_due ≡ true → (owed_before now a).skip ≡ true) → c.machine.state ≡ b.machine.state
    → IsPacketOf (IsDueOrData (owed_at now b) (owed_at now c)) bytes → IsPacketOf (IsDueOrData (owed_before now a) (owed_at now c)) bytes
once_after now a b c bytes o m f s p = packet_so (IsDueOrData (owed_at now b) (owed_at now c)) (IsDueOrData (owed_before now a) (owed_at now c))
    (due-before now a b c o m f s) bytes p

-- ## What is due as the shutdown goes on

pub nothing_new : (x y : Owed) → y ≡ x → OwesNothingNew x y
nothing_new x y is = subst (OwesNothingNew x) (sym is) (record {
  cookie_echo = λ e. e;
  cookie_ack = λ e. e;
  shutdown = λ e. inl e;
  shutdown_ack = λ e. inl e;
  heartbeat = λ info e. e;
  report = λ r e. e;
  sack = λ e. e;
  unknown = λ s e. e;
  cookie = refl;
})

-- where nothing moves
pub new_unmoved : (a b : Association) → IsUnmoved a b → OwesNothingNew (owed_of a) (owed_of b)
new_unmoved a b u = record {
  cookie_echo = was a.due.cookie_echo b.due.cookie_echo u.due.cookie_echo;
  cookie_ack = was a.due.cookie_ack b.due.cookie_ack u.due.cookie_ack;
  shutdown = λ e. inl (was a.due.shutdown b.due.shutdown u.due.shutdown e);
  shutdown_ack = λ e. inl (was a.due.shutdown_ack b.due.shutdown_ack u.due.shutdown_ack e);
  heartbeat = u.due.heartbeat;
  report = u.due.report;
  sack = u.sack;
  unknown = u.unknown;
  cookie = u.cookie;
}

pub new_then : (x y z : Owed) → OwesNothingNew x y → z.state ≡ y.state → OwesNothingNew y z → OwesNothingNew x z
new_then x y z o s k = record {
  cookie_echo = λ e. o.cookie_echo (k.cookie_echo e);
  cookie_ack = λ e. o.cookie_ack (k.cookie_ack e);
  shutdown = λ e. due-or-reached x y z ShutdownSent s (y.due.shutdown ≡ true) (x.due.shutdown ≡ true) o.shutdown (k.shutdown e);
  shutdown_ack = λ e. due-or-reached x y z ShutdownAckSent s (y.due.shutdown_ack ≡ true) (x.due.shutdown_ack ≡ true) o.shutdown_ack (k.shutdown_ack e);
  heartbeat = λ info e. o.heartbeat info (k.heartbeat info e);
  report = λ r e. o.report r (k.report r e);
  sack = λ e. k.sack (o.sack e);
  unknown = λ n e. o.unknown n (k.unknown n e);
  cookie = k.cookie ∙ o.cookie;
}

-- what is due, by its parts
abbrev owed-in : Due → Option (List ℕ) → State → Option Inbound → Owed
owed-in d k s i = record { due = d; cookie = k; state = s; sack = sack_waits i; unknown = unknown_in i }

pending≢sent : ShutdownPending ≡ ShutdownSent → ⊥
pending≢sent e = cc

received≢sent : ShutdownReceived ≡ ShutdownAckSent → ⊥
received≢sent e = cc

owes-row : (s : State) (m : Machine) (d e : Due) (k : Option (List ℕ)) (i : Option Inbound) → m.state ≡ s → e ≡ owed_by (drained_row s m).answer.reply 0 d
    → OwesNothingNew (owed-in d k m.state i) (owed-in e k (drained_row s m).machine.state i)
owes-row ShutdownPending m d e k i is due =
    let Q : Due → Type 0 = λ e. OwesNothingNew (owed-in d k m.state i) (owed-in e k ShutdownSent i) in
    subst Q (sym due) (record {
      cookie_echo = λ e. e;
      cookie_ack = λ e. e;
      shutdown = λ e. inr (λ sent. pending≢sent (sym is ∙ sent), refl);
      shutdown_ack = λ e. inl e;
      heartbeat = λ info e. e;
      report = λ r e. e;
      sack = λ e. e;
      unknown = λ s e. e;
      cookie = refl;
    })
owes-row ShutdownReceived m d e k i is due =
    let Q : Due → Type 0 = λ e. OwesNothingNew (owed-in d k m.state i) (owed-in e k ShutdownAckSent i) in
    subst Q (sym due) (record {
      cookie_echo = λ e. e;
      cookie_ack = λ e. e;
      shutdown = λ e. inl e;
      shutdown_ack = λ e. inr (λ sent. received≢sent (sym is ∙ sent), refl);
      heartbeat = λ info e. e;
      report = λ r e. e;
      sack = λ e. e;
      unknown = λ s e. e;
      cookie = refl;
    })
owes-row _ m d e k i is due = nothing_new _ _ (ap (λ e. owed-in e k m.state i) due)

-- as the machine is told that nothing waits or is in flight
pub drained_owes : (a b : Association) (n : Machine) (r : Answer) → Takes (on_drained a.machine) n r → b.due ≡ owed_by r.reply 0 a.due → b.machine ≡ n
    → b.cookie ≡ a.cookie → b.inbound ≡ a.inbound → OwesNothingNew (owed_of a) (owed_of b)
drained_owes a b n r t due machine cookie inbound =
    let row = owes-row a.machine.state a.machine a.due b.due a.cookie a.inbound refl
    (subst (λ (x : Answer). b.due ≡ owed_by x.reply 0 a.due) t.answer due) in
    let state : b.machine.state ≡ (on_drained a.machine).machine.state = ap (λ (m : Machine). m.state) (machine ∙ t.machine) in
    let Q : State → Type 0 = λ s. OwesNothingNew (owed_of a) (owed-in b.due a.cookie s a.inbound) in
    let R : Option (List ℕ) → Type 0 = λ k. OwesNothingNew (owed_of a) (owed-in b.due k b.machine.state a.inbound) in
    let I : Option Inbound → Type 0 = λ i. OwesNothingNew (owed_of a) (owed-in b.due b.cookie b.machine.state i) in
    subst I (sym inbound) (subst R (sym cookie) (subst Q (sym state) row))

-- ## HEARTBEATs as the shutdown goes on: only in Established one is due

abbrev Beats : ℕ → State → ℕ → Option Heartbeat → Type 0
Beats now s rto h = is_due now (heartbeat_in s rto h) ≡ false

drained-row : (now : ℕ) (s : State) (m : Machine) (rto : ℕ) (h : Option Heartbeat) → m.state ≡ s → Beats now s rto h
    → Beats now (drained_row s m).machine.state rto h
drained-row now ShutdownPending m rto h is e = refl
drained-row now ShutdownReceived m rto h is e = refl
drained-row now _ m rto h is e = subst (λ s. Beats now s rto h) (sym is) e

asked-row : (now : ℕ) (s : State) (m : Machine) (rto : ℕ) (h : Option Heartbeat) → m.state ≡ s → Beats now s rto h
    → Beats now (shutdown_asked_row s m).machine.state rto h
asked-row now CookieWait m rto h is e = refl
asked-row now Established m rto h is e = refl
asked-row now _ m rto h is e = subst (λ s. Beats now s rto h) (sym is) e

module _ (now : ℕ) (a b : Association) (s : State) (state : b.machine.state ≡ s) (outbound : b.outbound ≡ a.outbound) (heart : b.heartbeat ≡ a.heartbeat) where
  beats-in : Beats now s a.outbound.rto.rto a.heartbeat → beats now b ≡ false
  beats-in e =
      let one = subst (λ s. Beats now s a.outbound.rto.rto a.heartbeat) (sym state) e in
      let two = subst (λ (o : Outbound). Beats now b.machine.state o.rto.rto a.heartbeat) (sym outbound) one in
      subst (Beats now b.machine.state b.outbound.rto.rto) (sym heart) two

module _ (now : ℕ) (a b : Association) (n : Machine) (r : Answer) (is : b.machine ≡ n) (outbound : b.outbound ≡ a.outbound) (heart : b.heartbeat ≡ a.heartbeat)
    (requests : b.requests ≡ a.requests) (peer : b.peer_requests ≡ a.peer_requests) where
  asks-so : (beats now a ≡ false → beats now b ≡ false) → AsksNoMore now a b
  asks-so f = record {
    beat = f;
    request = λ e. ap (requests_due now) requests ∙ e;
    responses = at_most_same (ap responses_due peer);
  }

  pub drained_beats : Takes (on_drained a.machine) n r → AsksNoMore now a b
  drained_beats t = asks-so (λ e.
      beats-in now a b (on_drained a.machine).machine.state (ap (λ (m : Machine). m.state) (is ∙ t.machine)) outbound heart
      (drained-row now a.machine.state a.machine a.outbound.rto.rto a.heartbeat refl e))

  pub asked_beats : Takes (on_shutdown_asked a.machine) n r → AsksNoMore now a b
  asked_beats t = asks-so (λ e.
      beats-in now a b (on_shutdown_asked a.machine).machine.state (ap (λ (m : Machine). m.state) (is ∙ t.machine)) outbound heart
      (asked-row now a.machine.state a.machine a.outbound.rto.rto a.heartbeat refl e))
