-- What changes of the sender and of the progress make of a link's sides, and what is told of a stream by its number.
use Rattle.sctp_link.proofs.Names.{◌≡◌, ℕ, ◌+◌, ◌-◌, ◌<◌, List, [], ◌∷◌, length, set, Bool, true, false, Option, Some, None, Result, Ok, Err, inl, inr, refl}
use Rattle.sctp_link.proofs.Names.{ap, sym, ◌∙◌, subst, ◌⊎◌, slice_index_or, find, if◌then◌else◌, option_map, is_some, OnOk, OnErr, IfErr, IfSome}
use Rattle.sctp_link.proofs.Names.{change_where, some-same, is_ordered, Sack, ChunkPayloadData, PayloadProtocolIdentifier, ReliabilityType, with_message}
use Rattle.sctp_link.proofs.Names.{expired_of, DataChannelStats, OutboundStream, InboundStream, Reception, Released, OutOfMemory, Flight, with_queue, after_sack}
use Rattle.sctp_link.proofs.Names.{released_by, fragments_with_mode, Transmission, Standing, Written, IsApart, OpenStream, join_each, number, has_number}
use Rattle.sctp_link.proofs.Names.{stream_numbers, on_state, after_releases, stats_in, both_ways, written_of, wrote_to, read_recorded, Sides, IsAligned}
use Rattle.sctp_link.proofs.Names.{stream_in, on_stream, sack_taken, written_on, expired_unsent, sides, none-changed, twice, same-at}
use Rattle.sctp_receiver.specs.Receiver as R
use Rattle.sctp_sender.specs.declared.sender.refusal.SenderRefusal.{SenderRefusal}
use Rattle.sctp_sender.specs.declared.sender.refusal.SenderRefusal.TheVariants.{StreamUnknown}
use Rattle.sctp_sender.specs.Keeping.{kept_after}
use Rattle.sctp_sender.specs.Outgoing as Outgoing
use Rattle.sctp_sender.specs.Sender as S
use Rattle.sctp_link.specs.Progress as Progress
use Rattle.sctp_link.specs.Sides.{with_flight}
use Rattle.sctp_link.proofs.sides.Joined.{found-progress, state-changed, progress-changed}
use Rattle.sctp_link.proofs.sides.Aligned.{alike, numbers-are, state-in, inbound-in, with-sender, with-progress, standing-changed}
use Rattle.sctp_link.proofs.upkeep.Apart.{number-found}
use Rattle.sctp_link.proofs.upkeep.StreamPlaces.{placed, changed-found}

-- what is refused for no other reason is refused for memory
pub only-memory : (e : SenderRefusal) (o : Option SenderRefusal) → o ≡ None → ((e ≡ OutOfMemory) × (o ≡ None)) ⊎ (o ≡ Some e) → e ≡ OutOfMemory
only-memory e o none (inl h) = h.0
only-memory e o none (inr h) = let no : None ≡ Some e = sym none ∙ h in absurd (cc)

pub some-of : {T : Type 0} (Q : T → Type 0) (o : Option T) (x : T) → o ≡ Some x → IfSome o Q → Q x
some-of Q o x e h = subst (λ p. IfSome p Q) e h

module _ (f : OutboundStream → OutboundStream) (same : (s : OutboundStream) → (f s).stream_identifier ≡ s.stream_identifier) (p : OutboundStream → Bool) where
  pub stays : (ss : List OutboundStream) → Outgoing.numbers_of (change_where p f ss) ≡ Outgoing.numbers_of ss
  stays [] = refl
  stays (s ∷ ss) = ap (λ n. n ∷ Outgoing.numbers_of (change_where p f ss)) (by (p s)) ∙ ap (λ ns. s.stream_identifier ∷ ns) (stays ss)
    where
      by : (b : Bool) → Outgoing.number (if b then f s else s) ≡ s.stream_identifier
      by true = same s
      by false = refl

pub released-stays : (rs : List Released) (ss : List OutboundStream) → Outgoing.numbers_of (Outgoing.after_releases rs ss) ≡ Outgoing.numbers_of ss
released-stays [] ss = refl
released-stays (r ∷ rs) ss = released-stays rs (change_where (Outgoing.has_number r.stream) (Outgoing.less_by r.bytes) ss)
    ∙ stays (Outgoing.less_by r.bytes) (λ s. refl) (Outgoing.has_number r.stream) ss

pub mode-set : {T : Type 0} (r : Result T SenderRefusal) (s : ℕ) (unordered : Bool) (reliability : ReliabilityType) (value : ℕ) (old new : Transmission)
    → OnOk r (new ≡ S.with_mode_on s unordered reliability value old) → IfErr r (λ e. (e ≡ StreamUnknown) × (S.is_open s old ≡ false)) → OnErr r (new ≡ old)
    → new ≡ S.with_mode_on s unordered reliability value old
mode-set (Ok x) s unordered reliability value old new ok refused err = ok
mode-set (Err e) s unordered reliability value old new ok refused err =
    err ∙ ap (λ ss. let x : Transmission = record old { streams = ss } in x)
    (sym (none-changed (Outgoing.has_number s) (Outgoing.with_mode unordered reliability value) old.streams refused.1))

pub released-joined : (rs : List Released) (ss : List OutboundStream) (is : List InboundStream) (ps : List Standing)
    → join_each (Outgoing.after_releases rs ss) is ps ≡ after_releases rs (join_each ss is ps)
released-joined [] ss is ps = refl
released-joined (r ∷ rs) ss is ps = released-joined rs (change_where (Outgoing.has_number r.stream) (Outgoing.less_by r.bytes) ss) is ps
    ∙ ap (after_releases rs) (state-changed r.stream (Outgoing.less_by r.bytes) ss is ps)

-- what is told of the state in what is found
pub of-state : {B : Type 0} (g : OutboundStream → B) (o : Option OpenStream) → option_map g (option_map (λ l. l.state) o) ≡ option_map (λ l. g l.state) o
of-state g None = refl
of-state g (Some l) = refl

pub of-inbound : {B : Type 0} (g : InboundStream → B) (o : Option OpenStream) → option_map g (option_map (λ l. l.inbound) o) ≡ option_map (λ l. g l.inbound) o
of-inbound g None = refl
of-inbound g (Some l) = refl

-- none is told of none
pub answered-none : {A B C : Type 0} (g : A → B) (h : A → C) (o : Option A) (x : Option B) → x ≡ option_map g o → x ≡ None → None ≡ option_map h o
answered-none g h None x e none = refl
answered-none g h (Some y) x e none = cc

pub both-answered : (o : Option OpenStream) (x y : Option DataChannelStats) (sent read : DataChannelStats) → x ≡ option_map (λ l. l.state.stats) o
    → y ≡ option_map (λ l. l.inbound.stats) o → x ≡ Some sent → y ≡ Some read → Some (both_ways sent read) ≡ option_map stats_in o
both-answered None x y sent read e f sends reads = cc
both-answered (Some l) x y sent read e f sends reads =
    let s : sent ≡ l.state.stats = cc in
    let r : read ≡ l.inbound.stats = cc in
    ap (λ z. Some (both_ways z read)) s ∙ ap (λ z. Some (both_ways l.state.stats z)) r

-- changes that are the same for the one stream with a number
pub same-found : (s : ℕ) (ls : List OpenStream) (l : OpenStream) → IsApart (stream_numbers ls) → find (has_number s) ls ≡ Some l
    → (f g : OpenStream → OpenStream) → f l ≡ g l → change_where (has_number s) f ls ≡ change_where (has_number s) g ls
same-found s ls l apart found f g same =
    let p = placed s ls l found in
    let here = p.1.1 l in
    let num : (slice_index_or ls p.0 l).state.stream_identifier ≡ s = ap (λ (x : OpenStream). x.state.stream_identifier) here ∙ number-found s ls l found in
    sym (changed-found s ls apart f p.0 l p.1.0 num) ∙ ap (set ls p.0) (ap f here ∙ same ∙ sym (ap g here)) ∙ changed-found s ls apart g p.0 l p.1.0 num

-- what is recorded of a write, by its parts
pub recorded : (w : Written) (s : OutboundStream) (ppi : PayloadProtocolIdentifier) (before : ℕ) (l : OpenStream) → w.ordered ≡ is_ordered s.unordered ppi
    → w.reliability ≡ s.reliability_type → w.value ≡ s.reliability_value → w.before ≡ before → s ≡ l.state → before ≡ l.ordered → w ≡ written_of l ppi
recorded w s ppi before l o r v b state count =
    let kind : w.ordered ≡ is_ordered l.state.unordered ppi = o ∙ ap (λ (z : OutboundStream). is_ordered z.unordered ppi) state in
    let mode : w.reliability ≡ l.state.reliability_type = r ∙ ap (λ (z : OutboundStream). z.reliability_type) state in
    let value : w.value ≡ l.state.reliability_value = v ∙ ap (λ (z : OutboundStream). z.reliability_value) state in
    let parts : (w.ordered, (w.reliability, (w.value, w.before)))
    ≡ (is_ordered l.state.unordered ppi, (l.state.reliability_type, (l.state.reliability_value, l.ordered))) = cc in
    ap (λ (p : Bool × (ReliabilityType × (ℕ × ℕ))). let z : Written = record { ordered = p.0; reliability = p.1.0; value = p.1.1.0; before = p.1.1.1 } in
    z) parts

-- the counts of ordered messages, where one was written or expired
abbrev more : Bool → OpenStream → OpenStream
more ordered l = record l { ordered = if ordered then l.ordered + 1 else l.ordered }

abbrev fewer : Bool → OpenStream → OpenStream
fewer unordered l = record l { ordered = if unordered then l.ordered else l.ordered - 1 }

expired-keeps : (unordered : Bool) (bytes : ℕ) (l : OutboundStream) → (Outgoing.after_expiry unordered bytes l).stream_identifier ≡ l.stream_identifier
expired-keeps true bytes l = refl
expired-keeps false bytes l = refl

module _ {t : Transmission} {r : Reception} {ps : List Standing} (a : IsAligned t r ps) where
  -- ## The sender changes

  module _ (n : ℕ) (f : OutboundStream → OutboundStream) (g : Flight) (x : Transmission)
      (e : x ≡ (let y : Transmission = record t { streams = change_where (Outgoing.has_number n) f t.streams; flight = g } in y)) where
    pub on-aligned : ((s : OutboundStream) → (f s).stream_identifier ≡ s.stream_identifier) → IsAligned x r ps
    on-aligned same = with-sender a x (ap (λ (y : Transmission). Outgoing.numbers_of y.streams) e ∙ stays f same (Outgoing.has_number n) t.streams)
        (ap (λ (y : Transmission). y.max_message_size) e) (ap (λ (y : Transmission). y.kept) e)

    pub on-sides : sides x r ps ≡ with_flight g (on_stream n (on_state f) (sides t r ps))
    on-sides = ap (λ y. sides y r ps) e
        ∙ ap (λ ls. let y : Sides = record (sides t r ps) { streams = ls; flight = g } in y) (state-changed n f t.streams r.streams ps)

  pub flight-aligned : (x : Transmission) (g : Flight) → x ≡ S.with_flight g t → IsAligned x r ps
  flight-aligned x g e = with-sender a x (ap (λ (y : Transmission). Outgoing.numbers_of y.streams) e) (ap (λ (y : Transmission). y.max_message_size) e)
      (ap (λ (y : Transmission). y.kept) e)

  module _ (s : Sack) (x : Transmission) (e : x ≡ S.after_acked s t) where
    pub acked-aligned : IsAligned x r ps
    acked-aligned = with-sender a x (ap (λ (y : Transmission). Outgoing.numbers_of y.streams) e ∙ released-stays (released_by s t.flight) t.streams)
        (ap (λ (y : Transmission). y.max_message_size) e)
        (ap (λ (y : Transmission). y.kept) e ∙ ap (option_map (kept_after s t.flight)) a.forgets ∙ sym a.forgets)

    pub acked-sides : sides x r ps ≡ sack_taken s (sides t r ps)
    acked-sides = ap (λ y. sides y r ps) e ∙ ap (λ ls. let y : Sides = record (sides t r ps) { streams = ls; flight = after_sack s t.flight } in y)
        (released-joined (released_by s t.flight) t.streams r.streams ps)

  -- ## The progress changes

  pub progress-sides : (f : Standing → Standing) (g : OpenStream → OpenStream)
      → ((s : OutboundStream) (i : InboundStream) (p : Standing) → s.stream_identifier ≡ p.number → (let l : OpenStream =
      record { state = s; inbound = i; complete = (f p).complete; ordered = (f p).ordered; begun = (f p).begun; next = (f p).next; named = (f p).named } in l)
      ≡ g (record { state = s; inbound = i; complete = p.complete; ordered = p.ordered; begun = p.begun; next = p.next; named = p.named })) → (s : ℕ)
      → sides t r (change_where (Progress.has_number s) f ps) ≡ on_stream s g (sides t r ps)
  progress-sides f g made s = cc (progress-changed f g made s t.streams r.streams ps a.progresses)

  pub read-recorded : (s : ℕ) (ordered : Bool) (index : ℕ)
      → sides t r (change_where (Progress.has_number s) (Progress.with_read ordered index) ps) ≡ on_stream s (read_recorded ordered index) (sides t r ps)
  read-recorded s ordered index = progress-sides (Progress.with_read ordered index) (read_recorded ordered index) (λ s i p _. refl) s

  -- ## A stream by its number

  pub state-answered : {B : Type 0} (g : OutboundStream → B) (s : ℕ) (o : Option B) → o ≡ option_map g (S.stream_of s t)
      → o ≡ option_map (λ l. g l.state) (stream_in s (sides t r ps))
  state-answered g s o e = e ∙ ap (option_map g) (sym (state-in a s)) ∙ of-state g (stream_in s (sides t r ps))

  pub inbound-answered : {B : Type 0} (g : InboundStream → B) (s : ℕ) (o : Option B) → o ≡ option_map g (R.stream_of s r)
      → o ≡ option_map (λ l. g l.inbound) (stream_in s (sides t r ps))
  inbound-answered g s o e = e ∙ ap (option_map g) (sym (inbound-in a s)) ∙ of-inbound g (stream_in s (sides t r ps))

  pub next-answered : (s : ℕ) (o : Option ℕ) → o ≡ option_map (λ p. p.next) (find (Progress.has_number s) ps)
      → o ≡ option_map (λ l. l.next) (stream_in s (sides t r ps))
  next-answered s o e = e ∙ sym (found-progress (λ (l : OpenStream). l.next) (λ (p : Standing). p.next) (λ s i p. refl) s t.streams r.streams ps (alike a))

  pub ordered-answered : (s : ℕ) (l : OpenStream) → stream_in s (sides t r ps) ≡ Some l → Progress.ordered_in (find (Progress.has_number s) ps) ≡ l.ordered
  ordered-answered s l e = by (find (Progress.has_number s) ps)
      (sym (found-progress (λ (l : OpenStream). l.ordered) (λ (p : Standing). p.ordered) (λ s i p. refl) s t.streams r.streams ps (alike a))
      ∙ ap (option_map (λ (l : OpenStream). l.ordered)) e)
    where
      by : (o : Option Standing) → option_map (λ p. p.ordered) o ≡ Some l.ordered → Progress.ordered_in o ≡ l.ordered
      by None h = cc
      by (Some p) h = some-same h

  pub open-answered : (s : ℕ) → is_some (find (Progress.has_number s) ps) ≡ is_some (stream_in s (sides t r ps))
  open-answered s = mapped (λ (p : Standing). p.next) (find (Progress.has_number s) ps)
      ∙ ap is_some (sym (found-progress (λ (l : OpenStream). l.next) (λ (p : Standing). p.next) (λ s i p. refl) s t.streams r.streams ps (alike a)))
      ∙ sym (mapped (λ (l : OpenStream). l.next) (stream_in s (sides t r ps)))
    where
      mapped : {A B : Type 0} (g : A → B) (o : Option A) → is_some o ≡ is_some (option_map g o)
      mapped g None = refl
      mapped g (Some x) = refl

  pub number-answered : (k : ℕ) (d : Standing) (e : OpenStream) → k < length ps
      → (slice_index_or ps k d).number ≡ (slice_index_or (join_each t.streams r.streams ps) k e).state.stream_identifier
  number-answered k d e lt = same-at Progress.number number ps (join_each t.streams r.streams ps) k d e (sym a.progresses ∙ sym (numbers-are a)) lt

  -- ## A write

  module _ (s : ℕ) (l : OpenStream) (is : stream_in s (sides t r ps) ≡ Some l) where
    pub sender-has : S.stream_of s t ≡ Some l.state
    sender-has = sym (state-in a s) ∙ ap (option_map (λ (z : OpenStream). z.state)) is

    pub state-is : (z : OutboundStream) → Some z ≡ S.stream_of s t → z ≡ l.state
    state-is z e = some-same (e ∙ sender-has)

    module _ (ppi : PayloadProtocolIdentifier) (bytes : List ℕ) (x : Transmission) (e : x ≡ S.written_to l.state s ppi bytes t) where
      abbrev flight : Flight
      flight = with_queue t.flight (with_message (fragments_with_mode l.state ppi bytes) t.flight.queue)

      wrote-aligned : IsAligned x r ps
      wrote-aligned = on-aligned s (Outgoing.wrote ppi bytes) flight x e (λ z. refl)

      pub written-aligned : (ordered : Bool) → IsAligned x r (change_where (Progress.has_number s) (Progress.with_write ordered) ps)
      written-aligned ordered = with-progress wrote-aligned _ (standing-changed (Progress.with_write ordered) (λ p. refl) (Progress.has_number s) ps)

      pub written-sides : (ordered : Bool) → ordered ≡ is_ordered l.state.unordered ppi → IsApart (stream_numbers (join_each t.streams r.streams ps))
          → sides x r (change_where (Progress.has_number s) (Progress.with_write ordered) ps) ≡ written_on l s ppi bytes (sides t r ps)
      written-sides ordered kind apart =
          let ls = join_each t.streams r.streams ps in
          ap (λ zs. let y : Sides = record (sides x r ps) { streams = zs } in y)
          (progress-changed (Progress.with_write ordered) (more ordered) (λ s i p _. refl) s x.streams r.streams ps wrote-aligned.progresses)
          ∙ ap (on_stream s (more ordered)) (on-sides s (Outgoing.wrote ppi bytes) flight x e)
          ∙ ap (λ zs. let y : Sides = record (sides t r ps) { streams = zs; flight = flight } in y)
          (twice (has_number s) (on_state (Outgoing.wrote ppi bytes)) (more ordered) (λ m. refl) ls
          ∙ same-found s ls l apart is (λ m. more ordered (on_state (Outgoing.wrote ppi bytes) m)) (wrote_to ppi bytes)
          (ap (λ b. let z : OpenStream = record l { state = Outgoing.wrote ppi bytes l.state; ordered = if b then l.ordered + 1 else l.ordered } in z) kind))

  -- ## An expiry

  module _ (c : ChunkPayloadData) (bytes now : ℕ) (x : Transmission) (e : x ≡ S.after_expire c bytes now t) where
    abbrev left : Flight
    left = with_queue t.flight (expired_of (Some c) t.flight.queue)

    expire-aligned : IsAligned x r ps
    expire-aligned = on-aligned c.stream_identifier (Outgoing.after_expiry c.unordered bytes) left x e (expired-keeps c.unordered bytes)

    pub expired-aligned : IsAligned x r (change_where (Progress.has_number c.stream_identifier) (Progress.with_expiry c.unordered) ps)
    expired-aligned =
        with-progress expire-aligned _ (standing-changed (Progress.with_expiry c.unordered) (λ p. refl) (Progress.has_number c.stream_identifier) ps)

    pub expired-sides : sides x r (change_where (Progress.has_number c.stream_identifier) (Progress.with_expiry c.unordered) ps)
        ≡ expired_unsent c bytes (sides t r ps)
    expired-sides =
        let s = c.stream_identifier in
        ap (λ zs. let y : Sides = record (sides x r ps) { streams = zs } in y)
        (progress-changed (Progress.with_expiry c.unordered) (fewer c.unordered) (λ s i p _. refl) s x.streams r.streams ps expire-aligned.progresses)
        ∙ ap (on_stream s (fewer c.unordered)) (on-sides s (Outgoing.after_expiry c.unordered bytes) left x e)
        ∙ ap (λ zs. let y : Sides = record (sides t r ps) { streams = zs; flight = left } in y)
        (twice (has_number s) (on_state (Outgoing.after_expiry c.unordered bytes)) (fewer c.unordered) (λ m. expired-keeps-test c.unordered m)
        (join_each t.streams r.streams ps))
      where
        expired-keeps-test : (u : Bool) (m : OpenStream)
            → has_number c.stream_identifier (on_state (Outgoing.after_expiry u bytes) m) ≡ has_number c.stream_identifier m
        expired-keeps-test true m = refl
        expired-keeps-test false m = refl
