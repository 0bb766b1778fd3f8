-- What is so of the chunks that wait and of those in flight, whatever a sender does: only what was taken is acknowledged.
use Rattle.sctp_delivery.proofs.Names.{◌≡◌, ⊤, ℕ, Bool, true, false, List, length, Option, refl, ap, sym, ◌∙◌, arith, ◌||◌, nat_tests, or-left, or-right}
use Rattle.sctp_delivery.proofs.Names.{or-split, not_both, change_where, ChunkPayloadData, PayloadProtocolIdentifier, Sack, as_abandoned, as_acknowledged}
use Rattle.sctp_delivery.proofs.Names.{Outbound, abandoned_of, all_started, expired_of, sent_next, terminal_chunk, with_message, with_inflight, next_pending}
use Rattle.sctp_delivery.proofs.Names.{OutboundStream, Flight, after_sack, reports, reports_anew, abandoned_each, fragments_with_mode, after_misses, missed}
use Rattle.sctp_delivery.proofs.Every.{Every, every-all, every-of, every-pair}
use Rattle.sctp_delivery.proofs.QueueChunks.{EachIs, abandoned, each-abandoned, each-fragment, expired, marked, missed-some, pushed, sacked, sent, started}
use Rattle.sctp_delivery.proofs.Changes.{IsMark}

-- ## Chunks

-- it waits, neither acknowledged nor abandoned
abbrev pub IsUnmarked : ChunkPayloadData → Type 0
IsUnmarked c = (c.acked ≡ false) × (c.abandoned ≡ false)

-- each that waits does so
pub record IsFresh (q : Outbound) : Type 0 where
  pub ordered : Every IsUnmarked q.pending.ordered
  pub unordered : Every IsUnmarked q.pending.unordered

pub fresh-started : (now : ℕ) (q : Outbound) → IsFresh q → IsFresh (all_started now q)
fresh-started now q h =
    let e = started IsUnmarked (λ c. ⊤) now (λ c k. k) q
    (record { ordered = h.ordered; unordered = h.unordered; inflight = every-all (λ (c : ChunkPayloadData). ⊤) (λ c. tt) q.inflight.chunks }) in
    record { ordered = e.ordered; unordered = e.unordered }

-- of a chunk in flight: acknowledged, it was taken or abandoned; passed, it was abandoned; and acknowledged or abandoned, it has no bytes
pub record IsRight (taken passed : ℕ → Bool) (c : ChunkPayloadData) : Type 0 where
  pub came : c.acked ≡ true → (taken c.tsn || c.abandoned) ≡ true
  pub gone : passed c.tsn ≡ true → c.abandoned ≡ true
  pub bare : c.abandoned ≡ true → length c.user_data ≡ 0
  pub settled : c.acked ≡ true → length c.user_data ≡ 0

abbrev pub IsValid : (ℕ → Bool) → (ℕ → Bool) → Outbound → Type 0
IsValid taken passed q = EachIs IsUnmarked (IsRight taken passed) q

pub fragments-unmarked : (l : OutboundStream) (ppi : PayloadProtocolIdentifier) (bytes : List ℕ) → Every IsUnmarked (fragments_with_mode l ppi bytes)
fragments-unmarked l ppi bytes = each-fragment IsUnmarked l ppi bytes (λ i. (refl, refl))

-- ## The calls

module _ (taken passed : ℕ → Bool) where
  abbrev Valid : Outbound → Type 0
  Valid q = IsValid taken passed q

  abbrev Right : ChunkPayloadData → Type 0
  Right c = IsRight taken passed c

  -- where the acknowledgement, the TSN and the abandonment stay
  right-same : (c d : ChunkPayloadData) → d.acked ≡ c.acked → d.tsn ≡ c.tsn → d.abandoned ≡ c.abandoned → d.user_data ≡ c.user_data → Right c → Right d
  right-same c d a t b u r = grind (arith, nat_tests)

  pub message-valid : (cs : List ChunkPayloadData) (q : Outbound) → Every IsUnmarked cs → Valid q → Valid (with_message cs q)
  message-valid cs q h s = pushed IsUnmarked Right IsUnmarked Right (λ c i. i) (λ c i. i) cs q h s

  pub started-valid : (now : ℕ) (q : Outbound) → Valid q → Valid (all_started now q)
  started-valid now q s = started IsUnmarked Right now (λ c i. i) q s

  pub sent-valid : (q : Outbound) (tsn now : ℕ) → passed tsn ≡ false → Valid q → Valid (sent_next q tsn now)
  sent-valid q tsn now new s =
      sent IsUnmarked Right tsn now (λ c u. record {
        came = λ a. absurd (not_both (sym u.0 ∙ a));
        gone = λ a. absurd (not_both (sym new ∙ a));
        bare = λ a. absurd (not_both (sym u.1 ∙ a));
        settled = λ a. absurd (not_both (sym u.0 ∙ a));
      }) (next_pending (all_started now q).pending) (all_started now q) refl (started-valid now q s)

  -- of an abandoned message, with no bytes
  bare-right : (c : ChunkPayloadData) → c.abandoned ≡ true → length c.user_data ≡ 0 → Right c
  bare-right c b z = record { came = λ e. or-right (taken c.tsn) c.abandoned b; gone = λ e. b; bare = λ e. z; settled = λ e. z }

  pub abandoned-valid : (o : Option ℕ) (tsn : ℕ) (q : Outbound) → Valid q → Valid (abandoned_of o tsn q)
  abandoned-valid o tsn q s =
      abandoned IsUnmarked Right (λ c r. bare-right (as_abandoned c) refl refl) (λ t c u. bare-right (terminal_chunk t c) refl refl) o tsn q s

  pub each-valid : (ts : List ℕ) (f : Flight) → Valid f.queue → Valid (abandoned_each ts f).queue
  each-valid ts f s =
      each-abandoned IsUnmarked Right (λ c r. bare-right (as_abandoned c) refl refl) (λ t c u. bare-right (terminal_chunk t c) refl refl) ts f s

  pub expired-valid : (o : Option ChunkPayloadData) (q : Outbound) → Valid q → Valid (expired_of o q)
  expired-valid o q s = expired IsUnmarked Right (λ c i. i) o q s

  pub marked-valid : (p : ChunkPayloadData → Bool) (f : ChunkPayloadData → ChunkPayloadData) → IsMark f → (q : Outbound) → Valid q
      → Valid (with_inflight q (change_where p f q.inflight.chunks))
  marked-valid p f k q s =
      marked IsUnmarked Right p f (λ c r. right-same c (f c) (ap (λ (d : ChunkPayloadData). d.acked) (k c)) (ap (λ (d : ChunkPayloadData). d.tsn) (k c))
      (ap (λ (d : ChunkPayloadData). d.abandoned) (k c)) (ap (λ (d : ChunkPayloadData). d.user_data) (k c)) r) q s

  pub missed-valid : (count : ℕ) (f : Flight) → Valid f.queue → Valid (after_misses count f).queue
  missed-valid count f s = missed-some IsUnmarked Right (λ d r. right-same d (missed d) refl refl refl refl r) count f s

  -- ## A SACK

  -- what it reports was taken or passed
  abbrev IsAnswered : Sack → ChunkPayloadData → Type 0
  IsAnswered k c = reports k c ≡ true → (taken c.tsn || passed c.tsn) ≡ true

  pub came-of : (c : ChunkPayloadData) → Right c → (taken c.tsn || passed c.tsn) ≡ true → (taken c.tsn || c.abandoned) ≡ true
  came-of c r e = grind (arith, nat_tests)

  pub sack-valid : (k : Sack) (f : Flight) → Every (IsAnswered k) f.queue.inflight.chunks → Valid f.queue → Valid (after_sack k f).queue
  sack-valid k f answered s = record {
    ordered = after.ordered;
    unordered = after.unordered;
    inflight = every-of (λ c. Right c × IsAnswered k c) Right (λ c h. h.0) (after_sack k f).queue.inflight.chunks after.inflight;
  }
    where
      acknowledged : (c : ChunkPayloadData) → reports_anew k c ≡ true → Right c × IsAnswered k c → Right (as_acknowledged c) × IsAnswered k (as_acknowledged c)
      acknowledged c h2 h3 = grind (arith, nat_tests)

      after : EachIs IsUnmarked (λ c. Right c × IsAnswered k c) (after_sack k f).queue
      after = sacked IsUnmarked (λ c. Right c × IsAnswered k c) k acknowledged f (record {
        ordered = s.ordered;
        unordered = s.unordered;
        inflight = every-pair Right (IsAnswered k) f.queue.inflight.chunks s.inflight answered;
      })

-- ## More is taken, and more is passed

pub more-taken : (taken taken' passed : ℕ → Bool) (q : Outbound) → ((t : ℕ) → taken t ≡ true → taken' t ≡ true) → IsValid taken passed q
    → IsValid taken' passed q
more-taken taken taken' passed q more s = grind (arith, nat_tests, every-of, or-left, or-right, or-split)

pub more-passed : (taken passed passed' : ℕ → Bool) (q : Outbound) → Every
    (λ (c : ChunkPayloadData). passed' c.tsn ≡ true → (passed c.tsn || c.abandoned) ≡ true) q.inflight.chunks → IsValid taken passed q
    → IsValid taken passed' q
more-passed taken passed passed' q more s = record {
  ordered = s.ordered;
  unordered = s.unordered;
  inflight = every-of (λ c. IsRight taken passed c × (passed' c.tsn ≡ true → (passed c.tsn || c.abandoned) ≡ true))
      (IsRight taken passed') one q.inflight.chunks (every-pair (IsRight taken passed) _ q.inflight.chunks s.inflight more);
}
  where
    one : (c : ChunkPayloadData) → IsRight taken passed c × (passed' c.tsn ≡ true → (passed c.tsn || c.abandoned) ≡ true) → IsRight taken passed' c
    one c h2 = grind (arith, nat_tests)
