-- What a link tells of itself.
use Rattle.sctp_link.proofs.Names.{◌≡◌, ℕ, ◌-◌, false, List, map, Bor, Option, Some, None, refl, ap, sym, ◌∙◌, option_map, option_copied, find, if◌then◌else◌}
use Rattle.sctp_link.proofs.Names.{MatchOption, bytes_of, ReassemblyState, Outbound, LinkRecord, is_open, ledger, in_all, written_bytes, buffered_amount}
use Rattle.sctp_link.proofs.Names.{counters_of, RefinesOutbound, amount, counters_on, reassembly_of, OpenStream, has_number, stats_in, State, IsLinked}
use Rattle.sctp_link.proofs.Names.{ledger_of, stats_of, stream_record, some-same, ledger-is, ledger_by}
use Rattle.sctp_outbound.specs.pending_queue.PendingQueue.{total_bytes}
use Rattle.sctp_link.specs.declared.link.accessors.Ledger.{Ledger}
use Rattle.sctp_link.proofs.upkeep.Facts.{over}
use Rattle.sctp_link.proofs.upkeep.Lookups.{IsKept, kept-at, none-open}
use Rattle.sctp_link.proofs.upkeep.StreamPlaces.{placed}

-- the ledger, by what the queues hold
pub ledger-now : {sum : List ℕ → ℕ} {x : State} → IsLinked sum x
    → ledger x.recorded ≡ ledger_by (in_all x.recorded (written_bytes x.recorded)) (total_bytes x.outbound.pending) (bytes_of x.outbound.inflight.chunks)
ledger-now {x} l =
    over (λ w. (q : Outbound) → RefinesOutbound w q → ledger w ≡ ledger_by (in_all w (written_bytes w)) (total_bytes q.pending) (bytes_of q.inflight.chunks)) l
    (ledger-is x.recorded.setup l.history l.setup l.stands.run) x.outbound l.outbound

pub same-ledger : {a p f r w q g : ℕ} → a ≡ w → p ≡ q → f ≡ g → r ≡ a - p - f
    → (let l : Ledger = record { written = a; pending = p; in_flight = f; released = r } in l) ≡ ledger_of (ledger_by w q g)
same-ledger a p f r = rw (r, a, p, f) refl

-- ## A stream

-- what is kept of one that is found
pub kept-found : {sum : List ℕ → ℕ} {x : State} (s : ℕ) (l : OpenStream) → x.recorded.streams ≡ map stream_record x.open_streams → IsLinked sum x
    → find (has_number s) x.open_streams ≡ Some l → IsKept sum x s l
kept-found {x} s l same i e =
    let p = placed s x.open_streams l e in
    kept-at s p.0 l same i p.1.0 (e ∙ ap (λ y. Some y) (sym (p.1.1 l))) (sym (p.1.1 l))

-- what came on a stream and was not read, where it is open
abbrev pub TellsQueue : LinkRecord → ℕ → Option (Bor ReassemblyState) → Type 0
TellsQueue w s r = MatchOption r (is_open w s ≡ false) (λ q. (q.now.held ≡ reassembly_of w s) × (q.now.si ≡ s) × (q.now.max_message_size ≡ w.setup.largest))

module _ {sum : List ℕ → ℕ} {x : State} (i : IsLinked sum x) (s : ℕ) (same : x.recorded.streams ≡ map stream_record x.open_streams) where
  pub amount-is : option_map (λ (l : OpenStream). l.state.buffered_amount) (find (has_number s) x.open_streams) ≡ buffered_amount x.recorded s
  amount-is = by (find (has_number s) x.open_streams) refl
    where
      by : (o : Option OpenStream) → find (has_number s) x.open_streams ≡ o
          → option_map (λ (l : OpenStream). l.state.buffered_amount) o ≡ buffered_amount x.recorded s
      by None e = sym (ap (λ b. if b then Some (amount x.recorded s) else None) (none-open x.recorded s x.open_streams same e))
      by (Some l) e =
          let k = kept-found s l same i e in
          ap (λ n. Some n) (k.open_stream.amount ∙ ap (amount x.recorded) k.number) ∙ sym (ap (λ b. if b then Some (amount x.recorded s) else None) k.is_open)

  pub stats-is : option_map stats_in (find (has_number s) x.open_streams) ≡ option_map stats_of (counters_of x.recorded s)
  stats-is = by (find (has_number s) x.open_streams) refl
    where
      by : (o : Option OpenStream) → find (has_number s) x.open_streams ≡ o → option_map stats_in o ≡ option_map stats_of (counters_of x.recorded s)
      by None e = sym (ap (λ b. option_map stats_of (if b then Some (counters_on x.recorded s) else None)) (none-open x.recorded s x.open_streams same e))
      by (Some l) e =
          let k = kept-found s l same i e in
          cc (k.open_stream.stats, k.number, k.is_open)

  pub queue-is : (r : Option (Bor ReassemblyState)) → option_copied r ≡ option_map (λ (l : OpenStream). l.inbound.queue) (find (has_number s) x.open_streams)
      → TellsQueue x.recorded s r
  queue-is r h = by r (find (has_number s) x.open_streams) refl h
    where
      by : (r : Option (Bor ReassemblyState)) (o : Option OpenStream) → find (has_number s) x.open_streams ≡ o
          → option_copied r ≡ option_map (λ (l : OpenStream). l.inbound.queue) o → TellsQueue x.recorded s r
      by None None e z = none-open x.recorded s x.open_streams same e
      by None (Some l) e z = cc
      by (Some q) None e z = cc
      by (Some q) (Some l) e z =
          let k = kept-found s l same i e in
          let here : q.now ≡ l.inbound.queue = some-same z in (
            ap (λ (t : ReassemblyState). t.held) here ∙ k.open_stream.held ∙ ap (reassembly_of x.recorded) k.number,
            ap (λ (t : ReassemblyState). t.si) here ∙ k.open_stream.si ∙ k.number,
            ap (λ (t : ReassemblyState). t.max_message_size) here ∙ k.open_stream.largest,
          )
