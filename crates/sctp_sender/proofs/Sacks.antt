-- What a SACK makes of what is in flight.
use Rattle.sctp_sender.proofs.Names.{◌≡◌, ℕ, ◌+◌, ◌-◌, ◌<◌, ◌≤◌, ◌%◌, ◌^◌, false, List, length, length-drop, drop, refl, ap, sym, subst, ◌∙◌, arith}
use Rattle.sctp_sender.proofs.Names.{if◌then◌else◌, change_where, length-change_where, ChunkPayloadData, Sack, as_acknowledged, Outbound, with_inflight, Flight}
use Rattle.sctp_sender.proofs.Names.{IsContiguous, tsns_from, reports_anew, is_outdated, take_sack, after_sack, following_tsn}
use Rattle.sctp_util.specs.Serial.{distance}
use Rattle.sctp_sender.proofs.Runs.{IsRunFrom, changed-run, dropped, past-is}
use Rattle.sctp_sender.proofs.InLine.{IsInLine, marked-in-line, rest-in-line}

pub cum-is : (acked cum : ℕ) → acked < 2 ^ 32 → cum < 2 ^ 32 → cum ≡ (acked + distance acked cum) % 2 ^ 32
unfolding distance
cum-is acked cum small fits = omega arith

pub apart : (t base far : ℕ) → base < 2 ^ 32 → far + 1 < 2 ^ 31 → t ≡ (base + far + 1) % 2 ^ 32 → distance base t ≡ far + 1
unfolding distance
apart t base far small near is = omega arith

module _ (f : Flight) (inv : IsContiguous f) (s : Sack) (fits : s.cumulative_tsn_ack < 2 ^ 32) where
  abbrev marked-chunks : List ChunkPayloadData
  marked-chunks = change_where (reports_anew s) as_acknowledged f.queue.inflight.chunks

  pub count : length marked-chunks ≡ length f.queue.inflight.chunks
  count = length-change_where (reports_anew s) as_acknowledged f.queue.inflight.chunks

  pub run : IsRunFrom (following_tsn f.acked_tsn) marked-chunks
  run = changed-run (reports_anew s) as_acknowledged (λ c. refl) f.queue.inflight.chunks ∙ inv.run ∙ ap (tsns_from (following_tsn f.acked_tsn)) (sym count)

  module _ (within : distance f.acked_tsn s.cumulative_tsn_ack ≤ length f.queue.inflight.chunks) (mid then' : Outbound) (is : mid
      ≡ with_inflight f.queue marked-chunks) (after : then' ≡ with_inflight mid (drop (distance f.acked_tsn s.cumulative_tsn_ack) mid.inflight.chunks)) where
    abbrev d : ℕ
    d = distance f.acked_tsn s.cumulative_tsn_ack

    left : then' ≡ with_inflight f.queue (drop d marked-chunks)
    left = after ∙ ap (λ (o : Outbound). with_inflight o (drop d o.inflight.chunks)) is

    rest : IsRunFrom (following_tsn s.cumulative_tsn_ack) (drop d marked-chunks)
    rest =
        let cum = cum-is f.acked_tsn s.cumulative_tsn_ack inv.in_range fits in
        let same : (following_tsn f.acked_tsn + d) % 2 ^ 32 ≡ following_tsn s.cumulative_tsn_ack = omega arith in
        subst (λ t. IsRunFrom t (drop d marked-chunks)) same
        (dropped marked-chunks (following_tsn f.acked_tsn) d (omega arith) run (omega (arith, within, count)))

    remains : length (drop d marked-chunks) ≡ length f.queue.inflight.chunks - d
    remains = let n = length-drop d marked-chunks in omega (arith, n, count)

    in-line : IsInLine then'
    in-line =
        rest-in-line mid then' d (let n = ap (λ (o : Outbound). length o.inflight.chunks) is in omega (arith, n, count, within)) after
        (marked-in-line f.queue mid (reports_anew s) as_acknowledged (λ c. refl) is inv.side_by_side)

    pub contiguous : IsContiguous (record { queue = then'; next_tsn = f.next_tsn; acked_tsn = s.cumulative_tsn_ack })
    contiguous =
        subst (λ (o : Outbound). IsContiguous (record { queue = o; next_tsn = f.next_tsn; acked_tsn = s.cumulative_tsn_ack })) (sym left)
        (let cum = cum-is f.acked_tsn s.cumulative_tsn_ack inv.in_range fits in
        record {
          in_range = fits;
          run = rest;
          next = omega (arith, inv.next, remains, within, cum);
          few = omega (arith, inv.few, remains);
          side_by_side = subst IsInLine left in-line;
        })

    pub taken-is : is_outdated s f ≡ false
        → (let g : Flight = record { queue = then'; next_tsn = f.next_tsn; acked_tsn = s.cumulative_tsn_ack } in g) ≡ after_sack s f
    taken-is fresh =
        ap (λ (o : Outbound). let g : Flight = record { queue = o; next_tsn = f.next_tsn; acked_tsn = s.cumulative_tsn_ack } in g)
        (left ∙ ap (with_inflight f.queue)
        (sym (past-is marked-chunks f.acked_tsn s.cumulative_tsn_ack inv.in_range fits (omega (arith, inv.few, count)) (omega (arith, within, count)) run)))
        ∙ ap (λ b. if b then f else take_sack s f) (sym fresh)
