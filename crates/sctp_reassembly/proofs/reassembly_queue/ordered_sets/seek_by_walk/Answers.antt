use Rattle.std.proofs.Common.{◌≡◌, insert, sym, ap, ◌∙◌, arith}
use Rattle.std.specs.List.{position_or_len}
use Rattle.std.proofs.lemmas.Bool.Decides.{nat_tests}
use Rattle.sctp_util.specs.Serial.{comes_before16}
use Rattle.sctp_data.specs.ChunkSet.{ChunkSet}
use Rattle.sctp_reassembly.specs.reassembly_queue.Fragments.{has_ssn, set_before}
use Rattle.sctp_serial.proofs.lemmas.ListEdits.{none_at, inserted-position}
use Rattle.sctp_serial.specs.Ascending.{upper_half}
use Rattle.sctp_reassembly.proofs.lemmas.reassembly_queue.ExactFlags.{out_of_order_insert}
use Rattle.sctp_reassembly.proofs.reassembly_queue.ordered_sets.seek_by_walk.Goals as goal

pub returns-in-None-clause-free : goal.returns-in-None-clause-free
returns-in-None-clause-free c =
    let xs = c.args.sets.now.items in
    record {
      absent = none_at (has_ssn c.args.ssn) xs c.in-None.ensures.absent;
      in_range = c.set_gap.ensures.in_range;
      goes = λ x h.
          let same : c.args.ssn ≡ x.ssn = grind (arith, nat_tests) in
          ap (λ i. insert xs i x) (c.set_gap.ensures.place ∙ ap (λ n. position_or_len (λ (s : ChunkSet). comes_before16 n s.ssn) xs) same)
          ∙ sym (inserted-position set_before x xs);
      order = λ x h. tt;
    }

pub returns-in-None-clause-exact : goal.returns-in-None-clause-exact
returns-in-None-clause-exact c y same =
    out_of_order_insert (λ (s : ChunkSet). upper_half s.ssn) c.args.sets.now.items c.set_gap.result y c.set_gap.ensures.in_range c.requires
