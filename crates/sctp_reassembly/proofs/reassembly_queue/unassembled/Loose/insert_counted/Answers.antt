use Rattle.std.proofs.Common.{rules, ◌≤◌, ap, ◌∙◌, sym, subst, length, insert, arith}
use Rattle.std.proofs.lemmas.List.Edits.{length-insert}
use Rattle.sctp_serial.specs.DataChunks.{bytes_of}
use Rattle.sctp_serial.specs.Runs.{HasNoRun}
use Rattle.sctp_reassembly.proofs.lemmas.reassembly_queue.Stretches.{apart_after, bytes_with}
use Rattle.sctp_reassembly.proofs.lemmas.reassembly_queue.Unassembled.{same_list, same_long, same_places, same_parts}
use Rattle.sctp_reassembly.proofs.reassembly_queue.unassembled.Loose.insert_counted.Goals as goal

pub invariant_of-self : goal.invariant_of-self
invariant_of-self c =
    let inv = c.self.invariant in
    rw c.in_err-put_among.ensures.err record {
      counted = inv.counted;
      order = inv.order;
      room = omega (arith, inv.room, c.in_err-put_among.ensures.capacity);
      apart = inv.apart;
    }

pub invariant_of-self-2 : goal.invariant_of-self-2
invariant_of-self-2 c =
    let xs = c.self.inside.chunks.items in
    let le : c.args.place ≤ length xs = omega (arith, c.requires.place, same_long c.self.view_is) in
    let put = c.in_ok-put_among.ensures.ok ∙ ap (insert xs c.args.place) c.in_ok-fragment.ensures in
    record {
      counted = omega (
        arith,
        c.self.invariant.counted,
        c.saturating_add-self-inside.ensures,
        c.len-len.ensures.value,
        bytes_with xs c.args.chunk c.args.place le,
        ap bytes_of put,
      );
      order = search rules;
      room = search rules;
      apart = apart_after c.apart_at-self-inside.result c.args.searched xs c.put_among.new.chunks.items c.args.chunk c.args.place le put
          (λ on. subst HasNoRun (sym (same_list c.self.view_is)) (c.requires.searched on)) c.apart_at-self-inside.ensures;
    }

pub returns-clause-ok : goal.returns-clause-ok
returns-clause-ok c =
    let xs = c.self.inside.chunks.items in
    let le : c.args.place ≤ length xs = omega (arith, c.requires.place, same_long c.self.view_is) in
    let put = c.in_ok-put_among.ensures.ok ∙ ap (insert xs c.args.place) c.in_ok-fragment.ensures in
    same_parts (put ∙ ap (λ ls. insert ls c.args.place c.args.chunk) (same_list c.self.view_is)) (omega (
      arith,
      c.max-self-inside.ensures,
      c.len.ensures,
      c.put_among.new.chunks.ok.0,
      ap length put,
      length-insert xs c.args.place c.args.chunk le,
      same_places c.self.view_is,
      same_long c.self.view_is,
    ))
