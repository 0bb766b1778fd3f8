use Rattle.std.proofs.Common.{sym, ◌∙◌}
use Rattle.sctp_link.proofs.standings.Kept.{numbers-alike}
use Rattle.sctp_link.proofs.standings.Rooms.{room-none}
use Rattle.sctp_link.proofs.progress.completions.make_room.Goals as goal

pub loop-at-init : goal.loop-at-init
loop-at-init c =
    record {
      kept = c.clear_counts.ensures.kept;
      counted = c.clear_counts.ensures.counted;
      room = room-none c.clear_counts.new.streams.items;
      spare = c.clear_counts.ensures.stays c.args.chunks.now;
    }

pub count_one-requires-clause-numbers : goal.count_one-requires-clause-numbers
count_one-requires-clause-numbers c = c.requires ∙ sym (numbers-alike c.args.streams.now.items c.loop-at.streams.items c.loop-at.invariant.kept)

pub loop-at-preserved : goal.loop-at-preserved
loop-at-preserved c =
    record {
      kept = c.count_one.ensures.kept ∙ c.loop-at.invariant.kept;
      counted = c.count_one.ensures.counted;
      room = c.in_ok-count_one.ensures.room c.loop-at.invariant.room;
      spare = λ h. c.count_one.ensures.stays c.args.chunks.now (c.loop-at.invariant.spare h);
    }
