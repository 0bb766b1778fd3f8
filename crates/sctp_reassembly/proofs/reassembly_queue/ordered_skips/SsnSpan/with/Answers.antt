use Rattle.std.proofs.Common.{rules, ◌<◌, ◌^◌, ◌+◌, ap, ◌∙◌}
use Rattle.std.specs.Prelude.{nat_lt}
use Rattle.sctp_util.specs.Serial.{distance16}
use Rattle.sctp_reassembly.proofs.lemmas.reassembly_queue.NotedSkips.{in-ahead, in-behind}
use Rattle.sctp_reassembly.proofs.reassembly_queue.ordered_skips.SsnSpan.with.Goals as goal

pub returns-then-ahead : goal.returns-then-ahead
unfolding distance16
returns-then-ahead c = λ x.
    let s = c.args.self in
    let last : s.last < 2 ^ 16 = search rules in
    let more : s.more < 2 ^ 16 = search rules in
    ap (λ n. nat_lt (distance16 x c.args.ssn) (2 ^ 15 + n)) c.saturating_add.ensures ∙ in-ahead s.last s.more c.args.ssn x last more c.if-ahead.true

pub returns : goal.returns
unfolding distance16
returns c = λ x.
    let s = c.args.self in
    let last : s.last < 2 ^ 16 = search rules in
    let ssn : c.args.ssn < 2 ^ 16 = search rules in
    ap (λ n. nat_lt (distance16 x s.last) (2 ^ 15 + n)) c.max.ensures ∙ in-behind s.last s.more c.args.ssn x last ssn c.if-ahead.false
