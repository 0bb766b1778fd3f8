use Rattle.std.proofs.Common.{◌≡◌, subst, sym, ◌∙◌, rules}
use Rattle.sctp_c.specs.Out.{padded}
use Rattle.sctp_c.specs.Written.{IsEncoded, IsReadChunk}
use Rattle.sctp_c.proofs.Written.{headed, is_changed, is_read_chunk, not_given}
use Rattle.sctp_c.proofs.writing.write_read.Goals as goal

pub slice_bounds-is_as_given-count : goal.slice_bounds-is_as_given-count
slice_bounds-is_as_given-count c =
    let same : c.in-Ok.bytes ≡ c.deref.result.now = search rules in
    headed c.args.typ c.args.flags c.args.value.now c.deref.result.now
    (subst (λ b. IsEncoded c.args.typ c.args.flags c.args.value.now b) same c.in-Ok.ensures.found)

pub slice_bounds-is_as_given-start : goal.slice_bounds-is_as_given-start
slice_bounds-is_as_given-start c =
    let same : c.in-Ok.bytes ≡ c.deref.result.now = search rules in
    headed c.args.typ c.args.flags c.args.value.now c.deref.result.now
    (subst (λ b. IsEncoded c.args.typ c.args.flags c.args.value.now b) same c.in-Ok.ensures.found)

pub returns-then-not-is_as_given-clause-changed : goal.returns-then-not-is_as_given-clause-changed
returns-then-not-is_as_given-clause-changed c = λ _.
    let same : c.in-Ok.bytes ≡ c.deref.result.now = search rules in
    is_changed c.args.typ c.args.flags c.args.value.now c.deref.result.now
    (subst (λ b. IsEncoded c.args.typ c.args.flags c.args.value.now b) same c.in-Ok.ensures.found)
    (c.is_as_given.ensures.no c.if-not-is_as_given.true)

pub returns-then-not-is_as_given-clause-only : goal.returns-then-not-is_as_given-clause-only
returns-then-not-is_as_given-clause-only c = λ w reads given short _ _.
    let same : c.in-Ok.bytes ≡ c.deref.result.now = search rules in
    absurd (not_given c.args.typ c.args.flags c.args.value.now c.deref.result.now w (sym same ∙ c.in-Ok.ensures.only w reads short)
    (c.is_as_given.ensures.no c.if-not-is_as_given.true) given)

pub returns-clause-done : goal.returns-clause-done
returns-clause-done c = λ done.
    let same : c.in-Ok.bytes ≡ c.deref.result.now = search rules in
    let again : c.deref.result.now ≡ c.deref-2.result.now = search rules in
    let found = subst (λ b. IsEncoded c.args.typ c.args.flags c.args.value.now b) same c.in-Ok.ensures.found in
    let flagged = is_read_chunk c.args.typ c.args.flags c.args.value.now c.deref.result.now found
    (c.is_as_given.ensures.yes c.if-not-is_as_given.false) in record {
      bytes = padded c.deref-2.result.now;
      wanted = subst (λ b. IsReadChunk c.args.typ c.args.flags c.args.value.now (padded b)) again flagged;
      front = c.put_padded.ensures.done done;
      written = c.put_padded.ensures.written;
    }

pub returns-clause-short : goal.returns-clause-short
returns-clause-short c = λ short.
    let same : c.in-Ok.bytes ≡ c.deref.result.now = search rules in
    let again : c.deref.result.now ≡ c.deref-2.result.now = search rules in
    let found = subst (λ b. IsEncoded c.args.typ c.args.flags c.args.value.now b) same c.in-Ok.ensures.found in
    let flagged = is_read_chunk c.args.typ c.args.flags c.args.value.now c.deref.result.now found
    (c.is_as_given.ensures.yes c.if-not-is_as_given.false) in
    let s = c.put_padded.ensures.short (search rules) in record {
      bytes = padded c.deref-2.result.now;
      wanted = subst (λ b. IsReadChunk c.args.typ c.args.flags c.args.value.now (padded b)) again flagged;
      short = s.1;
      same = s.2;
      written = c.put_padded.ensures.written;
    }
