use Rattle.std.proofs.Common.{refl}
use Rattle.sctp_show.proofs.chunk_text.put_data.Goals as goal

pub returns : goal.returns
returns c = rw (
  c.in_ok-bytes.ensures.text,
  c.in_ok-truth-4.ensures.text,
  c.in_ok-truth-3.ensures.text,
  c.in_ok-truth-2.ensures.text,
  c.in_ok-truth.ensures.text,
  c.in_ok-put_payload_name.ensures.text,
  c.in_ok-number-4.ensures.text,
  c.in_ok-number-3.ensures.text,
  c.in_ok-number-2.ensures.text,
  c.in_ok-number.ensures.text,
  c.truth-4.ensures.form,
  c.truth-3.ensures.form,
  c.truth-2.ensures.form,
  c.truth.ensures.form,
  c.put_payload_name.ensures.form,
  c.number-4.ensures.form,
  c.number-3.ensures.form,
  c.number-2.ensures.form,
  c.number.ensures.form,
  c.distance.ensures.value,
  c.as_slice-bytes.ensures,
) refl
