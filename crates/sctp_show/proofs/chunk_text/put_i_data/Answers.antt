use Rattle.std.proofs.Common.{refl}
use Rattle.sctp_show.proofs.chunk_text.put_i_data.Goals as goal

pub returns : goal.returns
returns c = rw (
  c.in_ok-bytes.ensures.text,
  c.in_ok-number-4.ensures.text,
  c.in_ok-number-3.ensures.text,
  c.in_ok-number-2.ensures.text,
  c.in_ok-number.ensures.text,
  c.number-4.ensures.form,
  c.number-3.ensures.form,
  c.number-2.ensures.form,
  c.number.ensures.form,
  c.distance.ensures.value,
  c.read_u32.ensures,
  c.read_u16.ensures,
  c.read_u32-2.ensures,
  c.read_u32-3.ensures,
  c.split_at.ensures.back,
) refl
