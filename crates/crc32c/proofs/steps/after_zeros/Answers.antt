use Rattle.std.proofs.Common.{◌≡◌, ◌∙◌, ℕ, suc, ◌-◌, ◌%◌, ◌<◌, [], get_or, ap, arith}
use Rattle.std.specs.Prelude.{bit_and}
use Rattle.std.proofs.lemmas.Nat.{and_mask}
use Rattle.crc32c.specs.Castagnoli.{zero_bytes}
use Rattle.crc32c.specs.declared.tables.TheConstants.{TABLES}
use Rattle.crc32c.proofs.Rows.{table_at}
use Rattle.crc32c.proofs.steps.after_zeros.Goals as goal

entry : (zeros word : ℕ) → 0 < zeros → zeros < 17
    → get_or (get_or TABLES (zeros - 1) []) (bit_and word 255) 0 ≡ zero_bytes zeros (word % 256)
entry zeros word some few =
    let again : suc (zeros - 1) ≡ zeros = omega arith in
    ap (λ b. get_or (get_or TABLES (zeros - 1) []) b 0) (and_mask word 8)
    ∙ table_at (zeros - 1) (word % 256) (omega arith) (omega arith)
    ∙ ap (λ k. zero_bytes k (word % 256)) again

pub returns : goal.returns
returns c = entry c.args.zeros c.args.word c.requires.some (omega arith)
