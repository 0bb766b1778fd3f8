-- Known bytes that are held or still to be read.
use Rattle.std.proofs.Common.{ℕ, List, [], None, Some, refl}
use Rattle.std.specs.Prelude.{Option}
use Rattle.std.specs.Io.KnownBytes.{Keeps, prepend_known}

pub held_none : (a : Option (List ℕ)) → Keeps a (prepend_known [] a)
held_none None = tt
held_none (Some xs) = refl
