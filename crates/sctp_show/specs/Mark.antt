-- What stands out on a terminal.
use Rattle.std.specs.Prelude.{ℕ, Bool, List, ◌∷◌, ◌++◌, codes, Option, Some, None, if◌then◌else◌}
use Rattle.sctp_show.specs.declared.mark.Side.{Side}
use Rattle.sctp_show.specs.declared.mark.Side.TheVariants.{First, Second}
use Rattle.sctp_show.specs.declared.mark.Mark.{Mark}
use Rattle.sctp_show.specs.declared.mark.Mark.TheVariants.{Plain, Refused, Repeated, Forth, Back}

-- the color of the side that sent a packet, where that is known
abbrev pub side_mark : Option Side → Mark
side_mark None = Plain
side_mark (Some First) = Forth
side_mark (Some Second) = Back

-- Where lines are colored, one of a packet that is refused is red, one that repeats a TSN yellow, and another one has the color of its side.
abbrev pub mark_of : Bool → Bool → Bool → Option Side → Mark
mark_of is_colored is_refused is_repeated side =
    if is_colored
    then (if is_refused then Refused else if is_repeated then Repeated else side_mark side)
    else Plain

-- The line, and around it, where it stands out, what begins its color and what ends it.
abbrev pub marked : Mark → List ℕ → List ℕ
marked Plain line = line
marked Refused line = (27 ∷ codes "[31m") ++ (line ++ (27 ∷ codes "[0m"))
marked Repeated line = (27 ∷ codes "[33m") ++ (line ++ (27 ∷ codes "[0m"))
marked Forth line = (27 ∷ codes "[36m") ++ (line ++ (27 ∷ codes "[0m"))
marked Back line = (27 ∷ codes "[35m") ++ (line ++ (27 ∷ codes "[0m"))
