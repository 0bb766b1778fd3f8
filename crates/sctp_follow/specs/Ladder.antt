-- The rungs of a ladder.
use Rattle.std.specs.Prelude.{ℕ, List, ◌++◌, codes}
use Rattle.sctp_follow.specs.declared.ladder.Rung.{Rung}
use Rattle.sctp_follow.specs.declared.ladder.Rung.TheVariants.{Forth, Back, Below}

-- An arrow has its words where it begins, and its head in the column that it goes to.
abbrev pub rung_text : Rung → List ℕ → List ℕ → List ℕ
rung_text Forth words fill = codes "|-- " ++ (words ++ (codes " " ++ (fill ++ codes ">|")))
rung_text Back words fill = codes "|<" ++ (fill ++ (codes " " ++ (words ++ codes " --|")))
rung_text Below words fill = codes "|   " ++ (words ++ (codes " " ++ (fill ++ codes " |")))
