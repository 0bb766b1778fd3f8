-- Which packets are shown, by several filters.
use Rattle.std.specs.Prelude.{Bool, ◌==◌, ◌&&◌, not, if◌then◌else◌, length}
use Rattle.std.specs.List.{list_any, list_all}
use Rattle.sctp_dissect.specs.declared.dissection.Dissection.{Dissection}
use Rattle.sctp_show.specs.Filter as filters
use Rattle.sctp_show.specs.declared.scene.Scene.{Scene}
use Rattle.sctp_show.specs.declared.choice.Term.{Term}
use Rattle.sctp_show.specs.declared.choice.Either.{Either}
use Rattle.sctp_show.specs.declared.choice.Choice.{Choice}

-- a packet passes the filter of the term, or is not to pass it and does not
abbrev pub is_met_by : Scene → Dissection → Term → Bool
is_met_by s d term =
    if term.is_not then not (filters.passes term.filter s d) else filters.passes term.filter s d

-- it meets one of the terms
abbrev pub has_one : Scene → Dissection → Either → Bool
has_one s d either = list_any (is_met_by s d) either.terms.items

-- it passes the filter of all, and meets one term of each of the others
abbrev pub passes : Choice → Scene → Dissection → Bool
passes c s d = filters.passes c.all s d && list_all (has_one s d) c.any.items

-- any packet passes; only then is a record shown that has no packet
abbrev pub asks_nothing : Choice → Bool
asks_nothing c = filters.asks_nothing c.all && (length c.any.items == 0)
