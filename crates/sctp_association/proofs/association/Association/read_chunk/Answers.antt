use Rattle.std.proofs.Common.{arith, ◌≡◌, ◌+◌}
use Rattle.sctp_association.proofs.Carrying.{place_within, read_cut, read_there}
use Rattle.sctp_association.proofs.association.Association.read_chunk.Goals as goal

pub returns-in-Ok-clause-found : goal.returns-in-Ok-clause-found
returns-in-Ok-clause-found g c =
    let within = place_within _ _ c.requires.place in
    let end : c.saturating_add-end.result ≡ c.args.chunk.at + c.args.chunk.length =
    omega (arith, within, c.saturating_add-end.ensures, c.len.ensures.value, c.len.ensures.bound) in
    read_there _ _ c.requires.place _ end _ c.in_ok-raw.ensures.ok _ c.in-Ok.ensures.found

pub returns-clause-some : goal.returns-clause-some
returns-clause-some g c w kind reads none =
    let within = place_within _ _ c.requires.place in
    let end : c.saturating_add-end.result ≡ c.args.chunk.at + c.args.chunk.length =
    omega (arith, within, c.saturating_add-end.ensures, c.len.ensures.value, c.len.ensures.bound) in
    c.in_ok-unless_memory-in-Err.ensures (c.in-Err.ensures.only w kind (read_cut _ _ c.requires.place _ end _ c.in_ok-raw.ensures.ok w reads))
