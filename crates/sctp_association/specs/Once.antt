-- Kinds of chunks of which a datagram has at most one: SACK, SHUTDOWN, RE-CONFIG and FORWARD-TSN.
use Rattle.std.specs.Prelude.{ℕ, ◌==◌, ◌||◌, Bool, false, if◌then◌else◌}
use Rattle.sctp_association.specs.declared.once.Once.{Once}

abbrev pub none_seen : Once
none_seen = record { sack = false; shutdown = false; reconfig = false; forward_tsn = false }

-- a chunk of this type came; of other kinds nothing is noted
abbrev pub seen : ℕ → Once → Once
seen t o = record {
  sack = o.sack || t == 3;
  shutdown = o.shutdown || t == 7;
  reconfig = o.reconfig || t == 130;
  forward_tsn = o.forward_tsn || t == 192;
}

abbrev pub has_seen : ℕ → Once → Bool
has_seen t o =
    if t == 3 then o.sack
    else (if t == 7 then o.shutdown else (if t == 130 then o.reconfig
    else (if t == 192 then o.forward_tsn else false)))
