-- What a skip names on the open streams of a link, by its messages and by its record.
use Rattle.sctp_link.proofs.Names.{◌≡◌, ℕ, ◌<◌, List, [], length, Some, refl, sym, ◌∙◌, slice_get, slice_index_or, get_or_default, Forward, StreamRecord}
use Rattle.sctp_link.proofs.Names.{Inside, Named, record_in, state_in, sides_in, IsLinked, IsAligned, named_from, none_named, new_open_stream, named_in}
use Rattle.sctp_link.proofs.Names.{HasNames, skips-in}
use Rattle.sctp_link.specs.Progress.{fresh}
use Rattle.sctp_link.proofs.sides.Changes.{number-answered}
use Rattle.sctp_link.proofs.skips.SkipComes.{record-at, names-are}
use Rattle.sctp_link.proofs.upkeep.Facts.{facts}

module _ {C : Type 0} (sum : List ℕ → ℕ) (a : Inside C) (al : IsAligned a.sender a.receiver a.progress) (l : IsLinked sum (state_in a)) (k upto : ℕ)
    (names : List ℕ) (lies : slice_get (record_in a).network k ≡ Some (Forward upto names)) (at' : ℕ) (inside : at' < length a.progress) where
  -- on the stream at a place
  pub named-there : (s : ℕ) → s ≡ (slice_index_or a.progress at' (fresh 0)).number → (r : StreamRecord) → slice_get (record_in a).streams at' ≡ Some r
      → named_from a.messages.items s none_named names ≡ named_in (record_in a) r.stream names
  named-there s number r e =
      let y = new_open_stream 0 0 0 in
      let same : s ≡ r.stream =
      number ∙ number-answered al at' (fresh 0) y inside ∙ sym (record-at (sides_in a).streams at' y r e) in
      cc (same, names-are l a.messages.items refl refl upto r.stream names (skips-in (facts l) k upto names lies).fit)

  -- as a table has it
  pub table-there : (table : List Named) → HasNames a.messages.items names [] a.progress table → (r : StreamRecord) (d : Named)
      → slice_get (record_in a).streams at' ≡ Some r → at' < length table → d ≡ slice_index_or table at' d → d ≡ named_in (record_in a) r.stream names
  table-there table h r d e lt is =
      let p = slice_index_or a.progress at' (fresh 0) in
      h at' p d lt inside (get_or_default a.progress at' (fresh 0) p inside) is ∙ named-there p.number refl r e
