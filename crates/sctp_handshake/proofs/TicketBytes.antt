-- A ticket and its bytes.
use Rattle.std.proofs.Common.{◌≡◌, ℕ, zero, suc, ◌+◌, ◌<◌, ◌≤◌, ◌^◌, Bool, true, false, List, [], ◌∷◌, ◌++◌, length, take, drop, get_or, refl, ap, ◌∙◌, arith}
use Rattle.std.specs.Prelude.{◌==◌, nat_le, not, ◌&&◌, if◌then◌else◌, Option, Some, None, Ok, Err, IfOk}
use Rattle.std.specs.Int.{w16, w32, from_be_bytes, to_be_bytes}
use Rattle.std.proofs.Math.Seq.{take-add, drop-cons}
use Rattle.std.proofs.lemmas.Bool.Decides.{nat_tests}
use Rattle.std.proofs.lemmas.List.{drop-drop, take_all}
use Rattle.std.proofs.lemmas.Nat.{from_be_bytes-to_be_bytes_2, from_be_bytes-to_be_bytes_4}
use Rattle.sctp_util.specs.Field.{AreBytes, be16, be32, u16_at, u32_at}
use Rattle.sctp_util.proofs.Bytes.{be16_u16, be32_u32}
use Rattle.sctp_handshake.specs.declared.offer.Offer.{Offer}
use Rattle.sctp_handshake.specs.declared.ticket.Ticket.{Ticket}
use Rattle.sctp_handshake.specs.declared.ticket.TicketFault.TheVariants.{WrongLength, NoFlag, StrayTieTags}
use Rattle.sctp_handshake.specs.declared.ticket.TieTags.{TieTags}
use Rattle.sctp_handshake.specs.Tickets.{OfferFits, TieTagsFit, TicketFits, flag, offer_bytes, tie_tags_bytes, ticket_bytes, is_flag, are_flags, flag_at, offer_at, tie_tags_at, are_stray, has_flags, ticket_at, ticket_in}

-- ## Read as it was written

flag_small : (b : Bool) → nat_le (flag b) 1 ≡ true
flag_small true = refl
flag_small false = refl

flag_again : (b : Bool) → (flag b == 1) ≡ b
flag_again true = refl
flag_again false = refl

u32_again : (n : ℕ) → n < 2 ^ 32 → from_be_bytes w32 (to_be_bytes w32 n) ≡ n
u32_again = from_be_bytes-to_be_bytes_4

u16_again : (n : ℕ) → n < 2 ^ 16 → from_be_bytes w16 (to_be_bytes w16 n) ≡ n
u16_again = from_be_bytes-to_be_bytes_2

parts : (own peer : Offer) (tie_tags : Option TieTags) → OfferFits own → OfferFits peer → TieTagsFit tie_tags
    → ticket_in (ticket_bytes (record { own = own; peer = peer; tie_tags = tie_tags })) ≡ Ok (record { own = own; peer = peer; tie_tags = tie_tags })
unfolding be16 be32 u16_at u32_at
parts own peer None f g h =
    rw (
      flag_small own.forward_tsn,
      flag_small own.reconfig,
      flag_small own.zero_checksum,
      flag_small peer.forward_tsn,
      flag_small peer.reconfig,
      flag_small peer.zero_checksum,
      flag_again own.forward_tsn,
      flag_again own.reconfig,
      flag_again own.zero_checksum,
      flag_again peer.forward_tsn,
      flag_again peer.reconfig,
      flag_again peer.zero_checksum,
      u32_again own.tag f.tag,
      u32_again own.window f.window,
      u16_again own.outbound_streams f.outbound_streams,
      u16_again own.inbound_streams f.inbound_streams,
      u32_again own.first_tsn f.first_tsn,
      u32_again peer.tag g.tag,
      u32_again peer.window g.window,
      u16_again peer.outbound_streams g.outbound_streams,
      u16_again peer.inbound_streams g.inbound_streams,
      u32_again peer.first_tsn g.first_tsn,
    ) refl
parts own peer (Some tie_tags) f g h =
    rw (
      flag_small own.forward_tsn,
      flag_small own.reconfig,
      flag_small own.zero_checksum,
      flag_small peer.forward_tsn,
      flag_small peer.reconfig,
      flag_small peer.zero_checksum,
      flag_again own.forward_tsn,
      flag_again own.reconfig,
      flag_again own.zero_checksum,
      flag_again peer.forward_tsn,
      flag_again peer.reconfig,
      flag_again peer.zero_checksum,
      u32_again own.tag f.tag,
      u32_again own.window f.window,
      u16_again own.outbound_streams f.outbound_streams,
      u16_again own.inbound_streams f.inbound_streams,
      u32_again own.first_tsn f.first_tsn,
      u32_again peer.tag g.tag,
      u32_again peer.window g.window,
      u16_again peer.outbound_streams g.outbound_streams,
      u16_again peer.inbound_streams g.inbound_streams,
      u32_again peer.first_tsn g.first_tsn,
      u32_again tie_tags.own h.0,
      u32_again tie_tags.peer h.1,
    ) refl

pub again : (t : Ticket) → TicketFits t → ticket_in (ticket_bytes t) ≡ Ok t
again t fits = parts t.own t.peer t.tie_tags fits.own fits.peer fits.tie_tags

-- ## Written as it was read

joins : (bytes : List ℕ) (at k n : ℕ) → take k (drop at bytes) ++ take n (drop (at + k) bytes) ≡ take (k + n) (drop at bytes)
joins bytes at k n = rw (take-add, drop-drop) refl

one : (bytes : List ℕ) (at : ℕ) → at < length bytes → get_or bytes at 0 ∷ [] ≡ take 1 (drop at bytes)
one bytes at lt = rw (drop-cons bytes at 0 lt) refl

flag_written : (bytes : List ℕ) (at : ℕ) → at < length bytes → is_flag bytes at ≡ true → flag (flag_at bytes at) ∷ [] ≡ take 1 (drop at bytes)
flag_written bytes at lt small = ap (λ n. n ∷ []) (same (get_or bytes at 0) small) ∙ one bytes at lt
  where
    same : (n : ℕ) → nat_le n 1 ≡ true → flag (n == 1) ≡ n
    same zero h = refl
    same (suc zero) h = refl
    same (suc (suc n)) h = absurd (grind (arith, nat_tests))

joins_at : (bytes : List ℕ) (at later k n : ℕ) → later ≡ at + k → take k (drop at bytes) ++ take n (drop later bytes) ≡ take (k + n) (drop at bytes)
joins_at bytes at later k n e = rw e (joins bytes at k n)

three : (x y z : ℕ) (p q r s : List ℕ) → x ∷ [] ≡ p → y ∷ [] ≡ q → z ∷ [] ≡ r → (p ++ q) ++ r ≡ s → x ∷ y ∷ z ∷ [] ≡ s
three x y z p q r s a b c e =
    ap (λ (u : List ℕ). (u ++ (y ∷ [])) ++ (z ∷ [])) a ∙ ap (λ (u : List ℕ). (p ++ u) ++ (z ∷ [])) b ∙ ap (λ (u : List ℕ). (p ++ q) ++ u) c ∙ e

and_true : (a b : Bool) → (a && b) ≡ true → (a ≡ true) × (b ≡ true)
and_true true true e = (refl, refl)
and_true true false e = cc
and_true false b e = cc

module _ (bytes : List ℕ) (h : AreBytes bytes) where
  flags_written : (at : ℕ) → at + 3 ≤ length bytes → are_flags bytes at ≡ true
      → flag (flag_at bytes at) ∷ flag (flag_at bytes (at + 1)) ∷ flag (flag_at bytes (at + 2)) ∷ [] ≡ take 3 (drop at bytes)
  flags_written at le small =
      let both = and_true (is_flag bytes at && is_flag bytes (at + 1)) (is_flag bytes (at + 2)) small in
      let two = and_true (is_flag bytes at) (is_flag bytes (at + 1)) both.0 in
      three _ _ _ _ _ _ _ (flag_written bytes at (omega arith) two.0) (flag_written bytes (at + 1) (omega arith) two.1)
      (flag_written bytes (at + 2) (omega arith) both.1)
      (ap (λ (x : List ℕ). x ++ take 1 (drop (at + 2) bytes)) (joins bytes at 1 1) ∙ joins bytes at 2 1)

  offer_written : (at marks : ℕ) → marks ≡ at + 16 → at + 19 ≤ length bytes → are_flags bytes marks ≡ true → offer_bytes (offer_at bytes at) ≡ take 19
      (drop at bytes)
  offer_written at marks e le small =
      let first : be32 (u32_at bytes at) ≡ take 4 (drop at bytes) = be32_u32 bytes at h (omega arith) in
      let flags = flags_written marks (omega arith) small in
      let places : (marks + 1 ≡ at + 17) × (marks + 2 ≡ at + 18) = (omega arith, omega arith) in
      rw (
        first,
        be32_u32 bytes (at + 4) h (omega arith),
        joins bytes at 4 4,
        be16_u16 bytes (at + 8) h (omega arith),
        joins bytes at 8 2,
        be16_u16 bytes (at + 10) h (omega arith),
        joins bytes at 10 2,
        be32_u32 bytes (at + 12) h (omega arith),
        joins bytes at 12 4,
      )
      (ap (λ (x : List ℕ). take 16 (drop at bytes) ++ x) (rw (places.0, places.1, e) at flags) ∙ joins bytes at 16 3)

  tags_written : 47 ≤ length bytes → (n : ℕ) → n ≡ get_or bytes 38 0 → n ∷ [] ++ be32 (u32_at bytes 39) ++ be32 (u32_at bytes 43) ≡ take 9 (drop 38 bytes)
  tags_written le n e =
      ap (λ m. m ∷ [] ++ be32 (u32_at bytes 39) ++ be32 (u32_at bytes 43)) e
      ∙ ap (λ (x : List ℕ). x ++ be32 (u32_at bytes 39) ++ be32 (u32_at bytes 43)) (one bytes 38 (omega arith))
      ∙ rw (be32_u32 bytes 39 h (omega arith), joins bytes 38 1 4, be32_u32 bytes 43 h (omega arith), joins bytes 38 5 4) refl

  tie_tags_written : 47 ≤ length bytes → is_flag bytes 38 ≡ true → are_stray bytes ≡ false → tie_tags_bytes (tie_tags_at bytes) ≡ take 9 (drop 38 bytes)
  tie_tags_written le small tight = matched (flag_at bytes 38) refl
    where
      matched : (b : Bool) → flag_at bytes 38 ≡ b
          → tie_tags_bytes (if b then Some (record { own = u32_at bytes 39; peer = u32_at bytes 43 }) else None) ≡ take 9 (drop 38 bytes)
      matched true e = tags_written le 1 (grind (arith, nat_tests))
      matched false e =
          let here : 0 ≡ get_or bytes 38 0 = grind (arith, nat_tests) in
          let own : 0 ≡ u32_at bytes 39 = grind (arith, nat_tests) in
          let peer : 0 ≡ u32_at bytes 43 = grind (arith, nat_tests) in
          ap (λ n. 0 ∷ [] ++ be32 n ++ be32 0) own ∙ ap (λ n. 0 ∷ [] ++ be32 (u32_at bytes 39) ++ be32 n) peer ∙ tags_written le 0 here

  ticket_written : 47 ≡ length bytes → has_flags bytes ≡ true → are_stray bytes ≡ false → ticket_bytes (ticket_at bytes) ≡ bytes
  ticket_written e flags tight =
      let both = and_true (are_flags bytes 16 && are_flags bytes 35) (is_flag bytes 38) flags in
      let two = and_true (are_flags bytes 16) (are_flags bytes 35) both.0 in
      rw (
        offer_written 0 16 refl (omega arith) two.0,
        offer_written 19 35 refl (omega arith) two.1,
        tie_tags_written (omega arith) both.1 tight,
        joins bytes 0 19 19,
        joins bytes 0 38 9,
      ) (take_all 47 bytes (omega arith))

  pub written : IfOk (ticket_in bytes) (λ t. ticket_bytes t ≡ bytes)
  written = by_length (length bytes == 47) refl
    where
      by_stray : (b : Bool) → are_stray bytes ≡ b → 47 ≡ length bytes → has_flags bytes ≡ true
          → IfOk (if b then Err StrayTieTags else Ok (ticket_at bytes)) (λ t. ticket_bytes t ≡ bytes)
      by_stray true tight e flags = tt
      by_stray false tight e flags = ticket_written e flags tight

      by_flags : (b : Bool) → has_flags bytes ≡ b → 47 ≡ length bytes
          → IfOk (if not b then Err NoFlag else (if are_stray bytes then Err StrayTieTags else Ok (ticket_at bytes))) (λ t. ticket_bytes t ≡ bytes)
      by_flags true flags e = by_stray (are_stray bytes) refl e flags
      by_flags false flags e = tt

      by_length : (b : Bool) → (length bytes == 47) ≡ b
          → IfOk (if not b then Err WrongLength else (if not (has_flags bytes) then Err NoFlag else (if are_stray bytes then Err StrayTieTags else Ok
          (ticket_at bytes))))
          (λ t. ticket_bytes t ≡ bytes)
      by_length true e = by_flags (has_flags bytes) refl (grind (arith, nat_tests))
      by_length false e = tt
