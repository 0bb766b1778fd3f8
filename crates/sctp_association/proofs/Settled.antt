-- What a shutdown has due as it goes on leaves, or stays due.
use Rattle.std.proofs.Common.{◌≡◌, ℕ, List, Bool, Option, ap, subst, ◌∙◌}
use Rattle.sctp_association.specs.declared.association.Association.{Association}
use Rattle.sctp_association.specs.declared.due.Due.{Due}
use Rattle.sctp_association.specs.declared.inbound.Inbound.{Inbound}
use Rattle.sctp_association.specs.Kept.{sack_waits, unknown_in}
use Rattle.sctp_association.specs.Leaving.{IsSentIn, IsTooLong, Leaves, Replies, acked_of, replies_of}

abbrev replies-with : Due → Option (List ℕ) → Option Inbound → ℕ → Replies
replies-with d cookie i limit = record {
  cookie_echo = d.cookie_echo;
  cookie_ack = d.cookie_ack;
  shutdown = d.shutdown;
  shutdown_ack = d.shutdown_ack;
  heartbeat = d.heartbeat;
  cookie = cookie;
  acked = acked_of i;
  limit = limit;
  sack = sack_waits i;
  report = d.report;
  unknown = unknown_in i;
}

module _ (a s : Association) (d : Due) (due : s.due ≡ d) (cookie : s.cookie ≡ a.cookie) (inbound : s.inbound ≡ a.inbound)
    (limit : s.draft.limit ≡ a.draft.limit) where
  same-replies : replies_of s ≡ replies_of (record a { due = d })
  same-replies = ap (λ (x : Due). replies-with x s.cookie s.inbound s.draft.limit) due
      ∙ ap (λ (x : Option (List ℕ)). replies-with d x s.inbound s.draft.limit) cookie
      ∙ ap (λ (x : Option Inbound). replies-with d a.cookie x s.draft.limit) inbound
      ∙ ap (λ (x : ℕ). replies-with d a.cookie a.inbound x) limit

  -- as it goes by what is due behind the step
  pub settled_leaves : (sent : Bool) (bytes : List ℕ) (r : Replies) → Leaves (IsSentIn sent bytes) (IsTooLong s.draft.limit) (replies_of s) r
      → Leaves (IsSentIn sent bytes) (IsTooLong a.draft.limit) (replies_of (record a { due = d })) r
  settled_leaves sent bytes r h = subst (λ (n : ℕ). Leaves (IsSentIn sent bytes) (IsTooLong n) (replies_of (record a { due = d })) r) limit
      (subst (λ (x : Replies). Leaves (IsSentIn sent bytes) (IsTooLong s.draft.limit) x r) same-replies h)
