-- Want of memory refuses where an accepted event can take some.
use Rattle.sctp_model.proofs.Names.{◌≡◌, true, None, refl, Event, LinkRecord, refusal_of, takes_memory, may_want_memory}

pub may-want : (w : LinkRecord) (e : Event) → refusal_of w e ≡ None → takes_memory w e ≡ true → may_want_memory w e ≡ true
may-want w e ok t = rw (t, ok) refl
