-- What `poll` and `read` answer, by what is left.
use Rattle.std.proofs.Common.{◌≡◌, ◌⊎◌, ℕ, ◌+◌, ◌^◌, true, false, List, Option, Some, None, inl, inr, refl, ap, sym, ◌∙◌, subst, arith}
use Rattle.std.specs.Prelude.{is_some}
use Rattle.std.specs.List.{list_any}
use Rattle.sctp_association.specs.Events.{BringsNone, IsTold, KeepsOthers, NoneWaits}
use Rattle.sctp_association.specs.declared.association.Association.{Association}
use Rattle.sctp_association.specs.declared.event.Event.{Event}
use Rattle.sctp_channels.proofs.Coming.{comes_by, comes_less, comes_more, comes_to, state_kept}
use Rattle.sctp_channels.specs.Answers.{Polls, after_told, next_told}
use Rattle.sctp_channels.specs.Channels.{has_news}
use Rattle.sctp_channels.specs.Rest.{Keeps}
use Rattle.sctp_channels.specs.Steps.{Comes, IsSettled, IsTaken, State, after_event, held_of, state_of, takes, told_by}
use Rattle.sctp_channels.specs.declared.channel.Channel.{Channel}
use Rattle.sctp_channels.specs.declared.channels.Channels.{Channels}
use Rattle.sctp_channels.specs.declared.event.ChannelEvent.{ChannelEvent}

-- some steps, and then some
pub comes_on : (now m n : ℕ) (s t u : State) → Comes now m s t → Comes now n t u → Comes now 0 s u
comes_on now m n s t u a b = comes_less now 0 (m + n) s u (omega arith) (comes_more now m n s t u a b)

pub settled_is : (c : Channels) (a : Association) → c.held ≡ None → c.arrived ≡ None → c.owed ≡ None → IsSettled (state_of c a)
settled_is c a held arrived owed = record { held = ap held_of held; arrived = arrived; owed = owed }

-- nothing is left, and nothing waits
pub polls_idle : (now n : ℕ) (s : State) (c : Channels) (a : Association) → Comes now n s (state_of c a) → IsSettled (state_of c a)
    → list_any has_news c.channels.items ≡ false → NoneWaits a.events → Polls now s (state_of c a) None
polls_idle now n s c a comes settled silent none =
    inl (comes_less now 0 n s (state_of c a) (omega arith) comes, record { settled = settled; silent = silent; events = none })

-- an event of a channel is told
pub polls_channel : (now n : ℕ) (s : State) (c d : Channels) (a : Association) (e : ChannelEvent) → Comes now n s (state_of c a) → Keeps c d
    → Some e ≡ next_told c.channels.items → d.channels.items ≡ after_told c.channels.items → Polls now s (state_of d a) (Some e)
polls_channel now n s c d a e comes keeps next left =
    let kept = state_kept c d a a keeps in (
      state_of c a,
      comes_less now 0 n s (state_of c a) (omega arith) comes,
      inl (record {
        next = sym next;
        is = kept ∙ ap (λ (l : List Channel). record (state_of c a) { list = l }) left;
      }),
    )

-- an event of the association is taken
pub taken_is : (e : Event) (c d : Channels) (a b : Association) → IsSettled (state_of c a) → list_any has_news c.channels.items ≡ false
    → IsTold a.events b.events e → KeepsOthers a.events b.events (Some e) → BringsNone a.events b.events → b ≡ record a { events = b.events }
    → state_of d b ≡ after_event e (state_of c b) → IsTaken e (state_of c a) (state_of d b)
taken_is e c d a b settled silent told others adds rest is =
    record { settled = settled; silent = silent; told = told; others = others; adds = adds; rest = rest; is = is }

pub polls_association : (now n : ℕ) (s : State) (e : Event) (t u : State) (told : ChannelEvent) → Comes now n s t → IsTaken e t u → Some told ≡ told_by e
    → Polls now s u (Some told)
polls_association now n s e t u told comes taken passed =
    (t, comes_less now 0 n s t (omega arith) comes, inr (record { event = e; taken = taken; passed = sym passed }))

-- and nothing is told at once
pub comes_taken : (now n : ℕ) (s : State) (e : Event) (t u : State) → Comes now n s t → IsTaken e t u → None ≡ told_by e → Comes now (n + 1) s u
comes_taken now n s e t u comes taken passed = comes_more now n 1 s t u comes (comes_by now (takes e) t u (taken, sym passed))

-- so many messages were followed that the rest waits
pub polls_many : (now n : ℕ) (s t : State) (c d : Channels) (a : Association) → Comes now n s t → (c.arrived ≡ None) ⊎ Comes now (2 ^ 20) t (state_of c a)
    → d ≡ c → is_some d.arrived ≡ true → Polls now s (state_of d a) None
polls_many now n s t c d a comes (inl none) same some = let never : is_some c.arrived ≡ true = subst (λ (z : Channels). is_some z.arrived ≡ true) same some in
    cc
polls_many now n s t c d a comes (inr many) same some =
    let all = comes_more now n (2 ^ 20) s t (state_of c a) comes many in
    inr (comes_to now (2 ^ 20) s (state_of c a) (state_of d a) (comes_less now (2 ^ 20) (n + 2 ^ 20) s (state_of c a) (omega arith) all)
    (ap (λ (z : Channels). state_of z a) same))

none_of : (o : Option ℕ) → false ≡ is_some o → o ≡ None
none_of None h = refl
none_of (Some x) h = cc

-- nothing is told of a channel, and no arrivals are left
pub ready : (now n : ℕ) (s : State) (c d : Channels) (a : Association) → Comes now n s (state_of c a) → (c.held ≡ None) × (c.owed ≡ None)
    → (d ≡ c) × (list_any has_news c.channels.items ≡ false) → false ≡ is_some d.arrived
    → Comes now n s (state_of d a) × IsSettled (state_of d a) × (list_any has_news d.channels.items ≡ false)
ready now n s c d a comes (held, owed) (same, silent) none = (
  comes_to now n s (state_of c a) (state_of d a) comes (ap (λ (z : Channels). state_of z a) same),
  settled_is d a (ap (λ (z : Channels). z.held) same ∙ held) (none_of d.arrived none) (ap (λ (z : Channels). z.owed) same ∙ owed),
  ap (λ (z : Channels). list_any has_news z.channels.items) same ∙ silent,
)
