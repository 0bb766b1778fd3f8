-- What a fault of the association is refused as.
use Rattle.std.proofs.Common.{◌≡◌, ◌⊎◌, ℕ, List, Option, Some, None, refl, inl, inr, ◌∙◌, subst, sym}
use Rattle.std.specs.Prelude.{Result, Ok, Err, IfErr}
use Rattle.sctp_association.specs.Waiting.{IsRefusal}
use Rattle.sctp_association.specs.declared.fault.Fault.{Fault}
use Rattle.sctp_association.specs.declared.fault.Fault.TheVariants as fault
use Rattle.sctp_channels.specs.Channels.{IsFull, IsNextFree}
use Rattle.sctp_channels.specs.declared.channels.Refusal.{Refusal}
use Rattle.sctp_channels.specs.declared.channels.Refusal.TheVariants as refusal
use Rattle.sctp_channels.specs.Refusals.{AgreedRefused, CloseRefused, FollowRefused, OpenRefused, WriteRefused, refusal_of, refusal_of_name}
use Rattle.sctp_channels.specs.declared.channel.Channel.{Channel}
use Rattle.sctp_dcep.specs.Message.{write_refusal}
use Rattle.sctp_dcep.specs.declared.fault.Fault as dcep
use Rattle.sctp_dcep.specs.declared.fault.Fault.TheVariants as names
use Rattle.sctp_dcep.specs.declared.message.Message.TheVariants as message
use Rattle.sctp_dcep.specs.declared.message.Open as request
use Rattle.sctp_dcep.specs.declared.side.Side.{Side}

pub agreed_refused : (s : ℕ) (xs : List Channel) (asked : Option Fault) (f : Fault) → IsRefusal f asked → AgreedRefused s xs asked (refusal_of f)
agreed_refused s xs asked fault.OutOfMemory h = tt
agreed_refused s xs asked fault.WrongState (inl e) = cc
agreed_refused s xs asked fault.WrongState (inr e) = e
agreed_refused s xs asked fault.NoSuchStream (inl e) = cc
agreed_refused s xs asked fault.NoSuchStream (inr e) = e
agreed_refused s xs asked fault.MessageTooLarge (inl e) = cc
agreed_refused s xs asked fault.MessageTooLarge (inr e) = e
agreed_refused s xs asked fault.Full (inl e) = cc
agreed_refused s xs asked fault.Full (inr e) = e
agreed_refused s xs asked fault.Resetting (inl e) = cc
agreed_refused s xs asked fault.Resetting (inr e) = e
agreed_refused s xs asked fault.BadConfig (inl e) = cc
agreed_refused s xs asked fault.BadConfig (inr e) = e

pub write_refused : (s : ℕ) (xs : List Channel) (asked : Option Fault) (f : Fault) → IsRefusal f asked → WriteRefused s xs asked (refusal_of f)
write_refused s xs asked fault.OutOfMemory h = tt
write_refused s xs asked fault.WrongState (inl e) = cc
write_refused s xs asked fault.WrongState (inr e) = e
write_refused s xs asked fault.NoSuchStream (inl e) = cc
write_refused s xs asked fault.NoSuchStream (inr e) = e
write_refused s xs asked fault.MessageTooLarge (inl e) = cc
write_refused s xs asked fault.MessageTooLarge (inr e) = e
write_refused s xs asked fault.Full (inl e) = cc
write_refused s xs asked fault.Full (inr e) = e
write_refused s xs asked fault.Resetting (inl e) = cc
write_refused s xs asked fault.Resetting (inr e) = e
write_refused s xs asked fault.BadConfig (inl e) = cc
write_refused s xs asked fault.BadConfig (inr e) = e

pub close_refused : (s : ℕ) (xs : List Channel) (f : Fault) → CloseRefused s xs (refusal_of f)
close_refused s xs fault.OutOfMemory = tt
close_refused s xs fault.WrongState = tt
close_refused s xs fault.NoSuchStream = tt
close_refused s xs fault.MessageTooLarge = tt
close_refused s xs fault.Full = tt
close_refused s xs fault.Resetting = tt
close_refused s xs fault.BadConfig = tt

pub open_refused : (side : Side) (xs : List Channel) (o : request.Open) (f : Fault) → OpenRefused side xs o (refusal_of f)
open_refused side xs o fault.OutOfMemory = tt
open_refused side xs o fault.WrongState = tt
open_refused side xs o fault.NoSuchStream = tt
open_refused side xs o fault.MessageTooLarge = tt
open_refused side xs o fault.Full = tt
open_refused side xs o fault.Resetting = tt
open_refused side xs o fault.BadConfig = tt

pub name_refused : (side : Side) (xs : List Channel) (o : request.Open) (f : dcep.Fault)
    → (write_refusal (message.Open o) ≡ Some f) ⊎ ((write_refusal (message.Open o) ≡ None) × (f ≡ names.OutOfMemory))
    → OpenRefused side xs o (refusal_of_name f)
name_refused side xs o f (inl e) = by f e
  where
    by : (f : dcep.Fault) → write_refusal (message.Open o) ≡ Some f → OpenRefused side xs o (refusal_of_name f)
    by names.OutOfMemory e = tt
    by names.Empty e = rw e refl
    by names.UnknownMessageType e = rw e refl
    by names.TooShort e = rw e refl
    by names.UnknownChannelType e = rw e refl
    by names.WrongLength e = rw e refl
    by names.LabelTooLong e = rw e refl
    by names.ProtocolTooLong e = rw e refl
name_refused side xs o f (inr e) = rw e.1 tt

-- where a number is free not all are used
pub not_full : (side : Side) (xs : List Channel) (s : ℕ) → IsNextFree side xs s → IsFull side xs → ⊥
not_full side xs s next full = let never = full s next.within next.own in cc (never, next.free)

-- a fault that the association has
pub follow_refused : (f : Fault) (asked : Option Fault) (e : Refusal) → IsRefusal f asked → FollowRefused (Some f) e → FollowRefused asked e
follow_refused f asked refusal.OutOfMemory h k = tt
follow_refused f asked refusal.NoStream h k = absurd k
follow_refused f asked refusal.InUse h k = absurd k
follow_refused f asked refusal.NoChannel h k = absurd k
follow_refused f asked refusal.NameTooLong h k = absurd k
follow_refused f asked (refusal.Association g) (inl memory) k = let none : Some f ≡ Some fault.Full = k.1 in cc
follow_refused f asked (refusal.Association g) (inr is) k = (k.0, is ∙ k.1)

-- want of memory
pub follow_memory : (asked : Option Fault) (e : Refusal) → e ≡ refusal.OutOfMemory → FollowRefused asked e
follow_memory asked e is = subst (λ (r : Refusal). FollowRefused asked r) (sym is) tt

pub follows_refused : {T : Type 0} (r : Result T Refusal) (f : Fault) (asked : Option Fault) → IsRefusal f asked → IfErr r (FollowRefused (Some f))
    → IfErr r (FollowRefused asked)
follows_refused (Ok x) f asked h k = tt
follows_refused (Err e) f asked h k = follow_refused f asked e h k
