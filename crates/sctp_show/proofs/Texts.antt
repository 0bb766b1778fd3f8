-- The text of a record.
use Rattle.std.proofs.Common.{◌≡◌, ℕ, List, [], true, false, Result, Ok, Err, IfOk, inl, inr, Some, refl, sym, subst, arith}
use Rattle.sctp_capture.specs.declared.record.Record.{Record}
use Rattle.sctp_capture.specs.declared.record.Fault.{Fault}
use Rattle.sctp_show.specs.declared.text.Options.{Options}
use Rattle.sctp_dissect.specs.declared.dissection.Dissection.{Dissection}
use Rattle.std.specs.Prelude.{Bool, Option, MatchResult}
use Rattle.std.specs.declared.net.ip_addr.IpAddr.{IpAddr}
use Rattle.sctp_capture.specs.declared.record.Time.{Time}
use Rattle.sctp_show.specs.Scene.{scene_of}
use Rattle.sctp_show.specs.Sum.{sum_of, sum_for, is_wrong}
use Rattle.sctp_dissect.specs.declared.dissection.Fault.TheVariants.{ShortPacket}
use Rattle.sctp_show.specs.Cut.{WithCut}
use Rattle.sctp_show.specs.Choice.{passes}
use Rattle.sctp_show.specs.Text.{Holds, AreEndsIn, IsShown, IsShownText, IsPacketText, IsText, IsFrameText, IsFaultText}
use Rattle.sctp_show.specs.Columns.{size_of}
use Rattle.sctp_show.specs.declared.columns.Size.{Size}

-- nothing is cut off where there is no header
pub short_is_kept : (missing : ℕ) (d : Dissection) → d.fault ≡ Some ShortPacket → WithCut missing d d
short_is_kept missing d e = record {
  header = refl;
  kept = λ _. refl;
  cut = λ yes. absurd (grind (arith, rw e at yes));
}

pub packet_is : {T E : Type 0} (bytes_of : T → List ℕ) (result : Result T E) (o : Options) (number : ℕ) (datagram : List ℕ) (missing : ℕ)
    (ends : Option (IpAddr × IpAddr)) (r : Record) (size : Size) (seen : Dissection) (zero : Bool) (start : Option Time)
    → IsShown (sum_of (sum_for o.sum missing)) datagram missing seen
    → IfOk result (λ t. passes o.filter (scene_of missing (is_wrong (sum_for o.sum missing) zero seen.header) ends start r.time) seen ≡ true
    → IsShownText o number r.direction size ends (bytes_of t))
    → IfOk result (λ t. passes o.filter (scene_of missing (is_wrong (sum_for o.sum missing) zero seen.header) ends start r.time) seen ≡ false → bytes_of t ≡ [])
    → IfOk result (λ t. IsPacketText o number r size datagram missing ends (bytes_of t))
packet_is bytes_of (Ok t) o number datagram missing ends r size seen zero start is shown hidden = record {
  seen = seen;
  is_shown = is;
  accepts_zero = zero;
  start = start;
  shown = shown;
  hidden = hidden;
}
packet_is bytes_of (Err e) o number datagram missing ends r size seen zero start is shown hidden = tt

pub frame_some : {T E : Type 0} (bytes_of : T → List ℕ) (result : Result T E) (o : Options) (number : ℕ) (r : Record) (frame : List ℕ)
    (datagram : List ℕ) (missing : ℕ) (ends : Option (IpAddr × IpAddr)) → Holds r.link_type o.port frame r.lost datagram missing
    → AreEndsIn r.link_type frame r.lost ends
    → IfOk result (λ t. IsPacketText o number r (size_of r.link_type frame r.lost datagram missing) datagram missing ends (bytes_of t))
    → IfOk result (λ t. IsFrameText o number r frame (bytes_of t))
frame_some bytes_of (Ok t) o number r frame datagram missing ends holds are is = inl (datagram, missing, holds, (ends, are, is))
frame_some bytes_of (Err e) o number r frame datagram missing ends holds are is = tt

pub frame_none : {T E : Type 0} (bytes_of : T → List ℕ) (result : Result T E) (o : Options) (number : ℕ) (r : Record) (frame : List ℕ) (fault : Fault)
    → ((datagram : List ℕ) → (missing : ℕ) → Holds r.link_type o.port frame r.lost datagram missing → ⊥)
    → IfOk result (λ t. IsFaultText o number r fault (bytes_of t)) → IfOk result (λ t. IsFrameText o number r frame (bytes_of t))
frame_none bytes_of (Ok t) o number r frame fault none is = inr (none, (fault, is))
frame_none bytes_of (Err e) o number r frame fault none is = tt

pub text_shown : {T E : Type 0} (bytes_of : T → List ℕ) (result : Result T E) (o : Options) (number : ℕ) (r : Record) (frame : List ℕ) → r.frame ≡ Ok frame
    → IfOk result (λ t. IsFrameText o number r frame (bytes_of t)) → IfOk result (λ t. IsText o number r (bytes_of t))
text_shown bytes_of (Ok t) o number r frame has is =
    let P : Result (List ℕ) Fault → Type 0 = λ x. MatchResult x (λ f. IsFrameText o number r f (bytes_of t)) (λ f. IsFaultText o number r f (bytes_of t)) in
    subst P (sym has) is
text_shown bytes_of (Err e) o number r frame has is = tt

pub text_refused : {T E : Type 0} (bytes_of : T → List ℕ) (result : Result T E) (o : Options) (number : ℕ) (r : Record) (fault : Fault) → r.frame ≡ Err fault
    → IfOk result (λ t. IsFaultText o number r fault (bytes_of t)) → IfOk result (λ t. IsText o number r (bytes_of t))
text_refused bytes_of (Ok t) o number r fault has is =
    let P : Result (List ℕ) Fault → Type 0 = λ x. MatchResult x (λ f. IsFrameText o number r f (bytes_of t)) (λ f. IsFaultText o number r f (bytes_of t)) in
    subst P (sym has) is
text_refused bytes_of (Err e) o number r fault has is = tt
