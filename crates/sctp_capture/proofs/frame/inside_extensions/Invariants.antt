use Rattle.std.proofs.Common.{ℕ, ◌-◌, List}
use Rattle.sctp_capture.specs.Frame.{IsUpper}
use Rattle.sctp_capture.proofs.frame.inside_extensions.Given as goal

-- what is left is behind the headers of this place where it is behind those of the first one, and only there
abbrev pub invariant-loop-passed : goal.invariant-loop-passed
invariant-loop-passed l = record {
  outward : (p : ℕ) (q : List ℕ) → IsUpper (16 - l._passed) l.protocol l.rest p q → IsUpper 16 l.fn.first l.fn.payload p q;
  inward : (p : ℕ) (q : List ℕ) → IsUpper 16 l.fn.first l.fn.payload p q → IsUpper (16 - l._passed) l.protocol l.rest p q;
}
