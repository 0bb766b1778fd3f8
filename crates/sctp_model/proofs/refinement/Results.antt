-- What holds of a result, from what its callee says of each outcome.
use Rattle.sctp_model.proofs.Names.{◌≡◌, Bool, true, false, Option, Some, None}
use Rattle.std.proofs.Common.{Result, Ok, Err}
use Rattle.std.specs.Prelude.{is_err, OnOk, OnErr, IsOk, IfErr}

pub on-error : {T E P : Type 0} (r : Result T E) (b : Bool) → b ≡ is_err r → b ≡ true → OnErr r P → P
on-error (Ok x) b e t p = cc
on-error (Err e) b is t p = p

pub on-ok : {T E P : Type 0} (r : Result T E) (b : Bool) → b ≡ is_err r → b ≡ false → OnOk r P → P
on-ok (Ok x) b e t p = p
on-ok (Err e) b is t p = cc

pub not-err : {T E : Type 0} (r : Result T E) → IsOk r → is_err r ≡ true → ⊥
not-err (Ok x) ok e = let no : false ≡ true = e in cc
not-err (Err x) ok e = let no : false ≡ true = ok in cc

pub on-err : {T E : Type 0} (r : Result T E) (P : Type 0) → P → OnErr r P
on-err (Ok v) P p = tt
on-err (Err e) P p = p

pub unless-refused : {T E P : Type 0} (r : Result T E) (o : Option E) → OnOk r P → IfErr r (λ e. o ≡ Some e) → o ≡ None → P
unless-refused (Ok x) o p h none = p
unless-refused (Err e) o p h none = absurd (cc)
