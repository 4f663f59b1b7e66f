-- What it says of the steps of a reading that it gave something.
use Rattle.std.proofs.Common.{◌≡◌, Bool, true, false, cond, Option, Some, Result, Ok, Err, refl, subst}
use Rattle.std.specs.Prelude.{not}
use Rattle.mbqi_values.specs.declared.fault.FaultKind.{FaultKind}
use Rattle.smtlib_terms.specs.declared.meaning.Meaning.{Meaning}
use Rattle.smtlib_terms.specs.declared.meaning.Side.{Side}
use Rattle.smtlib_terms.specs.declared.meaning.Side.TheVariants.{Meant, Difference}
use Rattle.smtlib_terms.specs.Names.{◌>>=◌}
use Rattle.smtlib_terms.specs.Operators.{meant, plainly}

-- a step, and the next one
pub record Stepped {A B : Type 0} (r : Result A FaultKind) (next : A → Result B FaultKind) (b : B) : Type 0 where
  pub value : A
  pub first : r ≡ Ok value
  pub rest : next value ≡ Ok b

pub stepped : {A B : Type 0} (r : Result A FaultKind) (next : A → Result B FaultKind) (b : B) → (r >>= next) ≡ Ok b → Stepped r next b
stepped (Ok a) next b is = record { value = a; first = refl; rest = is }
stepped (Err kind) next b is = cc

-- a test that must hold, and one that must not
pub passed : {A : Type 0} (test : Bool) (r : Result A FaultKind) (kind : FaultKind) (a : A) → cond test r (Err kind) ≡ Ok a → (test ≡ true) × (r ≡ Ok a)
passed true r kind a is = (refl, is)
passed false r kind a is = cc

pub not_refused : {A : Type 0} (test : Bool) (r : Result A FaultKind) (kind : FaultKind) (a : A) → cond test (Err kind) r ≡ Ok a → (test ≡ false) × (r ≡ Ok a)
not_refused true r kind a is = cc
not_refused false r kind a is = (refl, is)

-- a test that fails
pub not_so : (test : Bool) → not test ≡ false → test ≡ true
not_so true is = refl
not_so false is = cc

-- the first of what there is, or one of the rest
pub first_or_rest : {A : Type 0} (P : A → Type 0) (own : Bool) (first found : A) (rest : Option A) → P first → (rest ≡ Some found → P found) → cond own (Some first) rest ≡ Some found → P found
first_or_rest P true first found rest is later e = let same : first ≡ found = cc in subst P same is
first_or_rest P false first found rest is later e = later e

-- one answer
pub same_ok : {A : Type 0} (a b : A) → ◌≡◌ {A = Result A FaultKind} (Ok a) (Ok b) → a ≡ b
same_ok a b is = cc

-- a meaning where no difference may stand
pub plain_side : (r : Result Side FaultKind) (m : Meaning) → (r >>= plainly) ≡ Ok m → r ≡ Ok (Meant m)
plain_side (Ok (Meant n)) m is = cc
plain_side (Ok (Difference s t)) m is = cc
plain_side (Err kind) m is = cc

-- a side that is a meaning
pub record MeantBy (r : Result Meaning FaultKind) (s : Side) : Type 0 where
  pub value : Meaning
  pub first : r ≡ Ok value
  pub side : s ≡ Meant value

pub meant_by : (r : Result Meaning FaultKind) (s : Side) → meant r ≡ Ok s → MeantBy r s
meant_by (Ok m) s is = record { value = m; first = refl; side = cc }
meant_by (Err kind) s is = cc
