-- Laws of what may fail, in the forms in which a proof takes it apart. Assumes nothing.
use Rattle.std.proofs.Common.{ℕ, ◌≡◌, refl, Bool, true, false, arith}
use Rattle.std.proofs.Math.Option.{Option, none, some}
use Rattle.rules.specs.Tools.{◌>>=◌, only}

pub none-some : {A X : Type 0} {a : A} → none ≡ some a → X
none-some p = absurd (let z : ◌≡◌ {A = ℕ} 0 1 = cc in omega arith)

pub some-none : {A X : Type 0} {a : A} → some a ≡ none → X
some-none p = absurd (let z : ◌≡◌ {A = ℕ} 0 1 = cc in omega arith)

pub some_inj : {A : Type 0} {a b : A} → some a ≡ some b → a ≡ b
some_inj p = cc

-- A case on what may fail that keeps its equation.
pub option_cases {ℓ} : {A : Type 0} {X : Type ℓ} (o : Option A) → (o ≡ none → X) → ((a : A) → o ≡ some a → X) → X
option_cases none f g = f refl
option_cases (some a) f g = g a refl

-- What `do` needed to come to a value.
pub record Bound {A B : Type 0} (m : Option A) (f : A → Option B) (b : B) : Type 0 where
  pub value : A
  pub is_value : m ≡ some value
  pub goes_on : f value ≡ some b

pub bound : {A B : Type 0} (m : Option A) (f : A → Option B) (b : B) → (m >>= f) ≡ some b → Bound m f b
bound none f b e = none-some e
bound (some a) f b e = record { value = a; is_value = refl; goes_on = e }

-- A test that was passed.
pub record Passed {A : Type 0} (test : Bool) (x y : A) : Type 0 where
  pub passed : test ≡ true
  pub same : x ≡ y

pub only-some : {A : Type 0} (test : Bool) (x y : A) → only test x ≡ some y → Passed test x y
only-some true x y e = record { passed = refl; same = some_inj e }
only-some false x y e = none-some e
