-- What the definitions of this crate share and the document does not speak of.
use Rattle.std.specs.Prelude.{ℕ, Bool, true, false, List, [], ◌∷◌}
use Prim.Native.Char.{code}
use Prim.Native.String.{String}
use Rattle.std.proofs.Math.Option.{Option, none, some}

-- The bytes of an ASCII text, so that constants and examples can be written as the document writes them.
abbrev pub bytes : String → List ℕ
bytes String.[] = []
bytes (String.◌∷◌ c s) = code c ∷ bytes s

-- Option stands for "may fail", and `do` goes on only with a value.
infixl 10 ◌>>=◌
abbrev pub ◌>>=◌ {ℓ} : {A B : Type ℓ} → Option A → (A → Option B) → Option B
none >>= f = none
some a >>= f = f a

-- x, if the test passes.
abbrev pub only : {A : Type 0} → Bool → A → Option A
only true x = some x
only false x = none
