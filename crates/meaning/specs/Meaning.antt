-- What a formula in clause form says, and what it is that it has no solution. This is all that a reader has to believe in
-- order to know what "no solution" means: nothing here knows of proofs, of files or of a checker.
use Rattle.std.specs.Prelude.{ℕ, ◌≤◌, ◌≡◌, ◌⊎◌, Bool, true, false, not, ◌||◌, ◌&&◌, List, [], ◌∷◌}

-- A literal says of one variable, by its number, that it is true (pos 7) or that it is false (neg 7).
pub data Literal : Type 0 where
  pos : ℕ → Literal
  neg : ℕ → Literal

-- A clause says that at least one of its literals holds.
abbrev pub Clause : Type 0
Clause = List Literal

-- A formula says that each of its clauses is satisfied. Its variables are 1 to vars.
pub record Formula : Type 0 where
  pub vars : ℕ
  pub clauses : List Clause

-- An assignment makes each variable true or false.
abbrev pub Assignment : Type 0
Assignment = ℕ → Bool

-- The literal holds under the assignment a.
abbrev pub holds : Assignment → Literal → Bool
holds a (pos v) = a v
holds a (neg v) = not (a v)

-- The assignment a satisfies a clause: one literal holds, or another, and so on. So the empty clause is never satisfied.
abbrev pub satisfies : Assignment → Clause → Bool
satisfies a [] = false
satisfies a (l ∷ c) = holds a l || satisfies a c

-- The assignment a satisfies every one of the clauses.
abbrev pub satisfies_all : Assignment → List Clause → Bool
satisfies_all a [] = true
satisfies_all a (c ∷ cs) = satisfies a c && satisfies_all a cs

-- The assignment a is a solution of the formula F.
abbrev pub Solves : Assignment → Formula → Type 0
Solves a F = satisfies_all a F.clauses ≡ true

-- The clause c is one of cs: it is the first, or it is one of the others.
abbrev pub OneOf : Clause → List Clause → Type 0
OneOf c [] = ⊥
OneOf c (d ∷ cs) = (c ≡ d) ⊎ OneOf c cs

-- The formula F has no solution: for every assignment there is a clause of F that it does not satisfy.
abbrev pub Unsolvable : Formula → Type 0
Unsolvable F = (a : Assignment) → (c : Clause) × OneOf c F.clauses × (satisfies a c ≡ false)

-- The variable of a literal.
abbrev pub variable : Literal → ℕ
variable (pos v) = v
variable (neg v) = v

-- Every literal's variable is one of 1 to n: of a clause, and of each of the clauses.
abbrev pub Within : ℕ → Clause → Type 0
Within n [] = Unit {0}
Within n (l ∷ c) = (1 ≤ variable l) × (variable l ≤ n) × Within n c

abbrev pub AllWithin : ℕ → List Clause → Type 0
AllWithin n [] = Unit {0}
AllWithin n (c ∷ cs) = Within n c × AllWithin n cs
