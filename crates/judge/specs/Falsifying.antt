-- What making the literals of a clause false comes to, in terms of document 01's rules 1, 2 and 4 (rules' Judging).
use Rattle.std.specs.Prelude.{ℕ, ◌+◌, ◌<◌, ◌≤◌, ◌≡◌, ◌⊎◌, true, false, ◌||◌, List, [], ◌∷◌, ◌++◌, map, length, get_or, Option, Some, None, Result, Ok, Err}
use Rattle.meaning.specs.Meaning.{Clause}
use Rattle.rules.specs.Judging.{opposite, has_opposites, without, Trail, some_true}
use Rattle.clauses.specs.Codes.{literal_of, opposite_code}
use Rattle.assignment.specs.Marks.{Shows, Laid}
use Rattle.judge.specs.declared.falsifying.Obstacle.{Obstacle}
use Rattle.judge.specs.declared.falsifying.Obstacle.TheVariants.{SomeTrue, TooShort}

-- Whether literals became false, or what stopped that.
abbrev pub Outcome : Type 0
Outcome = Result (Unit {0}) Obstacle

-- A literal other than the one that is kept, if one is, that was not true is false from now on.
pub record MadeFalse (marks : List ℕ) (x : ℕ) (kept : Option ℕ) (marks' : List ℕ) : Type 0 where
  pub other : kept ≡ Some x → ⊥
  pub free : get_or marks (opposite_code x) 0 ≡ 0
  pub shows : (a : Trail) → Shows marks a → Shows marks' (opposite (literal_of x) ∷ a)

-- What making one literal false came to.
abbrev pub OneCase : List ℕ → List ℕ → ℕ → ℕ → Option ℕ → List ℕ → ℕ → Outcome → Type 0
OneCase marks tape t x kept marks' t' (Ok u) = ((kept ≡ Some x) × (marks' ≡ marks)) ⊎ MadeFalse marks x kept marks'
OneCase marks tape t x kept marks' t' (Err SomeTrue) = (kept ≡ Some x → ⊥) × (get_or marks (opposite_code x) 0 ≡ 0 → ⊥) × (t' ≡ t)
OneCase marks tape t x kept marks' t' (Err TooShort) = (length tape ≤ t) × (t' ≡ t)

pub record FalsifiesOne (marks tape : List ℕ) (t x : ℕ) (kept : Option ℕ) (marks' tape' : List ℕ) (r : Outcome) (t' : ℕ) : Type 0 where
  pub laid : Laid marks tape t marks' tape' t'
  pub few : t' ≤ t + 1
  pub case : OneCase marks tape t x kept marks' t' r

-- The literals of a clause other than the one that is kept, if one is.
abbrev pub others_of : Option ℕ → List ℕ → Clause
others_of None clause = map literal_of clause
others_of (Some q) clause = without (literal_of q) (map literal_of clause)

-- How many literals of so many were passed.
abbrev pub PassedCase : ℕ → ℕ → ℕ → ℕ → Outcome → Type 0
PassedCase many room t' passed (Ok u) = passed ≡ many
PassedCase many room t' passed (Err SomeTrue) = passed < many
PassedCase many room t' passed (Err TooShort) = (passed < many) × (room ≤ t')

-- The literals are false, and none of them is true under the assignment a or the opposite of another; or one is.
pub record AllMadeFalse (a : Trail) (others : Clause) (marks' : List ℕ) : Type 0 where
  pub none_true : (some_true a others || has_opposites others) ≡ false
  pub shows : Shows marks' (map opposite others ++ a)

abbrev pub OthersCase : Trail → Clause → List ℕ → Outcome → Type 0
OthersCase a others marks' (Ok u) = AllMadeFalse a others marks'
OthersCase a others marks' (Err SomeTrue) = (some_true a others || has_opposites others) ≡ true
OthersCase a others marks' (Err TooShort) = Unit {0}

-- What making `others`, literals of the clause, false came to.
pub record FalsifiesOthers (clause : List ℕ) (others : Clause) (marks tape : List ℕ) (t : ℕ) (marks' tape' : List ℕ) (r : Outcome) (t' passed : ℕ) : Type 0 where
  pub laid : Laid marks tape t marks' tape' t'
  pub few : t' ≤ t + passed
  pub so_many : PassedCase (length clause) (length tape) t' passed r
  pub outcome : (a : Trail) → Shows marks a → OthersCase a others marks' r

-- Where no literal has a value: all literals of the clause are false, and no two are opposites; or two are.
pub record ClauseFalse (k : Clause) (marks' : List ℕ) : Type 0 where
  pub no_opposites : has_opposites k ≡ false
  pub shows : Shows marks' (map opposite k)

abbrev pub ClauseCase : Clause → List ℕ → Outcome → Type 0
ClauseCase k marks' (Ok u) = ClauseFalse k marks'
ClauseCase k marks' (Err SomeTrue) = has_opposites k ≡ true
ClauseCase k marks' (Err TooShort) = Unit {0}

pub record FalsifiesClause (clause marks tape : List ℕ) (t : ℕ) (marks' tape' : List ℕ) (r : Outcome) (t' passed : ℕ) : Type 0 where
  pub laid : Laid marks tape t marks' tape' t'
  pub few : t' ≤ t + passed
  pub so_many : PassedCase (length clause) (length tape) t' passed r
  pub outcome : Shows marks [] → ClauseCase (map literal_of clause) marks' r
