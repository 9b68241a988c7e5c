-- An assignment as marks, one for each number of a literal (clauses' Codes): 1 while that literal is false, else 0. Beside
-- the marks stands a tape, on which the numbers are that were marked, in order, so that going back to an earlier assignment
-- is taking the marks of the last numbers away.
use Rattle.std.specs.Prelude.{ℕ, ◌+◌, ◌%◌, ◌^◌, ◌<◌, ◌≤◌, ◌≡◌, Bool, true, false, List, ◌∷◌, length, get_or}
use Rattle.rules.specs.Judging.{opposite, among, Trail}
use Rattle.clauses.specs.Codes.{literal_of}

-- The mark of a literal that is false, and of one that is not.
abbrev pub mark_of : Bool → ℕ
mark_of true = 1
mark_of false = 0

-- The marks show the assignment a: a literal is marked exactly if its opposite is true.
pub record Shows (marks : List ℕ) (a : Trail) : Type 0 where
  pub at : (x : ℕ) → x < length marks → get_or marks x 0 ≡ mark_of (among (opposite (literal_of x)) a)

-- There is a mark for the opposite of each literal that has one, and a literal's number is no larger than a code can be.
pub record Paired (marks : List ℕ) : Type 0 where
  pub even : length marks % 2 ≡ 0
  pub small : length marks ≤ 2 ^ 31

-- Every number of the list has a mark.
pub record Marked (xs marks : List ℕ) : Type 0 where
  pub below : (i : ℕ) → i < length xs → get_or xs i 0 < length marks

-- The marks are those of `before`, but for the numbers on the tape from `from` up to `to`, none of which was marked.
pub record Differ (before marks tape : List ℕ) (from to : ℕ) : Type 0 where
  pub long : length marks ≡ length before
  pub inside : (i : ℕ) → from ≤ i → i < to → get_or tape i 0 < length before
  pub clear : (i : ℕ) → from ≤ i → i < to → get_or before (get_or tape i 0) 0 ≡ 0
  pub others : (x : ℕ) → ((i : ℕ) → from ≤ i → i < to → get_or tape i 0 ≡ x → ⊥) → get_or marks x 0 ≡ get_or before x 0

-- From one state of marks and tape, with `from` numbers on the tape, to another with `to`: what was marked in between stands
-- on the tape, behind what stood there.
pub record Laid (before tape₀ : List ℕ) (from : ℕ) (marks tape : List ℕ) (to : ℕ) : Type 0 where
  pub forward : from ≤ to
  pub room : to ≤ length tape
  pub long : length tape ≡ length tape₀
  pub kept : (i : ℕ) → i < from → get_or tape i 0 ≡ get_or tape₀ i 0
  pub differ : Differ before marks tape from to

-- The literal x is false from now on.
pub record Falsifies (marks tape : List ℕ) (t x : ℕ) (marks' tape' : List ℕ) (t' : ℕ) : Type 0 where
  pub laid : Laid marks tape t marks' tape' t'
  pub shows : (a : Trail) → Shows marks a → Shows marks' (opposite (literal_of x) ∷ a)
  pub new : get_or marks x 0 ≡ 0 → t' ≡ t + 1
  pub few : t' ≤ t + 1

-- The numbers on the tape from `from` up to `to` can be taken back: there are marks that differ from these only there.
pub record Undoable (marks tape : List ℕ) (from to : ℕ) : Type 0 where
  pub before : List ℕ
  pub differ : Differ before marks tape from to
  pub room : to ≤ length tape

-- They are taken back: the marks are exactly what they were.
pub record Undone (marks tape : List ℕ) (from to : ℕ) (marks' : List ℕ) : Type 0 where
  pub long : length marks' ≡ length marks
  pub back : (before : List ℕ) → Differ before marks tape from to → marks' ≡ before
