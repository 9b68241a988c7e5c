-- Section 5, judging a step, with the ground of a refusal. The rules are taken in the document's order, and the first that
-- is broken is the ground.
use Rattle.std.specs.Prelude.{ℕ, min, Bool, true, false, ◌||◌, List, [], ◌∷◌, ◌++◌, map, eqb, ltb}
use Rattle.std.proofs.Math.Option.{Option, none, some}
use Rattle.meaning.specs.Meaning.{Literal, pos, neg, Clause}
use Rattle.rules.specs.Steps.{Hint, look, group, Step, add, delete}

-- Literals: "compared as numbers".

abbrev pub opposite : Literal → Literal
opposite (pos v) = neg v
opposite (neg v) = pos v

unfoldable pub same_literal : Literal → Literal → Bool
same_literal (pos v) (pos w) = eqb v w
same_literal (pos v) (neg w) = false
same_literal (neg v) (pos w) = false
same_literal (neg v) (neg w) = eqb v w

-- The literal l is among c.
unfoldable pub among : Literal → List Literal → Bool
unfolding same_literal
among l [] = false
among l (k ∷ c) = same_literal l k || among l c

-- The literals of c other than l.
unfoldable pub without : Literal → List Literal → List Literal
unfolding same_literal
without l [] = []
without l (k ∷ c) = elim (same_literal l k) [ true ↦ without l c | false ↦ k ∷ without l c ]

-- c holds a literal and its opposite.
unfoldable pub has_opposites : Clause → Bool
unfolding among
has_opposites [] = false
has_opposites (l ∷ c) = among (opposite l) c || has_opposites c

-- The live clauses, each with its id, in increasing order of the ids.

abbrev pub Live : Type 0
Live = List (ℕ × Clause)

-- The live clause with id n.
unfoldable pub find : ℕ → Live → Option Clause
find n [] = none
find n (e ∷ live) = elim (eqb n e.0) [ true ↦ some e.1 | false ↦ find n live ]

-- The ids of the live clauses that contain l.
unfoldable pub containing : Literal → Live → List ℕ
unfolding among
containing l [] = []
containing l (e ∷ live) = elim (among l e.1) [ true ↦ e.0 ∷ containing l live | false ↦ containing l live ]

-- Why a step is refused, with the hint or the id at fault, if there is one.
pub data Ground : Type 0 where
  id_not_fresh : ℕ → Ground  -- rule 1, the step's id
  opposite_literals : Ground  -- rule 1
  hint_not_live : ℕ → Ground  -- rule 3, the hint, also inside a group
  hint_not_forced : ℕ → Ground  -- rule 3, the hint, also inside a group
  no_conflict : Option ℕ → Ground  -- rule 4: K is empty; or the group of this clause
  groups_dont_match : ℕ → Ground  -- rule 4: at the first place where the two lists differ, the smaller id, or the one there is
  deletion_not_live : ℕ → Ground  -- the id that is to be deleted

-- An assignment, as the list of the literals that are true. A literal is false if its opposite is true, and has no value if
-- neither is. Going back to an earlier assignment is going back to the earlier list.
abbrev pub Trail : Type 0
Trail = List Literal

-- One literal of c is true.
unfoldable pub some_true : Trail → Clause → Bool
unfolding among
some_true a [] = false
some_true a (l ∷ c) = among l a || some_true a c

-- The literals of c that are not false.
unfoldable pub not_false : Trail → Clause → Clause
unfolding among
not_false a [] = []
not_false a (l ∷ c) = elim (among (opposite l) a) [ true ↦ not_false a c | false ↦ l ∷ not_false a c ]

-- Rule 3, one hint: "Look at that clause under the assignment". All its literals are false; or exactly one, however often it
-- is written, isn't, and that one has no value; or neither.
pub data Look : Type 0 where
  all_false : Look
  forces : Literal → Look
  neither : Look

-- What follows from the literals that are not false.
unfoldable pub look_of : Trail → Clause → Look
unfolding without among
look_of a [] = all_false
look_of a (l ∷ c) =
    elim (without l c) [ [] ↦ elim (among l a) [ true ↦ neither | false ↦ forces l ] | k ∷ ks ↦ neither ]

-- What looking at the clause c under the assignment a shows.
unfoldable pub look_at : Trail → Clause → Look
unfolding look_of not_false
look_at a c = look_of a (not_false a c)

-- Rule 3, the hints one by one: a conflict; a bad hint; or they end with no conflict, and this is the assignment then.
pub data Taken : Type 0 where
  conflict : Taken
  bad_hint : Ground → Taken
  hints_end : Trail → Taken

-- Takes the hints one by one: "Each must be the id of a live clause. Look at that clause under the assignment."
unfoldable pub take_hints : Live → Trail → List ℕ → Taken
unfolding find look_at
take_hints live a [] = hints_end a
take_hints live a (h ∷ hs) =
    elim (find h live) [
      | none ↦ bad_hint (hint_not_live h)
      | some c ↦ elim (look_at a c) [
        | all_false ↦ conflict
        | forces l ↦ take_hints live (l ∷ a) hs
        | neither ↦ bad_hint (hint_not_forced h)
      ]
    ]

-- "The hints up to the first negative one."
unfoldable pub leading : List Hint → List ℕ
leading [] = []
leading (look h ∷ hs) = h ∷ leading hs
leading (group d ∷ hs) = []

-- "Groups, each a negative number -d and the positive hints behind it."
unfoldable pub groups : List Hint → List (ℕ × List ℕ)
unfolding leading
groups [] = []
groups (look h ∷ hs) = groups hs
groups (group d ∷ hs) = (d, leading hs) ∷ groups hs

-- Where the groups' numbers are first others than the ids that they must be: the smaller of the two numbers there, or the
-- one that is there where the other list has ended.
unfoldable pub mismatch : List ℕ → List (ℕ × List ℕ) → Option ℕ
mismatch [] [] = none
mismatch [] (g ∷ gs) = some g.0
mismatch (n ∷ ns) [] = some n
mismatch (n ∷ ns) (g ∷ gs) = elim (eqb n g.0) [ true ↦ mismatch ns gs | false ↦ some (min n g.0) ]

-- Rule 4, the end of the hints of clause d's group: "No conflict, or a bad hint: refused."
abbrev pub group_end : ℕ → Taken → Option Ground
group_end d conflict = none
group_end d (bad_hint g) = some g
group_end d (hints_end a) = some (no_conflict (some d))

-- Rule 4, one group: `others` are the literals of clause d other than the opposite of p, a is the assignment of rule 3.
unfoldable pub group_fault : Live → Trail → ℕ → Clause → List ℕ → Option Ground
unfolding some_true has_opposites take_hints
group_fault live a d others hs =
    elim (some_true a others || has_opposites others) [
      | true ↦ none
      | false ↦ group_end d (take_hints live (map opposite others ++ a) hs)
    ]

-- Rule 4, the groups in order, each from the same assignment a; q is the opposite of p. (That clause d is live has been tested
-- before, so that the first ground does not occur.)
unfoldable pub groups_fault : Live → Trail → Literal → List (ℕ × List ℕ) → Option Ground
unfolding group_fault without find
groups_fault live a q [] = none
groups_fault live a q (g ∷ gs) =
    elim (find g.0 live) [
      | none ↦ some (hint_not_live g.0)
      | some c ↦ elim (group_fault live a g.0 (without q c) g.1) [ none ↦ groups_fault live a q gs | some f ↦ some f ]
    ]

-- Rules 4 and 5, where the hints of rule 3 have ended with the assignment a: first "the numbers d are exactly the ids of the
-- live clauses that contain the opposite of p, each once, in increasing order", then each group.
unfoldable pub after_hints : Live → Trail → Clause → List (ℕ × List ℕ) → Option Ground
unfolding groups_fault containing mismatch
after_hints live a [] gs = some (no_conflict none)
after_hints live a (p ∷ k) gs =
    elim (mismatch (containing (opposite p) live) gs) [
      | some d ↦ some (groups_dont_match d)
      | none ↦ groups_fault live a (opposite p) gs
    ]

-- Rules 2 to 5. The assignment starts with each literal of K false.
unfoldable pub hints_fault : Live → Clause → List Hint → Option Ground
unfolding take_hints leading groups after_hints
hints_fault live k hs =
    elim (take_hints live (map opposite k) (leading hs)) [
      | conflict ↦ none
      | bad_hint g ↦ some g
      | hints_end a ↦ after_hints live a k (groups hs)
    ]

-- Rules 1 to 5: what is wrong with adding K under n, if anything. `last` is the greatest of C and the ids added before.
unfoldable pub addition_fault : Live → ℕ → ℕ → Clause → List Hint → Option Ground
unfolding has_opposites hints_fault
addition_fault live last n k hs =
    elim (ltb last n) [
      | false ↦ some (id_not_fresh n)
      | true ↦ elim (has_opposites k) [ true ↦ some opposite_literals | false ↦ hints_fault live k hs ]
    ]

-- The live clauses without the one with id n.
unfoldable pub remove : ℕ → Live → Live
remove n [] = []
remove n (e ∷ live) = elim (eqb n e.0) [ true ↦ live | false ↦ e ∷ remove n live ]

-- What is known between two steps: the live clauses, and the greatest of C and the ids added so far.
pub record State : Type 0 where
  pub live : Live
  pub last : ℕ

-- What a step comes to.
pub data Judged : Type 0 where
  refused : Ground → Judged
  adds_empty : Judged
  goes_on : State → Judged

-- "The ids are taken in order; each must be live, else the step is refused; it then isn't any more."
unfoldable pub judge_deletion : State → List ℕ → Judged
unfolding find remove
judge_deletion s [] = goes_on s
judge_deletion s (n ∷ ns) =
    elim (find n s.live) [
      | none ↦ refused (deletion_not_live n)
      | some c ↦ judge_deletion (record { live = remove n s.live; last = s.last }) ns
    ]

-- "An accepted K becomes live under n."
abbrev pub added : State → ℕ → Clause → Judged
added s n [] = adds_empty
added s n (l ∷ k) = goes_on (record { live = s.live ++ ((n, l ∷ k) ∷ []); last = n })

-- What a step comes to in the state s.
unfoldable pub judge : State → Step → Judged
unfolding addition_fault judge_deletion
judge s (add n k hs) = elim (addition_fault s.live s.last n k hs) [ none ↦ added s n k | some g ↦ refused g ]
judge s (delete ns) = judge_deletion s ns
