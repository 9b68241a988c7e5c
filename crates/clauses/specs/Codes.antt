-- Literals and hints as numbers. A literal: 2v says that variable v is true, 2v + 1 that it is false.
use Rattle.std.specs.Prelude.{ℕ, ◌+◌, ◌-◌, ◌*◌, ◌/◌, ◌%◌, true, false, ◌==◌}
use Rattle.meaning.specs.Meaning.{Literal, pos, neg}
use Rattle.rules.specs.Steps.{Hint, look, group}

-- The literal that a number stands for.
unfoldable pub literal_of : ℕ → Literal
literal_of x = elim (x % 2 == 0) [ true ↦ pos (x / 2) | false ↦ neg (x / 2) ]

-- The number that stands for a literal.
unfoldable pub code_of : Literal → ℕ
code_of (pos v) = 2 * v
code_of (neg v) = 2 * v + 1

-- The number that stands for the opposite literal.
unfoldable pub opposite_code : ℕ → ℕ
opposite_code x = elim (x % 2 == 0) [ true ↦ x + 1 | false ↦ x - 1 ]

-- The hint that a number stands for: twice the id of a clause to look at, or that plus 1 where the group of the clause begins.
unfoldable pub hint_of : ℕ → Hint
hint_of x = elim (x % 2 == 0) [ true ↦ look (x / 2) | false ↦ group (x / 2) ]

-- The id that the number of a hint, or of an id to be deleted, stands for.
abbrev pub half : ℕ → ℕ
half x = x / 2
