-- The limits of document 01, sections 2 and 3. No other definition has a limit of its own.
use Rattle.std.specs.Prelude.{ℕ}

-- The greatest number of a variable, and so the greatest V.
abbrev pub max_variable : ℕ
max_variable = 16_777_215

-- The greatest number C of clauses that a formula may announce.
abbrev pub max_clauses : ℕ
max_clauses = 16_777_215

-- The greatest id of a clause.
abbrev pub max_id : ℕ
max_id = 268_435_455
