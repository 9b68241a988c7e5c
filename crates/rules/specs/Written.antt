-- A formula written out: the line p cnf V C, then one clause to a line, no comments, single spaces.
use Rattle.std.specs.Prelude.{ℕ, zero, suc, ◌+◌, ◌/◌, ◌%◌, true, false, List, [], ◌∷◌, ◌++◌, ltb, length}
use Rattle.meaning.specs.Meaning.{Literal, pos, neg, Clause, Formula}
use Rattle.rules.specs.Tools.{bytes}

-- The decimal digits of n in front of `rest`. The first argument only bounds how many there can be.
unfoldable pub decimal_onto : ℕ → ℕ → List ℕ → List ℕ
decimal_onto zero n rest = rest
decimal_onto (suc most) n rest =
    elim (ltb n 10) [ true ↦ (48 + n) ∷ rest | false ↦ decimal_onto most (n / 10) ((48 + n % 10) ∷ rest) ]

-- The number n in decimal. (It has no more than n + 1 digits.)
unfoldable pub decimal : ℕ → List ℕ
unfolding decimal_onto
decimal n = decimal_onto (suc n) n []

-- A literal: its variable in decimal, behind a - (45) if it is negative.
unfoldable pub write_literal : Literal → List ℕ
unfolding decimal
write_literal (pos v) = decimal v
write_literal (neg v) = 45 ∷ decimal v

-- A clause: each literal and a space, then 0 and a line feed.
unfoldable pub write_clause : Clause → List ℕ
unfolding write_literal
write_clause [] = bytes "0\n"
write_clause (l ∷ c) = write_literal l ++ 32 ∷ write_clause c

-- The clauses, one behind the other.
unfoldable pub write_clauses : List Clause → List ℕ
unfolding write_clause
write_clauses [] = []
write_clauses (c ∷ cs) = write_clause c ++ write_clauses cs

-- A formula: the line p cnf V C, then its clauses.
unfoldable pub write_formula : Formula → List ℕ
unfolding decimal write_clauses
write_formula F = bytes "p cnf " ++ decimal F.vars ++ 32 ∷ decimal (length F.clauses) ++ 10 ∷ write_clauses F.clauses
