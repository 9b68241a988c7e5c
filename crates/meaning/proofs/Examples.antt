-- Small formulas, with and without a solution, so that a wrong definition is seen at once. Assumes nothing.
use Rattle.std.proofs.Common.{refl, inl, inr, [], ◌∷◌}
use Rattle.meaning.specs.Meaning.{pos, neg, Assignment, Solves, Unsolvable}
use Rattle.meaning.proofs.Truth.{bool_cases}

-- The formula with no clause: every assignment is a solution.
nothing_asked : (a : Assignment) → Solves a (record { vars = 0; clauses = [] })
nothing_asked a = refl

-- The empty clause: none is.
never_satisfied : Unsolvable (record { vars = 0; clauses = [] ∷ [] })
never_satisfied a = ([], inl refl, refl)

-- "1 or 2", "not 1": a solution makes 1 false and 2 true.
solved : Solves (λ v. lib.Dec.eqb v 2) (record { vars = 2; clauses = (pos 1 ∷ pos 2 ∷ []) ∷ (neg 1 ∷ []) ∷ [] })
solved = refl

-- "1", "not 1": there is none, since 1 is true or false.
contradiction : Unsolvable (record { vars = 1; clauses = (pos 1 ∷ []) ∷ (neg 1 ∷ []) ∷ [] })
contradiction a =
    bool_cases (a 1)
    (λ t. (neg 1 ∷ [], inr (inl refl), rw t))
    (λ f. (pos 1 ∷ [], inl refl, rw f))
