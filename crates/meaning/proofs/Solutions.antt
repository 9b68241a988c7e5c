-- That "no solution" means what it should:
--     no_assignment_solves    Unsolvable F says that no assignment is a solution of F
--     same_outside            two assignments that agree on 1 to n do the same to clauses whose variables are 1 to n
--     finite_assignments      it is enough to try the assignments of variables 1 to n, of which there are only so many
-- Assumes nothing.
use Rattle.std.proofs.Common.{ℕ, zero, suc, ◌+◌, ◌-◌, ◌≤◌, ◌<◌, ◌≡◌, refl, sym, ap, ◌∙◌, inl, inr, ⊎_elim, ◌↔◌, Bool, true, false, not, List, [], ◌∷◌, arith, length, get_or}
use Rattle.meaning.specs.Meaning.{
  Literal,
  pos,
  neg,
  Clause,
  Formula,
  Assignment,
  holds,
  satisfies,
  satisfies_all,
  Solves,
  OneOf,
  Unsolvable,
  variable,
  Within,
  AllWithin,
}
use Rattle.meaning.proofs.Truth.{bool_cases, clash, and_both, and_false_cases}

-- What Unsolvable says of one assignment.
abbrev pub Fails : Assignment → List Clause → Type 0
Fails a cs = (c : Clause) × OneOf c cs × (satisfies a c ≡ false)

-- Each of the clauses that an assignment satisfies is satisfied.
pub each_satisfied : (a : Assignment) (cs : List Clause) (c : Clause) → satisfies_all a cs ≡ true → OneOf c cs → satisfies a c ≡ true
each_satisfied a [] c e o = absurd o
each_satisfied a (d ∷ cs) c e o =
    let both = and_both (satisfies a d) (satisfies_all a cs) e in
    ⊎_elim (λ (q : c ≡ d). rw q both.0) (each_satisfied a cs c both.1) o

-- Where not all are satisfied, there is one that is not.
pub one_fails : (a : Assignment) (cs : List Clause) → satisfies_all a cs ≡ false → Fails a cs
one_fails a [] e = absurd (clash refl e)
one_fails a (c ∷ cs) e =
    ⊎_elim
    (λ f. (c, inl refl, f))
    (λ f. let rest = one_fails a cs f in (rest.0, inr rest.1, rest.2))
    (and_false_cases (satisfies a c) (satisfies_all a cs) e)

pub no_assignment_solves : (F : Formula) → Unsolvable F ↔ ((a : Assignment) → Solves a F → ⊥)
no_assignment_solves F = (
  (λ u a s. let f = u a in clash (each_satisfied a F.clauses f.0 s f.1) f.2),
  (λ n a. bool_cases (satisfies_all a F.clauses) (λ s. absurd (n a s)) (one_fails a F.clauses)),
)

-- The two assignments agree on the variables 1 to n.
abbrev pub Agree : ℕ → Assignment → Assignment → Type 0
Agree n a b = (v : ℕ) → 1 ≤ v → v ≤ n → a v ≡ b v

same_literal_lem : (n : ℕ) (a b : Assignment) → Agree n a b → (l : Literal) → 1 ≤ variable l → variable l ≤ n → holds a l ≡ holds b l
same_literal_lem n a b h (pos v) p q = h v p q
same_literal_lem n a b h (neg v) p q = ap not (h v p q)

same_clause : (n : ℕ) (a b : Assignment) → Agree n a b → (c : Clause) → Within n c → satisfies a c ≡ satisfies b c
same_clause n a b h [] w = refl
same_clause n a b h (l ∷ c) w = rw (same_literal_lem n a b h l w.0 w.1, same_clause n a b h c w.2)

-- What an assignment says of other variables than 1 to n has no effect on clauses over 1 to n.
pub same_outside : (n : ℕ) (a b : Assignment) → Agree n a b → (cs : List Clause) → AllWithin n cs → satisfies_all a cs ≡ satisfies_all b cs
same_outside n a b h [] w = refl
same_outside n a b h (c ∷ cs) w = rw (same_clause n a b h c w.0, same_outside n a b h cs w.1)

-- A list of truth values as an assignment: the first is that of variable 1, the next that of variable 2, and so on.
abbrev pub spelled : List Bool → Assignment
spelled values v = get_or values (v - 1) false

-- What a says of the n variables from k on, as a list.
table : ℕ → ℕ → Assignment → List Bool
table zero k a = []
table (suc n) k a = a k ∷ table n (suc k) a

table_length : (n k : ℕ) (a : Assignment) → length (table n k a) ≡ n
unfolding table
table_length zero k a = refl
table_length (suc n) k a = ap suc (table_length n (suc k) a)

table_at : (n k i : ℕ) (a : Assignment) → i < n → get_or (table n k a) i false ≡ a (k + i)
unfolding table
table_at zero k i a h = absurd (omega arith)
table_at (suc n) k zero a h = ap a (omega arith)
table_at (suc n) k (suc i) a h = table_at n (suc k) i a (omega arith) ∙ ap a (omega arith)

-- Trying all lists of as many truth values as the formula has variables is trying all assignments.
pub finite_assignments : (F : Formula) → AllWithin F.vars F.clauses
    → Unsolvable F ↔ ((values : List Bool) → length values ≡ F.vars → Fails (spelled values) F.clauses)
finite_assignments F w = ((λ u values e. u (spelled values)), (λ u a. other a (u (table F.vars 1 a) (table_length F.vars 1 a))))
  where
    agree : (a : Assignment) → Agree F.vars a (spelled (table F.vars 1 a))
    agree a v p q = sym (table_at F.vars 1 (v - 1) a (omega arith) ∙ ap a (omega arith))

    other : (a : Assignment) → Fails (spelled (table F.vars 1 a)) F.clauses → Fails a F.clauses
    other a f =
        bool_cases (satisfies_all a F.clauses)
        (λ s. absurd (clash (each_satisfied (spelled (table F.vars 1 a)) F.clauses f.0 (sym (same_outside F.vars a _ (agree a) F.clauses w) ∙ s) f.1) f.2))
        (one_fails a F.clauses)
