-- A store in which no clause is deleted: its live clauses, without their ids, are all its clauses. Assumes nothing.
use Rattle.std.proofs.Common.{◌≡◌, ℕ, zero, suc, ◌%◌, ◌<◌, ◌≤◌, eqb, List, [], ◌∷◌, ◌++◌, length, sym, refl, ap, ◌∙◌, ⊎_elim, arith, length-append, eqb-true}
use borrow.Author.Tests.{eqb-false}
use Rattle.meaning.specs.Meaning.{Clause}
use Rattle.meaning.proofs.Truth.{bool_cases}
use Rattle.rules.specs.Judging.{Live}
use Rattle.rules.specs.Answers.{numbered}
use Rattle.clauses.specs.Store.{id_at, clause_at, entry_at, live_of, clauses_of, Holds}
use Rattle.clauses.proofs.Entries.{entry_live, entry_deleted}
use Rattle.clauses.proofs.Numbers.{cut}

-- The clauses without their ids.
abbrev plain : Live → List Clause
plain [] = []
plain (e ∷ live) = e.1 ∷ plain live

plain-append : (xs ys : Live) → plain (xs ++ ys) ≡ plain xs ++ plain ys
plain-append [] ys = refl
plain-append (x ∷ xs) ys = ap (λ (l : List Clause). x.1 ∷ l) (plain-append xs ys)

plain-numbered : (n : ℕ) (cs : List Clause) → plain (numbered n cs) ≡ cs
unfolding numbered
plain-numbered n [] = refl
plain-numbered n (c ∷ cs) = ap (λ (l : List Clause). c ∷ l) (plain-numbered (suc n) cs)

numbered-length : (n : ℕ) (cs : List Clause) → length (numbered n cs) ≡ length cs
unfolding numbered
numbered-length n [] = refl
numbered-length n (c ∷ cs) = ap suc (numbered-length (suc n) cs)

-- There are no more live clauses than clauses.
live_few : (heads lits : List ℕ) (n : ℕ) → length (live_of heads lits n) ≤ n
unfolding live_of
live_few heads lits zero = omega arith
live_few heads lits (suc n) =
    bool_cases (eqb (id_at heads n % 2) 0)
    (λ y. let one = entry_live heads lits n (eqb-true (id_at heads n % 2) 0 y) in rw (one, length-append) (omega (arith, live_few heads lits n)))
    (λ f. let gone = entry_deleted heads lits n (eqb-false (id_at heads n % 2) 0 f) in rw (gone, length-append) (omega (arith, live_few heads lits n)))

-- If there are as many, they are the same.
all_plain : (heads lits : List ℕ) (n : ℕ) → length (live_of heads lits n) ≡ n → plain (live_of heads lits n) ≡ clauses_of heads lits n
unfolding live_of clauses_of
all_plain heads lits zero e = refl
all_plain heads lits (suc n) e =
    bool_cases (eqb (id_at heads n % 2) 0)
    (λ y. let one = entry_live heads lits n (eqb-true (id_at heads n % 2) 0 y) in
    let as_many : length (live_of heads lits n ++ (_ ∷ [])) ≡ suc n = (rw one at e) in
    plain-append (live_of heads lits n) (entry_at heads lits n)
    ∙ ap (λ (l : Live). plain (live_of heads lits n) ++ plain l) one
    ∙ ap (λ (l : List Clause). l ++ (clause_at heads lits n ∷ [])) (all_plain heads lits n (omega (arith, rw length-append at as_many))))
    (λ f. let gone = entry_deleted heads lits n (eqb-false (id_at heads n % 2) 0 f) in
    let too_many : length (live_of heads lits n ++ []) ≡ suc n = (rw gone at e) in
    absurd (omega (arith, rw length-append at too_many, live_few heads lits n)))

-- A store that holds the clauses of a formula, with ids 1 to n, has these clauses and no others.
pub holds_plain : (heads lits : List ℕ) (n used last : ℕ) (cs : List Clause) → Holds heads lits n used last (numbered 0 cs) → n ≡ length cs → clauses_of heads lits n ≡ cs
holds_plain heads lits n used last cs h e =
    let as_many : length (live_of heads lits n) ≡ n = ap length h.same ∙ numbered-length 0 cs ∙ sym e in
    sym (all_plain heads lits n as_many) ∙ ap plain h.same ∙ plain-numbered 0 cs

-- If there are as many live clauses as clauses, none is deleted.
all_live : (heads lits : List ℕ) (n : ℕ) → length (live_of heads lits n) ≡ n → (k : ℕ) → k < n → id_at heads k % 2 ≡ 0
unfolding live_of
all_live heads lits zero e k h = absurd (omega arith)
all_live heads lits (suc n) e k h =
    bool_cases (eqb (id_at heads n % 2) 0)
    (λ y. let one = entry_live heads lits n (eqb-true (id_at heads n % 2) 0 y) in
    let as_many : length (live_of heads lits n ++ (_ ∷ [])) ≡ suc n = (rw one at e) in
    ⊎_elim
    (λ before. all_live heads lits n (omega (arith, rw length-append at as_many)) k before)
    (λ last. let z : k ≡ n = omega arith in rw z (eqb-true (id_at heads n % 2) 0 y))
    (cut k n))
    (λ f. let gone = entry_deleted heads lits n (eqb-false (id_at heads n % 2) 0 f) in
    let too_many : length (live_of heads lits n ++ []) ≡ suc n = (rw gone at e) in
    absurd (omega (arith, rw length-append at too_many, live_few heads lits n)))

pub holds_undeleted : (heads lits : List ℕ) (n used last : ℕ) (cs : List Clause)
    → Holds heads lits n used last (numbered 0 cs) → n ≡ length cs → (k : ℕ) → k < n → id_at heads k % 2 ≡ 0
holds_undeleted heads lits n used last cs h e = all_live heads lits n (ap length h.same ∙ numbered-length 0 cs ∙ sym e)
