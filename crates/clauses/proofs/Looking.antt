-- Laws of looking up, by id, in live clauses: in a list that is put together, and in what the two lists hold. Assumes nothing.
use Rattle.std.proofs.Common.{◌≡◌, ℕ, zero, suc, ◌*◌, ◌/◌, ◌%◌, ◌<◌, eqb, List, [], ◌∷◌, ◌++◌, sym, refl, ap, ◌∙◌, ⊎_elim, arith, eq-eqb, ne_eqb, eqb-true}
use borrow.Author.Tests.{eqb-false}
use Rattle.std.proofs.Math.Option.{none, some}
use Rattle.meaning.specs.Meaning.{Clause}
use Rattle.meaning.proofs.Truth.{bool_cases}
use Rattle.rules.specs.Judging.{Live, find, remove}
use Rattle.rules.proofs.Options.{none-some, some-none}
use Rattle.clauses.specs.Store.{id_at, clause_at, entry_at, live_of}
use Rattle.clauses.specs.Finding.{Rising}
use Rattle.clauses.proofs.Numbers.{cut}
use Rattle.clauses.proofs.Entries.{entry_live, entry_deleted, live-suc, live-none}

-- In a list that is put together.

module _ (id : ℕ) (ys : Live) where
  pub find_front : (xs : Live) (c : Clause) → find id xs ≡ some c → find id (xs ++ ys) ≡ some c
  unfolding find
  find_front [] c e = none-some e
  find_front (x ∷ xs) c e =
      bool_cases (eqb id x.0)
      (λ y. rw (y, find) (rw (y, find) at e))
      (λ n. rw (n, find) (find_front xs c (rw (n, find) at e)))

  pub find-behind : (xs : Live) → find id xs ≡ none → find id (xs ++ ys) ≡ find id ys
  unfolding find
  find-behind [] e = refl
  find-behind (x ∷ xs) e =
      bool_cases (eqb id x.0)
      (λ y. some-none (rw (y, find) at e))
      (λ n. rw (n, find) (find-behind xs (rw (n, find) at e)))

  pub remove_front : (xs : Live) (c : Clause) → find id xs ≡ some c → remove id (xs ++ ys) ≡ remove id xs ++ ys
  unfolding find remove
  remove_front [] c e = none-some e
  remove_front (x ∷ xs) c e =
      bool_cases (eqb id x.0)
      (λ y. rw (y, remove))
      (λ n. rw (n, remove) (ap (λ (l : Live). x ∷ l) (remove_front xs c (rw (n, find) at e))))

  pub remove-behind : (xs : Live) → find id xs ≡ none → remove id (xs ++ ys) ≡ xs ++ remove id ys
  unfolding find remove
  remove-behind [] e = refl
  remove-behind (x ∷ xs) e =
      bool_cases (eqb id x.0)
      (λ y. some-none (rw (y, find) at e))
      (λ n. rw (n, remove) (ap (λ (l : Live). x ∷ l) (remove-behind xs (rw (n, find) at e))))

-- In a list with one clause or none.

find_nothing : (id : ℕ) → find id [] ≡ none
unfolding find
find_nothing id = refl

find-one : (id x : ℕ) (c : Clause) → x ≡ id → find id ((x, c) ∷ []) ≡ some c
unfolding find
find-one id x c e = rw (eq-eqb id x (sym e), find)

find_other : (id x : ℕ) (c : Clause) → (x ≡ id → ⊥) → find id ((x, c) ∷ []) ≡ none
unfolding find
find_other id x c d = rw (ne_eqb id x (λ e. d (sym e)), find)

remove-one : (id x : ℕ) (c : Clause) → x ≡ id → remove id ((x, c) ∷ []) ≡ []
unfolding remove
remove-one id x c e = rw (eq-eqb id x (sym e), remove)

-- In what the two lists hold.

module _ (heads lits : List ℕ) (id : ℕ) where
  entry_has : (k : ℕ) → id_at heads k ≡ 2 * id → find id (entry_at heads lits k) ≡ some (clause_at heads lits k)
  entry_has k e = ap (find id) (entry_live heads lits k (omega arith)) ∙ find-one id (id_at heads k / 2) (clause_at heads lits k) (omega arith)

  entry_lacks : (k : ℕ) → (id_at heads k ≡ 2 * id → ⊥) → find id (entry_at heads lits k) ≡ none
  entry_lacks k d =
      bool_cases (eqb (id_at heads k % 2) 0)
      (λ y.
      let e = eqb-true (id_at heads k % 2) 0 y in
      ap (find id) (entry_live heads lits k e) ∙ find_other id (id_at heads k / 2) (clause_at heads lits k) (λ q. d (omega arith)))
      (λ m. ap (find id) (entry_deleted heads lits k (eqb-false (id_at heads k % 2) 0 m)) ∙ find_nothing id)

  pub entry_removed : (k : ℕ) → id_at heads k ≡ 2 * id → remove id (entry_at heads lits k) ≡ []
  entry_removed k e = ap (remove id) (entry_live heads lits k (omega arith)) ∙ remove-one id (id_at heads k / 2) (clause_at heads lits k) (omega arith)

  -- Where no clause has the id, it is not found.
  pub live_lacks : (n : ℕ) → ((k : ℕ) → k < n → id_at heads k ≡ 2 * id → ⊥) → find id (live_of heads lits n) ≡ none
  live_lacks zero d = ap (find id) (live-none heads lits) ∙ find_nothing id
  live_lacks (suc n) d =
      ap (find id) (live-suc heads lits n)
      ∙ (find-behind id (entry_at heads lits n) (live_of heads lits n) (live_lacks n (λ k h. d k (omega arith)))
      ∙ entry_lacks n (d n (omega arith)))

  -- Below the clause that has it, no clause has the id.
  pub none_below : (n : ℕ) → Rising heads (suc n) → id_at heads n ≡ 2 * id → find id (live_of heads lits n) ≡ none
  none_below n r e = live_lacks n (λ k h q. omega (arith, r k n h (omega arith)))

  -- A live clause is found by its id.
  pub live_has : (n k : ℕ) → Rising heads n → k < n → id_at heads k ≡ 2 * id → find id (live_of heads lits n) ≡ some (clause_at heads lits k)
  live_has zero k r h e = absurd (omega arith)
  live_has (suc n) k r h e =
      ⊎_elim
      (λ lt.
      ap (find id) (live-suc heads lits n)
      ∙ find_front id (entry_at heads lits n) (live_of heads lits n) (clause_at heads lits k) (live_has n k (λ i j l m. r i j l (omega arith)) lt e))
      (λ ge.
      let z : n ≡ k = omega arith in
      let f : id_at heads n ≡ 2 * id = rw z e in
      ap (find id) (live-suc heads lits n)
      ∙ (find-behind id (entry_at heads lits n) (live_of heads lits n) (none_below n r f)
      ∙ (entry_has n f ∙ ap (λ (x : ℕ). some (clause_at heads lits x)) z)))
      (cut k n)
