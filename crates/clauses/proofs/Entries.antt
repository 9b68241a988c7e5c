-- Laws of what the two lists hold: the same numbers at the same places are the same live clauses. Assumes nothing.
use Rattle.std.proofs.Common.{◌≡◌, ℕ, zero, suc, ◌+◌, ◌-◌, ◌/◌, ◌%◌, ◌<◌, ◌≤◌, eqb, List, [], ◌∷◌, ◌++◌, map, take, drop}
use Rattle.std.proofs.Common.{sym, refl, ap, ◌∙◌, add-one, arith, take-take, eq-eqb, ne_eqb, eqb-true}
use borrow.Author.Tests.{eqb-false}
use Rattle.std.proofs.Math.Seq.{slice}
use Rattle.meaning.proofs.Truth.{bool_cases}
use Rattle.clauses.specs.Codes.{literal_of}
use Rattle.clauses.specs.Store.{id_at, start_at, clause_at, entry_at, live_of, Store}

-- One clause.

pub entry_live : (heads lits : List ℕ) (k : ℕ) → id_at heads k % 2 ≡ 0 → entry_at heads lits k ≡ (id_at heads k / 2, clause_at heads lits k) ∷ []
unfolding entry_at
entry_live heads lits k e = rw (eq-eqb (id_at heads k % 2) 0 e, entry_at)

pub entry_deleted : (heads lits : List ℕ) (k : ℕ) → (id_at heads k % 2 ≡ 0 → ⊥) → entry_at heads lits k ≡ []
unfolding entry_at
entry_deleted heads lits k n = rw (ne_eqb (id_at heads k % 2) 0 n, entry_at)

-- The clause at a place, from the literals that stand there.
pub clause_is : (heads lits : List ℕ) (k a e : ℕ) → start_at heads k ≡ a → start_at heads (k + 1) ≡ e → clause_at heads lits k ≡ map literal_of (slice a e lits)
unfolding clause_at
clause_is heads lits k a e p q = rw (p, q)

-- One clause more, or one deleted clause more.
pub live_more : (heads lits : List ℕ) (n : ℕ) → live_of heads lits (n + 1) ≡ live_of heads lits n ++ entry_at heads lits n
unfolding live_of
live_more heads lits n = rw (add-one n)

pub live-suc : (heads lits : List ℕ) (n : ℕ) → live_of heads lits (suc n) ≡ live_of heads lits n ++ entry_at heads lits n
unfolding live_of
live-suc heads lits n = refl

pub live-none : (heads lits : List ℕ) → live_of heads lits 0 ≡ []
unfolding live_of
live-none heads lits = refl

module _ (heads lits heads' lits' : List ℕ) where
  pub entry_same : (k : ℕ) → id_at heads' k ≡ id_at heads k → clause_at heads' lits' k ≡ clause_at heads lits k → entry_at heads' lits' k ≡ entry_at heads lits k
  entry_same k i c =
      bool_cases (eqb (id_at heads k % 2) 0)
      (λ y.
      let e = eqb-true (id_at heads k % 2) 0 y in
      entry_live heads' lits' k (ap (λ (x : ℕ). x % 2) i ∙ e) ∙ (rw (i, c) (sym (entry_live heads lits k e))))
      (λ m.
      let d = eqb-false (id_at heads k % 2) 0 m in
      entry_deleted heads' lits' k (λ q. d (sym (ap (λ (x : ℕ). x % 2) i) ∙ q)) ∙ sym (entry_deleted heads lits k d))

  pub live_same : (n : ℕ) → ((k : ℕ) → k < n → entry_at heads' lits' k ≡ entry_at heads lits k) → live_of heads' lits' n ≡ live_of heads lits n
  unfolding live_of
  live_same zero s = refl
  live_same (suc n) s = rw (live_same n (λ k h. s k (omega arith)), s n (omega arith))

-- A part of a list up to `used` goes by what is before `used`.
pub slice_same : (xs ys : List ℕ) (a e used : ℕ) → e ≤ used → take used ys ≡ take used xs → slice a e ys ≡ slice a e xs
slice_same xs ys a e used h s =
    ap (drop a) (sym (take-take e used ys h) ∙ (ap (take e) s ∙ take-take e used xs h))

-- The clauses lie one after the other, so none ends behind `used`.
module _ (heads lits : List ℕ) (n used last : ℕ) (s : Store heads lits n used last) where
  starts_rise : (d k : ℕ) → k + d ≤ n → start_at heads k ≤ start_at heads (k + d)
  starts_rise zero k h = let z : k + zero ≡ k = omega arith in rw z (omega arith)
  starts_rise (suc d) k h =
      let z : k + suc d ≡ k + d + 1 = omega arith in
      rw z (omega (arith, starts_rise d k (omega arith), s.ordered (k + d) (omega arith)))

  pub start-below : (k : ℕ) → k ≤ n → start_at heads k ≤ used
  start-below k h =
      let z : k + (n - k) ≡ n = omega arith in
      omega (arith, rw z at (starts_rise (n - k) k (omega arith)), s.ends)
