-- What the clauses of a store take, one for each and one for each literal, is what the live ones take and what the deleted ones
-- take. So a caller knows how much of a store is waste. Assumes nothing.
use Rattle.std.proofs.Common.{ℕ, zero, suc, ◌+◌, ◌-◌, ◌/◌, ◌%◌, ◌<◌, ◌≤◌, ◌≡◌, refl, ap, ◌∙◌, List, [], ◌∷◌, ◌++◌, arith, add-one, eqb-true, eqb, length}
use borrow.Author.Tests.{eqb-false}
use Rattle.std.proofs.Math.ListN.{length-map}
use Rattle.std.proofs.Math.Seq.{slice, length-slice}
use Rattle.meaning.specs.Meaning.{Clause}
use Rattle.meaning.proofs.Truth.{bool_cases}
use Rattle.rules.specs.Judging.{Live}
use Rattle.clauses.specs.Codes.{literal_of}
use Rattle.clauses.specs.Store.{id_at, start_at, clause_at, entry_at, live_of, Store, Holds}
use Rattle.clauses.proofs.Entries.{entry_live, entry_deleted, clause_is, live-suc, live-none, start-below}
use Rattle.deletion.specs.Deleting.{weight, dead_at, dead_of}
use Rattle.deletion.proofs.Leavings.{dead_live, dead_deleted, dead_suc, dead_none}

-- What live clauses take.

pub weight-none : weight [] ≡ 0
unfolding weight
weight-none = refl

pub weight-one : (id : ℕ) (c : Clause) → weight ((id, c) ∷ []) ≡ length c + 1
unfolding weight
weight-one id c = omega arith

pub weight-append : (live more : Live) → weight (live ++ more) ≡ weight live + weight more
unfolding weight
weight-append [] more = omega arith
weight-append (e ∷ live) more = omega (arith, weight-append live more)

module _ (heads lits : List ℕ) (n used last : ℕ) (s : Store heads lits n used last) where
  clause-long : (k : ℕ) → k < n → length (clause_at heads lits k) ≡ start_at heads (k + 1) - start_at heads k
  clause-long k l =
      let end : start_at heads (k + 1) ≤ length lits = omega (arith, start-below heads lits n used last s (k + 1) (omega arith), s.fits) in
      ap length (clause_is heads lits k (start_at heads k) (start_at heads (k + 1)) refl refl)
      ∙ (length-map (slice (start_at heads k) (start_at heads (k + 1)) lits) literal_of ∙ length-slice (start_at heads k) (start_at heads (k + 1)) lits end)

  -- A clause takes the same, live or deleted.
  entry_weight : (k : ℕ) → k < n → weight (entry_at heads lits k) + dead_at heads k ≡ start_at heads (k + 1) - start_at heads k + 1
  entry_weight k l =
      bool_cases (eqb (id_at heads k % 2) 0)
      (λ y.
      let e = eqb-true (id_at heads k % 2) 0 y in
      omega (arith, ap weight (entry_live heads lits k e), weight-one (id_at heads k / 2) (clause_at heads lits k), clause-long k l, dead_live heads k e))
      (λ m.
      let d = eqb-false (id_at heads k % 2) 0 m in
      omega (arith, ap weight (entry_deleted heads lits k d), weight-none, dead_deleted heads k d))

  weight-first : (m : ℕ) → m ≤ n → m + start_at heads m ≡ weight (live_of heads lits m) + dead_of heads m
  weight-first zero h = omega (arith, s.begins, ap weight (live-none heads lits), weight-none, dead_none heads)
  weight-first (suc m) h =
      let z : start_at heads (m + 1) ≡ start_at heads (suc m) = ap (start_at heads) (add-one m) in
      omega (
        arith,
        z,
        weight-first m (omega arith),
        s.ordered m (omega arith),
        ap weight (live-suc heads lits m),
        weight-append (live_of heads lits m) (entry_at heads lits m),
        dead_suc heads m,
        entry_weight m (omega arith),
      )

  pub weight_dead : n + used ≡ weight (live_of heads lits n) + dead_of heads n
  weight_dead = omega (arith, s.ends, weight-first n (omega arith))

-- The same of the live clauses that a store holds.
pub holds-weight : (heads lits : List ℕ) (n used last : ℕ) (live : Live) → Holds heads lits n used last live → n + used ≡ weight live + dead_of heads n
holds-weight heads lits n used last live h = omega (arith, weight_dead heads lits n used last h.store, ap weight h.same)
