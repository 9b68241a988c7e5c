-- Laws of the turns: what hints can cost at most. Assumes nothing.
use Rattle.std.proofs.Common.{ℕ, zero, suc, ◌+◌, ◌-◌, ◌*◌, ◌/◌, ◌%◌, ◌<◌, ◌≤◌, ◌≡◌, List, [], ◌∷◌, ◌++◌, map, eqb, length}
use Rattle.std.proofs.Common.{refl, sym, ap, ◌∙◌, arith, add-one, add-mul, mul_comm, mul-le-mul, mul-le-mul_right, eqb-true}
use borrow.Author.Tests.{eqb-false}
use Rattle.std.proofs.Math.Option.{some}
use Rattle.std.proofs.Math.ListN.{length-map}
use Rattle.std.proofs.Math.Seq.{slice, length-slice}
use Rattle.meaning.specs.Meaning.{Literal, Clause}
use Rattle.meaning.proofs.Truth.{bool_cases}
use Rattle.rules.specs.Judging.{Live, find, Trail, Look, all_false, forces, neither, look_at}
use Rattle.rules.proofs.Options.{none-some, some_inj, option_cases}
use Rattle.clauses.specs.Codes.{literal_of, half}
use Rattle.clauses.specs.Store.{id_at, start_at, clause_at, entry_at, live_of}
use Rattle.clauses.proofs.Looking.{find_front, find-behind}
use Rattle.clauses.proofs.Entries.{entry_live, entry_deleted, clause_is, live-suc, live-none, start-below}
use Rattle.judge.specs.Hints.{Ready, cost}
use Rattle.addition.specs.Verdicts.{costs}
use Rattle.addition.specs.Addition.{ids_of, most_turns, all_turns}

module _ (m : ℕ) where
  pub costs-add : (a b : ℕ) → costs m (a + b) ≡ costs m a + costs m b
  unfolding costs
  costs-add a b = add-mul a b (2 * m + 70)

  pub costs-none : costs m 0 ≡ 0
  unfolding costs
  costs-none = omega arith

  pub costs-one : costs m 1 ≡ 2 * m + 70
  unfolding costs
  costs-one = omega arith

  pub costs_next : (a : ℕ) → costs m (a + 1) ≡ costs m a + (2 * m + 70)
  costs_next a = costs-add a 1 ∙ ap (λ (x : ℕ). costs m a + x) costs-one

  pub costs_more : (a b : ℕ) → a ≤ b → costs m a ≤ costs m b
  unfolding costs
  costs_more a b h = mul-le-mul_right (2 * m + 70) h

  pub costs_least : (a : ℕ) → 70 * a ≤ costs m a
  unfolding costs
  costs_least a = omega (arith, mul_comm 70 a, mul-le-mul {n₁ = a} {m₁ = 70} {n₂ = a} {m₂ = 2 * m + 70} (omega arith) (omega arith))

-- What the whole takes, where the literals of the store and those of the clause are among so many.
pub turns_within : (n literals own codes all : ℕ) → literals ≤ all → own ≤ all → most_turns n literals own codes ≤ all_turns n all codes
unfolding costs
turns_within n literals own codes all h l = omega (arith, mul-le-mul {n₁ = codes} {m₁ = 2 * literals + 70} {n₂ = codes} {m₂ = 2 * all + 70} (omega arith) (omega arith))

-- The clauses of a store are no longer than all its literals.

find_entry : (heads lits : List ℕ) (k m id : ℕ) (c : Clause) → length (clause_at heads lits k) ≤ m → find id (entry_at heads lits k) ≡ some c → length c ≤ m
unfolding find
find_entry heads lits k m id c h e =
    bool_cases (eqb (id_at heads k % 2) 0)
    (λ y.
    let there : find id ((id_at heads k / 2, clause_at heads lits k) ∷ []) ≡ some c = ap (find id) (sym (entry_live heads lits k (eqb-true (id_at heads k % 2) 0 y))) ∙ e in
    bool_cases (eqb id (id_at heads k / 2))
    (λ t. let same : clause_at heads lits k ≡ c = some_inj (rw (t, find) at there) in rw (← same) h)
    (λ f. none-some (rw (f, find) at there)))
    (λ n. none-some (ap (find id) (sym (entry_deleted heads lits k (eqb-false (id_at heads k % 2) 0 n))) ∙ e))

live_short : (heads lits : List ℕ) (m n : ℕ) → ((k : ℕ) → k < n → length (clause_at heads lits k) ≤ m) → (id : ℕ) (c : Clause) → find id (live_of heads lits n) ≡ some c → length c ≤ m
unfolding find
live_short heads lits m zero h id c e = none-some (ap (find id) (sym (live-none heads lits)) ∙ e)
live_short heads lits m (suc n) h id c e =
    let both : find id (live_of heads lits n ++ entry_at heads lits n) ≡ some c = ap (find id) (sym (live-suc heads lits n)) ∙ e in
    option_cases (find id (live_of heads lits n))
    (λ lacks. find_entry heads lits n m id c (h n (omega arith)) (sym (find-behind id (entry_at heads lits n) (live_of heads lits n) lacks) ∙ both))
    (λ d has.
    let same : d ≡ c = some_inj (sym (find_front id (entry_at heads lits n) (live_of heads lits n) d has) ∙ both) in
    live_short heads lits m n (λ k l. h k (omega arith)) id c (has ∙ ap some same))

module _ (heads lits : List ℕ) (n : ℕ) (marks : List ℕ) (ready : Ready heads lits n marks) where
  clause_short : (k : ℕ) → k < n → length (clause_at heads lits k) ≤ length lits
  clause_short k h =
      let below : start_at heads (k + 1) ≤ length lits = omega (arith, start-below heads lits n ready.used ready.last ready.store (k + 1) (omega arith), ready.store.fits) in
      let is : clause_at heads lits k ≡ map literal_of (slice (start_at heads k) (start_at heads (k + 1)) lits) = clause_is heads lits k (start_at heads k) (start_at heads (k + 1)) refl refl in
      let long : length (clause_at heads lits k) ≡ start_at heads (k + 1) - start_at heads k =
      ap length is ∙ (length-map (slice (start_at heads k) (start_at heads (k + 1)) lits) literal_of ∙ length-slice (start_at heads k) (start_at heads (k + 1)) lits below) in
      omega arith

  pub ready_short : (id : ℕ) (c : Clause) → find id (live_of heads lits n) ≡ some c → length c ≤ length lits
  ready_short = live_short heads lits (length lits) n clause_short

-- What hints cost.

look_cases : {X : Type 0} (l : Look) → (l ≡ all_false → X) → ((k : Literal) → l ≡ forces k → X) → (l ≡ neither → X) → X
look_cases all_false f g h = f refl
look_cases (forces k) f g h = g k refl
look_cases neither f g h = h refl

module _ (live : Live) (m : ℕ) (short : (id : ℕ) (c : Clause) → find id live ≡ some c → length c ≤ m) where
  cost-one : (h : ℕ) (hs : List ℕ) (a : Trail) (x : ℕ) → ((b : Trail) → cost 64 live b hs ≤ x) → cost 64 live a (h ∷ hs) ≤ 65 + m + x
  unfolding cost
  cost-one h hs a x rest =
      option_cases (find h live)
      (λ e. rw (e, cost) (omega arith))
      (λ c e.
      let l = short h c e in
      look_cases (look_at a c)
      (λ s. rw (e, cost, s) (omega arith))
      (λ k s. rw (e, cost, s) (omega (arith, rest (k ∷ a))))
      (λ s. rw (e, cost, s) (omega arith)))

  pub cost-most : (hs : List ℕ) (a : Trail) → cost 64 live a hs + 5 * length hs ≤ costs m (length hs)
  unfolding cost
  cost-most [] a = omega (arith, costs-none m)
  cost-most (h ∷ hs) a =
      omega (arith, cost-one h hs a (costs m (length hs) - 5 * length hs) (λ b. omega (arith, cost-most hs b)), ap (costs m) (add-one (length hs)), costs_next m (length hs), cost-most hs a)

pub ids-long : (hints : List ℕ) → length (ids_of hints) ≡ length hints
ids-long hints = length-map hints half
