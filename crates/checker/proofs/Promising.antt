-- The promises of the front door, from what its parts come to. Assumes nothing.
use Rattle.std.proofs.Common.{ℕ, ◌+◌, ◌*◌, ◌<◌, ◌≤◌, ◌≡◌, refl, sym, ap, ◌∙◌, inl, inr, ⊎_elim, List, arith, length, take, length-take-le}
use Rattle.rules.specs.Limits.{max_variable}
use Rattle.rules.specs.Text.{Token, tokens}
use Rattle.rules.specs.Answers.{start}
use Rattle.rules.proofs.Options.{some_inj}
use Rattle.rules.specs.Judging.{State}
use Rattle.rules.proofs.Counting.{tokens_few}
use Rattle.rules.proofs.Limited.{literal-most, read-within}
use Rattle.rules.proofs.Running.{step_shorter}
use Rattle.rules.proofs.Soundness.{verdict_sound}
use Rattle.clauses.proofs.Numbers.{cut}
use Rattle.steps.specs.Reading.{StandsIn, LargeIn}
use Rattle.steps.proofs.Readings.{begins_fewer}
use Rattle.checker.specs.Promises.{said, Exact, Means, time_bound, step_of, Leads, here, then, heads_for, lits_for, hints_for, tape_for, marks_for, Enough, Room, NoMark, ShortAt, ShortLater, Short, FollowsLive}
use Rattle.checker.specs.Answering.{Cells, ChecksMarked}
use Rattle.checker.specs.declared.Answer.{Answer}
use Rattle.checker.proofs.Storing.{within_clauses}
use Rattle.checker.proofs.Runs.{short_same}

-- unsolvable

pub exact_means : (f p : List ℕ) (a : Answer) → Exact f p a → Means f a
exact_means f p a x k e =
    ⊎_elim
    (λ short. absurd (let z : ◌≡◌ {A = ℕ} 0 1 = cc in omega arith))
    (λ says. verdict_sound f p k (sym (some_inj (ap said (sym e) ∙ says))))
    x

-- live

-- A variable that stands in a step is within the limit.
stands_most : (v : ℕ) (ts : List Token) → StandsIn v ts → v ≤ max_variable
stands_most v ts s = rw (← s.next.is_variable) (literal-most max_variable s.token s.next.new s.next.says)

-- Where a variable that there may be has no cell, there are too few marks.
cells_above : (marks cells v : ℕ) → Cells marks cells → v ≤ max_variable → cells ≤ 2 * v + 1 → marks ≤ 2 * v + 1
cells_above marks cells v c w h =
    ⊎_elim (λ few. omega arith) (λ many. absurd (omega (arith, c.enough (2 * v + 2) (omega arith) many (omega arith)))) (cut marks (2 * v + 2))

module _ (f p heads lits hints marks tape : List ℕ) (cells : ℕ) (c : Cells (length marks) cells) where
  large_marks : (ts : List Token) → LargeIn cells ts → LargeIn (length marks) ts
  large_marks ts g =
      record { variable = g.variable; stands = g.stands; above = cells_above (length marks) cells g.variable c (stands_most g.variable ts g.stands) g.above }

  later_marks : ShortLater f p heads lits hints tape cells → ShortLater f p heads lits hints tape (length marks)
  later_marks x = record {
    formula = x.formula;
    is = x.is;
    all = x.all;
    few = x.few;
    short =
        ⊎_elim
        (λ y.
        let w = read-within f x.formula x.is in
        inl
        (record {
          variable = y.variable;
          occurs = y.occurs;
          above = cells_above (length marks) cells y.variable c (omega (arith, within_clauses x.formula.vars y.variable x.formula.clauses w.all_within y.occurs, w.few_variables)) y.above;
        }))
        (λ y. inr (short_same heads lits hints tape heads lits hints tape cells (length marks) (start x.formula) (tokens p) x.all refl refl refl refl large_marks y))
        x.short;
  }

  short_marks : Short f p heads lits hints tape cells → Short f p heads lits hints tape (length marks)
  short_marks x = ⊎_elim (λ a. inl a) (λ y. inr (later_marks y)) x

-- room

-- Steps take tokens.
leads_fewer : (s : State) (ts : List Token) (s' : State) (ts' : List Token) → Leads s ts s' ts' → length ts' ≤ length ts
leads_fewer s ts s' ts' here = omega arith
leads_fewer s ts s' ts' (then {s₁ = s₁} {ts₁ = ts₁} r l is j) = omega (arith, step_shorter ts₁ r is, leads_fewer s ts s₁ ts₁ l)

-- Each part by itself: where it has its stated length, it is not the one that is too short, at no step that is come to.
module _ (f p heads lits hints marks tape : List ℕ) (e : Enough f p heads lits hints marks tape)
    (x : ShortLater f p heads lits hints tape (length marks)) (y : ShortAt heads lits hints tape (length marks) (start x.formula) (tokens p) x.all) where
  codes_few : y.lacks.codes + 1 ≤ length y.rest
  codes_few = begins_fewer y.rest y.lacks.codes y.lacks.step

  heads_never : length heads ≤ 3 * y.n + 5 → ⊥
  heads_never h = omega (arith, e.in_heads, x.few, y.few, codes_few)

  lits_never : length lits ≤ y.used + y.lacks.codes → ⊥
  lits_never h = omega (arith, e.in_lits, x.few, y.few, codes_few)

  hints_never : length hints ≤ y.lacks.codes → ⊥
  hints_never h = omega (arith, e.in_hints_lem, codes_few, leads_fewer (start x.formula) (tokens p) y.state y.rest y.leads, tokens_few p)

  tape_never : length tape < y.used + 2 * y.lacks.codes → ⊥
  tape_never h = omega (arith, e.in_tape, x.few, y.few, codes_few)

  large_never : LargeIn (length marks) y.rest → ⊥
  large_never g =
      omega (arith, e.in_marks g.variable (inr (record { formula = x.formula; is = x.is; state = y.state; rest = y.rest; leads = y.leads; stands = g.stands })), g.above)

  short_never : ⊥
  short_never =
      ⊎_elim heads_never (λ q. ⊎_elim lits_never (λ r. ⊎_elim hints_never (λ s. ⊎_elim tape_never large_never s) r) q) y.lacks.short

module _ (f p heads lits hints marks tape : List ℕ) (e : Enough f p heads lits hints marks tape) where
  no_mark_never : (x : ShortLater f p heads lits hints tape (length marks)) → NoMark x.formula (length marks) → ⊥
  no_mark_never x y =
      omega (arith, e.in_marks y.variable (inl (record { formula = x.formula; is = x.is; stands = y.occurs })), y.above)

  pub enough_never : Short f p heads lits hints tape (length marks) → ⊥
  enough_never x =
      ⊎_elim
      (λ y. ⊎_elim (λ l. omega (arith, e.in_lits)) (λ h. omega (arith, e.in_heads)) y)
      (λ y. ⊎_elim (λ a. no_mark_never y a) (λ b. short_never f p heads lits hints marks tape e y b) y.short)
      x

-- All promises.
pub promises : (f p heads lits hints marks tape : List ℕ) (cells : ℕ) → Cells (length marks) cells → (a : Answer) (turns : ℕ)
    → ChecksMarked f p heads lits hints (take cells marks) tape a turns
    → Exact f p a × (Means f a × (Room f p heads lits hints marks tape a × (FollowsLive f p heads lits hints marks tape a × ((turns ≤ time_bound (length f) (length p)) × (step_of a ≤ turns)))))
promises f p heads lits hints marks tape cells c a turns x =
    (x.exact, (exact_means f p a x.exact, ((λ e q. enough_never f p heads lits hints marks tape e (short q)), (short, (x.most, x.least)))))
  where
    long : length (take cells marks) ≡ cells
    long = length-take-le cells marks c.within

    short : FollowsLive f p heads lits hints marks tape a
    short q = short_marks f p heads lits hints marks tape cells c (rw long at (x.short q))

-- The stated lengths, in bytes: 4 for each number of `heads`, `lits`, `hints` and `tape`, 1 for each mark. They add up to less than
-- document 01's figure, 16 for each byte of the two files, 8 for each variable and 4,096.
pub store_bytes : (f p v : ℕ) → 4 * heads_for f p + 4 * lits_for f p + 4 * hints_for p + 4 * tape_for f p + marks_for v ≤ 14 * (f + p) + 2 * v + 44
store_bytes f p v = omega arith
