-- Laws of the search by halving: where the id can still be, and how many turns were taken. Assumes nothing.
use Rattle.std.proofs.Common.{◌≡◌, ℕ, ◌+◌, ◌-◌, ◌*◌, ◌/◌, ◌^◌, ◌<◌, ◌≤◌, List, sym, ap, ◌∙◌, ⊎_elim, mul_assoc, mul-le-mul_left, arith, pow-add, le-leb}
use borrow.Author.Tests.{lt-leb}
use Rattle.clauses.specs.Store.{id_at}
use Rattle.clauses.specs.Finding.{Rising, reached_by}
use Rattle.clauses.proofs.Numbers.{cut}

pub reached_yes : (id x : ℕ) → x / 2 ≤ id → reached_by id x ≡ 1
unfolding reached_by
reached_yes id x h = rw (le-leb (x / 2) id h, reached_by)

pub reached_no : (id x : ℕ) → id < x / 2 → reached_by id x ≡ 0
unfolding reached_by
reached_no id x h = rw (lt-leb (x / 2) id h, reached_by)

-- The difference says which.
pub reached_by_lem : (id x r : ℕ) → id < 2 ^ 60 → x < 2 ^ 64 → r ≡ (9223372036854775808 + id - x / 2) / 9223372036854775808 → r ≡ reached_by id x
reached_by_lem id x r small fits e =
    ⊎_elim
    (λ no. e ∙ (omega arith ∙ sym (reached_no id x no)))
    (λ yes. e ∙ (omega arith ∙ sym (reached_yes id x yes)))
    (cut id (x / 2))

pub reached-le : (id x h : ℕ) → h * reached_by id x ≤ h
reached-le id x h =
    ⊎_elim (λ no. rw (reached_no id x no) (omega arith)) (λ yes. rw (reached_yes id x yes) (omega arith)) (cut id (x / 2))

-- A clause with the id, if there is one among the first n, is one of the `span` from `base` on.
pub record Bracket (heads : List ℕ) (n id base span : ℕ) : Type 0 where
  pub some : 0 < span
  pub within : base + span ≤ n
  pub lower : (k : ℕ) → k < n → id_at heads k / 2 ≡ id → base ≤ k
  pub upper : (k : ℕ) → k < n → id_at heads k / 2 ≡ id → k < base + span

-- With `turns` halvings of n, each rounded up, `span` is left.
pub record Halving (n span turns : ℕ) : Type 0 where
  pub short : turns + span ≤ n
  pub enough : n ≤ 2 ^ turns * span
  pub few : 2 ^ turns * (span - 1) < n
  pub fewer : 2 ^ turns < 2 * n

module _ (heads : List ℕ) (n id base span : ℕ) (rises : Rising heads n) (b : Bracket heads n id base span) (more : 1 < span) where
  bracket_up : id_at heads (base + span / 2) / 2 ≤ id → Bracket heads n id (base + span / 2) (span - span / 2)
  bracket_up h = record {
    some = omega arith;
    within = omega arith;
    lower = λ k l e. ⊎_elim (λ lt. absurd (omega (arith, rises k (base + span / 2) lt (omega arith)))) (λ ge. ge) (cut k (base + span / 2));
    upper = λ k l e. omega (arith, b.upper k l e);
  }

  bracket_down : id < id_at heads (base + span / 2) / 2 → Bracket heads n id base (span - span / 2)
  bracket_down h = record {
    some = omega arith;
    within = omega arith;
    lower = b.lower;
    upper = λ k l e.
        ⊎_elim
        (λ lt. omega arith)
        (λ ge. absurd (⊎_elim (λ lt. omega (arith, rises (base + span / 2) k lt l)) (λ le. let z : base + span / 2 ≡ k = omega arith in omega (arith, ap (λ (x : ℕ). id_at heads x / 2) z)) (cut (base + span / 2) k)))
        (cut k (base + span / 2));
  }

  pub bracket_on : Bracket heads n id (base + span / 2 * reached_by id (id_at heads (base + span / 2))) (span - span / 2)
  bracket_on =
      ⊎_elim
      (λ no. let z : base + span / 2 * 0 ≡ base = omega arith in rw (reached_no id (id_at heads (base + span / 2)) no, z) (bracket_down no))
      (λ yes. let z : base + span / 2 * 1 ≡ base + span / 2 = omega arith in rw (reached_yes id (id_at heads (base + span / 2)) yes, z) (bracket_up yes))
      (cut id (id_at heads (base + span / 2) / 2))

module _ (n span turns turns' : ℕ) (h : Halving n span turns) (more : 1 < span) (one : turns' ≡ turns + 1) where
  twice : 2 ^ turns' ≡ 2 ^ turns * 2
  twice = ap (λ (x : ℕ). 2 ^ x) one ∙ pow-add 2 turns 1

  pub halving_on : Halving n (span - span / 2) turns'
  halving_on = record {
    short = omega (arith, h.short);
    enough = rw (twice, mul_assoc) (omega (arith, h.enough, mul-le-mul_left {m = span} {n = 2 * (span - span / 2)} (2 ^ turns) (omega arith)));
    few = rw (twice, mul_assoc) (omega (arith, h.few, mul-le-mul_left {m = 2 * (span - span / 2 - 1)} {n = span - 1} (2 ^ turns) (omega arith)));
    fewer = rw twice (omega (arith, h.few, mul-le-mul_left {m = 1} {n = span - 1} (2 ^ turns) (omega arith)));
  }
