-- What the deleted clauses take, before and after one more is added or deleted. Assumes nothing.
use Rattle.std.proofs.Common.{ℕ, zero, suc, ◌+◌, ◌-◌, ◌*◌, ◌%◌, ◌<◌, ◌≤◌, ◌≡◌, refl, sym, ap, ◌∙◌, ⊎_elim, List, arith, add-one, eqb-true, eq-eqb, ne_eqb, eqb, length}
use borrow.Author.Tests.{eqb-false}
use Rattle.meaning.proofs.Truth.{bool_cases}
use Rattle.clauses.specs.Store.{id_at, start_at, RoomFor, written, marked}
use Rattle.clauses.proofs.Numbers.{cut}
use Rattle.clauses.proofs.Heads.{written-ids, written_starts, written_id, marked_id, marked-ids, marked_starts}
use Rattle.deletion.specs.Deleting.{dead_at, dead_of}

-- One clause.

pub dead_live : (heads : List ℕ) (k : ℕ) → id_at heads k % 2 ≡ 0 → dead_at heads k ≡ 0
unfolding dead_at
dead_live heads k e = rw (eq-eqb (id_at heads k % 2) 0 e, dead_at)

pub dead_deleted : (heads : List ℕ) (k : ℕ) → (id_at heads k % 2 ≡ 0 → ⊥) → dead_at heads k ≡ start_at heads (k + 1) - start_at heads k + 1
unfolding dead_at
dead_deleted heads k d = rw (ne_eqb (id_at heads k % 2) 0 d, dead_at)

dead_at_same : (heads heads' : List ℕ) (k : ℕ) → id_at heads' k ≡ id_at heads k → start_at heads' k ≡ start_at heads k → start_at heads' (k + 1) ≡ start_at heads (k + 1)
    → dead_at heads' k ≡ dead_at heads k
dead_at_same heads heads' k i s e =
    bool_cases (eqb (id_at heads k % 2) 0)
    (λ y. let f = eqb-true (id_at heads k % 2) 0 y in dead_live heads' k (ap (λ (x : ℕ). x % 2) i ∙ f) ∙ sym (dead_live heads k f))
    (λ n.
    let d = eqb-false (id_at heads k % 2) 0 n in
    dead_deleted heads' k (λ q. d (sym (ap (λ (x : ℕ). x % 2) i) ∙ q)) ∙ (rw (s, e) (sym (dead_deleted heads k d))))

dead_at_most : (heads : List ℕ) (k : ℕ) → dead_at heads k ≤ start_at heads (k + 1) - start_at heads k + 1
dead_at_most heads k =
    bool_cases (eqb (id_at heads k % 2) 0)
    (λ y. rw (dead_live heads k (eqb-true (id_at heads k % 2) 0 y)) (omega arith))
    (λ n. rw (dead_deleted heads k (eqb-false (id_at heads k % 2) 0 n)) (omega arith))

pub dead_suc : (heads : List ℕ) (n : ℕ) → dead_of heads (suc n) ≡ dead_of heads n + dead_at heads n
unfolding dead_of
dead_suc heads n = refl

pub dead_none : (heads : List ℕ) → dead_of heads 0 ≡ 0
unfolding dead_of
dead_none heads = refl

-- That is no more than there are literals and clauses.
pub dead_below : (heads : List ℕ) (n : ℕ) → ((k : ℕ) → k < n → start_at heads k ≤ start_at heads (k + 1)) → dead_of heads n ≤ start_at heads n + n
dead_below heads zero o = rw (dead_none heads) (omega arith)
dead_below heads (suc n) o =
    let z : n + 1 ≡ suc n = add-one n in
    rw (dead_suc heads n, ← z) (omega (arith, dead_at_most heads n, o n (omega arith), dead_below heads n (λ k h. o k (omega arith))))

-- Where all clauses are live, as behind a compaction, it is nothing.
pub none_dead : (heads : List ℕ) (n : ℕ) → ((k : ℕ) → k < n → id_at heads k % 2 ≡ 0) → dead_of heads n ≡ 0
none_dead heads zero l = dead_none heads
none_dead heads (suc n) l =
    omega (arith, dead_suc heads n, dead_live heads n (l n (omega arith)), none_dead heads n (λ k h. l k (omega arith)))

-- The same numbers are the same leavings.
dead_same : (heads heads' : List ℕ) (n : ℕ) → ((k : ℕ) → k < n → dead_at heads' k ≡ dead_at heads k) → dead_of heads' n ≡ dead_of heads n
dead_same heads heads' zero s = dead_none heads' ∙ sym (dead_none heads)
dead_same heads heads' (suc n) s =
    omega (arith, dead_suc heads n, dead_suc heads' n, s n (omega arith), dead_same heads heads' n (λ k h. s k (omega arith)))

-- One clause more, which is live, changes nothing.
module _ (heads : List ℕ) (n head end : ℕ) (room : RoomFor heads (n + 1)) (even : head % 2 ≡ 0) where
  before : (k : ℕ) → k < n → dead_at (written heads n head end) k ≡ dead_at heads k
  before k h =
      dead_at_same heads (written heads n head end) k
      (written-ids heads n head end k (λ e. omega arith))
      (written_starts heads n head end k (λ e. omega arith))
      (written_starts heads n head end (k + 1) (λ e. omega arith))

  pub dead_append : dead_of (written heads n head end) (n + 1) ≡ dead_of heads n
  dead_append =
      let new = written heads n head end in
      let live : dead_at new n ≡ 0 = dead_live new n (ap (λ (x : ℕ). x % 2) (written_id heads n head end room) ∙ even) in
      ap (dead_of new) (add-one n) ∙ omega (arith, dead_suc new n, live, dead_same heads new n before)

-- One clause is deleted.
module _ (heads : List ℕ) (k : ℕ) (room : 3 * k < length heads) (is_live : id_at heads k % 2 ≡ 0) where
  abbrev without : List ℕ
  without = marked heads k

  now_dead : dead_at without k ≡ start_at heads (k + 1) - start_at heads k + 1
  now_dead =
      let odd : id_at without k ≡ id_at heads k + 1 = marked_id heads k room in
      dead_deleted without k (λ e. omega arith) ∙ rw (marked_starts heads k k, marked_starts heads k (k + 1))

  other : (j : ℕ) → (j ≡ k → ⊥) → dead_at without j ≡ dead_at heads j
  other j d = dead_at_same heads without j (marked-ids heads k j d) (marked_starts heads k j) (marked_starts heads k (j + 1))

  pub dead_more : (n : ℕ) → k < n → dead_of without n ≡ dead_of heads n + (start_at heads (k + 1) - start_at heads k + 1)
  dead_more zero h = absurd (omega arith)
  dead_more (suc n) h =
      ⊎_elim
      (λ lt. omega (arith, dead_suc without n, dead_suc heads n, dead_more n lt, other n (λ e. omega arith)))
      (λ ge.
      let z : k ≡ n = omega arith in
      let here : dead_at without n ≡ start_at heads (k + 1) - start_at heads k + 1 = ap (dead_at without) (sym z) ∙ now_dead in
      let was : dead_at heads n ≡ 0 = dead_live heads n (rw (← z) is_live) in
      omega (arith, dead_suc without n, dead_suc heads n, dead_same heads without n (λ j l. other j (λ e. omega arith)), here, was))
      (cut k n)
