-- Laws of the heads: what stands in them where one clause more is written, and where one is deleted. Assumes nothing.
use Rattle.std.proofs.Common.{◌≡◌, ℕ, ◌+◌, ◌*◌, ◌/◌, ◌%◌, ◌<◌, List, length, get_or, set, sym, refl, ◌∙◌, arith, length-set, get_or-set_other, get_or-set_same}
use Rattle.clauses.specs.Store.{id_at, start_at, RoomFor, written, marked}

-- Where a clause begins goes by the two numbers behind its head.
start_is : (heads : List ℕ) (k low high : ℕ) → get_or heads (3 * k + 1) 0 ≡ low → get_or heads (3 * k + 2) 0 ≡ high → start_at heads k ≡ low + 4294967296 * high
unfolding start_at
start_is heads k low high p q = rw (p, q)

start_same : (heads heads' : List ℕ) (k : ℕ) → get_or heads' (3 * k + 1) 0 ≡ get_or heads (3 * k + 1) 0 → get_or heads' (3 * k + 2) 0 ≡ get_or heads (3 * k + 2) 0 → start_at heads' k ≡ start_at heads k
start_same heads heads' k p q = start_is heads' k (get_or heads (3 * k + 1) 0) (get_or heads (3 * k + 2) 0) p q ∙ sym (start_is heads k (get_or heads (3 * k + 1) 0) (get_or heads (3 * k + 2) 0) refl refl)

-- One clause more.
module _ (heads : List ℕ) (n head end : ℕ) where
  pub written-long : length (written heads n head end) ≡ length heads
  unfolding written
  written-long = simp length-set

  written_other : (j : ℕ) → (j ≡ 3 * n → ⊥) → (j ≡ 3 * n + 4 → ⊥) → (j ≡ 3 * n + 5 → ⊥) → get_or (written heads n head end) j 0 ≡ get_or heads j 0
  unfolding written
  written_other j a b c =
      get_or-set_other (set (set heads (3 * n) head) (3 * n + 4) (end % 4294967296)) (3 * n + 5) j (end / 4294967296) 0 c
      ∙ (get_or-set_other (set heads (3 * n) head) (3 * n + 4) j (end % 4294967296) 0 b ∙ get_or-set_other heads (3 * n) j head 0 a)

  pub written-ids : (k : ℕ) → (k ≡ n → ⊥) → id_at (written heads n head end) k ≡ id_at heads k
  written-ids k d = written_other (3 * k) (λ e. d (omega arith)) (λ e. omega arith) (λ e. omega arith)

  pub written_starts : (k : ℕ) → (k ≡ n + 1 → ⊥) → start_at (written heads n head end) k ≡ start_at heads k
  written_starts k d =
      start_same heads (written heads n head end) k
      (written_other (3 * k + 1) (λ e. omega arith) (λ e. d (omega arith)) (λ e. omega arith))
      (written_other (3 * k + 2) (λ e. omega arith) (λ e. omega arith) (λ e. d (omega arith)))

  pub written_id : RoomFor heads (n + 1) → id_at (written heads n head end) n ≡ head
  unfolding written
  written_id room =
      get_or-set_other (set (set heads (3 * n) head) (3 * n + 4) (end % 4294967296)) (3 * n + 5) (3 * n) (end / 4294967296) 0 (λ e. omega arith)
      ∙ (get_or-set_other (set heads (3 * n) head) (3 * n + 4) (3 * n) (end % 4294967296) 0 (λ e. omega arith)
      ∙ get_or-set_same heads (3 * n) head 0 (omega arith))

  low_there : RoomFor heads (n + 1) → get_or (written heads n head end) (3 * n + 4) 0 ≡ end % 4294967296
  unfolding written
  low_there room =
      get_or-set_other (set (set heads (3 * n) head) (3 * n + 4) (end % 4294967296)) (3 * n + 5) (3 * n + 4) (end / 4294967296) 0 (λ e. omega arith)
      ∙ get_or-set_same (set heads (3 * n) head) (3 * n + 4) (end % 4294967296) 0 (rw length-set (omega arith))

  high_there : RoomFor heads (n + 1) → get_or (written heads n head end) (3 * n + 5) 0 ≡ end / 4294967296
  unfolding written
  high_there room = get_or-set_same (set (set heads (3 * n) head) (3 * n + 4) (end % 4294967296)) (3 * n + 5) (end / 4294967296) 0 (rw (length-set, length-set) (omega arith))

  pub written_end : RoomFor heads (n + 1) → start_at (written heads n head end) (n + 1) ≡ end
  written_end room =
      let low : 3 * (n + 1) + 1 ≡ 3 * n + 4 = omega arith in
      let high : 3 * (n + 1) + 2 ≡ 3 * n + 5 = omega arith in
      start_is (written heads n head end) (n + 1) (end % 4294967296) (end / 4294967296) (rw low (low_there room)) (rw high (high_there room)) ∙ omega arith

-- One clause deleted.
module _ (heads : List ℕ) (k : ℕ) where
  pub marked-long : length (marked heads k) ≡ length heads
  unfolding marked
  marked-long = simp length-set

  marked_other : (j : ℕ) → (j ≡ 3 * k → ⊥) → get_or (marked heads k) j 0 ≡ get_or heads j 0
  unfolding marked
  marked_other j d = get_or-set_other heads (3 * k) j (id_at heads k + 1) 0 d

  pub marked_id : 3 * k < length heads → id_at (marked heads k) k ≡ id_at heads k + 1
  unfolding marked
  marked_id room = get_or-set_same heads (3 * k) (id_at heads k + 1) 0 room

  pub marked-ids : (j : ℕ) → (j ≡ k → ⊥) → id_at (marked heads k) j ≡ id_at heads j
  marked-ids j d = marked_other (3 * j) (λ e. d (omega arith))

  pub marked_starts : (j : ℕ) → start_at (marked heads k) j ≡ start_at heads j
  marked_starts j = start_same heads (marked heads k) j (marked_other (3 * j + 1) (λ e. omega arith)) (marked_other (3 * j + 2) (λ e. omega arith))
