-- How the live clauses lie in two lists of numbers, and which list of live clauses that is.
--
-- `heads` has three numbers for each clause that was added, in the order in which they were added: twice its id, plus 1 once it
-- is deleted; and where its literals begin in `lits`, as the rest and the quotient by 2 ^ 32, so that 32 bits do for each of the
-- three. They end where those of the next begin. Behind the last clause stand three numbers more, of which only the last two
-- count: the end of the last clause.
use Rattle.std.specs.Prelude.{◌≡◌, ℕ, zero, suc, ◌+◌, ◌*◌, ◌/◌, ◌%◌, ◌<◌, ◌≤◌, true, false, List, [], ◌∷◌, ◌++◌, map, length, ◌==◌, slice_index, slice_set}
use Rattle.std.proofs.Math.Seq.{slice}
use Rattle.meaning.specs.Meaning.{Clause}
use Rattle.rules.specs.Judging.{Live}
use Rattle.clauses.specs.Codes.{literal_of}

-- Twice the id of the k-th clause, plus 1 if it is deleted.
abbrev pub id_at : List ℕ → ℕ → ℕ
id_at heads k = slice_index heads (3 * k)

-- Where the literals of the k-th clause begin.
unfoldable pub start_at : List ℕ → ℕ → ℕ
start_at heads k = slice_index heads (3 * k + 1) + 4294967296 * slice_index heads (3 * k + 2)

-- There is room for n clauses, and for the end of the last one.
abbrev pub RoomFor : List ℕ → ℕ → Type 0
RoomFor heads n = 3 * n + 2 < length heads

-- The k-th clause lies within the two lists.
pub record Placed (heads lits : List ℕ) (k : ℕ) : Type 0 where
  pub room : RoomFor heads (k + 1)
  pub ordered : start_at heads k ≤ start_at heads (k + 1)
  pub inside : start_at heads (k + 1) ≤ length lits

-- The heads with one clause more, which is the n-th and ends at `end`.
unfoldable pub written : List ℕ → ℕ → ℕ → ℕ → List ℕ
written heads n head end = slice_set (slice_set (slice_set heads (3 * n) head) (3 * n + 4) (end % 4294967296)) (3 * n + 5) (end / 4294967296)

-- The heads with the k-th clause deleted.
unfoldable pub marked : List ℕ → ℕ → List ℕ
marked heads k = slice_set heads (3 * k) (id_at heads k + 1)

-- The literals of the k-th clause.
unfoldable pub clause_at : List ℕ → List ℕ → ℕ → Clause
unfolding literal_of
clause_at heads lits k = map literal_of (slice (start_at heads k) (start_at heads (k + 1)) lits)

-- The k-th clause with its id, if it is live.
unfoldable pub entry_at : List ℕ → List ℕ → ℕ → Live
unfolding clause_at
entry_at heads lits k = elim (id_at heads k % 2 == 0) [ true ↦ (id_at heads k / 2, clause_at heads lits k) ∷ [] | false ↦ [] ]

-- The live ones of the first n clauses.
unfoldable pub live_of : List ℕ → List ℕ → ℕ → Live
unfolding entry_at
live_of heads lits zero = []
live_of heads lits (suc n) = live_of heads lits n ++ entry_at heads lits n

-- The two lists hold n clauses, live or deleted, with `used` literals in all and ids up to `last`.
pub record Store (heads lits : List ℕ) (n used last : ℕ) : Type 0 where
  pub room : RoomFor heads n
  pub begins : start_at heads 0 ≡ 0
  pub ordered : (k : ℕ) → k < n → start_at heads k ≤ start_at heads (k + 1)
  pub ends : start_at heads n ≡ used
  pub fits : used ≤ length lits
  pub rising : (j k : ℕ) → j < k → k < n → id_at heads j / 2 < id_at heads k / 2
  pub below : (k : ℕ) → k < n → id_at heads k / 2 ≤ last

-- The store holds these live clauses.
pub record Holds (heads lits : List ℕ) (n used last : ℕ) (live : Live) : Type 0 where
  pub store : Store heads lits n used last
  pub same : live_of heads lits n ≡ live

-- The first n clauses, live or deleted, without their ids.
unfoldable pub clauses_of : List ℕ → List ℕ → ℕ → List Clause
unfolding clause_at
clauses_of heads lits zero = []
clauses_of heads lits (suc n) = clauses_of heads lits n ++ (clause_at heads lits n ∷ [])
