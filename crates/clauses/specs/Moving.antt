-- What moving clauses down comes to: the literals of one clause, one clause, all clauses.
use Rattle.std.specs.Prelude.{◌≡◌, ℕ, ◌+◌, ◌-◌, ◌%◌, ◌<◌, ◌≤◌, ◌⊎◌, List, length, slice_index}
use Rattle.rules.specs.Judging.{Live}
use Rattle.clauses.specs.Store.{id_at, start_at, RoomFor, written, Store, Holds}
use Rattle.clauses.specs.declared.Compacted.{Compacted}

-- The two lists hold a store of n clauses.
pub record Stored (heads lits : List ℕ) (n : ℕ) : Type 0 where
  pub used : ℕ
  pub last : ℕ
  pub store : Store heads lits n used last

-- What stood from `from` up to `end` stands from `to` on, and what is before `to` or from `end` on is as it was.
pub record Moved (before : List ℕ) (from end to : ℕ) (after : List ℕ) : Type 0 where
  pub long : length after ≡ length before
  pub front : (i : ℕ) → i < to → slice_index after i ≡ slice_index before i
  pub moved : (i : ℕ) → from + i < end → slice_index after (to + i) ≡ slice_index before (from + i)
  pub behind : (i : ℕ) → end ≤ i → slice_index after i ≡ slice_index before i

-- What one clause asks for that is to move down.
pub record Movable (heads lits : List ℕ) (k n used turns : ℕ) : Type 0 where
  pub room : RoomFor heads (k + 1)
  pub below : n ≤ k
  pub forward : start_at heads k ≤ start_at heads (k + 1)
  pub inside : start_at heads (k + 1) ≤ length lits
  pub down : used ≤ start_at heads k
  pub counted : turns ≡ used

-- The k-th clause is live and moved down: it is now the n-th, and its literals begin at `used`.
pub record Kept (heads lits : List ℕ) (k n used turns : ℕ) (heads' lits' : List ℕ) (n' used' turns' : ℕ) : Type 0 where
  pub is_live : id_at heads k % 2 ≡ 0
  pub next : n' ≡ n + 1
  pub end : used' ≡ used + (start_at heads (k + 1) - start_at heads k)
  pub counted : turns' ≡ turns + (start_at heads (k + 1) - start_at heads k)
  pub head : heads' ≡ written heads n (id_at heads k) used'
  pub literals : Moved lits (start_at heads k) (start_at heads (k + 1)) used lits'

-- The k-th clause is deleted, and nothing has changed.
pub record Dropped (heads lits : List ℕ) (k n used turns : ℕ) (heads' lits' : List ℕ) (n' used' turns' : ℕ) : Type 0 where
  pub is_deleted : id_at heads k % 2 ≡ 0 → ⊥
  pub next : n' ≡ n
  pub end : used' ≡ used
  pub counted : turns' ≡ turns
  pub head : heads' ≡ heads
  pub literals : lits' ≡ lits

-- One or the other, by whether the k-th clause is live.
abbrev pub OneMoved : List ℕ → List ℕ → ℕ → Compacted → List ℕ → List ℕ → Compacted → Type 0
OneMoved heads lits k d heads' lits' r =
    Kept heads lits k d.n d.used d.turns heads' lits' r.n r.used r.turns
    ⊎ Dropped heads lits k d.n d.used d.turns heads' lits' r.n r.used r.turns

-- Whatever live clauses the lists held, they hold them still, and no deleted one; the turns are one for each clause that
-- was there, live or deleted, and one for each literal that is there still; there are no more of either than before, and a
-- bound of the literals is one still.
pub record AllMoved (heads lits : List ℕ) (n : ℕ) (heads' lits' : List ℕ) (r : Compacted) : Type 0 where
  pub holds : (used last : ℕ) (live : Live) → Holds heads lits n used last live → Holds heads' lits' r.n r.used last live
  pub all_live : (k : ℕ) → k < r.n → id_at heads' k % 2 ≡ 0
  pub counted : r.turns ≡ n + r.used
  pub fewer : r.n ≤ n
  pub shorter : r.used ≤ start_at heads n
  pub below : (m : ℕ) → ((i : ℕ) → i < start_at heads n → slice_index lits i < m) → (i : ℕ) → i < r.used → slice_index lits' i < m
  pub heads_long : length heads' ≡ length heads
  pub lits_long : length lits' ≡ length lits
