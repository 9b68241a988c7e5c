-- What a search for an id comes to, and how many turns it takes.
use Rattle.std.specs.Prelude.{◌≡◌, ℕ, ◌*◌, ◌/◌, ◌^◌, ◌<◌, ◌≤◌, true, false, ◌⊎◌, List, ◌≢◌, nat_le, Option, Some, None, ⊤}
use Rattle.clauses.specs.Store.{id_at, RoomFor}

-- The ids of the first n clauses rise, deleted or not.
abbrev pub Rising : List ℕ → ℕ → Type 0
Rising heads n = (j k : ℕ) → j < k → k < n → id_at heads j / 2 < id_at heads k / 2

-- What a search for `id` among the first n clauses asks for.
pub record Searchable (heads : List ℕ) (n id : ℕ) : Type 0 where
  pub room : RoomFor heads n
  pub rising : Rising heads n
  pub small : id < 2 ^ 60

-- What a peek for `id` came to: the place of the live clause with this id among the first n, or none, which says nothing.
abbrev pub Peeks : List ℕ → ℕ → ℕ → Option ℕ → Type 0
Peeks heads n id (Some place) = (place < n) × (id_at heads place ≡ 2 * id)
Peeks heads n id None = ⊤

-- The place of the live clause with this id among the first n, or that there is none.
abbrev pub Finds : List ℕ → ℕ → ℕ → Option ℕ → Type 0
Finds heads n id (Some place) = (place < n) × (id_at heads place ≡ 2 * id)
Finds heads n id None = (k : ℕ) → k < n → id_at heads k ≢ 2 * id

-- Exactly as often as n can be halved, rounding up, until 1 is left.
pub record Halvings (n turns : ℕ) : Type 0 where
  pub none : n ≡ 0 → turns ≡ 0
  pub enough : 0 < n → n ≤ 2 ^ turns
  pub few : 0 < n → 2 ^ turns < 2 * n

-- At most as often.
abbrev pub AtMostHalvings : ℕ → ℕ → Type 0
AtMostHalvings n turns = (2 ^ turns < 2 * n) ⊎ (turns ≡ 0)

-- 1 if x is the head of a clause whose id is at most `id`, else 0.
unfoldable pub reached_by : ℕ → ℕ → ℕ
reached_by id x = elim (nat_le (x / 2) id) [ true ↦ 1 | false ↦ 0 ]
