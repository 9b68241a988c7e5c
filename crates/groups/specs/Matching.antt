-- Where the groups of hints begin, and what holding them against the live clauses comes to, in terms of document 01's rule 4
-- (rules' Judging) and of the store of live clauses (clauses' Store).
use Rattle.std.specs.Prelude.{ℕ, zero, suc, ◌+◌, ◌-◌, ◌/◌, ◌%◌, ◌<◌, ◌≤◌, ◌≡◌, Bool, true, false, List, [], ◌∷◌, ◌++◌, map, eqb, length, get_or, drop, Result, Ok, Err}
use Rattle.std.proofs.Math.Option.{Option, none, some}
use Rattle.rules.specs.Judging.{Live, containing, groups, mismatch}
use Rattle.clauses.specs.Codes.{literal_of, hint_of}
use Rattle.clauses.specs.Store.{id_at, start_at, entry_at, Holds}

-- A group begins at this place, or it is the end.
pub record GroupAt (hints : List ℕ) (at : ℕ) : Type 0 where
  pub within : at ≤ length hints
  pub begins : at < length hints → get_or hints at 0 % 2 ≡ 0 → ⊥

-- No group begins from `from` on up to this place.
pub record NoGroup (hints : List ℕ) (from place : ℕ) : Type 0 where
  pub later : from ≤ place
  pub evens : (k : ℕ) → from ≤ k → k < place → get_or hints k 0 % 2 ≡ 0

-- The first place from `from` on where a group begins, or the end.
pub record NextGroup (hints : List ℕ) (from place : ℕ) : Type 0 where
  pub passed : NoGroup hints from place
  pub group : GroupAt hints place

-- The groups that begin from `at` on.
abbrev pub groups_from : List ℕ → ℕ → List (ℕ × List ℕ)
groups_from hints at = groups (map hint_of (drop at hints))

-- How many literals the k-th clause has, if it is live.
unfoldable pub literals_at : List ℕ → ℕ → ℕ
literals_at heads k = elim (eqb (id_at heads k % 2) 0) [ true ↦ start_at heads (k + 1) - start_at heads k | false ↦ 0 ]

-- How many literals the live ones of the first n clauses have.
unfoldable pub literals_of : List ℕ → ℕ → ℕ
unfolding literals_at
literals_of heads zero = 0
literals_of heads (suc n) = literals_of heads n + literals_at heads n

-- The k-th clause is live and contains q, and so its id is the first of those that a group must have; or it is not one of them.
abbrev pub ExaminedCase : List ℕ → List ℕ → ℕ → ℕ → Bool → Type 0
ExaminedCase heads lits k q true = (rest : Live) → containing (literal_of q) (entry_at heads lits k ++ rest) ≡ id_at heads k / 2 ∷ containing (literal_of q) rest
ExaminedCase heads lits k q false = (rest : Live) → containing (literal_of q) (entry_at heads lits k ++ rest) ≡ containing (literal_of q) rest

pub record Examined (heads lits : List ℕ) (k q : ℕ) (has : Bool) (literals : ℕ) : Type 0 where
  pub case : ExaminedCase heads lits k q has
  pub counted : literals ≡ literals_at heads k

-- The group at `at` is that of the clause `id`, and the next one begins at `next`.
pub record TookGroup (id : ℕ) (hints : List ℕ) (at next : ℕ) : Type 0 where
  pub is : (ids : List ℕ) → mismatch (id ∷ ids) (groups_from hints at) ≡ mismatch ids (groups_from hints next)
  pub group : GroupAt hints next
  pub later : at ≤ next

-- The group at `at` is that of the clause `id`; or it is not, or there is none, and this is the id at fault.
abbrev pub TakesCase : ℕ → List ℕ → ℕ → Result ℕ ℕ → Type 0
TakesCase id hints at (Ok next) = TookGroup id hints at next
TakesCase id hints at (Err id') = (ids : List ℕ) → mismatch (id ∷ ids) (groups_from hints at) ≡ some id'

-- The k-th clause has its group or needs none, and the next group begins at `next`.
pub record PassedOn (heads lits : List ℕ) (k : ℕ) (hints : List ℕ) (at q next turns : ℕ) : Type 0 where
  pub is : (rest : Live)
      → mismatch (containing (literal_of q) (entry_at heads lits k ++ rest)) (groups_from hints at) ≡ mismatch (containing (literal_of q) rest) (groups_from hints next)
  pub group : GroupAt hints next
  pub later : at ≤ next
  pub counted : turns ≡ 1 + literals_at heads k + (next - at)

-- At the k-th clause the groups differ from those that they must be.
pub record PassedNot (heads lits : List ℕ) (k : ℕ) (hints : List ℕ) (at q id turns : ℕ) : Type 0 where
  pub is : (rest : Live) → mismatch (containing (literal_of q) (entry_at heads lits k ++ rest)) (groups_from hints at) ≡ some id
  pub counted : turns ≡ 1 + literals_at heads k

abbrev pub PassesCase : List ℕ → List ℕ → ℕ → List ℕ → ℕ → ℕ → ℕ → Result ℕ ℕ → Type 0
PassesCase heads lits k hints at q turns (Ok next) = PassedOn heads lits k hints at q next turns
PassesCase heads lits k hints at q turns (Err id) = PassedNot heads lits k hints at q id turns

-- Whether the groups are those that they must be; if not, the id at fault.
abbrev pub Outcome : Type 0
Outcome = Result (Unit {0}) ℕ

-- Whether groups are left where no clause is.
abbrev pub FinishesCase : List ℕ → ℕ → Outcome → Type 0
FinishesCase hints at (Ok u) = (mismatch [] (groups_from hints at) ≡ none) × (at ≡ length hints)
FinishesCase hints at (Err id) = mismatch [] (groups_from hints at) ≡ some id

-- Whatever live clauses the two lists hold, what comes of holding the groups against those that contain q is this.
abbrev pub Comes : List ℕ → List ℕ → ℕ → List ℕ → ℕ → Option ℕ → Type 0
Comes heads lits n hints q o =
    (used last : ℕ) (live : Live) → Holds heads lits n used last live → mismatch (containing (literal_of q) live) (groups (map hint_of hints)) ≡ o

-- The turns of the walk when it has passed so many clauses and has come to the place `at` of the hints: one for each clause, for
-- each literal of a live one of them, and for each hint.
pub record Walked (heads hints : List ℕ) (from passed at turns : ℕ) : Type 0 where
  pub later : from ≤ at
  pub within : at ≤ length hints
  pub counted : turns ≡ passed + literals_of heads passed + (at - from)

-- The groups are exactly those that they must be.
pub record AllMatch (heads lits : List ℕ) (n : ℕ) (hints : List ℕ) (from q turns : ℕ) : Type 0 where
  pub is : Comes heads lits n hints q none
  pub walked : Walked heads hints from n (length hints) turns

-- They are not, and this is the id at fault.
pub record OneDiffers (heads lits : List ℕ) (n : ℕ) (hints : List ℕ) (from q id turns : ℕ) : Type 0 where
  pub is : Comes heads lits n hints q (some id)
  pub passed : ℕ
  pub some_of : passed ≤ n
  pub at : ℕ
  pub walked : Walked heads hints from passed at turns

abbrev pub MatchesCase : List ℕ → List ℕ → ℕ → List ℕ → ℕ → ℕ → ℕ → Outcome → Type 0
MatchesCase heads lits n hints from q turns (Ok u) = AllMatch heads lits n hints from q turns
MatchesCase heads lits n hints from q turns (Err id) = OneDiffers heads lits n hints from q id turns

pub record Matches (heads lits : List ℕ) (n : ℕ) (hints : List ℕ) (from q : ℕ) (r : Outcome) (turns : ℕ) : Type 0 where
  pub case : MatchesCase heads lits n hints from q turns r
