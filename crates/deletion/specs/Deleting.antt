-- What deleting clauses by their ids comes to, in terms of document 01's judgement of a deletion (rules' Judging) and of the
-- store of live clauses (clauses' Store).
use Rattle.std.specs.Prelude.{ℕ, zero, suc, ◌+◌, ◌-◌, ◌*◌, ◌%◌, ◌^◌, ◌<◌, ◌≤◌, ◌≡◌, true, false, List, [], ◌∷◌, map, eqb, length, Option, Some, None, Result, Ok, Err}
use Rattle.rules.specs.Judging.{Live, State, refused, goes_on, deletion_not_live, judge_deletion}
use Rattle.clauses.specs.Codes.{half}
use Rattle.clauses.specs.Store.{id_at, start_at, RoomFor, marked, Store, Holds}

-- The heads belong to a store of n clauses, which has no more literals than a slice of them can have.
pub record Headed (heads : List ℕ) (n : ℕ) : Type 0 where
  pub lits : List ℕ
  pub used : ℕ
  pub last : ℕ
  pub store : Store heads lits n used last
  pub small : used < 2 ^ 63

-- What the live clauses take: one for each, and one for each literal.
unfoldable pub weight : Live → ℕ
weight [] = 0
weight (e ∷ live) = suc (length e.1) + weight live

-- What the k-th clause takes, if it is deleted: one for itself, and one for each literal.
unfoldable pub dead_at : List ℕ → ℕ → ℕ
dead_at heads k = elim (eqb (id_at heads k % 2) 0) [ true ↦ 0 | false ↦ start_at heads (k + 1) - start_at heads k + 1 ]

-- What the deleted ones of the first n clauses take: all that compacting the store would give back.
unfoldable pub dead_of : List ℕ → ℕ → ℕ
unfolding dead_at
dead_of heads zero = 0
dead_of heads (suc n) = dead_of heads n + dead_at heads n

-- The k-th clause is live, and what it takes can be counted.
pub record Removable (heads : List ℕ) (k : ℕ) : Type 0 where
  pub room : RoomFor heads (k + 1)
  pub is_live : id_at heads k % 2 ≡ 0
  pub ordered : start_at heads k ≤ start_at heads (k + 1)
  pub fits : start_at heads (k + 1) - start_at heads k + 1 < 2 ^ 64

-- What deleting one clause asks for.
pub record Deletable (heads : List ℕ) (n id : ℕ) : Type 0 where
  pub headed : Headed heads n
  pub small : id < 2 ^ 60

-- One id took its own turn and those of a lookup, which are at most 63.
pub record OneTaken (turns : ℕ) : Type 0 where
  pub at_least : 1 ≤ turns
  pub at_most : turns ≤ 64

-- The clause `id` was live, and is deleted; it took so much.
pub record Gone (heads : List ℕ) (n id : ℕ) (heads' : List ℕ) (more : ℕ) : Type 0 where
  pub place : ℕ
  pub within : place < n
  pub is_id : id_at heads place ≡ 2 * id
  pub after : heads' ≡ marked heads place
  pub count : more ≡ start_at heads (place + 1) - start_at heads place + 1

-- No live clause has the id, and nothing was changed.
pub record Missing (heads : List ℕ) (n id : ℕ) (heads' : List ℕ) : Type 0 where
  pub lacks : (k : ℕ) → k < n → id_at heads k ≡ 2 * id → ⊥
  pub after : heads' ≡ heads

-- One or the other, by the answer.
abbrev pub OneCase : List ℕ → ℕ → ℕ → List ℕ → Option ℕ → Type 0
OneCase heads n id heads' (Some more) = Gone heads n id heads' more
OneCase heads n id heads' None = Missing heads n id heads'

pub record DeletesOne (heads : List ℕ) (n id : ℕ) (heads' : List ℕ) (r : Option ℕ) (turns : ℕ) : Type 0 where
  pub case : OneCase heads n id heads' r
  pub taken : OneTaken turns

-- What is known when the first `taken` ids were taken: how much more is deleted, and how many turns that took.
pub record Counted (heads : List ℕ) (n : ℕ) (heads' : List ℕ) (dead turns taken : ℕ) : Type 0 where
  pub dead_more : dead_of heads' n ≡ dead_of heads n + dead
  pub at_least : taken ≤ turns
  pub at_most : turns ≤ 64 * taken
  pub long : length heads' ≡ length heads

-- The state of the judgement in which these clauses are live.
abbrev pub state_of : Live → ℕ → State
state_of live last = record { live = live; last = last }

-- The store holds what is live after the deletion, which is allowed.
pub record GoesOn (lits : List ℕ) (n used last : ℕ) (live : Live) (ids heads' : List ℕ) : Type 0 where
  pub live' : Live
  pub is : judge_deletion (state_of live last) (map half ids) ≡ goes_on (state_of live' last)
  pub holds : Holds heads' lits n used last live'

-- All ids were live when they were taken, whatever store the heads belonged to.
pub record AllGone (heads : List ℕ) (n : ℕ) (ids heads' : List ℕ) (dead turns : ℕ) : Type 0 where
  pub goes_on : (lits : List ℕ) (used last : ℕ) (live : Live) → Holds heads lits n used last live → GoesOn lits n used last live ids heads'
  pub headed : Headed heads' n
  pub counted : Counted heads n heads' dead turns (length ids)

-- This id was not live when it was taken, as the `taken`-th.
pub record OneMissing (heads : List ℕ) (n : ℕ) (ids heads' : List ℕ) (id dead turns : ℕ) : Type 0 where
  pub is : (lits : List ℕ) (used last : ℕ) (live : Live) → Holds heads lits n used last live → judge_deletion (state_of live last) (map half ids) ≡ refused (deletion_not_live id)
  pub taken : ℕ
  pub within : taken ≤ length ids
  pub counted : Counted heads n heads' dead turns taken

-- What deleting all came to, by the answer.
abbrev pub DeletesCase : List ℕ → ℕ → List ℕ → List ℕ → Result (Unit {0}) ℕ → ℕ → ℕ → Type 0
DeletesCase heads n ids heads' (Ok u) dead turns = AllGone heads n ids heads' dead turns
DeletesCase heads n ids heads' (Err id) dead turns = OneMissing heads n ids heads' id dead turns

pub record Deletes (heads : List ℕ) (n : ℕ) (ids heads' : List ℕ) (outcome : Result (Unit {0}) ℕ) (dead turns : ℕ) : Type 0 where
  pub case : DeletesCase heads n ids heads' outcome dead turns
