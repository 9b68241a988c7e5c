-- What it is that a text was written into a slice, what the writer asks of the store, and how turns are counted.
--
-- What the text of a formula is stands in `rules`, in `Written`, and which clauses the store holds in `clauses`, in `Store`.
use Rattle.std.specs.Prelude.{ℕ, ◌+◌, ◌*◌, ◌<◌, ◌≤◌, ◌≡◌, List, [], ◌∷◌, ◌++◌, length, take, drop, Option, Some, None}
use Rattle.meaning.specs.Meaning.{Formula}
use Rattle.rules.specs.Tools.{bytes}
use Rattle.rules.specs.Written.{decimal, write_formula}
use Rattle.clauses.specs.Store.{start_at, RoomFor, clauses_of}

-- The text has so many bytes: at least one, and at most so many.
pub record Sized (text : List ℕ) (size most : ℕ) : Type 0 where
  pub is : size ≡ length text
  pub some : 1 ≤ size
  pub few : size ≤ most

-- There is room for the text from the place `at` on.
pub record Room (out : List ℕ) (at : ℕ) (text : List ℕ) : Type 0 where
  pub fits : at + length text ≤ length out

-- The text was written from the place `at` on, up to the place `end`, and nothing else was changed.
pub record Wrote (before : List ℕ) (at : ℕ) (text after : List ℕ) (end : ℕ) : Type 0 where
  pub ends : end ≡ at + length text
  pub is : after ≡ take at before ++ (text ++ drop end before)

-- The two slices hold n clauses: each begins where the one before ends, and the last ends within the literals.
pub record Formed (heads lits : List ℕ) (n : ℕ) : Type 0 where
  pub room : RoomFor heads n
  pub ordered : (k : ℕ) → k < n → start_at heads k ≤ start_at heads (k + 1)
  pub inside : start_at heads n ≤ length lits

-- What the first line begins with, and the first line as a whole.
unfoldable pub line_start : List ℕ
line_start = bytes "p cnf "

unfoldable pub first_line : ℕ → ℕ → List ℕ
first_line vars clauses = line_start ++ (decimal vars ++ (32 ∷ (decimal clauses ++ (10 ∷ []))))

-- The formula that the store holds: all its clauses, over the variables 1 to vars.
abbrev pub formula_of : List ℕ → List ℕ → ℕ → ℕ → Formula
formula_of heads lits n vars = record { vars = vars; clauses = clauses_of heads lits n }

-- The number of bytes of that formula, written out.
abbrev pub length_of : List ℕ → List ℕ → ℕ → ℕ → ℕ
length_of heads lits n vars = length (write_formula (formula_of heads lits n vars))

-- On the way from the place `from` to the place `to` the loops made so many turns: at least one for two bytes, where `free`
-- bytes may have cost none, and at most two for each byte. A literal or a clause takes two bytes or more, so that there are at
-- least as many turns as literals and clauses were written.
pub record Counted (from to free turns : ℕ) : Type 0 where
  pub at_least : to ≤ from + 2 * turns + free
  pub at_most : turns + 2 * from + free ≤ 2 * to

-- The text was written, and so many turns were made.
pub record WroteCounted (before : List ℕ) (at : ℕ) (text after : List ℕ) (end free turns : ℕ) : Type 0 where
  pub wrote : Wrote before at text after end
  pub counted : Counted at end free turns

-- The formula was written to the front of a slice. (6 bytes, `p cnf `, cost no turn.)
pub record WroteFormula (F : Formula) (before after : List ℕ) (end turns : ℕ) : Type 0 where
  pub ends : end ≡ length (write_formula F)
  pub is : after ≡ write_formula F ++ drop end before
  pub counted : Counted 0 end 6 turns

-- A sum of lengths that began at `before` came to all that is needed, which is not above the room, and so many turns were made: at
-- least one for two bytes that were added, where `free` bytes may have cost none, and at most one for each byte; the free bytes
-- cost none.
pub record SumFits (before need room free total turns : ℕ) : Type 0 where
  pub exact : total ≡ need
  pub fits : total ≤ room
  pub at_least : total ≤ before + 2 * turns + free
  pub at_most : turns + before + free ≤ total

-- The sum is above the room, which was found as soon as it was: by then it was above it by 22 bytes at most.
pub record SumExceeds (before need room free turns : ℕ) : Type 0 where
  pub longer : room < need
  pub at_least : room < before + 2 * turns + free
  pub at_most : turns + before + free ≤ room + 24

-- A sum of lengths, or that it is above the room.
abbrev pub Summed : ℕ → ℕ → ℕ → ℕ → Option ℕ → ℕ → Type 0
Summed before need room free (Some total) turns = SumFits before need room free total turns
Summed before need room free None turns = SumExceeds before need room free turns

-- How many digits the two numbers of the first line have together.
pub record LineDigits (vars clauses digits : ℕ) : Type 0 where
  pub is : digits + 8 ≡ length (first_line vars clauses)
  pub some : 2 ≤ digits
  pub few : digits ≤ 40

-- `need` bytes fit into the room: their number, and the turns that it took to find it.
pub record FitsWhole (need room length turns : ℕ) : Type 0 where
  pub exact : length ≡ need
  pub fits : length ≤ room
  pub at_least : length ≤ 2 * turns + 6
  pub at_most : turns ≤ length

-- `need` bytes do not fit into the room, and the turns that it took to find out.
pub record IsTooLong (need room turns : ℕ) : Type 0 where
  pub longer : room < need
  pub at_least : room < 2 * turns + 6
  pub at_most : turns ≤ room + 40

-- The answer to the question whether `need` bytes fit into the room.
abbrev pub Answers : ℕ → ℕ → Option ℕ → ℕ → Type 0
Answers need room (Some size) turns = FitsWhole need room size turns
Answers need room None turns = IsTooLong need room turns
