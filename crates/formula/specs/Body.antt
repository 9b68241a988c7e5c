-- What the functions of src/body.rt read, in terms of document 01's definitions (rules' Text and Formula).
use Rattle.std.specs.Prelude.{ℕ, ◌+◌, ◌*◌, ◌<◌, ◌≤◌, max, ◌≡◌, ◌⊎◌, true, false, List, [], ◌∷◌, ◌++◌, map, leb, length, get_or, take, drop, Option, Some, None, Result, Ok, Err}
use Rattle.std.proofs.Math.Option.{none, some}
use Rattle.meaning.specs.Meaning.{Clause}
use Rattle.rules.specs.Text.{tokens, literal}
use Rattle.rules.specs.Formula.{items, read_clauses}
use Rattle.rules.specs.Answers.{numbered}
use Rattle.text.specs.declared.Token.{Token}
use Rattle.text.specs.declared.Token.TheVariants.{Nought, Plus, Minus, LetterD, Other, Nothing}
use Rattle.clauses.specs.Codes.{literal_of}
use Rattle.clauses.specs.Store.{RoomFor, written, Holds}
use Rattle.formula.specs.declared.body.NoLiteral.{NoLiteral}
use Rattle.formula.specs.declared.body.Progress.{Progress}
use Rattle.formula.specs.declared.Fault.{Fault}
use Rattle.formula.specs.declared.Fault.TheVariants.{Unreadable, TooShort}
use Rattle.formula.specs.declared.Stopped.{Stopped}

-- What a token says in a clause over variables up to m: the code of a literal, or nothing for the 0 at the end.
abbrev pub item_of : ℕ → Token → Result (Option ℕ) NoLiteral
item_of m Nought = Ok None
item_of m (Plus v) = elim (leb v m) [ true ↦ Ok (Some (2 * v)) | false ↦ Err (record {}) ]
item_of m (Minus v) = elim (leb v m) [ true ↦ Ok (Some (2 * v + 1)) | false ↦ Err (record {}) ]
item_of m LetterD = Err (record {})
item_of m Other = Err (record {})
item_of m Nothing = Err (record {})

-- The numbers `new` stand in `after` from `used` up to `end`, and everything else is as it was before.
pub record Placed (before : List ℕ) (used : ℕ) (new after : List ℕ) (end : ℕ) : Type 0 where
  pub count : end ≡ used + length new
  pub room : end ≤ length before
  pub stored : after ≡ take used before ++ (new ++ drop end before)

-- All numbers of the list are below m.
abbrev pub AllBelow : ℕ → List ℕ → Type 0
AllBelow m [] = Unit {0}
AllBelow m (x ∷ xs) = (x < m) × AllBelow m xs

-- A clause was read from `at` on, up to its 0, and its literals were stored.
pub record ClauseDone (v : ℕ) (s : List ℕ) (at : ℕ) (before : List ℕ) (used : ℕ) (after : List ℕ) (next end : ℕ) : Type 0 where
  pub new : List ℕ
  pub placed : Placed before used new after end
  pub below : AllBelow (2 * v + 2) new
  pub is : items (literal v) (tokens (drop at s)) ≡ some (map literal_of new, tokens (drop next s))
  pub later : at < next
  pub within : next ≤ length s

-- There is no clause at `at`. (Some literals were stored before that was found.)
pub record ClauseBad (v : ℕ) (s : List ℕ) (at : ℕ) (before : List ℕ) (used : ℕ) (after : List ℕ) (next end : ℕ) : Type 0 where
  pub new : List ℕ
  pub placed : Placed before used new after end
  pub is : items (literal v) (tokens (drop at s)) ≡ none
  pub few : length new ≤ length (tokens (drop at s))
  pub later : at ≤ next
  pub within : next ≤ length s

-- The literals did not fit: there is less room than there are tokens.
pub record ClauseLong (v : ℕ) (s : List ℕ) (at : ℕ) (before : List ℕ) (used : ℕ) (after : List ℕ) (next end : ℕ) : Type 0 where
  pub new : List ℕ
  pub placed : Placed before used new after end
  pub short : length before < used + length (tokens (drop at s))
  pub few : length new ≤ length (tokens (drop at s))
  pub later : at ≤ next
  pub within : next ≤ length s

-- Why reading a clause stopped.
abbrev pub ClauseStopped : ℕ → List ℕ → ℕ → List ℕ → ℕ → List ℕ → ℕ → ℕ → Fault → Type 0
ClauseStopped v s at before used after next end Unreadable = ClauseBad v s at before used after next end
ClauseStopped v s at before used after next end TooShort = ClauseLong v s at before used after next end

-- What reading a clause came to, by the answer, where k clauses were closed before.
abbrev pub ClauseCase : ℕ → List ℕ → ℕ → List ℕ → ℕ → ℕ → List ℕ → Result Progress Stopped → Type 0
ClauseCase v s at before used k after (Ok done) = ClauseDone v s at before used after done.next done.used
ClauseCase v s at before used k after (Err stop) = ClauseStopped v s at before used after stop.at stop.used stop.fault × (stop.closed ≡ k)

pub record ReadsClause (v : ℕ) (s : List ℕ) (at : ℕ) (before : List ℕ) (used k : ℕ) (after : List ℕ) (r : Result Progress Stopped) : Type 0 where
  pub case : ClauseCase v s at before used k after r

-- The clause was closed as the k-th, or there was no room for it and nothing was changed.
abbrev pub CloseCase : List ℕ → ℕ → Progress → List ℕ → Result (Unit {0}) Stopped → Type 0
CloseCase before k clause after (Ok done) = RoomFor before (k + 1) × (after ≡ written before k (2 * (k + 1)) clause.used)
CloseCase before k clause after (Err stop) =
    (length before ≤ 3 * k + 5) × (after ≡ before) × (stop ≡ record { fault = TooShort; at = clause.next; used = clause.used; closed = k })

pub record Closes (before : List ℕ) (k : ℕ) (clause : Progress) (after : List ℕ) (r : Result (Unit {0}) Stopped) : Type 0 where
  pub case : CloseCase before k clause after r

-- So many clauses were read from `at` on, and the store holds them, none lost or gained.
pub record BodyDone (v c : ℕ) (s : List ℕ) (at : ℕ) (heads lits : List ℕ) (next used : ℕ) : Type 0 where
  pub clauses : List Clause
  pub is : read_clauses v c (tokens (drop at s)) ≡ some (clauses, tokens (drop next s))
  pub holds : Holds heads lits c used c (numbered 0 clauses)
  pub below : (i : ℕ) → i < used → get_or lits i 0 < 2 * v + 2
  pub few : used + c ≤ length (tokens (drop at s))
  pub later : at ≤ next
  pub within : next ≤ length s

-- The text from `at` on has no so many clauses.
pub record BodyBad (v c : ℕ) (s : List ℕ) (at next used closed : ℕ) : Type 0 where
  pub is : read_clauses v c (tokens (drop at s)) ≡ none
  pub few : used + closed ≤ length (tokens (drop at s))
  pub later : at ≤ next
  pub within : next ≤ length s

-- One of the two parts is shorter than the tokens of the text ask for.
pub record BodyLong (s : List ℕ) (at : ℕ) (heads lits : List ℕ) (next used closed : ℕ) : Type 0 where
  pub short : (length lits < length (tokens (drop at s))) ⊎ (length heads < 3 * length (tokens (drop at s)) + 3)
  pub few : used + closed ≤ length (tokens (drop at s))
  pub later : at ≤ next
  pub within : next ≤ length s

-- Why reading the clauses stopped.
abbrev pub BodyStopped : ℕ → ℕ → List ℕ → ℕ → List ℕ → List ℕ → ℕ → ℕ → ℕ → Fault → Type 0
BodyStopped v c s at heads₀ lits₀ next used closed Unreadable = BodyBad v c s at next used closed
BodyStopped v c s at heads₀ lits₀ next used closed TooShort = BodyLong s at heads₀ lits₀ next used closed

-- What reading the clauses came to, by the answer.
abbrev pub BodyCase : ℕ → ℕ → List ℕ → ℕ → List ℕ → List ℕ → List ℕ → List ℕ → Result Progress Stopped → Type 0
BodyCase v c s at heads₀ lits₀ heads lits (Ok done) = BodyDone v c s at heads lits done.next done.used
BodyCase v c s at heads₀ lits₀ heads lits (Err stop) = BodyStopped v c s at heads₀ lits₀ stop.at stop.used stop.closed stop.fault

pub record ReadsBody (v c : ℕ) (s : List ℕ) (at : ℕ) (heads₀ lits₀ heads lits : List ℕ) (r : Result Progress Stopped) : Type 0 where
  pub case : BodyCase v c s at heads₀ lits₀ heads lits r

-- The greatest number of a list, or 0.
unfoldable pub greatest : List ℕ → ℕ
greatest [] = 0
greatest (x ∷ xs) = max x (greatest xs)
