-- What taking hints comes to, in terms of document 01's rule 3 (rules' Judging).
use Rattle.std.specs.Prelude.{ℕ, suc, ◌+◌, ◌^◌, ◌<◌, ◌≤◌, ◌≡◌, List, [], ◌∷◌, map, length, get_or, Option, Some, None, Result, Ok, Err}
use Rattle.std.proofs.Math.Option.{none, some}
use Rattle.std.proofs.Math.Seq.{slice}
use Rattle.meaning.specs.Meaning.{Clause}
use Rattle.rules.specs.Judging.{Live, find, hint_not_live, hint_not_forced, Trail, Look, all_false, forces, neither, look_at, Taken, conflict, bad_hint, hints_end, take_hints}
use Rattle.clauses.specs.Codes.{literal_of, opposite_code, half}
use Rattle.clauses.specs.Store.{start_at, RoomFor, live_of, Store}
use Rattle.clauses.specs.Finding.{Peeks, AtMostHalvings}
use Rattle.clauses.specs.Counting.{Reaches}
use Rattle.assignment.specs.Marks.{Shows, Paired, Marked, Laid}
use Rattle.assignment.specs.declared.Look.{Look as Sight}
use Rattle.assignment.specs.declared.Look.TheVariants.{AllFalse, Forces, Neither}
use Rattle.judge.specs.declared.hints.Effect.{Effect}
use Rattle.judge.specs.declared.hints.Effect.TheVariants.{Forced, Conflict}
use Rattle.judge.specs.declared.hints.Fault.{Fault}
use Rattle.judge.specs.declared.hints.Fault.TheVariants.{NotLive, NotForced, TooShort}

-- A store of n clauses, and marks for each literal in it and for its opposite.
pub record Ready (heads lits : List ℕ) (n : ℕ) (marks : List ℕ) : Type 0 where
  pub used : ℕ
  pub last : ℕ
  pub store : Store heads lits n used last
  pub known : (i : ℕ) → i < used → get_or lits i 0 < length marks
  pub paired : Paired marks

-- What a look at the clause at a place asks for.
pub record Lookable (heads lits marks : List ℕ) (place : ℕ) : Type 0 where
  pub room : RoomFor heads (place + 1)
  pub forward : start_at heads place ≤ start_at heads (place + 1)
  pub inside : start_at heads (place + 1) ≤ length lits
  pub known : Marked (slice (start_at heads place) (start_at heads (place + 1)) lits) marks
  pub paired : Paired marks

-- The clause `id` is live, has so many literals, and looks so under whatever assignment the marks show.
pub record Seen (live : Live) (marks : List ℕ) (id literals : ℕ) (look : Look) : Type 0 where
  pub clause : Clause
  pub found : find id live ≡ some clause
  pub many : length clause ≡ literals
  pub says : (a : Trail) → Shows marks a → look_at a clause ≡ look

-- The same of a clause that forces the literal x, which is not true yet.
pub record SeenForcing (live : Live) (marks : List ℕ) (id literals x : ℕ) : Type 0 where
  pub seen : Seen live marks id literals (forces (literal_of x))
  pub known : x < length marks
  pub free : get_or marks (opposite_code x) 0 ≡ 0

-- What a hint shows, by the answer: nothing if its clause is not live.
abbrev pub HintCase : Live → List ℕ → ℕ → ℕ → Option Sight → Type 0
HintCase live marks id literals None = (find id live ≡ none) × (literals ≡ 0)
HintCase live marks id literals (Some AllFalse) = Seen live marks id literals all_false
HintCase live marks id literals (Some (Forces x)) = SeenForcing live marks id literals x
HintCase live marks id literals (Some Neither) = Seen live marks id literals neither

-- The turns are those of the search, at most as many as n can be halved, and one for each literal of the clause.
pub record Hints (heads lits : List ℕ) (n : ℕ) (marks : List ℕ) (id : ℕ) (shown : Option Sight) (turns : ℕ) : Type 0 where
  pub search : ℕ
  pub literals : ℕ
  pub halvings : AtMostHalvings n search
  pub short : search < 64
  pub few : literals ≤ length lits
  pub counted : turns ≡ search + literals
  pub case : HintCase (live_of heads lits n) marks id literals shown

-- What making a literal true asks for.
pub record Forcible (marks tape : List ℕ) (t x : ℕ) : Type 0 where
  pub paired : Paired marks
  pub known : x < length marks
  pub free : get_or marks (opposite_code x) 0 ≡ 0
  pub within : t ≤ length tape

-- A literal is true from now on.
pub record MadeTrue (marks : List ℕ) (t x : ℕ) (marks' : List ℕ) (t' : ℕ) : Type 0 where
  pub next : t' ≡ t + 1
  pub shows : (a : Trail) → Shows marks a → Shows marks' (literal_of x ∷ a)

-- There is no room on the tape, and nothing was written there.
pub record Full (tape : List ℕ) (t t' : ℕ) : Type 0 where
  pub full : length tape ≤ t
  pub stays : t' ≡ t

-- What making a literal true came to.
abbrev pub ForceCase : List ℕ → List ℕ → ℕ → ℕ → List ℕ → ℕ → Result Effect Fault → Type 0
ForceCase marks tape t x marks' t' (Ok Forced) = MadeTrue marks t x marks' t'
ForceCase marks tape t x marks' t' (Ok Conflict) = ⊥
ForceCase marks tape t x marks' t' (Err (NotLive h)) = ⊥
ForceCase marks tape t x marks' t' (Err (NotForced h)) = ⊥
ForceCase marks tape t x marks' t' (Err TooShort) = Full tape t t'

pub record ForcesOne (marks tape : List ℕ) (t x : ℕ) (marks' tape' : List ℕ) (effect : Result Effect Fault) (t' : ℕ) : Type 0 where
  pub laid : Laid marks tape t marks' tape' t'
  pub case : ForceCase marks tape t x marks' t' effect

-- The hint forced a literal, or would have.
pub record ForcedBy (live : Live) (marks : List ℕ) (t id literals : ℕ) (marks' : List ℕ) (t' : ℕ) : Type 0 where
  pub code : ℕ
  pub seen : SeenForcing live marks id literals code
  pub made : MadeTrue marks t code marks' t'

pub record NoRoom (live : Live) (marks tape : List ℕ) (t id literals t' : ℕ) : Type 0 where
  pub code : ℕ
  pub seen : SeenForcing live marks id literals code
  pub full : Full tape t t'

-- What taking one hint came to, by the answer. The id at fault is that of the hint.
abbrev pub EffectCase : Live → List ℕ → List ℕ → ℕ → ℕ → ℕ → List ℕ → ℕ → Result Effect Fault → Type 0
EffectCase live marks tape t id literals marks' t' (Ok Forced) = ForcedBy live marks t id literals marks' t'
EffectCase live marks tape t id literals marks' t' (Ok Conflict) = Seen live marks id literals all_false × (t' ≡ t)
EffectCase live marks tape t id literals marks' t' (Err (NotLive h)) = (find id live ≡ none) × (literals ≡ 0) × (t' ≡ t) × (h ≡ id)
EffectCase live marks tape t id literals marks' t' (Err (NotForced h)) = Seen live marks id literals neither × (t' ≡ t) × (h ≡ id)
EffectCase live marks tape t id literals marks' t' (Err TooShort) = NoRoom live marks tape t id literals t'

-- The turns are one for the hint, those of the search, at most as many as n can be halved, and one for each literal of the
-- clause.
pub record TakesOne (heads lits : List ℕ) (n : ℕ) (marks tape : List ℕ) (t id : ℕ) (marks' tape' : List ℕ) (effect : Result Effect Fault) (t' turns : ℕ) : Type 0 where
  pub search : ℕ
  pub literals : ℕ
  pub halvings : AtMostHalvings n search
  pub short : search < 64
  pub few : literals ≤ length lits
  pub counted : turns ≡ search + literals + 1
  pub laid : Laid marks tape t marks' tape' t'
  pub case : EffectCase (live_of heads lits n) marks tape t id literals marks' t' effect

-- The ids of the hints from `from` up to `to`.
unfoldable pub ids_in : List ℕ → ℕ → ℕ → List ℕ
ids_in hints from to = map half (slice from to hints)

-- What the peek for the i-th hint came to, if there is one.
pub record Ahead (heads : List ℕ) (n : ℕ) (hints : List ℕ) (i : ℕ) (seen : Option ℕ) : Type 0 where
  pub peeks : i < length hints → Peeks heads n (half (get_or hints i 0)) seen

-- The hints from `from` up to `to` are there.
pub record Span (hints : List ℕ) (from to : ℕ) : Type 0 where
  pub forward : from ≤ to
  pub inside : to ≤ length hints

-- The turns that taking the hints costs, if each search costs b: one for each hint that is taken, b, and one for each literal
-- of its clause.
unfoldable pub cost : ℕ → Live → Trail → List ℕ → ℕ
unfolding find look_at
cost b live a [] = 0
cost b live a (h ∷ hs) =
    suc (b + elim (find h live) [
      | none ↦ 0
      | some c ↦ length c + elim (look_at a c) [ all_false ↦ 0 | forces l ↦ cost b live (l ∷ a) hs | neither ↦ 0 ]
    ])

-- The hints ended, and the marks show the assignment then.
pub record Ends (r : Taken) (marks : List ℕ) : Type 0 where
  pub trail : Trail
  pub is : r ≡ hints_end trail
  pub shows : Shows marks trail

-- What the document says that the hints come to, by the answer.
abbrev pub SaysCase : Taken → List ℕ → Result Effect Fault → Type 0
SaysCase r marks (Ok Forced) = Ends r marks
SaysCase r marks (Ok Conflict) = r ≡ conflict
SaysCase r marks (Err (NotLive h)) = r ≡ bad_hint (hint_not_live h)
SaysCase r marks (Err (NotForced h)) = r ≡ bad_hint (hint_not_forced h)
SaysCase r marks (Err TooShort) = Unit {0}

-- As many turns were counted at least, as far as can be counted, unless there was no room on the tape.
abbrev pub LeastCase : ℕ → ℕ → Result Effect Fault → Type 0
LeastCase least turns (Ok effect) = Reaches least turns
LeastCase least turns (Err (NotLive h)) = Reaches least turns
LeastCase least turns (Err (NotForced h)) = Reaches least turns
LeastCase least turns (Err TooShort) = Unit {0}

-- How many numbers went to the tape: one for each hint but the last, and where the hints ended one for that too.
abbrev pub PassedCase : ℕ → ℕ → ℕ → ℕ → Result Effect Fault → Type 0
PassedCase many room t t' (Ok Forced) = t' ≡ t + many
PassedCase many room t t' (Ok Conflict) = t' < t + many
PassedCase many room t t' (Err (NotLive h)) = t' < t + many
PassedCase many room t t' (Err (NotForced h)) = t' < t + many
PassedCase many room t t' (Err TooShort) = (t' < t + many) × (room ≤ t')

-- What the hints come to under the assignment a, and how many turns that took.
pub record Outcome (live : Live) (n : ℕ) (a : Trail) (hs marks' : List ℕ) (effect : Result Effect Fault) (turns : ℕ) : Type 0 where
  pub says : SaysCase (take_hints live a hs) marks' effect
  pub least : LeastCase (cost 0 live a hs) turns effect
  pub most : (b : ℕ) → n ≤ 2 ^ b → turns ≤ cost b live a hs

pub record Takes (live : Live) (n : ℕ) (hs marks tape : List ℕ) (t : ℕ) (marks' tape' : List ℕ) (effect : Result Effect Fault) (t' turns : ℕ) : Type 0 where
  pub laid : Laid marks tape t marks' tape' t'
  pub passed : PassedCase (length hs) (length tape) t t' effect
  pub outcome : (a : Trail) → Shows marks a → Outcome live n a hs marks' effect turns
