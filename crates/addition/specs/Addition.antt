-- What judging an addition comes to, from one group's hints up to all rules.
use Rattle.std.specs.Prelude.{ℕ, ◌+◌, ◌*◌, ◌^◌, ◌<◌, ◌≤◌, ◌≡◌, List, [], ◌∷◌, map, length, get_or, Ok, Err}
use Rattle.std.proofs.Math.Seq.{slice}
use Rattle.meaning.specs.Meaning.{Clause}
use Rattle.rules.specs.Judging.{Live, opposite, Trail, take_hints, groups, group_end, groups_fault, after_hints, hints_fault, addition_fault}
use Rattle.clauses.specs.Codes.{literal_of, hint_of, half}
use Rattle.clauses.specs.Store.{id_at, live_of}
use Rattle.clauses.specs.Counting.{Reaches}
use Rattle.clauses.specs.declared.View.{View}
use Rattle.assignment.specs.Marks.{Shows, Laid, Marked}
use Rattle.judge.specs.Hints.{Ready, cost}
use Rattle.judge.specs.Falsifying.{Outcome}
use Rattle.judge.specs.declared.falsifying.Obstacle.TheVariants.{SomeTrue, TooShort as NoRoom}
use Rattle.addition.specs.Verdicts.{Verdict, Says, costs}
use Rattle.addition.specs.declared.Ground.TheVariants.{OppositeLiterals}
use Rattle.addition.specs.declared.Failure.TheVariants.{Refused, TooShort}

-- The live clauses that a view of the store shows.
abbrev pub live_in : View → Live
live_in view = live_of view.heads.now view.lits.now view.n

-- The ids of these hints.
abbrev pub ids_of : List ℕ → List ℕ
ids_of hints = map half hints

-- One group

-- The hints of clause d's group under the assignment a, where all other literals of the clause are false.
pub record TriedHints (live : Live) (n : ℕ) (a : Trail) (d : ℕ) (ids : List ℕ) (room needed : ℕ) (verdict : Verdict) (turns : ℕ) : Type 0 where
  pub says : Says (group_end d (take_hints live a ids)) room needed verdict
  pub most : (b : ℕ) → n ≤ 2 ^ b → turns ≤ cost b live a ids

-- The hints are taken only where the literals are false.
abbrev pub TriesCase : Live → ℕ → ℕ → List ℕ → List ℕ → ℕ → ℕ → Verdict → ℕ → Outcome → Type 0
TriesCase live n d ids marks room needed verdict turns (Ok done) = (a : Trail) → Shows marks a → TriedHints live n a d ids room needed verdict turns
TriesCase live n d ids marks room needed verdict turns (Err SomeTrue) = (verdict ≡ Ok tt) × (turns ≡ 0)
TriesCase live n d ids marks room needed verdict turns (Err NoRoom) = (verdict ≡ Err TooShort) × (turns ≡ 0)

pub record TriesHints (live : Live) (n d : ℕ) (ids : List ℕ) (fell : Outcome) (marks tape : List ℕ) (t : ℕ) (marks' tape' : List ℕ) (verdict : Verdict) (t' turns : ℕ) : Type 0 where
  pub laid : Laid marks tape t marks' tape' t'
  pub few : t' ≤ t + length ids
  pub case : TriesCase live n d ids marks (length tape) (t + length ids) verdict turns fell

-- The clause d stands at this place.
pub record PlaceOf (heads : List ℕ) (n d place : ℕ) : Type 0 where
  pub inside : place < n
  pub has : id_at heads place ≡ 2 * d

-- The group of clause d, judged by itself: the marks are what they were, whatever the verdict, and as many numbers are on the tape.
pub record JudgesGroup (live : Live) (lits marks tape : List ℕ) (t q d : ℕ) (ids : List ℕ) (before : ℕ) (marks' tape' : List ℕ) (verdict : Verdict) (t' turns : ℕ) : Type 0 where
  pub back : marks' ≡ marks
  pub stays : t' ≡ t
  pub laid : Laid marks tape t marks tape' t
  pub says : (a : Trail) → Shows marks a → Says (groups_fault live a (literal_of q) ((d, ids) ∷ [])) (length tape) (t + length lits + length ids) verdict
  pub counted : before ≤ turns
  pub bounded : turns ≤ costs (length lits) (length ids + 1)

-- All groups

-- The groups that these hints are: each is judged from the marks as they were, and they are that again.
pub record JudgesGroups (live : Live) (lits hints marks tape : List ℕ) (t q before : ℕ) (marks' tape' : List ℕ) (verdict : Verdict) (t' turns : ℕ) : Type 0 where
  pub back : marks' ≡ marks
  pub stays : t' ≡ t
  pub laid : Laid marks tape t marks tape' t
  pub says : (a : Trail) → Shows marks a → Says (groups_fault live a (literal_of q) (groups (map hint_of hints))) (length tape) (t + length lits + length hints) verdict
  pub counted : before ≤ turns
  pub all : verdict ≡ Ok tt → Reaches (before + length hints) turns
  pub bounded : turns ≤ before + costs (length lits) (length hints)

-- Rules 4 and 5

-- These hints are those from the first group on.
pub record JudgesRest (live : Live) (n : ℕ) (lits hints : List ℕ) (k : Clause) (marks tape : List ℕ) (t before : ℕ) (marks' tape' : List ℕ) (verdict : Verdict) (t' turns : ℕ) : Type 0 where
  pub back : marks' ≡ marks
  pub stays : t' ≡ t
  pub laid : Laid marks tape t marks tape' t
  pub says : (a : Trail) → Shows marks a → Says (after_hints live a k (groups (map hint_of hints))) (length tape) (t + length lits + length hints) verdict
  pub counted : before ≤ turns
  pub bounded : turns ≤ before + (n + length lits + length hints) + costs (length lits) (length hints)

-- Rules 3 to 5, where the marks show that each literal of K is false, and nothing else

pub record JudgesHints (live : Live) (n : ℕ) (lits hints : List ℕ) (k : Clause) (marks tape : List ℕ) (t before : ℕ) (marks' tape' : List ℕ) (verdict : Verdict) (t' turns : ℕ) : Type 0 where
  pub laid : Laid marks tape t marks' tape' t'
  pub few : t' ≤ t + length hints
  pub says : Says (hints_fault live k (map hint_of hints)) (length tape) (t + length lits + length hints) verdict
  pub counted : before ≤ turns
  pub bounded : turns ≤ before + (n + length lits + length hints) + costs (length lits) (length hints)

-- Behind rule 2

-- What is known there: if all literals of K are false, the marks show just that.
pub record Begun (heads lits : List ℕ) (n : ℕ) (marks : List ℕ) (k : Clause) (fell : Outcome) : Type 0 where
  pub ready : Ready heads lits n marks
  pub shows : fell ≡ Ok tt → Shows marks (map opposite k)

-- The hints are looked at only where K's literals are false.
abbrev pub BehindCase : Live → List ℕ → Clause → ℕ → ℕ → Verdict → Outcome → Type 0
BehindCase live hints k room needed verdict (Ok done) = Says (hints_fault live k (map hint_of hints)) room needed verdict
BehindCase live hints k room needed verdict (Err SomeTrue) = verdict ≡ Err (Refused OppositeLiterals)
BehindCase live hints k room needed verdict (Err NoRoom) = verdict ≡ Err TooShort

pub record JudgesBehind (live : Live) (n : ℕ) (lits hints : List ℕ) (k : Clause) (fell : Outcome) (marks tape : List ℕ) (t before : ℕ) (marks' tape' : List ℕ) (verdict : Verdict) (t' turns : ℕ) : Type 0 where
  pub laid : Laid marks tape t marks' tape' t'
  pub few : t' ≤ t + length hints
  pub case : BehindCase live hints k (length tape) (t + length lits + length hints) verdict fell
  pub counted : before ≤ turns
  pub bounded : turns ≤ before + (n + length lits + length hints) + costs (length lits) (length hints)

-- All rules

-- The literals of a clause that lies in `lits` from `used` up to `end`.
abbrev pub clause_in : List ℕ → ℕ → ℕ → Clause
clause_in lits used end = map literal_of (slice used end lits)

-- What judging asks for: a store, marks that show nothing, and a mark for each literal of the clause.
pub record Addable (heads lits : List ℕ) (n : ℕ) (clause marks : List ℕ) : Type 0 where
  pub ready : Ready heads lits n marks
  pub shows : Shows marks []
  pub known : Marked clause marks

-- What the whole takes at most, over a store with so many literals, for a clause with so many and so many hints.
abbrev pub most_turns : ℕ → ℕ → ℕ → ℕ → ℕ
most_turns n literals own codes = n + literals + 2 * own + 2 * codes + 1 + costs literals codes

-- The same where the literals of the clause are among so many, as those of the store are.
abbrev pub all_turns : ℕ → ℕ → ℕ → ℕ
all_turns n literals codes = n + 3 * literals + 2 * codes + 1 + costs literals codes

-- All rules but the first half of rule 1, from marks that show nothing.
pub record JudgesClause (live : Live) (n : ℕ) (lits clause hints marks tape : List ℕ) (t : ℕ) (marks' tape' : List ℕ) (verdict : Verdict) (t' turns : ℕ) : Type 0 where
  pub back : marks' ≡ marks
  pub stays : t' ≡ t
  pub kept : (i : ℕ) → i < t → get_or tape' i 0 ≡ get_or tape i 0
  pub long : length tape' ≡ length tape
  pub says : (last id : ℕ) → last < id → Says (addition_fault live last id (map literal_of clause) (map hint_of hints)) (length tape) (t + (length clause + length hints + length lits)) verdict
  pub bounded : turns ≤ most_turns n (length lits) (length clause) (length hints)

-- The addition of K under `id` with these hints: the marks are what they were, whatever the verdict, and as many numbers are on the
-- tape.
pub record Judges (live : Live) (n : ℕ) (lits clause hints : List ℕ) (last id : ℕ) (marks tape : List ℕ) (t : ℕ) (marks' tape' : List ℕ) (verdict : Verdict) (t' turns : ℕ) : Type 0 where
  pub back : marks' ≡ marks
  pub stays : t' ≡ t
  pub kept : (i : ℕ) → i < t → get_or tape' i 0 ≡ get_or tape i 0
  pub long : length tape' ≡ length tape
  pub says : Says (addition_fault live last id (map literal_of clause) (map hint_of hints)) (length tape) (t + (length clause + length hints + length lits)) verdict
  pub bounded : turns ≤ most_turns n (length lits) (length clause) (length hints)
