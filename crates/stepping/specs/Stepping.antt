-- What taking one step of a proof comes to, in terms of document 01's `read_step` and `judge`, and what is known between two
-- steps.
use Rattle.std.specs.Prelude.{ℕ, ◌+◌, ◌-◌, ◌*◌, ◌^◌, ◌<◌, ◌≤◌, ◌≡◌, ◌⊎◌, Result, Ok, Err, List, [], map, length, get_or, take, drop}
use Rattle.std.proofs.Math.Option.{none, some}
use Rattle.rules.specs.Text.{Token, tokens}
use Rattle.rules.specs.Steps.{Step, add, delete, read_step}
use Rattle.rules.specs.Judging.{Ground, deletion_not_live, State, refused, adds_empty, goes_on, judge}
use Rattle.clauses.specs.Codes.{hint_of, half}
use Rattle.clauses.specs.Counting.{Reaches}
use Rattle.clauses.specs.Store.{RoomFor, written, live_of, Store}
use Rattle.assignment.specs.Marks.{Shows, Paired}
use Rattle.deletion.specs.Deleting.{dead_of, state_of}
use Rattle.steps.specs.Reading.{BeginsStep, LargeIn}
use Rattle.addition.specs.Verdicts.{Verdict, ground_of}
use Rattle.addition.specs.Addition.{clause_in}
use Rattle.addition.specs.declared.Failure.{Failure as NotAccepted}
use Rattle.addition.specs.declared.Failure.TheVariants.{Refused as IsRefused, TooShort as IsTooShort}
use Rattle.formula.specs.declared.Fault.{Fault}
use Rattle.formula.specs.declared.Fault.TheVariants.{Unreadable as NotReadable, TooShort as NoRoom}
use Rattle.stepping.specs.declared.Between.{Between}
use Rattle.stepping.specs.declared.Refusal.{Refusal}
use Rattle.stepping.specs.declared.Refusal.TheVariants.{Addition, Deletion}
use Rattle.stepping.specs.declared.Progress.{Progress}
use Rattle.stepping.specs.declared.Progress.TheVariants.{On, Verified, Nothing}
use Rattle.stepping.specs.declared.Failure.{Failure}
use Rattle.stepping.specs.declared.Failure.TheVariants.{Refused, TooShort, Unreadable}
use Rattle.stepping.specs.declared.Work.{Work}

-- What a step comes to.
abbrev pub Outcome : Type 0
Outcome = Result Progress Failure

-- The parts of the work store are still the slices that were lent, each as long as it was.
pub record Lent (w w' : Work) : Type 0 where
  pub heads : length w'.heads.now ≡ length w.heads.now
  pub lits : length w'.lits.now ≡ length w.lits.now
  pub hints : length w'.hints.now ≡ length w.hints.now
  pub guess : length w'.guess.now ≡ length w.guess.now
  pub marks : length w'.marks.now ≡ length w.marks.now
  pub tape : length w'.tape.now ≡ length w.tape.now
  pub same_heads : w'.heads.ghost_name ≡ w.heads.ghost_name
  pub same_lits : w'.lits.ghost_name ≡ w.lits.ghost_name
  pub same_hints : w'.hints.ghost_name ≡ w.hints.ghost_name
  pub same_guess : w'.guess.ghost_name ≡ w.guess.ghost_name
  pub same_marks : w'.marks.ghost_name ≡ w.marks.ghost_name
  pub same_tape : w'.tape.ghost_name ≡ w.tape.ghost_name

-- The ground of a refusal, in the document's terms.
abbrev pub refusal_of : Refusal → Ground
refusal_of (Addition g) = ground_of g
refusal_of (Deletion id) = deletion_not_live id

-- Why a step is not taken whose addition is not accepted; that was not read.
abbrev pub failure_of : NotAccepted → Failure
failure_of (IsRefused g) = Refused (Addition g)
failure_of IsTooShort = TooShort

abbrev pub not_read : Fault → Failure
not_read NotReadable = Unreadable
not_read NoRoom = TooShort

-- Between two steps

-- The document's state, as the store has it.
abbrev pub state_at : List ℕ → List ℕ → Between → State
state_at heads lits b = state_of (live_of heads lits b.n) b.last

-- A store, and it is known how much of it belongs to deleted clauses.
pub record Counted (heads lits : List ℕ) (b : Between) : Type 0 where
  pub store : Store heads lits b.n b.used b.last
  pub counted : dead_of heads b.n ≡ b.dead

-- No more than half of it does.
pub record Tight (heads lits : List ℕ) (b : Between) : Type 0 where
  pub held : Counted heads lits b
  pub half : 2 * b.dead ≤ b.n + b.used

-- All that is known between two steps: besides, each literal has a mark and its opposite has one, and no mark is set.
pub record Keeps (heads lits marks : List ℕ) (b : Between) : Type 0 where
  pub tight : Tight heads lits b
  pub known : (i : ℕ) → i < b.used → get_or lits i 0 < length marks
  pub paired : Paired marks
  pub clear : Shows marks []

-- Turns

-- The turns of reading a step, and at most so many more: one for each byte, one for each token.
pub record Spent (bytes codes more turns : ℕ) : Type 0 where
  pub at_least : Reaches (codes + 3 + bytes) turns
  pub at_most : turns ≤ codes + 3 + bytes + more

-- Additions

-- A clause was accepted that is not empty, and became live.
pub record Accepted (heads : List ℕ) (b : Between) (id end : ℕ) (heads' : List ℕ) (b' : Between) : Type 0 where
  pub more : b.used < end
  pub room : RoomFor heads (b.n + 1)
  pub after : heads' ≡ written heads b.n (2 * id) end
  pub is : b' ≡ record { n = b.n + 1; used = end; last = id; dead = b.dead }

-- There is no room for one more clause.
pub record NoHead (heads : List ℕ) (b : Between) (end : ℕ) : Type 0 where
  pub more : b.used < end
  pub short : length heads ≤ 3 * b.n + 5

abbrev pub AcceptCase : List ℕ → Between → ℕ → ℕ → List ℕ → Outcome → Type 0
AcceptCase heads b id end heads' (Ok (On b')) = Accepted heads b id end heads' b'
AcceptCase heads b id end heads' (Ok Verified) = end ≤ b.used
AcceptCase heads b id end heads' (Ok Nothing) = ⊥
AcceptCase heads b id end heads' (Err (Refused g)) = ⊥
AcceptCase heads b id end heads' (Err TooShort) = NoHead heads b end
AcceptCase heads b id end heads' (Err Unreadable) = ⊥

-- The same, by the verdict.
abbrev pub JudgedCase : Verdict → List ℕ → Between → ℕ → ℕ → List ℕ → Outcome → Type 0
JudgedCase (Ok done) heads b id end heads' o = AcceptCase heads b id end heads' o
JudgedCase (Err why) heads b id end heads' o = o ≡ Err (failure_of why)

pub record Accepts (v : Verdict) (heads : List ℕ) (b : Between) (id end : ℕ) (heads' : List ℕ) (o : Outcome) : Type 0 where
  pub case : JudgedCase v heads b id end heads' o

-- What judging an addition asks for: its literals lie behind those of the store, and each has a mark.
pub record Addable (heads lits hints marks : List ℕ) (b : Between) (id end many : ℕ) : Type 0 where
  pub keeps : Keeps heads lits marks b
  pub forward : b.used ≤ end
  pub inside : end ≤ length lits
  pub known : (i : ℕ) → b.used ≤ i → i < end → get_or lits i 0 < length marks
  pub few : many ≤ length hints
  pub small : id < 2 ^ 31

-- The step goes on, and the store is at most so large then.
pub record Goes (s : State) (step : Step) (heads lits marks : List ℕ) (most : ℕ) (b : Between) : Type 0 where
  pub is : judge s step ≡ goes_on (state_at heads lits b)
  pub keeps : Keeps heads lits marks b
  pub few : b.n + b.used ≤ most

-- The addition that lies in the slices.
abbrev pub addition : List ℕ → List ℕ → Between → ℕ → ℕ → ℕ → Step
addition lits hints b id end many = add id (clause_in lits b.used end) (map hint_of (take many hints))

-- There is no room for one more clause, or on the tape.
abbrev pub AddShort : List ℕ → List ℕ → Between → ℕ → ℕ → Type 0
AddShort heads tape b end many = NoHead heads b end ⊎ (length tape < (end - b.used) + many + end)

abbrev pub AddCase : State → Step → List ℕ → List ℕ → Between → ℕ → ℕ → List ℕ → List ℕ → List ℕ → Outcome → Type 0
AddCase s step heads tape b end many heads' lits marks' (Ok (On b')) = Goes s step heads' lits marks' (b.n + end + 1) b'
AddCase s step heads tape b end many heads' lits marks' (Ok Verified) = judge s step ≡ adds_empty
AddCase s step heads tape b end many heads' lits marks' (Ok Nothing) = ⊥
AddCase s step heads tape b end many heads' lits marks' (Err (Refused g)) = judge s step ≡ refused (refusal_of g)
AddCase s step heads tape b end many heads' lits marks' (Err TooShort) = AddShort heads tape b end many
AddCase s step heads tape b end many heads' lits marks' (Err Unreadable) = ⊥

pub record Adds (heads lits hints marks tape : List ℕ) (b : Between) (id end many : ℕ) (heads' marks' : List ℕ) (o : Outcome) : Type 0 where
  pub case : AddCase (state_at heads lits b) (addition lits hints b id end many) heads tape b end many heads' lits marks' o

-- Deletions

-- The store holds what it held, and no more than half of it belongs to deleted clauses.
pub record GivesBack (heads lits : List ℕ) (b : Between) (heads' lits' : List ℕ) (b' : Between) : Type 0 where
  pub tight : Tight heads' lits' b'
  pub same : live_of heads' lits' b'.n ≡ live_of heads lits b.n
  pub last : b'.last ≡ b.last
  pub few : b'.n + b'.used ≤ b.n + b.used
  pub below : (m : ℕ) → ((i : ℕ) → i < b.used → get_or lits i 0 < m) → (i : ℕ) → i < b'.used → get_or lits' i 0 < m

-- The deletion of the clauses that these ids stand for.
abbrev pub deletion : List ℕ → Step
deletion ids = delete (map half ids)

-- The deletion is allowed: the store is no larger than it was, and a bound of its literals is one still.
pub record Lessens (s : State) (step : Step) (lits : List ℕ) (b : Between) (heads' lits' : List ℕ) (b' : Between) : Type 0 where
  pub is : judge s step ≡ goes_on (state_at heads' lits' b')
  pub tight : Tight heads' lits' b'
  pub few : b'.n + b'.used ≤ b.n + b.used
  pub below : (m : ℕ) → ((i : ℕ) → i < b.used → get_or lits i 0 < m) → (i : ℕ) → i < b'.used → get_or lits' i 0 < m

abbrev pub DeleteCase : State → Step → List ℕ → Between → List ℕ → List ℕ → Outcome → Type 0
DeleteCase s step lits b heads' lits' (Ok (On b')) = Lessens s step lits b heads' lits' b'
DeleteCase s step lits b heads' lits' (Ok Verified) = ⊥
DeleteCase s step lits b heads' lits' (Ok Nothing) = ⊥
DeleteCase s step lits b heads' lits' (Err (Refused g)) = judge s step ≡ refused (refusal_of g)
DeleteCase s step lits b heads' lits' (Err TooShort) = ⊥
DeleteCase s step lits b heads' lits' (Err Unreadable) = ⊥

pub record Deletes (heads lits ids : List ℕ) (b : Between) (heads' lits' : List ℕ) (o : Outcome) : Type 0 where
  pub case : DeleteCase (state_at heads lits b) (deletion ids) lits b heads' lits' o

-- Steps

-- The tokens begin with a step, behind which are the tokens `rest`.
pub record StepIs (ts rest : List Token) : Type 0 where
  pub step : Step
  pub is : read_step ts ≡ some (step, rest)

-- The turns that a token can cost, where so many clauses, literals and tokens there are in all.
unfoldable pub rate : ℕ → ℕ
rate all = 2 * all + 73

-- The proof goes on behind the step. What the store has more, it has of tokens of the step.
pub record TakenOn (proof : List ℕ) (at : ℕ) (b : Between) (s : State) (heads' lits' marks' : List ℕ) (next turns : ℕ) (b' : Between) : Type 0 where
  pub has : StepIs (tokens (drop at proof)) (tokens (drop next proof))
  pub is : judge s has.step ≡ goes_on (state_at heads' lits' b')
  pub keeps : Keeps heads' lits' marks' b'
  pub later : at < next
  pub within : next ≤ length proof
  pub few : b'.n + b'.used + length (tokens (drop next proof)) ≤ b.n + b.used + length (tokens (drop at proof))
  pub at_least : length (tokens (drop at proof)) ≤ length (tokens (drop next proof)) + turns
  pub at_most : (all : ℕ) → b.n + b.used + length (tokens (drop at proof)) ≤ all
      → turns + 2 * (length proof - next) + length (tokens (drop next proof)) * rate all ≤ 2 * (length proof - at) + length (tokens (drop at proof)) * rate all

-- A step was read, and it is the last one.
pub record TakenLast (ts : List Token) : Type 0 where
  pub rest : List Token
  pub has : StepIs ts rest

pub record TakenVerified (ts : List Token) (s : State) : Type 0 where
  pub last : TakenLast ts
  pub is : judge s last.has.step ≡ adds_empty

pub record TakenRefused (ts : List Token) (s : State) (g : Ground) : Type 0 where
  pub last : TakenLast ts
  pub is : judge s last.has.step ≡ refused g

-- A part of the work store is too short for a step that begins with at least so many tokens, beside a store of n clauses and
-- `used` literals; or there is no mark for one of its literals.
pub record Lacks (heads lits hints tape : List ℕ) (cells n used : ℕ) (ts : List Token) : Type 0 where
  pub codes : ℕ
  pub step : BeginsStep ts codes
  pub short : (length heads ≤ 3 * n + 5) ⊎ ((length lits ≤ used + codes) ⊎ ((length hints ≤ codes) ⊎ ((length tape < used + 2 * codes) ⊎ LargeIn cells ts)))

-- Tokens are left that begin with no step.
pub record TakenBad (ts : List Token) : Type 0 where
  pub is : read_step ts ≡ none
  pub left : 1 ≤ length ts

-- How many turns the last step took.
abbrev pub LastTurns : List ℕ → ℕ → Between → ℕ → Type 0
LastTurns proof at b turns = (all : ℕ) → b.n + b.used + length (tokens (drop at proof)) ≤ all
    → turns ≤ 2 * (length proof - at) + length (tokens (drop at proof)) * rate all + 3

-- What taking a step came to, by the answer.
abbrev pub TakeCase : List ℕ → ℕ → Between → State → List ℕ → List ℕ → List ℕ → List ℕ → ℕ → List ℕ → List ℕ → List ℕ → ℕ → ℕ → Outcome → Type 0
TakeCase proof at b s heads lits hints tape cells heads' lits' marks' next turns (Ok (On b')) = TakenOn proof at b s heads' lits' marks' next turns b'
TakeCase proof at b s heads lits hints tape cells heads' lits' marks' next turns (Ok Verified) = TakenVerified (tokens (drop at proof)) s × LastTurns proof at b turns
TakeCase proof at b s heads lits hints tape cells heads' lits' marks' next turns (Ok Nothing) = (tokens (drop at proof) ≡ []) × LastTurns proof at b turns
TakeCase proof at b s heads lits hints tape cells heads' lits' marks' next turns (Err (Refused g)) = TakenRefused (tokens (drop at proof)) s (refusal_of g) × LastTurns proof at b turns
TakeCase proof at b s heads lits hints tape cells heads' lits' marks' next turns (Err TooShort) = Lacks heads lits hints tape cells b.n b.used (tokens (drop at proof)) × LastTurns proof at b turns
TakeCase proof at b s heads lits hints tape cells heads' lits' marks' next turns (Err Unreadable) = TakenBad (tokens (drop at proof)) × LastTurns proof at b turns

pub record TakesStep (proof : List ℕ) (at : ℕ) (b : Between) (heads lits hints marks tape heads' lits' marks' : List ℕ) (o : Outcome) (next turns : ℕ) : Type 0 where
  pub case : TakeCase proof at b (state_at heads lits b) heads lits hints tape (length marks) heads' lits' marks' next turns o
  pub counted : 1 ≤ turns
