-- What the functions of src/feeding.rt make of a token, in terms of a step that is read in part (`Partial`).
use Rattle.std.specs.Prelude.{ℕ, ◌+◌, ◌*◌, ◌<◌, ◌≤◌, ◌≡◌, ◌⊎◌, Bool, true, false, List, [], ◌∷◌, ◌++◌, map, leb, length, set, Option, Some, None, Result, Ok, Err}
use Rattle.std.proofs.Math.Option.{some}
use Rattle.meaning.specs.Meaning.{Literal as Lit, Clause, variable}
use Rattle.rules.specs.Limits.{max_variable, max_id}
use Rattle.rules.specs.Text.{Token, Proper, literal}
use Rattle.rules.specs.Steps.{add, delete}
use Rattle.text.specs.Scan.{capped}
use Rattle.text.specs.declared.Token.{Token as Found}
use Rattle.text.specs.declared.Token.TheVariants.{Nought, Plus, Minus, LetterD, Other, Nothing}
use Rattle.clauses.specs.Codes.{literal_of, hint_of, half}
use Rattle.formula.specs.Body.{item_of, Placed, AllBelow}
use Rattle.formula.specs.declared.body.NoLiteral.{NoLiteral}
use Rattle.formula.specs.declared.Fault.{Fault}
use Rattle.formula.specs.declared.Fault.TheVariants.{Unreadable, TooShort}
use Rattle.steps.specs.Partials.{Partial, at_start, got_id, in_literals, in_hints, in_ids, goes_on, ends, unreadable, advance}
use Rattle.steps.specs.declared.feeding.Kind.{Kind}
use Rattle.steps.specs.declared.feeding.Kind.TheVariants.{Start, Body, Literals, Hints, Ids}
use Rattle.steps.specs.declared.feeding.Phase.{Phase}
use Rattle.steps.specs.declared.feeding.Fed.{Fed}
use Rattle.steps.specs.declared.feeding.Fed.TheVariants.{More, Addition, Deletion}

-- The id that a token says.
abbrev pub id_within : ℕ → Found → Option ℕ
id_within m Nought = None
id_within m (Plus v) = elim (leb 1 v) [ true ↦ elim (leb v m) [ true ↦ Some v | false ↦ None ] | false ↦ None ]
id_within m (Minus v) = None
id_within m LetterD = None
id_within m Other = None
id_within m Nothing = None

-- A number, the 0 behind the last one, or neither.
abbrev pub Item : Type 0
Item = Result (Option ℕ) NoLiteral

-- What a token says among the ids of a deletion.
abbrev pub id_item : ℕ → Found → Item
id_item m Nought = Ok None
id_item m (Plus v) = item_of m (Plus v)
id_item m (Minus v) = Err (record {})
id_item m LetterD = Err (record {})
id_item m Other = Err (record {})
id_item m Nothing = Err (record {})

-- The place behind a number that was stored, nothing for the 0 behind the last number, or why none was stored.
abbrev pub Kept : Type 0
Kept = Result (Option ℕ) Fault

-- A number below the limit was stored at its place; or there was none, or it is too large, or there is no place for it, and
-- nothing was changed.
abbrev pub KeepCase : Item → ℕ → ℕ → List ℕ → List ℕ → Kept → Type 0
KeepCase x at limit before after (Ok (Some next)) = (code : ℕ) × (x ≡ Ok (Some code)) × (code < limit) × (at < length before) × (after ≡ set before at code) × (next ≡ at + 1)
KeepCase x at limit before after (Ok None) = (x ≡ Ok None) × (after ≡ before)
KeepCase x at limit before after (Err Unreadable) = (x ≡ Err (record {})) × (after ≡ before)
KeepCase x at limit before after (Err TooShort) = (code : ℕ) × (x ≡ Ok (Some code)) × ((limit ≤ code) ⊎ (length before ≤ at)) × (after ≡ before)

pub record Keeps (x : Item) (at limit : ℕ) (before after : List ℕ) (r : Kept) : Type 0 where
  pub case : KeepCase x at limit before after r

-- What a token came to.
abbrev pub Outcome : Type 0
Outcome = Result Fed Fault

-- What was kept of an item x decides what the token came to.
pub record FedBy (x : Item) (at limit : ℕ) (before after : List ℕ) (fed : Kept → Outcome) (r : Outcome) : Type 0 where
  pub kept : Kept
  pub keeps : Keeps x at limit before after kept
  pub is : r ≡ fed kept

-- The codes of hints and ids are all below this.
abbrev pub codes : ℕ
codes = 4_294_967_296

abbrev pub phase_of : Kind → ℕ → ℕ → ℕ → Phase
phase_of k n end many = record { kind = k; id = n; end = end; many = many }

-- Of a literal.
unfoldable pub literal_fed : Phase → Kept → Outcome
literal_fed phase (Ok (Some end)) = Ok (More (phase_of Literals phase.id end 0))
literal_fed phase (Ok None) = Ok (More (phase_of Hints phase.id phase.end 0))
literal_fed phase (Err e) = Err e

-- Of a hint or an id to delete, where the step is `whole` with the 0 behind the last one.
unfoldable pub code_fed : Phase → Fed → Kept → Outcome
code_fed phase whole (Ok (Some many)) = Ok (More (phase_of phase.kind phase.id phase.end many))
code_fed phase whole (Ok None) = Ok whole
code_fed phase whole (Err e) = Err e

-- A token where nothing is read.
abbrev pub start_fed : Phase → Option ℕ → Outcome
start_fed phase (Some n) = Ok (More (phase_of Body n phase.end 0))
start_fed phase None = Err Unreadable

pub record FedStart (phase : Phase) (t : Found) (r : Outcome) : Type 0 where
  pub is : r ≡ start_fed phase (id_within max_id t)

-- A token behind the id: the letter d, or the first of the literals.
abbrev pub BodyCase : Bool → Phase → Found → ℕ → List ℕ → List ℕ → Outcome → Type 0
BodyCase true phase t cells lits lits' r = (t ≡ LetterD) × (r ≡ Ok (More (phase_of Ids phase.id phase.end 0))) × (lits' ≡ lits)
BodyCase false phase t cells lits lits' r = (t ≡ LetterD → ⊥) × FedBy (item_of max_variable t) phase.end cells lits lits' (literal_fed phase) r

pub record FedBody (phase : Phase) (t : Found) (cells : ℕ) (lits lits' : List ℕ) (r : Outcome) : Type 0 where
  pub letter : Bool
  pub case : BodyCase letter phase t cells lits lits' r

-- The number is one that an id may be.
pub record IsId (n : ℕ) : Type 0 where
  pub positive : 1 ≤ n
  pub within : n ≤ max_id

-- What is known of a step of this kind with this id, literals and hints (or ids), by their codes.
abbrev pub partial_of : Kind → ℕ → List ℕ → List ℕ → Partial
partial_of Start n new told = at_start
partial_of Body n new told = got_id n
partial_of Literals n new told = in_literals n (map literal_of new)
partial_of Hints n new told = in_hints n (map literal_of new) (map hint_of told)
partial_of Ids n new told = in_ids (map half told)

-- There is an id once it is read, and there are no codes yet of what is still to come.
abbrev pub Begun : Kind → ℕ → List ℕ → List ℕ → Type 0
Begun Start n new told = (new ≡ []) × (told ≡ [])
Begun Body n new told = IsId n × (new ≡ []) × (told ≡ [])
Begun Literals n new told = IsId n × (told ≡ [])
Begun Hints n new told = IsId n
Begun Ids n new told = new ≡ []

-- The phase and the slices say that p is read: the codes of its literals, all below `cells`, stand in `lits` from `used` on,
-- those of its hints or ids in `hints` from 0 on, and everything else is as it was in lits₀ and hints₀.
pub record Stands (cells : ℕ) (p : Partial) (phase : Phase) (lits₀ : List ℕ) (used : ℕ) (lits hints₀ hints : List ℕ) : Type 0 where
  pub new : List ℕ
  pub told : List ℕ
  pub is : p ≡ partial_of phase.kind phase.id new told
  pub begun : Begun phase.kind phase.id new told
  pub fit : used ≤ length lits₀
  pub placed : Placed lits₀ used new lits phase.end
  pub noted : Placed hints₀ 0 told hints phase.many
  pub below : AllBelow cells new

-- A reader stands so, and t is its next token.
pub record Midway (cells : ℕ) (phase : Phase) (t : Found) (lits hints : List ℕ) : Type 0 where
  pub sofar : Partial
  pub used : ℕ
  pub lits₀ : List ℕ
  pub hints₀ : List ℕ
  pub token : Token
  pub cap : t ≡ capped token
  pub proper : Proper token
  pub stands : Stands cells sofar phase lits₀ used lits hints₀ hints

-- More is to be read.
pub record GoesOn (cells : ℕ) (p : Partial) (t : Token) (next : Phase) (lits₀ : List ℕ) (used : ℕ) (lits hints₀ hints : List ℕ) : Type 0 where
  pub then : Partial
  pub is : advance p t ≡ goes_on then
  pub stands : Stands cells then next lits₀ used lits hints₀ hints

-- The token ends an addition.
pub record Adds (cells : ℕ) (p : Partial) (t : Token) (n end many : ℕ) (lits₀ : List ℕ) (used : ℕ) (lits hints₀ hints : List ℕ) : Type 0 where
  pub new : List ℕ
  pub told : List ℕ
  pub is : advance p t ≡ ends (add n (map literal_of new) (map hint_of told))
  pub is_id : IsId n
  pub placed : Placed lits₀ used new lits end
  pub noted : Placed hints₀ 0 told hints many
  pub below : AllBelow cells new

-- The token ends a deletion.
pub record Deletes (p : Partial) (t : Token) (many : ℕ) (lits₀ lits hints₀ hints : List ℕ) : Type 0 where
  pub told : List ℕ
  pub is : advance p t ≡ ends (delete (map half told))
  pub noted : Placed hints₀ 0 told hints many
  pub same : lits ≡ lits₀

-- The token is one more literal of the step, and v is its variable.
pub record NextLiteral (p : Partial) (t : Token) (v : ℕ) : Type 0 where
  pub id : ℕ
  pub others : Clause
  pub new : Lit
  pub is : advance p t ≡ goes_on (in_literals id (others ++ (new ∷ [])))
  pub says : literal max_variable t ≡ some new
  pub is_variable : variable new ≡ v

-- The token is a literal of the step whose code, or that of its opposite, is not below `cells`.
pub record TooLarge (cells : ℕ) (p : Partial) (t : Token) : Type 0 where
  pub large : ℕ
  pub next : NextLiteral p t large
  pub above : cells ≤ 2 * large + 1

-- A slice is full, or the token is too large.
abbrev pub Short : ℕ → Partial → Token → ℕ → List ℕ → ℕ → List ℕ → Type 0
Short cells p t end lits many hints = (length lits ≤ end) ⊎ ((length hints ≤ many) ⊎ TooLarge cells p t)

-- What a token comes to, by the answer. Where a step is unreadable or a slice too short, nothing was changed.
abbrev pub FeedCase : Phase → Found → ℕ → List ℕ → List ℕ → List ℕ → List ℕ → Outcome → Type 0
FeedCase phase t cells lits hints lits' hints' (Ok (More next)) =
    (x : Midway cells phase t lits hints) → GoesOn cells x.sofar x.token next x.lits₀ x.used lits' x.hints₀ hints'
FeedCase phase t cells lits hints lits' hints' (Ok (Addition n end many)) =
    (x : Midway cells phase t lits hints) → Adds cells x.sofar x.token n end many x.lits₀ x.used lits' x.hints₀ hints'
FeedCase phase t cells lits hints lits' hints' (Ok (Deletion many)) =
    (x : Midway cells phase t lits hints) → Deletes x.sofar x.token many x.lits₀ lits' x.hints₀ hints'
FeedCase phase t cells lits hints lits' hints' (Err Unreadable) =
    ((x : Midway cells phase t lits hints) → advance x.sofar x.token ≡ unreadable) × (lits' ≡ lits) × (hints' ≡ hints)
FeedCase phase t cells lits hints lits' hints' (Err TooShort) =
    ((x : Midway cells phase t lits hints) → Short cells x.sofar x.token phase.end lits phase.many hints) × (lits' ≡ lits) × (hints' ≡ hints)

-- What `feed` promises. The end of the tokens inside of a step makes it unreadable.
pub record Feeds (phase : Phase) (t : Found) (cells : ℕ) (lits hints lits' hints' : List ℕ) (r : Outcome) : Type 0 where
  pub case : FeedCase phase t cells lits hints lits' hints' r
  pub at_end_lem : t ≡ Nothing → r ≡ Err Unreadable
  pub lits_long : length lits' ≡ length lits
  pub hints_long : length hints' ≡ length hints
