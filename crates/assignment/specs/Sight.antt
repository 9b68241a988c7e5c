-- What one look at a clause shows, in terms of document 01's rule 3 (rules' Judging).
use Rattle.std.specs.Prelude.{ℕ, ◌+◌, ◌<◌, ◌≤◌, ◌≤◌, ◌≡◌, List, [], ◌∷◌, map, length, get_or}
use Rattle.rules.specs.Judging.{Trail, Look, all_false, forces, neither, look_of, look_at}
use Rattle.clauses.specs.Codes.{literal_of, opposite_code}
use Rattle.assignment.specs.Marks.{Shows}
use Rattle.assignment.specs.declared.Look.{Look as Sight}
use Rattle.assignment.specs.declared.Look.TheVariants.{AllFalse, Forces, Neither}

-- What an answer says, in the document's terms.
abbrev pub sight_of : Sight → Look
sight_of AllFalse = all_false
sight_of (Forces x) = forces (literal_of x)
sight_of Neither = neither

-- The number x stands in the list.
pub record In (xs : List ℕ) (x : ℕ) : Type 0 where
  pub place : ℕ
  pub inside : place < length xs
  pub is : get_or xs place 0 ≡ x

-- What is forced is a literal of the clause that is not true yet.
pub record Forced (clause marks : List ℕ) (x : ℕ) : Type 0 where
  pub stands : In clause x
  pub free : get_or marks (opposite_code x) 0 ≡ 0

abbrev pub ForcedIn : List ℕ → List ℕ → Sight → Type 0
ForcedIn clause marks AllFalse = Unit {0}
ForcedIn clause marks (Forces x) = Forced clause marks x
ForcedIn clause marks Neither = Unit {0}

-- What looking at the clause showed: under whatever assignment the marks show, what the document says.
pub record Looks (clause marks : List ℕ) (r : Sight) : Type 0 where
  pub says : (a : Trail) → Shows marks a → look_at a (map literal_of clause) ≡ sight_of r
  pub forced : ForcedIn clause marks r

-- Whether a literal with this mark counts, where `last` is the last that is not false: if it is not false, and another one.
pub record Counted (last x mark r : ℕ) : Type 0 where
  pub another : mark ≡ 0 → (x ≡ last → ⊥) → r ≡ 1
  pub again : mark ≡ 0 → x ≡ last → r ≡ 0
  pub passed : (mark ≡ 0 → ⊥) → r ≡ 0
  pub few : r ≤ 1

-- The last literal that is not false, with one literal more and its mark.
pub record Latest (last x mark r : ℕ) : Type 0 where
  pub taken : mark ≡ 0 → r ≡ x
  pub passed : (mark ≡ 0 → ⊥) → r ≡ last

-- The place behind i among n, or i again where there is none.
pub record Behind (i n r : ℕ) : Type 0 where
  pub inside : r < n
  pub is_next : i + 1 < n → r ≡ i + 1
  pub is_last : n ≤ i + 1 → r ≡ i

-- What is forced, if something is, is this literal, and it is not true yet.
abbrev pub OneForced : ℕ → List ℕ → Sight → Type 0
OneForced x marks AllFalse = Unit {0}
OneForced x marks (Forces y) = (x ≡ y) × (get_or marks (opposite_code y) 0 ≡ 0)
OneForced x marks Neither = Unit {0}

-- What the marks say of a literal that alone is not false.
pub record OneLooks (x : ℕ) (marks : List ℕ) (r : Sight) : Type 0 where
  pub says : (a : Trail) → Shows marks a → look_of a (literal_of x ∷ []) ≡ sight_of r
  pub forced : OneForced x marks r
