-- Live ids rise, each is positive and at most the last id: at the start, and after every step. So an id finds the one clause
-- that has it. Assumes nothing.
use Rattle.std.proofs.Common.{ℕ, suc, ◌+◌, ◌≤◌, ◌<◌, ◌≡◌, refl, sym, List, [], ◌∷◌, ◌++◌, arith, eqb-true, eq-eqb, ne_eqb, ltb-true, eqb, ltb, length}
use Rattle.std.proofs.Math.Option.{Option, none, some}
use Rattle.meaning.specs.Meaning.{Clause, Formula}
use Rattle.meaning.proofs.Truth.{bool_cases}
use Rattle.rules.specs.Steps.{Hint, Step, add, delete}
use Rattle.rules.specs.Judging.{Live, find, Ground, addition_fault, remove, State, Judged, refused, adds_empty, goes_on, judge_deletion, added, judge}
use Rattle.rules.specs.Answers.{numbered, start}
use Rattle.rules.proofs.Options.{none-some, some-none}

-- The ids are above `low`, each is above the one before it, and all are at most `last`.
abbrev pub Rising : ℕ → Live → ℕ → Type 0
Rising low [] last = low ≤ last
Rising low (e ∷ live) last = (low < e.0) × Rising e.0 live last

pub rising_low : (low low' : ℕ) (live : Live) (last : ℕ) → low' ≤ low → Rising low live last → Rising low' live last
rising_low low low' [] last h r = omega arith
rising_low low low' (e ∷ live) last h r = (omega arith, r.1)

pub rising_top : (low : ℕ) (live : Live) (last : ℕ) → Rising low live last → low ≤ last
rising_top low [] last r = r
rising_top low (e ∷ live) last r = omega (arith, rising_top e.0 live last r.1)

-- At the start.
pub numbered_rising : (n : ℕ) (cs : List Clause) → Rising n (numbered n cs) (n + length cs)
unfolding numbered
numbered_rising n [] = omega arith
numbered_rising n (c ∷ cs) = (omega arith, rw (regroup) (numbered_rising (suc n) cs))
  where
    regroup : n + suc (length cs) ≡ suc n + length cs
    regroup = omega arith

-- After a deletion.
pub remove_rising : (low n : ℕ) (live : Live) (last : ℕ) → Rising low live last → Rising low (remove n live) last
unfolding remove
remove_rising low n [] last r = r
remove_rising low n (e ∷ live) last r =
    bool_cases (eqb n e.0)
    (λ y. rw (y, remove) (rising_low e.0 low live last (omega arith) r.1))
    (λ m. rw (m, remove) (r.0, remove_rising e.0 n live last r.1))

-- After an addition.
pub append_rising : (low : ℕ) (live : Live) (last n : ℕ) (k : Clause) → Rising low live last → last < n → Rising low (live ++ ((n, k) ∷ [])) n
append_rising low [] last n k r h = (omega arith, omega arith)
append_rising low (e ∷ live) last n k r h = (r.0, append_rising e.0 live last n k r.1 h)

-- What is between two steps.
pub record Orderly (s : State) : Type 0 where
  pub rising : Rising 0 s.live s.last

pub start_orderly : (F : Formula) → Orderly (start F)
unfolding start
start_orderly F = record { rising = rw (sym (zero-plus)) at (numbered_rising 0 F.clauses) }
  where
    zero-plus : length F.clauses ≡ 0 + length F.clauses
    zero-plus = omega arith

-- A predicate of what a step comes to: where it goes on, it goes on orderly.
abbrev pub OrderlyJudged : Judged → Type 0
OrderlyJudged (refused g) = Unit {0}
OrderlyJudged adds_empty = Unit {0}
OrderlyJudged (goes_on s) = Orderly s

deletion_orderly : (s : State) (ns : List ℕ) → Orderly s → OrderlyJudged (judge_deletion s ns)
unfolding judge_deletion
deletion_orderly s [] o = o
deletion_orderly s (n ∷ ns) o =
    go (find n s.live) refl (deletion_orderly (record { live = remove n s.live; last = s.last }) ns (record { rising = remove_rising 0 n s.live s.last o.rising }))
  where
    go : (r : Option Clause) → find n s.live ≡ r → OrderlyJudged (judge_deletion (record { live = remove n s.live; last = s.last }) ns) → OrderlyJudged (judge_deletion s (n ∷ ns))
    go none q ih = rw (q, judge_deletion) tt
    go (some c) q ih = rw (q, judge_deletion) ih

-- An accepted addition has a fresh id.
pub accepted_fresh : (live : Live) (last n : ℕ) (k : Clause) (hs : List Hint) → addition_fault live last n k hs ≡ none → last < n
unfolding addition_fault
accepted_fresh live last n k hs e =
    bool_cases (ltb last n) (λ y. ltb-true last n y) (λ m. some-none (rw (m, addition_fault) at e))

added_orderly : (s : State) (n : ℕ) (k : Clause) → Orderly s → s.last < n → OrderlyJudged (added s n k)
added_orderly s n [] o h = tt
added_orderly s n (l ∷ k) o h = record { rising = append_rising 0 s.live s.last n (l ∷ k) o.rising h }

pub judge_orderly : (s : State) (step : Step) → Orderly s → OrderlyJudged (judge s step)
unfolding judge
judge_orderly s (add n k hs) o = go (addition_fault s.live s.last n k hs) refl
  where
    go : (r : Option Ground) → addition_fault s.live s.last n k hs ≡ r → OrderlyJudged (judge s (add n k hs))
    go none q = rw (q, judge) (added_orderly s n k o (accepted_fresh s.live s.last n k hs q))
    go (some g) q = rw (q, judge) tt
judge_orderly s (delete ns) o = deletion_orderly s ns o

-- Looking up.

pub find_between : (low n : ℕ) (live : Live) (last : ℕ) (c : Clause) → Rising low live last → find n live ≡ some c → (low < n) × (n ≤ last)
unfolding find
find_between low n [] last c r e = none-some e
find_between low n (x ∷ live) last c r e =
    bool_cases (eqb n x.0)
    (λ y. let q = eqb-true n x.0 y in let t = rising_top x.0 live last r.1 in (omega arith, omega arith))
    (λ m. let rest = find_between x.0 n live last c r.1 (rw (m, find) at e) in (omega arith, rest.1))

-- Each of xs is found in live by its id.
abbrev pub AllFound : Live → Live → Type 0
AllFound live [] = Unit {0}
AllFound live (x ∷ xs) = (find x.0 live ≡ some x.1) × AllFound live xs

found_behind : (e : ℕ × Clause) (live xs : Live) (last : ℕ) (low : ℕ) → e.0 ≤ low → Rising low xs last → AllFound live xs → AllFound (e ∷ live) xs
unfolding find
found_behind e live [] last low h r f = tt
found_behind e live (x ∷ xs) last low h r f =
    (rw (ne_eqb x.0 e.0 (λ q. omega arith), find) f.0, found_behind e live xs last x.0 (omega arith) r.1 f.1)

pub rising_found : (low : ℕ) (live : Live) (last : ℕ) → Rising low live last → AllFound live live
unfolding find
rising_found low [] last r = tt
rising_found low (e ∷ live) last r =
    (rw (eq-eqb e.0 e.0 refl, find), found_behind e live live last e.0 (omega arith) r.1 (rising_found e.0 live last r.1))
