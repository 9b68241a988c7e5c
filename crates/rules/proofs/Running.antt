-- The run over a proof's steps: a step takes tokens, so the fuel does not matter; an unreadable step is found before it is
-- judged; and every state that a run comes to is orderly. Assumes nothing.
use Rattle.std.proofs.Common.{ℕ, zero, suc, ◌+◌, ◌<◌, ◌≤◌, ◌≡◌, refl, List, [], ◌∷◌, arith, length}
use Rattle.std.proofs.Math.Option.{Option, none, some}
use Rattle.meaning.specs.Meaning.{Formula}
use Rattle.meaning.proofs.Truth.{bool_cases}
use Rattle.rules.specs.Tools.{◌>>=◌}
use Rattle.rules.specs.Limits.{max_variable}
use Rattle.rules.specs.Text.{Token, is_nought, is_letter_d, tokens, literal}
use Rattle.rules.specs.Formula.{items, read_formula}
use Rattle.rules.specs.Steps.{Step, add, delete, clause_id, hint, step_body, read_step}
use Rattle.rules.specs.Judging.{Ground, State, Judged, refused, adds_empty, goes_on, judge}
use Rattle.rules.specs.Answers.{ends_verified, ends_unreadable_step, ends_refused, ends_unfinished, unreadable_formula, answer, run, start, checked, ending, verdict}
use Rattle.rules.proofs.Options.{none-some, bound}
use Rattle.rules.proofs.Ids.{Orderly, OrderlyJudged, start_orderly, judge_orderly}

-- Items and the 0 behind them take a token each.
pub items-count : {A : Type 0} (item : Token → Option A) (ts : List Token) (r : List A × List Token) → items item ts ≡ some r
    → length r.1 + suc (length r.0) ≡ length ts
unfolding items
items-count item [] r e = none-some e
items-count {A} item (t ∷ ts) r e =
    bool_cases (is_nought t)
    (λ y. let s : some ([], ts) ≡ some r = (rw (y, items) at e) in let q : ([], ts) ≡ r = cc in rw (← q) (omega arith))
    (λ n. go (items-count item ts) (rw (n, items) at e))
  where
    go : ((r : List A × List Token) → items item ts ≡ some r → length r.1 + suc (length r.0) ≡ length ts)
        → (item t >>= (λ x. items item ts >>= (λ (xs, rest). some (x ∷ xs, rest)))) ≡ some r → length r.1 + suc (length r.0) ≡ suc (length ts)
    go ih s =
        let b = bound (item t) _ r s in
        let d = bound (items item ts) _ r b.goes_on in
        let q : (b.value ∷ d.value.0, d.value.1) ≡ r = cc in
        rw (← q) (omega (arith, ih d.value d.is_value))

pub items_shorter : {A : Type 0} (item : Token → Option A) (ts : List Token) (r : List A × List Token) → items item ts ≡ some r → length r.1 < length ts
items_shorter item ts r e = omega (arith, items-count item ts r e)

body_shorter : (n : ℕ) (ts : List Token) (r : Step × List Token) → step_body n ts ≡ some r → length r.1 < length ts
unfolding step_body
body_shorter n [] r e = none-some e
body_shorter n (t ∷ ts) r e =
    bool_cases (is_letter_d t)
    (λ y. deletion (rw (y, step_body) at e))
    (λ m. addition (rw (m, step_body) at e))
  where
    deletion : (items clause_id ts >>= (λ (ids, rest). some (delete ids, rest))) ≡ some r → length r.1 < suc (length ts)
    deletion s =
        let b = bound (items clause_id ts) _ r s in
        let q : (delete b.value.0, b.value.1) ≡ r = cc in
        rw (← q) (omega (arith, items_shorter clause_id ts b.value b.is_value))

    addition : (items (literal max_variable) (t ∷ ts) >>= (λ (k, rest). items hint rest >>= (λ (hs, rest'). some (add n k hs, rest')))) ≡ some r
        → length r.1 < suc (length ts)
    addition s =
        let b = bound (items (literal max_variable) (t ∷ ts)) _ r s in
        let d = bound (items hint b.value.1) _ r b.goes_on in
        let q : (add n b.value.0 d.value.0, d.value.1) ≡ r = cc in
        rw (← q) (omega (arith, items_shorter (literal max_variable) (t ∷ ts) b.value b.is_value, items_shorter hint b.value.1 d.value d.is_value))

-- A step takes at least one token.
pub step_shorter : (ts : List Token) (r : Step × List Token) → read_step ts ≡ some r → length r.1 < length ts
unfolding read_step
step_shorter [] r e = none-some e
step_shorter (t ∷ ts) r e =
    let b = bound (clause_id t) _ r e in
    omega (arith, body_shorter b.value ts r b.goes_on)

-- With more fuel than tokens it does not matter how much.
pub run_fuel : (f g k : ℕ) (s : State) (ts : List Token) → length ts < f → length ts < g → run f k s ts ≡ run g k s ts
unfolding run
run_fuel zero g k s ts h i = absurd (omega arith)
run_fuel (suc f) zero k s ts h i = absurd (omega arith)
run_fuel (suc f) (suc g) k s [] h i = refl
run_fuel (suc f) (suc g) k s (t ∷ ts) h i = go (run_fuel f g) (read_step (t ∷ ts)) refl
  where
    go : ((k : ℕ) (s : State) (ts : List Token) → length ts < f → length ts < g → run f k s ts ≡ run g k s ts)
        → (r : Option (Step × List Token)) → read_step (t ∷ ts) ≡ r → run (suc f) k s (t ∷ ts) ≡ run (suc g) k s (t ∷ ts)
    go ih none q = rw (q, run)
    go ih (some r) q = on (judge s r.0) refl
      where
        short : length r.1 < suc (length ts)
        short = step_shorter (t ∷ ts) r q

        on : (j : Judged) → judge s r.0 ≡ j → run (suc f) k s (t ∷ ts) ≡ run (suc g) k s (t ∷ ts)
        on (refused x) z = rw (q, run, z)
        on adds_empty z = rw (q, run, z)
        on (goes_on s') z = rw (q, run, z) (ih (suc k) s' r.1 (omega (arith, short)) (omega (arith, short)))

-- A step that cannot be read ends the run as unreadable, whatever its judgement would have been: from every state alike.
pub unreadable_first : (fuel k : ℕ) (s : State) (t : Token) (ts : List Token) → read_step (t ∷ ts) ≡ none → run (suc fuel) k s (t ∷ ts) ≡ ends_unreadable_step (suc k)
unfolding run
unreadable_first fuel k s t ts e = rw (e, run)

-- What a run comes to, by its next step. The fuel is what `checked` starts with, one more than there are tokens.

pub run_end : (k : ℕ) (s : State) (ts : List Token) → ts ≡ [] → run (suc (length ts)) k s ts ≡ ends_unfinished k
unfolding run
run_end k s ts e = rw e

pub run_unreadable : (k : ℕ) (s : State) (ts : List Token) → read_step ts ≡ none → 1 ≤ length ts → run (suc (length ts)) k s ts ≡ ends_unreadable_step (suc k)
run_unreadable k s [] e h = absurd (omega arith)
run_unreadable k s (t ∷ ts) e h = unreadable_first (suc (length ts)) k s t ts e

pub run_refused : (k : ℕ) (s : State) (ts : List Token) (r : Step × List Token) (g : Ground)
    → read_step ts ≡ some r → judge s r.0 ≡ refused g → run (suc (length ts)) k s ts ≡ ends_refused (suc k) g
unfolding run
run_refused k s [] r g e j = none-some e
run_refused k s (t ∷ ts) r g e j = rw (e, run, j)

pub run_verified : (k : ℕ) (s : State) (ts : List Token) (r : Step × List Token)
    → read_step ts ≡ some r → judge s r.0 ≡ adds_empty → run (suc (length ts)) k s ts ≡ ends_verified (suc k)
unfolding run
run_verified k s [] r e j = none-some e
run_verified k s (t ∷ ts) r e j = rw (e, run, j)

pub run_on : (k : ℕ) (s s' : State) (ts : List Token) (r : Step × List Token)
    → read_step ts ≡ some r → judge s r.0 ≡ goes_on s' → run (suc (length ts)) k s ts ≡ run (suc (length r.1)) (suc k) s' r.1
unfolding run
run_on k s s' [] r e j = none-some e
run_on k s s' (t ∷ ts) r e j =
    rw (e, run, j) (run_fuel (suc (length ts)) (suc (length r.1)) (suc k) s' r.1 (omega (arith, step_shorter (t ∷ ts) r e)) (omega arith))

-- The verdict, by the run.

pub checked-run : (F : Formula) (ts : List Token) → checked F ts ≡ run (suc (length ts)) 0 (start F) ts
unfolding checked
checked-run F ts = refl

pub verdict-read : (f p : List ℕ) (F : Formula) → read_formula f ≡ some F → verdict f p ≡ answer (checked F (tokens p))
unfolding verdict ending
verdict-read f p F e = rw (e, ending, verdict)

pub verdict-unread : (f p : List ℕ) → read_formula f ≡ none → verdict f p ≡ unreadable_formula
unfolding verdict ending
verdict-unread f p e = rw (e, ending, verdict)

-- The states that a run from a formula comes to: the start, and what a step goes on to.
pub data Reached (F : Formula) : State → Type 0 where
  begun : Reached F (start F)
  stepped : {s s' : State} (step : Step) → Reached F s → judge s step ≡ goes_on s' → Reached F s'

-- In each of them live ids rise, and each is at most the last id.
pub reached_orderly : (F : Formula) {s : State} → Reached F s → Orderly s
reached_orderly F begun = start_orderly F
reached_orderly F (stepped {s = s} {s' = s'} step r e) =
    let o : OrderlyJudged (judge s step) = judge_orderly s step (reached_orderly F r) in
    rw e at o
