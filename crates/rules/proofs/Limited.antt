-- A formula that is read is within the limits: V and the number of clauses, and each literal's variable is one of 1 to V.
-- Assumes nothing.
use Rattle.std.proofs.Common.{ℕ, zero, suc, ◌≤◌, ◌≡◌, refl, ap, false, List, [], ◌∷◌, arith, leb-true, leb, length}
use Rattle.std.proofs.Math.Option.{some}
use Rattle.meaning.specs.Meaning.{Literal, pos, neg, Clause, Formula, variable, Within, AllWithin}
use Rattle.meaning.proofs.Truth.{bool_cases}
use Rattle.rules.specs.Tools.{bytes, ◌>>=◌}
use Rattle.rules.specs.Limits.{max_variable, max_clauses}
use Rattle.rules.specs.Text.{Token, Proper, nought, plus, minus, letter_d, other, is_nought, token, tokens, literal}
use Rattle.rules.specs.Formula.{after_comments, before, behind, after_prefix, count, header, items, read_clauses, at_end, read_formula, WithinLimits}
use Rattle.rules.proofs.Options.{none-some, some_inj, bound, only-some}
use Rattle.rules.proofs.Words.{AllProper, tokens_proper}

count_limited : (m : ℕ) (t : Token) (n : ℕ) → count m t ≡ some n → n ≤ m
unfolding count
count_limited m nought n e = let q = some_inj e in omega arith
count_limited m (plus k) n e = let p = only-some (leb k m) k n e in let q = p.same in omega (arith, leb-true k m p.passed)
count_limited m (minus k) n e = none-some e
count_limited m letter_d n e = none-some e
count_limited m other n e = none-some e

pub record Announced (r : ℕ × ℕ) : Type 0 where
  pub variables : r.0 ≤ max_variable
  pub clauses : r.1 ≤ max_clauses

pub header_limited : (line : List ℕ) (r : ℕ × ℕ) → header line ≡ some r → Announced r
unfolding header
header_limited line r e =
    let a = bound (after_prefix (bytes "p cnf ") line) _ r e in
    let b = bound (count max_variable (token (before 32 a.value))) _ r a.goes_on in
    let c = bound (count max_clauses (token (behind 32 a.value))) _ r b.goes_on in
    let q : (b.value, c.value) ≡ r = some_inj c.goes_on in
    rw (← q) (record { variables = count_limited max_variable (token (before 32 a.value)) b.value b.is_value; clauses = count_limited max_clauses (token (behind 32 a.value)) c.value c.is_value })

-- The variable of a token that is a literal.
literal_least : (m : ℕ) (t : Token) (l : Literal) → Proper t → literal m t ≡ some l → 1 ≤ variable l
unfolding literal
literal_least m nought l p e = none-some e
literal_least m (plus v) l p e = let r = only-some (leb v m) (pos v) l e in rw (← r.same) p
literal_least m (minus v) l p e = let r = only-some (leb v m) (neg v) l e in rw (← r.same) p
literal_least m letter_d l p e = none-some e
literal_least m other l p e = none-some e

pub literal-most : (m : ℕ) (t : Token) (l : Literal) → literal m t ≡ some l → variable l ≤ m
unfolding literal
literal-most m nought l e = none-some e
literal-most m (plus v) l e = let r = only-some (leb v m) (pos v) l e in rw (← r.same) (leb-true v m r.passed)
literal-most m (minus v) l e = let r = only-some (leb v m) (neg v) l e in rw (← r.same) (leb-true v m r.passed)
literal-most m letter_d l e = none-some e
literal-most m other l e = none-some e

pub literal-within : (m : ℕ) (t : Token) (l : Literal) → Proper t → literal m t ≡ some l → (1 ≤ variable l) × (variable l ≤ m)
literal-within m t l p e = (literal_least m t l p e, literal-most m t l e)

-- A clause that is read, and the tokens behind it.
pub record ClauseWithin (m : ℕ) (r : Clause × List Token) : Type 0 where
  pub within : Within m r.0
  pub rest_proper : AllProper r.1

pub items-within : (m : ℕ) (ts : List Token) (r : Clause × List Token) → AllProper ts → items (literal m) ts ≡ some r → ClauseWithin m r
unfolding items
items-within m [] r p e = none-some e
items-within m (t ∷ ts) r p e =
    bool_cases (is_nought t)
    (λ y. let s : some ([], ts) ≡ some r = (rw (y, items) at e) in let q : ([], ts) ≡ r = some_inj s in rw (← q) (record { within = tt; rest_proper = p.1 }))
    (λ n. go (items-within m ts) (rw (n, items) at e))
  where
    go : ((r : Clause × List Token) → AllProper ts → items (literal m) ts ≡ some r → ClauseWithin m r)
        → (literal m t >>= (λ x. items (literal m) ts >>= (λ (xs, rest). some (x ∷ xs, rest)))) ≡ some r → ClauseWithin m r
    go ih s =
        let b = bound (literal m t) _ r s in
        let d = bound (items (literal m) ts) _ r b.goes_on in
        let q : (b.value ∷ d.value.0, d.value.1) ≡ r = some_inj d.goes_on in
        let l = literal-within m t b.value p.0 b.is_value in
        let w = ih d.value p.1 d.is_value in
        rw (← q) (record { within = (l.0, l.1, w.within); rest_proper = w.rest_proper })

pub record ClausesWithin (m n : ℕ) (r : List Clause × List Token) : Type 0 where
  pub all_within : AllWithin m r.0
  pub as_many : length r.0 ≡ n

pub clauses_within : (m n : ℕ) (ts : List Token) (r : List Clause × List Token) → AllProper ts → read_clauses m n ts ≡ some r → ClausesWithin m n r
unfolding read_clauses
clauses_within m zero ts r p e = let q : ([], ts) ≡ r = some_inj e in rw (← q) (record { all_within = tt; as_many = refl })
clauses_within m (suc n) ts r p e =
    let b = bound (items (literal m) ts) _ r e in
    let c = items-within m ts b.value p b.is_value in
    let d = bound (read_clauses m n b.value.1) _ r b.goes_on in
    let w = clauses_within m n b.value.1 d.value c.rest_proper d.is_value in
    let q : (b.value.0 ∷ d.value.0, d.value.1) ≡ r = some_inj d.goes_on in
    rw (← q) (record { all_within = (c.within, w.all_within); as_many = ap suc w.as_many })

at_end_lem : {A : Type 0} (ts : List Token) (x y : A) → at_end ts x ≡ some y → x ≡ y
at_end_lem [] x y e = some_inj e
at_end_lem (t ∷ ts) x y e = none-some e

-- Whatever the bytes are, the formula that they spell is within the limits.
pub read-within : (s : List ℕ) (F : Formula) → read_formula s ≡ some F → WithinLimits F
unfolding read_formula
read-within s F e =
    let text = after_comments false s in
    let h = bound (header (before 10 text)) _ F e in
    let c = bound (read_clauses h.value.0 h.value.1 (tokens (behind 10 text))) _ F h.goes_on in
    let a = header_limited (before 10 text) h.value h.is_value in
    let w = clauses_within h.value.0 h.value.1 (tokens (behind 10 text)) c.value (tokens_proper (behind 10 text)) c.is_value in
    let q = at_end_lem c.value.1 (record { vars = h.value.0; clauses = c.value.0 }) F c.goes_on in
    rw (← q) (record { few_variables = a.variables; few_clauses = omega (arith, w.as_many, a.clauses); all_within = w.all_within })
