-- A formula that is written out and read again is the same, clause by clause and literal by literal. Assumes nothing.
use Rattle.std.proofs.Common.{ℕ, zero, suc, ◌≤◌, ◌≡◌, refl, ap, ◌∙◌, false, List, [], ◌∷◌, ◌++◌, append_assoc, arith, le-leb, ne_eqb, eq-eqb, eqb, length}
use Rattle.std.proofs.Math.Option.{some}
use Rattle.meaning.specs.Meaning.{Literal, pos, neg, Clause, Formula, variable, Within, AllWithin}
use Rattle.rules.specs.Tools.{bytes}
use Rattle.rules.specs.Limits.{max_variable, max_clauses}
use Rattle.rules.specs.Text.{is_blank, Token, nought, plus, minus, is_nought, token, tokens, literal}
use Rattle.rules.specs.Formula.{after_comments, before, behind, after_prefix, count, header, items, read_clauses, read_formula, WithinLimits}
use Rattle.rules.specs.Written.{decimal, write_literal, write_clause, write_clauses, write_formula}
use Rattle.rules.proofs.Words.{digit_range, NoBlank, tokens-word}
use Rattle.rules.proofs.Decimal.{Begins, decimal_begins, AllDigits, decimal-digits, digits_no_blank, token-plus, token_minus}
use Rattle.rules.proofs.Limited.{read-within}

-- The line p cnf V C

-- None of the bytes is x.
abbrev Lacks : ℕ → List ℕ → Type 0
Lacks x [] = Unit {0}
Lacks x (b ∷ s) = (eqb b x ≡ false) × Lacks x s

lacks_append : (x : ℕ) (s t : List ℕ) → Lacks x s → Lacks x t → Lacks x (s ++ t)
lacks_append x [] t h k = k
lacks_append x (b ∷ s) t h k = (h.0, lacks_append x s t h.1 k)

digits_lack : (x : ℕ) → suc x ≤ 48 → (w : List ℕ) → AllDigits w → Lacks x w
digits_lack x h [] d = tt
digits_lack x h (b ∷ w) d = (ne_eqb b x (λ q. let r = digit_range b d.0 in omega arith), digits_lack x h w d.1)

before-first : (x : ℕ) (s t : List ℕ) → Lacks x s → before x (s ++ x ∷ t) ≡ s
unfolding before
before-first x [] t h = rw (eq-eqb x x refl, before)
before-first x (b ∷ s) t h = rw (h.0, before) (ap (λ (r : List ℕ). b ∷ r) (before-first x s t h.1))

behind-first : (x : ℕ) (s t : List ℕ) → Lacks x s → behind x (s ++ x ∷ t) ≡ t
unfolding behind
behind-first x [] t h = rw (eq-eqb x x refl, behind)
behind-first x (b ∷ s) t h = rw (h.0, behind) (behind-first x s t h.1)

count-decimal : (m n : ℕ) → n ≤ m → count m (token (decimal n)) ≡ some n
unfolding count decimal token
count-decimal m zero h = refl
count-decimal m (suc n) h = rw (token-plus (suc n) (omega arith), count, le-leb (suc n) m h)

line : ℕ → ℕ → List ℕ
line v c = bytes "p cnf " ++ decimal v ++ 32 ∷ decimal c

line_lacks : (v c : ℕ) → Lacks 10 (line v c)
unfolding line
line_lacks v c =
    lacks_append 10 (bytes "p cnf " ++ decimal v) (32 ∷ decimal c)
    (lacks_append 10 (bytes "p cnf ") (decimal v) (refl, (refl, (refl, (refl, (refl, (refl, tt)))))) (digits_lack 10 (omega arith) (decimal v) (decimal-digits v)))
    (refl, digits_lack 10 (omega arith) (decimal c) (decimal-digits c))

header_line : (v c : ℕ) → v ≤ max_variable → c ≤ max_clauses → header (line v c) ≡ some (v, c)
unfolding header line after_prefix
header_line v c hv hc =
    rw (
      before-first 32 (decimal v) (decimal c) (digits_lack 32 (omega arith) (decimal v) (decimal-digits v)),
      behind-first 32 (decimal v) (decimal c) (digits_lack 32 (omega arith) (decimal v) (decimal-digits v)),
      count-decimal max_variable v hv,
      count-decimal max_clauses c hc,
    )

-- Clauses

token_of : Literal → Token
token_of (pos v) = plus v
token_of (neg v) = minus v

clause_tokens : Clause → List Token → List Token
unfolding token_of
clause_tokens [] ts = nought ∷ ts
clause_tokens (l ∷ c) ts = token_of l ∷ clause_tokens c ts

all_tokens : List Clause → List Token
unfolding clause_tokens
all_tokens [] = []
all_tokens (c ∷ cs) = clause_tokens c (all_tokens cs)

-- A number with a sign or without, and a space behind it.
tokens-decimal : (n : ℕ) (s : List ℕ) → 1 ≤ n → tokens (decimal n ++ 32 ∷ s) ≡ plus n ∷ tokens s
unfolding is_blank
tokens-decimal n s h = go (decimal_begins n) (digits_no_blank (decimal n) (decimal-digits n)) (token-plus n h)
  where
    go : Begins n (decimal n) → NoBlank (decimal n) → token (decimal n) ≡ plus n → tokens (decimal n ++ 32 ∷ s) ≡ plus n ∷ tokens s
    go b d p =
        let e : decimal n ≡ b.first ∷ b.others = b.is in
        let w : NoBlank (b.first ∷ b.others) = (rw e at d) in
        let t : token (b.first ∷ b.others) ≡ plus n = (rw e at p) in
        rw e (tokens-word b.first b.others 32 s w refl ∙ rw t)

tokens-literal : (l : Literal) (s : List ℕ) → 1 ≤ variable l → tokens (write_literal l ++ 32 ∷ s) ≡ token_of l ∷ tokens s
unfolding write_literal token_of is_blank
tokens-literal (pos v) s h = tokens-decimal v s h
tokens-literal (neg v) s h = tokens-word 45 (decimal v) 32 s (refl, digits_no_blank (decimal v) (decimal-digits v)) refl ∙ rw (token_minus v h)

tokens-clause : (m : ℕ) (c : Clause) (s : List ℕ) → Within m c → tokens (write_clause c ++ s) ≡ clause_tokens c (tokens s)
unfolding write_clause clause_tokens tokens
tokens-clause m [] s w = refl
tokens-clause m (l ∷ c) s w =
    rw (append_assoc (write_literal l) (32 ∷ write_clause c) s, tokens-literal l (write_clause c ++ s) w.0, tokens-clause m c s w.2)

tokens_clauses : (m : ℕ) (cs : List Clause) → AllWithin m cs → tokens (write_clauses cs) ≡ all_tokens cs
unfolding write_clauses all_tokens tokens
tokens_clauses m [] w = refl
tokens_clauses m (c ∷ cs) w = rw (tokens-clause m c (write_clauses cs) w.0, tokens_clauses m cs w.1)

literal-token : (m : ℕ) (l : Literal) → variable l ≤ m → literal m (token_of l) ≡ some l
unfolding literal token_of
literal-token m (pos v) h = rw (le-leb v m h)
literal-token m (neg v) h = rw (le-leb v m h)

not_nought : (l : Literal) → is_nought (token_of l) ≡ false
unfolding token_of
not_nought (pos v) = refl
not_nought (neg v) = refl

items-clause : (m : ℕ) (c : Clause) (ts : List Token) → Within m c → items (literal m) (clause_tokens c ts) ≡ some (c, ts)
unfolding items clause_tokens
items-clause m [] ts w = refl
items-clause m (l ∷ c) ts w = rw (not_nought l, items, literal-token m l w.1, items-clause m c ts w.2)

read_clauses_lem : (m : ℕ) (cs : List Clause) → AllWithin m cs → read_clauses m (length cs) (all_tokens cs) ≡ some (cs, [])
unfolding read_clauses all_tokens
read_clauses_lem m [] w = refl
read_clauses_lem m (c ∷ cs) w = rw (items-clause m c (all_tokens cs) w.0, read_clauses_lem m cs w.1)

-- The theorems

-- A text whose parts read as those of a formula reads as that formula.
read_parts : (s text first others : List ℕ) (v c : ℕ) (cs : List Clause) → after_comments false s ≡ text → before 10 text ≡ first → behind 10 text ≡ others
    → header first ≡ some (v, c) → read_clauses v c (tokens others) ≡ some (cs, []) → read_formula s ≡ some (record { vars = v; clauses = cs })
unfolding read_formula
read_parts s text first others v c cs t f o h k = rw (t, f, o, h, k)

-- A formula within the limits, written out, reads as itself.
pub written-reads : (F : Formula) → WithinLimits F → read_formula (write_formula F) ≡ some F
unfolding write_formula line after_comments
written-reads F w =
    read_parts (write_formula F) (first ++ 10 ∷ others) first others F.vars (length F.clauses) F.clauses refl
    (before-first 10 first others (line_lacks F.vars (length F.clauses)))
    (behind-first 10 first others (line_lacks F.vars (length F.clauses)))
    (header_line F.vars (length F.clauses) w.few_variables w.few_clauses)
    (ap (read_clauses F.vars (length F.clauses)) (tokens_clauses F.vars F.clauses w.all_within) ∙ read_clauses_lem F.vars F.clauses w.all_within)
  where
    first : List ℕ
    first = line F.vars (length F.clauses)

    others : List ℕ
    others = write_clauses F.clauses

-- Whatever bytes spelled a formula: written out and read again it is the same.
pub read-write-read : (s : List ℕ) (F : Formula) → read_formula s ≡ some F → read_formula (write_formula F) ≡ some F
read-write-read s F e = written-reads F (read-within s F e)
