-- Laws of literals as numbers: number and literal say the same, opposites are neighbours, equal literals are equal numbers.
-- Assumes nothing.
use Rattle.std.proofs.Common.{◌≡◌, ℕ, ◌+◌, ◌-◌, ◌*◌, ◌/◌, ◌%◌, eqb, sym, ap, ◌∙◌, arith, eq-eqb, ne_eqb, eqb-true}
use borrow.Author.Tests.{eqb-false}
use Rattle.meaning.specs.Meaning.{Literal, pos, neg, variable}
use Rattle.meaning.proofs.Truth.{bool_cases}
use Rattle.rules.specs.Judging.{opposite, same_literal}
use Rattle.clauses.specs.Codes.{literal_of, code_of, opposite_code}

-- An even number is a positive literal, an odd one a negative one.
pub literal-even : (x : ℕ) → x % 2 ≡ 0 → literal_of x ≡ pos (x / 2)
unfolding literal_of
literal-even x e = rw (eq-eqb (x % 2) 0 e, literal_of)

pub literal-odd : (x : ℕ) → (x % 2 ≡ 0 → ⊥) → literal_of x ≡ neg (x / 2)
unfolding literal_of
literal-odd x n = rw (ne_eqb (x % 2) 0 n, literal_of)

pub literal_code : (l : Literal) → literal_of (code_of l) ≡ l
unfolding code_of
literal_code (pos v) = literal-even (2 * v) (omega arith) ∙ ap pos (omega arith)
literal_code (neg v) = literal-odd (2 * v + 1) (λ e. omega arith) ∙ ap neg (omega arith)

pub code_literal : (x : ℕ) → code_of (literal_of x) ≡ x
unfolding code_of
code_literal x =
    bool_cases (eqb (x % 2) 0)
    (λ y. let e = eqb-true (x % 2) 0 y in ap code_of (literal-even x e) ∙ omega arith)
    (λ n. let d = eqb-false (x % 2) 0 n in ap code_of (literal-odd x d) ∙ omega arith)

pub variable-literal : (x : ℕ) → variable (literal_of x) ≡ x / 2
variable-literal x =
    bool_cases (eqb (x % 2) 0)
    (λ y. ap variable (literal-even x (eqb-true (x % 2) 0 y)))
    (λ n. ap variable (literal-odd x (eqb-false (x % 2) 0 n)))

pub opposite-even : (x : ℕ) → x % 2 ≡ 0 → opposite_code x ≡ x + 1
unfolding opposite_code
opposite-even x e = rw (eq-eqb (x % 2) 0 e, opposite_code)

pub opposite-odd : (x : ℕ) → (x % 2 ≡ 0 → ⊥) → opposite_code x ≡ x - 1
unfolding opposite_code
opposite-odd x n = rw (ne_eqb (x % 2) 0 n, opposite_code)

pub literal-opposite : (x : ℕ) → literal_of (opposite_code x) ≡ opposite (literal_of x)
literal-opposite x =
    bool_cases (eqb (x % 2) 0)
    (λ y.
    let e = eqb-true (x % 2) 0 y in
    ap literal_of (opposite-even x e) ∙ (literal-odd (x + 1) (λ q. omega arith) ∙ (ap neg (omega arith) ∙ sym (ap opposite (literal-even x e)))))
    (λ n.
    let d = eqb-false (x % 2) 0 n in
    ap literal_of (opposite-odd x d) ∙ (literal-even (x - 1) (omega arith) ∙ (ap pos (omega arith) ∙ sym (ap opposite (literal-odd x d)))))

-- Two numbers are equal exactly if the literals are the same.
same_codes : (l k : Literal) → same_literal l k ≡ eqb (code_of l) (code_of k)
unfolding same_literal code_of
same_codes (pos v) (pos w) =
    bool_cases (eqb v w)
    (λ y. let e = eqb-true v w y in y ∙ sym (eq-eqb (2 * v) (2 * w) (omega arith)))
    (λ n. let d = eqb-false v w n in n ∙ sym (ne_eqb (2 * v) (2 * w) (λ q. d (omega arith))))
same_codes (pos v) (neg w) = sym (ne_eqb (2 * v) (2 * w + 1) (λ q. omega arith))
same_codes (neg v) (pos w) = sym (ne_eqb (2 * v + 1) (2 * w) (λ q. omega arith))
same_codes (neg v) (neg w) =
    bool_cases (eqb v w)
    (λ y. let e = eqb-true v w y in y ∙ sym (eq-eqb (2 * v + 1) (2 * w + 1) (omega arith)))
    (λ n. let d = eqb-false v w n in n ∙ sym (ne_eqb (2 * v + 1) (2 * w + 1) (λ q. d (omega arith))))

pub same_literal_lem : (x y : ℕ) → same_literal (literal_of x) (literal_of y) ≡ eqb x y
same_literal_lem x y = same_codes (literal_of x) (literal_of y) ∙ rw (code_literal x, code_literal y)
