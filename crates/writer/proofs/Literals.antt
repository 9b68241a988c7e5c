-- The text of a literal, by its code. Assumes nothing.
use Rattle.std.proofs.Common.{ℕ, ◌+◌, ◌/◌, ◌%◌, ◌≡◌, ap, ◌∷◌, [], eqb, arith, length, eq-eqb, ne_eqb, eqb-true}
use borrow.Author.Tests.{eqb-false}
use Rattle.meaning.proofs.Truth.{bool_cases}
use Rattle.rules.specs.Written.{decimal, write_literal}
use Rattle.writer.specs.Text.{Sized}
use Rattle.writer.proofs.Texts.{Parts}
use Rattle.clauses.specs.Codes.{literal_of}

pub positive_text : (code : ℕ) {v : ℕ} → code % 2 ≡ 0 → v ≡ code / 2 → write_literal (literal_of code) ≡ decimal v
unfolding literal_of write_literal
positive_text code h e = rw (eq-eqb (code % 2) 0 h, literal_of, e)

pub negative_text : (code : ℕ) {v : ℕ} → (code % 2 ≡ 0 → ⊥) → v ≡ code / 2 → Parts (write_literal (literal_of code)) (45 ∷ []) (decimal v)
unfolding literal_of write_literal
negative_text code h e = record { are = rw (ne_eqb (code % 2) 0 h, literal_of, e) }

pub literal_size : (code : ℕ) {v size : ℕ} → v ≡ code / 2 → Sized (decimal v) size 20 → Sized (write_literal (literal_of code)) (size + code % 2) 21
literal_size code {v} {size} e d =
    bool_cases (eqb (code % 2) 0)
    (λ y. let z = eqb-true (code % 2) 0 y in record { is = omega (arith, d.is, ap length (positive_text code z e)); some = omega (arith, d.some); few = omega (arith, d.few) })
    (λ n. let z = eqb-false (code % 2) 0 n in
    record { is = omega (arith, d.is, ap length (negative_text code z e).are); some = omega (arith, d.some); few = omega (arith, d.few) })
