-- Writing a formula out: from what reading and writing say of the store to what they say of the bytes. Assumes nothing.
use Rattle.std.proofs.Common.{ℕ, ◌≡◌, subst, List}
use Rattle.meaning.specs.Meaning.{Formula}
use Rattle.rules.specs.Formula.{read_formula}
use Rattle.clauses.proofs.Plain.{holds_plain}
use Rattle.writer.specs.Text.{formula_of}
use Rattle.formula.specs.Reading.{IsStored, Reads}
use Rattle.std.specs.Prelude.{Result, Ok, Err}
use Rattle.formula.specs.Writing.{StoredCase, WritesStored, WriteCase, Writes}
use Rattle.formula.specs.declared.Stored.{Stored}
use Rattle.formula.specs.declared.NotWritten.{NotWritten}

module _ (s heads₀ lits₀ heads lits : List ℕ) (r : Stored) (read : Reads s heads₀ lits₀ heads lits (Ok r)) where
  stored : IsStored (read_formula s) s heads lits r.vars r.clauses r.used r.top
  stored = read.case

  -- The formula in the store is the one that the bytes spell.
  same_formula : formula_of heads lits r.clauses r.vars ≡ stored.formula
  same_formula =
      let plain = holds_plain heads lits r.clauses r.used r.clauses stored.formula.clauses stored.holds stored.is_clauses in
      λ i. record { vars = stored.is_vars i; clauses = plain i }

  written : (out out' : List ℕ) (w : Result ℕ NotWritten) → StoredCase stored.formula out out' w → WriteCase s heads₀ lits₀ out out' w
  written out out' (Ok n) h = record { formula = stored.formula; is = stored.is; holds = h }
  written out out' (Err e) h = rw h.0 (record { formula = stored.formula; is = stored.is; holds = h.1 })

  pub write_stored : (out out' : List ℕ) (w : Result ℕ NotWritten) → WritesStored (formula_of heads lits r.clauses r.vars) out out' w → Writes s heads₀ lits₀ out out' w
  write_stored out out' w h = record { case = written out out' w (subst (λ (F : Formula). StoredCase F out out' w) same_formula h.case) }
