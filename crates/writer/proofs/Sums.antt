-- Lengths of texts, summed up until they are above the room. Assumes nothing.
use Rattle.std.specs.Prelude.{Option, Some, None}
use Rattle.std.specs.Bool.{then_some}
use Rattle.std.proofs.Common.{ℕ, ◌+◌, ◌*◌, ◌≤◌, ◌<◌, ◌≡◌, Bool, true, false, sym, ap, ◌∙◌, List, leb, arith, length, get_or, length-append, leb-true}
use borrow.Author.Tests.{leb-false}
use Rattle.rules.specs.Written.{write_literal, write_clause, write_clauses}
use Rattle.clauses.specs.Codes.{literal_of}
use Rattle.clauses.specs.Store.{clause_at, clauses_of}
use Rattle.writer.specs.Text.{Sized, Formed, SumFits, SumExceeds, Summed, LineDigits, length_of, IsTooLong, Answers}
use Rattle.writer.proofs.Texts.{Parts}
use Rattle.writer.proofs.Clauses.{clause_from, clause_more, clause_end}
use Rattle.writer.proofs.Stored.{clauses_from, clauses_more, clauses_end}
use Rattle.writer.proofs.Lines.{formula_parts}

-- A text of two parts is as long as both.
pub parts_length : {text piece rest : List ℕ} → Parts text piece rest → length text ≡ length piece + length rest
parts_length {text} {piece} {rest} p = ap length p.are ∙ length-append piece rest

-- The same text under another name.
pub summed_as : (text same : List ℕ) (before room free turns : ℕ) (total : Option ℕ) → same ≡ text → Summed before (before + length text) room free total turns
    → Summed before (before + length same) room free total turns
summed_as text same before room free turns total e m = rw e m

-- The lengths of the first i literals are added, each with a space, and the sum is not above the room.
pub record Adding (before room : ℕ) (codes : List ℕ) (total turns i : ℕ) : Type 0 where
  pub left : total + length (clause_from codes i) ≡ before + length (clause_from codes 0)
  pub within : total ≤ room
  pub spent : turns + before ≡ total

module _ {before room total turns i : ℕ} {codes : List ℕ} (a : Adding before room codes total turns i) where
  -- The sum with the `0` and the line feed.
  all : length codes ≤ i → total + 2 ≡ before + length (clause_from codes 0)
  all h = omega (arith, a.left, ap length (clause_end codes i h))

  pub adding_end : length codes ≤ i → (b : Bool) → b ≡ leb (total + 2) room → Summed before (before + length (clause_from codes 0)) room 2 (then_some b (total + 2)) turns
  adding_end h true e = record { exact = all h; fits = leb-true (total + 2) room (sym e); at_least = omega (arith, a.spent); at_most = omega (arith, a.spent) }
  adding_end h false e =
      let o = leb-false (total + 2) room (sym e) in
      record { longer = omega (arith, all h); at_least = omega (arith, a.spent); at_most = omega (arith, a.spent, a.within) }

  module _ {size bytes : ℕ} (h : i < length codes) (s : Sized (write_literal (literal_of (get_or codes i 0))) size 21) (b : bytes ≡ size + 1) where
    next : total + (size + 1) + length (clause_from codes (i + 1)) ≡ before + length (clause_from codes 0)
    next = omega (arith, a.left, parts_length (clause_more codes i h), s.is)

    pub adding_on : total + (size + 1) ≤ room → Adding before room codes (total + (size + 1)) (turns + bytes) (i + 1)
    adding_on w = record { left = next; within = w; spent = omega (arith, a.spent) }

    -- The sum is above the room already.
    pub adding_over : room < total + (size + 1) → SumExceeds before (before + length (clause_from codes 0)) room 2 (turns + bytes)
    adding_over o = record { longer = omega (arith, next); at_least = omega (arith, a.spent); at_most = omega (arith, a.within, a.spent, s.few) }

-- The lengths of the first k clauses are added, and the sum is not above the room.
pub record AddingAll (before room : ℕ) (heads lits : List ℕ) (n total turns k : ℕ) : Type 0 where
  pub formed : Formed heads lits n
  pub left : total + length (clauses_from heads lits n k) ≡ before + length (clauses_from heads lits n 0)
  pub within : total ≤ room
  pub at_least : total ≤ before + 2 * turns
  pub at_most : turns + before ≤ total

module _ {before room n total turns k : ℕ} {heads lits : List ℕ} (a : AddingAll before room heads lits n total turns k) where
  pub adding_all_end : n ≤ k → SumFits before (before + length (clauses_from heads lits n 0)) room 0 total turns
  adding_all_end h = record {
    exact = omega (arith, a.left, ap length (clauses_end heads lits n k h));
    fits = a.within;
    at_least = omega (arith, a.at_least);
    at_most = omega (arith, a.at_most);
  }

  module _ (h : k < n) where
    step : length (clauses_from heads lits n k) ≡ length (write_clause (clause_at heads lits k)) + length (clauses_from heads lits n (k + 1))
    step = parts_length (clauses_more heads lits n k h)

    pub adding_all_on : {total' spent : ℕ} → SumFits total (total + length (write_clause (clause_at heads lits k))) room 2 total' spent
        → AddingAll before room heads lits n total' (turns + (1 + spent)) (k + 1)
    adding_all_on m = record {
      formed = a.formed;
      left = omega (arith, a.left, step, m.exact);
      within = m.fits;
      at_least = omega (arith, a.at_least, m.at_least);
      at_most = omega (arith, a.at_most, m.at_most);
    }

    pub adding_all_over : {spent : ℕ} → SumExceeds total (total + length (write_clause (clause_at heads lits k))) room 2 spent
        → SumExceeds before (before + length (clauses_from heads lits n 0)) room 0 (turns + (1 + spent))
    adding_all_over m = record {
      longer = omega (arith, a.left, step, m.longer);
      at_least = omega (arith, a.at_least, m.at_least);
      at_most = omega (arith, a.at_most, m.at_most);
    }

-- The answer, from the digits of the first line and from the sum.
module _ (heads lits : List ℕ) (n vars : ℕ) {clauses digits spent : ℕ} (d : LineDigits vars clauses digits) (c : clauses ≡ n) (s : spent ≡ digits) where
  need : length_of heads lits n vars ≡ digits + 8 + length (write_clauses (clauses_of heads lits n))
  need = parts_length (formula_parts heads lits n vars c) ∙ ap (λ (k : ℕ). k + length (write_clauses (clauses_of heads lits n))) (sym d.is)

  pub line_too_long : {room : ℕ} → room < digits + 8 → IsTooLong (length_of heads lits n vars) room spent
  line_too_long o = record { longer = omega (arith, need); at_least = omega (arith, d.some); at_most = omega (arith, d.few) }

  pub answers : (room turns : ℕ) (sum : Option ℕ) → Summed (digits + 8) (digits + 8 + length (write_clauses (clauses_of heads lits n))) room 0 sum turns
      → Answers (length_of heads lits n vars) room sum (spent + turns)
  answers room turns (Some total) m = record { exact = m.exact ∙ sym need; fits = m.fits; at_least = omega (arith, m.at_least, d.some); at_most = omega (arith, m.at_most) }
  answers room turns None m = record { longer = omega (arith, need, m.longer); at_least = omega (arith, m.at_least, d.some); at_most = omega (arith, m.at_most) }
