-- `clauses::note_all` meets its contract. The loop's invariant: `noted` counts the places passed, and the guesses are as many as
-- they were. Assumes nothing.
use Rattle.std.proofs.Common.{◌≡◌, length}
use Rattle.clauses.proofs.note_all.Given as goal

abbrev pub invariant-loop-place : goal.invariant-loop-place
invariant-loop-place l = (l.noted ≡ l.place) × (length l.guess ≡ length l.initial.guess)
