-- `writer::write_digits` meets its contract. The loop's invariant: the digits from the place `i` on are written, and those of what is
-- left belong in front of them. Assumes nothing.
use Rattle.writer.proofs.Filling.{Filling}
use Rattle.writer.proofs.write_digits.Given as goal

abbrev pub invariant-loop-i : goal.invariant-loop-i
invariant-loop-i l = Filling l.initial.place l.v l.place l.rest l.i
