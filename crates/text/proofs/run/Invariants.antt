-- `text::run` meets its contract. The loop's invariant: the number so far is at most `most`, and what is found from i on with
-- it is what is found from the start. The measure is what is left of
-- the text. Assumes nothing.
use Rattle.std.proofs.Common.{◌-◌, length}
use Rattle.text.specs.Scan.{Digits}
use Rattle.text.proofs.run.Given as goal

abbrev pub invariant-loop-i : goal.invariant-loop-i
invariant-loop-i l = Digits l.s l.first l.from l.v l.i

abbrev pub decreases-loop-i : goal.decreases-loop-i
decreases-loop-i l = length l.s - l.i
