-- `text::digits_from` meets its contract: a run of digits, and the end of the word. Assumes nothing.
use Rattle.text.proofs.Numbers.{ran_high}
use Rattle.text.proofs.digits_from.Goals as goal

pub returns-then-n-gt-MOST : goal.returns-then-n-gt-MOST
returns-then-n-gt-MOST c = ran_high _ _ _ _ _ _ c.run-n.ensures c.if-n-gt-MOST.true c.long.ensures
