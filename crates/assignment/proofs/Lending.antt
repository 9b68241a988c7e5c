-- What was lent is still there behind two functions, one after the other. Assumes nothing.
use Rattle.std.proofs.Common.{◌∙◌}
use Rattle.assignment.specs.declared.Assignment.{Assignment}
use Rattle.assignment.specs.Lent.{Same}

pub same_on : {a b c : Assignment} → Same a b → Same b c → Same a c
same_on p q = record { marks = q.marks ∙ p.marks; tape = q.tape ∙ p.tape }
