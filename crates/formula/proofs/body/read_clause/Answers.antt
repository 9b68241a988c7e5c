use Rattle.std.specs.Prelude.{Ok}
use Rattle.std.proofs.Common.{refl, sym, ap, ◌∙◌, arith}
use Rattle.formula.proofs.Bodies.{reading-start, reading_next, reading_on, reading_done, reading_bad, reading-long}
use Rattle.formula.proofs.body.read_clause.Goals as goal

pub loop-l-init : goal.loop-l-init
loop-l-init c = reading-start _ _ _ _ _ c.requires.at_in_bounds c.requires.used_in_bounds

pub returns-then-lits-w : goal.returns-then-lits-w
returns-then-lits-w c =
    record
    { case = (reading-long _ (omega (arith, c.requires)) _ _ _ _ _ _ _ c.loop-l.invariant _ _ c.token_at-found.ensures _ (ap Ok (sym c.in-Ok-Some.field-0-is) ∙ sym c.in-Ok-Some.is ∙ c.item_of.ensures) c.if-lits-w.true, refl) }

pub returns-in-Ok-None : goal.returns-in-Ok-None
returns-in-Ok-None c =
    record
    { case = reading_done _ (omega (arith, c.requires)) _ _ _ _ _ _ _ c.loop-l.invariant _ _ c.token_at-found.ensures (ap Ok (sym c.in-Ok-None.field-0-is) ∙ sym c.in-Ok-None.is ∙ c.item_of.ensures) }

pub returns-in-Err : goal.returns-in-Err
returns-in-Err c =
    record
    { case = (reading_bad _ (omega (arith, c.requires)) _ _ _ _ _ _ _ c.loop-l.invariant _ _ c.token_at-found.ensures (sym c.in-Err.is ∙ c.item_of.ensures), refl) }

pub loop-l-smaller : goal.loop-l-smaller
loop-l-smaller c =
    let taken = reading_next _ (omega (arith, c.requires)) _ _ _ _ _ _ _ c.loop-l.invariant _ _ c.token_at-found.ensures _ (ap Ok (sym c.in-Ok-Some.field-0-is) ∙ sym c.in-Ok-Some.is ∙ c.item_of.ensures) in
    omega (arith, taken.later, taken.within)

pub loop-l-preserved : goal.loop-l-preserved
loop-l-preserved c =
    reading_on _ (omega (arith, c.requires)) _ _ _ _ _ _ _ c.loop-l.invariant _ _ c.token_at-found.ensures _ _ (ap Ok (sym c.in-Ok-Some.field-0-is) ∙ sym c.in-Ok-Some.is ∙ c.item_of.ensures) c.if-lits-w.false
    refl
