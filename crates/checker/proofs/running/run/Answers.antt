use Rattle.std.proofs.Common.{arith}
use Rattle.checker.proofs.Runs.{running_start, running_small, lent_on, running_verified, running_unfinished, running_stopped, running_on, running_less}
use Rattle.checker.proofs.running.run.Goals as goal

pub loop-after-init : goal.loop-after-init
loop-after-init c = running_start _ _ _ c.requires

pub overflow_add-done : goal.overflow_add-done
overflow_add-done c = record { fits = omega (arith, running_small _ _ _ _ _ _ _ _ c.loop-after.invariant (omega (arith, c.well_formed.0.1))) }

pub loop-after-smaller : goal.loop-after-smaller
loop-after-smaller c =
    let taken = c.take_step-taken in
    running_less _ _ _ _ _ _ _ _ c.loop-after.invariant taken.new.work _ _ _ c.plus-turns.ensures _ _ _ c.in-Ok-On.is (rw c.in-Ok-On.is at c.in-Ok-On.field-0-is) taken.ensures.step

pub loop-after-preserved : goal.loop-after-preserved
loop-after-preserved c =
    let taken = c.take_step-taken in
    running_on _ _ _ _ _ _ _ _ c.loop-after.invariant taken.new.work _ _ _ c.plus-turns.ensures _ _ _ c.in-Ok-On.is (rw c.in-Ok-On.is at c.in-Ok-On.field-0-is) taken.ensures.step
    (omega (arith, c.well_formed.0.1)) taken.ensures.lent

pub overflow_add-value : goal.overflow_add-value
overflow_add-value c = record { fits = omega (arith, running_small _ _ _ _ _ _ _ _ c.loop-after.invariant (omega (arith, c.well_formed.0.1))) }

pub returns-in-Ok-Verified : goal.returns-in-Ok-Verified
returns-in-Ok-Verified c =
    let taken = c.take_step-taken in
    let all =
    running_verified _ _ _ _ _ _ _ _ c.loop-after.invariant taken.new.work _ _ _ c.plus-turns.ensures _ _ c.in-Ok-Verified.is (rw c.in-Ok-Verified.is at c.in-Ok-Verified.field-0-is)
    taken.ensures.step (omega (arith, c.well_formed.0.1)) in
    record { ended = all.0; least = all.1.0; most = all.1.1; lent = lent_on _ _ _ c.loop-after.invariant.lent taken.ensures.lent }

pub returns-in-Ok-Nothing : goal.returns-in-Ok-Nothing
returns-in-Ok-Nothing c =
    let taken = c.take_step-taken in
    let all =
    running_unfinished _ _ _ _ _ _ _ _ c.loop-after.invariant taken.new.work _ _ _ c.plus-turns.ensures _ _ c.in-Ok-Nothing.is
    (rw c.in-Ok-Nothing.is at c.in-Ok-Nothing.field-0-is) taken.ensures.step (omega (arith, c.well_formed.0.1)) in
    record { ended = all.0; least = all.1.0; most = all.1.1; lent = lent_on _ _ _ c.loop-after.invariant.lent taken.ensures.lent }

pub overflow_add-value-in-Err : goal.overflow_add-value-in-Err
overflow_add-value-in-Err c = record { fits = omega (arith, running_small _ _ _ _ _ _ _ _ c.loop-after.invariant (omega (arith, c.well_formed.0.1))) }

pub returns-in-Err : goal.returns-in-Err
returns-in-Err c =
    let taken = c.take_step-taken in
    let all =
    running_stopped _ _ _ _ _ _ _ _ c.loop-after.invariant taken.new.work _ _ _ c.plus-turns.ensures _ _ c.in-Err.is
    taken.ensures.step (omega (arith, c.well_formed.0.1)) in
    record { ended = all.0; least = all.1.0; most = all.1.1; lent = lent_on _ _ _ c.loop-after.invariant.lent taken.ensures.lent }
