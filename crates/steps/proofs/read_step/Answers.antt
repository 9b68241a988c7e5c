use Rattle.std.proofs.Common.{rules, refl, arith, ap, Ok, ◌∙◌, ◌≡◌, inl, inr}
use Rattle.steps.proofs.Readings.{reading-start, reading_next, reading_on, reading-added, reading_deleted, reading_none, reading-stopped}
use Rattle.text.specs.declared.Token.TheVariants.{Nothing}
use Rattle.steps.proofs.read_step.Goals.{else-i-at-via-then-i-at+else-eq, else-i-at-via-else-i-at}
use Rattle.steps.proofs.read_step.Goals as goal

pub loop-on-init : goal.loop-on-init
loop-on-init c = reading-start _ _ _ _ _ _ _ refl c.requires.at_in_bounds c.requires.used_in_bounds

pub go_on-i-requires : goal.go_on-i-requires
go_on-i-requires c = (reading_next c.loop-on.invariant c.token_at-token.ensures c.feed.ensures (c.in-Ok-More.is ∙ ap Ok c.in-Ok-More.field-0-is)).within

pub loop-on-smaller : goal.loop-on-smaller
loop-on-smaller c =
    omega
    (arith, (reading_next c.loop-on.invariant c.token_at-token.ensures c.feed.ensures (c.in-Ok-More.is ∙ ap Ok c.in-Ok-More.field-0-is)).later, c.go_on-i.ensures.later, c.go_on-i.ensures.within)

pub loop-on-preserved : goal.loop-on-preserved
loop-on-preserved c =
    c.go_on-i.ensures.on _ _ _ _ (reading_on c.loop-on.invariant c.token_at-token.ensures c.feed.ensures (c.in-Ok-More.is ∙ rw c.in-Ok-More.field-0-is refl))

pub returns-in-Ok-Addition : goal.returns-in-Ok-Addition
returns-in-Ok-Addition c =
    rw c.in-Ok-Addition.field-0-is
    (reading-added c.loop-on.invariant c.token_at-token.ensures c.feed.ensures (c.in-Ok-Addition.is ∙ ap Ok c.in-Ok-Addition.field-0-is))

pub returns-in-Ok-Deletion : goal.returns-in-Ok-Deletion
returns-in-Ok-Deletion c =
    rw c.in-Ok-Deletion.field-0-is
    (reading_deleted c.loop-on.invariant c.token_at-token.ensures c.feed.ensures (c.in-Ok-Deletion.is ∙ ap Ok c.in-Ok-Deletion.field-0-is))

pub returns-then-eq : goal.returns-then-eq
returns-then-eq c =
    let over : c.token_at-token.result.token ≡ Nothing = search rules in
    reading_none c.loop-on.invariant c.token_at-token.ensures c.feed.ensures (c.feed.ensures.at_end_lem over) over (omega (arith, c.if-i-at.true, c.loop-on.invariant.later))

pub returns-in-Err : goal.returns-in-Err
returns-in-Err c =
    reading-stopped c.loop-on.invariant c.token_at-token.ensures c.feed.ensures _ c.in-Err.is
    (elim c.else-i-at.branch [
      | else-i-at-via-then-i-at+else-eq w ↦ inl (λ over. search rules)
      | else-i-at-via-else-i-at w ↦ inr w.if-i-at.false
    ])
