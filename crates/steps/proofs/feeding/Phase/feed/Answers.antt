-- `feeding::Phase::feed` meets its contract: one function for each kind of phase. Assumes nothing.
use Rattle.steps.proofs.Feedings.{feeds_start, feeds_body, feeds_literal, feeds_hint, feeds_id}
use Rattle.steps.proofs.feeding.Phase.feed.Goals as goal

pub returns-in-Start : goal.returns-in-Start
returns-in-Start c = feeds_start c.in-Start.is c.feed_start.ensures

pub returns-in-Body : goal.returns-in-Body
returns-in-Body c = feeds_body c.in-Body.is c.feed_body.ensures

pub returns-in-Literals : goal.returns-in-Literals
returns-in-Literals c = feeds_literal c.in-Literals.is c.feed_literal.ensures

pub returns-in-Hints : goal.returns-in-Hints
returns-in-Hints c = feeds_hint c.in-Hints.is c.item_of.ensures c.feed_code.ensures

pub returns-in-Ids : goal.returns-in-Ids
returns-in-Ids c = feeds_id c.in-Ids.is c.id_item.ensures c.feed_code-in-Ids.ensures
