-- What the walk keeps, and why it ends: a next is lower. Assumes nothing.
use Rattle.expressions.specs.Kinds.{number_of}
use Rattle.expressions.specs.Stores.{contents}
use Rattle.expressions.proofs.Walks.{Towards}
use Rattle.expressions.proofs.store.Store.find.Given as goal

abbrev pub invariant-loop-at : goal.invariant-loop-at
invariant-loop-at l = Towards (contents l.self) (number_of l.kind) l.left l.right l.at

abbrev pub decreases-loop-at : goal.decreases-loop-at
decreases-loop-at l = l.at
