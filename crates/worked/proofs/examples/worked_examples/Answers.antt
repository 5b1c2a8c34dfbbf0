-- The examples are worked out. Assumes nothing.
use Rattle.worked.proofs.Computed.{worked_examples_spec}
use Rattle.worked.proofs.examples.worked_examples.Goals as goal

pub returns : goal.returns
returns c = worked_examples_spec
