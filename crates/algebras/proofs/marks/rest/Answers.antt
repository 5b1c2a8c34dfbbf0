use Rattle.std.proofs.Common.{rules}
use Rattle.algebras.specs.MarkLaws.{rest_is}
use Rattle.algebras.proofs.marks.rest.Goals as goal

pub returns : goal.returns
returns c = rest_is c.args.marks (search rules)
