use Rattle.std.proofs.Common.{sym, ◌∙◌, arith}
use Rattle.std.proofs.lemmas.Bool.{false≢true}
use Rattle.planning.proofs.Relations.{goes_none}
use Rattle.planning.proofs.components.relations.Relation.empty.Goals as goal

pub invariant_of-result : goal.invariant_of-result
invariant_of-result c = record { few = omega arith; inside = λ u v e. absurd (false≢true (sym (goes_none 32 u v) ∙ e)) }

pub returns-clause-goes : goal.returns-clause-goes
returns-clause-goes c = goes_none 32
