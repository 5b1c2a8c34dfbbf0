use Rattle.std.proofs.Common.{◌≡◌}
use Rattle.scripts.proofs.running.run_script.Given as goal

abbrev pub invariant-loop-index : goal.invariant-loop-index
invariant-loop-index g l =
    (goal.iterator-loop-index g).can_next l.index-iterator ×
    (goal.iterator-loop-index g).is_finite l.index-iterator ×
    (l.session.vocabulary ≡ l.fn.session.vocabulary)
