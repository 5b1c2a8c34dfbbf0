use Rattle.std.proofs.Common.{◌≡◌}
use Rattle.scripts.proofs.running.run.Given as goal

abbrev pub invariant-loop-path : goal.invariant-loop-path
invariant-loop-path g l =
    (goal.iterator-loop-path g).can_next l.path-iterator ×
    (goal.iterator-loop-path g).is_finite l.path-iterator ×
    (l.session.vocabulary ≡ l.fn.session.vocabulary)
