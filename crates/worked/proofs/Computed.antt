-- The examples, by computing. Assumes nothing.
use Rattle.std.proofs.Common.{refl}
use Rattle.elimination.specs.Moves.{sealing, tracing}
use Rattle.worked.specs.Examples.{WorkedExamples}

pub worked_examples_spec : WorkedExamples
unfolding sealing tracing
worked_examples_spec = record {
  pair-draws = refl;
  pair-seals = (refl, refl);
  pair-records = refl;
  pair-traces = (refl, refl);
  pair-traced = refl;
  pair-counts = refl;
  pair_costs = refl;
  pair_phases = refl;
  lone-draws = refl;
  lone-seals = (refl, refl);
  lone-traces = (refl, refl);
  again-draws = refl;
  again-seals = (refl, refl);
  again-traces = (refl, refl);
  again_phases = refl;
  back-draws = refl;
  back-seals = (refl, refl);
  back-order = refl;
  back-traces = (refl, refl);
}
