-- The memo holds the readings of the records. Assumes nothing.
use Rattle.engine.proofs.tracks.answer.Goals as goal

pub returns : goal.returns
returns g c = record { memo = c.read.ensures; answers = c.write_answers.ensures (g.A.Algebra.meaning c.args.algebra.now).on.zero }
