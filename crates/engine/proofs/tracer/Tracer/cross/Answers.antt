-- The step is made, and then passed along. Assumes nothing.
use Rattle.std.proofs.Common.{ℕ, ◌∙◌, sym, refl}
use Rattle.elimination.specs.Moves.{pass, cross}
use Rattle.expressions.specs.Contents.{Contents}
use Rattle.expressions.specs.Stores.{contents}
use Rattle.network.specs.Plans.{planned}
use Rattle.planning.specs.Running.{Ran, move_in}
use Rattle.planning.specs.Tables.{row_of}
use Rattle.planning.proofs.Runs.{extends-on, made-on}
use Rattle.engine.proofs.Moved.{one_move}
use Rattle.engine.proofs.tracer.Tracer.cross.Goals as goal

pub returns : goal.returns
returns c =
    let t = c.args.self.now in
    let made = c.in_ok-made.ensures in
    let e = c.pass.ensures in
    let R = row_of t.row in
    let next : ℕ → Contents → Ran (ℕ → ℕ) = λ step b. move_in (λ _ _. step) b R (pass c.args.step.from c.args.step.to) in
    record {
      kept = record { same = refl; store = extends-on made.kept e.kept; plan = refl; steps = refl };
      run = e.moved ∙ made-on next made.made ∙ sym (one_move (move_in (planned t.plan.now).table (contents t.store.now) R (cross c.args.j c.args.step.from c.args.step.to)));
    }
