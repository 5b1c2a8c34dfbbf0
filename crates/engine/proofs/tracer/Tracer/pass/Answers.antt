-- What the plan has is passed along. Assumes nothing.
use Rattle.std.proofs.Common.{◌∙◌, sym, refl, arith}
use Rattle.elimination.specs.Moves.{pass}
use Rattle.expressions.specs.Stores.{contents}
use Rattle.network.specs.Plans.{planned}
use Rattle.planning.specs.Running.{move_in}
use Rattle.planning.specs.Tables.{row_of}
use Rattle.engine.proofs.Moved.{one_move}
use Rattle.engine.proofs.tracer.Tracer.pass.Goals as goal

pub invariant_of-self : goal.invariant_of-self
invariant_of-self c =
    let t = c.args.self.now in
    let e = c.pass.ensures in
    record { places = e.fits.places; in_use = e.fits.in_use; named = λ u w h l. omega (arith, t.named u w h l, e.kept.grown.counts); held = t.held; joined = t.joined }

pub returns : goal.returns
returns c =
    let t = c.args.self.now in
    let e = c.pass.ensures in
    record {
      kept = record { same = refl; store = e.kept; plan = refl; steps = refl };
      run = e.moved ∙ (λ i. move_in (λ _ _. c.entry-leads.ensures i) (contents t.store.now) (row_of t.row) (pass c.args.v c.args.w)) ∙ sym (one_move (move_in (planned t.plan.now).table (contents t.store.now) (row_of t.row) (pass c.args.v c.args.w)));
    }
