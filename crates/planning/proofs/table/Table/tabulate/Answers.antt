-- The steps are loaded, and then the components eliminated. Assumes nothing.
use Rattle.std.proofs.Common.{◌≡◌, ℕ, List, length, get_or, ◌∙◌}
use Rattle.std.proofs.lemmas.Result.{err_from_is_err_and}
use Rattle.elimination.specs.Moves.{Act, for_each, below, loads, eliminate, sealing}
use Rattle.expressions.specs.Contents.{Contents}
use Rattle.expressions.specs.Stores.{contents}
use Rattle.expressions.specs.declared.Step.{Step}
use Rattle.planning.specs.declared.components.Components.{Components}
use Rattle.planning.specs.Drawn.{drawn}
use Rattle.planning.specs.Orders.{members_of}
use Rattle.planning.specs.Running.{Ran, run_acts, onward}
use Rattle.planning.specs.Tables.{table_of}
use Rattle.planning.proofs.Runs.{kept_on, onward-on, run-++}
use Rattle.planning.proofs.table.Table.tabulate.Goals as goal

-- the acts after the steps are loaded
abbrev rest : ℕ → Components → List Act
rest n components = for_each (λ c. eliminate (members_of n (λ v. get_or components.of v 0) c)) (below components.count)

-- to load and then to eliminate is to seal
sealed_by : (n : ℕ) (steps : List Step) (components : Components) (c : Contents) (P : ℕ → ℕ → ℕ) {m : Ran (ℕ → ℕ → ℕ)} →
    m ≡ run_acts c P (loads (drawn 32 steps) (λ v. get_or components.of v 0)) →
    onward m (λ d Q. run_acts d Q (rest n components)) ≡ run_acts c P (sealing (drawn n steps) components.count (λ v. get_or components.of v 0))
unfolding sealing
sealed_by n steps components c P e = onward-on (rest n components) e ∙ run-++ c P (loads (drawn 32 steps) (λ v. get_or components.of v 0)) (rest n components)

pub returns-in_err-load : goal.returns-in_err-load
returns-in_err-load c =
    let p = err_from_is_err_and c.from_residual.result c.from_residual.ensures.1 in
    let e = c.in_err-load.ensures in
    record {
      run = rw (p.1, p.2) (sealed_by (length c.args.order.now) c.args.steps.now c.args.components.now (contents c.args.self.now.store.now) (table_of c.args.self.now.rows) e.run);
      kept = e.kept;
    }

pub returns : goal.returns
returns c =
    let loaded = c.in_ok-load.ensures in
    let e = c.eliminate_all.ensures in
    record {
      run = e.run ∙ sealed_by (length c.args.order.now) c.args.steps.now c.args.components.now (contents c.args.self.now.store.now) (table_of c.args.self.now.rows) loaded.run;
      kept = kept_on loaded.kept e.kept;
    }
