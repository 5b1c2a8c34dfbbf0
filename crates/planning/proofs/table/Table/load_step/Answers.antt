-- The step is made, and the sum with it written in its place. Assumes nothing.
use Rattle.std.proofs.Common.{sym, ap, ◌∙◌, rules}
use Rattle.std.proofs.lemmas.Result.{err_from_is_err_and}
use Rattle.elimination.specs.Moves.{load}
use Rattle.expressions.specs.Stores.{contents}
use Rattle.expressions.specs.Making.{sum_made}
use Rattle.planning.specs.Running.{act_in}
use Rattle.planning.specs.Tables.{table_of}
use Rattle.planning.proofs.Runs.{extends-on, loaded, through-both}
use Rattle.planning.proofs.table.Table.load_step.Goals as goal

pub returns-in_ok-sum-clause-run : goal.returns-in_ok-sum-clause-run
returns-in_ok-sum-clause-run c =
    let table = c.args.self.now in
    let P = table_of table.rows in
    let sum = c.in_ok-sum.ensures.made ∙ ap (λ y. sum_made (contents c.step.new.self) y c.in_ok-step.step) c.entry-leads.ensures in
    through-both (ap contents c.write.ensures.store) c.write.ensures.rows ∙
    loaded P (contents table.store.now) c.args.j c.args.from c.args.to c.in_ok-step.ensures.made sum ∙
    ap (λ b. act_in (contents table.store.now) P (load c.args.j c.args.from c.args.to b)) (sym c.if-shared.true)

pub returns-in_err-sum : goal.returns-in_err-sum
returns-in_err-sum c =
    let p = err_from_is_err_and c.from_residual-in_err-sum.result c.from_residual-in_err-sum.ensures.1 in
    let step = c.in_ok-step.ensures in
    let made = c.in_err-sum.ensures in
    let table = c.args.self.now in
    let P = table_of table.rows in
    let sum = made.made ∙ ap (λ y. sum_made (contents c.step.new.self) y c.in_ok-step.step) c.entry-leads.ensures in
    record {
      run = rw (p.1, p.2) (loaded P (contents table.store.now) c.args.j c.args.from c.args.to step.made sum ∙ ap (λ b. act_in (contents table.store.now) P (load c.args.j c.args.from c.args.to b)) (sym c.if-shared.true));
      kept = record { store = extends-on step.kept made.kept; same = search rules };
    }
