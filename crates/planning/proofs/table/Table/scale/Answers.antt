-- The row's own move is the act on the table. Assumes nothing.
use Rattle.std.proofs.Common.{ap, ◌∙◌, arith}
use Rattle.elimination.specs.Moves.{scale}
use Rattle.expressions.specs.Stores.{contents}
use Rattle.planning.specs.Running.{move_in}
use Rattle.planning.specs.Tables.{table_of}
use Rattle.planning.proofs.Entries.{table_fits}
use Rattle.planning.proofs.Runs.{row_moved}
use Rattle.planning.proofs.Tables.{fits}
use Rattle.planning.proofs.table.Table.scale.Goals as goal

pub invariant_of-self : goal.invariant_of-self
invariant_of-self c =
    let e = c.scale.ensures in
    let f = table_fits c.args.u c.requires.row e.kept.grown.counts e.fits (fits c.args.self.now) in
    record { places = f.places; wide = λ u h. (f.each u h).places; in_use = λ u w h. (f.each u h).in_use w }

pub returns-clause-run : goal.returns-clause-run
returns-clause-run c =
    let rows = c.args.self.now.rows in
    row_moved c.scale.result (contents c.scale.new.store) rows c.args.u c.scale.new.self (omega arith)
    (c.scale.ensures.moved ∙ ap (λ x. move_in (λ _ _. x) (contents c.args.self.now.store.now) (table_of rows c.args.u) (scale c.args.v)) c.entry-closed.ensures)
