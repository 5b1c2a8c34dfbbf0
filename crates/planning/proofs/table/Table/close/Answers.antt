-- The entry is closed in its place. Assumes nothing.
use Rattle.std.proofs.Common.{ℕ, ap, ◌∙◌}
use Rattle.expressions.specs.Contents.{Contents}
use Rattle.expressions.specs.Stores.{contents}
use Rattle.expressions.specs.Making.{repeat_made}
use Rattle.elimination.specs.Moves.{put}
use Rattle.planning.specs.Running.{Ran, through}
use Rattle.planning.specs.Tables.{table_of}
use Rattle.planning.proofs.Runs.{made-on, through-both}
use Rattle.planning.proofs.table.Table.close.Goals as goal

pub returns-clause-run : goal.returns-clause-run
returns-clause-run c =
    let made = c.in_ok-closed.ensures in
    let table = c.args.self.now in
    let v = c.args.v in
    let P = table_of table.rows in
    let next : ℕ → Contents → Ran (ℕ → ℕ → ℕ) = λ x d. through d (put v (put v x (P v)) P) in
    through-both (ap contents c.write.ensures.store) c.write.ensures.rows ∙ made-on next (made.made ∙ ap (repeat_made (contents table.store.now)) c.entry-leads.ensures)
