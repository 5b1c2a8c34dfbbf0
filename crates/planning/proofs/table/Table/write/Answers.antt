-- The entry is written in its row, and the row in the table. Assumes nothing.
use Rattle.std.proofs.Common.{set, sym, ap, ◌∙◌, subst, arith}
use Rattle.planning.specs.Tables.{table_of, TableFits}
use Rattle.planning.proofs.Entries.{entry_put, entry_fits}
use Rattle.planning.proofs.Tables.{fits}
use Rattle.planning.proofs.table.Table.write.Goals as goal

pub invariant_of-self : goal.invariant_of-self
invariant_of-self c =
    let t = c.args.self.now in
    let u = c.args.u in
    let f = subst (λ r. TableFits t.store.now.count (set t.rows u r)) (sym c.write.ensures) (entry_fits u c.args.w c.args.x c.requires.row c.requires.place (omega arith) c.requires.part (fits t)) in
    record { places = f.places; wide = λ k h. (f.each k h).places; in_use = λ k w h. (f.each k h).in_use w }

pub returns-clause-rows : goal.returns-clause-rows
returns-clause-rows c =
    ap (λ r. table_of (set c.args.self.now.rows c.args.u r)) c.write.ensures ∙
    entry_put c.args.self.now.rows c.args.u c.args.w c.args.x (fits c.args.self.now) c.requires.row c.requires.place
