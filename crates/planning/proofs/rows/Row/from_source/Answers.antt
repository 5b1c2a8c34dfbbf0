-- An empty row with stay written at the source. Assumes nothing.
use Rattle.std.proofs.Common.{sym, ap, ◌∙◌, subst, arith}
use mathlib.Core.Path.{fun_ext}
use Rattle.elimination.specs.Moves.{put}
use Rattle.planning.specs.Tables.{row_of, RowFits}
use Rattle.planning.proofs.Entries.{row_put, row_fits, empty-at, empty-fits}
use Rattle.planning.proofs.rows.Row.from_source.Goals as goal

pub write-requires : goal.write-requires
write-requires c = let long = (empty-fits c.empty-row.result c.empty-row.ensures 1 (omega arith)).places in omega arith

pub returns : goal.returns
returns c =
    let r = c.empty-row.result in
    let s = c.args.source in
    let fits = empty-fits r c.empty-row.ensures 2 (omega arith) in
    record {
      row = ap row_of c.write.ensures ∙ row_put r s 1 (omega arith) ∙ ap (put s 1) (fun_ext (empty-at r c.empty-row.ensures));
      fits = subst (RowFits 2) (sym c.write.ensures) (row_fits s 1 c.requires (omega arith) fits);
    }
