-- What the type of a table says of its rows. Assumes nothing.
use Rattle.planning.specs.Tables.{TableFits}
use Rattle.planning.specs.declared.table.Table.{Table}

-- every entry of a table is in use in its store
pub fits : (t : Table) → TableFits t.store.now.count t.rows
fits t = record { places = t.places; each = λ u h. record { places = t.wide u h; in_use = λ w. t.in_use u w h } }
