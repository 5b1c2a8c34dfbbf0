-- The first two records are written, and every chain is emptied. Assumes nothing.
use Rattle.expressions.proofs.Stores.{begun}
use Rattle.expressions.proofs.store.clear.Goals as goal

pub returns : goal.returns
returns c =
    let records = begun c.args.records.now (record { kind = 0; left = 0; right = 0; next = 0 }) (record { kind = 1; left = 0; right = 0; next = 0 }) c.requires.records in
    cc
