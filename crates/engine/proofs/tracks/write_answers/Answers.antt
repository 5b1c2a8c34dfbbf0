-- What the memo holds at an entry is what the closure reads. Assumes nothing.
use Rattle.std.proofs.Common.{get_or, rules}
use Rattle.std.proofs.lemmas.List.{get_or_default}
use Rattle.planning.specs.Tables.{row_of}
use Rattle.engine.proofs.tracks.write_answers.Goals as goal

pub returns : goal.returns
returns g c d =
    let memo = c.args.memo.now in
    let row = row_of c.args.traced.now in
    c.fill.ensures (λ t. get_or memo (row t) d) (λ t x h p. let default = get_or_default memo (row t) x d (c.requires t) in search (rules, default))
