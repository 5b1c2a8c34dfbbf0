use Rattle.std.proofs.Common.{ℕ, Bool, ltb, sym, refl, ◌∙◌, rules, tests, arith}
use Rattle.std.proofs.lemmas.Iterator.{YieldsList-from_range}
use Rattle.std.proofs.lemmas.Iterator.Search.{all_from_yields_List}
use Rattle.planning.specs.Tables.{table_of}
use Rattle.network.proofs.Everies.{every_is_all}
use Rattle.network.proofs.plan.Plan.row_sound.Goals as goal

pub returns : goal.returns
returns c =
    let n = c.args.formats in
    let test : ℕ → Bool = λ w. ltb (table_of c.args.self.now.rows c.args.u w) c.args.records in
    all_from_yields_List test _ _ c.all.result c.all.ensures.ran (YieldsList-from_range 0 n n refl (omega arith)) (λ x b q k. search (rules, tests)) ∙ sym (every_is_all n test)
