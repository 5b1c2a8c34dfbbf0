use Rattle.std.proofs.Common.{ℕ, ltb, sym, ◌∙◌, rules, tests}
use Rattle.std.proofs.lemmas.Iterator.{YieldsList-from_slice}
use Rattle.std.proofs.lemmas.Iterator.Search.{all_from_yields_List}
use Rattle.expressions.proofs.Eaches.{each_is_all_of}
use Rattle.expressions.proofs.damage.heads_sound.Goals as goal

pub returns-clause-value : goal.returns-clause-value
returns-clause-value c =
    let test = λ (head : ℕ). ltb head c.args.count in
    all_from_yields_List test _ _ c.all.result c.all.ensures.ran (YieldsList-from_slice c.args.heads.now cc) (λ x b q k. search (rules, tests)) ∙ sym (each_is_all_of test 0 c.args.heads.now)
