use Rattle.std.proofs.Common.{Bool, ◌&&◌, ltb, sym, ◌∙◌, rules, tests}
use Rattle.std.proofs.lemmas.Iterator.{YieldsList-from_slice}
use Rattle.std.proofs.lemmas.Iterator.Search.{all_from_yields_List}
use Rattle.expressions.specs.declared.Step.{Step}
use Rattle.expressions.proofs.Eaches.{each_is_all_of}
use Rattle.network.proofs.seal.steps_sound.Goals as goal

pub returns : goal.returns
returns c =
    let test : Step → Bool = λ step. ltb step.from c.args.formats && ltb step.to c.args.formats in
    all_from_yields_List test _ _ c.all.result c.all.ensures.ran (YieldsList-from_slice c.args.steps.now cc) (λ x b q k. search (rules, tests)) ∙ sym (each_is_all_of test 0 c.args.steps.now)
