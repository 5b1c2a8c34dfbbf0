use Rattle.std.proofs.Common.{◌≡◌, fold, rules, sym, ap, ◌∙◌, subst}
use Rattle.std.proofs.lemmas.Iterator.{YieldsList-from_slice}
use Rattle.std.proofs.lemmas.Iterator.Consumers.{fold_from_yields_List}
use Rattle.kleene.specs.Algebras.{everywhere}
use Rattle.kleene.specs.Chains.{comes_to, Joins}
use Rattle.kleene.proofs.Chains.{joins}
use Rattle.kleene.proofs.chain.Goals as goal

pub returns-clause-joins : goal.returns-clause-joins
returns-clause-joins g c =
    let m = g.A.Algebra.meaning c.args.algebra.now in
    let o = everywhere m in
    let whole : c.fold.result ≡ comes_to o c.args.weights.now =
    fold_from_yields_List _ o.product c.one.result c.fold.result c.fold.ensures.ran (YieldsList-from_slice c.args.weights.now cc) (λ a x b q k. search rules)
    ∙ ap (λ z. fold o.product z c.args.weights.now) c.one.ensures in
    subst (Joins o _) (sym whole) (joins m (g.met.A.Algebra.kleene c.args.algebra.now) _)
