-- What is named is the lowest step whose weight is no member. Assumes nothing.
use Rattle.std.proofs.Common.{◌≡◌, ℕ, Bool, true, false, cond, not, ◌&&◌, ltb, length, Some, None, Option, refl, ap, ◌∙◌}
use Rattle.refusals.specs.Refused.{Outcome, done, refused}
use Rattle.expressions.specs.Layout.{in_force}
use Rattle.planning.specs.Components.{lowest}
use Rattle.engine.specs.Querying.{member_in}
use Rattle.engine.proofs.checks.weighed.Goals as goal

abbrev named : Option ℕ → Outcome (Unit {0})
named (Some j) = refused 8 (Some j)
named None = done tt

named-where : (b : Bool) (j : ℕ) → named (cond b (Some j) None) ≡ cond b (refused 8 (Some j)) (done tt)
named-where true j = refl
named-where false j = refl

pub returns-in-Some : goal.returns-in-Some
returns-in-Some g c =
    let added = c.args.added.now in
    let member = member_in (g.A.Algebra.meaning c.args.algebra.now) c.args.weights.now in
    let first = lowest (length added) (λ j. in_force added j && not (member j)) in
    ap named c.in-Some.ensures ∙ named-where (ltb first (length added)) first

pub returns-in-None : goal.returns-in-None
returns-in-None g c =
    let added = c.args.added.now in
    let member = member_in (g.A.Algebra.meaning c.args.algebra.now) c.args.weights.now in
    let first = lowest (length added) (λ j. in_force added j && not (member j)) in
    ap named c.in-None.ensures ∙ named-where (ltb first (length added)) first
