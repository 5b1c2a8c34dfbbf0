-- The first pair of a step in force and a weight that is no member stands at the lowest such number. Assumes nothing.
use Rattle.std.specs.List.{zip, position_or_len}
use Rattle.std.proofs.Common.{◌≡◌, ℕ, suc, ◌+◌, ◌≤◌, Bool, true, false, cond, not, ◌&&◌, ltb, List, [], ◌∷◌, length, get_or, Some, None, refl, ap, ◌∙◌, rules, arith}
use Rattle.std.proofs.lemmas.Iterator.{YieldsList-from_slice, YieldsList-from_zip}
use Rattle.std.proofs.lemmas.Iterator.Search.{position_from_yields_List}
use Rattle.expressions.specs.declared.Step.{Step}
use Rattle.expressions.specs.Layout.{in_force}
use Rattle.planning.specs.Components.{lowest}
use Rattle.engine.proofs.checks.first_unweighed.Goals as goal

turned : (b : Bool) (n : ℕ) → cond (not b) (1 + n) 0 ≡ cond b 0 (suc n)
turned true n = refl
turned false n = omega arith

module _ {V : Type 0} (member : V → Bool) (none : V) where
  abbrev test : Step × V → Bool
  test p = p.0.in_force && not (member p.1)

  paired : (steps : List Step) (weights : List V) → length steps ≤ length weights → length (zip steps weights) ≡ length steps
  paired [] weights h = refl
  paired (s ∷ steps) [] h = absurd (omega arith)
  paired (s ∷ steps) (w ∷ weights) h = ap suc (paired steps weights (omega arith))

  first : (steps : List Step) (weights : List V) → length steps ≤ length weights →
      position_or_len test (zip steps weights) ≡ lowest (length steps) (λ j. in_force steps j && not (member (get_or weights j none)))
  first [] weights h = refl
  first (s ∷ steps) [] h = absurd (omega arith)
  first (s ∷ steps) (w ∷ weights) h =
      turned (s.in_force && not (member w)) (position_or_len test (zip steps weights))
      ∙ ap (λ n. cond (s.in_force && not (member w)) 0 (suc n)) (first steps weights (omega arith))

pub returns : goal.returns
returns g c =
    let m = g.A.Algebra.meaning c.args.algebra.now in
    let steps = c.args.added.now in
    let weights = c.args.weights.now in
    let at = first m.member m.on.zero steps weights c.requires in
    let long = paired m.member m.on.zero steps weights c.requires in
    position_from_yields_List (test m.member m.on.zero) c.position.new.self _ c.position.result c.position.ensures.ran (YieldsList-from_zip {s = c.zip.result} (YieldsList-from_slice steps cc) (YieldsList-from_slice weights cc)) (λ x b q k. search rules)
    ∙ (λ i. cond (ltb (at i) (long i)) (Some (at i)) None)
