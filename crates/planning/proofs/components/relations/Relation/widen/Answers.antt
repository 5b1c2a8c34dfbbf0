use Rattle.std.proofs.Common.{◌≡◌, ℕ, ◌+◌, ◌-◌, ◌≤◌, ◌<◌, cond, ◌&&◌, ◌||◌, ◌++◌, List, length, take, drop, ltb, get_or, ap, ◌∙◌, ⊎_elim, arith}
use lib.Bits.{bit_or}
use Rattle.std.proofs.lemmas.List.{get_or-take, get_or_append_left, get_or-append_right, get_or-drop, length-take, length-set}
use Rattle.std.proofs.lemmas.Bool.{cases_eq, cases_lt}
use Rattle.std.proofs.lemmas.Bool.Decides.{nat_tests}
use Rattle.bits.specs.BitsLemmas.{has-or}
use Rattle.planning.specs.declared.components.relations.Relation.{Relation}
use Rattle.planning.specs.Bits.{has, goes}
use Rattle.planning.proofs.Relations.{goes_set}
use Rattle.planning.proofs.components.relations.Relation.widen.Goals as goal
use Rattle.planning.proofs.components.relations.Relation.widen.Goals.{then-has, else-has}

-- the first sets, and those after them
goes_part : (n : ℕ) (xs ys : List ℕ) (u v : ℕ) → length xs ≡ n → n ≤ length ys → goes (xs ++ drop n ys) u v ≡ cond (ltb u n) (goes xs u v) (goes ys u v)
goes_part n xs ys u v long room =
    ⊎_elim
    (λ less. let e = get_or_append_left xs (drop n ys) 0 u (omega arith) in let g = ap (λ x. has x v) e in grind (arith, nat_tests))
    (λ more.
    let split : n + (u - n) ≡ u = omega arith in
    let e = get_or-append_right xs (drop n ys) n u 0 long more ∙ get_or-drop n ys (u - n) 0 ∙ ap (λ i. get_or ys i 0) split in
    let g = ap (λ x. has x v) e in
    grind (arith, nat_tests))
    (cases_lt u n)

-- with all of the first sets done, every number is
widened : (r : Relation) (k i : ℕ) (items : List ℕ) → r.size ≤ length r.sets → length items ≡ length (take r.size r.sets) → length (take r.size r.sets) ≤ i →
    ((u v : ℕ) → goes items u v ≡ (goes (take r.size r.sets) u v || (ltb u i && (goes (take r.size r.sets) u k && goes r.sets k v)))) →
    (u v : ℕ) → goes (items ++ drop r.size r.sets) u v ≡ (goes r.sets u v || (goes r.sets u k && goes r.sets k v))
widened r k i items room same end done u v =
    let n = r.size in
    let long = length-take n r.sets in
    let part = goes_part n items r.sets u v (omega (arith, room, same, long)) room in
    let here = done u v in
    let inside = r.inside u k in
    ⊎_elim
    (λ less. let e = get_or-take n r.sets u 0 less in let g = ap (λ x. has x v) e in let h = ap (λ x. has x k) e in let all : u < i = omega (arith, room, long) in grind (arith, nat_tests))
    (λ more. grind (arith, nat_tests))
    (cases_lt u n)

pub invariant_of-self : goal.invariant_of-self
invariant_of-self c =
    let sets = c.args.self.now in
    let k = c.args.k in
    let done = c.loop-set.invariant in
    record {
      few = omega arith;
      inside = λ u v e.
          let now = widened sets k c.loop-set.set-index c.loop-set.set-items (omega arith) done.0 c.loop-set-test.false done.1 u v in
          let old = sets.inside u v in
          let before = sets.inside u k in
          let after = sets.inside k v in
          (grind arith, grind arith);
    }

pub returns-clause-goes : goal.returns-clause-goes
returns-clause-goes c =
    widened c.args.self.now c.args.k c.loop-set.set-index c.loop-set.set-items (omega arith) c.loop-set.invariant.0 c.loop-set-test.false c.loop-set.invariant.1

pub loop-set-preserved : goal.loop-set-preserved
loop-set-preserved c =
    let items = c.loop-set.set-items in
    let u = c.loop-set.set-index in
    let k = c.args.k in
    let onward = get_or c.args.self.now.sets k 0 in
    let long = c.loop-set.invariant.0 in
    elim c.if-has.branch [
      | then-has way ↦ (
        ap length way.set-items-is ∙ length-set items u (bit_or (get_or items u 0) onward) ∙ long,
        λ w v.
            let old = c.loop-set.invariant.1 w v in
            let here = c.loop-set.invariant.1 u k in
            let now = ap (λ xs. goes xs w v) way.set-items-is in
            let bit = way.if-has.ensures in
            let row = goes_set items u (bit_or (get_or items u 0) onward) w v (omega (arith, long)) in
            let or = has-or (get_or items u 0) onward v in
            let which = cases_eq w u in
            grind (arith, nat_tests),
      )
      | else-has way ↦ (
        ap length way.set-items-is ∙ length-set items u (get_or items u 0) ∙ long,
        λ w v.
            let old = c.loop-set.invariant.1 w v in
            let here = c.loop-set.invariant.1 u k in
            let now = ap (λ xs. goes xs w v) way.set-items-is in
            let bit = way.if-has.ensures in
            let row = goes_set items u (get_or items u 0) w v (omega (arith, long)) in
            let which = cases_eq w u in
            grind (arith, nat_tests),
      )
    ]
