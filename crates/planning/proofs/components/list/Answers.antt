use Rattle.std.proofs.Common.{◌≡◌, ◌<◌, get_or, sym, ap, ◌∙◌, subst, arith}
use lib.Bits.{bit_and, bit_or}
use Rattle.planning.specs.Bits.{goes, unentered}
use Rattle.planning.specs.Components.{lowest, through}
use Rattle.planning.specs.Drawn.{drawn}
use Rattle.planning.proofs.Picks.{Sofar, sofar_none, known_by, count-all, numbers_all, listing-all, more_formats, picked}
use Rattle.planning.proofs.components.list.Goals as goal
use Rattle.planning.proofs.components.list.Goals.{In-Some}

pub loop-v-init : goal.loop-v-init
loop-v-init c =
    let N = drawn c.args.formats c.args.steps.now in
    let size : c.close.new.self.size ≡ c.args.formats = c.close.ensures.size ∙ c.direct-reach.ensures.size in (
      known_by N c.direct-reach.result.sets c.close.new.self.sets c.converse-into.result.sets c.direct-reach.ensures.goes
          (λ u v. c.close.ensures.goes u v ∙ ap (λ n. through (goes c.direct-reach.result.sets) n u v) c.direct-reach.ensures.size)
          c.converse-into.ensures.goes
          (λ u v e. let low = (c.close.new.self.inside u v e).0 in omega arith),
      sofar_none N 32,
    )

-- what is left is that of the formats
found : (c : In-Some) →
    (c.in-Some.v < c.args.formats) × (c.in-Some.v ≡ lowest c.args.formats (unentered c.args.formats c.close.new.self.sets c.converse-into.result.sets c.loop-v.listed))
found c =
    subst (λ n. (c.in-Some.v < n) × (c.in-Some.v ≡ lowest n (unentered n c.close.new.self.sets c.converse-into.result.sets c.loop-v.listed)))
    (c.close.ensures.size ∙ c.direct-reach.ensures.size) (c.in-Some.ensures.0, c.in-Some.ensures.1)

-- where a component is left, there are fewer before it than formats
room : (c : In-Some) → c.loop-v.components.count < c.args.formats
room c =
    more_formats (drawn c.args.formats c.args.steps.now) c.close.new.self.sets c.converse-into.result.sets c.loop-v.invariant.0
    c.loop-v.components.count c.loop-v.listed c.loop-v.components.of c.loop-v.invariant.1 c.requires.joined c.in-Some.v (found c).0 (found c).1

pub push-requires : goal.push-requires
push-requires c = let left = room (goal.at.push-requires c).In-Some in omega arith

pub loop-v-smaller : goal.loop-v-smaller
loop-v-smaller c = let left = room (goal.at.loop-v-smaller c).In-Some in omega arith

pub loop-v-preserved : goal.loop-v-preserved
loop-v-preserved c =
    let N = drawn c.args.formats c.args.steps.now in
    let reach = c.close.new.self.sets in
    let into = c.converse-into.result.sets in
    let left = found (goal.at.loop-v-preserved c).In-Some in (
      c.loop-v.invariant.0,
      subst (λ k. Sofar N k (bit_or c.loop-v.listed (bit_and (get_or reach c.in-Some.v 0) (get_or into c.in-Some.v 0))) c.push.new.self.of) (sym c.push.ensures.count)
          (picked N reach into c.loop-v.invariant.0 c.loop-v.components.count c.loop-v.listed c.loop-v.components.of c.loop-v.invariant.1 c.requires.joined c.in-Some.v left.0 left.1
          c.push.new.self.of c.push.ensures.of),
    )

pub returns : goal.returns
returns c =
    let N = drawn c.args.formats c.args.steps.now in
    let (known, sofar) = c.loop-v.invariant in
    let none : lowest c.args.formats (unentered c.args.formats c.close.new.self.sets c.converse-into.result.sets c.loop-v.listed) ≡ c.args.formats =
    subst (λ n. lowest n (unentered n c.close.new.self.sets c.converse-into.result.sets c.loop-v.listed) ≡ n) (c.close.ensures.size ∙ c.direct-reach.ensures.size) c.in_default.ensures in
    record {
      count = count-all N _ _ known _ _ _ sofar c.requires.joined none;
      of = numbers_all N _ _ known _ _ _ sofar c.requires.joined none;
      past = sofar.past;
      listing = listing-all N _ _ known _ _ _ sofar c.requires.joined none;
    }
