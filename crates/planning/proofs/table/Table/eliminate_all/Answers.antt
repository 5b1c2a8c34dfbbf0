-- Each turn eliminates the formats of the first of the components that are left. Assumes nothing.
use Rattle.std.proofs.Common.{◌≡◌, ℕ, ◌+◌, ◌<◌, List, ◌∷◌, ◌++◌, length, get_or, drop, sym, ap, ◌∙◌, subst, arith, rules}
use Rattle.std.proofs.lemmas.Result.{err_from_is_err_and}
use Rattle.elimination.specs.Moves.{Act, for_each, below, eliminate}
use Rattle.planning.specs.declared.components.Components.{Components}
use Rattle.planning.specs.Orders.{members_of}
use Rattle.planning.specs.Eliminating.{by_acts}
use Rattle.planning.specs.Tables.{Places}
use Rattle.planning.proofs.Loads.{length-below, below_at}
use Rattle.planning.proofs.Orders.{standing_first, standing_turn, members-places, order-places}
use Rattle.planning.proofs.Runs.{kept_on, left-first, left_none}
use Rattle.planning.proofs.table.Table.eliminate_all.Goals as goal

-- the component of each format
abbrev of : Components → ℕ → ℕ
of components v = get_or components.of v 0

-- the acts of some components
abbrev acts : List ℕ → Components → List ℕ → List Act
acts order components = for_each (λ c. eliminate (members_of (length order) (of components) c))

-- those of the first component that is left come before the others
acts_first : (order : List ℕ) (components : Components) (c : ℕ) (rest : List ℕ) → c < components.count →
    acts order components (get_or (below components.count) c 0 ∷ rest) ≡ eliminate (members_of (length order) (of components) c) ++ acts order components rest
acts_first order components c rest h = ap (λ k. acts order components (k ∷ rest)) (below_at components.count c h)

pub loop-c-init : goal.loop-c-init
loop-c-init c =
    let components = c.args.components.now in
    let order = c.args.order.now in
    (search rules, standing_first (length order) components.count (of components) order c.requires.listed)

pub group-formats-requires : goal.group-formats-requires
group-formats-requires c =
    let components = c.args.components.now in
    record {
      within = c.loop-c.invariant.1.0;
      places = subst Places (sym c.requires.listed) (order-places (length c.args.order.now) (of components) c.requires.few components.count);
    }

pub eliminate-requires : goal.eliminate-requires
eliminate-requires c =
    let components = c.args.components.now in
    let order = c.args.order.now in
    let turn = standing_turn (length order) components.count (of components) order c.loop-c.c c.loop-c.start _ c.loop-c-test.true c.loop-c.invariant.1 c.group-formats.ensures in
    subst Places (sym turn.0) (members-places (length order) (of components) c.requires.few c.loop-c.c)

pub returns-in_err-eliminate : goal.returns-in_err-eliminate
returns-in_err-eliminate c =
    let p = err_from_is_err_and c.from_residual.result c.from_residual.ensures.1 in
    let e = c.in_err-eliminate.ensures in
    let components = c.args.components.now in
    let order = c.args.order.now in
    let i = c.loop-c.c in
    let turn = standing_turn (length order) components.count (of components) order i c.loop-c.start _ c.loop-c-test.true c.loop-c.invariant.1 c.group-formats.ensures in
    let run = e.run ∙ ap (λ vs. by_acts c.loop-c.self (eliminate vs)) turn.0 in
    let first = acts_first order components i (drop (i + 1) (below components.count)) c.loop-c-test.true in
    record {
      run = rw (p.1, p.2) (left-first (eliminate (members_of (length order) (of components) i)) c.loop-c.invariant.0 (omega (arith, length-below components.count)) first run);
      kept = kept_on c.loop-c.invariant.0.kept e.kept;
    }

pub overflow_add-start : goal.overflow_add-start
overflow_add-start c =
    let components = c.args.components.now in
    let order = c.args.order.now in
    let turn = standing_turn (length order) components.count (of components) order c.loop-c.c c.loop-c.start _ c.loop-c-test.true c.loop-c.invariant.1 c.group-formats.ensures in
    omega (arith, turn.1.0)

pub loop-c-preserved : goal.loop-c-preserved
loop-c-preserved c =
    let e = c.in_ok-eliminate.ensures in
    let components = c.args.components.now in
    let order = c.args.order.now in
    let i = c.loop-c.c in
    let turn = standing_turn (length order) components.count (of components) order i c.loop-c.start _ c.loop-c-test.true c.loop-c.invariant.1 c.group-formats.ensures in
    let run = e.run ∙ ap (λ vs. by_acts c.loop-c.self (eliminate vs)) turn.0 in
    let first = acts_first order components i (drop (i + 1) (below components.count)) c.loop-c-test.true in (
      record {
        kept = kept_on c.loop-c.invariant.0.kept e.kept;
        run = left-first (eliminate (members_of (length order) (of components) i)) c.loop-c.invariant.0 (omega (arith, length-below components.count)) first run;
      },
      turn.1,
    )

pub returns : goal.returns
returns c = record { run = left_none c.loop-c.invariant.0 (omega (arith, length-below c.args.components.now.count)); kept = c.loop-c.invariant.0.kept }
