-- The plan is worked out by the run of the acts of sealing, or the run stops where the store is full. Assumes nothing.
use Rattle.std.proofs.Common.{◌≡◌, ℕ, length, get_or, take, sym, refl, ap, ◌∙◌, subst, arith}
use Rattle.std.proofs.lemmas.Result.{err_from_is_err_and}
use Rattle.refusals.specs.Refused.{done}
use Rattle.elimination.specs.Networks.{Joined}
use Rattle.planning.specs.Components.{every, listed}
use Rattle.planning.specs.Drawn.{drawn}
use Rattle.planning.specs.Orders.{in_order}
use Rattle.planning.specs.Tables.{table_of}
use Rattle.planning.proofs.Entries.{empty-table, empty-table-fits}
use Rattle.planning.proofs.Lowest.{lowest-within}
use Rattle.network.specs.Plans.{planned}
use Rattle.network.specs.Seals.{worked}
use Rattle.network.proofs.Plannings.{ran_is, plan_is, plan-right, sound-joined, order-taken, order-length}
use Rattle.network.proofs.seal.plan_in.Goals as goal

pub list-components-requires : goal.list-components-requires
list-components-requires c = record { few = c.requires.few; joined = sound-joined c.args.formats c.args.steps.now c.requires.sound }

-- an empty table fits every store
pub invariant_of-table : goal.invariant_of-table
invariant_of-table c =
    let f = empty-table-fits c.empty.result c.empty.ensures c.args.store.now.count (omega (arith, c.args.store.now.begun)) in
    record { places = f.places; wide = λ u h. (f.each u h).places; in_use = λ u w h. (f.each u h).in_use w }

pub tabulate-requires : goal.tabulate-requires
tabulate-requires c =
    let n = c.args.formats in
    let steps = c.args.steps.now in
    let components = c.list-components.result in
    let component : ℕ → ℕ = λ v. get_or components.of v 0 in
    let counted = c.list-components.ensures.listing.counted in
    let order = c.order-order.ensures in
    let taken : take n c.order-order.result ≡ in_order n components.count component = ap (take n) order ∙ order-taken n components.count component counted in
    let long = ap (λ o. length (take n o)) order ∙ order-length n components.count component counted in
    record {
      few = omega arith;
      listed = taken ∙ ap (λ k. in_order k components.count component) (sym long);
      held = omega arith;
      joined = subst (λ k. Joined (drawn k steps)) (sym long) (sound-joined n steps c.requires.sound);
    }

-- what the type of a plan says
pub invariant_of-plan : goal.invariant_of-plan
invariant_of-plan c =
    let N = drawn c.args.formats c.args.steps.now in
    let counts = lowest-within c.args.formats (λ k. every N.formats (listed N k)) in
    record {
      few = c.requires.few;
      bounded = omega (arith, c.list-components.ensures.count);
      counted = c.list-components.ensures.listing.counted;
      listed = c.order-order.ensures;
      in_use = λ u w h l. c.tabulate.new.self.in_use u w (omega arith);
    }

pub returns-in_err-tabulate : goal.returns-in_err-tabulate
returns-in_err-tabulate c =
    let p = err_from_is_err_and c.from_residual.result c.from_residual.ensures.1 in
    let n = c.args.formats in
    let steps = c.args.steps.now in
    let l = c.list-components.ensures in
    let e = c.in_err-tabulate.ensures in
    let run = ran_is n steps c.list-components.result.count c.list-components.result.of c.order-order.result l.count l.of l.past l.listing c.order-order.ensures
    refl (empty-table c.empty.result c.empty.ensures) e.run in
    let store = c.in_err-tabulate.store-1-own.given.1 (sym e.kept.same) in
    rw store record {
      worked = rw (p.1, p.2) (ap (worked (drawn n steps) (planned c.args.plan.now)) run);
      planned = rw p.1 tt;
      counts = rw p.1 tt;
      lent = e.kept.store.lent;
    }

pub returns : goal.returns
returns c =
    let n = c.args.formats in
    let steps = c.args.steps.now in
    let l = c.list-components.ensures in
    let e = c.in_ok-tabulate.ensures in
    let run = ran_is n steps c.list-components.result.count c.list-components.result.of c.order-order.result l.count l.of l.past l.listing c.order-order.ensures
    refl (empty-table c.empty.result c.empty.ensures) e.run in
    let plan = plan_is n steps c.list-components.result.count c.list-components.result.of c.order-order.result l.count l.of l.past l.listing c.order-order.ensures
    c.tabulate.new.self.store.now.count (table_of c.tabulate.new.self.rows) in
    let store = c.store-2-1.given.1 (sym e.kept.same) in
    rw store record {
      worked =
          (λ i. record { answer = done (l.count i, c.tabulate.new.self.store.now.count); records = c.tabulate.new.self.store.now.records.now; heads = c.tabulate.new.self.store.now.heads.now; plan = plan i })
          ∙ ap (worked (drawn n steps) (planned c.args.plan.now)) run;
      planned = plan-right n steps c.list-components.result.count c.list-components.result.of c.order-order.result l.count l.of l.past l.listing c.order-order.ensures
          c.tabulate.new.self.store.now.count (table_of c.tabulate.new.self.rows);
      counts = (c.tabulate.new.self.store.now.begun, omega (arith, c.tabulate.new.self.store.now.room));
      lent = e.kept.store.lent;
    }
