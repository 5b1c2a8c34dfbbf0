-- Each turn passes the formats of one component. Assumes nothing.
use Rattle.std.proofs.Common.{◌≡◌, ℕ, get_or, take, sym, ap, ◌∙◌, subst, arith}
use Rattle.std.proofs.lemmas.List.{length-take}
use Rattle.std.proofs.lemmas.Bool.{cond-true, lt-ltb}
use Rattle.planning.specs.Orders.{in_order}
use Rattle.planning.specs.Tables.{Places}
use Rattle.planning.proofs.Orders.{Standing, standing_first, standing_turn, order-places}
use Rattle.network.specs.declared.plan.Plan.{Plan}
use Rattle.network.proofs.Plannings.{order-taken}
use Rattle.network.proofs.plan.Plan.members.Goals as goal

-- the formats as a plan lists them
order_of_lem : (p : Plan) → take p.formats p.order ≡ in_order p.formats p.components (λ v. get_or p.component v 0)
order_of_lem p = ap (take p.formats) p.listed ∙ order-taken p.formats p.components _ p.counted

places_of : (p : Plan) → Places (take p.formats p.order)
places_of p = subst Places (sym (order_of_lem p)) (order-places p.formats _ p.few p.components)

pub loop-d-init : goal.loop-d-init
loop-d-init c = let p = c.args.self.now in standing_first p.formats p.components (λ v. get_or p.component v 0) (take p.formats p.order) (order_of_lem p)

pub group-requires : goal.group-requires
group-requires c = record { within = c.loop-d.invariant.0; places = places_of c.args.self.now }

pub overflow_add-start : goal.overflow_add-start
overflow_add-start c =
    let p = c.args.self.now in
    let turn = standing_turn p.formats p.components (λ v. get_or p.component v 0) (take p.formats p.order) c.loop-d.d c.loop-d.start _ (omega arith) c.loop-d.invariant c.group.ensures in
    let long = length-take p.formats p.order in
    omega (arith, turn.1.0, p.few)

pub loop-d-preserved : goal.loop-d-preserved
loop-d-preserved c =
    let p = c.args.self.now in
    (standing_turn p.formats p.components (λ v. get_or p.component v 0) (take p.formats p.order) c.loop-d.d c.loop-d.start _ (omega arith) c.loop-d.invariant c.group.ensures).1

pub group-requires-2 : goal.group-requires-2
group-requires-2 c = record { within = c.loop-d.invariant.0; places = places_of c.args.self.now }

pub returns : goal.returns
returns c =
    let p = c.args.self.now in
    let last : c.loop-d.d ≡ c.args.c = omega arith in
    let order = take p.formats p.order in
    let component : ℕ → ℕ = λ v. get_or p.component v 0 in
    let stands = subst (λ d. Standing p.formats p.components component order d c.loop-d.start) last c.loop-d.invariant in
    (standing_turn p.formats p.components component order c.args.c c.loop-d.start _ c.if-c-self.false stands c.group-2.ensures).0 ∙ sym (cond-true _ _ _ (lt-ltb _ _ c.if-c-self.false))
