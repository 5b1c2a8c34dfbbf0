-- The two sweeps over the formats of the component are run, and then the steps that leave it are crossed. Assumes nothing.
use Rattle.std.proofs.Common.{◌≡◌, ℕ, ◌<◌, List, [], ◌++◌, sym, refl, ap, ◌∙◌, subst, append_assoc}
use Rattle.std.proofs.ByRecursion.{All-get_or}
use Rattle.std.proofs.lemmas.Result.{err_from_is_err_and}
use Rattle.std.proofs.lemmas.Bool.{cond-true, lt-ltb}
use Rattle.elimination.specs.Moves.{formats_of, sweep, sweep_back, leaving}
use Rattle.elimination.specs.Networks.{Network}
use Rattle.elimination.proofs.Schedules.{formats_fit}
use Rattle.expressions.specs.declared.Step.{Step}
use Rattle.network.specs.Plans.{Planned, planned, members_in}
use Rattle.planning.specs.Drawn.{drawn}
use Rattle.engine.specs.Rows.{Formats, through_component}
use Rattle.engine.proofs.Moved.{begun, formats-on, last-on, moves-on, stopped-on, went-on}
use Rattle.engine.proofs.tracer.Tracer.go_through.Goals as goal

-- a component c of a plan, whose formats were read as vs
module _ (p : Planned) (steps : List Step) (c : ℕ) (vs : List ℕ) (h : c < p.components) (read : vs ≡ members_in p c) where
  abbrev N : Network
  N = drawn p.formats steps

  -- they are its formats
  are : vs ≡ formats_of N p.component c
  are = read ∙ cond-true _ _ _ (lt-ltb _ _ h)

  formats_of_lem : Formats p.formats vs
  formats_of_lem = subst (Formats p.formats) (sym are) (λ k l. All-get_or (λ v. v < p.formats) (formats_of N p.component c) k 0 l (formats_fit N p.component c))

  -- the moves of the three calls
  split : through_component N p.component c ≡ sweep vs ++ (sweep_back [] vs ++ leaving N p.component c)
  split =
      sym (ap (λ fs. sweep fs ++ sweep_back [] fs ++ leaving N p.component c) are)
      ∙ append_assoc (sweep vs) (sweep_back [] vs) (leaving N p.component c)

pub sweep-requires : goal.sweep-requires
sweep-requires c = let t = c.args.self.now in formats_of_lem (planned t.plan.now) t.steps.now c.args.c _ c.requires c.members-formats.ensures

pub returns-in_err-sweep : goal.returns-in_err-sweep
returns-in_err-sweep c =
    let q = err_from_is_err_and c.from_residual.result c.from_residual.ensures.1 in
    let t = c.args.self.now in
    rw (q.1, q.2) (stopped-on (begun _ t) _ _ (split (planned t.plan.now) t.steps.now c.args.c _ c.requires c.members-formats.ensures) c.in_err-sweep.ensures)

pub sweep_back-requires : goal.sweep_back-requires
sweep_back-requires c =
    let t = c.args.self.now in
    formats-on c.in_ok-sweep.ensures.kept _ (formats_of_lem (planned t.plan.now) t.steps.now c.args.c _ c.requires c.members-formats.ensures)

pub returns-in_err-sweep_back : goal.returns-in_err-sweep_back
returns-in_err-sweep_back c =
    let q = err_from_is_err_and c.from_residual-in_err-sweep_back.result c.from_residual-in_err-sweep_back.ensures.1 in
    let t = c.args.self.now in
    let swept = went-on (begun _ t) _ _ (split (planned t.plan.now) t.steps.now c.args.c _ c.requires c.members-formats.ensures) c.in_ok-sweep.ensures in
    rw (q.1, q.2) (stopped-on swept _ _ refl c.in_err-sweep_back.ensures)

pub returns : goal.returns
returns c =
    let t = c.args.self.now in
    let swept = went-on (begun _ t) _ _ (split (planned t.plan.now) t.steps.now c.args.c _ c.requires c.members-formats.ensures) c.in_ok-sweep.ensures in
    let back = went-on swept _ _ refl c.in_ok-sweep_back.ensures in
    last-on back (moves-on (λ p steps. leaving (drawn p.formats steps) p.component c.args.c) back.kept c.leave.ensures)
