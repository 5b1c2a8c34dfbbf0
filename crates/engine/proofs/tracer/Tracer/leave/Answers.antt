-- Each turn crosses the first of the steps that are left, if it leaves the component. Assumes nothing.
use Rattle.std.proofs.Common.{◌≡◌, ℕ, ◌+◌, ◌<◌, ◌≤◌, true, false, ◌&&◌, ltb, List, ◌∷◌, length, get_or, drop, sym, ◌∙◌, subst, arith}
use Rattle.std.proofs.lemmas.List.{at_drop_more, at_drop_all}
use Rattle.std.proofs.lemmas.Result.{err_from_is_err_and}
use Rattle.std.proofs.lemmas.Bool.{and_parts, ltb-true}
use Rattle.elimination.specs.Moves.{cross}
use Rattle.expressions.specs.declared.Step.{Step}
use Rattle.expressions.proofs.Eaches.{each_at}
use Rattle.network.specs.Plans.{planned}
use Rattle.planning.proofs.Loads.{no_step, numbers, length_numbers}
use Rattle.engine.specs.Rows.{leaves}
use Rattle.engine.proofs.Leaving.{leaving_of, leaving-first, leaving_past}
use Rattle.engine.proofs.Moved.{Sofar, begun, ended, formats, stopped-on, went-on}
use Rattle.engine.proofs.tracer.Tracer.leave.Goals as goal
use Rattle.engine.proofs.tracer.Tracer.leave.Goals.{then-leaves+in_ok-cross, else-leaves}

-- step j is crossed before those that are left after it
next-first : (n : ℕ) (steps : List Step) (component : ℕ → ℕ) (c j : ℕ) → j < length steps → leaves component c (get_or steps j no_step) ≡ true →
    leaving_of n steps component c (drop j (numbers steps)) ≡ cross j (get_or steps j no_step).from (get_or steps j no_step).to ∷ leaving_of n steps component c (drop (j + 1) (numbers steps))
next-first n steps component c j h e =
    at_drop_more (leaving_of n steps component c) (numbers steps) j 0 (omega (arith, length_numbers steps)) ∙ leaving-first n steps component c j h (drop (j + 1) (numbers steps)) e

-- or passed over
next_past : (n : ℕ) (steps : List Step) (component : ℕ → ℕ) (c j : ℕ) → j < length steps → leaves component c (get_or steps j no_step) ≡ false →
    leaving_of n steps component c (drop j (numbers steps)) ≡ leaving_of n steps component c (drop (j + 1) (numbers steps))
next_past n steps component c j h e =
    at_drop_more (leaving_of n steps component c) (numbers steps) j 0 (omega (arith, length_numbers steps)) ∙ leaving_past n steps component c j h (drop (j + 1) (numbers steps)) e

pub loop-j-init : goal.loop-j-init
loop-j-init c = begun _ c.args.self.now

pub cross-requires : goal.cross-requires
cross-requires c =
    let t = c.args.self.now in
    let n = formats t in
    let step = get_or t.steps.now c.loop-j.j no_step in
    let ends = and_parts (ltb step.from n) (ltb step.to n) (each_at (λ _ (s : Step). ltb s.from n && ltb s.to n) t.steps.now c.loop-j.j no_step c.loop-j-test.true t.joined) in
    let from : step.from < n = ltb-true _ _ ends.0 in
    let to : step.to < n = ltb-true _ _ ends.1 in
    let few : n ≤ 32 = t.plan.now.few in
    record { from = omega arith; to = omega arith }

pub returns-in_err-cross : goal.returns-in_err-cross
returns-in_err-cross c =
    let q = err_from_is_err_and c.from_residual.result c.from_residual.ensures.1 in
    let t = c.args.self.now in
    let p = planned t.plan.now in
    let split = next-first p.formats t.steps.now p.component c.args.c c.loop-j.j c.loop-j-test.true (sym c.leaves.ensures ∙ c.if-leaves.true) in
    rw (q.1, q.2) (stopped-on c.loop-j.invariant _ _ split c.in_err-cross.ensures)

pub loop-j-preserved : goal.loop-j-preserved
loop-j-preserved c =
    let t = c.args.self.now in
    let p = planned t.plan.now in
    let steps = t.steps.now in
    let j = c.loop-j.j in
    let all = leaving_of p.formats steps p.component c.args.c (numbers steps) in
    let left = leaving_of p.formats steps p.component c.args.c (drop (j + 1) (numbers steps)) in
    elim c.if-leaves.branch [
      | then-leaves+in_ok-cross w ↦
          let split = next-first p.formats steps p.component c.args.c j c.loop-j-test.true (sym c.leaves.ensures ∙ w.if-leaves.true) in
          subst (Sofar left all t) (sym w.self-is) (went-on c.loop-j.invariant _ left split w.in_ok-cross.ensures)
      | else-leaves w ↦
          let past = next_past p.formats steps p.component c.args.c j c.loop-j-test.true (sym c.leaves.ensures ∙ w.if-leaves.false) in
          subst (Sofar left all t) (sym w.self-is) (subst (λ ms. Sofar ms all t c.loop-j.self) past c.loop-j.invariant)
    ]

pub returns : goal.returns
returns c =
    let t = c.args.self.now in
    let p = planned t.plan.now in
    let steps = t.steps.now in
    ended c.loop-j.invariant (at_drop_all (leaving_of p.formats steps p.component c.args.c) (numbers steps) c.loop-j.j (omega (arith, length_numbers steps)))
