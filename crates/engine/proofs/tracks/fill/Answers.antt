-- Each turn writes one place more. Assumes nothing.
use Rattle.std.proofs.Common.{◌≡◌, length, set, refl, ap, ◌∙◌, arith}
use Rattle.engine.specs.Tracking.{filled}
use Rattle.engine.proofs.Filled.{filled_more, filled_all}
use Rattle.engine.proofs.tracks.fill.Goals as goal

pub loop-t-init : goal.loop-t-init
loop-t-init g c h is = refl

pub loop-t-preserved : goal.loop-t-preserved
loop-t-preserved g c h is =
    let t = c.loop-t.t in
    let value = is t _ c.loop-t-test.true c.f.ensures in
    (λ i. set (c.loop-t.invariant h is i) t (value i)) ∙ filled_more h t c.args.places.now (omega arith)

pub returns : goal.returns
returns g c h is =
    let all : c.loop-t.t ≡ length c.args.places.now = omega arith in
    c.loop-t.invariant h is ∙ ap (λ k. filled h k c.args.places.now) all ∙ filled_all h c.args.places.now
