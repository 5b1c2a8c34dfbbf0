-- Each turn scales the first of the formats that are left, and passes it to the later ones. Assumes nothing.
use Rattle.std.proofs.Common.{ap, refl}
use Rattle.std.proofs.lemmas.List.{nil_from_length}
use Rattle.std.proofs.lemmas.Result.{err_from_is_err_and}
use Rattle.elimination.specs.Moves.{sweep}
use Rattle.engine.proofs.Moved.{begun, ended, format-on, formats-on, first_format, later_formats, stopped-on, went-on}
use Rattle.engine.proofs.tracer.Tracer.sweep.Goals as goal

pub loop-v-init : goal.loop-v-init
loop-v-init c = (c.requires, begun (sweep c.args.formats.now) c.args.self.now)

pub scale-requires : goal.scale-requires
scale-requires c =
    let (all, sofar) = c.loop-v.invariant in
    format-on sofar.kept _ (first_format c.in-Some.ensures.cases.0 all)

pub returns-in_err-scale : goal.returns-in_err-scale
returns-in_err-scale c =
    let p = err_from_is_err_and c.from_residual.result c.from_residual.ensures.1 in
    rw (p.1, p.2) (stopped-on c.loop-v.invariant.1 _ _ (ap sweep c.in-Some.ensures.cases.0) c.in_err-scale.ensures)

pub pass_all-requires : goal.pass_all-requires
pass_all-requires c =
    let (all, sofar) = c.loop-v.invariant in
    let first = c.in-Some.ensures.cases.0 in
    let scaled = went-on sofar _ _ (ap sweep first) c.in_ok-scale.ensures in
    record { from = format-on scaled.kept _ (first_format first all); to = formats-on scaled.kept _ (later_formats first all) }

pub returns-in_err-pass_all : goal.returns-in_err-pass_all
returns-in_err-pass_all c =
    let p = err_from_is_err_and c.from_residual-in_err-pass_all.result c.from_residual-in_err-pass_all.ensures.1 in
    let scaled = went-on c.loop-v.invariant.1 _ _ (ap sweep c.in-Some.ensures.cases.0) c.in_ok-scale.ensures in
    rw (p.1, p.2) (stopped-on scaled _ _ refl c.in_err-pass_all.ensures)

pub loop-v-preserved : goal.loop-v-preserved
loop-v-preserved c =
    let (all, sofar) = c.loop-v.invariant in
    let first = c.in-Some.ensures.cases.0 in
    let scaled = went-on sofar _ _ (ap sweep first) c.in_ok-scale.ensures in
    (later_formats first all, went-on scaled _ _ refl c.in_ok-pass_all.ensures)

pub returns : goal.returns
returns c = ended c.loop-v.invariant.1 (ap sweep (nil_from_length c.loop-v.rest.now c.in_default.ensures.cases))
