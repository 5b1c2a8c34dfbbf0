-- Each turn passes the last of the formats that are left to the others. Assumes nothing.
use Rattle.std.proofs.Common.{[], ap, ◌∙◌, subst}
use Rattle.std.proofs.lemmas.List.{nil_from_length}
use Rattle.std.proofs.lemmas.Result.{err_from_is_err_and}
use Rattle.elimination.specs.Moves.{sweep_back}
use Rattle.engine.specs.Rows.{Formats}
use Rattle.engine.proofs.Leaving.{sweep_back_push}
use Rattle.engine.proofs.Moved.{begun, ended, formats, format-on, formats-on, last_format, earlier_formats, stopped-on, went-on}
use Rattle.engine.proofs.tracer.Tracer.sweep_back.Goals as goal

pub loop-v-init : goal.loop-v-init
loop-v-init c = (c.requires, begun (sweep_back [] c.args.formats.now) c.args.self.now)

pub pass_all-requires : goal.pass_all-requires
pass_all-requires c =
    let (all, sofar) = c.loop-v.invariant in
    let n = formats c.args.self.now in
    let split = subst (Formats n) c.in-Some.ensures.cases.0 all in
    record { from = format-on sofar.kept _ (last_format n _ _ split); to = formats-on sofar.kept _ (earlier_formats n _ _ split) }

pub returns-in_err-pass_all : goal.returns-in_err-pass_all
returns-in_err-pass_all c =
    let p = err_from_is_err_and c.from_residual.result c.from_residual.ensures.1 in
    let split = ap (sweep_back []) c.in-Some.ensures.cases.0 ∙ sweep_back_push [] _ _ in
    rw (p.1, p.2) (stopped-on c.loop-v.invariant.1 _ _ split c.in_err-pass_all.ensures)

pub loop-v-preserved : goal.loop-v-preserved
loop-v-preserved c =
    let (all, sofar) = c.loop-v.invariant in
    let split = ap (sweep_back []) c.in-Some.ensures.cases.0 ∙ sweep_back_push [] _ _ in
    (earlier_formats (formats c.args.self.now) _ _ (subst (Formats (formats c.args.self.now)) c.in-Some.ensures.cases.0 all), went-on sofar _ _ split c.in_ok-pass_all.ensures)

pub returns : goal.returns
returns c = ended c.loop-v.invariant.1 (ap (sweep_back []) (nil_from_length c.loop-v.rest.now c.in_default.ensures.cases))
