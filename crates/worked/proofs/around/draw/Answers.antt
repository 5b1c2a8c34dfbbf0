-- The calls were taken, or one of them was refused. Assumes nothing.
use Rattle.std.proofs.lemmas.Result.{err_from_is_err_and}
use Rattle.worked.specs.Drawing.{adding, retiring}
use Rattle.worked.proofs.Drawings.{on_open, on-add, on-retire, on_none, then_open, then_add, then_retire}
use Rattle.worked.proofs.around.draw.Goals as goal

pub returns-in_err-add-2 : goal.returns-in_err-add-2
returns-in_err-add-2 c =
    let p = err_from_is_err_and c.from_residual-in_err-add-2.result c.from_residual-in_err-add-2.ensures.1 in
    let e = on-add 0 1 (on_open 3 c.args.steps.now c.in_ok-draft.ensures) c.in_ok-add.ensures in
    let last = on-add 1 2 e c.in_err-add-2.ensures in
    record { value = rw (p.1, p.2) (on_none (retiring 3) (on_none (adding 0 2) (on_none (adding 2 1) last))); history = rw p.1 tt }

pub returns-in_err-add-3 : goal.returns-in_err-add-3
returns-in_err-add-3 c =
    let p = err_from_is_err_and c.from_residual-in_err-add-3.result c.from_residual-in_err-add-3.ensures.1 in
    let e = on-add 0 1 (on_open 3 c.args.steps.now c.in_ok-draft.ensures) c.in_ok-add.ensures in
    let last = on-add 2 1 (on-add 1 2 e c.in_ok-add-2.ensures) c.in_err-add-3.ensures in
    record { value = rw (p.1, p.2) (on_none (retiring 3) (on_none (adding 0 2) last)); history = rw p.1 tt }

pub returns-in_err-add-4 : goal.returns-in_err-add-4
returns-in_err-add-4 c =
    let p = err_from_is_err_and c.from_residual-in_err-add-4.result c.from_residual-in_err-add-4.ensures.1 in
    let e = on-add 0 1 (on_open 3 c.args.steps.now c.in_ok-draft.ensures) c.in_ok-add.ensures in
    let f = on-add 2 1 (on-add 1 2 e c.in_ok-add-2.ensures) c.in_ok-add-3.ensures in
    record { value = rw (p.1, p.2) (on_none (retiring 3) (on-add 0 2 f c.in_err-add-4.ensures)); history = rw p.1 tt }

pub returns-in_err-retire : goal.returns-in_err-retire
returns-in_err-retire c =
    let p = err_from_is_err_and c.from_residual-in_err-retire.result c.from_residual-in_err-retire.ensures.1 in
    let e = on-add 0 1 (on_open 3 c.args.steps.now c.in_ok-draft.ensures) c.in_ok-add.ensures in
    let f = on-add 2 1 (on-add 1 2 e c.in_ok-add-2.ensures) c.in_ok-add-3.ensures in
    record { value = rw (p.1, p.2) (on-retire 3 (on-add 0 2 f c.in_ok-add-4.ensures) c.in_err-retire.ensures); history = rw p.1 tt }

pub returns : goal.returns
returns c =
    let opened = c.in_ok-draft.ensures in
    let a = c.in_ok-add.ensures in
    let b = c.in_ok-add-2.ensures in
    let d = c.in_ok-add-3.ensures in
    let e = c.in_ok-add-4.ensures in
    let retired = c.in_ok-retire.ensures in
    let steps = c.args.steps.now in
    record {
      value = on-retire 3 (on-add 0 2 (on-add 2 1 (on-add 1 2 (on-add 0 1 (on_open 3 steps opened) a) b) d) e) retired;
      history = then_retire 3 (then_add 0 2 (then_add 2 1 (then_add 1 2 (then_add 0 1 (then_open 3 steps opened) a) b) d) e) retired;
    }
