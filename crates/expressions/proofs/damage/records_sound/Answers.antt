use Rattle.std.proofs.Common.{◌≡◌, sym, ◌∙◌, rules, tests}
use Rattle.std.proofs.lemmas.Bool.Decides.{Decides-at}
use Rattle.std.proofs.lemmas.Iterator.{YieldsList-from_slice}
use Rattle.std.proofs.lemmas.Iterator.Consumers.{YieldsList-from_enumerate}
use Rattle.std.proofs.lemmas.Iterator.Search.{all_from_yields_List}
use Rattle.expressions.specs.Layout.{record_sound, records_sound}
use Rattle.expressions.proofs.Eaches.{each_is_all}
use Rattle.expressions.proofs.SoundRecords.{records_decide}
use Rattle.expressions.proofs.damage.records_sound.Goals as goal

pub returns : goal.returns
returns c =
    let steps = c.args.steps.now in
    let records = c.args.records.now in
    let entries = YieldsList-from_enumerate (YieldsList-from_slice records cc) cc in
    let value : c.all.result ≡ records_sound steps records =
    all_from_yields_List (λ entry. record_sound steps entry.0 entry.1) _ _ c.all.result c.all.ensures.ran entries (λ x b q k. search (rules, tests)) ∙ sym (each_is_all (record_sound steps) 0 records) in
    record { value = value; exact = Decides-at _ _ value (records_decide steps records) }
