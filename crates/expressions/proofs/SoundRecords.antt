-- The tests of records and heads pass where these are what they have to be, and nowhere else. Assumes nothing.
use Rattle.std.proofs.Common.{ℕ, List, Decides, arith}
use Rattle.std.proofs.lemmas.Bool.Decides.{nat_tests, Decides-ltb}
use Rattle.expressions.specs.declared.Record.{Record}
use Rattle.expressions.specs.declared.Step.{Step}
use Rattle.expressions.specs.Layout.{blank, record_sound, records_sound, heads_sound, SoundRecord, SoundRecords, SoundHeads}
use Rattle.expressions.proofs.Eaches.{each-decides}

-- of one record
record_decides : (steps : List Step) (i : ℕ) (r : Record) → Decides (record_sound steps i r) (SoundRecord steps i r)
record_decides steps i r = (
  λ e. record {
    first = grind (arith, nat_tests);
    later = grind (arith, nat_tests);
    step = grind (arith, nat_tests);
    pair = grind (arith, nat_tests);
    repeat = grind (arith, nat_tests);
    next = grind (arith, nat_tests);
  },
  λ s. grind (arith, nat_tests),
)

-- of all records
pub records_decide : (steps : List Step) (records : List Record) → Decides (records_sound steps records) (SoundRecords steps records)
records_decide steps records = each-decides (record_sound steps) (SoundRecord steps) (record_decides steps) records blank

-- of all heads
pub heads_decide : (count : ℕ) (heads : List ℕ) → Decides (heads_sound count heads) (SoundHeads count heads)
heads_decide count heads = each-decides _ _ (λ i head. Decides-ltb head count) heads 0
