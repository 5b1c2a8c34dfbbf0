-- The algebra of the marks that may arrive. Assumes nothing.
use Rattle.std.specs.Prelude.{ℕ, Bool, true, not, ◌&&◌, ◌==◌, bit_and, bit_or, nat_le, Option, Some, None}
use Rattle.kleene.specs.Algebras.{Meaning}
use Rattle.bits.specs.Bits.{has, set_of}
use Rattle.algebras.specs.declared.marks.Marking.{Marking}

-- all 64 marks
abbrev pub all : ℕ
all = 18446744073709551615

-- every mark that is not in x
unfoldable pub others : ℕ → ℕ
others x = set_of 64 (λ i. not (has x i))

-- None is zero. A marking is a pair of sets of marks that share none: those that it sets, and those that it passes on.
abbrev pub member_of : Option Marking → Bool
member_of None = true
member_of (Some m) = nat_le m.sets all && (nat_le m.passes all && bit_and m.sets m.passes == 0)

-- sets nothing, and passes every mark
abbrev pub untouched : Marking
untouched = record { sets = 0; passes = all }

-- Zero is neutral. A sum sets what either sets, and passes what either passes, less what it sets.
abbrev pub sum_of : Option Marking → Option Marking → Option Marking
sum_of None b = b
sum_of (Some m) None = Some m
sum_of (Some m) (Some n) =
    Some (record { sets = bit_or m.sets n.sets; passes = bit_and (bit_or m.passes n.passes) (others (bit_or m.sets n.sets)) })

-- With zero it is zero. A product sets what the second sets, and what the first sets and the second passes; it passes
-- what both pass.
abbrev pub product_of : Option Marking → Option Marking → Option Marking
product_of None b = None
product_of (Some m) None = None
product_of (Some m) (Some n) =
    Some (record { sets = bit_or n.sets (bit_and m.sets n.passes); passes = bit_and m.passes n.passes })

-- The star of zero is one. A marking's star sets what the marking sets, and passes every other mark.
abbrev pub star_of : Option Marking → Option Marking
star_of None = Some untouched
star_of (Some m) = Some (record { sets = m.sets; passes = others m.sets })

abbrev pub marks_meaning : Meaning (Option Marking)
marks_meaning = record {
  member = member_of;
  on = record {
    zero = None;
    one = Some untouched;
    sum = sum_of;
    product = product_of;
    star = star_of;
  };
}
