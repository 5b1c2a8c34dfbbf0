-- The kinds of expressions, as numbers. Assumes nothing.
use Rattle.std.specs.Prelude.{◌≡◌, ℕ, ◌<◌, Ok, Err, Result}
use Rattle.expressions.specs.declared.kind.Kind.{Kind}
use Rattle.expressions.specs.declared.kind.Kind.TheVariants.{Nothing, Stay, Step, Sum, Then, Repeat}
use Rattle.expressions.specs.declared.kind.NoKind.{NoKind}

-- the number of each kind
abbrev pub number_of : Kind → ℕ
number_of Nothing = 0
number_of Stay = 1
number_of Step = 2
number_of Sum = 3
number_of Then = 4
number_of Repeat = 5

-- a number is that of the kind that is found for it, and where none is found it is past the last, and is what is told
abbrev pub Numbered : ℕ → Result Kind NoKind → Type 0
Numbered number (Ok kind) = number ≡ number_of kind
Numbered number (Err told) = (told.0 ≡ number) × (5 < number)
