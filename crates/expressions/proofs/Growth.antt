-- The value of a record comes from the values of its parts, and stays as records are added. Assumes nothing.
use Rattle.std.proofs.Common.{◌≡◌, ℕ, ◌+◌, ◌<◌, ◌≤◌, true, List, [], ◌∷◌, ◌++◌, length, get_or, take, drop, fold, sym, refl, ap, ◌∙◌, arith}
use Rattle.std.proofs.lemmas.List.{length_push, length-take, get_or_append_left, get_or_push, take-append-drop, take-take}
use Rattle.std.proofs.lemmas.List.Sums.{fold-append, fold_more}
use Rattle.std.proofs.lemmas.Bool.Decides.{nat_tests}
use Rattle.kleene.specs.Algebras.{Operations}
use Rattle.expressions.specs.declared.Record.{Record}
use Rattle.expressions.specs.Layout.{blank, well_formed}
use Rattle.expressions.specs.Contents.{Contents, Sound, Grown, used}
use Rattle.expressions.specs.Meanings.{value_of, values, meaning_of}

module _ {S : Type 0} (o : Operations S) (step : ℕ → S) where
  -- the values of some records, and then of one more
  abbrev pub more : List S → Record → List S
  more lower r = lower ++ value_of o step lower r ∷ []

  -- one value more for each record
  length_more : (lower : List S) (xs : List Record) → length (fold more lower xs) ≡ length lower + length xs
  length_more lower [] = omega arith
  length_more lower (x ∷ xs) = length_more (more lower x) xs ∙ simp length_push (omega arith)

  -- there are as many values as records
  pub length-values : (xs : List Record) → length (values o step xs) ≡ length xs
  length-values xs = omega (arith, length_more [] xs)

  -- values that are there stay
  more_keeps : (lower : List S) (xs : List Record) (k : ℕ) → k < length lower → get_or (fold more lower xs) k o.zero ≡ get_or lower k o.zero
  more_keeps lower [] k h = refl
  more_keeps lower (x ∷ xs) k h = more_keeps (more lower x) xs k (simp length_push (omega arith)) ∙ get_or_append_left lower _ o.zero k h

  -- so the values of the first n records are those that they have among all
  front_keeps : (xs : List Record) (n k : ℕ) → n ≤ length xs → k < n → get_or (values o step xs) k o.zero ≡ get_or (values o step (take n xs)) k o.zero
  front_keeps xs n k h l =
      ap (λ rs. get_or (values o step rs) k o.zero) (sym (take-append-drop n xs)) ∙
      ap (λ vs. get_or vs k o.zero) (fold-append more [] (take n xs) (drop n xs)) ∙
      more_keeps (values o step (take n xs)) (drop n xs) k (simp (length-values, length-take) (omega arith))

  -- the value of a record, from the values of those before it
  value_at : (xs : List Record) (i : ℕ) → i < length xs → get_or (values o step xs) i o.zero ≡ value_of o step (values o step (take i xs)) (get_or xs i blank)
  value_at xs i h =
      front_keeps xs (i + 1) i (omega arith) (omega arith) ∙
      ap (λ vs. get_or vs i o.zero) (fold_more more [] xs i blank h) ∙
      get_or_push (values o step (take i xs)) _ o.zero i (simp (length-values, length-take) (omega arith))

  -- record i looks at the values of its parts alone, which are lower
  pub parts_tell : (i : ℕ) (r : Record) (us vs : List S) → well_formed i r ≡ true →
      ((k : ℕ) → k < i → get_or us k o.zero ≡ get_or vs k o.zero) → value_of o step us r ≡ value_of o step vs r
  parts_tell i r us vs formed same =
      let left = same r.left in
      let right = same r.right in
      grind (arith, nat_tests)

  -- so its value comes from the values of all
  pub value_is : (xs : List Record) (i : ℕ) → i < length xs → well_formed i (get_or xs i blank) ≡ true →
      get_or (values o step xs) i o.zero ≡ value_of o step (values o step xs) (get_or xs i blank)
  value_is xs i h formed = value_at xs i h ∙ parts_tell i (get_or xs i blank) _ _ formed (λ k l. sym (front_keeps xs i k (omega arith) l))

  -- what an expression means does not change as the store grows
  pub meaning_stays : (c d : Contents) → Sound c → Grown c d → (x : ℕ) → x < c.count → meaning_of o step d x ≡ meaning_of o step c x
  meaning_stays c d sound grown x h =
      front_keeps (used d) c.count x (simp length-take (omega arith)) h ∙
      ap (λ rs. get_or (values o step rs) x o.zero) (take-take c.count d.count d.records grown.counts ∙ sym grown.lower)
