-- How the values of records come one after the other, and what each is read from. Assumes nothing.
use Rattle.std.proofs.Common.{◌≡◌, ℕ, ◌+◌, ◌<◌, ◌≤◌, true, List, [], ◌∷◌, ◌++◌, length, get_or, take, drop, set, sym, ap, ◌∙◌, append_assoc, arith}
use Rattle.std.proofs.lemmas.List.{get_or_append_left, length-take-le, set_at, drop_more, take_all}
use Rattle.std.proofs.lemmas.List.Sums.{fold_more}
use Rattle.std.proofs.lemmas.Bool.Decides.{nat_tests}
use Rattle.kleene.specs.Algebras.{Operations}
use Rattle.expressions.specs.declared.Record.{Record}
use Rattle.expressions.specs.Layout.{each, well_formed}
use Rattle.expressions.specs.Meanings.{value_of, values, Readable, names_below}
use Rattle.expressions.proofs.Eaches.{each_at}
use Rattle.expressions.proofs.Growth.{length-values, parts_tell}

-- a record that keeps the layout, and whose step has a weight, can be read from the records before it
pub readable : (weights memo i : ℕ) (r : Record) → well_formed i r ≡ true → names_below weights i r ≡ true → i ≤ memo → Readable weights memo r
readable weights memo i r formed named room = record {
  weighed = grind (arith, nat_tests);
  left = grind (arith, nat_tests);
  right = grind (arith, nat_tests);
}

module _ {S : Type 0} (o : Operations S) (step : ℕ → S) where
  -- a record that keeps the layout is read from lower values only
  pub value_of-lower : (lower rest : List S) (r : Record) → well_formed (length lower) r ≡ true → value_of o step (lower ++ rest) r ≡ value_of o step lower r
  value_of-lower lower rest r formed = parts_tell o step (length lower) r (lower ++ rest) lower formed (get_or_append_left lower rest o.zero)

  -- the value of one more record
  pub values-more :
      (records : List Record) (i : ℕ) (d : Record) → i < length records →
      values o step (take (i + 1) records) ≡ values o step (take i records) ++ value_of o step (values o step (take i records)) (get_or records i d) ∷ []
  values-more records i d h = fold_more _ [] records i d h

  -- a memo holds the values of the first i records, and then what it held before
  abbrev pub Written : List Record → List S → List S → ℕ → Type 0
  Written records before memo i = memo ≡ values o step (take i records) ++ drop i before

  -- the value of record i, read from such a memo and written into it, is one more
  pub written-more :
      (records : List Record) (before memo : List S) (i : ℕ) (d : Record) (v : S) → each well_formed 0 records ≡ true → i < length records → i < length before →
      v ≡ value_of o step memo (get_or records i d) → Written records before memo i → Written records before (set memo i v) (i + 1)
  written-more records before memo i d v formed h room is e =
      let r = get_or records i d in
      let lower = values o step (take i records) in
      let long = length-values o step (take i records) ∙ length-take-le i records (omega arith) in
      let fits : well_formed (length lower) r ≡ true = rw long (each_at well_formed records i d h formed) in
      let same = is ∙ ap (λ m. value_of o step m r) e ∙ value_of-lower lower (drop i before) r fits in
      ap (λ m. set m i v) (e ∙ ap (λ rest. lower ++ rest) (drop_more before i v room))
      ∙ set_at lower _ (drop (i + 1) before) v i long
      ∙ sym (append_assoc lower (v ∷ []) _)
      ∙ ap (λ x. (lower ++ x ∷ []) ++ drop (i + 1) before) same
      ∙ ap (λ front. front ++ drop (i + 1) before) (sym (values-more records i d h))

  -- at the end it holds the values of all
  pub written_all :
      (records : List Record) (before memo : List S) (i : ℕ) → i ≡ length records → Written records before memo i →
      memo ≡ values o step records ++ drop (length records) before
  written_all records before memo i end e =
      e
      ∙ ap (λ k. values o step (take k records) ++ drop k before) end
      ∙ ap (λ all. values o step all ++ drop (length records) before) (take_all _ records (omega arith))
