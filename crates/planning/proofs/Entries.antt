-- One entry of a row is written, or one row of a table: the function that it stands for is changed at that place, and the
-- row or the table still fits the store. Assumes nothing.
use Rattle.std.proofs.Common.{◌≡◌, ℕ, ◌<◌, ◌≤◌, Bool, true, false, cond, eqb, List, length, get_or, set, replicate, sym, refl, ap, ◌∙◌, subst, inl, inr, arith}
use mathlib.Core.Path.{fun_ext}
use Rattle.std.proofs.lemmas.List.{get_or-set_same, get_or-set_other, get_or-replicate, get_or_past, length-replicate, length-set}
use Rattle.std.proofs.lemmas.Bool.{eqb-true, eqb-false, cond_both, cases_lt}
use Rattle.elimination.specs.Moves.{put}
use Rattle.planning.specs.declared.rows.Row.{Row}
use Rattle.planning.specs.Tables.{row_of, table_of, written, no_row, RowFits, TableFits}

-- a list with one element written
get_d_set : {X : Type 0} (xs : List X) (i w : ℕ) (x d : X) → i < length xs → get_or (set xs i x) w d ≡ cond (eqb w i) x (get_or xs w d)
get_d_set xs i w x d h =
    cond_both (eqb w i) x (get_or xs w d) (λ y. get_or (set xs i x) w d ≡ y)
    (λ e. ap (λ k. get_or (set xs i x) k d) (eqb-true w i e) ∙ get_or-set_same xs i x d h)
    (λ e. get_or-set_other xs i w x d (eqb-false w i e))

-- a function after a choice
pub at-cond : {X Y : Type 0} (f : X → Y) (b : Bool) (x y : X) → f (cond b x y) ≡ cond b (f x) (f y)
at-cond f true x y = refl
at-cond f false x y = refl

-- a row with one entry written
pub row_put : (r : Row) (v x : ℕ) → v < length r.at → row_of (written r v x) ≡ put v x (row_of r)
row_put r v x h = fun_ext (λ w. get_d_set r.at v w x 0 h)

-- a table with one row written
pub table-put : (rows : List Row) (u : ℕ) (r : Row) → u < length rows → table_of (set rows u r) ≡ put u (row_of r) (table_of rows)
table-put rows u r h = fun_ext (λ k. ap row_of (get_d_set rows u k r no_row h) ∙ at-cond row_of (eqb k u) r (get_or rows k no_row))

-- a row still fits a store that has grown
pub row_stays : {m n : ℕ} {r : Row} → m ≤ n → RowFits m r → RowFits n r
row_stays h fits = record { places = fits.places; in_use = λ w. omega (arith, fits.in_use w) }

-- and so it does with an expression in use written
pub row_fits : {n : ℕ} {r : Row} (v x : ℕ) → v < 32 → x < n → RowFits n r → RowFits n (written r v x)
row_fits {n} {r} v x h l fits = record {
  places = length-set r.at v x ∙ fits.places;
  in_use = λ w. subst (λ y. y < n) (sym (get_d_set r.at v w x 0 (omega arith))) (cond_both (eqb w v) x _ (λ y. y < n) (λ _. l) (λ _. fits.in_use w));
}

-- so does a table with one row written that fits
pub table_fits : {m n : ℕ} {rows : List Row} {r : Row} (u : ℕ) → u < 32 → m ≤ n → RowFits n r → TableFits m rows → TableFits n (set rows u r)
table_fits {n} {rows} {r} u h l row fits = record {
  places = length-set rows u r ∙ fits.places;
  each = λ k b.
      subst (RowFits n) (sym (get_d_set rows u k r no_row (omega arith)))
      (cond_both (eqb k u) r (get_or rows k no_row) (RowFits n) (λ _. row) (λ _. row_stays l (fits.each k b)));
}

-- a table still fits a store that has grown
pub table_stays : {m n : ℕ} {rows : List Row} → m ≤ n → TableFits m rows → TableFits n rows
table_stays h fits = record { places = fits.places; each = λ u b. row_stays h (fits.each u b) }

-- a table with one entry written
pub entry_put : {n : ℕ} (rows : List Row) (u w x : ℕ) → TableFits n rows → u < 32 → w < 32 →
    table_of (set rows u (written (get_or rows u no_row) w x)) ≡ put u (put w x (table_of rows u)) (table_of rows)
entry_put rows u w x fits h l =
    let row = fits.each u h in
    table-put rows u (written (get_or rows u no_row) w x) (omega arith) ∙
    ap (λ R. put u R (table_of rows)) (row_put (get_or rows u no_row) w x (omega arith))

-- which fits if the entry does
pub entry_fits : {m n : ℕ} {rows : List Row} (u w x : ℕ) → u < 32 → w < 32 → m ≤ n → x < n → TableFits m rows →
    TableFits n (set rows u (written (get_or rows u no_row) w x))
entry_fits u w x h l more used fits = table_fits u h more (row_fits w x l used (row_stays more (fits.each u h))) fits

-- an empty row has nothing at every place, and fits every store that has records
module _ (r : Row) (e : r ≡ record { at = replicate 32 0 }) where
  pub empty-at : (w : ℕ) → row_of r w ≡ 0
  empty-at w =
      let zero-at : ◌≡◌ {A = ℕ} (get_or (replicate 32 0) w 0) 0 = elim (cases_lt w 32) [ inl l ↦ get_or-replicate 32 w 0 0 l | inr l ↦ get_or_past (replicate 32 0) w 0 l ] in
      ap (λ s. row_of s w) e ∙ zero-at

  pub empty-fits : (count : ℕ) → 0 < count → RowFits count r
  empty-fits count some = record { places = ap (λ s. length s.at) e; in_use = λ w. rw empty-at some }

-- an empty table
module _ (r : Row) (e : r ≡ record { at = replicate 32 0 }) where
  pub empty-table-fits : (count : ℕ) → 0 < count → TableFits count (replicate 32 r)
  empty-table-fits count some = record {
    places = length-replicate 32 r;
    each = λ u h. subst (RowFits count) (sym (get_or-replicate 32 u r no_row h)) (empty-fits r e count some);
  }

  pub empty-table : table_of (replicate 32 r) ≡ (λ _ _. 0)
  empty-table = fun_ext (λ u. fun_ext (λ w. elim (cases_lt u 32) [
    | inl l ↦ ap (λ s. row_of s w) (get_or-replicate 32 u r no_row l) ∙ empty-at r e w
    | inr l ↦ ap (λ s. row_of s w) (get_or_past (replicate 32 r) u no_row l)
  ]))
