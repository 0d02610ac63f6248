-- Columns made entry by entry.
use Rattle.std.proofs.Common.{◌≡◌, ℕ, suc, ◌+◌, List, [], ◌∷◌, ◌++◌, map, refl, ap, ◌∙◌, arith}
use Rattle.cr_typed_columns.specs.Rows.{listed}

next_listed : {A : Type 0} (f : ℕ → A) (k : ℕ) → listed f k ++ f k ∷ [] ≡ listed f (k + 1)
next_listed f k = let step : suc k ≡ k + 1 = omega arith in ap (listed f) step

pub one_more : {A : Type 0} (f : ℕ → A) (column : List A) (k : ℕ) (x : A) → column ≡ listed f k → x ≡ f k → column ++ x ∷ [] ≡ listed f (k + 1)
one_more f column k x h is = rw (h, is) (next_listed f k)

map_more : {A B : Type 0} (g : A → B) (column : List A) (x : A) → map g (column ++ x ∷ []) ≡ map g column ++ g x ∷ []
map_more g [] x = refl
map_more g (y ∷ column) x = ap (λ rest. g y ∷ rest) (map_more g column x)

pub one_mapped : {A B : Type 0} (g : A → B) (f : ℕ → B) (column : List A) (k : ℕ) (x : A) → map g column ≡ listed f k → g x ≡ f k
    → map g (column ++ x ∷ []) ≡ listed f (k + 1)
one_mapped g f column k x h is = map_more g column x ∙ one_more f (map g column) k (g x) h is
