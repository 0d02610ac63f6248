-- Columns made entry by entry.
use Rattle.std.proofs.Common.{◌≡◌, ℕ, ◌+◌, List, [], ◌∷◌, ◌++◌, length, slice_index_or, subst, ◌∙◌, inl, inr, arith, length-append}
use Rattle.std.proofs.Math.ListN.{get_or-append}
use Rattle.std.proofs.Math.Seq.{get_or-append_seam}
use Rattle.std.proofs.lemmas.Bool.{cases_lt}
use Rattle.cr_rows.specs.Columns.{AreOf}

-- one entry more
pub one_more : {A : Type 0} (f : ℕ → A) (nothing : A) (column : List A) (k : ℕ) (x : A) → AreOf f nothing k column → x ≡ f k → AreOf f nothing (k + 1) (column ++ x ∷ [])
one_more f nothing column k x h is = record {
  count = let e = h.count in omega (arith, length-append column (x ∷ []));
  each = λ t low. elim (cases_lt t k) [
    | inl older ↦ get_or-append column (x ∷ []) nothing t (let e = h.count in omega (arith, older)) ∙ h.each t older
    | inr newest ↦
        let same : t ≡ k = omega arith in
        let e : length column ≡ k = h.count in
        rw same (subst (λ n. slice_index_or (column ++ x ∷ []) n nothing ≡ x) e (get_or-append_seam column x [] nothing) ∙ is)
  ];
}
