-- The menus of the passes, one after the other.
use native.Mathlib.Omega.{arith}
use Rattle.std.proofs.Common.{◌≡◌, ℕ, ◌+◌, Bool, List, [], ◌∷◌, ◌++◌, length, get_or, sym, subst, ◌∙◌, inl, inr}
use Rattle.std.proofs.Math.ListN.{get_or-append}
use Rattle.std.proofs.Math.Seq.{get_or-append_seam}
use Rattle.std.proofs.lemmas.Bool.{cases_lt}
use Rattle.cr_lawful_analysis.specs.Analysis.{Read}
use Rattle.pass_edit.specs.Menu.{Offering}
use Rattle.pass_list.specs.Offers.{AreMenus, IfOn, IsOffered, is_on, nothing}
use Rattle.pass_list.specs.Passes.{pass_by}

pub menus_more : (enabled : List Bool) (file : List ℕ) (read : Read) (menus : List Offering) (menu : Offering) (at : ℕ) → length menus ≡ at
    → AreMenus enabled file read at menus → IfOn (is_on enabled at) (IsOffered file read (pass_by at)) menu
    → AreMenus enabled file read (at + 1) (menus ++ menu ∷ [])
menus_more enabled file read menus menu at count are is pass low = elim (cases_lt pass (length menus)) [
  | inl below ↦ subst (IfOn (is_on enabled pass) (IsOffered file read (pass_by pass))) (sym (get_or-append menus (menu ∷ []) nothing pass below))
      (are pass (omega (arith, below, count)))
  | inr above ↦
      (let here : at ≡ pass = omega (arith, above, low, count) in
      let found = subst (λ n. get_or (menus ++ menu ∷ []) n nothing ≡ menu) (count ∙ here) (get_or-append_seam menus menu [] nothing) in
      subst (IfOn (is_on enabled pass) (IsOffered file read (pass_by pass))) (sym found)
      (subst (λ n. IfOn (is_on enabled n) (IsOffered file read (pass_by n)) menu) here is))
]
