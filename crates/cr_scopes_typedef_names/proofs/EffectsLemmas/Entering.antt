-- What entering a name changes.
use Rattle.std.proofs.Common.{◌≡◌, ℕ, Bool, true, false, List, refl, sym, ap, ◌∙◌, if◌then◌else◌}
use Rattle.std.specs.Str.{bytes_eq}
use Rattle.std.proofs.lemmas.Bool.{true≢false}
use Rattle.std.proofs.lemmas.Slice.Eq.{bytes_eq-Decides}
use Rattle.cr_syntax.specs.declared.scopes.TypeName.{TypeName}
use Rattle.cr_syntax.specs.Scopes.{Scopes, is_type, enter}
use Rattle.cr_syntax.proofs.Latest.{latest, others}

-- a name of that spelling is what it is declared as, and others stay
pub entered_is : (n : TypeName) (c : Scopes) (s : List ℕ) → is_type (enter n c) s ≡ (if bytes_eq s n.name then n.is_type else is_type c s)
entered_is n c s = by (bytes_eq s n.name) refl
  where
    by : (b : Bool) → bytes_eq s n.name ≡ b → is_type (enter n c) s ≡ (if b then n.is_type else is_type c s)
    by true q = ap (is_type (enter n c)) ((bytes_eq-Decides s n.name).0 q) ∙ latest n c
    by false q = others n c s (λ e. true≢false (sym ((bytes_eq-Decides s n.name).1 e) ∙ q))
