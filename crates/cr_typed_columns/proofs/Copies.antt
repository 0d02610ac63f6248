-- Types of one table in another.
use Rattle.std.proofs.Common.{◌≡◌, ℕ, List, [], ◌∷◌, ◌++◌, refl, sym, ap, subst, ◌∙◌}
use Rattle.cr_check_types.specs.declared.shape.Shape.{Shape}
use Rattle.cr_check_types.specs.Types.{Qualified, type_at, type_of}
use Rattle.cr_check_types.specs.Shared.{IsWith, IsWithAll, levels_of}
use Rattle.cr_typed_columns.specs.declared.copying.Level.{Level}
use Rattle.cr_typed_columns.specs.declared.copying.Level.TheVariants.{Pointer, Array}
use Rattle.cr_typed_columns.specs.Levels.{above, wrapped, flat_type, IsFlat}

pub with_one : (old new : List Shape) (t : Qualified) → IsWith old t new → IsWithAll old (t ∷ []) new
with_one old new t h = (new, h, refl)

pub with_both : (a b c : List Shape) (ts us : List Qualified) → IsWithAll a ts b → IsWithAll b us c → IsWithAll a (ts ++ us) c
with_both a b c [] us h g = subst (λ m. IsWithAll m us c) h g
with_both a b c (t ∷ ts) us h g = (h.0, h.1, with_both h.0 b c ts us h.2 g)

-- a level more
levels_above : (level : Level) (t : Qualified) → levels_of (above level t) ≡ levels_of t ++ above level t ∷ []
levels_above (Pointer c v) t = refl
levels_above (Array n) t = refl

pub with_level : (start old new : List Shape) (level : Level) (t : Qualified) → IsWithAll start (levels_of t) old → IsWith old (above level t) new
    → IsWithAll start (levels_of (above level t)) new
with_level start old new level t h w =
    subst (λ ts. IsWithAll start ts new) (sym (levels_above level t)) (with_both start old new (levels_of t) (above level t ∷ []) h (with_one old new (above level t) w))

-- what has no level is one level alone
pub levels_flat : (old new : List Shape) (s : Shape) (u : Qualified) → IsFlat s → u ≡ type_of (type_at old) s → IsWith old (type_of (type_at old) s) new
    → IsWithAll old (levels_of u) new
levels_flat old new s u f e w =
    let is = f.is (type_at old) in
    subst (λ t. IsWithAll old (levels_of t) new) (sym (e ∙ is)) (with_one old new (flat_type s) (subst (λ t. IsWith old t new) is w))

pub flat_is : (list : List Level) (s : Shape) (t u : Qualified) (look : ℕ → Qualified) → IsFlat s → t ≡ wrapped list (flat_type s) → u ≡ type_of look s
    → wrapped list u ≡ t
flat_is list s t u look f e is = ap (wrapped list) (is ∙ f.is look) ∙ sym e

pub wrapped_more : (levels : List Level) (level : Level) (t : Qualified) → wrapped (levels ++ level ∷ []) t ≡ wrapped levels (above level t)
wrapped_more [] level t = refl
wrapped_more (next ∷ levels) level t = ap (above next) (wrapped_more levels level t)

pub level_more : (list : List Level) (level : Level) (t u v : Qualified) → t ≡ wrapped list u → u ≡ above level v → t ≡ wrapped (list ++ level ∷ []) v
level_more list level t u v h e = h ∙ ap (wrapped list) e ∙ sym (wrapped_more list level v)

-- one level less to raise
pub raised_same : (list left : List Level) (level : Level) (t u v : Qualified) → list ≡ left ++ level ∷ [] → u ≡ above level t → wrapped list t ≡ v → wrapped left u ≡ v
raised_same list left level t u v e is h = ap (wrapped left) is ∙ sym (wrapped_more left level t) ∙ ap (λ l. wrapped l t) (sym e) ∙ h

pub raised_levels : (start old new : List Shape) (level : Level) (t u v : Qualified) → u ≡ above level t → v ≡ above level t → IsWithAll start (levels_of t) old → IsWith old v new
    → IsWithAll start (levels_of u) new
raised_levels start old new level t u v is e h w =
    subst (λ x. IsWithAll start (levels_of x) new) (sym is) (with_level start old new level t h (subst (λ x. IsWith old x new) e w))
