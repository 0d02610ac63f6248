-- One line more, or one list of lines, that marks literals.
use Rattle.std.proofs.Common.{◌≡◌, ℕ, ◌+◌, ◌<◌, ◌||◌, ◌&&◌, not, Bool, true, false, Option, List, length, take, get_or, refl, sym, ap, subst, ◌∙◌}
use Rattle.std.specs.List.{list_any}
use Rattle.std.proofs.lemmas.List.Folds.{list_any_more}
use Rattle.cr_check_operands.specs.Values.{Seen}
use Rattle.cr_check_expressions.specs.declared.form.Form.{Form}
use Rattle.cr_check_expressions.specs.Used.{is_valued}

or_assoc : (a b c : Bool) → ((a || b) || c) ≡ (a || (b || c))
or_assoc true b c = refl
or_assoc false b c = refl

pub marked_more : {X : Type 0} (old was now : Bool) (p : X → Bool) (xs : List X) (k : ℕ) (d : X) → k < length xs
    → was ≡ (old || list_any p (take k xs)) → now ≡ (was || p (get_or xs k d)) → now ≡ (old || list_any p (take (k + 1) xs))
marked_more old was now p xs k d low h e =
    e ∙ ap (λ b. b || p (get_or xs k d)) h ∙ or_assoc old (list_any p (take k xs)) (p (get_or xs k d)) ∙ ap (λ b. old || b) (sym (list_any_more p xs k d low))

pub filled_more : {X : Type 0} (was now : Bool) (p : X → Bool) (xs : List X) (k : ℕ) (d : X) → k < length xs
    → was ≡ list_any p (take k xs) → now ≡ (was || p (get_or xs k d)) → now ≡ list_any p (take (k + 1) xs)
filled_more was now p xs k d low h e = e ∙ ap (λ b. b || p (get_or xs k d)) h ∙ sym (list_any_more p xs k d low)

-- ---- places that are used as values

pub same_valued : (f g : Option Form) (b d : Bool) (s t : Seen) (v : Bool) → v ≡ is_valued f b s → f ≡ g → b ≡ d → s ≡ t → v ≡ is_valued g d t
same_valued f g b d s t v is form first seen =
    is ∙ ap (λ x. is_valued x b s) form ∙ ap (λ x. is_valued g x s) first ∙ ap (is_valued g d) seen

pub unfilled : (v w m n : Bool) → w ≡ true → w ≡ v → m ≡ n → not m ≡ (v && not n)
unfilled v w m n holds is same = subst (λ b. not m ≡ (b && not n)) (sym holds ∙ is) (ap not same)

pub unused : (v w n : Bool) → w ≡ false → w ≡ v → w ≡ (v && not n)
unused v w n fails is = fails ∙ subst (λ b. false ≡ (b && not n)) (sym fails ∙ is) refl
