-- One compound statement further out.
use Rattle.std.proofs.Common.{◌≡◌, ℕ, zero, suc, ◌+◌, ◌-◌, ◌<◌, ◌≤◌, Option, None, Some, length, refl, ap, ◌∙◌, arith}
use Rattle.cr_check_labels.specs.Labelled.{Scene}
use Rattle.cr_check_labels.specs.Gotos.{else_by, found_from, last_labelled}

pub goes_out : (s : Scene) (left block name : ℕ) → 0 < left → last_labelled s (length s.nodes) (block, name) ≡ None
    → found_from s left (Some block) name ≡ found_from s (left - 1) (s.around block).block name
goes_out s zero block name some h = absurd (let no : ⊥ = omega (arith, some) in no)
goes_out s (suc more) block name some h =
    let less : more ≡ suc more - 1 = omega arith in
    ap (λ o. else_by o (found_from s more (s.around block).block name)) h ∙ ap (λ (m : ℕ). found_from s m (s.around block).block name) less

pub finds : (s : Scene) (left block name label : ℕ) → 0 < left → last_labelled s (length s.nodes) (block, name) ≡ Some label
    → found_from s left (Some block) name ≡ Some label
finds s zero block name label some h = absurd (let no : ⊥ = omega (arith, some) in no)
finds s (suc more) block name label some h = ap (λ o. else_by o (found_from s more (s.around block).block name)) h

pub ends_outside : (s : Scene) (left name : ℕ) → found_from s left None name ≡ None
ends_outside s zero name = refl
ends_outside s (suc more) name = refl
