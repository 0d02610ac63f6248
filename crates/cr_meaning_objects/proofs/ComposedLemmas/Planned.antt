-- An initialised declarator is planned by the object that its declarator declares (C11 6.7.9).
use Rattle.std.proofs.Common.{◌≡◌, ℕ, Bool, List, Some, slice_index_or, refl, sym, ap, ◌∙◌}
use Rattle.std.proofs.lemmas.List.{get_or-take}
use Rattle.cr_check_types.specs.declared.shape.Shape.{Shape}
use Rattle.cr_check_types.specs.Types.{Qualified, type_at}
use Rattle.cr_check_expressions.specs.declared.known.Declared.{Declared}
use Rattle.cr_check_expressions.specs.declared.known.Declared.TheVariants.{Object, Enumerator, Function, TypeName, Unclear}
use Rattle.cr_check_expressions.specs.Known.{meaning_by, parameters_in}
use Rattle.cr_check_initialised.specs.Initialised.{object_of}
use Rattle.cr_check_unit.specs.declared.typing.Typing.{Typing}
use Rattle.cr_check_unit.specs.Typing.{cut, declared_in}
use Rattle.cr_meaning_objects.proofs.ChainedLemmas.Known.{there}
use Rattle.cr_meaning_objects.specs.Composed.Laws
use Rattle.cr_meaning_references.proofs.TreesLemmas.Shaped.{shaped}

object_is : (look : ℕ → Qualified) (rows : List ℕ) (d : Declared) (type : Qualified) → object_of (meaning_by look rows d) ≡ Some type → (row : ℕ) × ((register : Bool) × (d ≡ Object row register))
object_is look rows (Object row register) type e = (row, (register, refl))
object_is look rows (Enumerator value) type e = absurd cc
object_is look rows (Function row more) type e = absurd cc
object_is look rows TypeName type e = absurd cc
object_is look rows Unclear type e = absurd cc

pub planned : Laws.PlannedDeclareObjects
planned file t it i q n at first type e =
    let typing : Typing = it.checked.checked.whole.typing in
    let shapes : List Shape = it.checked.checked.table in
    let low = ((shaped file t it).parts i n (there file t it i n at) 0 q first).below in
    let x = object_is (type_at shapes) (parameters_in (cut i typing).parameters (Some q)) (slice_index_or (cut i typing).declared q Unclear) type (sym (ap (λ o. object_of (declared_in shapes (cut i typing) o)) first) ∙ e) in
    (x.0, (x.1.0, sym (get_or-take i typing.declared q Unclear low) ∙ x.1.1))
