-- Declarations of a function, one behind the other: one at most has a body, and all have one outline.
use Rattle.std.proofs.Common.{◌≡◌, ℕ, ◌<◌, true, false, ◌&&◌, ◌||◌, not, List, Option, None, Some, slice_index_or, sym, ap, ◌∙◌}
use Rattle.std.proofs.lemmas.Bool.{or_parts, or_left, or_right}
use Rattle.std.proofs.lemmas.List.{get_or-take}
use Rattle.cr_scopes_events.specs.Declarators.{declarator_of}
use Rattle.cr_check_types.specs.declared.shape.Shape.{Shape}
use Rattle.cr_check_expressions.specs.declared.least.Break.{Break}
use Rattle.cr_check_declarators.specs.declared.linkages.Declaration.{Declaration}
use Rattle.cr_check_declarators.specs.Linkages.{same_linkage, repeats, with_declaration_of}
use Rattle.cr_check_declarations.specs.declared.tree.Tree.{Tree}
use Rattle.cr_check_linkage.specs.NameTypes.{is_known}
use Rattle.cr_check_linkage.specs.Linked.{linked_in}
use Rattle.cr_check_unit.specs.declared.typing.Typing.{Typing}
use Rattle.cr_check_unit.specs.Typing.{cut, past_in, IsTyping}
use Rattle.cr_check_unit.specs.Breaks.{IsBroken}
use Rattle.cr_check_signatures.specs.Functions.Linked.{same_at, before_at, does_at, now_at, IsFunction, Follows, directly, behind}
use Rattle.cr_check_signatures.specs.Functions.Outlines.{outline}
use Rattle.cr_check_signatures.specs.Functions.Laws
use Rattle.cr_check_signatures.proofs.FunctionsLemmas.Chained.{declarations_alike}

defines_now : (o : Option Declaration) (d : Declaration) → d.defines ≡ true → (with_declaration_of o d).defines ≡ true
defines_now None d h = h
defines_now (Some x) d h = or_right x.defines d.defines h

-- of two that repeat nothing, where the first has a body, the other has none
no_second : (b d : Declaration) → b.defines ≡ true → repeats (Some b) d ≡ false → d.defines ≡ false
no_second b d h e =
    let one = or_parts (not (same_linkage b.linkage d.linkage)) ((b.defines && d.defines) || (b.initialised && d.initialised)) e in
    let two = or_parts (b.defines && d.defines) (b.initialised && d.initialised) one.1 in
    sym (ap (λ x. x && d.defines) h) ∙ two.0

module _ (u : Tree) (shapes : List Shape) (t : Typing) where
  -- what the declarations up to the one before did
  before_is : (p q : ℕ) → same_at u p ≡ Some q → q < p → before_at u shapes t p ≡ slice_index_or t.linked q None
  before_is p q same less = ap (linked_in (past_in shapes (cut p t)).linked) same ∙ get_or-take p t.linked q None less

  -- a body that was there stays
  carried : {p q : ℕ} → Follows u shapes t p q → IsFunction u shapes t q → (does_at u shapes t q).defines ≡ true → (b : Declaration) × ((before_at u shapes t p ≡ Some b) × (b.defines ≡ true))
  carried {p = p} {q = q} (directly same less) is defines =
      (with_declaration_of (before_at u shapes t q) (does_at u shapes t q), (before_is p q same less ∙ is.linked.linked, defines_now (before_at u shapes t q) (does_at u shapes t q) defines))
  carried {p = p} {q = q} (behind r token same less own named rest) is defines =
      let x = carried rest is defines in
      let d = does_at u shapes t r in (
        with_declaration_of (Some x.0) d,
        (before_is p r same less ∙ own.linked.linked ∙ ap (λ o. Some (with_declaration_of o d)) x.1.0, or_left x.0.defines d.defines x.1.1),
      )

pub defined_once : Laws.FunctionsAreDefinedOnce
defined_once u shapes t p q token own named is follows defines =
    let x = carried u shapes t follows is defines in
    no_second x.0 (does_at u shapes t p) x.1.1 (ap (λ o. repeats o (does_at u shapes t p)) (sym x.1.0) ∙ own.linked.again token named)

module _ (u : Tree) (texts : List (List ℕ)) (shapes : List Shape) (t : Typing) (h : IsTyping u texts shapes t) (holds : (b : Break) → IsBroken u texts shapes t b → ⊥)
    (known : (q : ℕ) → IsFunction u shapes t q → is_known (now_at shapes t q) ≡ true) where
  all_alike : {p q : ℕ} (token : ℕ) → IsFunction u shapes t p → (declarator_of u.nodes.now p).name ≡ Some token → IsFunction u shapes t q → Follows u shapes t p q → outline (now_at shapes t q) ≡ outline (now_at shapes t p)
  all_alike {p = p} {q = q} token own named is (directly same less) = declarations_alike u texts shapes t h holds p q token own.linked named same less (known q is) (known p own)
  all_alike {p = p} {q = q} token own named is (behind r other same less inner name rest) =
      all_alike other inner name is rest ∙ declarations_alike u texts shapes t h holds p r token own.linked named same less (known r inner) (known p own)

pub functions_alike : Laws.FunctionsAreAlike
functions_alike u texts shapes t h holds known p q token own named is follows = all_alike u texts shapes t h holds known token own named is follows
