-- The object of an initialised declarator has the cells of the type that its initialiser completes, whatever its other declarations are
-- (C11 6.2.7p3, 6.7.9p22, K9).
use Rattle.std.proofs.Common.{◌≡◌, ℕ, List, Some, slice_get, slice_index_or, sym, ap, ◌∙◌}
use Rattle.cr_syntax.specs.declared.node.Kind.TheVariants as kind
use Rattle.cr_syntax.specs.declared.node.Node.{Node}
use Rattle.cr_check_types.specs.Types.{Qualified, plain, pointer as to, array, type_at}
use Rattle.cr_check_unit.specs.Typing.{cut, object_in}
use Rattle.cr_typed.specs.declared.typed.Typed.{Typed}
use Rattle.cr_meaning.specs.declared.run.Limits.{Limits}
use Rattle.cr_meaning_soundness.specs.Sorts.{sorts_in}
use Rattle.cr_meaning_operations.specs.Shapes.{named_type, shape_of}
use Rattle.cr_meaning_operations.specs.Operations.{kind_if, name_of, entity_of, object_shape, program_of}
use Rattle.cr_meaning_types.specs.Known.Shaped.{is_filled}
use Rattle.cr_meaning_types.proofs.KnownLemmas.Declaring.{there_is}
use Rattle.cr_meaning_declarations.specs.Declared.Files.{IsUnitOfFile}
use Rattle.cr_meaning_objects.proofs.ChainedLemmas.Known.{there}
use Rattle.cr_meaning_objects.specs.Composed.Laws.{Becomes, IsObject}
use Rattle.cr_meaning_objects.proofs.ComposedLemmas.Named.{initialised, firsts, objects_named}
use Rattle.cr_meaning_objects.proofs.ComposedLemmas.Owned.{own}
use Rattle.cr_meaning_objects.proofs.ComposedLemmas.Planned.{planned}
use Rattle.cr_meaning_objects.specs.Initialised.Composites.{IsSized}
use Rattle.cr_meaning_objects.proofs.InitialisedLemmas.Composites.{composite_kept}
use Rattle.cr_meaning_files.specs.Structures.{IsWhole}
use Rattle.cr_meaning_references.proofs.TreesLemmas.Shaped.{shaped}

-- a type of objects has arrays of known sizes
pub whole_sized : (t : Typed) (type : Qualified) → IsWhole t type → IsSized type
whole_sized t (plain of c v) h = tt
whole_sized t (to c v below) h = tt
whole_sized t (array n below) h = (h.0, whole_sized t below h.1)

module _ (file : List ℕ) (t : Typed) (it : IsUnitOfFile file t) (limits : Limits) where
  open it use {typing, shapes}

  -- an object has the cells of each type of objects that is its own but for sizes that became known
  pub composite_cells : (node q : ℕ) → IsObject file t it node q → (type : Qualified) → Becomes type (named_type t (entity_of t node)) → IsWhole t type
      → sorts_in ((program_of t limits).shape (entity_of t node)) ≡ sorts_in (shape_of t type)
  composite_cells node q x type becomes whole =
      let first = (objects_named file t it node q x (entity_of t node) (firsts file t it node q x)).1.0 in
      ap (λ k. sorts_in (object_shape t (entity_of t node) k)) (ap kind_if first.at ∙ first.is)
      ∙ ap (λ own. sorts_in (shape_of t own)) (sym becomes)
      ∙ composite_kept t type (named_type t (entity_of t node)) (whole_sized t type whole)

  module _ (i : ℕ) (n : Node) (at : slice_get t.nodes i ≡ Some n) (init : n.kind ≡ kind.InitDeclarator) where
    abbrev completed : Qualified
    completed = type_at shapes (slice_index_or typing.named i 0)

    declarator : (q : ℕ) × (slice_get n.parts 0 ≡ Some q)
    declarator = there_is (slice_get n.parts 0) ((shaped file t it).filled i n (there file t it i n at) 0 (ap (λ k. is_filled k 0) init))

    -- what is initialised is an object, by its own name
    planned_object : (type : Qualified) → object_in shapes (cut i typing) n ≡ Some type → IsObject file t it (name_of t i) declarator.0
    planned_object type e =
        own file t it i declarator.0 n at init declarator.1 (planned file t it i declarator.0 n at declarator.1 type e)

    pub object_cells : (type : Qualified) → object_in shapes (cut i typing) n ≡ Some type → IsWhole t completed → sorts_in ((program_of t limits).shape (entity_of t (name_of t i))) ≡ sorts_in (shape_of t completed)
    object_cells type e whole =
        let x = planned_object type e in
        composite_cells (name_of t i) declarator.0 x completed (initialised file t it (name_of t i) declarator.0 x i n at init declarator.1) whole
