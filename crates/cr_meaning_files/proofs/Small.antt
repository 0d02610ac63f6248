-- What an initialised declarator names has no more cells than a type may have (K7).
use Rattle.std.proofs.Common.{◌≡◌, ℕ, ◌*◌, ◌≤◌, inl, List, length, refl, ap, subst, slice_index_or, arith, mul_assoc}
use Rattle.cr_syntax.specs.declared.ctype.CType.TheVariants.{Int, Struct}
use Rattle.cr_check_types.specs.declared.layout.Layout.{Layout}
use Rattle.cr_check_types.specs.Types.{Qualified, plain, pointer as to, array, type_at}
use Rattle.cr_check_types.specs.Layouts.{count_of, element_of, single_of, nothing}
use Rattle.cr_typed.specs.declared.typed.Typed.{Typed}
use Rattle.cr_typed.specs.Typed.{MOST_CELLS}
use Rattle.cr_meaning_operations.specs.Shapes.{cells_of}
use Rattle.cr_meaning_declarations.specs.Declared.Files.{IsUnitOfFile, assembled}
use Rattle.cr_meaning_types.specs.Fitting.Bounded.{IsBounded, IsBoundedIn}
use Rattle.cr_meaning_types.proofs.FittingLemmas.Bounding.{bounded, structures}
use Rattle.cr_meaning_types.proofs.FittingLemmas.Literals.{literals}
use Rattle.cr_meaning_references.proofs.TypedefsLemmas.Files.{are_seen}
use Rattle.cr_meaning_files.proofs.Made.{layouts_at}
use Rattle.cr_meaning_references.proofs.TreesLemmas.Shaped.{surrounded, shaped}
use Rattle.cr_meaning_references.proofs.TreesLemmas.Sighted.{sighted}

module _ (file : List ℕ) (t : Typed) (it : IsUnitOfFile file t) where
  open it use {checked.{checked}, made_by, typing}

  abbrev last : ℕ
  last = length made_by.tree.nodes.now

  pub bounds : (i : ℕ) → IsBoundedIn made_by.tree.nodes.now typing.layouts checked.table last typing i
  bounds i =
      bounded made_by.tree checked.texts checked.table typing made_by.is.whole.typing (λ b broken. made_by.sound.constraints b (inl broken)) (shaped file t it) (surrounded file t it) (sighted file t it) (are_seen file t (assembled file t it))
      (literals file it.unit.tokens.list.items it.unit.nodes checked.texts it.tokenizes made_by.is.texts) last (omega arith) i

  structure_few : (node : ℕ) → (slice_index_or t.layouts node nothing).cells ≤ MOST_CELLS
  structure_few node =
      let few = structures made_by.tree checked.texts checked.table typing made_by.is.whole.typing (λ b broken. made_by.sound.constraints b (inl broken)) node in
      let same = ap (λ (l : Layout). l.cells) (layouts_at file t it node) in
      omega (arith, few, same)

  single_is : (type : Qualified) → single_of t.layouts (element_of type) ≡ single_of typing.layouts (element_of type)
  single_is (plain (Struct node) c v) = layouts_at file t it node
  single_is (plain of c v) = refl
  single_is (to c v below) = refl
  single_is (array n below) = single_is below

  type_few : (type : Qualified) → IsBounded made_by.tree.nodes.now typing.layouts last type → cells_of t type ≤ MOST_CELLS
  type_few (plain (Struct node) c v) h = let few = structure_few node in omega (arith, few)
  type_few (plain (Int kind) c v) h = omega arith
  type_few (plain of c v) h = omega arith
  type_few (to c v below) h = omega arith
  type_few (array n below) h =
      let all = mul_assoc n (count_of below) (single_of t.layouts (element_of below)).cells in
      let same = ap (λ (l : Layout). n * (count_of below * l.cells)) (single_is below) in
      let few = h.1.1 in
      omega (arith, all, same, few)

  pub completed_few : (i : ℕ) → cells_of t (type_at checked.table (slice_index_or typing.named i 0)) ≤ MOST_CELLS
  completed_few i = type_few (type_at checked.table (slice_index_or typing.named i 0)) (bounds i).named

  -- nor have the elements of an array
  pub element_few : (i most : ℕ) (below : Qualified) → type_at checked.table (slice_index_or typing.named i 0) ≡ array most below → cells_of t below ≤ MOST_CELLS
  element_few i most below g = type_few below (subst (IsBounded made_by.tree.nodes.now typing.layouts last) g (bounds i).named).0
