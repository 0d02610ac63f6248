-- The objects of parameters have the cells of the types with which these are called (C11 6.5.2.2p7).
use Rattle.std.proofs.Common.{◌≡◌, ℕ, ◌<◌, arith, zero, suc, Bool, List, [], ◌∷◌, Some, map, slice_get, slice_index_or, refl, sym, subst, ap, ◌∙◌}
use Rattle.std.proofs.lemmas.Option.{slice_get_within}
use Rattle.cr_memory.specs.declared.value.Scalar.{Scalar}
use Rattle.cr_memory.specs.declared.value.Guard.{Guard}
use Rattle.cr_syntax.specs.declared.ctype.CType.{CType}
use Rattle.cr_syntax.specs.declared.ctype.CType.TheVariants.{Int, Struct}
use Rattle.cr_check_types.specs.Types.{Qualified, plain, pointer as to, array, type_at}
use Rattle.cr_check_operands.specs.Places.{found_by}
use Rattle.cr_check_declarators.specs.Functions.{adjusted_type}
use Rattle.cr_check_signatures.specs.Functions.Outlines.{head}
use Rattle.cr_typed.specs.declared.typed.Typed.{Typed}
use Rattle.cr_meaning.specs.World.{Program}
use Rattle.cr_meaning.specs.declared.run.Limits.{Limits}
use Rattle.cr_meaning_soundness.specs.Sorts.{sort_of_scalar, sorts_in}
use Rattle.cr_meaning_soundness.specs.Statements.{sorts_of}
use Rattle.cr_meaning_operations.specs.Shapes.{named_type, shape_of, form_by}
use Rattle.cr_meaning_operations.specs.Operations.{object_shape, parameter_of, program_of}
use Rattle.cr_meaning_typing.specs.Calls.Calls.{Takes, IsParameter}
use Rattle.cr_meaning_objects.specs.Parameters.Laws.{AreParameters}
use Rattle.cr_meaning_objects.proofs.ParametersLemmas.Parameters.{own_types}
use Rattle.cr_meaning_objects.specs.Called.Laws
use Rattle.cr_meaning_objects.specs.Called.Laws.{IsPassed}
use Rattle.cr_meaning_objects.proofs.CalledLemmas.Meant.{IsAlike, is_alike}
use Rattle.cr_meaning_objects.proofs.CalledLemmas.Fitting.{IsMapped, mapped, adjusted_at}

-- ---- lists

two_maps : (xs : List (Scalar × Guard)) → map (λ own. sort_of_scalar own.0) xs ≡ map sort_of_scalar (map (λ own. own.0) xs)
two_maps [] = refl
two_maps (x ∷ xs) = ap (λ l. sort_of_scalar x.0 ∷ l) (two_maps xs)

pub at_map : {A B : Type 0} (f : A → B) (xs : List A) (k : ℕ) (x : A) → slice_get xs k ≡ Some x → slice_get (map f xs) k ≡ Some (f x)
at_map f [] k x e = absurd cc
at_map f (y ∷ ys) zero x e = let same : y ≡ x = cc in ap (λ z. Some (f z)) same
at_map f (y ∷ ys) (suc k) x e = at_map f ys k x e

-- ---- types

same_word : (of other : CType) (c v d w : Bool) → head (plain of c v) ≡ head (plain other d w) → of ≡ other
same_word of other c v d w e = cc

-- the same, of a parameter, which is adjusted
abbrev IsTaken : Qualified → Type 0
IsTaken (plain (Int k) c v) = Unit {0}
IsTaken (plain (Struct node) c v) = Unit {0}
IsTaken (to c v below) = Unit {0}
IsTaken type = ⊥

taken : (type x : Qualified) → head type ≡ head (adjusted_type x) → IsPassed type → IsTaken type
taken (plain (Int k) c v) x e h = tt
taken (plain (Struct n) c v) x e h = tt
taken (to c v a) x e h = tt
taken (array n a) (plain of c v) e h = absurd cc
taken (array n a) (to c v b) e h = absurd cc
taken (array n a) (array m b) e h = absurd cc
taken type x e h = absurd h

-- what has the head of such a type is one
passes_on : (own type : Qualified) → head own ≡ head type → IsTaken type → IsTaken own
passes_on (plain of c v) (plain (Int o) d w) e h = let same = same_word of (Int o) c v d w e in subst (λ x. IsTaken (plain x c v)) (sym same) tt
passes_on (plain of c v) (plain (Struct m) d w) e h = let same = same_word of (Struct m) c v d w e in subst (λ x. IsTaken (plain x c v)) (sym same) tt
passes_on (to c v a) (to d w b) e h = tt
passes_on (plain of c v) (to d w b) e h = absurd cc
passes_on (array n a) (to d w b) e h = absurd cc
passes_on (to c v a) (plain of d w) e h = absurd cc
passes_on (array n a) (plain of d w) e h = absurd cc
passes_on own type e h = absurd h

module _ (t : Typed) (limits : Limits) where
  abbrev p : Program
  p = program_of t limits

  -- what it takes
  takes : (row : ℕ) (own type : Qualified) → type_at t.shapes row ≡ own → head own ≡ head type → IsTaken type → Takes t (form_by t row own) type
  takes row (plain of c v) (plain (Int o) d w) at e h =
      let same = same_word of (Int o) c v d w e in subst (λ x. Takes t (form_by t row (plain x c v)) (plain (Int o) d w)) (sym same) refl
  takes row (plain of c v) (plain (Struct m) d w) at e h =
      let same = same_word of (Struct m) c v d w e in
      subst (λ x. type_at t.shapes row ≡ plain x c v → Takes t (form_by t row (plain x c v)) (plain (Struct m) d w)) (sym same) (λ here. (c, (v, here))) at
  takes row (to c v a) (to d w b) at e h = tt
  takes row (plain of c v) (to d w b) at e h = absurd cc
  takes row (array n a) (to d w b) at e h = absurd cc
  takes row (to c v a) (plain of d w) at e h = absurd cc
  takes row (array n a) (plain of d w) at e h = absurd cc
  takes row own type at e h = absurd h

  -- and the cells that it has
  cells : (row : ℕ) (own : Qualified) → type_at t.shapes row ≡ own → IsTaken own → sorts_in (shape_of t own) ≡ sorts_of p (form_by t row own)
  cells row (plain (Int k) c v) at h = refl
  cells row (plain (Struct n) c v) at h = two_maps (shape_of t (plain (Struct n) c v)) ∙ ap (λ own. map sort_of_scalar (map (λ x. x.0) (shape_of t own))) (sym at)
  cells row (to c v a) at h = refl
  cells row own at h = absurd h

pub objects : Laws.ParametersFitCalls
objects file t it limits i d signature stands meant passed k own e = subst (IsParameter (program_of t limits) t signature k) o.is (record {
  type = look row.item;
  is = alike.each k ∙ ap (found_by look) row.at;
  takes = takes t limits (slice_index_or t.named node 0) (named_type t node) (look row.item) refl same may;
  cells =
      ap (λ c. sorts_in (object_shape t node c)) (are.names k node o.at)
      ∙ cells t limits (slice_index_or t.named node 0) (named_type t node) refl (passes_on (named_type t node) (look row.item) same may);
})
  where
    look : ℕ → Qualified
    look = type_at it.checked.checked.table

    are : AreParameters t (map look (slice_index_or it.checked.checked.whole.typing.parameters meant.whole [])) (slice_index_or t.parameters d [])
    are = own_types file t it meant.name d meant.whole meant.own meant.defines meant.body

    alike : IsAlike file t it i d signature stands meant
    alike = is_alike file t it i d signature stands meant

    o : IsMapped (parameter_of t) (slice_index_or t.parameters d []) k own
    o = mapped (parameter_of t) (slice_index_or t.parameters d []) k own e

    node : ℕ
    node = o.item

    headed : IsMapped head (map look alike.rows) k (head (named_type t node))
    headed = mapped head (map look alike.rows) k (head (named_type t node))
        (ap (λ l. slice_get l k) (sym (are.words ∙ alike.heads)) ∙ at_map (λ object. head (named_type t object)) (slice_index_or t.parameters d []) k node o.at)

    row : IsMapped look alike.rows k headed.item
    row = mapped look alike.rows k headed.item headed.at

    same : head (named_type t node) ≡ head (look row.item)
    same = sym headed.is ∙ ap head (sym row.is)

    few : k < signature.count
    few = let w = slice_get_within alike.rows k row.item row.at in let c = alike.count in omega (arith, w, c)

    adjusted : (x : Qualified) × (head (look row.item) ≡ head (adjusted_type x))
    adjusted = adjusted_at file t it meant.name d meant.whole meant.own meant.defines meant.body k (head (look row.item))
        (ap (λ ts. slice_get ts k) alike.heads ∙ at_map head (map look alike.rows) k (look row.item) (at_map look alike.rows k row.item row.at))

    may : IsTaken (look row.item)
    may = taken (look row.item) adjusted.0 adjusted.1 (passed k (look row.item) few (alike.each k ∙ ap (found_by look) row.at))
