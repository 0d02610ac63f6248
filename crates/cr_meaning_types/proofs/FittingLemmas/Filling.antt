-- What an initialiser initialises has a type that is bounded, where its object has (C11 6.7.9).
use Rattle.std.proofs.Common.{◌≡◌, ℕ, zero, suc, ◌+◌, ◌&&◌, Bool, true, false, List, [], ◌∷◌, ◌++◌, Option, None, Some, length, nat_lt, replicate, take, slice_get, refl, sym, ap, subst, ◌∙◌, arith, if◌then◌else◌}
use Rattle.cr_syntax.specs.declared.node.Kind.{Kind}
use Rattle.cr_syntax.specs.declared.node.Kind.TheVariants as kind
use Rattle.cr_syntax.specs.declared.ctype.CType.{CType}
use Rattle.cr_syntax.specs.declared.ctype.CType.TheVariants.{Struct}
use Rattle.cr_syntax.specs.declared.node.Node.{Node}
use Rattle.cr_check_types.specs.declared.layout.Layout.{Layout}
use Rattle.cr_check_types.specs.Types.{Qualified, plain, pointer, array}
use Rattle.cr_check_types.specs.Layouts.{layout_of}
use Rattle.cr_check_declarators.specs.Declarators.{most_cells}
use Rattle.cr_check_initialisers.specs.Known.{Known}
use Rattle.cr_check_initialisers.specs.Places.{Place, object, laid, types_by, types_in, encloses, types_within, sized, types_of_object}
use Rattle.cr_check_initialisers.specs.Plans.{Entry, put, excess, Fills, ends, exceeds, braces, whole, elided, loses, IsPlan, by_expression, by_list, is_open, length_asked}
use Rattle.cr_check_initialised.specs.Initialised.{type_or, is_planned, planned_if, planned_in, planned_by, named_first, IsFilled}
use Rattle.cr_check_initialised.specs.Faults.{is_overfull}
use Rattle.cr_meaning_types.specs.Fitting.Bounded.{IsBounded, Every, IsEntryBounded}
use Rattle.cr_meaning_types.proofs.FittingLemmas.Types.{sized_bounded}
use Rattle.cr_meaning_types.proofs.FittingLemmas.Names.{every_appended}

module _ (nodes : List Node) (layouts : List Layout) (at : ℕ) (k : Known) (members : (node : ℕ) → Every (IsBounded nodes layouts at) (k.members node)) where
  abbrev P : Qualified → Type 0
  P = IsBounded nodes layouts at

  abbrev IsPlace : Place → Type 0
  IsPlace p = P p.type

  abbrev IsEntry : Entry → Type 0
  IsEntry = IsEntryBounded nodes layouts at

  laid_all : (cell : ℕ) (ts : List Qualified) → Every P ts → Every IsPlace (laid k cell ts)
  unfolding laid
  laid_all cell [] h = tt
  laid_all cell (t ∷ ts) h = (h.0, laid_all (cell + k.cells t) ts h.1)

  repeated : (n : ℕ) (t : Qualified) → P t → Every P (replicate n t)
  repeated zero t h = tt
  repeated (suc n) t h = (h, repeated n t h)

  parts_by : (of : CType) → Every P (types_by k of)
  parts_by (Struct node) = members node
  parts_by of = tt

  parts_all : (t : Qualified) → P t → Every P (types_in k t)
  unfolding types_in
  parts_all (plain of c v) h = parts_by of
  parts_all (pointer c v t) h = tt
  parts_all (array n t) h = repeated n t h.0

  either : (b : Bool) (ts us : List Qualified) → Every P ts → Every P us → Every P (if b then ts else us)
  either true ts us h g = h
  either false ts us h g = g

  within_all : (t : Qualified) (list : List ℕ) → P t → Every P (types_within k t list)
  unfolding types_within
  within_all t list h = either (encloses k t list) (t ∷ []) (types_in k t) (h, tt) (parts_all t h)

  sized_parts : (t : Qualified) (most : ℕ) → P t → Every P (types_in k (sized t most))
  unfolding types_in
  sized_parts (plain of c v) most h = parts_by of
  sized_parts (pointer c v t) most h = tt
  sized_parts (array n t) most h = repeated _ t h.0

  object_all : (t : Qualified) (list : List ℕ) → P t → Every P (types_of_object k t list)
  unfolding types_of_object
  object_all t list h = either (encloses k t list) (t ∷ []) (types_in k (sized t (length list))) (h, tt) (sized_parts t (length list) h)

  fills_all : (ps : List Place) (b : ℕ) (is : List ℕ) (xs ys : List Entry) → Fills k ps b is xs ys → Every IsPlace ps → Every IsEntry xs → Every IsEntry ys
  fills_all _ _ _ _ _ ends h g = g
  fills_all _ _ _ _ _ (exceeds {b = b} {xs = xs}) h g = every_appended IsEntry xs (excess b ∷ []) g (tt, tt)
  fills_all _ _ _ _ _ (braces {p = p} {ps = ps} {b = b} {i = i} {is = is} {xs = xs} {ys = ys} {zs = zs} opened inner rest) h g =
      fills_all ps b is ys zs rest h.1
      (fills_all (laid k p.cell (types_within k p.type (k.initialisers i))) i (k.initialisers i) xs ys inner (laid_all p.cell (types_within k p.type (k.initialisers i)) (within_all p.type (k.initialisers i) h.0)) g)
  fills_all _ _ _ _ _ (whole {p = p} {ps = ps} {b = b} {i = i} {is = is} {xs = xs} {ys = ys} shut taken rest) h g =
      fills_all ps b is (xs ++ put p i b ∷ []) ys rest h.1 (every_appended IsEntry xs (put p i b ∷ []) g (h.0, tt))
  fills_all _ _ _ _ _ (elided {p = p} {ps = ps} {b = b} {i = i} {is = is} {xs = xs} {ys = ys} shut apart found rest) h g =
      fills_all (laid k p.cell (types_in k p.type) ++ ps) b (i ∷ is) xs ys rest
      (every_appended IsPlace (laid k p.cell (types_in k p.type)) ps (laid_all p.cell (types_in k p.type) (parts_all p.type h.0)) h.1) g
  fills_all _ _ _ _ _ (loses {p = p} {b = b} {i = i} {xs = xs} shut apart lost) h g = every_appended IsEntry xs (put p i b ∷ []) g (h.0, tt)

  plan_all : (type : Qualified) (above node : ℕ) (xs : List Entry) → IsPlan k type above node xs → P type → Every IsEntry xs
  plan_all type above node xs (by_expression shut is) h = subst (Every IsEntry) (sym is) (h, tt)
  plan_all type above node xs (by_list opened fills) h =
      fills_all (laid k 0 (types_of_object k type (k.initialisers node))) node (k.initialisers node) [] xs fills
      (laid_all 0 (types_of_object k type (k.initialisers node)) (object_all type (k.initialisers node) h)) tt

  -- ---- an initialised declarator, whose completed type has not too many cells (K7)

  pub record IsFilledSo (type : Qualified) (xs : List Entry) : Type 0 where
    pub named : P type
    pub entries : Every IsEntry xs

  filled_in : (i : ℕ) (before : List Layout) (object : Option Qualified) (o : Option ℕ) (q named : Qualified) (xs : List Entry) → before ≡ take at layouts → P q
      → ((type : Qualified) → object ≡ Some type → P type) → is_overfull before object named ≡ false → IsFilled k i (planned_in before object o) (type_or q object) named xs → IsFilledSo named xs
  filled_in i before None o q named xs same h g few f = record { named = subst P (sym f.0) h; entries = subst (Every IsEntry) (sym f.1) tt }
  filled_in i before (Some type) None q named xs same h g few f = record { named = subst P (sym f.0) (g type refl); entries = subst (Every IsEntry) (sym f.1) tt }
  filled_in i before (Some type) (Some initialiser) q named xs same h g few f = by (is_planned before type) f
    where
      by : (b : Bool) → IsFilled k i (planned_if b type initialiser) type named xs → IsFilledSo named xs
      by true x =
          let completed = subst P (sym x.is)
          (sized_bounded nodes layouts at at (omega arith) type (length_asked k type x.first) (g type refl)
          (sym (ap (λ t. is_open type && nat_lt most_cells (layout_of (take at layouts) t).cells) x.is) ∙ sym (ap (λ ls. is_open type && nat_lt most_cells (layout_of ls named).cells) same) ∙ few)) in
          record { named = completed; entries = plan_all named i initialiser xs x.plan completed }
      by false x = record { named = subst P (sym x.0) (g type refl); entries = subst (Every IsEntry) (sym x.1) tt }

  -- any node, by what it names before its initialiser is read
  pub filled_bounded : (c : Kind) (i : ℕ) (before : List Layout) (object : Option Qualified) (parts : List ℕ) (q named : Qualified) (xs : List Entry) → before ≡ take at layouts → P q
      → ((type : Qualified) → object ≡ Some type → P type) → (c ≡ kind.InitDeclarator → is_overfull before object named ≡ false)
      → IsFilled k i (planned_by c before object parts) (named_first c object q) named xs → IsFilledSo named xs
  filled_bounded kind.InitDeclarator i before object parts q named xs same h g few f = filled_in i before object (slice_get parts 1) q named xs same h g (few refl) f
  filled_bounded c i before object parts q named xs same h g few f = record { named = subst P (sym f.0) h; entries = subst (Every IsEntry) (sym f.1) tt }
