-- A declarator hands on the parameters of the function declarator inside it, and joined with earlier declarations they have the same heads.
use Rattle.std.proofs.Common.{◌≡◌, ℕ, zero, suc, ◌<◌, Bool, true, false, not, List, [], ◌∷◌, Option, None, Some, map, nat_lt, slice_get, slice_index_or, refl, sym, subst, ap, ◌∙◌, arith, if◌then◌else◌}
use Rattle.std.specs.Option.{is_some}
use Rattle.std.proofs.lemmas.Bool.{false≢true}
use Rattle.std.proofs.lemmas.List.{get_or-take}
use Rattle.cr_syntax.specs.declared.node.Kind.{Kind}
use Rattle.cr_syntax.specs.declared.node.Kind.TheVariants as kind
use Rattle.cr_syntax.specs.declared.node.Node.{Node}
use Rattle.cr_scopes_events.specs.declared.declarator.Declarator.{Declarator as Named}
use Rattle.cr_scopes_events.specs.Values.{before}
use Rattle.cr_scopes_events.specs.Declarators.{nowhere, in_first, declared_by as names_by, declared_if, declarator_of}
use Rattle.cr_scopes_events.proofs.Descents.{declarator_ruled}
use Rattle.cr_check_types.specs.declared.shape.Shape.{Shape}
use Rattle.cr_check_types.specs.Types.{Qualified, type_at}
use Rattle.cr_check_expressions.specs.declared.known.Declared.{Declared}
use Rattle.cr_check_expressions.specs.declared.known.Declared.TheVariants.{Object, Enumerator, Function, TypeName, Unclear}
use Rattle.cr_check_expressions.specs.Known.{spelling_of}
use Rattle.cr_check_declarators.specs.declared.words.Specified.{Specified}
use Rattle.cr_check_declarators.specs.declared.declarator.Declarator.{Declarator}
use Rattle.cr_check_declarators.specs.declared.declarator.Size.{Size}
use Rattle.cr_check_declarators.specs.declared.declarator.Size.TheVariants as size
use Rattle.cr_check_declarators.specs.declared.enumerators.Enumerated.{Enumerated}
use Rattle.cr_check_declarators.specs.declared.linkages.Declaration.{Declaration}
use Rattle.cr_check_declarators.specs.Declarators.{name_alone, is_hole_type, array_of, function_by}
use Rattle.cr_check_declarators.specs.Functions.{adjusted_type}
use Rattle.cr_check_declarations.specs.declared.tree.Tree.{Tree}
use Rattle.cr_check_declarations.specs.Before.{Before, kind_if, kind_in, parts_if, parts_in, declarator_in}
use Rattle.cr_check_declarations.specs.Declarators.{size_in, bracket_before, inner_derived, declarator_by}
use Rattle.cr_check_declarations.specs.Named.{is_declarator, is_declaration, is_initialised, above_in, declaration_at, declaration_of, declares_name, declared_by, listed_by, parameter_nodes, parameters_in, parameters_by}
use Rattle.cr_check_linkage.specs.NameTypes.{NameType, of_object, of_function, of_none, type_as, parameters_or}
use Rattle.cr_check_linkage.specs.Linked.{Past, linked_in, name_type_in, linked_by, with_linked, declaration_by, linkage_by, seen_with, seen_by}
use Rattle.cr_check_unit.specs.declared.typing.Typing.{Typing}
use Rattle.cr_check_unit.specs.Typing.{cut, entry_at, before_in, past_in, own_named, own_type, seen_type, IsRuled, IsRuledIf, IsTyping}
use Rattle.cr_check_signatures.specs.Functions.Outlines.{head, outline}
use Rattle.cr_check_signatures.proofs.FunctionsLemmas.Outlines.{joined_alike}
use Rattle.cr_check_signatures.specs.Parameters.Laws
use Rattle.cr_check_signatures.specs.Parameters.Laws.{AreParted, listed_types}

-- ---- lists

mapped : (f g : ℕ → Qualified) (ps : List ℕ) → ((k p : ℕ) → slice_get ps k ≡ Some p → f p ≡ g p) → map f ps ≡ map g ps
mapped f g [] h = refl
mapped f g (p ∷ ps) h = (λ j. h 0 p refl j ∷ mapped f g ps (λ k q e. h (suc k) q e) j)

-- ---- kinds

-- what has a declared name is a declarator
pub names_declare : (k : Kind) (at : ℕ → Named) (i : ℕ) (n : Node) (token : ℕ) → (names_by k at i n).name ≡ Some token → is_declarator k ≡ true
names_declare kind.NameDeclarator at i n token e = refl
names_declare kind.GroupDeclarator at i n token e = refl
names_declare kind.PointerDeclarator at i n token e = refl
names_declare kind.ArrayDeclarator at i n token e = refl
names_declare kind.FunctionDeclarator at i n token e = refl
names_declare k at i n token e = absurd cc

-- a declarator with another one inside it
abbrev is_deriving : Kind → Bool
is_deriving kind.GroupDeclarator = true
is_deriving kind.PointerDeclarator = true
is_deriving kind.ArrayDeclarator = true
is_deriving kind.FunctionDeclarator = true
is_deriving k = false

-- what is inside is no declarator of a declaration
no_declaration : (k : Kind) → is_deriving k ≡ true → (x : Option ℕ) (y : ℕ) → (if is_initialised (Some k) then x else (if is_declaration (Some k) then Some y else None)) ≡ None
no_declaration kind.GroupDeclarator h x y = refl
no_declaration kind.PointerDeclarator h x y = refl
no_declaration kind.ArrayDeclarator h x y = refl
no_declaration kind.FunctionDeclarator h x y = refl
no_declaration k h x y = absurd (false≢true h)

-- so it has no linkage, and declares nothing
no_linkage : (k : Kind) (u : Tree) (said : ℕ → Specified) (own : Declarator) (linked : ℕ → Option Declaration) (i : ℕ) (n : Node) → is_declarator k ≡ true → declaration_of u.nodes.now u.above.now i ≡ None
    → linked_by k u said own linked i n ≡ None
no_linkage kind.InitDeclarator u said own linked i n d e = absurd (false≢true d)
no_linkage k u said own linked i n d e =
    ap (λ b. if b then with_linked (linked_in linked (slice_index_or u.same.now i None)) (declaration_by u i (linkage_by u said own (linked_in linked (slice_index_or u.earlier.now i None)) i (declaration_of u.nodes.now u.above.now i)) (declaration_of u.nodes.now u.above.now i)) else None) d
    ∙ ap (λ o. with_linked (linked_in linked (slice_index_or u.same.now i None)) (declaration_by u i (linkage_by u said own (linked_in linked (slice_index_or u.earlier.now i None)) i o) o)) e

if_unclear : (b : Bool) → (if b then Unclear else Unclear) ≡ Unclear
if_unclear true = refl
if_unclear false = refl

no_name : (k : Kind) (nodes : List Node) (said : ℕ → Specified) (own : Declarator) (row : ℕ) (e : Option Enumerated) → is_declarator k ≡ true → declared_by k nodes said own row e None ≡ Unclear
no_name kind.Enumerator nodes said own row e d = absurd (false≢true d)
no_name k nodes said own row e d = if_unclear (declares_name k)

-- ---- types

seen_alike : (linked : Option Declaration) (past : Past) (earlier : Option ℕ) (own : NameType) → outline (seen_by linked past earlier own) ≡ outline own
seen_alike None past earlier own = refl
seen_alike (Some d) past earlier own = by (linked_in past.linked earlier)
  where
    by : (o : Option Declaration) → outline (seen_with o (name_type_in past.seen earlier) own) ≡ outline own
    by None = refl
    by (Some x) = joined_alike (name_type_in past.seen earlier) own

abbrev heads_of : NameType → List Qualified
heads_of (of_object type) = []
heads_of (of_function f) = f.parameters
heads_of of_none = []

heads_kept : (d : Declared) (named : Qualified) (base : List Qualified) (c : NameType) → outline c ≡ outline (type_as d named base) → map head (parameters_or base c) ≡ map head base
heads_kept (Function row more) named base (of_function f) e = ap heads_of e
heads_kept (Object row register) named base (of_function f) e = absurd cc
heads_kept (Enumerator value) named base (of_function f) e = absurd cc
heads_kept TypeName named base (of_function f) e = absurd cc
heads_kept Unclear named base (of_function f) e = absurd cc
heads_kept d named base (of_object type) e = refl
heads_kept d named base of_none e = refl

-- ---- declarators

pub array_function : (inner : Declarator) (bracket : ℕ) (s : Size) → (array_of inner bracket s).function ≡ inner.function
array_function inner bracket size.Open = refl
array_function inner bracket size.Untyped = refl
array_function inner bracket size.Wrong = refl
array_function inner bracket (size.Known count) = refl

array_misplaced : (inner : Declarator) (bracket : ℕ) (s : Size) → (array_of inner bracket s).misplaced ≡ inner.misplaced
array_misplaced inner bracket size.Open = refl
array_misplaced inner bracket size.Untyped = refl
array_misplaced inner bracket size.Wrong = refl
array_misplaced inner bracket (size.Known count) = refl

-- the function is that of the list where none is misplaced
own_list : (o : Option ℕ) (bare : Bool) (inner : Declarator) (node : ℕ) (empty : Bool) (l : ℕ) → o ≡ inner.function → (function_by o bare inner node empty).misplaced ≡ false → (function_by o bare inner node empty).function ≡ Some l
    → node ≡ l
own_list None true inner node empty l e m f = cc
own_list None false inner node empty l e m f = absurd (false≢true (sym m))
own_list (Some x) bare inner node empty l e m f = absurd (false≢true (sym m))

module _ (u : Tree) (texts : List (List ℕ)) (shapes : List Shape) (t : Typing) (h : IsTyping u texts shapes t) (parted : AreParted u) where
  abbrev look : ℕ → Qualified
  look = type_at shapes

  abbrev own : ℕ → Declarator
  own p = (entry_at t p).own.declarator

  abbrev named : ℕ → Qualified
  named p = look (slice_index_or t.named p 0)

  abbrev earlier : ℕ → Before
  earlier p = before_in shapes (cut p t)

  abbrev spelling : ℕ → List ℕ
  spelling = spelling_of u.file.now u.tokens.now

  ruled : (i : ℕ) (n : Node) → slice_get u.nodes.now i ≡ Some n → IsRuled u texts shapes (cut i t) (entry_at t i) i n
  ruled i n at = subst (IsRuledIf u texts shapes (cut i t) (entry_at t i) i) at (h.each i)

  -- ---- names

  name_ruled : (a token : ℕ) (m : Node) → slice_get u.nodes.now a ≡ Some m → (declarator_of u.nodes.now a).name ≡ Some token → (names_by m.kind (before nowhere a (declarator_of u.nodes.now)) a m).name ≡ Some token
  name_ruled a token m at e =
      ap (λ o. (declared_if o (before nowhere a (declarator_of u.nodes.now)) a).name) (sym at) ∙ ap (λ (d : Named). d.name) (sym (declarator_ruled u.nodes.now a)) ∙ e

  record HasInner (a token : ℕ) (ps : List ℕ) : Type 0 where
    part : ℕ
    is : slice_get ps 0 ≡ Some part
    name : (declarator_of u.nodes.now part).name ≡ Some token

  inner : (a token : ℕ) (ps : List ℕ) → (in_first (before nowhere a (declarator_of u.nodes.now)) ps).name ≡ Some token → HasInner a token ps
  inner a token [] e = absurd cc
  inner a token (b ∷ ps) e = by (nat_lt b a) e
    where
      by : (c : Bool) → (if c then declarator_of u.nodes.now b else nowhere).name ≡ Some token → HasInner a token (b ∷ ps)
      by true f = record { part = b; is = refl; name = f }
      by false f = absurd cc

  node_there : (a token : ℕ) → (declarator_of u.nodes.now a).name ≡ Some token → (m : Node) × (slice_get u.nodes.now a ≡ Some m)
  node_there a token e = by (slice_get u.nodes.now a) refl
    where
      by : (o : Option Node) → slice_get u.nodes.now a ≡ o → (m : Node) × (slice_get u.nodes.now a ≡ Some m)
      by (Some m) at = (m, at)
      by None at =
          let never : None ≡ Some token = ap (λ o. (declared_if o (before nowhere a (declarator_of u.nodes.now)) a).name) (sym at) ∙ ap (λ (d : Named). d.name) (sym (declarator_ruled u.nodes.now a)) ∙ e in
          absurd cc

  -- ---- a declarator inside another one

  alone : (a b : ℕ) (m : Node) → slice_get u.nodes.now a ≡ Some m → is_deriving m.kind ≡ true → slice_get m.parts 0 ≡ Some b → declaration_of u.nodes.now u.above.now b ≡ None
  alone a b m at derives e =
      ap (λ o. if is_initialised (kind_in u.nodes.now o) then declaration_at u.nodes.now (above_in u.above.now o) else declaration_at u.nodes.now o) (parted.above a 0 b m at e)
      ∙ ap (λ k. if is_initialised k then declaration_at u.nodes.now (above_in u.above.now (Some a)) else (if is_declaration k then Some a else None)) (ap kind_if at)
      ∙ no_declaration m.kind derives (declaration_at u.nodes.now (above_in u.above.now (Some a))) a

  base : (a : ℕ) → Node → List Qualified
  base a m = parameters_by m.kind u.nodes.now (earlier a) m

  inner_has : (b : ℕ) (n : Node) → slice_get u.nodes.now b ≡ Some n → is_declarator n.kind ≡ true → declaration_of u.nodes.now u.above.now b ≡ None
      → map look (slice_index_or t.parameters b []) ≡ parameters_by n.kind u.nodes.now (earlier b) n
  inner_has b n at is none =
      r.parameters ∙ ap (λ l. parameters_or ps (seen_by l (past_in shapes (cut b t)) (slice_index_or u.earlier.now b None) (own_type shapes u (cut b t) (entry_at t b) b n))) unlinked
      ∙ ap (λ d. parameters_or ps (type_as d (own_named shapes u (cut b t) (entry_at t b) b n) ps)) nothing
    where
      r : IsRuled u texts shapes (cut b t) (entry_at t b) b n
      r = ruled b n at

      ps : List Qualified
      ps = parameters_by n.kind u.nodes.now (earlier b) n

      unlinked : (entry_at t b).linked ≡ None
      unlinked = r.linked ∙ no_linkage n.kind u (earlier b).specified (own b) (past_in shapes (cut b t)).linked b n is none

      nothing : declared_by n.kind u.nodes.now (earlier b).specified (own b) 0 (entry_at t b).own.enumerated (declaration_of u.nodes.now u.above.now b) ≡ Unclear
      nothing =
          ap (declared_by n.kind u.nodes.now (earlier b).specified (own b) 0 (entry_at t b).own.enumerated) none
          ∙ no_name n.kind u.nodes.now (earlier b).specified (own b) 0 (entry_at t b).own.enumerated is

  -- ---- the list next to the name

  module _ (token l : ℕ) where
    abbrev Has : ℕ → Node → Type 0
    Has a m = parameters_by m.kind u.nodes.now (earlier a) m ≡ listed_types u shapes t l

    abbrev Rest : ℕ → Type 0
    Rest a = (b : ℕ) (n : Node) → b < a → slice_get u.nodes.now b ≡ Some n → (declarator_of u.nodes.now b).name ≡ Some token → (own b).misplaced ≡ false → (own b).function ≡ Some l → Has b n

    module _ (a : ℕ) (m : Node) (at : slice_get u.nodes.now a ≡ Some m) (rest : Rest a) where
      abbrev first : Declarator
      first = declarator_in (earlier a).declarator (slice_get m.parts 0)

      -- the parameters of the inner declarator
      handed : is_deriving m.kind ≡ true → HasInner a token m.parts → first.misplaced ≡ false → first.function ≡ Some l → parameters_in (earlier a) (slice_get m.parts 0) ≡ listed_types u shapes t l
      handed derives x misplaced function =
          ap (parameters_in (earlier a)) x.is ∙ ap (map look) (get_or-take a t.parameters x.part [] low)
          ∙ inner_has x.part n.0 n.1 is (alone a x.part m at derives x.is)
          ∙ rest x.part n.0 low n.1 x.name (ap (λ (d : Declarator). d.misplaced) (sym own_is) ∙ misplaced) (ap (λ (d : Declarator). d.function) (sym own_is) ∙ function)
        where
          low : x.part < a
          low = parted.below a 0 x.part m at x.is

          n : (n : Node) × (slice_get u.nodes.now x.part ≡ Some n)
          n = node_there x.part token x.name

          is : is_declarator n.0.kind ≡ true
          is = names_declare n.0.kind (before nowhere x.part (declarator_of u.nodes.now)) x.part n.0 token (name_ruled x.part token n.0 n.1 x.name)

          own_is : first ≡ own x.part
          own_is = ap (declarator_in (earlier a).declarator) x.is ∙ get_or-take a t.declarators x.part name_alone low

      -- the parameters of a list stand below it
      listed_low : (k p : ℕ) → slice_get (parameter_nodes u.nodes.now (slice_get m.parts 1)) k ≡ Some p → p < a
      listed_low k p e = by (slice_get m.parts 1) refl e
        where
          lone : (x j : ℕ) → x < a → slice_get (x ∷ []) j ≡ Some p → p < a
          lone x zero low f = let same : x ≡ p = cc in subst (λ y. y < a) same low
          lone x (suc j) low f = absurd cc

          part : (x : ℕ) → x < a → (o : Option Node) → slice_get u.nodes.now x ≡ o → slice_get (parts_if o) k ≡ Some p → p < a
          part x low None f g = absurd cc
          part x low (Some n) f g = let less = parted.below x k p n f g in omega (arith, low, less)

          kinds : (x : ℕ) → x < a → (o : Option Kind) → slice_get (listed_by o (parts_in u.nodes.now (Some x)) x) k ≡ Some p → p < a
          kinds x low (Some kind.VoidParameters) f = absurd cc
          kinds x low (Some kind.Parameters) f = part x low (slice_get u.nodes.now x) refl f
          kinds x low (Some kind.VariadicParameters) f = part x low (slice_get u.nodes.now x) refl f
          kinds x low o f = lone x k low f

          by : (o : Option ℕ) → slice_get m.parts 1 ≡ o → slice_get (parameter_nodes u.nodes.now o) k ≡ Some p → p < a
          by None f g = absurd cc
          by (Some x) f g = kinds x (parted.below a 1 x m at f) (kind_in u.nodes.now (Some x)) g

      -- those of its own list
      itself : a ≡ l → map (λ p. adjusted_type ((earlier a).named p)) (parameter_nodes u.nodes.now (slice_get m.parts 1)) ≡ listed_types u shapes t l
      itself same =
          mapped (λ p. adjusted_type ((earlier a).named p)) (λ p. adjusted_type (named p)) (parameter_nodes u.nodes.now (slice_get m.parts 1))
          (λ k p e. ap (λ row. adjusted_type (look row)) (get_or-take a t.named p 0 (listed_low k p e)))
          ∙ ap (λ ps. map (λ p. adjusted_type (named p)) (parameter_nodes u.nodes.now (slice_get ps 1))) (sym (ap parts_if at))
          ∙ ap (listed_types u shapes t) same

      by_kind : (k : Kind) → m.kind ≡ k → (names_by k (before nowhere a (declarator_of u.nodes.now)) a m).name ≡ Some token
          → (declarator_by k spelling u.nodes.now (earlier a) a m).misplaced ≡ false → (declarator_by k spelling u.nodes.now (earlier a) a m).function ≡ Some l
          → parameters_by k u.nodes.now (earlier a) m ≡ listed_types u shapes t l
      by_kind kind.NameDeclarator is e misplaced function = absurd cc
      by_kind kind.GroupDeclarator is e misplaced function = handed (ap is_deriving is) (inner a token m.parts e) misplaced function
      by_kind kind.PointerDeclarator is e misplaced function = handed (ap is_deriving is) (inner a token m.parts e) misplaced function
      by_kind kind.ArrayDeclarator is e misplaced function =
          let bracket = bracket_before u.nodes.now m (slice_get m.parts 1) in
          let s = size_in (earlier a).seen (slice_get m.parts 1) in
          handed (ap is_deriving is) (inner a token m.parts e) (sym (array_misplaced first bracket s) ∙ misplaced) (sym (array_function first bracket s) ∙ function)
      by_kind kind.FunctionDeclarator is e misplaced function =
          itself (own_list first.function (is_hole_type (inner_derived (earlier a) (slice_get m.parts 0))) first a (not (is_some (slice_get m.parts 1))) l refl misplaced function)
      by_kind k is e misplaced function = absurd cc

      has : (declarator_of u.nodes.now a).name ≡ Some token → (own a).misplaced ≡ false → (own a).function ≡ Some l → Has a m
      has e misplaced function =
          let r = (ruled a m at).declarator in
          by_kind m.kind refl (name_ruled a token m at e) (ap (λ (d : Declarator). d.misplaced) (sym r) ∙ misplaced) (ap (λ (d : Declarator). d.function) (sym r) ∙ function)

    below : (fuel : ℕ) → Rest fuel
    below zero b n low at e misplaced function = absurd (omega (arith, low))
    below (suc fuel) b n low at e misplaced function = has b n at (λ c y less. below fuel c y (omega (arith, low, less))) e misplaced function

  -- ---- so of a whole declarator

  whole : (p token l : ℕ) → (declarator_of u.nodes.now p).name ≡ Some token → (own p).misplaced ≡ false → (own p).function ≡ Some l
      → map head (map look (slice_index_or t.parameters p [])) ≡ map head (listed_types u shapes t l)
  whole p token l e misplaced function =
      ap (map head) r.parameters
      ∙ heads_kept declared (own_named shapes u (cut p t) (entry_at t p) p n.0) ps (seen_type shapes u (cut p t) (entry_at t p) p n.0)
      (seen_alike (entry_at t p).linked (past_in shapes (cut p t)) (slice_index_or u.earlier.now p None) (own_type shapes u (cut p t) (entry_at t p) p n.0))
      ∙ ap (map head) (below token l (suc p) p n.0 (omega arith) n.1 e misplaced function)
    where
      n : (n : Node) × (slice_get u.nodes.now p ≡ Some n)
      n = node_there p token e

      r : IsRuled u texts shapes (cut p t) (entry_at t p) p n.0
      r = ruled p n.0 n.1

      ps : List Qualified
      ps = parameters_by n.0.kind u.nodes.now (earlier p) n.0

      declared : Declared
      declared = declared_by n.0.kind u.nodes.now (earlier p).specified (own p) 0 (entry_at t p).own.enumerated (declaration_of u.nodes.now u.above.now p)

pub listed : Laws.ParametersAreListed
listed u texts shapes t h parted p token l e misplaced function = whole u texts shapes t h parted p token l e misplaced function
