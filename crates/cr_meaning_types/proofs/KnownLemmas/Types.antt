-- What declarators, specifiers and other declarations make of types that are known.
use Rattle.std.proofs.Common.{◌≡◌, ℕ, zero, suc, Bool, true, false, ◌&&◌, ◌||◌, List, [], ◌∷◌, Option, None, Some, fold, slice_get, refl, sym, ap, ◌∙◌, if◌then◌else◌}
use Rattle.std.specs.Option.{is_some}
use Rattle.std.proofs.lemmas.Bool.{and_parts, false≢true}
use Rattle.cr_syntax.specs.declared.ctype.CType.{CType}
use Rattle.cr_syntax.specs.declared.ctype.CType.TheVariants.{Void, Int, Struct, Unknown}
use Rattle.cr_check_types.specs.Types.{Qualified, plain, pointer, array, unknown}
use Rattle.cr_check_types.specs.Relations.{are_same, are_compatible, bare, composite_of, qualified, turned, same}
use Rattle.cr_check_expressions.specs.declared.known.Declared.{Declared}
use Rattle.cr_check_expressions.specs.declared.known.Declared.TheVariants.{Object, Enumerator, Function, TypeName, Unclear}
use Rattle.cr_check_expressions.specs.Ruled.{is_type, is_word_of_type}
use Rattle.cr_check_declarators.specs.declared.words.Base.{Base}
use Rattle.cr_check_declarators.specs.declared.words.Base.TheVariants as base
use Rattle.cr_check_declarators.specs.declared.words.Specified.{Specified}
use Rattle.cr_check_declarators.specs.declared.words.Length.{Length}
use Rattle.cr_check_declarators.specs.declared.words.Length.TheVariants as lengths
use Rattle.cr_check_declarators.specs.declared.words.Sign.{Sign}
use Rattle.cr_check_declarators.specs.declared.words.Sign.TheVariants as sign
use Rattle.cr_check_declarators.specs.declared.declarator.Declarator.{Declarator}
use Rattle.cr_check_declarators.specs.declared.linkages.Declaration.{Declaration}
use Rattle.cr_check_declarators.specs.Specifiers.{nothing, both_bases, joined_of, integer_by, leaf_by, leaf_of, is_leaf, is_one_type_of, leaf_type, named_type}
use Rattle.cr_check_declarators.specs.Declarators.{is_unknown, is_refused, declared_type}
use Rattle.cr_check_declarators.specs.Functions.{adjusted_type, parameters_agree}
use Rattle.cr_check_declarations.specs.Specifiers.{is_given}
use Rattle.cr_check_declarations.specs.Named.{adjusted_if}
use Rattle.cr_check_initialisers.specs.Places.{sized}
use Rattle.cr_check_linkage.specs.NameTypes.{NameType, of_object, of_function, type_as, type_or, parameters_or, types_agree, composite_parameters, composite_type, joined_type}
use Rattle.cr_check_linkage.specs.Linked.{Past, linked_in, name_type_in, seen_with, seen_by}
use Rattle.cr_meaning_typing.specs.Typed.Typing.{has_value, is_worth}
use Rattle.cr_meaning_types.specs.Known.Known.{AllTyped}

-- ---- the composite of compatible types

same_worth : (of other : CType) → are_same of other ≡ true → is_worth other ≡ true → is_worth of ≡ true
same_worth Void Void e h = refl
same_worth (Int kind) (Int k) e h = refl
same_worth (Struct node) (Struct n) e h = refl
same_worth of Void e h = absurd (false≢true e)
same_worth of (Int k) e h = absurd (false≢true e)
same_worth of (Struct n) e h = absurd (false≢true e)
same_worth of other e h = absurd (false≢true h)

composite_worth : (t u : Qualified) → are_compatible t u ≡ true → has_value u ≡ true → has_value (composite_of t u) ≡ true
composite_worth (plain of c v) (plain other d w) e h = same_worth of other (and_parts (are_same of other) (same c d && same v w) e).0 h
composite_worth (plain of c v) (pointer d w t) e h = absurd (false≢true e)
composite_worth (plain of c v) (array n t) e h = absurd (false≢true e)
composite_worth (pointer c v t) (plain other d w) e h = refl
composite_worth (pointer c v t) (pointer d w u) e h = refl
composite_worth (pointer c v t) (array n u) e h = refl
composite_worth (array n t) (plain other d w) e h = refl
composite_worth (array n t) (pointer d w u) e h = refl
composite_worth (array n t) (array m u) e h = refl

same_word : (of other : CType) → are_same of other ≡ true → is_word_of_type other ≡ true → is_word_of_type of ≡ true
same_word Unknown Unknown e h = h
same_word Unknown other e h = absurd (false≢true e)
same_word of other e h = refl

composite_typed : (t u : Qualified) → are_compatible t u ≡ true → is_type u ≡ true → is_type (composite_of t u) ≡ true
composite_typed (plain of c v) (plain other d w) e h = same_word of other (and_parts (are_same of other) (same c d && same v w) e).0 h
composite_typed (plain of c v) (pointer d w t) e h = absurd (false≢true e)
composite_typed (plain of c v) (array n t) e h = absurd (false≢true e)
composite_typed (pointer c v t) (plain other d w) e h = refl
composite_typed (pointer c v t) (pointer d w u) e h = refl
composite_typed (pointer c v t) (array n u) e h = refl
composite_typed (array n t) (plain other d w) e h = refl
composite_typed (array n t) (pointer d w u) e h = refl
composite_typed (array n t) (array m u) e h = refl

bare_typed : (t : Qualified) → is_type t ≡ true → is_type (bare t) ≡ true
bare_typed (plain of c v) h = h
bare_typed (pointer c v t) h = refl
bare_typed (array n t) h = refl

composite_all : (ts us : List Qualified) → parameters_agree ts us ≡ true → AllTyped us → AllTyped (composite_parameters ts us)
composite_all [] us e h k type f = absurd (cc f)
composite_all (t ∷ ts) [] e h k type f = absurd (cc f)
composite_all (t ∷ ts) (u ∷ us) e h zero type f =
    let same : composite_of (bare t) (bare u) ≡ type = cc f in
    sym (ap is_type same) ∙ composite_typed (bare t) (bare u) (and_parts (are_compatible (bare t) (bare u)) (parameters_agree ts us) e).0 (bare_typed u (h 0 u refl))
composite_all (t ∷ ts) (u ∷ us) e h (suc k) type f = composite_all ts us (and_parts (are_compatible (bare t) (bare u)) (parameters_agree ts us) e).1 (λ m x g. h (suc m) x g) k type f

-- ---- the type of a name that is declared before

agreed : (q : Qualified) (earlier own : NameType) → types_agree earlier own ≡ true → has_value (type_or q own) ≡ true → has_value (type_or q (composite_type earlier own)) ≡ true
agreed q (of_object t) (of_object u) e h = composite_worth t u e h
agreed q (of_function f) (of_function g) e h = composite_worth f.result g.result (and_parts _ _ (and_parts _ _ e).1).0 h
agreed q earlier own e h = absurd (false≢true e)

joined_worth : (q : Qualified) (earlier own : NameType) → has_value (type_or q own) ≡ true → has_value (type_or q (joined_type earlier own)) ≡ true
joined_worth q earlier own h = by (types_agree earlier own) refl
  where
    by : (b : Bool) → types_agree earlier own ≡ b → has_value (type_or q (if b then composite_type earlier own else own)) ≡ true
    by false e = h
    by true e = agreed q earlier own e h

pub seen_worth : (q : Qualified) (linked : Option Declaration) (past : Past) (earlier : Option ℕ) (own : NameType) → has_value (type_or q own) ≡ true → has_value (type_or q (seen_by linked past earlier own)) ≡ true
seen_worth q None past earlier own h = h
seen_worth q (Some d) past earlier own h = by (linked_in past.linked earlier)
  where
    by : (o : Option Declaration) → has_value (type_or q (seen_with o (name_type_in past.seen earlier) own)) ≡ true
    by None = h
    by (Some x) = joined_worth q (name_type_in past.seen earlier) own h

all_agreed : (qs : List Qualified) (earlier own : NameType) → types_agree earlier own ≡ true → AllTyped (parameters_or qs own) → AllTyped (parameters_or qs (composite_type earlier own))
all_agreed qs (of_object t) (of_object u) e h = h
all_agreed qs (of_function f) (of_function g) e h = composite_all f.parameters g.parameters (and_parts _ _ (and_parts _ _ e).1).1 h
all_agreed qs earlier own e h = absurd (false≢true e)

all_joined : (qs : List Qualified) (earlier own : NameType) → AllTyped (parameters_or qs own) → AllTyped (parameters_or qs (joined_type earlier own))
all_joined qs earlier own h = by (types_agree earlier own) refl
  where
    by : (b : Bool) → types_agree earlier own ≡ b → AllTyped (parameters_or qs (if b then composite_type earlier own else own))
    by false e = h
    by true e = all_agreed qs earlier own e h

pub all_seen : (qs : List Qualified) (linked : Option Declaration) (past : Past) (earlier : Option ℕ) (own : NameType) → AllTyped (parameters_or qs own) → AllTyped (parameters_or qs (seen_by linked past earlier own))
all_seen qs None past earlier own h = h
all_seen qs (Some d) past earlier own h = by (linked_in past.linked earlier)
  where
    by : (o : Option Declaration) → AllTyped (parameters_or qs (seen_with o (name_type_in past.seen earlier) own))
    by None = h
    by (Some x) = all_joined qs (name_type_in past.seen earlier) own h

pub as_worth : (q : Qualified) (d : Declared) (ps : List Qualified) → has_value q ≡ true → has_value (type_or q (type_as d q ps)) ≡ true
as_worth q (Object row register) ps h = h
as_worth q (Enumerator value) ps h = h
as_worth q (Function row more) ps h = h
as_worth q TypeName ps h = h
as_worth q Unclear ps h = h

pub all_as : (q : Qualified) (d : Declared) (ps : List Qualified) → AllTyped ps → AllTyped (parameters_or ps (type_as d q ps))
all_as q (Object row register) ps h = h
all_as q (Enumerator value) ps h = h
all_as q (Function row more) ps h = h
all_as q TypeName ps h = h
all_as q Unclear ps h = h

-- ---- derived types

turned_worth : (t of : Qualified) → has_value of ≡ true → has_value (turned t of) ≡ true
turned_worth (plain other c v) of h = h
turned_worth (pointer c v t) of h = turned_worth t (pointer c v of) refl
turned_worth (array n t) of h = turned_worth t (array n of) refl

pub adjusted_worth : (t : Qualified) → has_value t ≡ true → has_value (adjusted_type t) ≡ true
adjusted_worth (plain of c v) h = h
adjusted_worth (pointer c v t) h = refl
adjusted_worth (array n t) h = refl

known_leaf : (t : Qualified) → has_value t ≡ true → is_unknown t ≡ false
known_leaf (plain Unknown c v) h = absurd (false≢true h)
known_leaf (plain of c v) h = refl
known_leaf (pointer c v t) h = refl
known_leaf (array n t) h = refl

pub declared_worth : (parameter : Bool) (own : Declarator) (derived of : Qualified) → is_refused own ≡ false → has_value of ≡ true → has_value (adjusted_if parameter (declared_type own derived of)) ≡ true
declared_worth parameter own derived of e h = adjusts parameter (declared_type own derived of) (by (is_refused own) (is_unknown of) e (known_leaf of h))
  where
    by : (a b : Bool) → a ≡ false → b ≡ false → has_value (if a || b then unknown else turned derived of) ≡ true
    by false false f g = turned_worth derived of h
    by true b f g = absurd (false≢true (sym f))
    by a true f g = absurd (false≢true (sym g))

    adjusts : (b : Bool) (t : Qualified) → has_value t ≡ true → has_value (adjusted_if b t) ≡ true
    adjusts true t h = adjusted_worth t h
    adjusts false t h = h

pub sized_worth : (t : Qualified) (n : ℕ) → has_value t ≡ true → has_value (sized t n) ≡ true
sized_worth (plain of c v) n h = h
sized_worth (pointer c v t) n h = refl
sized_worth (array m t) n h = refl

-- ---- specifiers

qualified_worth : (c v : Bool) (t : Qualified) → has_value t ≡ true → has_value (qualified c v t) ≡ true
qualified_worth c v (plain of d w) h = h
qualified_worth c v (pointer d w t) h = refl
qualified_worth c v (array n t) h = refl

integer_worth : (l : Length) (s : Sign) (given : Qualified) → is_leaf (integer_by l s) ≡ true → has_value (leaf_type (integer_by l s) given) ≡ true
integer_worth lengths.Unsaid sign.Unsaid given e = refl
integer_worth lengths.Unsaid sign.Several given e = absurd (false≢true e)
integer_worth lengths.Unsaid s given e = refl
integer_worth lengths.Short sign.Unsaid given e = refl
integer_worth lengths.Short sign.Several given e = absurd (false≢true e)
integer_worth lengths.Short s given e = refl
integer_worth lengths.Long sign.Unsaid given e = refl
integer_worth lengths.Long sign.Several given e = absurd (false≢true e)
integer_worth lengths.Long s given e = refl
integer_worth lengths.LongLong sign.Unsaid given e = refl
integer_worth lengths.LongLong sign.Several given e = absurd (false≢true e)
integer_worth lengths.LongLong s given e = refl
integer_worth lengths.Several sign.Unsaid given e = absurd (false≢true e)
integer_worth lengths.Several s given e = absurd (false≢true e)

leaf_worth : (b : Base) (l : Length) (s : Sign) (given : Qualified) → is_leaf (leaf_by b l s) ≡ true → (b ≡ base.Given → has_value given ≡ true) → has_value (leaf_type (leaf_by b l s) given) ≡ true
leaf_worth base.Given lengths.Unsaid sign.Unsaid given e h = h refl
leaf_worth base.Given lengths.Unsaid s given e h = absurd (false≢true e)
leaf_worth base.Given l s given e h = absurd (false≢true e)
leaf_worth base.Void lengths.Unsaid sign.Unsaid given e h = refl
leaf_worth base.Void lengths.Unsaid s given e h = absurd (false≢true e)
leaf_worth base.Void l s given e h = absurd (false≢true e)
leaf_worth base.Bool lengths.Unsaid sign.Unsaid given e h = refl
leaf_worth base.Bool lengths.Unsaid s given e h = absurd (false≢true e)
leaf_worth base.Bool l s given e h = absurd (false≢true e)
leaf_worth base.Char lengths.Unsaid sign.Several given e h = absurd (false≢true e)
leaf_worth base.Char lengths.Unsaid s given e h = refl
leaf_worth base.Char l s given e h = absurd (false≢true e)
leaf_worth base.Int l s given e h = integer_worth l s given e
leaf_worth base.Unsaid lengths.Unsaid sign.Unsaid given e h = absurd (false≢true e)
leaf_worth base.Unsaid lengths.Unsaid s given e h = integer_worth lengths.Unsaid s given e
leaf_worth base.Unsaid l s given e h = integer_worth l s given e
leaf_worth base.Several l s given e h = absurd (false≢true e)

pub named_worth : (said : Specified) (given : Qualified) → is_one_type_of said ≡ true → (said.base ≡ base.Given → has_value given ≡ true) → has_value (named_type said given) ≡ true
named_worth said given e h = qualified_worth said.constant (is_some said.volatile) (leaf_type (leaf_of said) given) (leaf_worth said.base said.length said.sign given e h)

-- the type that is given among several specifiers is that of the last one that gives one
one_given : (x y : Base) → is_given y ≡ false → both_bases x y ≡ base.Given → x ≡ base.Given
one_given base.Unsaid y e h = absurd (false≢true (sym e ∙ ap is_given h))
one_given x base.Unsaid e h = h
one_given x base.Given e h = absurd (false≢true (sym e))
one_given x y e h = absurd (false≢true (ap is_given h))

abbrev pub gives : (ℕ → Specified) → (ℕ → Qualified) → Qualified → ℕ → Qualified
gives at named given part = if is_given (at part).base then named part else given

given_next : (at : ℕ → Specified) (named : ℕ → Qualified) (said : Specified) (given : Qualified) (part : ℕ) → (said.base ≡ base.Given → has_value given ≡ true)
    → (is_given (at part).base ≡ true → has_value (named part) ≡ true) → (joined_of said (at part)).base ≡ base.Given → has_value (gives at named given part) ≡ true
given_next at named said given part h g e = by (is_given (at part).base) refl
  where
    by : (b : Bool) → is_given (at part).base ≡ b → has_value (if b then named part else given) ≡ true
    by true f = g f
    by false f = h (one_given said.base (at part).base f e)

given_from : (at : ℕ → Specified) (named : ℕ → Qualified) (parts : List ℕ) (said : Specified) (given : Qualified) → (said.base ≡ base.Given → has_value given ≡ true)
    → ((k part : ℕ) → slice_get parts k ≡ Some part → is_given (at part).base ≡ true → has_value (named part) ≡ true)
    → (fold (λ own part. joined_of own (at part)) said parts).base ≡ base.Given → has_value (fold (λ own part. gives at named own part) given parts) ≡ true
given_from at named [] said given h g e = h e
given_from at named (part ∷ parts) said given h g e =
    given_from at named parts (joined_of said (at part)) (gives at named given part) (given_next at named said given part h (g 0 part refl)) (λ k p f. g (suc k) p f) e

pub given_worth : (at : ℕ → Specified) (named : ℕ → Qualified) (parts : List ℕ) → ((k part : ℕ) → slice_get parts k ≡ Some part → is_given (at part).base ≡ true → has_value (named part) ≡ true)
    → (fold (λ own part. joined_of own (at part)) nothing parts).base ≡ base.Given → has_value (fold (λ own part. gives at named own part) unknown parts) ≡ true
given_worth at named parts g e = given_from at named parts nothing unknown (λ f. absurd (unsaid f)) g e
  where
    unsaid : base.Unsaid ≡ base.Given → ⊥
    unsaid f = false≢true (ap is_given f)
