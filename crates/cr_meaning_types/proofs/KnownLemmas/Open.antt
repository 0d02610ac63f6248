-- What is made of types that are no arrays of unknown size is none (C11 6.2.7p3, 6.7.6).
use Rattle.std.proofs.Common.{◌≡◌, ℕ, suc, ◌==◌, ◌&&◌, Bool, true, false, not, List, [], ◌∷◌, Option, None, Some, fold, slice_get, refl, if◌then◌else◌}
use Rattle.std.proofs.lemmas.Bool.{and_parts, false≢true}
use Rattle.cr_check_types.specs.Types.{Qualified, plain, pointer, array, unknown}
use Rattle.cr_check_types.specs.Relations.{are_compatible, known_size, composite_of, qualified, turned}
use Rattle.cr_check_expressions.specs.declared.known.Declared.{Declared}
use Rattle.cr_check_expressions.specs.declared.known.Declared.TheVariants.{Object, Enumerator, Function, TypeName, Unclear}
use Rattle.cr_check_declarators.specs.declared.words.Base.{Base}
use Rattle.cr_check_declarators.specs.declared.words.Base.TheVariants as base
use Rattle.cr_check_declarators.specs.declared.words.Length.{Length}
use Rattle.cr_check_declarators.specs.declared.words.Length.TheVariants as lengths
use Rattle.cr_check_declarators.specs.declared.words.Sign.{Sign}
use Rattle.cr_check_declarators.specs.declared.words.Sign.TheVariants as sign
use Rattle.cr_check_declarators.specs.declared.words.Specified.{Specified}
use Rattle.cr_check_declarators.specs.declared.declarator.Declarator.{Declarator}
use Rattle.cr_check_declarators.specs.declared.linkages.Declaration.{Declaration}
use Rattle.cr_check_declarators.specs.Specifiers.{integer_by, leaf_by, leaf_of, leaf_type, named_type}
use Rattle.cr_check_declarators.specs.Declarators.{is_unjudged, declared_type}
use Rattle.cr_check_declarators.specs.Functions.{adjusted_type}
use Rattle.cr_check_declarations.specs.Specifiers.{is_given}
use Rattle.cr_check_declarations.specs.Named.{adjusted_if}
use Rattle.cr_check_linkage.specs.NameTypes.{NameType, of_object, of_function, type_as, type_or, types_agree, composite_type, joined_type}
use Rattle.cr_check_linkage.specs.Linked.{Past, linked_in, name_type_in, seen_with, seen_by}
use Rattle.cr_meaning_types.specs.Known.Sized.{is_open}
use Rattle.cr_meaning_types.proofs.KnownLemmas.Types.{gives}

if_closed : (b : Bool) (x y : Qualified) → is_open x ≡ false → is_open y ≡ false → is_open (if b then x else y) ≡ false
if_closed true x y h g = h
if_closed false x y h g = g

-- ---- the composite of compatible types

known_closed : (n m : ℕ) → (m == 0) ≡ false → (known_size n m == 0) ≡ false
known_closed n m h = by (n == 0) refl
  where
    by : (b : Bool) → (n == 0) ≡ b → ((if b then m else n) == 0) ≡ false
    by true f = h
    by false f = f

composite_closed : (t u : Qualified) → are_compatible t u ≡ true → is_open u ≡ false → is_open (composite_of t u) ≡ false
composite_closed (plain of c v) u e h = refl
composite_closed (pointer c v t) (plain other d w) e h = refl
composite_closed (pointer c v t) (pointer d w u) e h = refl
composite_closed (pointer c v t) (array m u) e h = refl
composite_closed (array n t) (plain other d w) e h = absurd (false≢true e)
composite_closed (array n t) (pointer d w u) e h = absurd (false≢true e)
composite_closed (array n t) (array m u) e h = known_closed n m h

agreed : (q : Qualified) (earlier own : NameType) → types_agree earlier own ≡ true → is_open (type_or q own) ≡ false → is_open (type_or q (composite_type earlier own)) ≡ false
agreed q (of_object t) (of_object u) e h = composite_closed t u e h
agreed q (of_function f) (of_function g) e h = composite_closed f.result g.result (and_parts _ _ (and_parts _ _ e).1).0 h
agreed q earlier own e h = absurd (false≢true e)

joined_closed : (q : Qualified) (earlier own : NameType) → is_open (type_or q own) ≡ false → is_open (type_or q (joined_type earlier own)) ≡ false
joined_closed q earlier own h = by (types_agree earlier own) refl
  where
    by : (b : Bool) → types_agree earlier own ≡ b → is_open (type_or q (if b then composite_type earlier own else own)) ≡ false
    by false e = h
    by true e = agreed q earlier own e h

pub seen_closed : (q : Qualified) (linked : Option Declaration) (past : Past) (earlier : Option ℕ) (own : NameType) → is_open (type_or q own) ≡ false → is_open (type_or q (seen_by linked past earlier own)) ≡ false
seen_closed q None past earlier own h = h
seen_closed q (Some d) past earlier own h = by (linked_in past.linked earlier)
  where
    by : (o : Option Declaration) → is_open (type_or q (seen_with o (name_type_in past.seen earlier) own)) ≡ false
    by None = h
    by (Some x) = joined_closed q (name_type_in past.seen earlier) own h

pub as_closed : (q : Qualified) (d : Declared) (ps : List Qualified) → is_open q ≡ false → is_open (type_or q (type_as d q ps)) ≡ false
as_closed q (Object row register) ps h = h
as_closed q (Enumerator value) ps h = h
as_closed q (Function row more) ps h = h
as_closed q TypeName ps h = h
as_closed q Unclear ps h = h

-- ---- derived types

-- no array of what is derived is of unknown size
abbrev pub is_full : Qualified → Bool
is_full (plain of c v) = true
is_full (pointer c v t) = is_full t
is_full (array n t) = not (n == 0) && is_full t

untrue : (b : Bool) → not b ≡ true → b ≡ false
untrue false e = refl
untrue true e = absurd (false≢true e)

turned_closed : (t of : Qualified) → is_full t ≡ true → is_open of ≡ false → is_open (turned t of) ≡ false
turned_closed (plain other c v) of f h = h
turned_closed (pointer c v t) of f h = turned_closed t (pointer c v of) f refl
turned_closed (array n t) of f h = let both = and_parts (not (n == 0)) (is_full t) f in turned_closed t (array n of) both.1 (untrue (n == 0) both.0)

adjusted_closed : (t : Qualified) → is_open t ≡ false → is_open (adjusted_type t) ≡ false
adjusted_closed (plain of c v) h = refl
adjusted_closed (pointer c v t) h = refl
adjusted_closed (array n t) h = refl

pub declared_closed : (parameter : Bool) (own : Declarator) (derived of : Qualified) → is_full derived ≡ true → is_open of ≡ false → is_open (adjusted_if parameter (declared_type own derived of)) ≡ false
declared_closed parameter own derived of f h =
    let type = if_closed (is_unjudged own of) unknown (turned derived of) refl (turned_closed derived of f h) in if_closed parameter (adjusted_type (declared_type own derived of)) (declared_type own derived of) (adjusted_closed (declared_type own derived of) type) type

-- ---- specifiers

qualified_closed : (c v : Bool) (t : Qualified) → is_open t ≡ false → is_open (qualified c v t) ≡ false
qualified_closed c v (plain of d w) h = refl
qualified_closed c v (pointer d w t) h = refl
qualified_closed c v (array n t) h = h

integer_closed : (l : Length) (s : Sign) (given : Qualified) → is_open (leaf_type (integer_by l s) given) ≡ false
integer_closed lengths.Unsaid sign.Unsaid given = refl
integer_closed lengths.Unsaid s given = refl
integer_closed lengths.Short sign.Unsaid given = refl
integer_closed lengths.Short s given = refl
integer_closed lengths.Long sign.Unsaid given = refl
integer_closed lengths.Long s given = refl
integer_closed lengths.LongLong sign.Unsaid given = refl
integer_closed lengths.LongLong s given = refl
integer_closed lengths.Several sign.Unsaid given = refl
integer_closed lengths.Several s given = refl

leaf_closed : (b : Base) (l : Length) (s : Sign) (given : Qualified) → is_open given ≡ false → is_open (leaf_type (leaf_by b l s) given) ≡ false
leaf_closed base.Given lengths.Unsaid sign.Unsaid given h = h
leaf_closed base.Given lengths.Unsaid s given h = refl
leaf_closed base.Given l s given h = refl
leaf_closed base.Void lengths.Unsaid sign.Unsaid given h = refl
leaf_closed base.Void lengths.Unsaid s given h = refl
leaf_closed base.Void l s given h = refl
leaf_closed base.Bool lengths.Unsaid sign.Unsaid given h = refl
leaf_closed base.Bool lengths.Unsaid s given h = refl
leaf_closed base.Bool l s given h = refl
leaf_closed base.Char lengths.Unsaid sign.Several given h = refl
leaf_closed base.Char lengths.Unsaid s given h = refl
leaf_closed base.Char l s given h = refl
leaf_closed base.Int l s given h = integer_closed l s given
leaf_closed base.Unsaid lengths.Unsaid sign.Unsaid given h = refl
leaf_closed base.Unsaid lengths.Unsaid s given h = integer_closed lengths.Unsaid s given
leaf_closed base.Unsaid l s given h = integer_closed l s given
leaf_closed base.Several l s given h = refl

pub named_closed : (said : Specified) (given : Qualified) → is_open given ≡ false → is_open (named_type said given) ≡ false
named_closed said given h = qualified_closed _ _ (leaf_type (leaf_of said) given) (leaf_closed said.base said.length said.sign given h)

pub given_closed : (at : ℕ → Specified) (named : ℕ → Qualified) (parts : List ℕ) (given : Qualified) → is_open given ≡ false
    → ((k part : ℕ) → slice_get parts k ≡ Some part → is_open (named part) ≡ false) → is_open (fold (λ own part. gives at named own part) given parts) ≡ false
given_closed at named [] given h g = h
given_closed at named (part ∷ parts) given h g =
    given_closed at named parts (gives at named given part) (if_closed (is_given (at part).base) (named part) given (g 0 part refl) h) (λ k p f. g (suc k) p f)
