-- Compatible types, and their composite, have one outline.
use Rattle.std.proofs.Common.{◌≡◌, ℕ, ◌==◌, Bool, true, false, ◌&&◌, List, [], ◌∷◌, map, refl, sym, ap, ◌∙◌, if◌then◌else◌}
use Rattle.std.specs.List.{list_all}
use Rattle.std.proofs.lemmas.Bool.{false≢true, and_parts, eqb-true}
use Rattle.cr_ints.specs.declared.kind.IntKind.{IntKind}
use Rattle.cr_ints.specs.declared.kind.IntKind.TheVariants.{Bool as BoolKind, Char, SChar, UChar, Short, UShort, Int as IntegerKind, UInt, Long, ULong, LLong, ULLong}
use Rattle.cr_syntax.specs.declared.ctype.CType.{CType}
use Rattle.cr_syntax.specs.declared.ctype.CType.TheVariants.{Void, Int, Pointer, Array, Struct, Function as FunctionType, Unknown}
use Rattle.cr_check_types.specs.Types.{Qualified, plain, pointer, array}
use Rattle.cr_check_types.specs.Relations.{number_of, same, are_same, are_compatible, composite_of, bare}
use Rattle.cr_check_expressions.specs.declared.known.Declared.{Declared}
use Rattle.cr_check_expressions.specs.declared.known.Declared.TheVariants.{Object, Enumerator, Function, TypeName, Unclear}
use Rattle.cr_check_expressions.specs.Ruled.{is_type}
use Rattle.cr_check_declarators.specs.Functions.{Prototype, parameters_agree}
use Rattle.cr_check_linkage.specs.NameTypes.{NameType, of_object, of_function, of_none, type_as, type_or, parameters_or, types_agree, composite_parameters, composite_type, joined_type, is_known}
use Rattle.cr_check_signatures.specs.Functions.Outlines.{head, outline}
use Rattle.cr_check_signatures.specs.Functions.Laws

-- ---- words

abbrev kind_of : ℕ → IntKind
kind_of n =
    if n == 0 then BoolKind
    else (if n == 1 then Char
    else (if n == 2 then SChar
    else (if n == 3 then UChar
    else (if n == 4 then Short
    else (if n == 5 then UShort
    else (if n == 6 then IntegerKind
    else (if n == 7 then UInt
    else (if n == 8 then Long
    else (if n == 9 then ULong
    else (if n == 10 then LLong
    else ULLong))))))))))

kind_back : (k : IntKind) → kind_of (number_of k) ≡ k
kind_back BoolKind = refl
kind_back Char = refl
kind_back SChar = refl
kind_back UChar = refl
kind_back Short = refl
kind_back UShort = refl
kind_back IntegerKind = refl
kind_back UInt = refl
kind_back Long = refl
kind_back ULong = refl
kind_back LLong = refl
kind_back ULLong = refl

same_word : (a b : CType) → are_same a b ≡ true → a ≡ b
same_word Void Void h = refl
same_word (Int k) (Int o) h = ap Int (sym (kind_back k) ∙ ap kind_of (eqb-true (number_of k) (number_of o) h) ∙ kind_back o)
same_word (Struct n) (Struct m) h = ap Struct (eqb-true n m h)
same_word (FunctionType n) (FunctionType m) h = ap FunctionType (eqb-true n m h)
same_word Unknown Unknown h = refl
same_word (Pointer n) (Pointer m) h = ap Pointer (eqb-true n m h)
same_word (Array n c) (Array m d) h = let both = and_parts (n == m) (c == d) h in (λ j. Array (eqb-true n m both.0 j) (eqb-true c d both.1 j))
same_word a b h = absurd (false≢true h)

same_bool : (a b : Bool) → same a b ≡ true → a ≡ b
same_bool true true h = refl
same_bool false false h = refl
same_bool true false h = absurd (false≢true h)
same_bool false true h = absurd (false≢true h)

-- ---- types

pub compatible_head : (t u : Qualified) → are_compatible t u ≡ true → head t ≡ head u
compatible_head (plain of c v) (plain other d w) h = ap (λ o. plain o false false) (same_word of other (and_parts (are_same of other) (same c d && same v w) h).0)
compatible_head (pointer c v t) (pointer d w u) h = refl
compatible_head (array n t) (array m u) h = refl
compatible_head (plain of c v) (pointer d w u) h = absurd (false≢true h)
compatible_head (plain of c v) (array m u) h = absurd (false≢true h)
compatible_head (pointer c v t) (plain other d w) h = absurd (false≢true h)
compatible_head (pointer c v t) (array m u) h = absurd (false≢true h)
compatible_head (array n t) (plain other d w) h = absurd (false≢true h)
compatible_head (array n t) (pointer d w u) h = absurd (false≢true h)

head_bare : (t : Qualified) → head (bare t) ≡ head t
head_bare (plain of c v) = refl
head_bare (pointer c v t) = refl
head_bare (array n t) = refl

head_composite : (t u : Qualified) → head (composite_of t u) ≡ head t
head_composite (plain of c v) u = refl
head_composite (pointer c v t) (plain other d w) = refl
head_composite (pointer c v t) (pointer d w u) = refl
head_composite (pointer c v t) (array m u) = refl
head_composite (array n t) (plain other d w) = refl
head_composite (array n t) (pointer d w u) = refl
head_composite (array n t) (array m u) = refl

compatible_parameter : (t u : Qualified) → are_compatible (bare t) (bare u) ≡ true → head t ≡ head u
compatible_parameter t u h = sym (head_bare t) ∙ compatible_head (bare t) (bare u) h ∙ head_bare u

compatible_parameters : (ts us : List Qualified) → parameters_agree ts us ≡ true → map head ts ≡ map head us
compatible_parameters [] [] h = refl
compatible_parameters (t ∷ ts) (u ∷ us) h =
    let both = and_parts (are_compatible (bare t) (bare u)) (parameters_agree ts us) h in
    (λ j. compatible_parameter t u both.0 j ∷ compatible_parameters ts us both.1 j)
compatible_parameters [] (u ∷ us) h = absurd (false≢true h)
compatible_parameters (t ∷ ts) [] h = absurd (false≢true h)

composite_heads : (ts us : List Qualified) → parameters_agree ts us ≡ true → map head (composite_parameters ts us) ≡ map head us
composite_heads [] [] h = refl
composite_heads (t ∷ ts) (u ∷ us) h =
    let both = and_parts (are_compatible (bare t) (bare u)) (parameters_agree ts us) h in
    let one : head (composite_of (bare t) (bare u)) ≡ head u = head_composite (bare t) (bare u) ∙ compatible_head (bare t) (bare u) both.0 ∙ head_bare u in
    (λ j. one j ∷ composite_heads ts us both.1 j)
composite_heads [] (u ∷ us) h = absurd (false≢true h)
composite_heads (t ∷ ts) [] h = absurd (false≢true h)

-- ---- names

record Agree (f g : Prototype) : Type 0 where
  result : are_compatible f.result g.result ≡ true
  variadic : f.variadic ≡ g.variadic
  parameters : parameters_agree f.parameters g.parameters ≡ true

agree : (f g : Prototype) → types_agree (of_function f) (of_function g) ≡ true → Agree f g
agree f g h =
    let one = and_parts (same f.variadic g.variadic) (are_compatible f.result g.result && parameters_agree f.parameters g.parameters) h in
    let two = and_parts (are_compatible f.result g.result) (parameters_agree f.parameters g.parameters) one.1 in
    record { result = two.0; variadic = same_bool f.variadic g.variadic one.0; parameters = two.1 }

pub alike : Laws.CompatibleAreAlike
alike (of_object t) (of_object u) h = ap of_object (compatible_head t u h)
alike (of_function f) (of_function g) h =
    let a = agree f g h in
    (λ j. of_function (record { result = compatible_head f.result g.result a.result j; variadic = a.variadic j; parameters = compatible_parameters f.parameters g.parameters a.parameters j }))
alike (of_object t) (of_function g) h = absurd (false≢true h)
alike (of_object t) of_none h = absurd (false≢true h)
alike (of_function f) (of_object u) h = absurd (false≢true h)
alike (of_function f) of_none h = absurd (false≢true h)
alike of_none other h = absurd (false≢true h)

composite_alike : (one other : NameType) → types_agree one other ≡ true → outline (composite_type one other) ≡ outline other
composite_alike (of_object t) (of_object u) h = ap of_object (head_composite t u ∙ compatible_head t u h)
composite_alike (of_function f) (of_function g) h =
    let a = agree f g h in
    let result : head (composite_of f.result g.result) ≡ head g.result = head_composite f.result g.result ∙ compatible_head f.result g.result a.result in
    (λ j. of_function (record { result = result j; variadic = g.variadic; parameters = composite_heads f.parameters g.parameters a.parameters j }))
composite_alike (of_object t) (of_function g) h = absurd (false≢true h)
composite_alike (of_object t) of_none h = absurd (false≢true h)
composite_alike (of_function f) (of_object u) h = absurd (false≢true h)
composite_alike (of_function f) of_none h = absurd (false≢true h)
composite_alike of_none other h = absurd (false≢true h)

-- with what the earlier ones tell of its type a declaration has the outline of its own
pub joined_alike : (earlier own : NameType) → outline (joined_type earlier own) ≡ outline own
joined_alike earlier own = by (types_agree earlier own) refl
  where
    by : (b : Bool) → types_agree earlier own ≡ b → outline (if b then composite_type earlier own else own) ≡ outline own
    by true h = composite_alike earlier own h
    by false h = refl

-- ---- by columns

abbrev with_more : Bool → NameType → NameType
with_more more (of_object t) = of_object t
with_more more (of_function f) = of_function (record { result = f.result; variadic = more; parameters = f.parameters })
with_more more of_none = of_none

pub taken_apart : (d : Declared) (named : Qualified) (parameters : List Qualified) (c : NameType) → outline c ≡ outline (type_as d named parameters)
    → outline (type_as d (type_or named c) (parameters_or parameters c)) ≡ outline (type_as d named parameters)
taken_apart (Object row register) named parameters (of_object t) e = e
taken_apart (Object row register) named parameters (of_function f) e = absurd cc
taken_apart (Object row register) named parameters of_none e = absurd cc
taken_apart (Function row more) named parameters (of_function f) e = ap (with_more more) e
taken_apart (Function row more) named parameters (of_object t) e = absurd cc
taken_apart (Function row more) named parameters of_none e = absurd cc
taken_apart (Enumerator value) named parameters c e = refl
taken_apart TypeName named parameters c e = refl
taken_apart Unclear named parameters c e = refl

-- ---- known types

head_typed : (t : Qualified) → is_type (head t) ≡ is_type t
head_typed (plain of c v) = refl
head_typed (pointer c v t) = refl
head_typed (array n t) = refl

heads_typed : (ts : List Qualified) → list_all is_type (map head ts) ≡ list_all is_type ts
heads_typed [] = refl
heads_typed (t ∷ ts) = (λ j. head_typed t j && heads_typed ts j)

pub known_alike : (n : NameType) → is_known (outline n) ≡ is_known n
known_alike (of_object t) = head_typed t
known_alike (of_function f) = (λ j. head_typed f.result j && heads_typed f.parameters j)
known_alike of_none = refl
