-- Declarations of one name, one behind the other, have one outline; and those of the library have its types.
use Rattle.std.proofs.Common.{◌≡◌, ℕ, ℤ, ◌<◌, ◌≤◌, inl, inr, Bool, true, false, ◌&&◌, not, List, [], Option, None, Some, length, map, slice_get, slice_index_or, refl, sym, subst, ap, ◌∙◌, arith, if◌then◌else◌}
use Rattle.std.specs.List.{list_all}
use Rattle.std.proofs.lemmas.Bool.{cases_lt, false≢true, and_from, not-false}
use Rattle.std.proofs.lemmas.List.{get_or_past, get_or-take}
use Rattle.cr_syntax.specs.declared.node.Kind.{Kind}
use Rattle.cr_syntax.specs.declared.node.Kind.TheVariants as kind
use Rattle.cr_syntax.specs.declared.node.Node.{Node}
use Rattle.cr_syntax_nodes.proofs.Numbers.{some_at}
use Rattle.cr_check_types.specs.declared.shape.Shape.{Shape}
use Rattle.cr_check_types.specs.Types.{type_at}
use Rattle.cr_check_expressions.specs.declared.known.Declared.{Declared}
use Rattle.cr_check_expressions.specs.declared.known.Declared.TheVariants.{Enumerator, Function, TypeName, Unclear}
use Rattle.cr_check_expressions.specs.Known.{spelling_of}
use Rattle.cr_check_expressions.specs.Ruled.{is_type}
use Rattle.cr_check_declarators.specs.declared.words.Class.{Class}
use Rattle.cr_check_declarators.specs.declared.words.Specified.{Specified}
use Rattle.cr_check_declarators.specs.declared.declarator.Declarator.{Declarator}
use Rattle.cr_check_declarators.specs.declared.enumerators.Enumerated.{Enumerated}
use Rattle.cr_check_declarators.specs.declared.functions.Library.{Library}
use Rattle.cr_check_declarators.specs.Functions.{Prototype, library_of, library_type}
use Rattle.cr_check_declarations.specs.declared.tree.Tree.{Tree}
use Rattle.cr_check_declarations.specs.Named.{class_of, is_typedef, declares_name, value_by, ordinary_by, ordinary_of, names_ordinary, specifiers_in, constant_by, declared_by}
use Rattle.cr_check_declarations.specs.Before.{kind_in}
use Rattle.cr_check_linkage.specs.NameTypes.{NameType, of_function, type_as, types_agree, disagrees, is_known, is_misdeclared}
use Rattle.cr_check_linkage.specs.Linked.{name_type_in, same_by}
use Rattle.cr_check_unit.specs.declared.typing.Typing.{Typing}
use Rattle.cr_check_unit.specs.Typing.{cut, entry_at, past_in, composite_type, IsRuledIf, IsRuled, IsTyping}
use Rattle.cr_check_signatures.specs.Functions.Linked.{same_at, earlier_at, now_at}
use Rattle.cr_check_signatures.specs.Functions.Outlines.{outline}
use Rattle.cr_check_signatures.specs.Functions.Laws
use Rattle.cr_check_signatures.proofs.FunctionsLemmas.Outlines.{alike, joined_alike, taken_apart, known_alike}
use Rattle.cr_check_signatures.proofs.FunctionsLemmas.Linked.{functions}

-- ---- the row of what is declared is that of the named type

abbrev pub row_or : ℕ → Declared → ℕ
row_or other (Function row more) = row
row_or other d = other

pub keeps : (row : ℕ) (b : Bool) (x y : Declared) → row_or row x ≡ row → row_or row y ≡ row → row_or row (if b then x else y) ≡ row
keeps row true x y h g = h
keeps row false x y h g = g

pub value_row : (nodes : List Node) (c : Option Class) (own : Option ℕ) (row : ℕ) → row_or row (value_by nodes c own row) ≡ row
value_row nodes c None row = refl
value_row nodes c (Some f) row = refl

pub ordinary_row : (nodes : List Node) (said : ℕ → Specified) (own : Declarator) (row : ℕ) (o : Option ℕ) → row_or row (ordinary_by nodes said own row o) ≡ row
ordinary_row nodes said own row None = refl
ordinary_row nodes said own row (Some s) = keeps row (is_typedef (class_of (said s).storage)) TypeName (value_by nodes (class_of (said s).storage) own.function row) refl (value_row nodes (class_of (said s).storage) own.function row)

pub constant_row : (row : ℕ) (e : Option Enumerated) → row_or row (constant_by e) ≡ row
constant_row row None = refl
constant_row row (Some own) = by own.value
  where
    by : (o : Option ℤ) → row_or row (elim o [ None ↦ Unclear | Some value ↦ Enumerator value ]) ≡ row
    by None = refl
    by (Some v) = refl

pub declared_row : (k : Kind) (nodes : List Node) (said : ℕ → Specified) (own : Declarator) (row : ℕ) (e : Option Enumerated) (d : Option ℕ) → row_or row (declared_by k nodes said own row e d) ≡ row
declared_row kind.Enumerator nodes said own row e d = constant_row row e
declared_row k nodes said own row e d =
    keeps row (declares_name k) (ordinary_of nodes said own row d) Unclear
    (keeps row (names_ordinary (kind_in nodes d)) (ordinary_by nodes said own row (specifiers_in nodes d)) Unclear (ordinary_row nodes said own row (specifiers_in nodes d)) refl) refl

module _ (u : Tree) (texts : List (List ℕ)) (shapes : List Shape) (t : Typing) (h : IsTyping u texts shapes t) where
  ruled : (q : ℕ) (n : Node) → slice_get u.nodes.now q ≡ Some n → IsRuled u texts shapes (cut q t) (entry_at t q) q n
  ruled q n at = subst (IsRuledIf u texts shapes (cut q t) (entry_at t q) q) at (h.each q)

  -- ---- composites

  abbrev composite_at : ℕ → NameType
  composite_at q =
      type_as (slice_index_or t.declared q Unclear) (type_at shapes (slice_index_or t.composites q 0)) (map (type_at shapes) (slice_index_or t.composite_parameters q []))

  composite_before : (p q : ℕ) → q < p → (past_in shapes (cut p t)).composite q ≡ composite_at q
  composite_before p q less =
      (λ j. type_as (get_or-take p t.declared q Unclear less j) (type_at shapes (get_or-take p t.composites q 0 less j)) (map (type_at shapes) (get_or-take p t.composite_parameters q [] less j)))

  composite_outline : (q : ℕ) (n : Node) → slice_get u.nodes.now q ≡ Some n → outline (composite_at q) ≡ outline (now_at shapes t q)
  composite_outline q n at =
      let r = ruled q n at in
      let c = composite_type shapes u (cut q t) (entry_at t q) q n in
      let own = entry_at t q in
      ap outline (λ j. type_as own.declared (r.composite j) (r.composite_parameters j))
      ∙ taken_apart own.declared (type_at shapes own.own.named) (map (type_at shapes) own.parameters) c
      (joined_alike (name_type_in (past_in shapes (cut q t)).composite (same_by n.kind own.linked (slice_index_or u.same.now q None) n)) (now_at shapes t q))

  -- ---- one behind the other

  unknown_past : (q : ℕ) → length u.nodes.now ≤ q → is_known (now_at shapes t q) ≡ true → ⊥
  unknown_past q past e =
      let count = h.whole.declared in
      let none : slice_index_or t.declared q Unclear ≡ Unclear = get_or_past t.declared q Unclear (omega (arith, past, count)) in
      false≢true (sym (ap (λ d. is_known (type_as d (type_at shapes (slice_index_or t.named q 0)) (map (type_at shapes) (slice_index_or t.parameters q [])))) none) ∙ e)

  they_agree : (one other : NameType) → is_known one ≡ true → is_known other ≡ true → disagrees one other ≡ false → types_agree one other ≡ true
  they_agree one other k l e = by (types_agree one other) (sym (λ j. k j && (l j && not (types_agree one other))) ∙ e)
    where
      by : (b : Bool) → (true && (true && not b)) ≡ false → b ≡ true
      by true e = refl
      by false e = absurd (false≢true (sym e))

  behind : (p q token : ℕ) (n : Node) → slice_get u.nodes.now q ≡ Some n → disagrees (earlier_at u shapes t p) (now_at shapes t p) ≡ false → same_at u p ≡ Some q → q < p
      → is_known (now_at shapes t q) ≡ true → is_known (now_at shapes t p) ≡ true → outline (now_at shapes t q) ≡ outline (now_at shapes t p)
  behind p q token n at agrees same less known own =
      let earlier : earlier_at u shapes t p ≡ composite_at q = ap (name_type_in (past_in shapes (cut p t)).composite) same ∙ composite_before p q less in
      let has : outline (composite_at q) ≡ outline (now_at shapes t q) = composite_outline q n at in
      let told : is_known (composite_at q) ≡ true = sym (known_alike (composite_at q)) ∙ ap is_known has ∙ known_alike (now_at shapes t q) ∙ known in
      let fits = they_agree (composite_at q) (now_at shapes t p) told own (ap (λ e. disagrees e (now_at shapes t p)) (sym earlier) ∙ agrees) in
      sym has ∙ alike (composite_at q) (now_at shapes t p) fits

pub declarations_alike : Laws.DeclarationsAreAlike
declarations_alike u texts shapes t h holds p q token linked named same less known own = elim (cases_lt q (length u.nodes.now)) [
  | inl few ↦ (let n = some_at u.nodes.now q few in behind u texts shapes t h p q token n.0 n.1 (linked.agrees token named) same less known own)
  | inr past ↦ absurd (unknown_past u texts shapes t h q past known)
]

-- ---- the library

told_library : (l : Library) (f : Prototype) → is_known (of_function f) ≡ true → is_misdeclared (Some l) (of_function f) ≡ false → library_type l f ≡ true
told_library l f k e = not-false (library_type l f) (sym (ap (λ b. b && not (library_type l f)) k) ∙ e)

pub library : Laws.LibraryHasItsTypes
library u texts shapes t h holds p row more declares result parameters token named l spelled =
    let is = functions u texts shapes t h holds p row more declares in
    let r = ruled u texts shapes t h p is.node is.at in
    let f : Prototype = record { result = type_at shapes row; variadic = more; parameters = map (type_at shapes) (slice_index_or t.parameters p []) } in
    let own_row : row ≡ slice_index_or t.named p 0 =
    sym (ap (row_or (slice_index_or t.named p 0)) (sym r.declared ∙ declares)) ∙ declared_row is.node.kind u.nodes.now _ _ (slice_index_or t.named p 0) _ _ in
    let back = sym own_row in
    let now : now_at shapes t p ≡ of_function f = (λ j. type_as (declares j) (type_at shapes (back j)) (map (type_at shapes) (slice_index_or t.parameters p []))) in
    told_library l f (and_from (is_type (type_at shapes row)) (list_all is_type f.parameters) result parameters)
    (sym (ap (is_misdeclared (library_of (spelling_of u.file.now u.tokens.now token))) now ∙ ap (λ o. is_misdeclared o (of_function f)) spelled) ∙ is.linked.library token named)
