-- What expressions read of names, members and type names is known (C11 6.5.1, 6.5.2, 6.5.3.4, 6.5.4).
use Rattle.std.proofs.Common.{◌≡◌, ℕ, ℤ, zero, suc, ◌<◌, ◌⊎◌, ◌||◌, inl, inr, Bool, true, false, not, List, [], ◌∷◌, Option, None, Some, map, take, slice_get, slice_index_or, refl, sym, ap, subst, ◌∙◌, nat_lt, if◌then◌else◌, ◌==◌}
use Rattle.std.specs.Option.{is_some}
use Rattle.std.proofs.lemmas.Bool.{and_parts, false≢true, ltb-true}
use Rattle.std.proofs.lemmas.List.{get_or-take}
use Rattle.cr_syntax.specs.declared.node.Kind.{Kind}
use Rattle.cr_syntax.specs.declared.node.Kind.TheVariants as kind
use Rattle.cr_syntax.specs.declared.node.Node.{Node}
use Rattle.cr_check_types.specs.declared.shape.Shape.{Shape}
use Rattle.cr_check_types.specs.Types.{Qualified, type_at}
use Rattle.cr_check_types.specs.Relations.{is_content_if, is_defined}
use Rattle.cr_check_operands.specs.Values.{Seen, seen_at}
use Rattle.cr_check_operands.specs.Places.{structure_in, found_by}
use Rattle.cr_check_expressions.specs.declared.form.Form.{Form}
use Rattle.cr_check_expressions.specs.declared.form.Form.TheVariants as form
use Rattle.cr_check_expressions.specs.declared.least.Break.{Break}
use Rattle.cr_check_expressions.specs.declared.known.Declared.{Declared}
use Rattle.cr_check_expressions.specs.declared.known.Declared.TheVariants.{Object, Enumerator, Function, TypeName, Unclear}
use Rattle.cr_check_expressions.specs.declared.known.Member.{Member}
use Rattle.cr_check_expressions.specs.Known.{Source, meaning_by, declared_by as declaration_by, parameters_in as parameter_rows, named_row, row_of_name}
use Rattle.cr_check_expressions.specs.Forms.{form_of}
use Rattle.cr_check_expressions.specs.Ruled.{operand, value, member_in, pointed_structure, is_parameter, facts_at, no_fact, seen_in}
use Rattle.cr_check_declarators.specs.declared.words.Specified.{Specified}
use Rattle.cr_check_declarators.specs.declared.words.Class.{Class}
use Rattle.cr_check_declarators.specs.declared.declarator.Declarator.{Declarator}
use Rattle.cr_check_declarators.specs.declared.enumerators.Enumerated.{Enumerated}
use Rattle.cr_check_declarations.specs.declared.tree.Tree.{Tree}
use Rattle.cr_check_declarations.specs.Before.{kind_in, parts_if}
use Rattle.cr_check_declarations.specs.Named.{class_of, is_typedef, declares_name, value_by, ordinary_by, ordinary_of, names_ordinary, specifiers_in, constant_by, declared_as, declared_by as declares_by, declaration_of}
use Rattle.cr_check_declarations.specs.Faults.{is_specifier, are_specifiers}
use Rattle.cr_check_unit.specs.declared.typing.Typing.{Typing}
use Rattle.cr_check_unit.specs.Typing.{cut, entry_at, before_in, source_in, IsTyping}
use Rattle.cr_check_unit.specs.Breaks.{IsBroken, IsNodeBreak}
use Rattle.cr_meaning_typing.specs.Typed.Typing.{has_value, is_expression, IsClear, IsFound, IsRead}
use Rattle.cr_meaning_typing.proofs.TypedLemmas.Worth.{typed}
use Rattle.cr_meaning_types.specs.Known.Shaped.{fits, is_filled, is_type_name, IsShaped}
use Rattle.cr_meaning_types.specs.Known.Sighted.{is_use, IsDeclaring, IsDeclaredFor, IsSpelled, AreSighted}
use Rattle.cr_meaning_types.specs.Known.Known.{names_type, is_enumerator, AllTyped, AllMembers, IsNumbered, IsKnown}
use Rattle.cr_meaning_types.proofs.KnownLemmas.Naming.{ruled, named_early, whole_known}
use Rattle.cr_meaning_types.proofs.KnownLemmas.Declaring.{HasType, there_is, node_there, declared_typed}

-- ---- kinds and forms

abbrev is_name_form : Form → Bool
is_name_form form.Name = true
is_name_form form.Call = true
is_name_form f = false

pub row : (a b : Bool) → (not a || b) ≡ true → a ≡ true → b ≡ true
row true b h e = h
row false b h e = absurd (false≢true e)

names_are_uses : (k : Kind) → (not (is_name_form (form_of k)) || is_use k) ≡ true
names_are_uses kind.Identifier = refl
names_are_uses k = refl

used : (k : Kind) (f : Form) → form_of k ≡ f → is_name_form f ≡ true → is_use k ≡ true
used k f is e = row (is_name_form (form_of k)) (is_use k) (names_are_uses k) (ap is_name_form is ∙ e)

abbrev is_type_form : Form → Bool
is_type_form form.Cast = true
is_type_form form.SizeofType = true
is_type_form f = false

abbrev has_type_name : Kind → Bool
has_type_name kind.Cast = true
has_type_name kind.SizeofType = true
has_type_name k = false

types_are_named : (k : Kind) → (not (is_type_form (form_of k)) || has_type_name k) ≡ true
types_are_named kind.Cast = refl
types_are_named k = refl

pub record HasTypeName (k : Kind) : Type 0 where
  pub filled : is_filled k 0 ≡ true
  pub fits : (own : Kind) → fits k 0 own ≡ is_type_name own
  pub several : are_specifiers (Some k) ≡ false

named_there : (k : Kind) → has_type_name k ≡ true → HasTypeName k
named_there kind.Cast e = record { filled = refl; fits = λ own. refl; several = refl }
named_there kind.SizeofType e = record { filled = refl; fits = λ own. refl; several = refl }
named_there k e = absurd (false≢true e)

type_named : (k : Kind) → is_type_name k ≡ true → (k ≡ kind.TypeName) ⊎ (is_specifier k ≡ true)
type_named kind.TypeName e = inl refl
type_named k e = inr e

-- a name of an expression sees a declarator or an enumerator
seen_as : (u : Tree) (k : Kind) (f : Form) → form_of k ≡ f → is_name_form f ≡ true → (p : ℕ) (m : Node) → IsDeclaredFor k u p m → IsDeclaring u p m ⊎ (m.kind ≡ kind.Enumerator)
seen_as u kind.TypedefName f is e p m d = absurd (false≢true (ap is_name_form is ∙ e))
seen_as u k f is e p m d = d

-- ---- what is declared

abbrev is_clear : Declared → Bool
is_clear Unclear = false
is_clear d = true

clear_value : (nodes : List Node) (storage : Option Class) (function : Option ℕ) (row : ℕ) → is_clear (value_by nodes storage function row) ≡ true
clear_value nodes storage None row = refl
clear_value nodes storage (Some f) row = refl

clear_as : (nodes : List Node) (storage : Option Class) (own : Declarator) (row : ℕ) → is_clear (declared_as nodes storage own row) ≡ true
clear_as nodes storage own row = by (is_typedef storage)
  where
    by : (b : Bool) → is_clear (if b then TypeName else value_by nodes storage own.function row) ≡ true
    by true = refl
    by false = clear_value nodes storage own.function row

clear_declared : (k : Kind) (nodes : List Node) (said : ℕ → Specified) (own : Declarator) (row : ℕ) (e : Option Enumerated) (d s : ℕ) → declares_name k ≡ true → names_ordinary (kind_in nodes (Some d)) ≡ true
    → specifiers_in nodes (Some d) ≡ Some s → is_clear (declares_by k nodes said own row e (Some d)) ≡ true
clear_declared kind.Enumerator nodes said own row e d s declares ordinary first = absurd (false≢true declares)
clear_declared k nodes said own row e d s declares ordinary first =
    ap (λ b. is_clear (if b then ordinary_of nodes said own row (Some d) else Unclear)) declares
    ∙ ap (λ b. is_clear (if b then ordinary_by nodes said own row (specifiers_in nodes (Some d)) else Unclear)) ordinary
    ∙ ap (λ o. is_clear (ordinary_by nodes said own row o)) first
    ∙ clear_as nodes (class_of (said s).storage) own row

clear_constant : (e : Option Enumerated) → IsNumbered e → is_clear (constant_by e) ≡ true
clear_constant None h = absurd h
clear_constant (Some own) h = by own.value h
  where
    by : (o : Option ℤ) → is_some o ≡ true → is_clear (elim o [ None ↦ Unclear | Some value ↦ Enumerator value ]) ≡ true
    by None g = absurd (false≢true g)
    by (Some v) g = refl

clear_enumerator : (k : Kind) (nodes : List Node) (said : ℕ → Specified) (own : Declarator) (row : ℕ) (e : Option Enumerated) (d : Option ℕ) → k ≡ kind.Enumerator → IsNumbered e → is_clear (declares_by k nodes said own row e d) ≡ true
clear_enumerator k nodes said own row e d is h = ap (λ c. is_clear (declares_by c nodes said own row e d)) is ∙ clear_constant e h

found_parameter : (look : ℕ → Qualified) (rows : List ℕ) (k : ℕ) → AllTyped (map look rows) → is_parameter (found_by look (slice_get rows k)) ≡ true
found_parameter look [] k h = refl
found_parameter look (row ∷ rows) zero h = h 0 (look row) refl
found_parameter look (row ∷ rows) (suc k) h = found_parameter look rows k (λ m x f. h (suc m) x f)

meaning_clear : (look : ℕ → Qualified) (rows : List ℕ) (d : Declared) → is_clear d ≡ true → HasType look d → AllTyped (map look rows) → IsClear (meaning_by look rows d)
meaning_clear look rows (Object row register) c h all = h
meaning_clear look rows (Enumerator value) c h all = tt
meaning_clear look rows (Function row more) c h all = (h, λ k. found_parameter look rows k all)
meaning_clear look rows TypeName c h all = tt
meaning_clear look rows Unclear c h all = absurd (false≢true c)

ordinary_filled : (k : Kind) → names_ordinary (Some k) ≡ true → is_filled k 0 ≡ true
ordinary_filled kind.Declaration e = refl
ordinary_filled kind.FunctionDefinition e = refl
ordinary_filled kind.Parameter e = refl
ordinary_filled k e = absurd (false≢true e)

-- ---- members

found_member : (u : Tree) (shapes : List Shape) (name : ℕ) (members : List Member) → AllMembers u shapes members → IsFound (found_by (type_at shapes) (row_of_name name members))
found_member u shapes name [] h = tt
found_member u shapes name (m ∷ ms) h = by (m.name == name) (found_member u shapes name ms (λ k x f. h (suc k) x f))
  where
    by : (b : Bool) → IsFound (found_by (type_at shapes) (row_of_name name ms)) → IsFound (found_by (type_at shapes) (if b then Some m.row else row_of_name name ms))
    by true rest = (h 0 m refl).known
    by false rest = rest

-- ---- in a unit

module _ (u : Tree) (texts : List (List ℕ)) (shapes : List Shape) (t : Typing) (h : IsTyping u texts shapes t) (holds : (b : Break) → IsBroken u texts shapes t b → ⊥)
    (shaped : IsShaped u) (sighted : AreSighted u) (i : ℕ) (n : Node) (at : slice_get u.nodes.now i ≡ Some n)
    (below : (p : ℕ) → p < i → (m : Node) → slice_get u.nodes.now p ≡ Some m → IsKnown u shapes t p m) where
  abbrev look : ℕ → Qualified
  look = type_at shapes

  abbrev source : Source
  source = source_in (type_at shapes) u texts (cut i t)

  -- what a declarator declares is clear
  declaring_clear : (p : ℕ) (m : Node) → slice_get u.nodes.now p ≡ Some m → IsDeclaring u p m → is_clear (slice_index_or t.declared p Unclear) ≡ true
  declaring_clear p m there d =
      let node = node_there u.nodes.now d.declaration names_ordinary refl d.ordinary in
      let first = there_is (slice_get node.0.parts 0) (shaped.filled d.declaration node.0 node.1.0 0 (ordinary_filled node.0.kind node.1.1)) in
      ap is_clear (ruled u texts shapes t h holds p m there).declared
      ∙ ap (λ o. is_clear (declares_by m.kind u.nodes.now (before_in shapes (cut p t)).specified (entry_at t p).own.declarator (entry_at t p).own.named (entry_at t p).own.enumerated o)) d.is
      ∙ clear_declared m.kind u.nodes.now _ _ _ _ d.declaration first.0 d.declares d.ordinary (ap (λ o. slice_get (parts_if o) 0) node.1.0 ∙ first.1)

  declared_clear : (p : ℕ) (m : Node) → slice_get u.nodes.now p ≡ Some m → IsKnown u shapes t p m → IsDeclaring u p m ⊎ (m.kind ≡ kind.Enumerator) → is_clear (slice_index_or t.declared p Unclear) ≡ true
  declared_clear p m there known (inl d) = declaring_clear p m there d
  declared_clear p m there known (inr e) =
      ap is_clear (ruled u texts shapes t h holds p m there).declared ∙ clear_enumerator m.kind u.nodes.now _ _ _ (entry_at t p).own.enumerated _ e (known.enumerator (ap is_enumerator e))

  -- the parameters of what is no declarator aren't there
  all_typed : (p : ℕ) (m : Node) → slice_get u.nodes.now p ≡ Some m → IsKnown u shapes t p m → IsDeclaring u p m ⊎ (m.kind ≡ kind.Enumerator) → (d : Declared) → slice_index_or t.declared p Unclear ≡ d
      → HasType look d → is_clear d ≡ true → IsClear (meaning_by look (slice_index_or t.parameters p []) d)
  all_typed p m there known (inl d) own same has clear = meaning_clear look (slice_index_or t.parameters p []) own clear has (known.parameters d.declares)
  all_typed p m there known (inr e) own same has clear = by (entry_at t p).own.enumerated (known.enumerator (ap is_enumerator e)) (sym same ∙ (ruled u texts shapes t h holds p m there).declared ∙ ap (λ k. declares_by k u.nodes.now (before_in shapes (cut p t)).specified (entry_at t p).own.declarator (entry_at t p).own.named (entry_at t p).own.enumerated (declaration_of u.nodes.now u.above.now p)) e)
    where
      by : (o : Option Enumerated) → IsNumbered o → own ≡ constant_by o → IsClear (meaning_by look (slice_index_or t.parameters p []) own)
      by None g f = absurd g
      by (Some x) g f = with_value x.value g f
        where
          with_value : (v : Option ℤ) → is_some v ≡ true → own ≡ elim v [ None ↦ Unclear | Some value ↦ Enumerator value ] → IsClear (meaning_by look (slice_index_or t.parameters p []) own)
          with_value None g f = absurd (false≢true g)
          with_value (Some value) g f = subst (λ o. IsClear (meaning_by look (slice_index_or t.parameters p []) o)) (sym f) tt

  stands_clear : (f : Form) → form_of n.kind ≡ f → is_name_form f ≡ true → IsClear (source.stands i)
  stands_clear f is e =
      let seen = sighted.names i n at (used n.kind f is e) in
      let declares = seen_as u n.kind f is e seen.declared seen.node seen.declares in
      let p = seen.declared in
      let known = below p seen.below seen.node seen.at in
      let own = slice_index_or t.declared p Unclear in
      let clear = all_typed p seen.node seen.at known declares own refl (declared_typed u texts shapes t h holds shaped p seen.node seen.at known) (declared_clear p seen.node seen.at known declares) in
      subst (λ o. IsClear (meaning_by look (parameter_rows (cut i t).parameters o) (declaration_by (cut i t).declared o))) (sym seen.is)
      (subst (λ d. IsClear (meaning_by look (slice_index_or (take i t.parameters) p []) d)) (sym (get_or-take i t.declared p Unclear seen.below))
      (subst (λ rows. IsClear (meaning_by look rows own)) (sym (get_or-take i t.parameters p [] seen.below)) clear))

  -- a type name
  type_name : has_type_name n.kind ≡ true → has_value (source.named (slice_get n.parts 0)) ≡ true
  type_name e =
      let has = named_there n.kind e in
      let first = there_is (slice_get n.parts 0) (shaped.filled i n at 0 has.filled) in
      let p = shaped.parts i n at 0 first.0 first.1 in
      ap (λ o. has_value (look (named_row (cut i t).named o))) first.1
      ∙ ap has_value (named_early u texts shapes t h holds i n at first.0 p.below)
      ∙ elim (type_named p.own.kind (sym (has.fits p.own.kind) ∙ p.fits)) [
        | inl x ↦ (below first.0 p.below p.own p.at).named (ap names_type x)
        | inr x ↦ whole_known u texts shapes t h holds first.0 i p.own n p.at at p.above x has.several (below first.0 p.below p.own p.at)
      ]

  -- a member of a structure
  member_found : (o : Option ℕ) → IsFound (member_in source i n.last o)
  member_found None = tt
  member_found (Some structure) = by (is_defined u.nodes.now i structure) refl
    where
      there : (o : Option Node) → slice_get u.nodes.now structure ≡ o → is_content_if o ≡ true → (m : Node) × (slice_get u.nodes.now structure ≡ Some m)
      there None g e = absurd (false≢true e)
      there (Some m) g e = (m, g)

      by : (b : Bool) → is_defined u.nodes.now i structure ≡ b → IsFound (if b then source.member structure n.last else None)
      by false e = tt
      by true e =
          let parts = and_parts (nat_lt structure i) (is_content_if (slice_get u.nodes.now structure)) e in
          let low = ltb-true structure i parts.0 in
          let m = there (slice_get u.nodes.now structure) refl parts.1 in
          found_member u shapes (slice_index_or u.names.now n.last 0) (slice_index_or (take i t.members) structure [])
          (subst (AllMembers u shapes) (sym (get_or-take i t.members structure [] low)) (below structure low m.0 m.1).members)

  read_form : (f : Form) → form_of n.kind ≡ f → is_expression f ≡ true → IsSpelled u f n.first → IsRead f (facts_at shapes (cut i t).facts) source i n
  read_form form.Name is e c = stands_clear form.Name is refl
  read_form form.Call is e c = stands_clear form.Call is refl
  read_form form.Integer is e c = c
  read_form form.Character is e c = c
  read_form form.Cast is e c = type_name (row (is_type_form (form_of n.kind)) (has_type_name n.kind) (types_are_named n.kind) (ap is_type_form is))
  read_form form.SizeofType is e c = type_name (row (is_type_form (form_of n.kind)) (has_type_name n.kind) (types_are_named n.kind) (ap is_type_form is))
  read_form form.Member is e c = member_found (structure_in (operand (facts_at shapes (cut i t).facts) n.parts 0).type)
  read_form form.PointerMember is e c = member_found (pointed_structure (value (facts_at shapes (cut i t).facts) n.parts 0))
  read_form form.Other is e c = absurd (false≢true e)
  read_form f is e c = tt

  pub read_known : is_expression (form_of n.kind) ≡ true → IsRead (form_of n.kind) (facts_at shapes (cut i t).facts) source i n
  read_known e = read_form (form_of n.kind) refl e (sighted.constants i n at)

  -- so it has a value
  pub expression_known : is_expression (form_of n.kind) ≡ true → has_value (facts_at shapes t.facts i).type ≡ true
  expression_known e =
      let before = facts_at shapes (cut i t).facts in
      typed (form_of n.kind) (facts_at shapes t.facts i) before source i n (ruled u texts shapes t h holds i n at).fact
      (λ b among. holds b (record { node = i; among = subst (λ x. IsNodeBreak u texts shapes (cut i t) (entry_at t i) i x b) (sym at) (inl among) }))
      (read_known e)
      (λ k asked. let o = shaped.operands i n at k asked in
      ap (λ part. has_value (seen_in before part).type) o.is ∙ ap (λ (x : Seen). has_value x.type) (ap (seen_at shapes) (get_or-take i t.facts o.number no_fact o.below))
      ∙ (below o.number o.below o.node o.at).expression o.expression)
