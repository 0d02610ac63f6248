-- Typedef names of a file's typed unit.
use Rattle.std.proofs.Common.{◌≡◌, ℕ, suc, ◌+◌, ◌==◌, ◌&&◌, ◌||◌, inl, Bool, true, false, List, [], ◌∷◌, Some, None, length, slice_get, slice_index_or, refl, sym, ap, subst, ◌∙◌}
use Rattle.std.proofs.lemmas.Bool.{false≢true, and_parts, eqb-true}
use Rattle.cr_syntax.specs.declared.node.Kind.{Kind}
use Rattle.cr_syntax.specs.declared.node.Kind.TheVariants as kind
use Rattle.cr_syntax.specs.declared.node.Node.{Node}
use Rattle.cr_scopes_events.specs.Declarators.{declarator_of}
use Rattle.cr_scopes_events.specs.Scripts.{storage_of}
use Rattle.cr_scopes.specs.Resolved.{past_of}
use Rattle.cr_scopes.specs.Spelled.{name_of}
use Rattle.cr_scopes.specs.Units.{unit_events}
use Rattle.cr_scopes_bindings.specs.Nodes.{named_if, named_by, name_at}
use Rattle.cr_scopes_bindings.specs.Visible.{visible}
use Rattle.cr_scopes_visibility.specs.Sight.Scopes.{is_using, is_tagging}
use Rattle.cr_scopes_visibility.specs.Told.Told as told
use Rattle.cr_scopes_typedef_names.specs.Parsed.Apart.{is_expression, AreApart, ParametersAreNone}
use Rattle.cr_scopes_typedef_names.specs.Typedefs.Sees.{is_typedef_name, is_of_typedef, IsTypedef}
use Rattle.cr_scopes_typedef_names.proofs.TypedefsLemmas.Seeing.{all_see}
use Rattle.cr_scopes_typedef_names.specs.Tellings.Tellings.{is_tagged}
use Rattle.cr_check_enclosing.specs.Around.{AreAround}
use Rattle.cr_check_surroundings.specs.Surroundings.{IsTree}
use Rattle.cr_typed.specs.declared.typed.Typed.{Typed}
use Rattle.cr_meaning_declarations.specs.Units.Owned.{AreOfUnit}
use Rattle.cr_meaning_declarations.proofs.NamesLemmas.Parents.{part_below}
use Rattle.cr_meaning_declarations.specs.Declared.Files.{IsAssembledFile}
use Rattle.cr_meaning_declarations.proofs.DeclaredLemmas.Nodes.{unit_of}
use Rattle.cr_meaning_references.proofs.ToldLemmas.Found.{order, moved, parent, within, names_within}
use Rattle.cr_meaning_references.proofs.ToldLemmas.Orderly.{apart}
use Rattle.cr_meaning_references.specs.Typedefs.Laws
use Rattle.cr_meaning_references.proofs.TypedefsLemmas.Spelled.{spelled}
use Rattle.cr_meaning_references.proofs.TypedefsLemmas.Parameters.{refused}
use Rattle.cr_meaning_references.proofs.TypedefsLemmas.Columns.{name_of_node, seen, other}

-- ---- tokens of typedef names stand apart

record IsName (nodes : List Node) (token : ℕ) : Type 0 where
  number : ℕ
  node : Node
  at : slice_get nodes number ≡ Some node
  is : node.kind ≡ kind.TypedefName
  first : node.first ≡ token

kind_of : (k : Kind) → is_typedef_name k ≡ true → k ≡ kind.TypedefName
kind_of kind.TypedefName h = refl
kind_of k h = absurd (false≢true h)

name_there : (nodes : List Node) (token : ℕ) → is_of_typedef nodes token ≡ true → IsName nodes token
name_there [] token h = absurd (false≢true h)
name_there (n ∷ nodes) token h = by (is_typedef_name n.kind && (n.first == token)) refl h (λ x. name_there nodes token x)
  where
    by : (b : Bool) → (is_typedef_name n.kind && (n.first == token)) ≡ b → (b || is_of_typedef nodes token) ≡ true → (is_of_typedef nodes token ≡ true → IsName nodes token) → IsName (n ∷ nodes) token
    by true q h rest = let both = and_parts (is_typedef_name n.kind) (n.first == token) q in record { number = 0; node = n; at = refl; is = kind_of n.kind both.0; first = eqb-true n.first token both.1 }
    by false q h rest = let r = rest h in record { number = suc r.number; node = r.node; at = r.at; is = r.is; first = r.first }

none_of : (nodes : List Node) (token : ℕ) → (IsName nodes token → ⊥) → is_of_typedef nodes token ≡ false
none_of nodes token f = by (is_of_typedef nodes token) refl
  where
    by : (b : Bool) → is_of_typedef nodes token ≡ b → b ≡ false
    by true q = absurd (f (name_there nodes token q))
    by false q = refl

used : (k : Kind) → is_expression k ≡ true → is_using k ≡ true
used kind.Identifier h = refl
used kind.Call h = refl
used k h = absurd (false≢true h)

tags : (k : Kind) → is_tagged k ≡ true → is_tagging k ≡ true
tags kind.StructTag h = refl
tags kind.EnumTag h = refl
tags kind.StructContent h = refl
tags kind.EnumContent h = refl
tags k h = absurd (false≢true h)

stand_apart : (nodes : List Node) → told.AreApart nodes → AreApart nodes (is_of_typedef nodes)
stand_apart nodes a = record {
  declared = λ i token e. none_of nodes token (λ x. a.declared i x.number x.node (name_of_node nodes i token e ∙ ap Some (sym x.first)) x.at (ap is_using x.is));
  enumerators = λ i n at is. none_of nodes n.first (λ x. a.declared i x.number x.node (enumerated i n at is ∙ ap Some (sym x.first)) x.at (ap is_using x.is));
  uses = λ i n at e. none_of nodes n.first (λ x.
      let same = a.uses i x.number n x.node at x.at (used n.kind e) (ap is_using x.is) (sym x.first) in
      let one : Some n ≡ Some x.node = sym at ∙ ap (slice_get nodes) same ∙ x.at in
      let node : n ≡ x.node = cc in
      false≢true (sym (ap (λ (y : Node). is_expression y.kind) node ∙ ap is_expression x.is) ∙ e));
  tags = λ i n at e. none_of nodes (n.first + 1) (λ x. a.tags i x.number n x.node at x.at (tags n.kind e) (ap is_using x.is) (sym x.first));
}
  where
    enumerated : (i : ℕ) (n : Node) → slice_get nodes i ≡ Some n → n.kind ≡ kind.Enumerator → name_at nodes i ≡ Some n.first
    enumerated i n at is = ap (λ o. named_if o (declarator_of nodes i).name) at ∙ ap (λ k. named_by k n.first (declarator_of nodes i).name) is

-- ---- of a file

module _ (file : List ℕ) (t : Typed) (it : IsAssembledFile file t) where
  unit : AreOfUnit t
  unit = unit_of file t it

  their : told.AreApart it.unit.nodes
  their = subst told.AreApart it.checked.by.elaborated.nodes_are (apart t unit (order file t it))

  -- ---- no parameter says `typedef` (K2)

  open it use {tree as u}

  abbrev tree : IsTree file it.unit it.checked.checked.surroundings u
  tree = it.checked.by.is.whole.tree

  kept : (a : ℕ) (m : Node) → slice_get u.nodes.now a ≡ Some m → slice_get it.unit.nodes a ≡ Some m
  kept a m at = ap (λ ns. slice_get ns a) (sym tree.nodes) ∙ at

  around : AreAround u.nodes.now u.above.now u.around.now
  around =
      subst (λ ns. AreAround ns u.above.now u.around.now) (sym tree.nodes)
      (subst (λ xs. AreAround it.unit.nodes xs u.around.now) (sym tree.above)
      (subst (AreAround it.unit.nodes it.checked.checked.surroundings.above) (sym tree.around) it.checked.by.is.surroundings.around))

  lawful : ParametersAreNone it.unit.nodes
  lawful i n at is says =
      refused u it.checked.checked.texts it.checked.checked.table it.checked.checked.whole.typing it.checked.by.is.whole.typing (λ b broken. it.checked.by.sound.constraints b (inl broken)) around
      (λ p a k m at e. ap (λ xs. slice_index_or xs p None) tree.above ∙ parent file t it p a k m (kept a m at) e)
      (λ p a k m at e. part_below t unit p a (record { parent = m; at = moved file t it a m (kept a m at); place = k; is = e }))
      i n (ap (λ ns. slice_get ns i) tree.nodes ∙ at) is (ap (λ ns. storage_of ns n.parts) tree.nodes ∙ says)

  sees : (j : ℕ) (m : Node) → slice_get it.unit.nodes j ≡ Some m → m.kind ≡ kind.TypedefName → (token : ℕ)
      → visible (name_of file it.unit.tokens.list.items) (past_of (unit_events it.unit) (length (unit_events it.unit))) m.first ≡ Some token → IsTypedef it.unit.nodes token
  sees j m here k token visible_is =
      all_see file it.unit.tokens.list.items _ it.unit.nodes it.unit.items (spelled file it.unit.tokens.list.items it.tokenizes) it.unit.within it.unit.parts_below it.unit.items_are_nodes it.is_tree.is_unit
      (stand_apart it.unit.nodes their) lawful j m here k token visible_is

pub are_seen : Laws.TypedefsAreSeen
are_seen file t it i p d n at is vis has =
    seen file it.unit it.names it.checked.checked.surroundings it.checked.by.tree it.checked.by.is.surroundings it.checked.by.is.whole.tree (their file t it) (parent file t it) (within file t it)
    (names_within file t it) (sees file t it) i p d n (kept file t it i n at) is vis has

pub no_enumerators : Laws.TypedefsAreNoEnumerators
no_enumerators file t it i p n at is vis k =
    other file it.unit it.names it.checked.checked.surroundings it.checked.by.tree it.checked.by.is.surroundings it.checked.by.is.whole.tree (their file t it) (parent file t it) (within file t it)
    (names_within file t it) (sees file t it) i p n (kept file t it i n at) is vis k
