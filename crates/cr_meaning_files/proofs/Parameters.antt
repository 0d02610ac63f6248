-- A parameter is named under its definition's list of parameters, which no run reaches, or in the body, where it is entered (C11 6.2.1p4, 6.9.1p9).
use Rattle.std.proofs.Common.{◌≡◌, ℕ, zero, suc, ◌+◌, ◌<◌, ◌≤◌, ◌==◌, ◌⊎◌, inl, inr, Bool, true, false, ◌||◌, not, List, [], ◌∷◌, ◌++◌, Option, None, Some, length, nat_lt, slice_get, slice_index_or, refl, sym, ap, subst, ◌∙◌, arith}
use Rattle.std.specs.Prelude.{if◌then◌else◌, option_to_list}
use Rattle.std.specs.List.{list_any, flat_map}
use Rattle.std.proofs.lemmas.Bool.{false≢true, and_parts, or_left, or_right, eqb-true, eq-eqb, ne_eqb, not-true}
use Rattle.std.proofs.lemmas.List.{get_or-take}
use Rattle.std.proofs.lemmas.Option.{slice_get_within, same_Some}
use Rattle.cr_syntax.specs.declared.node.Kind.{Kind}
use Rattle.cr_syntax.specs.declared.node.Kind.TheVariants as kind
use Rattle.cr_syntax.specs.declared.node.Node.{Node}
use Rattle.cr_syntax_nodes.proofs.Numbers.{some_at}
use Rattle.cr_scopes_events.specs.declared.declarator.Derivation.TheVariants as derivation
use Rattle.cr_scopes_events.specs.Declarators.{declarator_of}
use Rattle.cr_scopes_events.specs.Scripts as scripts
use Rattle.cr_scopes.specs.Resolved.{is_number}
use Rattle.cr_scopes.specs.Spelled.{name_of as spelled_name}
use Rattle.cr_scopes_bindings.specs.Last.{last_with}
use Rattle.cr_scopes_visibility.specs.Parameters.Definitions.{AreOwn, AreInside}
use Rattle.cr_scopes_visibility.proofs.ParametersLemmas.Walks.{inside_alone}
use Rattle.cr_scopes_visibility.proofs.SightLemmas.Reaching.{reaches}
use Rattle.cr_check_enclosing.specs.Above.{above_of}
use Rattle.cr_check_expressions.specs.Known.{spelling_of}
use Rattle.cr_check_declarators.specs.declared.declarator.Declarator.{Declarator}
use Rattle.cr_check_declarators.specs.Declarators.{name_alone, is_hole_type, function_by}
use Rattle.cr_check_declarations.specs.Before.{declarator_in}
use Rattle.cr_check_declarations.specs.Declarators.{size_in, bracket_before, inner_derived, declarator_by}
use Rattle.cr_check_unit.specs.Typing.{cut, entry_at, before_in, IsRuled, IsRuledIf}
use Rattle.cr_typed.specs.declared.typed.Typed.{Typed}
use Rattle.cr_typed.specs.declared.typed.Duration.TheVariants as duration
use Rattle.cr_typed_columns.specs.Reading.{parsed_of, entry_of, part_of}
use Rattle.cr_typed_columns.specs.Entities as entities
use Rattle.cr_typed_columns.specs.Functions as functions
use Rattle.cr_meaning_soundness.specs.Sorts.{IsAmong}
use Rattle.cr_meaning_operations.specs.Operations.{kind_if, kind_at, parts_if, parts_at, part_at, entity_of, is_automatic_by, is_lasting, is_static_initialiser, nodes_from}
use Rattle.cr_meaning_declarations.proofs.NamesLemmas.Leaves.{is_named, named_once}
use Rattle.cr_meaning_declarations.proofs.NamesLemmas.Parents.{IsPartOf, part_below, one_parent, no_item, above_some}
use Rattle.cr_meaning_declarations.specs.Declared.Files.{IsUnitOfFile}
use Rattle.cr_meaning_declarations.proofs.DeclaredLemmas.Bodies.{listed_at, last_has}
use Rattle.cr_meaning_declarations.proofs.DeclaredLemmas.Once.{IsAutomatic, automatic_at}
use Rattle.cr_meaning_declarations.specs.Sight.Under.{is_under}
use Rattle.cr_meaning_declarations.proofs.SightLemmas.Under.{under_at, directly, deeper, further, alike, item_outside, not_above, outermost_outside}
use Rattle.cr_meaning_declarations.proofs.SightLemmas.Names.{seen, entity_there}
use Rattle.cr_meaning_declarations.proofs.DeclaredLemmas.Files.{has_unit}
use Rattle.cr_meaning_declarations.proofs.LastingLemmas.Begun.{one_of}
use Rattle.cr_meaning_files.specs.Reached.{is_definition}
use Rattle.cr_meaning_files.specs.Seen.{entered_for, is_one_of, finds, sees}
use Rattle.cr_meaning_files.specs.Local.{is_local, is_parameter_below, is_parameter, is_own_parameter, is_early, is_named_locally}
use Rattle.cr_meaning_files.proofs.Seen.{as_seen, finds_entered, finds_outside}
use Rattle.cr_meaning_references.proofs.TreesLemmas.Tree.{HasPart, has_part, as_part}
use Rattle.cr_meaning_objects.proofs.InitialisedLemmas.Twice.{one_place}
use Rattle.cr_meaning_files.proofs.Mains.{body_at, block_at}
use Rattle.cr_meaning_files.proofs.Sight.{among_passed, parameters_entered}
use Rattle.cr_meaning_files.proofs.Named.{any_among, plain_part, finds_local}
use Rattle.cr_meaning_files.proofs.Lists as lists
use Rattle.cr_meaning_files.proofs.Lists.{outermost, names_apart}
use Rattle.cr_check_signatures.proofs.ParametersLemmas.Listed.{array_function}

-- ---- the grammar

-- ---- lists

any_either : (test : ℕ → Bool) (xs ys : List ℕ) → list_any test (xs ++ ys) ≡ true → (list_any test xs ≡ true) ⊎ (list_any test ys ≡ true)
any_either test [] ys h = inr h
any_either test (x ∷ xs) ys h = elim (one_of (test x) (list_any test (xs ++ ys)) h) [
  | inl own ↦ inl (or_left (test x) (list_any test xs) own)
  | inr rest ↦ elim (any_either test xs ys rest) [ inl a ↦ inl (or_right (test x) (list_any test xs) a) | inr b ↦ inr b ]
]

any_flat : (test : ℕ → Bool) (f : ℕ → List ℕ) (xs : List ℕ) → list_any test (flat_map f xs) ≡ true → (k : ℕ) × ((x : ℕ) × ((slice_get xs k ≡ Some x) × (list_any test (f x) ≡ true)))
any_flat test f [] h = absurd (false≢true h)
any_flat test f (x ∷ xs) h = elim (any_either test (f x) (flat_map f xs) h) [
  | inl own ↦ (0, (x, (refl, own)))
  | inr rest ↦ (let y = any_flat test f xs rest in (suc y.0, (y.1.0, (y.1.1.0, y.1.1.1))))
]

any_option : (e : ℕ) (o : Option ℕ) → list_any (λ own. own == e) (option_to_list o) ≡ true → o ≡ Some e
any_option e None h = absurd (false≢true h)
any_option e (Some x) h = elim (one_of (x == e) false h) [ inl same ↦ ap Some (eqb-true x e same) | inr never ↦ absurd (false≢true never) ]

function_or : (o : Option ℕ) (bare : Bool) (inner : Declarator) (node : ℕ) (empty : Bool) (l : ℕ) → o ≡ inner.function → (function_by o bare inner node empty).function ≡ Some l → (inner.function ≡ Some l) ⊎ (node ≡ l)
function_or None true inner node empty l e h = inr (same_Some node l h)
function_or None false inner node empty l e h = inl h
function_or (Some x) bare inner node empty l e h = inl h

module _ (file : List ℕ) (t : Typed) (it : IsUnitOfFile file t) where
  open it use {made_by, typing, shapes, tree, columns}
  open has_unit file t it use {unit as u, nodes_are, tree_nodes, order}

  abbrev above : ℕ → Option ℕ
  above a = above_of t.nodes (length t.nodes) a

  -- ---- what stands above nodes

  -- nothing stands under two nodes that have nothing above them
  one_top : (a b : ℕ) → above a ≡ None → above b ≡ None → (m x : ℕ) → length t.nodes ≤ m + x → is_under t a x ≡ true → is_under t b x ≡ true → a ≡ b
  one_top a b top other zero x high h g = by (above x) refl
    where
      by : (o : Option ℕ) → above x ≡ o → a ≡ b
      by None q = absurd (false≢true (sym (outermost_outside t u a x q) ∙ h))
      by (Some y) q = let p = above_some t u (length t.nodes) x y q in let low = part_below t u x y p in let few = slice_get_within t.nodes y p.parent p.at in absurd (omega (arith, high, low, few))
  one_top a b top other (suc m) x high h g = by (above x) refl (λ y low f k. one_top a b top other m y (omega (arith, high, low)) f k)
    where
      at : (y : ℕ) → IsPartOf t u x y → (c : Bool) → (y == a) ≡ c → (c || is_under t a y) ≡ true → (d : Bool) → (y == b) ≡ d → (d || is_under t b y) ≡ true → (is_under t a y ≡ true → is_under t b y ≡ true → a ≡ b) → a ≡ b
      at y p true c h true d g rest = sym (eqb-true y a c) ∙ eqb-true y b d
      at y p true c h false d g rest = absurd (false≢true (sym (outermost_outside t u b y (ap above (eqb-true y a c) ∙ top)) ∙ g))
      at y p false c h true d g rest = absurd (false≢true (sym (outermost_outside t u a y (ap above (eqb-true y b d) ∙ other)) ∙ h))
      at y p false c h false d g rest = rest h g

      by : (o : Option ℕ) → above x ≡ o → ((y : ℕ) → x < y → is_under t a y ≡ true → is_under t b y ≡ true → a ≡ b) → a ≡ b
      by None q rest = absurd (false≢true (sym (outermost_outside t u a x q) ∙ h))
      by (Some y) q rest =
          let p = above_some t u (length t.nodes) x y q in
          at y p (y == a) refl (sym (under_at t u a x y p) ∙ h) (y == b) refl (sym (under_at t u b x y p) ∙ g) (λ f k. rest y (part_below t u x y p) f k)

  -- what stands under one part of a node stands under no other
  apart_under : (d a b : ℕ) → IsPartOf t u a d → IsPartOf t u b d → (a ≡ b → ⊥) → (m x : ℕ) → length t.nodes ≤ m + x → (x ≡ a) ⊎ (is_under t a x ≡ true) → is_under t b x ≡ false
  apart_under d a b pa pb differ m x high (inl same) =
      ap (is_under t b) same ∙ under_at t u b a d pa
      ∙ ap (λ c. c || is_under t b d) (ne_eqb d b (λ e. (let low = part_below t u b d pb in absurd (omega (arith, low, e)))))
      ∙ not_above t u b d (let low = part_below t u b d pb in omega (arith, low))
  apart_under d a b pa pb differ zero x high (inr h) = by (above x) refl
    where
      by : (o : Option ℕ) → above x ≡ o → is_under t b x ≡ false
      by None q = outermost_outside t u b x q
      by (Some y) q = let p = above_some t u (length t.nodes) x y q in let low = part_below t u x y p in let few = slice_get_within t.nodes y p.parent p.at in absurd (omega (arith, high, low, few))
  apart_under d a b pa pb differ (suc m) x high (inr h) = by (above x) refl (λ y low f. apart_under d a b pa pb differ m y (omega (arith, high, low)) f)
    where
      inner : (y : ℕ) → (c : Bool) → (y == a) ≡ c → (c || is_under t a y) ≡ true → (y ≡ a) ⊎ (is_under t a y ≡ true)
      inner y true c h = inl (eqb-true y a c)
      inner y false c h = inr h

      not_b : (y : ℕ) → (y ≡ a) ⊎ (is_under t a y ≡ true) → is_under t b y ≡ false → (y == b) ≡ false
      not_b y (inl same) g = ne_eqb y b (λ e. differ (sym same ∙ e))
      not_b y (inr k) g = ne_eqb y b (λ e. (let inside : is_under t a b ≡ true = subst (λ z. is_under t a z ≡ true) e k in
          false≢true (sym (under_at t u a b d pb ∙ ap (λ c. c || is_under t a d) (ne_eqb d a (λ f. (let low = part_below t u a d pa in absurd (omega (arith, low, f)))))
          ∙ not_above t u a d (let low = part_below t u a d pa in omega (arith, low))) ∙ inside)))

      by : (o : Option ℕ) → above x ≡ o → ((y : ℕ) → x < y → (y ≡ a) ⊎ (is_under t a y ≡ true) → is_under t b y ≡ false) → is_under t b x ≡ false
      by None q rest = outermost_outside t u b x q
      by (Some y) q rest =
          let p = above_some t u (length t.nodes) x y q in
          let f = inner y (y == a) refl (sym (under_at t u a x y p) ∙ h) in
          let g = rest y (part_below t u x y p) f in
          under_at t u b x y p ∙ ap (λ c. c || is_under t b y) (not_b y f g) ∙ g

  -- ---- the function that a declarator declares

  abbrev declarator : ℕ → Declarator
  declarator p = slice_index_or typing.declarators p name_alone

  ruled : (i : ℕ) (n : Node) → slice_get t.nodes i ≡ Some n → IsRuled tree it.checked.checked.texts shapes (cut i typing) (entry_at typing i) i n
  ruled i n at = subst (IsRuledIf tree it.checked.checked.texts shapes (cut i typing) (entry_at typing i) i) (ap (λ ns. slice_get ns i) tree_nodes ∙ at) (made_by.is.whole.typing.each i)

  -- it is a function declarator, that declarator itself or one under it
  abbrev pub Found : ℕ → ℕ → Type 0
  Found a l = ((l ≡ a) ⊎ (is_under t a l ≡ true)) × (kind_at t l ≡ kind.FunctionDeclarator)

  module _ (a : ℕ) (m : Node) (at : slice_get t.nodes a ≡ Some m) (rest : (b : ℕ) → b < a → (l : ℕ) → (declarator b).function ≡ Some l → Found b l) where
    from_inner : (l : ℕ) (o : Option ℕ) → slice_get m.parts 0 ≡ o → (declarator_in (before_in shapes (cut a typing)).declarator o).function ≡ Some l → Found a l
    from_inner l None e f = let never : None ≡ Some l = f in absurd cc
    from_inner l (Some b) e f =
        let h : IsPartOf t u b a = record { parent = m; at = at; place = 0; is = e } in
        let low = part_below t u b a h in
        let own : (declarator b).function ≡ Some l = sym (ap (λ (y : Declarator). y.function) (get_or-take a typing.declarators b name_alone low)) ∙ f in
        let x = rest b low l own in
        (inr (elim x.0 [ inl same ↦ subst (λ y. is_under t a y ≡ true) (sym same) (directly t u a b h) | inr under ↦ further t u l b a under h ]), x.1)

    inner : (l : ℕ) → (declarator_in (before_in shapes (cut a typing)).declarator (slice_get m.parts 0)).function ≡ Some l → Found a l
    inner l f = from_inner l (slice_get m.parts 0) refl f

    abbrev spelling : ℕ → List ℕ
    spelling = spelling_of tree.file.now tree.tokens.now

    by_kind : (k : Kind) → m.kind ≡ k → (l : ℕ) → (declarator_by k spelling tree.nodes.now (before_in shapes (cut a typing)) a m).function ≡ Some l → Found a l
    by_kind kind.GroupDeclarator is l f = inner l f
    by_kind kind.AbstractGroup is l f = inner l f
    by_kind kind.InitDeclarator is l f = inner l f
    by_kind kind.PointerDeclarator is l f = inner l f
    by_kind kind.AbstractPointer is l f = inner l f
    by_kind kind.ArrayDeclarator is l f =
        inner l (sym (array_function (declarator_in (before_in shapes (cut a typing)).declarator (slice_get m.parts 0)) (bracket_before tree.nodes.now m (slice_get m.parts 1)) (size_in (before_in shapes (cut a typing)).seen (slice_get m.parts 1))) ∙ f)
    by_kind kind.AbstractArrayOf is l f =
        inner l (sym (array_function (declarator_in (before_in shapes (cut a typing)).declarator (slice_get m.parts 0)) (bracket_before tree.nodes.now m (slice_get m.parts 1)) (size_in (before_in shapes (cut a typing)).seen (slice_get m.parts 1))) ∙ f)
    by_kind kind.AbstractArray is l f =
        let never : None ≡ Some l = sym (array_function name_alone (bracket_before tree.nodes.now m (slice_get m.parts 0)) (size_in (before_in shapes (cut a typing)).seen (slice_get m.parts 0))) ∙ f in absurd cc
    by_kind kind.FunctionDeclarator is l f =
        elim (function_or (declarator_in (before_in shapes (cut a typing)).declarator (slice_get m.parts 0)).function (is_hole_type (inner_derived (before_in shapes (cut a typing)) (slice_get m.parts 0)))
        (declarator_in (before_in shapes (cut a typing)).declarator (slice_get m.parts 0)) a _ l refl f) [
          | inl own ↦ inner l own
          | inr same ↦ (inl (sym same), ap (kind_at t) (sym same) ∙ ap kind_if at ∙ is)
        ]
    by_kind k is l f = let never : None ≡ Some l = f in absurd cc

    found_at : (l : ℕ) → (declarator a).function ≡ Some l → Found a l
    found_at l f = by_kind m.kind refl l (sym (ap (λ (y : Declarator). y.function) (ruled a m at).declarator) ∙ f)

  pub found_below : (fuel a : ℕ) → a < fuel → a < length t.nodes → (l : ℕ) → (declarator a).function ≡ Some l → Found a l
  found_below zero a low few l f = absurd (omega (arith, low))
  found_below (suc fuel) a low few l f = by (slice_get t.nodes a) refl (λ b less. found_below fuel b (omega (arith, low, less)) (omega (arith, less, few)))
    where
      by : (o : Option Node) → slice_get t.nodes a ≡ o → ((b : ℕ) → b < a → (l : ℕ) → (declarator b).function ≡ Some l → Found b l) → Found a l
      by None at rest = let n = some_at t.nodes a few in let never : None ≡ Some n.0 = sym at ∙ n.1 in absurd cc
      by (Some m) at rest = found_at a m at rest l f

  -- ---- the list of parameters and the body of a definition

  module _ (d l x q0 : ℕ) (defines : kind_at t d ≡ kind.FunctionDefinition) (named_by : HasPart t u d 1 q0) (l_there : (l ≡ q0) ⊎ (is_under t q0 l ≡ true)) (listed : kind_at t l ≡ kind.FunctionDeclarator) (its_list : HasPart t u l 1 x) where
    abbrev body : ℕ
    body = part_at t d 2

    block_part : HasPart t u d 2 body
    block_part = body_at file t it d defines

    blocks : kind_at t body ≡ kind.Compound
    blocks = block_at file t it d defines

    its_body : IsPartOf t u body d
    its_body = as_part t u d 2 body block_part

    q0_part : IsPartOf t u q0 d
    q0_part = as_part t u d 1 q0 named_by

    differ : q0 ≡ body → ⊥
    differ same =
        let one : named_by.node ≡ block_part.node = same_Some named_by.node block_part.node (sym named_by.at ∙ block_part.at) in
        one_place t u d 1 2 body block_part.node block_part.at (subst (λ (y : Node). slice_get y.parts 1 ≡ Some body) one (named_by.is ∙ ap Some same)) block_part.is (omega arith)

    under_d : is_under t d l ≡ true
    under_d = elim l_there [ inl same ↦ subst (λ y. is_under t d y ≡ true) (sym same) (directly t u d q0 q0_part) | inr h ↦ further t u l q0 d h q0_part ]

    top_d : above d ≡ None
    top_d = outermost file t it d (ap is_definition defines)

    -- under the list, or under the body
    abbrev listing : ℕ → Bool
    listing p = (p == x) || is_under t x p

    abbrev under : ℕ → Bool
    under p = listing p || is_under t body p

    differ_kinds : (i j : ℕ) (a b : Kind) → kind_at t i ≡ a → kind_at t j ≡ b → (a ≡ b → ⊥) → i ≡ j → ⊥
    differ_kinds i j a b e f other same = other (sym e ∙ ap (kind_at t) same ∙ f)

    no_x : (p i : ℕ) → IsPartOf t u p i → (i ≡ l → ⊥) → (p == x) ≡ false
    no_x = lists.no_x file t it l x listed its_list

    item_no_x : (p : ℕ) → above p ≡ None → (p == x) ≡ false
    item_no_x = lists.item_no_x file t it l x listed its_list

    outside : (p : ℕ) → (p == x) ≡ false → is_under t x p ≡ false → is_under t body p ≡ false → under p ≡ false
    outside p a b c = ap (λ z. (z || is_under t x p) || is_under t body p) a ∙ ap (λ z. z || is_under t body p) b ∙ c

    body_under : (p : ℕ) → is_under t body p ≡ true → under p ≡ true
    body_under p h = or_right (listing p) (is_under t body p) h

    list_under : (p : ℕ) → listing p ≡ true → under p ≡ true
    list_under p h = or_left (listing p) (is_under t body p) h

    parts_inside : (i k p : ℕ) (m : Node) → slice_get t.nodes i ≡ Some m → slice_get m.parts k ≡ Some p → (i ≡ body → ⊥) → (i ≡ l → k ≡ 0) → under p ≡ under i
    parts_inside i k p m at e not_body only =
        ap (λ z. z || is_under t body p) (lists.listing_part file t it l x listed its_list p i h (lists.not_second file t it l x listed its_list i k p m at e only))
        ∙ ap (λ z. listing i || z) (alike t u body p i h not_body)
      where
        h : IsPartOf t u p i
        h = record { parent = m; at = at; place = k; is = e }

    x_below : x < l
    x_below = lists.x_below file t it l x listed its_list

    are_inside : AreInside t.nodes t.items d l body under
    are_inside = record {
      parts = parts_inside;
      parameters = λ k p m at e. list_under p (or_left (p == x) (is_under t x p) (eq-eqb p x (lists.list_two file t it l x listed its_list k p m at e)));
      items_of = λ k p m at e. body_under p (directly t u body p (record { parent = m; at = at; place = k; is = e }));
      top = λ k p e. outside p (item_no_x p (item_top k p e)) (item_outside t u x k p e) (item_outside t u body k p e);
      definition_out = outside d (item_no_x d top_d) (outermost_outside t u x d top_d) (outermost_outside t u body d top_d);
      list_out = outside l (ne_eqb l x (λ e. (let low = x_below in absurd (omega (arith, low, e))))) (not_above t u x l (let low = x_below in omega (arith, low)))
          (apart_under d q0 body q0_part its_body differ (length t.nodes) l (omega arith) l_there);
      body_out = outside body (no_x body d its_body (λ same. differ_kinds d l kind.FunctionDefinition kind.FunctionDeclarator defines listed (λ e. cc) same))
          (under_at t u x body d its_body ∙ ap (λ z. z || is_under t x d) (item_no_x d top_d) ∙ outermost_outside t u x d top_d) (not_above t u body body (omega arith));
    }
      where
        item_top : (k p : ℕ) → slice_get t.items k ≡ Some p → above p ≡ None
        item_top k p e = by (above p) refl
          where
            by : (o : Option ℕ) → above p ≡ o → o ≡ None
            by None q = refl
            by (Some a) q = absurd (no_item t u p a k (above_some t u (length t.nodes) p a q) e)

    -- the list next to a definition's name stands under it
    list_below : (i q : ℕ) (m : Node) → slice_get t.nodes i ≡ Some m → m.kind ≡ kind.FunctionDefinition → slice_get m.parts 1 ≡ Some q → (declarator_of t.nodes q).next ≡ derivation.Function l → i ≡ d
    list_below i q m at is e next =
        let h : IsPartOf t u q i = record { parent = m; at = at; place = 1; is = e } in
        let y = (reaches t.nodes (λ a. is_under t i a ≡ true) (λ a b n at_a derives f g. deeper t u i b a (record { parent = n; at = at_a; place = 0; is = f }) g) q (directly t u i q h)).next l next in
        one_top i d (outermost file t it i (ap is_definition (ap kind_if at ∙ is))) top_d (length t.nodes) l (omega arith) y.1.1.1 under_d

    are_own : AreOwn t.nodes d l body
    are_own = record {
      bodied = λ q m at e.
          same_Some q body (sym e ∙ subst (λ (y : Node). slice_get y.parts 2 ≡ Some body) (same_Some block_part.node m (sym block_part.at ∙ at)) block_part.is);
      block = λ m at. sym (ap kind_if at) ∙ blocks;
      function = λ m at. sym (ap kind_if at) ∙ listed;
      no_other_list = list_below;
      bodied_apart = lists.no_body file t it l x listed its_list;
      no_other_body = λ i k m at e. one_parent t u body i d (record { parent = m; at = at; place = k; is = e }) its_body;
    }

    -- ---- a parameter and a name of it

    -- the name stands inside
    name_inside : (i : ℕ) (m : Node) → slice_get t.nodes i ≡ Some m → m.kind ≡ kind.Identifier → (own : IsAutomatic file t it (entity_of t i)) → under (entity_of t i) ≡ true → under i ≡ true
    name_inside i m i_at i_is own inner = by (under i) refl
      where
        by : (b : Bool) → under i ≡ b → b ≡ true
        by true q = refl
        by false q =
            absurd (inside_alone it.unit.tokens.list.items t.nodes t.items (spelled_name file it.unit.tokens.list.items) d l body under own.node.first m.first are_own (lists.are_ordered file t it) are_inside
            (names_apart file t it i (entity_of t i) m own.node i_at i_is own.at own.is under inner q) (seen file t it i (entity_of t i) m i_at i_is own (entity_there file t it i m i_at i_is own)))

    -- ---- the body enters the parameters

    module _ (i e : ℕ) (early : is_early t i ≡ false) (entered : is_one_of (slice_index_or t.parameters d []) e ≡ true) where
      not_early : (y : ℕ) → is_under t y i ≡ true → y < length t.nodes → is_static_initialiser t y (kind_at t y) ≡ false
      not_early y h low = by (is_static_initialiser t y (kind_at t y)) refl
        where
          there : (o : Option Node) → slice_get t.nodes y ≡ o → is_static_initialiser t y (kind_if o) ≡ true → IsAmong y (nodes_from (is_static_initialiser t) 0 t.nodes)
          there None at q = absurd (false≢true q)
          there (Some n) at q =
              let same : 0 + y ≡ y = omega arith in
              subst (λ z. IsAmong z (nodes_from (is_static_initialiser t) 0 t.nodes)) same
              (among_passed (is_static_initialiser t) 0 t.nodes y n at (ap (λ z. is_static_initialiser t z n.kind) same ∙ q))

          by : (b : Bool) → is_static_initialiser t y (kind_at t y) ≡ b → b ≡ false
          by false q = refl
          by true q = absurd (false≢true (sym early ∙ any_among (λ start. is_under t start i) (nodes_from (is_static_initialiser t) 0 t.nodes) y (there (slice_get t.nodes y) refl q) h))

      entered_there : IsAmong e (entered_for t d (kind_at t d) body)
      entered_there = subst (IsAmong e) (sym (parameters_entered t d body defines blocks)) (among_one (slice_index_or t.parameters d []) entered)
        where
          among_one : (xs : List ℕ) → is_one_of xs e ≡ true → IsAmong e xs
          among_one [] h = false≢true h
          among_one (y ∷ xs) h = elim (one_of (y == e) (is_one_of xs e) h) [ inl same ↦ inl (eqb-true y e same) | inr rest ↦ inr (among_one xs rest) ]

      body_finds : finds t body e ≡ true
      body_finds = finds_entered t u d body e its_body (ap (is_static_initialiser t body) blocks) entered_there

      descend : (fuel a : ℕ) → length t.nodes ≤ fuel + a → is_under t body a ≡ true → is_static_initialiser t a (kind_at t a) ≡ false → ((y : ℕ) → IsPartOf t u a y → is_under t y i ≡ true) → finds t a e ≡ true
      descend zero a high h plain over = absurd (false≢true (sym (not_above t u body a (let few = slice_get_within t.nodes d block_part.node block_part.at in let low = part_below t u body d its_body in omega (arith, high, few, low))) ∙ h))
      descend (suc fuel) a high h plain over = by (above a) refl (λ y low g p o. descend fuel y (omega (arith, high, low)) g p o)
        where
          Goes : Type 0
          Goes = (y : ℕ) → a < y → is_under t body y ≡ true → is_static_initialiser t y (kind_at t y) ≡ false → ((z : ℕ) → IsPartOf t u y z → is_under t z i ≡ true) → finds t y e ≡ true

          at : (y : ℕ) → IsPartOf t u a y → (b : Bool) → (y == body) ≡ b → (b || is_under t body y) ≡ true → Goes → finds t a e ≡ true
          at y p true q f rest =
              let same = eqb-true y body q in
              finds_outside t u y a e p plain (ap (λ z. is_definition (kind_at t z)) same ∙ ap is_definition blocks) (subst (λ z. finds t z e ≡ true) (sym same) body_finds)
          at y p false q f rest =
              finds_outside t u y a e p plain (under_plain y f)
              (rest y (part_below t u a y p) f (not_early y (over y p) (slice_get_within t.nodes y p.parent p.at)) (λ z g. further t u i y z (over y p) g))
            where
              under_plain : (y : ℕ) → is_under t body y ≡ true → is_definition (kind_at t y) ≡ false
              under_plain y f = by (above y) refl
                where
                  by : (o : Option ℕ) → above y ≡ o → is_definition (kind_at t y) ≡ false
                  by None q = absurd (false≢true (sym (outermost_outside t u body y q) ∙ f))
                  by (Some z) q = plain_part file t it y z (above_some t u (length t.nodes) y z q)

          by : (o : Option ℕ) → above a ≡ o → Goes → finds t a e ≡ true
          by None q rest = absurd (false≢true (sym (outermost_outside t u body a q) ∙ h))
          by (Some y) q rest = let p = above_some t u (length t.nodes) a y q in at y p (y == body) refl (sym (under_at t u body a y p) ∙ h) rest

      body_seen : is_under t body i ≡ true → kind_at t i ≡ kind.Identifier → sees t i e ≡ true
      body_seen h is = as_seen t i e (or_right (is_lasting t e (kind_at t e)) (finds t i e) (descend (length t.nodes) i (omega arith) h (ap (is_static_initialiser t i) is) (λ y g. directly t u y i g)))

    -- ---- both

    parameter_seen : (i : ℕ) → kind_at t i ≡ kind.Identifier → IsAutomatic file t it (entity_of t i) → is_early t i ≡ false → is_one_of (slice_index_or t.parameters d []) (entity_of t i) ≡ true → under (entity_of t i) ≡ true
        → sees t i (entity_of t i) ≡ true
    parameter_seen i is own early entered inner = there (slice_get t.nodes i) refl
      where
        there : (o : Option Node) → slice_get t.nodes i ≡ o → sees t i (entity_of t i) ≡ true
        there None at = let never : kind.Break ≡ kind.Identifier = sym (ap kind_if at) ∙ is in absurd cc
        there (Some m) at = elim (one_of (listing i) (is_under t body i) (name_inside i m at (sym (ap kind_if at) ∙ is) own inner)) [
          | inl f ↦ lists.list_seen file t it l x listed its_list i (entity_of t i) f
          | inr f ↦ body_seen i (entity_of t i) early entered f is
        ]

  -- ---- a definition's parameters

  pub parameters_are : (d : ℕ) → d < length t.nodes → slice_index_or t.parameters d [] ≡ functions.parameters_of (parsed_of it.unit) columns d
  parameters_are d low =
      ap (λ ps. slice_index_or ps d []) made_by.elaborated.parameters
      ∙ listed_at (functions.parameters_of (parsed_of it.unit) columns) (length it.unit.nodes) d [] (let c : length t.nodes ≡ length it.unit.nodes = ap length made_by.elaborated.nodes_are in omega (arith, low, c))

  pub unit_parts : (i k p : ℕ) → slice_get (scripts.parts_at it.unit.nodes i) k ≡ Some p → slice_get (parts_at t i) k ≡ Some p
  unit_parts i k p e = same (slice_get t.nodes i) refl (ap (λ ns. slice_get (scripts.parts_at ns i) k) (sym nodes_are) ∙ e)
    where
      same : (o : Option Node) → slice_get t.nodes i ≡ o → slice_get (scripts.parts_at t.nodes i) k ≡ Some p → slice_get (parts_at t i) k ≡ Some p
      same None at f = let g : slice_get [] k ≡ Some p = sym (ap (λ o. slice_get (scripts.parts_if o) k) at) ∙ f in ap (λ o. slice_get (parts_if o) k) at ∙ g
      same (Some n) at f = ap (λ o. slice_get (parts_if o) k) at ∙ sym (ap (λ o. slice_get (scripts.parts_if o) k) at) ∙ f

  module _ (i d : ℕ) (is : kind_at t i ≡ kind.Identifier) (own : IsAutomatic file t it (entity_of t i)) (early : is_early t i ≡ false) (entered : is_one_of (slice_index_or t.parameters d []) (entity_of t i) ≡ true) (low : d < length t.nodes) where
    abbrev e : ℕ
    e = entity_of t i

    -- a parameter of the list that names the object
    of_parameter : (l x q0 p : ℕ) → kind_at t d ≡ kind.FunctionDefinition → HasPart t u d 1 q0 → (declarator q0).function ≡ Some l → HasPart t u l 1 x → (p ≡ x) ⊎ ((k : ℕ) × (slice_get (scripts.parts_at it.unit.nodes x) k ≡ Some p))
        → (o : Option ℕ) → slice_get (scripts.parts_at it.unit.nodes p) 1 ≡ o → entities.name_node (parsed_of it.unit) (entities.declared_token it.unit.nodes o) ≡ Some e → sees t i e ≡ true
    of_parameter l x q0 p defines named_by function its_list place None f g = let never : None ≡ Some e = g in absurd cc
    of_parameter l x q0 p defines named_by function its_list place (Some q) f g = by (declarator_of it.unit.nodes q).name refl g
      where
        found : Found q0 l
        found = found_below (suc q0) q0 (omega arith) (slice_get_within t.nodes q0 named_by.own named_by.own_at) l function

        q_part : HasPart t u p 1 q
        q_part = has_part t u p 1 q (unit_parts p 1 q f)

        q_under : is_under t x q ≡ true
        q_under = elim place [
          | inl same ↦ directly t u x q (subst (λ y. IsPartOf t u q y) same (as_part t u p 1 q q_part))
          | inr h ↦ deeper t u x q p (as_part t u p 1 q q_part) (directly t u x p (as_part t u x h.0 p (has_part t u x h.0 p (unit_parts x h.0 p h.1))))
        ]

        leaf : (token : ℕ) → (declarator_of it.unit.nodes q).name ≡ Some token → is_number (entities.named_token it.unit.nodes e) token ≡ true → is_under t x e ≡ true
        leaf token named key =
            let y = (reaches t.nodes (λ a. is_under t x a ≡ true) (λ a b n at_a derives h k. deeper t u x b a (record { parent = n; at = at_a; place = 0; is = h }) k) q q_under).name token (ap (λ ns. (declarator_of ns q).name) (sym nodes_are) ∙ named) in
            let token_e : entities.named_token it.unit.nodes e ≡ Some own.node.first =
            ap (λ ns. entities.named_token ns e) nodes_are ∙ ap (λ o. if entities.is_name (scripts.kind_if o) then scripts.first_if o else None) own.at ∙ ap (λ k. if entities.is_name (Some k) then Some own.node.first else None) own.is in
            let same : own.node.first ≡ token = eqb-true own.node.first token (sym (ap (λ o. is_number o token) token_e) ∙ key) in
            let first : y.1.0.first ≡ own.node.first = y.1.1.1.0.1 ∙ sym same in
            let w = (u.within y.0 y.1.0 y.1.1.0).0 in
            let one : e ≡ y.0 = named_once t u order e y.0 own.node y.1.0 own.node.first own.at own.is refl y.1.1.0 (ap is_named y.1.1.1.0.0) (omega (arith, first)) (omega (arith, first)) (omega (arith, first, w)) in
            subst (λ z. is_under t x z ≡ true) (sym one) y.1.1.1.1

        at_token : (token : ℕ) → (declarator_of it.unit.nodes q).name ≡ Some token → (b : Bool) → (if b then last_with (entities.named_token it.unit.nodes) (length it.unit.nodes) token else None) ≡ Some e → sees t i e ≡ true
        at_token token named false h = let never : None ≡ Some e = h in absurd cc
        at_token token named true h =
            parameter_seen d l x q0 defines named_by found.0 found.1 its_list i is own early entered
            (list_under d l x q0 defines named_by found.0 found.1 its_list e (or_right (e == x) (is_under t x e) (leaf token named (last_has (entities.named_token it.unit.nodes) (length it.unit.nodes) token e h))))

        by : (o : Option ℕ) → (declarator_of it.unit.nodes q).name ≡ o → entities.name_node (parsed_of it.unit) o ≡ Some e → sees t i e ≡ true
        by None q g = let never : None ≡ Some e = g in absurd cc
        by (Some token) q g = at_token token q (nat_lt token (length it.unit.tokens.list.items)) g

    -- the list that has it
    of_list : (l x q0 k p : ℕ) → kind_at t d ≡ kind.FunctionDefinition → HasPart t u d 1 q0 → (declarator q0).function ≡ Some l → HasPart t u l 1 x
        → slice_get (functions.listed_by (scripts.kind_at it.unit.nodes x) (scripts.parts_at it.unit.nodes x) x) k ≡ Some p → functions.parameter_name (parsed_of it.unit) p ≡ Some e → sees t i e ≡ true
    of_list l x q0 k p defines named_by function its_list f g = of_parameter l x q0 p defines named_by function its_list (by (scripts.kind_at it.unit.nodes x) f) (slice_get (scripts.parts_at it.unit.nodes p) 1) refl g
      where
        lone : (j : ℕ) → slice_get (x ∷ []) j ≡ Some p → p ≡ x
        lone zero h = sym (same_Some x p h)
        lone (suc j) h = let never : None ≡ Some p = h in absurd cc

        by : (o : Option Kind) → slice_get (functions.listed_by o (scripts.parts_at it.unit.nodes x) x) k ≡ Some p → (p ≡ x) ⊎ ((k : ℕ) × (slice_get (scripts.parts_at it.unit.nodes x) k ≡ Some p))
        by (Some kind.VoidParameters) h = let never : None ≡ Some p = h in absurd cc
        by (Some kind.Parameters) h = inr (k, h)
        by (Some kind.VariadicParameters) h = inr (k, h)
        by o h = inl (lone k h)

    of_function : (q0 : ℕ) → kind_at t d ≡ kind.FunctionDefinition → HasPart t u d 1 q0 → (o : Option ℕ) → (declarator q0).function ≡ o
        → is_one_of (flat_map (λ p. option_to_list (functions.parameter_name (parsed_of it.unit) p)) (functions.parameter_nodes it.unit.nodes (part_of it.unit.nodes o 1))) e ≡ true → sees t i e ≡ true
    of_function q0 defines named_by None function h = absurd (false≢true h)
    of_function q0 defines named_by (Some l) function h = by (slice_get (scripts.parts_at it.unit.nodes l) 1) refl h
      where
        by : (o : Option ℕ) → slice_get (scripts.parts_at it.unit.nodes l) 1 ≡ o
            → is_one_of (flat_map (λ p. option_to_list (functions.parameter_name (parsed_of it.unit) p)) (functions.parameter_nodes it.unit.nodes o)) e ≡ true → sees t i e ≡ true
        by None q h = absurd (false≢true h)
        by (Some x) q h =
            let y = any_flat (λ own. own == e) (λ p. option_to_list (functions.parameter_name (parsed_of it.unit) p)) (functions.listed_by (scripts.kind_at it.unit.nodes x) (scripts.parts_at it.unit.nodes x) x) h in
            of_list l x q0 y.0 y.1.0 defines named_by function (has_part t u l 1 x (unit_parts l 1 x q)) y.1.1.0 (any_option e (functions.parameter_name (parsed_of it.unit) y.1.0) y.1.1.1)

    seen_by : sees t i e ≡ true
    seen_by = by (entities.is_definition (scripts.kind_at it.unit.nodes d)) refl (ap (λ ps. is_one_of ps e) (sym (parameters_are d low)) ∙ entered)
      where
        defined : (o : Option Kind) → entities.is_definition o ≡ true → o ≡ Some kind.FunctionDefinition
        defined (Some kind.FunctionDefinition) h = refl
        defined o h = absurd (false≢true h)

        kind_there : (o : Option Node) → slice_get t.nodes d ≡ o → scripts.kind_at t.nodes d ≡ Some kind.FunctionDefinition → kind_at t d ≡ kind.FunctionDefinition
        kind_there None at h = let never : None ≡ Some kind.FunctionDefinition = sym (ap scripts.kind_if at) ∙ h in absurd cc
        kind_there (Some n) at h = let same : Some n.kind ≡ Some kind.FunctionDefinition = sym (ap scripts.kind_if at) ∙ h in ap kind_if at ∙ (let k : n.kind ≡ kind.FunctionDefinition = cc in k)

        by : (b : Bool) → entities.is_definition (scripts.kind_at it.unit.nodes d) ≡ b
            → is_one_of (if b then flat_map (λ p. option_to_list (functions.parameter_name (parsed_of it.unit) p)) (functions.parameter_nodes it.unit.nodes (part_of it.unit.nodes (functions.function_of it.unit.nodes columns d) 1)) else []) e ≡ true → sees t i e ≡ true
        by false q h = absurd (false≢true h)
        by true q h = at (slice_get (scripts.parts_at it.unit.nodes d) 1) refl h
          where
            defines : kind_at t d ≡ kind.FunctionDefinition
            defines = kind_there (slice_get t.nodes d) refl (ap (λ ns. scripts.kind_at ns d) (sym nodes_are) ∙ defined (scripts.kind_at it.unit.nodes d) q)

            at : (o : Option ℕ) → slice_get (scripts.parts_at it.unit.nodes d) 1 ≡ o
                → is_one_of (flat_map (λ p. option_to_list (functions.parameter_name (parsed_of it.unit) p)) (functions.parameter_nodes it.unit.nodes (part_of it.unit.nodes (entry_of columns.declarators.now name_alone o).function 1))) e ≡ true → sees t i e ≡ true
            at None f h = absurd (false≢true h)
            at (Some q0) f h =
                of_function q0 defines (has_part t u d 1 q0 (unit_parts d 1 q0 f)) (entry_of columns.declarators.now name_alone (Some q0)).function
                (ap (λ column. (slice_index_or column q0 name_alone).function) (sym made_by.are.declarators)) h

  -- ---- parameters

  below : (m : ℕ) (declared : ℕ) → is_parameter_below m t declared ≡ true → (d : ℕ) × ((d < m) × (is_one_of (slice_index_or t.parameters d []) declared ≡ true))
  below zero declared h = absurd (false≢true h)
  below (suc m) declared h = elim (one_of (is_one_of (slice_index_or t.parameters m []) declared) (is_parameter_below m t declared) h) [
    | inl own ↦ (m, (omega arith, own))
    | inr rest ↦ (let y = below m declared rest in let low = y.1.0 in (y.0, (omega (arith, low), y.1.1)))
  ]

  pub seen_parameter : (i : ℕ) → kind_at t i ≡ kind.Identifier → is_automatic_by (slice_index_or t.durations (entity_of t i) duration.NoObject) ≡ true → is_parameter t (entity_of t i) ≡ true → is_early t i ≡ false
      → sees t i (entity_of t i) ≡ true
  seen_parameter i is automatic parameter early = let y = below (length t.nodes) (entity_of t i) parameter in seen_by i y.0 is (automatic_at file t it (entity_of t i) automatic) early y.1.1 y.1.0

  -- ---- names of local objects

  pub named_locally : (i : ℕ) → kind_at t i ≡ kind.Identifier → is_named_locally t i ≡ true → sees t i (entity_of t i) ≡ true
  named_locally i is local =
      let both = and_parts (is_local t (entity_of t i) || is_own_parameter t (entity_of t i)) (not (is_early t i)) local in
      let early = not-true (is_early t i) both.1 in
      elim (one_of (is_local t (entity_of t i)) (is_own_parameter t (entity_of t i)) both.0) [
        | inl here ↦ as_seen t i (entity_of t i) (or_right (is_lasting t (entity_of t i) (kind_at t (entity_of t i))) (finds t i (entity_of t i)) (finds_local file t it i is here early))
        | inr own ↦ (let parts = and_parts (is_automatic_by (slice_index_or t.durations (entity_of t i) duration.NoObject)) (is_parameter t (entity_of t i)) own in seen_parameter i is parts.0 parts.1 early)
      ]
