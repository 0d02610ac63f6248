-- What is executed before main is made of constants and of constant addresses, so no name in it is of an automatic object (C11 6.2.4p3, 6.6p9, 6.7.9p4).
use Rattle.std.proofs.Common.{◌≡◌, ℕ, zero, suc, ◌+◌, ◌<◌, ◌≤◌, ◌==◌, ◌⊎◌, inl, inr, Bool, true, false, ◌&&◌, ◌||◌, not, nat_lt, List, Option, None, Some, length, slice_get, slice_index_or, refl, sym, ap, subst, ◌∙◌, arith}
use Rattle.std.specs.Option.{is_some}
use Rattle.std.proofs.lemmas.Bool.{false≢true, and_parts, or_left, or_right, eqb-true, ne_eqb, lt-ltb, ltb-true}
use Rattle.std.proofs.lemmas.Option.{slice_get_within, same_Some}
use Rattle.cr_syntax.specs.declared.node.Kind.{Kind}
use Rattle.cr_syntax.specs.declared.node.Kind.TheVariants as kind
use Rattle.cr_syntax.specs.declared.node.Node.{Node}
use Rattle.cr_syntax.specs.Tables.{rule_of, side_of}
use Rattle.cr_syntax.specs.Kept.{row_in}
use Rattle.cr_syntax_nodes.specs.Nodes.{least}
use Rattle.cr_scopes_visibility.specs.Sight.Scopes.{is_using}
use Rattle.cr_check_enclosing.specs.Above.{above_of}
use Rattle.cr_check_expressions.specs.Forms.{form_of}
use Rattle.cr_check_expressions.specs.Ruled.{is_typed, facts_at}
use Rattle.cr_check_declarations.specs.Named.{is_declarator}
use Rattle.cr_check_initialisers.specs.Known.{is_list_if}
use Rattle.cr_check_constant_values.specs.Anchored.Anchored.{is_anchored, is_operand, Initialises, itself, listed}
use Rattle.cr_check_constant_values.proofs.AnchoredLemmas.Anchoring as anchoring
use Rattle.cr_check_constant_values.proofs.AnchoredLemmas.Filling as filling
use Rattle.cr_typed.specs.declared.typed.Typed.{Typed}
use Rattle.cr_typed.specs.declared.typed.Duration.TheVariants as duration
use Rattle.cr_meaning_operations.specs.Operations.{kind_if, kind_at, parts_if, parts_at, part_at, entity_of, is_automatic_by, is_automatic, is_case, is_declaration, is_static, is_static_initialiser, nodes_from}
use Rattle.cr_meaning_typing.specs.Typed.Typing.{has_value, is_expression}
use Rattle.cr_meaning_typing.specs.Judged.Judged.{seen_in}
use Rattle.cr_meaning_declarations.proofs.UnitsLemmas.Rows.{clear_side, clear_laid, clear_at}
use Rattle.cr_meaning_declarations.proofs.UnitsLemmas.Handing.{laid_at, parts_below}
use Rattle.cr_meaning_declarations.proofs.NamesLemmas.Parents.{IsPartOf, part_below, above_some}
use Rattle.cr_meaning_typing.specs.Sorts.Founded.{parts_of}
use Rattle.cr_meaning_typing.proofs.WholeLemmas.Whole.{is_initialiser}
use Rattle.cr_meaning_types.specs.Known.Shaped.{is_type_name, fits}
use Rattle.cr_meaning_types.proofs.KnownLemmas.Reading.{row}
use Rattle.cr_meaning_declarations.specs.Declared.Files.{IsUnitOfFile}
use Rattle.cr_meaning_declarations.specs.Sight.Under.{is_under}
use Rattle.cr_meaning_declarations.proofs.SightLemmas.Under.{under_at, outermost_outside}
use Rattle.cr_meaning_declarations.proofs.DeclaredLemmas.Files.{has_unit, tree_of}
use Rattle.cr_meaning_declarations.proofs.LastingLemmas.Begun.{one_of}
use Rattle.cr_meaning_references.proofs.ConstantLemmas.Names.{last}
use Rattle.cr_meaning_files.specs.Reached.{is_item, is_size, is_declaring, is_list, is_listing, is_definition, is_block, is_going, goes_on, lives_below, lives, is_reached}
use Rattle.cr_meaning_files.specs.Local.{is_early}
use Rattle.cr_meaning_references.proofs.TreesLemmas.Grammar.{part_in, Stands}
use Rattle.cr_meaning_files.proofs.Tables.{initialiser_there, counts, counted_there}
use Rattle.cr_meaning_references.proofs.TreesLemmas.Tree.{has_part, exactly, at_most, needed}
use Rattle.cr_meaning_references.proofs.TreesLemmas.Shaped.{shaped}
use Rattle.cr_meaning_references.proofs.TreesLemmas.Fitting.{initialised_counts as init_counts}
use Rattle.cr_meaning_files.proofs.Living.{lives_is, reached_lives}
use Rattle.cr_meaning_files.proofs.Filling.{listed_is}
use Rattle.cr_meaning_files.proofs.Lists.{is_inner, is_outer, no_inner, outermost}
use Rattle.cr_meaning_files.proofs.Outside.{told_once}
use Rattle.cr_meaning_files.proofs.Planned.{value_type, planned, lasting, init_counts as init_needs}
use Rattle.cr_scopes_linkage.proofs.SharedLemmas.Shared.{found}

-- ---- the grammar

-- statements, declarations and initialised declarators stand in statements, declarations and definitions alone
items_hold : (k : Kind) → (is_item k || (is_definition k || clear_side is_inner is_outer no_inner (side_of k))) ≡ true
unfolding rule_of
items_hold kind.Compound = refl
items_hold k = refl

item_inner : (k : Kind) → is_item k ≡ true → is_inner k ≡ true
item_inner kind.InitDeclarator h = refl
item_inner k h = h

case_item : (k : Kind) → is_case k ≡ true → is_item k ≡ true
case_item kind.Case h = refl
case_item k h = absurd (false≢true h)

declaration_item : (k : Kind) → is_declaration k ≡ true → is_item k ≡ true
declaration_item kind.Declaration h = refl
declaration_item k h = absurd (false≢true h)

listing_is : (k : Kind) → is_listing k ≡ true → (k ≡ kind.InitDeclarator) ⊎ (k ≡ kind.InitializerList)
listing_is kind.InitDeclarator h = inl refl
listing_is kind.InitializerList h = inr refl
listing_is k h = absurd (false≢true h)

only_static : (t : Typed) (a : ℕ) (k : Kind) → is_static_initialiser t a k ≡ true → (k ≡ kind.InitDeclarator) × (is_static t a ≡ true)
only_static t a kind.InitDeclarator h = (refl, h)
only_static t a k h = absurd (false≢true h)

expression_no_list : (k : Kind) → is_expression (form_of k) ≡ true → is_list k ≡ false
expression_no_list kind.InitializerList h = absurd (false≢true h)
expression_no_list k h = refl

block_plain : (k : Kind) → is_block k ≡ true → (is_expression (form_of k) || is_list k) ≡ false
block_plain kind.Compound h = refl
block_plain k h = absurd (false≢true h)

pub declarator_plain : (k : Kind) → (not (is_declarator k) || not (is_expression (form_of k) || is_list k)) ≡ true
declarator_plain kind.NameDeclarator = refl
declarator_plain k = refl

type_name_plain : (k : Kind) → (not (is_type_name k) || not (is_expression (form_of k))) ≡ true
type_name_plain kind.TypeName = refl
type_name_plain k = refl

pub never : (b : Bool) → not b ≡ true → b ≡ true → ⊥
never true h e = false≢true h
never false h e = false≢true e

-- ---- operands

abbrev evaluates : Kind → Bool
evaluates c = is_expression (form_of c) && not (is_size c)

abbrev is_cast : Kind → Bool
is_cast kind.Cast = true
is_cast c = false

abbrev is_call : Kind → Bool
is_call kind.Call = true
is_call c = false

abbrev lacks : Option ℕ → ℕ → Bool
lacks None k = false
lacks (Some m) k = not (nat_lt k m)

abbrev are_few : Option ℕ → Bool
are_few None = true
are_few (Some m) = nat_lt m 4

operand_first : (c : Kind) → (not (evaluates c) || (is_cast c || (lacks (parts_of (form_of c)) 0 || is_operand (form_of c) 0))) ≡ true
operand_first kind.Comma = refl
operand_first c = refl

operand_second : (c : Kind) → (not (evaluates c) || (lacks (parts_of (form_of c)) 1 || is_operand (form_of c) 1)) ≡ true
operand_second kind.Comma = refl
operand_second c = refl

operand_third : (c : Kind) → (not (evaluates c) || (lacks (parts_of (form_of c)) 2 || is_operand (form_of c) 2)) ≡ true
operand_third kind.Comma = refl
operand_third c = refl

operands_few : (c : Kind) → are_few (parts_of (form_of c)) ≡ true
operands_few kind.Comma = refl
operands_few c = refl

operands_counted : (c : Kind) → (not (evaluates c) || (is_call c || is_some (parts_of (form_of c)))) ≡ true
operands_counted kind.Comma = refl
operands_counted c = refl

only_call : (c : Kind) → is_call c ≡ true → c ≡ kind.Call
only_call kind.Call h = refl
only_call c h = absurd (false≢true h)

only_cast : (c : Kind) → is_cast c ≡ true → c ≡ kind.Cast
only_cast kind.Cast h = refl
only_cast c h = absurd (false≢true h)

-- all parts of what is evaluated are operands, but for the type of a cast
operand_at : (c : Kind) (k : ℕ) → evaluates c ≡ true → (is_cast c ≡ true → k ≡ 0 → ⊥) → ((m : ℕ) → parts_of (form_of c) ≡ Some m → k < m) → is_operand (form_of c) k ≡ true
operand_at c k h cast range = by (parts_of (form_of c)) refl
  where
    of_call : (c : Kind) → c ≡ kind.Call → is_operand (form_of c) k ≡ true
    of_call c is = ap (λ x. is_operand (form_of x) k) is

    there : (m k : ℕ) → parts_of (form_of c) ≡ Some m → k < m → lacks (parts_of (form_of c)) k ≡ false
    there m k e low = ap (λ o. lacks o k) e ∙ ap not (lt-ltb k m low)

    of_place : (m k : ℕ) → parts_of (form_of c) ≡ Some m → k < m → (is_cast c ≡ true → k ≡ 0 → ⊥) → is_operand (form_of c) k ≡ true
    of_place m zero e low cast = elim (one_of (is_cast c) _ (row _ _ (operand_first c) h)) [
      | inl x ↦ absurd (cast x refl)
      | inr y ↦ elim (one_of (lacks (parts_of (form_of c)) 0) _ y) [ inl z ↦ absurd (false≢true (sym (there m 0 e low) ∙ z)) | inr w ↦ w ]
    ]
    of_place m (suc zero) e low cast = elim (one_of (lacks (parts_of (form_of c)) 1) _ (row _ _ (operand_second c) h)) [ inl z ↦ absurd (false≢true (sym (there m 1 e low) ∙ z)) | inr w ↦ w ]
    of_place m (suc (suc zero)) e low cast = elim (one_of (lacks (parts_of (form_of c)) 2) _ (row _ _ (operand_third c) h)) [ inl z ↦ absurd (false≢true (sym (there m 2 e low) ∙ z)) | inr w ↦ w ]
    of_place m (suc (suc (suc k))) e low cast = let few = ltb-true m 4 (sym (ap are_few e) ∙ operands_few c) in absurd (omega (arith, low, few))

    by : (o : Option ℕ) → parts_of (form_of c) ≡ o → is_operand (form_of c) k ≡ true
    by None e = elim (one_of (is_call c) _ (row _ _ (operands_counted c) h)) [
      | inl x ↦ of_call c (only_call c x)
      | inr y ↦ absurd (false≢true (sym (ap is_some e) ∙ y))
    ]
    by (Some m) e = of_place m k e (range m e) cast

module _ (file : List ℕ) (t : Typed) (it : IsUnitOfFile file t) (worth : (i : ℕ) → is_expression (form_of (kind_at t i)) ≡ true → has_value (seen_in it.checked.checked i).type ≡ true) where
  open it use {made_by, typing, shapes, tree}
  open has_unit file t it use {unit as u}

  abbrev above : ℕ → Option ℕ
  above a = above_of t.nodes (length t.nodes) a

  here : (i : ℕ) (n : Node) → slice_get t.nodes i ≡ Some n → slice_get tree.nodes.now i ≡ Some n
  here i n at = ap (λ ns. slice_get ns i) (tree_of file t it) ∙ at

  parts_low : (i k part : ℕ) (n : Node) → slice_get tree.nodes.now i ≡ Some n → slice_get n.parts k ≡ Some part → part < i
  parts_low i k part n at e = ((shaped file t it).parts i n at k part e).below

  -- an expression is made of constants or has a constant address, and so are the initialisers in a list
  abbrev Holds : ℕ → Type 0
  Holds a = (is_expression (form_of (kind_at t a)) ≡ true → is_anchored shapes typing a ≡ true)
      × (is_list (kind_at t a) ≡ true → (j : ℕ) → Initialises tree.nodes.now j a → is_list_if (slice_get tree.nodes.now j) ≡ false → is_anchored shapes typing j ≡ true)

  neither : (a : ℕ) → (is_expression (form_of (kind_at t a)) || is_list (kind_at t a)) ≡ false → Holds a
  neither a h = (
    λ e. absurd (false≢true (sym h ∙ or_left (is_expression (form_of (kind_at t a))) (is_list (kind_at t a)) e)),
    λ e. absurd (false≢true (sym h ∙ or_right (is_expression (form_of (kind_at t a))) (is_list (kind_at t a)) e)),
  )

  -- ---- operands of expressions

  operand_is : (i k a : ℕ) (n : Node) → slice_get t.nodes i ≡ Some n → slice_get n.parts k ≡ Some a → evaluates n.kind ≡ true → is_expression (form_of (kind_at t a)) ≡ true → is_operand (form_of n.kind) k ≡ true
  operand_is i k a n at e h expression = operand_at n.kind k h no_type range
    where
      range : (m : ℕ) → parts_of (form_of n.kind) ≡ Some m → k < m
      range m number =
          let both = counts n.kind m number in
          let many = exactly t u i n.kind m (ap kind_if at) (counted_there n.kind m number) both.0 both.1 in
          let same : length (parts_at t i) ≡ length n.parts = ap (λ o. length (parts_if o)) at in
          let within = slice_get_within n.parts k a e in
          omega (arith, many, same, within)

      no_type : is_cast n.kind ≡ true → k ≡ 0 → ⊥
      no_type cast zeroed =
          let p = (shaped file t it).parts i n (here i n at) 0 a (subst (λ x. slice_get n.parts x ≡ Some a) zeroed e) in
          let named : is_type_name p.own.kind ≡ true = sym (ap (λ c. fits_at c p.own.kind) (only_cast n.kind cast)) ∙ p.fits in
          let kind_is : kind_at t a ≡ p.own.kind = ap kind_if (ap (λ ns. slice_get ns a) (sym (tree_of file t it)) ∙ p.at) in
          never (is_expression (form_of p.own.kind)) (row _ _ (type_name_plain p.own.kind) named) (sym (ap (λ c. is_expression (form_of c)) kind_is) ∙ expression)
        where
          fits_at : Kind → Kind → Bool
          fits_at c own = fits c 0 own

  from_expression : (y a : ℕ) → IsPartOf t u a y → evaluates (kind_at t y) ≡ true → is_expression (form_of (kind_at t a)) ≡ true → Holds y → Holds a
  from_expression y a p h expression held = (
    λ e. anchoring.operands tree it.checked.checked.texts shapes typing made_by.is.whole.typing y p.place a p.parent (here y p.parent p.at) p.is (part_below t u a y p)
        (operand_is y p.place a p.parent p.at p.is (sym (ap evaluates (ap kind_if p.at)) ∙ h) expression)
        (held.0 (and_parts (is_expression (form_of (kind_at t y))) _ h).0),
    λ e. absurd (false≢true (sym (expression_no_list (kind_at t a) expression) ∙ e)),
  )

  -- ---- initialisers in lists

  abbrev is_initial : ℕ → Bool
  is_initial a = is_expression (form_of (kind_at t a)) || is_list (kind_at t a)

  list_part : (i k a : ℕ) → kind_at t i ≡ kind.InitializerList → slice_get (parts_at t i) k ≡ Some a → is_initial a ≡ true
  unfolding rule_of
  list_part i k a is e =
      let h = has_part t u i k a e in
      let stands : Stands (part_in (side_of kind.InitializerList) k) (kind_at t a) = subst (λ c. Stands (part_in (side_of c) k) (kind_at t a)) is h.stands in
      initialiser_there (part_in (side_of kind.InitializerList) k) (kind_at t a) refl stands

  initial_there : {j top : ℕ} → Initialises tree.nodes.now j top → is_initial top ≡ true → is_initial j ≡ true
  initial_there itself h = h
  initial_there {top = top} (listed {part = part} k n at is e rest) h =
      let there : slice_get t.nodes top ≡ Some n = ap (λ ns. slice_get ns top) (sym (tree_of file t it)) ∙ at in
      initial_there rest (list_part top k part (ap kind_if there ∙ is) (ap (λ o. slice_get (parts_if o) k) there ∙ e))

  from_list : (y a : ℕ) → IsPartOf t u a y → kind_at t y ≡ kind.InitializerList → Holds y → Holds a
  from_list y a p is held = (
    λ e. all a itself (listed_is file t it a ∙ expression_no_list (kind_at t a) e),
    λ e j inside single. all j inside single,
  )
    where
      all : (j : ℕ) → Initialises tree.nodes.now j a → is_list_if (slice_get tree.nodes.now j) ≡ false → is_anchored shapes typing j ≡ true
      all j inside single = held.1 (ap is_list is) j (listed p.place p.parent (here y p.parent p.at) (sym (ap kind_if p.at) ∙ is) p.is inside) single

  module _ (d : ℕ) (n : Node) (at : slice_get t.nodes d ≡ Some n) (is : n.kind ≡ kind.InitDeclarator) (static : is_static t d ≡ true) where
    kind_is : kind_at t d ≡ kind.InitDeclarator
    kind_is = ap kind_if at ∙ is

    -- ---- no statement stands under an initialised declarator

    inner_parent : (y x : ℕ) → IsPartOf t u x y → is_inner (kind_at t x) ≡ true → (is_item (kind_at t y) ≡ true) ⊎ (is_definition (kind_at t y) ≡ true)
    inner_parent y x h inner = elim (one_of (is_item h.parent.kind) _ (items_hold h.parent.kind)) [
      | inl i ↦ inl (ap is_item (ap kind_if h.at) ∙ i)
      | inr r ↦ elim (one_of (is_definition h.parent.kind) _ r) [
        | inl i ↦ inr (ap is_definition (ap kind_if h.at) ∙ i)
        | inr clear ↦
            (let laid = clear_laid is_inner is_outer no_inner u.tokens (side_of h.parent.kind) (row_in t.nodes h.parent.parts) h.parent.first (h.parent.last + 1) clear (laid_at t u y h.parent h.at) in
            let one = clear_at is_inner is_outer no_inner t.nodes u.below h.parent.parts (parts_below t u y h.parent h.at) laid h.place x h.is in
            absurd (false≢true (sym (ap (λ o. is_inner (kind_if o)) one.1.0 ∙ one.1.1) ∙ inner)))
      ]
    ]

    no_inner_under : (m x : ℕ) → length t.nodes ≤ m + x → is_inner (kind_at t x) ≡ true → is_under t d x ≡ false
    no_inner_under zero x high inner = by (above x) refl
      where
        by : (o : Option ℕ) → above x ≡ o → is_under t d x ≡ false
        by None q = outermost_outside t u d x q
        by (Some y) q = let p = above_some t u (length t.nodes) x y q in let low = part_below t u x y p in let few = slice_get_within t.nodes y p.parent p.at in absurd (omega (arith, high, low, few))
    no_inner_under (suc m) x high inner = by (above x) refl (λ y low f. no_inner_under m y (omega (arith, high, low)) f)
      where
        in_node : (y : ℕ) → IsPartOf t u x y → (is_item (kind_at t y) ≡ true) ⊎ (is_definition (kind_at t y) ≡ true) → ((y : ℕ) → x < y → is_inner (kind_at t y) ≡ true → is_under t d y ≡ false) → is_under t d x ≡ false
        in_node y p (inl i) rest =
            under_at t u d x y p ∙ ap (λ b. b || is_under t d y) (ne_eqb y d (λ same. false≢true (sym (ap is_item (ap (kind_at t) same ∙ kind_is)) ∙ i)))
            ∙ rest y (part_below t u x y p) (item_inner (kind_at t y) i)
        in_node y p (inr i) rest =
            under_at t u d x y p ∙ ap (λ b. b || is_under t d y) (ne_eqb y d (λ same. false≢true (sym (ap is_definition (ap (kind_at t) same ∙ kind_is)) ∙ i)))
            ∙ outermost_outside t u d y (outermost file t it y i)

        by : (o : Option ℕ) → above x ≡ o → ((y : ℕ) → x < y → is_inner (kind_at t y) ≡ true → is_under t d y ≡ false) → is_under t d x ≡ false
        by None q rest = outermost_outside t u d x q
        by (Some y) q rest = let p = above_some t u (length t.nodes) x y q in in_node y p (inner_parent y x p inner) rest

    outside : (y : ℕ) → is_under t d y ≡ true → is_inner (kind_at t y) ≡ true → ⊥
    outside y f inner = false≢true (sym (no_inner_under (length t.nodes) y (omega arith) inner) ∙ f)

    -- ---- the initialiser

    second_is : slice_get (parts_at t d) 1 ≡ Some (part_at t d 1)
    second_is = needed t u d 1 kind.InitDeclarator kind_is refl (ltb-true 1 (least (side_of kind.InitDeclarator)) init_needs)

    second_initial : is_initial (part_at t d 1) ≡ true
    unfolding rule_of
    second_initial =
        let h = has_part t u d 1 (part_at t d 1) second_is in
        let stands : Stands (part_in (side_of kind.InitDeclarator) 1) (kind_at t (part_at t d 1)) = subst (λ c. Stands (part_in (side_of c) 1) (kind_at t (part_at t d 1))) kind_is h.stands in
        initialiser_there (part_in (side_of kind.InitDeclarator) 1) (kind_at t (part_at t d 1)) refl stands

    typed : (j : ℕ) → Initialises tree.nodes.now j (part_at t d 1) → is_list_if (slice_get tree.nodes.now j) ≡ false → is_typed (facts_at shapes typing.facts j) ≡ true
    typed j inside single = elim (one_of (is_expression (form_of (kind_at t j))) (is_list (kind_at t j)) (initial_there inside second_initial)) [
      | inl e ↦ value_type (facts_at shapes typing.facts j).type (worth j e)
      | inr l ↦ absurd (false≢true (sym single ∙ listed_is file t it j ∙ l))
    ]

    initialisers : (j : ℕ) → Initialises tree.nodes.now j (part_at t d 1) → is_list_if (slice_get tree.nodes.now j) ≡ false → is_anchored shapes typing j ≡ true
    initialisers j inside single =
        let p = planned file t it d n at is static in
        filling.initialisers tree it.checked.checked.texts shapes typing made_by.is.whole.typing (λ b broken. made_by.sound.constraints b (inl broken)) parts_low d j (record { type = p.0; initialiser = part_at t d 1 }) n (here d n at)
        p.1 (lasting file t it d n at is static) typed inside single

    second_holds : Holds (part_at t d 1)
    second_holds = (
      λ e. initialisers (part_at t d 1) itself (listed_is file t it (part_at t d 1) ∙ expression_no_list (kind_at t (part_at t d 1)) e),
      λ e j inside single. initialisers j inside single,
    )

    from_declarator : (a : ℕ) → IsPartOf t u a d → is_initial a ≡ true → Holds a
    from_declarator a p initial = by p.place (ap (λ o. slice_get (parts_if o) p.place) p.at ∙ p.is)
      where
        by : (k : ℕ) → slice_get (parts_at t d) k ≡ Some a → Holds a
        by zero e =
            let h = (shaped file t it).parts d n (here d n at) 0 a (sym (ap (λ o. slice_get (parts_if o) 0) at) ∙ e) in
            let declares : is_declarator h.own.kind ≡ true = sym (ap (λ c. fits c 0 h.own.kind) is) ∙ h.fits in
            let same : kind_at t a ≡ h.own.kind = ap kind_if (ap (λ ns. slice_get ns a) (sym (tree_of file t it)) ∙ h.at) in
            absurd (never (is_expression (form_of h.own.kind) || is_list h.own.kind) (row _ _ (declarator_plain h.own.kind) declares) (sym (ap (λ c. is_expression (form_of c) || is_list c) same) ∙ initial))
        by (suc zero) e = subst Holds (same_Some (part_at t d 1) a (sym second_is ∙ e)) second_holds
        by (suc (suc k)) e =
            let few = at_most t u d kind.InitDeclarator 2 kind_is refl init_counts in
            let within = slice_get_within (parts_at t d) (suc (suc k)) a e in
            absurd (omega (arith, few, within))

    -- ---- down to its expressions

    goes_initial : (a : ℕ) → goes_on t a kind.InitDeclarator (kind_at t a) ≡ true → is_initial a ≡ true
    goes_initial a h = elim (one_of (is_initial a) false h) [ inl x ↦ x | inr other ↦ absurd (false≢true other) ]

    under : (y a : ℕ) → IsPartOf t u a y → goes_on t a (kind_at t y) (kind_at t a) ≡ true → is_under t d y ≡ true → Holds y → Holds a
    under y a p goes f held = by (one_of _ _ goes)
      where
        no_item : is_item (kind_at t y) ≡ true → Holds a
        no_item i = absurd (outside y f (item_inner (kind_at t y) i))

        going : (is_going (kind_at t y) && (is_expression (form_of (kind_at t a)) || (is_item (kind_at t y) && is_item (kind_at t a)))) ≡ true → Holds a
        going h =
            let both = and_parts (is_going (kind_at t y)) _ h in
            elim (one_of (is_expression (form_of (kind_at t y)) && not (is_size (kind_at t y))) _ both.0) [
              | inl e ↦ elim (one_of (is_expression (form_of (kind_at t a))) _ both.1) [ inl own ↦ from_expression y a p e own held | inr i ↦ no_item (and_parts (is_item (kind_at t y)) _ i).0 ]
              | inr i ↦ no_item (and_parts (is_item (kind_at t y)) _ i).0
            ]

        in_list : is_listing (kind_at t y) ≡ true → Holds a
        in_list l = elim (listing_is (kind_at t y) l) [ inl init ↦ absurd (outside y f (ap is_inner init)) | inr list ↦ from_list y a p list held ]

        by : ((is_going (kind_at t y) && (is_expression (form_of (kind_at t a)) || (is_item (kind_at t y) && is_item (kind_at t a)))) ≡ true)
            ⊎ (((is_case (kind_at t y) && is_item (kind_at t a)) || ((is_listing (kind_at t y) && (is_expression (form_of (kind_at t a)) || is_list (kind_at t a))) || (is_declaration (kind_at t y) && (is_declaring (kind_at t a) && is_automatic t a)))) ≡ true)
            → Holds a
        by (inl h) = going h
        by (inr h) = elim (one_of (is_case (kind_at t y) && is_item (kind_at t a)) _ h) [
          | inl c ↦ no_item (case_item (kind_at t y) (and_parts (is_case (kind_at t y)) _ c).0)
          | inr r ↦ elim (one_of (is_listing (kind_at t y) && (is_expression (form_of (kind_at t a)) || is_list (kind_at t a))) _ r) [
            | inl l ↦ in_list (and_parts (is_listing (kind_at t y)) _ l).0
            | inr c ↦ no_item (declaration_item (kind_at t y) (and_parts (is_declaration (kind_at t y)) _ c).0)
          ]
        ]

    pub anchored_under : (m a : ℕ) → length t.nodes ≤ m + a → is_under t d a ≡ true → lives t a ≡ true → Holds a
    anchored_under zero a high f live = by (above a) refl
      where
        by : (o : Option ℕ) → above a ≡ o → Holds a
        by None q = absurd (false≢true (sym (outermost_outside t u d a q) ∙ f))
        by (Some y) q = let p = above_some t u (length t.nodes) a y q in let low = part_below t u a y p in let few = slice_get_within t.nodes y p.parent p.at in absurd (omega (arith, high, low, few))
    anchored_under (suc m) a high f live = by (above a) refl (sym (lives_is t u a) ∙ live) (λ y low g l. anchored_under m y (omega (arith, high, low)) g l)
      where
        Rest : Type 0
        Rest = (y : ℕ) → a < y → is_under t d y ≡ true → lives t y ≡ true → Holds y

        from : (y : ℕ) → IsPartOf t u a y → Rest → goes_on t a (kind_at t y) (kind_at t a) ≡ true → lives t y ≡ true → (b : Bool) → (y == d) ≡ b → (b || is_under t d y) ≡ true → Holds a
        from y p rest goes l true q g =
            let same = eqb-true y d q in
            from_declarator a (subst (λ x. IsPartOf t u a x) same p) (goes_initial a (subst (λ k. goes_on t a k (kind_at t a) ≡ true) (ap (kind_at t) same ∙ kind_is) goes))
        from y p rest goes l false q g = under y a p goes g (rest y (part_below t u a y p) g l)

        by : (o : Option ℕ) → above a ≡ o → (is_static_initialiser t a (kind_at t a) || lives_below t (lives t) a (above a)) ≡ true → Rest → Holds a
        by None q h rest = absurd (false≢true (sym (outermost_outside t u d a q) ∙ f))
        by (Some y) q h rest = elim (one_of (is_static_initialiser t a (kind_at t a)) _ h) [
          | inl s ↦ absurd (outside a f (ap is_inner (only_static t a (kind_at t a) s).0))
          | inr below ↦
              (let p = above_some t u (length t.nodes) a y q in
              elim (one_of (is_definition (kind_at t y) && is_block (kind_at t a)) _ (ap (lives_below t (lives t) a) (sym q) ∙ below)) [
                | inl x ↦ neither a (block_plain (kind_at t a) (and_parts (is_definition (kind_at t y)) (is_block (kind_at t a)) x).1)
                | inr x ↦ (let both = and_parts (goes_on t a (kind_at t y) (kind_at t a)) (lives t y) x in from y p rest both.0 both.1 (y == d) refl (sym (under_at t u d a y p) ∙ f))
              ])
        ]

  -- ---- names

  there : (d : ℕ) → is_static_initialiser t d (kind_at t d) ≡ true → (n : Node) × ((slice_get t.nodes d ≡ Some n) × (n.kind ≡ kind.InitDeclarator))
  there d h = by (slice_get t.nodes d) refl
    where
      by : (o : Option Node) → slice_get t.nodes d ≡ o → (n : Node) × ((slice_get t.nodes d ≡ Some n) × (n.kind ≡ kind.InitDeclarator))
      by None at = absurd (false≢true (sym (ap (λ o. is_static_initialiser t d (kind_if o)) at) ∙ h))
      by (Some n) at = (n, (at, sym (ap kind_if at) ∙ (only_static t d (kind_at t d) h).0))

  pub early_lasts : (i : ℕ) (n : Node) → slice_get t.nodes i ≡ Some n → n.kind ≡ kind.Identifier → is_reached t i ≡ true → (seen_in it.checked.checked i).lvalue ≡ true → is_early t i ≡ true
      → is_automatic_by (slice_index_or t.durations (entity_of t i) duration.NoObject) ≡ false
  early_lasts i n at is r lvalue early =
      let start = found (λ s. is_under t s i) (nodes_from (is_static_initialiser t) 0 t.nodes) early in
      let initial = is_initialiser t start.place start.item start.at in
      let d = there start.item initial in
      let held = anchored_under start.item d.0 d.1.0 d.1.1 (only_static t start.item (kind_at t start.item) initial).1 (length t.nodes) i (omega arith) start.passes (reached_lives t u i r) in
      last file t it i n at is lvalue (held.0 (ap (λ k. is_expression (form_of k)) (ap kind_if at ∙ is))) (told_once file t it i n at (ap is_using is) r)

  -- so the name of an automatic object stands in no initialiser that is executed before main
  pub automatic_late : (i : ℕ) (n : Node) → slice_get t.nodes i ≡ Some n → n.kind ≡ kind.Identifier → is_reached t i ≡ true → (seen_in it.checked.checked i).lvalue ≡ true
      → is_automatic_by (slice_index_or t.durations (entity_of t i) duration.NoObject) ≡ true → is_early t i ≡ false
  automatic_late i n at is r lvalue automatic = by (is_early t i) refl
    where
      by : (b : Bool) → is_early t i ≡ b → b ≡ false
      by false e = refl
      by true e = absurd (false≢true (sym (early_lasts i n at is r lvalue e) ∙ automatic))
