-- The tree of a file's unit is shaped as the grammar has it: its declarations have their parts in order (C11 6.7).
use Rattle.std.proofs.Common.{◌≡◌, ℕ, zero, suc, ◌<◌, ◌≤◌, Bool, true, false, List, Option, None, Some, length, slice_get, slice_index_or, refl, sym, subst, ap, ◌∙◌, arith, if◌then◌else◌}
use Rattle.std.proofs.lemmas.Bool.{false≢true, ltb-true}
use Rattle.std.proofs.lemmas.Option.{slice_get_within}
use Rattle.cr_syntax.specs.declared.node.Kind.{Kind}
use Rattle.cr_syntax.specs.declared.node.Kind.TheVariants as kind
use Rattle.cr_syntax.specs.declared.node.Node.{Node}
use Rattle.cr_syntax.specs.Tables.{side_of}
use Rattle.cr_syntax_order.specs.Listed.{AreListed, no_node, one_more}
use Rattle.cr_syntax_nodes.proofs.Order.{own_before}
use Rattle.cr_check_enclosing.specs.Above.{AreAbove}
use Rattle.cr_check_enclosing.specs.Around.{outermost, inside, AreAround}
use Rattle.cr_check_declarations.specs.Before as before
use Rattle.cr_check_declarations.specs.Named.{is_initialised, is_declaration, declares_name, declaration_at, declaration_of, above_in, specifiers_in}
use Rattle.cr_check_declarations.specs.Faults.{is_specifier}
use Rattle.cr_typed.specs.declared.typed.Typed.{Typed}
use Rattle.cr_meaning_operations.specs.Operations.{kind_if, kind_at, parts_if, parts_at, part_at}
use Rattle.cr_meaning_typing.specs.Typed.Whole as readable
use Rattle.cr_meaning_declarations.specs.Units.Owned.{AreOfUnit}
use Rattle.cr_meaning_declarations.proofs.NamesLemmas.Parents.{IsPartOf, above_some}
use Rattle.cr_meaning_declarations.specs.Declared.Files.{IsUnitOfFile, IsAssembledFile, assembled}
use Rattle.cr_meaning_declarations.proofs.DeclaredLemmas.Nodes.{unit_of}
use Rattle.cr_meaning_declarations.proofs.LinkedLemmas.Order.{forth as listed_up}
use Rattle.cr_meaning_types.specs.Known.Shaped.{fits, is_filled, IsPart, IsThere, IsShaped}
use Rattle.cr_meaning_types.proofs.KnownLemmas.Naming.{declaration_is}
use Rattle.cr_meaning_types.proofs.KnownLemmas.Declaring.{has_specifiers}
use Rattle.cr_meaning_references.proofs.TreesLemmas.Grammar.{part_in, Stands}
use Rattle.cr_meaning_references.proofs.TreesLemmas.Tree.{HasPart, has_part, as_part, at_most, needed, operands_read}
use Rattle.cr_meaning_references.proofs.TreesLemmas.Above.{column_above, column_around}
use Rattle.cr_meaning_references.proofs.TreesLemmas.Fitting.{fitting, filling, apart, inner_apart, initialised_counts}

-- ---- nodes that are listed in order

-- a part of a row has no lesser number than the row begins with
row_low : {ns : List Node} {from end : ℕ} {ps : List ℕ} → AreListed ns from ps end → (k p : ℕ) → slice_get ps k ≡ Some p → from ≤ p
row_low no_node k p e = absurd (cc e)
row_low {from = from} (one_more {p = q} at below rest) zero p e = let same : q ≡ p = cc e in let low = listed_up below in omega (arith, same, low)
row_low (one_more at below rest) (suc k) p e = let one = listed_up below in let low = row_low rest k p e in omega (arith, one, low)

-- nor has a part of a part
inner_low : {ns : List Node} {from end : ℕ} {ps : List ℕ} → AreListed ns from ps end → (k p j q : ℕ) (m : Node) → slice_get ps k ≡ Some p → slice_get ns p ≡ Some m → slice_get m.parts j ≡ Some q → from ≤ q
inner_low no_node k p j q m e there f = absurd (cc e)
inner_low {ns = ns} (one_more {p = x} {n = n} at below rest) zero p j q m e there f =
    let same : x ≡ p = cc e in
    let one : Some n ≡ Some m = sym at ∙ ap (slice_get ns) same ∙ there in
    let node : n ≡ m = cc one in
    row_low below j q (ap (λ (y : Node). slice_get y.parts j) node ∙ f)
inner_low (one_more at below rest) (suc k) p j q m e there f = let one = listed_up below in let low = inner_low rest k p j q m e there f in omega (arith, one, low)

-- behind the first part of a row
behind_low : {ns : List Node} {from end : ℕ} {ps : List ℕ} → AreListed ns from ps end → (s : ℕ) → slice_get ps 0 ≡ Some s → (k p : ℕ) → slice_get ps (suc k) ≡ Some p → s < p
behind_low no_node s f k p e = absurd (cc f)
behind_low (one_more {p = x} at below rest) s f k p e = let same : x ≡ s = cc f in let low = row_low rest k p e in omega (arith, same, low)

behind_inner : {ns : List Node} {from end : ℕ} {ps : List ℕ} → AreListed ns from ps end → (s : ℕ) → slice_get ps 0 ≡ Some s → (k p j q : ℕ) (m : Node) → slice_get ps (suc k) ≡ Some p → slice_get ns p ≡ Some m
    → slice_get m.parts j ≡ Some q → s < q
behind_inner no_node s f k p j q m e there g = absurd (cc f)
behind_inner (one_more {p = x} at below rest) s f k p j q m e there g = let same : x ≡ s = cc f in let low = inner_low rest k p j q m e there g in omega (arith, same, low)

-- before it is tested whether the unit fits
module _ (file : List ℕ) (t : Typed) (it : IsAssembledFile file t) where
  open it use {checked.{checked}, made_by, tree as u}

  abbrev own : AreOfUnit t
  own = unit_of file t it

  above_are : AreAbove t.nodes checked.surroundings.above
  above_are = subst (λ ns. AreAbove ns checked.surroundings.above) (sym made_by.elaborated.nodes_are) made_by.is.surroundings.above

  around_are : AreAround t.nodes checked.surroundings.above checked.surroundings.around
  around_are = subst (λ ns. AreAround ns checked.surroundings.above checked.surroundings.around) (sym made_by.elaborated.nodes_are) made_by.is.surroundings.around

  nodes_are : made_by.tree.nodes.now ≡ t.nodes
  nodes_are = made_by.is.whole.tree.nodes ∙ sym made_by.elaborated.nodes_are

  here : (i : ℕ) (n : Node) → slice_get u.nodes.now i ≡ Some n → slice_get t.nodes i ≡ Some n
  here i n at = ap (λ ns. slice_get ns i) (sym nodes_are) ∙ at

  there : (i : ℕ) (n : Node) → slice_get t.nodes i ≡ Some n → slice_get u.nodes.now i ≡ Some n
  there i n at = ap (λ ns. slice_get ns i) nodes_are ∙ at

  listed : AreListed t.nodes 0 it.unit.items (length t.nodes)
  listed = subst (λ ns. AreListed ns 0 it.unit.items (length ns)) (sym made_by.elaborated.nodes_are) it.listed

  part_at_place : (i : ℕ) (n : Node) → slice_get t.nodes i ≡ Some n → (place part : ℕ) → slice_get n.parts place ≡ Some part → HasPart t own i place part
  part_at_place i n at place part e = has_part t own i place part (ap (λ o. slice_get (parts_if o) place) at ∙ e)

  fits_there : (i : ℕ) (n : Node) → slice_get t.nodes i ≡ Some n → (place part : ℕ) (h : HasPart t own i place part) → fits n.kind place h.own.kind ≡ true
  fits_there i n at place part h =
      fitting n.kind place h.own.kind (subst (λ c. Stands (part_in (side_of c) place) h.own.kind) (ap kind_if at) (subst (λ c. Stands (part_in (side_of (kind_at t i)) place) c) (ap kind_if h.own_at) h.stands))

  around_there : (i : ℕ) (n : Node) → slice_get t.nodes i ≡ Some n → (place part : ℕ) → HasPart t own i place part → slice_index_or u.around.now part outermost ≡ inside n.kind i (slice_index_or u.around.now i outermost)
  around_there i n at place part h =
      ap (λ xs. slice_index_or xs part outermost) made_by.is.whole.tree.around ∙ column_around t own checked.surroundings.above checked.surroundings.around above_are around_are i place part h
      ∙ ap (λ c. inside c i (slice_index_or checked.surroundings.around i outermost)) (ap kind_if at)
      ∙ ap (λ xs. inside n.kind i (slice_index_or xs i outermost)) (sym made_by.is.whole.tree.around)

  parts : (i : ℕ) (n : Node) → slice_get u.nodes.now i ≡ Some n → (place part : ℕ) → slice_get n.parts place ≡ Some part → IsPart u i n place part
  parts i n at place part e =
      let h = part_at_place i n (here i n at) place part e in
      record {
        own = h.own;
        at = there part h.own h.own_at;
        below = h.below;
        above = ap (λ xs. slice_index_or xs part None) made_by.is.whole.tree.above
            ∙ column_above t own checked.surroundings.above checked.surroundings.around above_are around_are part i (as_part t own i place part h) h.below;
        around = around_there i n (here i n at) place part h;
        fits = fits_there i n (here i n at) place part h;
      }

  filled : (i : ℕ) (n : Node) → slice_get u.nodes.now i ≡ Some n → (place : ℕ) → is_filled n.kind place ≡ true → IsThere (slice_get n.parts place)
  filled i n at place e =
      let x = filling n.kind place e in
      let part = needed t own i place n.kind (ap kind_if (here i n at)) x.0 (ltb-true place _ x.1) in
      by (slice_get n.parts place) (ap (λ o. slice_get (parts_if o) place) (sym (here i n at)) ∙ part)
    where
      by : (o : Option ℕ) → o ≡ Some (part_at t i place) → IsThere o
      by None f = absurd (cc f)
      by (Some p) f = tt

  -- ---- what stands above a declarator

  above_part : (i a : ℕ) → i < length t.nodes → slice_index_or u.above.now i None ≡ Some a → IsPartOf t own i a
  above_part i a low e = above_some t own (length t.nodes) i a (sym (above_are.each i low) ∙ sym (ap (λ xs. slice_index_or xs i None) made_by.is.whole.tree.above) ∙ e)

  -- an initialised declarator stands in no other
  plain_above : (i : ℕ) (n : Node) → slice_get t.nodes i ≡ Some n → n.kind ≡ kind.InitDeclarator → is_initialised (before.kind_in u.nodes.now (slice_index_or u.above.now i None)) ≡ false
  plain_above i n at same = by (slice_index_or u.above.now i None) refl
    where
      by : (o : Option ℕ) → slice_index_or u.above.now i None ≡ o → is_initialised (before.kind_in u.nodes.now o) ≡ false
      by None e = refl
      by (Some a) e = of_kind h.parent.kind refl
        where
          h : IsPartOf t own i a
          h = above_part i a (slice_get_within t.nodes i n at) e

          kind_is : before.kind_in u.nodes.now (Some a) ≡ Some h.parent.kind
          kind_is = ap before.kind_if (there a h.parent h.at)

          part : HasPart t own a h.place i
          part = part_at_place a h.parent h.at h.place i h.is

          of_kind : (k : Kind) → h.parent.kind ≡ k → is_initialised (before.kind_in u.nodes.now (Some a)) ≡ false
          of_kind kind.InitDeclarator f =
              let few = at_most t own a kind.InitDeclarator 2 (ap kind_if h.at ∙ f) refl initialised_counts in
              let within = slice_get_within (parts_at t a) h.place i (ap (λ o. slice_get (parts_if o) h.place) h.at ∙ h.is) in
              absurd (inner_apart h.place (kind_at t i) (omega (arith, few, within))
              (subst (λ c. Stands (part_in (side_of c) h.place) (kind_at t i)) (ap kind_if h.at ∙ f) part.stands) (ap (λ c. is_initialised (Some c)) (ap kind_if at ∙ same)))
          of_kind k f = ap is_initialised kind_is ∙ ap (λ c. is_initialised (Some c)) f

  initialised : (i part : ℕ) (n : Node) → slice_get u.nodes.now i ≡ Some n → n.kind ≡ kind.InitDeclarator → slice_get n.parts 0 ≡ Some part
      → declaration_of u.nodes.now u.above.now part ≡ declaration_of u.nodes.now u.above.now i
  initialised i part n at same e =
      let p = parts i n at 0 part e in
      let own_kind : before.kind_in u.nodes.now (Some i) ≡ Some kind.InitDeclarator = ap before.kind_if at ∙ ap (λ k. Some k) same in
      ap (λ o. if is_initialised (before.kind_in u.nodes.now o) then declaration_at u.nodes.now (above_in u.above.now o) else declaration_at u.nodes.now o) p.above
      ∙ ap (λ k. if is_initialised k then declaration_at u.nodes.now (above_in u.above.now (Some i)) else declaration_at u.nodes.now (Some i)) own_kind
      ∙ sym (ap (λ b. if b then declaration_at u.nodes.now (above_in u.above.now (slice_index_or u.above.now i None)) else declaration_at u.nodes.now (slice_index_or u.above.now i None)) (plain_above i n (here i n at) same))

  -- ---- specifiers stand before declarators

  declared_in : (a : Option ℕ) (d : ℕ) → declaration_at u.nodes.now a ≡ Some d → a ≡ Some d
  declared_in a d e = by (is_declaration (before.kind_in u.nodes.now a)) e
    where
      by : (b : Bool) → (if b then a else None) ≡ Some d → a ≡ Some d
      by true f = f
      by false f = absurd (cc f)

  specifiers_at : (d : ℕ) (n : Node) → slice_get t.nodes d ≡ Some n → (s : ℕ) → specifiers_in u.nodes.now (Some d) ≡ Some s → slice_get n.parts 0 ≡ Some s
  specifiers_at d n at s e = ap (λ o. slice_get (before.parts_if o) 0) (sym (there d n at)) ∙ e

  -- a declarator isn't the first part of its declaration
  later_place : (d : ℕ) (n : Node) → slice_get t.nodes d ≡ Some n → is_declaration (before.kind_in u.nodes.now (Some d)) ≡ true → (i : ℕ) (m : Node) → slice_get t.nodes i ≡ Some m → declares_name m.kind ≡ true
      → (place : ℕ) → slice_get n.parts place ≡ Some i → (k : ℕ) × (place ≡ suc k)
  later_place d n at declares i m here names zero e =
      let h = part_at_place d n at 0 i e in
      let has = has_specifiers n.kind (sym (ap is_declaration (ap before.kind_if (there d n at))) ∙ declares) in
      let one : Some h.own ≡ Some m = sym h.own_at ∙ here in
      let same : h.own ≡ m = cc one in
      absurd (apart m.kind (ap (λ (x : Node). is_specifier x.kind) (sym same) ∙ sym (has.fits h.own.kind) ∙ fits_there d n at 0 i h) names)
  later_place d n at declares i m here names (suc k) e = (k, refl)

  ordered : (i d s : ℕ) (n : Node) → slice_get u.nodes.now i ≡ Some n → declares_name n.kind ≡ true → declaration_of u.nodes.now u.above.now i ≡ Some d → specifiers_in u.nodes.now (Some d) ≡ Some s → s < i
  ordered i d s n at names declared specified = by (slice_index_or u.above.now i None) refl declared
    where
      declares : is_declaration (before.kind_in u.nodes.now (Some d)) ≡ true
      declares = declaration_is u.nodes.now u.above.now i d declared

      -- with an initialiser
      inner : (a : ℕ) → slice_index_or u.above.now i None ≡ Some a → is_initialised (before.kind_in u.nodes.now (Some a)) ≡ true → declaration_at u.nodes.now (slice_index_or u.above.now a None) ≡ Some d → s < i
      inner a e initial f =
          let h = above_part i a (slice_get_within t.nodes i n (here i n at)) e in
          let g = above_part a d (slice_get_within t.nodes a h.parent h.at) (declared_in (slice_index_or u.above.now a None) d f) in
          let place = later_place d g.parent g.at declares a h.parent h.at (initialised_names h.parent.kind (sym (ap is_initialised (ap before.kind_if (there a h.parent h.at))) ∙ initial)) g.place g.is in
          behind_inner (own_before t.nodes it.unit.items listed d g.parent g.at).1 s (specifiers_at d g.parent g.at s specified) place.0 a h.place i h.parent (ap (slice_get g.parent.parts) (sym place.1) ∙ g.is) h.at h.is
        where
          initialised_names : (k : Kind) → is_initialised (Some k) ≡ true → declares_name k ≡ true
          initialised_names kind.InitDeclarator x = refl
          initialised_names k x = absurd (false≢true x)

      outer : (a : ℕ) → slice_index_or u.above.now i None ≡ Some a → declaration_at u.nodes.now (Some a) ≡ Some d → s < i
      outer a e f =
          let same : Some a ≡ Some d = declared_in (Some a) d f in
          let g = above_part i d (slice_get_within t.nodes i n (here i n at)) (e ∙ same) in
          let place = later_place d g.parent g.at declares i n (here i n at) names g.place g.is in
          behind_low (own_before t.nodes it.unit.items listed d g.parent g.at).1 s (specifiers_at d g.parent g.at s specified) place.0 i (ap (slice_get g.parent.parts) (sym place.1) ∙ g.is)

      by : (o : Option ℕ) → slice_index_or u.above.now i None ≡ o → (if is_initialised (before.kind_in u.nodes.now o) then declaration_at u.nodes.now (above_in u.above.now o) else declaration_at u.nodes.now o) ≡ Some d → s < i
      by None e f = absurd (cc f)
      by (Some a) e f = of_test (is_initialised (before.kind_in u.nodes.now (Some a))) refl f
        where
          of_test : (b : Bool) → is_initialised (before.kind_in u.nodes.now (Some a)) ≡ b → (if b then declaration_at u.nodes.now (slice_index_or u.above.now a None) else declaration_at u.nodes.now (Some a)) ≡ Some d → s < i
          of_test true g x = inner a e g x
          of_test false g x = outer a e x

  pub tree_shaped : IsShaped made_by.tree
  tree_shaped = record {
    parts = parts;
    filled = filled;
    ordered = ordered;
    initialised = initialised;
    operands = λ i n at k asked. subst (λ ns. readable.IsOperand ns i n.parts k) (sym nodes_are) (operands_read t own i n (here i n at) k asked);
  }

  -- and each node has from above what its surroundings have
  pub tree_surrounded : AreAround u.nodes.now u.above.now u.around.now
  tree_surrounded =
      subst (λ ns. AreAround ns u.above.now u.around.now) (sym nodes_are)
      (subst (λ xs. AreAround t.nodes xs u.around.now) (sym made_by.is.whole.tree.above)
      (subst (λ xs. AreAround t.nodes checked.surroundings.above xs) (sym made_by.is.whole.tree.around) around_are))

-- and so it is of what has passed the test
pub shaped : (file : List ℕ) (t : Typed) (it : IsUnitOfFile file t) → IsShaped it.checked.by.tree
shaped file t it = tree_shaped file t (assembled file t it)

pub surrounded : (file : List ℕ) (t : Typed) (it : IsUnitOfFile file t) → (let u = it.checked.by.tree in AreAround u.nodes.now u.above.now u.around.now)
surrounded file t it = tree_surrounded file t (assembled file t it)
