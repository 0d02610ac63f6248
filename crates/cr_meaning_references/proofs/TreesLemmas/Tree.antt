-- The parts of a unit's nodes: what stands there, how many there are, and which node is above each.
use Rattle.std.proofs.Common.{◌≡◌, ℕ, ◌+◌, ◌<◌, ◌≤◌, true, false, List, [], Option, None, Some, length, slice_get, slice_index, refl, sym, subst, ap, ◌∙◌, arith}
use Rattle.std.proofs.lemmas.Bool.{false≢true}
use Rattle.std.proofs.lemmas.Option.{slice_get_within, get_or_from_slice_get, slice_get-get_or}
use Rattle.cr_syntax.specs.declared.node.Kind.{Kind}
use Rattle.cr_syntax.specs.declared.node.Node.{Node}
use Rattle.cr_syntax.specs.Tables.{side_of}
use Rattle.cr_syntax_nodes.specs.Nodes.{least, most, IsUpTo, IsCounted}
use Rattle.cr_syntax_nodes.proofs.Made.{made_in}
use Rattle.cr_syntax_nodes.proofs.Numbers.{occurs}
use Rattle.cr_syntax_nodes.proofs.Counts.{counted, row_counted}
use Rattle.cr_check_expressions.specs.Forms.{form_of}
use Rattle.cr_typed.specs.declared.typed.Typed.{Typed}
use Rattle.cr_meaning_operations.specs.Operations.{kind_if, kind_at, parts_if, parts_at, part_at}
use Rattle.cr_meaning_typing.specs.Typed.Typing.{is_asked, is_expression}
use Rattle.cr_meaning_typing.specs.Typed.Whole as readable
use Rattle.cr_meaning_declarations.specs.Units.Owned.{AreOfUnit}
use Rattle.cr_meaning_declarations.proofs.UnitsLemmas.Handing.{laid_at, parts_below}
use Rattle.cr_meaning_declarations.proofs.NamesLemmas.Parents.{IsPartOf}
use Rattle.cr_meaning_references.proofs.TreesLemmas.Grammar.{part_in, Stands, stands, is_of}
use Rattle.cr_meaning_references.proofs.TreesLemmas.Expressions.{is_expression_part, expression_there, is_jump, asked, asked_apart}

module _ (t : Typed) (unit : AreOfUnit t) where
  -- ---- a part of a node

  -- a node with a part is there
  pub record HasPart (i k a : ℕ) : Type 0 where
    pub node : Node
    pub at : slice_get t.nodes i ≡ Some node
    pub is : slice_get node.parts k ≡ Some a
    pub own : Node
    pub own_at : slice_get t.nodes a ≡ Some own
    pub below : a < i
    pub stands : Stands (part_in (side_of (kind_at t i)) k) (kind_at t a)

  pub has_part : (i k a : ℕ) → slice_get (parts_at t i) k ≡ Some a → HasPart i k a
  has_part i k a e = by (slice_get t.nodes i) refl
    where
      by : (o : Option Node) → slice_get t.nodes i ≡ o → HasPart i k a
      by None at = absurd (none (ap (λ o. slice_get (parts_if o) k) (sym at) ∙ e))
        where
          none : slice_get [] k ≡ Some a → ⊥
          none f = cc f
      by (Some n) at =
          let is : slice_get n.parts k ≡ Some a = ap (λ o. slice_get (parts_if o) k) (sym at) ∙ e in
          let own = stands t.nodes unit.below unit.tokens (side_of n.kind) n.parts n.first (n.last + 1) (parts_below t unit i n at) (laid_at t unit i n at) k a is in
          let few = slice_get_within n.parts k a is in
          let low = unit.below i n at k few in
          let same : slice_index n.parts k ≡ a = get_or_from_slice_get n.parts k a _ is in
          record {
            node = n;
            at = at;
            is = is;
            own = own.0;
            own_at = own.1.0;
            below = omega (arith, low, same);
            stands = subst (λ c. Stands (part_in (side_of c) k) (kind_at t a)) (sym (ap kind_if at)) (subst (λ c. Stands (part_in (side_of n.kind) k) c) (sym (ap kind_if own.1.0)) own.1.1);
          }

  pub as_part : (i k a : ℕ) → HasPart i k a → IsPartOf t unit a i
  as_part i k a h = record { parent = h.node; at = h.at; place = k; is = h.is }

  -- ---- how many parts

  counted_at : (i : ℕ) (n : Node) → slice_get t.nodes i ≡ Some n → IsCounted (side_of n.kind) (length n.parts)
  counted_at i n at =
      subst (IsCounted (side_of n.kind)) (row_counted t.nodes unit.below n.parts (parts_below t unit i n at))
      (counted (made_in unit.is_unit.spells (occurs t.nodes unit.below t.items unit.once unit.are (length t.nodes) i n (omega arith) at)).spells)

  -- a node of a kind other than the one of nodes that aren't there
  pub counted_by : (i : ℕ) (k : Kind) → kind_at t i ≡ k → is_jump k ≡ false → IsCounted (side_of k) (length (parts_at t i))
  counted_by i k is apart = by (slice_get t.nodes i) refl
    where
      by : (o : Option Node) → slice_get t.nodes i ≡ o → IsCounted (side_of k) (length (parts_at t i))
      by None at = absurd (false≢true (sym apart ∙ ap is_jump (sym is ∙ ap kind_if at)))
      by (Some n) at =
          subst (λ (ps : List ℕ). IsCounted (side_of k) (length ps)) (sym (ap parts_if at)) (subst (λ c. IsCounted (side_of c) (length n.parts)) (sym (ap kind_if at) ∙ is) (counted_at i n at))

  pub exactly : (i : ℕ) (k : Kind) (m : ℕ) → kind_at t i ≡ k → is_jump k ≡ false → least (side_of k) ≡ m → most (side_of k) ≡ Some m → length (parts_at t i) ≡ m
  exactly i k m is apart low high =
      let c = counted_by i k is apart in
      let up : length (parts_at t i) ≤ m = subst (λ o. IsUpTo o (length (parts_at t i))) high c.most in
      let down = c.least in
      omega (arith, up, down, low)

  pub at_most : (i : ℕ) (k : Kind) (m : ℕ) → kind_at t i ≡ k → is_jump k ≡ false → most (side_of k) ≡ Some m → length (parts_at t i) ≤ m
  at_most i k m is apart high = subst (λ o. IsUpTo o (length (parts_at t i))) high (counted_by i k is apart).most

  -- a part that must be there
  pub needed : (i k : ℕ) (c : Kind) → kind_at t i ≡ c → is_jump c ≡ false → k < least (side_of c) → slice_get (parts_at t i) k ≡ Some (part_at t i k)
  needed i k c is apart few = let down = (counted_by i c is apart).least in slice_get-get_or (parts_at t i) k 0 (omega (arith, few, down))

  -- the operands of an expression, as its rule reads them
  pub operands_read : (i : ℕ) (n : Node) → slice_get t.nodes i ≡ Some n → (k : ℕ) → is_asked (form_of n.kind) k ≡ true → readable.IsOperand t.nodes i n.parts k
  operands_read i n at k h =
      let told = asked n.kind k h in
      let apart = asked_apart n.kind k h in
      let is = needed i k n.kind (ap kind_if at) apart told.1 in
      let part = has_part i k (part_at t i k) is in
      let places = ap (λ c. is_of is_expression_part (part_in (side_of c) k)) (ap kind_if at) ∙ told.0 in
      record {
        number = part_at t i k;
        node = part.own;
        is = ap (λ o. slice_get (parts_if o) k) (sym at) ∙ is;
        below = part.below;
        at = part.own_at;
        expression = ap (λ o. is_expression (form_of (kind_if o))) (sym part.own_at) ∙ expression_there (part_in (side_of (kind_at t i)) k) (kind_at t (part_at t i k)) places part.stands;
      }
