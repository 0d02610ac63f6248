-- What the grammar gives of the nodes of a unit: a definition has three parts, and a structure's content no blocks.
use Rattle.std.proofs.Common.{◌≡◌, ℕ, ◌+◌, ◌≤◌, ◌⊎◌, inl, inr, true, false, List, [], ◌∷◌, Some, length, slice_get, refl, sym, subst, ◌∙◌, arith}
use Rattle.std.proofs.lemmas.Bool.{false≢true}
use Rattle.std.proofs.lemmas.Option.{same_Some}
use Rattle.cr_syntax.specs.declared.node.Kind.{Kind}
use Rattle.cr_syntax.specs.declared.node.Kind.TheVariants as kind
use Rattle.cr_syntax.specs.declared.node.Node.{Node}
use Rattle.cr_syntax.specs.declared.part.Part.{Part}
use Rattle.cr_syntax.specs.declared.part.Part.TheVariants as part
use Rattle.cr_syntax.specs.Symbols as symbol
use Rattle.cr_syntax.specs.Grammar.{Side, part as needed}
use Rattle.cr_syntax.specs.Kept.{AreBelow, row_in}
use Rattle.cr_syntax.specs.Tables.{rule_of, side_of}
use Rattle.cr_syntax.proofs.Arena.{below_first, below_rest, row_at}
use Rattle.cr_syntax_nodes.specs.Laid.{stands_for, IsLaid}
use Rattle.cr_syntax_nodes.proofs.Numbers.{some_at}
use Rattle.cr_scopes_visibility.specs.Sight.Scopes.{is_blocklike, AreOrderly}
use Rattle.cr_typed.specs.declared.typed.Typed.{Typed}
use Rattle.cr_meaning_declarations.specs.Units.Owned.{AreOfUnit}
use Rattle.cr_meaning_declarations.proofs.UnitsLemmas.Rows.{clear_side, clear_laid, clear_at}
use Rattle.cr_meaning_declarations.proofs.UnitsLemmas.Handing.{laid_at, parts_below}
use Rattle.cr_meaning_declarations.proofs.NamesLemmas.Parents.{part_below}
use Rattle.cr_meaning_declarations.proofs.NamesLemmas.Walks.{without, clears}

only_block : (k : Kind) → is_blocklike k ≡ true → (k ≡ kind.Compound) ⊎ (k ≡ kind.For)
only_block kind.Compound h = inl refl
only_block kind.For h = inr refl
only_block k h = absurd (false≢true h)

no_block : (p : Part) (k : Kind) → without kind.Compound kind.For p ≡ true → stands_for p k ≡ true → is_blocklike k ≡ false
no_block p k c s = clears is_blocklike kind.Compound kind.For only_block p k c s

content_clear : clear_side is_blocklike (without kind.Compound kind.For) no_block (side_of kind.StructContent) ≡ true
unfolding rule_of
content_clear = refl

module _ (t : Typed) (unit : AreOfUnit t) where
  abbrev behind_specifiers : Side
  behind_specifiers = needed part.Declarator ∷ symbol.Enters ∷ needed part.Compound ∷ symbol.Ends ∷ []

  abbrev behind_declarator : Side
  behind_declarator = symbol.Enters ∷ needed part.Compound ∷ symbol.Ends ∷ []

  abbrev behind_body : Side
  behind_body = symbol.Ends ∷ []

  no_fourth : (p q r s : ℕ) (ps : List ℕ) (i j : ℕ) → AreBelow (p ∷ q ∷ r ∷ s ∷ ps) (length t.nodes) → IsLaid unit.tokens (side_of kind.FunctionDefinition) (row_in t.nodes (p ∷ q ∷ r ∷ s ∷ ps)) i j → ⊥
  unfolding rule_of
  no_fourth p q r s ps i j b h =
      let b1 = below_rest p (q ∷ r ∷ s ∷ ps) (length t.nodes) b in
      let b2 = below_rest q (r ∷ s ∷ ps) (length t.nodes) b1 in
      let b3 = below_rest r (s ∷ ps) (length t.nodes) b2 in
      let m = some_at t.nodes p (below_first p (q ∷ r ∷ s ∷ ps) (length t.nodes) b) in
      let n = some_at t.nodes q (below_first q (r ∷ s ∷ ps) (length t.nodes) b1) in
      let o = some_at t.nodes r (below_first r (s ∷ ps) (length t.nodes) b2) in
      let x = some_at t.nodes s (below_first s ps (length t.nodes) b3) in
      let h1 = subst (λ u. IsLaid unit.tokens (side_of kind.FunctionDefinition) u i j) (row_at t.nodes unit.below p m.0 (q ∷ r ∷ s ∷ ps) m.1) h in
      let h2 = subst (λ u. IsLaid unit.tokens behind_specifiers u (m.0.last + 1) j) (row_at t.nodes unit.below q n.0 (r ∷ s ∷ ps) n.1) h1.1 in
      let h3 = subst (λ u. IsLaid unit.tokens behind_declarator u (n.0.last + 1) j) (row_at t.nodes unit.below r o.0 (s ∷ ps) o.1) h2.1 in
      let h4 = subst (λ u. IsLaid unit.tokens behind_body u (o.0.last + 1) j) (row_at t.nodes unit.below s x.0 ps x.1) h3.1 in
      absurd h4

  three : (i : ℕ) (m : Node) → slice_get t.nodes i ≡ Some m → m.kind ≡ kind.FunctionDefinition → length m.parts ≤ 3
  three i m at is = by m.parts refl
    where
      by : (ps : List ℕ) → m.parts ≡ ps → length ps ≤ 3
      by [] e = omega arith
      by (p ∷ []) e = omega arith
      by (p ∷ q ∷ []) e = omega arith
      by (p ∷ q ∷ r ∷ []) e = omega arith
      by (p ∷ q ∷ r ∷ s ∷ ps) e =
          absurd (no_fourth p q r s ps m.first (m.last + 1) (subst (λ l. AreBelow l (length t.nodes)) e (parts_below t unit i m at))
          (subst (λ l. IsLaid unit.tokens (side_of kind.FunctionDefinition) (row_in t.nodes l) m.first (m.last + 1)) e
          (subst (λ (k : Kind). IsLaid unit.tokens (side_of k) (row_in t.nodes m.parts) m.first (m.last + 1)) is (laid_at t unit i m at))))

  no_member_block : (i k p : ℕ) (m x : Node) → slice_get t.nodes i ≡ Some m → m.kind ≡ kind.StructContent → slice_get m.parts k ≡ Some p → slice_get t.nodes p ≡ Some x → is_blocklike x.kind ≡ false
  no_member_block i k p m x at is e there =
      let F : Kind → Type 0 = λ y. clear_side is_blocklike (without kind.Compound kind.For) no_block (side_of y) ≡ true in
      let row = clear_laid is_blocklike (without kind.Compound kind.For) no_block unit.tokens (side_of m.kind) (row_in t.nodes m.parts) m.first (m.last + 1) (subst F (sym is) content_clear) (laid_at t unit i m at) in
      let one = clear_at is_blocklike (without kind.Compound kind.For) no_block t.nodes unit.below m.parts (parts_below t unit i m at) row k p e in
      let same : one.0 ≡ x = same_Some one.0 x (sym one.1.0 ∙ there) in
      subst (λ (y : Node). is_blocklike y.kind ≡ false) same one.1.1

  pub orderly : AreOrderly t.nodes
  orderly = record {
    below = λ i k p m at e. part_below t unit p i (record { parent = m; at = at; place = k; is = e });
    definitions = three;
    members = no_member_block;
  }
