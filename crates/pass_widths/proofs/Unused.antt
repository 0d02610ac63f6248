-- The levels of pass u.
use Rattle.std.proofs.Common.{◌≡◌, ℕ, ◌+◌, ◌≤◌, true, false, List, [], ◌∷◌, Option, Some, length, drop, nat_le, slice_get, if◌then◌else◌, lit≤, sym, subst, arith, inl, inr}
use Rattle.std.specs.List.{sum_by}
use Rattle.std.proofs.lemmas.List.Concat.{length-flat_map}
use Rattle.cr_tokens.specs.declared.token.Token.{Token}
use Rattle.cr_syntax.specs.declared.node.Kind.{Kind}
use Rattle.cr_syntax.specs.declared.node.Kind.TheVariants as kind
use Rattle.cr_syntax.specs.declared.node.Node.{Node}
use Rattle.cr_syntax.specs.declared.part.Part.TheVariants as part
use Rattle.cr_syntax.specs.declared.word.Word.TheVariants as word
use Rattle.cr_syntax.specs.Grammar.{closing, inner, inner_many}
use Rattle.cr_syntax.specs.Kept.{AreBelow, PartsAreBelow, row_in}
use Rattle.cr_syntax.specs.Tables.{rule_of, side_of}
use Rattle.cr_syntax.specs.Trees.{Trees, none, node}
use Rattle.cr_syntax.specs.Units.{unit_side}
use Rattle.cr_syntax.specs.Words.{Lexeme}
use Rattle.cr_syntax_nodes.specs.Laid.{IsLaid}
use Rattle.cr_syntax_nodes.proofs.Laid.{laid}
use Rattle.cr_scopes.specs.declared.names.Names.{Names}
use Rattle.cr_scopes_events.specs.Events.{events_of}
use Rattle.pass_levels.specs.Gathered.{gathered}
use Rattle.pass_levels.specs.Level.{level_of}
use Rattle.pass_levels.specs.Nodes.{node_at}
use Rattle.pass_names.specs.Members.{member_uses}
use Rattle.pass_names.specs.Reserved.{reserved_tokens}
use Rattle.pass_names.specs.Unused.{declaration_by, declarations_by, declarations_give, declarator_gives, declarators_by, declarators_give, enumerator_gives, items_give, member_gives, members_give, parts_by, parts_give, row_gives, u_levels, u_offering}
use Rattle.pass_widths.specs.Few.{AreFew, AreOfUnit}
use Rattle.pass_widths.proofs.Counted.{gathered_few, if_one}
use Rattle.pass_widths.proofs.Credits.{all_save, block_test, credit, credit_by, credit_of, declarators_save, enumerator_test, external_test, members_only, none_more, saved}
use Rattle.pass_widths.proofs.Levels.{by_credit, each_one, levels_few}
use Rattle.pass_widths.proofs.Own.{AllStand, list_stands, own, row_stands}
use Rattle.pass_widths.proofs.Paid.{made_wide, unit_paid}
use Rattle.pass_widths.proofs.Rows.{at_is, listed_within, parts_within, sum_stands}

-- what stands in a unit is external
pub externals : {count : ℕ} {nodes : List Node} {items : List ℕ} (u : AreOfUnit count nodes items) → AllStand part.External (row_in nodes items)
externals {nodes = nodes} {items = items} u = by (row_in nodes items) (laid u.is_unit.spells)
  where
    by : (t : Trees) → IsLaid u.lexemes unit_side t 0 (length u.lexemes) → AllStand part.External t
    by none h = absurd h
    by (node k a b t v) h = (h.0.0, row_stands part.External v b h.1.0)

-- so there are no more items than tokens
pub items_few : {count : ℕ} {nodes : List Node} {items : List ℕ} (u : AreOfUnit count nodes items) → length items ≤ count
items_few {nodes = nodes} {items = items} u =
    let paid = unit_paid u (λ k. 0) (credit nodes) (λ k n at made.
    let le = saved u.lexemes nodes u.below n.kind n.parts n.first (n.last + 1) (parts_within nodes u.below k n at) (laid made.spells) in
    let wide = made_wide nodes n made in let same = subst (λ m. credit_of m ≤ own (side_of n.kind) + sum_by (credit nodes) n.parts) (sym (at_is nodes k n at)) le in omega (arith, wide, same)) in
    let all = all_save u.lexemes nodes u.below part.External external_test items (listed_within u.listed) (externals u) in
    omega (arith, paid, all)

-- and one at the least
pub some_item : {count : ℕ} {nodes : List Node} {items : List ℕ} → AreOfUnit count nodes items → 1 ≤ length items
some_item {items = []} u = absurd (laid u.is_unit.spells)
some_item {items = p ∷ ps} u = omega arith

-- Declarators, declarations in blocks, members and enumerators.

row_few : (tokens : List Token) (nodes : List Node) (names : Names) (row : List ℕ) → length (row_gives tokens nodes names row) ≤ length row
row_few tokens nodes names row = elim (nat_le 2 (length row)) as (λ b. length (if b then gathered (declarator_gives tokens nodes names row) (length row) else []) ≤ length row) [
  | true ↦ gathered_few (declarator_gives tokens nodes names row) (λ k. if_one _ _) (length row)
  | false ↦ omega arith
]

declaration_one : (k : Kind) (tokens : List Token) (names : Names) (mains : List ℕ) (n : Node) → length (declaration_by k tokens names mains n) ≤ 1
declaration_one kind.Declaration tokens names mains n = if_one _ _
declaration_one _ tokens names mains n = lit≤ tt

module _ (ts : List Lexeme) (tokens : List Token) (nodes : List Node) (f : PartsAreBelow nodes) (names : Names) where
  declarators_paid : (k : Kind) (ps : List ℕ) (i j : ℕ) → AreBelow ps (length nodes) → IsLaid ts (side_of k) (row_in nodes ps) i j
      → length (declarators_by k tokens nodes names ps) + credit_by k ps ≤ own (side_of k) + sum_by (credit nodes) ps
  unfolding rule_of
  declarators_paid kind.Declaration ps i j b h =
      let few = row_few tokens nodes names (drop 1 ps) in let all = declarators_save ts nodes f ps i j b h in omega (arith, few, all)
  declarators_paid k ps i j b h = none_more _ _ (saved ts nodes f k ps i j b h)

  declarations_paid : (mains : List ℕ) (k : Kind) (ps : List ℕ) (i j : ℕ) → AreBelow ps (length nodes) → IsLaid ts (side_of k) (row_in nodes ps) i j
      → length (declarations_by k tokens nodes names mains ps) + credit_by k ps ≤ own (side_of k) + sum_by (credit nodes) ps
  unfolding rule_of
  declarations_paid mains kind.Compound ps i j b h =
      let few = each_one (λ p. declaration_by (node_at nodes p).kind tokens names mains (node_at nodes p)) ps (λ p. declaration_one (node_at nodes p).kind tokens names mains (node_at nodes p)) in
      let all = all_save ts nodes f part.BlockItem block_test ps b (row_stands part.BlockItem (row_in nodes ps) (i + 1) h.1.0) in omega (arith, few, all)
  declarations_paid mains k ps i j b h = none_more _ _ (saved ts nodes f k ps i j b h)

  -- the members of one declaration
  members_few : (file : List ℕ) (structures : List (Option ℕ)) (content : ℕ) (whole : Node) → length (members_give file tokens nodes (member_uses nodes structures) content whole) ≤ length (drop 1 whole.parts)
  members_few file structures content whole = gathered_few (member_gives file tokens nodes (member_uses nodes structures) content whole (drop 1 whole.parts)) (λ k. if_one _ _) (length (drop 1 whole.parts))

  member_saved : (file : List ℕ) (structures : List (Option ℕ)) (content q : ℕ) (m : Node) → slice_get nodes q ≡ Some m → m.kind ≡ kind.MemberDeclaration
      → length (members_give file tokens nodes (member_uses nodes structures) content (node_at nodes q)) ≤ credit nodes q
  member_saved file structures content q m at is =
      let few = members_few file structures content (node_at nodes q) in
      subst (λ n. length (members_give file tokens nodes (member_uses nodes structures) content (node_at nodes q)) ≤ credit_of n) (sym (at_is nodes q m at))
      (subst (λ k. length (members_give file tokens nodes (member_uses nodes structures) content (node_at nodes q)) ≤ credit_by k m.parts) (sym is)
      (subst (λ n. length (members_give file tokens nodes (member_uses nodes structures) content (node_at nodes q)) ≤ length (drop 1 n.parts)) (at_is nodes q m at) few))

  -- the declarations of a structure's content
  content_stands : (ps : List ℕ) (i j : ℕ) → IsLaid ts (side_of kind.StructContent) (row_in nodes ps) i j → AllStand part.MemberDeclaration (row_in nodes ps)
  unfolding rule_of
  content_stands ps i j h = elim h.1 [ inl z ↦ by (row_in nodes ps) (i + 1 + 1) z.1 | inr z ↦ by (row_in nodes ps) (i + 1 + 1 + 1) z.1.1 ]
    where
      by : (t : Trees) (m : ℕ) → IsLaid ts (inner part.MemberDeclaration ∷ inner_many part.MemberDeclaration ∷ closing word.RightBrace ∷ []) t m j → AllStand part.MemberDeclaration t
      by none m z = absurd z
      by (node k a b t v) m z = (z.0.0, row_stands part.MemberDeclaration v b z.1.0)

  enumerators_stand : (ps : List ℕ) (i j : ℕ) → IsLaid ts (side_of kind.EnumContent) (row_in nodes ps) i j → AllStand part.Enumerator (row_in nodes ps)
  unfolding rule_of
  enumerators_stand ps i j h = elim h.1 [
    | inl z ↦ list_stands ts part.Enumerator (row_in nodes ps) (i + 1 + 1) z.1.0
    | inr z ↦ list_stands ts part.Enumerator (row_in nodes ps) (i + 1 + 1 + 1) z.1.1.0
  ]

  parts_paid : (file : List ℕ) (structures : List (Option ℕ)) (content : ℕ) (k : Kind) (ps : List ℕ) (i j : ℕ) → AreBelow ps (length nodes) → IsLaid ts (side_of k) (row_in nodes ps) i j
      → length (parts_by k file tokens nodes names (member_uses nodes structures) content ps) + credit_by k ps ≤ own (side_of k) + sum_by (credit nodes) ps
  unfolding rule_of
  parts_paid file structures content kind.EnumContent ps i j b h =
      let few = gathered_few (enumerator_gives tokens nodes names ps) (λ k. if_one _ _) (length ps) in
      let all = all_save ts nodes f part.Enumerator enumerator_test ps b (enumerators_stand ps i j h) in omega (arith, few, all)
  parts_paid file structures content kind.StructContent ps i j b h =
      let few = length-flat_map (λ p. members_give file tokens nodes (member_uses nodes structures) content (node_at nodes p)) ps in
      let all = sum_stands nodes f part.MemberDeclaration (λ p. length (members_give file tokens nodes (member_uses nodes structures) content (node_at nodes p))) (credit nodes)
      (λ q m at stands. member_saved file structures content q m at (members_only m.kind stands)) ps b (content_stands ps i j h) in omega (arith, few, all)
  parts_paid file structures content k ps i j b h = none_more _ _ (saved ts nodes f k ps i j b h)

module _ (file : List ℕ) (tokens : List Token) {nodes : List Node} {items : List ℕ} (names : Names) (u : AreOfUnit (length tokens) nodes items) where
  declarators : length (level_of (declarators_give tokens nodes names) (length nodes)) ≤ length tokens
  declarators = by_credit u (declarators_give tokens nodes names) (λ k n at made.
      subst (λ m. length (declarators_by m.kind tokens nodes names m.parts) + credit_of n ≤ own (side_of n.kind) + sum_by (credit nodes) n.parts) (sym (at_is nodes k n at))
      (declarators_paid u.lexemes tokens nodes u.below names n.kind n.parts n.first (n.last + 1) (parts_within nodes u.below k n at) (laid made.spells)))

  declarations : (mains : List ℕ) → length (level_of (declarations_give tokens nodes names mains) (length nodes)) ≤ length tokens
  declarations mains = by_credit u (declarations_give tokens nodes names mains) (λ k n at made.
      subst (λ m. length (declarations_by m.kind tokens nodes names mains m.parts) + credit_of n ≤ own (side_of n.kind) + sum_by (credit nodes) n.parts) (sym (at_is nodes k n at))
      (declarations_paid u.lexemes tokens nodes u.below names mains n.kind n.parts n.first (n.last + 1) (parts_within nodes u.below k n at) (laid made.spells)))

  parts : (structures : List (Option ℕ)) → length (level_of (parts_give file tokens nodes names (member_uses nodes structures)) (length nodes)) ≤ length tokens
  parts structures = by_credit u (parts_give file tokens nodes names (member_uses nodes structures)) (λ k n at made.
      subst (λ m. length (parts_by m.kind file tokens nodes names (member_uses nodes structures) k m.parts) + credit_of n ≤ own (side_of n.kind) + sum_by (credit nodes) n.parts) (sym (at_is nodes k n at))
      (parts_paid u.lexemes tokens nodes u.below names file structures k n.kind n.parts n.first (n.last + 1) (parts_within nodes u.below k n at) (laid made.spells)))

  unused : (mains : List ℕ) → length (gathered (items_give tokens nodes names mains items) (length items)) ≤ length tokens
  unused mains = let few = gathered_few (items_give tokens nodes names mains items) (λ k. if_one _ _) (length items) in let all = items_few u in omega (arith, few, all)

  pub unused_few : (structures : List (Option ℕ)) → AreFew (length tokens) (u_offering file tokens nodes items names structures)
  unused_few structures =
      let mains = reserved_tokens file tokens false (events_of tokens nodes items) in
      levels_few (length tokens) (u_levels file tokens nodes items names structures mains).levels
      (unused mains, (declarators, (declarations mains, (parts structures, tt))))
