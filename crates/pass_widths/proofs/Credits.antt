-- What the nodes of a unit save for the node whose part they are.
use Rattle.std.proofs.Common.{◌≡◌, ℕ, ◌+◌, ◌≤◌, Bool, true, false, List, [], ◌∷◌, Some, length, drop, min, slice_get, if◌then◌else◌, refl, sym, subst, arith}
use Rattle.std.specs.List.{sum_by}
use Rattle.std.proofs.lemmas.Bool.{false≢true}
use Rattle.std.proofs.lemmas.List.Sums.{sum_by-cons}
use Rattle.cr_syntax.specs.declared.node.Kind.{Kind}
use Rattle.cr_syntax.specs.declared.node.Kind.TheVariants as kind
use Rattle.cr_syntax.specs.declared.node.Node.{Node}
use Rattle.cr_syntax.specs.declared.part.Part.{Part}
use Rattle.cr_syntax.specs.declared.part.Part.TheVariants as part
use Rattle.cr_syntax.specs.declared.word.Word.TheVariants as word
use Rattle.cr_syntax.specs.Grammar.{Side}
use Rattle.cr_syntax.specs.Kept.{AreBelow, PartsAreBelow, row_in}
use Rattle.cr_syntax.specs.Symbols as symbol
use Rattle.cr_syntax.specs.Symbols.{Depth}
use Rattle.cr_syntax.specs.Tables.{rule_of, side_of}
use Rattle.cr_syntax.specs.Words.{Lexeme}
use Rattle.cr_syntax.proofs.Arena.{below_first, below_rest, row_at}
use Rattle.cr_syntax_nodes.specs.Laid.{IsLaid, stands_for}
use Rattle.cr_syntax_nodes.proofs.Numbers.{some_at}
use Rattle.pass_levels.specs.Nodes.{node_at}
use Rattle.pass_widths.proofs.Own.{AllStand, list_stands, own}
use Rattle.pass_widths.proofs.Rows.{at_is, optional_stands, sum_ones, sum_stands}

-- A node saves one token; the declaration of members one for each, and a function definition one of its body's.
abbrev pub credit_by : Kind → List ℕ → ℕ
credit_by kind.FunctionDefinition parts = 1
credit_by kind.MemberDeclaration parts = length (drop 1 parts)
credit_by k parts = min 1 (own (side_of k))

abbrev pub credit_of : Node → ℕ
credit_of n = credit_by n.kind n.parts

abbrev pub credit : List Node → ℕ → ℕ
credit nodes q = credit_of (node_at nodes q)

tested : (b : Bool) (c : ℕ) → (if b then c else 1) ≡ 1 → b ≡ true → 1 ≤ c
tested true c e h = omega (arith, e)
tested false c e h = absurd (false≢true h)

pub block_test : (k : Kind) (parts : List ℕ) → (if stands_for part.BlockItem k then credit_by k parts else 1) ≡ 1
unfolding rule_of
block_test kind.FunctionDefinition parts = refl
block_test _ parts = refl

pub external_test : (k : Kind) (parts : List ℕ) → (if stands_for part.External k then credit_by k parts else 1) ≡ 1
unfolding rule_of
external_test kind.FunctionDefinition parts = refl
external_test _ parts = refl

declarator_test : (k : Kind) (parts : List ℕ) → (if stands_for part.InitDeclarator k then credit_by k parts else 1) ≡ 1
unfolding rule_of
declarator_test kind.FunctionDefinition parts = refl
declarator_test _ parts = refl

member_test : (k : Kind) (parts : List ℕ) → (if stands_for part.MemberDeclarator k then credit_by k parts else 1) ≡ 1
unfolding rule_of
member_test kind.FunctionDefinition parts = refl
member_test _ parts = refl

pub enumerator_test : (k : Kind) (parts : List ℕ) → (if stands_for part.Enumerator k then credit_by k parts else 1) ≡ 1
unfolding rule_of
enumerator_test kind.FunctionDefinition parts = refl
enumerator_test _ parts = refl

compound_test : (k : Kind) (parts : List ℕ) → (if stands_for part.Compound k then credit_by k parts else 1) ≡ 1
unfolding rule_of
compound_test kind.FunctionDefinition parts = refl
compound_test _ parts = refl

pub members_only : (k : Kind) → stands_for part.MemberDeclaration k ≡ true → k ≡ kind.MemberDeclaration
unfolding rule_of
members_only kind.MemberDeclaration h = refl
members_only _ h = absurd cc

-- at most one token, and one token of several
few_own : (x s : ℕ) → min 1 x ≤ x + s
few_own x s = omega arith

pub none_more : (x y : ℕ) → x ≤ y → 0 + x ≤ y
none_more x y le = omega (arith, le)

-- the right side of a function definition, behind its specifiers and its declarator
abbrev behind_declarator : Side
behind_declarator = symbol.Enters ∷ symbol.Part symbol.Outer part.Compound ∷ symbol.Ends ∷ []

abbrev behind_specifiers : Side
behind_specifiers = symbol.Part symbol.Outer part.Declarator ∷ behind_declarator

-- a row's first node, and what is laid behind it
pub record IsOpened (ts : List Lexeme) (nodes : List Node) (wanted : Part) (s : Side) (p : ℕ) (ps : List ℕ) (j : ℕ) : Type 0 where
  pub node : Node
  pub at : slice_get nodes p ≡ Some node
  pub stands : stands_for wanted node.kind ≡ true
  pub rest : IsLaid ts s (row_in nodes ps) (node.last + 1) j

-- the parts of a function definition: specifiers, a declarator and a body
pub record IsDefinition (ts : List Lexeme) (nodes : List Node) (ps : List ℕ) : Type 0 where
  pub specifiers : ℕ
  pub declarator : ℕ
  pub body : ℕ
  pub others : List ℕ
  pub row : ps ≡ specifiers ∷ declarator ∷ body ∷ others
  pub node : Node
  pub at : slice_get nodes body ≡ Some node
  pub stands : stands_for part.Compound node.kind ≡ true

module _ (ts : List Lexeme) (nodes : List Node) (f : PartsAreBelow nodes) where
  abbrev pub saves : List ℕ → ℕ
  saves ps = sum_by (credit nodes) ps

  pub opened : (l : Depth) (wanted : Part) (s : Side) (p : ℕ) (ps : List ℕ) (i j : ℕ) → AreBelow (p ∷ ps) (length nodes)
      → IsLaid ts (symbol.Part l wanted ∷ s) (row_in nodes (p ∷ ps)) i j → IsOpened ts nodes wanted s p ps j
  opened l wanted s p ps i j b h =
      let m : (m : Node) × (slice_get nodes p ≡ Some m) = some_at nodes p (below_first p ps (length nodes) b) in
      let open_ = subst (λ t. IsLaid ts (symbol.Part l wanted ∷ s) t i j) (row_at nodes f p m.0 ps m.1) h in
      record { node = m.0; at = m.1; stands = open_.0.0; rest = open_.1 }

  pub one_saves : (wanted : Part) → ((k : Kind) (parts : List ℕ) → (if stands_for wanted k then credit_by k parts else 1) ≡ 1)
      → (q : ℕ) (m : Node) → slice_get nodes q ≡ Some m → stands_for wanted m.kind ≡ true → 1 ≤ credit nodes q
  one_saves wanted test q m at stands = subst (λ n. 1 ≤ credit_of n) (sym (at_is nodes q m at)) (tested _ _ (test m.kind m.parts) stands)

  -- each node of such a row saves a token
  pub all_save : (wanted : Part) → ((k : Kind) (parts : List ℕ) → (if stands_for wanted k then credit_by k parts else 1) ≡ 1)
      → (ps : List ℕ) → AreBelow ps (length nodes) → AllStand wanted (row_in nodes ps) → length ps ≤ saves ps
  all_save wanted test ps b h =
      let s = sum_stands nodes f wanted (λ q. 1) (credit nodes) (one_saves wanted test) ps b h in
      let ones = sum_ones ps in omega (arith, s, ones)

  pub definition : (ps : List ℕ) (i j : ℕ) → AreBelow ps (length nodes) → IsLaid ts (side_of kind.FunctionDefinition) (row_in nodes ps) i j → IsDefinition ts nodes ps
  unfolding rule_of
  definition [] i j b h = absurd h
  definition (p ∷ []) i j b h = absurd (opened symbol.Outer part.Specifiers behind_specifiers p [] i j b h).rest
  definition (p ∷ q ∷ []) i j b h =
      let one = opened symbol.Outer part.Specifiers behind_specifiers p (q ∷ []) i j b h in
      absurd (opened symbol.Outer part.Declarator behind_declarator q [] (one.node.last + 1) j (below_rest p (q ∷ []) (length nodes) b) one.rest).rest
  definition (p ∷ q ∷ r ∷ ps) i j b h =
      let one = opened symbol.Outer part.Specifiers behind_specifiers p (q ∷ r ∷ ps) i j b h in
      let rest = below_rest p (q ∷ r ∷ ps) (length nodes) b in
      let two = opened symbol.Outer part.Declarator behind_declarator q (r ∷ ps) (one.node.last + 1) j rest one.rest in
      let three = opened symbol.Outer part.Compound (symbol.Ends ∷ []) r ps (two.node.last + 1) j (below_rest q (r ∷ ps) (length nodes) rest) two.rest in
      record { specifiers = p; declarator = q; body = r; others = ps; row = refl; node = three.node; at = three.at; stands = three.stands }

  definition_saves : (ps : List ℕ) → IsDefinition ts nodes ps → 1 ≤ saves ps
  definition_saves ps d =
      let body = one_saves part.Compound compound_test d.body d.node d.at d.stands in
      let one = sum_by-cons (credit nodes) d.specifiers (d.declarator ∷ d.body ∷ d.others) in
      let two = sum_by-cons (credit nodes) d.declarator (d.body ∷ d.others) in
      let three = sum_by-cons (credit nodes) d.body d.others in
      subst (λ xs. 1 ≤ saves xs) (sym d.row) (omega (arith, body, one, two, three))

  -- the declarators behind specifiers
  members_save : (ps : List ℕ) (i j : ℕ) → AreBelow ps (length nodes) → IsLaid ts (side_of kind.MemberDeclaration) (row_in nodes ps) i j → length (drop 1 ps) ≤ saves ps
  unfolding rule_of
  members_save [] i j b h = absurd h
  members_save (p ∷ ps) i j b h =
      let one = opened symbol.Outer part.PlainSpecifiers (symbol.List symbol.Outer part.MemberDeclarator ∷ symbol.Token symbol.Outer word.Semicolon ∷ []) p ps i j b h in
      let rest = all_save part.MemberDeclarator member_test ps (below_rest p ps (length nodes) b) (list_stands ts part.MemberDeclarator (row_in nodes ps) (one.node.last + 1) one.rest.0) in
      let both = sum_by-cons (credit nodes) p ps in omega (arith, rest, both)

  pub declarators_save : (ps : List ℕ) (i j : ℕ) → AreBelow ps (length nodes) → IsLaid ts (side_of kind.Declaration) (row_in nodes ps) i j → length (drop 1 ps) ≤ saves ps
  unfolding rule_of
  declarators_save [] i j b h = absurd h
  declarators_save (p ∷ ps) i j b h =
      let one = opened symbol.Outer part.Specifiers (symbol.OptionalList symbol.Outer part.InitDeclarator ∷ symbol.Token symbol.Outer word.Semicolon ∷ []) p ps i j b h in
      let rest = all_save part.InitDeclarator declarator_test ps (below_rest p ps (length nodes) b) (optional_stands ts symbol.Outer part.InitDeclarator (symbol.Token symbol.Outer word.Semicolon ∷ []) (row_in nodes ps) (one.node.last + 1) j one.rest) in
      let both = sum_by-cons (credit nodes) p ps in omega (arith, rest, both)

  -- what a node saves it has of its own, or its parts save it
  pub saved : (k : Kind) (ps : List ℕ) (i j : ℕ) → AreBelow ps (length nodes) → IsLaid ts (side_of k) (row_in nodes ps) i j → credit_by k ps ≤ own (side_of k) + saves ps
  unfolding rule_of
  saved kind.FunctionDefinition ps i j b h = let one = definition_saves ps (definition ps i j b h) in omega (arith, one)
  saved kind.MemberDeclaration ps i j b h = let all = members_save ps i j b h in omega (arith, all)
  saved _ ps i j b h = few_own _ (saves ps)
