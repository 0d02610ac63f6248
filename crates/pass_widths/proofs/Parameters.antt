-- The level of pass p: each parameter of a function is paid for by the commas and the brackets of its declarator.
use Rattle.std.proofs.Common.{◌≡◌, ℕ, ◌+◌, ◌-◌, ◌<◌, ◌≤◌, Bool, true, false, List, [], ◌∷◌, Option, None, Some, length, drop, nat_lt, slice_get, if◌then◌else◌, lit≤, refl, sym, ap, subst, ◌∙◌, arith}
use Rattle.std.specs.List.{slice_index, sum_by}
use Rattle.std.proofs.lemmas.List.Sums.{sum_by-cons}
use Rattle.cr_tokens.specs.declared.token.Token.{Token}
use Rattle.cr_syntax.specs.declared.node.Kind.{Kind}
use Rattle.cr_syntax.specs.declared.node.Kind.TheVariants as kind
use Rattle.cr_syntax.specs.declared.node.Node.{Node}
use Rattle.cr_syntax.specs.declared.part.Part.TheVariants as part
use Rattle.cr_syntax.specs.Kept.{AreBelow, PartsAreBelow, row_in}
use Rattle.cr_syntax.specs.Tables.{rule_of, side_of}
use Rattle.cr_syntax.specs.Trees.{Trees, none, node}
use Rattle.cr_syntax.specs.Words.{Lexeme}
use Rattle.cr_syntax.proofs.Arena.{below_first, below_rest}
use Rattle.cr_syntax_nodes.specs.Laid.{IsLaid}
use Rattle.cr_syntax_nodes.specs.Nodes.{IsUpTo, Rises, count, most, one_more}
use Rattle.cr_syntax_nodes.proofs.Counts.{row_counted}
use Rattle.cr_syntax_nodes.proofs.Laid.{laid}
use Rattle.cr_syntax_nodes.proofs.Made.{rises}
use Rattle.cr_syntax_nodes.proofs.Numbers.{some_at}
use Rattle.cr_scopes.specs.declared.names.Names.{Names}
use Rattle.cr_scopes_events.specs.declared.declarator.Derivation.{Derivation}
use Rattle.cr_scopes_events.specs.declared.declarator.Derivation.TheVariants.{Function, Nothing, Other}
use Rattle.cr_scopes_events.specs.declared.declarator.Declarator.{Declarator}
use Rattle.cr_scopes_events.specs.Declarators.{declared_by, declared_if, declarator_of, derived, in_first, innermost, nowhere}
use Rattle.cr_scopes_events.specs.Values.{before}
use Rattle.cr_scopes_events.proofs.Descents.{declarator_ruled}
use Rattle.pass_levels.specs.Level.{level_of}
use Rattle.pass_levels.specs.Nodes.{node_at}
use Rattle.pass_levels.specs.Places.{spelling_at}
use Rattle.pass_params.specs.Functions.{calls_in, functions_in, part_at, row_by, row_of}
use Rattle.pass_params.specs.Parameters.{definition_by, definitions_give, is_main, named_gives, p_offering, parameter_gives, row_gives}
use Rattle.pass_widths.specs.Few.{AreFew, AreOfUnit}
use Rattle.pass_widths.proofs.Counted.{gathered_few, level_counts}
use Rattle.pass_widths.proofs.Credits.{IsDefinition, definition}
use Rattle.pass_widths.proofs.Levels.{levels_few, parts_most}
use Rattle.pass_widths.proofs.Own.{list_wide, own, width}
use Rattle.pass_widths.proofs.Paid.{made_wide, unit_paid}
use Rattle.pass_widths.proofs.Rows.{at_is, parts_within}

-- how many parameters a derivation has
abbrev sized : List Node → Derivation → ℕ
sized nodes Nothing = 0
sized nodes (Function k) = length (row_of nodes k)
sized nodes Other = 0

-- how many the function has that a node declares
abbrev size : List Node → ℕ → ℕ
size nodes k = sized nodes (declarator_of nodes k).next

-- A list of parameters saves its commas, all other nodes what the function has that they declare.
abbrev saving_by : Kind → ℕ → List ℕ → ℕ
saving_by kind.Parameters size ps = length ps - 1
saving_by kind.VariadicParameters size ps = length ps
saving_by k size ps = size

abbrev saving : List Node → ℕ → ℕ
saving nodes q = saving_by (node_at nodes q).kind (size nodes q) (node_at nodes q).parts

-- a derivation around another has the parameters of that, or its own
around : (nodes : List Node) (outer inner : Derivation) → sized nodes (innermost outer inner) ≤ sized nodes outer + sized nodes inner
around nodes outer Nothing = omega arith
around nodes outer (Function k) = omega arith
around nodes outer Other = omega arith

-- those of the first part
abbrev first_size : List Node → List ℕ → ℕ
first_size nodes [] = 0
first_size nodes (p ∷ ps) = size nodes p

-- a node declares what its kind makes of what the nodes before it declare
abbrev IsDeclaring : List Node → ℕ → Kind → Node → Type 0
IsDeclaring nodes k K n = declarator_of nodes k ≡ declared_by K (before nowhere k (declarator_of nodes)) k n

declaring : (nodes : List Node) (k : ℕ) (n : Node) → slice_get nodes k ≡ Some n → IsDeclaring nodes k n.kind n
declaring nodes k n at = declarator_ruled nodes k ∙ ap (λ o. declared_if o (before nowhere k (declarator_of nodes)) k) at

-- what is derived around the first part has that one's parameters, or its own
descended : (nodes : List Node) (k : ℕ) (outer : Derivation) (ps : List ℕ) → declarator_of nodes k ≡ derived outer (in_first (before nowhere k (declarator_of nodes)) ps)
    → size nodes k ≤ sized nodes outer + first_size nodes ps
descended nodes k outer [] h = let le = around nodes outer Nothing in subst (λ (d : Declarator). sized nodes d.next ≤ sized nodes outer + 0) (sym h) (omega (arith, le))
descended nodes k outer (p ∷ ps) h = by (nat_lt p k) h
  where
    by : (b : Bool) → declarator_of nodes k ≡ derived outer (if b then declarator_of nodes p else nowhere) → size nodes k ≤ sized nodes outer + size nodes p
    by true z = subst (λ (d : Declarator). sized nodes d.next ≤ sized nodes outer + size nodes p) (sym z) (around nodes outer (declarator_of nodes p).next)
    by false z = let le = around nodes outer Nothing in subst (λ (d : Declarator). sized nodes d.next ≤ sized nodes outer + size nodes p) (sym z) (omega (arith, le))

ended : (nodes : List Node) (k : ℕ) → declarator_of nodes k ≡ nowhere → size nodes k ≡ 0
ended nodes k h = ap (λ (d : Declarator). sized nodes d.next) h

named : (nodes : List Node) (k first : ℕ) → declarator_of nodes k ≡ record { name = Some first; next = Nothing } → size nodes k ≡ 0
named nodes k first h = ap (λ (d : Declarator). sized nodes d.next) h

-- a node's saving is no less than its function's parameters
kind_saves : (nodes : List Node) (q : ℕ) (K : Kind) (m : Node) → IsDeclaring nodes q K m → size nodes q ≤ saving_by K (size nodes q) m.parts
kind_saves nodes q kind.Parameters m h = let e = ended nodes q h in omega (arith, e)
kind_saves nodes q kind.VariadicParameters m h = let e = ended nodes q h in omega (arith, e)
kind_saves nodes q _ m h = omega arith

saves_size : (nodes : List Node) (q : ℕ) (m : Node) → slice_get nodes q ≡ Some m → size nodes q ≤ saving nodes q
saves_size nodes q m at = subst (λ (n : Node). size nodes q ≤ saving_by n.kind (size nodes q) n.parts) (sym (at_is nodes q m at)) (kind_saves nodes q m.kind m (declaring nodes q m at))

one_saves : (nodes : List Node) (p : ℕ) (ps : List ℕ) → AreBelow (p ∷ ps) (length nodes) → size nodes p ≤ saving nodes p
one_saves nodes p ps b = let m : (m : Node) × (slice_get nodes p ≡ Some m) = some_at nodes p (below_first p ps (length nodes) b) in saves_size nodes p m.0 m.1

first_saves : (nodes : List Node) (ps : List ℕ) → AreBelow ps (length nodes) → first_size nodes ps ≤ sum_by (saving nodes) ps
first_saves nodes [] b = omega arith
first_saves nodes (p ∷ ps) b = let one = one_saves nodes p ps b in let both = sum_by-cons (saving nodes) p ps in omega (arith, one, both)

second_saves : (nodes : List Node) (p q : ℕ) (ps : List ℕ) → AreBelow (p ∷ q ∷ ps) (length nodes) → size nodes q ≤ sum_by (saving nodes) (p ∷ q ∷ ps)
second_saves nodes p q ps b =
    let one = one_saves nodes q ps (below_rest p (q ∷ ps) (length nodes) b) in
    let both = sum_by-cons (saving nodes) p (q ∷ ps) in let rest = sum_by-cons (saving nodes) q ps in omega (arith, one, both, rest)

-- the first node has no part
no_parts : (nodes : List Node) → PartsAreBelow nodes → length (node_at nodes 0).parts ≤ 0
no_parts [] f = omega arith
no_parts (n ∷ ns) f = by n.parts (f 0 n refl)
  where
    by : (ps : List ℕ) → ((i : ℕ) → i < length ps → slice_index ps i < 0) → length ps ≤ 0
    by [] g = omega arith
    by (p ∷ ps) g = let no = g 0 (omega arith) in absurd (omega (arith, no))

-- a row of parameters by its node
row_saved : (K : Kind) (whole ps : List ℕ) (n : ℕ) → length whole ≤ 1 → length (row_by K whole ps) ≤ saving_by K n ps + 1
row_saved kind.VoidParameters whole ps n le = omega arith
row_saved kind.Parameters whole ps n le = omega arith
row_saved kind.VariadicParameters whole ps n le = omega arith
row_saved _ whole ps n le = omega (arith, le)

row_none : (K : Kind) (ps : List ℕ) → length ps ≤ 0 → length (row_by K [] ps) ≤ 0
row_none kind.VoidParameters ps le = omega arith
row_none kind.Parameters ps le = le
row_none kind.VariadicParameters ps le = le
row_none _ ps le = omega arith

module _ (ts : List Lexeme) (nodes : List Node) (f : PartsAreBelow nodes) (file : List ℕ) (tokens : List Token) (names : Names) (functions calls : List ℕ) where
  -- a definition goes by its function's parameters
  given : (next : Derivation) (name : Option ℕ) → length (named_gives file tokens nodes names functions calls next name) ≤ sized nodes next
  given (Function function) (Some token) = elim (is_main (spelling_at file tokens token)) as
      (λ b. length (if b then [] else row_gives tokens nodes names functions calls token (row_of nodes function)) ≤ length (row_of nodes function)) [
        | true ↦ omega arith
        | false ↦ gathered_few (parameter_gives tokens nodes names functions calls token (row_of nodes function)) (λ k. lit≤ tt) (length (row_of nodes function))
      ]
  given (Function function) None = omega arith
  given Nothing name = omega arith
  given Other name = omega arith

  abbrev weight : Kind → List ℕ → ℕ
  weight K ps = length (definition_by K file tokens nodes names functions calls (part_at ps 1))

  -- what a node counts and saves, with its parts, is no more than its tokens
  abbrev IsPaid : Kind → ℕ → List ℕ → ℕ → ℕ → Type 0
  IsPaid K k ps i j = weight K ps + saving_by K (size nodes k) ps + width (row_in nodes ps) + i ≤ j + sum_by (saving nodes) ps

  definition_paid : (ps : List ℕ) → AreBelow ps (length nodes) → IsDefinition ts nodes ps → weight kind.FunctionDefinition ps ≤ sum_by (saving nodes) ps
  definition_paid ps b d =
      subst (λ xs. weight kind.FunctionDefinition xs ≤ sum_by (saving nodes) xs) (sym d.row)
      (let few = given (declarator_of nodes d.declarator).next (declarator_of nodes d.declarator).name in
      let all = second_saves nodes d.specifiers d.declarator (d.body ∷ d.others) (subst (λ xs. AreBelow xs (length nodes)) d.row b) in
      omega (arith, few, all))

  -- the parameters that a declarator with these parts has
  abbrev own_row : List ℕ → List ℕ
  own_row ps = row_by (node_at nodes (part_at ps 1)).kind (drop 1 ps) (node_at nodes (part_at ps 1)).parts

  row_paid : (ps : List ℕ) (i j : ℕ) → AreBelow ps (length nodes) → IsUpTo (most (side_of kind.FunctionDeclarator)) (length ps)
      → IsLaid ts (side_of kind.FunctionDeclarator) (row_in nodes ps) i j → length (own_row ps) + first_size nodes ps ≤ sum_by (saving nodes) ps + 2
  unfolding rule_of
  row_paid [] i j b up h = absurd h
  row_paid (p ∷ []) i j b up h =
      let none_ = row_none (node_at nodes 0).kind (node_at nodes 0).parts (no_parts nodes f) in let one = first_saves nodes (p ∷ []) b in omega (arith, none_, one)
  row_paid (p ∷ q ∷ []) i j b up h =
      let row = row_saved (node_at nodes q).kind (q ∷ []) (node_at nodes q).parts (size nodes q) (omega arith) in
      let one = one_saves nodes p (q ∷ []) b in
      let both = sum_by-cons (saving nodes) p (q ∷ []) in let rest = sum_by-cons (saving nodes) q [] in omega (arith, row, one, both, rest)
  row_paid (p ∷ q ∷ r ∷ ps) i j b up h = absurd (omega (arith, up))

  -- commas between parameters
  listed_wide : {x : ℕ} (t : Trees) (i j : ℕ) → Rises x j t → IsLaid ts (side_of kind.Parameters) t i j → (count t - 1) + width t + i ≤ j
  unfolding rule_of
  listed_wide none i j r h = absurd h
  listed_wide (node k a b t u) i j (one_more le le' r) h =
      let list = list_wide ts part.Parameter u (b + 1) r h.1.1.0 in let end = h.1.1.1 in let at = h.0.1 in omega (arith, le', list, end, at)

  variadic_wide : {x : ℕ} (t : Trees) (i j : ℕ) → Rises x j t → IsLaid ts (side_of kind.VariadicParameters) t i j → count t + width t + i ≤ j
  unfolding rule_of
  variadic_wide t i j r h = let list = list_wide ts part.Parameter t i r h.0 in let end = h.1.1.1 in omega (arith, list, end)

  others : (k o w i j s : ℕ) → declarator_of nodes k ≡ nowhere → i + o + w ≤ j → 0 + size nodes k + w + i ≤ j + s
  others k o w i j s d wide = let e = ended nodes k d in omega (arith, e, wide)

  inside : (k o w i j s m : ℕ) → size nodes k ≤ 0 + m → m ≤ s → i + o + w ≤ j → 0 + size nodes k + w + i ≤ j + s
  inside k o w i j s m le saved wide = omega (arith, le, saved, wide)

  paid : (k : ℕ) (n : Node) (K : Kind) (i j : ℕ) → slice_get nodes k ≡ Some n → AreBelow n.parts (length nodes) → IsUpTo (most (side_of K)) (length n.parts) → Rises i j (row_in nodes n.parts)
      → IsLaid ts (side_of K) (row_in nodes n.parts) i j → IsDeclaring nodes k K n → i + own (side_of K) + width (row_in nodes n.parts) ≤ j → IsPaid K k n.parts i j
  unfolding rule_of
  paid k n kind.FunctionDefinition i j at b up r h d wide =
      let few = definition_paid n.parts b (definition ts nodes f n.parts i j b h) in let e = ended nodes k d in omega (arith, few, e, wide)
  paid k n kind.NameDeclarator i j at b up r h d wide = let e = named nodes k n.first d in omega (arith, e, wide)
  paid k n kind.GroupDeclarator i j at b up r h d wide = inside k _ _ i j _ _ (descended nodes k Nothing n.parts d) (first_saves nodes n.parts b) wide
  paid k n kind.PointerDeclarator i j at b up r h d wide = inside k _ _ i j _ _ (descended nodes k Other n.parts d) (first_saves nodes n.parts b) wide
  paid k n kind.ArrayDeclarator i j at b up r h d wide = inside k _ _ i j _ _ (descended nodes k Other n.parts d) (first_saves nodes n.parts b) wide
  paid k n kind.FunctionDeclarator i j at b up r h d wide =
      let le = descended nodes k (Function k) n.parts d in
      let same : length (row_of nodes k) ≡ length (own_row n.parts) = ap (λ (m : Node). length (own_row m.parts)) (at_is nodes k n at) in
      let row = row_paid n.parts i j b up h in omega (arith, le, same, row, wide)
  paid k n kind.Parameters i j at b up r h d wide =
      let list = listed_wide (row_in nodes n.parts) i j r h in let all = row_counted nodes f n.parts b in omega (arith, list, all)
  paid k n kind.VariadicParameters i j at b up r h d wide =
      let list = variadic_wide (row_in nodes n.parts) i j r h in let all = row_counted nodes f n.parts b in omega (arith, list, all)
  paid k n _ i j at b up r h d wide = others k _ _ i j _ d wide

pub parameters_few : (file : List ℕ) (tokens : List Token) {nodes : List Node} {items : List ℕ} (names : Names) → AreOfUnit (length tokens) nodes items → AreFew (length tokens) (p_offering file tokens nodes names)
parameters_few file tokens {nodes = nodes} names u = levels_few (length tokens) (p_offering file tokens nodes names).levels (all, tt)
  where
    all : length (level_of (definitions_give file tokens nodes names (functions_in nodes) (calls_in nodes)) (length nodes)) ≤ length tokens
    all =
        let count_ = level_counts (definitions_give file tokens nodes names (functions_in nodes) (calls_in nodes)) (length nodes) in
        let few = unit_paid u (λ k. length (definitions_give file tokens nodes names (functions_in nodes) (calls_in nodes) k)) (saving nodes) (λ k n at made.
        subst (λ (m : Node). length (definition_by m.kind file tokens nodes names (functions_in nodes) (calls_in nodes) (part_at m.parts 1)) + saving_by m.kind (size nodes k) m.parts + width (row_in nodes n.parts) + n.first
        ≤ n.last + 1 + sum_by (saving nodes) n.parts) (sym (at_is nodes k n at))
        (paid u.lexemes nodes u.below file tokens names (functions_in nodes) (calls_in nodes) k n n.kind n.first (n.last + 1) at (parts_within nodes u.below k n at) (parts_most u k n at made)
        (rises made.spells) (laid made.spells) (declaring nodes k n at) (made_wide nodes n made))) in
        omega (arith, count_, few)
