-- The levels of pass o.
use Rattle.std.proofs.Common.{◌≡◌, ℕ, zero, suc, ◌+◌, ◌≤◌, List, [], ◌∷◌, Option, None, Some, length, drop, min, nat_le, slice_get, lit≤, refl, sym, subst, arith, if◌then◌else◌, true, false}
use Rattle.std.proofs.lemmas.List.{length-drop}
use Rattle.std.proofs.lemmas.Option.{slice_get_within}
use Rattle.cr_tokens.specs.declared.token.Token.{Token}
use Rattle.cr_syntax.specs.declared.node.Kind.{Kind}
use Rattle.cr_syntax.specs.declared.node.Kind.TheVariants as kind
use Rattle.cr_syntax.specs.declared.node.Node.{Node}
use Rattle.cr_syntax.specs.declared.part.Part.TheVariants as part
use Rattle.cr_syntax.specs.declared.word.Word.TheVariants as word
use Rattle.cr_syntax.specs.Grammar.{closing}
use Rattle.cr_syntax.specs.Kept.{AreBelow, PartsAreBelow, row_in}
use Rattle.cr_syntax.specs.Tables.{rule_of, side_of}
use Rattle.cr_syntax.specs.Trees.{Trees, none, node}
use Rattle.cr_syntax.specs.Words.{Lexeme}
use Rattle.cr_syntax_nodes.specs.Laid.{IsLaid, behind}
use Rattle.cr_syntax_nodes.specs.Nodes.{Rises, count, no_more}
use Rattle.cr_syntax_nodes.proofs.Counts.{row_counted}
use Rattle.cr_syntax_nodes.proofs.Laid.{laid}
use Rattle.cr_syntax_nodes.proofs.Made.{rises}
use Rattle.pass_levels.specs.declared.counted.Counted.{Counted}
use Rattle.pass_levels.specs.Gathered.{gathered}
use Rattle.pass_levels.specs.Level.{level_of}
use Rattle.pass_levels.specs.Nodes.{node_at}
use Rattle.pass_output.specs.declared.conversions.Conversion.{Conversion}
use Rattle.pass_output.specs.Conversions.{conversion_at}
use Rattle.pass_output.specs.Formats.{Facts, conversions_in, format_at, format_by}
use Rattle.pass_output.specs.Output.{bared_by, bared_give, bared_in, bytes_beside, facts_in, number_at, number_by, numbers_in, o_offering, taken_at, taken_by, taken_in}
use Rattle.pass_widths.specs.Few.{AreFew, AreOfUnit}
use Rattle.pass_widths.proofs.Counted.{gathered_counts, if_one, level_counts, total, total_le}
use Rattle.pass_widths.proofs.Levels.{by_own, levels_few}
use Rattle.pass_widths.proofs.Own.{laid_wide, list_wide, own, width}
use Rattle.pass_widths.proofs.Paid.{made_wide, unit_paid}
use Rattle.pass_widths.proofs.Rows.{at_is, parts_within}

-- what is there counts one
abbrev here : Option ℕ → ℕ
here None = 0
here (Some x) = 1

one_more_there : (xs : List ℕ) (n before : ℕ) (o : Option ℕ) → slice_get xs n ≡ o → before ≤ min n (length xs) → before + here o ≤ min (n + 1) (length xs)
one_more_there xs n before None e le = omega (arith, le)
one_more_there xs n before (Some x) e le = let inner = slice_get_within xs n x e in omega (arith, le, inner)

there : (xs : List ℕ) (n : ℕ) → total (λ k. here (slice_get xs k)) n ≤ min n (length xs)
there xs zero = omega arith
there xs (suc n) = let le = one_more_there xs n (total (λ k. here (slice_get xs k)) n) (slice_get xs n) refl (there xs n) in omega (arith, le)

-- where each number gives one at the most, and only where something has this number
numbered_few : {X : Type 0} (gives : ℕ → List X) (xs : List ℕ) → ((k : ℕ) → length (gives k) ≤ here (slice_get xs k)) → (n : ℕ) → length (gathered gives n) ≤ length xs
numbered_few gives xs few n =
    let e = gathered_counts gives n in
    let le = total_le (λ k. length (gives k)) (λ k. here (slice_get xs k)) few n in
    let all = there xs n in omega (arith, e, le, all)

taken_here : (o : Option ℕ) (f : Facts) (token : ℕ) (n : Node) (c : Conversion) → length (taken_by o f token n c) ≤ here o
taken_here None f token n c = lit≤ tt
taken_here (Some argument) f token n c = lit≤ tt

number_here : (o : Option ℕ) (f : Facts) (token : ℕ) (n : Node) (c : Conversion) → length (number_by o f token n c) ≤ here o
number_here None f token n c = lit≤ tt
number_here (Some argument) f token n c = if_one _ _

behind_few : (ps : List ℕ) (m : ℕ) → m ≤ length (drop 1 ps) → m ≤ length ps
behind_few ps m le = let e = length-drop 1 ps in omega (arith, le, e)

taken_few : (o : Option ℕ) (f : Facts) (n : Node) → length (taken_in o f n) ≤ length n.parts
taken_few None f n = omega arith
taken_few (Some token) f n = behind_few n.parts _
    (numbered_few (taken_at f token n (conversions_in f token)) (drop 1 n.parts)
    (λ k. taken_here (slice_get (drop 1 n.parts) k) f token n (conversion_at (conversions_in f token) k)) (length (conversions_in f token)))

numbers_few : (o : Option ℕ) (f : Facts) (n : Node) → length (numbers_in o f n) ≤ length n.parts
numbers_few None f n = omega arith
numbers_few (Some token) f n = behind_few n.parts _
    (numbered_few (number_at f token n (conversions_in f token)) (drop 1 n.parts)
    (λ k. number_here (slice_get (drop 1 n.parts) k) f token n (conversion_at (conversions_in f token) k)) (length (conversions_in f token)))

bared_one : (o : Option ℕ) (f : Facts) (n : Node) → length (bared_in o f n) ≤ 1
bared_one None f n = lit≤ tt
bared_one (Some token) f n = elim (nat_le 1 (length (conversions_in f token))) as
    (λ b. length (if b then bared_by n (bytes_beside f token (conversions_in f token)) else []) ≤ 1) [
      | true ↦ if_one _ _
      | false ↦ omega arith
    ]

bared_own : (k : Kind) (f : Facts) (n : Node) → length (bared_in (format_by k f n) f n) ≤ own (side_of k)
unfolding rule_of
bared_own kind.Call f n = let one = bared_one (format_by kind.Call f n) f n in omega (arith, one)
bared_own _ f n = lit≤ tt

module _ (ts : List Lexeme) (nodes : List Node) (below : PartsAreBelow nodes) where
  -- a call has a token of its own for each argument
  called_wide : {x : ℕ} (t : Trees) (i j : ℕ) → Rises x j t → IsLaid ts (side_of kind.Call) t i j → count t + width t + i ≤ j
  unfolding rule_of
  called_wide {x = x} none i j r h = let all = laid_wide ts (side_of kind.Call) j none x j i r h in omega (arith, all)
  called_wide (node k a b t u) i j r h =
      let list = list_wide ts part.Assignment (node k a b t u) (i + 1 + 1) r h.1.1.0 in
      let end = laid_wide ts (closing word.RightParen ∷ []) j none (behind b u) (behind b u) (behind b u) (no_more (omega arith)) h.1.1.1 in omega (arith, list, end)

  -- what is given for a format is no more than the arguments of its call
  paid : (give : Option ℕ → Node → List Counted) → ((n : Node) → length (give None n) ≤ 0) → ((o : Option ℕ) (n : Node) → length (give o n) ≤ length n.parts)
      → (f : Facts) (n : Node) (K : Kind) (i j : ℕ) → AreBelow n.parts (length nodes) → Rises i j (row_in nodes n.parts) → IsLaid ts (side_of K) (row_in nodes n.parts) i j
      → i + own (side_of K) + width (row_in nodes n.parts) ≤ j → length (give (format_by K f n) n) + width (row_in nodes n.parts) + i ≤ j
  unfolding rule_of
  paid give lacks few f n kind.Call i j b r h wide =
      let some = few (format_by kind.Call f n) n in let all = row_counted nodes below n.parts b in let called = called_wide (row_in nodes n.parts) i j r h in omega (arith, some, all, called)
  paid give lacks few f n _ i j b r h wide = let without = lacks n in omega (arith, without, wide)

module _ (file : List ℕ) (tokens : List Token) {nodes : List Node} {items : List ℕ} (u : AreOfUnit (length tokens) nodes items) where
  formats : (give : Option ℕ → Node → List Counted) → ((n : Node) → length (give None n) ≤ 0) → ((o : Option ℕ) (n : Node) → length (give o n) ≤ length n.parts)
      → length (level_of (λ k. give (format_at (facts_in file tokens nodes) k) (node_at nodes k)) (length nodes)) ≤ length tokens
  formats give lacks few =
      let f = facts_in file tokens nodes in
      let all = level_counts (λ k. give (format_at f k) (node_at nodes k)) (length nodes) in
      let those = unit_paid u (λ k. length (give (format_at f k) (node_at nodes k))) (λ k. 0) (λ k n at made.
      let le = subst (λ (m : Node). length (give (format_by m.kind f m) m) + width (row_in nodes n.parts) + n.first ≤ n.last + 1) (sym (at_is nodes k n at))
      (paid u.lexemes nodes u.below give lacks few f n n.kind n.first (n.last + 1) (parts_within nodes u.below k n at) (rises made.spells) (laid made.spells) (made_wide nodes n made)) in
      omega (arith, le)) in
      omega (arith, all, those)

  bared : length (level_of (bared_give (facts_in file tokens nodes)) (length nodes)) ≤ length tokens
  bared = by_own u (bared_give (facts_in file tokens nodes)) (λ k n at made.
      subst (λ (m : Node). length (bared_in (format_by m.kind (facts_in file tokens nodes) m) (facts_in file tokens nodes) m) ≤ own (side_of n.kind)) (sym (at_is nodes k n at))
      (bared_own n.kind (facts_in file tokens nodes) n))

  pub output_few : AreFew (length tokens) (o_offering file tokens nodes)
  output_few = levels_few (length tokens) (o_offering file tokens nodes).levels (
    formats (λ o n. taken_in o (facts_in file tokens nodes) n) (λ n. lit≤ tt) (λ o n. taken_few o (facts_in file tokens nodes) n),
    (bared, (formats (λ o n. numbers_in o (facts_in file tokens nodes) n) (λ n. lit≤ tt) (λ o n. numbers_few o (facts_in file tokens nodes) n), tt)),
  )
