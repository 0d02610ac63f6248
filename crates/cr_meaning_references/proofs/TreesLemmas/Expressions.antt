-- Which parts of a node are expressions, by the grammar, and that those which a rule reads are there (C11 6.5).
use Rattle.std.proofs.Common.{◌≡◌, ℕ, zero, suc, ◌<◌, Bool, true, false, ◌&&◌, ◌||◌, not, Option, nat_lt, refl, sym, ◌∙◌}
use Rattle.std.proofs.lemmas.Bool.{and_parts, false≢true, ltb-true}
use Rattle.cr_syntax.specs.declared.node.Kind.{Kind}
use Rattle.cr_syntax.specs.declared.node.Kind.TheVariants as kind
use Rattle.cr_syntax.specs.declared.part.Part.{Part}
use Rattle.cr_syntax.specs.declared.part.Part.TheVariants as part
use Rattle.cr_syntax.specs.Tables.{rule_of, part_of, side_of}
use Rattle.cr_syntax_nodes.specs.Nodes.{least}
use Rattle.cr_syntax_nodes.specs.Laid.{expressions, is_among, stands_for, parts_of as alternatives_of}
use Rattle.cr_check_expressions.specs.Forms.{form_of}
use Rattle.cr_meaning_typing.specs.Typed.Typing.{is_asked, is_expression}
use Rattle.cr_meaning_references.proofs.TreesLemmas.Grammar.{part_in, Stands, is_of, of_part, among_drop}
use Rattle.cr_meaning_types.proofs.KnownLemmas.Reading.{row}

-- ---- parts for which expressions stand

abbrev pub is_expression_part : Part → Bool
is_expression_part p = is_among p expressions

expression_kinds : (k : Kind) → (not (is_among (part_of k) expressions) || is_expression (form_of k)) ≡ true
unfolding rule_of
expression_kinds kind.Comma = refl
expression_kinds k = refl

within_expressions : (p q : Part) → is_expression_part p ≡ true → is_among q (alternatives_of p) ≡ true → is_among q expressions ≡ true
within_expressions part.Expression q c h = h
within_expressions part.Assignment q c h = among_drop 1 q expressions h
within_expressions part.Conditional q c h = among_drop 2 q expressions h
within_expressions part.LogicalOr q c h = among_drop 3 q expressions h
within_expressions part.LogicalAnd q c h = among_drop 4 q expressions h
within_expressions part.Or q c h = among_drop 5 q expressions h
within_expressions part.Xor q c h = among_drop 6 q expressions h
within_expressions part.And q c h = among_drop 7 q expressions h
within_expressions part.Equality q c h = among_drop 8 q expressions h
within_expressions part.Relational q c h = among_drop 9 q expressions h
within_expressions part.Shift q c h = among_drop 10 q expressions h
within_expressions part.Additive q c h = among_drop 11 q expressions h
within_expressions part.Multiplicative q c h = among_drop 12 q expressions h
within_expressions part.Cast q c h = among_drop 13 q expressions h
within_expressions part.Unary q c h = among_drop 14 q expressions h
within_expressions part.Postfix q c h = among_drop 15 q expressions h
within_expressions part.Primary q c h = among_drop 16 q expressions h
within_expressions p q c h = absurd (false≢true c)

pub expressions_stand : (p : Part) (k : Kind) → is_expression_part p ≡ true → stands_for p k ≡ true → is_expression (form_of k) ≡ true
expressions_stand p k c s = row _ _ (expression_kinds k) (within_expressions p (part_of k) c s)

pub expression_there : (o : Option Part) (k : Kind) → is_of is_expression_part o ≡ true → Stands o k → is_expression (form_of k) ≡ true
expression_there = of_part is_expression_part (λ k. is_expression (form_of k)) expressions_stand

-- ---- which parts are asked

abbrev asks : Kind → ℕ → Bool
asks c k = not (is_asked (form_of c) k) || (is_of is_expression_part (part_in (side_of c) k) && nat_lt k (least (side_of c)))

asks_first : (c : Kind) → asks c 0 ≡ true
unfolding rule_of
asks_first kind.Comma = refl
asks_first c = refl

asks_second : (c : Kind) → asks c 1 ≡ true
unfolding rule_of
asks_second kind.Comma = refl
asks_second c = refl

asks_third : (c : Kind) → asks c 2 ≡ true
unfolding rule_of
asks_third kind.Comma = refl
asks_third c = refl

asks_more : (c : Kind) (k : ℕ) → is_asked (form_of c) (suc (suc (suc k))) ≡ false
asks_more kind.Comma k = refl
asks_more c k = refl

-- the operands that a rule reads are there, and are expressions
pub asked : (c : Kind) (k : ℕ) → is_asked (form_of c) k ≡ true → (is_of is_expression_part (part_in (side_of c) k) ≡ true) × (k < least (side_of c))
asked c zero h = let x = and_parts _ _ (row _ _ (asks_first c) h) in (x.0, ltb-true 0 (least (side_of c)) x.1)
asked c (suc zero) h = let x = and_parts _ _ (row _ _ (asks_second c) h) in (x.0, ltb-true 1 (least (side_of c)) x.1)
asked c (suc (suc zero)) h = let x = and_parts _ _ (row _ _ (asks_third c) h) in (x.0, ltb-true 2 (least (side_of c)) x.1)
asked c (suc (suc (suc k))) h = absurd (false≢true (sym (asks_more c k) ∙ h))

-- arguments are expressions
pub argument : (k : ℕ) → is_of is_expression_part (part_in (side_of kind.Call) k) ≡ true
unfolding rule_of
argument k = refl

-- the kind of a node that isn't there has no operands and no number of parts
abbrev pub is_jump : Kind → Bool
is_jump kind.Break = true
is_jump c = false

pub asked_apart : (c : Kind) (m : ℕ) → is_asked (form_of c) m ≡ true → is_jump c ≡ false
asked_apart kind.Break m e = absurd (false≢true e)
asked_apart c m e = refl
