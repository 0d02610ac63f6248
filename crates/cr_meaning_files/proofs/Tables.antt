-- Tables of kinds: which parts of a node are expressions, which statements, and how many there are (C11 6.5, 6.8).
use Rattle.std.proofs.Common.{◌≡◌, ℕ, zero, suc, ◌<◌, ◌==◌, Bool, true, false, ◌&&◌, ◌||◌, not, List, Option, None, Some, refl, sym, ap, ◌∙◌, arith}
use Rattle.std.proofs.lemmas.Bool.{and_parts, false≢true, eqb-true}
use Rattle.cr_syntax.specs.declared.node.Kind.{Kind}
use Rattle.cr_syntax.specs.declared.node.Kind.TheVariants as kind
use Rattle.cr_syntax.specs.declared.part.Part.{Part}
use Rattle.cr_syntax.specs.declared.part.Part.TheVariants as part
use Rattle.cr_syntax.specs.Tables.{rule_of, part_of, side_of}
use Rattle.cr_syntax_nodes.specs.Nodes.{least, most}
use Rattle.cr_syntax_nodes.specs.Laid.{is_among, stands_for, parts_of as alternatives_of}
use Rattle.cr_check_expressions.specs.Forms.{form_of}
use Rattle.cr_typed.specs.declared.typed.Typed.{Typed}
use Rattle.cr_meaning_operations.specs.Operations.{is_case, is_static_initialiser}
use Rattle.cr_meaning_typing.specs.Typed.Typing.{is_asked, is_expression}
use Rattle.cr_meaning_typing.specs.Sorts.Founded.{parts_of, is_evaluated, is_followed}
use Rattle.cr_meaning_typing.specs.Whole.Statements.{is_statement, has_condition, has_inner}
use Rattle.cr_meaning_files.specs.Reached.{is_item, is_declaring, is_list, is_listing, is_block, is_going, is_address}
use Rattle.cr_meaning_references.proofs.TreesLemmas.Grammar.{part_in, Stands, is_of, of_part, among_drop}
use Rattle.cr_meaning_references.proofs.TreesLemmas.Expressions.{is_expression_part, is_jump}
use Rattle.cr_meaning_types.proofs.KnownLemmas.Reading.{row}

-- ---- statements, and items of a block

abbrev items : List Part
items = alternatives_of part.BlockItem

abbrev pub is_item_part : Part → Bool
is_item_part part.BlockItem = true
is_item_part part.Statement = true
is_item_part part.Compound = true
is_item_part p = false

item_kinds : (k : Kind) → (not (is_among (part_of k) items) || is_item k) ≡ true
unfolding rule_of
item_kinds kind.Compound = refl
item_kinds k = refl

within_items : (p q : Part) → is_item_part p ≡ true → is_among q (alternatives_of p) ≡ true → is_among q items ≡ true
within_items part.BlockItem q c h = h
within_items part.Statement q c h = among_drop 2 q items h
within_items part.Compound q c h = among_drop 3 q items h
within_items p q c h = absurd (false≢true c)

pub items_stand : (p : Part) (k : Kind) → is_item_part p ≡ true → stands_for p k ≡ true → is_item k ≡ true
items_stand p k c s = row _ _ (item_kinds k) (within_items p (part_of k) c s)

pub item_there : (o : Option Part) (k : Kind) → is_of is_item_part o ≡ true → Stands o k → is_item k ≡ true
item_there = of_part is_item_part is_item items_stand

-- ---- declarators

abbrev pub is_declaring_part : Part → Bool
is_declaring_part part.InitDeclarator = true
is_declaring_part p = false

declaring_kinds : (k : Kind) → (not (is_among (part_of k) (alternatives_of part.InitDeclarator)) || is_declaring k) ≡ true
unfolding rule_of
declaring_kinds kind.InitDeclarator = refl
declaring_kinds k = refl

declaring_stand : (p : Part) (k : Kind) → is_declaring_part p ≡ true → stands_for p k ≡ true → is_declaring k ≡ true
declaring_stand part.InitDeclarator k c s = row _ _ (declaring_kinds k) s
declaring_stand p k c s = absurd (false≢true c)

pub declaring_there : (o : Option Part) (k : Kind) → is_of is_declaring_part o ≡ true → Stands o k → is_declaring k ≡ true
declaring_there = of_part is_declaring_part is_declaring declaring_stand

-- ---- initialisers

abbrev pub is_initialiser_part : Part → Bool
is_initialiser_part part.Initializer = true
is_initialiser_part p = false

initialiser_kinds : (k : Kind) → (not (is_among (part_of k) (alternatives_of part.Initializer)) || (is_expression (form_of k) || is_list k)) ≡ true
unfolding rule_of
initialiser_kinds kind.InitializerList = refl
initialiser_kinds k = refl

initialisers_stand : (p : Part) (k : Kind) → is_initialiser_part p ≡ true → stands_for p k ≡ true → (is_expression (form_of k) || is_list k) ≡ true
initialisers_stand part.Initializer k c s = row _ _ (initialiser_kinds k) s
initialisers_stand p k c s = absurd (false≢true c)

pub initialiser_there : (o : Option Part) (k : Kind) → is_of is_initialiser_part o ≡ true → Stands o k → (is_expression (form_of k) || is_list k) ≡ true
initialiser_there = of_part is_initialiser_part (λ k. is_expression (form_of k) || is_list k) initialisers_stand

-- ---- how many parts

abbrev agrees : Option ℕ → ℕ → Option ℕ → Bool
agrees None l o = true
agrees (Some m) l None = false
agrees (Some m) l (Some n) = (l == m) && (n == m)

counts_agree : (c : Kind) → agrees (parts_of (form_of c)) (least (side_of c)) (most (side_of c)) ≡ true
unfolding rule_of
counts_agree kind.Comma = refl
counts_agree c = refl

agreed : (o : Option ℕ) (l m : ℕ) (n : Option ℕ) → o ≡ Some m → agrees o l n ≡ true → (l ≡ m) × (n ≡ Some m)
agreed None l m n e h = absurd (cc e)
agreed (Some x) l m None e h = absurd (false≢true h)
agreed (Some x) l m (Some y) e h =
    let same : x ≡ m = cc e in
    let both = and_parts (l == x) (y == x) h in
    (eqb-true l x both.0 ∙ same, ap Some (eqb-true y x both.1 ∙ same))

-- a form with a number of parts has that many
pub counts : (c : Kind) (m : ℕ) → parts_of (form_of c) ≡ Some m → (least (side_of c) ≡ m) × (most (side_of c) ≡ Some m)
counts c m e = agreed (parts_of (form_of c)) (least (side_of c)) m (most (side_of c)) e (counts_agree c)

-- ---- statements

abbrev has_one : Kind → ℕ → Bool
has_one c k = not (has_condition c k) || (is_of is_expression_part (part_in (side_of c) k) && (is_going c && not (is_address c)))

has_first : (c : Kind) → has_one c 0 ≡ true
unfolding rule_of
has_first kind.If = refl
has_first c = refl

has_second : (c : Kind) → has_one c 1 ≡ true
unfolding rule_of
has_second kind.If = refl
has_second c = refl

has_more : (c : Kind) (k : ℕ) → has_condition c (suc (suc k)) ≡ false
has_more kind.If k = refl
has_more c k = refl

pub condition : (c : Kind) (k : ℕ) → has_condition c k ≡ true → (is_of is_expression_part (part_in (side_of c) k) ≡ true) × ((is_going c && not (is_address c)) ≡ true)
condition c zero h = and_parts _ _ (row _ _ (has_first c) h)
condition c (suc zero) h = and_parts _ _ (row _ _ (has_second c) h)
condition c (suc (suc k)) h = absurd (false≢true (sym (has_more c k) ∙ h))

-- an `if` has no fourth part
abbrev is_branch : Kind → Bool
is_branch kind.If = true
is_branch c = false

abbrev has_within : Kind → ℕ → Bool
has_within c k = not (has_inner c k) || (is_of is_item_part (part_in (side_of c) k) && (is_going c || is_case c))

within_first : (c : Kind) → has_within c 0 ≡ true
unfolding rule_of
within_first kind.If = refl
within_first c = refl

within_second : (c : Kind) → has_within c 1 ≡ true
unfolding rule_of
within_second kind.If = refl
within_second c = refl

within_third : (c : Kind) → has_within c 2 ≡ true
unfolding rule_of
within_third kind.If = refl
within_third c = refl

within_more : (c : Kind) (k : ℕ) → (is_branch c || has_within c (suc (suc (suc k)))) ≡ true
unfolding rule_of
within_more kind.If k = refl
within_more c k = refl

only_branch : (c : Kind) → is_branch c ≡ true → c ≡ kind.If
only_branch kind.If h = refl
only_branch c h = absurd (false≢true h)

-- a statement within another is an item, where a fourth part of an `if` is out of the way
pub inner : (c : Kind) (k : ℕ) → (c ≡ kind.If → k < 3) → has_inner c k ≡ true → (is_of is_item_part (part_in (side_of c) k) ≡ true) × ((is_going c || is_case c) ≡ true)
inner c zero few h = and_parts _ _ (row _ _ (within_first c) h)
inner c (suc zero) few h = and_parts _ _ (row _ _ (within_second c) h)
inner c (suc (suc zero)) few h = and_parts _ _ (row _ _ (within_third c) h)
inner c (suc (suc (suc k))) few h = by (is_branch c) refl
  where
    by : (b : Bool) → is_branch c ≡ b → (is_of is_item_part (part_in (side_of c) (suc (suc (suc k)))) ≡ true) × ((is_going c || is_case c) ≡ true)
    by true e = let least_is = few (only_branch c e) in absurd (omega (arith, least_is))
    by false e = and_parts _ _ (row _ _ (ap (λ b. b || has_within c (suc (suc (suc k)))) (sym e) ∙ within_more c k) h)

-- it stands within an item
pub inner_kind : (c : Kind) (k : ℕ) → has_inner c k ≡ true → is_item c ≡ true
inner_kind kind.If k h = refl
inner_kind kind.While k h = refl
inner_kind kind.Do k h = refl
inner_kind kind.Label k h = refl
inner_kind kind.Default k h = refl
inner_kind kind.Case k h = refl
inner_kind kind.Compound k h = refl
inner_kind c k h = absurd (false≢true h)

-- ---- what is evaluated

abbrev is_taken : Kind → ℕ → Bool
is_taken c k = not (is_evaluated (form_of c) k) || (is_going c && not (is_address c))

taken_first : (c : Kind) → is_taken c 0 ≡ true
taken_first kind.Comma = refl
taken_first c = refl

taken_second : (c : Kind) → is_taken c 1 ≡ true
taken_second kind.Comma = refl
taken_second c = refl

taken_third : (c : Kind) → is_taken c 2 ≡ true
taken_third kind.Comma = refl
taken_third c = refl

taken_more : (c : Kind) (k : ℕ) → is_taken c (suc (suc (suc k))) ≡ true
taken_more kind.Comma k = refl
taken_more c k = refl

pub evaluated : (c : Kind) (k : ℕ) → is_evaluated (form_of c) k ≡ true → (is_going c && not (is_address c)) ≡ true
evaluated c zero h = row _ _ (taken_first c) h
evaluated c (suc zero) h = row _ _ (taken_second c) h
evaluated c (suc (suc zero)) h = row _ _ (taken_third c) h
evaluated c (suc (suc (suc k))) h = row _ _ (taken_more c k) h

-- what is evaluated of an expression is an expression: an argument, or an operand that its rule reads
abbrev is_part_of : Kind → ℕ → Bool
is_part_of c k = not (is_evaluated (form_of c) k) || is_of is_expression_part (part_in (side_of c) k)

part_first : (c : Kind) → is_part_of c 0 ≡ true
unfolding rule_of
part_first kind.Comma = refl
part_first c = refl

part_second : (c : Kind) → is_part_of c 1 ≡ true
unfolding rule_of
part_second kind.Comma = refl
part_second c = refl

part_third : (c : Kind) → is_part_of c 2 ≡ true
unfolding rule_of
part_third kind.Comma = refl
part_third c = refl

part_more : (c : Kind) (k : ℕ) → is_part_of c (suc (suc (suc k))) ≡ true
unfolding rule_of
part_more kind.Comma k = refl
part_more c k = refl

pub evaluated_part : (c : Kind) (k : ℕ) → is_evaluated (form_of c) k ≡ true → is_of is_expression_part (part_in (side_of c) k) ≡ true
evaluated_part c zero h = row _ _ (part_first c) h
evaluated_part c (suc zero) h = row _ _ (part_second c) h
evaluated_part c (suc (suc zero)) h = row _ _ (part_third c) h
evaluated_part c (suc (suc (suc k))) h = row _ _ (part_more c k) h

-- ---- items

-- an item is a statement, and no expression
pub item_is : (c : Kind) → is_item c ≡ true → (is_statement c ≡ true) × ((is_expression (form_of c) ≡ false) × (is_followed c ≡ false))
item_is kind.Compound h = (refl, (refl, refl))
item_is kind.ExpressionStatement h = (refl, (refl, refl))
item_is kind.If h = (refl, (refl, refl))
item_is kind.Switch h = (refl, (refl, refl))
item_is kind.While h = (refl, (refl, refl))
item_is kind.Do h = (refl, (refl, refl))
item_is kind.For h = (refl, (refl, refl))
item_is kind.Label h = (refl, (refl, refl))
item_is kind.Case h = (refl, (refl, refl))
item_is kind.Default h = (refl, (refl, refl))
item_is kind.Goto h = (refl, (refl, refl))
item_is kind.Break h = (refl, (refl, refl))
item_is kind.Continue h = (refl, (refl, refl))
item_is kind.Return h = (refl, (refl, refl))
item_is kind.Declaration h = (refl, (refl, refl))
item_is c h = absurd (false≢true h)

-- so is a declarator
pub declaring_is : (c : Kind) → is_declaring c ≡ true → (is_statement c ≡ true) × (is_followed c ≡ false)
declaring_is kind.InitDeclarator h = (refl, refl)
declaring_is kind.NameDeclarator h = (refl, refl)
declaring_is kind.PointerDeclarator h = (refl, refl)
declaring_is kind.GroupDeclarator h = (refl, refl)
declaring_is kind.ArrayDeclarator h = (refl, refl)
declaring_is kind.FunctionDeclarator h = (refl, refl)
declaring_is c h = absurd (false≢true h)

-- it is neither an expression nor a list, nor an item
pub declaring_apart : (c : Kind) → is_declaring c ≡ true → ((is_expression (form_of c) ≡ false) × (is_item c ≡ false)) × ((is_list c ≡ false) × (is_block c ≡ false))
declaring_apart kind.InitDeclarator h = ((refl, refl), (refl, refl))
declaring_apart kind.NameDeclarator h = ((refl, refl), (refl, refl))
declaring_apart kind.PointerDeclarator h = ((refl, refl), (refl, refl))
declaring_apart kind.GroupDeclarator h = ((refl, refl), (refl, refl))
declaring_apart kind.ArrayDeclarator h = ((refl, refl), (refl, refl))
declaring_apart kind.FunctionDeclarator h = ((refl, refl), (refl, refl))
declaring_apart c h = absurd (false≢true h)

-- what is no item
pub item_lists_nothing : (c : Kind) → is_item c ≡ true → (is_list c ≡ false) × (is_declaring c ≡ false)
item_lists_nothing kind.InitializerList h = absurd (false≢true h)
item_lists_nothing kind.InitDeclarator h = absurd (false≢true h)
item_lists_nothing kind.NameDeclarator h = absurd (false≢true h)
item_lists_nothing kind.PointerDeclarator h = absurd (false≢true h)
item_lists_nothing kind.GroupDeclarator h = absurd (false≢true h)
item_lists_nothing kind.ArrayDeclarator h = absurd (false≢true h)
item_lists_nothing kind.FunctionDeclarator h = absurd (false≢true h)
item_lists_nothing c h = (refl, refl)

pub case_item : (c : Kind) → is_case c ≡ true → is_item c ≡ true
case_item kind.Case h = refl
case_item c h = absurd (false≢true h)

-- ---- what has no initialisers

pub going_lists_nothing : (c : Kind) → is_going c ≡ true → is_listing c ≡ false
going_lists_nothing kind.InitDeclarator h = absurd (false≢true h)
going_lists_nothing kind.InitializerList h = absurd (false≢true h)
going_lists_nothing c h = refl

pub item_apart : (t : Typed) (a : ℕ) (c : Kind) → is_item c ≡ true → is_static_initialiser t a c ≡ false
item_apart t a kind.InitDeclarator h = absurd (false≢true h)
item_apart t a c h = refl

pub listing_apart : (c : Kind) → is_listing c ≡ true → is_address c ≡ false
listing_apart kind.InitDeclarator h = refl
listing_apart kind.InitializerList h = refl
listing_apart c h = absurd (false≢true h)

pub counted_there : (c : Kind) (m : ℕ) → parts_of (form_of c) ≡ Some m → is_jump c ≡ false
counted_there kind.Break m e = absurd (cc e)
counted_there c m e = refl

pub asked_there : (c : Kind) (m : ℕ) → is_asked (form_of c) m ≡ true → (is_jump c ≡ false) × (is_listing c ≡ false)
asked_there kind.Break m e = absurd (false≢true e)
asked_there kind.InitDeclarator m e = absurd (false≢true e)
asked_there kind.InitializerList m e = absurd (false≢true e)
asked_there c m e = (refl, refl)

-- ---- what `&` follows

abbrev pub followed_count : Kind → ℕ
followed_count kind.Dereference = 1
followed_count kind.Subscript = 2
followed_count c = 0

pub followed_parts : (c : Kind) → is_followed c ≡ true → parts_of (form_of c) ≡ Some (followed_count c)
followed_parts kind.Dereference h = refl
followed_parts kind.Subscript h = refl
followed_parts c h = absurd (false≢true h)

pub followed_asked : (c : Kind) (k : ℕ) → is_followed c ≡ true → k < followed_count c → is_asked (form_of c) k ≡ true
followed_asked kind.Dereference zero h low = refl
followed_asked kind.Dereference (suc k) h low = absurd (omega (arith, low))
followed_asked kind.Subscript zero h low = refl
followed_asked kind.Subscript (suc zero) h low = refl
followed_asked kind.Subscript (suc (suc k)) h low = absurd (omega (arith, low))
followed_asked c k h low = absurd (false≢true h)

pub followed_goes : (c : Kind) → is_followed c ≡ true → (is_going c ≡ true) × (is_address c ≡ false)
followed_goes kind.Dereference h = (refl, refl)
followed_goes kind.Subscript h = (refl, refl)
followed_goes c h = absurd (false≢true h)

-- ---- the parts of some statements

pub addressed : is_of is_expression_part (part_in (side_of kind.AddressOf) 0) ≡ true
unfolding rule_of
addressed = refl

pub branch_counts : (least (side_of kind.If) ≡ 2) × (most (side_of kind.If) ≡ Some 3)
unfolding rule_of
branch_counts = (refl, refl)

pub while_counts : (least (side_of kind.While) ≡ 2) × (most (side_of kind.While) ≡ Some 2)
unfolding rule_of
while_counts = (refl, refl)

pub do_counts : (least (side_of kind.Do) ≡ 2) × (most (side_of kind.Do) ≡ Some 2)
unfolding rule_of
do_counts = (refl, refl)

pub return_counts : most (side_of kind.Return) ≡ Some 1
unfolding rule_of
return_counts = refl

pub statement_counts : most (side_of kind.ExpressionStatement) ≡ Some 1
unfolding rule_of
statement_counts = refl

pub switch_counts : least (side_of kind.Switch) ≡ 2
unfolding rule_of
switch_counts = refl

pub label_counts : (least (side_of kind.Label) ≡ 1) × ((least (side_of kind.Default) ≡ 1) × (least (side_of kind.Case) ≡ 2))
unfolding rule_of
label_counts = (refl, (refl, refl))

pub switch_body : (c : Kind) → Stands (part_in (side_of kind.Switch) 1) c → c ≡ kind.Compound
unfolding rule_of
switch_body kind.Compound h = refl
switch_body c h = absurd (false≢true h)

pub block_items : (k : ℕ) → is_of is_item_part (part_in (side_of kind.Compound) k) ≡ true
unfolding rule_of
block_items k = refl

pub declared_parts : (m : ℕ) → is_of is_declaring_part (part_in (side_of kind.Declaration) (suc m)) ≡ true
unfolding rule_of
declared_parts m = refl
