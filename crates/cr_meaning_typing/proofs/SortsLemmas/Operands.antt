-- The sorts of an expression's operands, in the table.
use Rattle.std.proofs.Common.{◌≡◌, ℕ, ◌==◌, Bool, true, false, not, ◌&&◌, List, [], ◌∷◌, Option, None, Some, length, refl, sym, ap, ◌∙◌, slice_get, slice_index_or, arith, if◌then◌else◌}
use Rattle.std.proofs.lemmas.Bool.{false≢true}
use Rattle.std.proofs.lemmas.Option.{get_or_from_slice_get}
use Rattle.cr_syntax.specs.declared.node.Kind.{Kind}
use Rattle.cr_syntax.specs.declared.node.Kind.TheVariants as kind
use Rattle.cr_syntax.specs.declared.node.Node.{Node}
use Rattle.cr_typed.specs.declared.typed.Typed.{Typed}
use Rattle.cr_check_operands.specs.Values.{Seen, Valued, number as a_number, address, structure, whole, valueless, untyped, type_of_value, seen_of}
use Rattle.cr_check_expressions.specs.declared.form.Form.{Form}
use Rattle.cr_check_expressions.specs.Forms.{form_of}
use Rattle.cr_check_expressions.specs.Ruled.{seen_in, operand, is_typed, ruled}
use Rattle.cr_check_expressions.specs.Used.{takes_place}
use Rattle.cr_meaning.specs.World.{Program}
use Rattle.cr_meaning.specs.declared.run.Limits.{Limits}
use Rattle.cr_meaning_soundness.specs.Sorts.{Sort, place, chars, statement}
use Rattle.cr_meaning_operations.specs.Shapes.{type_of_node}
use Rattle.cr_meaning_operations.specs.Operations.{kind_if, kind_at, parts_if, parts_at, part_at, program_of}
use Rattle.cr_meaning_typing.specs.Typed.Good.{value_sort, place_sort, row_at}
use Rattle.cr_meaning_typing.specs.Typed.Typing.{is_asked, is_expression}
use Rattle.cr_meaning_typing.proofs.TypedLemmas.Worth.{is_decayed, worth_typed}
use Rattle.cr_meaning_typing.specs.Expressions.Used.{beside_sort, IsUsedAt}
use Rattle.cr_meaning_typing.specs.Sorts.Table.{Judgement, size_at, expression_sort, sort_at, sorts_in, exits_at}
use Rattle.cr_meaning_typing.specs.Sorts.Founded.{parts_of, IsOperand, AreFounded}

-- ---- lists of so many parts

pub none_alone : (ps : List ℕ) → length ps ≡ 0 → ps ≡ []
none_alone [] n = refl
none_alone (x ∷ ps) n = absurd (omega (arith, n))

pub one_alone : (ps : List ℕ) (a : ℕ) → length ps ≡ 1 → slice_get ps 0 ≡ Some a → ps ≡ a ∷ []
one_alone [] a n e = absurd (omega (arith, n))
one_alone (x ∷ []) a n e = let same : x ≡ a = cc e in ap (λ y. y ∷ []) same
one_alone (x ∷ y ∷ ps) a n e = absurd (omega (arith, n))

pub two_alone : (ps : List ℕ) (a b : ℕ) → length ps ≡ 2 → slice_get ps 0 ≡ Some a → slice_get ps 1 ≡ Some b → ps ≡ a ∷ b ∷ []
two_alone [] a b n e f = absurd (omega (arith, n))
two_alone (x ∷ ps) a b n e f =
    let same : x ≡ a = cc e in
    let rest = one_alone ps b (omega (arith, n)) f in
    λ j. same j ∷ rest j

pub three_alone : (ps : List ℕ) (a b c : ℕ) → length ps ≡ 3 → slice_get ps 0 ≡ Some a → slice_get ps 1 ≡ Some b → slice_get ps 2 ≡ Some c → ps ≡ a ∷ b ∷ c ∷ []
three_alone [] a b c n e f g = absurd (omega (arith, n))
three_alone (x ∷ ps) a b c n e f g =
    let same : x ≡ a = cc e in
    let rest = two_alone ps b c (omega (arith, n)) f g in
    λ j. same j ∷ rest j

-- ---- sorts by what is used

used_sorts : (l v u : Bool) (x y : Sort) (count : ℕ) → u ≡ false → v ≡ l → (if l then (if u then chars else (if v then x else place count)) else y) ≡ (if l then x else y)
used_sorts false v u x y count e g = refl
used_sorts true true false x y count e g = refl
used_sorts true true true x y count e g = absurd (false≢true (sym e))
used_sorts true false u x y count e g = absurd (false≢true g)

placed_sorts : (l v u : Bool) (x y : Sort) (count : ℕ) → u ≡ false → v ≡ false → (if l then (if u then chars else (if v then x else place count)) else y) ≡ (if l then place count else y)
placed_sorts false v u x y count e g = refl
placed_sorts true false false x y count e g = refl
placed_sorts true true u x y count e g = absurd (false≢true (sym g))
placed_sorts true false true x y count e g = absurd (false≢true (sym e))

all_kept : (l b : Bool) → b ≡ false → (l && not b) ≡ l
all_kept true false e = refl
all_kept false false e = refl
all_kept l true e = absurd (false≢true (sym e))

none_kept : (l b : Bool) → b ≡ true → (l && not b) ≡ false
none_kept true true e = refl
none_kept false true e = refl
none_kept l false e = absurd (false≢true e)

-- a value that isn't an array beside places has one sort, whatever is asked
pub beside_plain : (p : Program) (row : ℕ) (v : Valued) → is_decayed v ≡ true → beside_sort p row (type_of_value v) ≡ value_sort p row (type_of_value v)
beside_plain p row (a_number x) h = refl
beside_plain p row (address t) h = refl
beside_plain p row (structure n) h = refl
beside_plain p row (whole t) h = absurd (false≢true h)
beside_plain p row valueless h = refl
beside_plain p row untyped h = refl

module _ (t : Typed) (limits : Limits) (j : Judgement) (sees : ℕ → ℕ → Bool) (founded : AreFounded t limits j sees) where
  abbrev pub p : Program
  p = program_of t limits

  abbrev pub sorts : ℕ → Option Sort
  sorts = sorts_in p t j

  -- ---- nodes

  pub expression_there : (i : ℕ) → is_expression (form_of (kind_at t i)) ≡ true → (n : Node) × (slice_get t.nodes i ≡ Some n)
  expression_there i e = by (slice_get t.nodes i) refl e
    where
      by : (o : Option Node) → slice_get t.nodes i ≡ o → is_expression (form_of (kind_if o)) ≡ true → (n : Node) × (slice_get t.nodes i ≡ Some n)
      by None f h = absurd (false≢true h)
      by (Some n) f h = (n, f)

  pub kind_there : (i : ℕ) (n : Node) → slice_get t.nodes i ≡ Some n → n.kind ≡ kind_at t i
  kind_there i n at = sym (ap kind_if at)

  -- what an operand of a rule is
  pub operand_is : (i k a : ℕ) (n : Node) → slice_get t.nodes i ≡ Some n → slice_get (parts_at t i) k ≡ Some a → operand j.at n.parts k ≡ j.at a
  operand_is i k a n at e = ap (λ ps. seen_in j.at (slice_get ps k)) (sym (ap parts_if at)) ∙ ap (seen_in j.at) e

  -- what the rule of a form says
  pub ruled_as : (i : ℕ) (n : Node) (f : Form) → slice_get t.nodes i ≡ Some n → form_of (kind_at t i) ≡ f → j.at i ≡ ruled f j.at (j.source i) i n
  ruled_as i n f at is = founded.judged.ruled i n at ∙ ap (λ g. ruled g j.at (j.source i) i n) (ap form_of (kind_there i n at) ∙ is)

  pub has_type : (i : ℕ) → is_expression (form_of (kind_at t i)) ≡ true → is_typed (j.at i) ≡ true
  has_type i e = worth_typed (j.at i).type (founded.judged.worth i e)

  -- ---- sorts

  pub has_sort : (a : ℕ) → j.runs a ≡ true → is_expression (form_of (kind_at t a)) ≡ true → sorts a ≡ Some (expression_sort p t j a)
  has_sort a r e =
      ap (λ b. if b then Some (sort_at p t j a) else None) r ∙ ap (λ b. Some (if b then expression_sort p t j a else statement (exits_at t j a))) e

  pub used : (i k a : ℕ) → IsOperand t j i k a → j.runs a ≡ true → ((k == 0) && takes_place (form_of (kind_at t i))) ≡ false → IsUsedAt p t sorts j.at a
  used i k a o r e =
      has_sort a r o.expression ∙ ap Some (used_sorts (j.at a).lvalue (slice_index_or t.valued a false) (j.fills a) (value_sort p (row_at t a) (type_of_node t a)) (beside_sort p (row_at t a) (type_of_node t a)) (size_at p t a)
      o.unfilled (o.valued ∙ all_kept (j.at a).lvalue ((k == 0) && takes_place (form_of (kind_at t i))) e))

  taken : (i k a : ℕ) → IsOperand t j i k a → j.runs a ≡ true → ((k == 0) && takes_place (form_of (kind_at t i))) ≡ true
      → sorts a ≡ Some (if (j.at a).lvalue then place (size_at p t a) else beside_sort p (row_at t a) (type_of_node t a))
  taken i k a o r e =
      has_sort a r o.expression ∙ ap Some (placed_sorts (j.at a).lvalue (slice_index_or t.valued a false) (j.fills a) (value_sort p (row_at t a) (type_of_node t a)) (beside_sort p (row_at t a) (type_of_node t a)) (size_at p t a)
      o.unfilled (o.valued ∙ none_kept (j.at a).lvalue ((k == 0) && takes_place (form_of (kind_at t i))) e))

  -- an operand that stays a place, and one that is none
  pub as_place : (i k a : ℕ) → IsOperand t j i k a → j.runs a ≡ true → ((k == 0) && takes_place (form_of (kind_at t i))) ≡ true → (j.at a).lvalue ≡ true → sorts a ≡ Some (place (size_at p t a))
  as_place i k a o r e l = taken i k a o r e ∙ ap (λ b. Some (if b then place (size_at p t a) else beside_sort p (row_at t a) (type_of_node t a))) l

  pub as_beside : (i k a : ℕ) → IsOperand t j i k a → j.runs a ≡ true → ((k == 0) && takes_place (form_of (kind_at t i))) ≡ true → (j.at a).lvalue ≡ false
      → sorts a ≡ Some (beside_sort p (row_at t a) (type_of_node t a))
  as_beside i k a o r e l = taken i k a o r e ∙ ap (λ b. Some (if b then place (size_at p t a) else beside_sort p (row_at t a) (type_of_node t a))) l

  -- ---- the node's own sort

  -- what is no place
  pub own_beside : (i : ℕ) → (j.at i).lvalue ≡ false → expression_sort p t j i ≡ beside_sort p (row_at t i) (type_of_node t i)
  own_beside i l = ap (λ b. if b then (if j.fills i then chars else place_sort p t i (size_at p t i)) else beside_sort p (row_at t i) (type_of_node t i)) l

  pub own_value : (i : ℕ) (v : Valued) → (j.at i).lvalue ≡ false → (j.at i).type ≡ type_of_value v → is_decayed v ≡ true → expression_sort p t j i ≡ value_sort p (row_at t i) (type_of_node t i)
  own_value i v l e d =
      let type : type_of_node t i ≡ type_of_value v = founded.judged.columns.types i ∙ e in
      own_beside i l ∙ ap (beside_sort p (row_at t i)) type ∙ beside_plain p (row_at t i) v d ∙ sym (ap (value_sort p (row_at t i)) type)

  pub own_given : (i : ℕ) (v : Valued) (null : Bool) → j.at i ≡ seen_of v null → is_decayed v ≡ true → expression_sort p t j i ≡ value_sort p (row_at t i) (type_of_node t i)
  own_given i v null e d = own_value i v (ap (λ (o : Seen). o.lvalue) e) (ap (λ (o : Seen). o.type) e) d

  -- only a literal fills an array
  abbrev pub is_text : Kind → Bool
  is_text kind.Text = true
  is_text k = false

  pub no_filling : (i : ℕ) → is_text (kind_at t i) ≡ false → j.fills i ≡ false
  no_filling i e = by (j.fills i) refl
    where
      by : (b : Bool) → j.fills i ≡ b → j.fills i ≡ false
      by false h = h
      by true h = absurd (false≢true (sym e ∙ ap is_text (founded.laid.filled i h).0))

  -- a place
  pub own_place : (i count : ℕ) → (j.at i).lvalue ≡ true → j.fills i ≡ false → size_at p t i ≡ count → expression_sort p t j i ≡ place_sort p t i count
  own_place i count l u s =
      ap (λ b. if b then (if j.fills i then chars else place_sort p t i (size_at p t i)) else beside_sort p (row_at t i) (type_of_node t i)) l
      ∙ ap (λ b. if b then chars else place_sort p t i (size_at p t i)) u ∙ ap (place_sort p t i) s

  -- ---- parts

  pub record AsOne (i : ℕ) : Type 0 where
    pub a : ℕ
    pub parts : parts_at t i ≡ a ∷ []
    pub first : IsOperand t j i 0 a

  pub record AsTwo (i : ℕ) : Type 0 where
    pub a : ℕ
    pub b : ℕ
    pub parts : parts_at t i ≡ a ∷ b ∷ []
    pub first : IsOperand t j i 0 a
    pub second : IsOperand t j i 1 b

  pub one_of : (i : ℕ) (f : Form) → form_of (kind_at t i) ≡ f → is_asked f 0 ≡ true → parts_of f ≡ Some 1 → AsOne i
  one_of i f e asked n =
      let x = founded.laid.operands i 0 (ap (λ g. is_asked g 0) e ∙ asked) in
      record { a = x.0; parts = one_alone (parts_at t i) x.0 (founded.laid.counts i 1 (ap parts_of e ∙ n)) x.1.is; first = x.1 }

  pub two_of : (i : ℕ) (f : Form) → form_of (kind_at t i) ≡ f → is_asked f 0 ≡ true → is_asked f 1 ≡ true → parts_of f ≡ Some 2 → AsTwo i
  two_of i f e asked other n =
      let x = founded.laid.operands i 0 (ap (λ g. is_asked g 0) e ∙ asked) in
      let y = founded.laid.operands i 1 (ap (λ g. is_asked g 1) e ∙ other) in
      record { a = x.0; b = y.0; parts = two_alone (parts_at t i) x.0 y.0 (founded.laid.counts i 2 (ap parts_of e ∙ n)) x.1.is y.1.is; first = x.1; second = y.1 }

  -- the node's first part
  pub part_is : (i a : ℕ) → slice_get (parts_at t i) 0 ≡ Some a → part_at t i 0 ≡ a
  part_is i a e = get_or_from_slice_get (parts_at t i) 0 a 0 e
