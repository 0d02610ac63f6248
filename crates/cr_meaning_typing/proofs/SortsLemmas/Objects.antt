-- The places that expressions are: they have whole cells, and brackets hand them on.
use Rattle.std.proofs.Common.{◌≡◌, ℕ, zero, suc, ◌<◌, ◌≤◌, Bool, true, false, [], Option, None, Some, length, refl, sym, ap, subst, ◌∙◌, slice_get, slice_index_or, arith, if◌then◌else◌}
use Rattle.std.proofs.lemmas.Bool.{false≢true}
use Rattle.std.proofs.Math.Nat.{mod-one}
use Rattle.cr_ints.specs.declared.kind.IntKind.TheVariants.{Char as CharKind}
use Rattle.cr_syntax.specs.declared.ctype.CType.TheVariants.{Int}
use Rattle.cr_syntax.specs.declared.node.Kind.{Kind}
use Rattle.cr_syntax.specs.declared.node.Kind.TheVariants as kind
use Rattle.cr_syntax.specs.declared.node.Node.{Node}
use Rattle.cr_typed.specs.declared.typed.Typed.{Typed}
use Rattle.cr_typed.specs.Typed.{row_cells}
use Rattle.cr_check_types.specs.Types.{Qualified, plain, array}
use Rattle.cr_check_operands.specs.Values.{Seen, Valued, number as a_number, address, place_of, no_type}
use Rattle.cr_check_operands.specs.Places.{followed, dereferenced, subscripted, pointed_member_of, text_of}
use Rattle.cr_check_expressions.specs.declared.form.Form.TheVariants as form
use Rattle.cr_check_expressions.specs.Forms.{form_of}
use Rattle.cr_check_expressions.specs.Ruled.{is_typed}
use Rattle.cr_meaning.specs.declared.run.Limits.{Limits}
use Rattle.cr_meaning_operations.specs.Shapes.{type_of_node}
use Rattle.cr_meaning_operations.specs.Operations.{kind_at, parts_at, part_at, chosen_row}
use Rattle.cr_meaning_typing.specs.Typed.Typing.{is_expression}
use Rattle.cr_meaning_typing.specs.Typed.Placed.{IsObject}
use Rattle.cr_meaning_typing.specs.Sorts.Table.{Judgement, size_of, size_by, size_at}
use Rattle.cr_meaning_typing.specs.Sorts.Founded.{AreFounded, is_evaluated, is_followed}
use Rattle.cr_meaning_typing.proofs.SortsLemmas.Operands.{p, expression_there, kind_there, operand_is, ruled_as, one_of, part_is}

-- ---- what is followed is a place

followed_place : (complete : Qualified → Bool) (x : Qualified) → is_typed (followed complete x) ≡ true → (followed complete x).lvalue ≡ true
followed_place complete x h = by (complete x) h
  where
    by : (b : Bool) → is_typed (if b then place_of x false else no_type) ≡ true → (if b then place_of x false else no_type).lvalue ≡ true
    by true h = refl
    by false h = absurd (false≢true h)

pub dereferenced_place : (complete : Qualified → Bool) (v : Valued) → is_typed (dereferenced complete v) ≡ true → (dereferenced complete v).lvalue ≡ true
dereferenced_place complete (address x) h = followed_place complete x h
dereferenced_place complete v h = absurd (false≢true h)

pub subscripted_place : (complete : Qualified → Bool) (v w : Valued) → is_typed (subscripted complete v w) ≡ true → (subscripted complete v w).lvalue ≡ true
subscripted_place complete (address x) (a_number y) h = followed_place complete x h
subscripted_place complete (a_number y) (address x) h = followed_place complete x h
subscripted_place complete v w h = absurd (false≢true h)

pub pointed_place : (found : Option Qualified) (v : Valued) → is_typed (pointed_member_of found v) ≡ true → (pointed_member_of found v).lvalue ≡ true
pointed_place (Some type) (address x) h = refl
pointed_place None (address x) h = absurd (false≢true h)
pointed_place found v h = absurd (false≢true h)

module _ (t : Typed) (limits : Limits) (j : Judgement) (sees : ℕ → ℕ → Bool) (founded : AreFounded t limits j sees) where
  -- ---- sizes

  one_size : (k : Kind) (x y i : ℕ) → (k ≡ kind.Group → x ≡ y) → size_of k x (p t limits j sees founded) t i ≡ size_of k y (p t limits j sees founded) t i
  one_size kind.Group x y i h = h refl
  one_size k x y i h = refl

  inner_below : (i : ℕ) → kind_at t i ≡ kind.Group → part_at t i 0 < i
  inner_below i e =
      let x = one_of t limits j sees founded i form.Group (ap form_of e) refl refl in
      subst (λ a. a < i) (sym (part_is t limits j sees founded i x.a x.first.is)) x.first.below

  enough : (m n i : ℕ) → i < m → i < n → size_by m (p t limits j sees founded) t i ≡ size_by n (p t limits j sees founded) t i
  enough zero n i low more = absurd (omega (arith, low))
  enough (suc m) zero i low more = absurd (omega (arith, more))
  enough (suc m) (suc n) i low more =
      one_size (kind_at t i) (size_by m (p t limits j sees founded) t (part_at t i 0)) (size_by n (p t limits j sees founded) t (part_at t i 0)) i
      (λ e. let inner = inner_below i e in enough m n (part_at t i 0) (omega (arith, low, inner)) (omega (arith, more, inner)))

  pub size_is : (i : ℕ) (k : Kind) → kind_at t i ≡ k → size_at (p t limits j sees founded) t i ≡ size_of k (size_by i (p t limits j sees founded) t (part_at t i 0)) (p t limits j sees founded) t i
  size_is i k e = ap (λ k. size_of k (size_by i (p t limits j sees founded) t (part_at t i 0)) (p t limits j sees founded) t i) e

  -- brackets have the size of what stands in them
  pub inner_size : (i a : ℕ) → kind_at t i ≡ kind.Group → slice_get (parts_at t i) 0 ≡ Some a → a < i → size_at (p t limits j sees founded) t i ≡ size_at (p t limits j sees founded) t a
  inner_size i a e is low =
      size_is i kind.Group e ∙ ap (size_by i (p t limits j sees founded) t) (part_is t limits j sees founded i a is) ∙ enough i (suc a) a low (omega arith)

  -- ---- each place has whole cells

  chars_whole : (count : ℕ) → IsObject t count (array count (plain (Int CharKind) false false))
  chars_whole count = ((let one : 1 ≤ 1 = omega arith in one), mod-one count)

  by_kind : (i : ℕ) (n : Node) (k : Kind) → slice_get t.nodes i ≡ Some n → kind_at t i ≡ k → j.runs i ≡ true → (j.at i).lvalue ≡ true
      → ((a : ℕ) → a < i → j.runs a ≡ true → is_expression (form_of (kind_at t a)) ≡ true → (j.at a).lvalue ≡ true → IsObject t (size_at (p t limits j sees founded) t a) (type_of_node t a))
      → IsObject t (size_at (p t limits j sees founded) t i) (type_of_node t i)
  by_kind i n kind.Identifier at e r l inner =
      subst (λ s. IsObject t s (type_of_node t i)) (sym (size_is i kind.Identifier e)) (founded.named.objects i n r at (kind_there t limits j sees founded i n at ∙ e) l).0.object
  by_kind i n kind.Text at e r l inner =
      let count = length (slice_index_or t.texts i []) in
      let type : type_of_node t i ≡ array count (plain (Int CharKind) false false) =
      founded.judged.columns.types i ∙ ap (λ (o : Seen). o.type) (ruled_as t limits j sees founded i n form.Text at (ap form_of e)) ∙ ap (λ m. (text_of m).type) (founded.judged.texts i i) in
      subst (λ s. IsObject t s (type_of_node t i)) (sym (size_is i kind.Text e)) (subst (IsObject t count) (sym type) (chars_whole count))
  by_kind i n kind.Group at e r l inner =
      let x = one_of t limits j sees founded i form.Group (ap form_of e) refl refl in
      let same : j.at i ≡ j.at x.a = ruled_as t limits j sees founded i n form.Group at (ap form_of e) ∙ operand_is t limits j sees founded i 0 x.a n at x.first.is in
      let runs = founded.reached.operands i 0 x.a r (ap (λ k. is_evaluated (form_of k) 0) e) x.first.is in
      let type : type_of_node t x.a ≡ type_of_node t i = founded.judged.columns.types x.a ∙ ap (λ (o : Seen). o.type) (sym same) ∙ sym (founded.judged.columns.types i) in
      let made = inner x.a x.first.below runs x.first.expression (sym (ap (λ (o : Seen). o.lvalue) same) ∙ l) in
      subst (λ s. IsObject t s (type_of_node t i)) (sym (inner_size i x.a e x.first.is x.first.below)) (subst (IsObject t (size_at (p t limits j sees founded) t x.a)) type made)
  by_kind i n kind.Member at e r l inner =
      let x = one_of t limits j sees founded i form.Member (ap form_of e) refl refl in
      let found = founded.placed.members i x.a r e x.first.is in
      subst (λ s. IsObject t s (type_of_node t i)) (sym (size_is i kind.Member e ∙ ap (λ a. row_cells t (chosen_row t i (type_of_node t a))) (part_is t limits j sees founded i x.a x.first.is))) found.within.object
  by_kind i n kind.PointerMember at e r l inner =
      subst (λ s. IsObject t s (type_of_node t i)) (sym (size_is i kind.PointerMember e)) (founded.placed.pointed_members i r e).object
  by_kind i n kind.Dereference at e r l inner =
      subst (λ s. IsObject t s (type_of_node t i)) (sym (size_is i kind.Dereference e)) (founded.placed.cells i r (ap is_followed e))
  by_kind i n kind.Subscript at e r l inner =
      subst (λ s. IsObject t s (type_of_node t i)) (sym (size_is i kind.Subscript e)) (founded.placed.cells i r (ap is_followed e))
  by_kind i n k at e r l inner =
      absurd (false≢true (sym (ap (λ (o : Seen). o.lvalue) (ruled_as t limits j sees founded i n (form_of k) at (ap form_of e))) ∙ l))

  below : (m i : ℕ) → i < m → j.runs i ≡ true → is_expression (form_of (kind_at t i)) ≡ true → (j.at i).lvalue ≡ true → IsObject t (size_at (p t limits j sees founded) t i) (type_of_node t i)
  below zero i low r x l = absurd (omega (arith, low))
  below (suc m) i low r x l =
      let there = expression_there t limits j sees founded i x in
      by_kind i there.0 (kind_at t i) there.1 refl r l (λ a less s y k. below m a (omega (arith, low, less)) s y k)

  pub object : (i : ℕ) → j.runs i ≡ true → is_expression (form_of (kind_at t i)) ≡ true → (j.at i).lvalue ≡ true → IsObject t (size_at (p t limits j sees founded) t i) (type_of_node t i)
  object i r x l = below (suc i) i (omega arith) r x l
