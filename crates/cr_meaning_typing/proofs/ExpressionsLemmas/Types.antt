-- From types: where a rule takes no array that is no place, and how an operation is brought to its operands.
use Rattle.std.proofs.Common.{◌≡◌, ℕ, Bool, true, false, List, [], ◌∷◌, Option, Some, ◌⊎◌, inl, inr, refl, sym, ap, subst, ◌∙◌, slice_index_or, if◌then◌else◌}
use Rattle.std.proofs.lemmas.Bool.{false≢true}
use Rattle.cr_check_constants.specs.declared.constant.Constant.{Constant}
use Rattle.cr_typed.specs.declared.typed.Typed.{Typed}
use Rattle.cr_check_types.specs.Types.{Qualified, plain, pointer as to, array}
use Rattle.cr_check_operands.specs.Values.{Seen, Valued, whole, untyped, type_of_value, value_in, value_beside_places, value_of_seen, seen_of}
use Rattle.cr_check_expressions.specs.Ruled.{is_typed, is_type}
use Rattle.cr_meaning.specs.World.{Program}
use Rattle.cr_meaning.specs.declared.op.Op.{Op}
use Rattle.cr_meaning_operations.specs.Shapes.{type_of_node}
use Rattle.cr_meaning_operations.specs.Operations.{parts_at}
use Rattle.cr_meaning_soundness.specs.Sorts.{Sort}
use Rattle.cr_meaning_typing.specs.Typed.Good.{IsGood, value_sort, row_at}
use Rattle.cr_meaning_typing.specs.Typed.Columns.{AreColumns, IsValueAt}
use Rattle.cr_meaning_typing.proofs.TypedLemmas.Meets.{decays}
use Rattle.cr_meaning_typing.specs.Expressions.Used.{used_sort, IsUsedAt}

-- ---- a rule that has a type

-- it isn't the one that has none
pub typeless : {A : Type 0} (own made : Seen) → own ≡ made → is_typed own ≡ true → is_typed made ≡ false → A
typeless own made e h f = absurd (false≢true (sym f ∙ sym (ap (λ (o : Seen). is_type o.type) e) ∙ h))

-- nor that of a choice
pub taken : (b : Bool) (v : Valued) (null : Bool) (own : Seen) → own ≡ seen_of (if b then v else untyped) null → is_typed own ≡ true → (b ≡ true) × (own.type ≡ type_of_value v)
taken true v null own e h = (refl, ap (λ (o : Seen). o.type) e)
taken false v null own e h = typeless own (seen_of untyped null) e h refl

pub of_type : (p : Program) (sorts : ℕ → Option Sort) (sees : ℕ → Bool) (op : Op) (row : ℕ) (own : Seen) (type : Qualified) → own.type ≡ type → IsGood p sorts sees op (value_sort p row type)
    → IsGood p sorts sees op (value_sort p row own.type)
of_type p sorts sees op row own type e g = subst (λ o. IsGood p sorts sees op (value_sort p row o)) (sym e) g

-- ---- operands that are no such arrays

abbrev pub Refuses : (Valued → Seen) → Type 0
Refuses rule = (t : Qualified) → is_typed (rule (whole t)) ≡ false

pub plain_by : (test : Seen → Bool) (rule : Valued → Seen) → ((t : Qualified) → test (rule (whole t)) ≡ false) → (x own : Seen) → own ≡ rule (value_of_seen x) → test own ≡ true
    → own ≡ rule (value_in x.type x.constant)
plain_by test rule refuses x own e h = elim (decays x) [
  | inl f ↦ e ∙ ap rule f
  | inr f ↦ absurd (false≢true (sym (ap (λ v. test (rule v)) f.1 ∙ refuses f.0) ∙ sym (ap test e) ∙ h))
]

pub seen_plain : (rule : Valued → Seen) → Refuses rule → (x own : Seen) → own ≡ rule (value_of_seen x) → is_typed own ≡ true → own ≡ rule (value_in x.type x.constant)
seen_plain rule refuses x own e h = plain_by is_typed rule refuses x own e h

-- so they give the values of their types
plain_sort : (p : Program) (row : ℕ) (l : Bool) (type : Qualified) (c : Constant)
    → (used_sort p l row type ≡ value_sort p row type) ⊎ ((u : Qualified) × ((if l then value_in type c else value_beside_places type c) ≡ whole u))
plain_sort p row true type c = inl refl
plain_sort p row false (plain of c v) k = inl refl
plain_sort p row false (to c v t) k = inl refl
plain_sort p row false (array n t) k = inr (array n t, refl)

pub plainly : (p : Program) (t : Typed) (sorts : ℕ → Option Sort) (at : ℕ → Seen) → AreColumns t at → (rule : Valued → Seen) → Refuses rule
    → (own : Seen) (a : ℕ) → own ≡ rule (value_of_seen (at a)) → is_typed own ≡ true → IsUsedAt p t sorts at a → IsValueAt p t sorts a
plainly p t sorts at columns rule refuses own a e h s = elim (plain_sort p (row_at t a) (at a).lvalue (at a).type (at a).constant) [
  | inl f ↦ s ∙ ap Some (ap (used_sort p (at a).lvalue (row_at t a)) (columns.types a) ∙ f ∙ sym (ap (value_sort p (row_at t a)) (columns.types a)))
  | inr f ↦ typeless own (rule (value_of_seen (at a))) e h (ap (λ v. is_typed (rule v)) f.1 ∙ refuses f.0)
]

-- ---- operations by their operands

module _ (p : Program) (t : Typed) (sorts : ℕ → Option Sort) (sees : ℕ → Bool) (at : ℕ → Seen) (columns : AreColumns t at) (own : ℕ → Qualified → Sort) where
  -- of one operand
  pub by_one : (make : List ℕ → Qualified → Op) (i a : ℕ) → parts_at t i ≡ a ∷ [] → IsGood p sorts sees (make (a ∷ []) (at a).type) (own (row_at t i) (at i).type)
      → IsGood p sorts sees (make (parts_at t i) (type_of_node t (slice_index_or (parts_at t i) 0 0))) (own (row_at t i) (type_of_node t i))
  by_one make i a e g =
      subst (λ o. IsGood p sorts sees o (own (row_at t i) (type_of_node t i))) (sym (ap (λ ps. make ps (type_of_node t (slice_index_or ps 0 0))) e ∙ ap (make (a ∷ [])) (columns.types a)))
      (subst (λ x. IsGood p sorts sees (make (a ∷ []) (at a).type) (own (row_at t i) x)) (sym (columns.types i)) g)

  -- of two
  pub by_two : (make : List ℕ → Qualified → Qualified → Op) (i a b : ℕ) → parts_at t i ≡ a ∷ b ∷ []
      → IsGood p sorts sees (make (a ∷ b ∷ []) (at a).type (at b).type) (own (row_at t i) (at i).type)
      → IsGood p sorts sees (make (parts_at t i) (type_of_node t (slice_index_or (parts_at t i) 0 0)) (type_of_node t (slice_index_or (parts_at t i) 1 0))) (own (row_at t i) (type_of_node t i))
  by_two make i a b e g =
      subst (λ o. IsGood p sorts sees o (own (row_at t i) (type_of_node t i)))
      (sym (ap (λ ps. make ps (type_of_node t (slice_index_or ps 0 0)) (type_of_node t (slice_index_or ps 1 0))) e ∙ (λ j. make (a ∷ b ∷ []) (columns.types a j) (columns.types b j))))
      (subst (λ x. IsGood p sorts sees (make (a ∷ b ∷ []) (at a).type (at b).type) (own (row_at t i) x)) (sym (columns.types i)) g)

-- a value's sort, where its type is the one that was found
pub value_as : (p : Program) (t : Typed) (sorts : ℕ → Option Sort) (at : ℕ → Seen) → AreColumns t at → (a : ℕ) → IsValueAt p t sorts a → sorts a ≡ Some (value_sort p (row_at t a) (at a).type)
value_as p t sorts at columns a h = h ∙ ap (λ x. Some (value_sort p (row_at t a) x)) (columns.types a)
