-- The operations of statements and declarations, by their constraints.
use Rattle.std.proofs.Common.{◌≡◌, ℕ, [], ◌∷◌, Option, Some, sym, ap, subst, ◌∙◌, slice_index_or}
use Rattle.cr_typed.specs.declared.typed.Typed.{Typed}
use Rattle.cr_check_operands.specs.Values.{Seen}
use Rattle.cr_meaning.specs.World.{Program}
use Rattle.cr_meaning.specs.declared.op.Work.TheVariants as work
use Rattle.cr_meaning_soundness.specs.Sorts.{Sort, statement}
use Rattle.cr_meaning_soundness.specs.Statements.{Converts}
use Rattle.cr_meaning_soundness.specs.Operands.{IsScalar, IsConverted}
use Rattle.cr_meaning_operations.specs.Shapes.{named_type, form_of}
use Rattle.cr_meaning_operations.specs.Operations.{node_op, parts_at, switch_of, targets_from, declarators_of, objects_in}
use Rattle.cr_meaning_typing.specs.Typed.Good.{IsGood, row_at}
use Rattle.cr_meaning_typing.specs.Typed.Columns.{AreColumns}
use Rattle.cr_meaning_typing.specs.Typed.Placed.{exits_in}
use Rattle.cr_meaning_typing.proofs.TypedLemmas.Goods as good
use Rattle.cr_meaning_typing.specs.Expressions.Used.{used_sort, IsUsedAt}
use Rattle.cr_meaning_typing.specs.Statements.Statements.{IsControl, BranchesAreGood, SwitchesAreGood, LoopsAreGood, ForsAreGood, LabelsAreGood, JumpsAreGood, GotosAreGood, ReturnsAreGood, BlocksAreGood, ExpressionStatementsAreGood, DeclarationsAreGood, DeclaratorsAreGood}
use Rattle.cr_meaning_typing.proofs.StatementsLemmas.Goods as more
use Rattle.cr_meaning_typing.proofs.StatementsLemmas.Controls.{is_scalar, is_integer, is_given, gives_nothing}

-- its sort by the type that was found
used_is : (p : Program) (t : Typed) (sorts : ℕ → Option Sort) (at : ℕ → Seen) → AreColumns t at → (a : ℕ) → IsUsedAt p t sorts at a
    → sorts a ≡ Some (used_sort p (at a).lvalue (row_at t a) (at a).type)
used_is p t sorts at columns a h = h ∙ ap (λ x. Some (used_sort p (at a).lvalue (row_at t a) x)) (columns.types a)

abbrev control_sort : Program → Typed → (ℕ → Seen) → ℕ → Sort
control_sort p t at a = used_sort p (at a).lvalue (row_at t a) (at a).type

module _ (p : Program) (t : Typed) (sorts : ℕ → Option Sort) (at : ℕ → Seen) (columns : AreColumns t at) (a : ℕ) (control : IsControl p t sorts at a) where
  control_has : sorts a ≡ Some (control_sort p t at a)
  control_has = used_is p t sorts at columns a control.used

  control_scalar : IsScalar (control_sort p t at a)
  control_scalar = is_scalar p (row_at t a) (at a) control.has control.scalar

pub branches : BranchesAreGood
branches p t sorts sees at columns i exits a b control hb =
    let sa = control_sort p t at a in
    let ha = control_has p t sorts at columns a control in
    let scalar = control_scalar p t sorts at columns a control in (
      (λ e. subst (λ ps. IsGood p sorts sees (node_op ps work.If) (statement exits)) (sym e) (good.branch p sorts sees a b sa exits ha scalar hb)),
      (λ c e hc. subst (λ ps. IsGood p sorts sees (node_op ps work.If) (statement exits)) (sym e) (more.branches p sorts sees a b c sa exits ha scalar hb hc)),
    )

pub switches : SwitchesAreGood
switches p t sorts sees at columns i exits a body items e control items_are =
    let op = λ (first : ℕ). node_op (first ∷ items) (switch_of t i body items).work in
    subst (λ first. IsGood p sorts sees (op first) (statement exits)) (sym e)
    (more.switch p sorts sees a (used_sort p (at a).lvalue (row_at t a) (at a).type) _ body (objects_in t items) items _ _ (targets_from t 0 items) exits
    (used_is p t sorts at columns a control.used) (is_integer p (row_at t a) (at a) control.has control.integer) items_are)

pub loops : LoopsAreGood
loops p t sorts sees at columns i exits a b control hb =
    let sa = control_sort p t at a in
    let ha = control_has p t sorts at columns a control in
    let scalar = control_scalar p t sorts at columns a control in (
      (λ e. subst (λ ps. IsGood p sorts sees (node_op ps work.While) (statement exits)) (sym e) (good.loop p sorts sees a b sa exits ha scalar hb)),
      (λ e. subst (λ ps. IsGood p sorts sees (node_op ps work.Do) (statement exits)) (sym e) (more.loop_behind p sorts sees a b sa exits ha scalar hb)),
    )

pub fors : ForsAreGood
fors p t sorts sees at columns i exits objects first control step body e f c s b =
    subst (λ op. IsGood p sorts sees op (statement exits)) (sym e)
    (more.for_loop p sorts sees objects first control step body exits f
    (λ a is. (control_sort p t at a, control_has p t sorts at columns a (c a is))) s b
    (λ a sort is h. let same : control_sort p t at a ≡ sort = cc (sym (control_has p t sorts at columns a (c a is)) ∙ h) in
    subst IsScalar same (control_scalar p t sorts at columns a (c a is))))

pub labels : LabelsAreGood
labels p t sorts sees at columns i exits a e h = subst (λ n. IsGood p sorts sees (node_op (n ∷ []) work.Labelled) (statement exits)) (sym e) (more.marked p sorts sees a exits h)

pub jumps : JumpsAreGood
jumps p sorts sees labels result a = ((λ h. more.broken p sorts sees (exits_in labels result a) h), (λ h. more.continued p sorts sees (exits_in labels result a) h))

pub gotos : GotosAreGood
gotos p sorts sees exits label h = more.went p sorts sees label exits h

pub return_statements : ReturnsAreGood
return_statements p t sorts sees at columns i exits e r =
    let form = form_of t (slice_index_or t.named i 0) in (
      (λ parts n. subst (λ f. IsGood p sorts sees (node_op (parts_at t i) (work.Return f)) (statement exits)) e
          (subst (λ ps. IsGood p sorts sees (node_op ps (work.Return exits.result)) (statement exits)) (sym parts)
          (good.returned_nothing p sorts sees exits (e ∙ gives_nothing t at (slice_index_or t.named i 0) (named_type t i) r n)))),
      (λ a parts n h used. let given = is_given p t at (row_at t a) (slice_index_or t.named i 0) a (named_type t i) r h n in
          let sort = used_sort p (at a).lvalue (row_at t a) (at a).type in
          subst (λ f. IsGood p sorts sees (node_op (parts_at t i) (work.Return f)) (statement exits)) e
          (subst (λ ps. IsGood p sorts sees (node_op ps (work.Return exits.result)) (statement exits)) (sym parts)
          (good.returned p sorts sees a sort exits (used_is p t sorts at columns a used)
          (subst (λ f. Converts p f sort) (sym e) given.converts)
          (subst (λ f. IsConverted f sort) (sym e) given.converted)))),
    )

pub blocks : BlocksAreGood
blocks p t sorts sees at columns i exits h = good.block p sorts sees (parts_at t i) (objects_in t (parts_at t i)) (targets_from t 0 (parts_at t i)) exits h

pub expression_statements : ExpressionStatementsAreGood
expression_statements p t sorts sees at columns i exits h = more.expressed p sorts sees (parts_at t i) exits h

pub declarations : DeclarationsAreGood
declarations p t sorts sees at columns i exits h = good.declaration p sorts sees (declarators_of t i) exits h

pub declarators : DeclaratorsAreGood
declarators p sorts sees exits declared s =
    (good.declare p sorts sees declared exits s, (λ parts lines h a k. more.initialised p sorts sees declared parts lines exits s h a k))
