use Rattle.std.proofs.Common.{◌≡◌, ◌∙◌, sym, ap, subst}
use Rattle.std.proofs.lemmas.Result.{IfOk-weaker}
use Rattle.cr_syntax.specs.Words.{AreSpans}
use Rattle.cr_check_types.specs.Types.{type_at, unknown}
use Rattle.cr_check.specs.declared.checked.Checked.{Checked}
use Rattle.cr_typed_unit.specs.Made.{statics_in}
use Rattle.cr_typed_unit.proofs.Made.{assembled_of}
use Rattle.cr_typed_unit.proofs.typing.assembled.Goals as goal

pub made-requires-clause-spans : goal.made-requires-clause-spans
made-requires-clause-spans c =
    let bytes = c.from_vec-bytes.ensures ∙ c.in_ok-to_vec.ensures.items_if_clones_equal (λ x y same. same) in
    subst (λ file. AreSpans file c.args.unit.tokens.list.items) (sym bytes) c.requires.spans

pub made-requires-clause-first : goal.made-requires-clause-first
made-requires-clause-first c =
    subst (λ (j : Checked). type_at j.table 0 ≡ unknown) (sym c.texts_of-texts.ensures.rest) c.requires.sound.is.whole.none

pub returns-clause-assembled : goal.returns-clause-assembled
returns-clause-assembled c =
    let sound = c.requires.sound in
    let rest = c.texts_of-texts.ensures.rest in
    let bytes = c.from_vec-bytes.ensures ∙ c.in_ok-to_vec.ensures.items_if_clones_equal (λ x y same. same) in
    let statics = c.as_slice.ensures.value ∙ c.in_ok-statics.ensures.column sound.tree sound.is.whole.tree
    ∙ sym (ap (λ (j : Checked). statics_in sound.tree j.whole.typing.specified) rest) in
    IfOk-weaker c.made.result _ _
    (λ typed. assembled_of c.args.file.now _ c.args.unit c.args.names.now c.args.checked.now _ _ typed sound bytes c.texts_of-texts.ensures.texts rest)
    (c.made.ensures sound.tree statics)
