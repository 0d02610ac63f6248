-- What the grammar gives of a file's typed unit: its expressions have their operands, and statements their parts.
use Rattle.std.proofs.Common.{◌≡◌, ℕ, zero, suc, ◌<◌, ◌==◌, Bool, true, false, ◌&&◌, ◌||◌, not, List, Option, None, Some, length, slice_get, slice_index_or, refl, sym, ap, ◌∙◌, arith}
use Rattle.std.proofs.lemmas.Bool.{false≢true, eq-eqb, ne_eqb, eqb-true}
use Rattle.std.proofs.lemmas.Option.{slice_get_within}
use Rattle.cr_syntax.specs.declared.node.Kind.TheVariants as kind
use Rattle.cr_syntax.specs.declared.node.Node.{Node}
use Rattle.cr_syntax.specs.Tables.{side_of}
use Rattle.cr_scopes_events.specs.Scripts as scripts
use Rattle.cr_check_enclosing.specs.Around.{inside, outermost}
use Rattle.cr_check_operands.specs.Values.{seen_at}
use Rattle.cr_check_expressions.specs.Forms.{form_of}
use Rattle.cr_check_expressions.specs.Ruled.{no_fact}
use Rattle.cr_check_expressions.specs.Used.{takes_place, is_valued}
use Rattle.cr_typed.specs.declared.typed.Typed.{Typed}
use Rattle.cr_typed_columns.specs.Reading.{kind_of, part_of}
use Rattle.cr_typed_columns.specs.Expressions.{form_if, is_part, is_filling, seen_of, valued_of}
use Rattle.cr_meaning_operations.specs.Operations.{kind_if, kind_at, parts_at, part_at}
use Rattle.cr_meaning_typing.specs.Typed.Typing.{has_value, is_asked, is_expression}
use Rattle.cr_meaning_typing.specs.Typed.Whole as readable
use Rattle.cr_meaning_typing.proofs.TypedLemmas.Units.{listed_at}
use Rattle.cr_meaning_typing.specs.Judged.Judged.{seen_in, source_of, scene_of, IsJudged}
use Rattle.cr_meaning_typing.proofs.JudgedLemmas.Judged.{judged}
use Rattle.cr_meaning_declarations.proofs.NamesLemmas.Parents.{IsPartOf, one_parent}
use Rattle.cr_meaning_declarations.specs.Declared.Files.{IsUnitOfFile}
use Rattle.cr_meaning_declarations.proofs.DeclaredLemmas.Nodes.{of_unit}
use Rattle.cr_meaning_typing.specs.Sorts.Founded.{IsOperand, AreLaidOut}
use Rattle.cr_meaning_objects.proofs.InitialisedLemmas.Twice.{one_place}
use Rattle.cr_meaning_files.specs.Reached.{is_list, is_listing}
use Rattle.cr_meaning_files.specs.Files.{judgement_of}
use Rattle.cr_meaning_references.proofs.TreesLemmas.Grammar.{part_in, is_of}
use Rattle.cr_meaning_files.proofs.Tables.{counts, counted_there, asked_there}
use Rattle.cr_meaning_references.proofs.TreesLemmas.Tree.{HasPart, has_part, as_part, exactly, needed, operands_read}
use Rattle.cr_meaning_references.proofs.TreesLemmas.Above.{column_above, column_around}
use Rattle.cr_meaning_references.proofs.TreesLemmas.Expressions.{is_expression_part, expression_there, asked, argument}
use Rattle.cr_meaning_files.proofs.Filling.{filling}

module _ (file : List ℕ) (t : Typed) (it : IsUnitOfFile file t) where
  open it use {checked.{checked}, made_by}

  abbrev is : IsJudged t (seen_in checked) (source_of made_by.tree checked) (scene_of made_by.tree checked) checked.surroundings.above checked.surroundings.around
  is = judged file it.unit it.names checked t made_by

  -- the node above a part, by its column
  pub above_at : (a i : ℕ) → IsPartOf t (of_unit file t it) a i → a < i → slice_index_or checked.surroundings.above a None ≡ Some i
  above_at = column_above t (of_unit file t it) checked.surroundings.above checked.surroundings.around is.above_are is.around_are

  -- what a part has from above
  pub around_at : (i k a : ℕ) → HasPart t (of_unit file t it) i k a → slice_index_or checked.surroundings.around a outermost ≡ inside (kind_at t i) i (slice_index_or checked.surroundings.around i outermost)
  around_at = column_around t (of_unit file t it) checked.surroundings.above checked.surroundings.around is.above_are is.around_are

  -- ---- which places are used as values

  -- only the first place of a node's parts is its first part
  first_only : (i k a : ℕ) (n : Node) → slice_get t.nodes i ≡ Some n → slice_get n.parts k ≡ Some a → is_part a (slice_get n.parts 0) ≡ (k == 0)
  first_only i zero a n at e = ap (is_part a) e ∙ eq-eqb a a refl
  first_only i (suc k) a n at e = by (slice_get n.parts 0) refl ∙ sym (ne_eqb (suc k) 0 (λ f. absurd (omega (arith, f))))
    where
      by : (o : Option ℕ) → slice_get n.parts 0 ≡ o → is_part a o ≡ false
      by None f = refl
      by (Some q) f = of_test (q == a) refl
        where
          of_test : (b : Bool) → (q == a) ≡ b → (q == a) ≡ false
          of_test true g = absurd (one_place t (of_unit file t it) i 0 (suc k) a n at (f ∙ ap Some (eqb-true q a g)) e (omega arith))
          of_test false g = g

  seen_same : (a : ℕ) → seen_of made_by.columns (Some a) ≡ seen_in checked a
  seen_same a = λ j. seen_at (made_by.are.table j) (slice_index_or (made_by.are.facts j) a no_fact)

  valued_at : (a : ℕ) → a < length t.nodes → slice_index_or t.valued a false ≡ valued_of it.unit.nodes made_by.columns a
  valued_at a low =
      let count : length t.nodes ≡ length it.unit.nodes = ap length made_by.elaborated.nodes_are in
      ap (λ vs. slice_index_or vs a false) made_by.elaborated.valued ∙ listed_at (valued_of it.unit.nodes made_by.columns) (length it.unit.nodes) a false (omega (arith, low, count))

  -- a place is used as a value, but where its node takes a place
  pub valued_is : (i k a : ℕ) → HasPart t (of_unit file t it) i k a → is_filling made_by.columns a ≡ false
      → slice_index_or t.valued a false ≡ ((seen_in checked a).lvalue && not ((k == 0) && takes_place (form_of (kind_at t i))))
  valued_is i k a h unfilled =
      let part = as_part t (of_unit file t it) i k a h in
      let within = slice_get_within t.nodes i h.node h.at in
      let low = h.below in
      let own : slice_get it.unit.nodes i ≡ Some h.node = ap (λ ns. slice_get ns i) (sym made_by.elaborated.nodes_are) ∙ h.at in
      let first : is_part a (part_of it.unit.nodes (Some i) 0) ≡ (k == 0) = ap (λ o. is_part a (slice_get (scripts.parts_if o) 0)) own ∙ first_only i k a h.node h.at h.is in
      let above : slice_index_or made_by.columns.above.now a None ≡ Some i = ap (λ os. slice_index_or os a None) made_by.are.above ∙ above_at a i part low in
      valued_at a (omega (arith, within, low))
      ∙ (λ j. is_valued (form_if (kind_of it.unit.nodes (above j))) (is_part a (part_of it.unit.nodes (above j) 0)) (seen_same a j) && not (unfilled j))
      ∙ with_true (is_valued (form_if (kind_of it.unit.nodes (Some i))) (is_part a (part_of it.unit.nodes (Some i) 0)) (seen_in checked a))
      ∙ (λ j. is_valued (form_if (scripts.kind_if (own j))) (first j) (seen_in checked a))
      ∙ ap (λ c. (seen_in checked a).lvalue && not ((k == 0) && takes_place (form_of c))) (sym (ap kind_if h.at))
    where
      with_true : (b : Bool) → (b && true) ≡ b
      with_true true = refl
      with_true false = refl

  -- ---- operands

  -- what fills an array is a part of a declarator or a list
  unfilled_at : (i k a : ℕ) → HasPart t (of_unit file t it) i k a → is_listing (kind_at t i) ≡ false → is_filling made_by.columns a ≡ false
  unfilled_at i k a h apart = by (is_filling made_by.columns a) refl
    where
      by : (b : Bool) → is_filling made_by.columns a ≡ b → is_filling made_by.columns a ≡ false
      by true e =
          let f = filling file t it a e in
          let same : i ≡ f.user = one_parent t (of_unit file t it) a i f.user (as_part t (of_unit file t it) i k a h) f.put.part in
          absurd (false≢true (sym apart ∙ ap (λ x. is_listing (kind_at t x)) same ∙ f.put.lists))
      by false e = e

  -- an expression among a node's parts, but for an initialiser
  pub operand_at : (i k a : ℕ) → is_listing (kind_at t i) ≡ false → is_expression (form_of (kind_at t a)) ≡ true → slice_get (parts_at t i) k ≡ Some a → IsOperand t (judgement_of file t it) i k a
  operand_at i k a apart told e =
      let h = has_part t (of_unit file t it) i k a e in
      let unfilled = unfilled_at i k a h apart in
      record { is = e; below = h.below; expression = told; valued = valued_is i k a h unfilled; unfilled = unfilled }

  pub operand : (i k a : ℕ) → is_listing (kind_at t i) ≡ false → is_of is_expression_part (part_in (side_of (kind_at t i)) k) ≡ true → slice_get (parts_at t i) k ≡ Some a
      → IsOperand t (judgement_of file t it) i k a
  operand i k a apart told e =
      operand_at i k a apart (expression_there (part_in (side_of (kind_at t i)) k) (kind_at t a) told (has_part t (of_unit file t it) i k a e).stands) e

  asked_operand : (i k : ℕ) → is_asked (form_of (kind_at t i)) k ≡ true → (a : ℕ) × IsOperand t (judgement_of file t it) i k a
  asked_operand i k h =
      let c = kind_at t i in
      let told = asked c k h in
      let apart = asked_there c k h in
      (part_at t i k, operand i k (part_at t i k) apart.1 told.0 (needed t (of_unit file t it) i k c refl apart.0 told.1))

  arguments : (i k a : ℕ) → kind_at t i ≡ kind.Call → slice_get (parts_at t i) k ≡ Some a → IsOperand t (judgement_of file t it) i k a
  arguments i k a call e = operand i k a (ap is_listing call) (ap (λ c. is_of is_expression_part (part_in (side_of c) k)) call ∙ argument k) e

  -- the operands of an expression, as its rule reads them
  pub read_operand : (i : ℕ) (n : Node) → slice_get t.nodes i ≡ Some n → (k : ℕ) → is_asked (form_of n.kind) k ≡ true → readable.IsOperand t.nodes i n.parts k
  read_operand = operands_read t (of_unit file t it)

  no_value : (b : Bool) (f : Bool) → f ≡ true → (b && not f) ≡ false
  no_value true true e = refl
  no_value false true e = refl
  no_value b false e = absurd (false≢true e)

  filled : (worth : (i : ℕ) → is_expression (form_of (kind_at t i)) ≡ true → has_value (seen_in checked i).type ≡ true) → (i : ℕ) → is_filling made_by.columns i ≡ true
      → (kind_at t i ≡ kind.Text) × (slice_index_or t.valued i false ≡ false)
  filled worth i e =
      let f = filling file t it i e in
      let expression = either_one (is_expression (form_of (kind_at t i))) (is_list (kind_at t i)) f.put.kinds f.single in
      let low = f.put.low in
      let within = slice_get_within t.nodes f.user f.put.part.parent f.put.part.at in
      (f.text (worth i expression), valued_at i (omega (arith, low, within)) ∙ no_value _ (is_filling made_by.columns i) e)
    where
      either_one : (a b : Bool) → (a || b) ≡ true → b ≡ false → a ≡ true
      either_one true b h g = refl
      either_one false b h g = absurd (false≢true (sym g ∙ h))

  pub laid_out : ((i : ℕ) → is_expression (form_of (kind_at t i)) ≡ true → has_value (seen_in checked i).type ≡ true) → AreLaidOut t (judgement_of file t it)
  laid_out worth = record {
    counts = λ i m e. let both = counts (kind_at t i) m e in exactly t (of_unit file t it) i (kind_at t i) m refl (counted_there (kind_at t i) m e) both.0 both.1;
    operands = asked_operand;
    arguments = arguments;
    filled = filled worth;
  }
