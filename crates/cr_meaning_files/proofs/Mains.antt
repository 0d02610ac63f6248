-- `main` is a definition, whose body is reached (C11 5.1.2.2.1).
use Rattle.std.proofs.Common.{◌≡◌, ℕ, true, false, List, [], Option, None, Some, length, slice_get, refl, sym, ap, subst, ◌∙◌, arith, if◌then◌else◌}
use Rattle.std.proofs.lemmas.Bool.{and_parts, false≢true, or_right}
use Rattle.std.proofs.lemmas.Option.{slice_get_within}
use Rattle.cr_ints.specs.declared.kind.IntKind.TheVariants.{Int as IntegerKind}
use Rattle.cr_syntax.specs.declared.node.Kind.{Kind}
use Rattle.cr_syntax.specs.declared.node.Kind.TheVariants as kind
use Rattle.cr_syntax.specs.declared.node.Node.{Node}
use Rattle.cr_syntax.specs.Tables.{rule_of, side_of}
use Rattle.cr_syntax_nodes.specs.Nodes.{least}
use Rattle.cr_scopes_events.specs.Scripts as scripts
use Rattle.cr_check_enclosing.specs.declared.context.Around.{Around}
use Rattle.cr_check_enclosing.specs.Around.{inside}
use Rattle.cr_check_expressions.specs.Forms.{form_of}
use Rattle.cr_typed.specs.declared.typed.Typed.{Typed}
use Rattle.cr_typed_columns.specs.Reading.{parsed_of}
use Rattle.cr_typed_columns.specs.Entities.{is_definition as is_definition_if}
use Rattle.cr_typed_columns.specs.Functions as functions
use Rattle.cr_meaning.specs.declared.op.Form.{Form}
use Rattle.cr_meaning.specs.declared.op.Form.TheVariants as form
use Rattle.cr_meaning_operations.specs.Operations.{kind_if, kind_at, part_at, is_name, name_of, nodes_from, is_static_initialiser}
use Rattle.cr_meaning_typing.specs.Typed.Typing.{is_expression}
use Rattle.cr_meaning_typing.specs.Typed.Placed.{exits_in}
use Rattle.cr_meaning_soundness.specs.Statements.{of_function}
use Rattle.cr_meaning_typing.specs.Sorts.Table.{labels_of, result_of, exits_at}
use Rattle.cr_meaning_declarations.specs.Declared.Files.{IsUnitOfFile}
use Rattle.cr_meaning_declarations.proofs.DeclaredLemmas.Files.{has_unit}
use Rattle.cr_meaning_declarations.proofs.LastingLemmas.Firsts.{name_here}
use Rattle.cr_meaning_objects.proofs.MainsLemmas.Mains.{main_is}
use Rattle.cr_meaning_typing.proofs.WholeLemmas.Whole.{is_initialiser}
use Rattle.cr_meaning_typing.specs.Whole.Statements.{is_statement}
use Rattle.cr_meaning_typing.specs.Sorts.Founded.{is_followed}
use Rattle.cr_meaning_files.specs.Reached.{is_definition, is_block, is_run_kind, is_reached}
use Rattle.cr_meaning_references.proofs.TreesLemmas.Grammar.{part_in, Stands}
use Rattle.cr_meaning_references.proofs.TreesLemmas.Tree.{HasPart, has_part, as_part, needed}
use Rattle.cr_meaning_files.proofs.Living.{starts, body_lives, reach, unfollowed}
use Rattle.cr_meaning_files.specs.Files.{judgement_of}
use Rattle.cr_meaning_files.proofs.Laid.{around_at}

only_definition : (o : Option Kind) → is_definition_if o ≡ true → o ≡ Some kind.FunctionDefinition
only_definition None e = absurd (false≢true e)
only_definition (Some k) e = by k e
  where
    by : (k : Kind) → is_definition_if (Some k) ≡ true → Some k ≡ Some kind.FunctionDefinition
    by kind.FunctionDefinition e = refl
    by k e = absurd (false≢true e)

pub body_only : (c : Kind) → Stands (part_in (side_of kind.FunctionDefinition) 2) c → c ≡ kind.Compound
unfolding rule_of
body_only kind.Compound h = refl
body_only c h = absurd (false≢true h)

pub definition_counts : least (side_of kind.FunctionDefinition) ≡ 3
unfolding rule_of
definition_counts = refl

starts_kind : (t : Typed) (a : ℕ) (k : Kind) → is_static_initialiser t a k ≡ true → (is_statement k ≡ true) × (is_followed k ≡ false)
starts_kind t a kind.InitDeclarator e = (refl, refl)
starts_kind t a k e = absurd (false≢true e)

-- a body gives what its function gives
inside_function : (labels : Option ℕ → List ℕ) (result : Option ℕ → Form) (definition : ℕ) (a : Around) → labels None ≡ []
    → exits_in labels result (inside kind.FunctionDefinition definition a) ≡ of_function (result (Some definition))
unfolding inside
inside_function labels result definition a e = λ k. record { breaks = false; continues = false; labels = e k; result = result (Some definition) }

pub names_here : (t : Typed) (i : ℕ) → kind_at t i ≡ kind.NameDeclarator → name_of t i ≡ i
names_here t i e = by (slice_get t.nodes i) refl
  where
    by : (o : Option Node) → slice_get t.nodes i ≡ o → name_of t i ≡ i
    by None at = absurd (false≢true (ap is_name (sym (ap kind_if at) ∙ e)))
    by (Some n) at = let within = slice_get_within t.nodes i n at in name_here t (length t.nodes) i (omega (arith, within)) (ap is_name e)

module _ (file : List ℕ) (t : Typed) (it : IsUnitOfFile file t) where
  open it use {made_by}
  open has_unit file t it use {unit as u}

  -- ---- initialisers of static objects

  pub initialisers_run : (k a : ℕ) → slice_get (nodes_from (is_static_initialiser t) 0 t.nodes) k ≡ Some a → is_reached t a ≡ true
  initialisers_run k a e =
      let own = is_initialiser t k a e in
      let both = starts_kind t a (kind_at t a) own in
      reach t u a (starts t u a own) (or_right (is_expression (form_of (kind_at t a))) (is_statement (kind_at t a)) both.0) (unfollowed t u a both.1)

  -- ---- main

  pub main_defined : kind_at t t.main ≡ kind.FunctionDefinition
  main_defined =
      let defined = only_definition (scripts.kind_at it.unit.nodes (functions.main_of file (parsed_of it.unit))) (and_parts _ _ (main_is file t it)).0 in
      ap (kind_at t) made_by.elaborated.main ∙ of_kind (slice_get t.nodes (functions.main_of file (parsed_of it.unit))) (ap (λ ns. scripts.kind_at ns (functions.main_of file (parsed_of it.unit))) made_by.elaborated.nodes_are ∙ defined)
    where
      of_kind : (o : Option Node) → scripts.kind_if o ≡ Some kind.FunctionDefinition → kind_if o ≡ kind.FunctionDefinition
      of_kind None e = absurd (cc e)
      of_kind (Some n) e = cc e

  -- ---- the body of a definition

  module _ (d : ℕ) (defines : kind_at t d ≡ kind.FunctionDefinition) where
    abbrev own : ℕ
    own = part_at t d 2

    pub body_at : HasPart t u d 2 own
    body_at = has_part t u d 2 own (needed t u d 2 kind.FunctionDefinition defines refl (let three = definition_counts in omega (arith, three)))

    pub block_at : kind_at t own ≡ kind.Compound
    block_at = body_only (kind_at t own) (subst (λ c. Stands (part_in (side_of c) 2) (kind_at t own)) defines body_at.stands)

    pub reached_at : is_reached t own ≡ true
    reached_at =
        reach t u own (body_lives t u own d (as_part t u d 2 own body_at) (ap is_definition defines) (ap is_block block_at)) (ap is_run_kind block_at) (unfollowed t u own (ap is_followed block_at))

    -- it gives what the function does
    pub exits_of : exits_at t (judgement_of file t it) own ≡ of_function (result_of t (judgement_of file t it) (Some d))
    exits_of =
        let j = judgement_of file t it in
        ap (λ k. if is_static_initialiser t own k then of_function (form.Number IntegerKind) else exits_in (labels_of t j) (result_of t j) (j.around own)) block_at
        ∙ ap (exits_in (labels_of t j) (result_of t j)) (around_at file t it d 2 own body_at ∙ ap (λ k. inside k d (j.around d)) defines)
        ∙ inside_function (labels_of t j) (result_of t j) d (j.around d) refl

  pub body_kind : kind_at t (part_at t t.main 2) ≡ kind.Compound
  body_kind = block_at t.main main_defined

  pub body_runs : is_reached t (part_at t t.main 2) ≡ true
  body_runs = reached_at t.main main_defined

  pub body_exits : result_of t (judgement_of file t it) (Some t.main) ≡ form.Number IntegerKind → exits_at t (judgement_of file t it) (part_at t t.main 2) ≡ of_function (form.Number IntegerKind)
  body_exits e = exits_of t.main main_defined ∙ ap of_function e
