-- A call goes on with the body of the definition that is called, for which it enters the parameters (C11 6.5.2.2, 6.9.1).
use Rattle.std.specs.Prelude.{codes}
use Rattle.std.proofs.Common.{◌≡◌, ℕ, suc, ◌==◌, Bool, true, false, List, [], ◌∷◌, None, Some, length, drop, map, slice_get, slice_index_or, refl, sym, subst, ap, ◌∙◌, if◌then◌else◌}
use Rattle.std.proofs.lemmas.Bool.{eqb-true}
use Rattle.cr_ints.specs.declared.kind.IntKind.TheVariants.{Int as IntegerKind}
use Rattle.cr_syntax.specs.declared.node.Kind.TheVariants as kind
use Rattle.cr_check_expressions.specs.Forms.{form_of}
use Rattle.cr_check_expressions.specs.Known.{Signature}
use Rattle.cr_typed.specs.declared.typed.Typed.{Typed}
use Rattle.cr_meaning.specs.World.{Program}
use Rattle.cr_meaning.specs.declared.op.Form.TheVariants as form
use Rattle.cr_meaning.specs.declared.op.Parameter.{Parameter}
use Rattle.cr_meaning.specs.declared.op.Callee.{Callee}
use Rattle.cr_meaning.specs.declared.op.Callee.TheVariants as callee
use Rattle.cr_meaning_operations.specs.Shapes.{named_type, value_type}
use Rattle.cr_meaning_operations.specs.Operations.{kind_if, kind_at, parts_at, part_at, entity_of, function_in, parameter_of, function_of, calls, is_text, callee_of}
use Rattle.cr_meaning_soundness.specs.Sorts.{statement, IsAmong}
use Rattle.cr_meaning_soundness.specs.Statements.{of_function}
use Rattle.cr_meaning_typing.specs.Typed.Typing.{is_expression}
use Rattle.cr_meaning_declarations.specs.Declared.Files.{IsUnitOfFile}
use Rattle.cr_meaning_declarations.proofs.DeclaredLemmas.Files.{has_unit}
use Rattle.cr_meaning_typing.specs.Calls.Calls.{IsParameter, IsCalled}
use Rattle.cr_meaning_objects.specs.Called.Laws.{IsMeant, IsFitting}
use Rattle.cr_meaning_typing.specs.Sorts.Table.{result_of, expression_sort, exits_at, sort_at, sorts_in}
use Rattle.cr_meaning_files.specs.Reached.{is_definition}
use Rattle.cr_meaning_files.specs.Files.{judgement_of}
use Rattle.cr_meaning_references.proofs.TreesLemmas.Tree.{as_part}
use Rattle.cr_meaning_files.proofs.Mains.{body_at, block_at, reached_at, exits_of}
use Rattle.cr_meaning_files.proofs.Scoped.{IsBodyOf}
use Rattle.cr_meaning_files.proofs.Library.{is_of_library}
use Rattle.cr_meaning_files.proofs.Sight.{same_nodes, parameters_entered}

-- another callee than one of the library is the function that is defined
record IsOf (t : Typed) (definition : ℕ) (parameters : List Parameter) (rest : ℕ) (is_main : Bool) : Type 0 where
  parameters_are : map (parameter_of t) (slice_index_or t.parameters definition []) ≡ parameters
  rest_is : part_at t definition 2 ≡ rest
  main_is : (definition == t.main) ≡ is_main

of_program : (a b c d : Bool) (texts : List Bool) (t : Typed) (definition : ℕ) (parameters : List Parameter) (rest : ℕ) (is_main : Bool)
    → (if a then callee.Printf texts else (if b then callee.Putchar else (if c then callee.Exit else (if d then callee.Abort else function_of t definition)))) ≡ callee.Function parameters rest is_main
    → IsOf t definition parameters rest is_main
of_program true b c d texts t definition parameters rest is_main e = absurd (cc e)
of_program false true c d texts t definition parameters rest is_main e = absurd (cc e)
of_program false false true d texts t definition parameters rest is_main e = absurd (cc e)
of_program false false false true texts t definition parameters rest is_main e = absurd (cc e)
of_program false false false false texts t definition parameters rest is_main e = record { parameters_are = cc e; rest_is = cc e; main_is = cc e }

as_many : (f : ℕ → Parameter) (xs : List ℕ) → length (map f xs) ≡ length xs
as_many f [] = refl
as_many f (x ∷ xs) = ap suc (as_many f xs)

module _ (file : List ℕ) (t : Typed) (it : IsUnitOfFile file t) (i : ℕ) where
  open has_unit file t it use {unit as u}

  abbrev definition : ℕ
  definition = function_in (named_type t (entity_of t i))

  of_call : (parameters : List Parameter) (rest : ℕ) (is_main : Bool) → callee_of t i ≡ callee.Function parameters rest is_main → IsOf t definition parameters rest is_main
  of_call parameters rest is_main e =
      of_program (calls t i (codes "printf")) (calls t i (codes "putchar")) (calls t i (codes "exit")) (calls t i (codes "abort")) (map (λ part. is_text (value_type t part)) (drop 1 (parts_at t i))) t definition parameters rest is_main e

  -- what is meant is a definition
  pub defines_function : IsMeant file t it i definition → kind_at t definition ≡ kind.FunctionDefinition
  defines_function h = ap kind_if h.defines.at ∙ h.body

  pub body_of : (parameters : List Parameter) (rest : ℕ) (is_main : Bool) → callee_of t i ≡ callee.Function parameters rest is_main → kind_at t definition ≡ kind.FunctionDefinition → IsBodyOf t u parameters rest
  body_of parameters rest is_main e defines =
      let own = of_call parameters rest is_main e in
      subst (λ ps. IsBodyOf t u ps rest) own.parameters_are (subst (IsBodyOf t u (map (parameter_of t) (slice_index_or t.parameters definition []))) own.rest_is (record {
        definition = definition;
        part = as_part t u definition 2 (part_at t definition 2) (body_at file t it definition defines);
        defines = ap is_definition defines;
        reached = reached_at file t it definition defines;
        objects = λ x h. subst (IsAmong x) (parameters_entered t definition (part_at t definition 2) defines (block_at file t it definition defines) ∙ sym (same_nodes t (slice_index_or t.parameters definition []))) h;
      }))

  -- its body is a statement that gives what the call does
  module _ (p : Program) where
    body_sort : kind_at t definition ≡ kind.FunctionDefinition
        → sorts_in p t (judgement_of file t it) (part_at t definition 2) ≡ Some (statement (of_function (result_of t (judgement_of file t it) (Some definition))))
    body_sort defines =
        let j = judgement_of file t it in
        ap (λ b. if b then Some (sort_at p t j (part_at t definition 2)) else None) (reached_at file t it definition defines)
        ∙ ap (λ k. Some (if is_expression (form_of k) then expression_sort p t j (part_at t definition 2) else statement (exits_at t j (part_at t definition 2)))) (block_at file t it definition defines)
        ∙ ap (λ e. Some (statement e)) (exits_of file t it definition defines)

    pub called : (signature : Signature) → result_of t (judgement_of file t it) (Some t.main) ≡ form.Number IntegerKind
        → ((c : Callee) → callee_of t i ≡ c → is_of_library c ≡ true → IsCalled p t (sorts_in p t (judgement_of file t it)) signature c)
        → (IsMeant file t it i definition → IsFitting file t it p signature definition)
        → (IsMeant file t it i definition → signature.more ≡ false) → (IsMeant file t it i definition → (k : ℕ) (own : Parameter) → slice_get (map (parameter_of t) (slice_index_or t.parameters definition [])) k ≡ Some own → IsParameter p t signature k own)
        → ((parameters : List Parameter) (rest : ℕ) (is_main : Bool) → callee_of t i ≡ callee.Function parameters rest is_main → IsMeant file t it i definition)
        → (c : Callee) → callee_of t i ≡ c → IsCalled p t (sorts_in p t (judgement_of file t it)) signature c
    called signature main library fitting closed taken meant (callee.Function parameters rest is_main) e =
        let own = of_call parameters rest is_main e in
        let h = meant parameters rest is_main e in
        let fits = fitting h in
        record {
          result = result_of t (judgement_of file t it) (Some definition);
          gives = fits.gives;
          body = ap (sorts_in p t (judgement_of file t it)) (sym own.rest_is) ∙ body_sort (defines_function h);
          main = λ is. ap (λ d. result_of t (judgement_of file t it) (Some d)) (eqb-true definition t.main (own.main_is ∙ is)) ∙ main;
          count = ap length (sym own.parameters_are) ∙ as_many (parameter_of t) (slice_index_or t.parameters definition []) ∙ fits.count;
          closed = closed h;
          each = λ k own_k f. taken h k own_k (ap (λ ps. slice_get ps k) own.parameters_are ∙ f);
        }
    called signature main library fitting closed taken meant c e = library c e refl
