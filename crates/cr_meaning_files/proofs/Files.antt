-- What the grammar and the check give of a file's unit isn't premised.
use Rattle.std.proofs.Common.{◌≡◌, ℕ, ℤ, ◌<◌, ◌^◌, Bool, true, false, Option, None, Some, List, [], map, ◌⊎◌, inl, inr, refl, sym, ap, subst, ◌∙◌, slice_get, slice_index_or, arith, if◌then◌else◌}
use Rattle.std.proofs.lemmas.Bool.{false≢true}
use Rattle.cr_ints.specs.declared.kind.IntKind.TheVariants.{Int as IntegerKind}
use Rattle.cr_ints.specs.IntKind.{Represents}
use Rattle.cr_syntax.specs.declared.node.Kind.{Kind}
use Rattle.cr_syntax.specs.declared.node.Kind.TheVariants as kind
use Rattle.cr_syntax.specs.declared.node.Node.{Node}
use Rattle.cr_scopes_visibility.specs.Sight.Scopes.{is_using}
use Rattle.cr_check_types.specs.declared.layout.Layout.{Layout}
use Rattle.cr_check_types.specs.Types.{Qualified, type_at}
use Rattle.cr_check_types.specs.Relations.{is_complete_at}
use Rattle.cr_check_types.specs.Layouts.{layout_of}
use Rattle.cr_check_constants.specs.declared.constant.Operand.{Operand}
use Rattle.cr_check_constants.specs.Literals.{integer_of, character_of}
use Rattle.cr_check_constants.specs.Operators.{size_of}
use Rattle.cr_check_operands.specs.Values.{Seen, number as a_number}
use Rattle.cr_check_operands.specs.Rules.{size_value, with_qualifiers_of}
use Rattle.cr_check_operands.specs.Places.{member_of}
use Rattle.cr_check_expressions.specs.declared.known.Declared.{Declared}
use Rattle.cr_check_expressions.specs.declared.known.Declared.TheVariants.{Object, Enumerator, Function, TypeName, Unclear}
use Rattle.cr_check_expressions.specs.Known.{Signature, a_function, an_enumerator, meaning_by}
use Rattle.cr_check_expressions.specs.Forms.{form_of}
use Rattle.cr_check_expressions.specs.Ruled.{given, literal, is_type, complete, operand, sized, ruled}
use Rattle.cr_check_constant_values.specs.Ranges.Laws.{IsInRange}
use Rattle.cr_check_constant_values.proofs.RangesLemmas.Ranges.{integers, characters, sizes}
use Rattle.cr_typed.specs.declared.typed.Typed.{Typed}
use Rattle.cr_meaning.specs.World.{Program}
use Rattle.cr_meaning.specs.declared.op.Parameter.{Parameter}
use Rattle.cr_meaning.specs.declared.op.Callee.TheVariants.{Function}
use Rattle.cr_meaning.specs.declared.run.Limits.{Limits}
use Rattle.cr_meaning_soundness.specs.Sorts.{Sort}
use Rattle.cr_meaning_operations.specs.Shapes.{type_of_node, named_type, kind_in}
use Rattle.cr_meaning_operations.specs.Operations.{kind_if, kind_at, parts_if, parts_at, pointed, left_type, name_of, entity_of, function_in, parameter_of, callee_of, is_static_initialiser, op_of, program_of}
use Rattle.cr_meaning_typing.specs.Typed.Placed.{IsNamed}
use Rattle.cr_meaning_typing.specs.Typed.Typing.{has_value, is_asked, is_expression}
use Rattle.cr_meaning_typing.specs.Typed.Whole as readable
use Rattle.cr_meaning_typing.proofs.TypedLemmas.Units.{all_worth}
use Rattle.cr_meaning_typing.proofs.TypedLemmas.Worth.{worth_typed}
use Rattle.cr_meaning_typing.specs.Judged.Judged.{seen_in, source_of, scene_of, IsJudged}
use Rattle.cr_meaning_typing.proofs.JudgedLemmas.Judged.{judged}
use Rattle.cr_meaning_declarations.specs.Declared.Files.{IsUnitOfFile}
use Rattle.cr_meaning_typing.specs.Calls.Calls.{IsParameter}
use Rattle.cr_meaning_typing.specs.Expressions.Places.{HasCells, IsMemberIn}
use Rattle.cr_meaning_typing.specs.Sorts.Table.{Judgement, sort_at, sorts_in}
use Rattle.cr_meaning_typing.specs.Sorts.Founded.{is_known, is_followed, IsFound, AreInRange, AreReached, AreCalls}
use Rattle.cr_meaning_typing.specs.Whole.Statements.{BlocksRise, IsIn, IsInitialised, IsFounded}
use Rattle.cr_meaning_typing.specs.Whole.Whole.{IsReady}
use Rattle.cr_meaning_typing.proofs.WholeLemmas.Around.{rise}
use Rattle.cr_meaning_typing.proofs.WholeLemmas.Statements.{nodes}
use Rattle.cr_meaning_declarations.proofs.DeclaredLemmas.Runs.{files_run_alike}
use Rattle.cr_meaning_declarations.proofs.DeclaredLemmas.Files.{has_unit}
use Rattle.cr_meaning_declarations.proofs.DeclaredLemmas.Nodes.{of_unit}
use Rattle.cr_meaning_typing.proofs.WholeLemmas.Whole.{outcomes, typed}
use Rattle.cr_meaning_files.specs.Reached.{is_item, is_definition, is_reached}
use Rattle.cr_meaning_files.specs.Seen.{sees}
use Rattle.cr_meaning_files.specs.Local.{is_object_by}
use Rattle.cr_typed.specs.declared.typed.Duration.TheVariants as duration
use Rattle.cr_meaning_files.specs.Files.{judgement_of, AreRead, AreVisible, FilesHaveOutcomes, FilesAreWellTyped, FixedFilesRunAlike}
use Rattle.cr_meaning_files.specs.Laws.{IsTold, AreTold, AreClosed, AreWorth, EnumeratorsAreNumbers, MainsAreDefined, LabelsStandAround, DeclaratorsSeeObjects, EarlyNamesLast, ObjectsHaveWholeCells, NodesNameWholeCells, PlacesNameObjects}
use Rattle.cr_meaning_files.proofs.Laid.{read_operand, laid_out}
use Rattle.cr_meaning_files.proofs.Living.{reached_lives}
use Rattle.cr_meaning_files.proofs.Reaching.{reached}
use Rattle.cr_meaning_files.proofs.Functions.{function_there}
use Rattle.cr_meaning_files.proofs.Standing.{statements}
use Rattle.cr_meaning_files.proofs.Enumerators.{IsNumbered, numbered_by, named_number}
use Rattle.cr_meaning_files.proofs.Calls.{call_names, call_clear, text_there}
use Rattle.cr_meaning_files.proofs.Library.{library_called}
use Rattle.cr_meaning_files.proofs.Results.{function_gives, returned_given}
use Rattle.cr_meaning_files.proofs.Followed.{followed_type}
use Rattle.cr_meaning_objects.specs.Called.Laws.{IsMeant}
use Rattle.cr_meaning_files.proofs.Objects.{has_cells, names_cells}
use Rattle.cr_meaning_files.proofs.Defined.{define}
use Rattle.cr_meaning_objects.proofs.CalledLemmas.Fitting.{fitting}
use Rattle.cr_meaning_objects.proofs.CalledLemmas.Objects.{objects as parameters_taken}
use Rattle.cr_meaning_objects.proofs.ClosedLemmas.Closed.{calls_closed}
use Rattle.cr_meaning_objects.proofs.ObjectsLemmas.Statics.{static_first}
use Rattle.cr_meaning_files.proofs.Declared.{types_known, read, members_whole}
use Rattle.cr_meaning_files.proofs.Returns.{result}
use Rattle.cr_meaning_files.proofs.Members.{chosen_type, member_chosen, pointed_chosen}
use Rattle.cr_meaning_files.proofs.Made.{complete_whole, whole_object, member_in}
use Rattle.cr_meaning_files.proofs.Apart.{among}
use Rattle.cr_meaning_files.proofs.Mains.{initialisers_run, names_here, main_defined, body_kind, body_runs, body_exits}
use Rattle.cr_meaning_files.proofs.Scoped.{IsScoped, AllReached, IsBodyOf, by_kind}
use Rattle.cr_meaning_files.proofs.Sight.{declarators, initialised, literals, seen}
use Rattle.cr_meaning_files.proofs.Lasting.{initialised_lasts}
use Rattle.cr_meaning_files.proofs.Entered.{named_seen}
use Rattle.cr_meaning_files.proofs.Outside.{told_once}
use Rattle.cr_meaning_files.proofs.Early.{early_lasts, automatic_late}
use Rattle.cr_meaning_files.proofs.Mentioned.{mentioned_named, mentioned_object}
use Rattle.cr_meaning_files.proofs.Received.{received_named, received_object}
use Rattle.cr_meaning_files.specs.Celled.{SeesDeclared, SeesParameter}
use Rattle.cr_meaning_files.proofs.Designated.{places}
use Rattle.cr_meaning_files.proofs.Initialised.{initialises}
use Rattle.cr_meaning_files.proofs.Started.{definition_item, main_has, gives}
use Rattle.cr_meaning_files.proofs.Callees.{body_of, called, defines_function}
use Rattle.cr_meaning_files.proofs.Passed.{passed_types}
use Rattle.cr_meaning_files.proofs.Labels.{gotos}
use Rattle.cr_meaning_files.proofs.Named.{only_definition}

-- a constant that is spelled has the operand of its spelling
spelled : (o : Option Operand) (x : Operand) (own : Seen) → own ≡ given (literal o) → own ≡ given (a_number x) → ((y : Operand) → o ≡ Some y → IsInRange y) → IsInRange x
spelled None x own e f h v g = absurd (false≢true (ap (λ (s : Seen). is_type s.type) (sym e ∙ f)))
spelled (Some y) x own e f h v g =
    let both = sym f ∙ e in
    let kinds : x.kind ≡ y.kind = ap (λ (s : Seen). kind_in s.type) both in
    let values : x.constant ≡ y.constant = ap (λ (s : Seen). s.constant) both in
    subst (λ k. Represents k v) (sym kinds) (h y refl v (sym values ∙ g))

-- what gives a size is a constant that is spelled, where the type is complete
abbrev size_if : Bool → ℕ → Option Operand
size_if complete bytes = if complete then Some (size_of bytes) else None

sized_is : (complete : Bool) (bytes : ℕ) → size_value complete bytes ≡ literal (size_if complete bytes)
sized_is true bytes = refl
sized_is false bytes = refl

size_is : (complete : Bool) (bytes : ℕ) (y : Operand) → size_if complete bytes ≡ Some y → bytes < 2 ^ 64 → IsInRange y
size_is true bytes y e low = let same : size_of bytes ≡ y = cc e in subst IsInRange same (sizes bytes low)
size_is false bytes y e low = absurd (cc e)

-- a type's size counts as one that 64 bits hold
size_fits : (layouts : List Layout) (type : Qualified) → (layout_of layouts type).size < 2 ^ 64
size_fits layouts type = omega arith

-- an enumerator is that of its declaration
enumerator_is : (look : ℕ → Qualified) (rows : List ℕ) (d : Declared) (v : ℤ) → IsNumbered d → meaning_by look rows d ≡ an_enumerator v → Represents IntegerKind v
enumerator_is look rows (Object row register) v h e = absurd (cc e)
enumerator_is look rows (Enumerator w) v h e = let same : w ≡ v = cc e in subst (Represents IntegerKind) same h
enumerator_is look rows (Function row more) v h e = absurd (cc e)
enumerator_is look rows TypeName v h e = absurd (cc e)
enumerator_is look rows Unclear v h e = absurd (cc e)

followed_expression : (k : Kind) → is_followed k ≡ true → is_expression (form_of k) ≡ true
followed_expression kind.Dereference h = refl
followed_expression kind.Subscript h = refl
followed_expression k h = absurd (false≢true h)

definition_there : (t : Typed) (d : ℕ) → is_definition (kind_at t d) ≡ true → (n : Node) × ((slice_get t.nodes d ≡ Some n) × (n.kind ≡ kind.FunctionDefinition))
definition_there t d h = by (slice_get t.nodes d) refl
  where
    by : (o : Option Node) → slice_get t.nodes d ≡ o → (n : Node) × ((slice_get t.nodes d ≡ Some n) × (n.kind ≡ kind.FunctionDefinition))
    by None at = absurd (false≢true (ap (λ o. is_definition (kind_if o)) (sym at) ∙ h))
    by (Some n) at = (n, (at, only_definition n.kind (ap (λ o. is_definition (kind_if o)) (sym at) ∙ h)))

module _ (file : List ℕ) (t : Typed) (it : IsUnitOfFile file t) where
  open it use {checked.{checked}, made_by}
  open has_unit file t it use {tree_nodes as nodes_are}

  abbrev is : IsJudged t (seen_in checked) (source_of made_by.tree checked) (scene_of made_by.tree checked) checked.surroundings.above checked.surroundings.around
  is = judged file it.unit it.names checked t made_by

  -- ---- values

  read_by : AreRead file t it → readable.AreReadable made_by.tree checked.texts checked.table checked.whole.typing
  read_by reads = record {
    operands = λ i n at k asked. subst (λ ns. readable.IsOperand ns i n.parts k) (sym nodes_are) (read_operand file t it i n (ap (λ ns. slice_get ns i) (sym nodes_are) ∙ at) k asked);
    reads = reads;
  }

  worth : AreRead file t it → (i : ℕ) → is_expression (form_of (kind_at t i)) ≡ true → has_value (seen_in checked i).type ≡ true
  worth reads i e = of_node (slice_get t.nodes i) refl e
    where
      of_node : (o : Option Node) → slice_get t.nodes i ≡ o → is_expression (form_of (kind_if o)) ≡ true → has_value (seen_in checked i).type ≡ true
      of_node None at x = absurd (false≢true x)
      of_node (Some n) at x =
          all_worth made_by.tree checked.texts checked.table checked.whole.typing made_by.is.whole.typing (λ b broken. made_by.sound.constraints b (inl broken)) (read_by reads) i n
          (ap (λ ns. slice_get ns i) nodes_are ∙ at) x

  told : IsTold file t it
  told = record { expressions = λ reads. laid_out file t it (worth reads); statements = statements file t it }

  closed : AreReached t (judgement_of file t it)
  closed = reached t (of_unit file t it) (judgement_of file t it) (λ a. refl)

  blocks : BlocksRise t (judgement_of file t it)
  blocks b c e = rise t.nodes checked.surroundings.above checked.surroundings.around is.around_are b c e

  -- ---- constants and enumerators

  enumerators : (i node : ℕ) (v : ℤ) → (source_of made_by.tree checked i).stands node ≡ an_enumerator v → Represents IntegerKind v
  enumerators i node v e =
      enumerator_is (type_at checked.table) _ _ v
      (numbered_by made_by.tree checked.texts checked.table checked.whole.typing made_by.is.whole.typing i (slice_index_or made_by.tree.visible.now node None)) e

  -- what is named as a place is an object of the program, of a declaration or of a parameter
  visible : (limits : Limits) → AreVisible (program_of t limits) t (judgement_of file t it)
  visible limits i n r at identifier l = by (places file t it i n at identifier l (told_once file t it i n at (ap is_using identifier) r))
    where
      by : SeesDeclared file t it i n.first ⊎ SeesParameter file t it n.first → IsNamed (program_of t limits) t i × (is_object_by (slice_index_or t.durations (entity_of t i) duration.NoObject) ≡ true)
      by (inl s) = (
        mentioned_named file t it i n at identifier (told_once file t it i n at (ap is_using identifier) r) l s (members_whole file t it) (worth (read file t it)) limits,
        mentioned_object file t it i n at identifier (told_once file t it i n at (ap is_using identifier) r) l s,
      )
      by (inr s) = (
        received_named file t it i n at identifier r l s (members_whole file t it) limits
            (ap has_value (is.columns.types i) ∙ worth (read file t it) i (ap (λ k. is_expression (form_of k)) (ap kind_if at ∙ identifier))),
        received_object file t it i n at identifier r l s,
      )

  module _ (limits : Limits) (few : limits.output < 2 ^ 31) where
    abbrev j : Judgement
    j = judgement_of file t it

    abbrev p : Program
    p = program_of t limits

    ranged : AreInRange t (judgement_of file t it)
    ranged i x v r known e f = of_kind (kind_at t i) refl known
      where
        there : (n : Node) × (slice_get t.nodes i ≡ Some n)
        there = closed.there i r

        rule : (k : Kind) → kind_at t i ≡ k → seen_in checked i ≡ ruled (form_of k) (seen_in checked) (source_of made_by.tree checked i) i there.0
        rule k same = is.ruled i there.0 there.1 ∙ ap (λ k. ruled (form_of k) (seen_in checked) (source_of made_by.tree checked i) i there.0) (sym (ap kind_if there.1) ∙ same)

        of_size : (type : Qualified) → seen_in checked i ≡ given (sized (source_of made_by.tree checked i) i type) → Represents x.kind v
        of_size type own =
            let source = source_of made_by.tree checked i in
            let bytes = (layout_of source.layouts type).size in
            let known = complete source i type in
            spelled (size_if known bytes) x (seen_in checked i) (own ∙ ap given (sized_is known bytes)) e (λ y q. size_is known bytes y q (size_fits source.layouts type)) v f

        of_kind : (k : Kind) → kind_at t i ≡ k → is_known k ≡ true → Represents x.kind v
        of_kind kind.Integer same h =
            spelled (integer_of ((source_of made_by.tree checked i).spelling there.0.first)) x (seen_in checked i) (rule kind.Integer same) e (λ y q. integers ((source_of made_by.tree checked i).spelling there.0.first) y q) v f
        of_kind kind.Character same h =
            spelled (character_of ((source_of made_by.tree checked i).spelling there.0.first)) x (seen_in checked i) (rule kind.Character same) e (λ y q. characters ((source_of made_by.tree checked i).spelling there.0.first) y q) v f
        of_kind kind.Identifier same h =
            named_number (type_at checked.table) _ _ x v
            (numbered_by made_by.tree checked.texts checked.table checked.whole.typing made_by.is.whole.typing i (slice_index_or made_by.tree.visible.now i None))
            (sym (rule kind.Identifier same) ∙ e) f
        of_kind kind.SizeofExpression same h = of_size (operand (seen_in checked) there.0.parts 0).type (rule kind.SizeofExpression same)
        of_kind kind.SizeofType same h = of_size ((source_of made_by.tree checked i).named (slice_get there.0.parts 0)) (rule kind.SizeofType same)
        of_kind k same h = absurd (false≢true h)

    -- a call of a function of the unit's own means its definition (K40)
    meant : (i : ℕ) → is_reached t i ≡ true → kind_at t i ≡ kind.Call → (signature : Signature) → (source_of made_by.tree checked i).stands i ≡ a_function signature
        → (parameters : List Parameter) (rest : ℕ) (is_main : Bool) → callee_of t i ≡ Function parameters rest is_main → IsMeant file t it i (function_in (named_type t (entity_of t i)))
    meant i r e signature stands parameters rest is_main same =
        let n = closed.there i r in
        let is = sym (ap kind_if n.1) ∙ e in
        define file t it i n.0 n.1 is (told_once file t it i n.0 n.1 (ap is_using is) r) signature stands parameters rest is_main same

    calls : AreCalls (program_of t limits) t (judgement_of file t it)
    calls i r e =
        let n = closed.there i r in
        let named = call_names file t it (read file t it) i n.0 n.1 (sym (ap kind_if n.1) ∙ e) in
        let rule = is.ruled i n.0 n.1 in
        let returned = function_gives made_by.tree checked.texts checked.table checked.whole.typing made_by.is.whole.typing (λ b broken. made_by.sound.constraints b (inl broken)) i (slice_index_or made_by.tree.visible.now i None) _ named.0 named.1.0 in
        let is = sym (ap kind_if n.1) ∙ e in
        let clear = call_clear file t it (read file t it) i n.0 n.1 is named.0 named.1.0 in
        let library = library_called file t it i n.0 n.1 is (program_of t limits) (sorts_in (program_of t limits) t (judgement_of file t it)) named.0 named.1.0 clear in
        let given = returned_given named.0.gives returned named.1.1 in
        let definition = function_in (named_type t (entity_of t i)) in
        let typed = worth_typed (seen_in checked i).type (worth (read file t it) i (ap (λ k. is_expression (form_of k)) e)) in
        let worths : (k a : ℕ) → slice_get n.0.parts k ≡ Some a → has_value (seen_in checked a).type ≡ true = λ k a f.
        worth (read file t it) a ((told.expressions (read file t it)).arguments i k a e (ap (λ o. slice_get (parts_if o) k) n.1 ∙ f)).expression in
        let takes_no_more : IsMeant file t it i definition → named.0.more ≡ false = λ h.
        let own = definition_item file t it definition h.own h.defines.at h.body in
        calls_closed file t it i definition own.0 named.0 named.1.0 h own.1 in
        let taken : IsMeant file t it i definition → (k : ℕ) (own : Parameter) → slice_get (map (parameter_of t) (slice_index_or t.parameters definition [])) k ≡ Some own
        → IsParameter (program_of t limits) t named.0 k own = λ h k own f.
        parameters_taken file t it limits i definition named.0 named.1.0 h
        (passed_types named.0 (seen_in checked) (source_of made_by.tree checked i) i n.0 (rule ∙ ap (λ c. ruled (form_of c) (seen_in checked) (source_of made_by.tree checked i) i n.0) is) named.1.0 typed (takes_no_more h) worths clear.1)
        k own f in
        record {
          signature = named.0;
          stands = named.1.0;
          gives = given;
          called = called file t it i (program_of t limits) named.0 (gives file t it limits) library
              (λ h. fitting file t it (program_of t limits) i definition named.0 named.1.0 given h) takes_no_more taken (meant i r e named.0 named.1.0) (callee_of t i) refl;
        }

    members : (i a : ℕ) → is_reached t i ≡ true → kind_at t i ≡ kind.Member → slice_get (parts_at t i) 0 ≡ Some a → IsFound t limits (judgement_of file t it) i a
    members i a r e first =
        let n = closed.there i r in
        let own = member_chosen file t it i a n.0 n.1 (sym (ap kind_if n.1) ∙ e) (ap (λ o. slice_get (parts_if o) 0) (sym n.1) ∙ first) (worth (read file t it) i (ap (λ k. is_expression (form_of k)) e)) in
        let named : type_of_node t i ≡ with_qualifiers_of (type_of_node t a) own.0 = is.columns.types i ∙ ap (λ (s : Seen). s.type) own.1.1 ∙ ap (λ whole. with_qualifiers_of whole own.0) (sym (is.columns.types a)) in
        record {
          is = own.1.1 ∙ ap (λ type. member_of (Some type) (seen_in checked a)) (sym (chosen_type it.unit.nodes t i (type_of_node t a) own.0 own.1.0));
          within = member_in file t it (members_whole file t it) i (type_of_node t a) own.0 own.1.0 named;
          structure = λ value. among file t it (members_whole file t it) limits i (slice_index_or t.types a 0) own.0 own.1.0;
        }

    pointed_members : (i : ℕ) → is_reached t i ≡ true → kind_at t i ≡ kind.PointerMember → IsMemberIn t i (pointed (left_type t i))
    pointed_members i r e =
        let n = closed.there i r in
        let part = (told.expressions (read file t it)).operands i 0 (ap (λ k. is_asked (form_of k) 0) e) in
        let own = pointed_chosen file t it i part.0 n.0 n.1 (sym (ap kind_if n.1) ∙ e) (ap (λ o. slice_get (parts_if o) 0) (sym n.1) ∙ part.1.is) (worth (read file t it) i (ap (λ k. is_expression (form_of k)) e)) in
        member_in file t it (members_whole file t it) i (pointed (left_type t i)) own.0 own.1.0 (is.columns.types i ∙ own.1.1)

    returns : (i : ℕ) → is_reached t i ≡ true → kind_at t i ≡ kind.Return → IsIn (judgement_of file t it) i
    returns i r e =
        let function = function_there file t it i (reached_lives t (of_unit file t it) i r) (ap is_item e) in
        let n = definition_there t function.0 function.1.1 in
        record { definition = function.0; is = function.1.0; result = result file t it (types_known file t it) function.0 n.0 n.1.0 n.1.1 }

    -- what a pointer to an object of a complete type is followed to
    cells : (i : ℕ) → is_reached t i ≡ true → is_followed (kind_at t i) ≡ true → HasCells t i
    cells i r h =
        let n = closed.there i r in
        let source = source_of made_by.tree checked i in
        let expression = followed_expression (kind_at t i) h in
        let rule = is.ruled i n.0 n.1 ∙ ap (λ k. ruled (form_of k) (seen_in checked) source i n.0) (sym (ap kind_if n.1)) in
        let whole = followed_type (kind_at t i) (seen_in checked) source i n.0 h rule (worth (read file t it) i expression) in
        let complete : is_complete_at t.nodes i (type_of_node t i) ≡ true = (λ k. is_complete_at (sym nodes_are k) i (is.columns.types i k)) ∙ whole in
        whole_object file t it (members_whole file t it) (type_of_node t i) (complete_whole t i (type_of_node t i) complete) (made_by.fits.cells_fit (slice_index_or t.types i 0))

    objects : (i : ℕ) (n : Node) → is_reached t i ≡ true → slice_get t.nodes i ≡ Some n → n.kind ≡ kind.Identifier → (seen_in checked i).lvalue ≡ true → IsNamed p t i × (sees t i (entity_of t i) ≡ true)
    objects i n r at is l = let own = visible limits i n r at is l in (own.0, named_seen file t it i (ap kind_if at ∙ is) (automatic_late file t it (worth (read file t it)) i n at is r l) own.1)

    -- the lines of an initialised declarator
    completes : (i : ℕ) → is_reached t i ≡ true → kind_at t i ≡ kind.InitDeclarator → sees t i (entity_of t (name_of t i)) ≡ true → IsInitialised p t j (sees t) i
    completes i r e seen =
        let n = closed.there i r in
        initialises file t it (members_whole file t it) (worth (read file t it)) limits i n.0 n.1 seen

    founded : IsFounded t limits j (scene_of made_by.tree checked) (sees t)
    founded = record {
      expressions = record {
        judged = record { columns = is.columns; ruled = is.ruled; worth = worth (read file t it); casts = is.casts; texts = is.texts };
        laid = told.expressions (read file t it);
        reached = closed;
        named = record { objects = objects; literals = λ i r is. (text_there file t it i is, literals file t it i is) };
        placed = record { cells = cells; members = members; pointed_members = pointed_members };
        ranged = ranged;
        calls = calls;
      };
      laid = told.statements;
      blocks = blocks;
      allowed = record {
        at = is.sees;
        nodes = is.nodes;
        around = is.stands;
        gives = λ function. refl;
        allowed = is.allowed;
        returns = λ i n at same. sym (is.returns i n at same);
      };
      declared = record {
        returns = returns;
        gotos = λ i r e. let n = closed.there i r in gotos file t it i n.0 n.1 e;
        declarators = declarators file t it;
        names = names_here t;
        initialised = λ i r e. completes i r e (initialised file t it i r e (initialised_lasts file t it i e (λ h. static_first file t it (name_of t i) (sym (ap (is_static_initialiser t i) e) ∙ h))));
      };
    }

    -- ---- which node sees which object

    runs_if : (i : ℕ) (own : Sort) → sorts_in p t j i ≡ Some own → is_reached t i ≡ true
    runs_if i own e = by (is_reached t i) refl e
      where
        by : (b : Bool) → is_reached t i ≡ b → (if b then Some (sort_at p t j i) else None) ≡ Some own → is_reached t i ≡ true
        by true r f = r
        by false r f = absurd (cc f)

    parts_run : (i : ℕ) → is_reached t i ≡ true → AllReached file t it (op_of t i)
    parts_run i r k part e = let has = (nodes t limits j (scene_of made_by.tree checked) (sees t) founded few i r).typed.parts k part e in runs_if part has.0 has.1

    goes_on : (i : ℕ) → is_reached t i ≡ true → kind_at t i ≡ kind.Call → (parameters : List Parameter) (rest : ℕ) (is_main : Bool) → callee_of t i ≡ Function parameters rest is_main → IsBodyOf t (of_unit file t it) parameters rest
    goes_on i r e parameters rest is_main same =
        let n = closed.there i r in
        let named = call_names file t it (read file t it) i n.0 n.1 (sym (ap kind_if n.1) ∙ e) in
        body_of file t it i parameters rest is_main same (defines_function file t it i (meant i r e named.0 named.1.0 parameters rest is_main same))

    scoped : (i : ℕ) → is_reached t i ≡ true → IsScoped file t it i (op_of t i)
    scoped i r = let n = closed.there i r in by_kind file t it goes_on i n.0 n.1 (kind_at t i) refl (parts_run i r) r

    ready : IsReady t limits j (scene_of made_by.tree checked) (sees t)
    ready = record {
      founded = founded;
      started = record {
        parameters = (main_has file t it limits).parameters;
        body_runs = body_runs file t it;
        body_plain = ap (λ k. is_expression (form_of k)) (body_kind file t it);
        body_exits = body_exits file t it (gives file t it limits);
        initialisers_run = initialisers_run file t it;
      };
      seen = seen file t it limits scoped;
    }

pub tells : AreTold
tells file t it = told file t it

pub closes : AreClosed
closes file t it = closed file t it

pub values : AreWorth
values file t it reads i e = worth file t it reads i e

pub numbers : EnumeratorsAreNumbers
numbers file t it i node v e = enumerators file t it i node v e

pub defined : MainsAreDefined
defined file t it = record { defines = main_defined file t it; block = body_kind file t it; reached = body_runs file t it }

pub labelled : LabelsStandAround
labelled file t it i r e = let n = (closed file t it).there i r in gotos file t it i n.0 n.1 e

pub see : DeclaratorsSeeObjects
see file t it i r h = declarators file t it i r h

pub before_main : EarlyNamesLast
before_main file t it i n at is r lvalue early = early_lasts file t it (worth file t it (read file t it)) i n at is r lvalue early

pub files : FilesHaveOutcomes
files file t it limits cells few reply run =
    outcomes t limits (judgement_of file t it) (scene_of it.checked.by.tree it.checked.checked) (sees t) (ready file t it limits few) cells few reply run

pub well_typed : FilesAreWellTyped
well_typed file t it limits few = typed t limits (judgement_of file t it) (scene_of it.checked.by.tree it.checked.checked) (sees t) (ready file t it limits few) few

pub alike : FixedFilesRunAlike
alike file t limits it cells few fixed one other comes any =
    files_run_alike file t limits (sorts_in (program_of t limits) t (judgement_of file t it)) it (well_typed file t it limits few) cells fixed one other comes any

pub objects_cells : ObjectsHaveWholeCells
objects_cells file t it limits node q x there_is =
    has_cells file t it (members_whole file t it) (worth file t it (read file t it)) limits node q x there_is

pub nodes_cells : NodesNameWholeCells
nodes_cells file t it limits node q p i x declared type entity there_is =
    names_cells file t it (members_whole file t it) (worth file t it (read file t it)) limits node q p i x declared type entity there_is

pub place_names : PlacesNameObjects
place_names file t it limits i n r at is l = visible file t it limits i n r at is l
