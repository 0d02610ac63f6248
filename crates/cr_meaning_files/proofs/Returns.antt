-- The function around a `return` gives nothing or a scalar (K8, K10).
use Rattle.std.proofs.Common.{◌≡◌, ℕ, ◌-◌, inl, true, List, None, Some, slice_get, slice_index_or, refl, sym, subst, ap, ◌∙◌, arith, if◌then◌else◌}
use Rattle.std.specs.Option.{is_some}
use Rattle.std.proofs.lemmas.Bool.{false≢true}
use Rattle.std.proofs.lemmas.List.{get_or-take}
use Rattle.cr_syntax.specs.declared.ctype.CType.TheVariants.{Void, Int, Unknown}
use Rattle.cr_syntax.specs.declared.node.Kind.{Kind}
use Rattle.cr_syntax.specs.declared.node.Kind.TheVariants as kind
use Rattle.cr_syntax.specs.declared.node.Node.{Node}
use Rattle.cr_syntax.specs.Tables.{rule_of, side_of}
use Rattle.cr_check_types.specs.Types.{Qualified, plain, pointer as to, array, type_at}
use Rattle.cr_check_expressions.specs.Known.{named_row}
use Rattle.cr_check_declarators.specs.Declarators.{name_alone, may_return}
use Rattle.cr_check_declarations.specs.Before as before
use Rattle.cr_check_declarations.specs.Before.{declarator_in, specified_in}
use Rattle.cr_check_declarations.specs.Named.{declares_name, is_initialised, is_declaration, declaration_at, declaration_of, above_in}
use Rattle.cr_check_declarations.specs.Faults.{faults_in, has_at}
use Rattle.cr_check_unit.specs.Typing.{cut, entry_at, before_in}
use Rattle.cr_check_unit.specs.Statements.{result_in}
use Rattle.cr_check_unit.specs.Statements as statements
use Rattle.cr_typed.specs.declared.typed.Typed.{Typed}
use Rattle.cr_meaning_operations.specs.Operations.{kind_if, kind_at, parts_if, part_at}
use Rattle.cr_meaning_typing.specs.Typed.Laws.{HoldsAll}
use Rattle.cr_meaning_typing.specs.Typed.Typing.{has_value}
use Rattle.cr_meaning_declarations.specs.Declared.Files.{IsUnitOfFile}
use Rattle.cr_meaning_declarations.proofs.DeclaredLemmas.Files.{has_unit}
use Rattle.cr_meaning_typing.specs.Statements.Statements.{IsResult}
use Rattle.cr_meaning_types.specs.Known.Known.{AreKnown}
use Rattle.cr_meaning_files.specs.Files.{judgement_of}
use Rattle.cr_meaning_references.proofs.TreesLemmas.Grammar.{part_in, Stands}
use Rattle.cr_meaning_references.proofs.TreesLemmas.Tree.{HasPart, has_part, as_part, needed}
use Rattle.cr_meaning_files.proofs.Laid.{above_at}
use Rattle.cr_meaning_files.proofs.Mains.{definition_counts}
use Rattle.cr_meaning_files.proofs.Results.{all, of_kind}
use Rattle.cr_meaning_objects.proofs.ChainedLemmas.Known.{function_there}
use Rattle.cr_meaning_objects.proofs.CalledLemmas.Fitting.{mapped_at}

-- what may be returned and is known is a result
result_is : (type : Qualified) → may_return type ≡ true → has_value type ≡ true → IsResult type
result_is (plain Void c v) r h = tt
result_is (plain (Int k) c v) r h = tt
result_is (plain Unknown c v) r h = absurd (false≢true h)
result_is (plain of c v) r h = absurd (false≢true r)
result_is (to c v below) r h = tt
result_is (array n below) r h = absurd (false≢true r)

declarator_names : (k : Kind) → Stands (part_in (side_of kind.FunctionDefinition) 1) k → declares_name k ≡ true
unfolding rule_of
declarator_names kind.NameDeclarator h = refl
declarator_names kind.GroupDeclarator h = refl
declarator_names kind.PointerDeclarator h = refl
declarator_names kind.ArrayDeclarator h = refl
declarator_names kind.FunctionDeclarator h = refl
declarator_names k h = absurd (false≢true h)

module _ (file : List ℕ) (t : Typed) (it : IsUnitOfFile file t) where
  open it use {checked.{checked}, made_by, typing}
  open has_unit file t it use {unit as u, tree_nodes as nodes_are}

  here : (i : ℕ) (n : Node) → slice_get t.nodes i ≡ Some n → slice_get made_by.tree.nodes.now i ≡ Some n
  here i n at = ap (λ ns. slice_get ns i) nodes_are ∙ at

  module _ (d : ℕ) (n : Node) (at : slice_get t.nodes d ≡ Some n) (defines : n.kind ≡ kind.FunctionDefinition) where
    part : HasPart t u d 1 (part_at t d 1)
    part = has_part t u d 1 (part_at t d 1) (needed t u d 1 kind.FunctionDefinition (ap kind_if at ∙ defines) refl (let three = definition_counts in omega (arith, three)))

    own_part : slice_get n.parts 1 ≡ Some (part_at t d 1)
    own_part = ap (λ o. slice_get (parts_if o) 1) (sym at) ∙ (needed t u d 1 kind.FunctionDefinition (ap kind_if at ∙ defines) refl (let three = definition_counts in omega (arith, three)))

    -- what the function gives is what its declarator names
    pub gives_is : (judgement_of file t it).gives (Some d) ≡ type_at checked.table (slice_index_or typing.named (part_at t d 1) 0)
    gives_is =
        ap (λ rs. type_at checked.table (slice_index_or rs d 0)) made_by.is.whole.marked.results
        ∙ ap (type_at checked.table) (mapped_at (result_in typing.named) made_by.tree.nodes.now d n (here d n at)
        ∙ ap (λ k. if statements.is_definition k then named_row typing.named (slice_get n.parts 1) else 0) defines
        ∙ ap (named_row typing.named) own_part)

    above_is : declaration_of made_by.tree.nodes.now made_by.tree.above.now (part_at t d 1) ≡ Some d
    above_is =
        let above : slice_index_or made_by.tree.above.now (part_at t d 1) None ≡ Some d
        = ap (λ xs. slice_index_or xs (part_at t d 1) None) made_by.is.whole.tree.above ∙ above_at file t it (part_at t d 1) d (as_part t u d 1 (part_at t d 1) part) part.below in
        let own : before.kind_in made_by.tree.nodes.now (Some d) ≡ Some kind.FunctionDefinition = ap before.kind_if (here d n at) ∙ ap (λ k. Some k) defines in
        ap (λ o. if is_initialised (before.kind_in made_by.tree.nodes.now o) then declaration_at made_by.tree.nodes.now (above_in made_by.tree.above.now o) else declaration_at made_by.tree.nodes.now o) above
        ∙ ap (λ k. if is_initialised k then declaration_at made_by.tree.nodes.now (above_in made_by.tree.above.now (Some d)) else (if is_declaration k then Some d else None)) own

    function_is : is_some (entry_at typing (part_at t d 1)).own.declarator.function ≡ true
    function_is =
        let held = subst (λ k. HoldsAll (faults_in k (has_at checked.table (entry_at typing d).own) (before_in checked.table (cut d typing)) made_by.tree d n)) defines
        (all made_by.tree checked.texts checked.table typing made_by.is.whole.typing (λ b broken. made_by.sound.constraints b (inl broken)) d n (here d n at)) in
        let own = function_there (before_in checked.table (cut d typing)) made_by.tree.nodes.now d (specified_in (before_in checked.table (cut d typing)).specified (slice_get n.parts 0)) (slice_get n.parts 1)
        (declarator_in (before_in checked.table (cut d typing)).declarator (slice_get n.parts 1)).function held in
        sym (ap (λ o. is_some (declarator_in (before_in checked.table (cut d typing)).declarator o).function) own_part
        ∙ ap (λ x. is_some x.function) (get_or-take d typing.declarators (part_at t d 1) name_alone part.below)) ∙ own

    pub returned : may_return ((judgement_of file t it).gives (Some d)) ≡ true
    returned =
        let k = declarator_names (kind_at t (part_at t d 1)) (subst (λ c. Stands (part_in (side_of c) 1) (kind_at t (part_at t d 1))) (ap kind_if at ∙ defines) part.stands) in
        ap may_return gives_is
        ∙ of_kind made_by.tree checked.texts checked.table typing made_by.is.whole.typing (λ b broken. made_by.sound.constraints b (inl broken)) (part_at t d 1) part.own (here (part_at t d 1) part.own part.own_at)
        part.own.kind refl (ap (λ c. declares_name c) (sym (ap kind_if part.own_at)) ∙ k) d above_is function_is

    -- and that is known
    gives_known : AreKnown made_by.tree checked.table typing → has_value ((judgement_of file t it).gives (Some d)) ≡ true
    gives_known known =
        let k = declarator_names (kind_at t (part_at t d 1)) (subst (λ c. Stands (part_in (side_of c) 1) (kind_at t (part_at t d 1))) (ap kind_if at ∙ defines) part.stands) in
        ap has_value gives_is
        ∙ (known (part_at t d 1) part.own (here (part_at t d 1) part.own part.own_at)).declared (ap (λ c. declares_name c) (sym (ap kind_if part.own_at)) ∙ k) d above_is

  pub result : AreKnown made_by.tree checked.table typing → (d : ℕ) (n : Node) → slice_get t.nodes d ≡ Some n → n.kind ≡ kind.FunctionDefinition → IsResult ((judgement_of file t it).gives (Some d))
  result known d n at defines = result_is ((judgement_of file t it).gives (Some d)) (returned d n at defines) (gives_known d n at defines known)
