use Rattle.std.proofs.Common.{◌≡◌, map, sym, ◌∙◌}
use Rattle.cr_check_types.specs.Types.{type_at}
use Rattle.cr_check_declarations.proofs.Adjusted.{types_kept}
use Rattle.cr_check_linkage.specs.NameTypes.{type_as, parameters_or, composite_type}
use Rattle.cr_check_linkage.proofs.Rows.{copied_types}
use Rattle.cr_check_linkage.proofs.joining.composite.Goals as goal

pub returns-in_ok-row-in-Object-Object-clause-parameters :
    goal.returns-in_ok-row-in-Object-Object-clause-parameters
returns-in_ok-row-in-Object-Object-clause-parameters c =
    let old = c.args.table.now in
    let earlier = c.args.earlier in
    let own = c.args.own in
    let types = map (type_at old) own.parameters.now in
    let are = c.in-Object-Object in
    let copy = c.in_ok-parameters-in-Object-Object in
    copied_types old c.composite.new.self own.parameters.now copy.parameters copy.ensures c.in_ok-row-in-Object-Object.ensures.grows
    c.requires.own.parameters
    ∙ sym (λ s. parameters_or types (composite_type (type_as (are.is-0 s) (type_at old earlier.row) (map (type_at old) earlier.parameters.now))
    (type_as (are.is-1 s) (type_at old own.row) types)))

pub returns-in_ok-row-in-Function-Function-clause-parameters :
    goal.returns-in_ok-row-in-Function-Function-clause-parameters
returns-in_ok-row-in-Function-Function-clause-parameters c =
    let old = c.args.table.now in
    let earlier = c.args.earlier in
    let own = c.args.own in
    let types = map (type_at old) own.parameters.now in
    let are = c.in-Function-Function in
    let made = c.in_ok-parameters-in-Function-Function in
    types_kept c.composite_parameters.new.table c.composite-in-Function-Function.new.self made.parameters
    c.in_ok-row-in-Function-Function.ensures.grows made.ensures.within
    ∙ made.ensures.is
    ∙ sym (λ s. parameters_or types (composite_type (type_as (are.is-0 s) (type_at old earlier.row) (map (type_at old) earlier.parameters.now))
    (type_as (are.is-1 s) (type_at old own.row) types)))
