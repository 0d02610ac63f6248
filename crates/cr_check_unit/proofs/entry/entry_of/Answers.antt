use Rattle.std.proofs.Common.{◌≡◌, ◌<◌, None, length, map, slice_index_or, refl, sym, ap, ◌∙◌, arith}
use Rattle.cr_check_types.specs.Types.{type_at}
use Rattle.cr_check_expressions.specs.Known.{spelling_of}
use Rattle.cr_check_expressions.proofs.Kept.{grows_on}
use Rattle.cr_check_declarators.specs.Specifiers.{nothing}
use Rattle.cr_check_declarations.specs.Before.{before_at, rows_of}
use Rattle.cr_check_declarations.specs.Specifiers.{said_by}
use Rattle.cr_check_declarations.specs.Declarators.{declarator_by, derived_by}
use Rattle.cr_check_declarations.specs.Named.{named_by, declared_by, declaration_of, parameters_by, members_by}
use Rattle.cr_check_declarations.specs.Contents.{layout_by, fixed_by, enumerator_by}
use Rattle.cr_check_initialised.proofs.Kept.{seated_kept}
use Rattle.cr_check_linkage.specs.NameTypes.{type_as, type_or}
use Rattle.cr_check_linkage.specs.Linked.{past_at, linked_by, seen_by, composite_by}
use Rattle.cr_check_unit.specs.Typing.{before_in, past_in}
use Rattle.cr_check_unit.proofs.Kept.{all_kept, past_kept, types_kept, rows_kept}
use Rattle.cr_check_unit.proofs.Later.{before_later, fact_later, row_later, named_later, whole_later, anchor_later, filled_in, past_handed, joined_later, parameters_later, below_later}
use Rattle.cr_check_unit.proofs.entry.entry_of.Goals as goal

pub returns-clause-ruled : goal.returns-clause-ruled
returns-clause-ruled c = λ later on.
    let u = c.args.tree.now in
    let texts = c.args.texts.now in
    let t = c.args.typing.now in
    let n = c.args.node.now in
    let i = c.args.at in
    let nodes = u.nodes.now in
    let spelling = spelling_of u.file.now u.tokens.now in
    let start = c.args.table.now in
    let first = c.fact.new.table in
    let second = c.derivations.new.table in
    let third = c.named.new.table in
    let fourth = c.parameters.new.table in
    let fifth = c.seen.new.table in
    let sixth = c.fill.new.table in
    let seventh = c.composite.new.table in
    let one = c.in_ok-fact.ensures.grows in
    let two = c.in_ok-derived.ensures.grows in
    let three = c.in_ok-own_row.ensures.grows in
    let four = c.in_ok-own_parameters.ensures.grows in
    let five = c.in_ok-seen.ensures.grows in
    let six = c.in_ok-filled.ensures.grows in
    let seven = c.in_ok-composite.ensures.grows in
    let from_sixth = grows_on sixth seventh later seven on in
    let from_fifth = grows_on fifth sixth later six from_sixth in
    let from_fourth = grows_on fourth fifth later five from_fifth in
    let from_third = grows_on third fourth later four from_fourth in
    let from_second = grows_on second third later three from_third in
    let from_first = grows_on first second later two from_second in
    let within_first = all_kept start first t one c.requires.within in
    let within_second = all_kept first second t two within_first in
    let within_third = all_kept second third t three within_second in
    let within_fourth = all_kept third fourth t four within_third in
    let within_fifth = all_kept fourth fifth t five within_fourth in
    let within_sixth = all_kept fifth sixth t six within_fifth in
    let within_seventh = all_kept sixth seventh t seven within_sixth in
    let columns = c.columns_of-columns.result in
    let columns_are = c.columns_of-columns.ensures in
    let before = columns_are.before in
    let links = c.links_of-links.result in
    let links_are = c.links_of-links.ensures in
    let own = c.declarator-own.result in
    let own_row = c.in_ok-own_row.own_row in
    let own_parameters = c.in_ok-own_parameters.own_parameters in
    let enumerated = c.enumerator-enumerated.result in
    let linked = c.linked-linked.result in
    let seen = c.in_ok-seen.seen in
    let filled = c.in_ok-filled.filled in
    let declared = c.declared-declared.result in
    let composite = c.in_ok-composite.composite in
    let members = c.in_ok-members.members in
    let rows = c.in_ok-members.ensures.within seventh (columns_are.within seventh within_seventh).columns in
    let handed : (shapes : _) → past_at shapes columns links ≡ past_in shapes t = λ shapes. past_handed shapes t columns links columns_are.declared
    columns_are.named columns_are.parameters links_are.linked links_are.composites links_are.parameters in
    let said = c.specified-said.result in
    let derived = c.in_ok-derived.derived in
    let own_type = named_by n.kind u said own (type_at later derived) (before_in later t) i n in
    let own_types = parameters_by n.kind nodes (before_in later t) n in
    let declaration = declaration_of nodes u.above.now i in
    let own_declared = declared_by n.kind nodes (before_in later t).specified own 0 enumerated declaration in
    let earlier = slice_index_or u.earlier.now i None in
    let same = slice_index_or u.same.now i None in
    let own_made = c.in_ok-own_row.ensures.made in
    let own_low : own_row < length fourth = let l = four.longer in let w = own_made.within in omega (arith, l, w) in
    let own_is : type_at fourth own_row ≡ own_type = sym (from_fourth.keeps own_row own_low)
    ∙ named_later second third later u t columns said own derived own_row i n before three from_third within_second
    c.in_ok-derived.ensures.made.within own_made in
    let own_are : map (type_at fourth) own_parameters ≡ own_types = c.in_ok-own_parameters.ensures.is
    ∙ ap (λ b. parameters_by n.kind nodes b n) (before_later third later t columns before from_third within_third) in
    let own_said = c.declared-own_declared.ensures.is
    ∙ (λ s. declared_by n.kind nodes (λ p. slice_index_or (columns_are.specified s) p nothing) own 0 enumerated declaration) in
    let fourth_handed = handed fourth ∙ sym (past_kept fourth later t from_fourth within_fourth) in
    let sixth_handed = handed sixth ∙ sym (past_kept sixth later t from_sixth within_sixth) in
    let own_rows = ap (map (type_at fourth)) c.as_slice.ensures ∙ own_are in
    let low : filled.row < length sixth = c.in_ok-filled.ensures.within in
    let seen_rows = rows_kept fifth sixth seen.parameters six c.in_ok-seen.ensures.within in
    let type_is = sym (from_sixth.keeps filled.row low) in
    let types_are = ap (map (type_at sixth)) c.as_slice-2.ensures ∙ sym (types_kept sixth later seen.parameters from_sixth seen_rows) in
    record {
      fact = fact_later start first later u texts t c.in_ok-fact.fact i n one from_first c.requires.within c.in_ok-fact.ensures.within
          c.in_ok-fact.ensures.is;
      specified = c.specified-said.ensures ∙ ap (λ b. said_by n.kind b.specified (slice_index_or u.tags.now i None) n) (before first);
      declarator = c.declarator-own.ensures
          ∙ ap (λ b. declarator_by n.kind spelling nodes b i n) (before_later first later t columns before from_first within_first);
      derived = row_later first second later t columns (λ b. derived_by n.kind spelling nodes b n) derived before two from_second within_first
          c.in_ok-derived.ensures.made;
      linked = c.linked-linked.ensures
          ∙ (λ s. linked_by n.kind u (λ p. slice_index_or (columns_are.specified s) p nothing) own (λ p. slice_index_or (links_are.linked s) p None) i n);
      filled = filled_in later u t columns c.as_slice-anchors.result.now seen.row i filled n
          (type_or own_type (seen_by linked (past_in later t) earlier (type_as own_declared own_type own_types)))
          (before later) columns_are.members columns_are.layouts columns_are.declared
          columns_are.parameters c.as_slice-anchors.ensures
          (joined_later fourth fifth later (past_in later t) (λ p x. seen_by linked p earlier x) c.declared-own_declared.result own_declared own_row
          seen.row c.as_slice.result.now own_type own_types (past_at fourth columns links) from_fifth c.in_ok-seen.ensures.row fourth_handed own_said
          own_is own_rows)
          (c.in_ok-filled.ensures.is later from_sixth);
      enumerated = c.enumerator-enumerated.ensures
          ∙ ap (λ b. enumerator_by n.kind b (slice_index_or u.previous.now i None) n) (before_later second later t columns before from_second within_second);
      declared = c.declared-declared.ensures.is
          ∙ ap (λ b. declared_by n.kind nodes b.specified own filled.row enumerated declaration) (before first);
      parameters = parameters_later fourth fifth later (past_in later t) (λ p x. seen_by linked p earlier x) c.declared-own_declared.result own_declared
          own_row c.as_slice.result.now seen.parameters own_type own_types (past_at fourth columns links) from_fifth c.in_ok-seen.ensures.within
          c.in_ok-seen.ensures.parameters fourth_handed own_said own_is own_rows;
      composite = joined_later sixth seventh later (past_in later t) (λ p x. composite_by n.kind linked p same n x) declared declared filled.row
          composite.row c.as_slice-2.result.now (type_at later filled.row) (map (type_at later) seen.parameters) (past_at sixth columns links) on
          c.in_ok-composite.ensures.row sixth_handed refl type_is types_are;
      composite_parameters = parameters_later sixth seventh later (past_in later t) (λ p x. composite_by n.kind linked p same n x) declared declared
          filled.row c.as_slice-2.result.now composite.parameters (type_at later filled.row) (map (type_at later) seen.parameters)
          (past_at sixth columns links) on c.in_ok-composite.ensures.within c.in_ok-composite.ensures.parameters sixth_handed refl type_is types_are;
      members = c.in_ok-members.ensures.is
          ∙ ap (λ xs. members_by n.kind nodes u.names.now xs columns.members.now n.parts) columns_are.named
          ∙ ap (λ ms. members_by n.kind nodes u.names.now t.named ms n.parts) columns_are.members;
      layout = whole_later seventh later t columns (λ b ts. layout_by n.kind b ts) c.in_ok-structure.structure.layout (rows_of members) before on
          within_seventh rows
          (c.in_ok-structure.ensures.layout
          ∙ ap (λ ms. layout_by n.kind (before_at seventh columns) (map (type_at seventh) (rows_of ms))) c.as_slice-3.ensures);
      fixed = whole_later seventh later t columns (λ b ts. fixed_by n.kind b ts) c.in_ok-structure.structure.fixed (rows_of members) before on
          within_seventh rows
          (c.in_ok-structure.ensures.fixed
          ∙ ap (λ ms. fixed_by n.kind (before_at seventh columns) (map (type_at seventh) (rows_of ms))) c.as_slice-3.ensures);
      anchor = anchor_later first later u t columns c.as_slice-anchors.result.now c.anchor_of-anchor.result (slice_index_or u.visible.now i None) n
          before columns_are.declared c.as_slice-anchors.ensures from_first within_first c.anchor_of-anchor.ensures;
    }

pub returns-clause-within : goal.returns-clause-within
returns-clause-within c =
    let t = c.args.typing.now in
    let start = c.args.table.now in
    let first = c.fact.new.table in
    let second = c.derivations.new.table in
    let third = c.named.new.table in
    let fourth = c.parameters.new.table in
    let fifth = c.seen.new.table in
    let sixth = c.fill.new.table in
    let seventh = c.composite.new.table in
    let one = c.in_ok-fact.ensures.grows in
    let two = c.in_ok-derived.ensures.grows in
    let three = c.in_ok-own_row.ensures.grows in
    let four = c.in_ok-own_parameters.ensures.grows in
    let five = c.in_ok-seen.ensures.grows in
    let six = c.in_ok-filled.ensures.grows in
    let seven = c.in_ok-composite.ensures.grows in
    let from_fifth = grows_on fifth sixth seventh six seven in
    let from_fourth = grows_on fourth fifth seventh five from_fifth in
    let from_third = grows_on third fourth seventh four from_fourth in
    let from_second = grows_on second third seventh three from_third in
    let from_first = grows_on first second seventh two from_second in
    let from_start = grows_on start first seventh one from_first in
    let row = below_later sixth seventh c.in_ok-filled.filled.row seven c.in_ok-filled.ensures.within in
    let room = c.declared-declared.ensures.room in
    record {
      fact = below_later first seventh c.in_ok-fact.fact.row from_first c.in_ok-fact.ensures.within;
      derivations = below_later second seventh c.in_ok-derived.derived from_second c.in_ok-derived.ensures.made.within;
      named = row;
      declared = omega (arith, row, room);
      parameters = rows_kept fifth seventh c.in_ok-seen.seen.parameters from_fifth c.in_ok-seen.ensures.within;
      members =
          c.in_ok-members.ensures.within seventh
          (c.columns_of-columns.ensures.within seventh (all_kept start seventh t from_start c.requires.within)).columns;
      lines = seated_kept sixth seventh c.in_ok-filled.filled.lines seven c.in_ok-filled.ensures.seated;
      composite = c.in_ok-composite.ensures.row.within;
      composite_parameters = c.in_ok-composite.ensures.within;
    }

pub returns-clause-grows : goal.returns-clause-grows
returns-clause-grows c =
    let start = c.args.table.now in
    let first = c.fact.new.table in
    let second = c.derivations.new.table in
    let third = c.named.new.table in
    let fourth = c.parameters.new.table in
    let fifth = c.seen.new.table in
    let sixth = c.fill.new.table in
    let seventh = c.composite.new.table in
    grows_on start first seventh c.in_ok-fact.ensures.grows
    (grows_on first second seventh c.in_ok-derived.ensures.grows
    (grows_on second third seventh c.in_ok-own_row.ensures.grows
    (grows_on third fourth seventh c.in_ok-own_parameters.ensures.grows
    (grows_on fourth fifth seventh c.in_ok-seen.ensures.grows
    (grows_on fifth sixth seventh c.in_ok-filled.ensures.grows c.in_ok-composite.ensures.grows)))))
