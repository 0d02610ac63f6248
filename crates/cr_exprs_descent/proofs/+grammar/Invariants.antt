use Rattle.std.proofs.Common.{◌+◌, ◌-◌, ◌*◌, ◌<◌, ◌≤◌, [], ◌∷◌, length, reverse}
use Rattle.cr_syntax.specs.Trees.{none, ◌&◌}
use Rattle.cr_syntax.specs.Kept.{PartsAreBelow, AreBelow, row_in}
use Rattle.cr_syntax.specs.Context.{fresh, past_part}
use Rattle.cr_syntax_machine.specs.Machine as m
use Rattle.cr_syntax_machine.specs.MachineBody.{body}
use Rattle.cr_exprs_descent.specs.Source.{text_of}
use Rattle.cr_exprs_descent.specs.Tables.{level_of}
use Rattle.cr_exprs_descent.specs.Loose.{Replaces}
use Rattle.cr_exprs_descent.specs.Answers.{Goes, IsPlaced, IsGrown, IsRow, Keeps, tree}
use Rattle.cr_exprs_descent.proofs.+grammar.Given as goal

abbrev pub decreases-declarators::abstract_suffixes : goal.decreases-declarators::abstract_suffixes
decreases-declarators::abstract_suffixes l = (length l.source.now.tokens.now - l.first.next) * 64 + 5

abbrev pub decreases-operands::arguments : goal.decreases-operands::arguments
decreases-operands::arguments l = (length l.source.now.tokens.now - l.at) * 64 + 62

abbrev pub decreases-declarators::array : goal.decreases-declarators::array
decreases-declarators::array l = (length l.source.now.tokens.now - l.left.next) * 64 + 3

abbrev pub decreases-declarators::array_start : goal.decreases-declarators::array_start
decreases-declarators::array_start l = (length l.source.now.tokens.now - l.at) * 64 + 10

abbrev pub decreases-expressions::assignment : goal.decreases-expressions::assignment
decreases-expressions::assignment l = (length l.source.now.tokens.now - l.at) * 64 + 49

abbrev pub decreases-expressions::binary : goal.decreases-expressions::binary
decreases-expressions::binary l = (length l.source.now.tokens.now - l.at) * 64 + (21 + 2 * level_of l.part)

abbrev pub decreases-declarators::bracketed : goal.decreases-declarators::bracketed
decreases-declarators::bracketed l = (length l.source.now.tokens.now - l.start) * 64 + 10

abbrev pub decreases-operands::called : goal.decreases-operands::called
decreases-operands::called l = (length l.source.now.tokens.now - l.start) * 64 + 10

abbrev pub decreases-expressions::cast : goal.decreases-expressions::cast
decreases-expressions::cast l = (length l.source.now.tokens.now - l.at) * 64 + 19

abbrev pub decreases-expressions::chosen : goal.decreases-expressions::chosen
decreases-expressions::chosen l = (length l.source.now.tokens.now - l.test.next) * 64 + 0

abbrev pub decreases-expressions::conditional : goal.decreases-expressions::conditional
decreases-expressions::conditional l = (length l.source.now.tokens.now - l.at) * 64 + 48

abbrev pub decreases-expressions::converted : goal.decreases-expressions::converted
decreases-expressions::converted l = (length l.source.now.tokens.now - l.start) * 64 + 10

abbrev pub decreases-declarators::declarator : goal.decreases-declarators::declarator
decreases-declarators::declarator l = (length l.source.now.tokens.now - l.at) * 64 + 15

abbrev pub decreases-declarators::declarator_suffix : goal.decreases-declarators::declarator_suffix
decreases-declarators::declarator_suffix l = (length l.source.now.tokens.now - l.left.next) * 64 + 4

abbrev pub decreases-declarators::declarator_suffixes : goal.decreases-declarators::declarator_suffixes
decreases-declarators::declarator_suffixes l = (length l.source.now.tokens.now - l.first.next) * 64 + 5

abbrev pub decreases-specifiers::element : goal.decreases-specifiers::element
decreases-specifiers::element l = (length l.source.now.tokens.now - l.at) * 64 + 25

abbrev pub decreases-specifiers::enumeration : goal.decreases-specifiers::enumeration
decreases-specifiers::enumeration l = (length l.source.now.tokens.now - l.start) * 64 + 20

abbrev pub decreases-specifiers::enumerator : goal.decreases-specifiers::enumerator
decreases-specifiers::enumerator l = (length l.source.now.tokens.now - l.at) * 64 + 49

abbrev pub decreases-specifiers::enumerators : goal.decreases-specifiers::enumerators
decreases-specifiers::enumerators l = (length l.source.now.tokens.now - l.at) * 64 + 50

abbrev pub decreases-expressions::expression : goal.decreases-expressions::expression
decreases-expressions::expression l = (length l.source.now.tokens.now - l.at) * 64 + 50

abbrev pub decreases-declarators::function : goal.decreases-declarators::function
decreases-declarators::function l = (length l.source.now.tokens.now - l.left.next) * 64 + 3

abbrev pub decreases-operands::grouped : goal.decreases-operands::grouped
decreases-operands::grouped l = (length l.source.now.tokens.now - l.at) * 64 + 63

abbrev pub decreases-operands::measured : goal.decreases-operands::measured
decreases-operands::measured l = (length l.source.now.tokens.now - l.start) * 64 + 12

abbrev pub decreases-operands::measured_type : goal.decreases-operands::measured_type
decreases-operands::measured_type l = (length l.source.now.tokens.now - l.start) * 64 + 11

abbrev pub decreases-specifiers::member_declaration : goal.decreases-specifiers::member_declaration
decreases-specifiers::member_declaration l = (length l.source.now.tokens.now - l.at) * 64 + 45

abbrev pub decreases-specifiers::member_declarators : goal.decreases-specifiers::member_declarators
decreases-specifiers::member_declarators l = (length l.source.now.tokens.now - l.specifiers.next) * 64 + 20

abbrev pub decreases-specifiers::members : goal.decreases-specifiers::members
decreases-specifiers::members l = (length l.source.now.tokens.now - l.at) * 64 + 50

abbrev pub decreases-expressions::operand : goal.decreases-expressions::operand
decreases-expressions::operand l = (length l.source.now.tokens.now - l.at) * 64 + (20 + 2 * level_of l.part)

abbrev pub decreases-declarators::parameter : goal.decreases-declarators::parameter
decreases-declarators::parameter l = (length l.source.now.tokens.now - l.at) * 64 + 45

abbrev pub decreases-declarators::parameters : goal.decreases-declarators::parameters
decreases-declarators::parameters l = (length l.source.now.tokens.now - l.at) * 64 + 50

abbrev pub decreases-declarators::pointer : goal.decreases-declarators::pointer
decreases-declarators::pointer l = (length l.source.now.tokens.now - l.start) * 64 + 10

abbrev pub decreases-operands::postfix : goal.decreases-operands::postfix
decreases-operands::postfix l = (length l.source.now.tokens.now - l.at) * 64 + 17

abbrev pub decreases-operands::prefixed : goal.decreases-operands::prefixed
decreases-operands::prefixed l = (length l.source.now.tokens.now - l.start) * 64 + 10

abbrev pub decreases-specifiers::row : goal.decreases-specifiers::row
decreases-specifiers::row l = (length l.source.now.tokens.now - l.at) * 64 + 30

abbrev pub decreases-declarators::size : goal.decreases-declarators::size
decreases-declarators::size l = (length l.source.now.tokens.now - l.at) * 64 + 62

abbrev pub decreases-operands::stepped : goal.decreases-operands::stepped
decreases-operands::stepped l = (length l.source.now.tokens.now - l.start) * 64 + 10

abbrev pub decreases-specifiers::structure : goal.decreases-specifiers::structure
decreases-specifiers::structure l = (length l.source.now.tokens.now - l.start) * 64 + 20

abbrev pub decreases-operands::subscript : goal.decreases-operands::subscript
decreases-operands::subscript l = (length l.source.now.tokens.now - l.left.next) * 64 + 3

abbrev pub decreases-operands::suffix : goal.decreases-operands::suffix
decreases-operands::suffix l = (length l.source.now.tokens.now - l.left.next) * 64 + 4

abbrev pub decreases-operands::suffixes : goal.decreases-operands::suffixes
decreases-operands::suffixes l = (length l.source.now.tokens.now - l.first.next) * 64 + 5

abbrev pub decreases-specifiers::type_name : goal.decreases-specifiers::type_name
decreases-specifiers::type_name l = (length l.source.now.tokens.now - l.at) * 64 + 40

abbrev pub decreases-operands::unary : goal.decreases-operands::unary
decreases-operands::unary l = (length l.source.now.tokens.now - l.at) * 64 + 18

abbrev pub invariant-expressions::expression-commas : goal.invariant-expressions::expression-commas
invariant-expressions::expression-commas l = record {
  goes : Goes (text_of l.source) (body (m.expression l.depth)) l.fn.scopes l.at (body (m.commas l.depth l.at (tree l.nodes l.left.node))) l.scopes l.left.next;
  placed : IsPlaced (length l.source.tokens.now) l.at l.fn.nodes l.nodes [] l.left;
}

abbrev pub decreases-expressions::expression-commas : goal.decreases-expressions::expression-commas
decreases-expressions::expression-commas l = length l.source.tokens.now - l.left.next

abbrev pub invariant-expressions::binary-operands : goal.invariant-expressions::binary-operands
invariant-expressions::binary-operands l = record {
  goes : Goes (text_of l.source) (body (m.binary l.part l.depth)) l.fn.scopes l.at (body (m.operands l.part l.depth l.at (tree l.nodes l.left.node))) l.scopes l.left.next;
  placed : IsPlaced (length l.source.tokens.now) l.at l.fn.nodes l.nodes [] l.left;
}

abbrev pub decreases-expressions::binary-operands : goal.decreases-expressions::binary-operands
decreases-expressions::binary-operands l = length l.source.tokens.now - l.left.next

abbrev pub invariant-operands::suffixes-suffixes : goal.invariant-operands::suffixes-suffixes
invariant-operands::suffixes-suffixes l = record {
  goes : Goes (text_of l.source) (body (m.suffixes l.depth l.start (tree l.fn.nodes l.fn.first.node))) l.fn.scopes l.fn.first.next (body (m.suffixes l.depth l.start (tree l.nodes l.left.node))) l.scopes l.left.next;
  grown : IsGrown (length l.source.tokens.now) l.start l.fn.nodes l.nodes (l.fn.first.node ∷ []) l.left;
  far : l.fn.first.next ≤ l.left.next;
}

abbrev pub decreases-operands::suffixes-suffixes : goal.decreases-operands::suffixes-suffixes
decreases-operands::suffixes-suffixes l = length l.source.tokens.now - l.left.next

abbrev pub invariant-declarators::declarator_suffixes-suffixes : goal.invariant-declarators::declarator_suffixes-suffixes
invariant-declarators::declarator_suffixes-suffixes l = record {
  goes : Goes (text_of l.source) (body (m.declarator_suffixes l.depth l.start (tree l.fn.nodes l.fn.first.node))) l.fn.scopes l.fn.first.next (body (m.declarator_suffixes l.depth l.start (tree l.nodes l.left.node))) l.scopes l.left.next;
  grown : IsGrown (length l.source.tokens.now) l.start l.fn.nodes l.nodes (l.fn.first.node ∷ []) l.left;
  far : l.fn.first.next ≤ l.left.next;
}

abbrev pub decreases-declarators::declarator_suffixes-suffixes : goal.decreases-declarators::declarator_suffixes-suffixes
decreases-declarators::declarator_suffixes-suffixes l = length l.source.tokens.now - l.left.next

abbrev pub invariant-declarators::abstract_suffixes-suffixes : goal.invariant-declarators::abstract_suffixes-suffixes
invariant-declarators::abstract_suffixes-suffixes l = record {
  goes : Goes (text_of l.source) (body (m.abstract_suffixes l.depth l.start (tree l.fn.nodes l.fn.first.node))) l.fn.scopes l.fn.first.next (body (m.abstract_suffixes l.depth l.start (tree l.nodes l.left.node))) l.scopes l.left.next;
  grown : IsGrown (length l.source.tokens.now) l.start l.fn.nodes l.nodes (l.fn.first.node ∷ []) l.left;
  far : l.fn.first.next ≤ l.left.next;
}

abbrev pub decreases-declarators::abstract_suffixes-suffixes : goal.decreases-declarators::abstract_suffixes-suffixes
decreases-declarators::abstract_suffixes-suffixes l = length l.source.tokens.now - l.left.next

abbrev pub invariant-operands::arguments-arguments : goal.invariant-operands::arguments-arguments
invariant-operands::arguments-arguments l = record {
  goes : Goes (text_of l.source) (body (m.arguments l.depth none)) l.fn.scopes l.at (body (m.arguments l.depth (row_in l.nodes l.parts))) l.scopes l.next;
  keeps : Keeps l.fn.nodes l.nodes;
  below : PartsAreBelow l.nodes;
  kept : Replaces (length l.source.tokens.now) l.fn.nodes l.nodes [] (reverse l.parts);
  parts : AreBelow l.parts (length l.nodes);
  from : l.at ≤ l.next;
  to : l.next ≤ length l.source.tokens.now;
}

abbrev pub decreases-operands::arguments-arguments : goal.decreases-operands::arguments-arguments
decreases-operands::arguments-arguments l = length l.source.tokens.now - l.next

abbrev pub invariant-specifiers::members-members : goal.invariant-specifiers::members-members
invariant-specifiers::members-members l = record {
  goes : Goes (text_of l.source) (body (m.members l.depth l.start none)) l.fn.scopes l.at (body (m.members l.depth l.start (row_in l.nodes l.parts))) l.scopes l.next;
  keeps : Keeps l.fn.nodes l.nodes;
  below : PartsAreBelow l.nodes;
  kept : Replaces (length l.source.tokens.now) l.fn.nodes l.nodes [] (reverse l.parts);
  parts : AreBelow l.parts (length l.nodes);
  from : l.at ≤ l.next;
  to : l.next ≤ length l.source.tokens.now;
}

abbrev pub decreases-specifiers::members-members : goal.decreases-specifiers::members-members
decreases-specifiers::members-members l = length l.source.tokens.now - l.next

abbrev pub invariant-specifiers::enumerators-enumerators : goal.invariant-specifiers::enumerators-enumerators
invariant-specifiers::enumerators-enumerators l = record {
  goes : Goes (text_of l.source) (body (m.enumerators l.depth l.start none)) l.fn.scopes l.at (body (m.enumerators l.depth l.start (row_in l.nodes l.parts))) l.scopes l.next;
  keeps : Keeps l.fn.nodes l.nodes;
  below : PartsAreBelow l.nodes;
  kept : Replaces (length l.source.tokens.now) l.fn.nodes l.nodes [] (reverse l.parts);
  parts : AreBelow l.parts (length l.nodes);
  from : l.at ≤ l.next;
  to : l.next ≤ length l.source.tokens.now;
}

abbrev pub decreases-specifiers::enumerators-enumerators : goal.decreases-specifiers::enumerators-enumerators
decreases-specifiers::enumerators-enumerators l = length l.source.tokens.now - l.next

abbrev pub invariant-specifiers::member_declarators-declarators : goal.invariant-specifiers::member_declarators-declarators
invariant-specifiers::member_declarators-declarators l = record {
  goes : Goes (text_of l.source) (body (m.member_declarators (past_part fresh (tree l.fn.nodes l.fn.specifiers.node)) l.depth l.start (tree l.fn.nodes l.fn.specifiers.node & none))) l.fn.scopes l.fn.specifiers.next (body (m.member_declarators l.context l.depth l.start (row_in l.nodes l.parts))) l.scopes l.next;
  keeps : Keeps l.fn.nodes l.nodes;
  below : PartsAreBelow l.nodes;
  kept : Replaces (length l.source.tokens.now) l.fn.nodes l.nodes (l.fn.specifiers.node ∷ []) (reverse l.parts);
  parts : AreBelow l.parts (length l.nodes);
  from : l.fn.specifiers.next ≤ l.next;
  to : l.next ≤ length l.source.tokens.now;
}

abbrev pub decreases-specifiers::member_declarators-declarators : goal.decreases-specifiers::member_declarators-declarators
decreases-specifiers::member_declarators-declarators l = length l.source.tokens.now - l.next

abbrev pub invariant-declarators::parameters-parameters : goal.invariant-declarators::parameters-parameters
invariant-declarators::parameters-parameters l = record {
  goes : Goes (text_of l.source) (body (m.parameters l.depth)) l.fn.scopes l.at (body (m.more_parameters l.depth l.at (row_in l.nodes l.parts))) l.scopes l.next;
  keeps : Keeps l.fn.nodes l.nodes;
  below : PartsAreBelow l.nodes;
  kept : Replaces (length l.source.tokens.now) l.fn.nodes l.nodes [] (reverse l.parts);
  row : IsRow l.parts (length l.nodes);
  grows : length l.fn.nodes < length l.nodes;
  from : l.at < l.next;
  to : l.next ≤ length l.source.tokens.now;
}

abbrev pub decreases-declarators::parameters-parameters : goal.decreases-declarators::parameters-parameters
decreases-declarators::parameters-parameters l = length l.source.tokens.now - l.next

abbrev pub invariant-specifiers::row-more : goal.invariant-specifiers::row-more
invariant-specifiers::row-more l = record {
  goes : Goes (text_of l.source) (body (m.row l.part fresh l.depth)) l.fn.scopes l.at (body (m.more l.part l.context l.depth l.at (row_in l.nodes l.parts))) l.scopes l.next;
  keeps : Keeps l.fn.nodes l.nodes;
  below : PartsAreBelow l.nodes;
  kept : Replaces (length l.source.tokens.now) l.fn.nodes l.nodes [] (reverse l.parts);
  row : IsRow l.parts (length l.nodes);
  grows : length l.fn.nodes < length l.nodes;
  from : l.at < l.next;
  to : l.next ≤ length l.source.tokens.now;
}

abbrev pub decreases-specifiers::row-more : goal.decreases-specifiers::row-more
decreases-specifiers::row-more l = length l.source.tokens.now - l.next
