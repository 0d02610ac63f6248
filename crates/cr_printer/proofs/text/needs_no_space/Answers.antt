use Rattle.std.proofs.Common.{length, arith}
use Rattle.cr_tokens.specs.declared.token.TokenKind.TheVariants.{Keyword}
use Rattle.cr_printer.proofs.Orders.{rise_before}
use Rattle.cr_printer.proofs.Growth.{no_space_later}
use Rattle.cr_printer.proofs.text.needs_no_space.Goals as goal

pub are_apart-requires-clause-order : goal.are_apart-requires-clause-order
are_apart-requires-clause-order c =
    rise_before c.args.at 0 (length c.args.file.now) c.args.tokens.now (record { kind = Keyword; start = 0; end = 0 }) c.requires.tokens.rise
    (omega arith) c.requires.at

pub returns-else-at-eq0 : goal.returns-else-at-eq0
returns-else-at-eq0 c =
    no_space_later c.args.file.now c.args.tokens.now c.args.at (record { kind = Keyword; start = 0; end = 0 }) c.are_apart.result
    c.if-at-eq0.false c.requires.at c.are_apart.ensures
