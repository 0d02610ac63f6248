use Rattle.std.proofs.Common.{◌≡◌, ◌≢◌, length, sym, ◌∙◌, arith}
use Rattle.std.proofs.lemmas.Bool.{eqb-true, eq-eqb}
use Rattle.cr_tokens.specs.declared.token.TokenKind.TheVariants.{Keyword}
use Rattle.cr_printer.proofs.Neighbours.{room_suffices, no_room}
use Rattle.cr_printer.proofs.text.room.Goals as goal

pub returns-then-is_empty : goal.returns-then-is_empty
returns-then-is_empty c =
    let none : length c.args.tokens.now ≡ 0 = eqb-true (length c.args.tokens.now) 0 (sym c.is_empty.ensures ∙ c.if-is_empty.true) in
    λ file text o p. no_room file c.args.tokens.now text none p

pub returns : goal.returns
returns c =
    let some : length c.args.tokens.now ≢ 0 = λ e. absurd (cc (eq-eqb (length c.args.tokens.now) 0 e, c.is_empty.ensures, c.if-is_empty.false)) in
    λ file text o p.
    let le = room_suffices file c.args.tokens.now (record { kind = Keyword; start = 0; end = 0 }) text o (omega (arith, some)) p in
    rw c.saturating_sub.ensures le
