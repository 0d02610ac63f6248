use Rattle.std.proofs.Common.{inl, inr, List, ℕ, [], sym, subst}
use Rattle.cr_tokens.specs.declared.token.TokenKind.TheVariants.{Keyword}
use Rattle.cr_printer.specs.Text.{Prints}
use Rattle.cr_printer.specs.Text.Prints.{nothing}
use Rattle.cr_printer.proofs.Growth.{added}
use Rattle.cr_printer.proofs.text.print_tokens.Goals as goal
use Rattle.cr_printer.proofs.text.print_tokens.Goals.{then-not-needs_no_space+in_ok-push, else-not-needs_no_space}

pub loop-at-preserved : goal.loop-at-preserved
loop-at-preserved c =
    let add = added c.args.file.now c.args.tokens.now c.loop-at.at (record { kind = Keyword; start = 0; end = 0 }) c.loop-at.text.items
    c.if-not-needs_no_space.text.items c.extend_from_slice.new.self.items c.spelling.result.now c.loop-at-test.true c.spelling.ensures
    c.in_ok-extend_from_slice.ensures.items in
    elim c.if-not-needs_no_space.branch [
      | then-not-needs_no_space+in_ok-push w ↦ add (inl (cc (w.text-is, w.in_ok-push.ensures.items), λ n. absurd (cc (c.needs_no_space.ensures.1 n, w.if-not-needs_no_space.true)))) c.loop-at.invariant
      | else-not-needs_no_space w ↦ add (inr (cc (w.text-is), c.needs_no_space.ensures.0 (cc (w.if-not-needs_no_space.false)))) c.loop-at.invariant
    ]

pub loop-at-init : goal.loop-at-init
loop-at-init c = let P : List ℕ → Type 0 = λ x. Prints [] x in subst P (sym c.in_ok-text.ensures.items) nothing
