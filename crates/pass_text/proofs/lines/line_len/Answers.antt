use Rattle.std.proofs.Common.{◌≡◌, ◌<◌, ◌-◌, length, take, drop, arith, ap, ◌∙◌}
use Rattle.std.proofs.lemmas.Grind.{common_steps}
use Rattle.std.proofs.lemmas.List.{length-drop}
use Rattle.pass_text.specs.Lines.{first_len}
use Rattle.pass_text.proofs.LineLemmas.{first_fits, first_more}
use Rattle.pass_text.proofs.lines.line_len.Goals as goal

pub returns : goal.returns
returns c =
    let file = c.args.file.now in
    let rest : take (length file - c.args.at) (drop c.args.at file) ≡ drop c.args.at file = grind (arith, common_steps) in
    let is = c.first_line.ensures ∙ ap first_len rest in
    let some : 0 < length (drop c.args.at file) = omega (arith, length-drop c.args.at file) in
    record { length = is; within = omega (arith, is, first_fits file c.args.at (omega arith)); some = omega (arith, is, first_more (drop c.args.at file) some) }
