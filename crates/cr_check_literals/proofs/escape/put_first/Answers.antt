use Rattle.std.proofs.Common.{◌≡◌, ◌∙◌, ℕ, ap, arith}
use Rattle.std.proofs.lemmas.List.{take_rest}
use Rattle.cr_check_literals.specs.Characters.{byte_of, further_of}
use Rattle.cr_check_literals.proofs.Characters.{begun}
use Rattle.cr_check_literals.proofs.escape.put_first.Goals as goal

pub returns : goal.returns
returns c =
    let none : c.args.left ≡ 0 = omega (arith, c.if-left-gt0.false) in
    let rest = take_rest c.args.inside.now c.args.at in
    rw none (rw (c.further-more.ensures ∙ ap further_of rest) (begun c.args.bytes.now.items c.args.inside.now c.push.new.self.items c.args.at
    c.byte.result c.requires c.in_ok-push.ensures.items (c.byte.ensures ∙ ap byte_of rest)))
