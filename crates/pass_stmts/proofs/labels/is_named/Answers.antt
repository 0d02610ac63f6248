use Rattle.std.proofs.Common.{◌≡◌, ◌∙◌, ◌==◌, ◌&&◌, ap, List, ℕ}
use Rattle.std.specs.List.{list_any}
use Rattle.std.specs.Str.{bytes_eq}
use Rattle.pass_levels.specs.Places.{spelling_at}
use Rattle.pass_stmts.proofs.labels.is_named.Goals as goal

-- the set has what some `goto` names
pub returns : goal.returns
returns c =
    let s = c.args.source.now in
    c.contains.ensures ∙ s.set (c.args.function, c.spelling_at-bytes.result)
    ∙ ap (λ (bytes : List ℕ). list_any (λ jump. (jump.function == c.args.function) && bytes_eq (spelling_at s.file.now s.tokens.now jump.label) bytes) s.jumps.now)
    c.spelling_at-bytes.ensures
