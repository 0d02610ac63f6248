use Rattle.std.proofs.Common.{◌∙◌, ◌==◌, ◌&&◌, ap, List, ℕ}
use Rattle.std.specs.List.{list_any}
use Rattle.std.specs.Str.{bytes_eq}
use Rattle.pass_levels.specs.Places.{spelling_at}
use Rattle.pass_names.proofs.members.is_used_member.Goals as goal

-- the set has the members that some token names
pub returns : goal.returns
returns c =
    c.contains.ensures ∙ c.requires (c.args.content, c.spelling_at.result)
    ∙ ap (λ (bytes : List ℕ). list_any (λ used. (used.structure == c.args.content) && bytes_eq (spelling_at c.args.file.now c.args.tokens.now used.token) bytes) c.args._uses.now)
    c.spelling_at.ensures
