use Rattle.std.proofs.Common.{◌≡◌, IfOk, subst, ◌∙◌}
use Rattle.pass_names.specs.Short.{first_free}
use Rattle.pass_names.specs.Renamed.{renaming_by}
use Rattle.pass_names.proofs.rename.renamed.Goals as goal

pub returns : goal.returns
returns c =
    let file = c.args.file.now in
    let tokens = c.args.unit.now.tokens.list.items in
    let names = c.args.names.now in
    let number = c.in_ok-number.number in
    let reserved = c.as_slice-reserved.result.now in
    let free = subst (λ ts. number ≡ first_free file ts) c.as_slice-tokens.ensures.value c.in_ok-number.ensures.free in
    let of_tokens = subst (λ ts. IfOk c.renaming_by.result (λ menu. menu ≡ renaming_by number ts names reserved)) c.as_slice-tokens.ensures.value c.renaming_by.ensures in
    let of_number = subst (λ n. IfOk c.renaming_by.result (λ menu. menu ≡ renaming_by n tokens names reserved)) free of_tokens in
    subst (λ rs. IfOk c.renaming_by.result (λ menu. menu ≡ renaming_by (first_free file tokens) tokens names rs)) (c.as_slice-reserved.ensures.value ∙ c.in_ok-reserved.ensures) of_number
