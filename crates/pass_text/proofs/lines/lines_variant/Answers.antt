use Rattle.std.proofs.Common.{◌≡◌, ◌+◌, ◌-◌, ◌*◌, ◌<◌, ◌++◌, ℕ, length, take, drop, vec_capacity, arith, subst, sym, ap, ◌∙◌}
use Rattle.std.specs.Result.{OnErr, OnOk}
use Rattle.std.proofs.lemmas.List.{length-append}
use Rattle.std.proofs.lemmas.Grind.{common_steps}
use Rattle.pass_text.specs.Lines.{joined, lines_bytes, lines_of}
use Rattle.pass_text.proofs.LineLemmas.{take_lines, drop_lines}
use Rattle.pass_text.proofs.lines.lines_variant.Goals as goal

-- the parts that are set are those of the definition
parts : (c : goal.After-set) → take c.skip_lines-start.result c.args.file.now ++ take (length c.args.file.now - c.skip_lines-end.result) (drop c.skip_lines-end.result c.args.file.now) ≡ lines_bytes c.args.file.now c.args.at
parts c =
    let file = c.args.file.now in
    let lines = lines_of file in
    let index = c.args.at.index in
    let chunk = c.chunk_len-chunk.result in
    let start = c.skip_lines-start.result in
    let end = c.skip_lines-end.result in
    let front : take start file ≡ joined (take (index * chunk) lines) = ap (λ s. take s file) c.skip_lines-start.ensures.length ∙ take_lines (index * chunk) file in
    let rest : take (length file - end) (drop end file) ≡ drop end file = grind (arith, common_steps) in
    let back : take (length file - end) (drop end file) ≡ joined (drop ((index + 1) * chunk) lines) = rest ∙ ap (λ e. drop e file) c.skip_lines-end.ensures.length ∙ drop_lines ((index + 1) * chunk) file in
    let pieces = λ (k : ℕ). joined (take (index * k) lines) ++ joined (drop ((index + 1) * k) lines) in
    (λ i. front i ++ back i) ∙ ap pieces c.chunk_len-chunk.ensures.length

pub returns-clause-variant : goal.returns-clause-variant
returns-clause-variant c = subst (λ x. OnOk c.set.result (c.set.new.out.items ≡ x)) (parts c) c.set.ensures.ok

pub returns-clause-full : goal.returns-clause-full
returns-clause-full c =
    let file = c.args.file.now in
    let start = c.skip_lines-start.result in
    let end = c.skip_lines-end.result in
    let whole : length (take start file) + length (take (length file - end) (drop end file)) ≡ length (lines_bytes file c.args.at) =
    sym (length-append (take start file) (take (length file - end) (drop end file))) ∙ ap length (parts c) in
    subst (λ n. OnErr c.set.result (vec_capacity c.args.out.now < n)) whole c.set.ensures.full
