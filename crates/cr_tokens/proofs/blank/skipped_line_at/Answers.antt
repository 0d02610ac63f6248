use Rattle.std.proofs.Common.{slice_index, arith}
use Rattle.cr_tokens.specs.Bytes.{IsNondigit, IsSpace}
use Rattle.cr_tokens.specs.Numbers.{BeginsNumber}
use Rattle.cr_tokens.specs.Blanks.{OpensComment, BeginsSkipped}
use Rattle.cr_tokens.specs.Faults.{IsQuote}
use Rattle.cr_tokens.specs.Faults.FaultAt.{no_token}
use Rattle.cr_tokens.proofs.Firsts.{no_token_at, no_blank_at, no_hash}
use Rattle.cr_tokens.proofs.blank.skipped_line_at.Goals as goal

pub returns-else-begins_skipped-clause-fault : goal.returns-else-begins_skipped-clause-fault
returns-else-begins_skipped-clause-fault c =
    let file : _ = c.args.file.now in
    let no_skip : ¬ BeginsSkipped c.args.file.now c.args.at = λ s. absurd (cc (c.if-begins_skipped.ensures.1 s)) in
    let no_space : ¬ IsSpace (slice_index c.args.file.now c.args.at) = grind arith in
    let no_comment : ¬ OpensComment c.args.file.now c.args.at = grind arith in
    let no_quote : ¬ IsQuote (slice_index c.args.file.now c.args.at) = grind arith in
    let no_word : ¬ IsNondigit (slice_index c.args.file.now c.args.at) = grind arith in
    let no_number : ¬ BeginsNumber c.args.file.now c.args.at = grind arith in
    no_token c.requires.inside no_comment no_quote (no_blank_at _ _ no_space no_comment no_skip)
    (no_token_at _ _ no_word no_number no_quote (λ to a b. no_hash _ _ to a c.requires.hash))
