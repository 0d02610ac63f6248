use Rattle.std.proofs.Common.{[], ap, sym, ◌∙◌, map, take, get_or}
use Rattle.clap.specs.Words.{app_of}
use Rattle.clap.specs.Simple.{with_rule}
use Rattle.cr_main_words.specs.Splitting.{app_of_names, option_rule}
use Rattle.cr_main_words.proofs.Results.{names_more, option_more}
use Rattle.cr_main_words.proofs.command.command.Goals as goal

pub loop-name-preserved : goal.loop-name-preserved
loop-name-preserved c =
    let before = map (λ n. n.now) (take c.loop-name.name-index c.args.names.now) in
    let name = get_or c.args.names.now c.loop-name.name-index (record { ref_ptr = (0, 0); now = [] }) in
    c.in_ok-command.ensures.shape c.option.ensures.local
    ∙ ap (with_rule (app_of c.loop-name.command)) c.option.ensures.rule
    ∙ ap (λ a. with_rule a (option_rule name.now)) c.loop-name.invariant
    ∙ option_more before name.now
    ∙ ap app_of_names (sym (names_more c.args.names.now c.loop-name.name-index (record { ref_ptr = (0, 0); now = [] }) c.loop-name-test.true))
