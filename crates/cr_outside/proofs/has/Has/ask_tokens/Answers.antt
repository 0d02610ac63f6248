use Rattle.std.proofs.Common.{subst, sym}
use Rattle.cr_tokens.specs.Runs.{spellings, StandsIn}
use Rattle.cr_outside.specs.HasText.{HasText}
use Rattle.cr_outside.proofs.Texts.{stands_of}
use Rattle.cr_outside.proofs.has.Has.ask_tokens.Goals as goal

pub returns-else-contains-clause-no : goal.returns-else-contains-clause-no
returns-else-contains-clause-no c = λ _ has.
    let text = c.self.inside.text.items in
    let wanted = c.self.inside.wanted.list.items in
    let file = c.args.file.now in
    let stands = stands_of text file wanted c.args.tokens.now.list.items c.self.invariant.0 c.requires (subst (λ t. HasText t file) (sym c.self.view_is) has) in
    let found = c.contains.ensures.1 (subst (λ t. StandsIn (spellings t wanted) (spellings file c.args.tokens.now.list.items)) (sym c.deref.ensures.value) stands) in
    cc
