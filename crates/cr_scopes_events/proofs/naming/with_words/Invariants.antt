use Rattle.std.proofs.Common.{◌≡◌, take, fold}
use Rattle.cr_scopes_events.specs.declared.naming.Storage.TheVariants.{NoWord}
use Rattle.cr_scopes_events.specs.Scripts.{with_word, kind_at}
use Rattle.cr_scopes_events.proofs.naming.with_words.Given as goal

abbrev pub invariant-loop-word : goal.invariant-loop-word
invariant-loop-word l = l.storage ≡ fold (λ storage word. with_word storage (kind_at l.nodes word)) NoWord (take l.word-index l.words)
