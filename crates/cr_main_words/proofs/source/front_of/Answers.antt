use Rattle.std.proofs.lemmas.Bool.Decides.{Decides-eqb}
use Rattle.std.proofs.lemmas.Slice.Eq.{strip_suffix_is}
use Rattle.cr_main_words.proofs.source.front_of.Goals as goal

pub returns : goal.returns
returns c = strip_suffix_is Decides-eqb c.args.name.now c.args.part.now c.strip_suffix.result c.strip_suffix.ensures.cases
