-- What is asked of names gives all that names, tags and constants are.
use Rattle.cr_meaning_references.specs.Told.Laws
use Rattle.cr_meaning_references.proofs.ToldLemmas.Found.{are_found, tags_found}
use Rattle.cr_meaning_references.proofs.ToldLemmas.Constants as told

pub all_found : Laws.AllAreFound
all_found file t it asked = record {
  names = λ i n at used. (let x = are_found file t it i n at used in
      record { declared = x.declared; is = x.is; below = x.below; typed = λ is. asked.typed i x.declared n at is x.is; ordinary = x.ordinary });
  tags = tags_found file t it;
  constants = told.constants file t it;
}
