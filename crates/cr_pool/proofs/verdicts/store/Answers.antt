use Rattle.cr_pool.proofs.Keeping.{few_stored, stored}
use Rattle.cr_pool.proofs.verdicts.store.Goals as goal
use Rattle.cr_pool.proofs.verdicts.store.Goals.{in-Ok, in-Err}

pub returns-clause-few : goal.returns-clause-few
returns-clause-few c = few_stored c.args.key c.put.result c.args.cache.now c.put.new.self c.args.verdict c.put.ensures.entries c.put.ensures.err c.requires.most c.requires.few

pub returns-clause-put : goal.returns-clause-put
returns-clause-put c = elim c.match-put.branch [
  | in-Ok w ↦ rw w.result-is (stored c.args.key c.args.cache.now c.put.new.self c.args.verdict w.in-Ok.ensures.entries c.requires.most c.requires.few)
  | in-Err w ↦ rw w.result-is tt
]
