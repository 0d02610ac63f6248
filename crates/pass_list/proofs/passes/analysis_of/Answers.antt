use Rattle.pass_list.proofs.Reading.{known_of, tokens_of}
use Rattle.pass_list.proofs.passes.analysis_of.Goals as goal

pub returns-in-None-clause-read : goal.returns-in-None-clause-read
returns-in-None-clause-read c = known_of c.args.file.now c.analyse.result c.analyse.ensures

pub returns-in-None-clause-tokens : goal.returns-in-None-clause-tokens
returns-in-None-clause-tokens c = tokens_of c.args.file.now c.analyse.result c.analyse.ensures
