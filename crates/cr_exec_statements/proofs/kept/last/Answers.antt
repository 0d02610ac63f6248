use Rattle.cr_exec_statements.proofs.Keeping.{last_shown}
use Rattle.cr_exec_statements.proofs.kept.last.Goals as goal

pub returns-in-Some-clause-shown : goal.returns-in-Some-clause-shown
returns-in-Some-clause-shown c = λ answers z.
    last_shown c.args.stack.now.top.done c.pop.new.self.top.done c.in-Some.held answers c.in-Some.ensures.last z
