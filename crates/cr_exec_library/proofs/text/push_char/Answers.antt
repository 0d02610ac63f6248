use Rattle.cr_exec_library.proofs.Printing.{char_ends}
use Rattle.cr_exec_library.proofs.text.push_char.Goals as goal

pub returns-in-Err : goal.returns-in-Err
returns-in-Err c = char_ends c.args.store.now c.args.at c.args.out.now.items c.args.out.now.items c.in-Err.trap c.in-Err.ensures
