use Rattle.cr_exec_library.proofs.Printing.{is_read, format_ends}
use Rattle.std.proofs.Common.{subst, sym, Err}
use Rattle.cr_memory.specs.declared.value.Trap.{Trap}
use Rattle.cr_meaning.specs.Library.{pieces_of}
use Rattle.cr_eval.specs.Answers.{Answers}
use Rattle.cr_exec_library.specs.Printing.{read_of}
use Rattle.cr_exec_library.proofs.calls.read.Goals as goal

pub returns-in-Ok : goal.returns-in-Ok
returns-in-Ok c = record { says = is_read c.args.format.now c.in-Ok.pieces.items c.in-Ok.ensures.spelled }

pub returns-in-Err : goal.returns-in-Err
returns-in-Err c =
    let P : Trap → Type 0 = λ t. Answers (read_of (pieces_of c.args.format.now)) (Err t) in
    subst P (sym c.trap_of.ensures) (format_ends c.args.format.now c.in-Err.end (λ e. c.in-Err.ensures.outside (cc e)))
