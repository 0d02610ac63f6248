use Rattle.cr_check_types.proofs.Tables.{append_grows, append_is_row}
use Rattle.cr_check_types.proofs.Shared.{puts_at, put_before, put_behind, append_gains}
use Rattle.cr_check_types.proofs.table.put.Goals as goal

pub returns-in_err-push-clause-shared : goal.returns-in_err-push-clause-shared
returns-in_err-push-clause-shared c =
    rw (c.in_err-push.ensures.items) (put_before _ _ _ _ _ c.requires.shared c.requires.absent
    (puts_at _ _ _ _ _ _ c.key_of.ensures c.in_ok-row.ensures c.in_ok-insert.ensures.updates.0))

pub returns-clause-shared : goal.returns-clause-shared
returns-clause-shared c =
    rw c.in_ok-push.ensures.items (put_behind _ _ _ _ c.requires.shared c.requires.normal c.requires.absent c.requires.room
    (puts_at _ _ _ _ _ _ c.key_of.ensures c.in_ok-row.ensures c.in_ok-insert.ensures.updates.0))

pub returns-clause-made : goal.returns-clause-made
returns-clause-made c = rw (c.in_ok-push.ensures.items, c.in_ok-row.ensures) (append_is_row _ c.args.shape)

pub returns-clause-grows : goal.returns-clause-grows
returns-clause-grows c = rw c.in_ok-push.ensures.items (append_grows _ c.args.shape)

pub returns-clause-with : goal.returns-clause-with
returns-clause-with c =
    rw c.in_ok-push.ensures.items (append_gains _ _ _ c.requires.shared c.requires.normal c.requires.absent c.requires.room)
