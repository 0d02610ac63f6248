use Rattle.std.proofs.Common.{◌∙◌, ap, sym, slice_index_or}
use Rattle.cr_meaning_operations.specs.Operations.{is_name}
use Rattle.cr_exec_table.proofs.Names.{name_here, name_behind, part_known}
use Rattle.cr_exec_table.proofs.nodes.name_at.Goals as goal

pub returns-then-is_name : goal.returns-then-is_name
returns-then-is_name c = sym (name_here c.args.types.now c.requires.below c.args.node c.requires.within (ap is_name (sym c.kind.ensures) ∙ sym c.is_name.ensures ∙ c.if-is_name.true))

pub returns-else-is_name : goal.returns-else-is_name
returns-else-is_name c =
    c.known_name.ensures
    ∙ ap (λ part. slice_index_or c.args.names.now.items part 0) c.part.ensures
    ∙ part_known c.args.types.now c.requires.below c.args.names.now.items c.args.node c.requires.count c.requires.each
    ∙ sym (name_behind c.args.types.now c.requires.below c.args.node c.requires.within (ap is_name (sym c.kind.ensures) ∙ sym c.is_name.ensures ∙ c.if-is_name.false))
