use Rattle.std.proofs.Common.{◌∙◌, refl}
use Rattle.cr_check_types.specs.Shared.{has}
use Rattle.cr_check_types.proofs.table.Table.add.Goals as goal

pub returns-in-Some-clause-shared : goal.returns-in-Some-clause-shared
returns-in-Some-clause-shared c =
    let h = rw (c.deref.ensures.value, c.self.view_is) at c.in-Some.ensures.there in
    has c.in-Some.row h.within (h.is ∙ c.normal-shape.ensures.same _) c.self.view_is
