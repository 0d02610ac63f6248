-- Two checks of a unit say the same of the structures whose members it names.
use Rattle.std.proofs.Common.{◌≡◌, ℕ, List, ap, ◌∙◌}
use Rattle.cr_syntax.specs.declared.unit.Unit as source
use Rattle.cr_scopes.specs.declared.names.Names.{Names}
use Rattle.cr_check_declarations.specs.declared.tree.Tree.{Tree}
use Rattle.cr_check_unit.proofs.OneTyping.{one_typing}
use Rattle.cr_check.specs.declared.checked.Checked.{Checked}
use Rattle.cr_check.specs.Columns.{IsChecked}
use Rattle.cr_check.specs.Checked.{IsSoundOf}
use Rattle.cr_check.specs.Laws.{AreSameLists}
use Rattle.cr_check.proofs.Units.{checked_carried}
use Rattle.cr_check.proofs.Verdicts.{second_carried}
use Rattle.cr_lawful_analysis.specs.Members.{seen_in, structures_by, structures_of}

-- by the one typing, to which the second check is carried
same_seen : (file : List ℕ) (unit : source.Unit) (names : Names) (j k : Checked) (t s : Tree) → IsChecked file unit names j t
    → IsChecked file unit names k s → seen_in j ≡ seen_in k
same_seen file unit names j k t s h g =
    let typing = (second_carried file unit names j k t s h g).typing in
    let alike = one_typing t j.texts j.table k.table j.whole.typing k.whole.typing h.whole.typing typing in
    λ x node. (alike node).fact x

pub same_structures : (file : List ℕ) (u v : source.Unit) (names : Names) (j k : Checked) → AreSameLists u v → IsSoundOf file u names j
    → IsSoundOf file v names k → structures_of u.nodes j ≡ structures_of v.nodes k
same_structures file u v names j k same is also =
    ap (λ nodes. structures_of nodes j) same.nodes
    ∙ ap (λ at. structures_by at v.nodes)
    (same_seen file v names j k is.tree also.tree (checked_carried u v same file names j is.tree is.is) also.is)
