use Rattle.std.proofs.Common.{ℕ, List, sym, subst, ◌∙◌}
use Rattle.cr_syntax.specs.declared.unit.Unit as source
use Rattle.cr_scopes.specs.declared.names.Names.{Names}
use Rattle.cr_holding.proofs.Kept.{kept}
use Rattle.cr_check_literals.specs.Texts.{AreTexts}
use Rattle.cr_check_surroundings.specs.Surroundings.{AreSurroundings}
use Rattle.cr_check.specs.declared.checked.Checked.{Checked}
use Rattle.cr_check.specs.Columns.{IsCheckedFirst, IsWholeFirst}
use Rattle.cr_check.proofs.checked.gather.Goals as goal

-- what is checked, by what it is checked by
checked_by : (file : List ℕ) (unit : source.Unit) (names : Names) (j : Checked) → AreSurroundings file unit names j.surroundings
    → AreTexts file unit.tokens.list.items unit.nodes j.texts → IsWholeFirst file unit j.surroundings j.texts j.table j.whole
    → IsCheckedFirst file unit names j
checked_by file unit names j surroundings texts whole = record {
  tree = whole.tree;
  is = record { surroundings = surroundings; texts = texts; whole = whole.is };
  first = whole.first;
}

pub returns : goal.returns
returns c =
    let file = c.args.file.now in
    let unit = c.args.unit.now in
    let names = c.args.names.now in
    let first = c.in_ok-surroundings.surroundings in
    let s = c.in_ok-whole.surroundings in
    let table = c.whole_of-whole.new.table in
    let whole = c.in_ok-whole.whole in
    let texts = c.in_ok-texts.texts.items in
    let same = sym c.from_vec.ensures in
    let (is, held) = kept (λ w. IsWholeFirst file unit first c.deref.result.now table w) c.whole_of-whole.result first (whole, s)
    (sym c.holding.ensures ∙ c.in_ok-whole.was) c.whole_of-whole.ensures in
    checked_by file unit names (record { surroundings = s; texts = c.from_vec.result; table = table; whole = whole })
    (subst (AreSurroundings file unit names) held c.in_ok-surroundings.ensures)
    (subst (AreTexts file unit.tokens.list.items unit.nodes) same
    (subst (λ ns. AreTexts file unit.tokens.list.items ns texts) c.as_slice.ensures
    (subst (λ ts. AreTexts file ts c.as_slice.result.now texts) c.as_slice-tokens.ensures.value c.in_ok-texts.ensures)))
    (subst (λ x. IsWholeFirst file unit s x table whole) (c.deref.ensures.value ∙ same)
    (subst (λ x. IsWholeFirst file unit x c.deref.result.now table whole) held is))
