use native.Mathlib.Omega.{arith}
use Rattle.std.proofs.Common.{◌≡◌, ◌+◌, ◌++◌, [], ◌∷◌, length, ap, subst, sym}
use Rattle.std.proofs.lemmas.List.{length-append}
use Rattle.cr_lawful_analysis.specs.Analysis.{read_of}
use Rattle.pass_list.specs.Offers.{AreMenus, IfOn, IsOffered}
use Rattle.pass_list.specs.Passes.{pass_by}
use Rattle.pass_list.proofs.Menus.{menus_more}
use Rattle.pass_list.proofs.index.menus.Goals as goal

pub loop-pass-preserved : goal.loop-pass-preserved
loop-pass-preserved c =
    let enabled = c.args.enabled.now in
    let file = c.args.file.now in
    let read = read_of c.args.analysis.now in
    let menus = c.loop-pass.menus.items in
    let pass = c.loop-pass.pass in
    let menu = c.in_ok-menu.field-0 in
    let count = c.loop-pass.invariant.0 in
    let is = subst (λ on. IfOn on (IsOffered file read (pass_by pass)) menu) c.is_on.ensures c.in_ok-menu.ensures in
    let items : c.push.new.self.items ≡ menus ++ menu ∷ [] = c.in_ok-push.ensures.items in
    let longer = ap length items in
    let both = length-append menus (menu ∷ []) in (
      omega (arith, count, longer, both),
      subst (AreMenus enabled file read (pass + 1)) (sym items) (menus_more enabled file read menus menu pass count c.loop-pass.invariant.1 is),
    )
