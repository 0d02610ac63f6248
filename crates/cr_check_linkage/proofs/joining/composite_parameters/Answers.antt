use Rattle.std.proofs.Common.{rules, ◌≡◌, ◌+◌, ◌<◌, ◌≤◌, ◌++◌, min, length, map, drop, sym, ap, subst, ◌∙◌, arith}
use Rattle.cr_check_types.specs.Types.{type_at}
use Rattle.cr_check_types.specs.Relations.{AreRows}
use Rattle.cr_check_declarations.proofs.Adjusted.{within_more}
use Rattle.cr_check_linkage.specs.NameTypes.{composite_parameters}
use Rattle.cr_check_linkage.proofs.Rows.{two_more, all_done}
use Rattle.cr_check_linkage.proofs.joining.composite_parameters.Goals as goal

pub loop-k-preserved : goal.loop-k-preserved
loop-k-preserved c =
    let f = type_at c.args.table.now in
    let old = c.loop-k.table in
    let new = c.composite_bare.new.table in
    let rows = c.loop-k.rows.items in
    let xs = c.args.earlier.now in
    let ys = c.args.own.now in
    let k = c.loop-k.k in
    let row = c.in_ok-row.row in
    let all = c.in_ok-push.ensures.items in
    let made = c.in_ok-row.ensures.made in
    let more = c.in_ok-row.ensures.grows in
    let test = c.loop-k-test.true in
    let low : k < length xs = omega (arith, test) in
    let other : k < length ys = omega (arith, test) in
    record {
      grows = search rules;
      within = subst (AreRows new) (sym all) (within_more old new rows row more c.loop-k.invariant.within made.within);
      is = subst
          (λ zs. map (type_at new) zs ++ composite_parameters (map f (drop (k + 1) xs)) (map f (drop (k + 1) ys)) ≡ composite_parameters (map f xs) (map f ys))
          (sym all)
          (two_more c.args.table.now old new rows xs ys k row c.loop-k.invariant.grows more c.requires.earlier c.requires.own c.loop-k.invariant.within
          low other c.loop-k.invariant.is made);
    }

pub returns-clause-is : goal.returns-clause-is
returns-clause-is c =
    let f = type_at c.args.table.now in
    let xs = c.args.earlier.now in
    let ys = c.args.own.now in
    let count = c.min-count.ensures in
    let test = c.loop-k-test.false in
    let high : min (length xs) (length ys) ≤ c.loop-k.k = omega (arith, count, test) in
    ap (map (type_at c.loop-k.table)) c.from_vec.ensures
    ∙ all_done f (type_at c.loop-k.table) c.loop-k.rows.items xs ys c.loop-k.k (composite_parameters (map f xs) (map f ys)) high c.loop-k.invariant.is
