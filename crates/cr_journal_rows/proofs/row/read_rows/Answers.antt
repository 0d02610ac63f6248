use Rattle.std.proofs.Common.{◌≡◌, ◌≤◌, ◌+◌, ◌∷◌, ◌++◌, All, List, ℕ, Vec, drop, length, map, sym, ◌∙◌, ap, subst, arith, ◌<◌}
use Rattle.std.proofs.lemmas.List.{drop_more}
use Rattle.std.proofs.lemmas.List.Elements.{All-push}
use Rattle.std.specs.declared.alloc.Global.{Global}
use Rattle.cr_reduce.specs.declared.end.Accepted.{Accepted}
use Rattle.cr_journal_records.specs.Reading.{bodies_of}
use Rattle.cr_journal_rows.specs.Forms.{HasRowForm, IsFirstBadRow, RowFits, row_body}
use Rattle.cr_journal_rows.proofs.Firsts.{bad_row, one_more}
use Rattle.cr_journal_rows.proofs.row.read_rows.Goals as goal
use Rattle.cr_cursor.specs.Variants.{pass_count}

pub returns-in_default : goal.returns-in_default
returns-in_default c =
    let bodies = c.args.bodies.now in
    let rows = c.loop-body.rows.items in
    let index = c.loop-body.body-index in
    let item = c.body-item.result in
    let behind = drop (index + 1) bodies in
    let drops : drop index bodies ≡ item ∷ behind = drop_more bodies index item c.loop-body-test.true ∙ ap (λ (v : Vec ℕ Global). v ∷ behind) (sym c.body-item.is) in
    let so_far = c.loop-body.invariant.so_far ∙ ap (λ (l : List (Vec ℕ Global)). map row_body rows ++ bodies_of l) drops in
    let bad = subst (λ (l : List ℕ). length l ≡ 31 → HasRowForm l → ⊥) c.deref.ensures.value (c.read_row.ensures.none c.in_default.is) in
    let count : length rows ≡ c.len.result = omega (arith, c.len.ensures) in
    subst (λ (n : ℕ). All (λ (b : List ℕ). length b ≡ 31) (bodies_of bodies) → IsFirstBadRow (bodies_of bodies) (n + 1)) count
    (bad_row bodies rows behind item so_far c.loop-body.invariant.low bad)

pub loop-body-preserved : goal.loop-body-preserved
loop-body-preserved c =
    let bodies = c.args.bodies.now in
    let rows = c.loop-body.rows.items in
    let index = c.loop-body.body-index in
    let item = c.body-item.result in
    let behind = drop (index + 1) bodies in
    let row = c.in-Some.row in
    let drops : drop index bodies ≡ item ∷ behind = drop_more bodies index item c.loop-body-test.true ∙ ap (λ (v : Vec ℕ Global). v ∷ behind) (sym c.body-item.is) in
    let so_far = c.loop-body.invariant.so_far ∙ ap (λ (l : List (Vec ℕ Global)). map row_body rows ++ bodies_of l) drops in
    let is : item.items ≡ row_body row = sym c.deref.ensures.value ∙ c.in-Some.ensures.row.0 in
    record {
      so_far = one_more bodies rows behind item so_far row is ∙ ap (λ (l : List Accepted). map row_body l ++ bodies_of behind) (sym c.in-Ok.ensures.items);
      low = subst (All (λ (r : Accepted). r.at.pass < pass_count)) (sym c.in-Ok.ensures.items) (All-push (λ (r : Accepted). r.at.pass < pass_count) rows row c.loop-body.invariant.low c.in-Some.ensures.row.1);
      fits = subst (All RowFits) (sym c.in-Ok.ensures.items) (All-push RowFits rows row c.loop-body.invariant.fits c.in-Some.ensures.row.2);
    }
