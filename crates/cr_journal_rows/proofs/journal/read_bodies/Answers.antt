use Rattle.std.proofs.Common.{◌≡◌, ◌-◌, ◌∷◌, Err, List, ℕ, Vec, drop, length, take, sym, ◌∙◌, ap, subst, arith, length-drop}
use Rattle.std.proofs.lemmas.List.{drop_more, take_all}
use Rattle.std.specs.declared.alloc.Global.{Global}
use Rattle.cr_journal_rows.specs.Forms.{ReadsRows}
use Rattle.cr_journal_rows.proofs.Firsts.{rows_refused}
use Rattle.cr_journal_rows.proofs.journal.read_bodies.Goals as goal

pub returns-in-Err : goal.returns-in-Err
returns-in-Err c =
    let bodies = c.args.bodies.now in
    let first = c.first-item.result in
    let rest = drop 1 bodies in
    let whole : take (length bodies - 1) rest ≡ rest = take_all (length bodies - 1) rest (omega (arith, length-drop 1 bodies)) in
    let is : bodies ≡ first ∷ rest = drop_more bodies 0 first c.in-len1-up.len_at_least ∙ ap (λ (v : Vec ℕ Global). v ∷ rest) (sym c.first-item.is) in
    rows_refused c.in-Some.header bodies first rest c.in-Err.fault is (sym c.deref.ensures.value ∙ c.in-Some.ensures.header)
    (subst (λ l. ReadsRows l (Err c.in-Err.fault)) whole c.in-Err.ensures)
