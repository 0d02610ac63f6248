use Rattle.std.proofs.Common.{◌≡◌, ◌-◌, ◌∷◌, List, ℕ, Vec, length, take, drop, Ok, Some, refl, sym, ◌∙◌, ap, subst, arith}
use Rattle.std.specs.declared.alloc.Global.{Global}
use Rattle.cr_journal_records.specs.Reading.{OpenAt}
use Rattle.cr_journal_records.proofs.Readings.{opened, one_body}
use Rattle.cr_journal_records.proofs.recovery.read_record.Goals as goal

pub returns-clause-opens : goal.returns-clause-opens
returns-clause-opens g c body is =
    let same : c.in_ok-body.body ≡ body = cc is in
    let size : length c.read.new.into ≡ 32 = c.read.ensures.length in
    let count : 31 ≡ length c.read.new.into - 1 = omega (arith, size) in
    let found = one_body c.read.new.into c.in_ok-body.body.items size (omega (arith, c.if-record-ne1.false))
    (c.in_ok-body.ensures.same ∙ ap (λ (n : ℕ). take n (drop 1 c.read.new.into)) count) in
    subst (λ (v : Vec ℕ Global). (length v.items ≡ 31) × OpenAt (g.D.Outside.story c.args.disk.now) c.args.at v.items) same
    (found.0, opened (g.D.Outside.story c.args.disk.now) c.args.at c.read.new.into c.in_ok-body.body.items c.in_ok-read.ensures.gives found.1)
