use Rattle.std.proofs.Common.{◌≡◌, ℕ, subst, sym}
use Rattle.cr_journal_rows.specs.declared.fault.JournalFault.{JournalFault}
use Rattle.cr_journal_rows.specs.declared.fault.JournalFault.TheVariants as fault
use Rattle.cr_main_kept.specs.Lines.{PutsFault}
use Rattle.cr_main_kept.proofs.lines.put_stop.Goals as goal

pub returns-in-Disk : goal.returns-in-Disk
returns-in-Disk g c =
    subst (λ (f : JournalFault). PutsFault (g.O.Sink.told c.args.out.now) (g.O.Sink.told c.put_fault.new.out) (g.O.Sink.faults c.args.out.now) (g.O.Sink.faults c.put_fault.new.out) c.args.name.now f c.put_fault.result)
    (sym c.in-Disk.is) c.put_fault.ensures

pub returns-in-Bad : goal.returns-in-Bad
returns-in-Bad g c =
    subst (λ (f : JournalFault). PutsFault (g.O.Sink.told c.args.out.now) (g.O.Sink.told c.put_refused.new.out) (g.O.Sink.faults c.args.out.now) (g.O.Sink.faults c.put_refused.new.out) c.args.name.now f c.put_refused.result)
    (sym c.in-Bad.is) c.put_refused.ensures

pub returns-in-Differs : goal.returns-in-Differs
returns-in-Differs g c =
    subst (λ (f : JournalFault). PutsFault (g.O.Sink.told c.args.out.now) (g.O.Sink.told c.put_refused-in-Differs.new.out) (g.O.Sink.faults c.args.out.now) (g.O.Sink.faults c.put_refused-in-Differs.new.out) c.args.name.now f c.put_refused-in-Differs.result)
    (sym c.in-Differs.is)
    (let same : c.from.result ≡ c.in-Differs.number = cc c.from.ensures in
    subst (λ (n : ℕ). PutsFault (g.O.Sink.told c.args.out.now) (g.O.Sink.told c.put_refused-in-Differs.new.out) (g.O.Sink.faults c.args.out.now) (g.O.Sink.faults c.put_refused-in-Differs.new.out) c.args.name.now (fault.Differs n) c.put_refused-in-Differs.result)
    same c.put_refused-in-Differs.ensures)
