use Rattle.std.proofs.Common.{ℕ, Some, Err, inl, ap, sym, subst, arith}
use Rattle.cr_journal_rows.specs.declared.fault.JournalFault.TheVariants.{Differs}
use Rattle.cr_replay.specs.Chains.{chain_of}
use Rattle.cr_journal.specs.Replay.{IsReplayed}
use Rattle.cr_journal.proofs.Replayed.{not_both, one_break, replayed}
use Rattle.cr_journal.proofs.replaying.replay.Goals as goal

pub returns-in-To-clause-replayed : goal.returns-in-To-clause-replayed
returns-in-To-clause-replayed g c =
    let chain = chain_of g.P.Passes c.args.passes.now g.L.Law c.args.law.now (Some c.args.limit) in
    subst (IsReplayed chain c.args.file.items c.args.rows.items) (sym c.kept_at.ensures)
    (replayed chain (record { no_more_passes = g.met.P.Passes.no_more_passes c.args.passes.now; sixteen_levels = g.met.P.Passes.sixteen_levels c.args.passes.now })
    c.args.file.items c.in-To.last c.args.rows c.in-To.turns c.requires.tokenizes (omega arith) c.in-To.ensures.0)

pub returns-in-To-clause-every_difference : goal.returns-in-To-clause-every_difference
returns-in-To-clause-every_difference g c = λ i breaks.
    let chain = chain_of g.P.Passes c.args.passes.now g.L.Law c.args.law.now (Some c.args.limit) in
    absurd (not_both chain (g.met.P.Passes.one c.args.passes.now) c.args.file.items c.args.rows c.in-To.last.items c.in-To.turns i c.requires.tokenizes c.in-To.ensures.0 breaks)

pub returns-in-Breaks-clause-every_replay : goal.returns-in-Breaks-clause-every_replay
returns-in-Breaks-clause-every_replay g c = λ last turns follows.
    let chain = chain_of g.P.Passes c.args.passes.now g.L.Law c.args.law.now (Some c.args.limit) in
    absurd (not_both chain (g.met.P.Passes.one c.args.passes.now) c.args.file.items c.args.rows last turns c.in-Breaks.number c.requires.tokenizes follows c.in-Breaks.ensures)

pub returns-in-Breaks-clause-every_difference : goal.returns-in-Breaks-clause-every_difference
returns-in-Breaks-clause-every_difference g c = λ i breaks.
    let chain = chain_of g.P.Passes c.args.passes.now g.L.Law c.args.law.now (Some c.args.limit) in
    inl (ap (λ (k : ℕ). Err (Differs k)) (one_break chain (g.met.P.Passes.one c.args.passes.now) c.args.file.items c.args.rows c.in-Breaks.number i c.in-Breaks.ensures breaks))
