use Rattle.cr_sequence.proofs.sequence.Sequence.pattern.Goals as goal

pub returns : goal.returns
returns g c = rw (← c.self.view_is) c.pattern_behind.ensures
