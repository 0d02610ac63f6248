-- The footprint of an evaluated expression: what its events read and write, as three sets of cells (6.5p2).
use Rattle.std.specs.Prelude.{◌≡◌, Bool, true, false, ◌&&◌, ◌||◌}
use Rattle.cr_footprint.specs.Cell.{Cell, same_cell}
use Rattle.cr_footprint.specs.Cells.{has}
use Rattle.cr_footprint.specs.declared.foot.Foot.{Foot}

-- the cells that are read; those that are written or touched; and of the written ones those whose side effect is still open,
-- with no sequence point between it and what comes next
pub record Sets : Type 0 where
  pub reads : Cell → Bool
  pub writes : Cell → Bool
  pub opens : Cell → Bool

abbrev pub sets : Foot → Sets
sets foot = record { reads = has foot.reads; writes = has foot.writes; opens = has foot.opens }

abbrev pub no_events : Sets
no_events = record { reads = λ c. false; writes = λ c. false; opens = λ c. false }

-- the set with one cell more
abbrev pub adding : (Cell → Bool) → Cell → Cell → Bool
adding set cell c = set c || same_cell c cell

abbrev pub with_read : Sets → Cell → Sets
with_read f cell = record f { reads = adding f.reads cell }

-- one more touch, the read of a volatile object: a side effect (5.1.2.3p2), which is settled at once
abbrev pub with_touch : Sets → Cell → Sets
with_touch f cell = record f { writes = adding f.writes cell }

-- one more write, which is open
abbrev pub with_write : Sets → Cell → Sets
with_write f cell = record f { writes = adding f.writes cell; opens = adding f.opens cell }

-- more reads, and more writes, which are open: those of a set of cells
abbrev pub with_reads : Sets → (Cell → Bool) → Sets
with_reads f cells = record f { reads = λ c. f.reads c || cells c }

abbrev pub with_writes : Sets → (Cell → Bool) → Sets
with_writes f cells = record f { writes = λ c. f.writes c || cells c; opens = λ c. f.opens c || cells c }

-- the open writes on cells of a set
abbrev pub open_in : Sets → (Cell → Bool) → Cell → Bool
open_in f cells c = f.opens c && cells c

-- two evaluations without a sequence point between them
abbrev pub union_of : Sets → Sets → Sets
union_of f g = record {
  reads = λ c. f.reads c || g.reads c;
  writes = λ c. f.writes c || g.writes c;
  opens = λ c. f.opens c || g.opens c;
}

-- an evaluation, a sequence point, and the next evaluation
abbrev pub then_of : Sets → Sets → Sets
then_of f g = record {
  reads = λ c. f.reads c || g.reads c;
  writes = λ c. f.writes c || g.writes c;
  opens = g.opens;
}

-- an event of any kind
abbrev pub accesses : Sets → Cell → Bool
accesses f c = f.reads c || f.writes c

-- a write or a touch of one, settled or open, meets an event of the other
abbrev pub meets : Sets → Sets → Cell → Bool
meets f g c = (f.writes c && accesses g c) || (g.writes c && accesses f c)

-- the conflict of an operator's own event: its operands have an open write on that very cell
pub record IsOpenAt (f : Sets) (own found : Cell) : Type 0 where
  pub there : f.opens own ≡ true
  pub same : found ≡ own
