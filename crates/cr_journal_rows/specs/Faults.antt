-- The faults of a journal.
use Rattle.cr_outside_disk.specs.declared.disk.DiskFault.{DiskFault}
use Rattle.cr_outside_disk.specs.declared.disk.DiskFault.TheVariants as disk
use Rattle.cr_journal_rows.specs.declared.fault.JournalFault.{JournalFault}
use Rattle.cr_journal_rows.specs.declared.fault.JournalFault.TheVariants as journal

-- what a fault of the disk is to the journal
abbrev pub fault_of_disk : DiskFault → JournalFault
fault_of_disk disk.Failed = journal.Disk
fault_of_disk disk.NoMemory = journal.NoMemory
