-- Laws of files whose runs are alike in any order.
use Rattle.std.specs.Prelude.{◌≡◌, ℕ, List}
use Rattle.cr_cursor.specs.declared.law.Reason.{Reason}
use Rattle.cr_meaning.specs.declared.run.Limits.{Limits}
use Rattle.cr_lawful.specs.Lawful.{IsLawful}
use Rattle.cr_order.specs.Orders.{IsLawfulInOrder, IsOrderReason}

-- a file that is lawful in any order is lawful
abbrev pub OrderedFilesAreLawful : Type 0
OrderedFilesAreLawful = (limits : Limits) (file : List ℕ) → IsLawfulInOrder limits file → IsLawful limits file

-- and has no reason against it within the same limits
abbrev pub HasNoOrderReason : Type 0
HasNoOrderReason = (limits : Limits) (file : List ℕ) (reason : Reason) → IsOrderReason limits file reason → IsLawfulInOrder limits file → ⊥

-- within limits a file has one reason against it at most
abbrev pub HasOneOrderReason : Type 0
HasOneOrderReason = (limits : Limits) (file : List ℕ) (reason other : Reason) → IsOrderReason limits file reason → IsOrderReason limits file other → reason ≡ other
