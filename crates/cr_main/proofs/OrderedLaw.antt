-- The laws of programs that run alike in any order, and of those whose runs reach a label, are laws of programs.
use Rattle.std.proofs.Common.{◌<◌, ℕ, Bool, true, false, List, Option, None, Some, length, arith}
use Rattle.cr_cursor.specs.TokenLaw.{IsTokenized}
use Rattle.cr_cursor.specs.declared.law.Reason.{Reason}
use Rattle.cr_meaning.specs.declared.run.Limits.{Limits}
use Rattle.cr_order.specs.Orders.{IsLawfulInOrder, IsOrderReason}
use Rattle.cr_order.specs.Orders.IsOrderReason.{of_law, of_order}
use Rattle.cr_main_task.specs.Task.{IsOfPrograms}
use Rattle.cr_main_replay.proofs.LawOfPrograms.{law_is_of_programs}
use Rattle.cr_main.specs.Task.{law_by, ruled_by}
use Rattle.cr_main_words.specs.declared.modes.Modes.{Modes}
use Rattle.cr_reached.specs.Reached.{IsLawfulReached, IsReachReason, against_in, lawful_in}
use Rattle.cr_reached.specs.Reached.IsReasonOrUnreached.{of_law as of_reach_law, of_label}

too_long_too : (limits : Limits) (file other : List ℕ) (reason : Reason) → 1048576 < length file → 1048576 < length other → IsOrderReason limits file reason → IsOrderReason limits other reason
too_long_too limits file other reason long above (of_law it) = of_law ((law_is_of_programs limits).too_long file other reason long above it)
too_long_too limits file other reason long above (of_order typed loose it first is) = absurd (omega (arith, long, it.tokenizes.short))

pub order_is_of_programs : (limits : Limits) → IsOfPrograms (IsLawfulInOrder limits) (IsOrderReason limits)
order_is_of_programs limits = record {
  tokenizes = λ file it. (law_is_of_programs limits).tokenizes file it.lawful;
  too_long = too_long_too limits;
}

-- ---- so is that of programs whose runs reach a label

tokenizes_in : (any_order : Bool) (limits : Limits) (file : List ℕ) → lawful_in any_order limits file → IsTokenized file
tokenizes_in false limits file it = (law_is_of_programs limits).tokenizes file it
tokenizes_in true limits file it = (order_is_of_programs limits).tokenizes file it

too_long_in : (any_order : Bool) (limits : Limits) (file other : List ℕ) (reason : Reason) → 1048576 < length file → 1048576 < length other → against_in any_order limits file reason → against_in any_order limits other reason
too_long_in false limits file other reason long above it = (law_is_of_programs limits).too_long file other reason long above it
too_long_in true limits file other reason long above it = (order_is_of_programs limits).too_long file other reason long above it

reach_too_long : (any_order : Bool) (limits : Limits) (name file other : List ℕ) (reason : Reason) → 1048576 < length file → 1048576 < length other → IsReachReason any_order limits name file reason
    → IsReachReason any_order limits name other reason
reach_too_long any_order limits name file other reason long above (of_reach_law it) = of_reach_law (too_long_in any_order limits file other reason long above it)
reach_too_long any_order limits name file other reason long above (of_label typed lawful it unreached is) = absurd (omega (arith, long, it.tokenizes.short))

pub reach_is_of_programs : (any_order : Bool) (limits : Limits) (name : List ℕ) → IsOfPrograms (IsLawfulReached any_order limits name) (IsReachReason any_order limits name)
reach_is_of_programs any_order limits name = record {
  tokenizes = λ file it. tokenizes_in any_order limits file it.lawful;
  too_long = reach_too_long any_order limits name;
}

-- whichever the flags choose
ruled_is : (reached : Option (List ℕ)) (any_order : Bool) (limits : Limits) → IsOfPrograms (ruled_by reached any_order limits).Lawful (ruled_by reached any_order limits).Against
ruled_is None false limits = law_is_of_programs limits
ruled_is None true limits = order_is_of_programs limits
ruled_is (Some name) any_order limits = reach_is_of_programs any_order limits name

pub law_is : (modes : Modes) (limits : Limits) → IsOfPrograms (law_by modes limits).Lawful (law_by modes limits).Against
law_is modes limits = ruled_is modes.reached modes.any_order limits
