-- Judges beyond the workers that words ask for are as they were: words ask for so many workers at most.
use Rattle.std.proofs.Common.{◌≡◌, ℕ, List, drop, refl, subst}
use Rattle.cr_main_words.specs.Giving.{HasSettings}
use Rattle.cr_main_words.specs.RequestLaws.{SameRequest}
use Rattle.cr_main_words.specs.Requests.{Asks}
use Rattle.cr_main_words.specs.Words.{Word}
use Rattle.cr_main_words.specs.declared.request.Request.{Request}
use Rattle.cr_main_words.specs.declared.request.Request.TheVariants as request
use Rattle.cr_main_words.specs.declared.settings.Settings.{Settings}
use Rattle.cr_main_words.proofs.Asking.{one_request}
use Rattle.cr_main_words.proofs.Giving.{one_settings}
use Rattle.cr_main.specs.Headline.{KeepsToWorkers}
use Rattle.cr_main.specs.More.{KeepsToAsked, LeavesOthers}

module _ {J : Type 0} (words : List Word) (most : ℕ) (old new : List J) where
  pub to_workers : (given : Settings) → HasSettings words most given → drop given.workers new ≡ drop given.workers old → KeepsToWorkers words most old new
  to_workers given has others = λ settings gives. subst (λ n. drop n new ≡ drop n old) (one_settings words most given settings has gives).workers others

  alike : (one other : Request) → SameRequest one other → LeavesOthers one old new → LeavesOthers other old new
  alike (request.Reduction a modes) (request.Reduction b others) same left = subst (λ n. drop n new ≡ drop n old) same.0.workers left
  alike (request.Reduction a modes) (request.Replay b) same left = absurd same
  alike (request.Replay a) (request.Reduction b others) same left = absurd same
  alike (request.Replay a) (request.Replay b) same left = left

  pub to_asked : (given : Request) → Asks words most given → LeavesOthers given old new → KeepsToAsked words most old new
  to_asked given has left = λ asked asks. alike given asked (one_request words most given asked has asks) left

pub leaves_all : {J : Type 0} → (judges : List J) (asked : Request) → LeavesOthers asked judges judges
leaves_all judges (request.Reduction settings modes) = refl
leaves_all judges (request.Replay asked) = refl
