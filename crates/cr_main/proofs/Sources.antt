-- What is asked by the code's values is what is asked by the values of the settings.
use Rattle.std.proofs.Common.{◌≡◌, ℕ, List, Option, String, subst, sym}
use Rattle.std.specs.Global.{Global}
use Rattle.cr_cursor.specs.declared.law.Law.{Ghosts as LawGhosts}
use Rattle.cr_gen.specs.Program.{generated}
use Rattle.cr_outside.specs.Files.{Names}
use Rattle.cr_outside.specs.Question.{Says}
use Rattle.pass_list.specs.Offers.{Offers}
use Rattle.pass_list.specs.declared.passes.CPasses.{CPasses}
use Rattle.cr_main_kept.specs.KeptTask.{kept_with}
use Rattle.cr_main_task.specs.declared.asking.Asking.{Ghosts as AskingGhosts}
use Rattle.cr_main_task.specs.declared.task.Task.{Task as Asked}
use Rattle.cr_main_task.specs.Task.{Text, given, stored}
use Rattle.cr_main_words.specs.Names.{name_of}
use Rattle.cr_main_words.specs.declared.settings.Settings.{Settings}
use Rattle.cr_main_words.specs.declared.source.Source.{Source}
use Rattle.cr_main_words.specs.declared.source.Source.TheVariants as source
use Rattle.cr_main.specs.Task.{IsTaskOf, asked_by, text_of}

-- a task of settings asks what they ask
pub asked_task : {L A B : Type 0} (law : LawGhosts L) (asking : AskingGhosts A B) (settings : Settings) (asked : Asked CPasses L A) (says : Says) → IsTaskOf settings asked
    → kept_with (Offers asked.passes.now.enabled) (record { Lawful = law.lawful asked.law.now; Against = law.reasons asked.law.now }) (asking.asks asked.asking.now) (λ bytes. asking.tells (asking.key asked.asking.now bytes))
    says asked.own.now asked.window asked.limit asked.name.now asked.saves
    ≡ asked_by (record { Lawful = law.lawful asked.law.now; Against = law.reasons asked.law.now }) (asking.asks asked.asking.now) (λ bytes. asking.tells (asking.key asked.asking.now bytes)) settings says asked.own.now
asked_task law asking settings asked says is = λ i.
    kept_with (Offers (is.enabled i)) (record { Lawful = law.lawful asked.law.now; Against = law.reasons asked.law.now }) (asking.asks asked.asking.now) (λ bytes. asking.tells (asking.key asked.asking.now bytes))
    says asked.own.now (is.window i) (is.limit i) (is.name i) (is.saves i)

-- the text of a file of a name, and the one that is made
pub stored_text : (from : Source) (file : String Global) (told : Option Names) (Holds : Text → Type 0) → from ≡ source.Named file → Holds (stored told (name_of from)) → Holds (text_of from told)
stored_text from file told Holds is it = subst (λ (s : Source). Holds (text_of s told)) (sym is) (subst (λ (s : Source). Holds (stored told (name_of s))) is it)

pub made_text : (from : Source) (number items : ℕ) (bytes : List ℕ) (told : Option Names) (Holds : Text → Type 0) → from ≡ source.Made number items → bytes ≡ generated number items → Holds (given bytes)
    → Holds (text_of from told)
made_text from number items bytes told Holds is made it = subst (λ (s : Source). Holds (text_of s told)) (sym is) (subst (λ b. Holds (given b)) made it)
