-- What a kept run is asked to do.
use Rattle.std.specs.Prelude.{ℕ, Bool, List, [], Option}
use Rattle.cr_cursor.specs.declared.law.Law.{Ghosts as LawGhosts}
use Rattle.cr_cursor.specs.declared.passes.Passes.{Ghosts as PassesGhosts}
use Rattle.cr_outside.specs.Question.{Says}
use Rattle.cr_reduce.specs.Reduction.{Proposals}
use Rattle.cr_main_task.specs.Opening.{Ruled}
use Rattle.cr_main_task.specs.Task.{Task}
use Rattle.cr_main_task.specs.declared.asking.Asking.{Ghosts as AskingGhosts}
use Rattle.cr_main_task.specs.declared.task.Task.{Task as Asked}

-- What is offered, the law, whether the question uses a judge, what it tells of a file where these bytes are reduced, the file's own name, how
-- many positions are tried at once at most, the most turns, the file's whole name, and whether files are written.
pub record KeptTask : Type 1 where
  pub Offers : Proposals
  pub law : Ruled
  pub asks : Bool
  pub Tells : List ℕ → List ℕ → Bool → Type 0
  pub own : List ℕ
  pub window : ℕ
  pub limit : Option ℕ
  pub name : List ℕ
  pub saves : Bool

-- its task, where these bytes are reduced
abbrev pub at : KeptTask → List ℕ → Task
at k bytes = record {
  search = record {
    Offers = k.Offers;
    Lawful = k.law.Lawful;
    asks = k.asks;
    Tells = k.Tells bytes;
    name = k.own;
    kept = [];
  };
  Against = k.law.Against;
  window = k.window;
  limit = k.limit;
  name = k.name;
  saves = k.saves;
}

-- what is asked for of what the passes offer, by a law and by what is asked, where the judges say this
abbrev pub kept_with : Proposals → Ruled → Bool → (List ℕ → Says → List ℕ → List ℕ → Bool → Type 0) → Says → List ℕ → ℕ → Option ℕ → List ℕ → Bool → KeptTask
kept_with Offers law asks tells says own window limit name saves = record {
  Offers = Offers;
  law = law;
  asks = asks;
  Tells = λ bytes file answer. tells bytes says own file answer;
  own = own;
  window = window;
  limit = limit;
  name = name;
  saves = saves;
}

-- that of the code's value
abbrev pub kept_task : {P I L A B : Type 0} → PassesGhosts P I → LawGhosts L → AskingGhosts A B → Asked P L A → Says → KeptTask
kept_task passes law asking asked says =
    kept_with (passes.offers asked.passes.now) (record { Lawful = law.lawful asked.law.now; Against = law.reasons asked.law.now }) (asking.asks asked.asking.now) (λ bytes. asking.tells (asking.key asked.asking.now bytes)) says asked.own.now
    asked.window asked.limit asked.name.now asked.saves
