-- A folder that is cleared and then gets one file holds it alone.
use Rattle.std.specs.Prelude.{OnOk}
use Rattle.std.proofs.Common.{◌≡◌, ◌∙◌, Result, Ok, Err, ℕ, List, Option, Some, None, subst}
use Rattle.cr_around.specs.Holding.{Told, Clears, Puts, Holds, HoldsAlone, IsCleared, IsPut, path_in}

alone_in : (folder name bytes : List ℕ) (old mid new : Told) → IsCleared folder old mid → IsPut (path_in folder name) bytes mid new → HoldsAlone folder name bytes old new
alone_in folder name bytes old mid new cleared put = record {
  has = put.has;
  alone = λ path stands other. put.others path other ∙ cleared.nothing path stands;
  others = λ path outside. put.others path (λ is. outside (name, is)) ∙ cleared.others path outside;
}

pub alone : (folder name bytes : List ℕ) (old mid new : Option Told) → Clears folder old mid → Puts (path_in folder name) bytes mid new → Holds folder name bytes old new
alone folder name bytes None None new cleared put = put
alone folder name bytes None (Some mid) new cleared put = cc
alone folder name bytes (Some old) None new cleared put = absurd cleared
alone folder name bytes (Some old) (Some mid) None cleared put = absurd put
alone folder name bytes (Some old) (Some mid) (Some new) cleared put = alone_in folder name bytes old mid new cleared put

-- the same behind a call that may be refused
pub behind : {E : Type 0} (folder name bytes path : List ℕ) (old mid new : Option Told) (result : Result (Unit {0}) E) → path ≡ path_in folder name → Clears folder old mid
    → OnOk result (Puts path bytes mid new) → OnOk result (Holds folder name bytes old new)
behind folder name bytes path old mid new (Ok done) is cleared put = alone folder name bytes old mid new cleared (subst (λ (p : List ℕ). Puts p bytes mid new) is put)
behind folder name bytes path old mid new (Err fault) is cleared put = tt
