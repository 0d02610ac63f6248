-- What a place in memory tells after a deed.
use Rattle.std.specs.Prelude.{OnOk, bytes_eq, string_bytes, unwrap_or, cond, String, Decides}
use Rattle.std.specs.Global.{Global}
use Rattle.std.proofs.Common.{◌≡◌, ◌≢◌, ◌∙◌, sym, ap, refl, subst, ℕ, Bool, true, false, List, [], ◌∷◌, ◌++◌, take, drop, length, Option, Some, None, Result, Ok, Err}
use Rattle.std.proofs.lemmas.Slice.Eq.{bytes_eq-Decides}
use Rattle.std.proofs.lemmas.Bool.{true≢false}
use Rattle.std.proofs.lemmas.Bool.Decides.{Decides-eqb}
use Rattle.std.proofs.lemmas.List.{take-append-drop}
use Rattle.std.proofs.Math.Seq.{take-append_seam, drop-append_seam}
use Rattle.cr_around.specs.Holding.{Told, Stands, IsCleared, IsPut}
use Rattle.cr_around.specs.MemPlace.{IsPutAt, is_below, stands_in, told_after, told_of}
use Rattle.cr_around.specs.declared.memory.Deed.{Deed}
use Rattle.cr_around.specs.declared.memory.MemPlace.{MemPlace}
use Rattle.cr_around.specs.declared.memory.Deed.TheVariants.{Cleared, Put}

below_is : (rest : List ℕ) → is_below rest ≡ true → (tail : List ℕ) × (rest ≡ 47 ∷ tail)
below_is [] is = absurd (true≢false (sym is))
below_is (byte ∷ tail) is = (tail, ap (λ (b : ℕ). b ∷ tail) ((Decides-eqb byte 47).0 is))

stands_at : (folder path : List ℕ) (same : Bool) → Decides same (take (length folder) path ≡ folder) → cond same (is_below (drop (length folder) path)) false ≡ true → Stands folder path
stands_at folder path true decides is =
    let below = below_is (drop (length folder) path) is in
    (below.0, sym (take-append-drop (length folder) path) ∙ ap (λ (front : List ℕ). front ++ drop (length folder) path) (decides.0 refl) ∙ ap (λ (rest : List ℕ). folder ++ rest) below.1)
stands_at folder path false decides is = absurd (true≢false (sym is))

stands_is : (folder path : List ℕ) → stands_in folder path ≡ true → Stands folder path
stands_is folder path = stands_at folder path (bytes_eq (take (length folder) path) folder) (bytes_eq-Decides (take (length folder) path) folder)

seam : (folder rest : List ℕ) → stands_in folder (folder ++ 47 ∷ rest) ≡ true
seam folder rest =
    ap (λ (front : List ℕ). cond (bytes_eq front folder) (is_below (drop (length folder) (folder ++ 47 ∷ rest))) false) (take-append_seam folder (47 ∷ rest))
    ∙ ap (λ (back : List ℕ). cond (bytes_eq folder folder) (is_below back) false) (drop-append_seam folder (47 ∷ rest))
    ∙ ap (λ (same : Bool). cond same true false) ((bytes_eq-Decides folder folder).1 refl)

is_stands : (folder path : List ℕ) → Stands folder path → stands_in folder path ≡ true
is_stands folder path (rest, is) = subst (λ (p : List ℕ). stands_in folder p ≡ true) (sym is) (seam folder rest)

no : (b : Bool) → (b ≡ true → ⊥) → b ≡ false
no true never = absurd (never refl)
no false never = refl

cleared_in : (folder : List ℕ) (older : List Deed) (new : Told) → ((path : List ℕ) → new path ≡ unwrap_or (cond (stands_in folder path) (Some None) None) (told_after older path)) → IsCleared folder (told_after older) new
cleared_in folder older new is = record {
  nothing = λ path stands. is path ∙ ap (λ (b : Bool). unwrap_or (cond b (Some None) None) (told_after older path)) (is_stands folder path stands);
  others = λ path outside. is path ∙ ap (λ (b : Bool). unwrap_or (cond b (Some None) None) (told_after older path)) (no (stands_in folder path) (λ stands. outside (stands_is folder path stands)));
}

-- a folder that was cleared holds nothing, and all else is as before
pub cleared : (folder : List ℕ) (name : String Global) (older : List Deed) → string_bytes name ≡ folder → IsCleared folder (told_after older) (told_after (Cleared name ∷ older))
cleared folder name older is = subst (λ (f : List ℕ). IsCleared f (told_after older) (told_after (Cleared name ∷ older))) is (cleared_in (string_bytes name) older (told_after (Cleared name ∷ older)) (λ path. refl))

-- a file that was put is there, and all else is as before
pub put : (at bytes : List ℕ) (deed : Deed) (older : List Deed) → IsPutAt at bytes deed → IsPut at bytes (told_after older) (told_after (deed ∷ older))
put at bytes (Cleared folder) older is = absurd is
put at bytes (Put path text) older (same, its) = record {
  has = ap (λ (b : Bool). unwrap_or (cond b (Some (Some text.items)) None) (told_after older at)) ((bytes_eq-Decides at (string_bytes path)).1 (sym same)) ∙ ap (λ (list : List ℕ). Some list) its;
  others = λ other differs. ap (λ (b : Bool). unwrap_or (cond b (Some (Some text.items)) None) (told_after older other)) (no (bytes_eq other (string_bytes path)) (λ e. differs ((bytes_eq-Decides other (string_bytes path)).0 e ∙ same)));
}

-- the same behind a call that may be refused
pub clears : {E : Type 0} (folder : List ℕ) (name : String Global) (old new : MemPlace) (result : Result (Unit {0}) E) → string_bytes name ≡ folder → OnOk result (new.deeds.items ≡ Cleared name ∷ old.deeds.items) → OnOk result (IsCleared folder (told_of old) (told_of new))
clears folder name old new (Ok done) is noted = subst (λ (deeds : List Deed). IsCleared folder (told_of old) (told_after deeds)) (sym noted) (cleared folder name old.deeds.items is)
clears folder name old new (Err fault) is noted = tt
