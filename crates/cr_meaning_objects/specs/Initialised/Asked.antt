-- What an array of unknown size is completed to (C11 6.7.9p22).
use Rattle.std.specs.Prelude.{◌≡◌, ℕ, ◌≤◌, Bool, true, false, List, ◌∷◌, length}
use Rattle.cr_check_types.specs.Types.{Qualified, array}
use Rattle.cr_check_initialisers.specs.Known.{Known}
use Rattle.cr_check_initialisers.specs.Places.{types_in, opens}
use Rattle.cr_check_initialisers.specs.Plans.{Entry, IsPlan, is_open, count_in, length_asked}
use Rattle.cr_meaning_objects.specs.Initialised.Parts.{Every, is_aggregate}

-- types of objects have known sizes, their parts are such, and an array or a structure has one; a list in braces has an initialiser, and is no
-- literal
pub record HaveParts (k : Known) (IsWhole : Qualified → Type 0) : Type 0 where
  pub sized : (type : Qualified) → IsWhole type → is_open type ≡ false
  pub parts : (type : Qualified) → IsWhole type → Every IsWhole (types_in k type)
  pub some : (type : Qualified) → IsWhole type → is_aggregate type ≡ true → 1 ≤ length (types_in k type)
  pub initialised : (b i : ℕ) → opens k b i ≡ true → 1 ≤ length (k.initialisers i)
  pub apart : (i : ℕ) → k.literal i ≡ true → k.listed i ≡ false

-- the literals that may initialise the whole array have a byte: the initialiser itself, and the first one in its braces
pub record HaveBytes (k : Known) (above node : ℕ) : Type 0 where
  pub alone : opens k above node ≡ false → 1 ≤ count_in (k.seen node).type
  pub first : (i : ℕ) (rest : List ℕ) → k.initialisers node ≡ i ∷ rest → k.literal i ≡ true → 1 ≤ count_in (k.seen i).type

-- the initialiser of an array of unknown size asks for an element
abbrev pub ArraysAreAskedFor : Type 0
ArraysAreAskedFor = (k : Known) (is_whole : Qualified → Bool) → HaveParts k (λ type. is_whole type ≡ true) → (below : Qualified) (above node : ℕ) (xs : List Entry) → is_whole below ≡ true
    → HaveBytes k above node → IsPlan k (array 0 below) above node xs → 1 ≤ length_asked k (array 0 below) xs
