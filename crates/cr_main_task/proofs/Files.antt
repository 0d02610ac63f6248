-- What was read of a file.
use Rattle.std.proofs.Common.{◌≡◌, ◌⊎◌, ◌<◌, ◌≤◌, ℕ, List, length, min, Option, Some, None, refl, sym, ap, ◌∙◌, arith}
use Rattle.std.proofs.lemmas.List.{length-take, take_all}
use Rattle.std.specs.Global.{Vec}
use Rattle.cr_outside.specs.Files.{Names, content_of, Reads, Shows}
use Rattle.cr_outside.specs.declared.files.ReadAnswer.TheVariants.{Bytes, Absent}
use Rattle.cr_main_task.specs.Task.{FileHas, FileLacks}

whole_of : (content : Option (List ℕ)) (bytes : List ℕ) → Shows content 1048577 bytes → length bytes ≤ 1048576 → content ≡ Some bytes
whole_of None bytes shown short = absurd shown
whole_of (Some whole) bytes shown short =
    let least : min 1048577 (length whole) ≡ length bytes = sym (length-take 1048577 whole) ∙ ap length (sym shown) in
    let few : length whole ≤ 1048577 = grind arith in
    ap Some (sym (shown ∙ take_all 1048577 whole few))

-- a file of at most 1,048,576 bytes was read whole
pub read_whole : (told : Option Names) (name : List ℕ) (v : Vec ℕ) → Reads told name 1048577 (Bytes v) → length v.items ≤ 1048576 → FileHas told name v.items
read_whole None name v reads short = tt
read_whole (Some files) name v reads short = whole_of (content_of files name) v.items reads short

longer : (content : Option (List ℕ)) (bytes : List ℕ) → Shows content 1048577 bytes → 1048576 < length bytes → (whole : List ℕ) × (content ≡ Some whole) × (1048576 < length whole)
longer None bytes shown long = absurd shown
longer (Some whole) bytes shown long =
    let least : min 1048577 (length whole) ≡ length bytes = sym (length-take 1048577 whole) ∙ ap length (sym shown) in
    (whole, refl, grind arith)

pub longer_there : (told : Option Names) (name : List ℕ) (v : Vec ℕ) → Reads told name 1048577 (Bytes v) → 1048576 < length v.items → (whole : List ℕ) × FileHas told name whole × (1048576 < length whole)
longer_there None name v reads long = (v.items, tt, long)
longer_there (Some files) name v reads long = longer (content_of files name) v.items reads long

pub sides : (n : ℕ) → (n ≤ 1048576) ⊎ (1048576 < n)
sides n = search arith

pub absent_file : (told : Option Names) (name : List ℕ) → Reads told name 1048577 Absent → FileLacks told name
absent_file None name reads = tt
absent_file (Some files) name reads = reads
