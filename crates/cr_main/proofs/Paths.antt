-- Tests that agree have one path.
use Rattle.std.proofs.Common.{◌≡◌, Bool, true, false, [], Some, None, String, cond, refl, sym, ap, subst}
use Rattle.std.specs.Global.{Global}
use Rattle.std.specs.Str.{bytes_eq}
use Rattle.std.specs.String.{string_bytes}
use Rattle.cr_formula.specs.Forms.{Form, Spells}
use Rattle.cr_outside.specs.Question.{Says}
use Rattle.cr_outside.specs.declared.test.Test.{Test}
use Rattle.cr_outside.specs.declared.test.Test.TheVariants as test
use Rattle.cr_main_words.specs.Laws.{Agree}
use Rattle.cr_main_words.proofs.Forms.{bytes_same, same_bytes}
use Rattle.cr_main.specs.More.{BeginsWithIf, IsFormula, word_of}

told_yes : (b : Bool) → cond b (Some true) None ≡ Some true → b ≡ true
told_yes true is = refl
told_yes false is = cc

same_path : (path other : String Global) → Agree (test.Program path) (test.Program other) → string_bytes path ≡ string_bytes other
same_path path other same =
    let says : Says = λ said name file. cond (bytes_eq said (string_bytes path)) (Some true) None in
    let told = same.tells says [] [] true (ap (λ b. cond b (Some true) None) (bytes_same (string_bytes path))) in
    sym (same_bytes (string_bytes other) (string_bytes path) (told_yes (bytes_eq (string_bytes other) (string_bytes path)) told))

pub same_formula : (a b : Test) → Agree a b → IsFormula a → IsFormula b
same_formula (test.Has text) b same formula = absurd formula
same_formula (test.Program path) (test.Has text) same formula = let differ = same.asks in cc
same_formula (test.Program path) (test.Program other) same formula = subst BeginsWithIf (same_path path other same) formula

pub same_spelling : (a b : Test) (form : Form) → Agree a b → Spells (word_of a) form → Spells (word_of b) form
same_spelling (test.Has text) b form same spells = let differ = spells.1 in cc
same_spelling (test.Program path) (test.Has text) form same spells = let differ = same.asks in cc
same_spelling (test.Program path) (test.Program other) form same spells = subst (λ w. Spells w form) (same_path path other same) spells
