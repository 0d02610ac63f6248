-- When a run doesn't begin: rows, of which the first that holds of what was found counts.
use Rattle.std.specs.Prelude.{◌≡◌, ◌≢◌, ◌⊎◌, ◌<◌, ℕ, Bool, false, List, Option, Some, None, String, string_bytes}
use Rattle.std.specs.Global.{Global}
use Rattle.cr_around.specs.declared.facts.Kind.{Kind}
use Rattle.cr_around.specs.declared.facts.Kind.TheVariants as kinds
use Rattle.cr_around.specs.declared.facts.Site.{Site}
use Rattle.cr_around.specs.declared.facts.Facts.{Facts}
use Rattle.cr_around.specs.declared.facts.Ending.{Ending}
use Rattle.cr_around.specs.declared.facts.Ending.TheVariants as ending
use Rattle.cr_around.specs.declared.facts.Begun.{Begun}
use Rattle.cr_around.specs.declared.facts.Begun.TheVariants as begun
use Rattle.cr_around.specs.declared.journal_words.JournalWords.{JournalWords}
use Rattle.cr_around.specs.declared.refusal.Refusal.{Refusal}
use Rattle.cr_around.specs.declared.refusal.Refusal.TheVariants as refusal

-- something stands there that is no plain file
abbrev pub IsOther : Site → Kind → Type 0
IsOther site kind = (site.kind ≡ Some kind) × (kind ≢ kinds.Plain)

-- no file is there that can be written
abbrev pub IsMissing : Site → Type 0
IsMissing site = (site.kind ≡ None) ⊎ (site.is_writable ≡ false)

-- where the file of this ending is to stand
abbrev pub site_at : Facts → Ending → Site
site_at facts ending.Copy = facts.copy
site_at facts ending.Log = facts.log
site_at facts ending.Best = facts.best
site_at facts ending.Journal = facts.journal
site_at facts ending.JournalWords = facts.journal_words

-- a row: of which refusals it is
abbrev pub Row : Type 1
Row = Refusal → Type 0

-- the file is none, but this
abbrev pub IsNoFile : Facts → Row
IsNoFile facts r = (kind : Kind) × (r ≡ refusal.NoFile kind) × IsOther facts.file kind

-- something stands there, and can't be written
abbrev pub IsUnwritable : Facts → Row
IsUnwritable facts r = (r ≡ refusal.Unwritable) × (facts.file.kind ≢ None) × (facts.file.is_writable ≡ false)

-- no new file can be made, and the copy or the log needs one
abbrev pub LacksNew : Facts → Row
LacksNew facts r = (r ≡ refusal.NoNew) × (facts.takes_new ≡ false) × (IsMissing facts.copy ⊎ IsMissing facts.log)

-- something else stands where the file of this ending is to
abbrev pub IsNoPlace : Facts → Ending → Row
IsNoPlace facts ending r = (kind : Kind) × (r ≡ refusal.NoPlace ending kind) × IsOther (site_at facts ending) kind

-- a file may have at most so many bytes, and 16 MiB are wanted
abbrev pub IsShort : Facts → Row
IsShort facts r = (most : ℕ) × (r ≡ refusal.Short most) × (facts.most ≡ Some most) × (most < 16777216)

-- a journal was begun, and no words stand beside it
abbrev pub IsUnknown : Facts → Row
IsUnknown facts r = (r ≡ refusal.Unknown) × (facts.begun ≡ begun.Unknown)

-- a journal was begun with another test than this
abbrev pub IsOfOtherTest : Facts → List ℕ → Row
IsOfOtherTest facts test r = (words : JournalWords) × (r ≡ refusal.OtherTest) × (facts.begun ≡ begun.With words) × (string_bytes words.test ≢ test)

-- a journal was begun with another law than this
abbrev pub IsOfOtherOrder : Facts → Bool → Row
IsOfOtherOrder facts any_order r = (words : JournalWords) × (r ≡ refusal.OtherOrder) × (facts.begun ≡ begun.With words) × (words.any_order ≢ any_order)

-- the labels are the same, or there is none
abbrev pub IsLabel : Option (String Global) → Option (String Global) → Type 0
IsLabel None None = Unit {0}
IsLabel (Some one) (Some other) = string_bytes one ≡ string_bytes other
IsLabel _ _ = ⊥

-- a journal was begun with another label than this
abbrev pub IsOfOtherLabel : Facts → Option (String Global) → Row
IsOfOtherLabel facts reached r = (words : JournalWords) × (r ≡ refusal.OtherLabel) × (facts.begun ≡ begun.With words) × (IsLabel words.reached reached → ⊥)

-- the checksum is this one
abbrev pub IsSumOf : Option (String Global) → String Global → Type 0
IsSumOf None sum = ⊥
IsSumOf (Some other) sum = string_bytes other ≡ string_bytes sum

-- a journal was begun, and the file has neither its copy's bytes nor the journal's result
abbrev pub IsChanged : Facts → Row
IsChanged facts r = (words : JournalWords) × (file copy : String Global) × (r ≡ refusal.Changed) × (facts.begun ≡ begun.With words) × (facts.file_sum ≡ Some file)
    × (facts.copy_sum ≡ Some copy) × (string_bytes file ≢ string_bytes copy) × (IsSumOf words.result file → ⊥)

-- the answer to one row: the refusal that it is of, or that it is of none
abbrev pub Answers : Row → Option Refusal → Type 0
Answers row (Some r) = row r
Answers row None = (r : Refusal) → row r → ⊥

-- the answer to a row and to what comes behind it: the row's where it has one
abbrev pub Else : Row → (Option Refusal → Type 0) → Option Refusal → Type 0
Else row behind (Some r) = row r ⊎ (((s : Refusal) → row s → ⊥) × behind (Some r))
Else row behind None = ((s : Refusal) → row s → ⊥) × behind None

-- the first row that holds, or that none does
abbrev pub Refuses : Facts → List ℕ → Bool → Option (String Global) → Option Refusal → Type 0
Refuses facts test any_order reached =
    Else (IsNoFile facts) (
    Else (IsUnwritable facts) (
    Else (LacksNew facts) (
    Else (IsNoPlace facts ending.Copy) (
    Else (IsNoPlace facts ending.Log) (
    Else (IsNoPlace facts ending.Best) (
    Else (IsNoPlace facts ending.Journal) (
    Else (IsNoPlace facts ending.JournalWords) (
    Else (IsShort facts) (
    Else (IsUnknown facts) (
    Else (IsOfOtherTest facts test) (
    Else (IsOfOtherOrder facts any_order) (
    Else (IsOfOtherLabel facts reached) (
    Answers (IsChanged facts))))))))))))))
