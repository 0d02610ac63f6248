-- Lines: what the front of one tells of the rest.
use Rattle.std.proofs.Common.{◌≡◌, ◌≢◌, ℕ, ◌^◌, ◌<◌, inl, inr, List, ◌∷◌, ◌++◌, All, sym, ◌∙◌, subst, arith}
use Rattle.std.specs.Fmt.{decimal}
use Rattle.cr_reduce.specs.declared.end.Accepted.{Accepted}
use Rattle.cr_log.specs.Forms.{IsAcceptedLine, IsInForm, IsLastLine, StartsInForm}
use Rattle.cr_log.specs.Reading.{IsCut, IsPair, StartsWithNumber, StartsWithPass, StartsWithWhy}
use Rattle.cr_log.proofs.Lines.{accepted_line_free, last_line_free, same_cut, same_end, same_head, same_why}
use Rattle.cr_log.proofs.Fields.{none_cut, same_start}

-- what follows the level, and the index, in the line of an acceptance
abbrev pub after_index : Accepted → List ℕ
after_index one = decimal one.size ++ 32 ∷ decimal one.turn

abbrev pub after_level : Accepted → List ℕ
after_level one = decimal one.at.index ++ 32 ∷ after_index one

-- and goes on with its level
pub starts_with_level : (line : List ℕ) (pass : ℕ) (rest : List ℕ) (one : Accepted) → StartsWithPass line pass rest → IsAcceptedLine line one → StartsWithNumber rest one.at.level (after_level one)
starts_with_level line pass rest one p q =
    record { fits = omega (arith, q.loggable.level); is = (same_head _ _ rest (decimal one.at.level ++ 32 ∷ after_level one) (sym p.is ∙ q.is)).1 }

pub is_level : (line : List ℕ) (pass : ℕ) (rest : List ℕ) (level : ℕ) (more : List ℕ) (one : Accepted) → StartsWithPass line pass rest → StartsWithNumber rest level more → IsAcceptedLine line one → level < 2 ^ 8
is_level line pass rest level more one p q r =
    let same = same_start rest level one.at.level more (after_level one) q (starts_with_level line pass rest one p r) in
    let equal : level ≡ one.at.level = same.0 in
    omega (arith, r.loggable.level)

-- its index
pub starts_with_index : (line : List ℕ) (pass : ℕ) (rest : List ℕ) (level : ℕ) (more : List ℕ) (one : Accepted) → StartsWithPass line pass rest → StartsWithNumber rest level more → IsAcceptedLine line one → StartsWithNumber more one.at.index (after_index one)
starts_with_index line pass rest level more one p q r =
    let same = same_start rest level one.at.level more (after_level one) q (starts_with_level line pass rest one p r) in
    record { fits = r.loggable.index; is = same.1 }

-- its size and its turn
pub ends_with_pair : (line : List ℕ) (pass : ℕ) (rest : List ℕ) (level : ℕ) (more : List ℕ) (index : ℕ) (last : List ℕ) (one : Accepted) → StartsWithPass line pass rest → StartsWithNumber rest level more → StartsWithNumber more index last → IsAcceptedLine line one → IsPair last one.size one.turn
ends_with_pair line pass rest level more index last one p q r s =
    let same = same_start more index one.at.index last (after_index one) r (starts_with_index line pass rest level more one p q s) in
    record { first_fits = s.loggable.size; second_fits = s.loggable.turn; is = same.1 }

-- a last line goes on with its size and its turns
pub last_pair : (line : List ℕ) (why : ℕ) (rest : List ℕ) (w s t : ℕ) → StartsWithWhy line why rest → IsLastLine line w s t → IsPair rest s t
last_pair line why rest w s t p q =
    let same = same_why why w rest (decimal s ++ 32 ∷ decimal t) p.known q.ending.known (same_end _ _ (sym p.is ∙ q.is)) in
    record { first_fits = q.ending.size_fits; second_fits = q.ending.turns_fit; is = same.1 }

-- a line in the form has no LF in it
formed_free : (line : List ℕ) → IsInForm line → All (λ b. b ≢ 10) line
formed_free line (inl (one, p)) =
    let P : List ℕ → Type 0 = λ t. All (λ b. b ≢ 10) t in subst P (sym p.is) (accepted_line_free one p.loggable)
formed_free line (inr (why, size, turns, p)) =
    let P : List ℕ → Type 0 = λ t. All (λ b. b ≢ 10) t in subst P (sym p.is) (last_line_free why size turns p.ending)

-- so what stands before the first LF is the line that a text starts with
pub cut_formed : (text front rest : List ℕ) → IsCut 10 text front rest → StartsInForm text → IsInForm front
cut_formed text front rest p (line, after, formed, is) =
    subst IsInForm (sym (same_cut 10 front line rest after p.free (formed_free line formed) (sym p.is ∙ is)).0) formed

pub none_formed : (text : List ℕ) → All (λ b. b ≢ 10) text → StartsInForm text → ⊥
none_formed text free (line, after, formed, is) = none_cut 10 text line after free is
