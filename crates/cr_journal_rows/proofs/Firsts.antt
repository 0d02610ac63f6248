-- The first record that isn't in the form.
use Rattle.std.proofs.Common.{◌≡◌, ◌⊎◌, inl, inr, ℕ, zero, suc, ◌+◌, ◌<◌, ◌≤◌, List, [], ◌∷◌, ◌++◌, All, map, length, drop, get_or, refl, sym, ◌∙◌, ap, subst, arith, append_assoc, length-append, Vec, Err}
use Rattle.std.proofs.lemmas.List.{length-map, map-append}
use Rattle.std.specs.declared.alloc.Global.{Global}
use Rattle.cr_journal_records.specs.Reading.{bodies_of}
use Rattle.cr_reduce.specs.declared.end.Accepted.{Accepted}
use Rattle.cr_journal_records.specs.Records.{Body}
use Rattle.cr_journal_rows.specs.Forms.{HasForm, HasRowForm, IsFirstBad, IsFirstBadRow, ReadsBodies, ReadsRows, ending, header_body, row_body}
use Rattle.cr_journal_rows.specs.declared.fault.JournalFault.{JournalFault}
use Rattle.cr_journal_rows.specs.declared.fault.JournalFault.TheVariants.{NoMemory, Disk, Bad, Differs}
use Rattle.cr_journal_rows.specs.declared.header.Header.{Header}
use Rattle.cr_cursor.specs.Variants.{pass_count}

row_form : (row : Accepted) → row.at.pass < pass_count → HasRowForm (row_body row)
row_form row low = (refl, low)

at_end : (rows : List Accepted) (body : Body) (behind : List Body) → get_or (map row_body rows ++ (body ∷ behind)) (length rows) [] ≡ body
at_end [] body behind = refl
at_end (row ∷ more) body behind = at_end more body behind

in_front : (rows : List Accepted) (behind : List Body) → All (λ row. row.at.pass < pass_count) rows → (j : ℕ) → j < length rows → HasRowForm (get_or (map row_body rows ++ behind) j [])
in_front [] behind low j short = absurd (omega (arith, short))
in_front (row ∷ more) behind low zero short = row_form row (low 0 row (omega arith))
in_front (row ∷ more) behind low (suc j) short = in_front more behind (λ k d within. low (suc k) d (omega (arith, within))) j (omega (arith, short))

-- rows in front of a body that isn't a row's
pub first_row : (rows : List Accepted) (body : Body) (behind : List Body) → All (λ row. row.at.pass < pass_count) rows → (HasRowForm body → ⊥)
    → IsFirstBadRow (map row_body rows ++ (body ∷ behind)) (length rows + 1)
first_row rows body behind low bad = record {
  row = length rows;
  is = refl;
  within = omega (arith, length-append (map row_body rows) (body ∷ behind), length-map rows row_body);
  bad = λ form. bad (subst HasRowForm (at_end rows body behind) form);
  before = in_front rows (body ∷ behind) low;
}

module _ (bodies : List (Vec ℕ Global)) (rows : List Accepted) (behind : List (Vec ℕ Global)) (body : Vec ℕ Global)
    (so_far : bodies_of bodies ≡ map row_body rows ++ bodies_of (body ∷ behind)) where
  pub bad_row : All (λ row. row.at.pass < pass_count) rows → (length body.items ≡ 31 → HasRowForm body.items → ⊥) → All (λ b. length b ≡ 31) (bodies_of bodies)
      → IsFirstBadRow (bodies_of bodies) (length rows + 1)
  bad_row low bad sizes =
      let within : length rows < length (bodies_of bodies) =
      omega (arith, ap length so_far, length-append (map row_body rows) (body.items ∷ bodies_of behind), length-map rows row_body) in
      let size : length body.items ≡ 31 =
      ap length (sym (at_end rows body.items (bodies_of behind)) ∙ ap (λ (l : List Body). get_or l (length rows) []) (sym so_far)) ∙ sizes (length rows) [] within in
      subst (λ (l : List Body). IsFirstBadRow l (length rows + 1)) (sym so_far) (first_row rows body.items (bodies_of behind) low (bad size))

  pub one_more : (row : Accepted) → body.items ≡ row_body row → bodies_of bodies ≡ map row_body (rows ++ row ∷ []) ++ bodies_of behind
  one_more row is =
      so_far ∙ ap (λ (b : Body). map row_body rows ++ (b ∷ bodies_of behind)) is ∙ sym (append_assoc (map row_body rows) (row_body row ∷ []) (bodies_of behind))
      ∙ ap (λ (l : List Body). l ++ bodies_of behind) (sym (map-append row_body rows (row ∷ [])))

form_after : (header : Header) (bodies : List Body) (row : ℕ) → ((j : ℕ) → j < row → HasRowForm (get_or bodies j [])) → (j : ℕ) → j < suc row
    → HasForm j (get_or (header_body header ∷ bodies) j [])
form_after header bodies row before zero short = refl
form_after header bodies row before (suc j) short = before j (omega (arith, short))

pub after_header : (header : Header) (bodies : List Body) (i : ℕ) → IsFirstBadRow bodies i → IsFirstBad (header_body header ∷ bodies) i
after_header header bodies i first =
    let next : i ≡ suc first.row = omega (arith, first.is) in
    subst (IsFirstBad (header_body header ∷ bodies)) (sym next) (record {
      within = omega (arith, first.within);
      bad = first.bad;
      before = form_after header bodies first.row first.before;
    })

-- behind a header, what was refused of the rows
pub rows_refused : (header : Header) (bodies : List (Vec ℕ Global)) (body : Vec ℕ Global) (rest : List (Vec ℕ Global)) (fault : JournalFault) → bodies ≡ body ∷ rest → body.items ≡ header_body header
    → ReadsRows rest (Err fault) → ReadsBodies bodies (Err fault)
rows_refused header bodies body rest (Bad i) is same refused = λ sizes.
    let all : All (λ b. length b ≡ 31) (body.items ∷ bodies_of rest) = subst (λ (l : List (Vec ℕ Global)). All (λ b. length b ≡ 31) (bodies_of l)) is sizes in
    let first = after_header header (bodies_of rest) i (refused (λ k d within. all (suc k) d (omega (arith, within)))) in
    subst (λ (l : List (Vec ℕ Global)). IsFirstBad (bodies_of l) i) (sym is) (subst (λ (b : Body). IsFirstBad (b ∷ bodies_of rest) i) (sym same) first)
rows_refused header bodies body rest NoMemory is same refused = tt
rows_refused header bodies body rest Disk is same refused = refused
rows_refused header bodies body rest (Differs i) is same refused = refused
