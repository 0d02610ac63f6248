-- The lines of an initialised declarator, from what is put.
use Rattle.std.proofs.Common.{◌≡◌, ℕ, zero, suc, ◌+◌, List, [], ◌∷◌, ◌++◌, Option, Some, length, map, take, drop, slice_get, refl, sym, ap, subst, ◌∙◌, arith}
use Rattle.std.proofs.lemmas.List.{length-map}
use Rattle.std.proofs.Math.Seq.{take-append_seam, drop-append_seam}
use Rattle.cr_typed.specs.declared.typed.Typed.{Typed}
use Rattle.cr_typed.specs.declared.typed.Put.{Put}
use Rattle.cr_meaning.specs.World.{Program}
use Rattle.cr_meaning.specs.Values.{kinds_in, cells_in}
use Rattle.cr_meaning.specs.declared.op.Op.{Op}
use Rattle.cr_meaning.specs.declared.op.Line.{Line}
use Rattle.cr_meaning_soundness.specs.Sorts.{Sort, sort_of_scalar, sorts_in}
use Rattle.cr_meaning_soundness.specs.Statements.{sorts_of, HasCells, AreLines}
use Rattle.cr_meaning_soundness.specs.Operands.{TakeLines}
use Rattle.cr_meaning_operations.specs.Operations.{line_of}
use Rattle.cr_meaning_objects.specs.Initialised.Parts.{IsPart}
use Rattle.cr_meaning_objects.specs.Initialised.Taken.{IsLine, initialising}

-- the cells of a part, as the meaning reads them
pub part_cells : (p : Program) (declared : ℕ) (line : Line) (whole : List Sort) → sorts_in (p.shape declared) ≡ whole → IsPart (sorts_of p line.form) whole line.cell → HasCells p declared line
part_cells p declared line whole e h =
    let own : List Sort = sorts_of p line.form in
    let count : length own ≡ cells_in p line.form = length-map (kinds_in p line.form) sort_of_scalar in
    ap (λ (s : List Sort). take (cells_in p line.form) (drop line.cell s)) (e ∙ h.is)
    ∙ ap (λ n. take (cells_in p line.form) (drop n (h.before ++ (own ++ h.after)))) (sym h.starts)
    ∙ ap (take (cells_in p line.form)) (drop-append_seam h.before (own ++ h.after))
    ∙ ap (λ n. take n (own ++ h.after)) (sym count)
    ∙ take-append_seam own h.after

module _ (p : Program) (t : Typed) (sorts : ℕ → Option Sort) (declared : ℕ) (op : Op) where
  abbrev AreAt : ℕ → List Put → Type 0
  AreAt k puts = (m : ℕ) (own : Put) → slice_get puts m ≡ Some own → slice_get op.parts (k + m) ≡ Some own.node

  first_at : (k : ℕ) (put : Put) (puts : List Put) → AreAt k (put ∷ puts) → slice_get op.parts k ≡ Some put.node
  first_at k put puts h = let same : k + 0 ≡ k = omega arith in subst (λ m. slice_get op.parts m ≡ Some put.node) same (h 0 put refl)

  rest_at : (k : ℕ) (put : Put) (puts : List Put) → AreAt k (put ∷ puts) → AreAt (suc k) puts
  rest_at k put puts h m own e = let same : k + suc m ≡ suc k + m = omega arith in subst (λ m. slice_get op.parts m ≡ Some own.node) same (h (suc m) own e)

  are_lines : (k : ℕ) (puts : List Put) → ((m : ℕ) (own : Put) → slice_get puts m ≡ Some own → IsLine p t sorts declared own) → AreAt k puts → AreLines p sorts op declared k (map (line_of t) puts)
  are_lines k [] h at = tt
  are_lines k (put ∷ puts) h at =
      let own = h 0 put refl in (
        (own.cells, λ node sort e g. let same : node ≡ put.node = cc (sym e ∙ first_at k put puts at) in (own.taken sort (ap sorts (sym same) ∙ g)).initialises),
        are_lines (suc k) puts (λ m own e. h (suc m) own e) (rest_at k put puts at),
      )

  take_lines : (k : ℕ) (puts : List Put) → ((m : ℕ) (own : Put) → slice_get puts m ≡ Some own → IsLine p t sorts declared own) → AreAt k puts → TakeLines sorts op k (map (line_of t) puts)
  take_lines k [] h at = tt
  take_lines k (put ∷ puts) h at =
      let own = h 0 put refl in (
        (λ node sort e g. let same : node ≡ put.node = cc (sym e ∙ first_at k put puts at) in (own.taken sort (ap sorts (sym same) ∙ g)).initial),
        take_lines (suc k) puts (λ m own e. h (suc m) own e) (rest_at k put puts at),
      )

pub lines : (p : Program) (t : Typed) (sorts : ℕ → Option Sort) (declared : ℕ) (puts : List Put) → ((m : ℕ) (own : Put) → slice_get puts m ≡ Some own → IsLine p t sorts declared own)
    → AreLines p sorts (initialising t declared puts) declared 0 (map (line_of t) puts) × TakeLines sorts (initialising t declared puts) 0 (map (line_of t) puts)
lines p t sorts declared puts h = (are_lines p t sorts declared (initialising t declared puts) 0 puts h at, take_lines p t sorts declared (initialising t declared puts) 0 puts h at)
  where
    get : (puts : List Put) (m : ℕ) (own : Put) → slice_get puts m ≡ Some own → slice_get (map (λ (put : Put). put.node) puts) m ≡ Some own.node
    get [] m own e = absurd (cc e)
    get (put ∷ puts) zero own e = let same : put ≡ own = cc e in ap (λ (x : Put). Some x.node) same
    get (put ∷ puts) (suc m) own e = get puts m own e

    at : (m : ℕ) (own : Put) → slice_get puts m ≡ Some own → slice_get (map (λ (put : Put). put.node) puts) (0 + m) ≡ Some own.node
    at m own e = let same : m ≡ 0 + m = omega arith in subst (λ k. slice_get (map (λ (put : Put). put.node) puts) k ≡ Some own.node) same (get puts m own e)
