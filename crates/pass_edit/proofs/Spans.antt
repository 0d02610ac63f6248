-- The edits in a list of changes, when more come behind it.
use native.Mathlib.Omega.{arith}
use Rattle.std.proofs.Common.{◌≡◌, ◌+◌, ◌-◌, ℕ, List, [], ◌∷◌, ◌++◌, length, take, drop, map, refl, ap, length-drop, ◌∙◌}
use Rattle.std.proofs.lemmas.List.{drop-append-le, map-append, take-append-le}
use Rattle.std.proofs.lemmas.List.Elements.{All-head, All-tail}
use Rattle.std.proofs.Math.Seq.{drop-append_seam, take-length}
use Rattle.std.specs.List.{All}
use Rattle.pass_edit.specs.declared.change.Change.{Change}
use Rattle.pass_edit.specs.declared.edits.Span.{Span}
use Rattle.pass_edit.specs.Menu.{cut, LiesIn}

-- An edit is the same.
cut_before : (changes more : List Change) (span : Span) → LiesIn (length changes) span → cut (changes ++ more) span ≡ cut changes span
cut_before changes more span lies =
    ap (take (span.to - span.from)) (drop-append-le span.from changes more (grind (arith, lies)))
    ∙ take-append-le (span.to - span.from) (drop span.from changes) more (let e = length-drop span.from changes in grind (arith, lies, e))

cuts_before : (changes more : List Change) (spans : List Span) → All (LiesIn (length changes)) spans → map (cut (changes ++ more)) spans ≡ map (cut changes) spans
cuts_before changes more [] all = refl
cuts_before changes more (span ∷ spans) all =
    rw (cut_before changes more span (All-head (LiesIn (length changes)) span spans all))
    rw (cuts_before changes more spans (All-tail (LiesIn (length changes)) span spans all)) refl

-- The last edit is what has come.
cut_last : (changes more : List Change) (span : Span) → span.from ≡ length changes → span.to ≡ length changes + length more → cut (changes ++ more) span ≡ more
cut_last changes more span begins ends =
    ap {B = List Change} (λ (at : ℕ). take (span.to - at) (drop at (changes ++ more))) begins
    ∙ ap {B = List Change} (take (span.to - length changes)) (drop-append_seam changes more)
    ∙ ap {B = List Change} (λ (n : ℕ). take n more) (let e : span.to - length changes ≡ length more = omega (arith, ends) in e)
    ∙ take-length more

pub pushed : (changes more : List Change) (spans : List Span) (span : Span) → All (LiesIn (length changes)) spans
    → span.from ≡ length changes → span.to ≡ length changes + length more
    → map (cut (changes ++ more)) (spans ++ span ∷ []) ≡ map (cut changes) spans ++ more ∷ []
pushed changes more spans span all begins ends =
    map-append (cut (changes ++ more)) spans (span ∷ [])
    ∙ ap {B = List (List Change)} (λ old. old ++ cut (changes ++ more) span ∷ []) (cuts_before changes more spans all)
    ∙ ap {B = List (List Change)} (λ last. map (cut changes) spans ++ last ∷ []) (cut_last changes more span begins ends)
