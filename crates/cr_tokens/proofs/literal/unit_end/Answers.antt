use Rattle.std.proofs.Common.{inl, inr, ◌≡◌, ℕ, Some, None, Option, List}
use Rattle.std.specs.Prelude.{slice_index, IfNone}
use Rattle.cr_tokens.specs.Literals.{IsUnit, IsEscape}
use Rattle.cr_tokens.proofs.literal.unit_end.Goals as goal

-- at a backslash only an escape sequence can stand
only_escape : (o : Option ℕ) (file : List ℕ) (quote at : ℕ) → slice_index file at ≡ 92 →
    IfNone o ((to : ℕ) → ¬ IsEscape file at to) → IfNone o ((to : ℕ) → ¬ IsUnit file quote at to)
only_escape None file quote at e h = λ to u. elim u [ inl p ↦ p.0.no_backslash e | inr x ↦ h to x ]
only_escape (Some x) file quote at e h = tt

pub returns-then-file-at-eq92-clause-none : goal.returns-then-file-at-eq92-clause-none
returns-then-file-at-eq92-clause-none c =
    only_escape c.escape_end.result c.args.file.now c.args.quote c.args.at c.if-file-at-eq92.true c.escape_end.ensures.none
