use Rattle.std.proofs.Common.{◌≡◌, ◌++◌, List, ℕ, take, drop, sym, ◌∙◌, ap, take-append-drop}
use Rattle.std.specs.Int.{to_le_bytes, w16}
use Rattle.cr_journal_rows.proofs.number.take_u16.Goals as goal

pub returns : goal.returns
returns c =
    let bytes = c.args.bytes.now in
    let parts = c.in_ok-number.ensures.cases in
    sym (take-append-drop 2 bytes) ∙ ap (λ (l : List ℕ). l ++ drop 2 bytes) (sym parts.0 ∙ sym c.u16_of.ensures)
    ∙ ap (λ (l : List ℕ). to_le_bytes w16 c.u16_of.result ++ l) (sym parts.1)
