-- What a column of last numbers has at a key, and beyond its end.
use Rattle.std.proofs.Common.{◌≡◌, ℕ, ◌+◌, ◌<◌, List, Option, None, Some, length, nat_lt, slice_index_or, if◌then◌else◌, inl, inr, refl, sym, ap, ◌∙◌, arith}
use Rattle.std.proofs.lemmas.Bool.{cases_lt, lt-ltb, le-ltb, cond-true, cond-false}
use Rattle.std.proofs.lemmas.List.{get_or_past}
use Rattle.cr_scopes.specs.Resolved.{is_number}
use Rattle.cr_scopes_bindings.specs.Last.{last_with, AreLast}
use Rattle.cr_scopes_bindings.proofs.Lasting.{put_last}
use Rattle.cr_typed_columns.specs.Reading.{entry_of}
use Rattle.cr_typed_columns.specs.Entities.{last_below, last_of}

read_some : (key : ℕ → Option ℕ) (bound keys k : ℕ) (column : List (Option ℕ)) → AreLast key bound keys column → slice_index_or column k None ≡ last_below key bound keys k
read_some key bound keys k column h = elim (cases_lt k keys) [
  | inl low ↦ h.each k low ∙ sym (cond-true (nat_lt k keys) (last_with key bound k) None (lt-ltb k keys low))
  | inr past ↦ get_or_past column k None (let c = h.count in omega (arith, c, past)) ∙ sym (cond-false (nat_lt k keys) (last_with key bound k) None (le-ltb k keys past))
]

pub read : (key : ℕ → Option ℕ) (bound keys : ℕ) (k : Option ℕ) (column : List (Option ℕ)) → AreLast key bound keys column → entry_of column None k ≡ last_of key bound keys k
read key bound keys None column h = refl
read key bound keys (Some k) column h = read_some key bound keys k column h

-- one number more, of which the key is known by the place that it was made from
pub put_at : (key : ℕ → Option ℕ) (at number keys : ℕ) (given : Option ℕ) (old new : List (Option ℕ)) → AreLast key at keys old
    → given ≡ key at → number ≡ at → length new ≡ length old
    → ((k : ℕ) → k < length old → slice_index_or new k None ≡ (if is_number given k then Some number else slice_index_or old k None))
    → AreLast key (at + 1) keys new
put_at key at number keys given old new h g n count each = put_last key at number keys given old new h (g ∙ ap key (sym n)) n count each
