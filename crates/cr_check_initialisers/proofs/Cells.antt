-- The cells of types, where each structure has those of its members.
use Rattle.std.proofs.Common.{ℕ, ◌≤◌, sum_by, slice_index_or, arith}
use Rattle.std.proofs.Math.Nat.{mul_assoc}
use Rattle.cr_check_types.specs.Layouts.{count_of, element_of, single_of, nothing}
use Rattle.cr_check_initialisers.specs.declared.source.Source.{Source}
use Rattle.cr_check_initialisers.specs.Known.{known_of}
use Rattle.cr_check_initialisers.specs.Laws.{IsLaidOut}

pub laid_out : (s : Source) → ((node : ℕ) → sum_by (known_of s).cells ((known_of s).members node) ≤ (slice_index_or s.layouts.now node nothing).cells) → IsLaidOut (known_of s)
unfolding known_of
laid_out s h = record {
  arrays = λ n t. mul_assoc n (count_of t) (single_of s.layouts.now (element_of t)).cells;
  structures = λ node c v. omega (arith, h node);
}
