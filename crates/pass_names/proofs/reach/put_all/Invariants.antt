use Rattle.std.proofs.Common.{◌≡◌, ℕ, ◌==◌, ◌&&◌, cond, None, length, slice_index_or, take}
use Rattle.std.specs.List.{list_any}
use Rattle.cr_scopes.specs.Resolved.{is_number}
use Rattle.pass_names.specs.Reach.{number_of}
use Rattle.pass_names.proofs.reach.put_all.Given as goal

abbrev pub invariant-loop-token : goal.invariant-loop-token
invariant-loop-token l = record {
  count : length l.all.items ≡ length l.names.of_token;
  put : (other : ℕ) → slice_index_or l.all.items other None
      ≡ cond (is_number (number_of l.names other) l.at && list_any (λ token. token == other) (take l.token-index l.declared)) l.outer (slice_index_or l.fn.all.items other None);
}
