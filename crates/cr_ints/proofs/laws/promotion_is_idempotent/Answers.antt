use Rattle.cr_ints.proofs.Promotions.{promote_of-promote_of}
use Rattle.cr_ints.proofs.laws.promotion_is_idempotent.Goals as goal

pub returns : goal.returns
returns c = promote_of-promote_of
