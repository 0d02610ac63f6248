use Rattle.std.proofs.Common.{◌≡◌}
use Rattle.cr_tokens.specs.Numbers.{IsIntegerOf}
use Rattle.cr_tokens.proofs.Integers.{digits_meet}
use Rattle.cr_tokens.proofs.number.is_integer.Goals as goal

pub returns : goal.returns
returns c = (
  λ yes. (c.digits_end.result, rw (c.body_of-body.ensures, c.base_of-base.ensures) at (c.is_integer_of.ensures.0 yes)),
  λ (count, x).
      let here : IsIntegerOf c.base_of-base.result c.body_of-body.result.now count =
      rw (c.body_of-body.ensures, c.base_of-base.ensures) x in
      let same : count ≡ c.digits_end.result =
      digits_meet c.base_of-base.result c.body_of-body.result.now count c.digits_end.result here
      c.digits_end.ensures.digits c.digits_end.ensures.stop in
      c.is_integer_of.ensures.1 (rw same at here),
)
