use Rattle.std.proofs.Common.{Ok, ap, ◌∙◌}
use Rattle.cr_ints.specs.Operations.{neg_of}
use Rattle.cr_ints.specs.Bits.{not_of}
use Rattle.cr_meaning.specs.Values.{exactly}
use Rattle.cr_meaning.specs.declared.value.Value.TheVariants.{Number}
use Rattle.cr_eval.proofs.Arithmetic.{read_back, read_converted}
use Rattle.cr_eval.proofs.integers.signed_by.Goals as goal

pub returns-in-Minus : goal.returns-in-Minus
returns-in-Minus c =
    let a = c.args in
    rw c.in-Minus.is (c.exactly.ensures ∙ ap (exactly a.kind) (c.neg.ensures.value ∙ ap (neg_of a.kind)
    (read_converted a.kind a.value _ c.ranges.value c.convert-value.ensures.representable c.convert-value.ensures.value)))

pub returns-in-Complement : goal.returns-in-Complement
returns-in-Complement c =
    let a = c.args in
    rw c.in-Complement.is (c.number-in-Complement.ensures ∙ ap (λ value. Ok (Number a.kind value))
    (read_back a.kind _ _ c.not.ensures.representable (c.not.ensures.value ∙ ap (not_of a.kind)
    (read_converted a.kind a.value _ c.ranges.value c.convert-value.ensures.representable c.convert-value.ensures.value))))
