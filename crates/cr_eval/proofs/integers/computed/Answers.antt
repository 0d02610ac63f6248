use Rattle.std.proofs.Common.{Ok}
use Rattle.std.proofs.lemmas.Int.{to_z-of_z}
use Rattle.std.specs.Int.{w128}
use Rattle.cr_ints.specs.Operations.{mul_of, div_of, rem_of, add_of, sub_of, shl_of, shr_of}
use Rattle.cr_ints.specs.Bits.{bitand_of, bitor_of, bitxor_of}
use Rattle.cr_meaning.specs.Values.{exactly}
use Rattle.cr_meaning.specs.declared.value.Value.TheVariants.{Number}
use Rattle.cr_eval.proofs.Arithmetic.{through, read_back, read_converted}
use Rattle.cr_eval.proofs.integers.computed.Goals as goal

pub returns-in-Multiply : goal.returns-in-Multiply
returns-in-Multiply c =
    let a = c.args in
    rw c.in-Multiply.is (through (mul_of a.kind) (exactly a.kind) _ _ _ _ _ _
    (read_converted a.kind a.left _ c.ranges.left c.convert-first.ensures.representable c.convert-first.ensures.value)
    (read_converted a.kind a.right _ c.ranges.right c.convert.ensures.representable c.convert.ensures.value)
    c.mul.ensures.value c.exactly.ensures)

pub returns-in-Divide : goal.returns-in-Divide
returns-in-Divide c =
    let a = c.args in
    rw c.in-Divide.is (through (div_of a.kind) (exactly a.kind) _ _ _ _ _ _
    (read_converted a.kind a.left _ c.ranges.left c.convert-first.ensures.representable c.convert-first.ensures.value)
    (read_converted a.kind a.right _ c.ranges.right c.convert-in-Divide.ensures.representable c.convert-in-Divide.ensures.value)
    c.div.ensures.value c.exactly-in-Divide.ensures)

pub returns-in-Remainder : goal.returns-in-Remainder
returns-in-Remainder c =
    let a = c.args in
    rw c.in-Remainder.is (through (rem_of a.kind) (exactly a.kind) _ _ _ _ _ _
    (read_converted a.kind a.left _ c.ranges.left c.convert-first.ensures.representable c.convert-first.ensures.value)
    (read_converted a.kind a.right _ c.ranges.right c.convert-in-Remainder.ensures.representable c.convert-in-Remainder.ensures.value)
    c.rem.ensures.value c.exactly-in-Remainder.ensures)

pub returns-in-Add : goal.returns-in-Add
returns-in-Add c =
    let a = c.args in
    rw c.in-Add.is (through (add_of a.kind) (exactly a.kind) _ _ _ _ _ _
    (read_converted a.kind a.left _ c.ranges.left c.convert-first.ensures.representable c.convert-first.ensures.value)
    (read_converted a.kind a.right _ c.ranges.right c.convert-in-Add.ensures.representable c.convert-in-Add.ensures.value)
    c.add.ensures.value c.exactly-in-Add.ensures)

pub returns-in-Subtract : goal.returns-in-Subtract
returns-in-Subtract c =
    let a = c.args in
    rw c.in-Subtract.is (through (sub_of a.kind) (exactly a.kind) _ _ _ _ _ _
    (read_converted a.kind a.left _ c.ranges.left c.convert-first.ensures.representable c.convert-first.ensures.value)
    (read_converted a.kind a.right _ c.ranges.right c.convert-in-Subtract.ensures.representable c.convert-in-Subtract.ensures.value)
    c.sub.ensures.value c.exactly-in-Subtract.ensures)

pub returns-in-ShiftLeft : goal.returns-in-ShiftLeft
returns-in-ShiftLeft c =
    let a = c.args in
    rw c.in-ShiftLeft.is (through (shl_of a.kind) (exactly a.kind) _ _ _ _ _ _
    (read_converted a.kind a.left _ c.ranges.left c.convert-first.ensures.representable c.convert-first.ensures.value)
    (to_z-of_z w128 a.right c.ranges.right)
    c.shl.ensures.value c.exactly-in-ShiftLeft.ensures)

pub returns-in-ShiftRight : goal.returns-in-ShiftRight
returns-in-ShiftRight c =
    let a = c.args in
    rw c.in-ShiftRight.is (through (shr_of a.kind) (exactly a.kind) _ _ _ _ _ _
    (read_converted a.kind a.left _ c.ranges.left c.convert-first.ensures.representable c.convert-first.ensures.value)
    (to_z-of_z w128 a.right c.ranges.right)
    c.shr.ensures.value c.exactly-in-ShiftRight.ensures)

pub returns-in-And : goal.returns-in-And
returns-in-And c =
    let a = c.args in
    rw c.in-And.is (through (bitand_of a.kind) (λ value. Ok (Number a.kind value)) _ _ _ _ _ _
    (read_converted a.kind a.left _ c.ranges.left c.convert-first.ensures.representable c.convert-first.ensures.value)
    (read_converted a.kind a.right _ c.ranges.right c.convert-in-And.ensures.representable c.convert-in-And.ensures.value)
    (read_back a.kind _ _ c.bitand.ensures.representable c.bitand.ensures.value) c.number.ensures)

pub returns-in-Xor : goal.returns-in-Xor
returns-in-Xor c =
    let a = c.args in
    rw c.in-Xor.is (through (bitxor_of a.kind) (λ value. Ok (Number a.kind value)) _ _ _ _ _ _
    (read_converted a.kind a.left _ c.ranges.left c.convert-first.ensures.representable c.convert-first.ensures.value)
    (read_converted a.kind a.right _ c.ranges.right c.convert-in-Xor.ensures.representable c.convert-in-Xor.ensures.value)
    (read_back a.kind _ _ c.bitxor.ensures.representable c.bitxor.ensures.value) c.number-in-Xor.ensures)

pub returns-in-Or : goal.returns-in-Or
returns-in-Or c =
    let a = c.args in
    rw c.in-Or.is (through (bitor_of a.kind) (λ value. Ok (Number a.kind value)) _ _ _ _ _ _
    (read_converted a.kind a.left _ c.ranges.left c.convert-first.ensures.representable c.convert-first.ensures.value)
    (read_converted a.kind a.right _ c.ranges.right c.convert-in-Or.ensures.representable c.convert-in-Or.ensures.value)
    (read_back a.kind _ _ c.bitor.ensures.representable c.bitor.ensures.value) c.number-in-Or.ensures)
