use Rattle.std.proofs.Common.{◌≡◌, arith}
use Rattle.cr_tokens.specs.Faults.FirstTokenFault.{too_long}
use Rattle.cr_tokens.proofs.Comes.{comes_nowhere, comes_blank, comes_token, comes_fault, comes_full}
use Rattle.cr_tokens.proofs.reader.first_fault.Goals as goal

pub loop-at-init : goal.loop-at-init
loop-at-init c = record { inside = omega arith; few = omega arith; comes = comes_nowhere c.args.file.now }

pub returns-then-file-gt-MAX_BYTES-clause-fault : goal.returns-then-file-gt-MAX_BYTES-clause-fault
returns-then-file-gt-MAX_BYTES-clause-fault c = too_long c.if-file-gt-MAX_BYTES.true

pub returns-in-Err-clause-fault : goal.returns-in-Err-clause-fault
returns-in-Err-clause-fault c =
    comes_fault c.args.file.now c.loop-at.at c.loop-at.count c.in-Err.fault c.if-file-gt-MAX_BYTES.false
    c.loop-at.invariant.few c.loop-at.invariant.comes c.in-Err.ensures.fault

pub loop-at-preserved-in-Ok-Blank : goal.loop-at-preserved-in-Ok-Blank
loop-at-preserved-in-Ok-Blank c =
    let item = rw c.in-Ok-Blank.field-0-is at c.in-Ok-Blank.ensures.item in
    record {
      inside = item.2;
      few = c.loop-at.invariant.few;
      comes = comes_blank c.args.file.now c.loop-at.at c.in-Ok-Blank.to c.loop-at.count c.loop-at.invariant.comes item.0;
    }

pub returns-then-count-ge-MAX_TOKENS-clause-fault : goal.returns-then-count-ge-MAX_TOKENS-clause-fault
returns-then-count-ge-MAX_TOKENS-clause-fault c =
    let item = rw c.in-Ok-Spelled.field-0-is at c.in-Ok-Spelled.ensures.item in
    let full : c.loop-at.count ≡ 262144 = omega arith in
    comes_full c.args.file.now c.loop-at.at c.loop-at.count c.in-Ok-Spelled.token c.if-file-gt-MAX_BYTES.false full
    c.loop-at.invariant.comes item.0 item.1

pub loop-at-preserved : goal.loop-at-preserved
loop-at-preserved c =
    let item = rw c.in-Ok-Spelled.field-0-is at c.in-Ok-Spelled.ensures.item in
    record {
      inside = item.0.inside;
      few = omega arith;
      comes = comes_token c.args.file.now c.loop-at.at c.loop-at.count c.in-Ok-Spelled.token c.loop-at.invariant.comes item.0 item.1;
    }
