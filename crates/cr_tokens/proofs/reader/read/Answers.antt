use Rattle.std.proofs.Common.{◌≡◌, ◌⊎◌, inl, inr, ℕ, ◌≤◌, List, length, length-append, arith}
use Rattle.std.proofs.lemmas.Result.{err_from_is_err_and}
use Rattle.cr_tokens.specs.declared.token.Token.{Token}
use Rattle.cr_tokens.specs.declared.token.TokenFault.{TokenFault}
use Rattle.cr_tokens.specs.declared.token.TokenFault.TheVariants.{NoMemory, TooLong, TooMany}
use Rattle.cr_tokens.specs.Tokens.{FallsInto, IsToken, HasNoTokens}
use Rattle.cr_tokens.specs.Tokens.FallsInto.{nothing}
use Rattle.cr_tokens.specs.Faults.{FirstTokenFault}
use Rattle.cr_tokens.specs.Faults.FirstTokenFault.{too_long, first, too_many}
use Rattle.cr_tokens.proofs.Files.{FallsInto-blank, FallsInto-token}
use Rattle.cr_tokens.proofs.Faults.{list_no_fault}
use Rattle.cr_tokens.proofs.reader.read.Goals as goal

-- a token for which there is no room is the fault
full : (file : List ℕ) (at : ℕ) (tokens : List Token) (t : Token) (e : TokenFault) → length file ≤ 1048576 →
    FallsInto file 0 at tokens → length tokens ≤ 262144 → IsToken file t → t.start ≡ at →
    (e ≡ NoMemory) ⊎ ((e ≡ TooMany t.start) × (262144 ≤ length tokens)) → (e ≡ NoMemory) ⊎ FirstTokenFault file e
full file at tokens t e short f few k s (inl n) = inl n
full file at tokens t e short f few k s (inr m) = inr (rw m.0 (too_many t tokens short (rw s f) (omega (arith, m.1)) k))

-- a file with a fault has no tokens
refused : (file : List ℕ) (e : TokenFault) → (e ≡ NoMemory) ⊎ FirstTokenFault file e → (e ≡ NoMemory) ⊎ HasNoTokens file
refused file e (inl n) = inl n
refused file e (inr f) = inr (λ tokens x. list_no_fault file tokens e x f)

pub loop-at-init : goal.loop-at-init
loop-at-init c = record {
  inside = omega arith;
  few = rw c.in-Ok.ensures.items (omega arith);
  falls = rw c.in-Ok.ensures.items nothing;
}

pub returns-then-file-gt-MAX_BYTES-clause-fault : goal.returns-then-file-gt-MAX_BYTES-clause-fault
returns-then-file-gt-MAX_BYTES-clause-fault c = inr (too_long c.if-file-gt-MAX_BYTES.true)

pub returns-then-file-gt-MAX_BYTES-clause-refused : goal.returns-then-file-gt-MAX_BYTES-clause-refused
returns-then-file-gt-MAX_BYTES-clause-refused c =
    refused c.args.file.now TooLong (inr (too_long c.if-file-gt-MAX_BYTES.true))

pub returns-in_err-to-clause-refused : goal.returns-in_err-to-clause-refused
returns-in_err-to-clause-refused c =
    let found : FirstTokenFault c.args.file.now c.in_err-to.field-0.0 =
    first c.loop-at.at c.loop-at.list.items c.if-file-gt-MAX_BYTES.false c.loop-at.invariant.falls c.loop-at.invariant.few
    c.in_err-to.ensures.fault in
    let p = err_from_is_err_and c.from_residual.result c.from_residual.ensures.1 in
    rw (p.1, p.2) (refused c.args.file.now c.in_err-to.field-0.0 (inr found))

pub returns-in_err-keep-in-Spelled-clause-refused : goal.returns-in_err-keep-in-Spelled-clause-refused
returns-in_err-keep-in-Spelled-clause-refused c =
    let item = rw c.in-Spelled.is at c.in_ok-to.ensures.item in
    let found = full c.args.file.now c.loop-at.at c.loop-at.list.items c.in-Spelled.token c.in_err-keep-in-Spelled.field-0.0
    c.if-file-gt-MAX_BYTES.false c.loop-at.invariant.falls c.loop-at.invariant.few item.0 item.1
    c.in_err-keep-in-Spelled.ensures.full in
    let p = err_from_is_err_and c.from_residual-in_err-keep-in-Spelled.result c.from_residual-in_err-keep-in-Spelled.ensures.1 in
    rw (p.1, p.2) (refused c.args.file.now c.in_err-keep-in-Spelled.field-0.0 found)

pub returns-in_err-to-clause-fault : goal.returns-in_err-to-clause-fault
returns-in_err-to-clause-fault c =
    let found : FirstTokenFault c.args.file.now c.in_err-to.field-0.0 =
    first c.loop-at.at c.loop-at.list.items c.if-file-gt-MAX_BYTES.false c.loop-at.invariant.falls c.loop-at.invariant.few
    c.in_err-to.ensures.fault in
    let p = err_from_is_err_and c.from_residual.result c.from_residual.ensures.1 in rw (p.1, p.2) (inr found)

pub returns-in_err-keep-in-Spelled-clause-fault : goal.returns-in_err-keep-in-Spelled-clause-fault
returns-in_err-keep-in-Spelled-clause-fault c =
    let item = rw c.in-Spelled.is at c.in_ok-to.ensures.item in
    let found = full c.args.file.now c.loop-at.at c.loop-at.list.items c.in-Spelled.token c.in_err-keep-in-Spelled.field-0.0
    c.if-file-gt-MAX_BYTES.false c.loop-at.invariant.falls c.loop-at.invariant.few item.0 item.1
    c.in_err-keep-in-Spelled.ensures.full in
    let p = err_from_is_err_and c.from_residual-in_err-keep-in-Spelled.result c.from_residual-in_err-keep-in-Spelled.ensures.1 in
    rw (p.1, p.2) found

pub loop-at-preserved : goal.loop-at-preserved
loop-at-preserved c =
    let item = rw c.in-Spelled.is at c.in_ok-to.ensures.item in
    record {
      inside = item.0.inside;
      few = rw c.in_ok-keep-in-Spelled.ensures.kept
          (simp length-append (omega (arith, c.in_ok-keep-in-Spelled.ensures.room)));
      falls = rw c.in_ok-keep-in-Spelled.ensures.kept
          (FallsInto-token c.in-Spelled.token c.loop-at.invariant.falls item.1 item.0);
    }

pub loop-at-preserved-in-Blank : goal.loop-at-preserved-in-Blank
loop-at-preserved-in-Blank c =
    let item = rw c.in-Blank.is at c.in_ok-to.ensures.item in
    record {
      inside = item.2;
      few = c.loop-at.invariant.few;
      falls = FallsInto-blank c.loop-at.invariant.falls item.0;
    }
