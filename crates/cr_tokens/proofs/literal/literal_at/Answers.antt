use Rattle.std.proofs.Common.{◌≡◌, inl, inr, ℕ, ◌+◌, List, refl, ◌∙◌, arith}
use Rattle.std.specs.Prelude.{slice_index}
use Rattle.std.proofs.lemmas.Result.{err_from_is_err_and}
use Rattle.cr_tokens.specs.declared.token.TokenFault.{TokenFault}
use Rattle.cr_tokens.specs.declared.token.TokenKind.TheVariants.{Text, Character}
use Rattle.cr_tokens.specs.Literals.{IsLiteral, Chars}
use Rattle.cr_tokens.specs.Tokens.{IsToken}
use Rattle.cr_tokens.specs.Faults.{IsQuote, IsBadAmong, FaultAt}
use Rattle.cr_tokens.specs.Faults.FaultAt.{bad_char, open_literal, wrong_count}
use Rattle.cr_tokens.proofs.Longest.{literal_IsToken}
use Rattle.cr_tokens.proofs.literal.literal_at.Goals as goal

bad : (file : List ℕ) (quote at : ℕ) (fault : TokenFault) → IsQuote quote → slice_index file at ≡ quote →
    IsBadAmong file quote (at + 1) fault → FaultAt file at fault
bad file quote at fault q e (to, count, place, f, cs, b) = rw f (bad_char quote to count q e cs b)

literal : (file : List ℕ) (quote at close count : ℕ) → slice_index file at ≡ quote → Chars file quote (at + 1) close count →
    slice_index file close ≡ quote → IsLiteral file quote at (close + 1) count
literal file quote at close count e cs f = record { open_quote = e; close = close; characters = cs; close_quote = f; end = refl }

pub returns-in_err-body-clause-fault : goal.returns-in_err-body-clause-fault
returns-in_err-body-clause-fault c =
    let found : FaultAt c.args.file.now c.args.at c.in_err-body.field-0.0 =
    bad c.args.file.now (slice_index c.args.file.now c.args.at) c.args.at c.in_err-body.field-0.0 c.requires.quote refl
    c.in_err-body.ensures.fault in
    let p = err_from_is_err_and c.from_residual.result c.from_residual.ensures.1 in rw (p.1, p.2) found

pub returns-then-byte_at-quote-clause-fault : goal.returns-then-byte_at-quote-clause-fault
returns-then-byte_at-quote-clause-fault c =
    open_literal (slice_index c.args.file.now c.args.at) c.in_ok-body.body.end c.in_ok-body.body.count
    c.requires.quote refl c.in_ok-body.ensures.characters
    (elim c.in_ok-body.ensures.stop [
      | inl past ↦ inl past
      | inr o ↦ elim o [
        | inl q ↦ absurd (c.if-byte_at-quote.true (c.byte_at.ensures ∙ q))
        | inr l ↦ inr l
      ]
    ])

pub returns-then-quote-eq34-clause-item : goal.returns-then-quote-eq34-clause-item
returns-then-quote-eq34-clause-item c =
    let quote : slice_index c.args.file.now c.args.at ≡ 34 = c.if-quote-eq34.true in
    let close : slice_index c.args.file.now c.in_ok-body.body.end ≡ 34 = cc in
    let whole : IsLiteral c.args.file.now 34 c.args.at (c.in_ok-body.body.end + 1) c.in_ok-body.body.count =
    literal c.args.file.now 34 c.args.at c.in_ok-body.body.end c.in_ok-body.body.count quote
    (rw quote at c.in_ok-body.ensures.characters) close in
    let token : IsToken c.args.file.now (record { kind = Text; start = c.args.at; end = c.in_ok-body.body.end + 1 }) =
    literal_IsToken c.args.file.now Text 34 c.args.at c.in_ok-body.body.end c.in_ok-body.body.count (inr refl)
    whole close (omega (arith, c.in_ok-body.ensures.inside)) (c.in_ok-body.body.count, whole) in
    (rw c.new.ensures token, rw c.new.ensures refl)

pub returns-then-body-ne1-clause-fault : goal.returns-then-body-ne1-clause-fault
returns-then-body-ne1-clause-fault c =
    let quote : slice_index c.args.file.now c.args.at ≡ 39 =
    elim c.requires.quote [ inl e ↦ e | inr e ↦ absurd (c.if-quote-eq34.false e) ] in
    wrong_count c.in_ok-body.body.end c.in_ok-body.body.count quote (rw quote at c.in_ok-body.ensures.characters) (cc) c.if-body-ne1.true

pub returns-clause-item : goal.returns-clause-item
returns-clause-item c =
    let quote : slice_index c.args.file.now c.args.at ≡ 39 =
    elim c.requires.quote [ inl e ↦ e | inr e ↦ absurd (c.if-quote-eq34.false e) ] in
    let close : slice_index c.args.file.now c.in_ok-body.body.end ≡ 39 = cc in
    let whole : IsLiteral c.args.file.now 39 c.args.at (c.in_ok-body.body.end + 1) 1 =
    literal c.args.file.now 39 c.args.at c.in_ok-body.body.end 1 quote
    (rw c.if-body-ne1.false at (rw quote at c.in_ok-body.ensures.characters)) close in
    let token : IsToken c.args.file.now (record { kind = Character; start = c.args.at; end = c.in_ok-body.body.end + 1 }) =
    literal_IsToken c.args.file.now Character 39 c.args.at c.in_ok-body.body.end 1 (inl refl)
    whole close (omega (arith, c.in_ok-body.ensures.inside)) whole in
    (rw c.new-2.ensures token, rw c.new-2.ensures refl)
