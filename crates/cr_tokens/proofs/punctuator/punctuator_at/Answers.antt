use Rattle.std.proofs.Common.{◌≡◌, ◌≢◌, ◌<◌, ◌≤◌, ◌+◌, ◌⊎◌, inl, inr, ℕ, List, length, refl, arith}
use Rattle.std.specs.Prelude.{slice_index}
use Rattle.cr_tokens.specs.declared.token.TokenKind.TheVariants.{Punctuator}
use Rattle.cr_tokens.specs.Bytes.{IsSpace}
use Rattle.cr_tokens.specs.Punctuators.{punctuator_len}
use Rattle.cr_tokens.specs.Blanks.{IsBlank, OpensComment}
use Rattle.cr_tokens.specs.Tokens.{IsToken}
use Rattle.cr_tokens.specs.Faults.FaultAt.{no_token}
use Rattle.cr_tokens.proofs.Firsts.{no_blank_at, no_token_at}
use Rattle.cr_tokens.proofs.Signs.{punctuator_len-says, punctuator-Found, punctuator_IsToken, splice_no_token, Found, Longest}
use Rattle.cr_tokens.proofs.punctuator.punctuator_at.Goals as goal

-- what the three bytes say
says : (file : List ℕ) (at len second third : ℕ) → at < length file → len ≡ punctuator_len (slice_index file at) second third →
    second ≡ slice_index file (at + 1) → third ≡ slice_index file (at + 2) →
    ((len ≡ 0) × ((to : ℕ) → ¬ Found file at to)) ⊎ (((0 < len) × (len ≤ 3)) × Longest file at len)
says file at len second third h e s t = punctuator_len-says file at len h (rw (s, t) at e)

few : (file : List ℕ) (at len second third : ℕ) → at < length file → len ≡ punctuator_len (slice_index file at) second third →
    second ≡ slice_index file (at + 1) → third ≡ slice_index file (at + 2) → len ≤ 3
few file at len second third h e s t =
    elim (says file at len second third h e s t) [ inl zero ↦ omega (arith, zero.0) | inr some ↦ some.0.1 ]

longest : (file : List ℕ) (at len second third : ℕ) → at < length file → len ≡ punctuator_len (slice_index file at) second third →
    second ≡ slice_index file (at + 1) → third ≡ slice_index file (at + 2) → len ≢ 0 → Longest file at len
longest file at len second third h e s t n =
    elim (says file at len second third h e s t) [ inl zero ↦ absurd (n zero.0) | inr some ↦ some.1 ]

none : (file : List ℕ) (at len second third : ℕ) → at < length file → len ≡ punctuator_len (slice_index file at) second third →
    second ≡ slice_index file (at + 1) → third ≡ slice_index file (at + 2) → len ≡ 0 → (to : ℕ) → ¬ Found file at to
none file at len second third h e s t n =
    elim (says file at len second third h e s t) [ inl zero ↦ zero.1 | inr some ↦ absurd (omega (arith, some.0, n)) ]

-- no blank stands where no white space, no comment and no # begins
no_blank : (file : List ℕ) (at : ℕ) → ¬ IsSpace (slice_index file at) → ¬ OpensComment file at → slice_index file at ≢ 35 →
    (to : ℕ) → ¬ IsBlank file at to
no_blank file at s c h = no_blank_at file at s c (λ k. h k.hash)

pub overflow_add-at-3 : goal.overflow_add-at-3
overflow_add-at-3 c =
    let most : c.punctuator_len-len.result ≤ 3 =
    few c.args.file.now c.args.at c.punctuator_len-len.result c.byte_at.result c.byte_at-2.result c.requires.inside
    c.punctuator_len-len.ensures c.byte_at.ensures c.byte_at-2.ensures in
    omega arith

pub new-requires-clause-end : goal.new-requires-clause-end
new-requires-clause-end c =
    let most : c.punctuator_len-len.result ≤ 3 =
    few c.args.file.now c.args.at c.punctuator_len-len.result c.byte_at.result c.byte_at-2.result c.requires.inside
    c.punctuator_len-len.ensures c.byte_at.ensures c.byte_at-2.ensures in
    omega arith

pub returns-then-len-eq0-clause-fault : goal.returns-then-len-eq0-clause-fault
returns-then-len-eq0-clause-fault c =
    no_token c.requires.inside c.requires.no_comment c.requires.no_quote
    (no_blank c.args.file.now c.args.at c.requires.no_space c.requires.no_comment c.requires.no_hash)
    (no_token_at c.args.file.now c.args.at c.requires.no_word c.requires.no_number c.requires.no_quote
    (λ to lt inside p. none c.args.file.now c.args.at c.punctuator_len-len.result c.byte_at.result c.byte_at-2.result
    c.requires.inside c.punctuator_len-len.ensures c.byte_at.ensures c.byte_at-2.ensures c.if-len-eq0.true to
    (punctuator-Found c.args.file.now c.args.at to lt inside p)))

pub returns-then-is_splice-clause-fault : goal.returns-then-is_splice-clause-fault
returns-then-is_splice-clause-fault c =
    no_token c.requires.inside c.requires.no_comment c.requires.no_quote
    (no_blank c.args.file.now c.args.at c.requires.no_space c.requires.no_comment c.requires.no_hash)
    (splice_no_token c.args.file.now c.args.at (c.is_splice.ensures.0 c.if-is_splice.true))

pub returns-clause-item : goal.returns-clause-item
returns-clause-item c =
    let long : Longest c.args.file.now c.args.at c.punctuator_len-len.result =
    longest c.args.file.now c.args.at c.punctuator_len-len.result c.byte_at.result c.byte_at-2.result
    c.requires.inside c.punctuator_len-len.ensures c.byte_at.ensures c.byte_at-2.ensures c.if-len-eq0.false in
    let token : IsToken c.args.file.now (record { kind = Punctuator; start = c.args.at; end = c.args.at + c.punctuator_len-len.result }) =
    punctuator_IsToken c.args.file.now c.args.at c.punctuator_len-len.result long (omega (arith, c.if-len-eq0.false))
    c.requires.no_word c.requires.no_number c.requires.no_quote c.requires.no_comment
    (λ s. absurd (cc (c.is_splice.ensures.1 s))) in
    (rw c.new.ensures token, rw c.new.ensures refl)
