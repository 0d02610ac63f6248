use Rattle.std.proofs.Common.{◌≡◌, length, sym, ◌∙◌, refl}
use Rattle.std.proofs.lemmas.Bool.{le-ltb}
use Rattle.cr_tokens.specs.Bytes.{is_among as is_among_lem}
use Rattle.cr_tokens.specs.Words.{keywords}
use Rattle.cr_tokens.proofs.Keywords.{among_as_long, none_as_long, below_15}
use Rattle.cr_tokens.proofs.word.is_keyword.Goals as goal

pub returns-then-word-lt15 : goal.returns-then-word-lt15
returns-then-word-lt15 c =
    below_15 (λ n. length c.args.word.now ≡ n → c.is_among.result ≡ is_among_lem keywords c.args.word.now)
    (λ e. rw e at c.is_among.ensures ∙ sym (among_as_long keywords c.args.word.now 0 e))
    (λ e. rw e at c.is_among.ensures ∙ sym (among_as_long keywords c.args.word.now 1 e))
    (λ e. rw e at c.is_among.ensures ∙ sym (among_as_long keywords c.args.word.now 2 e))
    (λ e. rw e at c.is_among.ensures ∙ sym (among_as_long keywords c.args.word.now 3 e))
    (λ e. rw e at c.is_among.ensures ∙ sym (among_as_long keywords c.args.word.now 4 e))
    (λ e. rw e at c.is_among.ensures ∙ sym (among_as_long keywords c.args.word.now 5 e))
    (λ e. rw e at c.is_among.ensures ∙ sym (among_as_long keywords c.args.word.now 6 e))
    (λ e. rw e at c.is_among.ensures ∙ sym (among_as_long keywords c.args.word.now 7 e))
    (λ e. rw e at c.is_among.ensures ∙ sym (among_as_long keywords c.args.word.now 8 e))
    (λ e. rw e at c.is_among.ensures ∙ sym (among_as_long keywords c.args.word.now 9 e))
    (λ e. rw e at c.is_among.ensures ∙ sym (among_as_long keywords c.args.word.now 10 e))
    (λ e. rw e at c.is_among.ensures ∙ sym (among_as_long keywords c.args.word.now 11 e))
    (λ e. rw e at c.is_among.ensures ∙ sym (among_as_long keywords c.args.word.now 12 e))
    (λ e. rw e at c.is_among.ensures ∙ sym (among_as_long keywords c.args.word.now 13 e))
    (λ e. rw e at c.is_among.ensures ∙ sym (among_as_long keywords c.args.word.now 14 e))
    (length c.args.word.now) c.if-word-lt15.true refl

pub returns-else-word-lt15 : goal.returns-else-word-lt15
returns-else-word-lt15 c = le-ltb (length c.args.word.now) 15 c.if-word-lt15.false ∙ sym (none_as_long c.args.word.now c.if-word-lt15.false)
