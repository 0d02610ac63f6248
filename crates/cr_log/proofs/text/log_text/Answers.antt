use Rattle.std.proofs.Common.{◌≡◌, ℕ, ◌+◌, ◌<◌, ◌≤◌, List, ◌++◌, All, get_or, length, take, sym, ◌∙◌, ap, subst, rules, arith}
use Rattle.std.proofs.lemmas.Grind.{common_steps}
use Rattle.std.proofs.lemmas.List.{take_all, take_more}
use Rattle.std.proofs.lemmas.List.Elements.{All-more}
use Rattle.std.specs.String.{string_bytes}
use Rattle.cr_reduce.specs.declared.end.Accepted.{Accepted}
use Rattle.cr_log.specs.Forms.{IsLoggable}
use Rattle.cr_log.specs.Texts.{accepted_line, line_text, log_text_of}
use Rattle.cr_log.proofs.Wholes.{lines-push, lines_of, written_log}
use Rattle.cr_log.proofs.text.log_text.Invariants.{HasWritten}
use Rattle.cr_log.proofs.text.log_text.Goals as goal

written_more : (xs zs : List Accepted) (i : ℕ) (d : Accepted) → IsLoggable (get_or zs i d) → zs ≡ xs → i < length xs → (old new : List ℕ) → HasWritten old (take i xs) → new ≡ old ++ line_text (accepted_line (get_or zs i d)) → HasWritten new (take (i + 1) xs)
written_more xs zs i d one same h old new p is =
    let P : List Accepted → Type 0 = λ ys. IsLoggable (get_or ys i d) in
    record {
      text_is =
          is ∙ ap (λ t. t ++ line_text (accepted_line (get_or zs i d))) p.text_is
          ∙ ap (λ ys. lines_of (take i xs) ++ line_text (accepted_line (get_or ys i d))) same
          ∙ sym (lines-push (take i xs) (get_or xs i d)) ∙ ap lines_of (sym (take_more xs i d h));
      loggable = All-more IsLoggable xs i d h p.loggable (subst P same one);
    }

written_all : (xs : List Accepted) (i : ℕ) → length xs ≤ i → All IsLoggable (take i xs) → All IsLoggable xs
written_all xs i h p = subst (All IsLoggable) (take_all i xs h) p

pub loop-one-preserved : goal.loop-one-preserved
loop-one-preserved c =
    written_more c.args.end.now.accepted.items c.deref-one-items.result.now c.loop-one.one-index _ c.in_ok-push_accepted.ensures.loggable c.deref-one-items.ensures.value
    (omega arith) (string_bytes c.loop-one.text) (string_bytes c.push_accepted.new.text) c.loop-one.invariant c.in_ok-push_accepted.ensures.text

pub returns-clause-log : goal.returns-clause-log
returns-clause-log c =
    let text : c.into_bytes.result.items ≡ log_text_of c.args.end.now c.args.size = first_of (search rules, grind (arith, common_steps)) in
    written_log c.into_bytes.result.items c.args.end.now.accepted.items c.args.end.now.why c.args.size c.args.end.now.turns
    (written_all c.args.end.now.accepted.items c.loop-one.one-index (omega arith) c.loop-one.invariant.loggable)
    c.requires.ended (omega arith) (omega arith) text
