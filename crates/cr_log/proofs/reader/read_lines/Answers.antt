use Rattle.std.proofs.Common.{◌≡◌, ℕ, ◌+◌, List, [], ◌∷◌, ◌++◌, Result, Ok, Err, false, cond, is_ok, is_err, length, length-append, sym, ap, subst, arith}
use Rattle.cr_reduce.specs.declared.end.Accepted.{Accepted}
use Rattle.cr_log.specs.declared.line.Line.TheVariants.{Accepted as AcceptedLine, Last as LastLine}
use Rattle.cr_log.specs.Forms.{BeginsWith, out_of_form}
use Rattle.cr_log.specs.Reading.{StartsWithLine}
use Rattle.cr_log.specs.Readers.{finished}
use Rattle.cr_log.proofs.Wholes.{begins_more, finished_right, right_finish, shorter, starts_with}
use Rattle.cr_log.proofs.reader.read_lines.Invariants.{HasRead}
use Rattle.cr_log.proofs.reader.read_lines.Goals as goal

-- a push that didn't fail
pushed : {A E : Type 0} (r : Result A E) (more old new : List Accepted) → is_err r ≡ false → new ≡ cond (is_ok r) more old → new ≡ more
pushed (Ok x) more old new h e = e
pushed (Err x) more old new h e = cc

read_more : (text : List ℕ) (accepted : List Accepted) (rest : List ℕ) (number : ℕ) (one : Accepted) (after : List ℕ) (new : List Accepted) → HasRead text accepted rest number → StartsWithLine rest (AcceptedLine one) after → new ≡ accepted ++ one ∷ [] → HasRead text new after (number + 1)
read_more text accepted rest number one after new p q is =
    let long = length-append accepted (one ∷ []) in
    let short = shorter rest (AcceptedLine one) after q in
    let size = ap length is in
    let P : List Accepted → Type 0 = λ xs. BeginsWith text xs after in
    record {
      begins = subst P (sym is) (begins_more text accepted rest one after p.begins q);
      counted = omega (arith, p.counted);
      room = omega (arith, p.room);
    }

pub returns-in_default : goal.returns-in_default
returns-in_default c =
    out_of_form c.loop-line.accepted.items c.loop-line.rest.now c.loop-line.invariant.begins c.in_default.ensures c.loop-line.invariant.counted

pub returns-in-Last : goal.returns-in-Last
returns-in-Last c =
    right_finish c.args.text.now c.finish.result (finished c.loop-line.accepted c.in-Last.last c.in-Some.after.now c.loop-line.number) c.finish.ensures
    (finished_right c.args.text.now c.loop-line.rest.now c.in-Some.after.now c.loop-line.accepted c.in-Last.last c.loop-line.number c.loop-line.invariant.begins
    (starts_with c.loop-line.rest.now c.in-Some.line (LastLine c.in-Last.last) c.in-Some.after.now c.in-Last.is c.in-Some.ensures) c.loop-line.invariant.counted)

pub loop-line-preserved : goal.loop-line-preserved
loop-line-preserved c =
    let started = starts_with c.loop-line.rest.now c.in-Some.line (AcceptedLine c.in-Accepted.one) c.in-Some.after.now c.in-Accepted.is c.in-Some.ensures in
    let kept : is_err c.push.result ≡ false = cc in
    read_more c.args.text.now c.loop-line.accepted.items c.loop-line.rest.now c.loop-line.number c.in-Accepted.one c.in-Some.after.now c.push.new.self.items c.loop-line.invariant started
    (pushed c.push.result _ _ _ kept c.push.ensures.items)
