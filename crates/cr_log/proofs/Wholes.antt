-- A text is one log, or has one first line that isn't in the form, and never both.
use Rattle.std.proofs.Common.{◌≡◌, ◌≢◌, ℕ, suc, ◌+◌, ◌^◌, ◌<◌, ◌≤◌, inl, inr, List, [], ◌∷◌, ◌++◌, length, map, All, Vec, Global, Result, Ok, Err, refl, sym, ◌∙◌, ap, subst, arith, append_assoc, append-nil, length-append}
use Rattle.std.proofs.lemmas.List.Elements.{All-append, All-cons, All-nil}
use Rattle.std.specs.List.{flat_map}
use Rattle.cr_reduce.specs.declared.end.Accepted.{Accepted}
use Rattle.cr_reduce.specs.declared.end.Why.{Why}
use Rattle.cr_reduce.specs.declared.end.Why.TheVariants.{Fixed, Limit, Fault, NoMemory as WhyNoMemory}
use Rattle.cr_log.specs.Texts.{accepted_line, last_line, line_text, text_of, why_number}
use Rattle.cr_log.specs.Forms.{BeginsWith, IsEnding, IsFirstBadLine, IsLog, IsLoggable, StartsInForm, out_of_form, past_the_end}
use Rattle.cr_log.specs.declared.line.Last.{Last}
use Rattle.cr_log.specs.declared.line.Line.{Line}
use Rattle.cr_log.specs.declared.line.Line.TheVariants.{Accepted as AcceptedLine, Last as LastLine}
use Rattle.cr_log.specs.declared.reader.Log.{Log}
use Rattle.cr_log.specs.declared.reader.LogFault.{LogFault}
use Rattle.cr_log.specs.declared.reader.LogFault.TheVariants.{NoMemory, Line as BadLine}
use Rattle.cr_log.specs.Readers.{IsReadAs, IsRefusedAt, Reads, finished}
use Rattle.cr_log.specs.Reading.{StartsWithLine}
use Rattle.cr_log.proofs.Lines.{accepted_line_free, last_line_free, other_line, same_accepted_line, same_cut, same_last_line}

-- the lines of acceptances
abbrev pub lines_of : List Accepted → List ℕ
lines_of accepted = flat_map line_text (map accepted_line accepted)

-- the first line of a text of lines
pub first_line : (line lines rest : List ℕ) → (line_text line ++ lines) ++ rest ≡ line ++ 10 ∷ (lines ++ rest)
first_line line lines rest = simp append_assoc

pub line_then : (line rest : List ℕ) → line_text line ++ rest ≡ line ++ 10 ∷ rest
line_then line rest = simp append_assoc

-- no line of an acceptance stands at the front of the text
abbrev Stops : List ℕ → Type 0
Stops text = (one : Accepted) (after : List ℕ) → IsLoggable one → text ≡ accepted_line one ++ 10 ∷ after → ⊥

-- the lines of acceptances go as far as they can in one way
same_begin : (xs ys : List Accepted) (r s : List ℕ) → All IsLoggable xs → All IsLoggable ys → Stops r → Stops s → lines_of xs ++ r ≡ lines_of ys ++ s → (xs ≡ ys) × (r ≡ s)
same_begin [] [] r s p q u v e = (refl, e)
same_begin [] (y ∷ ys) r s p q u v e =
    absurd (u y (lines_of ys ++ s) (q 0 y (omega arith)) (e ∙ first_line (accepted_line y) (lines_of ys) s))
same_begin (x ∷ xs) [] r s p q u v e =
    absurd (v x (lines_of xs ++ r) (p 0 x (omega arith)) (sym e ∙ first_line (accepted_line x) (lines_of xs) r))
same_begin (x ∷ xs) (y ∷ ys) r s p q u v e =
    let px = p 0 x (omega arith) in
    let qy = q 0 y (omega arith) in
    let cut = same_cut 10 (accepted_line x) (accepted_line y) (lines_of xs ++ r) (lines_of ys ++ s) (accepted_line_free x px) (accepted_line_free y qy)
    (sym (first_line (accepted_line x) (lines_of xs) r) ∙ e ∙ first_line (accepted_line y) (lines_of ys) s) in
    let one : x ≡ y = same_accepted_line x y px qy cut.0 in
    let rest = same_begin xs ys r s (λ k d h. p (suc k) d (omega arith)) (λ k d h. q (suc k) d (omega arith)) u v cut.1 in
    let others : xs ≡ ys = rest.0 in
    (cc, rest.1)

same_split : (text : List ℕ) (xs ys : List Accepted) (r s : List ℕ) → BeginsWith text xs r → BeginsWith text ys s → Stops r → Stops s → (xs ≡ ys) × (r ≡ s)
same_split text xs ys r s p q u v = same_begin xs ys r s p.loggable q.loggable u v (sym p.split ∙ q.split)

-- a last line is no line of an acceptance
last_stops : (why size turns : ℕ) (rest : List ℕ) → IsEnding why size turns → Stops (line_text (last_line why size turns) ++ rest)
last_stops why size turns rest p one after l e =
    let cut = same_cut 10 (last_line why size turns) (accepted_line one) rest after (last_line_free why size turns p) (accepted_line_free one l)
    (sym (line_then (last_line why size turns) rest) ∙ e) in
    other_line one why size turns (sym cut.0)

end_stops : (why size turns : ℕ) → IsEnding why size turns → Stops (line_text (last_line why size turns))
end_stops why size turns p one after l e =
    let cut = same_cut 10 (last_line why size turns) (accepted_line one) [] after (last_line_free why size turns p) (accepted_line_free one l) e in
    other_line one why size turns (sym cut.0)

-- nor does one stand where no line in the form does
unformed_stops : (rest : List ℕ) → (StartsInForm rest → ⊥) → Stops rest
unformed_stops rest unformed one after l e = unformed (accepted_line one, after, inl (one, record { loggable = l; is = refl }), e)

last_in_form : (why size turns : ℕ) (rest after : List ℕ) → IsEnding why size turns → rest ≡ last_line why size turns ++ 10 ∷ after → StartsInForm rest
last_in_form why size turns rest after p e =
    (last_line why size turns, after, inr (why, size, turns, record { ending = p; is = refl }), e)

-- a text is one log at most
pub one_log : (text : List ℕ) (xs ys : List Accepted) (v w s t u x : ℕ) → IsLog text xs v s u → IsLog text ys w t x → (xs ≡ ys) × (v ≡ w) × (s ≡ t) × (u ≡ x)
one_log text xs ys v w s t u x p q =
    let same = same_split text xs ys _ _ p.begins q.begins (end_stops v s u p.ending) (end_stops w t x q.ending) in
    let cut = same_cut 10 (last_line v s u) (last_line w t x) [] [] (last_line_free v s u p.ending) (last_line_free w t x q.ending) same.1 in
    let last = same_last_line v w s t u x p.ending q.ending cut.0 in
    (same.0, last.0, last.1, last.2)

-- a log has no line that isn't in the form
pub log_no_bad_line : (text : List ℕ) (xs : List Accepted) (why size turns n : ℕ) → IsLog text xs why size turns → IsFirstBadLine text n → ⊥
log_no_bad_line text xs why size turns n p (out_of_form before rest begins unformed is) =
    let same = same_split text xs before _ _ p.begins begins (end_stops why size turns p.ending) (unformed_stops rest unformed) in
    unformed (last_in_form why size turns rest [] p.ending (sym same.1))
log_no_bad_line text xs why size turns n p (past_the_end before w t x rest begins ending more is) =
    let same = same_split text xs before _ _ p.begins begins (end_stops why size turns p.ending) (last_stops w t x rest ending) in
    let cut = same_cut 10 (last_line why size turns) (last_line w t x) [] rest (last_line_free why size turns p.ending) (last_line_free w t x ending)
    (same.1 ∙ line_then (last_line w t x) rest) in
    more (sym cut.1)

-- a text has one first line at most that isn't in the form
pub one_bad_line : (text : List ℕ) (m n : ℕ) → IsFirstBadLine text m → IsFirstBadLine text n → m ≡ n
one_bad_line text m n (out_of_form xs r p unformed i) (out_of_form ys s q nor j) =
    let same = same_split text xs ys r s p q (unformed_stops r unformed) (unformed_stops s nor) in
    let long = ap length same.0 in
    omega arith
one_bad_line text m n (out_of_form xs r p unformed i) (past_the_end ys w t x s q ending more j) =
    let same = same_split text xs ys r _ p q (unformed_stops r unformed) (last_stops w t x s ending) in
    absurd (unformed (last_in_form w t x r s ending (same.1 ∙ line_then (last_line w t x) s)))
one_bad_line text m n (past_the_end ys w t x s q ending more j) (out_of_form xs r p unformed i) =
    let same = same_split text xs ys r _ p q (unformed_stops r unformed) (last_stops w t x s ending) in
    absurd (unformed (last_in_form w t x r s ending (same.1 ∙ line_then (last_line w t x) s)))
one_bad_line text m n (past_the_end xs v z y r p begun less i) (past_the_end ys w t x s q ending more j) =
    let same = same_split text xs ys _ _ p q (last_stops v z y r begun) (last_stops w t x s ending) in
    let long = ap length same.0 in
    omega arith

-- one more line of an acceptance
pub lines-push : (xs : List Accepted) (one : Accepted) → lines_of (xs ++ one ∷ []) ≡ lines_of xs ++ line_text (accepted_line one)
lines-push [] one = simp append-nil
lines-push (x ∷ xs) one = ap (λ t. line_text (accepted_line x) ++ t) (lines-push xs one) ∙ sym (append_assoc (line_text (accepted_line x)) (lines_of xs) (line_text (accepted_line one)))

All-push : (xs : List Accepted) (one : Accepted) → All IsLoggable xs → IsLoggable one → All IsLoggable (xs ++ one ∷ [])
All-push xs one p q = All-append IsLoggable xs (one ∷ []) p (All-cons IsLoggable one [] q (All-nil IsLoggable))

-- the text begins with the acceptances so far and the one that its rest begins with
pub begins_more : (text : List ℕ) (xs : List Accepted) (rest : List ℕ) (one : Accepted) (after : List ℕ) → BeginsWith text xs rest → StartsWithLine rest (AcceptedLine one) after → BeginsWith text (xs ++ one ∷ []) after
begins_more text xs rest one after p q =
    let line = ap (λ l. l ++ 10 ∷ after) q.says.is in
    let split : lines_of xs ++ rest ≡ (lines_of xs ++ line_text (accepted_line one)) ++ after =
    ap (λ t. lines_of xs ++ t) (q.is ∙ line ∙ sym (line_then (accepted_line one) after)) ∙ sym (append_assoc (lines_of xs) (line_text (accepted_line one)) after) in
    record {
      loggable = All-push xs one p.loggable q.says.loggable;
      split = p.split ∙ split ∙ ap (λ t. t ++ after) (sym (lines-push xs one));
    }

-- a line and its LF have bytes
pub shorter : (text : List ℕ) (line : Line) (rest : List ℕ) → StartsWithLine text line rest → length rest < length text
shorter text line rest p = omega (arith, ap length p.is, length-append p.front (10 ∷ rest))

-- what is answered after a last line is right
pub finished_right : (text rest after : List ℕ) (accepted : Vec Accepted Global) (last : Last) (number : ℕ) → BeginsWith text accepted.items rest → StartsWithLine rest (LastLine last) after → number ≡ length accepted.items + 1 → Reads text (finished accepted last after number)
finished_right text rest [] accepted last number p q n =
    record {
      begins = record { loggable = p.loggable; split = p.split ∙ ap (λ t. lines_of accepted.items ++ t) (q.is ∙ ap (λ l. l ++ 10 ∷ []) q.says.is) };
      ending = q.says.ending;
    }
finished_right text rest (byte ∷ after) accepted last number p q n =
    past_the_end accepted.items last.why last.size last.turns (byte ∷ after)
    (record {
      loggable = p.loggable;
      split = p.split ∙ ap (λ t. lines_of accepted.items ++ t) (q.is ∙ ap (λ l. l ++ 10 ∷ byte ∷ after) q.says.is ∙ sym (line_then (last_line last.why last.size last.turns) (byte ∷ after)));
    })
    q.says.ending (λ e. cc) (omega arith)

-- a right answer is the only one
pub right_log : (text : List ℕ) (answer : Result Log LogFault) → Reads text answer → (accepted : List Accepted) (why size turns : ℕ) → IsLog text accepted why size turns → IsReadAs answer accepted why size turns
right_log text (Ok log) p accepted why size turns q = one_log text log.accepted.items accepted log.why why log.size size log.turns turns p q
right_log text (Err NoMemory) p accepted why size turns q = tt
right_log text (Err (BadLine n)) p accepted why size turns q = log_no_bad_line text accepted why size turns n q p

pub right_line : (text : List ℕ) (answer : Result Log LogFault) → Reads text answer → (n : ℕ) → IsFirstBadLine text n → IsRefusedAt answer n
right_line text (Ok log) p n q = log_no_bad_line text log.accepted.items log.why log.size log.turns n p q
right_line text (Err NoMemory) p n q = tt
right_line text (Err (BadLine m)) p n q = one_bad_line text m n p q

pub right_bad_line : (text : List ℕ) (answer : Result Log LogFault) → Reads text answer → (n : ℕ) → answer ≡ Err (BadLine n) → IsFirstBadLine text n
right_bad_line text answer p n is = subst (Reads text) is p

pub right_finish : (text : List ℕ) (answer other : Result Log LogFault) → answer ≡ other → Reads text other → Reads text answer
right_finish text answer other is p = subst (Reads text) (sym is) p

pub starts_with : (text : List ℕ) (line other : Line) (rest : List ℕ) → line ≡ other → StartsWithLine text line rest → StartsWithLine text other rest
starts_with text line other rest is p = let P : Line → Type 0 = λ l. StartsWithLine text l rest in subst P is p

known_why : (why : Why) → why ≢ WhyNoMemory → why_number why ≤ 2
known_why Fixed some = omega arith
known_why Limit some = omega arith
known_why (Fault turn worker) some = omega arith
known_why WhyNoMemory some = absurd (some refl)

-- what was written is a log
pub written_log : (text : List ℕ) (xs : List Accepted) (why : Why) (size turns : ℕ) → All IsLoggable xs → why ≢ WhyNoMemory → size < 2 ^ 64 → turns < 2 ^ 64 → text ≡ text_of xs (why_number why) size turns → IsLog text xs (why_number why) size turns
written_log text xs why size turns p some size_fits turns_fit is =
    record {
      begins = record { loggable = p; split = is };
      ending = record { known = known_why why some; size_fits = size_fits; turns_fit = turns_fit };
    }
