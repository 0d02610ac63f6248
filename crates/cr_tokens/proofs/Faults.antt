-- A file has one first fault, and none where it has tokens.
use Rattle.std.proofs.Common.{◌≡◌, ◌≢◌, inl, inr, ℕ, ◌+◌, ◌≤◌, ◌<◌, List, ◌++◌, length, length-append, refl, sym, ◌∙◌, ap, arith}
use Rattle.std.specs.Prelude.{slice_index}
use Rattle.std.proofs.lemmas.Bool.{cases_order}
use Rattle.cr_tokens.specs.declared.token.Token.{Token}
use Rattle.cr_tokens.specs.declared.token.TokenKind.{TokenKind}
use Rattle.cr_tokens.specs.declared.token.TokenKind.TheVariants.{Keyword, Identifier, Integer, Character, Text, Punctuator}
use Rattle.cr_tokens.specs.declared.token.TokenFault.{TokenFault}
use Rattle.cr_tokens.specs.declared.token.TokenFault.TheVariants.{BadByte, OpenComment, OpenLiteral, TooMany}
use Rattle.cr_tokens.specs.Literals.{Chars}
use Rattle.cr_tokens.specs.Blanks.{IsBlank, IsComment, OpensComment, OpensBlock, ClosesBlock}
use Rattle.cr_tokens.specs.Blanks.IsBlank.{space, comment, skipped}
use Rattle.cr_tokens.specs.Tokens.{IsToken, Spells, Tokenizes, FallsInto}
use Rattle.cr_tokens.specs.Faults.{FaultAt, IsQuote, IsBadChar, IsLineEnd, IsSplicedComment, FirstTokenFault}
use Rattle.cr_tokens.specs.Faults.IsBadChar.{no_unit, broken}
use Rattle.cr_tokens.specs.Faults.FaultAt.{no_token, open_comment, spliced, bad_char, open_literal, wrong_count}
use Rattle.cr_tokens.specs.Faults.FirstTokenFault.{too_long, first, too_many}
use Rattle.cr_tokens.proofs.Units.{unit_no_quote, unit_no_line_end, unit_inside}
use Rattle.cr_tokens.proofs.Chains.{NoChar, ends-NoChar, bad-NoChar, Chars-meet}
use Rattle.cr_tokens.proofs.Longest.{byte_inside, quote_no_backslash, quote_no_slash, quote_some, nondigit_no_quote, number_no_quote}
use Rattle.cr_tokens.proofs.Firsts.{punctuator_no_other}
use Rattle.cr_tokens.proofs.Uniques.{comment_unique, comment_first}
use Rattle.cr_tokens.proofs.Wholes.{Stuck, end-Stuck, falls_on, falls_further, falls_same, falls_as_many}

-- how a literal's characters end where it is a fault
data Stops (file : List ℕ) (quote at count place : ℕ) : TokenFault → Type 0 where
  bad : {wrong : ℕ} → IsBadChar file quote at wrong → Stops file quote at count place (BadByte wrong)
  open_end : IsLineEnd file at → Stops file quote at count place (OpenLiteral place)
  number : quote ≡ 39 → slice_index file at ≡ quote → count ≢ 1 → Stops file quote at count place (BadByte place)

-- a literal that is a fault
record Literal (file : List ℕ) (at : ℕ) (fault : TokenFault) : Type 0 where
  quote : ℕ
  is_quote : IsQuote quote
  first : slice_index file at ≡ quote
  to : ℕ
  count : ℕ
  characters : Chars file quote (at + 1) to count
  stops : Stops file quote to count at fault

-- what a fault at a place is
data View (file : List ℕ) (at : ℕ) : TokenFault → Type 0 where
  nothing : at < length file → ¬ OpensComment file at → ¬ IsQuote (slice_index file at) →
      ((to : ℕ) → ¬ IsBlank file at to) → ((t : Token) → t.start ≡ at → ¬ IsToken file t) → View file at (BadByte at)
  opened : OpensBlock file at → ((k : ℕ) → at + 2 ≤ k → ¬ ClosesBlock file k) → View file at (OpenComment at)
  splice : {wrong : ℕ} → IsSplicedComment file at wrong → View file at (BadByte wrong)
  literal : {fault : TokenFault} → Literal file at fault → View file at fault

view : (file : List ℕ) (at : ℕ) (fault : TokenFault) → FaultAt file at fault → View file at fault
view file at fault (no_token a b c d e) = nothing a b c d e
view file at fault (open_comment a b) = opened a b
view file at fault (spliced a) = splice a
view file at fault (bad_char q to count a b c d) =
    literal (record { quote = q; is_quote = a; first = b; to = to; count = count; characters = c; stops = bad d })
view file at fault (open_literal q to count a b c d) =
    literal (record { quote = q; is_quote = a; first = b; to = to; count = count; characters = c; stops = open_end d })
view file at fault (wrong_count to count a b c d) =
    literal (record { quote = 39; is_quote = inl refl; first = a; to = to; count = count; characters = b; stops = number refl c d })

line_end-NoChar : (file : List ℕ) (quote at : ℕ) → quote ≢ 92 → IsLineEnd file at → NoChar file quote at
line_end-NoChar file quote at n (inl past) = ends-NoChar file quote at n (inl past)
line_end-NoChar file quote at n (inr end) = ends-NoChar file quote at n (inr (inr end))

stops-NoChar : (file : List ℕ) (quote at count place : ℕ) (fault : TokenFault) → IsQuote quote → Stops file quote at count place fault →
    NoChar file quote at
stops-NoChar file quote at count place fault q (bad b) = bad-NoChar file quote at _ b
stops-NoChar file quote at count place fault q (open_end e) = line_end-NoChar file quote at (quote_no_backslash quote q) e
stops-NoChar file quote at count place fault q (number e f n) =
    ends-NoChar file quote at (quote_no_backslash quote q) (inr (inl f))

-- a token at a quote: its characters and its closing quote
record Closed (file : List ℕ) (quote at : ℕ) : Type 0 where
  close : ℕ
  count : ℕ
  characters : Chars file quote (at + 1) close count
  quoted : slice_index file close ≡ quote
  one : quote ≡ 39 → count ≡ 1

closed : (kind : TokenKind) (file : List ℕ) (quote at to : ℕ) → IsQuote quote → slice_index file at ≡ quote → at < to →
    Spells file kind at to → Closed file quote at
closed Keyword file quote at to q e h s = absurd (nondigit_no_quote (slice_index file at) s.0.first (rw e q))
closed Identifier file quote at to q e h s = absurd (nondigit_no_quote (slice_index file at) s.0.first (rw e q))
closed Integer file quote at to q e h s = absurd (number_no_quote file at s.0.first (rw e q))
closed Character file quote at to q e h s =
    let same : 39 ≡ quote = sym s.open_quote ∙ e in
    record { close = s.close; count = 1; characters = rw same at s.characters; quoted = s.close_quote ∙ same; one = λ _. refl }
closed Text file quote at to q e h s =
    let same : 34 ≡ quote = sym s.1.open_quote ∙ e in
    record {
      close = s.1.close;
      count = s.0;
      characters = rw same at s.1.characters;
      quoted = s.1.close_quote ∙ same;
      one = λ f. absurd (omega (arith, same, f));
    }
closed Punctuator file quote at to q e h s = absurd (punctuator_no_other file at to h s (inr (rw e q)))

quote_no_ten : (b : ℕ) → IsQuote b → b ≢ 10
quote_no_ten b (inl e) n = omega arith
quote_no_ten b (inr e) n = omega arith

quote_no_hash : (b : ℕ) → IsQuote b → b ≢ 35
quote_no_hash b (inl e) n = omega arith
quote_no_hash b (inr e) n = omega arith

-- no literal's characters both end at the closing quote and make a fault
no_stop : (file : List ℕ) (quote at count place : ℕ) (fault : TokenFault) → IsQuote quote → slice_index file at ≡ quote →
    (quote ≡ 39 → count ≡ 1) → ¬ Stops file quote at count place fault
no_stop file quote at count place fault q e one (bad (no_unit a b c d f)) = b e
no_stop file quote at count place fault q e one (bad (broken to u a b c d)) = unit_no_quote file quote at to u (quote_no_backslash quote q) e
no_stop file quote at count place fault q e one (open_end (inl past)) =
    absurd (omega (arith, past, byte_inside file at (λ z. quote_some quote q (sym e ∙ z))))
no_stop file quote at count place fault q e one (open_end (inr end)) = quote_no_ten quote q (sym e ∙ end)
no_stop file quote at count place fault q e one (number n f m) = m (one n)

literal_no_token : (file : List ℕ) (at : ℕ) (fault : TokenFault) → Literal file at fault → (t : Token) → t.start ≡ at → ¬ IsToken file t
literal_no_token file at fault l t e h =
    let spells : Spells file t.kind at t.end = rw e at h.spells in
    let end : at < t.end = rw e at h.not_empty in
    let c : Closed file l.quote at = closed t.kind file l.quote at t.end l.is_quote l.first end spells in
    let ends : NoChar file l.quote c.close = ends-NoChar file l.quote c.close (quote_no_backslash l.quote l.is_quote) (inr (inl c.quoted)) in
    let met = Chars-meet l.characters (stops-NoChar file l.quote l.to l.count at fault l.is_quote l.stops) c.characters ends in
    no_stop file l.quote l.to l.count at fault l.is_quote (rw met.0 c.quoted) (λ n. met.1 ∙ c.one n) l.stops

quote_no_space : (file : List ℕ) (at : ℕ) → IsQuote (slice_index file at) → (to : ℕ) → ¬ IsBlank file at to
quote_no_space file at q to (space s e) = grind arith
quote_no_space file at q to (comment c e) = quote_no_slash (slice_index file at) q (comment_first file at to c)
quote_no_space file at q to (skipped k l) = quote_no_hash (slice_index file at) q k.hash

slash_blank : (file : List ℕ) (at to : ℕ) → slice_index file at ≡ 47 → IsBlank file at to → IsComment file at to
slash_blank file at to e (space (inl s) f) = absurd (omega arith)
slash_blank file at to e (space (inr s) f) = absurd (omega arith)
slash_blank file at to e (comment c f) = c
slash_blank file at to e (skipped k l) = absurd (omega (arith, k.hash))

opens : (file : List ℕ) (at to : ℕ) → IsComment file at to → OpensComment file at
opens file at to (inl c) = inl c.opens
opens file at to (inr c) = inr c.opens

spliced_no_blank : (file : List ℕ) (at wrong : ℕ) → IsSplicedComment file at wrong → (to : ℕ) → ¬ IsBlank file at to
spliced_no_blank file at wrong s to (space x e) = grind (arith, comment_first file at s.to s.comment)
spliced_no_blank file at wrong s to (comment c n) =
    n wrong s.after (rw (comment_unique file at to s.to c s.comment) s.inside) s.spliced
spliced_no_blank file at wrong s to (skipped k l) = absurd (omega (arith, k.hash, comment_first file at s.to s.comment))

-- where there is a fault nothing stands
view-Stuck : (file : List ℕ) (at : ℕ) (fault : TokenFault) → View file at fault → Stuck file at
view-Stuck file at fault (nothing a b c d e) = record { no_blank = d; no_token = e }
view-Stuck file at fault (opened o n) = record {
  no_blank = λ to b. elim (slash_blank file at to o.0 b) [
    | inl c ↦ n c.close c.after c.closed
    | inr c ↦ absurd (omega (arith, o.1, c.opens.1))
  ];
  no_token = λ t e h. h.no_comment (rw e (inl o));
}
view-Stuck file at fault (splice s) = record {
  no_blank = λ to b. spliced_no_blank file at _ s to b;
  no_token = λ t e h. h.no_comment (rw e (opens file at s.to s.comment));
}
view-Stuck file at fault (literal l) = record {
  no_blank = quote_no_space file at (rw l.first l.is_quote);
  no_token = literal_no_token file at fault l;
}

view_inside : (file : List ℕ) (at : ℕ) (fault : TokenFault) → View file at fault → at < length file
view_inside file at fault (nothing a b c d e) = a
view_inside file at fault (opened o n) = byte_inside file at (λ z. omega (arith, o.0))
view_inside file at fault (splice s) = byte_inside file at (λ z. omega (arith, comment_first file at s.to s.comment))
view_inside file at fault (literal l) = byte_inside file at (λ z. quote_some l.quote l.is_quote (sym l.first ∙ z))

bad_inside : (file : List ℕ) (quote at wrong : ℕ) → IsBadChar file quote at wrong → at < length file
bad_inside file quote at wrong (no_unit a b c d e) = a
bad_inside file quote at wrong (broken to u a b c d) = unit_inside file quote at to u

bad_no_quote : (file : List ℕ) (quote at wrong : ℕ) → IsQuote quote → IsBadChar file quote at wrong → slice_index file at ≢ quote
bad_no_quote file quote at wrong q (no_unit a b c d e) = b
bad_no_quote file quote at wrong q (broken to u a b c d) = unit_no_quote file quote at to u (quote_no_backslash quote q)

bad_no_line_end : (file : List ℕ) (quote at wrong : ℕ) → IsBadChar file quote at wrong → ¬ IsLineEnd file at
bad_no_line_end file quote at wrong b (inl past) = absurd (omega (arith, past, bad_inside file quote at wrong b))
bad_no_line_end file quote at wrong (no_unit a b c d e) (inr end) = c end
bad_no_line_end file quote at wrong (broken to u a b c d) (inr end) = unit_no_line_end file quote at to u end

bad_unique : (file : List ℕ) (quote at wrong other : ℕ) → IsBadChar file quote at wrong → IsBadChar file quote at other → wrong ≡ other
bad_unique file quote at wrong other (no_unit a b c d e) (no_unit a' b' c' d' e') = e ∙ sym e'
bad_unique file quote at wrong other (no_unit a b c d e) (broken to u a' b' c' d') = absurd (d to u)
bad_unique file quote at wrong other (broken to u a b c d) (no_unit a' b' c' d' e') = absurd (d' to u)
bad_unique file quote at wrong other (broken to u a b c d) (broken to' u' a' b' c' d') =
    elim (cases_order wrong other) [
      | inl e ↦ e
      | inr o ↦ elim o [ inl lt ↦ absurd (d' wrong a lt c) | inr gt ↦ absurd (d other a' gt c') ]
    ]

stops_unique : (file : List ℕ) (quote at count place : ℕ) (e f : TokenFault) → IsQuote quote →
    Stops file quote at count place e → Stops file quote at count place f → e ≡ f
stops_unique file quote at count place e f q (bad b) (bad c) = ap BadByte (bad_unique file quote at _ _ b c)
stops_unique file quote at count place e f q (bad b) (open_end l) = absurd (bad_no_line_end file quote at _ b l)
stops_unique file quote at count place e f q (bad b) (number n g m) = absurd (bad_no_quote file quote at _ q b g)
stops_unique file quote at count place e f q (open_end l) (bad b) = absurd (bad_no_line_end file quote at _ b l)
stops_unique file quote at count place e f q (open_end l) (open_end k) = refl
stops_unique file quote at count place e f q (open_end (inl past)) (number n g m) =
    absurd (omega (arith, past, byte_inside file at (λ z. quote_some quote q (sym g ∙ z))))
stops_unique file quote at count place e f q (open_end (inr end)) (number n g m) = absurd (quote_no_ten quote q (sym g ∙ end))
stops_unique file quote at count place e f q (number n g m) (bad b) = absurd (bad_no_quote file quote at _ q b g)
stops_unique file quote at count place e f q (number n g m) (open_end (inl past)) =
    absurd (omega (arith, past, byte_inside file at (λ z. quote_some quote q (sym g ∙ z))))
stops_unique file quote at count place e f q (number n g m) (open_end (inr end)) = absurd (quote_no_ten quote q (sym g ∙ end))
stops_unique file quote at count place e f q (number n g m) (number n' g' m') = refl

literal_unique : (file : List ℕ) (at : ℕ) (e f : TokenFault) → Literal file at e → Literal file at f → e ≡ f
literal_unique file at e f x y =
    let same : y.quote ≡ x.quote = sym y.first ∙ x.first in
    let stops : Stops file x.quote y.to y.count at f = rw same at y.stops in
    let met = Chars-meet x.characters (stops-NoChar file x.quote x.to x.count at e x.is_quote x.stops)
    (rw same at y.characters) (stops-NoChar file x.quote y.to y.count at f x.is_quote stops) in
    stops_unique file x.quote x.to x.count at e f x.is_quote x.stops (rw (met.0, met.1) stops)

spliced_unique : (file : List ℕ) (at wrong other : ℕ) → IsSplicedComment file at wrong → IsSplicedComment file at other → wrong ≡ other
spliced_unique file at wrong other x y = elim (cases_order wrong other) [
  | inl e ↦ e
  | inr o ↦ elim o [ inl lt ↦ absurd (y.first wrong x.after lt x.spliced) | inr gt ↦ absurd (x.first other y.after gt y.spliced) ]
]

opened_no_splice : (file : List ℕ) (at wrong : ℕ) → OpensBlock file at → ((k : ℕ) → at + 2 ≤ k → ¬ ClosesBlock file k) →
    ¬ IsSplicedComment file at wrong
opened_no_splice file at wrong o n s = elim s.comment [
  | inl c ↦ n c.close c.after c.closed
  | inr c ↦ absurd (omega (arith, o.1, c.opens.1))
]

literal_no_slash : (file : List ℕ) (at : ℕ) (e : TokenFault) → Literal file at e → slice_index file at ≢ 47
literal_no_slash file at e l z = quote_no_slash l.quote l.is_quote (sym l.first ∙ z)

-- at one place there is one fault
view_unique : (file : List ℕ) (at : ℕ) (e f : TokenFault) → View file at e → View file at f → e ≡ f
view_unique file at e f (nothing a b c d g) (nothing a' b' c' d' g') = refl
view_unique file at e f (nothing a b c d g) (opened o n) = absurd (b (inl o))
view_unique file at e f (nothing a b c d g) (splice s) = absurd (b (opens file at s.to s.comment))
view_unique file at e f (nothing a b c d g) (literal l) = absurd (c (rw l.first l.is_quote))
view_unique file at e f (opened o n) (nothing a b c d g) = absurd (b (inl o))
view_unique file at e f (opened o n) (opened p m) = refl
view_unique file at e f (opened o n) (splice s) = absurd (opened_no_splice file at _ o n s)
view_unique file at e f (opened o n) (literal l) = absurd (literal_no_slash file at f l o.0)
view_unique file at e f (splice s) (nothing a b c d g) = absurd (b (opens file at s.to s.comment))
view_unique file at e f (splice s) (opened o n) = absurd (opened_no_splice file at _ o n s)
view_unique file at e f (splice s) (splice r) = ap BadByte (spliced_unique file at _ _ s r)
view_unique file at e f (splice s) (literal l) = absurd (literal_no_slash file at f l (comment_first file at s.to s.comment))
view_unique file at e f (literal l) (nothing a b c d g) = absurd (c (rw l.first l.is_quote))
view_unique file at e f (literal l) (opened o n) = absurd (literal_no_slash file at e l o.0)
view_unique file at e f (literal l) (splice s) = absurd (literal_no_slash file at e l (comment_first file at s.to s.comment))
view_unique file at e f (literal l) (literal m) = literal_unique file at e f l m

fault-Stuck : (file : List ℕ) (at : ℕ) (e : TokenFault) → FaultAt file at e → Stuck file at
fault-Stuck file at e f = view-Stuck file at e (view file at e f)

-- after 262,144 tokens a token is one too many for a reading that goes to a place where nothing stands
no_room : (file : List ℕ) (at : ℕ) (t : Token) (tokens others : List Token) → FallsInto file 0 t.start tokens → length tokens ≡ 262144 →
    IsToken file t → FallsInto file 0 at others → Stuck file at → ¬ (length others ≤ 262144)
no_room file at t tokens others f n k g s few =
    let rest = falls_on f g s in
    let some : 0 < length rest.0 = falls_further t rest.1 refl k s in
    let most : length (tokens ++ rest.0) ≤ 262144 = rw rest.2 at few in
    omega (arith, n, some, simp length-append at most)

pub list_no_fault : (file : List ℕ) (tokens : List Token) (fault : TokenFault) → Tokenizes file tokens → ¬ FirstTokenFault file fault
list_no_fault file tokens fault x (too_long h) = absurd (omega (arith, x.short, h))
list_no_fault file tokens fault x (first at others short f few e) =
    let same : at ≡ length file = (falls_same f (fault-Stuck file at fault e) x.falls (end-Stuck file)).0 in
    absurd (omega (arith, same, view_inside file at fault (view file at fault e)))
list_no_fault file tokens fault x (too_many t others short f n k) =
    no_room file (length file) t others tokens f n k x.falls (end-Stuck file) x.few

pub one_fault : (file : List ℕ) (fault other : TokenFault) → FirstTokenFault file fault → FirstTokenFault file other → fault ≡ other
one_fault file fault other (too_long h) (too_long g) = refl
one_fault file fault other (too_long h) (first at ts short f few e) = absurd (omega (arith, short, h))
one_fault file fault other (too_long h) (too_many t ts short f n k) = absurd (omega (arith, short, h))
one_fault file fault other (first at ts short f few e) (too_long h) = absurd (omega (arith, short, h))
one_fault file fault other (first at ts short f few e) (first at' ts' short' f' few' e') =
    let same : at ≡ at' = (falls_same f (fault-Stuck file at fault e) f' (fault-Stuck file at' other e')).0 in
    view_unique file at fault other (view file at fault e) (rw same (view file at' other e'))
one_fault file fault other (first at ts short f few e) (too_many t ts' short' f' n k) =
    absurd (no_room file at t ts' ts f' n k f (fault-Stuck file at fault e) few)
one_fault file fault other (too_many t ts short f n k) (too_long h) = absurd (omega (arith, short, h))
one_fault file fault other (too_many t ts short f n k) (first at ts' short' f' few e) =
    absurd (no_room file at t ts ts' f n k f' (fault-Stuck file at other e) few)
one_fault file fault other (too_many t ts short f n k) (too_many u ts' short' f' m j) =
    ap TooMany (falls_as_many t u f refl k f' refl j (n ∙ sym m))
