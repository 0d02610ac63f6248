-- A text that goes on: what is spelled in it stays spelled in a longer one, whose further tokens have no spelling to tell.
use Rattle.std.proofs.Common.{◌≡◌, ℕ, zero, suc, ◌+◌, ◌≤◌, Bool, List, [], ◌∷◌, length, refl, sym, ap, subst, ◌∙◌, arith, inl, inr}
use Rattle.std.specs.Prelude.{◌++◌}
use Rattle.cr_syntax.specs.declared.word.Word.{Word}
use Rattle.cr_syntax.specs.declared.part.Context.{Context}
use Rattle.cr_syntax.specs.Words.{Lexeme, spelling_at}
use Rattle.cr_syntax.specs.Scopes.{Scopes, is_type}
use Rattle.cr_syntax.specs.Trees.{Trees}
use Rattle.cr_syntax.specs.Spells.{Limit, Is, IsIdentifier, Phrase, Spells, AreQualifiers, qualifiers_none, qualifiers_more}
use Rattle.cr_syntax_machine_laws.proofs.MachineOwn.{lets_itself, carried_whole}

-- the first text's tokens are the second's, and the second tells no more names
pub record Front (us all : List Lexeme) : Type 0 where
  pub words : (i : ℕ) (w : Word) → Is us i w → Is all i w
  pub names : (k : ℕ) → spelling_at all k ≡ spelling_at us k

pub front_itself : (us : List Lexeme) → Front us us
front_itself us = record { words = λ i w q. q; names = λ k. refl }

pub front_then : {us vs ws : List Lexeme} → Front us vs → Front vs ws → Front us ws
front_then f g = record { words = λ i w q. g.words i w (f.words i w q); names = λ k. g.names k ∙ f.names k }

abbrev unnamed : Word → Lexeme
unnamed w = record { word = w; spelling = [] }

words_stay : (us : List Lexeme) (x : Lexeme) (i : ℕ) (w : Word) → Is us i w → Is (us ++ x ∷ []) i w
words_stay [] x i w q = cc
words_stay (u ∷ us) x zero w q = q
words_stay (u ∷ us) x (suc i) w q = words_stay us x i w q

names_stay : (us : List Lexeme) (w : Word) (k : ℕ) → spelling_at (us ++ unnamed w ∷ []) k ≡ spelling_at us k
names_stay [] w zero = refl
names_stay [] w (suc k) = refl
names_stay (u ∷ us) w zero = refl
names_stay (u ∷ us) w (suc k) = names_stay us w k

last_word : (us : List Lexeme) (w : Word) → Is (us ++ unnamed w ∷ []) (length us) w
last_word [] w = refl
last_word (u ∷ us) w = last_word us w

last_length : (us : List Lexeme) (w : Word) → length us + 1 ≡ length (us ++ unnamed w ∷ [])
last_length [] w = refl
last_length (u ∷ us) w = let n = last_length us w in omega arith

-- a text with one token more
pub record Longer (us : List Lexeme) (i : ℕ) (w : Word) : Type 0 where
  pub all : List Lexeme
  pub front : Front us all
  pub word : Is all i w
  pub size : i + 1 ≡ length all

pub longer : (us : List Lexeme) (i : ℕ) → i ≡ length us → (w : Word) → Longer us i w
longer us i q w = record {
  all = us ++ unnamed w ∷ [];
  front = record { words = words_stay us (unnamed w); names = names_stay us w };
  word = subst (λ k. Is (us ++ unnamed w ∷ []) k w) (sym q) (last_word us w);
  size = ap (λ k. k + 1) q ∙ last_length us w;
}

-- these words stand from token i on, and the token behind them
abbrev pub Stand : List Lexeme → ℕ → List Word → Type 0
Stand all i [] = Unit {0}
Stand all i (w ∷ ws) = Is all i w × Stand all (i + 1) ws

abbrev pub past : ℕ → List Word → ℕ
past i [] = i
past i (w ∷ ws) = past (i + 1) ws

pub past_more : (ws : List Word) (i : ℕ) → i ≤ past i ws
past_more [] i = omega arith
past_more (w ∷ ws) i = let n = past_more ws (i + 1) in omega arith

-- a text with these tokens more
pub record LongerBy (us : List Lexeme) (i : ℕ) (ws : List Word) : Type 0 where
  pub all : List Lexeme
  pub front : Front us all
  pub words : Stand all i ws
  pub size : past i ws ≡ length all

pub longer_by : (ws : List Word) (us : List Lexeme) (i : ℕ) → i ≡ length us → LongerBy us i ws
longer_by [] us i e = record { all = us; front = front_itself us; words = tt; size = e }
longer_by (w ∷ ws) us i e =
    let x = longer us i e w in
    let y = longer_by ws x.all (i + 1) x.size in
    record { all = y.all; front = front_then x.front y.front; words = (y.front.words _ _ x.word, y.words); size = y.size }

pub weaken_qualifiers : {us all : List Lexeme} {limit : Limit} {d i j : ℕ} → Front us all → AreQualifiers us limit d i j → AreQualifiers all limit d i j
weaken_qualifiers y qualifiers_none = qualifiers_none
weaken_qualifiers y (qualifiers_more (inl q) w k) = qualifiers_more (inl (y.words _ _ q)) w (weaken_qualifiers y k)
weaken_qualifiers y (qualifiers_more (inr q) w k) = qualifiers_more (inr (y.words _ _ q)) w (weaken_qualifiers y k)

pub weaken_name : {us all : List Lexeme} (c : Scopes) (i : ℕ) {b : Bool} → Front us all → IsIdentifier us c i b → IsIdentifier all c i b
weaken_name c i {b = b} y q = (y.words _ _ q.0, subst (λ z. is_type c z ≡ b) (sym (y.names i)) q.1)

pub weaken : {us all : List Lexeme} {limit : Limit} {p : Phrase} {h : Context} {c e : Scopes} {d i j : ℕ} {t : Trees} → Front us all → Spells us limit p h c e d t i j → Spells all limit p h c e d t i j
weaken {limit = limit} {j = j} y s = carried_whole (record { words = λ i w q ge lt. y.words i w q; names = λ i q ge lt. y.names i; every = λ q k. y.names k }) (lets_itself limit j) s
