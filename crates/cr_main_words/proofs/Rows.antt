-- What is added to the rows, use by use.
use Rattle.std.proofs.Common.{◌≡◌, Bool, true, false, List, [], ◌∷◌, ◌++◌, append-nil, append_assoc, cond, unwrap_or, refl, sym, ap, ◌∙◌}
use Rattle.std.specs.Str.{bytes_eq}
use Rattle.clap.specs.Walk.{Row, Text, all_of, with_values}
use Rattle.clap.specs.declared.parser.matches.ValueSource.{ValueSource}
use Rattle.clap.specs.declared.parser.matches.ValueSource.TheVariants.{CommandLine}
use Rattle.clap.specs.declared.builder.value_parser.Reading.{Reading}
use Rattle.clap.specs.declared.builder.value_parser.Reading.TheVariants.{AsWritten}
use Rattle.cr_main_words.specs.Words.{IsAmong, Said, Word, places_of, values_of}
use Rattle.cr_main_words.specs.Words.Said.{option, place}
use Rattle.cr_main_words.specs.Splitting.{IsNamed, place_id, values_at}
use Rattle.cr_main_words.proofs.Forms.{bytes_differ, not_same, same_bytes}

pub values_at-all_of : (id : Text) (rows : List Row) → values_at id rows ≡ unwrap_or (all_of id rows) []
values_at-all_of id [] = refl
values_at-all_of id (row ∷ rows) = by (bytes_eq row.id id) refl (values_at-all_of id rows)
  where
    by : (t : Bool) → bytes_eq row.id id ≡ t → values_at id rows ≡ unwrap_or (all_of id rows) [] → values_at id (row ∷ rows) ≡ unwrap_or (all_of id (row ∷ rows)) []
    by true e rest = rw e refl
    by false e rest = rw e rest

module _ (id : Text) (how : Reading) (s : ValueSource) (values : List Text) (x : Text) where
  pub values_at-more : (rows : List Row) → values_at x (with_values id how s values rows) ≡ values_at x rows ++ cond (bytes_eq id x) values []
  values_at-more [] = by (bytes_eq id x)
    where
      by : (t : Bool) → cond t values [] ≡ cond t values []
      by t = refl
  values_at-more (row ∷ rows) = by (bytes_eq row.id id) refl (bytes_eq row.id x) refl (values_at-more rows)
    where
      by : (t : Bool) → bytes_eq row.id id ≡ t → (u : Bool) → bytes_eq row.id x ≡ u → values_at x (with_values id how s values rows) ≡ values_at x rows ++ cond (bytes_eq id x) values []
          → values_at x (with_values id how s values (row ∷ rows)) ≡ values_at x (row ∷ rows) ++ cond (bytes_eq id x) values []
      by true e true f rest =
          let other : bytes_eq id x ≡ true = ap (λ i. bytes_eq i x) (sym (same_bytes row.id id e)) ∙ f in rw (e, f, other) refl
      by true e false f rest =
          let other : bytes_eq id x ≡ false = ap (λ i. bytes_eq i x) (sym (same_bytes row.id id e)) ∙ f in rw (e, f, other) (sym (append-nil (values_at x rows)))
      by false e true f rest =
          let other : bytes_eq id x ≡ false = bytes_differ id x (λ is. not_same row.id id e (same_bytes row.id x f ∙ sym is)) in rw (e, f, other) (sym (append-nil row.values))
      by false e false f rest = rw (e, f) rest

abbrev pub id_of : Said → Text
id_of (option name value) = name
id_of (place word) = place_id

abbrev pub value_of : Said → Text
value_of (option name value) = value
value_of (place word) = word

-- the rows with one use more, and with all that is said
abbrev pub with_said : Said → List Row → List Row
with_said said rows = with_values (id_of said) AsWritten CommandLine (value_of said ∷ []) rows

abbrev pub adds : List Said → List Row → List Row
adds [] rows = rows
adds (x ∷ said) rows = adds said (with_said x rows)

abbrev pub said_at : Text → List Said → List Text
said_at id [] = []
said_at id (x ∷ said) = cond (bytes_eq (id_of x) id) (value_of x ∷ []) [] ++ said_at id said

pub adds_more : (id : Text) (said : List Said) (rows : List Row) → values_at id (adds said rows) ≡ values_at id rows ++ said_at id said
adds_more id [] rows = sym (append-nil (values_at id rows))
adds_more id (x ∷ said) rows =
    adds_more id said (with_said x rows)
    ∙ ap (λ v. v ++ said_at id said) (values_at-more (id_of x) AsWritten CommandLine (value_of x ∷ []) id rows)
    ∙ append_assoc (values_at id rows) (cond (bytes_eq (id_of x) id) (value_of x ∷ []) []) (said_at id said)

pub said_at-name : (name : Word) (said : List Said) → bytes_eq place_id name ≡ false → said_at name said ≡ values_of name said
said_at-name name [] other = refl
said_at-name name (option n value ∷ said) other = by (bytes_eq n name) (said_at-name name said other)
  where
    by : (t : Bool) → said_at name said ≡ values_of name said → cond t (value ∷ []) [] ++ said_at name said ≡ cond t (value ∷ values_of name said) (values_of name said)
    by true rest = ap (λ v. value ∷ v) rest
    by false rest = rest
said_at-name name (place word ∷ said) other = rw other (said_at-name name said other)

pub said_at-place : (names : List Word) (said : List Said) → ((name : Word) → IsAmong name names → bytes_eq name place_id ≡ false) → IsNamed names said
    → said_at place_id said ≡ places_of said
said_at-place names [] others named = refl
said_at-place names (option n value ∷ said) others named = rw (others n named.0) (said_at-place names said others named.1)
said_at-place names (place word ∷ said) others named = ap (λ v. word ∷ v) (said_at-place names said others named)
