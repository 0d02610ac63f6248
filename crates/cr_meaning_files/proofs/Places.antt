-- Each node of a unit stands in a place, and no identifier labels a statement that isn't an item of a block (C11 6.8.1).
use Rattle.std.proofs.Common.{◌≡◌, ℕ, zero, suc, ◌+◌, ◌<◌, ◌≤◌, ◌==◌, inl, inr, Bool, true, false, ◌&&◌, ◌||◌, List, [], ◌∷◌, Option, None, Some, length, slice_get, slice_index_or, refl, sym, subst, ap, ◌∙◌, arith}
use Rattle.std.proofs.lemmas.Bool.{and_from, false≢true, or_left, or_right, eq-eqb}
use Rattle.std.proofs.lemmas.Option.{slice_get_within}
use Rattle.cr_syntax.specs.declared.word.Word.TheVariants as word
use Rattle.cr_syntax.specs.declared.node.Kind.{Kind}
use Rattle.cr_syntax.specs.declared.node.Kind.TheVariants as kind
use Rattle.cr_syntax.specs.declared.node.Node.{Node}
use Rattle.cr_syntax.specs.Words.{Lexeme, lexemes_of}
use Rattle.cr_syntax.specs.Trees.{Trees, none, node, trees_of, ◌&◌}
use Rattle.cr_syntax.specs.Kept.{PartsAreBelow, row_in}
use Rattle.cr_syntax.specs.Spells.{Is}
use Rattle.cr_syntax.specs.Tables.{rule_of, side_of}
use Rattle.cr_syntax.specs.Units.{Place, in_switch, own_item, block_item, elsewhere, place_in, is_stray, wrong_at, most_levels, stray_label}
use Rattle.cr_syntax.proofs.Arena.{row_at}
use Rattle.cr_syntax_machine_laws.proofs.MachineComplete.{allows_upto}
use Rattle.cr_syntax_machine_laws.proofs.MachineUnitStuck.{relimit_unit}
use Rattle.cr_syntax_nodes.specs.Laid.{IsLaid}
use Rattle.cr_typed.specs.declared.typed.Typed.{Typed}
use Rattle.cr_meaning_declarations.specs.Units.Owned.{AreOfUnit}
use Rattle.cr_meaning_declarations.proofs.UnitsLemmas.Handing.{laid_at}
use Rattle.cr_meaning_declarations.proofs.NamesLemmas.Parents.{above_some, part_below}
use Rattle.cr_meaning_declarations.specs.Declared.Files.{IsUnitOfFile}
use Rattle.cr_meaning_declarations.proofs.DeclaredLemmas.Nodes.{unit_tokens}
use Rattle.cr_meaning_declarations.proofs.DeclaredLemmas.Files.{has_unit}
use Rattle.cr_meaning_declarations.proofs.LastingLemmas.Begun.{one_of}
use Rattle.cr_meaning_objects.proofs.ComposedLemmas.Told.{item_there}
use Rattle.cr_meaning_files.proofs.Living.{above}

-- a node is an item of the unit, or a part of a node that stands in a place
pub data StandsAt (nodes : List Node) (items : List ℕ) : ℕ → Place → Type 0 where
  an_item : {p : ℕ} (k : ℕ) → slice_get items k ≡ Some p → StandsAt nodes items p elsewhere
  a_part : {p q : ℕ} {at : Place} (n : Node) (k : ℕ) → StandsAt nodes items q at → slice_get nodes q ≡ Some n → slice_get n.parts k ≡ Some p → StandsAt nodes items p (place_in n.kind at)

-- ---- what is wrong in a place is wrong in the unit

module _ (wrong : Kind → Place → Bool) (token : ℕ) where
  left : (at : Place) (t u : Trees) → wrong_at wrong token at (t & none) ≡ true → wrong_at wrong token at (t & u) ≡ true
  left at none u h = absurd (false≢true h)
  left at (node q i j a m) u h = elim (one_of (((i == token) && wrong q at) || wrong_at wrong token (place_in q at) a) (wrong_at wrong token at (m & none)) h) [
    | inl x ↦ or_left (((i == token) && wrong q at) || wrong_at wrong token (place_in q at) a) (wrong_at wrong token at (m & u)) x
    | inr x ↦ or_right (((i == token) && wrong q at) || wrong_at wrong token (place_in q at) a) (wrong_at wrong token at (m & u)) (left at m u x)
  ]

  right : (at : Place) (t u : Trees) → wrong_at wrong token at u ≡ true → wrong_at wrong token at (t & u) ≡ true
  right at none u h = h
  right at (node q i j a m) u h = or_right (((i == token) && wrong q at) || wrong_at wrong token (place_in q at) a) (wrong_at wrong token at (m & u)) (right at m u h)

  module _ (nodes : List Node) (below : PartsAreBelow nodes) (items : List ℕ) where
    in_row : (ps : List ℕ) (k p : ℕ) (at : Place) → slice_get ps k ≡ Some p → wrong_at wrong token at (row_in nodes (p ∷ [])) ≡ true → wrong_at wrong token at (row_in nodes ps) ≡ true
    in_row [] k p at e h = absurd (cc e)
    in_row (q ∷ ps) zero p at e h =
        let same : q ≡ p = cc e in
        left at (slice_index_or (trees_of nodes) q none) (row_in nodes ps) (ap (λ x. wrong_at wrong token at (row_in nodes (x ∷ []))) same ∙ h)
    in_row (q ∷ ps) (suc k) p at e h = right at (slice_index_or (trees_of nodes) q none) (row_in nodes ps) (in_row ps k p at e h)

    climb : {p : ℕ} {at : Place} → StandsAt nodes items p at → wrong_at wrong token at (row_in nodes (p ∷ [])) ≡ true → wrong_at wrong token elsewhere (row_in nodes items) ≡ true
    climb {p = p} (an_item k e) h = in_row items k p elsewhere e h
    climb {p = p} (a_part {q = q} {at = at} n k s here e) h =
        climb s (ap (wrong_at wrong token at) (row_at nodes below q n [] here)
        ∙ or_left (((n.first == token) && wrong n.kind at) || wrong_at wrong token (place_in n.kind at) (row_in nodes n.parts)) false
        (or_right ((n.first == token) && wrong n.kind at) (wrong_at wrong token (place_in n.kind at) (row_in nodes n.parts)) (in_row n.parts k p (place_in n.kind at) e h)))

    at_node : (p : ℕ) (n : Node) (at : Place) → slice_get nodes p ≡ Some n → n.first ≡ token → wrong n.kind at ≡ true → wrong_at wrong token at (row_in nodes (p ∷ [])) ≡ true
    at_node p n at here first bad =
        ap (wrong_at wrong token at) (row_at nodes below p n [] here)
        ∙ or_left (((n.first == token) && wrong n.kind at) || wrong_at wrong token (place_in n.kind at) (row_in nodes n.parts)) false
        (or_left ((n.first == token) && wrong n.kind at) (wrong_at wrong token (place_in n.kind at) (row_in nodes n.parts)) (and_from (n.first == token) (wrong n.kind at) (eq-eqb n.first token first) bad))

-- ---- each node stands somewhere

module _ (t : Typed) (u : AreOfUnit t) where
  standing_by : (m p : ℕ) → length t.nodes ≤ m + p → p < length t.nodes → (at : Place) × StandsAt t.nodes t.items p at
  standing_by zero p all low = absurd (omega (arith, all, low))
  standing_by (suc m) p all low = by (above t u p) refl (λ i more within. standing_by m i (omega (arith, all, more)) within)
    where
      by : (o : Option ℕ) → above t u p ≡ o → ((i : ℕ) → p < i → i < length t.nodes → (at : Place) × StandsAt t.nodes t.items i at) → (at : Place) × StandsAt t.nodes t.items p at
      by None e rest = let x = item_there t u p low e in (elsewhere, an_item x.0 x.1)
      by (Some i) e rest =
          let h = above_some t u (length t.nodes) p i e in
          let r = rest i (part_below t u p i h) (slice_get_within t.nodes i h.parent h.at) in
          (place_in h.parent.kind r.0, a_part h.parent h.place r.1 h.at h.is)

  pub standing : (p : ℕ) → p < length t.nodes → (at : Place) × StandsAt t.nodes t.items p at
  standing p low = standing_by (length t.nodes) p (omega arith) low

-- ---- labels

abbrev pub is_item_place : Place → Bool
is_item_place own_item = true
is_item_place block_item = true
is_item_place at = false

stray_by : (at : Place) → is_item_place at ≡ false → is_stray kind.Label at ≡ true
stray_by own_item h = absurd (false≢true (sym h))
stray_by block_item h = absurd (false≢true (sym h))
stray_by in_switch h = refl
stray_by elsewhere h = refl

label_words : (ts : List Lexeme) (parts : Trees) (i j : ℕ) → IsLaid ts (side_of kind.Label) parts i j → Is ts i word.Identifier × Is ts (i + 1) word.Colon
unfolding rule_of
label_words ts parts i j h = (h.0, h.1.0)

module _ (file : List ℕ) (t : Typed) (it : IsUnitOfFile file t) where
  open has_unit file t it use {unit as u}

  abbrev tokens : List Lexeme
  tokens = lexemes_of file it.unit.tokens.list.items

  tokens_are : u.tokens ≡ tokens
  tokens_are = unit_tokens file t it

  trees_are : row_in t.nodes t.items ≡ row_in it.unit.nodes it.unit.items
  trees_are = λ j. row_in (it.checked.by.elaborated.nodes_are j) (it.checked.by.elaborated.items_are j)

  no_stray : (k : ℕ) → Is tokens k word.Identifier → Is tokens (k + 1) word.Colon → wrong_at is_stray k elsewhere (row_in it.unit.nodes it.unit.items) ≡ true → ⊥
  no_stray k one two wrong =
      it.is_tree.inside k 9 (stray_label one two (record {
        text = tokens;
        alike = λ i x low e. e;
        is_unit = relimit_unit (λ g x c i d f p a. allows_upto (k + 1) most_levels g i d a) it.is_tree.is_unit;
      }) wrong)

  pub labels_are_items : (l : ℕ) (n : Node) (at : Place) → slice_get t.nodes l ≡ Some n → n.kind ≡ kind.Label → StandsAt t.nodes t.items l at → is_item_place at ≡ true
  labels_are_items l n at here is s = by (is_item_place at) refl
    where
      words : Is u.tokens n.first word.Identifier × Is u.tokens (n.first + 1) word.Colon
      words = label_words u.tokens (row_in t.nodes n.parts) n.first (n.last + 1) (subst (λ k. IsLaid u.tokens (side_of k) (row_in t.nodes n.parts) n.first (n.last + 1)) is (laid_at t u l n here))

      by : (b : Bool) → is_item_place at ≡ b → is_item_place at ≡ true
      by true e = e
      by false e =
          let bad : is_stray n.kind at ≡ true = ap (λ k. is_stray k at) is ∙ stray_by at e in
          let wrong = climb is_stray n.first t.nodes u.below t.items s (at_node is_stray n.first t.nodes u.below t.items l n at here refl bad) in
          absurd (no_stray n.first (subst (λ ts. Is ts n.first word.Identifier) tokens_are words.0) (subst (λ ts. Is ts (n.first + 1) word.Colon) tokens_are words.1) (ap (wrong_at is_stray n.first elsewhere) (sym trees_are) ∙ wrong))
