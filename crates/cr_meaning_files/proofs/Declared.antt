-- What declarations give is known, since a declaration stands before each name that sees it (K1).
use Rattle.std.proofs.Common.{◌≡◌, ℕ, ◌<◌, ◌||◌, inl, inr, Bool, true, false, List, [], Some, length, map, slice_get, slice_index_or, sym, subst, ap, ◌∙◌, arith, if◌then◌else◌}
use Rattle.std.proofs.lemmas.Bool.{cases_lt, false≢true}
use Rattle.std.proofs.lemmas.List.{get_or_past}
use Rattle.cr_syntax.specs.declared.ctype.CType.TheVariants.{Unknown}
use Rattle.cr_syntax_nodes.proofs.Numbers.{some_at}
use Rattle.cr_scopes_events.specs.Scripts as scripts
use Rattle.cr_check_types.specs.Types.{Qualified, plain, pointer as to, array, type_at}
use Rattle.cr_check_types.specs.Relations.{is_complete_at}
use Rattle.cr_check_expressions.specs.declared.known.Member.{Member}
use Rattle.cr_check_declarators.specs.Declarators.{whole_object}
use Rattle.cr_typed_columns.specs.Columns.{is_structure}
use Rattle.cr_typed.specs.declared.typed.Typed.{Typed}
use Rattle.cr_meaning_declarations.specs.Declared.Files.{IsUnitOfFile, assembled}
use Rattle.cr_meaning_types.specs.Known.Sized.{is_open}
use Rattle.cr_meaning_typing.specs.Typed.Typing.{has_value}
use Rattle.cr_meaning_types.specs.Known.Known.{IsMemberType, AreKnown}
use Rattle.cr_meaning_types.proofs.KnownLemmas.Listing.{mapped}
use Rattle.cr_meaning_types.proofs.KnownLemmas.Known.{known, readable}
use Rattle.cr_meaning_types.proofs.KnownLemmas.Sized.{sized}
use Rattle.cr_meaning_references.proofs.TypedefsLemmas.Files.{are_seen}
use Rattle.cr_meaning_files.specs.Files.{AreRead}
use Rattle.cr_meaning_files.specs.Structures.{AreMembersWhole}
use Rattle.cr_meaning_files.proofs.Made.{complete_whole}
use Rattle.cr_meaning_references.proofs.TreesLemmas.Shaped.{surrounded, shaped}
use Rattle.cr_meaning_references.proofs.TreesLemmas.Sighted.{sighted}
use Rattle.cr_meaning_objects.proofs.CalledLemmas.Objects.{at_map as image}

-- a type is complete, unless it is an array of unknown size
sized_complete : (complete : Qualified → Bool) (type : Qualified) → has_value type ≡ true → is_open type ≡ false → whole_object complete type ≡ true → complete type ≡ true
sized_complete complete (plain Unknown c v) h o e = absurd (false≢true h)
sized_complete complete (plain of c v) h o e = e
sized_complete complete (to c v below) h o e = e
sized_complete complete (array n below) h o e = sym (ap (λ b. b || complete (array n below)) o) ∙ e

module _ (file : List ℕ) (t : Typed) (it : IsUnitOfFile file t) where
  open it use {made_by}

  pub types_known : AreKnown it.checked.by.tree it.checked.checked.table it.checked.checked.whole.typing
  types_known =
      known made_by.tree it.checked.checked.texts it.checked.checked.table it.checked.checked.whole.typing made_by.is.whole.typing (λ b broken. made_by.sound.constraints b (inl broken)) (shaped file t it) (sighted file t it)

  -- what expressions read
  pub read : AreRead file t it
  read =
      (readable made_by.tree it.checked.checked.texts it.checked.checked.table it.checked.checked.whole.typing made_by.is.whole.typing (λ b broken. made_by.sound.constraints b (inl broken)) (shaped file t it) (sighted file t it)).reads

  -- ---- members

  -- what was checked of a member
  checked_member : (d k row : ℕ) → d < length it.unit.nodes → slice_get (slice_index_or t.members d []) k ≡ Some row
      → (m : Member) × ((slice_get (slice_index_or it.checked.checked.whole.typing.members d []) k ≡ Some m) × (type_at it.checked.checked.table m.row ≡ type_at t.shapes row))
  checked_member d k row low e = by (is_structure (scripts.kind_at it.unit.nodes d)) (sym are ∙ image (type_at t.shapes) (slice_index_or t.members d []) k row e)
    where
      are : slice_get (map (type_at t.shapes) (slice_index_or t.members d [])) k
          ≡ slice_get (if is_structure (scripts.kind_at it.unit.nodes d) then map (λ (m : Member). type_at made_by.columns.table.now m.row) (slice_index_or made_by.columns.members.now d []) else []) k
      are = ap (λ types. slice_get types k) (made_by.elaborated.members.each d low).are

      by : (b : Bool) → slice_get (if b then map (λ (m : Member). type_at made_by.columns.table.now m.row) (slice_index_or made_by.columns.members.now d []) else []) k ≡ Some (type_at t.shapes row)
          → (m : Member) × ((slice_get (slice_index_or it.checked.checked.whole.typing.members d []) k ≡ Some m) × (type_at it.checked.checked.table m.row ≡ type_at t.shapes row))
      by false f = absurd (cc f)
      by true f =
          let x = mapped (λ (m : Member). type_at made_by.columns.table.now m.row) (slice_index_or made_by.columns.members.now d []) k (type_at t.shapes row) f in
          (x.0, (ap (λ ms. slice_get (slice_index_or ms d []) k) (sym made_by.are.members) ∙ x.1.0, ap (λ table. type_at table x.0.row) (sym made_by.are.table) ∙ x.1.1))

  -- no member is an array of unknown size
  member_sized : (d k : ℕ) (m : Member) → slice_get (slice_index_or it.checked.checked.whole.typing.members d []) k ≡ Some m → is_open (type_at it.checked.checked.table m.row) ≡ false
  member_sized =
      sized made_by.tree it.checked.checked.texts it.checked.checked.table it.checked.checked.whole.typing made_by.is.whole.typing (λ b broken. made_by.sound.constraints b (inl broken)) (shaped file t it) (sighted file t it)
      (surrounded file t it) (are_seen file t (assembled file t it))

  pub members_whole : AreMembersWhole t
  members_whole d k row e = elim (cases_lt d (length it.unit.nodes)) [
    | inl low ↦
        (let m = checked_member d k row low e in
        let nodes : length made_by.tree.nodes.now ≡ length it.unit.nodes = ap length made_by.is.whole.tree.nodes in
        let n = some_at made_by.tree.nodes.now d (omega (arith, low, nodes)) in
        let is = subst (IsMemberType made_by.tree) m.1.1 ((types_known d n.0 n.1).members k m.0 m.1.0) in
        let nodes_are = made_by.is.whole.tree.nodes ∙ sym made_by.elaborated.nodes_are in
        complete_whole t is.declarator (type_at t.shapes row)
        (ap (λ ns. is_complete_at ns is.declarator (type_at t.shapes row)) (sym nodes_are)
        ∙ sized_complete (is_complete_at made_by.tree.nodes.now is.declarator) (type_at t.shapes row) is.known (sym (ap is_open m.1.1) ∙ member_sized d k m.0 m.1.0) is.complete))
    | inr past ↦
        (let own = made_by.fits.members_count in
        let count : length t.nodes ≡ length it.unit.nodes = ap length made_by.elaborated.nodes_are in
        absurd (none (ap (λ rows. slice_get rows k) (sym (get_or_past t.members d [] (omega (arith, own, count, past)))) ∙ e)))
  ]
    where
      none : slice_get [] k ≡ Some row → ⊥
      none f = cc f
