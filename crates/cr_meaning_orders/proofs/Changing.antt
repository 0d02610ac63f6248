-- What work changes: no cell but those that its events name, and no other object.
use Rattle.std.proofs.Common.{◌≡◌, ◌≢◌, refl, sym, ◌∙◌, ap, subst, arith, inl, inr, ◌⊎◌, get_or, get_or-set_other, get_or-set_same}
use Rattle.std.specs.Prelude.{ℕ, zero, suc, ◌+◌, ◌<◌, ◌≤◌, Bool, true, false, not, is_some, is_none, Option, Some, None, Result, Ok, Err, List, [], ◌∷◌, ◌++◌, length, slice_index_or, if◌then◌else◌}
use Rattle.std.specs.List.{list_all}
use Rattle.std.proofs.lemmas.Bool.{false≢true, cases_eq, cases_lt}
use Rattle.cr_footprint.specs.Cell.{Cell as Place}
use Rattle.cr_memory.specs.declared.value.Pointer.{Pointer}
use Rattle.cr_memory.specs.declared.value.Pointer.TheVariants.{Null, At}
use Rattle.cr_memory.specs.declared.value.Scalar.{Scalar}
use Rattle.cr_memory.specs.declared.value.Cell.{Cell}
use Rattle.cr_memory.specs.declared.value.Cell.TheVariants.{Unset}
use Rattle.cr_memory.specs.declared.value.Trap.{Trap}
use Rattle.cr_memory.specs.declared.value.Scalar.TheVariants as scalar
use Rattle.cr_memory.specs.declared.value.Cell.TheVariants as cell
use Rattle.cr_memory.specs.Memory.{Object, Memory, live_object, has_ended}
use Rattle.cr_memory.specs.Access.{is_null_or_end, some_object, number_of, cell_of, overwritten, with_cells, writing, save_of, put_of}
use Rattle.cr_meaning.specs.Events.{Writes, own}
use Rattle.cr_meaning.specs.World.{Program, then_by}
use Rattle.cr_meaning.specs.Values.{cells_in, converted, changed, strays}
use Rattle.cr_meaning.specs.Work.{Did, events_from, events_at, deed_of, stored, assigned, loaded, updated}
use Rattle.cr_meaning.specs.declared.op.Form.{Form}
use Rattle.cr_meaning.specs.declared.op.Form.TheVariants as form
use Rattle.cr_meaning.specs.declared.op.Change.{Change}
use Rattle.cr_meaning.specs.declared.value.Value.{Value}
use Rattle.cr_meaning.specs.declared.value.Value.TheVariants.{Number, Pointer as Pointing, Place as PlaceValue, Cells}
use Rattle.cr_memory.proofs.Continuing.{entered_if_some}
use Rattle.cr_memory.proofs.Overwriting.{length-overwritten, get_or-overwritten_below, get_or-overwritten_above}
use Rattle.cr_meaning_orders.specs.Fixed.{spares}
use Rattle.cr_meaning_frames.proofs.Working.{and_left, and_right}

-- an object is as before, but for cells outside a set
pub record Like (kept : Place → Bool) (number : ℕ) (old new : Option Object) : Type 0 where
  pub lives : is_some new ≡ is_some old
  pub shape : (some_object new).shape ≡ (some_object old).shape
  pub count : length (some_object new).cells ≡ length (some_object old).cells
  pub same : (cell : ℕ) → kept (number, cell) ≡ true → slice_index_or (some_object new).cells cell Unset ≡ slice_index_or (some_object old).cells cell Unset

pub like_self : (kept : Place → Bool) (number : ℕ) (o : Option Object) → Like kept number o o
like_self kept number o = record { lives = refl; shape = refl; count = refl; same = λ cell k. refl }

pub like_on : (kept : Place → Bool) (number : ℕ) (a b c : Option Object) → Like kept number a b → Like kept number b c → Like kept number a c
like_on kept number a b c h k = record { lives = k.lives ∙ h.lives; shape = k.shape ∙ h.shape; count = k.count ∙ h.count; same = λ cell e. k.same cell e ∙ h.same cell e }

-- all objects of numbers below one
pub record Keeps (limit : ℕ) (kept : Place → Bool) (old new : Memory) : Type 0 where
  pub entered : length old.objects ≤ length new.objects
  pub objects : (number : ℕ) → number < limit → Like kept number (live_object old number) (live_object new number)

pub keeps_self : (limit : ℕ) (kept : Place → Bool) (m : Memory) → Keeps limit kept m m
keeps_self limit kept m = record { entered = omega arith; objects = λ number h. like_self kept number (live_object m number) }

pub keeps_on : (limit : ℕ) (kept : Place → Bool) (a b c : Memory) → Keeps limit kept a b → Keeps limit kept b c → Keeps limit kept a c
keeps_on limit kept a b c h k = record {
  entered = let x = h.entered in let y = k.entered in omega (arith, x, y);
  objects = λ number l. like_on kept number _ _ _ (h.objects number l) (k.objects number l);
}

-- ---- a write

abbrev pub Outside : (Place → Bool) → ℕ → ℕ → ℕ → Type 0
Outside kept number first zero = Unit {0}
Outside kept number first (suc count) = (kept (number, first) ≡ false) × Outside kept number (suc first) count

outside_at : (kept : Place → Bool) (number first count i : ℕ) → Outside kept number first count → first ≤ i → i < first + count → kept (number, i) ≡ false
outside_at kept number first zero i h l u = absurd (omega (arith, l, u))
outside_at kept number first (suc count) i h l u =
    by_first (cases_eq first i) (λ other. outside_at kept number (suc first) count i h.1 (omega (arith, l, other)) (omega (arith, u)))
  where
    by_first : (first ≡ i) ⊎ (first ≢ i) → (first ≢ i → kept (number, i) ≡ false) → kept (number, i) ≡ false
    by_first (inl same) go = let F : ℕ → Type 0 = λ n. kept (number, n) ≡ false in subst F same h.0
    by_first (inr other) go = go other

-- the writes of an event list that spares the set
spared_outside : (kept : Place → Bool) (number first count : ℕ) → list_all (spares kept) (events_from Writes number first count) ≡ true → Outside kept number first count
spared_outside kept number first zero h = tt
spared_outside kept number first (suc count) h =
    (not_true (kept (number, first)) (and_left (not (kept (number, first))) _ h), spared_outside kept number (suc first) count (and_right (not (kept (number, first))) _ h))
  where
    not_true : (b : Bool) → not b ≡ true → b ≡ false
    not_true true e = absurd (false≢true e)
    not_true false e = refl

same_cell_after : (kept : Place → Bool) (number place : ℕ) (old cells : List Cell) (i : ℕ) → Outside kept number place (length cells) → kept (number, i) ≡ true
    → get_or (overwritten old place cells) i Unset ≡ get_or old i Unset
same_cell_after kept number place old cells i h k = by_below (cases_lt i place)
  where
    by_above : (i < place + length cells) ⊎ (place + length cells ≤ i) → place ≤ i → get_or (overwritten old place cells) i Unset ≡ get_or old i Unset
    by_above (inl within) l = absurd (false≢true (sym (outside_at kept number place (length cells) i h l within) ∙ k))
    by_above (inr above) l = get_or-overwritten_above old place cells i Unset above

    by_below : (i < place) ⊎ (place ≤ i) → get_or (overwritten old place cells) i Unset ≡ get_or old i Unset
    by_below (inl below) = get_or-overwritten_below old place cells i Unset below
    by_below (inr above) = by_above (cases_lt i (place + length cells)) above

pub written_like : (kept : Place → Bool) (m : Memory) (number place : ℕ) (cells : List Cell) (object : Object) → live_object m number ≡ Some object → Outside kept number place (length cells)
    → (n : ℕ) → Like kept n (live_object m n) (live_object (with_cells m number place cells) n)
written_like kept m number place cells object e h n = by_number (cases_eq n number)
  where
    written : Option Object
    written = Some (record { cells = overwritten (some_object (live_object m number)).cells place cells; shape = (some_object (live_object m number)).shape })

    here : live_object (with_cells m number place cells) number ≡ written
    here = get_or-set_same m.objects number written None (entered_if_some m.objects number object e)

    like : (o : Option Object) → live_object m number ≡ o → is_some o ≡ true → Like kept number o written
    like None f k = absurd (false≢true k)
    like (Some live) f k =
        let same : some_object (live_object m number) ≡ live = ap (λ (o : Option Object). some_object o) f in
        record {
          lives = refl;
          shape = ap (λ (o : Object). o.shape) same;
          count = length-overwritten (some_object (live_object m number)).cells place cells ∙ ap (λ (o : Object). length o.cells) same;
          same = λ i c. same_cell_after kept number place (some_object (live_object m number)).cells cells i h c ∙ ap (λ (o : Object). get_or o.cells i Unset) same;
        }

    by_number : (n ≡ number) ⊎ (n ≢ number) → Like kept n (live_object m n) (live_object (with_cells m number place cells) n)
    by_number (inl same) =
        let F : ℕ → Type 0 = λ k. Like kept k (live_object m k) (live_object (with_cells m number place cells) k) in
        let G : Option Object → Type 0 = λ o. Like kept number (live_object m number) o in
        subst F (sym same) (subst G (sym here) (like (live_object m number) refl (ap (λ (o : Option Object). is_some o) e)))
    by_number (inr other) =
        let G : Option Object → Type 0 = λ o. Like kept n (live_object m n) o in
        subst G (sym (get_or-set_other m.objects number n written None other)) (like_self kept n (live_object m n))

-- ---- own work that writes

abbrev pub Sized : Program → Form → Value → Type 0
Sized p (form.Cells row) (Cells cells) = length cells ≡ length (p.kinds row)
Sized p f value = Unit {0}

writing_ok : (a b c d e : Bool) (x y : Memory) → writing a b c d e x ≡ Ok y → (a ≡ false) × ((b ≡ false) × (x ≡ y))
writing_ok true b c d e x y h = absurd cc
writing_ok false true c d e x y h = absurd cc
writing_ok false false true d e x y h = absurd cc
writing_ok false false false true e x y h = absurd cc
writing_ok false false false false false x y h = absurd cc
writing_ok false false false false true x y h = (refl, (refl, cc))

alive_at : (m : Memory) (at : Pointer) → has_ended m at ≡ false → is_null_or_end at ≡ false → (object : Object) × (live_object m (number_of at) ≡ Some object)
alive_at m Null h k = absurd cc
alive_at m (At object cell low high stride) h k = by_live (live_object m object) refl h
  where
    by_live : (o : Option Object) → live_object m object ≡ o → is_none o ≡ false → (live : Object) × (live_object m object ≡ Some live)
    by_live None e h = absurd cc
    by_live (Some live) e h = (live, e)

module _ (kept : Place → Bool) (p : Program) (m : Memory) where
  LikeAll : Memory → Type 0
  LikeAll new = (n : ℕ) → Like kept n (live_object m n) (live_object new n)

  saved_like : (at : Pointer) (kind : Scalar) (value : Cell) (new : Memory) → save_of m at kind value ≡ Ok new → Outside kept (number_of at) (cell_of at) 1 → (n : ℕ) → Like kept n (live_object m n) (live_object new n)
  saved_like at kind value new h o n =
      let i = writing_ok _ _ _ _ _ (with_cells m (number_of at) (cell_of at) (value ∷ [])) new h in
      let live = alive_at m at i.0 i.1.0 in
      let F : Memory → Type 0 = λ x. Like kept n (live_object m n) (live_object x n) in
      subst F i.1.1 (written_like kept m (number_of at) (cell_of at) (value ∷ []) live.0 live.1 o n)

  put_like : (at : Pointer) (kinds : List Scalar) (cells : List Cell) (new : Memory) → put_of m at kinds cells ≡ Ok new → Outside kept (number_of at) (cell_of at) (length cells) → (n : ℕ) → Like kept n (live_object m n) (live_object new n)
  put_like at kinds cells new h o n =
      let i = writing_ok _ _ _ _ _ (with_cells m (number_of at) (cell_of at) cells) new h in
      let live = alive_at m at i.0 i.1.0 in
      let F : Memory → Type 0 = λ x. Like kept n (live_object m n) (live_object x n) in
      subst F i.1.1 (written_like kept m (number_of at) (cell_of at) cells live.0 live.1 o n)

  stored_like : (f : Form) (at : Pointer) (value : Value) (new : Memory) → Sized p f value → stored p m f at value ≡ Ok new → Outside kept (number_of at) (cell_of at) (cells_in p f) → (n : ℕ) → Like kept n (live_object m n) (live_object new n)
  stored_like (form.Number kind) at (Number k value) new z h o n = saved_like at (scalar.Int kind) (cell.Number value) new h o n
  stored_like (form.Pointer to) at (Pointing pointer) new z h o n = saved_like at (scalar.Pointer to) (cell.Pointer pointer) new h o n
  stored_like (form.Cells row) at (Cells cells) new z h o n =
      let F : ℕ → Type 0 = λ x. Outside kept (number_of at) (cell_of at) x in put_like at (p.kinds row) cells new h (subst F (sym z) o) n
  stored_like f at value new z h o n = absurd cc

  abbrev pub Changes : Result Did Trap → Type 0
  Changes (Ok did) = list_all (spares kept) did.events ≡ true → (n : ℕ) → Like kept n (live_object m n) (live_object did.memory n)
  Changes (Err trap) = Unit {0}

  pub changes_then : {A : Type 0} (r : Result A Trap) (f : A → Result Did Trap) → ((a : A) → r ≡ Ok a → Changes (f a)) → Changes (then_by r f)
  changes_then (Ok a) f h = h a refl
  changes_then (Err trap) f h = tt

  pub changes_unless : (b : Bool) (trap : Trap) (r : Result Did Trap) → Changes r → Changes (if b then Err trap else r)
  changes_unless true trap r h = tt
  changes_unless false trap r h = h

  pub changes_assigned : (f : Form) (left value : Value) → ((new : Value) → converted m f value ≡ Ok new → Sized p f new) → Changes (assigned p m f left value)
  changes_assigned f (PlaceValue at) value z =
      changes_unless (strays (cells_in p f) at) _ _ (changes_then (converted m f value) _ (λ new e. changes_then (stored p m f at new) _ (λ memory k.
      λ spared. stored_like f at new memory (z new e) k (spared_outside kept (number_of at) (cell_of at) (cells_in p f) spared))))
  changes_assigned f value right z = tt

  last_spared : (volatile : Bool) (at : Pointer) → list_all (spares kept) (events_at (deed_of volatile) at 1 ++ events_at Writes at 1) ≡ true → Outside kept (number_of at) (cell_of at) 1
  last_spared volatile at h = spared_outside kept (number_of at) (cell_of at) 1 (and_right (spares kept (own (deed_of volatile) (number_of at, cell_of at))) _ h)

  pub changes_updated : (change : Change) (f : Form) (volatile post : Bool) (left right : Value) → cells_in p f ≡ 1 → ((new value : Value) → converted m f value ≡ Ok new → Sized p f new) → Changes (updated p m change f volatile post left right)
  changes_updated change f volatile post (PlaceValue at) right one z =
      changes_unless (strays 1 at) _ _ (changes_then (loaded m f at) _ (λ old e. changes_then (changed m change old right) _ (λ result g. changes_then (converted m f result) _ (λ new k. changes_then (stored p m f at new) _ (λ memory l.
      λ spared. let F : ℕ → Type 0 = λ x. Outside kept (number_of at) (cell_of at) x in stored_like f at new memory (z new result k) l (subst F (sym one) (last_spared volatile at spared)))))))
  changes_updated change f volatile post value right one z = tt
