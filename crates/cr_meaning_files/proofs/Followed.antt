-- What `*` and a subscript follow is of a complete type, so an object (K19, K24).
use Rattle.std.proofs.Common.{◌≡◌, ℕ, Bool, true, false, refl, sym, ap, ◌∙◌, if◌then◌else◌}
use Rattle.std.proofs.lemmas.Bool.{false≢true}
use Rattle.cr_syntax.specs.declared.node.Kind.{Kind}
use Rattle.cr_syntax.specs.declared.node.Kind.TheVariants as kind
use Rattle.cr_syntax.specs.declared.node.Node.{Node}
use Rattle.cr_check_types.specs.Types.{Qualified}
use Rattle.cr_check_types.specs.Relations.{is_complete_at}
use Rattle.cr_check_operands.specs.Values.{Valued, number as a_number, address, Seen, no_type, place_of}
use Rattle.cr_check_operands.specs.Places.{followed, dereferenced, subscripted}
use Rattle.cr_check_expressions.specs.Forms.{form_of}
use Rattle.cr_check_expressions.specs.Known.{Source}
use Rattle.cr_check_expressions.specs.Ruled.{complete, value, ruled}
use Rattle.cr_meaning_typing.specs.Typed.Typing.{has_value}
use Rattle.cr_meaning_typing.specs.Sorts.Founded.{is_followed}

followed_complete : (whole_at : Qualified → Bool) (type : Qualified) → has_value (followed whole_at type).type ≡ true → whole_at (followed whole_at type).type ≡ true
followed_complete whole_at type h = by (whole_at type) refl h
  where
    by : (b : Bool) → whole_at type ≡ b → has_value (if b then place_of type false else no_type).type ≡ true → whole_at (if b then place_of type false else no_type).type ≡ true
    by true e h = e
    by false e h = absurd (false≢true h)

dereferenced_complete : (whole_at : Qualified → Bool) (v : Valued) → has_value (dereferenced whole_at v).type ≡ true → whole_at (dereferenced whole_at v).type ≡ true
dereferenced_complete whole_at (address type) h = followed_complete whole_at type h
dereferenced_complete whole_at v h = absurd (false≢true h)

subscripted_complete : (whole_at : Qualified → Bool) (v w : Valued) → has_value (subscripted whole_at v w).type ≡ true → whole_at (subscripted whole_at v w).type ≡ true
subscripted_complete whole_at (address type) (a_number y) h = followed_complete whole_at type h
subscripted_complete whole_at (a_number x) (address type) h = followed_complete whole_at type h
subscripted_complete whole_at v w h = absurd (false≢true h)

-- the type of a node that follows a pointer is complete there
pub followed_type : (k : Kind) (at : ℕ → Seen) (s : Source) (i : ℕ) (n : Node) → is_followed k ≡ true → at i ≡ ruled (form_of k) at s i n → has_value (at i).type ≡ true → is_complete_at s.nodes i (at i).type ≡ true
followed_type kind.Dereference at s i n h e v =
    ap (λ (x : Seen). is_complete_at s.nodes i x.type) e ∙ dereferenced_complete (complete s i) (value at n.parts 0) (ap (λ (x : Seen). has_value x.type) (sym e) ∙ v)
followed_type kind.Subscript at s i n h e v =
    ap (λ (x : Seen). is_complete_at s.nodes i x.type) e ∙ subscripted_complete (complete s i) (value at n.parts 0) (value at n.parts 1) (ap (λ (x : Seen). has_value x.type) (sym e) ∙ v)
followed_type k at s i n h e v = absurd (false≢true h)
