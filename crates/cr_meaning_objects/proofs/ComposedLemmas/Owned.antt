-- An initialised declarator of an object is a declared name of an object.
use Rattle.std.proofs.Common.{Some, sym, ap, ◌∙◌}
use Rattle.cr_meaning_objects.proofs.ObjectsLemmas.Objects.{value_there}
use Rattle.cr_meaning_objects.specs.Composed.Laws
use Rattle.cr_meaning_objects.proofs.ComposedLemmas.Naming.{has_name}
use Rattle.cr_meaning_objects.proofs.ComposedLemmas.Standing.{stand}
use Rattle.cr_meaning_objects.proofs.ComposedLemmas.Owning.{name_there}
use Rattle.cr_meaning_objects.proofs.ComposedLemmas.Told.{declared}

pub own : Laws.InitialisersAreObjects
own file t it i q n at is first object =
    let name = has_name file t it i q n at is first in
    let x = name_there file t it i q name.0 n at is first name.1 in
    let d = stand file t it i q x.0.first n at is first object (name.1 ∙ ap Some (sym x.1.1.1)) in
    let k = declared file t it x.0.first (record { declaration = d.0; declarator = q; node = d.1.0; is = d.1.1; value = value_there file t it x.0.first d.0 q d.1.0 d.1.1 object }) in
    record {
      own = x.0;
      at = x.1.0;
      is = x.1.1.0;
      entity = k.0;
      declares = k.1;
      declaration = d.0;
      holder = d.1.0;
      declarer = d.1.1;
      object = object;
    }
