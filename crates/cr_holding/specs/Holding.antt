-- What a call made, with a value.
use Rattle.std.specs.Prelude.{Result, Ok, Err}

abbrev pub with_held : {T U E : Type 0} → U → Result T E → Result (T × U) E
with_held held (Ok made) = Ok (made, held)
with_held held (Err error) = Err error
