-- The last number of each kind.
use Rattle.std.specs.Prelude.{ℕ}
use Rattle.cr_explain.specs.declared.rows.Kind.{Kind}

abbrev pub last_of : Kind → ℕ
last_of Kind.Token = 5
last_of Kind.Parse = 4
last_of Kind.Name = 2
last_of Kind.Type = 43
last_of Kind.Undefined = 16
last_of Kind.Left = 9
