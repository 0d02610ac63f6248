-- The views of passes, and what each step makes of them.
use Rattle.std.specs.Prelude.{ℕ, ◌+◌, Bool, true, false, [], ◌∷◌, length}
use Rattle.cr_claims.specs.declared.view.View.{View}
use Rattle.cr_core.specs.Row.{Row, opening}

-- the view of the pass that `open` gives
abbrev pub first_view : ℕ → View
first_view len = record {
  len = len;
  own = [];
  joined = [];
  read = opening len;
  looks = 0;
  left = false;
  keeper = true;
  spent = false;
  splits = 0;
}

-- the view of a pass that is split from another
abbrev pub new_view : View → View
new_view v = record {
  len = v.len;
  own = [];
  joined = [];
  read = opening v.len;
  looks = 0;
  left = false;
  keeper = false;
  spent = false;
  splits = 0;
}

-- the view of a pass that was joined into another
abbrev pub spent_view : View
spent_view = record {
  len = 0;
  own = [];
  joined = [];
  read = 0;
  looks = 0;
  left = false;
  keeper = false;
  spent = true;
  splits = 0;
}

-- a view after a step of its own: its list, the word that it read, its looks, and whether it has left
abbrev pub moved : Row → ℕ → ℕ → Bool → View → View
moved own read looks left v = record {
  len = v.len;
  own = own;
  joined = v.joined;
  read = read;
  looks = looks;
  left = left;
  keeper = v.keeper;
  spent = v.spent;
  splits = v.splits;
}

-- after a claim, with this list
abbrev pub with_own : Row → View → View
with_own l v = moved l v.read v.looks v.left v

-- after a look that found the word n
abbrev pub looked : ℕ → View → View
looked n v = moved v.own n (v.looks + 1) v.left v

-- after a hit, with this list, which left the word n in `least`
abbrev pub struck : ℕ → Row → View → View
struck n l v = moved l n v.looks v.left v

-- after it left, with this list
abbrev pub gone : Row → View → View
gone l v = moved l v.read v.looks true v

-- after a split
abbrev pub one_split_more : View → View
one_split_more v = record {
  len = v.len;
  own = v.own;
  joined = v.joined;
  read = v.read;
  looks = v.looks;
  left = v.left;
  keeper = v.keeper;
  spent = v.spent;
  splits = v.splits + 1;
}

-- after it joined another
abbrev pub with_joined : View → View → View
with_joined v w = record {
  len = v.len;
  own = v.own;
  joined = w.own ∷ v.joined;
  read = v.read;
  looks = v.looks;
  left = v.left;
  keeper = v.keeper;
  spent = v.spent;
  splits = v.splits;
}

-- how many passes it joined
abbrev pub joins : View → ℕ
joins v = length v.joined
