-- A run followed to its end, if that comes within so many steps of the language: the test of runs. See `PlayedIsRun`.
use Rattle.std.specs.Prelude.{ℕ, zero, suc, Option, Some, None}
use Rattle.cr_meaning.specs.Language.{Acted, went, halts, Reply, gave, ended, Prog, give, act, call}

abbrev pub on_acted : {V W H : Type 0} → (V → W → Option (Reply V W H)) → Acted V W H → Option (Reply V W H)
on_acted f (went v t) = f v t
on_acted f (halts h) = Some (ended h)

abbrev pub on_reply : {V W H : Type 0} → (V → W → Option (Reply V W H)) → Option (Reply V W H) → Option (Reply V W H)
on_reply f None = None
on_reply f (Some (gave v t)) = f v t
on_reply f (Some (ended h)) = Some (ended h)

unfoldable pub played : {G V W H : Type 0} → (G → Prog G V W H) → ℕ → Prog G V W H → W → Option (Reply V W H)
played body most (give v) s = Some (gave v s)
played body zero (act f k) s = None
played body zero (call g k) s = None
played body (suc most) (act f k) s = on_acted (λ v. λ t. played body most (k v) t) (f s)
played body (suc most) (call g k) s = on_reply (λ v. λ t. played body most (k v) t) (played body most (body g) s)
