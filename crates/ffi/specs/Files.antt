-- The check of a graph file, as the comparison asks for it. Assumes nothing.
use Rattle.std.specs.Prelude.{ℕ, List, get_or}
use Rattle.checks.specs.Refusals.{Answer, accepted, refused}
use Rattle.ffi.specs.Out.{three}

-- 0, n and the root; or the refusal's number and the id that it names
abbrev pub checked : Answer → List ℕ → List ℕ
checked (accepted m) out = three 0 m.count m.root.0 out
checked (refused n ids) out = three n (get_or ids 0 0) 0 out
