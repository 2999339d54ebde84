-- `ffi::out::put_fields` meets its contract: after i fields the first i are laid. Assumes nothing.
use Rattle.std.proofs.Common.{◌≡◌, take}
use Rattle.ffi.specs.Out.{laid}
use Rattle.ffi.proofs.out.put_fields.Given as goal

abbrev pub invariant-loop-i : goal.invariant-loop-i
invariant-loop-i l = l.out ≡ laid (take l.i l.fields) 0 l.initial.out
