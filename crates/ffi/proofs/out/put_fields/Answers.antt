-- `ffi::out::put_fields` meets its contract: each turn lays one more field. Assumes nothing.
use Rattle.std.proofs.Common.{rules}
use Rattle.ffi.proofs.Laying.{laid_more}
use Rattle.ffi.proofs.out.put_fields.Goals as goal

pub loop-i-preserved : goal.loop-i-preserved
loop-i-preserved c = search (laid_more, rules)
