use Rattle.std.proofs.Common.{rules, subst}
use Rattle.std.specs.Io.KnownBytes.{Consumes}
use Rattle.std.proofs.KnownBytes.{Consumes-trans}
use Rattle.graphfile.proofs.Parts.{begins_with_both}
use Rattle.graphfile.proofs.read_full.Goals as goal

pub loop-done-preserved : goal.loop-done-preserved
loop-done-preserved g c =
    let within = c.loop-done.invariant.0 in
    let fits = c.read_some-n.ensures.within in
    let joined = begins_with_both c.loop-done.done _ c.read_some-n.result c.loop-done.buffer c.read_some-n.new.buffer within fits in
    (search rules, subst (Consumes _ _) joined (Consumes-trans _ _ _ _ _ c.loop-done.invariant.1 c.read_some-n.ensures.bytes))
