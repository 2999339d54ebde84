use Rattle.std.proofs.Common.{arith, replicate, refl}
use Rattle.retrysolve.proofs.Answers.{solved_it}
use Rattle.retrysolve.proofs.solve_it.Goals as goal

pub returns : goal.returns
returns c =
    solved_it _ c.args.input.now c.args.formula.now.layout (replicate 4096 0) _ c.words_from-k.result (replicate 4000 0) c.min-n.result _ _ _
    refl
    c.words_from-k.ensures.value
    c.words_from-k.ensures.out_after
    refl
    (omega arith)
    c.answer_to.ensures
