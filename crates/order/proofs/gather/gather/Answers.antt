-- `order::gather::gather` meets its contract. Assumes nothing.
use borrow.Author.Rules.{rules}
use Rattle.order.proofs.Gathering.{gather_small, gather_begin, gather_ahead}
use Rattle.order.proofs.gather.gather.Goals as goal

pub push-w-requires : goal.push-w-requires
push-w-requires c = gather_small

pub finish_all-requires-clause-walking : goal.finish_all-requires-clause-walking
finish_all-requires-clause-walking c =
    gather_begin _ _ c.requires.acyclic _ _ _ _ _ _ _ _ c.requires.inside c.requires.placed c.requires.ordered c.requires.stacked c.clear.ensures.kept _ c.count.ensures
    c.clear.ensures.cleared c.push-w.ensures.marked c.push-w.ensures.stacked c.push-w.ensures.next c.push-w.ensures.depth c.push-w.ensures.done

pub returns-clause-gathered : goal.returns-clause-gathered
returns-clause-gathered c = search (gather_ahead, rules)
