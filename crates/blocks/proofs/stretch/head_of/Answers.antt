-- `blocks::stretch::head_of` meets its contract: the release and the line first, then the task predecessor.
use Rattle.std.specs.Prelude.{Option, ℕ}
use Prim.Native.Nat.{ℕ, max}
use mathlib.Core.Path.{ap, ◌∙◌}
use lib.ListN.{get_or}
use Rattle.graph.specs.Links.{linked}
use Rattle.graph.specs.Shop.{greatest}
use Rattle.tables.specs.Tabled.{task_pred}
use Rattle.path.proofs.NeighbourLaws.{pred_below}
use Rattle.blocks.proofs.stretch.head_of.Goals as goal

pub later_end-requires : goal.later_end-requires
later_end-requires c = rw (c.before_of.ensures c.requires.held.problem c.requires.held.tabled c.requires.held.known, c.requires.ended) (pred_below c.requires.held.problem c.requires.held.problem.n c.args.x c.requires.held.known)

pub returns : goal.returns
returns c = λ p t h.
    let f : ℕ → ℕ = λ b. get_or c.args.ends.now b 0 in
    let free = c.max-free.ensures ∙ ap (λ (y : ℕ). max y c.args.ready) (c.release_of.ensures p t h) in
    c.later_end.ensures
    ∙ ap (λ (l : Option ℕ). greatest f (linked l) c.max-free.result) (c.before_of.ensures p t h)
    ∙ ap (greatest f (linked (task_pred p c.args.x))) free
