-- `reassign::rest_of` meets its contract. The greatest over the step after, then over those waiting, is that over both.
use Rattle.std.specs.Prelude.{Option, ℕ}
use mathlib.Core.Path.{ap, ◌∙◌}
use mathlib.Core.List.{List}
use Prim.Native.Nat.{ℕ, ◌+◌, ◌-◌}
use lib.ListN.{get_or}
use Rattle.graph.specs.Links.{linked}
use Rattle.graph.specs.Shop.{greatest}
use Rattle.tables.specs.Tabled.{task_succ}
use Rattle.path.proofs.NeighbourLaws.{succ_below}
use Rattle.reassign.proofs.WayLaws.{greatest-two}
use Rattle.reassign.proofs.rest_of.Goals as goal

pub after_link-step-requires : goal.after_link-step-requires
after_link-step-requires c = (rw (c.next_of.ensures c.requires.0.held.problem c.requires.0.held.tabled c.requires.0.tailed c.requires.0.held.known, c.requires.0.tailed) (succ_below c.requires.0.held.problem c.args.a), c.requires.1.addable)

pub after_all-requires : goal.after_all-requires
after_all-requires c = (rw (c.waiting_for.ensures c.requires.0.held.problem c.requires.0.held.tabled c.requires.0.held.known c.requires.0.held.few, c.requires.0.tailed) c.requires.0.waiting, c.requires.1.addable)

pub returns : goal.returns
returns c p tabled known few long = let g : ℕ → ℕ = λ x. get_or c.args.ends.now x 0 - get_or c.args.starts.now x 0 + get_or c.args.tail.now x 0 in
    greatest-two g (task_succ p c.args.a) (p.waiting c.args.a) 0
    (c.after_link-step.ensures ∙ ap (λ (l : Option ℕ). greatest g (linked l) 0) (c.next_of.ensures p tabled long known))
    (c.after_all.ensures ∙ ap (λ (l : List ℕ). greatest g l c.after_link-step.result) (c.waiting_for.ensures p tabled known few))
