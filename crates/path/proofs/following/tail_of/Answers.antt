-- `path::following::tail_of` meets its contract: the greatest over a link, another, then a list is that over all three.
use Rattle.std.specs.Prelude.{Option, ℕ}
use Prim.Native.Nat.{ℕ, ◌+◌, ◌-◌}
use mathlib.Core.Path.{ap, ◌∙◌}
use mathlib.Core.List.{List}
use lib.ListN.{get_or}
use Rattle.graph.specs.Links.{linked, link_of}
use Rattle.graph.specs.Shop.{greatest}
use Rattle.graph.proofs.LinkedLaws.{link_below}
use Rattle.tables.specs.Tabled.{task_succ}
use Rattle.path.proofs.NeighbourLaws.{succ_below}
use Rattle.path.proofs.TailLaws.{greatest-three}
use Rattle.path.proofs.following.tail_of.Goals as goal

pub after_link-line-requires : goal.after_link-line-requires
after_link-line-requires c = (rw (c.link_of.ensures, c.requires.0.tailed, ← c.requires.0.linked) (link_below c.args.after.now c.args.a), c.requires.1)

pub after_link-task-requires : goal.after_link-task-requires
after_link-task-requires c = (rw (c.next_of.ensures c.requires.0.held.problem c.requires.0.held.tabled c.requires.0.linked c.requires.0.held.known, c.requires.0.tailed) (succ_below c.requires.0.held.problem c.args.a), c.requires.1)

pub after_all-requires : goal.after_all-requires
after_all-requires c = (rw (c.waiting_for.ensures c.requires.0.held.problem c.requires.0.held.tabled c.requires.0.held.known c.requires.0.held.few, c.requires.0.tailed) c.requires.0.waiting, c.requires.1)

pub returns : goal.returns
returns c = let f : ℕ → ℕ = λ x. get_or c.args.ends.now x 0 - get_or c.args.starts.now x 0 + get_or c.args.tail.now x 0 in
    λ p t h k l.
    greatest-three f (link_of c.args.after.now c.args.a) (task_succ p c.args.a) (p.waiting c.args.a)
    (c.after_link-line.ensures ∙ ap (λ (x : Option ℕ). greatest f (linked x) 0) c.link_of.ensures)
    (c.after_link-task.ensures ∙ ap (λ (x : Option ℕ). greatest f (linked x) c.after_link-line.result) (c.next_of.ensures p t l h))
    (c.after_all.ensures ∙ ap (λ (x : List ℕ). greatest f x c.after_link-task.result) (c.waiting_for.ensures p t h k))
