-- `blocks::stretch::tail_of` meets its contract.
use Rattle.std.specs.Prelude.{Option, ℕ}
use Prim.Native.Nat.{◌+◌, ◌-◌}
use mathlib.Core.Path.{ap, ◌∙◌}
use lib.ListN.{get_or}
use Rattle.graph.specs.Links.{linked}
use Rattle.graph.specs.Shop.{greatest}
use Rattle.path.proofs.NeighbourLaws.{succ_below}
use Rattle.blocks.proofs.stretch.tail_of.Goals as goal

pub after_link-requires : goal.after_link-requires
after_link-requires c = (rw (c.next_of.ensures c.requires.0.held.problem c.requires.0.held.tabled c.requires.0.ended c.requires.0.held.known, c.requires.0.ended) (succ_below c.requires.0.held.problem c.args.x), c.requires.1)

pub returns : goal.returns
returns c = λ p t h k.
    c.after_link.ensures ∙ ap (λ (l : Option ℕ). greatest (λ b. get_or c.args.ends.now b 0 - get_or c.args.starts.now b 0 + get_or c.args.tail.now b 0) (linked l) c.args.next) (c.next_of.ensures p t k h)
