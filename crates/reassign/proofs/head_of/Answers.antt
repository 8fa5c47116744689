-- `reassign::head_of` meets its contract. The greatest over those named, then over the step before, is that over both.
use Rattle.std.specs.Prelude.{Option, ℕ}
use mathlib.Core.Path.{ap, ap₂, ◌∙◌}
use Prim.Native.Nat.{ℕ, max}
use native.Mathlib.Omega.{arith}
use lib.ListN.{length, get_or}
use Rattle.graph.specs.Shop.{greatest}
use Rattle.tables.specs.Tabled.{task_pred}
use Rattle.bounds.specs.Bounds.{arrival_of}
use Rattle.path.proofs.NeighbourLaws.{pred_below}
use Rattle.reassign.proofs.WayLaws.{arrival_greatest, greatest_then}
use Rattle.reassign.proofs.head_of.Goals as goal

pub arrival-there-requires : goal.arrival-there-requires
arrival-there-requires c = (rw (c.before_of.ensures c.requires.0.held.problem c.requires.0.held.tabled c.requires.0.held.known) (pred_below c.requires.0.held.problem (length c.args.ends.now) c.args.a c.requires.1), λ t e. c.requires.2 t, omega arith)

pub after_named-named-requires : goal.after_named-named-requires
after_named-named-requires c = rw (c.named_by.ensures c.requires.0.held.problem c.requires.0.held.tabled c.requires.0.held.known c.requires.0.held.few) c.requires.0.named

pub returns : goal.returns
returns c p starts tabled known few = let f : ℕ → ℕ = λ x. get_or c.args.ends.now x 0 in
    let step = task_pred p c.args.a in
    greatest_then f (p.predecessors c.args.a) step (p.release c.args.a)
    (c.after_named-named.ensures ∙ ap₂ (greatest f) (c.named_by.ensures p tabled known few) (c.release_of-released.ensures p tabled known))
    (c.max.ensures ∙ ap (max c.after_named-named.result) (c.arrival-there.ensures ∙ ap (λ (l : Option ℕ). arrival_of l f 0) (c.before_of.ensures p tabled known)) ∙ arrival_greatest f step c.after_named-named.result)
