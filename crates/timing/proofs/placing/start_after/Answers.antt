use Prim.Native.Nat.{ℕ, max}
use mathlib.Core.Path.{ap, ap₂, ◌∙◌}
use mathlib.Core.List.{List}
use lib.ListN.{get_or}
use Rattle.graph.specs.Shop.{greatest}
use Rattle.timing.proofs.PlacingLaws.{after-all}
use Rattle.timing.proofs.placing.start_after.Goals as goal

pub after_named-requires : goal.after_named-requires
after_named-requires c = rw (c.named_by.ensures c.requires.0.held.problem c.requires.0.held.tabled c.requires.0.held.known c.requires.0.held.few) c.requires.0.named

pub returns : goal.returns
returns c p tabled known few = let ends : ℕ → ℕ = λ q. get_or c.args.ends.now q 0 in
    after-all p c.args.a c.args.line c.args.step c.args.way ends
    (c.release_of-released.ensures p tabled known)
    (c.max-first.ensures
    ∙ ap₂ max (c.max.ensures ∙ ap (max c.release_of-released.result) c.arrival-free.ensures) c.arrival-there.ensures)
    (c.after_named.ensures ∙ ap (λ (l : List ℕ). greatest ends l c.max-first.result) (c.named_by.ensures p tabled known few))
