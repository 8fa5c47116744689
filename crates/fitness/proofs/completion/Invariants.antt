-- `fitness::completion` meets its contract. The loop's invariant: `latest` is the latest of the ends passed.
use mathlib.Core.Path.{◌≡◌}
use lib.ListN.{get_or}
use Rattle.fitness.specs.Fitness.{latest}
use Rattle.fitness.proofs.completion.Given as goal

abbrev pub invariant-loop-end : goal.invariant-loop-end
invariant-loop-end l = l.latest ≡ latest (λ a. get_or l.ends a 0) l.first l.end-index
