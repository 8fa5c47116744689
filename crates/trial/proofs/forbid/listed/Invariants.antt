-- `trial::forbid::listed` meets its contract. The loop's invariant: the places left list what all of them list. Assumes nothing.
use mathlib.Core.Path.{◌≡◌}
use lib.ListN.{drop}
use Rattle.trial.specs.Taboo.{listed}
use Rattle.trial.proofs.forbid.listed.Given as goal

abbrev pub invariant-loop-place : goal.invariant-loop-place
invariant-loop-place l = listed l.step (drop l.place-index l.fn.places) l.x l.y ≡ listed l.step l.fn.places l.x l.y
