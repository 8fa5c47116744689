-- The move that counts is one of those tried; its lines do not contradict, and its fitness is theirs. Assumes nothing.
use mathlib.Core.Path.{◌≡◌, refl}
use mathlib.Core.Bool.{Bool, true, false, not, ◌||◌}
use mathlib.Core.List.{List}
use lib.Ieee.{Float, lt}
use Rattle.plan.specs.Problem.{Problem}
use Rattle.lines.specs.Lines.{Lines}
use Rattle.moves.specs.Moves.{applied}
use Rattle.moves.specs.declared.Move.{Move}
use Rattle.timing.specs.Timing.{contradicts}
use Rattle.blocks.proofs.EveryLaws.{Every, none, also}
use Rattle.trial.specs.Trial.{line_fitness, pick_best, better, weighed, tried_all}
use Rattle.trial.specs.declared.Best.{Best}
use Rattle.trial.specs.declared.Best.TheVariants.{Nothing, Found}

module _ (p : Problem) (lines : Lines) (Offered : Move → Type 0) where
  pub record Counted (f : Float) (m : Move) : Type 0 where
    pub value : f ≡ line_fitness p (applied m lines)
    pub possible : contradicts p (applied m lines) ≡ false
    pub offered : Offered m

  abbrev pub Held : Best → Type 0
  Held Nothing = Unit {0}
  Held (Found f m) = Counted f m

  pick_held : (t : Bool) (x y : Best) → Held x → Held y → Held (pick_best t x y)
  pick_held true x y h k = h
  pick_held false x y h k = k

  better_held : (b : Best) (f : Float) (m : Move) → Counted f m → Held b → Held (better b f m)
  better_held Nothing f m c h = c
  better_held (Found g k) f m c h = pick_held (lt f g) (Found f m) (Found g k) c h

  weighed_held : (t forbidden : Bool) (best : Float) (m : Move) (b : Best) → contradicts p (applied m lines) ≡ t → Offered m → Held b
      → Held (weighed t forbidden best (line_fitness p (applied m lines)) m b)
  weighed_held true forbidden best m b e o h = h
  weighed_held false forbidden best m b e o h =
      let f = line_fitness p (applied m lines) in
      pick_held (not forbidden || lt f best) (better b f m) b (better_held b f m (record { value = refl; possible = e; offered = o }) h) h

  pub all_held : (forbid : Move → Bool) (best : Float) {moves : List Move} (b : Best) → Every Offered moves → Held b → Held (tried_all p lines forbid best moves b)
  unfolding tried_all
  all_held forbid best b none h = h
  all_held forbid best b (also {x} o os) h =
      all_held forbid best (weighed (contradicts p (applied x lines)) (forbid x) best (line_fitness p (applied x lines)) x b) os (weighed_held (contradicts p (applied x lines)) (forbid x) best x b refl o h)
