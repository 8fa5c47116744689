-- The moves of a step are allowed, and trying block moves, then reassignments, is trying them all in order.
use Prim.Native.Nat.{ℕ}
use mathlib.Core.Path.{◌≡◌, sym, ap, ◌∙◌, subst}
use mathlib.Core.Bool.{Bool}
use mathlib.Core.List.{List, [], ◌∷◌, ◌++◌}
use native.Mathlib.Omega.{arith}
use lib.Ieee.{Float}
use lib.ListN.{length, get_or, length-take}
use Rattle.graph.specs.Counting.{Below}
use Rattle.plan.specs.Problem.{Problem, Genes}
use Rattle.plan.specs.Accepted.{Accepted}
use Rattle.lines.specs.Lines.{Lines, WellFormed}
use Rattle.moves.specs.Moves.{Fits, Within}
use Rattle.moves.specs.declared.Move.{Move}
use Rattle.ranking.specs.Ranking.{ranked}
use Rattle.ranking.specs.declared.held.Rated.{Rated}
use Rattle.ranking.specs.declared.held.Three.{Three}
use Rattle.path.specs.Path.{critical_path}
use Rattle.path.specs.Tails.{tails}
use Rattle.blocks.specs.BlockMoves.{block_moves}
use Rattle.blocks.specs.Scanning.{Pathed}
use Rattle.blocks.proofs.EveryLaws as block_every
use Rattle.blocks.proofs.FitLaws.{moves_fit, kept_fit}
use Rattle.reassign.proofs.ReassignedLaws.{reassigns_fit, reassigns_within, held_reassigns}
use Rattle.trial.specs.Trial.{tried_all, moves_of, AllAllowed}
use Rattle.trial.proofs.TryLaws.{tried-append}
use Rattle.trial.specs.declared.Best.{Best}
use Rattle.trial.specs.declared.Best.TheVariants.{Nothing}
use Rattle.search.specs.Step.{placing_of, blocks_by, others_by, moves_from}

-- Block moves, then reassignments, on lines that were put back in between.
pub all-tried : (p : Problem) (lines lines' : Lines) → lines' ≡ lines → (forbid : Lines → Move → Bool) (best : Float) {blocks others : List Rated} {b r : Best}
    → blocks ≡ blocks_by p lines (placing_of p lines) → others ≡ others_by p lines (placing_of p lines)
    → b ≡ tried_all p lines (forbid lines) best (moves_of blocks) Nothing → r ≡ tried_all p lines' (forbid lines') best (moves_of others) b
    → r ≡ tried_all p lines (forbid lines) best (moves_from p lines) Nothing
all-tried p lines lines' e forbid best {blocks} {others} {b} {r} eb eo hb hr =
    hr ∙ ap (λ (l : Lines). tried_all p l (forbid l) best (moves_of others) b) e
    ∙ ap (λ (x : Best). tried_all p lines (forbid lines) best (moves_of others) x) hb
    ∙ sym (tried-append p lines (forbid lines) best (moves_of blocks) (moves_of others) Nothing)
    ∙ ap (λ (l : List Move). tried_all p lines (forbid lines) best l Nothing) (ap (λ (x : List Rated). moves_of x ++ moves_of others) eb ∙ ap (λ (x : List Rated). moves_of (blocks_by p lines (placing_of p lines)) ++ moves_of x) eo)

length-ranked : (three : Three) → length (ranked three) ≡ three.count
length-ranked three = omega (arith, three.few, length-take three.count (three.first ∷ three.second ∷ three.third ∷ []))

module _ (p : Problem) (lines : Lines) where
  -- block moves stay on their machines
  pub blocks_allowed : {machines places : List ℕ} → Pathed p.n lines (critical_path p lines (placing_of p lines)) machines places → (three : Three)
      → ranked three ≡ blocks_by p lines (placing_of p lines) → AllAllowed p.machines lines three
  blocks_allowed k three e =
      record {
        each = λ i h other.
            let all = kept_fit p lines (placing_of p lines) (tails p lines (placing_of p lines)) (block_moves lines (critical_path p lines (placing_of p lines))) (moves_fit k) in
            let here = block_every.every_at all i other (omega (arith, ap length e, length-ranked three)) in
            let same = ap (λ (l : List Rated). get_or l i other) e in
            record {
              fits = subst (λ (x : Rated). Fits x.made lines) (sym same) here.0;
              within = subst (λ (x : Rated). Within p.machines x.made) (sym same) (here.1 p.machines);
            };
      }

  -- reassignments go to machines that there are
  pub others_allowed : {g : Genes} → Accepted p g → length lines ≡ 16 → WellFormed p.n p.machines lines → Below p.n (critical_path p lines (placing_of p lines))
      → (three : Three) → ranked three ≡ others_by p lines (placing_of p lines) → AllAllowed p.machines lines three
  others_allowed ok sixteen w on_path three e =
      record {
        each = λ i h other.
            let r = held_reassigns p lines (placing_of p lines) (tails p lines (placing_of p lines)) (critical_path p lines (placing_of p lines)) three e i h other in
            record {
              fits = reassigns_fit sixteen w ok.activities.1 ok.machines.1 on_path ok.candidates r;
              within = reassigns_within sixteen w ok.activities.1 ok.machines.1 on_path ok.candidates r;
            };
      }
