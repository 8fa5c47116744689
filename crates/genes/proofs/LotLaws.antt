-- What the lines of the genes come to: none where something is missing, else those that were dealt.
use Rattle.std.specs.Prelude.{Some, None}
use Prim.Native.Nat.{ℕ, zero, suc, ◌≤◌, ◌<◌}
use mathlib.Core.Path.{◌≡◌, refl, sym, ap, ◌∙◌}
use mathlib.Core.Bool.{true, false, not, false≢true}
use mathlib.Core.List.{List}
use lib.ListN.{length, replicate}
use Rattle.graph.specs.Counting.{Below}
use Rattle.plan.specs.Problem.{Problem, Genes}
use Rattle.lines.specs.Lines.{lines_in}
use Rattle.genes.specs.Indexed.{misses, lines_of_genes}
use Rattle.genes.specs.Lot.{Lines}

module _ (p : Problem) (g : Genes) {cells : List ℕ} where
  pub no_lines : misses p g ≡ true → Lines p g cells None
  no_lines m = record { whole = ap not (sym m); held = λ lens e. cc }

  pub whole_lines : (lens : List ℕ) → misses p g ≡ false → lines_in cells lens ≡ lines_of_genes p g → Lines p g cells (Some lens)
  whole_lines lens m l = record { whole = ap not (sym m); held = λ lens' e. let q : lens' ≡ lens = cc in rw q l }

pub zeros_below : (n k : ℕ) → 0 < k → Below k (replicate n 0)
unfolding Below
zeros_below zero k h = tt
zeros_below (suc n) k h = (h, zeros_below n k h)
