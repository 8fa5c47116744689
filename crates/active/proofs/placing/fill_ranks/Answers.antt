-- `active::placing::fill_ranks` meets its contract: all have the order's length, then each of the order its place.
use Prim.Native.Nat.{ℕ}
use mathlib.Core.Path.{sym, ap, ap₂, ◌∙◌}
use mathlib.Core.List.{List}
use lib.ListN.{length, replicate}
use Rattle.words.specs.Words.{words}
use Rattle.plan.specs.Input.{problem_of, genes_of}
use Rattle.graph.proofs.CountingLaws.{below_more}
use Rattle.genes.specs.Indexed.{indexed}
use Rattle.genes.proofs.IndexedLaws.{indexed_below}
use Rattle.active.specs.Active.{ranked_from}
use Rattle.active.proofs.placing.fill_ranks.Goals as goal

pub slice_bounds-put_ranks-end : goal.slice_bounds-put_ranks-end
slice_bounds-put_ranks-end c = c.indexed-given.ensures.listed.whole ∙ ap length (sym c.indexed-given.ensures.listed.listed)

pub put_ranks-requires : goal.put_ranks-requires
put_ranks-requires c = rw c.indexed-given.ensures.listed.listed (below_more c.args.z.activities 128 (indexed (problem_of (words c.args.s.now) c.args.z) (genes_of (words c.args.s.now) c.args.z)) c.requires.1.activities.1 (indexed_below c.requires.1))

pub returns : goal.returns
returns c = c.put_ranks.ensures ∙ ap₂ (λ (x : List ℕ) (k : ℕ). ranked_from 0 x (replicate 128 k)) c.indexed-given.ensures.listed.listed c.indexed-given.ensures.listed.whole
