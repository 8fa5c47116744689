-- `tables::namings::fill_namings` meets its contract: the loaded columns name activities, and what is filed is what the problem says.
use Prim.Native.Nat.{ℕ, ◌+◌}
use mathlib.Core.Path.{◌≡◌, sym, ◌∙◌, subst}
use mathlib.Core.List.{List}
use native.Mathlib.Omega.{arith}
use Rattle.words.specs.Words.{words}
use Rattle.graph.specs.Counting.{Below}
use Rattle.plan.specs.Input.{count}
use Rattle.tables.proofs.PartLaws.{section_below, namings_of}
use Rattle.tables.proofs.namings.fill_namings.Goals as goal

pub file_pairs-requires : goal.file_pairs-requires
file_pairs-requires c = let ws = words c.args.s.now in
    let all : c.word-count.result ≡ count ws c.args.z c.args.z.at.predecessors = c.word-count.ensures in
    let acts = section_below ws c.args.z.activities c.word-count.result c.args.z.at.predecessors 0 (c.args.z.at.predecessors + 1) (omega arith) (λ i h. c.requires.1.predecessor_of i (omega arith)) in
    let preds = section_below ws c.args.z.activities c.word-count.result c.args.z.at.predecessors 1 (c.args.z.at.predecessors + 2) (omega arith) (λ i h. c.requires.1.predecessor_named i (omega arith)) in
    record { n_bound = (c.requires.0.activities, c.requires.2, omega arith, omega arith, omega arith, c.requires.4); below = (subst (λ (x : List ℕ). Below c.args.z.activities x) (sym c.load_pairs.ensures.0) acts, subst (λ (x : List ℕ). Below c.args.z.activities x) (sym c.load_pairs.ensures.1) preds) }

pub returns : goal.returns
returns c = namings_of (words c.args.s.now) c.args.z c.word-count.result c.word-count.ensures c.requires.0.activities (c.file_pairs.auto.part ∙ c.requires.4) c.requires.3
    c.load_pairs.ensures.0 c.load_pairs.ensures.1 c.file_pairs.ensures
