-- `tables::namings::fill_candidates` meets its contract: the loaded columns name activities, and what is filed is what the problem says.
use Prim.Native.Nat.{ℕ, ◌+◌}
use mathlib.Core.Path.{◌≡◌, sym, subst}
use mathlib.Core.List.{List}
use native.Mathlib.Omega.{arith}
use lib.Seq.{length-take-le}
use Rattle.words.specs.Words.{words}
use Rattle.graph.specs.Counting.{Below}
use Rattle.graph.proofs.CountingLaws.{below_more}
use Rattle.plan.specs.Input.{count}
use Rattle.tables.proofs.PartLaws.{section_below, candidates_of}
use Rattle.tables.proofs.namings.fill_candidates.Goals as goal

pub file_into-requires : goal.file_into-requires
file_into-requires c = let ws = words c.args.s.now in
    let all : c.word-count.result ≡ count ws c.args.z c.args.z.at.candidates = c.word-count.ensures in
    let acts = section_below ws c.args.z.activities c.word-count.result c.args.z.at.candidates 0 (c.args.z.at.candidates + 1) (omega arith) (λ i h. c.requires.1.candidate_activity i (omega arith)) in
    (omega arith, omega arith, omega arith, below_more c.args.z.activities 128 _ c.requires.0.activities (subst (λ (x : List ℕ). Below c.args.z.activities x) (sym c.load_pairs.ensures.0) acts))

pub returns : goal.returns
returns c = candidates_of (words c.args.s.now) c.args.z c.word-count.result c.word-count.ensures c.requires.0.activities (length-take-le 129 c.file_into.new.part (omega arith))
    c.load_pairs.ensures.0 c.load_pairs.ensures.1 c.file_into.ensures
