-- `active::placing::place_active` meets its contract: ranks and machines are given, and a board of its own is placed upon.
use Prim.Native.Nat.{ℕ}
use mathlib.Core.Path.{◌≡◌, refl, sym, ap, ◌∙◌}
use mathlib.Core.List.{List}
use native.Mathlib.Omega.{arith}
use lib.ListN.{length, take, replicate}
use lib.Seq.{length-take-le}
use Rattle.words.specs.Words.{words}
use Rattle.plan.specs.Input.{problem_of, genes_of}
use Rattle.board.specs.Board.{Board, empty_board}
use Rattle.active.specs.Active.{place_all}
use borrow.Author.Rules.{rules}
use Rattle.active.proofs.placing.place_active.Goals as goal

pub slice_bounds-place_all-end-5 : goal.slice_bounds-place_all-end-5
slice_bounds-place_all-end-5 c = sym (length-take-le {A = ℕ} c.args.z.activities (replicate 128 0) (omega (arith, c.requires.placed.0.activities)))

pub place_all-requires : goal.place_all-requires
place_all-requires c = let settled : length (take c.args.z.activities (replicate {A = ℕ} 128 0)) ≡ c.args.z.activities = length-take-le {A = ℕ} c.args.z.activities (replicate 128 0) (omega (arith, c.requires.placed.0.activities)) in
    let ranked : length c.fill_ranks-ranks.result ≡ 128 = search rules in
    record { placed = c.requires.placed; started = record { ranked = ranked; manned = c.fill_on.ensures; roomy = c.requires.rooms.ordered; fresh = c.begin.ensures; sized = record { starts = c.requires.rooms.begun; ends = c.requires.rooms.ended; setups = c.requires.rooms.prepared; lines = refl; steps = refl; settled = settled } } }

pub returns : goal.returns
returns c = let e = c.place_all.ensures.board ∙ ap (λ (x : List ℕ). place_all (problem_of (words c.args.s.now) c.args.z) (genes_of (words c.args.s.now) c.args.z) x c.args.z.activities (empty_board c.args.z.activities)) c.fill_ranks-ranks.ensures in
    record { order = rw c.fill_ranks-ranks.ensures at c.place_all.ensures.order; times = record { begun = ap (λ (b : Board). b.starts) e; ended = ap (λ (b : Board). b.ends) e; prepared = ap (λ (b : Board). b.setups) e } }
