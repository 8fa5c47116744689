-- From what is found to what a step sees.
use Prim.Native.Nat.{ℕ, ◌-◌, ◌*◌, ◌/◌, ◌≤◌}
use mathlib.Core.Path.{◌≡◌, sym, ap, ap₂, ◌∙◌}
use mathlib.Core.List.{List, ◌++◌}
use native.Mathlib.Omega.{arith}
use lib.ListN.{length, get_or, take, drop, length-drop}
use lib.Ieee.{to_bits, binary64}
use Rattle.std.specs.Prelude.{Ok}
use Rattle.plan.specs.Problem.{Problem}
use Rattle.lines.specs.Lines.{Lines}
use Rattle.moves.specs.declared.Move.{Move}
use Rattle.ranking.specs.declared.held.Rated.{Rated}
use Rattle.ranking.specs.declared.held.Three.{Three}
use Rattle.ranking.specs.Ranking.{ranked}
use Rattle.rows.specs.Rows.{over}
use Rattle.blocks.specs.BlockMoves.{blocks_by, block_moves}
use Rattle.blocks.specs.Scanning.{Pathed, own_moves_of_all}
use Rattle.blocks.proofs.PathLaws.{blocks_held, moves_once}
use Rattle.calls.specs.Timing.{fitness_on}
use Rattle.trial.specs.Trial.{moves_of}
use Rattle.search.proofs.SurveyLaws.{part_is}
use Rattle.looking.specs.Rows.{rows_of, ranks_of, Put}
use Rattle.looking.specs.Looking.{path_on, moves_on, blocks_on, others_on, sight_of, seen, answer_of}
use Rattle.looking.proofs.RowLaws.{rows_long, put_as, put_over}
use Rattle.looking.proofs.ListingLaws.{few}
use Rattle.looking.proofs.KeptLaws.{held_long}

-- ---- the path's block moves

-- The path, as it is lent.
pub part_short : (l : List ℕ) (r : ℕ) → r ≤ length l → length l ≤ 128 → length (take (length l - r) (drop r l)) ≤ 128
part_short l r h g = omega (arith, ap length (part_is l r h), length-drop r l)

module _ (p : Problem) {n : ℕ} {lines : Lines} {path machines places : List ℕ} (k : Pathed n lines path machines places) (e : path ≡ path_on p lines) (short : length path ≤ 128) where
  moves_are : own_moves_of_all (blocks_by (λ a. get_or machines a 0) (λ a. get_or places a 0) path) ≡ moves_on p lines
  moves_are = ap own_moves_of_all (blocks_held k) ∙ moves_once k ∙ ap (block_moves lines) e

  moves_few : length (rows_of (moves_on p lines)) ≤ 1536
  moves_few =
      omega (arith, rows_long (moves_on p lines), ap (λ (l : List Move). length l) moves_are, few (λ a. get_or machines a 0) (λ a. get_or places a 0) path)

  module _ {rows₀ rows : List ℕ} {next : ℕ} (q : Put (rows_of (own_moves_of_all (blocks_by (λ a. get_or machines a 0) (λ a. get_or places a 0) path))) 0 rows₀ rows next) where
    pub moves_listed : 1536 ≤ length rows₀ → rows ≡ over (rows_of (moves_on p lines)) rows₀
    moves_listed h = put_over (omega (arith, moves_few)) (put_as (ap rows_of moves_are) q)

    pub moves_counted : next / 6 ≡ length (moves_on p lines)
    moves_counted =
        let a : next ≡ 6 * length (moves_on p lines) = omega (arith, q.ends, ap (λ (l : List Move). length (rows_of l)) moves_are, rows_long (moves_on p lines)) in
        omega arith

-- ---- those that are kept

module _ {blocks others : List Rated} {b o : List Rated} (eb : b ≡ blocks) (eo : o ≡ others) where
  pub kept_as : (cells : List ℕ) {kept : List ℕ} → kept ≡ over (rows_of (moves_of b) ++ rows_of (moves_of o)) cells → kept ≡ over (rows_of (moves_of blocks) ++ rows_of (moves_of others)) cells
  kept_as cells e = e ∙ ap₂ (λ (x y : List Rated). over (rows_of (moves_of x) ++ rows_of (moves_of y)) cells) eb eo

  pub ranks_as : (cells : List ℕ) {ranks : List ℕ} → ranks ≡ over (ranks_of b ++ ranks_of o) cells → ranks ≡ over (ranks_of blocks ++ ranks_of others) cells
  ranks_as cells e = e ∙ ap₂ (λ (x y : List Rated). over (ranks_of x ++ ranks_of y) cells) eb eo

pub held_count : (three : Three) → {l : List Rated} → ranked three ≡ l → three.count ≡ length l
held_count three e = sym (held_long three) ∙ ap (λ (l : List Rated). length l) e

-- ---- the answer

pub seen-answer : (p : Problem) (lines : Lines) {a b c d f : ℕ} → a ≡ length (path_on p lines) → b ≡ length (moves_on p lines) → c ≡ length (blocks_on p lines)
    → d ≡ length (others_on p lines) → f ≡ to_bits binary64 (fitness_on p lines) → Ok (record { path = a; moves = b; blocks = c; others = d; bits = f }) ≡ answer_of (seen (sight_of p lines))
seen-answer p lines ea eb ec ed ef = rw (ea, eb, ec, ed, ef)
