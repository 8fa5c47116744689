-- A path that names no activity twice: its activities stand at different positions, the arrays give the same blocks as the lines, and each
-- block's positions are on its line.
use Prim.Native.Nat.{ℕ, ◌-◌, ◌^◌, ◌≤◌, ◌<◌}
use mathlib.Core.Path.{◌≡◌, refl, sym, ap, ◌∙◌}
use mathlib.Core.Bool.{cond}
use mathlib.Core.List.{List, [], ◌∷◌, ◌++◌}
use native.Mathlib.Omega.{arith}
use lib.ListN.{length, get_or, get_or-eq_default}
use Rattle.graph.specs.Counting.{Below, count_of, hit}
use Rattle.graph.proofs.CountingLaws.{either, hit-eq, below_at, count_all, sum_to-le}
use Rattle.plan.specs.Problem.{Problem}
use Rattle.lines.specs.Lines.{Lines, machine_of, position_of}
use Rattle.moves.specs.Moves.{line_of}
use Rattle.blocks.specs.Weighing.{Estimable}
use Rattle.blocks.specs.BlockMoves.{Block, closed, goes_on', longer, begun, blocks_from, blocks_by, blocks, block_moves}
use Rattle.blocks.specs.Scanning.{Scanned, Run, Pathed, Rateable, Searched, own_moves_of_all}
use Rattle.blocks.proofs.EveryLaws.{Every, none, also}
use Rattle.blocks.proofs.OnceLaws.{Clear, Apart, alone, apart, once-all}

-- ---- two ways to look up the same places

module _ (n : ℕ) (machine position machine' position' : ℕ → ℕ) (on : (a : ℕ) → a < n → machine a ≡ machine' a)
    (at : (a : ℕ) → a < n → position a ≡ position' a) where
  same_from : (run : Block) (path : List ℕ) → Below n path → blocks_from machine position run path ≡ blocks_from machine' position' run path
  unfolding blocks_from Below
  same_from run [] h = refl
  same_from run (b ∷ path) h =
      ap (λ (l : List Block). cond (goes_on' machine position run b) [] (closed run) ++ l) (same_from (longer machine position run b) path h.1)
      ∙ rw (on b h.0, at b h.0)

  same_blocks : (path : List ℕ) → Below n path → blocks_by machine position path ≡ blocks_by machine' position' path
  unfolding Below
  same_blocks [] h = refl
  same_blocks (a ∷ path) h = same_from (begun machine position a) path h.1 ∙ rw (on a h.0, at a h.0)

module _ {n : ℕ} {lines : Lines} {path machines places : List ℕ} (k : Pathed n lines path machines places) where
  pub blocks_held : blocks_by (λ a. get_or machines a 0) (λ a. get_or places a 0) path ≡ blocks lines path
  blocks_held =
      same_blocks n (λ a. get_or machines a 0) (λ a. get_or places a 0) (machine_of lines) (position_of lines) k.on k.at path k.path_known

  -- ---- no two at one position

  -- two at one position are one
  one_there : (b c : ℕ) → b < n → c < n → machine_of lines c ≡ machine_of lines b → position_of lines c ≡ position_of lines b → c ≡ b
  one_there b c h g e q =
      sym (k.found c g)
      ∙ ap (λ (m : ℕ). get_or (line_of lines m) (position_of lines c) 0) e
      ∙ ap (λ (i : ℕ). get_or (line_of lines (machine_of lines b)) i 0) q
      ∙ k.found b h

  clear_one : (b c : ℕ) → b < n → c < n → hit c b ≡ 0 → Clear (machine_of lines) (position_of lines) (machine_of lines b) (position_of lines b) (position_of lines b) c
  clear_one b c h g z = λ e low high. omega (arith, hit-eq c b (one_there b c h g e (omega arith)))

  clear_of : (b : ℕ) (l : List ℕ) → b < n → Below n l → count_of b l ≡ 0
      → Every (Clear (machine_of lines) (position_of lines) (machine_of lines b) (position_of lines b) (position_of lines b)) l
  unfolding Below count_of
  clear_of b [] h w z = none
  clear_of b (c ∷ l) h w z = also (clear_one b c h w.0 (omega arith)) (clear_of b l h w.1 (omega arith))

  apart_of : (l : List ℕ) → Below n l → ((a : ℕ) → count_of a l ≤ 1) → Apart (machine_of lines) (position_of lines) l
  unfolding Below count_of
  apart_of [] w o = alone
  apart_of (b ∷ l) w o = apart (clear_of b l w.0 w.1 (omega (arith, o b, hit-eq b b refl))) (apart_of l w.1 (λ a. omega (arith, o a)))

  -- each move once is each block's own moves
  pub moves_once : own_moves_of_all (blocks lines path) ≡ block_moves lines path
  moves_once = sym (once-all (machine_of lines) (position_of lines) path (apart_of path k.path_known k.path_once))

  -- ---- the arrays

  place_low : (a : ℕ) → get_or places a 0 < 2 ^ 32
  place_low a =
      either (n - a) 0
      (λ e. omega (arith, get_or-eq_default places 0 {n = a} (omega (arith, k.placed))))
      (λ ne. let h : a < n = omega arith in omega (arith, k.at a h, k.inside a h, (k.lined (machine_of lines a)).short))

  path_short : length path ≤ n
  path_short = omega (arith, count_all n path k.path_known, sum_to-le n (λ i. count_of i path) k.path_once)

  pub scanned : n ≤ 128 → Scanned path machines places
  scanned few =
      record {
        known = rw k.machined k.path_known;
        placed = k.placed ∙ sym k.machined;
        low = place_low;
        few = omega (arith, path_short);
      }

  -- ---- a run

  module _ {i r : ℕ} (u : Run (λ a. get_or machines a 0) (λ a. get_or places a 0) path i r) where
    pub first_known : get_or path i 0 < n
    first_known = below_at n path i k.path_known (omega (arith, u.rising, u.within))

    pub last_known : get_or path r 0 < n
    last_known = below_at n path r k.path_known u.within

    pub machine_known : get_or machines (get_or path i 0) 0 < 16
    machine_known = omega (arith, k.on (get_or path i 0) first_known, k.known (get_or path i 0) first_known)

    pub last_inside : get_or places (get_or path r 0) 0 < length (line_of lines (get_or machines (get_or path i 0) 0))
    last_inside =
        rw (sym u.one_machine, k.on (get_or path r 0) last_known, k.at (get_or path r 0) last_known) (k.inside (get_or path r 0) last_known)

-- ---- a line of them

module _ {p : Problem} {lines : Lines} {table starts ends tail path machines places : List ℕ} (s : Searched p lines table starts ends tail path machines places) where
  pub rateable : (m : ℕ) (line : List ℕ) → line ≡ line_of lines m → Rateable p lines m table starts ends tail line
  rateable m line e = record { weighed = s.weighed; low = s.low; lined = rw e (s.pathed.lined m); held = sym e }

  pub estimable : (m : ℕ) (line : List ℕ) → line ≡ line_of lines m → Estimable table starts ends tail line
  estimable m line e = record { problem = p; weighed = s.weighed; low = s.low; lined = rw e (s.pathed.lined m) }
