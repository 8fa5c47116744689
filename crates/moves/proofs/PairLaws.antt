-- A pair is read from the stretches, which hold at a line's positions what the line has there. Assumes nothing.
use mathlib.Core.Path.{◌≡◌, refl, sym, ap, ◌∙◌}
use mathlib.Core.List.{List}
use Prim.Native.Nat.{ℕ, suc, ◌+◌, ◌*◌, ◌-◌, ◌<◌}
use native.Mathlib.Omega.{arith}
use lib.ListN.{length, get_or, take, drop, replicate, get_or-replicate}
use lib.Seq.{get_or-take}
use Rattle.lines.specs.Lines.{lines_in}
use Rattle.lines.proofs.StretchLaws.{line_in}
use Rattle.moves.specs.declared.Move.{Move}
use Rattle.moves.specs.declared.Move.TheVariants.{Swap, Shift, Reassign}
use Rattle.moves.specs.Moves.{line_of, pair_of, stretches, Holds, Fits, Reads}
use Rattle.moves.proofs.CellLaws.{line_long}

-- machine m's whole stretch, as the code lends it
pub stretch_is : (cells : List ℕ) → length cells ≡ 2048 → (m : ℕ) → m < 16 → take (128 * m + 128 - 128 * m) (drop (128 * m) cells) ≡ line_of (stretches cells) m
stretch_is cells roomy m h =
    let g : get_or {A = ℕ} (replicate 16 128) m 0 ≡ 128 = get_or-replicate 16 m 128 0 h in
    let q : 128 * m + 128 - 128 * m ≡ get_or {A = ℕ} (replicate 16 128) m 0 = omega arith in
    rw q (sym (line_in cells (replicate 16 128) m h (omega arith)))

module _ {cells lens : List ℕ} (held : Holds cells lens) where
  same_at : (m i : ℕ) → m < 16 → i < length (line_of (lines_in cells lens) m) → get_or (line_of (stretches cells) m) i 0 ≡ get_or (line_of (lines_in cells lens) m) i 0
  same_at m i h b =
      let k : i < get_or lens m 0 = omega (arith, line_long cells lens m) in
      let f = held.fit m in
      let e : line_of (lines_in cells lens) m ≡ take (get_or lens m 0) (drop (128 * m) cells) = line_in cells lens m (omega arith) (omega arith) in
      ap (λ (l : List ℕ). get_or l i 0) (sym (stretch_is cells held.roomy m h))
      ∙ get_or-take (128 * m + 128 - 128 * m) (drop (128 * m) cells) i 0 (omega arith)
      ∙ sym (ap (λ (l : List ℕ). get_or l i 0) e ∙ get_or-take (get_or lens m 0) (drop (128 * m) cells) i 0 k)

  -- what `pair` answers of a move that fits the lines
  pub pair_of' : (made : Move) → Fits made (lines_in cells lens) → pair_of (stretches cells) made ≡ pair_of (lines_in cells lens) made
  pair_of' (Swap m i) f =
      rw (same_at m i f.machine (omega (arith, f.next)), same_at m (suc i) f.machine (omega (arith, f.next)))
  pair_of' (Shift m i j) f = rw (same_at m i f.machine f.from, same_at m j f.machine f.to)
  pair_of' (Reassign a r i q j) f = refl

  -- what `pair` asks
  pub reads : (made : Move) → Fits made (lines_in cells lens) → Reads made
  reads (Swap m i) f = (f.machine, omega (arith, f.next, line_long cells lens m, held.fit m))
  reads (Shift m i j) f =
      let l = line_long cells lens m in
      let k = held.fit m in
      (f.machine, omega (arith, f.from), omega (arith, f.to))
  reads (Reassign a r i q j) f = tt
