-- The rows of an orderly board on which everybody is placed are a lawful sheet.
use Rattle.std.specs.Prelude.{None, Option, Some, ℕ}
use Prim.Native.Nat.{ℕ, zero, suc, ◌+◌, ◌*◌, ◌≤◌, ◌<◌}
use mathlib.Core.Path.{◌≡◌, refl, ap, ◌∙◌}
use mathlib.Core.List.{List, [], ◌∷◌}
use native.Mathlib.Omega.{arith}
use lib.ListN.{length, get_or}
use lib.IntN.{pos}
use Rattle.graph.specs.Counting.{count_of}
use Rattle.graph.proofs.CountingLaws.{hit-eq, below_at, count_all, sum_to_full}
use Rattle.plan.specs.Problem.{Problem, Genes}
use Rattle.plan.specs.Accepted.{Accepted}
use Rattle.lines.specs.Lines.{place_on}
use Rattle.lines.proofs.LineLaws.{placed_on}
use Rattle.genes.specs.Indexed.{assigned_to}
use Rattle.genes.proofs.MachineLaws.{assigned_known}
use Rattle.sheet.specs.Lawful.{Precedes, span_from, Lawful}
use Rattle.sheet.proofs.Theorem.{accepts_exactly}
use Rattle.board.specs.Board.{Board, end_of}
use Rattle.board.proofs.BoardLaws.{ends_within}
use Rattle.in_order.proofs.ReadyLaws.{in_list}
use Rattle.accepted_sheets.specs.SheetRows.{start_of, rows_from, rows_of}
use Rattle.accepted_sheets.specs.Orderly.{last_before, Orderly}
use Rattle.accepted_sheets.specs.Complete.{Complete, Passes}
use Rattle.accepted_sheets.proofs.LineLaws.{last_none, last_is}

-- ---- rows

rows-length : (on : ℕ → ℕ) (b : Board) (l : List ℕ) → length (rows_from on b l) ≡ 4 * length l
unfolding rows_from
rows-length on b [] = refl
rows-length on b (a ∷ l) = omega (arith, rows-length on b l)

rows_read : (on : ℕ → ℕ) (b : Board) (l : List ℕ) (i : ℕ) → i < length l
    → (get_or (rows_from on b l) (4 * i) (pos 0) ≡ pos (get_or l i 0))
    × (get_or (rows_from on b l) (4 * i + 1) (pos 0) ≡ pos (on (get_or l i 0)))
    × (get_or (rows_from on b l) (4 * i + 2) (pos 0) ≡ pos (start_of b (get_or l i 0)))
    × (get_or (rows_from on b l) (4 * i + 3) (pos 0) ≡ pos (end_of b (get_or l i 0)))
unfolding rows_from
rows_read on b [] i h = absurd (omega arith)
rows_read on b (a ∷ l) zero h = (refl, refl, refl, refl)
rows_read on b (a ∷ l) (suc i) h =
    let deeper = rows_read on b l i (omega arith) in
    let at : (k j : ℕ) → k ≡ suc (suc (suc (suc j))) → get_or (rows_from on b (a ∷ l)) k (pos 0) ≡ get_or (rows_from on b l) j (pos 0) =
    λ k j e. ap (λ (y : ℕ). get_or (rows_from on b (a ∷ l)) y (pos 0)) e in
    (at (4 * suc i) (4 * i) (omega arith) ∙ deeper.0, at (4 * suc i + 1) (4 * i + 1) (omega arith) ∙ deeper.1, at (4 * suc i + 2) (4 * i + 2) (omega arith) ∙ deeper.2, at (4 * suc i + 3) (4 * i + 3) (omega arith) ∙ deeper.3)

twice : (l : List ℕ) (j i : ℕ) → j < i → i < length l → get_or l j 0 ≡ get_or l i 0 → 2 ≤ count_of (get_or l i 0) l
unfolding count_of
twice [] j i h k e = absurd (omega arith)
twice (x ∷ l) j zero h k e = absurd (omega arith)
twice (x ∷ l) zero (suc i) h k e = omega (arith, hit-eq x (get_or l i 0) e, in_list l i (omega arith))
twice (x ∷ l) (suc j) (suc i) h k e = omega (arith, twice l j i (omega arith) (omega arith) e)

-- ---- an orderly board

module _ {p : Problem} {g : Genes} (ok : Accepted p g) {b : Board} (w : Orderly p (assigned_to g) b) (full : Complete p b) where
  abbrev on : ℕ → ℕ
  on = assigned_to g

  abbrev activity : ℕ → ℕ
  activity i = get_or b.order i 0

  abbrev machine : ℕ → ℕ
  machine i = on (activity i)

  at_most_once : (a : ℕ) → count_of a b.order ≤ 1
  at_most_once a = omega (arith, w.sound.once a, w.sound.flags a)

  before : (j i : ℕ) → Precedes machine j i → last_before on b.order (machine i) i ≡ Some (activity j)
  before j i r = last_is on b.order (machine i) i j r.earlier r.together r.next

  lasts : (i : ℕ) → i < length b.order → (line : Option ℕ) → last_before on b.order (machine i) i ≡ line
      → end_of b (activity i) ≡ start_of b (activity i) + span_from p (activity i) (machine i) line
  lasts i h line e = (w.each i h).lasts ∙ ap (λ (y : Option ℕ). start_of b (activity i) + span_from p (activity i) (machine i) y) e

  placed : (a : ℕ) → a < p.n → count_of a b.order ≡ 1
  placed = sum_to_full p.n (λ a. count_of a b.order) at_most_once (count_all p.n b.order w.sound.known ∙ full)

  lawful : Lawful p (rows_of g b)
  lawful =
      record {
        count = length b.order;
        activity = activity;
        machine = machine;
        start = λ i. start_of b (activity i);
        end = λ i. end_of b (activity i);
        whole = rows-length on b b.order;
        reads = rows_read on b b.order;
        known = λ i h. (below_at p.n b.order i w.sound.known h, assigned_known ok (activity i));
        once = λ j i l h e. omega (arith, twice b.order j i l h e, at_most_once (activity i));
        in_time = λ i h. ends_within ok.activities.1 w.sound (activity i);
        lasts-first = λ i h none. lasts i h None (last_none on b.order (machine i) i none);
        lasts_after = λ j i h r. lasts i h (Some (activity j)) (before j i r);
        released = λ i h. (w.each i h).released;
        lined = λ j i h r. ((w.each i h).lined (activity j) (before j i r)).ended;
        stepped = λ j i l h e. ((w.each i h).stepped (activity j) e).ended;
        named = λ j i l h e. ((w.each i h).named (activity j) e).ended;
        everyone = λ a h. let r = placed_on b.order a (omega (arith, placed a h)) in (place_on b.order a, r.0, r.1);
      }

pub orderly_passes : {p : Problem} {g : Genes} → Accepted p g → {b : Board} → Orderly p (assigned_to g) b → Passes p g b
orderly_passes {p} {g} ok {b} w full = (accepts_exactly p (rows_of g b)).1 (lawful ok w full)
