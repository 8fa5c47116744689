-- Runs of a path: one more activity, the end of a run, and how many moves there are.
use Prim.Native.Nat.{ℕ, zero, suc, ◌+◌, ◌-◌, ◌*◌, ◌≤◌, ◌<◌}
use mathlib.Core.Path.{◌≡◌, refl, sym, ap, ◌∙◌}
use mathlib.Core.Bool.{Bool, true, false, not, ◌&&◌}
use mathlib.Core.List.{List, [], ◌∷◌, ◌++◌, append-nil}
use native.Mathlib.Numerals.{add-one}
use native.Mathlib.Omega.{arith}
use borrow.Author.Tests.{eqb-true, lt-ltb, le-ltb}
use lib.Dec.{eqb, ltb}
use lib.ListN.{length, get_or, drop, length-append}
use lib.Seq.{drop-cons, drop-length}
use Rattle.graph.proofs.CountingLaws.{either}
use Rattle.blocks.specs.BlockMoves.{Block, block, closed, goes_on', blocks_from, blocks_by, shifts}
use Rattle.blocks.specs.Scanning.{Run, own_moves, own_moves_of_all, moves_in}

-- ---- tests

pub both_true : (x y : Bool) → (x && y) ≡ true → (x ≡ true) × (y ≡ true)
both_true true y e = (refl, e)
both_true false y e = let z : ◌≡◌ {A = ℕ} 0 1 = cc in absurd (omega arith)

pub denied : (x : Bool) → not x ≡ true → x ≡ false
denied true e = sym e
denied false e = refl

pub affirmed : (x : Bool) → not x ≡ false → x ≡ true
affirmed true e = refl
affirmed false e = sym e

-- ---- the run of one place of the path

pub record Extending (machine position : ℕ → ℕ) (path : List ℕ) (i r : ℕ) : Type 0 where
  pub rising : i ≤ r
  pub within : r < length path
  pub one_machine : machine (get_or path r 0) ≡ machine (get_or path i 0)
  pub apart : position (get_or path r 0) ≡ position (get_or path i 0) + (r - i)
  pub left : blocks_by machine position (drop i path)
      ≡ blocks_from machine position (block (machine (get_or path i 0)) (position (get_or path i 0)) (position (get_or path r 0))) (drop (r + 1) path)

module _ (machine position : ℕ → ℕ) where
  goes : (run : Block) (b : ℕ) (rest : List ℕ) → goes_on' machine position run b ≡ true
      → blocks_from machine position run (b ∷ rest) ≡ blocks_from machine position (block (machine b) run.first (position b)) rest
  unfolding blocks_from
  goes run b rest e = rw e

  stops : (run : Block) (b : ℕ) (rest : List ℕ) → goes_on' machine position run b ≡ false
      → blocks_from machine position run (b ∷ rest) ≡ closed run ++ blocks_by machine position (b ∷ rest)
  unfolding blocks_from
  stops run b rest e = rw e

  none_left : (run : Block) → blocks_from machine position run [] ≡ closed run ++ blocks_by machine position []
  unfolding blocks_from
  none_left run = sym (append-nil (closed run))

  pub run_begin : (path : List ℕ) (i : ℕ) → i < length path → Extending machine position path i i
  run_begin path i h =
      record {
        rising = omega arith;
        within = h;
        one_machine = refl;
        apart = omega arith;
        left = rw (add-one i) (ap (blocks_by machine position) (drop-cons path i 0 h));
      }

module _ {machine position : ℕ → ℕ} {path : List ℕ} {i r : ℕ} (k : Extending machine position path i r) where
  run_end : blocks_by machine position (drop i path)
      ≡ closed (block (machine (get_or path i 0)) (position (get_or path i 0)) (position (get_or path r 0))) ++ blocks_by machine position (drop (r + 1) path)
      → Run machine position path i r
  run_end e =
      record { rising = k.rising; within = k.within; one_machine = k.one_machine; apart = k.apart; first_block = e }

  pub run_out : length path ≤ r + 1 → Run machine position path i r
  run_out h =
      let e : r + 1 ≡ length path = omega (arith, k.within) in
      let n : drop (r + 1) path ≡ [] = ap (λ (j : ℕ). drop j path) e ∙ drop-length path in
      run_end
      (k.left ∙ rw n (none_left machine position (block (machine (get_or path i 0)) (position (get_or path i 0)) (position (get_or path r 0)))))

  module _ (h : r + 1 < length path) where
    next : drop (r + 1) path ≡ get_or path (r + 1) 0 ∷ drop (r + 1 + 1) path
    next = rw (add-one (r + 1)) (drop-cons path (r + 1) 0 h)

    pub run_stops : (eqb (machine (get_or path (r + 1) 0)) (machine (get_or path r 0)) && eqb (position (get_or path (r + 1) 0)) (suc (position (get_or path r 0)))) ≡ false
        → Run machine position path i r
    run_stops e =
        let e' : (eqb (machine (get_or path (r + 1) 0)) (machine (get_or path i 0)) && eqb (position (get_or path (r + 1) 0)) (suc (position (get_or path r 0)))) ≡ false =
        rw k.one_machine at e in
        run_end (k.left ∙ rw next (stops machine position _ (get_or path (r + 1) 0) (drop (r + 1 + 1) path) e'))

    pub run_goes : (eqb (machine (get_or path (r + 1) 0)) (machine (get_or path r 0)) && eqb (position (get_or path (r + 1) 0)) (suc (position (get_or path r 0)))) ≡ true
        → Extending machine position path i (r + 1)
    run_goes e =
        let e' : (eqb (machine (get_or path (r + 1) 0)) (machine (get_or path i 0)) && eqb (position (get_or path (r + 1) 0)) (suc (position (get_or path r 0)))) ≡ true =
        rw k.one_machine at e in
        let both = both_true (eqb (machine (get_or path (r + 1) 0)) (machine (get_or path i 0))) (eqb (position (get_or path (r + 1) 0)) (suc (position (get_or path r 0)))) e' in
        let m : machine (get_or path (r + 1) 0) ≡ machine (get_or path i 0) = eqb-true _ _ both.0 in
        let q : position (get_or path (r + 1) 0) ≡ suc (position (get_or path r 0)) = eqb-true _ _ both.1 in
        record {
          rising = omega (arith, k.rising);
          within = h;
          one_machine = m;
          apart = omega (arith, q, k.apart, k.rising);
          left = k.left
              ∙ ap (blocks_from machine position (block (machine (get_or path i 0)) (position (get_or path i 0)) (position (get_or path r 0)))) next
              ∙ goes machine position (block (machine (get_or path i 0)) (position (get_or path i 0)) (position (get_or path r 0))) (get_or path (r + 1) 0) (drop (r + 1 + 1) path) e'
              ∙ ap (λ (z : ℕ). blocks_from machine position (block z (position (get_or path i 0)) (position (get_or path (r + 1) 0))) (drop (r + 1 + 1) path)) m;
        }

-- ---- how many moves

length-shifts : (m to from count : ℕ) → length (shifts m to from count) ≡ count
unfolding shifts
length-shifts m to from zero = refl
length-shifts m to from (suc count) = ap suc (length-shifts m to (suc from) count)

own_many : (m f l : ℕ) → f < l → length (own_moves (block m f l)) ≡ moves_in (l - f)
own_many m f l h =
    either (l - f) 1
    (λ e. rw (le-ltb (f + 1) l (omega arith), e))
    (λ ne.
    let a : (ltb (f + 1) l) ≡ true = lt-ltb (f + 1) l (omega arith) in
    let b : (ltb (l - f) 2) ≡ false = le-ltb (l - f) 2 (omega arith) in
    rw (a, b, length-append (shifts m f (f + 2) (l - f - 1)) (shifts m l f (l - f - 1)), length-shifts m f (f + 2) (l - f - 1), length-shifts m l f (l - f - 1)) (omega arith))

pub own_closed : (run : Block) (l : List Block) → run.first < run.last → own_moves_of_all (closed run ++ l) ≡ own_moves run ++ own_moves_of_all l
unfolding own_moves_of_all
own_closed run l h = rw (lt-ltb run.first run.last h)

pub own_single : (run : Block) (l : List Block) → run.last ≤ run.first → own_moves_of_all (closed run ++ l) ≡ own_moves_of_all l
own_single run l h = rw (le-ltb run.first run.last h)

pub run_many : (m f l : ℕ) (rest : List Block) → length (own_moves_of_all (closed (block m f l) ++ rest)) ≡ moves_in (l - f) + length (own_moves_of_all rest)
run_many m f l rest =
    either (l - f) 0
    (λ e. rw (own_single (block m f l) rest (omega arith), e) (omega arith))
    (λ ne.
    rw (own_closed (block m f l) rest (omega arith), length-append (own_moves (block m f l)) (own_moves_of_all rest), own_many m f l (omega arith)))

pub record Counting (machine position : ℕ → ℕ) (path : List ℕ) (count i : ℕ) : Type 0 where
  pub within : i ≤ length path
  pub few : count ≤ 2 * i
  pub left : count + length (own_moves_of_all (blocks_by machine position (drop i path))) ≡ length (own_moves_of_all (blocks_by machine position path))

pub count_begin : (machine position : ℕ → ℕ) (path : List ℕ) → Counting machine position path 0 0
count_begin machine position path = record { within = omega arith; few = omega arith; left = omega arith }

pub few_moves : (far : ℕ) → moves_in far ≤ 2 * far
few_moves far =
    either (far - 1) 0
    (λ e. rw (lt-ltb far 2 (omega arith)) (omega arith))
    (λ ne. rw (le-ltb far 2 (omega arith)) (omega arith))

module _ {machine position : ℕ → ℕ} {path : List ℕ} {count i : ℕ} (k : Counting machine position path count i) where
  pub count_all : length path ≤ i → count ≡ length (own_moves_of_all (blocks_by machine position path))
  unfolding own_moves_of_all
  count_all h =
      let e : i ≡ length path = omega (arith, k.within) in
      let n : drop i path ≡ [] = ap (λ (j : ℕ). drop j path) e ∙ drop-length path in
      omega (arith, k.left, ap (λ (l : List ℕ). length (own_moves_of_all (blocks_by machine position l))) n)

  pub count_again : {r more : ℕ} → Run machine position path i r → more ≡ moves_in (r - i) → Counting machine position path (count + more) (r + 1)
  count_again {r} {more} u e =
      let f = position (get_or path i 0) in
      let l = position (get_or path r 0) in
      let m = machine (get_or path i 0) in
      let far : l - f ≡ r - i = omega (arith, u.apart) in
      let a : length (own_moves_of_all (blocks_by machine position (drop i path))) ≡ moves_in (r - i) + length (own_moves_of_all (blocks_by machine position (drop (r + 1) path))) =
      ap (λ (x : List Block). length (own_moves_of_all x)) u.first_block ∙ run_many m f l (blocks_by machine position (drop (r + 1) path)) ∙ ap (λ (z : ℕ). moves_in z + length (own_moves_of_all (blocks_by machine position (drop (r + 1) path)))) far in
      record { within = omega (arith, u.within); few = omega (arith, k.few, few_moves (r - i), u.rising); left = omega (arith, k.left, a, e) }
