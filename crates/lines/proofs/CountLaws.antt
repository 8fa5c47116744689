-- The loop that counts how often each activity stands on the lines. Assumes nothing.
use mathlib.Core.Path.{◌≡◌, refl, sym, ap, ◌∙◌}
use mathlib.Core.Bool.{Bool, true, false}
use mathlib.Core.List.{List, [], ◌∷◌}
use Prim.Native.Nat.{ℕ, zero, suc, ◌+◌, ◌*◌, ◌^◌, ◌≤◌, ◌<◌}
use native.Mathlib.Numerals.{add-one}
use native.Mathlib.Omega.{arith}
use lib.ListN.{length, get_or, take, drop}
use lib.Seq.{drop-cons}
use lib.Dec.{ltb}
use borrow.Author.Tests.{ltb-true}
use Rattle.graph.specs.Counting.{count_of, Below}
use Rattle.graph.specs.Tally.{tallied}
use Rattle.graph.proofs.CountingLaws.{below_more}
use Rattle.graph.proofs.NamingLaws.{tallied_at, tallied-length}
use Rattle.lines.specs.Lines.{Lines, cells_from, lines_in, Fit, standing, all, all_known, lengths, standings, all_short, all_one, all_fit, well_formed, CountedLines}
use Rattle.lines.proofs.LineLaws.{count_length}
use Rattle.lines.proofs.StretchLaws.{lines_left, left_next, left_none, cells-length, lengths_in}
use Rattle.lines.proofs.TestLaws.{known_below, both_true, all_every}

-- the lines passed are counted, and the lines that are left decide
pub record Counting (n : ℕ) (cells lens seen₀ seen : List ℕ) (m : ℕ) : Type 0 where
  pub within : m ≤ 16
  pub sized : length seen ≡ length seen₀
  pub small : (a : ℕ) → get_or seen a 0 ≤ 128 * m
  pub told : all_known n (lines_in cells lens) ≡ all_known n (lines_left cells lens m)
  pub so_far : (a : ℕ) → get_or seen a 0 + standing (lines_left cells lens m) a ≡ standing (lines_in cells lens) a

pub count_begin : (n : ℕ) (cells lens seen : List ℕ) → ((a : ℕ) → get_or seen a 0 ≡ 0) → Counting n cells lens seen seen 0
count_begin n cells lens seen z =
    record { within = omega arith; sized = refl; small = λ a. omega (arith, z a); told = refl; so_far = λ a. omega (arith, z a) }

module _ {n : ℕ} {cells lens seen₀ seen : List ℕ} {m : ℕ} (c : Counting n cells lens seen₀ seen m) (sixteen : length lens ≡ 16) where
  pub count_end : 16 ≤ m → CountedLines n (lines_in cells lens) seen true
  unfolding all_known standing
  count_end h =
      let e : lines_left cells lens m ≡ [] = left_none cells lens m (omega (arith, c.within)) in
      record { told = sym (c.told ∙ ap (all_known n) e); counted = λ y a. omega (arith, c.so_far a, ap (λ (l : Lines). standing l a) e) }

  module _ (fit : Fit lens) (h : m < 16) {line : List ℕ} (on : line ≡ cells_from cells (128 * m) (get_or lens m 0)) where
    next : lines_left cells lens m ≡ line ∷ lines_left cells lens (m + 1)
    next = left_next cells lens m (omega arith) ∙ rw on

    -- a number that is no activity
    pub count_stop : all (λ a. ltb a n) line ≡ false → CountedLines n (lines_in cells lens) seen false
    unfolding all_known
    count_stop e =
        record {
          told = sym (c.told ∙ ap (all_known n) next ∙ rw e);
          counted = λ y. absurd (let z : ◌≡◌ {A = Bool} false true = y in let w : ◌≡◌ {A = ℕ} 0 1 = cc in omega arith);
        }

    module _ (known : all (λ a. ltb a n) line ≡ true) where
      short : length line ≤ 128
      short = omega (arith, ap length on, cells-length cells (128 * m) (get_or lens m 0), fit m)

      -- what `tally_by` asks
      pub count_asks : n ≤ length seen → Below (length seen) line × ((a : ℕ) → get_or seen a 0 + length line < 2 ^ 63)
      count_asks k = (below_more n (length seen) line k (known_below n line known), λ a. omega (arith, c.small a, short))

      pub count_again : n ≤ length seen → {seen' : List ℕ} → seen' ≡ tallied line seen → Counting n cells lens seen₀ seen' (m + 1)
      unfolding all_known standing
      count_again k {seen'} e =
          let at : (a : ℕ) → get_or seen' a 0 ≡ get_or seen a 0 + count_of a line =
          λ a. ap (λ (l : List ℕ). get_or l a 0) e ∙ tallied_at line seen (count_asks k).0 a in
          record {
            within = omega arith;
            sized = ap length e ∙ tallied-length line seen ∙ c.sized;
            small = λ a. omega (arith, at a, c.small a, count_length a line, short);
            told = c.told ∙ ap (all_known n) next ∙ rw known;
            so_far = λ a. omega (arith, at a, c.so_far a, ap (λ (l : Lines). standing l a) next);
          }

-- ---- the whole test, call by call

-- what was counted of the activities from a on
seen-standings : (lines : Lines) (seen : List ℕ) → ((a : ℕ) → get_or seen a 0 ≡ standing lines a) → (n a : ℕ) → a + n ≤ length seen
    → take n (drop a seen) ≡ standings lines a n
unfolding standings
seen-standings lines seen at zero a h = refl
seen-standings lines seen at (suc n) a h =
    let k : a < length seen = omega arith in
    rw (drop-cons seen a 0, ← add-one a, at a) (ap (λ (l : List ℕ). standing lines a ∷ l) (seen-standings lines seen at n (a + 1) (omega arith)))

module _ (n R : ℕ) (cells lens : List ℕ) where
  fitting : all_fit R (lengths (lines_in cells lens)) ≡ all_fit R lens
  fitting = ap (all_fit R) (lengths_in cells 0 lens)

  pub unfit : all_fit R lens ≡ false → false ≡ well_formed n R (lines_in cells lens)
  unfolding well_formed
  unfit e = sym (rw (fitting ∙ e))

  pub fit_of : all_fit R lens ≡ true → Fit lens
  fit_of e m =
      omega (arith, ltb-true (get_or lens m 0) 129 (all_every (λ k. ltb k 129) lens (both_true (all_short lens) _ e).0 refl m))

  module _ (fit : all_fit R lens ≡ true) where
    pub unknown : all_known n (lines_in cells lens) ≡ false → false ≡ well_formed n R (lines_in cells lens)
    unfolding well_formed
    unknown e = sym (rw (fitting ∙ fit, e))

    pub decided : all_known n (lines_in cells lens) ≡ true → (seen : List ℕ) → n ≤ length seen → ((a : ℕ) → get_or seen a 0 ≡ standing (lines_in cells lens) a)
        → all_one (take n seen) ≡ well_formed n R (lines_in cells lens)
    unfolding well_formed
    decided e seen h at = rw (fitting ∙ fit, e) (ap all_one (seen-standings (lines_in cells lens) seen at n 0 (omega arith)))
