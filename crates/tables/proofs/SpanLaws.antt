-- Laws of spans: the words of a part are words of the whole, and rows of sixteen cells are filled one after the other.
use Prim.Native.Nat.{ℕ, ◌+◌, ◌*◌, ◌^◌, ◌≤◌, ◌<◌}
use mathlib.Core.Path.{◌≡◌, sym, ap, ◌∙◌, subst}
use mathlib.Core.List.{List}
use native.Mathlib.Omega.{arith}
use native.Mathlib.Nat.{suc-mul}
use native.Mathlib.Numerals.{add-one}
use lib.ListN.{length, get_or, take, drop, length-drop}
use lib.Seq.{length-take-le, get_or-take, get_or-drop}
use Rattle.words.specs.Words.{words}
use Rattle.words.proofs.WordLaws.{words_at}
use Rattle.graph.proofs.CountingLaws.{either}
use Rattle.plan.specs.Problem.{Problem}
use Rattle.plan.specs.Input.{problem_of}
use Rattle.plan.specs.declared.Layout.{Layout}
use Rattle.plan.proofs.NumberLaws.{product_most}
use Rattle.tables.specs.Regions.{region}
use Rattle.tables.specs.Tabled.{Tabled, own_span}
use Rattle.tables.specs.Columns.{Filled, row_sum, Spanned}
use Rattle.tables.proofs.RegionLaws.{laid, lent, region-length, region_at}

module _ (s : List ℕ) (first n : ℕ) (twelve : n ≡ 12) (fits : 4 * first + 12 ≤ length s) where
  row_long : length (take n (drop (4 * first) s)) ≡ n
  row_long = length-take-le n (drop (4 * first) s) (omega (arith, length-drop (4 * first) s))

  byte_at : (i k : ℕ) → i < 12 → 4 * first + i ≡ k → get_or (take n (drop (4 * first) s)) i 0 ≡ get_or s k 0
  byte_at i k h e = get_or-take n (drop (4 * first) s) i 0 (omega arith) ∙ get_or-drop (4 * first) s i 0 ∙ ap (λ (j : ℕ). get_or s j 0) e

  row_word : (j k : ℕ) → j < 3 → first + j ≡ k → get_or (words (take n (drop (4 * first) s))) j 0 ≡ get_or (words s) k 0
  row_word j k h e =
      omega (
        arith,
        words_at (take n (drop (4 * first) s)) j (omega (arith, row_long)),
        words_at s k (omega arith),
        byte_at (4 * j) (4 * k) (omega arith) (omega arith),
        byte_at (4 * j + 1) (4 * k + 1) (omega arith) (omega arith),
        byte_at (4 * j + 2) (4 * k + 2) (omega arith) (omega arith),
        byte_at (4 * j + 3) (4 * k + 3) (omega arith) (omega arith),
      )

  -- Three words of the whole stand in a part of twelve bytes.
  pub row_same : row_sum (words (take n (drop (4 * first) s))) 0 ≡ row_sum (words s) first
  row_same = omega (arith, row_word 0 first (omega arith) (omega arith), row_word 1 (first + 1) (omega arith) (omega arith), row_word 2 (first + 2) (omega arith) (omega arith))

-- The three words of an activity on a machine are its own span there.
own_sum : (ws : List ℕ) (z : Layout) (a m first : ℕ) → first ≡ z.at.times + 1 + 3 * (a * z.machines) → row_sum ws (first + 3 * m) ≡ own_span (problem_of ws z) a m
own_sum ws z a m first e =
    let at = z.at.times + 1 + 3 * (a * z.machines + m) in
    let same : first + 3 * m ≡ at = omega arith in
    let begins : at ≡ at + 0 = omega arith in
    ap (row_sum ws) same ∙ ap (λ (i : ℕ). get_or ws i 0 + get_or ws (at + 1) 0 + get_or ws (at + 2) 0) begins

-- Where the words of each activity begin: within reach, and one row after the other.
pub row_small : (a m at first : ℕ) → a ≤ 128 → m ≤ 16 → at < 2 ^ 32 → first ≡ at + 1 + 3 * (a * m) → first < 2 ^ 33
row_small a m at first few most h e = omega (arith, product_most 128 16 few most)

pub row_next : (a m at first : ℕ) → first ≡ at + 1 + 3 * (a * m) → first + 3 * m ≡ at + 1 + 3 * ((a + 1) * m)
row_next a m at first e = rw (add-one a) (omega (arith, suc-mul a m))

pub spanned_none : {p : Problem} {list : List ℕ} → Spanned p 0 list
spanned_none = record { at = λ a m h g. absurd (omega arith) }

-- The row of one activity more was lent and filled.
pub spanned_more : (ws : List ℕ) (z : Layout) (a k first : ℕ) (xs row : List ℕ) → Spanned (problem_of ws z) a xs → first ≡ z.at.times + 1 + 3 * (a * z.machines)
    → k ≡ z.machines → z.machines ≤ 16 → a < 128 → length xs ≡ 2048 → length row ≡ length (region xs (16 * a) k)
    → Filled (length (region xs (16 * a) k)) (λ m. row_sum ws (first + 3 * m)) row → Spanned (problem_of ws z) (a + 1) (laid (16 * a) k xs row)
spanned_more ws z a k first xs row done from exact most few long kept filled =
    let p = problem_of ws z in
    let ys = laid (16 * a) k xs row in
    let l = lent (16 * a) k xs row (omega arith) kept in
    let size = region-length xs (16 * a) k (omega arith) in
    record {
      at = λ b m hb hm.
          either b a
          (λ e.
          subst (λ (i : ℕ). get_or ys (16 * i + m) 0 ≡ own_span p i m) (sym e)
          (sym (region_at ys (16 * a) k m (omega arith)) ∙ ap (λ (r : List ℕ). get_or r m 0) l.inside ∙ filled.at m (omega arith) ∙ own_sum ws z a m first from))
          (λ ne.
          let h : 16 * b + m < 16 * a = omega arith in
          sym (get_or-take (16 * a) ys (16 * b + m) 0 h) ∙ ap (λ (r : List ℕ). get_or r (16 * b + m) 0) (l.earlier 0 (16 * a) (omega arith))
          ∙ get_or-take (16 * a) xs (16 * b + m) 0 h ∙ done.at b m (omega arith) hm);
    }

-- The span that a table holds for an activity on a machine.
pub span_at_lem : (p : Problem) (table : List ℕ) (a m : ℕ) → Tabled p table → a < 128 → m < 16 → a < p.n → m < p.machines
    → get_or table (4739 + 16 * a + m) 0 ≡ own_span p a m
span_at_lem p table a m t few most ha hm =
    let q : 4739 + 16 * a + m ≡ 4739 + (16 * a + m) = omega arith in
    ap (λ (i : ℕ). get_or table i 0) q ∙ sym (region_at table 4739 2048 (16 * a + m) (omega arith)) ∙ t.spanned a m ha hm
