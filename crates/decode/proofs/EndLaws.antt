-- The ends that either decoder leaves can be reckoned with, and the sheet that is left is that of the decoder chosen.
use Prim.Native.Nat.{ℕ, ◌≤◌}
use mathlib.Core.Path.{◌≡◌, sym, ap, ◌∙◌, subst}
use mathlib.Core.List.{List}
use native.Mathlib.Omega.{arith}
use lib.ListN.{length, get_or, take}
use Rattle.graph.specs.Counting.{count_of}
use Rattle.graph.proofs.CountingLaws.{count_all, sum_to-le}
use Rattle.fitness.specs.Ended.{Ended}
use Rattle.genes.specs.Held.{Listed}
use Rattle.board.specs.Board.{Board}
use Rattle.board.specs.Sound.{Sound}
use Rattle.board.proofs.BoardLaws.{ends_within}
use Rattle.in_order.specs.Waiting.{Timed}

pub sheet_ended : {n : ℕ} {b : Board} → n ≤ 128 → Sound n b → {ends : List ℕ} → ends ≡ b.ends → Ended n ends
sheet_ended {n} {b} h s {ends} e =
    record {
      each = omega (arith, ap length e, s.sized.ends);
      bounded = λ a l. omega (arith, ap (λ (x : List ℕ). get_or x a 0) e, ends_within h s a);
    }

-- ---- the rows that are in use

pub few_rows : {n : ℕ} {b : Board} → Sound n b → length b.order ≤ n
few_rows {n} {b} s = omega (arith, count_all n b.order s.known, sum_to-le n (λ x. count_of x b.order) (λ x. omega (arith, s.once x, s.flags x)))

pub rows_there : {n : ℕ} (b : Board) {before after : List ℕ} {count : ℕ} → Listed b.order before after count → Sound n b → n ≤ length before → length after ≡ length before → count ≤ length after
rows_there b l s h e = omega (arith, l.whole, few_rows s, h, e)

pub rows_long : {list before after : List ℕ} {count : ℕ} → Listed list before after count → count ≡ length (take count after)
rows_long l = l.whole ∙ ap length (sym l.listed)

-- ---- which sheet it is

module _ {b b' : Board} (e : b' ≡ b) where
  pub listed_by : {before after : List ℕ} {count : ℕ} → Listed b.order before after count → Listed b'.order before after count
  listed_by {before} {after} {count} l = subst (λ (x : Board). Listed x.order before after count) (sym e) l

  pub timed_by : {starts ends setups : List ℕ} → Timed b starts ends setups → Timed b' starts ends setups
  timed_by {starts} {ends} {setups} t = subst (λ (x : Board). Timed x starts ends setups) (sym e) t
