-- The whole table, once its parts were lent and filled.
use Prim.Native.Nat.{ℕ, ◌+◌, ◌*◌, ◌≤◌, ◌<◌}
use mathlib.Core.Path.{◌≡◌, sym, ap, ◌∙◌, subst}
use mathlib.Core.List.{List}
use native.Mathlib.Omega.{arith}
use lib.ListN.{length, get_or, take, drop}
use Rattle.plan.specs.Problem.{Problem}
use Rattle.plan.specs.Input.{problem_of, count}
use Rattle.plan.specs.declared.Layout.{Layout}
use Rattle.tables.specs.Tabled.{next_of, waits_of, change_code, own_span, Listed, Tabled}
use Rattle.tables.specs.Regions.{region, cells}
use Rattle.tables.specs.Columns.{Filled, Coded, Spanned, cell_of}
use Rattle.tables.specs.Parts.{Activities, Namings, Steps}
use Rattle.tables.proofs.RegionLaws.{laid, lent, nested, rest_is}

pub steps_laid : (p : Problem) (xs os ns : List ℕ) → length xs ≡ 1410 → length os ≡ length (region xs 0 512) → length ns ≡ length (region (laid 0 512 xs os) 512 898)
    → Activities p os → Namings p ns → Steps p (laid 512 898 (laid 0 512 xs os) ns)
steps_laid p xs os ns long os_kept ns_kept a n =
    let x1 = laid 0 512 xs os in
    let l1 = lent 0 512 xs os (omega arith) os_kept in
    let l2 = lent 512 898 x1 ns (omega (arith, l1.whole)) ns_kept in
    record {
      activities = subst (λ (l : List ℕ). Activities p l) (sym (l2.earlier 0 512 (omega arith) ∙ l1.inside)) a;
      namings = subst (λ (l : List ℕ). Namings p l) (sym l2.inside) n;
    }

-- The regions of the table are those of its parts.
module _ (p : Problem) (table steps able : List ℕ) (first : region table 0 1410 ≡ steps) (second : region table 1410 2177 ≡ able) where
  as_is : region table 0 512 ≡ region steps 0 512
  as_is = sym (nested table steps 0 1410 0 512 0 first (omega arith) (omega arith))

  ns_is : region table 512 898 ≡ region steps 512 898
  ns_is = sym (nested table steps 0 1410 512 898 512 first (omega arith) (omega arith))

  in_activities : (b : ℕ) → b + 128 ≤ 512 → region (region steps 0 512) b 128 ≡ region table b 128
  in_activities b h = nested table (region steps 0 512) 0 512 b 128 b as_is h (omega arith)

  in_namings : (b n c : ℕ) → b + n ≤ 898 → 512 + b ≡ c → region (region steps 512 898) b n ≡ region table c n
  in_namings b n c h e = nested table (region steps 512 898) 512 898 b n c ns_is h e

  pub tabled_parts : length table ≡ cells → Steps p steps → length able ≡ 2177 → Listed p.n p.candidates (take 129 able) (drop 129 able)
      → ((m before own : ℕ) → m < 16 → before < 9 → own < 8 → get_or (region table 3587 1152) (cell_of m before own) 0 ≡ change_code (p.change m before own))
      → ((a m : ℕ) → a < p.n → m < p.machines → get_or (region table 4739 2048) (16 * a + m) 0 ≡ own_span p a m)
      → Tabled p table
  tabled_parts sized s long c changed spanned =
      record {
        sized = sized;
        owned = (subst (λ (l : List ℕ). Filled p.n p.task_of l) (in_activities 0 (omega arith)) s.activities.owned).at;
        followed = (subst (λ (l : List ℕ). Filled p.n (next_of p) l) (in_activities 128 (omega arith)) s.activities.followed).at;
        released = (subst (λ (l : List ℕ). Filled p.n p.release l) (in_activities 256 (omega arith)) s.activities.released).at;
        sorted = (subst (λ (l : List ℕ). Filled p.n (λ a. p.category (p.task_of a)) l) (in_activities 384 (omega arith)) s.activities.sorted).at;
        waiting_for = (subst (λ (l : List ℕ). Filled p.n (waits_of p) l) (in_namings 0 128 512 (omega arith) (omega arith)) s.namings.waiting_for).at;
        naming =
            subst (λ (l : List ℕ). Listed p.n p.predecessors l (region table 769 256)) (in_namings 128 129 640 (omega arith) (omega arith))
            (subst (λ (l : List ℕ). Listed p.n p.predecessors (region (region steps 512 898) 128 129) l) (in_namings 257 256 769 (omega arith) (omega arith)) s.namings.naming);
        named_by =
            subst (λ (l : List ℕ). Listed p.n p.waiting l (region table 1154 256)) (in_namings 513 129 1025 (omega arith) (omega arith))
            (subst (λ (l : List ℕ). Listed p.n p.waiting (region (region steps 512 898) 513 129) l) (in_namings 642 256 1154 (omega arith) (omega arith)) s.namings.named_by);
        able =
            subst (λ (l : List ℕ). Listed p.n p.candidates l (region table 1539 2048)) (nested table able 1410 2177 0 129 1410 second (omega arith) (omega arith))
            (subst (λ (l : List ℕ). Listed p.n p.candidates (take 129 able) l)
            (sym (rest_is able 129 2048 (omega arith)) ∙ nested table able 1410 2177 129 2048 1539 second (omega arith) (omega arith)) c);
        changed = changed;
        spanned = spanned;
      }

pub tabled_laid : (ws : List ℕ) (z : Layout) (xs steps able changes spans : List ℕ) → length xs ≡ cells → length steps ≡ length (region xs 0 1410)
    → length able ≡ length (region (laid 0 1410 xs steps) 1410 2177) → length changes ≡ length (region (laid 1410 2177 (laid 0 1410 xs steps) able) 3587 1152)
    → length spans ≡ length (region (laid 3587 1152 (laid 1410 2177 (laid 0 1410 xs steps) able) changes) 4739 2048)
    → Steps (problem_of ws z) steps → Listed z.activities (problem_of ws z).candidates (take 129 able) (drop 129 able)
    → Coded ws (count ws z z.at.setups) (z.at.setups + 1) changes → Spanned (problem_of ws z) z.activities spans
    → Tabled (problem_of ws z) (laid 4739 2048 (laid 3587 1152 (laid 1410 2177 (laid 0 1410 xs steps) able) changes) spans)
tabled_laid ws z xs steps able changes spans long steps_kept able_kept changes_kept spans_kept s c k o =
    let x1 = laid 0 1410 xs steps in
    let x2 = laid 1410 2177 x1 able in
    let x3 = laid 3587 1152 x2 changes in
    let x4 = laid 4739 2048 x3 spans in
    let l1 = lent 0 1410 xs steps (omega arith) steps_kept in
    let l2 = lent 1410 2177 x1 able (omega (arith, l1.whole)) able_kept in
    let l3 = lent 3587 1152 x2 changes (omega (arith, l1.whole, l2.whole)) changes_kept in
    let l4 = lent 4739 2048 x3 spans (omega (arith, l1.whole, l2.whole, l3.whole)) spans_kept in
    tabled_parts (problem_of ws z) x4 steps able
    (l4.earlier 0 1410 (omega arith) ∙ l3.earlier 0 1410 (omega arith) ∙ l2.earlier 0 1410 (omega arith) ∙ l1.inside)
    (l4.earlier 1410 2177 (omega arith) ∙ l3.earlier 1410 2177 (omega arith) ∙ l2.inside)
    (l4.whole ∙ l3.whole ∙ l2.whole ∙ l1.whole ∙ long) s l2.part c
    (λ m b o hm hb ho.
    ap (λ (l : List ℕ). get_or l (cell_of m b o) 0) (l4.earlier 3587 1152 (omega arith) ∙ l3.inside) ∙ k.codes m b o hm hb ho)
    (λ a m ha hm. ap (λ (l : List ℕ). get_or l (16 * a + m) 0) l4.inside ∙ o.at a m ha hm)
