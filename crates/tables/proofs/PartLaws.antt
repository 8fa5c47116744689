-- What the parts hold once their regions were lent and filled one after the other.
use Prim.Native.Nat.{ℕ, ◌+◌, ◌*◌, ◌-◌, ◌≤◌, ◌<◌}
use mathlib.Core.List.{List}
use mathlib.Core.Path.{◌≡◌, refl, sym, ap, ◌∙◌, subst}
use mathlib.Core.Bool.{Bool, true, false, cond}
use native.Mathlib.Omega.{arith}
use lib.Seq.{get_or-take, take-take}
use lib.Dec.{eqb, ltb}
use lib.ListN.{length, get_or, take, drop, get_or-eq_default}
use borrow.Author.Tests.{ltb-true, ltb-false}
use Rattle.graph.specs.Filing.{naming, Filed}
use Rattle.graph.specs.Counting.{bit, count_of, Below}
use Rattle.graph.specs.Tally.{tallied}
use Rattle.graph.proofs.NamingLaws.{tallied_at, naming-length}
use Rattle.plan.specs.Problem.{Problem}
use Rattle.plan.specs.declared.Layout.{Layout}
use Rattle.plan.specs.Input.{problem_of, task_of, count, cell}
use Rattle.tables.specs.Tabled.{next_of, Listed}
use Rattle.tables.specs.Parts.{Activities, Namings, Pairings}
use Rattle.tables.specs.Columns.{Filled, column, before_in, next_in}
use Rattle.tables.specs.Regions.{region}
use Rattle.tables.proofs.ColumnLaws.{column-length, column_below, seconds-naming, firsts-naming}
use Rattle.tables.proofs.TaskLaws.{next_is, before_is}
use Rattle.tables.proofs.RegionLaws.{laid, lent, region-length, nested, rest_is}

-- ---- an offset list

-- 129 offsets worked out apart, then put before the list.
pub filed_laid : {vs ks : List ℕ} (xs list offsets copied : List ℕ) → 129 ≤ length xs → length offsets ≡ 129
    → length list ≡ length (region xs 129 (length xs - 129)) → copied ≡ offsets → Filed vs ks offsets list
    → Filed vs ks (take 129 (laid 0 129 (laid 129 (length xs - 129) xs list) copied)) (drop 129 (laid 0 129 (laid 129 (length xs - 129) xs list) copied))
filed_laid {vs} {ks} xs list offsets copied room long same e f =
    let k = length xs - 129 in
    let one = laid 129 k xs list in
    let two = laid 0 129 one copied in
    let first = lent 129 k xs list (omega arith) same in
    let second = lent 0 129 one copied (omega (arith, first.whole)) (ap length e ∙ omega (arith, region-length one 0 129 (omega (arith, first.whole)))) in
    let here : take 129 two ≡ offsets = second.inside ∙ e in
    let there : drop 129 two ≡ list = sym (rest_is two 129 k (omega (arith, first.whole, second.whole))) ∙ second.later 129 k (omega arith) ∙ first.inside in
    subst (λ (l : List ℕ). Filed vs ks l (drop 129 two)) (sym here) (subst (λ (l : List ℕ). Filed vs ks offsets l) (sym there) f)

-- A filed list is the list of each activity.
pub listed_of : (n : ℕ) (f : ℕ → List ℕ) {vs ks at list : List ℕ} → Filed vs ks at list → length at ≡ 129 → n ≤ 128 → ((a : ℕ) → f a ≡ naming a vs ks)
    → Listed n f at list
listed_of n f d long few same =
    record {
      parts = λ a h. d.parts a (omega arith) ∙ sym (same a);
      rising = λ a h. d.rising a (omega arith);
      within = λ a h. d.within a (omega arith);
    }

-- ---- what each waits for

before_le : (os : List ℕ) (a : ℕ) → before_in os a ≤ 1
before_le os a = go (eqb a 0) (eqb (get_or os (a - 1) 0) (get_or os a 0))
  where
    go : (t s : Bool) → cond t 0 (bit s) ≤ 1
    go true s = omega arith
    go false true = omega arith
    go false false = omega arith

-- Cells that say whether a step comes before are small.
pub befores_small : (n : ℕ) (os list : List ℕ) → length list ≡ n → Filled n (before_in os) list → (x : ℕ) → get_or list x 0 ≤ 1
befores_small n os list e f x = go (ltb x n) refl
  where
    go : (t : Bool) → ltb x n ≡ t → get_or list x 0 ≤ 1
    go true q = omega (arith, f.at x (ltb-true x n q), before_le os x)
    go false q = let z : length list ≤ x = omega (arith, ltb-false x n q) in omega (arith, get_or-eq_default list 0 z)

pub waits_filled : (n : ℕ) (os acts list after : List ℕ) → length list ≡ n → Below (length list) acts → Filled n (before_in os) list → after ≡ tallied acts list
    → Filled n (λ a. before_in os a + count_of a acts) after
waits_filled n os acts list after e below f q =
    record { at = λ a h. ap (λ (l : List ℕ). get_or l a 0) q ∙ tallied_at acts list below a ∙ ap (λ (k : ℕ). k + count_of a acts) (f.at a h) }

-- ---- activities

module _ (p : Problem) (xs os fs rs cs : List ℕ) (long : length xs ≡ 512) (os_kept : length os ≡ length (region xs 0 128)) where
  pub activities_laid : length fs ≡ length (region (laid 0 128 xs os) 128 128) → length rs ≡ length (region (laid 128 128 (laid 0 128 xs os) fs) 256 128)
      → length cs ≡ length (region (laid 256 128 (laid 128 128 (laid 0 128 xs os) fs) rs) 384 128)
      → Filled p.n p.task_of os → Filled p.n (next_in os p.n) fs → Filled p.n p.release rs → Filled p.n (λ a. p.category (p.task_of a)) cs
      → Activities p (laid 384 128 (laid 256 128 (laid 128 128 (laid 0 128 xs os) fs) rs) cs)
  activities_laid fs_kept rs_kept cs_kept owned followed released sorted =
      let x1 = laid 0 128 xs os in
      let x2 = laid 128 128 x1 fs in
      let x3 = laid 256 128 x2 rs in
      let l1 = lent 0 128 xs os (omega arith) os_kept in
      let l2 = lent 128 128 x1 fs (omega (arith, l1.whole)) fs_kept in
      let l3 = lent 256 128 x2 rs (omega (arith, l1.whole, l2.whole)) rs_kept in
      let l4 = lent 384 128 x3 cs (omega (arith, l1.whole, l2.whole, l3.whole)) cs_kept in
      let o = l4.earlier 0 128 (omega arith) ∙ l3.earlier 0 128 (omega arith) ∙ l2.earlier 0 128 (omega arith) ∙ l1.inside in
      let f = l4.earlier 128 128 (omega arith) ∙ l3.earlier 128 128 (omega arith) ∙ l2.inside in
      let r = l4.earlier 256 128 (omega arith) ∙ l3.inside in
      record {
        owned = subst (λ (l : List ℕ). Filled p.n p.task_of l) (sym o) owned;
        followed = subst (λ (l : List ℕ). Filled p.n (next_of p) l) (sym f) (record { at = λ a h. followed.at a h ∙ next_is p owned a h });
        released = subst (λ (l : List ℕ). Filled p.n p.release l) (sym r) released;
        sorted = subst (λ (l : List ℕ). Filled p.n (λ a. p.category (p.task_of a)) l) (sym l4.inside) sorted;
      }

-- ---- namings

module _ (n k : ℕ) (os acts preds xs ws ns bs : List ℕ) (few : n ≤ 128) (exact : k ≡ n) (long : length xs ≡ 898) (ws_kept : length ws ≡ length (region xs 0 k)) where
  pub pairings_laid : length ns ≡ length (region (laid 0 k xs ws) 128 385) → length bs ≡ length (region (laid 128 385 (laid 0 k xs ws) ns) 513 385)
      → Filled (length (region xs 0 k)) (λ a. before_in os a + count_of a acts) ws → Filed preds acts (take 129 ns) (drop 129 ns) → Filed acts preds (take 129 bs) (drop 129 bs)
      → Pairings n os acts preds (laid 513 385 (laid 128 385 (laid 0 k xs ws) ns) bs)
  pairings_laid ns_kept bs_kept waits naming named_by =
      let x1 = laid 0 k xs ws in
      let x2 = laid 128 385 x1 ns in
      let x3 = laid 513 385 x2 bs in
      let l1 = lent 0 k xs ws (omega arith) ws_kept in
      let l2 = lent 128 385 x1 ns (omega (arith, l1.whole)) ns_kept in
      let l3 = lent 513 385 x2 bs (omega (arith, l1.whole, l2.whole)) bs_kept in
      let w : region x3 0 k ≡ ws = l3.earlier 0 k (omega arith) ∙ l2.earlier 0 k (omega arith) ∙ l1.inside in
      let s : region x3 128 385 ≡ ns = l3.earlier 128 385 (omega arith) ∙ l2.inside in
      let m = region-length xs 0 k (omega arith) in
      record {
        waits =
            record {
              at = λ a h.
                  sym (get_or-take k (region x3 0 128) a 0 (omega arith)) ∙ ap (λ (l : List ℕ). get_or l a 0) (take-take k 128 (drop 0 x3) (omega arith) ∙ w)
                  ∙ waits.at a (omega arith);
            };
        naming =
            subst (λ (l : List ℕ). Filed preds acts l (region x3 257 256)) (nested x3 ns 128 385 0 129 128 s (omega arith) (omega arith))
            (subst (λ (l : List ℕ). Filed preds acts (take 129 ns) l)
            (sym (rest_is ns 129 256 (omega (arith, l2.part))) ∙ nested x3 ns 128 385 129 256 257 s (omega arith) (omega arith)) naming);
        named_by =
            subst (λ (l : List ℕ). Filed acts preds l (region x3 642 256)) (nested x3 bs 513 385 0 129 513 l3.inside (omega arith) (omega arith))
            (subst (λ (l : List ℕ). Filed acts preds (take 129 bs) l)
            (sym (rest_is bs 129 256 (omega (arith, l3.part))) ∙ nested x3 bs 513 385 129 256 642 l3.inside (omega arith) (omega arith)) named_by);
      }

-- ---- from the columns of a section

-- A column of a section's pairs has words below a bound.
pub section_below : (ws : List ℕ) (most n at f from : ℕ) → from ≡ at + 1 + f → ((e : ℕ) → e < n → cell ws at 2 e f < most) → Below most (column ws n from)
section_below ws most n at f from s h =
    column_below ws most n from (λ e l.
    let q : at + 1 + 2 * e + f ≡ from + 2 * e = omega arith in
    subst (λ (i : ℕ). get_or ws i 0 < most) q (h e l))

module _ (ws : List ℕ) (z : Layout) (n : ℕ) (all : n ≡ count ws z z.at.predecessors) where
  pub namings_of : {os acts preds part : List ℕ} → z.activities ≤ 128 → length part ≡ 898 → Filled z.activities (task_of ws z) os
      → acts ≡ column ws n (z.at.predecessors + 1) → preds ≡ column ws n (z.at.predecessors + 2) → Pairings z.activities os acts preds part
      → Namings (problem_of ws z) part
  namings_of {os} {acts} {preds} {part} few long owned ea ep h =
      let at = z.at.predecessors in
      let named : (a : ℕ) → (problem_of ws z).predecessors a ≡ naming a preds acts = λ a.
      subst (λ (k : ℕ). (problem_of ws z).predecessors a ≡ naming a (column ws k (at + 2)) (column ws k (at + 1))) (sym all) (seconds-naming ws (count ws z at) at a)
      ∙ rw (← ea, ← ep) in
      let namers : (a : ℕ) → (problem_of ws z).waiting a ≡ naming a acts preds = λ a.
      subst (λ (k : ℕ). (problem_of ws z).waiting a ≡ naming a (column ws k (at + 1)) (column ws k (at + 2))) (sym all) (firsts-naming ws (count ws z at) at a)
      ∙ rw (← ea, ← ep) in
      let even : length preds ≡ length acts = ap length ep ∙ column-length ws n (at + 2) ∙ sym (column-length ws n (at + 1)) ∙ ap length (sym ea) in
      record {
        waiting_for =
            record {
              at = λ a l.
                  h.waits.at a l
                  ∙ omega (arith, before_is (problem_of ws z) owned a l, ap length (named a), naming-length a preds acts even);
            };
        naming = listed_of z.activities (problem_of ws z).predecessors h.naming (region-length part 128 129 (omega arith)) few named;
        named_by = listed_of z.activities (problem_of ws z).waiting h.named_by (region-length part 513 129 (omega arith)) few namers;
      }

-- The candidates of each activity.
pub candidates_of : (ws : List ℕ) (z : Layout) (n : ℕ) {acts machines at list : List ℕ} → n ≡ count ws z z.at.candidates → z.activities ≤ 128 → length at ≡ 129
    → acts ≡ column ws n (z.at.candidates + 1) → machines ≡ column ws n (z.at.candidates + 2) → Filed machines acts at list
    → Listed z.activities (problem_of ws z).candidates at list
candidates_of ws z n {acts} {machines} all few long ea em f =
    let at = z.at.candidates in
    listed_of z.activities (problem_of ws z).candidates f long few (λ a.
    subst (λ (k : ℕ). (problem_of ws z).candidates a ≡ naming a (column ws k (at + 2)) (column ws k (at + 1))) (sym all) (seconds-naming ws (count ws z at) at a)
    ∙ rw (← ea, ← em))
