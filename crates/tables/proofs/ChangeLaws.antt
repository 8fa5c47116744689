-- Laws of the table of Setups entries: of the entries for one triple, the one put last stays.
use Rattle.std.specs.Prelude.{None, Some, Option}
use Prim.Native.Nat.{ℕ, suc, ◌+◌, ◌*◌, ◌-◌, ◌≤◌, ◌<◌}
use mathlib.Core.List.{List}
use mathlib.Core.Path.{◌≡◌, refl, sym, ap, ap₂, ◌∙◌, subst}
use mathlib.Core.Bool.{Bool, true, false, cond, ◌&&◌}
use native.Mathlib.Omega.{arith}
use lib.ListN.{length, get_or, set}
use lib.Seq.{get_or-set_same, get_or-set_other}
use lib.Dec.{eqb}
use borrow.Author.Tests.{eqb-true, eqb-false}
use Rattle.plan.specs.Input.{change_from, count}
use Rattle.plan.specs.Problem.{Problem}
use Rattle.plan.specs.declared.Layout.{Layout}
use Rattle.plan.specs.Found.{Placed}
use Rattle.tables.specs.Columns.{cell_of, change_put, Coded}
use Rattle.tables.specs.Tabled.{change_code, Tabled}
use Rattle.tables.specs.Entries.{Entries}
use Rattle.tables.proofs.RegionLaws.{region_at}

-- The same number put into the same cell.
pub set_same : (list : List ℕ) (i j x y : ℕ) → i ≡ j → x ≡ y → set list i x ≡ set list j y
set_same list i j x y e f = ap₂ (λ (k v : ℕ). set list k v) e f

-- No two triples share a cell.
cell_apart : (m b c m' b' c' : ℕ) → b < 9 → c < 8 → b' < 9 → c' < 8 → cell_of m b c ≡ cell_of m' b' c' → (m ≡ m') × (b ≡ b') × (c ≡ c')
cell_apart m b c m' b' c' hb hc hb' hc' e = (omega arith, omega arith, omega arith)

module _ {ws : List ℕ} {n at : ℕ} {list : List ℕ} (k : Coded ws n (at + 4) list) (long : length list ≡ 1152) (hm : get_or ws at 0 < 16) (hb : get_or ws (at + 1) 0 < 9)
    (hc : get_or ws (at + 2) 0 < 8) where
  pub coded_more : Coded ws (suc n) at (change_put ws at list)
  unfolding change_from
  coded_more = record { codes = λ m b c im ib ic. go m b c im ib ic (eqb (get_or ws at 0) m) refl (eqb (get_or ws (at + 1) 0) b) refl (eqb (get_or ws (at + 2) 0) c) refl }
    where
      own : ℕ
      own = cell_of (get_or ws at 0) (get_or ws (at + 1) 0) (get_or ws (at + 2) 0)

      other : (m b c : ℕ) → m < 16 → b < 9 → c < 8 → (cell_of m b c ≡ own → ⊥)
          → get_or (change_put ws at list) (cell_of m b c) 0 ≡ change_code (change_from ws n (at + 4) m b c)
      other m b c im ib ic ne = get_or-set_other list own (cell_of m b c) (get_or ws (at + 3) 0 + 1) 0 ne ∙ k.codes m b c im ib ic

      go : (m b c : ℕ) → m < 16 → b < 9 → c < 8 → (x : Bool) → eqb (get_or ws at 0) m ≡ x → (y : Bool) → eqb (get_or ws (at + 1) 0) b ≡ y → (w : Bool)
          → eqb (get_or ws (at + 2) 0) c ≡ w → get_or (change_put ws at list) (cell_of m b c) 0 ≡ change_code (cond (x && (y && w)) (Some (get_or ws (at + 3) 0)) (change_from ws n (at + 4) m b c))
      go m b c im ib ic true ex true ey true ew =
          let q : cell_of m b c ≡ own = omega (arith, eqb-true (get_or ws at 0) m ex, eqb-true (get_or ws (at + 1) 0) b ey, eqb-true (get_or ws (at + 2) 0) c ew) in
          ap (λ (i : ℕ). get_or (change_put ws at list) i 0) q ∙ get_or-set_same list own (get_or ws (at + 3) 0 + 1) 0 (omega arith)
      go m b c im ib ic true ex true ey false ew =
          other m b c im ib ic (λ e. eqb-false _ _ ew (sym (cell_apart m b c (get_or ws at 0) (get_or ws (at + 1) 0) (get_or ws (at + 2) 0) ib ic hb hc e).2))
      go m b c im ib ic true ex false ey w ew =
          other m b c im ib ic (λ e. eqb-false _ _ ey (sym (cell_apart m b c (get_or ws at 0) (get_or ws (at + 1) 0) (get_or ws (at + 2) 0) ib ic hb hc e).1))
      go m b c im ib ic false ex y ey w ew =
          other m b c im ib ic (λ e. eqb-false _ _ ex (sym (cell_apart m b c (get_or ws at 0) (get_or ws (at + 1) 0) (get_or ws (at + 2) 0) ib ic hb hc e).0))

-- ---- the turns from the last entry to the first

-- No entry is put, and every cell is 0.
pub coded_begin : (ws : List ℕ) (k at : ℕ) (list : List ℕ) → k ≡ 0 → ((i : ℕ) → get_or list i 0 ≡ 0) → Coded ws k at list
unfolding change_from
coded_begin ws k at list e q =
    let none_put : Coded ws 0 at list = record { codes = λ m b c h i j. q (cell_of m b c) } in
    subst (λ (n : ℕ). Coded ws n at list) (sym e) none_put

-- The entry's words are in range.
pub change_asks : (ws : List ℕ) (z : Layout) → Placed z → Entries ws z → (e from : ℕ) → e < count ws z z.at.setups → from ≡ z.at.setups + 1 + 4 * e
    → (get_or ws from 0 < 16) × (get_or ws (from + 1) 0 < 9) × (get_or ws (from + 2) 0 < 8)
change_asks ws z p h e from l q =
    let m : z.at.setups + 1 + 4 * e + 0 ≡ from = omega arith in
    let b : z.at.setups + 1 + 4 * e + 1 ≡ from + 1 = omega arith in
    let c : z.at.setups + 1 + 4 * e + 2 ≡ from + 2 = omega arith in (
      omega (arith, ap (λ (i : ℕ). get_or ws i 0) m, h.setup_machine e l, p.machines),
      omega (arith, ap (λ (i : ℕ). get_or ws i 0) b, h.setup_previous e l),
      omega (arith, ap (λ (i : ℕ). get_or ws i 0) c, h.setup_category e l),
    )

-- One entry more is put.
pub coded_turn : (ws : List ℕ) (all e at : ℕ) {list after : List ℕ} → Coded ws (all - e) (at + 1 + 4 * e) list → 0 < e → e ≤ all → length list ≡ 1152
    → (get_or ws (at + 1 + 4 * (e - 1)) 0 < 16) × (get_or ws (at + 1 + 4 * (e - 1) + 1) 0 < 9) × (get_or ws (at + 1 + 4 * (e - 1) + 2) 0 < 8)
    → after ≡ change_put ws (at + 1 + 4 * (e - 1)) list → Coded ws (all - (e - 1)) (at + 1 + 4 * (e - 1)) after
coded_turn ws all e at {list} {after} k pos most long asks q =
    let from : at + 1 + 4 * e ≡ at + 1 + 4 * (e - 1) + 4 = omega arith in
    let more : suc (all - e) ≡ all - (e - 1) = omega arith in
    let h : Coded ws (all - e) (at + 1 + 4 * (e - 1) + 4) list = subst (λ (i : ℕ). Coded ws (all - e) i list) from k in
    subst (λ (l : List ℕ). Coded ws (all - (e - 1)) (at + 1 + 4 * (e - 1)) l) (sym q)
    (subst (λ (n : ℕ). Coded ws n (at + 1 + 4 * (e - 1)) (change_put ws (at + 1 + 4 * (e - 1)) list)) more
    (coded_more h long asks.0 asks.1 asks.2))

-- ---- what a code says

pub own_of : (o : Option ℕ) (x : ℕ) → x ≡ change_code o → x ≡ 0 → None ≡ o
own_of None x e z = refl
own_of (Some y) x e z = absurd (omega arith)

pub change_to : (o : Option ℕ) (x : ℕ) → x ≡ change_code o → (x ≡ 0 → ⊥) → Some (x - 1) ≡ o
change_to None x e z = absurd (z e)
change_to (Some y) x e z = ap Some (omega arith)

-- The code that a table holds for a triple.
pub code_at : (p : Problem) (table : List ℕ) (m before own : ℕ) → Tabled p table → m < 16 → before < 9 → own < 8
    → get_or table (3587 + 72 * m + 8 * before + own) 0 ≡ change_code (p.change m before own)
code_at p table m before own t hm hb ho =
    let q : 3587 + 72 * m + 8 * before + own ≡ 3587 + cell_of m before own = omega arith in
    ap (λ (i : ℕ). get_or table i 0) q ∙ sym (region_at table 3587 1152 (cell_of m before own) (omega arith)) ∙ t.changed m before own hm hb ho
