-- The part of a list between two offsets, in the table itself.
use Prim.Native.Nat.{ℕ, zero, suc, ◌+◌, ◌-◌, ◌≤◌, ◌<◌}
use mathlib.Core.Path.{◌≡◌, refl, sym, ap, ap₂, ◌∙◌}
use mathlib.Core.List.{List, [], ◌∷◌}
use native.Mathlib.Omega.{arith}
use lib.ListN.{length, get_or, take, drop, length-take}
use lib.Seq.{get_or-take, get_or-drop, drop-drop}
use Rattle.tables.specs.Regions.{region}
use Rattle.tables.specs.Tabled.{Listed}

-- A part of a front part is a part of the whole.
part_of_front : (size from count : ℕ) (l : List ℕ) → from + count ≤ size → take count (drop from (take size l)) ≡ take count (drop from l)
part_of_front size zero zero l h = refl
part_of_front zero zero (suc count) l h = absurd (omega arith)
part_of_front (suc size) zero (suc count) [] h = refl
part_of_front (suc size) zero (suc count) (x ∷ l) h = ap (λ (r : List ℕ). x ∷ r) (part_of_front size zero count l (omega arith))
part_of_front zero (suc from) count l h = absurd (omega arith)
part_of_front (suc size) (suc from) count [] h = refl
part_of_front (suc size) (suc from) count (x ∷ l) h = part_of_front size from count l (omega arith)

pub region_most : (table : List ℕ) (base size : ℕ) → length (region table base size) ≤ size
region_most table base size = omega (arith, length-take size (drop base table))

module _ (table : List ℕ) (offsets list size : ℕ) where
  offset_at : (a : ℕ) → a < 129 → get_or (region table offsets 129) a 0 ≡ get_or table (offsets + a) 0
  offset_at a h = get_or-take 129 (drop offsets table) a 0 h ∙ get_or-drop offsets table a 0

  module _ {n : ℕ} {f : ℕ → List ℕ} (l : Listed n f (region table offsets 129) (region table list size)) (a : ℕ) (h : a < n) (few : n ≤ 128)
      (fits : length (region table list size) ≤ size) where
    first : get_or (region table offsets 129) a 0 ≡ get_or table (offsets + a) 0
    first = offset_at a (omega arith)

    next : get_or (region table offsets 129) (a + 1) 0 ≡ get_or table (offsets + a + 1) 0
    next = let e : offsets + (a + 1) ≡ offsets + a + 1 = omega arith in offset_at (a + 1) (omega arith) ∙ ap (λ (i : ℕ). get_or table i 0) e

    pub offsets_rise : get_or table (offsets + a) 0 ≤ get_or table (offsets + a + 1) 0
    offsets_rise = omega (arith, l.rising a h, first, next)

    pub offsets_within : get_or table (offsets + a + 1) 0 ≤ size
    offsets_within = omega (arith, l.within (a + 1) (omega arith), next)

    -- what the code takes is the activity's own list
    pub numbers_are : take (list + get_or table (offsets + a + 1) 0 - (list + get_or table (offsets + a) 0)) (drop (list + get_or table (offsets + a) 0) table) ≡ f a
    numbers_are =
        let x = get_or table (offsets + a) 0 in
        let y = get_or table (offsets + a + 1) 0 in
        let e : list + y - (list + x) ≡ y - x = omega arith in
        let r = offsets_rise in
        let s = offsets_within in
        rw e (ap (λ (d : List ℕ). take (y - x) d) (sym (drop-drop x list table))
        ∙ sym (part_of_front size x (y - x) (drop list table) (omega arith))
        ∙ ap₂ (λ (i j : ℕ). take (j - i) (drop i (region table list size))) (sym first) (sym next)
        ∙ l.parts a h)
