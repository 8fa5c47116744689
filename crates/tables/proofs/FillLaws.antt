-- Laws of cells filled one after the other.
use Prim.Native.Nat.{ℕ, ◌+◌, ◌≤◌, ◌<◌}
use mathlib.Core.Path.{◌≡◌, sym, ◌∙◌, subst}
use mathlib.Core.List.{List}
use native.Mathlib.Omega.{arith}
use lib.Seq.{get_or-set_same, get_or-set_other, ext_get_or}
use lib.ListN.{length, get_or, set}
use Rattle.graph.proofs.CountingLaws.{either}
use Rattle.tables.specs.Columns.{Filled}

pub filled_none : {f : ℕ → ℕ} {list : List ℕ} → Filled 0 f list
filled_none = record { at = λ a h. absurd (omega arith) }

pub filled_more : {k x : ℕ} {f : ℕ → ℕ} {list : List ℕ} → Filled k f list → k < length list → x ≡ f k → Filled (k + 1) f (set list k x)
filled_more {k} {x} {f} {list} h l e =
    record {
      at = λ a i.
          either a k (λ q. subst (λ (b : ℕ). get_or (set list k x) b 0 ≡ f b) (sym q) (get_or-set_same list k x 0 l ∙ e))
          (λ ne. get_or-set_other list k a x 0 ne ∙ h.at a (omega arith));
    }

-- A list filled from another is that list.
pub filled_copy : (k : ℕ) (from to : List ℕ) → length to ≡ length from → length from ≤ k → Filled k (λ i. get_or from i 0) to → to ≡ from
filled_copy k from to e l h = ext_get_or 0 to from e (λ i b. h.at i (omega arith))
