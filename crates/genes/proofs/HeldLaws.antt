-- Laws of cells filled from the first on. Assumes nothing.
use Prim.Native.Nat.{ℕ, zero, suc, ◌+◌, ◌-◌, ◌≤◌, ◌<◌}
use mathlib.Core.Path.{◌≡◌, refl, sym, ap, ◌∙◌, subst}
use mathlib.Core.List.{List}
use native.Mathlib.Numerals.{add-one}
use native.Mathlib.Omega.{arith}
use lib.ListN.{length, get_or, set, length-set}
use lib.Seq.{get_or-set_same, get_or-set_other, get_or-take, ext_get_or}
use Rattle.graph.proofs.CountingLaws.{either}
use Rattle.genes.specs.Held.{filled_to, Listed}

pub filled_none : (f : ℕ → ℕ) (cells : List ℕ) → cells ≡ filled_to f 0 cells
unfolding filled_to
filled_none f cells = refl

pub filled_more : (f : ℕ → ℕ) (k x : ℕ) (cells : List ℕ) {filled : List ℕ} → filled ≡ filled_to f k cells → x ≡ f k → set filled k x ≡ filled_to f (k + 1) cells
unfolding filled_to
filled_more f k x cells e q = rw (add-one, e, q)

pub filled_length : (f : ℕ → ℕ) (k : ℕ) (cells : List ℕ) → length (filled_to f k cells) ≡ length cells
unfolding filled_to
filled_length f zero cells = refl
filled_length f (suc k) cells = length-set (filled_to f k cells) k (f k) ∙ filled_length f k cells

pub filled_at : (f : ℕ → ℕ) (k : ℕ) (cells : List ℕ) (i : ℕ) → k ≤ length cells → i < k → get_or (filled_to f k cells) i 0 ≡ f i
unfolding filled_to
filled_at f zero cells i l h = absurd (omega arith)
filled_at f (suc k) cells i l h =
    either i k
    (λ e. subst (λ (j : ℕ). get_or (set (filled_to f k cells) k (f k)) j 0 ≡ f j) (sym e) (get_or-set_same (filled_to f k cells) k (f k) 0 (omega (arith, filled_length f k cells))))
    (λ ne. get_or-set_other (filled_to f k cells) k i (f k) 0 ne ∙ filled_at f k cells i (omega arith) (omega arith))

pub filled_kept : (f : ℕ → ℕ) (k : ℕ) (cells : List ℕ) (i : ℕ) → k ≤ i → get_or (filled_to f k cells) i 0 ≡ get_or cells i 0
unfolding filled_to
filled_kept f zero cells i h = refl
filled_kept f (suc k) cells i h =
    get_or-set_other (filled_to f k cells) k i (f k) 0 (λ e. absurd (omega arith)) ∙ filled_kept f k cells i (omega arith)

-- ---- one content

-- cells that hold a list, others kept, can only be these
pub listed_only : (list before one other : List ℕ) (m n : ℕ) → length one ≡ length other → Listed list before one m → Listed list before other n → (m ≡ n) × (one ≡ other)
listed_only list before one other m n e v w =
    let q : m ≡ n = omega (arith, v.whole, w.whole) in
    (q, ext_get_or 0 one other e (λ i h. either (m - i) 0 (λ l. v.kept i (omega arith) ∙ sym (w.kept i (omega arith))) (λ l. cell v i (omega arith) ∙ sym (cell w i (omega arith)))))
  where
    cell : {after : List ℕ} {k : ℕ} → Listed list before after k → (i : ℕ) → i < k → get_or after i 0 ≡ get_or list i 0
    cell {after} {k} u i h = sym (get_or-take k after i 0 h) ∙ ap (λ (l : List ℕ). get_or l i 0) u.listed
