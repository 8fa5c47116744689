-- Who stands next to whom on a line, and on a line that one was taken out of or put into. Assumes nothing.
use Rattle.std.specs.Prelude.{Some}
use Prim.Native.Nat.{ℕ, zero, suc, ◌+◌, ◌≤◌, ◌<◌}
use mathlib.Core.Path.{◌≡◌, refl}
use mathlib.Core.Bool.{Bool, true, false, cond}
use mathlib.Core.List.{List, [], ◌∷◌}
use native.Mathlib.Omega.{arith}
use borrow.Author.Tests.{eq-eqb, ne_eqb}
use lib.ListN.{length, get_or}
use Rattle.graph.specs.Counting.{count_of, hit}
use Rattle.graph.specs.Filing.{naming}
use Rattle.graph.proofs.CountingLaws.{either, hit-eq, hit-ne, count_of-append}
use Rattle.lines.specs.Lines.{Lines, rest, befores, first_of, line_pred}
use Rattle.moves.specs.Moves.{line_of, remove_at, insert_at}
use Rattle.reassign.specs.Reassignments.{leading}

-- ---- neighbours

-- b stands at a place, and a at the next
pub record Next (l : List ℕ) (b a : ℕ) : Type 0 where
  pub at : ℕ
  pub within : suc at < length l
  pub first : get_or l at 0 ≡ b
  pub second : get_or l (suc at) 0 ≡ a

next_on : (x : ℕ) (l : List ℕ) (b a : ℕ) → Next l b a → Next (x ∷ l) b a
next_on x l b a n = record { at = suc n.at; within = omega (arith, n.within); first = n.first; second = n.second }

names_next : (l : List ℕ) (b a : ℕ) → 0 < count_of b (naming a l (rest l)) → Next l b a
unfolding naming count_of
names_next [] b a h = absurd (omega arith)
names_next (x ∷ []) b a h = absurd (omega arith)
names_next (x ∷ y ∷ l) b a h =
    either y a
    (λ e.
    let k : 0 < hit x b + count_of b (naming a (y ∷ l) l) = rw (eq-eqb y a e) at h in
    either x b (λ q. record { at = 0; within = omega arith; first = q; second = e })
    (λ ne. next_on x (y ∷ l) b a (names_next (y ∷ l) b a (omega (arith, k, hit-ne x b ne)))))
    (λ ne. next_on x (y ∷ l) b a (names_next (y ∷ l) b a (rw (ne_eqb y a ne) at h)))

befores_line : (lines : Lines) (b a : ℕ) → 0 < count_of b (befores lines a) → (m : ℕ) × (0 < count_of b (naming a (line_of lines m) (rest (line_of lines m))))
unfolding befores count_of
befores_line [] b a h = absurd (omega arith)
befores_line (l ∷ lines) b a h =
    either (count_of b (naming a l (rest l))) 0
    (λ z. let d = befores_line lines b a (omega (arith, h, count_of-append b (naming a l (rest l)) (befores lines a), z)) in (suc d.0, d.1))
    (λ nz. (0, omega (arith, nz)))

first-counts : (l : List ℕ) (b : ℕ) → first_of l ≡ Some b → 0 < count_of b l
unfolding count_of
first-counts [] b e = let z : ◌≡◌ {A = ℕ} 0 1 = cc in absurd (omega arith)
first-counts (x ∷ l) b e = let q : x ≡ b = cc in omega (arith, hit-eq x b q)

-- a line predecessor stands before on some line
pub pred_next : (lines : Lines) (b a : ℕ) → line_pred lines a ≡ Some b → (m : ℕ) × Next (line_of lines m) b a
pred_next lines b a e =
    let d = befores_line lines b a (first-counts (befores lines a) b e) in
    (d.0, names_next (line_of lines d.0) b a d.1)

-- ---- taken out, put in

pub removed_before : (l : List ℕ) (i k : ℕ) → k < i → get_or (remove_at l i) k 0 ≡ get_or l k 0
removed_before [] i k h = refl
removed_before (x ∷ l) zero k h = absurd (omega arith)
removed_before (x ∷ l) (suc i) zero h = refl
removed_before (x ∷ l) (suc i) (suc k) h = removed_before l i k (omega arith)

pub removed_behind : (l : List ℕ) (i k : ℕ) → i ≤ k → get_or (remove_at l i) k 0 ≡ get_or l (suc k) 0
removed_behind [] i k h = refl
removed_behind (x ∷ l) zero k h = refl
removed_behind (x ∷ l) (suc i) zero h = absurd (omega arith)
removed_behind (x ∷ l) (suc i) (suc k) h = removed_behind l i k (omega arith)

pub inserted_before : (l : List ℕ) (j a k : ℕ) → k < j → j ≤ length l → get_or (insert_at l j a) k 0 ≡ get_or l k 0
inserted_before l zero a k h w = absurd (omega arith)
inserted_before [] (suc j) a k h w = absurd (omega arith)
inserted_before (x ∷ l) (suc j) a zero h w = refl
inserted_before (x ∷ l) (suc j) a (suc k) h w = inserted_before l j a k (omega arith) (omega arith)

pub inserted_behind : (l : List ℕ) (j a k : ℕ) → j ≤ k → j ≤ length l → get_or (insert_at l j a) (suc k) 0 ≡ get_or l k 0
inserted_behind l zero a k h w = refl
inserted_behind [] (suc j) a k h w = absurd (omega arith)
inserted_behind (x ∷ l) (suc j) a zero h w = absurd (omega arith)
inserted_behind (x ∷ l) (suc j) a (suc k) h w = inserted_behind l j a k (omega arith) (omega arith)

-- ---- those that lead a line

pub leading_pass : (test : ℕ → Bool) (l : List ℕ) (k : ℕ) → k < leading test l → test (get_or l k 0) ≡ true
unfolding leading
leading_pass test [] k h = absurd (omega arith)
leading_pass test (x ∷ l) k h = by (test x) refl k h (λ j g. leading_pass test l j g)
  where
    by : (t : Bool) → test x ≡ t → (k : ℕ) → k < cond t (suc (leading test l)) 0 → ((j : ℕ) → j < leading test l → test (get_or l j 0) ≡ true) → test (get_or (x ∷ l) k 0) ≡ true
    by true e zero h deeper = e
    by true e (suc k) h deeper = deeper k (omega arith)
    by false e k h deeper = absurd (omega arith)

pub leading_stops : (test : ℕ → Bool) (l : List ℕ) → leading test l < length l → test (get_or l (leading test l) 0) ≡ false
unfolding leading
leading_stops test [] h = absurd (omega arith)
leading_stops test (x ∷ l) h = by (test x) refl h (λ g. leading_stops test l g)
  where
    by : (t : Bool) → test x ≡ t → cond t (suc (leading test l)) 0 < suc (length l) → (leading test l < length l → test (get_or l (leading test l) 0) ≡ false)
        → test (get_or (x ∷ l) (cond t (suc (leading test l)) 0) 0) ≡ false
    by true e h deeper = deeper (omega arith)
    by false e h deeper = e
