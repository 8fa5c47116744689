-- Along an order that is in turn: what an activity waits for stands before it.
use Prim.Native.Nat.{ℕ, zero, suc, ◌+◌, ◌≤◌, ◌<◌}
use mathlib.Core.Path.{◌≡◌, refl, sym, ap, ◌∙◌}
use mathlib.Core.List.{List, [], ◌∷◌}
use native.Mathlib.Omega.{arith}
use native.Mathlib.Numerals.{add-one}
use lib.ListN.{length, get_or, take}
use Rattle.graph.specs.Counting.{count_of, hit}
use Rattle.graph.specs.Order.{InTurn}
use Rattle.graph.proofs.CountingLaws.{hit-eq, hit-ne, either}

-- What the i-th waits for is among the first i, or was there before.
turn_at : (n : ℕ) (R : ℕ → ℕ → Type 0) (d o : List ℕ) → InTurn n R d o → (i : ℕ) → i < length o → (q : ℕ) → R q (get_or o i 0) → 0 < count_of q (take i o) + count_of q d
unfolding InTurn count_of
turn_at n R d [] t i h q r = absurd (omega arith)
turn_at n R d (a ∷ o) t zero h q r = omega (arith, t.2 q r)
turn_at n R d (a ∷ o) t (suc i) h q r = omega (arith, turn_at n R (a ∷ d) o t.3 i (omega arith) q r)

pub waited_for : (n : ℕ) (R : ℕ → ℕ → Type 0) (o : List ℕ) → InTurn n R [] o → (i : ℕ) → i < length o → (q : ℕ) → R q (get_or o i 0) → 0 < count_of q (take i o)
unfolding count_of
waited_for n R o t i h q r = omega (arith, turn_at n R [] o t i h q r)

-- Of the first i + 1 one is the last of them, and the others are the first i.
pub count_next : (o : List ℕ) (i a : ℕ) → i < length o → count_of a (take (suc i) o) ≡ count_of a (take i o) + hit (get_or o i 0) a
unfolding count_of
count_next [] i a h = absurd (omega arith)
count_next (x ∷ o) zero a h = omega arith
count_next (x ∷ o) (suc i) a h = omega (arith, count_next o i a (omega arith))

pub next_or_before : {A : Type 0} (o : List ℕ) (i a : ℕ) → i < length o → 0 < count_of a (take (i + 1) o) → (get_or o i 0 ≡ a → A) → (0 < count_of a (take i o) → (get_or o i 0 ≡ a → ⊥) → A) → A
next_or_before o i a h k this those =
    let e : count_of a (take (i + 1) o) ≡ count_of a (take (suc i) o) = ap (λ (j : ℕ). count_of a (take j o)) (add-one i) in
    either (get_or o i 0) a this (λ ne. those (omega (arith, e, count_next o i a h, hit-ne (get_or o i 0) a ne)) ne)
