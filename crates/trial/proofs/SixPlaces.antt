-- Six places are enough: they list what a list of every entry would list, at each step. Assumes nothing.
use Rattle.std.specs.Prelude.{None, Option, Some}
use Prim.Native.Nat.{ℕ, zero, suc, ◌+◌, ◌%◌, ◌≤◌, ◌<◌}
use mathlib.Core.Path.{◌≡◌, refl, sym, ap, ◌∙◌}
use mathlib.Core.Bool.{Bool, true, false, ◌&&◌, ◌||◌}
use mathlib.Core.List.{List, [], ◌∷◌}
use mathlib.Core.Logic.{◌⊎◌, inl, inr, ⊎_elim}
use native.Mathlib.Omega.{arith}
use borrow.Author.Tests.{le-ltb}
use lib.Dec.{eqb}
use lib.ListN.{length, get_or, set, length-set}
use lib.Seq.{get_or-set_same, get_or-set_other}
use Rattle.graph.proofs.CountingLaws.{either}
use Rattle.lines.specs.Lines.{Lines}
use Rattle.moves.specs.declared.Move.{Move}
use Rattle.moves.specs.declared.Move.TheVariants.{Swap, Shift, Reassign}
use Rattle.moves.specs.declared.Pairing.{Pairing}
use Rattle.moves.specs.Moves.{pair_of}
use Rattle.trial.specs.declared.Taboo.{Taboo}
use Rattle.trial.specs.Taboo.{entry, outdated, fresh, names, listed, either_way, listing, forbidden, pairs_after, left_after}
use Rattle.trial.specs.History.{pair_made, left_made, six_places, all_entries}

-- ---- an outdated place used again

module _ (step x y : ℕ) where
  names_not : (t : Taboo) → t.until ≤ step → names step t x y ≡ false
  names_not t h = ap (λ (b : Bool). b && (eqb t.first x && eqb t.second y)) (le-ltb step t.until h)

  turned : (a b c : Bool) → (a || (b || c)) ≡ (b || (a || c))
  turned true true c = refl
  turned true false c = refl
  turned false true c = refl
  turned false false c = refl

  listed-set : (places : List Taboo) (i : ℕ) (t : Taboo) → i < length places → (get_or places i outdated).until ≤ step
      → listed step (set places i t) x y ≡ (names step t x y || listed step places x y)
  unfolding listed
  listed-set [] i t h o = absurd (omega arith)
  listed-set (u ∷ places) zero t h o = ap (λ (b : Bool). names step t x y || (b || listed step places x y)) (sym (names_not u o))
  listed-set (u ∷ places) (suc i) t h o =
      ap (λ (b : Bool). names step u x y || b) (listed-set places i t (omega arith) o) ∙ turned (names step u x y) (names step t x y) (listed step places x y)

-- ---- when each place was written

-- never, or in one of the first n steps, at its own remainder
abbrev Written : (n i : ℕ) → Taboo → Type 0
Written n i t = (t.until ≡ 0) ⊎ ((t.until ≤ n + 5) × (t.until % 6 ≡ i))

record Aged (n : ℕ) (places : List Taboo) : Type 0 where
  six : length places ≡ 6
  each : (i : ℕ) → i < 6 → Written n i (get_or places i outdated)

later : (n i : ℕ) (t : Taboo) → Written n i t → Written (suc n) i t
later n i t w = ⊎_elim (λ z. inl z) (λ r. inr (omega (arith, r.0), r.1)) w

aged_fresh : Aged 0 fresh
aged_fresh = record { six = refl; each = at }
  where
    at : (i : ℕ) → i < 6 → Written 0 i (get_or fresh i outdated)
    at zero h = inl refl
    at (suc zero) h = inl refl
    at (suc (suc zero)) h = inl refl
    at (suc (suc (suc zero))) h = inl refl
    at (suc (suc (suc (suc zero)))) h = inl refl
    at (suc (suc (suc (suc (suc zero))))) h = inl refl
    at (suc (suc (suc (suc (suc (suc i)))))) h = absurd (omega arith)

aged_none : (n : ℕ) (places : List Taboo) → Aged n places → Aged (suc n) places
aged_none n places a = record { six = a.six; each = λ i h. later n i (get_or places i outdated) (a.each i h) }

aged_one : (n x y : ℕ) (places : List Taboo) → Aged n places → Aged (suc n) (listing n places x y)
aged_one n x y places a =
    record {
      six = length-set places (n % 6) (entry x y (n + 6)) ∙ a.six;
      each = λ i h.
          either i (n % 6)
          (λ e. let k : get_or (listing n places x y) i outdated ≡ entry x y (n + 6) = rw e (get_or-set_same places (n % 6) (entry x y (n + 6)) outdated (omega (arith, a.six))) in rw k (inr (omega arith, omega arith)))
          (λ ne. let k : get_or (listing n places x y) i outdated ≡ get_or places i outdated = get_or-set_other places (n % 6) i (entry x y (n + 6)) outdated ne in rw k (later n i (get_or places i outdated) (a.each i h)));
    }

aged : (steps : List (Option Pairing)) → Aged (length steps) (six_places steps)
unfolding six_places
aged [] = aged_fresh
aged (None ∷ steps) = aged_none (length steps) (six_places steps) (aged steps)
aged (Some p ∷ steps) = aged_one (length steps) p.first p.second (six_places steps) (aged steps)

-- the place of a step is outdated then
free-place : (n : ℕ) (places : List Taboo) → Aged n places → (get_or places (n % 6) outdated).until ≤ n
free-place n places a = ⊎_elim (λ z. omega arith) (λ r. omega (arith, r.0, r.1)) (a.each (n % 6) (omega arith))

-- ---- nothing live is lost

pub six-enough : (steps : List (Option Pairing)) (step x y : ℕ) → length steps ≤ step → listed step (six_places steps) x y ≡ listed step (all_entries steps) x y
unfolding six_places all_entries listed
six-enough [] step x y h = rw (le-ltb step 0 (omega arith))
six-enough (None ∷ steps) step x y h = six-enough steps step x y (omega arith)
six-enough (Some p ∷ steps) step x y h =
    let n = length steps in
    let t = entry p.first p.second (n + 6) in
    let a = aged steps in
    listed-set step x y (six_places steps) (n % 6) t (omega (arith, a.six)) (omega (arith, free-place n (six_places steps) a))
    ∙ ap (λ (b : Bool). names step t x y || b) (six-enough steps step x y (omega arith))

-- ---- both lists of a search

-- they hold the six places of what the steps listed: so they begin, and so each step leaves them
pub places_begin : fresh ≡ six_places []
unfolding six_places
places_begin = refl

pub pairs_made : (steps : List (Option Pairing)) (lines : Lines) (m : Move) → pairs_after (length steps) (six_places steps) lines m ≡ six_places (pair_made lines m ∷ steps)
unfolding six_places
pairs_made steps lines (Swap m i) = refl
pairs_made steps lines (Shift m i j) = refl
pairs_made steps lines (Reassign a r i q j) = refl

pub left_made_lem : (steps : List (Option Pairing)) (lines : Lines) (m : Move) → left_after (length steps) (six_places steps) m ≡ six_places (left_made lines m ∷ steps)
unfolding six_places
left_made_lem steps lines (Swap m i) = refl
left_made_lem steps lines (Shift m i j) = refl
left_made_lem steps lines (Reassign a r i q j) = refl

either_by_all : (pairs : List (Option Pairing)) (step : ℕ) → length pairs ≤ step → (p : Pairing) → either_way step (six_places pairs) p ≡ either_way step (all_entries pairs) p
either_by_all pairs step h p =
    ap (λ (b : Bool). b || listed step (six_places pairs) p.second p.first) (six-enough pairs step p.first p.second h)
    ∙ ap (λ (b : Bool). listed step (all_entries pairs) p.first p.second || b) (six-enough pairs step p.second p.first h)

-- so a move is forbidden exactly where lists of every entry would forbid it
pub forbidden_by_all : (pairs left : List (Option Pairing)) (step : ℕ) → length pairs ≤ step → length left ≤ step → (lines : Lines) (m : Move)
    → forbidden step (six_places pairs) (six_places left) lines m ≡ forbidden step (all_entries pairs) (all_entries left) lines m
forbidden_by_all pairs left step h k lines (Swap m i) = either_by_all pairs step h (pair_of lines (Swap m i))
forbidden_by_all pairs left step h k lines (Shift m i j) = either_by_all pairs step h (pair_of lines (Shift m i j))
forbidden_by_all pairs left step h k lines (Reassign a r i q j) = six-enough left step a q k
