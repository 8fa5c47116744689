-- Laws of a text written over a line: what the line then holds, that its length never changes, and where the place after the text is.
use Prim.Native.Nat.{ℕ, suc, ◌+◌, ◌-◌, ◌≤◌, ◌<◌}
use mathlib.Core.Path.{◌≡◌, refl, sym, ◌∙◌, ap}
use mathlib.Core.Bool.{Bool, true, false}
use mathlib.Core.List.{List, [], ◌∷◌, ◌++◌}
use native.Mathlib.Nat.{add-zero}
use native.Mathlib.Omega.{arith}
use borrow.Author.Tests.{le-leb, lt-leb, leb-true, leb-false}
use lib.Dec.{leb}
use lib.ListN.{length, take, drop, set, length-append}
use lib.Seq.{sets, sets-eq, length-sets, set_comm, length-take-le, take_at}
use Rattle.words.specs.Text.{fits, written, place_after}

module _ (line : List ℕ) (at : ℕ) (text : List ℕ) where
  module _ (h : at + length text ≤ length line) where
    -- A text that fits is stored byte by byte, and the place after it is as far on as the text is long.
    pub written-fits : written line at text ≡ sets line at text
    unfolding written
    written-fits = rw (le-leb _ _ h) (sym (sets-eq text line at h))

    pub place_after-fits : place_after line at text ≡ at + length text
    unfolding place_after
    place_after-fits = rw (le-leb _ _ h)

    -- Up to the place after it the line then holds what it held up to the place before, and the text: how a line is put together.
    pub take-written : take (at + length text) (written line at text) ≡ take at line ++ text
    unfolding written
    take-written =
        let front : length (take at line ++ text) ≡ at + length text =
        omega (arith, length-append (take at line) text, length-take-le at line (omega arith)) in
        rw (le-leb _ _ h) (take_at (take at line ++ text) (drop (at + length text) line) (at + length text) front)

  module _ (h : length line < at + length text) where
    -- A text that does not fit changes nothing.
    pub written_full : written line at text ≡ line
    unfolding written
    written_full = rw (lt-leb _ _ h)

    pub place_after_full : place_after line at text ≡ at
    unfolding place_after
    place_after_full = rw (lt-leb _ _ h)

  pub length-written : length (written line at text) ≡ length line
  length-written = by_room (leb (at + length text) (length line)) refl
    where
      by_room : (b : Bool) → leb (at + length text) (length line) ≡ b → length (written line at text) ≡ length line
      by_room true e = ap length (written-fits (leb-true _ _ e)) ∙ length-sets line at text
      by_room false e = ap length (written_full (leb-false _ _ e))

  -- The place after a text is within the line, where the place before was.
  pub place_after_within : at ≤ length line → place_after line at text ≤ length line
  place_after_within h = by_room (leb (at + length text) (length line)) refl
    where
      by_room : (b : Bool) → leb (at + length text) (length line) ≡ b → place_after line at text ≤ length line
      by_room true e = let l = leb-true _ _ e in rw (place_after-fits l) l
      by_room false e = rw (place_after_full (leb-false _ _ e)) h

  -- The same by what a `put_` function says of its line and of its answer: how a chain of them stays within the line.
  pub put_within : {next : List ℕ} {end : ℕ} → at ≤ length line → next ≡ written line at text → end ≡ place_after line at text → end ≤ length next
  put_within h e p = omega (arith, ap length e, length-written, place_after_within h)

-- The test of the room that forms no sum.
pub room_left : (room at n : ℕ) → n ≤ room → leb at (room - n) ≡ fits room at n
room_left room at n h = by_room (leb (at + n) room) refl
  where
    by_room : (b : Bool) → leb (at + n) room ≡ b → leb at (room - n) ≡ b
    by_room true e = let l = leb-true (at + n) room e in le-leb at (room - n) (omega arith)
    by_room false e = let l = leb-false (at + n) room e in lt-leb at (room - n) (omega arith)

-- The last byte of a text may be stored first: how digits are put, from the last to the first.
pub sets_last : (line : List ℕ) (at : ℕ) (text : List ℕ) (b : ℕ) → sets line at (text ++ b ∷ []) ≡ sets (set line (at + length text) b) at text
sets_last line at [] b = rw (add-zero at)
sets_last line at (a ∷ text) b =
    let far : (at ≡ suc at + length text → ⊥) = λ e. omega arith in
    let e : suc at + length text ≡ at + suc (length text) = omega arith in
    sets_last (set line at a) (suc at) text b
    ∙ ap (λ (l : List ℕ). sets l (suc at) text) (set_comm line at (suc at + length text) a b far)
    ∙ ap (λ (i : ℕ). sets (set (set line i b) at a) (suc at) text) e
