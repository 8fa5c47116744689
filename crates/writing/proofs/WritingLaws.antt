-- Texts put one after the other are one text put: how a line is put together from its pieces.
use Prim.Native.Nat.{ℕ, suc, ◌+◌, ◌-◌, ◌≤◌}
use mathlib.Core.Path.{◌≡◌, sym, ap, ap₂, ◌∙◌, subst}
use mathlib.Core.List.{List, [], ◌∷◌, ◌++◌, append_assoc}
use native.Mathlib.Nat.{add-zero}
use native.Mathlib.Omega.{arith}
use lib.ListN.{length, set, take, drop, length-append}
use lib.Seq.{sets, drop-drop}
use borrow.Author.Tests.{le-leb}
use borrow.Rule.Slice.PartMut.{put_mid}
use Rattle.words.specs.Text.{written, place_after}
use Rattle.words.proofs.TextLaws.{written-fits, place_after-fits, length-written}
use Rattle.writing.specs.Writing.{Put}

-- ---- bytes stored one after the other

sets-append : (line : List ℕ) (at : ℕ) (t u : List ℕ) → sets line at (t ++ u) ≡ sets (sets line at t) (at + length t) u
sets-append line at [] u = ap (λ (i : ℕ). sets line i u) (sym (add-zero at))
sets-append line at (b ∷ t) u =
    let e : suc at + length t ≡ at + suc (length t) = omega arith in
    sets-append (set line at b) (suc at) t u ∙ ap (λ (i : ℕ). sets (sets (set line at b) (suc at) t) i u) e

pub written-append : (line : List ℕ) (at : ℕ) (t u : List ℕ) → at + (length t + length u) ≤ length line
    → written (written line at t) (at + length t) u ≡ written line at (t ++ u)
written-append line at t u h =
    let first : at + length t ≤ length line = omega arith in
    let long = length-written line at t in
    let second : at + length t + length u ≤ length (written line at t) = omega (arith, long) in
    let both : at + length (t ++ u) ≤ length line = omega (arith, length-append t u) in
    written-fits (written line at t) (at + length t) u second
    ∙ ap (λ (l : List ℕ). sets l (at + length t) u) (written-fits line at t first)
    ∙ sym (sets-append line at t u)
    ∙ sym (written-fits line at (t ++ u) both)

-- No text changes nothing.
pub written_none : (line : List ℕ) (at : ℕ) → at ≤ length line → written line at [] ≡ line
written_none line at h = written-fits line at [] (omega (arith, add-zero at))

-- ---- a text and the place after it

pub put_none : (line : List ℕ) (at : ℕ) → at ≤ length line → Put line at [] line at
put_none line at h = record { holds = sym (written_none line at h); ends = sym (add-zero at) }

pub put_long : {line₀ text line : List ℕ} {at place : ℕ} → Put line₀ at text line place → length line ≡ length line₀
put_long {line₀} {text} {line} {at} p = ap length p.holds ∙ length-written line₀ at text

pub put_then : {line₀ t line₁ u line₂ : List ℕ} {at next place : ℕ} → place ≤ length line₀
    → Put line₀ at t line₁ next → Put line₁ next u line₂ place → Put line₀ at (t ++ u) line₂ place
put_then {line₀} {t} {line₁} {u} {line₂} {at} h p q =
    record {
      holds = q.holds ∙ ap₂ (λ (l : List ℕ) (i : ℕ). written l i u) p.holds p.ends ∙ written-append line₀ at t u (omega (arith, p.ends, q.ends));
      ends = omega (arith, q.ends, p.ends, length-append t u);
    }

pub put_as : {line₀ t u line : List ℕ} {at place : ℕ} → t ≡ u → Put line₀ at t line place → Put line₀ at u line place
put_as {line₀} {t} {u} {line} {at} {place} e p = subst (λ (x : List ℕ). Put line₀ at x line place) e p

-- What a `put_` function of words says, where the text fits.
pub put_of : {line₀ text line : List ℕ} {at place : ℕ} → at + length text ≤ length line₀ → line ≡ written line₀ at text → place ≡ place_after line₀ at text
    → Put line₀ at text line place
put_of {line₀} {text} {line} {at} h e p = record { holds = e; ends = p ∙ place_after-fits line₀ at text h }

-- ---- a text copied over a part of its length

pub put_over : (line : List ℕ) (at : ℕ) (text : List ℕ) {part : List ℕ} {end : ℕ} → at + length text ≤ length line → end ≡ at + length text → part ≡ text
    → Put line at text (put_mid at (end - at) line part) end
unfolding written
put_over line at text {part} {end} h q e =
    let long : end - at ≡ length text = omega arith in
    record {
      holds = rw (le-leb _ _ h, e, long) (ap (λ (l : List ℕ). take at line ++ (text ++ l)) (drop-drop (length text) at line) ∙ sym (append_assoc (take at line) text (drop (at + length text) line)));
      ends = q;
    }
