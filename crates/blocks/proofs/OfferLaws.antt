-- Moves offered one after the other: none, one, some after others.
use Prim.Native.Nat.{ℕ, zero, suc, ◌+◌, ◌-◌, ◌≤◌, ◌<◌, max, min}
use mathlib.Core.Path.{◌≡◌, refl, sym, ap, ◌∙◌}
use mathlib.Core.Bool.{Bool, false, cond}
use mathlib.Core.List.{List, [], ◌∷◌, ◌++◌, map}
use native.Mathlib.Omega.{arith}
use borrow.Author.Tests.{lt-ltb, le-ltb}
use lib.ListN.{length}
use Rattle.plan.specs.Problem.{Problem}
use Rattle.lines.specs.Lines.{Lines}
use Rattle.moves.specs.Moves.{swap_at, shifted}
use Rattle.moves.specs.declared.Move.{Move}
use Rattle.moves.specs.declared.Move.TheVariants.{Swap, Shift}
use Rattle.moves.proofs.LineLaws.{swap-shifted}
use Rattle.ranking.specs.declared.held.Rated.{Rated}
use Rattle.ranking.specs.declared.held.Three.{Three}
use Rattle.ranking.specs.Ranking.{ranked, with_one, with_all, enters}
use Rattle.ranking.proofs.KeepLaws.{stays_out}
use Rattle.ranking.proofs.StreamLaws.{with_append}
use Rattle.path.specs.Placing.{placed}
use Rattle.blocks.specs.Estimates.{estimate_of}
use Rattle.blocks.specs.BlockMoves.{block, shifts}
use Rattle.blocks.specs.Scanning.{offered, Rateable, Offers, own_moves}

-- ---- lists of moves

pub map-append : {A B : Type 0} (f : A → B) (xs ys : List A) → map f (xs ++ ys) ≡ map f xs ++ map f ys
map-append f [] ys = refl
map-append {A} {B} f (x ∷ xs) ys = ap (λ (l : List B). f x ∷ l) (map-append f xs ys)

shifts-last : (m to from count : ℕ) → shifts m to from (suc count) ≡ shifts m to from count ++ (Shift m (from + count) to ∷ [])
unfolding shifts
shifts-last m to from zero = let e : from + 0 ≡ from = omega arith in rw e
shifts-last m to from (suc count) =
    let e : suc from + count ≡ from + suc count = omega arith in
    ap (λ (l : List Move). Shift m from to ∷ l) (rw e at (shifts-last m to (suc from) count))

-- ---- offers

module _ {all : Bool} {m : ℕ} {table starts ends tail line : List ℕ} where
  pub offers_none : {held : List Rated} → Offers all m [] table starts ends tail line held held
  unfolding with_all
  offers_none = record { kept = λ p lines order r. refl }

  pub offers_then : {xs ys : List Move} {before mid after : List Rated} → Offers all m xs table starts ends tail line before mid
      → Offers all m ys table starts ends tail line mid after → Offers all m (xs ++ ys) table starts ends tail line before after
  offers_then {xs} {ys} {before} {mid} {after} k h =
      record {
        kept = λ p lines order r.
            let f = offered all p lines (placed order starts ends) tail in
            h.kept p lines order r
            ∙ ap (λ (z : List Rated). with_all z (map f ys)) (k.kept p lines order r)
            ∙ sym (ap (with_all before) (map-append f xs ys) ∙ with_append before (map f xs) (map f ys));
      }

  -- One move, with the rank that was worked out for it.
  pub offers_one : (move : Move) {before after : List Rated} (rated : Rated)
      → ((p : Problem) (lines : Lines) (order : List ℕ) → Rateable p lines m table starts ends tail line
      → rated ≡ offered all p lines (placed order starts ends) tail move)
      → after ≡ with_one rated before → Offers all m (move ∷ []) table starts ends tail line before after
  unfolding with_all
  offers_one move {before} rated e k =
      record { kept = λ p lines order r. k ∙ ap (λ (x : Rated). with_one x before) (e p lines order r) }

  -- .. that does not enter.
  pub offers_out : (move : Move) (three : Three) (length : ℕ) → enters three.count three.first three.second three.third length 0 ≡ false
      → ((p : Problem) (lines : Lines) (order : List ℕ) → Rateable p lines m table starts ends tail line
      → record { length = length; time = 0; made = move } ≡ offered all p lines (placed order starts ends) tail move)
      → Offers all m (move ∷ []) table starts ends tail line (ranked three) (ranked three)
  offers_out move three length out e =
      let rated : Rated = record { length = length; time = 0; made = move } in
      offers_one move rated e (stays_out three rated out)

  pub shifts_begin : (to from : ℕ) {held : List Rated} → Offers all m (shifts m to from (from - from)) table starts ends tail line held held
  unfolding shifts
  shifts_begin to from = let e : from - from ≡ 0 = omega arith in rw e offers_none

  pub offers_shift : (to from at : ℕ) {before mid after : List Rated} → from ≤ at → Offers all m (shifts m to from (at - from)) table starts ends tail line before mid
      → Offers all m (Shift m at to ∷ []) table starts ends tail line mid after
      → Offers all m (shifts m to from (at + 1 - from)) table starts ends tail line before after
  offers_shift to from at h k one =
      let e : at + 1 - from ≡ suc (at - from) = omega arith in
      let g : from + (at - from) ≡ at = omega arith in
      rw (e, shifts-last m to from (at - from), g) (offers_then k one)

  -- The shifts to the front and to the back, as the code counts them.
  pub offers_ends : (f l : ℕ) {before mid after : List Rated} → f + 1 < l → Offers all m (shifts m f (f + 2) (l + 1 - (f + 2))) table starts ends tail line before mid
      → Offers all m (shifts m l f (l - 1 - f)) table starts ends tail line mid after
      → Offers all m (shifts m f (f + 2) (l - f - 1) ++ shifts m l f (l - f - 1)) table starts ends tail line before after
  offers_ends f l h k j =
      let a : l + 1 - (f + 2) ≡ l - f - 1 = omega arith in
      let b : l - 1 - f ≡ l - f - 1 = omega arith in
      offers_then (rw a at k) (rw b at j)

-- ---- ranks

module _ (all : Bool) {p : Problem} {lines : Lines} {m : ℕ} {table starts ends tail line : List ℕ} (r : Rateable p lines m table starts ends tail line)
    (order : List ℕ) where
  pub shift_rank : (from to length : ℕ) → length ≡ cond all 0 (estimate_of p (placed order starts ends) tail line (shifted line from to) (min from to) (max from to))
      → record { length = length; time = 0; made = Shift m from to } ≡ offered all p lines (placed order starts ends) tail (Shift m from to)
  shift_rank from to length e =
      ap (λ (z : ℕ). record { length = z; time = 0; made = Shift m from to }) (rw (sym r.held) at e)

  pub swap_rank : (at size : ℕ) → at + 1 < length line
      → size ≡ cond all 0 (estimate_of p (placed order starts ends) tail line (shifted line at (at + 1)) (min at (at + 1)) (max at (at + 1)))
      → record { length = size; time = 0; made = Swap m at } ≡ offered all p lines (placed order starts ends) tail (Swap m at)
  swap_rank at size h e =
      let a : min at (at + 1) ≡ at = omega arith in
      let b : max at (at + 1) ≡ at + 1 = omega arith in
      let g : size ≡ cond all 0 (estimate_of p (placed order starts ends) tail line (swap_at line at) at (at + 1)) = rw (swap-shifted line at h) (rw (a, b) at e) in
      ap (λ (z : ℕ). record { length = z; time = 0; made = Swap m at }) (rw (sym r.held) at g)

-- ---- a block

pub own_pair : (m f l : ℕ) → l ≤ f + 1 → own_moves (block m f l) ≡ Swap m f ∷ []
own_pair m f l h = rw (le-ltb (f + 1) l h)

pub own_more : (m f l : ℕ) → f + 1 < l
    → own_moves (block m f l) ≡ (Swap m f ∷ []) ++ ((Swap m (l - 1) ∷ []) ++ (shifts m f (f + 2) (l - f - 1) ++ shifts m l f (l - f - 1)))
own_more m f l h = rw (lt-ltb (f + 1) l h)
