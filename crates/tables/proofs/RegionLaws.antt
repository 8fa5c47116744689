-- Laws of regions: a part that was lent holds what it came back with, what lies outside is as it was, and a region of a region is a region.
use Prim.Native.Nat.{ℕ, zero, suc, ◌+◌, ◌-◌, ◌≤◌, ◌<◌}
use mathlib.Core.List.{List, [], ◌∷◌, ◌++◌}
use mathlib.Core.Path.{◌≡◌, sym, ap, ◌∙◌}
use native.Mathlib.Omega.{arith}
use lib.ListN.{length, get_or, take, drop, length-take, length-drop, length-append, get_or-append}
use lib.Seq.{take_at, drop_at, take-take, take-nil, take_all, drop-drop, get_or-take, get_or-drop, ext_get_or, length-take-le, drop-append-add}
use Rattle.tables.specs.Regions.{region}

-- A list with another in the place of its k cells from a on.
abbrev pub laid : ℕ → ℕ → List ℕ → List ℕ → List ℕ
laid a k xs ys = take a xs ++ (ys ++ drop k (drop a xs))

module _ (a k : ℕ) (xs ys : List ℕ) (room : a + k ≤ length xs) (same : length ys ≡ k) where
  front : length (take a xs) ≡ a
  front = length-take-le a xs (omega arith)

  pub laid-length : length (laid a k xs ys) ≡ length xs
  laid-length = simp (length-append, length-drop) (omega (arith, front))

  -- The part that was lent.
  pub laid_in : region (laid a k xs ys) a k ≡ ys
  laid_in = rw (drop_at (take a xs) (ys ++ drop k (drop a xs)) a front) (take_at ys (drop k (drop a xs)) k same)

  -- What ends before it.
  pub laid_before : (b n : ℕ) → b + n ≤ a → region (laid a k xs ys) b n ≡ region xs b n
  laid_before b n h =
      ext_get_or 0 (region (laid a k xs ys) b n) (region xs b n) (sizes) (λ i l.
      let j : i < n = omega (arith, length-take n (drop b (laid a k xs ys))) in
      get_or-take n (drop b (laid a k xs ys)) i 0 j ∙ get_or-drop b (laid a k xs ys) i 0 ∙ cell (b + i) (omega arith) ∙ sym (get_or-drop b xs i 0) ∙ sym (get_or-take n (drop b xs) i 0 j))
    where
      sizes : length (region (laid a k xs ys) b n) ≡ length (region xs b n)
      sizes = omega (arith, length-take n (drop b (laid a k xs ys)), length-take n (drop b xs), length-drop b (laid a k xs ys), length-drop b xs, laid-length)

      cell : (i : ℕ) → i < a → get_or (laid a k xs ys) i 0 ≡ get_or xs i 0
      cell i l = get_or-append (take a xs) (ys ++ drop k (drop a xs)) 0 i (omega (arith, front)) ∙ get_or-take a xs i 0 l

  -- What begins after it.
  pub laid-after : (b n : ℕ) → a + k ≤ b → region (laid a k xs ys) b n ≡ region xs b n
  laid-after b n h = ap (take n) (
      ap (λ (i : ℕ). drop i (laid a k xs ys)) split ∙ drop-append-add (take a xs) (ys ++ drop k (drop a xs)) (k + (b - (a + k)))
      ∙ ap (λ (i : ℕ). drop i (ys ++ drop k (drop a xs))) inner ∙ drop-append-add ys (drop k (drop a xs)) (b - (a + k))
      ∙ drop-drop (b - (a + k)) k (drop a xs) ∙ drop-drop (k + (b - (a + k))) a xs ∙ ap (λ (i : ℕ). drop i xs) whole)
    where
      split : b ≡ length (take a xs) + (k + (b - (a + k)))
      split = omega (arith, front)

      whole : a + (k + (b - (a + k))) ≡ b
      whole = omega arith

      inner : k + (b - (a + k)) ≡ length ys + (b - (a + k))
      inner = omega arith

drop-take : (c n : ℕ) (l : List ℕ) → drop c (take n l) ≡ take (n - c) (drop c l)
drop-take zero n l =
    let e : n ≡ n - zero = omega arith in
    ap (λ (k : ℕ). take k l) e
drop-take (suc c) zero l = let e : 0 ≡ zero - suc c = omega arith in ap (λ (k : ℕ). take k (drop (suc c) l)) e
drop-take (suc c) (suc n) [] = sym (take-nil (suc n - suc c))
drop-take (suc c) (suc n) (x ∷ l) =
    let e : n - c ≡ suc n - suc c = omega arith in
    drop-take c n l ∙ ap (λ (k : ℕ). take k (drop c l)) e

-- A region of a region.
pub region_in : (xs : List ℕ) (b n c m : ℕ) → c + m ≤ n → region (region xs b n) c m ≡ region xs (b + c) m
region_in xs b n c m h =
    ap (take m) (drop-take c n (drop b xs)) ∙ take-take m (n - c) (drop c (drop b xs)) (omega arith) ∙ ap (take m) (drop-drop c b xs)

-- ---- parts lent one after the other

pub region-length : (xs : List ℕ) (b n : ℕ) → b + n ≤ length xs → length (region xs b n) ≡ n
region-length xs b n h = length-take-le n (drop b xs) (omega (arith, length-drop b xs))

pub region_at : (xs : List ℕ) (b n i : ℕ) → i < n → get_or (region xs b n) i 0 ≡ get_or xs (b + i) 0
region_at xs b n i h = get_or-take n (drop b xs) i 0 h ∙ get_or-drop b xs i 0

-- A list before and after its k cells from a on were lent and came back as ys.
pub record Lent (a k : ℕ) (xs ys zs : List ℕ) : Type 0 where
  pub part : length ys ≡ k
  pub whole : length zs ≡ length xs
  pub inside : region zs a k ≡ ys
  pub earlier : (b n : ℕ) → b + n ≤ a → region zs b n ≡ region xs b n
  pub later : (b n : ℕ) → a + k ≤ b → region zs b n ≡ region xs b n

pub lent : (a k : ℕ) (xs ys : List ℕ) → a + k ≤ length xs → length ys ≡ length (region xs a k) → Lent a k xs ys (laid a k xs ys)
lent a k xs ys room same =
    let e : length ys ≡ k = same ∙ region-length xs a k room in
    record {
      part = e;
      whole = laid-length a k xs ys room e;
      inside = laid_in a k xs ys room e;
      earlier = laid_before a k xs ys room e;
      later = laid-after a k xs ys room e;
    }

-- A region of a part is one of the whole.
pub nested : (whole part : List ℕ) (a k b n c : ℕ) → region whole a k ≡ part → b + n ≤ k → a + b ≡ c → region part b n ≡ region whole c n
nested whole part a k b n c e h q =
    ap (λ (l : List ℕ). region l b n) (sym e) ∙ region_in whole a k b n h ∙ ap (λ (i : ℕ). region whole i n) q

-- The rest of a list is a region.
pub rest_is : (xs : List ℕ) (b n : ℕ) → length xs ≡ b + n → region xs b n ≡ drop b xs
rest_is xs b n e = take_all n (drop b xs) (omega (arith, length-drop b xs))
