-- "Less than" on floats goes on from one to the next; a NaN is neither less nor more than anything. Assumes nothing.
use Prim.Native.Nat.{ℕ, zero, suc, ◌+◌, ◌*◌, ◌<◌}
use mathlib.Core.Path.{◌≡◌, refl}
use mathlib.Core.Bool.{Bool, true, false, false≢true}
use native.Mathlib.Nat.{mul-pos, mul-lt-mul_of_pos_right, lt_of_mul-lt-mul_right}
use native.Mathlib.Omega.{arith}
use borrow.Author.Tests.{lt-ltb, ltb-true}
use lib.Ieee.{Float, nan, inf, fin, lt, below, up, down}
use lib.Ieee.Fits.{down_pos}

-- fractions x / e, y / d and z / c
cross : (x y z e d c : ℕ) → 0 < e → 0 < d → 0 < c → x * d < y * e → y * c < z * d → x * c < z * e
cross x y z e d c pe pd pc h k =
    let a = mul-lt-mul_of_pos_right h pc in
    let b = mul-lt-mul_of_pos_right k pe in
    let l : x * c * d < z * e * d = omega (arith, a, b) in
    lt_of_mul-lt-mul_right d l

positive : (x e c : ℕ) → 0 < x * e → 0 < c → 0 < x * c
positive zero e c h k = absurd (omega (arith, h))
positive (suc x) e c h k = mul-pos (omega arith) k

below_on : (s t u : Bool) (x y z e d c : ℕ) → 0 < e → 0 < d → 0 < c → below s (x * d) t (y * e) ≡ true → below t (y * c) u (z * d) ≡ true → below s (x * c) u (z * e) ≡ true
below_on false false false x y z e d c pe pd pc h k =
    lt-ltb (x * c) (z * e) (cross x y z e d c pe pd pc (ltb-true (x * d) (y * e) h) (ltb-true (y * c) (z * d) k))
below_on false false true x y z e d c pe pd pc h k = absurd (false≢true k)
below_on false true u x y z e d c pe pd pc h k = absurd (false≢true h)
below_on true false true x y z e d c pe pd pc h k = absurd (false≢true k)
below_on true false false x y z e d c pe pd pc h k =
    let more : 0 < z * e = positive z d e (omega (arith, ltb-true (y * c) (z * d) k)) pe in
    lt-ltb 0 (x * c + z * e) (omega (arith, more))
below_on true true false x y z e d c pe pd pc h k =
    let more : 0 < x * c = positive x d c (omega (arith, ltb-true (y * e) (x * d) h)) pc in
    lt-ltb 0 (x * c + z * e) (omega (arith, more))
below_on true true true x y z e d c pe pd pc h k =
    lt-ltb (z * e) (x * c) (cross z y x c d e pc pd pe (ltb-true (z * d) (y * c) k) (ltb-true (y * e) (x * d) h))

pub lt_on : (x y z : Float) → lt x y ≡ true → lt y z ≡ true → lt x z ≡ true
unfolding lt
lt_on nan y z h k = absurd (false≢true h)
lt_on (inf s) nan z h k = absurd (false≢true h)
lt_on (inf s) (inf t) nan h k = absurd (false≢true k)
lt_on (inf true) (inf true) (inf u) h k = absurd (false≢true h)
lt_on (inf true) (inf false) (inf u) h k = absurd (false≢true k)
lt_on (inf false) (inf t) (inf u) h k = absurd (false≢true h)
lt_on (inf true) (inf t) (fin u n d) h k = refl
lt_on (inf false) (inf t) (fin u n d) h k = absurd (false≢true h)
lt_on (inf s) (fin t n d) nan h k = absurd (false≢true k)
lt_on (inf true) (fin t n d) (inf u) h k = k
lt_on (inf false) (fin t n d) (inf u) h k = absurd (false≢true h)
lt_on (inf s) (fin t n d) (fin u k c) h l = h
lt_on (fin s m e) nan z h k = absurd (false≢true h)
lt_on (fin s m e) (inf t) nan h k = absurd (false≢true k)
lt_on (fin s m e) (inf true) (inf u) h k = absurd (false≢true h)
lt_on (fin s m e) (inf false) (inf u) h k = absurd (false≢true k)
lt_on (fin s m e) (inf true) (fin u k c) h l = absurd (false≢true h)
lt_on (fin s m e) (inf false) (fin u k c) h l = absurd (false≢true l)
lt_on (fin s m e) (fin t n d) nan h k = absurd (false≢true k)
lt_on (fin s m e) (fin t n d) (inf u) h k = k
lt_on (fin s m e) (fin t n d) (fin u k c) h l =
    below_on s t u (m * up e) (n * up d) (k * up c) (down e) (down d) (down c) (down_pos e) (down_pos d) (down_pos c) h l
