-- A product of two bounded numbers is at most the product of the bounds.
use Prim.Native.Nat.{ℕ, ◌*◌, ◌≤◌}
use native.Mathlib.Nat.{le_trans, mul-le-mul_left, mul-le-mul_right}

pub product_most : (a b : ℕ) {x y : ℕ} → x ≤ a → y ≤ b → x * y ≤ a * b
product_most a b {x} {y} h g = le_trans (mul-le-mul_right y h) (mul-le-mul_left a g)
