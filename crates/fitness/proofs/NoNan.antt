-- A fitness at a weight from 0 to 1 is no NaN: 1 - w is finite and not negative, so are weighed-sum numbers, and a sum of two such products is no
-- infinity less an infinity.
use Prim.Native.Nat.{ℕ, zero, suc, ◌+◌, ◌-◌, ◌*◌, ◌<◌, ◌≤◌, ◌^◌}
use mathlib.Core.Path.{◌≡◌, sym, ap, ◌∙◌, subst}
use mathlib.Core.Bool.{Bool, true, false, not, ◌&&◌, ◌||◌, cond, beq}
use mathlib.Core.Logic.{◌⊎◌, inl, inr, ⊎_elim}
use lib.Ieee.Fits.{and_l, and_r, down_pos}
use borrow.Author.Tests.{le-ltb}
use native.Mathlib.Nat.{zero-mul, mul-one, mul-pos, lt_irrefl}
use native.Mathlib.Omega.{arith}
use lib.Dec.{T, ltb, eqb, lit<, ltb→lt, eqb→eq}
use lib.IntN.{ℤ, pos}
use lib.ListN.{get_or}
use mathlib.Core.List.{List}
use lib.Ieee.{Float, nan, inf, fin, Format, binary64, is_nan, round, units, odd, add, sub, mul, sum, le, of_int, up, down, low, emax, prec}
use lib.Ieee.Back.{round_whole}
use lib.Ieee.Exact.{HasValue}
use lib.Ieee.Order.{round_mono}
use lib.Ieee.Scale.{round_same}
use Rattle.words.specs.Words.{words, Below}
use Rattle.plan.specs.Input.{problem_of, genes_of}
use Rattle.plan.specs.Found.{Weighed}
use Rattle.plan.specs.Accepted.{Accepted}
use Rattle.plan.specs.declared.Layout.{Layout}
use Rattle.fitness.specs.Fitness.{in_unit, zero_f, one_f, weighted, fitness_of}
use Rattle.fitness.specs.Ended.{Ended}
use Rattle.fitness.proofs.TaskLaws.{sums_exact}
use Rattle.fitness.proofs.WeightLaws.{weight_unit}

-- Not negative, infinity among them; finite; neither test passes a NaN.
abbrev pos_f : Float → Bool
pos_f nan = false
pos_f (inf s) = not s
pos_f (fin s m e) = not s

abbrev fin_f : Float → Bool
fin_f nan = false
fin_f (inf s) = false
fin_f (fin s m e) = true

-- A test of a float that passes: a record, so that the float can be inferred from it
record Has (P : Float → Bool) (x : Float) : Type 0 where
  is : T (P x)

-- ---- what `round` gives
cond_has : {P : Float → Bool} (b : Bool) {x y : Float} → Has P x → Has P y → Has P (cond b x y)
cond_has true p q = p
cond_has false p q = q

odd_pos : (d q k l : ℕ) → Has pos_f (odd d false q k l)
unfolding odd
odd_pos d zero k l = record { is = tt }
odd_pos d (suc q) k l = record { is = tt }

units_pos : (f : Format) (q k : ℕ) → Has pos_f (units f false q k)
unfolding units
units_pos f q k =
    cond_has (ltb (q * 2 ^ k) (2 ^ (low f + suc (emax f)))) (odd_pos (suc (prec f)) q k (low f)) (record { is = tt })

round_pos : (f : Format) (a b : ℕ) → Has pos_f (round f false a b)
unfolding round
round_pos f a b = units_pos f _ _

-- No NaN.
abbrev ok_f : Float → Bool
ok_f nan = false
ok_f (inf s) = true
ok_f (fin s m e) = true

odd_ok : (s : Bool) (d q k l : ℕ) → Has ok_f (odd d s q k l)
unfolding odd
odd_ok s d zero k l = record { is = tt }
odd_ok s d (suc q) k l = record { is = tt }

units_ok : (f : Format) (s : Bool) (q k : ℕ) → Has ok_f (units f s q k)
unfolding units
units_ok f s q k =
    cond_has (ltb (q * 2 ^ k) (2 ^ (low f + suc (emax f)))) (odd_ok s (suc (prec f)) q k (low f)) (record { is = tt })

round_ok : (f : Format) (s : Bool) (a b : ℕ) → Has ok_f (round f s a b)
unfolding round
round_ok f s a b = units_ok f s _ _

sum_ok : (f : Format) (s : Bool) (a : ℕ) (t : Bool) (b c : ℕ) → Has ok_f (sum f s a t b c)
unfolding sum
sum_ok f s a t b c =
    cond_has (beq s t) (round_ok f s (a + b) c)
    (cond_has (ltb a b) (round_ok f t (b - a) c) (round_ok f (s && ltb b a) (a - b) c))

-- ---- a sum
add_pos : (f : Format) (x y : Float) → T (pos_f x) → T (pos_f y) → T (ok_f (add f x y))
unfolding add
add_pos f nan y p q = absurd p
add_pos f (inf s) nan p q = absurd q
add_pos f (inf true) (inf t) p q = absurd p
add_pos f (inf false) (inf true) p q = absurd q
add_pos f (inf false) (inf false) p q = tt
add_pos f (inf s) (fin t n d) p q = tt
add_pos f (fin s m e) nan p q = absurd q
add_pos f (fin s m e) (inf t) p q = tt
add_pos f (fin true m e) (fin t n d) p q = absurd p
add_pos f (fin false m e) (fin true n d) p q = absurd q
add_pos f (fin false m e) (fin false n d) p q =
    (sum_ok f false (m * up e * down d) false (n * up d * down e) (down e * down d)).is

add_fin : (f : Format) (x y : Float) → T (pos_f x) → T (fin_f y) → T (ok_f (add f x y))
unfolding add
add_fin f nan y p q = absurd p
add_fin f (inf s) nan p q = absurd q
add_fin f (inf s) (inf t) p q = absurd q
add_fin f (inf s) (fin t n d) p q = tt
add_fin f (fin s m e) nan p q = absurd q
add_fin f (fin s m e) (inf t) p q = absurd q
add_fin f (fin s m e) (fin t n d) p q = (sum_ok f s (m * up e * down d) t (n * up d * down e) (down e * down d)).is

-- ---- what the tests say of the numbers
or_le : (a b : ℕ) (t : Bool) → T (ltb a b || (eqb a b && t)) → a ≤ b
or_le a b t h = ⊎_elim (λ p. omega (arith, ltb→lt a b p)) (λ p. omega (arith, eqb→eq a b (and_l (eqb a b) t p))) (or_cases (ltb a b) _ h)
  where
    or_cases : (x y : Bool) → T (x || y) → T x ⊎ T y
    or_cases true y k = inl tt
    or_cases false y k = inr k

-- Not negative and at most 1: finite.
unit_fin : (x : Float) → T (pos_f x) → T (le x one_f) → T (fin_f x)
unfolding le
unit_fin nan p q = absurd p
unit_fin (inf true) p q = absurd p
unit_fin (inf false) p q = absurd q
unit_fin (fin s m e) p q = tt

-- What is at most 1 stays so when rounded.
round_unit : (a c : ℕ) → 0 < c → a ≤ c → T (pos_f (round binary64 false a c)) × T (fin_f (round binary64 false a c))
unfolding round
round_unit a c h l =
    ((round_pos binary64 a c).is, unit_fin (round binary64 false a c) (round_pos binary64 a c).is (round_mono binary64 a c 1 1 h (lit< tt) (omega arith)))

-- A negative number that is at least 0 is -0.
minus_zero : (m : ℕ) (e : ℤ) → T (le zero_f (fin true m e)) → m * up e ≡ 0
unfolding le
minus_zero m e u =
    let z : 0 * down e ≡ m * up e * 1 = eqb→eq (0 * down e) (m * up e * 1) (and_l (eqb (0 * down e) (m * up e * 1)) (eqb (0 * down e) 0) u) in
    omega (arith, zero-mul (down e))

-- 1 - w.
rest : (w : Float) → T (in_unit w) → T (pos_f (sub binary64 one_f w)) × T (fin_f (sub binary64 one_f w))
unfolding le sub
rest nan u = absurd u
rest (inf true) u = absurd u
rest (inf false) u = absurd u
rest (fin true m e) u =
    let z : m * up e ≡ 0 = minus_zero m e (and_l (le zero_f (fin true m e)) (le (fin true m e) one_f) u) in
    round_unit (1 * down e + m * up e * 1) (1 * down e) (omega (arith, down_pos e)) (omega arith)
rest (fin false m e) u =
    let l : m * up e * 1 ≤ 1 * down e = or_le (m * up e * 1) (1 * down e) _ (and_r (le zero_f (fin false m e)) _ u) in
    rw (le-ltb (1 * down e) (m * up e * 1) l) (round_unit (1 * down e - m * up e * 1) (1 * down e) (omega (arith, down_pos e)) (omega arith))

-- A product of two that are finite and not negative.
product_pos : (x y : Float) → T (pos_f x) → T (fin_f x) → T (pos_f y) → T (fin_f y) → T (pos_f (mul binary64 x y))
unfolding mul
product_pos nan y p f q g = absurd f
product_pos (inf s) y p f q g = absurd f
product_pos (fin s m e) nan p f q g = absurd g
product_pos (fin s m e) (inf t) p f q g = absurd g
product_pos (fin true m e) (fin t n d) p f q g = absurd p
product_pos (fin false m e) (fin true n d) p f q g = absurd q
product_pos (fin false m e) (fin false n d) p f q g =
    (round_pos binary64 (m * up e * (n * up d)) (down e * down d)).is

-- A whole number of at most 2 ^ 53.
value_fin : (x : Float) (n : ℕ) → HasValue x false n 1 → T (pos_f x) × T (fin_f x)
value_fin nan n h = absurd h
value_fin (inf s) n h = absurd h
value_fin (fin true m e) n h = let z : ◌≡◌ {A = Bool} true false = h.0 in let k : ◌≡◌ {A = ℕ} 0 1 = cc in absurd (lt_irrefl 0 (omega arith))
value_fin (fin false m e) n h = (tt, tt)

whole : (n : ℕ) → n ≤ 2 ^ 53 → T (pos_f (of_int binary64 (pos n))) × T (fin_f (of_int binary64 (pos n)))
unfolding of_int
whole n h = value_fin (round binary64 false n 1) n (round_whole binary64 false n h)

round_zero : (s : Bool) (a b : ℕ) → a ≡ 0 → 0 < b → T (fin_f (round binary64 s a b))
unfolding round
round_zero s a b z h =
    subst (λ (x : Float). T (fin_f x)) (sym (round_same binary64 s a b 0 1 h (lit< tt) (mul-one a ∙ z ∙ sym (zero-mul b)))) tt

-- -0 times a finite number is finite.
zero_fin : (m : ℕ) (e : ℤ) (y : Float) → m * up e ≡ 0 → T (pos_f y) → T (fin_f y) → T (fin_f (mul binary64 (fin true m e) y))
unfolding mul
zero_fin m e nan z q g = absurd g
zero_fin m e (inf t) z q g = absurd g
zero_fin m e (fin true n d) z q g = absurd q
zero_fin m e (fin false n d) z q g =
    round_zero true (m * up e * (n * up d)) (down e * down d) (ap (λ (k : ℕ). k * (n * up d)) z ∙ zero-mul (n * up d)) (mul-pos (down_pos e) (down_pos d))

ok_not : (x : Float) → T (ok_f x) → T (not (is_nan x))
unfolding is_nan
ok_not nan t = t
ok_not (inf s) t = tt
ok_not (fin s m e) t = tt

weighed-sum : (a w y : Float) → T (pos_f a) → T (in_unit w) → T (pos_f y) → T (fin_f y) → T (ok_f (add binary64 a (mul binary64 w y)))
unfolding le
weighed-sum a nan y p u q g = absurd u
weighed-sum a (inf true) y p u q g = absurd u
weighed-sum a (inf false) y p u q g = absurd u
weighed-sum a (fin true m e) y p u q g =
    let z : m * up e ≡ 0 = minus_zero m e (and_l (le zero_f (fin true m e)) (le (fin true m e) one_f) u) in
    add_fin binary64 a (mul binary64 (fin true m e) y) p (zero_fin m e y z q g)
weighed-sum a (fin false m e) y p u q g = add_pos binary64 a (mul binary64 (fin false m e) y) p (product_pos (fin false m e) y tt tt q g)

pub weighted-no_nan : (w : Float) (m t : ℕ) → T (in_unit w) → m ≤ 2 ^ 53 → t ≤ 2 ^ 53 → T (not (is_nan (weighted w m t)))
weighted-no_nan w m t u hm ht =
    let r = rest w u in
    let a = whole m hm in
    let b = whole t ht in
    ok_not (weighted w m t)
    (weighed-sum (mul binary64 (sub binary64 one_f w) (of_int binary64 (pos m))) w (of_int binary64 (pos t))
    (product_pos (sub binary64 one_f w) (of_int binary64 (pos m)) r.0 r.1 a.0 a.1) u b.0 b.1)

-- ---- of a plan's bytes

module _ (s : List ℕ) (z : Layout) (plan : Accepted (problem_of (words s) z) (genes_of (words s) z)) where
  pub fitness_no_nan : Below 256 s → Weighed (words s) z → (ends : List ℕ) → Ended z.activities ends
      → T (not (is_nan (fitness_of (problem_of (words s) z) (λ a. get_or ends a 0))))
  fitness_no_nan bytes weighed ends placed =
      let x = sums_exact (words s) z plan ends placed in
      weighted-no_nan (problem_of (words s) z).weight _ _ (weight_unit s z bytes weighed) x.0 x.1
