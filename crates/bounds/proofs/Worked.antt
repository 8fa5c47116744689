-- Document 01's P8: completion 10; deadlines 12, 10, -5, none. And deadlines at zero and at both ends of a word.
use Rattle.std.specs.Prelude.{None, Some}
use Prim.Native.Nat.{◌+◌, ◌^◌}
use mathlib.Core.Path.{◌≡◌, refl}
use lib.IntN.{pos, negsuc}
use Rattle.bounds.specs.Bounds.{tardiness_of}

pub p8_early : tardiness_of 10 (Some (pos 12)) ≡ 0
p8_early = refl

pub p8_on_time : tardiness_of 10 (Some (pos 10)) ≡ 0
p8_on_time = refl

-- -5
pub p8_below_zero : tardiness_of 10 (Some (negsuc 4)) ≡ 15
p8_below_zero = refl

pub p8_none : tardiness_of 10 None ≡ 0
p8_none = refl

pub at_zero : tardiness_of 10 (Some (pos 0)) ≡ 10
at_zero = refl

pub at_greatest : tardiness_of 10 (Some (pos 2147483647)) ≡ 0
at_greatest = refl

-- -2^31
pub at_least : tardiness_of 10 (Some (negsuc 2147483647)) ≡ 10 + 2 ^ 31
at_least = refl
