-- A plan that was answered lies in the buffer.
use Rattle.std.specs.Prelude.{Option, Some, ℕ}
use Prim.Native.Nat.{ℕ}
use mathlib.Core.Path.{◌≡◌, subst}
use mathlib.Core.List.{List}
use Rattle.stream.specs.Stream.{IsPrefixLen, Lies}

pub plan_lies : {r : Option ℕ} {n : ℕ} (line : List ℕ) → r ≡ Some n → Lies r line → IsPrefixLen n line
plan_lies line e h = subst (λ (r : Option ℕ). Lies r line) e h
