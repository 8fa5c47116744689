-- A link that names an activity below a number names it below the number.
use Rattle.std.specs.Prelude.{Option, Some, ℕ}
use Prim.Native.Nat.{ℕ, ◌<◌}
use mathlib.Core.Path.{◌≡◌, subst}
use Rattle.graph.specs.Counting.{Below}
use Rattle.graph.specs.Links.{linked}

pub link_names : (n t : ℕ) {link : Option ℕ} → link ≡ Some t → Below n (linked link) → t < n
unfolding Below
link_names n t e h = (subst (λ (l : Option ℕ). Below n (linked l)) e h).0
