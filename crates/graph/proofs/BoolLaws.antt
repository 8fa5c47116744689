-- What the test of a negation says.
use mathlib.Core.Path.{◌≡◌, refl, sym}
use mathlib.Core.Bool.{Bool, true, false, not, false≢true}

pub denied : (r : Bool) → not r ≡ true → r ≡ false
denied true e = absurd (false≢true e)
denied false e = refl

pub granted : (r : Bool) → not r ≡ false → r ≡ true
granted true e = refl
granted false e = absurd (false≢true (sym e))
