use mir.Facts.{to_z-of_z}
use mathlib.Core.Bool.{true}
use Rattle.sheet.proofs.NumberLaws.{cast_number, below_positive, size_clamped}
use mathlib.Core.Path.{◌≡◌, sym, ◌∙◌}
use Rattle.sheet.specs.Rows.{is_below}
use Rattle.sheet.proofs.rows.subject.Goals as goal

pub returns-then-not-is_below : goal.returns-then-not-is_below
returns-then-not-is_below c = let e : c.is_below.result ≡ is_below c.args.n c.args.a = rw (to_z-of_z c.ranges.a) at c.is_below.ensures in
    rw (sym e ∙ c.if-not-is_below.true)

pub returns-then-not-is_below-2 : goal.returns-then-not-is_below-2
returns-then-not-is_below-2 c = let e : c.is_below.result ≡ is_below c.args.n c.args.a = rw (to_z-of_z c.ranges.a) at c.is_below.ensures in
    let f : c.is_below-2.result ≡ is_below c.args.machines c.args.m = rw (to_z-of_z c.ranges.m) at c.is_below-2.ensures in
    let x : is_below c.args.n c.args.a ≡ true = sym e ∙ c.if-not-is_below.false in
    rw (x, sym f ∙ c.if-not-is_below-2.true)

pub overflow_cast-result : goal.overflow_cast-result
overflow_cast-result c = let e : c.is_below.result ≡ is_below c.args.n c.args.a = rw (to_z-of_z c.ranges.a) at c.is_below.ensures in
    let f : c.is_below-2.result ≡ is_below c.args.machines c.args.m = rw (to_z-of_z c.ranges.m) at c.is_below-2.ensures in
    let x : is_below c.args.n c.args.a ≡ true = sym e ∙ c.if-not-is_below.false in
    cast_number c.ranges.a (below_positive c.args.n c.args.a x)

pub overflow_cast-result-2 : goal.overflow_cast-result-2
overflow_cast-result-2 c = let e : c.is_below.result ≡ is_below c.args.n c.args.a = rw (to_z-of_z c.ranges.a) at c.is_below.ensures in
    let f : c.is_below-2.result ≡ is_below c.args.machines c.args.m = rw (to_z-of_z c.ranges.m) at c.is_below-2.ensures in
    let y : is_below c.args.machines c.args.m ≡ true = sym f ∙ c.if-not-is_below-2.false in
    cast_number c.ranges.m (below_positive c.args.machines c.args.m y)

pub returns : goal.returns
returns c = let e : c.is_below.result ≡ is_below c.args.n c.args.a = rw (to_z-of_z c.ranges.a) at c.is_below.ensures in
    let f : c.is_below-2.result ≡ is_below c.args.machines c.args.m = rw (to_z-of_z c.ranges.m) at c.is_below-2.ensures in
    let x : is_below c.args.n c.args.a ≡ true = sym e ∙ c.if-not-is_below.false in
    let y : is_below c.args.machines c.args.m ≡ true = sym f ∙ c.if-not-is_below-2.false in
    rw (to_z-of_z c.ranges.a, to_z-of_z c.ranges.m, x, y, size_clamped c.args.a (below_positive c.args.n c.args.a x), size_clamped c.args.m (below_positive c.args.machines c.args.m y))
