-- `path::critical_path` meets its contract. The loop's invariant, for whatever problem and lines are shown: what is left to walk, before
-- the path so far, is the whole path; the cells before it are as they were.
use Prim.Native.Nat.{◌-◌}
use mathlib.Core.Path.{refl, sym, ◌∙◌}
use native.Mathlib.Omega.{arith}
use lib.ListN.{length, set, length-set}
use Rattle.plan.specs.Problem.{Problem}
use Rattle.lines.specs.Lines.{Lines}
use Rattle.path.specs.Placing.{placed}
use Rattle.path.specs.Walking.{Walkable}
use Rattle.path.proofs.WalkLaws.{Walking, backed, task_below, own_known, from_known, back_is, begin, stops, goes, kept_below}
use Rattle.path.proofs.critical_path.Goals as goal

pub last_to_end-a-requires : goal.last_to_end-a-requires
last_to_end-a-requires c = (omega (arith, c.requires.0.walkable.some, c.requires.0.walkable.ordered), rw c.requires.0.walkable.ended c.requires.0.walkable.activities)

pub loop-b-init : goal.loop-b-init
loop-b-init c = let k = begin c.requires.0.walkable c.args.path.now c.last_to_end-a.result c.requires.1 c.last_to_end-a.ensures in (
  record { room = omega (arith, c.requires.0.walkable.some, c.requires.0.walkable.ordered, c.requires.1); within = omega arith; sized = refl; kept = refl; standing = omega (arith, k.known, c.requires.0.walkable.shown.standing) },
  λ p lines v. begin v c.args.path.now c.last_to_end-a.result c.requires.1 c.last_to_end-a.ensures,
)

pub before_of-task-requires : goal.before_of-task-requires
before_of-task-requires c = let k = c.loop-b.invariant.1 c.requires.0.problem c.requires.0.lines c.requires.0.walkable in
    (omega (arith, k.known, c.requires.0.walkable.shown.few), c.requires.0.walkable.shown.tabled.sized)

pub machine_before-from-requires : goal.machine_before-from-requires
machine_before-from-requires c = let k = c.loop-b.invariant.1 c.requires.0.problem c.requires.0.lines c.requires.0.walkable in
    (task_below c.requires.0.walkable c.loop-b.a k.known (c.before_of-task.ensures c.requires.0.problem c.requires.0.walkable.shown.tabled k.known) (length c.args.machines.now) c.requires.0.walkable.shown.standing, c.loop-b.invariant.0.standing)

pub offset_bounds-ways-from : goal.offset_bounds-ways-from
offset_bounds-ways-from c = let k = c.loop-b.invariant.1 c.requires.0.problem c.requires.0.lines c.requires.0.walkable in
    let from = from_known c.requires.0.walkable c.loop-b.a k.known (c.before_of-task.ensures c.requires.0.problem c.requires.0.walkable.shown.tabled k.known) c.machine_before-from.ensures in
    let to = own_known c.requires.0.walkable c.loop-b.a k.known in
    omega arith

pub offset_bounds-ways-to : goal.offset_bounds-ways-to
offset_bounds-ways-to c = let k = c.loop-b.invariant.1 c.requires.0.problem c.requires.0.lines c.requires.0.walkable in
    let from = from_known c.requires.0.walkable c.loop-b.a k.known (c.before_of-task.ensures c.requires.0.problem c.requires.0.walkable.shown.tabled k.known) c.machine_before-from.ensures in
    let to = own_known c.requires.0.walkable c.loop-b.a k.known in
    omega arith

pub bounds-ways-from : goal.bounds-ways-from
bounds-ways-from c = let k = c.loop-b.invariant.1 c.requires.0.problem c.requires.0.lines c.requires.0.walkable in
    let from = from_known c.requires.0.walkable c.loop-b.a k.known (c.before_of-task.ensures c.requires.0.problem c.requires.0.walkable.shown.tabled k.known) c.machine_before-from.ensures in
    let to = own_known c.requires.0.walkable c.loop-b.a k.known in
    omega arith

pub bounds-ways-to : goal.bounds-ways-to
bounds-ways-to c = let k = c.loop-b.invariant.1 c.requires.0.problem c.requires.0.lines c.requires.0.walkable in
    let from = from_known c.requires.0.walkable c.loop-b.a k.known (c.before_of-task.ensures c.requires.0.problem c.requires.0.walkable.shown.tabled k.known) c.machine_before-from.ensures in
    let to = own_known c.requires.0.walkable c.loop-b.a k.known in
    omega arith

pub back_of-requires : goal.back_of-requires
back_of-requires c = let k = c.loop-b.invariant.1 c.requires.0.problem c.requires.0.lines c.requires.0.walkable in
    record { backed = (backed c.requires.0.walkable c.loop-b.a k.known, task_below c.requires.0.walkable c.loop-b.a k.known (c.before_of-task.ensures c.requires.0.problem c.requires.0.walkable.shown.tabled k.known) (length c.args.ends.now) c.requires.0.walkable.ended, c.requires.0.walkable.early, c.wide-way.ensures.1); a_in_bounds = (omega (arith, k.known, c.requires.0.walkable.started), c.requires.0.walkable.shown.linked ∙ sym c.requires.0.walkable.ended, omega (arith, k.known, c.requires.0.walkable.shown.linked)) }

pub loop-b-preserved : goal.loop-b-preserved
loop-b-preserved c = let k = c.loop-b.invariant.1 c.requires.0.problem c.requires.0.lines c.requires.0.walkable in
    let next : (p : Problem) (lines : Lines) (v : Walkable p lines c.args.table.now c.args.before.now c.args.machines.now c.args.ways.now (placed c.args.order.now c.args.starts.now c.args.ends.now)) → Walking p lines (placed c.args.order.now c.args.starts.now c.args.ends.now) v.falling.rank (set c.loop-b.path (c.loop-b.at - 1) c.loop-b.a) c.in-Some.b (c.loop-b.at - 1) =
    λ p lines v.
    let q = c.loop-b.invariant.1 p lines v in
    goes v q c.loop-b.invariant.0.within c.in-Some.b
    (sym c.in-Some.is ∙ back_is v c.loop-b.a q.known (c.before_of-task.ensures p v.shown.tabled q.known) c.machine_before-from.ensures c.wide-way.ensures.0 (c.back_of.ensures p v.shown.tabled q.known v.shown.few)) in
    let n = next c.requires.0.problem c.requires.0.lines c.requires.0.walkable in (
      record {
        room = omega (arith, n.high);
        within = omega (arith, c.loop-b.invariant.0.within, length-set c.loop-b.path (c.loop-b.at - 1) c.loop-b.a);
        sized = simp length-set c.loop-b.invariant.0.sized;
        kept = kept_below c.args.path.now c.loop-b.path c.loop-b.at c.loop-b.a c.loop-b.invariant.0.kept;
        standing = omega (arith, n.known, c.requires.0.walkable.shown.standing);
      },
      next,
    )

pub shape_of-path : goal.shape_of-path
shape_of-path c = simp length-set c.loop-b.invariant.0.sized

pub returns : goal.returns
returns c = let k = c.loop-b.invariant.1 c.requires.0.problem c.requires.0.lines c.requires.0.walkable in
    record {
      path_after = λ p lines v.
          let q = c.loop-b.invariant.1 p lines v in
          stops v q c.loop-b.invariant.0.within
          (sym c.in_default.is ∙ back_is v c.loop-b.a q.known (c.before_of-task.ensures p v.shown.tabled q.known) c.machine_before-from.ensures c.wide-way.ensures.0 (c.back_of.ensures p v.shown.tabled q.known v.shown.few));
      upper_bound = (omega (arith, c.loop-b.invariant.0.room, c.loop-b.invariant.0.within, c.loop-b.invariant.0.sized), kept_below c.args.path.now c.loop-b.path c.loop-b.at c.loop-b.a c.loop-b.invariant.0.kept);
    }
