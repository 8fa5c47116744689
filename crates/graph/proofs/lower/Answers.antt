-- `graph::lower` meets its contract: where the count falls to 0 the stack has room for one more. Assumes nothing.
use native.Mathlib.Omega.{arith}
use Rattle.graph.proofs.StackLaws.{push_room, lower_push, lower_keep}
use Rattle.graph.proofs.lower.Goals as goal

pub offset_bounds-stack-top : goal.offset_bounds-stack-top
offset_bounds-stack-top c = let h = push_room c.args.counts.now c.args.stack.now c.args.b c.args.top c.if-left-eq0.true c.requires.2 in
    omega arith

pub bounds-stack-top : goal.bounds-stack-top
bounds-stack-top c = let h = push_room c.args.counts.now c.args.stack.now c.args.b c.args.top c.if-left-eq0.true c.requires.2 in
    omega arith

pub overflow_add-result : goal.overflow_add-result
overflow_add-result c = let h = push_room c.args.counts.now c.args.stack.now c.args.b c.args.top c.if-left-eq0.true c.requires.2 in
    omega arith

pub returns-then-left-eq0 : goal.returns-then-left-eq0
returns-then-left-eq0 c = lower_push c.args.counts.now c.args.stack.now c.args.b c.args.top c.requires.2 c.if-left-eq0.true

pub returns : goal.returns
returns c = lower_keep c.args.counts.now c.args.stack.now c.args.b c.args.top c.if-left-eq0.false
