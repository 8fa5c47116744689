-- `moves::apply` meets its contract: each move by the function that makes it. Assumes nothing.
use mathlib.Core.Path.{ap, ◌∙◌}
use Rattle.lines.specs.Lines.{Lines}
use Rattle.moves.specs.Moves.{joined}
use Rattle.moves.proofs.MoveLaws.{join_asks}
use borrow.Author.Rules.{rules}
use Rattle.moves.proofs.apply.Goals as goal

pub swap_on-requires : goal.swap_on-requires
swap_on-requires c = (record { roomy = c.requires.0; sixteen = search rules; fit = c.requires.1 }, rw c.in-Swap.is at c.requires.2)

pub shift_on-requires : goal.shift_on-requires
shift_on-requires c = (record { roomy = c.requires.0; sixteen = search rules; fit = c.requires.1 }, rw c.in-Shift.is at c.requires.2)

pub leave-requires : goal.leave-requires
leave-requires c = let f = rw c.in-Reassign.is at c.requires.2 in
    (record { roomy = c.requires.0; sixteen = search rules; fit = c.requires.1 }, f.old, f.from)

pub join-requires : goal.join-requires
join-requires c = let f = rw c.in-Reassign.is at c.requires.2 in
    let j = join_asks f c.leave.ensures.lens_after in
    (c.leave.ensures.holds, j.0, j.1, j.2)

pub returns-in-Swap : goal.returns-in-Swap
returns-in-Swap c = record { result_after = rw c.in-Swap.is c.swap_on.ensures; fit = c.requires.1 }

pub returns-in-Shift : goal.returns-in-Shift
returns-in-Shift c = record { result_after = rw c.in-Shift.is c.shift_on.ensures; fit = c.requires.1 }

pub returns-in-Reassign : goal.returns-in-Reassign
returns-in-Reassign c = record { result_after = rw c.in-Reassign.is (c.join.ensures.lens_after ∙ ap (λ (l : Lines). joined l c.in-Reassign.new c.in-Reassign.to c.in-Reassign.a) c.leave.ensures.lens_after); fit = c.join.ensures.holds.fit }
