-- `sheet::check_rows` meets its contract. The loop's invariant: for each machine its last row before row i is known, and the answer to the
-- rows from i on is the answer to all.
use Rattle.words.specs.Words.{words}
use Rattle.plan.specs.Input.{problem_of}
use Rattle.sheet.proofs.CheckLaws.{Checking}
use Rattle.sheet.proofs.check_rows.Given as goal

abbrev pub invariant-loop-i : goal.invariant-loop-i
invariant-loop-i l = Checking (problem_of (words l.s) l.z) l.rows l.last_on l.i
