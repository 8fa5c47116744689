-- `reassign::is_flexible` meets its contract. The loop's invariant, for whatever problem the table holds: the answer is whether any of those left has two candidates.
use mathlib.Core.Path.{◌≡◌, sym, ap, ◌∙◌}
use mathlib.Core.Bool.{true, false}
use Prim.Native.Nat.{ℕ, ◌+◌, ◌-◌}
use native.Mathlib.Omega.{arith}
use borrow.Author.Tests.{le-leb, lt-leb}
use lib.Dec.{leb}
use lib.ListN.{length}
use Rattle.reassign.specs.Reassignments.{any_from}
use Rattle.reassign.proofs.WayLaws.{any_here, any_next, any_none}
use Rattle.reassign.proofs.is_flexible.Goals as goal

pub loop-a-init : goal.loop-a-init
loop-a-init c = λ p t e k. ap (λ (m : ℕ). any_from (λ x. leb 2 (length (p.candidates x))) m 0) (omega (arith, e))

pub returns-then-machines-ge2 : goal.returns-then-machines-ge2
returns-then-machines-ge2 c p t e k = let two : leb 2 (length (p.candidates c.loop-a.a)) ≡ true = rw (← c.candidates_of-machines.ensures p t (omega arith) k) (le-leb _ _ c.if-machines-ge2.true) in
    sym (any_here (λ x. leb 2 (length (p.candidates x))) (c.args.n - c.loop-a.a) c.loop-a.a (omega arith) two) ∙ c.loop-a.invariant p t e k

pub loop-a-preserved : goal.loop-a-preserved
loop-a-preserved c = λ p t e k.
    let one : leb 2 (length (p.candidates c.loop-a.a)) ≡ false = rw (← c.candidates_of-machines.ensures p t (omega arith) k) (lt-leb _ _ c.if-machines-ge2.false) in
    sym (any_next (λ x. leb 2 (length (p.candidates x))) (c.args.n - c.loop-a.a) (c.args.n - (c.loop-a.a + 1)) c.loop-a.a (omega arith) one) ∙ c.loop-a.invariant p t e k

pub returns : goal.returns
returns c p t e k = sym (any_none (λ x. leb 2 (length (p.candidates x))) (c.args.n - c.loop-a.a) c.loop-a.a (omega (arith, c.loop-a-test.false))) ∙ c.loop-a.invariant p t e k
