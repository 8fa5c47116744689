-- The lines that genes give: there are sixteen, and each activity is on its machine. Assumes nothing.
use Rattle.std.specs.Prelude.{None, Option, Some, unwrap_or}
use Prim.Native.Nat.{ℕ, zero, suc, ◌≤◌, ◌<◌}
use mathlib.Core.Path.{◌≡◌, refl, sym, ap, ◌∙◌, subst}
use mathlib.Core.Bool.{Bool, true, false, false≢true}
use mathlib.Core.List.{List, [], ◌∷◌}
use native.Mathlib.Omega.{arith}
use borrow.Author.Tests.{eqb-true}
use lib.Dec.{eqb}
use lib.ListN.{length, get_or, replicate}
use Rattle.graph.specs.Filing.{cons_if}
use Rattle.graph.proofs.CountingLaws.{either}
use Rattle.plan.specs.Problem.{Genes}
use Rattle.lines.specs.Lines.{Lines, machine_of, position_of, WellFormed}
use Rattle.lines.specs.Dealing.{at_end, dealt, lines_of, on_machine}
use Rattle.lines.proofs.LineLaws.{machine_below, stands_at}
use Rattle.lines.proofs.DealLaws.{line_of_lem}
use Rattle.lines.proofs.TestLaws.{both_true}
use Rattle.genes.specs.Indexed.{is_assigned, assigned_below}

end_many : (lines : Lines) (m a : ℕ) → length (at_end lines m a) ≡ length lines
unfolding at_end
end_many [] m a = refl
end_many (l ∷ lines) zero a = refl
end_many (l ∷ lines) (suc m) a = ap suc (end_many lines m a)

dealt_many : (on : ℕ → ℕ) (activities : List ℕ) (lines : Lines) → length (dealt on activities lines) ≡ length lines
unfolding dealt
dealt_many on [] lines = refl
dealt_many on (a ∷ activities) lines = dealt_many on activities (at_end lines (on a) a) ∙ end_many lines (on a) a

pub lines_many : (on : ℕ → ℕ) (activities : List ℕ) → length (lines_of on activities) ≡ 16
unfolding lines_of
lines_many on activities = dealt_many on activities (replicate 16 [])

on_machine_lem : (on : ℕ → ℕ) (m : ℕ) (activities : List ℕ) (i : ℕ) → i < length (on_machine on m activities) → on (get_or (on_machine on m activities) i 0) ≡ m
unfolding on_machine
on_machine_lem on m [] i h = absurd (omega arith)
on_machine_lem on m (a ∷ activities) i h = by_test (eqb (on a) m) refl i (λ j l. on_machine_lem on m activities j l) h
  where
    by_test : (t : Bool) → eqb (on a) m ≡ t → (i : ℕ) → ((j : ℕ) → j < length (on_machine on m activities) → on (get_or (on_machine on m activities) j 0) ≡ m)
        → i < length (cons_if t a (on_machine on m activities)) → on (get_or (cons_if t a (on_machine on m activities)) i 0) ≡ m
    by_test true e zero deeper l = eqb-true (on a) m e
    by_test true e (suc i) deeper l = deeper i (omega arith)
    by_test false e i deeper l = deeper i l

-- each activity is on the machine that it was dealt to
pub dealt_machine : {n R : ℕ} (on : ℕ → ℕ) (activities : List ℕ) → WellFormed n R (lines_of on activities) → R ≤ 16 → (a : ℕ) → a < n → on a ≡ machine_of (lines_of on activities) a
dealt_machine {n} {R} on activities w few a h =
    let m = machine_of (lines_of on activities) a in
    let i = position_of (lines_of on activities) a in
    let s = stands_at w a h in
    let line : get_or (lines_of on activities) m [] ≡ on_machine on m activities = line_of_lem on activities m (omega (arith, few, machine_below w a h)) in
    ap on (sym (ap (λ (l : List ℕ). get_or l i 0) (sym line) ∙ s.1)) ∙ on_machine_lem on m activities i (omega (arith, s.0, ap length line))

-- .. that it has
pub assigned_some : (o : Option ℕ) → is_assigned o ≡ true → o ≡ Some (unwrap_or o 0)
assigned_some None e = absurd (false≢true e)
assigned_some (Some m) e = refl

pub assigned_each : (g : Genes) (k a : ℕ) → assigned_below g k ≡ true → a < k → is_assigned (g.assigned a) ≡ true
unfolding assigned_below
assigned_each g zero a e h = absurd (omega arith)
assigned_each g (suc k) a e h =
    let w = both_true (assigned_below g k) (is_assigned (g.assigned k)) e in
    either a k (λ q. subst (λ (x : ℕ). is_assigned (g.assigned x) ≡ true) (sym q) w.1) (λ ne. assigned_each g k a w.0 (omega (arith, h, ne)))
