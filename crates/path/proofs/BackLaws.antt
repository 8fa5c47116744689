-- A step back goes along an arc: to the line predecessor, the task predecessor, or one that is named.
use Rattle.std.specs.Prelude.{None, Option, Some, ℕ}
use Prim.Native.Nat.{ℕ, ◌<◌}
use mathlib.Core.Path.{◌≡◌, refl, ap}
use mathlib.Core.Bool.{Bool}
use mathlib.Core.Logic.{⊎_elim}
use Rattle.graph.specs.Links.{to_if}
use Rattle.plan.specs.Problem.{Problem}
use Rattle.tables.specs.Tabled.{task_pred}
use Rattle.lines.specs.Lines.{Lines, line_pred}
use Rattle.timing.specs.Exactly.{Binds, line, task, name}
use Rattle.path.specs.Placing.{Placing}
use Rattle.path.specs.Path.{or_else, meeting, first_meeting, ends_at, arrives_at, back_of}
use Rattle.path.proofs.NeighbourLaws.{nothing_to, to_is}
use Rattle.path.proofs.MeetingLaws.{either_link, first-named}

meeting_to : (test : ℕ → Bool) (l : Option ℕ) (q : ℕ) → meeting test l ≡ Some q → l ≡ Some q
meeting_to test (Some b) q e = ap Some (to_is (test b) b q e).1
meeting_to test None q e = absurd (nothing_to e)

pub back_binds : (p : Problem) (lines : Lines) (s : Placing) (a q : ℕ) → a < p.n → back_of p lines s a ≡ Some q → Binds p lines q a
back_binds p lines s a q h e =
    ⊎_elim (λ x. line h (meeting_to (ends_at s a) (line_pred lines a) q x))
    (λ y.
    ⊎_elim (λ x. task h (meeting_to (arrives_at p lines s a) (task_pred p a) q x)) (λ z. name h (first-named (ends_at s a) (p.predecessors a) q z))
    (either_link (meeting (arrives_at p lines s a) (task_pred p a)) (first_meeting (ends_at s a) (p.predecessors a)) q y))
    (either_link (meeting (ends_at s a) (line_pred lines a)) (or_else (meeting (arrives_at p lines s a) (task_pred p a)) (first_meeting (ends_at s a) (p.predecessors a))) q e)

-- Two tests that agree on what a link names find the same.
pub meeting-same : (test other : ℕ → Bool) (l : Option ℕ) → ((b : ℕ) → l ≡ Some b → test b ≡ other b) → meeting test l ≡ meeting other l
meeting-same test other (Some b) h = ap (λ (t : Bool). to_if t b) (h b refl)
meeting-same test other None h = refl
