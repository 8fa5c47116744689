-- Outcome 14: the plan with the order and the machines that Improve writes is taken in, and means the same problem with just these genes.
use Prim.Native.Nat.{ℕ, ◌^◌, ◌≤◌, ◌<◌}
use mathlib.Core.Path.{◌≡◌, refl, sym, subst}
use mathlib.Core.List.{List}
use native.Mathlib.Nat.{le_trans}
use native.Mathlib.Omega.{arith}
use lib.Ieee.{Float}
use lib.ListN.{length, get_or}
use Rattle.words.proofs.WordLaws.{below_all}
use Rattle.reader.specs.Answer.{Accepted as Taken}
use Rattle.intake.specs.Intake.{problem_in, genes_in, taken_in}
use Rattle.intake.proofs.Soundness.{taken_in_means}
use Rattle.search.specs.Search.{improved, improve}
use Rattle.renewed.specs.Meaning.{Renewed}
use Rattle.renewed.proofs.TakenLaws.{renewed_plan_lem}
use Rattle.improved_genes.proofs.Theorem.{improves}

few : (length n : ℕ) → length ≡ n → n ≤ 128 → length ≤ 256
few length n e h = omega (arith, e, h)

as_many : (length n : ℕ) → length ≡ n → length ≤ n
as_many length n e = omega (arith, e)

pub improved_renewed : (s : List ℕ) → (taken_in s).answer ≡ Taken → (f : Float) (tasks machines : List ℕ)
    → improve (problem_in s (taken_in s)) (genes_in s (taken_in s)) ≡ improved f tasks machines → Renewed s tasks machines
improved_renewed s taken f tasks machines e =
    let p = problem_in s (taken_in s) in
    let ok = (taken_in_means s (taken_in s) refl taken).accepted in
    let whole = ((improves p (genes_in s (taken_in s)) ok).fourteen f tasks machines e).whole in
    renewed_plan_lem s tasks machines taken (few (length tasks) p.n whole.all_named ok.activities.1) (as_many (length machines) p.n whole.all_seated)
    (below_all (2 ^ 32) tasks (λ i h. le_trans (whole.named_known i (subst (λ (n : ℕ). i < n) whole.all_named h)) (le_trans ok.tasks.1 (omega arith))))
    (below_all p.machines machines (λ i h. whole.known i (subst (λ (n : ℕ). i < n) whole.all_seated h)))
