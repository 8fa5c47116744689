-- `trial::weigh_move` meets its contract: what is held and what is kept go by one test. Assumes nothing.
use mathlib.Core.Bool.{true, false}
use mathlib.Core.Path.{◌≡◌, sym, ap, ◌∙◌}
use lib.Ieee.{Float}
use lib.ListN.{get_or}
use Rattle.words.specs.Words.{words}
use Rattle.plan.specs.Input.{problem_of}
use Rattle.fitness.specs.Fitness.{fitness_of}
use Rattle.trial.specs.declared.Best.TheVariants.{Found}
use Rattle.trial.specs.Trial.{counts}
use Rattle.trial.proofs.WeighLaws.{weighed_kept, weighed_taken, list_kept, list_taken}
use Rattle.trial.proofs.weigh_move.Goals as goal

pub returns-then-not-counts : goal.returns-then-not-counts
returns-then-not-counts c = let e : (counts c.args.forbidden c.args.best (fitness_of (problem_of (words c.args.s.now) c.args.z) (λ a. get_or c.args.ends.now a 0)) c.args.held) ≡ false = ap (λ (f : Float). counts c.args.forbidden c.args.best f c.args.held) (sym c.fitness_by_last_steps-fitness.ensures) ∙ sym c.counts.ensures ∙ c.if-not-counts.true in
    record { answer = weighed_kept c.args.forbidden c.args.best (fitness_of (problem_of (words c.args.s.now) c.args.z) (λ a. get_or c.args.ends.now a 0)) c.args.m c.args.held e; order = list_kept (counts c.args.forbidden c.args.best (fitness_of (problem_of (words c.args.s.now) c.args.z) (λ a. get_or c.args.ends.now a 0)) c.args.held) _ _ e; starts = list_kept (counts c.args.forbidden c.args.best (fitness_of (problem_of (words c.args.s.now) c.args.z) (λ a. get_or c.args.ends.now a 0)) c.args.held) _ _ e; ends = list_kept (counts c.args.forbidden c.args.best (fitness_of (problem_of (words c.args.s.now) c.args.z) (λ a. get_or c.args.ends.now a 0)) c.args.held) _ _ e }

pub returns : goal.returns
returns c = let e : (counts c.args.forbidden c.args.best (fitness_of (problem_of (words c.args.s.now) c.args.z) (λ a. get_or c.args.ends.now a 0)) c.args.held) ≡ true = ap (λ (f : Float). counts c.args.forbidden c.args.best f c.args.held) (sym c.fitness_by_last_steps-fitness.ensures) ∙ sym c.counts.ensures ∙ c.if-not-counts.false in
    record { answer = ap (λ (f : Float). Found f c.args.m) c.fitness_by_last_steps-fitness.ensures ∙ weighed_taken c.args.forbidden c.args.best (fitness_of (problem_of (words c.args.s.now) c.args.z) (λ a. get_or c.args.ends.now a 0)) c.args.m c.args.held e; order = c.copy.ensures ∙ list_taken (counts c.args.forbidden c.args.best (fitness_of (problem_of (words c.args.s.now) c.args.z) (λ a. get_or c.args.ends.now a 0)) c.args.held) _ _ e; starts = c.copy-2.ensures ∙ list_taken (counts c.args.forbidden c.args.best (fitness_of (problem_of (words c.args.s.now) c.args.z) (λ a. get_or c.args.ends.now a 0)) c.args.held) _ _ e; ends = c.copy-3.ensures ∙ list_taken (counts c.args.forbidden c.args.best (fitness_of (problem_of (words c.args.s.now) c.args.z) (λ a. get_or c.args.ends.now a 0)) c.args.held) _ _ e }
