use native.Mathlib.Omega.{arith}
use mathlib.Core.Path.{◌≡◌, sym, ap, ◌∙◌}
use Rattle.std.specs.Prelude.{None}
use lib.ListN.{get_or}
use Rattle.std.proofs.lemmas.Result.{err_from_is_err_and}
use Rattle.words.specs.Words.{words}
use Rattle.graph.proofs.CountingLaws.{below_more}
use Rattle.plan.specs.Input.{problem_of}
use Rattle.sheet.specs.Sheet.{all, ends_by, waits_until, after_step, after_named, own_rule}
use Rattle.sheet.proofs.SearchLaws.{first_within}
use Rattle.sheet.proofs.RuleLaws.{broken_is, none_is, step_asked, names_asked}
use Rattle.sheet.proofs.rules.later_rule.Goals as goal

pub own_rule-requires : goal.own_rule-requires
own_rule-requires c = let p = problem_of (words c.args.s.now) c.args.z in
    record { placed = c.requires.placed; a_lt_activities = (c.requires.a_lt_activities.0, c.requires.a_lt_activities.1, c.requires.a_lt_activities.2, c.requires.a_lt_activities.3, c.requires.a_lt_activities.4.at c.args.a (omega (arith, c.requires.a_lt_activities.0, c.requires.placed.1.activities.1))) }

pub returns-in_err-own_rule : goal.returns-in_err-own_rule
returns-in_err-own_rule c = let p = problem_of (words c.args.s.now) c.args.z in
    let q = err_from_is_err_and c.from_residual.result c.from_residual.ensures.1 in
    rw (q.1, q.2, broken_is (own_rule p c.args.rows.now c.args.i c.args.a c.args.m c.args.before) (sym c.in_err-own_rule.was ∙ c.own_rule.ensures))

pub returns-then-not-waits_until : goal.returns-then-not-waits_until
returns-then-not-waits_until c = let p = problem_of (words c.args.s.now) c.args.z in
    let e0 : own_rule p c.args.rows.now c.args.i c.args.a c.args.m c.args.before ≡ None = none_is (own_rule p c.args.rows.now c.args.i c.args.a c.args.m c.args.before) (sym c.in_ok-own_rule.was ∙ c.own_rule.ensures) in
    let e6 : c.waits_until.result ≡ waits_until c.args.rows.now c.args.i (p.release c.args.a) = c.waits_until.ensures ∙ ap (waits_until c.args.rows.now c.args.i) (c.release_of-release.ensures p c.requires.placed.2 c.requires.a_lt_activities.0) in
    rw (e0, sym e6 ∙ c.if-not-waits_until.true)

pub returns-then-not-ends_by : goal.returns-then-not-ends_by
returns-then-not-ends_by c = let p = problem_of (words c.args.s.now) c.args.z in
    let e0 : own_rule p c.args.rows.now c.args.i c.args.a c.args.m c.args.before ≡ None = none_is (own_rule p c.args.rows.now c.args.i c.args.a c.args.m c.args.before) (sym c.in_ok-own_rule.was ∙ c.own_rule.ensures) in
    let e6 : c.waits_until.result ≡ waits_until c.args.rows.now c.args.i (p.release c.args.a) = c.waits_until.ensures ∙ ap (waits_until c.args.rows.now c.args.i) (c.release_of-release.ensures p c.requires.placed.2 c.requires.a_lt_activities.0) in
    rw (e0, sym e6 ∙ c.if-not-waits_until.false, sym c.ends_by.ensures ∙ c.if-not-ends_by.true)

pub after_step-requires : goal.after_step-requires
after_step-requires c = let p = problem_of (words c.args.s.now) c.args.z in
    (record { problem = p; tabled = c.requires.placed.2; known = c.requires.a_lt_activities.0; few = c.requires.placed.1.activities.1 }, c.requires.a_lt_activities.3, c.requires.a_lt_activities.4.sized, λ x h. omega (arith, first_within c.requires.a_lt_activities.4 x h))

pub returns-then-not-after_step : goal.returns-then-not-after_step
returns-then-not-after_step c = let p = problem_of (words c.args.s.now) c.args.z in
    let e0 : own_rule p c.args.rows.now c.args.i c.args.a c.args.m c.args.before ≡ None = none_is (own_rule p c.args.rows.now c.args.i c.args.a c.args.m c.args.before) (sym c.in_ok-own_rule.was ∙ c.own_rule.ensures) in
    let e6 : c.waits_until.result ≡ waits_until c.args.rows.now c.args.i (p.release c.args.a) = c.waits_until.ensures ∙ ap (waits_until c.args.rows.now c.args.i) (c.release_of-release.ensures p c.requires.placed.2 c.requires.a_lt_activities.0) in
    let e8 : c.after_step.result ≡ after_step p c.args.rows.now c.args.i c.args.a = c.after_step.ensures p c.requires.placed.2 c.requires.a_lt_activities.0 ∙ step_asked p c.requires.a_lt_activities.4 c.requires.placed.1.activities.1 c.args.i c.args.a c.requires.a_lt_activities.0 in
    rw (e0, sym e6 ∙ c.if-not-waits_until.false, sym c.ends_by.ensures ∙ c.if-not-ends_by.false, sym e8 ∙ c.if-not-after_step.true)

pub after_named-requires : goal.after_named-requires
after_named-requires c = let p = problem_of (words c.args.s.now) c.args.z in
    (c.requires.a_lt_activities.3, c.requires.a_lt_activities.4.sized, (λ x h. omega (arith, first_within c.requires.a_lt_activities.4 x h)), rw (c.named_by-named.ensures p c.requires.placed.2 c.requires.a_lt_activities.0 c.requires.placed.1.activities.1) (below_more p.n 128 (p.predecessors c.args.a) c.requires.placed.1.activities.1 (c.requires.placed.1.predecessors c.args.a)))

pub returns-then-not-after_named : goal.returns-then-not-after_named
returns-then-not-after_named c = let p = problem_of (words c.args.s.now) c.args.z in
    let e0 : own_rule p c.args.rows.now c.args.i c.args.a c.args.m c.args.before ≡ None = none_is (own_rule p c.args.rows.now c.args.i c.args.a c.args.m c.args.before) (sym c.in_ok-own_rule.was ∙ c.own_rule.ensures) in
    let e6 : c.waits_until.result ≡ waits_until c.args.rows.now c.args.i (p.release c.args.a) = c.waits_until.ensures ∙ ap (waits_until c.args.rows.now c.args.i) (c.release_of-release.ensures p c.requires.placed.2 c.requires.a_lt_activities.0) in
    let e8 : c.after_step.result ≡ after_step p c.args.rows.now c.args.i c.args.a = c.after_step.ensures p c.requires.placed.2 c.requires.a_lt_activities.0 ∙ step_asked p c.requires.a_lt_activities.4 c.requires.placed.1.activities.1 c.args.i c.args.a c.requires.a_lt_activities.0 in
    let e9 : c.after_named.result ≡ after_named p c.args.rows.now c.args.i c.args.a = c.after_named.ensures ∙ ap (all (λ x. ends_by c.args.rows.now c.args.i (get_or c.args.firsts.now x 0))) (c.named_by-named.ensures p c.requires.placed.2 c.requires.a_lt_activities.0 c.requires.placed.1.activities.1) ∙ names_asked p c.requires.a_lt_activities.4 c.requires.placed.1.activities.1 c.args.i c.args.a (c.requires.placed.1.predecessors c.args.a) in
    rw (e0, sym e6 ∙ c.if-not-waits_until.false, sym c.ends_by.ensures ∙ c.if-not-ends_by.false, sym e8 ∙ c.if-not-after_step.false, sym e9 ∙ c.if-not-after_named.true)

pub returns : goal.returns
returns c = let p = problem_of (words c.args.s.now) c.args.z in
    let e0 : own_rule p c.args.rows.now c.args.i c.args.a c.args.m c.args.before ≡ None = none_is (own_rule p c.args.rows.now c.args.i c.args.a c.args.m c.args.before) (sym c.in_ok-own_rule.was ∙ c.own_rule.ensures) in
    let e6 : c.waits_until.result ≡ waits_until c.args.rows.now c.args.i (p.release c.args.a) = c.waits_until.ensures ∙ ap (waits_until c.args.rows.now c.args.i) (c.release_of-release.ensures p c.requires.placed.2 c.requires.a_lt_activities.0) in
    let e8 : c.after_step.result ≡ after_step p c.args.rows.now c.args.i c.args.a = c.after_step.ensures p c.requires.placed.2 c.requires.a_lt_activities.0 ∙ step_asked p c.requires.a_lt_activities.4 c.requires.placed.1.activities.1 c.args.i c.args.a c.requires.a_lt_activities.0 in
    let e9 : c.after_named.result ≡ after_named p c.args.rows.now c.args.i c.args.a = c.after_named.ensures ∙ ap (all (λ x. ends_by c.args.rows.now c.args.i (get_or c.args.firsts.now x 0))) (c.named_by-named.ensures p c.requires.placed.2 c.requires.a_lt_activities.0 c.requires.placed.1.activities.1) ∙ names_asked p c.requires.a_lt_activities.4 c.requires.placed.1.activities.1 c.args.i c.args.a (c.requires.placed.1.predecessors c.args.a) in
    rw (e0, sym e6 ∙ c.if-not-waits_until.false, sym c.ends_by.ensures ∙ c.if-not-ends_by.false, sym e8 ∙ c.if-not-after_step.false, sym e9 ∙ c.if-not-after_named.false)
