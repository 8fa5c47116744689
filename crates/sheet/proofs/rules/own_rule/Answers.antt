use mathlib.Core.Path.{◌≡◌, sym, ap, ◌∙◌}
use mathlib.Core.Bool.{true}
use lib.Dec.{eqb}
use borrow.Author.Tests.{eq-eqb, ne_eqb}
use Rattle.words.specs.Words.{words}
use Rattle.plan.specs.Input.{problem_of}
use Rattle.sheet.specs.Rows.{first_row}
use Rattle.sheet.specs.Sheet.{lasts, span_after}
use Rattle.sheet.proofs.rules.own_rule.Goals as goal

pub returns-then-first-i : goal.returns-then-first-i
returns-then-first-i c = let f = first_row c.args.z.activities c.args.z.machines c.args.rows.now c.args.a in
    rw (ne_eqb f c.args.i (λ e. c.if-first-i.true (c.requires.a_lt_activities.4 ∙ e)))

pub returns-then-not-starts_from_zero : goal.returns-then-not-starts_from_zero
returns-then-not-starts_from_zero c = let f = first_row c.args.z.activities c.args.z.machines c.args.rows.now c.args.a in
    let e2 : eqb f c.args.i ≡ true = eq-eqb f c.args.i (sym c.requires.a_lt_activities.4 ∙ c.if-first-i.false) in
    rw (e2, sym c.starts_from_zero.ensures ∙ c.if-not-starts_from_zero.true)

pub returns-then-not-ends_in_time : goal.returns-then-not-ends_in_time
returns-then-not-ends_in_time c = let f = first_row c.args.z.activities c.args.z.machines c.args.rows.now c.args.a in
    let e2 : eqb f c.args.i ≡ true = eq-eqb f c.args.i (sym c.requires.a_lt_activities.4 ∙ c.if-first-i.false) in
    rw (e2, sym c.starts_from_zero.ensures ∙ c.if-not-starts_from_zero.false, sym c.ends_in_time.ensures ∙ c.if-not-ends_in_time.true)

pub lasts_for-requires : goal.lasts_for-requires
lasts_for-requires c = (c.requires.a_lt_activities.3, sym c.starts_from_zero.ensures ∙ c.if-not-starts_from_zero.false)

pub returns-then-not-lasts_for : goal.returns-then-not-lasts_for
returns-then-not-lasts_for c = let f = first_row c.args.z.activities c.args.z.machines c.args.rows.now c.args.a in
    let e2 : eqb f c.args.i ≡ true = eq-eqb f c.args.i (sym c.requires.a_lt_activities.4 ∙ c.if-first-i.false) in
    let e5 : c.lasts_for.result ≡ lasts c.args.rows.now c.args.i (span_after (problem_of (words c.args.s.now) c.args.z) c.args.rows.now c.args.a c.args.m c.args.before) = c.lasts_for.ensures ∙ ap (lasts c.args.rows.now c.args.i) c.span_after-span.ensures in
    rw (e2, sym c.starts_from_zero.ensures ∙ c.if-not-starts_from_zero.false, sym c.ends_in_time.ensures ∙ c.if-not-ends_in_time.false, sym e5 ∙ c.if-not-lasts_for.true)

pub returns : goal.returns
returns c = let f = first_row c.args.z.activities c.args.z.machines c.args.rows.now c.args.a in
    let e2 : eqb f c.args.i ≡ true = eq-eqb f c.args.i (sym c.requires.a_lt_activities.4 ∙ c.if-first-i.false) in
    let e5 : c.lasts_for.result ≡ lasts c.args.rows.now c.args.i (span_after (problem_of (words c.args.s.now) c.args.z) c.args.rows.now c.args.a c.args.m c.args.before) = c.lasts_for.ensures ∙ ap (lasts c.args.rows.now c.args.i) c.span_after-span.ensures in
    rw (e2, sym c.starts_from_zero.ensures ∙ c.if-not-starts_from_zero.false, sym c.ends_in_time.ensures ∙ c.if-not-ends_in_time.false, sym e5 ∙ c.if-not-lasts_for.false)
