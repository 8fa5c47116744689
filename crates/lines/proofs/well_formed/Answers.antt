-- `lines::well_formed` meets its contract: the test is the calls' answers. Assumes nothing.
use mathlib.Core.Path.{sym, ap, ◌∙◌}
use Prim.Native.Nat.{ℕ}
use mathlib.Core.List.{List}
use native.Mathlib.Omega.{arith}
use lib.ListN.{length, get_or}
use Rattle.graph.proofs.NamingLaws.{zeros_at}
use Rattle.lines.proofs.CountLaws.{unfit, fit_of, unknown, decided}
use Rattle.lines.proofs.well_formed.Goals as goal

pub returns-then-not-all_fit : goal.returns-then-not-all_fit
returns-then-not-all_fit c = unfit c.args.n c.args.machines c.args.cells.now c.args.lens (sym c.all_fit.ensures ∙ c.if-not-all_fit.true)

pub count_lines-requires : goal.count_lines-requires
count_lines-requires c = (
  omega (arith, c.fill.ensures.len, c.requires.0),
  c.requires.2,
  fit_of c.args.n c.args.machines c.args.cells.now c.args.lens (sym c.all_fit.ensures ∙ c.if-not-all_fit.false),
  λ a. ap (λ (l : List ℕ). get_or l a 0) (c.fill.ensures.after (λ y e. e)) ∙ zeros_at (length c.args.seen.now) a,
)

pub returns-then-not-count_lines : goal.returns-then-not-count_lines
returns-then-not-count_lines c = unknown c.args.n c.args.machines c.args.cells.now c.args.lens (sym c.all_fit.ensures ∙ c.if-not-all_fit.false)
    (sym c.count_lines.ensures.told ∙ c.if-not-count_lines.true)

pub returns : goal.returns
returns c = let y = c.if-not-count_lines.false in
    c.all_one.ensures
    ∙ decided c.args.n c.args.machines c.args.cells.now c.args.lens (sym c.all_fit.ensures ∙ c.if-not-all_fit.false)
    (sym c.count_lines.ensures.told ∙ y) _
    (omega (arith, c.count_lines.auto.seen, c.fill.ensures.len, c.requires.0)) (c.count_lines.ensures.counted y)
