-- `lines::all_zero` meets its contract: no machine has a line. Assumes nothing.
use Rattle.std.proofs.Common.{◌∙◌, rules, tests}
use Rattle.std.proofs.lemmas.Iterator.{YieldsList-from_slice}
use Rattle.std.proofs.lemmas.Iterator.Search.{all_from_yields_List}
use lib.Dec.{eqb}
use Rattle.lines.proofs.TestLaws.{all_listed}
use Rattle.lines.proofs.all_zero.Goals as goal

pub returns : goal.returns
returns c = all_from_yields_List (λ k. eqb k 0) _ _ _ c.all.ensures.ran (YieldsList-from_slice c.args.lens.now cc) (λ x b q k. search (rules, tests))
    ∙ all_listed (λ k. eqb k 0) c.args.lens.now
