-- `lines::all_below` meets its contract: all are activities. Assumes nothing.
use Rattle.std.proofs.Common.{◌∙◌, rules, tests}
use Rattle.std.proofs.lemmas.Iterator.{YieldsList-from_slice}
use Rattle.std.proofs.lemmas.Iterator.Search.{all_from_yields_List}
use lib.Dec.{ltb}
use Rattle.lines.proofs.TestLaws.{all_listed}
use Rattle.lines.proofs.all_below.Goals as goal

pub returns : goal.returns
returns c = all_from_yields_List (λ k. ltb k c.args.n) _ _ _ c.all.ensures.ran (YieldsList-from_slice c.args.line.now cc) (λ x b q k. search (rules, tests))
    ∙ all_listed (λ k. ltb k c.args.n) c.args.line.now
