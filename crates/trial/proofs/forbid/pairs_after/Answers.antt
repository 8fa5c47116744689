-- `trial::forbid::pairs_after` meets its contract, a case for each kind of move. Assumes nothing.
use mathlib.Core.Path.{ap, ◌∙◌, subst}
use Rattle.moves.specs.declared.Move.{Move}
use Rattle.moves.specs.declared.Pairing.{Pairing}
use Rattle.moves.specs.Moves.{Reads}
use Rattle.trial.specs.Taboo.{listing_pair}
use Rattle.trial.proofs.forbid.pairs_after.Goals as goal

pub pair-requires : goal.pair-requires
pair-requires c = (c.requires.1, subst (λ (x : Move). Reads x) c.in-Swap.is c.requires.2)

pub pair-requires-in-Shift : goal.pair-requires-in-Shift
pair-requires-in-Shift c = (c.requires.1, subst (λ (x : Move). Reads x) c.in-Shift.is c.requires.2)

pub returns-in-Swap : goal.returns-in-Swap
returns-in-Swap c = rw c.in-Swap.is (c.list.ensures ∙ ap (λ (x : Pairing). listing_pair c.args.step c.args.pairs x) c.pair.ensures)

pub returns-in-Shift : goal.returns-in-Shift
returns-in-Shift c = rw c.in-Shift.is (c.list-in-Shift.ensures ∙ ap (λ (x : Pairing). listing_pair c.args.step c.args.pairs x) c.pair-in-Shift.ensures)
