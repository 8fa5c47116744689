-- `blocks::offers::weigh` meets its contract.
use Rattle.blocks.proofs.offers.weigh.Goals as goal

pub returns-then-all : goal.returns-then-all
returns-then-all c = λ p order v l e. rw c.if-all.true

pub returns : goal.returns
returns c = λ p order v l e. rw c.if-all.false (rw (c.min-first.ensures, c.max-last.ensures) at (c.estimate.ensures p order v l e))
