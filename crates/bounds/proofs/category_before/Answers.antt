use Rattle.bounds.proofs.ArrivalLaws.{link_names}
use Rattle.bounds.proofs.category_before.Goals as goal

pub returns-in_default : goal.returns-in_default
returns-in_default c = λ p t h. rw c.in_default.is

pub category_of-requires : goal.category_of-requires
category_of-requires c = (link_names 128 c.in-Some.b c.in-Some.is c.requires.0, c.requires.1)

pub returns : goal.returns
returns c = λ p t h. rw c.in-Some.is (c.category_of.ensures p t (link_names p.n c.in-Some.b c.in-Some.is h))
