-- `ranking::at` meets its contract. Assumes nothing.
use Rattle.ranking.proofs.KeepLaws.{first_at, second_at, third_at}
use Rattle.ranking.proofs.at.Goals as goal

pub returns-then-k-eq0 : goal.returns-then-k-eq0
returns-then-k-eq0 c = λ other. first_at c.args.three.first c.args.three.second c.args.three.third other c.args.three.count c.args.k c.requires c.if-k-eq0.true

pub returns-then-k-eq1 : goal.returns-then-k-eq1
returns-then-k-eq1 c = λ other. second_at c.args.three.first c.args.three.second c.args.three.third other c.args.three.count c.args.k c.requires c.if-k-eq1.true

pub returns : goal.returns
returns c = λ other. third_at c.args.three.first c.args.three.second c.args.three.third other c.args.three.count c.args.k c.args.three.few c.requires c.if-k-eq0.false c.if-k-eq1.false
