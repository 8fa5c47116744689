-- `fitness::last_steps::row_words` meets its contract, by those of the three words.
use Rattle.words.specs.Words.{words}
use Rattle.fitness.proofs.LastLaws.{row_is}
use Rattle.fitness.proofs.last_steps.row_words.Goals as goal

pub returns : goal.returns
returns c = row_is (words c.args.s.now) c.args.at c.word-dated.ensures c.word-deadline.ensures c.word-steps.ensures
