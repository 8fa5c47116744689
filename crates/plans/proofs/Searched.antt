-- P1, P2 and P3: Plan S read from its bytes and searched, by computing.
use mathlib.Core.Path.{refl}
use lib.Ieee.{add, sub, mul, of_int, lt, of_bits, to_bits}
use Rattle.words.specs.Words as stored
use Rattle.graph.specs.Counting as counting
use Rattle.graph.specs.Filing as filing
use Rattle.graph.specs.Order as order
use Rattle.graph.specs.Shop as shop
use Rattle.graph.specs.Starts as starts
use Rattle.grammar.specs.Rules as rules
use Rattle.reader.specs.Reading as reading
use Rattle.plan.specs.Input as input
use Rattle.intake.specs.Circle as circle
use Rattle.lines.specs.Dealing as dealing
use Rattle.lines.specs.Lines as lines
use Rattle.moves.specs.Moves as moves
use Rattle.fitness.specs.Fitness as fitness
use Rattle.genes.specs.Indexed as genes
use Rattle.path.specs.Path as path
use Rattle.path.specs.Tails as tails
use Rattle.reassign.specs.Reassignments as reassign
use Rattle.blocks.specs.BlockMoves as blocks
use Rattle.trial.specs.Taboo as taboo
use Rattle.trial.specs.Trial as trial
use Rattle.search.specs.Saving as saving
use Rattle.search.specs.Search as search
use Rattle.plans.specs.Table.{P1, P2, P3}

pub without_steps : P1
unfolding stored.words stored.bytes_of reading.read_all reading.read_sections reading.read_section reading.read_entries reading.read_fields reading.read_word rules.total_from rules.pair_before rules.precedes input.owner input.seconds input.firsts order.order_of order.order_from order.stack_free order.free_all circle.each
without_steps = record { accepted = refl; answers = refl; numbered = refl }

pub one_step : P2
unfolding stored.words stored.bytes_of reading.read_all reading.read_sections reading.read_section reading.read_entries reading.read_fields reading.read_word rules.total_from rules.pair_before rules.precedes input.owner input.seconds input.firsts order.order_of order.order_from order.stack_free order.free_all circle.each input.change_from input.words_from genes.indexed_from genes.assigned_below dealing.at_end dealing.dealt dealing.lines_of counting.count_of counting.hit filing.naming lines.befores lines.afters lines.holder lines.position_of lines.place_on starts.timed shop.greatest fitness.latest fitness.sum_to add sub mul of_int of_bits lt path.walk_back path.last_from path.first_meeting tails.tails_down blocks.blocks_from blocks.moves_of_all blocks.shifts blocks.once blocks.is_among reassign.any_from moves.swap_at taboo.listed trial.tried_all trial.moves_of search.steps_from saving.tasks_of
one_step =
    record {
      answers = record { accepted = refl; answers = refl; numbered = refl };
      start = refl;
      move = refl;
      worse = refl;
    }

pub more_steps : P3
unfolding stored.words stored.bytes_of reading.read_all reading.read_sections reading.read_section reading.read_entries reading.read_fields reading.read_word rules.total_from rules.pair_before rules.precedes input.owner input.seconds input.firsts order.order_of order.order_from order.stack_free order.free_all circle.each input.change_from input.words_from genes.indexed_from genes.assigned_below dealing.at_end dealing.dealt dealing.lines_of counting.count_of counting.hit filing.naming lines.befores lines.afters lines.holder lines.position_of lines.place_on starts.timed shop.greatest fitness.latest fitness.sum_to add sub mul of_int of_bits lt path.walk_back path.last_from path.first_meeting tails.tails_down blocks.blocks_from blocks.moves_of_all blocks.shifts blocks.once blocks.is_among reassign.any_from moves.swap_at taboo.listed trial.tried_all trial.moves_of search.steps_from saving.tasks_of to_bits
more_steps =
    record {
      two = record { accepted = refl; answers = refl; numbered = refl };
      sixty = record { accepted = refl; answers = refl; numbered = refl };
      gain = refl;
      bits = refl;
    }
