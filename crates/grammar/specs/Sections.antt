-- Document 01, "The input, word by word": the ten sections, each after its count, as rows of data.
use Rattle.std.specs.Prelude.{ℕ, zero, suc, List, [], ◌∷◌, length, get_or}
use Rattle.grammar.specs.declared.Section.{Section}
use Rattle.grammar.specs.declared.Kind.{Kind}
use Rattle.grammar.specs.declared.Kind.TheVariants.{Any, Span, Activity, Machine, MachineOrNone, Deadline, WeightHigh}
use Rattle.grammar.specs.declared.Rule.{Rule}
use Rattle.grammar.specs.declared.Rule.TheVariants.{Free, Rising, RisingOnce, Strict}
use Rattle.grammar.specs.declared.Check.{Check}
use Rattle.grammar.specs.declared.Check.TheVariants.{None, Total, Product, Most}
use Rattle.grammar.specs.declared.Keep.{Keep}
use Rattle.grammar.specs.declared.Keep.TheVariants.{Nothing, Tasks, Activities, Machines}

-- A duration, a setup or a transport time.
abbrev pub time : Kind
time = Span 0 2147483647

-- A row: the least and the greatest count, what the count is kept as, the rule about it; the rule about an entry, and the kind of each of
-- its words. The record has room for five kinds.
abbrev pub row : ℕ → ℕ → Keep → Check → Rule → List Kind → Section
row low high keep check rule kinds =
    record {
      low = low;
      high = high;
      keep = keep;
      check = check;
      rule = rule;
      width = length kinds;
      a = get_or kinds 0 Any;
      b = get_or kinds 1 Any;
      c = get_or kinds 2 Any;
      d = get_or kinds 3 Any;
      e = get_or kinds 4 Any;
    }

-- A row whose entries have one word of the kind for each machine, which a width of 0 says.
abbrev pub row_by_machine : ℕ → ℕ → Keep → Check → Rule → Kind → Section
row_by_machine low high keep check rule kind =
    record {
      low = low;
      high = high;
      keep = keep;
      check = check;
      rule = rule;
      width = 0;
      a = kind;
      b = kind;
      c = kind;
      d = kind;
      e = kind;
    }

abbrev pub sections : List Section
sections =
    row 1 32 Tasks None Free (Span 0 7 ∷ Any ∷ Span 0 1 ∷ Deadline ∷ Span 1 128 ∷ [])  -- Tasks: category, release, deadline flag, deadline, activities
    ∷ row 1 128 Activities Total Free (Any ∷ [])  -- Activities: release
    ∷ row_by_machine 1 16 Machines None Free time  -- Machines: transport times from this machine
    ∷ row 0 4294967295 Nothing Product Free (time ∷ time ∷ time ∷ [])  -- Times: setup, process, teardown
    ∷ row 0 2048 Nothing None RisingOnce (Activity ∷ Machine ∷ [])  -- Candidates: activity, machine
    ∷ row 0 1152 Nothing None Strict (Machine ∷ Span 0 8 ∷ Span 0 7 ∷ time ∷ [])  -- Setups: machine, previous category, category, setup
    ∷ row 0 256 Nothing None Rising (Activity ∷ Activity ∷ [])  -- Predecessors: activity, predecessor
    ∷ row 1 1 Nothing None Free (Any ∷ WeightHigh ∷ Span 0 1000 ∷ [])  -- Search: weight's low and high word, steps
    ∷ row 0 256 Nothing None Free (Any ∷ [])  -- Order: task number
    ∷ row 0 128 Nothing Most Free (MachineOrNone ∷ [])  -- Assignment: machine or none
    ∷ []

-- What stands for a row past the last.
abbrev pub no_section : Section
no_section = row 0 0 Nothing None Free []

-- The f-th of five, the fifth for every later one.
abbrev pub pick : ℕ → Kind → Kind → Kind → Kind → Kind → Kind
pick zero a b c d e = a
pick (suc zero) a b c d e = b
pick (suc (suc zero)) a b c d e = c
pick (suc (suc (suc zero))) a b c d e = d
pick (suc (suc (suc (suc f)))) a b c d e = e

-- The kind of an entry's f-th word.
abbrev pub kind_at : Section → ℕ → Kind
kind_at s f = pick f s.a s.b s.c s.d s.e
