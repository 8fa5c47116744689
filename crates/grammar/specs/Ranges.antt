-- Document 01, "The input, word by word" and number 2: the range of each word.
use Rattle.std.specs.Prelude.{ℕ, Bool, true, ◌&&◌, ◌||◌, ltb, leb, eqb}
use Rattle.grammar.specs.declared.Known.{Known}
use Rattle.grammar.specs.declared.Kind.{Kind}
use Rattle.grammar.specs.declared.Kind.TheVariants.{Any, Span, Activity, Machine, MachineOrNone, Deadline, WeightHigh}

-- A word in its range. -1 is 4294967295. Two ranges go by the word before: a deadline is 0 after flag 0; a weight's high word, after its
-- low one, makes a number of 0..1 or -0 (1.0 has the high word 1072693248 and the low word 0, -0 has 2147483648 and 0).
abbrev pub in_range : Kind → Known → ℕ → ℕ → Bool
in_range Any k before w = true
in_range (Span low high) k before w = leb low w && leb w high
in_range Activity k before w = ltb w k.activities
in_range Machine k before w = ltb w k.machines
in_range MachineOrNone k before w = ltb w k.machines || eqb w 4294967295
in_range Deadline k before w = eqb before 1 || eqb w 0
in_range WeightHigh k before w = ltb w 1072693248 || (eqb before 0 && (eqb w 1072693248 || eqb w 2147483648))

-- How many words before itself a word's refusal names: the weight is refused at its low word.
abbrev pub back : Kind → ℕ
back Any = 0
back (Span low high) = 0
back Activity = 0
back Machine = 0
back MachineOrNone = 0
back Deadline = 0
back WeightHigh = 1
