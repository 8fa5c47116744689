-- Document 01, "The input, word by word" and number 3: the rules about counts and about entries.
use Rattle.std.specs.Prelude.{ℕ, zero, suc, ◌+◌, ◌*◌, ◌-◌, ◌≡◌, Bool, true, false, cond, not, ◌&&◌, ◌||◌, List, ltb, leb, eqb, get_or}
use Rattle.grammar.specs.declared.Section.{Section}
use Rattle.grammar.specs.declared.Known.{Known}
use Rattle.grammar.specs.declared.Rule.{Rule}
use Rattle.grammar.specs.declared.Rule.TheVariants.{Free, Rising, RisingOnce, Strict}
use Rattle.grammar.specs.declared.Check.{Check}
use Rattle.grammar.specs.declared.Check.TheVariants.{None, Total, Product, Most}
use Rattle.grammar.specs.declared.Keep.{Keep}
use Rattle.grammar.specs.declared.Keep.TheVariants.{Nothing, Tasks, Activities, Machines}

-- How many words an entry has.
abbrev pub width_of : Section → Known → ℕ
width_of s k = cond (eqb s.width 0) k.machines s.width

-- A count keeps its rule: the tasks' activities sum to n; Times has n · R entries; Assignment has at most n.
abbrev pub count_kept : Check → Known → ℕ → Bool
count_kept None k count = true
count_kept Total k count = eqb k.total count
count_kept Product k count = eqb count (k.activities * k.machines)
count_kept Most k count = leb count k.activities

-- The entries before `at` are `done` in number and `width` words each.

-- The entry's first word is not below that of the entry before it.
abbrev pub rising : (words : List ℕ) → (width done at : ℕ) → Bool
rising ws w done at = eqb done 0 || leb (get_or ws (at - w) 0) (get_or ws at 0)

-- One of the entries before `at` begins with the words a, m.
unfoldable pub pair_before : (words : List ℕ) → (width done at a m : ℕ) → Bool
pair_before ws w zero at a m = false
pair_before ws w (suc done) at a m =
    (eqb (get_or ws (at - w) 0) a && eqb (get_or ws (at - w + 1) 0) m) || pair_before ws w done (at - w) a m

-- Of `count` words each from p and from q on, the first that differs is less at p.
unfoldable pub precedes : (words : List ℕ) → (count p q : ℕ) → Bool
precedes ws zero p q = false
precedes ws (suc n) p q = ltb (get_or ws p 0) (get_or ws q 0) || (eqb (get_or ws p 0) (get_or ws q 0) && precedes ws n (p + 1) (q + 1))

-- The entry's first three words come after those of the entry before it.
abbrev pub strict : (words : List ℕ) → (width done at : ℕ) → Bool
strict ws w done at = eqb done 0 || precedes ws 3 (at - w) at

-- The entry at `at` keeps its rule: no pair twice, triples rise strictly.
abbrev pub entry_kept : (words : List ℕ) → Rule → (width done at : ℕ) → Bool
entry_kept ws Free w done at = true
entry_kept ws Rising w done at = rising ws w done at
entry_kept ws RisingOnce w done at = rising ws w done at && not (pair_before ws w done at (get_or ws at 0) (get_or ws (at + 1) 0))
entry_kept ws Strict w done at = strict ws w done at

-- Each of the entries before `at` kept the rising rule.
unfoldable pub Risen : (words : List ℕ) → (width done at : ℕ) → Type 0
Risen ws w zero at = Unit {0}
Risen ws w (suc done) at = (rising ws w done (at - w) ≡ true) × Risen ws w done (at - w)

-- The sum of the fifth words of n entries of five.
unfoldable pub total_from : (words : List ℕ) → (n at : ℕ) → ℕ
total_from ws zero at = 0
total_from ws (suc n) at = get_or ws (at + 4) 0 + total_from ws n (at + 5)

-- What is known once a count is read.
abbrev pub learnt : Keep → Known → ℕ → Known
learnt Nothing k n = k
learnt Tasks k n = record { tasks = n; activities = k.activities; machines = k.machines; total = k.total }
learnt Activities k n = record { tasks = k.tasks; activities = n; machines = k.machines; total = k.total }
learnt Machines k n = record { tasks = k.tasks; activities = k.activities; machines = n; total = k.total }

-- What is known once a section is read whose count stands at `at`.
abbrev pub after : (words : List ℕ) → Keep → Known → (at : ℕ) → Known
after ws Nothing k at = k
after ws Tasks k at =
    record { tasks = k.tasks; activities = k.activities; machines = k.machines; total = total_from ws k.tasks (at + 1) }
after ws Activities k at = k
after ws Machines k at = k
