-- Document 01, "Numbers on the screen", numbers 1, 2, 3 and 5: word by word, each read and ranged before the next; an entry's rule after all
-- its words, a count's rule right after the count; what follows the last section is refused last.
-- Places within the words are word numbers; a refusal's place is a byte number.
use Rattle.std.specs.Prelude.{ℕ, zero, suc, ◌+◌, ◌*◌, ◌-◌, Bool, cond, List, [], ◌∷◌, ltb, length, get_or, set, replicate, Result, Ok, Err}
use Rattle.words.specs.Words.{words}
use Rattle.grammar.specs.Sections.{sections, kind_at}
use Rattle.grammar.specs.Ranges.{in_range, back}
use Rattle.grammar.specs.Rules.{width_of, count_kept, entry_kept, learnt, after}
use Rattle.grammar.specs.declared.Section.{Section}
use Rattle.grammar.specs.declared.Known.{Known}
use Rattle.grammar.specs.declared.Kind.{Kind}
use Rattle.grammar.specs.declared.Kind.TheVariants.{Span}
use Rattle.reader.specs.Refusals.{refusal}
use Rattle.reader.specs.Answer.{Reading, Accepted, No}
use Rattle.reader.specs.declared.refusal.Reason.{Reason}
use Rattle.reader.specs.declared.refusal.Reason.TheVariants.{Cut, Range, Rule, Rest}
use Rattle.reader.specs.declared.refusal.Refusal.{Refusal}

-- Where reading goes on, as a word number, or the refusal, whose place is a byte number.
abbrev pub Onward : Type 0
Onward = Result ℕ Refusal

-- Where reading goes on, it goes on so; a refusal stays.
abbrev pub and_then : Onward → (ℕ → Onward) → Onward
and_then (Ok a) f = f a
and_then (Err refused) f = Err refused

-- Goes on to `onward` where a rule is kept.
abbrev pub where_kept : Bool → Reason → (place : ℕ) → Onward → Onward
where_kept kept reason place onward = cond kept onward (Err (refusal reason place))

-- A word: missing is 1 where it starts; else its own rule.
unfoldable pub read_word : (words : List ℕ) → Kind → Known → (at : ℕ) → Onward
read_word ws kind k at =
    where_kept (ltb at (length ws)) Cut (4 * at)
    (where_kept (in_range kind k (get_or ws (at - 1) 0) (get_or ws at 0)) Range (4 * (at - back kind)) (Ok (at + 1)))

-- n words of an entry, from its f-th on.
unfoldable pub read_fields : (words : List ℕ) → Section → Known → (n f at : ℕ) → Onward
read_fields ws s k zero f at = Ok at
read_fields ws s k (suc n) f at = and_then (read_word ws (kind_at s f) k at) (read_fields ws s k n (f + 1))

-- n entries, after `done` others: the words of each, then its rule.
unfoldable pub read_entries : (words : List ℕ) → Section → Known → (n done at : ℕ) → Onward
read_entries ws s k zero done at = Ok at
read_entries ws s k (suc n) done at =
    and_then (read_fields ws s k (width_of s k) 0 at)
    (λ next. where_kept (entry_kept ws s.rule (width_of s k) done at) Rule (4 * at) (read_entries ws s k n (done + 1) next))

-- A section: its count, the rule about it, its entries.
unfoldable pub read_section : (words : List ℕ) → Section → Known → (at : ℕ) → Onward
read_section ws s k at =
    and_then (read_word ws (Span s.low s.high) k at)
    (λ next.
    where_kept (count_kept s.check k (get_or ws at 0)) Rule (4 * at) (read_entries ws s (learnt s.keep k (get_or ws at 0)) (get_or ws at 0) 0 next))

-- What is known before anything is read.
abbrev pub nothing_known : Known
nothing_known = record { tasks = 0; activities = 0; machines = 0; total = 0 }

abbrev pub nowhere : List ℕ
nowhere = replicate 10 0

-- A refusal, with nothing read.
abbrev pub no : Reason → (place : ℕ) → Reading
no reason place = record { answer = No reason place; known = nothing_known; starts = nowhere }

-- Accepted: the counts, and where the count of each section stands.
abbrev pub yes : Known → List ℕ → Reading
yes k starts = record { answer = Accepted; known = k; starts = starts }

abbrev pub then_read : Onward → (ℕ → Reading) → Reading
then_read (Ok a) f = f a
then_read (Err refused) f = no refused.reason refused.place

-- The sections from the i-th on; then nothing may follow.
unfoldable pub read_sections : (words : List ℕ) → (bytes : ℕ) → List Section → ℕ → Known → List ℕ → (at : ℕ) → Reading
read_sections ws len [] i k starts at = cond (ltb (4 * at) len) (no Rest (4 * at)) (yes k starts)
read_sections ws len (s ∷ rest) i k starts at =
    then_read (read_section ws s k at)
    (read_sections ws len rest (i + 1) (after ws s.keep (learnt s.keep k (get_or ws at 0)) at) (set starts i at))

-- The answer to a list of bytes.
unfoldable pub read_all : List ℕ → Reading
read_all s = read_sections (words s) (length s) sections 0 nothing_known nowhere 0
