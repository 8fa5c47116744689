-- Why a plan, its lines or what the caller lends is refused, by the number that the screen shows, and where.
use Rattle.std.specs.Prelude.{ℕ}
use Rattle.reader.specs.declared.refusal.Reason.{Reason}
use Rattle.reader.specs.declared.refusal.Reason.TheVariants.{Cut, Range, Rule, Circle, Rest, Room, Lines, Contradiction}
use Rattle.reader.specs.declared.refusal.Refusal.{Refusal}

abbrev pub number_of : Reason → ℕ
number_of Cut = 1
number_of Range = 2
number_of Rule = 3
number_of Circle = 4
number_of Rest = 5
number_of Room = 6
number_of Lines = 7
number_of Contradiction = 8

abbrev pub refusal : Reason → (place : ℕ) → Refusal
refusal reason place = record { reason = reason; place = place }
