-- What reading comes to: accepted, or a refusal with its place; beside it the counts and the place of each section's count, as word numbers,
-- zeros beside a refusal.
use Rattle.std.specs.Prelude.{ℕ, List, Result, Ok, Err}
use Rattle.grammar.specs.declared.Known.{Known}
use Rattle.reader.specs.Refusals.{refusal}
use Rattle.reader.specs.declared.refusal.Reason.{Reason}
use Rattle.reader.specs.declared.refusal.Refusal.{Refusal}
use Rattle.reader.specs.declared.Sections.{Sections}

pub data Answer : Type 0 where
  Accepted : Answer
  No : (reason : Reason) → (place : ℕ) → Answer

pub record Reading : Type 0 where
  pub answer : Answer
  pub known : Known
  pub starts : List ℕ

-- .. as a result: what was found, or the refusal.
abbrev pub told_as : Answer → Known → List ℕ → Result Sections Refusal
told_as Accepted k starts = Ok (record { known = k; starts = starts })
told_as (No reason place) k starts = Err (refusal reason place)

abbrev pub told : Reading → Result Sections Refusal
told r = told_as r.answer r.known r.starts
