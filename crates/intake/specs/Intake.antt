-- Document 01, "Numbers on the screen": numbers 1, 2, 3 as the words come, then 5, then 4. What is left is accepted.
use Rattle.std.specs.Prelude.{ℕ, Bool, true, false, List, Result, Ok, Err}
use Rattle.words.specs.Words.{words}
use Rattle.reader.specs.Reading.{read_all, no}
use Rattle.reader.specs.Answer.{Reading, Answer, Accepted, No}
use Rattle.reader.specs.Refusals.{refusal}
use Rattle.reader.specs.declared.refusal.Reason.TheVariants.{Circle}
use Rattle.reader.specs.declared.refusal.Refusal.{Refusal}
use Rattle.plan.specs.Problem.{Problem, Genes}
use Rattle.plan.specs.declared.Layout.{Layout}
use Rattle.plan.specs.Input.{problem_of, genes_of}
use Rattle.plan.specs.Found.{layout_of}
use Rattle.intake.specs.Circle.{closes_circle}

-- The problem and the genes of a reading of the bytes.
abbrev pub problem_in : List ℕ → Reading → Problem
problem_in s r = problem_of (words s) (layout_of r)

abbrev pub genes_in : List ℕ → Reading → Genes
genes_in s r = genes_of (words s) (layout_of r)

abbrev pub refused_if : Bool → Reading → Reading
refused_if true r = no Circle 0
refused_if false r = r

abbrev pub then_circle : Answer → List ℕ → Reading → Reading
then_circle Accepted s r = refused_if (closes_circle (problem_in s r)) r
then_circle (No reason place) s r = r

-- The answer to a list of bytes.
abbrev pub taken_in : List ℕ → Reading
taken_in s = then_circle (read_all s).answer s (read_all s)

-- .. as a result: the layout, or the refusal.
abbrev pub laid_as : Answer → Layout → Result Layout Refusal
laid_as Accepted z = Ok z
laid_as (No reason place) z = Err (refusal reason place)

abbrev pub laid_out : Reading → Result Layout Refusal
laid_out r = laid_as r.answer (layout_of r)
