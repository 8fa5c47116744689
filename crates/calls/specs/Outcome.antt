-- Document 01, "How tightly each call is bound": what a call that writes a sheet comes to, the answer that says so, and the one content that it
-- leaves in each lent buffer.
use Rattle.std.specs.Prelude.{ℕ, ◌≡◌, List, Float, Result, Ok, Err}
use Rattle.std.specs.Float.Ieee.{to_bits}
use Rattle.std.specs.Float.{binary64}
use Rattle.rows.specs.Rows.{Columns, over}
use Rattle.reader.specs.Refusals.{refusal}
use Rattle.reader.specs.declared.refusal.Reason.{Reason}
use Rattle.reader.specs.declared.refusal.Refusal.{Refusal}
use Rattle.calls.specs.declared.Sheet.{Sheet}

-- A refusal with its place, or a sheet of so many rows with its fitness.
pub data Outcome : Type 0 where
  no : (reason : Reason) → (place : ℕ) → Outcome
  sheet : (rows : ℕ) → (columns : Columns) → (fitness : Float) → Outcome

-- The answer: how many rows, and the bits of their fitness.
abbrev pub answer_of : Outcome → Result Sheet Refusal
answer_of (no reason place) = Err (refusal reason place)
answer_of (sheet rows columns fitness) = Ok (record { rows = rows; bits = to_bits binary64 fitness })

-- A refusal leaves a buffer as it was; a sheet has its column over the first cells, and the later ones stay.
abbrev pub left : (Columns → List ℕ) → Outcome → (cells : List ℕ) → List ℕ
left column (no reason place) cells = cells
left column (sheet rows columns fitness) cells = over (column columns) cells

pub record Leaves (o : Outcome) (a₀ m₀ s₀ e₀ u₀ a m s e u : List ℕ) : Type 0 where
  pub activities : a ≡ left (λ c. c.activities) o a₀
  pub machines : m ≡ left (λ c. c.machines) o m₀
  pub starts : s ≡ left (λ c. c.starts) o s₀
  pub ends : e ≡ left (λ c. c.ends) o e₀
  pub setups : u ≡ left (λ c. c.setups) o u₀
