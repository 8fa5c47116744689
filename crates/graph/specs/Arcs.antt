-- Document 01, numbers 4 and 8: some activities wait for others, and the arcs may close a circle, self included. Activities are numbers
-- below n; an arc goes from the one waited for to the one that waits, and may come more than once.
use Rattle.std.specs.Prelude.{◌≡◌, List, ℕ, ◌<◌}
use Rattle.graph.specs.Counting.{count_of, sum_to, Below}

-- one or more arcs lead from the first to the second
pub data Leads (R : ℕ → ℕ → Type 0) : ℕ → ℕ → Type 0 where
  one : {a b : ℕ} → R a b → Leads R a b
  more : {a b c : ℕ} → R a b → Leads R b c → Leads R a c

-- the arcs lead from some activity back to itself
abbrev pub Circle : ℕ → (ℕ → ℕ → Type 0) → Type 0
Circle n R = (a : ℕ) × (a < n) × Leads R a a

-- n activities; whom each frees, in which order; and for whom each waits: the same arcs, seen from either end
pub record Graph : Type 0 where
  pub n : ℕ
  pub succs : ℕ → List ℕ
  pub preds : ℕ → List ℕ
  pub succs_below : (a : ℕ) → a < n → Below n (succs a)
  pub preds_below : (a : ℕ) → a < n → Below n (preds a)
  pub dual : (p a : ℕ) → p < n → a < n → count_of a (succs p) ≡ count_of p (preds a)

-- a waits for p
abbrev pub Waits : Graph → ℕ → ℕ → Type 0
Waits g p a = (a < g.n) × (0 < count_of p (g.preds a))

-- how many arcs lead into b
abbrev pub arcs_into : ℕ → (ℕ → List ℕ) → ℕ → ℕ
arcs_into n succs b = sum_to n (λ a. count_of b (succs a))
