-- From what a decoder placed to the sheet that is written.
use Prim.Native.Nat.{ℕ, ◌+◌, ◌≤◌, ◌<◌}
use mathlib.Core.Path.{◌≡◌, refl, sym, ap, ap₂, ◌∙◌, subst}
use mathlib.Core.List.{List, [], ◌∷◌}
use native.Mathlib.Omega.{arith}
use lib.ListN.{length, get_or, take}
use Rattle.graph.specs.Counting.{Below}
use Rattle.graph.proofs.CountingLaws.{below_more}
use Rattle.plan.specs.Problem.{Problem, Genes}
use Rattle.plan.specs.Accepted.{Accepted}
use Rattle.intake.specs.Circle.{each}
use Rattle.intake.proofs.BareShop.{each_at}
use Rattle.fitness.specs.Ended.{Ended}
use Rattle.genes.specs.Indexed.{assigned_to}
use Rattle.genes.specs.Held.{filled_to, Listed}
use Rattle.genes.proofs.HeldLaws.{filled_at}
use Rattle.rows.specs.Rows.{gathered, over, columns_of, Written}
use Rattle.board.specs.Board.{Board}
use Rattle.board.specs.Sound.{Sound}
use Rattle.in_order.specs.Waiting.{Timed}
use Rattle.in_order.proofs.Theorem.{well_placed}
use Rattle.active.proofs.Theorem.{active-placed}
use Rattle.decode.proofs.EndLaws.{few_rows, sheet_ended}
use Rattle.decode.proofs.Theorem.{well_decoded}
use Rattle.calls.specs.Outcome.{Leaves}
use Rattle.decoding.specs.Decoding.{sheet_in, board_sheet}
use Rattle.decoding.specs.Rule.{rule_of, Laid}
use Rattle.decoding.specs.declared.Decoder.{Decoder}
use Rattle.decoding.specs.declared.Decoder.TheVariants.{InOrder, Active, Better}

-- ---- the decoder that is meant

module _ (p : Problem) (g : Genes) where
  pub rule_sound : (which : Decoder) → Accepted p g → Sound p.n (rule_of which p g)
  rule_sound InOrder ok = (well_placed p g ok).sound
  rule_sound Active ok = (active-placed p g ok).sound
  rule_sound Better ok = (well_decoded p g ok).sound

  module _ {which that : Decoder} (e : which ≡ that) where
    pub listed_by : {before after : List ℕ} {count : ℕ} → Listed (rule_of that p g).order before after count → Listed (rule_of which p g).order before after count
    listed_by {before} {after} {count} l = subst (λ (x : Decoder). Listed (rule_of x p g).order before after count) (sym e) l

    pub timed_by : {starts ends setups : List ℕ} → Timed (rule_of that p g) starts ends setups → Timed (rule_of which p g) starts ends setups
    timed_by {starts} {ends} {setups} t = subst (λ (x : Decoder). Timed (rule_of x p g) starts ends setups) (sym e) t

-- ---- a board in cells

module _ {n : ℕ} {order starts ends setups : List ℕ} (l : Laid n order starts ends setups) (h : n ≤ 128) where
  pub laid_few : length order ≤ 128
  laid_few = omega (arith, ap length l.ordered, few_rows l.sound)

  pub laid_known : Below n order
  laid_known = subst (λ (o : List ℕ). Below n o) (sym l.ordered) l.sound.known

  -- Each of the order has a machine and three times.
  pub laid_asks : (on : List ℕ) → length on ≡ 128 → Below (length on) order × Below (length starts) order × Below (length ends) order × Below (length setups) order
  laid_asks on e = (
    below_more n (length on) order (omega (arith, e)) laid_known,
    subst (λ (k : ℕ). Below k order) (sym (ap length l.timed.begun ∙ l.sound.sized.starts)) laid_known,
    subst (λ (k : ℕ). Below k order) (sym (ap length l.timed.ended ∙ l.sound.sized.ends)) laid_known,
    subst (λ (k : ℕ). Below k order) (sym (ap length l.timed.prepared ∙ l.sound.sized.setups)) laid_known,
  )

  pub laid-ended : Ended n ends
  laid-ended = sheet_ended h l.sound l.timed.ended

-- ---- the sheet

-- What is gathered is looked up only where the order leads.
gathered-same : (n : ℕ) (x y order : List ℕ) → Below n order → ((a : ℕ) → a < n → get_or x a 0 ≡ get_or y a 0) → gathered x order ≡ gathered y order
unfolding gathered Below
gathered-same n x y [] b same = refl
gathered-same n x y (a ∷ order) b same = ap₂ (λ (v : ℕ) (l : List ℕ). v ∷ l) (same a b.0) (gathered-same n x y order b.1 same)

module _ (p : Problem) (g : Genes) where
  filled_each : (cells : List ℕ) → p.n ≤ length cells → (a : ℕ) → a < p.n → get_or (filled_to (assigned_to g) p.n cells) a 0 ≡ get_or (each (assigned_to g) p.n 0) a 0
  filled_each cells h a k =
      let z : 0 + a ≡ a = omega arith in
      filled_at (assigned_to g) p.n cells a h k ∙ sym (each_at (assigned_to g) p.n 0 a k ∙ ap (assigned_to g) z)

  pub written-leaves : (cells order starts ends setups : List ℕ) {on a₀ m₀ s₀ e₀ u₀ a m s e u : List ℕ} → p.n ≤ length cells → on ≡ filled_to (assigned_to g) p.n cells
      → Below p.n order → Written (columns_of order on starts ends setups) a₀ m₀ s₀ e₀ u₀ a m s e u → Leaves (sheet_in p g order starts ends setups) a₀ m₀ s₀ e₀ u₀ a m s e u
  written-leaves cells order starts ends setups {on} {m₀ = m₀} h q b w =
      record {
        activities = w.activities;
        machines =
            w.machines
            ∙ ap (λ (l : List ℕ). over (gathered l order) m₀) q
            ∙ ap (λ (l : List ℕ). over l m₀) (gathered-same p.n (filled_to (assigned_to g) p.n cells) (each (assigned_to g) p.n 0) order b (filled_each cells h));
        starts = w.starts;
        ends = w.ends;
        setups = w.setups;
      }

  pub laid_sheet : (b : Board) {order starts ends setups : List ℕ} → order ≡ b.order → Timed b starts ends setups → sheet_in p g order starts ends setups ≡ board_sheet p g b
  laid_sheet b {order} {starts} {ends} {setups} e t =
      ap (λ (x : List ℕ). sheet_in p g x starts ends setups) e
      ∙ ap (λ (x : List ℕ). sheet_in p g b.order x ends setups) t.begun
      ∙ ap (λ (x : List ℕ). sheet_in p g b.order b.starts x setups) t.ended
      ∙ ap (λ (x : List ℕ). sheet_in p g b.order b.starts b.ends x) t.prepared

-- ---- the cells that are in use

pub laid_by : (which : Decoder) (p : Problem) (g : Genes) → Accepted p g → {before after starts ends setups : List ℕ} {count : ℕ} → Listed (rule_of which p g).order before after count
    → Timed (rule_of which p g) starts ends setups → Laid p.n (take count after) starts ends setups
laid_by which p g ok l t = record { board = rule_of which p g; sound = rule_sound p g which ok; ordered = l.listed; timed = t }
