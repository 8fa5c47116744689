-- What reassignments ask is so of an accepted problem, its well-formed lines once they are timed, and their tails. Assumes nothing.
use mathlib.Core.Path.{◌≡◌, refl, sym, ◌∙◌}
use mathlib.Core.List.{List, [], ◌∷◌}
use Prim.Native.Nat.{ℕ, zero, suc, ◌<◌, ◌^◌}
use native.Mathlib.Omega.{arith}
use lib.ListN.{length, get_or}
use Rattle.graph.specs.Counting.{Below}
use Rattle.plan.specs.Problem.{Problem, Genes}
use Rattle.plan.specs.Accepted.{Accepted}
use Rattle.tables.specs.Tabled.{Tabled}
use Rattle.lines.specs.Lines.{Lines, machine_of, position_of, WellFormed}
use Rattle.lines.specs.Linking.{AllBelow}
use Rattle.lines.proofs.LineLaws.{machine_below, lines_below}
use Rattle.moves.specs.Moves.{line_of}
use Rattle.path.specs.Placing.{Placing}
use Rattle.path.specs.Tails.{tails}
use Rattle.path.specs.Following.{Followed}
use Rattle.path.proofs.BoundLaws.{tails_sized, tails_low}
use Rattle.reassign.specs.Reassigning.{Reckoned, Counted, Seen, Open}

line_below : (n : ℕ) (lines : Lines) (m : ℕ) → AllBelow n lines → Below n (line_of lines m)
unfolding AllBelow Below
line_below n [] m h = tt
line_below n (l ∷ lines) zero h = h.0
line_below n (l ∷ lines) (suc m) h = line_below n lines m h.1

module _ {p : Problem} {g : Genes} (ok : Accepted p g) {lines : Lines} (w : WellFormed p.n p.machines lines) where
  pub accepted_open : Open p lines
  accepted_open =
      record {
        sixteen = ok.machines.1;
        candidates = λ a h. ok.candidates a;
        short = λ a m h k. omega (arith, ok.setup a m h k, ok.process a m h k, ok.teardown a m h k);
        standing = λ a h. omega (arith, machine_below w a h, ok.machines.1);
        lined = λ m. line_below p.n lines m (lines_below w);
      }

  pub accepted_counted : {table : List ℕ} → Tabled p table → Counted table p.n
  accepted_counted t = record { problem = p; tabled = t; all = refl; few = ok.activities.1 }

  module _ {table links : List ℕ} {s : Placing} (f : Followed p lines table links s) (early : (a : ℕ) → get_or s.ends a 0 < 2 ^ 62) where
    pub tails_reckoned : Reckoned s.starts s.ends (tails p lines s)
    tails_reckoned =
        let n = tails_sized f in
        record {
          addable = record {
            started = f.started ∙ sym n;
            ended = f.ended ∙ sym n;
            tailed = refl;
            upright = λ a h. f.upright a (omega arith);
            small = λ a h. omega (arith, f.short a (omega arith), tails_low f a, ok.activities.1);
          };
          early = early;
        }

    pub timed-seen : (machines places : List ℕ) → length machines ≡ p.n → length places ≡ p.n → ((a : ℕ) → a < p.n → get_or machines a 0 ≡ machine_of lines a)
        → ((a : ℕ) → a < p.n → get_or places a 0 ≡ position_of lines a) → Seen p lines table machines places s.starts s.ends (tails p lines s)
    timed-seen machines places lm lp on at =
        record {
          tabled = f.tabled;
          few = f.few;
          named = λ a h. ok.predecessors a;
          waiting = λ a h. ok.waiting a;
          released = λ a h. omega (arith, ok.release a);
          standing = lm;
          positions = lp;
          on = on;
          at = at;
          tailed = tails_sized f;
          reckoned = tails_reckoned;
        }
