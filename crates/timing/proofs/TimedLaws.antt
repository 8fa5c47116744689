-- From links, the order and the placing to what is said of timed lines.
use Rattle.std.specs.Prelude.{Option, ℕ}
use Prim.Native.Nat.{ℕ, ◌+◌, ◌≤◌, ◌<◌}
use mathlib.Core.Path.{◌≡◌, refl, sym, ap, ap₂, ◌∙◌}
use mathlib.Core.Bool.{Bool, true, false, not}
use mathlib.Core.List.{List}
use native.Mathlib.Omega.{arith}
use borrow.Author.Tests.{ltb-true, ltb-false, leb-true, lt-leb, le-leb}
use lib.Dec.{ltb, leb}
use lib.ListN.{length, get_or, take, set, length-set}
use lib.Seq.{take_all, length-take-le, ext_get_or, get_or-set_same, get_or-set_other}
use Rattle.graph.specs.Links.{link_of}
use Rattle.graph.specs.Counting.{Below}
use Rattle.graph.specs.Links.{linked}
use Rattle.graph.proofs.CountingLaws.{either}
use Rattle.plan.specs.Problem.{Problem, Genes}
use Rattle.plan.specs.Accepted.{Accepted}
use Rattle.bounds.specs.Bounds.{setup_of}
use Rattle.lines.specs.Lines.{Lines, WellFormed, line_pred, line_succ, machine_of}
use Rattle.lines.specs.Linking.{Links, LinesHeld, links_of}
use Rattle.lines.proofs.LineLaws.{machine_below}
use Rattle.lines.proofs.LineLaws.{pred_below as line_pred_below}
use Rattle.intake.proofs.BareShop.{each_at, length-each}
use Rattle.timing.specs.Timing.{timing_order, contradicts, setup_at, setups_of}
use Rattle.timing.specs.Ordering.{Neighbours}
use Rattle.timing.specs.Placing.{Seated, Whole, Placement, Timed}

module _ {n : ℕ} {lines : Lines} {before after machines places : List ℕ} (held : LinesHeld n lines (links_of before after machines places)) where
  whole_link : (links : List ℕ) → length links ≡ n → (a : ℕ) → link_of (take n links) a ≡ link_of links a
  whole_link links e a = ap (λ (l : List ℕ). link_of l a) (take_all n links (omega arith))

  pub neighbours : length before ≡ n → length after ≡ n → Neighbours n lines before after
  neighbours eb ea =
      record {
        length_before = eb;
        length-after = ea;
        preds = λ a h. sym (whole_link before eb a) ∙ held.preds a h;
        succs = λ a h. sym (whole_link after ea a) ∙ held.succs a h;
      }

  pub seated : length before ≡ n → length machines ≡ n → Seated n lines before machines
  seated eb em =
      record {
        length_before = eb;
        length-machines = em;
        preds = λ a h. sym (whole_link before eb a) ∙ held.preds a h;
        on = held.on;
      }

module _ (p : Problem) (lines : Lines) (order : List ℕ) {r : ℕ} (e : take r order ≡ timing_order p lines) (sized : length order ≡ p.n) where
  taken : r ≤ p.n → length (timing_order p lines) ≡ r
  taken h = ap length (sym e) ∙ length-take-le r order (omega arith)

  -- An order that leaves one out is that of lines that contradict.
  pub agrees_when : r ≤ p.n → leb p.n r ≡ not (contradicts p lines)
  agrees_when h = not_less p.n r ∙ ap (λ (k : ℕ). not (ltb k p.n)) (sym (taken h))
    where
      not_less : (n r : ℕ) → leb n r ≡ not (ltb r n)
      not_less n r =
          either_way (ltb r n) refl
        where
          either_way : (b : Bool) → ltb r n ≡ b → leb n r ≡ not (ltb r n)
          either_way true e = lt-leb n r (ltb-true r n e) ∙ ap not (sym e)
          either_way false e = le-leb n r (ltb-false r n e) ∙ ap not (sym e)

  -- Else each has its start and its end.
  pub timed_when : {starts ends : List ℕ} → (p.n ≤ r → Placement p lines starts ends) → leb p.n r ≡ true → Timed p lines order starts ends
  timed_when placed h =
      let all : p.n ≤ r = leb-true p.n r h in
      record { whole = record { is = sym (take_all r order (omega arith)) ∙ e; all = sized }; placement = placed all }

-- ---- setups, filled one after the other

pub record Setting (p : Problem) (before machines setups : List ℕ) (a : ℕ) : Type 0 where
  pub within : a ≤ length setups
  pub sized : length setups ≡ p.n
  pub so_far : (lines : Lines) → Seated p.n lines before machines → (b : ℕ) → b < a → get_or setups b 0 ≡ setup_at p lines b

pub none_set : (p : Problem) (before machines setups : List ℕ) → length setups ≡ p.n → Setting p before machines setups 0
none_set p before machines setups e = record { within = omega arith; sized = e; so_far = λ lines s b h. absurd (omega arith) }

module _ (p : Problem) (g : Genes) (ok : Accepted p g) {before machines setups : List ℕ} {a : ℕ} (k : Setting p before machines setups a) where
  pub set_next : a < length setups → {x : ℕ} → x ≡ setup_of p a (get_or machines a 0) (link_of before a) → Setting p before machines (set setups a x) (a + 1)
  set_next h {x} e =
      record {
        within = omega (arith, length-set setups a x);
        sized = length-set setups a x ∙ k.sized;
        so_far = λ lines s b l.
            either b a
            (λ q. ap (λ (i : ℕ). get_or (set setups a x) i 0) q ∙ get_or-set_same setups a x 0 h ∙ e
            ∙ ap₂ (setup_of p a) (s.on a (omega (arith, k.sized))) (s.preds a (omega (arith, k.sized))) ∙ ap (setup_at p lines) (sym q))
            (λ ne. get_or-set_other setups a b x 0 ne ∙ k.so_far lines s b (omega arith));
      }

  pub all_set : length setups ≤ a → (lines : Lines) → Seated p.n lines before machines → setups ≡ setups_of p lines
  all_set h lines s =
      ext_get_or 0 setups (setups_of p lines) (k.sized ∙ sym (length-each (setup_at p lines) p.n 0))
      (λ b l.
      let z : 0 + b ≡ b = omega arith in
      k.so_far lines s b (omega arith) ∙ sym (each_at (setup_at p lines) p.n 0 b (omega (arith, k.sized)) ∙ ap (setup_at p lines) z))

-- An activity's machine and its link are known.
pub seat_known : {n R : ℕ} {lines : Lines} {before machines : List ℕ} → WellFormed n R lines → Seated n lines before machines → (a : ℕ) → a < n
    → (get_or machines a 0 < R) × Below n (linked (link_of before a))
seat_known w s a h = (omega (arith, s.on a h, machine_below w a h), rw (s.preds a h) (line_pred_below w a))
