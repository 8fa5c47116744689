-- Activities placed one after the other keep the board sound, and its order is those of them that have a machine.
use Rattle.std.specs.Prelude.{None, Option, Some}
use Prim.Native.Nat.{ℕ, ◌+◌, ◌≤◌, ◌<◌}
use mathlib.Core.Path.{◌≡◌, refl, sym, ap, ◌∙◌}
use mathlib.Core.List.{List, [], ◌∷◌, ◌++◌, append-nil}
use native.Mathlib.Omega.{arith}
use lib.ListN.{get_or, set}
use lib.Seq.{get_or-set_other, append_snoc}
use Rattle.graph.specs.Counting.{count_of, Below}
use Rattle.graph.specs.Filing.{cons_if}
use Rattle.graph.proofs.CountingLaws.{hit-eq, either}
use Rattle.plan.specs.Problem.{Problem, Genes}
use Rattle.plan.specs.Accepted.{Accepted}
use Rattle.genes.specs.Indexed.{assigned_to, is_assigned}
use Rattle.genes.proofs.MachineLaws.{assigned_known}
use Rattle.board.specs.Board.{Board, those}
use Rattle.board.specs.Sound.{Sound}
use Rattle.board.proofs.BoardLaws.{settle_sound, seat_sound}
use Rattle.in_order.specs.InOrder.{seat_or_settle, sit_all}

module _ (p : Problem) (g : Genes) (ok : Accepted p g) where
  one_sound : {b : Board} (a : ℕ) → Sound p.n b → a < p.n → get_or b.settled a 0 ≡ 0 → (o : Option ℕ) → g.assigned a ≡ o → Sound p.n (seat_or_settle p g a o b)
  one_sound a s h z None e = settle_sound s a h
  one_sound a s h z (Some m) e = seat_sound p g ok (assigned_to g) (λ q k. assigned_known ok q) s a m h (ok.assigned a m e) z

  one_settled : (b : Board) (a : ℕ) (o : Option ℕ) → (seat_or_settle p g a o b).settled ≡ set b.settled a 1
  one_settled b a None = refl
  one_settled b a (Some m) = refl

  pub all_sound : (l : List ℕ) (b : Board) → Sound p.n b → Below p.n l → ((x : ℕ) → count_of x l ≤ 1) → ((x : ℕ) → 0 < count_of x l → get_or b.settled x 0 ≡ 0)
      → Sound p.n (sit_all p g l b)
  unfolding sit_all count_of Below
  all_sound [] b s known once ahead = s
  all_sound (a ∷ l) b s known once ahead =
      all_sound l (seat_or_settle p g a (g.assigned a) b) (one_sound a s known.0 (ahead a (omega (arith, hit-eq a a refl))) (g.assigned a) refl) known.1
      (λ x. omega (arith, once x))
      (λ x k.
      either a x (λ y. absurd (omega (arith, once x, hit-eq a x y)))
      (λ ne. ap (λ (c : List ℕ). get_or c x 0) (one_settled b a (g.assigned a)) ∙ get_or-set_other b.settled a x 1 0 (λ y. ne (sym y)) ∙ ahead x (omega arith)))

  one_order : (b : Board) (a : ℕ) (o : Option ℕ) (rest : List ℕ) → (seat_or_settle p g a o b).order ++ rest ≡ b.order ++ cons_if (is_assigned o) a rest
  one_order b a None rest = refl
  one_order b a (Some m) rest = append_snoc b.order a rest

  pub all_order : (l : List ℕ) (b : Board) → (sit_all p g l b).order ≡ b.order ++ those (λ a. is_assigned (g.assigned a)) l
  unfolding sit_all those
  all_order [] b = sym (append-nil b.order)
  all_order (a ∷ l) b = all_order l (seat_or_settle p g a (g.assigned a) b) ∙ one_order b a (g.assigned a) (those (λ x. is_assigned (g.assigned x)) l)
