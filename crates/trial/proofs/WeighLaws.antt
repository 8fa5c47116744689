-- Which move counts, by the tests of the code. Assumes nothing.
use mathlib.Core.Path.{◌≡◌, refl, sym, ap, ◌∙◌, subst}
use mathlib.Core.Bool.{Bool, true, false, not, ◌&&◌, ◌||◌, false≢true}
use mathlib.Core.List.{List}
use Prim.Native.Nat.{ℕ}
use lib.ListN.{get_or}
use lib.Ieee.{Float, lt}
use Rattle.plan.specs.Problem.{Problem}
use Rattle.lines.specs.Lines.{Lines}
use Rattle.moves.specs.declared.Move.{Move}
use Rattle.moves.specs.Moves.{applied}
use Rattle.fitness.specs.Fitness.{fitness_of}
use Rattle.timing.specs.Timing.{contradicts}
use Rattle.timing.specs.Placing.{Timed}
use Rattle.trial.specs.declared.Best.{Best}
use Rattle.trial.specs.declared.Best.TheVariants.{Nothing, Found}
use Rattle.trial.specs.Trial.{line_fitness, pick_best, better, weighed, tried, beats, counts, pick_list, Allowed, Weighing, Holding}

better_is : (b : Best) (f : Float) (m : Move) → better b f m ≡ pick_best (beats b f) (Found f m) b
better_is Nothing f m = refl
better_is (Found g k) f m = refl

-- what is answered, by the test whether it counts
pub weighed_is : (forbidden : Bool) (best f : Float) (m : Move) (b : Best) → weighed false forbidden best f m b ≡ pick_best (counts forbidden best f b) (Found f m) b
weighed_is forbidden best f m b = by_test (not forbidden || lt f best)
  where
    by_test : (t : Bool) → pick_best t (better b f m) b ≡ pick_best (t && beats b f) (Found f m) b
    by_test true = better_is b f m
    by_test false = refl

pub weighed_kept : (forbidden : Bool) (best f : Float) (m : Move) (b : Best) → counts forbidden best f b ≡ false → b ≡ weighed false forbidden best f m b
weighed_kept forbidden best f m b e = sym (weighed_is forbidden best f m b ∙ ap (λ (t : Bool). pick_best t (Found f m) b) e)

pub weighed_taken : (forbidden : Bool) (best f : Float) (m : Move) (b : Best) → counts forbidden best f b ≡ true → Found f m ≡ weighed false forbidden best f m b
weighed_taken forbidden best f m b e = sym (weighed_is forbidden best f m b ∙ ap (λ (t : Bool). pick_best t (Found f m) b) e)

pub list_kept : (t : Bool) (new old : List ℕ) → t ≡ false → old ≡ pick_list t new old
list_kept true new old e = absurd (false≢true (sym e))
list_kept false new old e = refl

pub list_taken : (t : Bool) (new old : List ℕ) → t ≡ true → new ≡ pick_list t new old
list_taken true new old e = refl
list_taken false new old e = absurd (false≢true e)

module _ (p : Problem) (lines : Lines) where
  found_held : (f : Float) (m : Move) {order starts ends : List ℕ} → Weighing p lines f m order starts ends → Holding p lines (Found f m) order starts ends
  found_held f m {order} {starts} {ends} w =
      record {
        held = λ g k q.
            let same_fitness : f ≡ g = cc in
            let same_move : m ≡ k = cc in
            subst (λ (x : Move). Weighing p lines g x order starts ends) same_move (subst (λ (x : Float). Weighing p lines x m order starts ends) same_fitness w);
      }

  held_if : (t : Bool) (f : Float) (m : Move) (b : Best) {order starts ends taken begun done : List ℕ} → Weighing p lines f m order starts ends → Holding p lines b taken begun done
      → Holding p lines (pick_best t (Found f m) b) (pick_list t order taken) (pick_list t starts begun) (pick_list t ends done)
  held_if true f m b w h = found_held f m w
  held_if false f m b w h = h

  -- what is held once a move is weighed
  pub weighed_held : (forbidden : Bool) (best f : Float) (m : Move) (b r : Best) {order starts ends taken begun done taken' begun' done' : List ℕ}
      → r ≡ weighed false forbidden best f m b
      → taken' ≡ pick_list (counts forbidden best f b) order taken → begun' ≡ pick_list (counts forbidden best f b) starts begun → done' ≡ pick_list (counts forbidden best f b) ends done
      → Weighing p lines f m order starts ends → Holding p lines b taken begun done → Holding p lines r taken' begun' done'
  weighed_held forbidden best f m b r e u v x w h =
      rw (e, weighed_is forbidden best f m b, u, v, x) (held_if (counts forbidden best f b) f m b w h)

  -- ---- timed or not

  pub tried_not : (forbidden : Bool) (best : Float) (m : Move) (b : Best) → contradicts p (applied m lines) ≡ true → b ≡ tried p lines forbidden best m b
  tried_not forbidden best m b e = sym (ap (λ (t : Bool). weighed t forbidden best (line_fitness p (applied m lines)) m b) e)

  pub tried_is : (forbidden : Bool) (best : Float) (m : Move) (b : Best) {order starts ends : List ℕ} → contradicts p (applied m lines) ≡ false → Timed p (applied m lines) order starts ends
      → weighed false forbidden best (fitness_of p (λ a. get_or ends a 0)) m b ≡ tried p lines forbidden best m b
  tried_is forbidden best m b e t =
      ap (λ (f : Float). weighed false forbidden best f m b) (fitness_is t)
      ∙ sym (ap (λ (t : Bool). weighed t forbidden best (line_fitness p (applied m lines)) m b) e)
    where
      fitness_is : {order starts ends : List ℕ} → Timed p (applied m lines) order starts ends → fitness_of p (λ a. get_or ends a 0) ≡ line_fitness p (applied m lines)
      fitness_is t = ap (λ (l : List ℕ). fitness_of p (λ a. get_or l a 0)) t.placement.done

  pub weighing : (m : Move) {order starts ends : List ℕ} → contradicts p (applied m lines) ≡ false → Timed p (applied m lines) order starts ends → Allowed p.machines lines m
      → Weighing p lines (fitness_of p (λ a. get_or ends a 0)) m order starts ends
  weighing m e t a =
      record {
        value = ap (λ (l : List ℕ). fitness_of p (λ a. get_or l a 0)) t.placement.done;
        possible = e;
        timed = t;
        allowed = a;
      }

-- nothing held asks nothing
pub nothing_held : {p : Problem} {lines : Lines} {order starts ends : List ℕ} → Holding p lines Nothing order starts ends
nothing_held = record { held = λ f m q. absurd (false≢true (ap is_nothing (sym q))) }
  where
    is_nothing : Best → Bool
    is_nothing Nothing = true
    is_nothing (Found f m) = false

-- ---- what tests of a negation say

pub not_not : (b : Bool) {r : Bool} → r ≡ not b → r ≡ true → b ≡ false
not_not true e q = absurd (false≢true (sym e ∙ q))
not_not false e q = refl

pub not_false : (b : Bool) {r : Bool} → r ≡ not b → r ≡ false → b ≡ true
not_false true e q = refl
not_false false e q = absurd (false≢true (sym q ∙ e))
