-- Arrays that hold a graph: whom an activity frees is an activity, the run of the rules over them is safe, and the order is that of any
-- graph with the same arcs. Assumes nothing.
use mathlib.Core.Path.{◌≡◌, refl, sym, ap, ◌∙◌, subst}
use mathlib.Core.Bool.{Bool, true, false}
use mathlib.Core.List.{List, [], ◌∷◌}
use Prim.Native.Nat.{ℕ, zero, suc, ◌+◌, ◌-◌, ◌≤◌, ◌<◌}
use native.Mathlib.Omega.{arith}
use lib.ListN.{length, get_or}
use lib.Dec.{ltb}
use borrow.Author.Tests.{ltb-true}
use Rattle.graph.specs.Counting.{Below}
use Rattle.graph.specs.Order.{State, free, free_all, order_from, stack_free, order_of}
use Rattle.graph.specs.Links.{linked, link_of, to_if, succs_of, Shaped, Linked}
use Rattle.graph.specs.Run.{Safe, SafeRun}
use Rattle.graph.proofs.CountingLaws.{below_append}
use Rattle.graph.proofs.Invariant.{Inv, free_inv, free_all_inv, take_inv, waiting, room}
use Rattle.graph.proofs.OrderLaws.{start_inv}

-- ---- the run is safe

module _ (n : ℕ) (succs : ℕ → List ℕ) (below : (a : ℕ) → a < n → Below n (succs a)) (most : ℕ) (enough : n ≤ most) where
  safe_of : (bs d : List ℕ) (s : State) → Below n bs → Inv n succs d s.counts s.stack bs → Safe bs s most
  unfolding Safe Below
  safe_of [] d s h v = omega (arith, room n succs d s.counts s.stack [] v)
  safe_of (b ∷ bs) d s h v =
      let f = free_inv n succs b d s.counts s.stack bs h.0 v in (
        omega (arith, v.long, h.0),
        waiting n succs b d s.counts s.stack bs h.0 v,
        omega (arith, room n succs d (free b s).counts (free b s).stack bs f),
        safe_of bs d (free b s) h.1 f,
      )

  safe_run : (left : ℕ) (d counts stack : List ℕ) → length d + left ≡ n → Inv n succs d counts stack [] → SafeRun n succs left counts stack most
  unfolding SafeRun Below
  safe_run zero d counts [] e v = refl
  safe_run zero d counts (a ∷ stack) e v = absurd (omega (arith, room n succs d counts (a ∷ stack) [] v))
  safe_run (suc left) d counts [] e v = tt
  safe_run (suc left) d counts (a ∷ stack) e v =
      let s : State = record { counts = counts; stack = stack } in
      let t = take_inv n succs a d counts stack v in (
        v.stacked.0,
        safe_of (succs a) (a ∷ d) s (below a v.stacked.0) t,
        safe_run left (a ∷ d) (free_all (succs a) s).counts (free_all (succs a) s).stack (omega arith) (free_all_inv n succs (succs a) (a ∷ d) s (below a v.stacked.0) t),
      )

-- ---- whom an activity frees is an activity

to_below : (n b : ℕ) (t : Bool) → ltb b n ≡ t → Below n (linked (to_if t b))
unfolding Below
to_below n b true e = (ltb-true _ _ e, tt)
to_below n b false e = tt

pub link_below : (links : List ℕ) (a : ℕ) → Below (length links) (linked (link_of links a))
link_below links a = to_below (length links) (get_or links a 0) (ltb (get_or links a 0) (length links)) refl

-- ---- offsets that rise

rises : (n : ℕ) (at : List ℕ) → ((a : ℕ) → a < n → get_or at a 0 ≤ get_or at (a + 1) 0) → (m a : ℕ) → a + m ≡ n → get_or at a 0 ≤ get_or at n 0
rises n at up zero a e = let q : a ≡ n = omega arith in rw q (omega arith)
rises n at up (suc m) a e = omega (arith, up a (omega arith), rises n at up m (a + 1) (omega arith))

pub part_within : {n : ℕ} {line task at waiting : List ℕ} → Shaped n line task at waiting → (a : ℕ) → a < n → get_or at (a + 1) 0 ≤ length waiting
part_within {n} {at = at} s a h = omega (arith, s.within, rises n at s.rising (n - (a + 1)) (a + 1) (omega arith))

-- ---- from what `order_of` asks

module _ {n : ℕ} {line task at waiting counts : List ℕ} (l : Linked n line task at waiting counts) where
  pub freed_below : (a : ℕ) → a < n → Below n (succs_of line task at waiting a)
  freed_below a h =
      below_append n _ _ (subst (λ k. Below k (linked (link_of line a))) l.shaped.lined (link_below line a))
      (below_append n _ _ (subst (λ k. Below k (linked (link_of task a))) l.shaped.tasked (link_below task a)) (l.known a h))

  pub linked_safe : (most : ℕ) → n ≤ most → SafeRun n (succs_of line task at waiting) n counts (stack_free counts n 0 []) most
  linked_safe most h =
      safe_run n (succs_of line task at waiting) freed_below most h n [] counts (stack_free counts n 0 []) (omega arith)
      (start_inv n (succs_of line task at waiting) counts (omega (arith, l.counted)) l.right)

  -- .. as `take_all` asks for it, once those that wait for nothing are stacked
  pub shaped_now : Shaped (length line) line task at waiting
  shaped_now = subst (λ k. Shaped k line task at waiting) (sym l.shaped.lined) l.shaped

  module _ {st : List ℕ} (e : st ≡ stack_free counts (length counts) 0 []) where
    stacked : st ≡ stack_free counts n 0 []
    stacked = e ∙ ap (λ k. stack_free counts k 0 []) l.counted

    pub safe_now : (most : ℕ) → n ≤ most → SafeRun (length line) (succs_of line task at waiting) n counts st most
    safe_now most h =
        subst (λ k. SafeRun k (succs_of line task at waiting) n counts st most) (sym l.shaped.lined)
        (subst (λ s. SafeRun n (succs_of line task at waiting) n counts s most) (sym stacked) (linked_safe most h))

    pub order_now : order_from (succs_of line task at waiting) n counts st ≡ order_of (succs_of line task at waiting) n counts
    unfolding order_of
    order_now = ap (order_from (succs_of line task at waiting) n counts) stacked
