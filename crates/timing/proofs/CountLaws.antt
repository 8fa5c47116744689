-- Laws of the counts: filled one after the other, and what each comes to.
use Prim.Native.Nat.{ℕ, zero, suc, ◌+◌, ◌≤◌, ◌<◌}
use mathlib.Core.Path.{◌≡◌, refl, sym, ap, ◌∙◌}
use mathlib.Core.List.{List, [], ◌∷◌, ◌++◌}
use native.Mathlib.Omega.{arith}
use native.Mathlib.Numerals.{add-one}
use lib.ListN.{length, get_or, set, take, length-set, length-append, get_or-append}
use lib.Seq.{take_all, take-suc-set, get_or-append_seam}
use Rattle.graph.specs.Links.{linked, link_of}
use Rattle.graph.proofs.CountingLaws.{either}
use Rattle.timing.specs.Ordering.{with_line}

pub record Adding (waits before counts : List ℕ) (a : ℕ) : Type 0 where
  pub within : a ≤ length waits
  pub sized : length counts ≡ length waits
  pub so_far : take a counts ≡ with_line waits before a

module _ {waits before counts : List ℕ} {a : ℕ} (k : Adding waits before counts a) where
  pub added : a < length waits → {more : ℕ} → more ≡ length (linked (link_of before a)) → Adding waits before (set counts a (get_or waits a 0 + more)) (a + 1)
  unfolding with_line
  added h {more} e =
      record {
        within = omega arith;
        sized = length-set counts a (get_or waits a 0 + more) ∙ k.sized;
        so_far =
            rw (add-one a) (take-suc-set counts a (get_or waits a 0 + more) (omega (arith, k.sized))
            ∙ ap (λ (l : List ℕ). l ++ (get_or waits a 0 + more) ∷ []) k.so_far
            ∙ ap (λ (m : ℕ). with_line waits before a ++ (get_or waits a 0 + m) ∷ []) e);
      }

  pub all_added : length waits ≤ a → counts ≡ with_line waits before (length waits)
  all_added h =
      let e : a ≡ length waits = omega (arith, k.within) in
      sym (take_all a counts (omega (arith, k.sized))) ∙ k.so_far ∙ ap (with_line waits before) e

pub none_added : (waits before counts : List ℕ) → length counts ≡ length waits → Adding waits before counts 0
unfolding with_line
none_added waits before counts e = record { within = omega arith; sized = e; so_far = refl }

module _ (waits before : List ℕ) where
  pub with_length : (k : ℕ) → length (with_line waits before k) ≡ k
  unfolding with_line
  with_length zero = refl
  with_length (suc k) = length-append (with_line waits before k) _ ∙ omega (arith, with_length k)

  -- each count
  pub with_at : (k a : ℕ) → a < k → get_or (with_line waits before k) a 0 ≡ get_or waits a 0 + length (linked (link_of before a))
  unfolding with_line
  with_at zero a h = absurd (omega arith)
  with_at (suc k) a h =
      either a k
      (λ e. rw e (last k (get_or waits k 0 + length (linked (link_of before k)))))
      (λ ne. let l : a < length (with_line waits before k) = omega (arith, with_length k) in
      get_or-append (with_line waits before k) _ 0 a l ∙ with_at k a (omega arith))
    where
      last : (j x : ℕ) → get_or (with_line waits before j ++ x ∷ []) j 0 ≡ x
      last j x = ap (λ (i : ℕ). get_or (with_line waits before j ++ x ∷ []) i 0) (sym (with_length j)) ∙ get_or-append_seam (with_line waits before j) x [] 0
