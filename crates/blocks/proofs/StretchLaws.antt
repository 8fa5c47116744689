-- The heads and tails of a stretch: of one activity, and of all of them in turn.
use Rattle.std.specs.Prelude.{Option, Some, ℕ}
use Prim.Native.Nat.{ℕ, zero, suc, ◌+◌, ◌-◌, ◌*◌, ◌^◌, ◌≤◌, ◌<◌, max}
use mathlib.Core.Path.{◌≡◌, refl, sym, ap, ◌∙◌}
use mathlib.Core.List.{List, [], ◌∷◌}
use native.Mathlib.Omega.{arith}
use borrow.Author.Tests.{lt-ltb, le-ltb}
use lib.ListN.{length, get_or, set, get_or-eq_default}
use lib.Seq.{get_or-set_same, get_or-set_other}
use Rattle.graph.specs.Counting.{Below}
use Rattle.graph.specs.Links.{linked}
use Rattle.graph.specs.Shop.{greatest}
use Rattle.graph.proofs.CountingLaws.{either, below_at}
use Rattle.graph.proofs.ShopTheorem.{greatest-least}
use Rattle.plan.specs.Problem.{Problem}
use Rattle.tables.specs.Tabled.{task_pred, task_succ}
use Rattle.moves.specs.Moves.{remove_at, insert_at, shifted}
use Rattle.moves.proofs.LineLaws.{length-shifted}
use Rattle.path.specs.Placing.{Placing, placed, span_in}
use Rattle.path.specs.Tails.{after}
use Rattle.path.specs.Following.{Addable}
use Rattle.blocks.specs.Estimates.{head_of, rest_of, Through, joined, through, ready_after, end_before, after_at}
use Rattle.blocks.specs.Weighing.{Weighed, Low, Lined, Reordering, Known, HeadsHeld}

pub one_linked : (f : ℕ → ℕ) {link : Option ℕ} (x m : ℕ) → link ≡ Some x → max m (f x) ≡ greatest f (linked link) m
unfolding greatest
one_linked f x m e = rw e

-- ---- who stands in the stretch

below_remove : (n : ℕ) (l : List ℕ) (i : ℕ) → Below n l → Below n (remove_at l i)
unfolding Below
below_remove n [] i b = b
below_remove n (x ∷ l) zero b = b.1
below_remove n (x ∷ l) (suc i) b = (b.0, below_remove n l i b.1)

below_insert : (n : ℕ) (l : List ℕ) (i a : ℕ) → a < n → Below n l → Below n (insert_at l i a)
unfolding Below
below_insert n l zero a h b = (h, b)
below_insert n [] (suc i) a h b = (h, tt)
below_insert n (x ∷ l) (suc i) a h b = (b.0, below_insert n l i a h b.1)

pub below_shifted : (n : ℕ) (l : List ℕ) (i j : ℕ) → i < length l → Below n l → Below n (shifted l i j)
unfolding shifted
below_shifted n l i j h b = below_insert n (remove_at l i) j (get_or l i 0) (below_at n l i b h) (below_remove n l i b)

pub stands : {n : ℕ} {line : List ℕ} {from to first last : ℕ} → Lined n line → Reordering line from to first last → (k : ℕ) → k ≤ last
    → get_or (shifted line from to) k 0 < n
stands {n} {line} {from} {to} w r k h =
    below_at n (shifted line from to) k (below_shifted n line from to r.leaves w.standing)
    (omega (arith, length-shifted line from to r.leaves, r.within))

-- ---- what is around it

pub front : (ends line : List ℕ) (at : ℕ) → at ≡ 0 → ◌≡◌ {A = ℕ} 0 (end_before ends line at)
front ends line zero e = refl
front ends line (suc i) e = absurd (omega arith)

pub behind_front : (ends line : List ℕ) (at : ℕ) → (at ≡ 0 → ⊥) → get_or ends (get_or line (at - 1) 0) 0 ≡ end_before ends line at
behind_front ends line zero h = absurd (h refl)
behind_front ends line (suc i) h = let e : suc i - 1 ≡ i = omega arith in rw e

module _ {p : Problem} {table starts ends : List ℕ} (w : Weighed p table starts ends) where
  pub span_all : (a : ℕ) → get_or ends a 0 - get_or starts a 0 < 2 ^ 34
  span_all a =
      either (p.n - a) 0
      (λ e. omega (arith, get_or-eq_default ends 0 {n = a} (omega (arith, w.ended))))
      (λ ne. w.short a (omega arith))

  pub headable : (a : ℕ) → a < p.n → Known table ends a
  headable a h = record { held = record { problem = p; tabled = w.tabled; known = h; few = w.few }; ended = w.ended }

  pub tailable : {tail : List ℕ} → Low p.n tail → (a : ℕ) → a < p.n → Known table tail a
  tailable l a h = record { held = record { problem = p; tabled = w.tabled; known = h; few = w.few }; ended = l.tailed }

  pub addable : {tail : List ℕ} → Low p.n tail → Addable (length tail) starts ends tail
  addable l =
      record {
        started = w.started ∙ sym l.tailed;
        ended = w.ended ∙ sym l.tailed;
        tailed = refl;
        upright = λ a h. w.upright a (omega (arith, l.tailed));
        small = λ a h. omega (arith, span_all a, l.low a);
      }

  pub end_low : (line : List ℕ) (at : ℕ) → end_before ends line at ≤ 2 ^ 41
  end_low line zero = omega arith
  end_low line (suc i) = omega (arith, w.early (get_or line i 0))

  module _ (order : List ℕ) where
    pub head_low : (ready x m : ℕ) → ready ≤ m → 2 ^ 41 ≤ m → head_of p (placed order starts ends) ready x ≤ m
    head_low ready x m h k =
        greatest-least (λ b. get_or ends b 0) (linked (task_pred p x)) (max (p.release x) ready) m (omega (arith, w.released x)) (λ b l. omega (arith, w.early b))

    ready_low : (line : List ℕ) (ready at count : ℕ) → ready ≤ 2 ^ 41 → ready_after p (placed order starts ends) line ready at count ≤ 2 ^ 41 + count * 2 ^ 34
    unfolding ready_after
    ready_low line ready at zero h = omega arith
    ready_low line ready at (suc count) h =
        let x = get_or line (at + count) 0 in
        let r = ready_after p (placed order starts ends) line ready at count in
        omega (arith, head_low r x (2 ^ 41 + count * 2 ^ 34) (ready_low line ready at count h) (omega arith), span_all x)

    pub heads_low : {line heads : List ℕ} {ready first last : ℕ} → HeadsHeld p (placed order starts ends) line ready first last heads → ready ≤ 2 ^ 41 → last < 128
        → (j : ℕ) → first + j ≤ last → get_or heads (first + j) 0 ≤ 2 ^ 42
    heads_low {line} {heads} {ready} {first} k h l j i =
        let x = get_or line (first + j) 0 in
        let r = ready_after p (placed order starts ends) line ready first j in
        omega (arith, k.at j i, head_low r x (2 ^ 42) (omega (arith, ready_low line ready first j h)) (omega arith))

    module _ {tail : List ℕ} (l : Low p.n tail) where
      pub after_low : (x : ℕ) → after (placed order starts ends) tail x ≤ 2 ^ 42
      after_low x = omega (arith, span_all x, l.low x)

      pub after_at_low : (line : List ℕ) (i : ℕ) → after_at (placed order starts ends) tail line i ≤ 2 ^ 42
      after_at_low line i =
          either (length line - i) 0
          (λ e. rw (le-ltb i (length line) (omega arith)) (omega arith))
          (λ ne. rw (lt-ltb i (length line) (omega arith)) (after_low (get_or line i 0)))

      pub rest_low : (next x : ℕ) → greatest (after (placed order starts ends) tail) (linked (task_succ p x)) next ≤ max next (2 ^ 42)
      rest_low next x =
          greatest-least (after (placed order starts ends) tail) (linked (task_succ p x)) next (max next (2 ^ 42)) (omega arith) (λ b h. omega (arith, after_low b))

-- ---- the loop over heads, the first activity first

pub record Heading (p : Problem) (s : Placing) (line : List ℕ) (before first : ℕ) (heads : List ℕ) (ready k : ℕ) : Type 0 where
  pub filled : (j : ℕ) → first + j < k → get_or heads (first + j) 0 ≡ head_of p s (ready_after p s line before first j) (get_or line (first + j) 0)
  pub sofar : ready ≡ ready_after p s line before first (k - first)

module _ {p : Problem} {s : Placing} {line : List ℕ} {before first : ℕ} {heads : List ℕ} where
  pub heads_begin : {ready : ℕ} → ready ≡ before → Heading p s line before first heads ready first
  unfolding ready_after
  heads_begin e =
      let z : first - first ≡ 0 = omega arith in record { filled = λ j h. absurd (omega arith); sofar = rw z e }

  module _ {ready k : ℕ} (h : Heading p s line before first heads ready k) where
    pub heads_all : (last : ℕ) → last < k → HeadsHeld p s line before first last heads
    heads_all last l = record { at = λ j i. h.filled j (omega arith) }

    module _ (low : first ≤ k) (inside : k < length heads) (x head : ℕ) (xe : x ≡ get_or line k 0) (he : head ≡ head_of p s ready x) where
      head_is : (j : ℕ) → first + j ≡ k → head ≡ head_of p s (ready_after p s line before first j) (get_or line (first + j) 0)
      head_is j e =
          let r : ready ≡ ready_after p s line before first j = h.sofar ∙ ap (ready_after p s line before first) (omega arith) in
          let y : x ≡ get_or line (first + j) 0 = xe ∙ ap (λ (i : ℕ). get_or line i 0) (sym e) in
          he ∙ ap (λ (z : ℕ). head_of p s z x) r ∙ ap (head_of p s (ready_after p s line before first j)) y

      next_ready : (j : ℕ) → first + j ≡ k → head + span_in s x ≡ ready_after p s line before first (suc j)
      unfolding ready_after
      next_ready j e =
          let y : x ≡ get_or line (first + j) 0 = xe ∙ ap (λ (i : ℕ). get_or line i 0) (sym e) in
          ap (λ (z : ℕ). z + span_in s x) (head_is j e) ∙ ap (λ (z : ℕ). head_of p s (ready_after p s line before first j) (get_or line (first + j) 0) + span_in s z) y

      pub heads_again : Heading p s line before first (set heads k head) (head + span_in s x) (k + 1)
      heads_again =
          record {
            filled = λ j i. either (first + j) k (λ e. ap (λ (z : ℕ). get_or (set heads k head) z 0) e ∙ get_or-set_same heads k head 0 inside ∙ head_is j e) (λ ne. get_or-set_other heads k (first + j) head 0 ne ∙ h.filled j (omega arith));
            sofar = next_ready (k - first) (omega arith) ∙ ap (ready_after p s line before first) (omega arith);
          }

-- ---- the loop over tails, the last activity first

abbrev pub seen : (next longest : ℕ) → Through
seen next longest = record { next = next; longest = longest }

pub record Passing (p : Problem) (s : Placing) (tail line : List ℕ) (before behind first last next most k : ℕ) : Type 0 where
  pub passed : through p s tail line (ready_after p s line before first (k - first)) behind k (suc last - k) ≡ seen next most

module _ (p : Problem) (s : Placing) (tail line : List ℕ) (before behind first : ℕ) where
  joins : (j at count next most x head rest : ℕ) → first + j ≡ at
      → through p s tail line (ready_after p s line before first (suc j)) behind (suc at) count ≡ seen next most
      → x ≡ get_or line at 0 → head ≡ head_of p s (ready_after p s line before first j) (get_or line at 0) → rest ≡ rest_of p s tail next x
      → through p s tail line (ready_after p s line before first j) behind at (suc count) ≡ seen rest (max most (head + rest))
  unfolding through ready_after
  joins j at count next most x head rest e k xe he re =
      let r = ready_after p s line before first j in
      let q : head_of p s r (get_or line (first + j) 0) + span_in s (get_or line (first + j) 0) ≡ head_of p s r (get_or line at 0) + span_in s (get_or line at 0) =
      ap (λ (i : ℕ). head_of p s r (get_or line i 0) + span_in s (get_or line i 0)) e in
      let k' : through p s tail line (head_of p s r (get_or line at 0) + span_in s (get_or line at 0)) behind (suc at) count ≡ seen next most =
      ap (λ (z : ℕ). through p s tail line z behind (suc at) count) (sym q) ∙ k in
      let re' : rest ≡ rest_of p s tail next (get_or line at 0) = re ∙ ap (rest_of p s tail next) xe in
      ap (joined p s tail r (get_or line at 0)) k' ∙ sym (ap (λ (z : ℕ). seen z (max most (head + z))) re' ∙ ap (λ (z : ℕ). seen (rest_of p s tail next (get_or line at 0)) (max most (z + rest_of p s tail next (get_or line at 0)))) he)

module _ {p : Problem} {s : Placing} {tail line : List ℕ} {before behind first last : ℕ} where
  pub tails_begin : {next : ℕ} → next ≡ behind → Passing p s tail line before behind first last next 0 (last + 1)
  unfolding through
  tails_begin {next} e =
      let z : suc last - (last + 1) ≡ 0 = omega arith in record { passed = rw (z, e) }

  module _ {next most k : ℕ} (h : Passing p s tail line before behind first last next most k) where
    pub tails-all : k ≤ first → first ≤ k → most ≡ (through p s tail line before behind first (suc last - first)).longest
    unfolding ready_after
    tails-all l g =
        let e : k ≡ first = omega arith in
        let z : first - first ≡ 0 = omega arith in
        sym (ap (λ (t : Through). t.longest) (rw (e, z) at h.passed))

    pub tails_again : {heads : List ℕ} → HeadsHeld p s line before first last heads → first < k → k ≤ last + 1 → (x head rest top : ℕ) → x ≡ get_or line (k - 1) 0
        → head ≡ get_or heads (k - 1) 0 → rest ≡ rest_of p s tail next x → top ≡ max most (head + rest)
        → Passing p s tail line before behind first last rest top (k - 1)
    tails_again {heads} held low high x head rest top xe he re te =
        let j = k - 1 - first in
        let e : first + j ≡ k - 1 = omega arith in
        let a : suc j ≡ k - first = omega arith in
        let b : suc (k - 1) ≡ k = omega arith in
        let d : suc (suc last - k) ≡ suc last - (k - 1) = omega arith in
        let he' : head ≡ head_of p s (ready_after p s line before first j) (get_or line (k - 1) 0) =
        he ∙ ap (λ (i : ℕ). get_or heads i 0) (sym e) ∙ held.at j (omega arith) ∙ ap (λ (i : ℕ). head_of p s (ready_after p s line before first j) (get_or line i 0)) e in
        let k' : through p s tail line (ready_after p s line before first (suc j)) behind (suc (k - 1)) (suc last - k) ≡ seen next most =
        rw (a, b) h.passed in
        record { passed = ap (through p s tail line (ready_after p s line before first j) behind (k - 1)) (sym d) ∙ joins p s tail line before behind first j (k - 1) (suc last - k) next most x head rest e k' xe he' re ∙ ap (seen rest) (sym te) }
