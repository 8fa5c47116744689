-- Dealing activities out to their machines: the loop, that each line is what is on its machine, and that such lines can be timed.
-- Assumes nothing.
use mathlib.Core.Path.{◌≡◌, refl, sym, ap, ◌∙◌, subst}
use mathlib.Core.List.{List, [], ◌∷◌, ◌++◌, append-nil, append_assoc}
use Prim.Native.Nat.{ℕ, zero, suc, ◌+◌, ◌*◌, ◌-◌, ◌≤◌, ◌<◌}
use native.Mathlib.Numerals.{add-one}
use native.Mathlib.Omega.{arith}
use lib.ListN.{length, get_or, set, drop, replicate, length-set, drop_of_length-le, get_or-replicate, get_or-eq_default}
use lib.Seq.{drop-cons, get_or-set_same, get_or-set_other}
use borrow.Author.Tests.{eq-eqb, ne_eqb}
use Rattle.graph.specs.Counting.{count_of, hit, Below}
use Rattle.graph.proofs.CountingLaws.{either, below_at, below_of, count_of-append, hit-eq}
use Rattle.lines.specs.Lines.{Lines, cells_from, lines_from, lines_in, Fit, standing, WellFormed}
use Rattle.lines.specs.Dealing.{at_end, dealt, lines_of, on_machine, Dealable, Dealt}

-- ---- one activity stored at the end of its stretch

-- a cell outside leaves a part as it is
cells_kept : (cells : List ℕ) (p a len at : ℕ) → ((i : ℕ) → i < len → at + i ≡ p → ⊥) → cells_from (set cells p a) at len ≡ cells_from cells at len
unfolding cells_from
cells_kept cells p a zero at h = refl
cells_kept cells p a (suc len) at h =
    rw
    (get_or-set_other cells p at a 0 (λ e. h 0 (omega arith) (omega arith)), cells_kept cells p a len (at + 1) (λ i k e. h (suc i) (omega arith) (omega arith)))

cells_more : (cells : List ℕ) (p a len at : ℕ) → p ≡ at + len → p < length cells → cells_from (set cells p a) at (suc len) ≡ cells_from cells at len ++ (a ∷ [])
unfolding cells_from
cells_more cells p a zero at e h =
    let q : at ≡ p = omega arith in rw q (ap (λ (x : ℕ). x ∷ []) (get_or-set_same cells p a 0 h))
cells_more cells p a (suc len) at e h =
    rw (get_or-set_other cells p at a 0 (λ q. absurd (omega arith))) (ap (λ (l : List ℕ). get_or cells at 0 ∷ l) (cells_more cells p a len (at + 1) (omega arith) h))

lines_kept : (cells : List ℕ) (p a : ℕ) (lens : List ℕ) (at : ℕ) → p < at → lines_from (set cells p a) at lens ≡ lines_from cells at lens
unfolding lines_from
lines_kept cells p a [] at h = refl
lines_kept cells p a (len ∷ lens) at h =
    rw (cells_kept cells p a len at (λ i k e. omega arith), lines_kept cells p a lens (at + 128) (omega arith))

stored : (cells : List ℕ) (p a : ℕ) (lens : List ℕ) (m at : ℕ) → m < length lens → Fit lens → get_or lens m 0 < 128 → p ≡ at + (128 * m + get_or lens m 0) → p < length cells
    → lines_from (set cells p a) at (set lens m (get_or lens m 0 + 1)) ≡ at_end (lines_from cells at lens) m a
unfolding lines_from at_end
stored cells p a [] m at l f h e k = absurd (omega arith)
stored cells p a (len ∷ lens) zero at l f h e k =
    rw (add-one len, cells_more cells p a len at (omega arith) k, lines_kept cells p a lens (at + 128) (omega arith))
stored cells p a (len ∷ lens) (suc m) at l f h e k =
    rw (cells_kept cells p a len at (λ i q z. omega (arith, f 0)), stored cells p a lens m (at + 128) (omega arith) (λ i. f (suc i)) h (omega arith) k)

-- ---- `deal`: what is left deals from here what all of it deals from the start

pub record Dealing (activities machines cells₀ cells lens : List ℕ) (i : ℕ) : Type 0 where
  pub within : i ≤ length activities
  pub sized : length cells ≡ length cells₀
  pub sixteen : length lens ≡ 16
  pub few : (m : ℕ) → get_or lens m 0 ≤ i
  pub rest : dealt (λ a. get_or machines a 0) (drop i activities) (lines_in cells lens) ≡ lines_of (λ a. get_or machines a 0) activities

zeros_few : (n m : ℕ) → get_or {A = ℕ} (replicate n 0) m 0 ≤ 0
zeros_few zero m = omega arith
zeros_few (suc n) zero = omega arith
zeros_few (suc n) (suc m) = zeros_few n m

pub deal_begin : (activities machines cells : List ℕ) → Dealing activities machines cells cells (replicate 16 0) 0
unfolding lines_from cells_from lines_of
deal_begin activities machines cells =
    record { within = omega arith; sized = refl; sixteen = refl; few = λ m. zeros_few 16 m; rest = refl }

module _ {activities machines cells₀ cells lens : List ℕ} {i : ℕ} (w : Dealing activities machines cells₀ cells lens i) (d : Dealable activities machines cells₀) where
  pub deal_end : length activities ≤ i → Dealt activities machines cells lens
  unfolding dealt
  deal_end h =
      record {
        held = sym (ap (λ (l : List ℕ). dealt (λ a. get_or machines a 0) l (lines_in cells lens)) (drop_of_length-le activities h)) ∙ w.rest;
        fit = λ m. omega (arith, w.few m, w.within, d.few);
      }

  module _ (h : i < length activities) where
    pub has_machine : get_or activities i 0 < length machines
    has_machine = below_at (length machines) activities i d.assigned h

    pub on_machine_lem : get_or machines (get_or activities i 0) 0 < 16
    on_machine_lem = below_at 16 machines (get_or activities i 0) d.known has_machine

    pub has_room : 128 * get_or machines (get_or activities i 0) 0 + get_or lens (get_or machines (get_or activities i 0) 0) 0 < length cells
    has_room = omega (arith, on_machine_lem, w.few (get_or machines (get_or activities i 0) 0), d.few, d.roomy, w.sized)

    step : (a : ℕ) → get_or machines a 0 < 16 → drop i activities ≡ a ∷ drop (i + 1) activities
        → Dealing activities machines cells₀ (set cells (128 * get_or machines a 0 + get_or lens (get_or machines a 0) 0) a) (set lens (get_or machines a 0) (get_or lens (get_or machines a 0) 0 + 1)) (i + 1)
    unfolding dealt
    step a k e =
        let m = get_or machines a 0 in
        let len = get_or lens m 0 in
        record {
          within = omega arith;
          sized = length-set cells (128 * m + len) a ∙ w.sized;
          sixteen = length-set lens m (len + 1) ∙ w.sixteen;
          few =
              λ x.
              either x m
              (λ q. subst (λ (y : ℕ). get_or (set lens m (len + 1)) y 0 ≤ i + 1) (sym q) (omega (arith, w.few m, get_or-set_same lens m (len + 1) 0 (omega (arith, w.sixteen)))))
              (λ ne. omega (arith, w.few x, get_or-set_other lens m x (len + 1) 0 ne));
          rest =
              ap (dealt (λ a. get_or machines a 0) (drop (i + 1) activities))
              (stored cells (128 * m + len) a lens m 0 (omega (arith, w.sixteen)) (λ x. omega (arith, w.few x, d.few)) (omega (arith, w.few m, d.few)) (omega arith) (omega (arith, w.few m, d.few, d.roomy, w.sized)))
              ∙ sym (ap (λ (l : List ℕ). dealt (λ a. get_or machines a 0) l (lines_in cells lens)) e)
              ∙ w.rest;
        }

    pub deal_again : Dealing activities machines cells₀
        (set cells (128 * get_or machines (get_or activities i 0) 0 + get_or lens (get_or machines (get_or activities i 0) 0) 0) (get_or activities i 0))
        (set lens (get_or machines (get_or activities i 0) 0) (get_or lens (get_or machines (get_or activities i 0) 0) 0 + 1))
        (i + 1)
    deal_again =
        step (get_or activities i 0) on_machine_lem (drop-cons activities i 0 h ∙ ap (λ (k : ℕ). get_or activities i 0 ∷ drop k activities) (sym (add-one i)))

-- ---- line m is what is on machine m

end_length : (lines : Lines) (m a : ℕ) → length (at_end lines m a) ≡ length lines
unfolding at_end
end_length [] m a = refl
end_length (l ∷ lines) zero a = refl
end_length (l ∷ lines) (suc m) a = ap suc (end_length lines m a)

end_same : (lines : Lines) (m a : ℕ) → m < length lines → get_or (at_end lines m a) m [] ≡ get_or lines m [] ++ (a ∷ [])
unfolding at_end
end_same [] m a h = absurd (omega arith)
end_same (l ∷ lines) zero a h = refl
end_same (l ∷ lines) (suc m) a h = end_same lines m a (omega arith)

end_other : (lines : Lines) (m a x : ℕ) → (m ≡ x → ⊥) → get_or (at_end lines m a) x [] ≡ get_or lines x []
unfolding at_end
end_other [] m a x ne = refl
end_other (l ∷ lines) zero a zero ne = absurd (ne refl)
end_other (l ∷ lines) zero a (suc x) ne = refl
end_other (l ∷ lines) (suc m) a zero ne = refl
end_other (l ∷ lines) (suc m) a (suc x) ne = end_other lines m a x (λ e. ne (ap suc e))

dealt_at : (on : ℕ → ℕ) (activities : List ℕ) (lines : Lines) (m : ℕ) → m < length lines
    → get_or (dealt on activities lines) m [] ≡ get_or lines m [] ++ on_machine on m activities
unfolding dealt on_machine
dealt_at on [] lines m h = sym (append-nil (get_or lines m []))
dealt_at on (a ∷ activities) lines m h =
    dealt_at on activities (at_end lines (on a) a) m (omega (arith, end_length lines (on a) a))
    ∙ either (on a) m
    (λ e.
    rw (eq-eqb (on a) m e)
    (ap (λ (l : List ℕ). l ++ on_machine on m activities) (ap (λ (k : ℕ). get_or (at_end lines k a) m []) e ∙ end_same lines m a h)
    ∙ append_assoc (get_or lines m []) (a ∷ []) (on_machine on m activities)))
    (λ ne. rw (ne_eqb (on a) m ne) (ap (λ (l : List ℕ). l ++ on_machine on m activities) (end_other lines (on a) a m ne)))

pub line_of_lem : (on : ℕ → ℕ) (activities : List ℕ) (m : ℕ) → m < 16 → get_or (lines_of on activities) m [] ≡ on_machine on m activities
unfolding lines_of
line_of_lem on activities m h =
    dealt_at on activities (replicate 16 []) m h ∙ ap (λ (l : List ℕ). l ++ on_machine on m activities) (get_or-replicate 16 m [] [] h)

-- ---- such lines can be timed

standing_end : (lines : Lines) (m a x : ℕ) → m < length lines → standing (at_end lines m a) x ≡ standing lines x + hit a x
unfolding at_end standing count_of
standing_end [] m a x h = absurd (omega arith)
standing_end (l ∷ lines) zero a x h = omega (arith, count_of-append x l (a ∷ []))
standing_end (l ∷ lines) (suc m) a x h = omega (arith, standing_end lines m a x (omega arith))

standing-dealt : (on : ℕ → ℕ) (activities : List ℕ) (lines : Lines) (x : ℕ) → ((a : ℕ) → 0 < count_of a activities → on a < length lines)
    → standing (dealt on activities lines) x ≡ standing lines x + count_of x activities
unfolding dealt count_of
standing-dealt on [] lines x h = omega arith
standing-dealt on (a ∷ activities) lines x h =
    omega
    (arith, standing-dealt on activities (at_end lines (on a) a) x (λ b k. omega (arith, h b (omega arith), end_length lines (on a) a)), standing_end lines (on a) a x (h a (omega (arith, hit-eq a a refl))))

standing_none : (n x : ℕ) → standing (replicate n []) x ≡ 0
unfolding standing count_of
standing_none zero x = refl
standing_none (suc n) x = omega (arith, standing_none n x)

dealt-length : (on : ℕ → ℕ) (activities : List ℕ) (lines : Lines) → length (dealt on activities lines) ≡ length lines
unfolding dealt
dealt-length on [] lines = refl
dealt-length on (a ∷ activities) lines = dealt-length on activities (at_end lines (on a) a) ∙ end_length lines (on a) a

machine_few : (on : ℕ → ℕ) (m : ℕ) (activities : List ℕ) → length (on_machine on m activities) ≤ length activities
unfolding on_machine
machine_few on m [] = omega arith
machine_few on m (a ∷ activities) =
    let ih = machine_few on m activities in
    either (on a) m (λ e. rw (eq-eqb (on a) m e) (omega arith)) (λ ne. rw (ne_eqb (on a) m ne) (omega arith))

machine_idle : (on : ℕ → ℕ) (R m : ℕ) (activities : List ℕ) → R ≤ m → ((a : ℕ) → 0 < count_of a activities → on a < R) → length (on_machine on m activities) ≡ 0
unfolding on_machine count_of
machine_idle on R m [] h k = refl
machine_idle on R m (a ∷ activities) h k =
    rw (ne_eqb (on a) m (λ e. absurd (omega (arith, k a (omega (arith, hit-eq a a refl)))))) (machine_idle on R m activities h (λ b q. k b (omega arith)))

standing_of : (on : ℕ → ℕ) (activities : List ℕ) (x : ℕ) → ((a : ℕ) → 0 < count_of a activities → on a < 16)
    → standing (lines_of on activities) x ≡ count_of x activities
unfolding lines_of
standing_of on activities x h = omega (arith, standing-dealt on activities (replicate 16 []) x h, standing_none 16 x)

beyond : (on : ℕ → ℕ) (activities : List ℕ) (m : ℕ) → 16 ≤ m → get_or (lines_of on activities) m [] ≡ []
unfolding lines_of
beyond on activities m h =
    get_or-eq_default (dealt on activities (replicate 16 [])) [] (omega (arith, dealt-length on activities (replicate 16 [])))

-- each activity once, on a machine below R
pub dealt_well : (n R : ℕ) (on : ℕ → ℕ) (activities : List ℕ) → R ≤ 16 → length activities ≤ 128 → ((a : ℕ) → a < n → count_of a activities ≡ 1) → Below n activities
    → ((a : ℕ) → a < n → on a < R) → WellFormed n R (lines_of on activities)
dealt_well n R on activities r few once known assigned =
    let mine : (a : ℕ) → 0 < count_of a activities → on a < R = λ a k. assigned a (below_of n a activities known k) in
    let count : (x : ℕ) → standing (lines_of on activities) x ≡ count_of x activities = λ x. standing_of on activities x (λ a k. omega (arith, mine a k)) in
    record {
      once = λ a h. count a ∙ once a h;
      known = λ a k. below_of n a activities known (omega (arith, count a));
      short =
          λ m.
          either (16 - m) 0 (λ h. omega (arith, ap length (beyond on activities m (omega arith)))) (λ h. omega (arith, ap length (line_of_lem on activities m (omega arith)), machine_few on m activities));
      idle =
          λ m h.
          either (16 - m) 0 (λ k. ap length (beyond on activities m (omega arith))) (λ k. ap length (line_of_lem on activities m (omega arith)) ∙ machine_idle on R m activities h mine);
    }
