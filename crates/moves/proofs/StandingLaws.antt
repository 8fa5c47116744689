-- Who stands where after a move: each activity as often as before, so that lines stay well formed; room for one more; the machines.
-- Assumes nothing.
use mathlib.Core.Path.{◌≡◌, refl, sym, ap, ◌∙◌, subst}
use mathlib.Core.List.{List, [], ◌∷◌}
use Prim.Native.Nat.{ℕ, zero, suc, ◌+◌, ◌≤◌, ◌<◌}
use native.Mathlib.Omega.{arith}
use lib.ListN.{length, get_or, set, length-set}
use lib.Seq.{get_or-set_same, get_or-set_other}
use borrow.Author.Tests.{lt-ltb, le-ltb}
use Rattle.graph.specs.Counting.{count_of, hit, Below}
use Rattle.graph.proofs.CountingLaws.{either, hit-eq, hit-ne, count_all, sum_to-le, sum_to_full}
use Rattle.lines.specs.Lines.{Lines, standing, holder, machine_of, WellFormed}
use Rattle.lines.specs.Linking.{AllBelow}
use Rattle.lines.proofs.LineLaws.{at_most_once, lines_below}
use Rattle.moves.specs.declared.Move.{Move}
use Rattle.moves.specs.declared.Move.TheVariants.{Swap, Shift, Reassign}
use Rattle.moves.specs.Moves.{swap_at, remove_at, insert_at, shifted, line_of, left, applied, Fits, Within}
use Rattle.moves.proofs.LineLaws.{length-shifted, length_swapped, count_insert, count_remove, count_shifted, count_swapped}
use Rattle.moves.proofs.MoveLaws.{as_many, after, new_line, old_line, other_line, new_long, old_long}

-- ---- one line replaced

standing-set : (lines : Lines) (m : ℕ) (l : List ℕ) (b : ℕ) → m < length lines → standing (set lines m l) b + count_of b (line_of lines m) ≡ standing lines b + count_of b l
unfolding standing
standing-set [] m l b h = absurd (omega arith)
standing-set (x ∷ lines) zero l b h = omega arith
standing-set (x ∷ lines) (suc m) l b h = omega (arith, standing-set lines m l b (omega arith))

pub count_standing : (lines : Lines) (m b : ℕ) → count_of b (line_of lines m) ≤ standing lines b
unfolding standing count_of
count_standing [] m b = omega arith
count_standing (x ∷ lines) zero b = omega arith
count_standing (x ∷ lines) (suc m) b = omega (arith, count_standing lines m b)

-- on two lines at most as often as on all
two-lines : (lines : Lines) (r q b : ℕ) → r < length lines → (r ≡ q → ⊥) → count_of b (line_of lines r) + count_of b (line_of lines q) ≤ standing lines b
unfolding count_of
two-lines lines r q b h ne =
    let e : line_of (set lines r []) q ≡ line_of lines q = get_or-set_other lines r q [] [] (λ z. ne (sym z)) in
    omega (arith, standing-set lines r [] b h, count_standing (set lines r []) q b, ap (count_of b) e)

count_at : (l : List ℕ) (i : ℕ) → i < length l → 0 < count_of (get_or l i 0) l
unfolding count_of
count_at [] i h = absurd (omega arith)
count_at (x ∷ l) zero h = omega (arith, hit-eq x x refl)
count_at (x ∷ l) (suc i) h = omega (arith, count_at l i (omega arith))

-- ---- each stands as often as before

module _ (lines : Lines) (sixteen : length lines ≡ 16) where
  pub standing_kept : (made : Move) → Fits made lines → (b : ℕ) → standing (applied made lines) b ≡ standing lines b
  standing_kept (Swap m i) f b =
      omega
      (arith, standing-set lines m (swap_at (line_of lines m) i) b (omega (arith, f.machine)), count_swapped (line_of lines m) i b f.next)
  standing_kept (Shift m i j) f b =
      omega
      (arith, standing-set lines m (shifted (line_of lines m) i j) b (omega (arith, f.machine)), count_shifted (line_of lines m) i j b f.from)
  standing_kept (Reassign a r i q j) f b =
      omega
      (arith, standing-set lines r (remove_at (line_of lines r) i) b (omega (arith, f.old)), standing-set (left lines r i) q (insert_at (line_of (left lines r i) q) j a) b (omega (arith, f.new, length-set lines r (remove_at (line_of lines r) i))), count_insert (line_of (left lines r i) q) j a b, count_remove (line_of lines r) i b f.from, ap (λ (x : ℕ). hit x b) f.named)

  -- ---- how long each line is

  -- a line as long in the place of another
  length_kept : (m : ℕ) (l : List ℕ) → m < 16 → length l ≡ length (line_of lines m) → (x : ℕ) → length (line_of (set lines m l) x) ≡ length (line_of lines x)
  length_kept m l h e x =
      either x m
      (λ z. rw z (ap length (get_or-set_same lines m l [] (omega arith)) ∙ e))
      (λ ne. ap length (get_or-set_other lines m x l [] ne))

  -- by cases on which line of a reassignment it is
  by_line : (P : ℕ → Type 0) (q r : ℕ) → P q → P r → ((x : ℕ) → (x ≡ q → ⊥) → (x ≡ r → ⊥) → P x) → (x : ℕ) → P x
  by_line P q r new old others x =
      either x q (λ z. subst P (sym z) new) (λ nq. either x r (λ z. subst P (sym z) old) (λ nr. others x nq nr))

  -- ---- lines stay well formed

  module _ {n R : ℕ} (w : WellFormed n R lines) where
    pub applied-well_formed : (made : Move) → Fits made lines → Within R made → WellFormed n R (applied made lines)
    applied-well_formed (Swap m i) f g =
        let e = length_kept m (swap_at (line_of lines m) i) f.machine (length_swapped (line_of lines m) i) in
        let k = standing_kept (Swap m i) f in
        record {
          once = λ b h. k b ∙ w.once b h;
          known = λ b h. w.known b (omega (arith, k b));
          short = λ x. omega (arith, e x, w.short x);
          idle = λ x h. e x ∙ w.idle x h;
        }
    applied-well_formed (Shift m i j) f g =
        let e = length_kept m (shifted (line_of lines m) i j) f.machine (length-shifted (line_of lines m) i j f.from) in
        let k = standing_kept (Shift m i j) f in
        record {
          once = λ b h. k b ∙ w.once b h;
          known = λ b h. w.known b (omega (arith, k b));
          short = λ x. omega (arith, e x, w.short x);
          idle = λ x h. e x ∙ w.idle x h;
        }
    applied-well_formed (Reassign a r i q j) f g =
        let k = standing_kept (Reassign a r i q j) f in
        record {
          once = λ b h. k b ∙ w.once b h;
          known = λ b h. w.known b (omega (arith, k b));
          short =
              by_line (λ x. length (line_of (after lines sixteen f) x) ≤ 128) q r (omega (arith, new_long lines sixteen f, f.room)) (omega (arith, old_long lines sixteen f, w.short r)) (λ x nq nr. omega (arith, ap length (other_line lines sixteen f x nq nr), w.short x));
          idle =
              by_line (λ x. R ≤ x → length (line_of (after lines sixteen f) x) ≡ 0) q r (λ h. absurd (omega arith)) (λ h. omega (arith, old_long lines sixteen f, w.idle r h)) (λ x nq nr h. ap length (other_line lines sixteen f x nq nr) ∙ w.idle x h);
        }

    -- ---- a line has room for an activity that stands on another

    below_line : (lines : Lines) (q : ℕ) → AllBelow n lines → Below n (line_of lines q)
    unfolding AllBelow Below
    below_line [] q h = tt
    below_line (l ∷ lines) zero h = h.0
    below_line (l ∷ lines) (suc q) h = below_line lines q h.1

    pub room : n ≤ 128 → {r q i : ℕ} → r < 16 → (r ≡ q → ⊥) → i < length (line_of lines r) → length (line_of lines q) < 128
    room few {r} {q} {i} h ne k =
        let a = get_or (line_of lines r) i 0 in
        let here = count_at (line_of lines r) i k in
        let most : (b : ℕ) → count_of b (line_of lines q) ≤ 1 = λ b. omega (arith, count_standing lines q b, at_most_once w b) in
        let not_here : count_of a (line_of lines q) ≡ 0 = omega (arith, here, two-lines lines r q a (omega arith) ne, at_most_once w a) in
        let below : a < n = w.known a (omega (arith, here, count_standing lines r a)) in
        let all = count_all n (line_of lines q) (below_line lines q (lines_below w)) in
        either (length (line_of lines q)) n
        (λ e. absurd (omega (arith, not_here, sum_to_full n (λ b. count_of b (line_of lines q)) most (all ∙ e) a below)))
        (λ less. omega (arith, all, sum_to-le n (λ b. count_of b (line_of lines q)) most))

    -- a reassignment fits where its activity stands and its place is on the other line
    pub reassign_fits : n ≤ 128 → {a r i q j : ℕ} → r < 16 → q < 16 → (r ≡ q → ⊥) → i < length (line_of lines r) → get_or (line_of lines r) i 0 ≡ a → j ≤ length (line_of lines q)
        → Fits (Reassign a r i q j) lines
    reassign_fits few h k ne from named to =
        record { old = h; new = k; other = ne; from = from; named = named; to = to; room = room few h ne from }
    -- ---- machines

  holder-same : (lines lines' : Lines) (m b : ℕ) → length lines' ≡ length lines → ((x : ℕ) → count_of b (line_of lines' x) ≡ count_of b (line_of lines x)) → holder m lines' b ≡ holder m lines b
  unfolding holder
  holder-same [] [] m b e h = refl
  holder-same [] (l ∷ lines') m b e h = absurd (omega arith)
  holder-same (l ∷ lines) [] m b e h = absurd (omega arith)
  holder-same (l ∷ lines) (l' ∷ lines') m b e h = rw (h 0, holder-same lines lines' (m + 1) b (omega arith) (λ x. h (suc x)))

  holder_is : (lines : Lines) (m x b : ℕ) → standing lines b ≤ 1 → 0 < count_of b (line_of lines x) → holder m lines b ≡ m + x
  unfolding holder standing count_of
  holder_is [] m x b s h = absurd (omega arith)
  holder_is (l ∷ lines) m zero b s h = rw (lt-ltb 0 (count_of b l) h) (omega arith)
  holder_is (l ∷ lines) m (suc x) b s h =
      let k = count_standing lines x b in
      rw (le-ltb 0 (count_of b l) (omega arith)) (omega (arith, holder_is lines (m + 1) x b (omega arith) h))

  -- the counts of each line decide
  machines-same : (made : Move) (b : ℕ) → ((x : ℕ) → count_of b (line_of (applied made lines) x) ≡ count_of b (line_of lines x)) → machine_of (applied made lines) b ≡ machine_of lines b
  machines-same made b h = holder-same lines (applied made lines) 0 b (as_many made lines) h

  count_kept : (m : ℕ) (l : List ℕ) (b : ℕ) → m < 16 → count_of b l ≡ count_of b (line_of lines m) → (x : ℕ) → count_of b (line_of (set lines m l) x) ≡ count_of b (line_of lines x)
  count_kept m l b h e x =
      either x m
      (λ z. rw z (ap (count_of b) (get_or-set_same lines m l [] (omega arith)) ∙ e))
      (λ ne. ap (count_of b) (get_or-set_other lines m x l [] ne))

  -- a move within a line changes no machine
  pub swap-machines : {m i : ℕ} → Fits (Swap m i) lines → (b : ℕ) → machine_of (applied (Swap m i) lines) b ≡ machine_of lines b
  swap-machines {m} {i} f b =
      machines-same (Swap m i) b (count_kept m (swap_at (line_of lines m) i) b f.machine (count_swapped (line_of lines m) i b f.next))

  pub shift_machines : {m i j : ℕ} → Fits (Shift m i j) lines → (b : ℕ) → machine_of (applied (Shift m i j) lines) b ≡ machine_of lines b
  shift_machines {m} {i} {j} f b =
      machines-same (Shift m i j) b (count_kept m (shifted (line_of lines m) i j) b f.machine (count_shifted (line_of lines m) i j b f.from))

  -- a reassignment changes its own activity's
  pub reassigned_others : {a r i q j : ℕ} → Fits (Reassign a r i q j) lines → (b : ℕ) → (a ≡ b → ⊥) → machine_of (applied (Reassign a r i q j) lines) b ≡ machine_of lines b
  reassigned_others {a} {r} {i} {q} {j} f b ne =
      machines-same (Reassign a r i q j) b
      (by_line (λ x. count_of b (line_of (after lines sixteen f) x) ≡ count_of b (line_of lines x)) q r
      (omega (arith, ap (count_of b) (new_line lines sixteen f), count_insert (line_of lines q) j a b, hit-ne a b ne))
      (omega (arith, ap (count_of b) (old_line lines sixteen f), count_remove (line_of lines r) i b f.from, ap (λ (x : ℕ). hit x b) f.named, hit-ne a b ne))
      (λ x nq nr. ap (count_of b) (other_line lines sixteen f x nq nr)))

  pub reassigned_own : {a r i q j : ℕ} → Fits (Reassign a r i q j) lines → standing lines a ≤ 1 → machine_of (applied (Reassign a r i q j) lines) a ≡ q
  reassigned_own {a} {r} {i} {q} {j} f s =
      omega
      (arith, holder_is (after lines sixteen f) 0 q a (omega (arith, standing_kept (Reassign a r i q j) f a)) (omega (arith, ap (count_of a) (new_line lines sixteen f), count_insert (line_of lines q) j a a, hit-eq a a refl)))
