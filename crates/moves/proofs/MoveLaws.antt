-- What a move does to the lines, and how it is undone. Assumes nothing.
use mathlib.Core.Path.{◌≡◌, sym, ap, ◌∙◌}
use mathlib.Core.List.{List, []}
use Prim.Native.Nat.{ℕ, suc, ◌+◌, ◌≤◌, ◌<◌}
use native.Mathlib.Omega.{arith}
use lib.ListN.{length, get_or, set, length-set}
use lib.Seq.{get_or-set_same, get_or-set_other, set-set, set-get_or}
use Rattle.lines.specs.Lines.{Lines}
use Rattle.moves.specs.declared.Move.{Move}
use Rattle.moves.specs.declared.Move.TheVariants.{Swap, Shift, Reassign}
use Rattle.moves.specs.Moves.{swap_at, remove_at, insert_at, shifted, line_of, left, joined, applied, reversed, ReassignFits, Fits}
use Rattle.moves.proofs.LineLaws.{length_remove, length_insert, length-shifted, length_swapped, put_back, take_back, insert_at_lem, swap-shifted, swap_twice, shift_back}

-- there are as many lines as before
pub as_many : (made : Move) (lines : Lines) → length (applied made lines) ≡ length lines
as_many (Swap m i) lines = length-set lines m (swap_at (line_of lines m) i)
as_many (Shift m i j) lines = length-set lines m (shifted (line_of lines m) i j)
as_many (Reassign a r i q j) lines =
    length-set (left lines r i) q (insert_at (line_of (left lines r i) q) j a) ∙ length-set lines r (remove_at (line_of lines r) i)

-- what `join` asks once the activity has left its line
pub join_asks : {a r i q j : ℕ} {lines lines' : Lines} → ReassignFits a r i q j lines → lines' ≡ left lines r i
    → (q < 16) × (j ≤ length (line_of lines' q)) × (length (line_of lines' q) < 128)
join_asks {a} {r} {i} {q} {j} {lines} {lines'} f e =
    let o : line_of lines' q ≡ line_of lines q =
    ap (λ (l : Lines). line_of l q) e ∙ get_or-set_other lines r q (remove_at (line_of lines r) i) [] (λ z. f.other (sym z)) in
    (f.new, rw o f.to, rw o f.room)

module _ (lines : Lines) (sixteen : length lines ≡ 16) where
  -- one line changed and changed back
  set_back : (m : ℕ) (f g : List ℕ → List ℕ) → m < 16 → g (f (line_of lines m)) ≡ line_of lines m
      → set (set lines m (f (line_of lines m))) m (g (line_of (set lines m (f (line_of lines m))) m)) ≡ lines
  set_back m f g h e =
      rw (get_or-set_same lines m (f (line_of lines m)) [] (omega arith), set-set lines m (f (line_of lines m)) (g (f (line_of lines m))), e) (set-get_or lines m [])

  -- ---- the lines after a block move: its own is shifted, as `moved` reads it, and the others stay

  pub swap_line : {m i : ℕ} → Fits (Swap m i) lines → line_of (applied (Swap m i) lines) m ≡ shifted (line_of lines m) i (i + 1)
  swap_line {m} {i} f =
      get_or-set_same lines m (swap_at (line_of lines m) i) [] (omega (arith, f.machine)) ∙ swap-shifted (line_of lines m) i f.next

  pub shift_line : {m i j : ℕ} → Fits (Shift m i j) lines → line_of (applied (Shift m i j) lines) m ≡ shifted (line_of lines m) i j
  shift_line {m} {i} {j} f = get_or-set_same lines m (shifted (line_of lines m) i j) [] (omega (arith, f.machine))

  pub swap_others : (m i x : ℕ) → (x ≡ m → ⊥) → line_of (applied (Swap m i) lines) x ≡ line_of lines x
  swap_others m i x ne = get_or-set_other lines m x (swap_at (line_of lines m) i) [] ne

  pub shift_others : (m i j x : ℕ) → (x ≡ m → ⊥) → line_of (applied (Shift m i j) lines) x ≡ line_of lines x
  shift_others m i j x ne = get_or-set_other lines m x (shifted (line_of lines m) i j) [] ne

  -- ---- the lines after a reassignment

  module _ {a r i q j : ℕ} (f : ReassignFits a r i q j lines) where
    -- with the activity on none of them
    abbrev between : Lines
    between = left lines r i

    abbrev pub after : Lines
    after = joined between q j a

    between_many : length between ≡ 16
    between_many = length-set lines r (remove_at (line_of lines r) i) ∙ sixteen

    old_between : line_of between r ≡ remove_at (line_of lines r) i
    old_between = get_or-set_same lines r (remove_at (line_of lines r) i) [] (omega (arith, f.old))

    new_between : line_of between q ≡ line_of lines q
    new_between = get_or-set_other lines r q (remove_at (line_of lines r) i) [] (λ z. f.other (sym z))

    pub new_line : line_of after q ≡ insert_at (line_of lines q) j a
    new_line =
        get_or-set_same between q (insert_at (line_of between q) j a) [] (omega (arith, f.new, between_many))
        ∙ ap (λ (l : List ℕ). insert_at l j a) new_between

    pub old_line : line_of after r ≡ remove_at (line_of lines r) i
    old_line = get_or-set_other between q r (insert_at (line_of between q) j a) [] f.other ∙ old_between

    pub other_line : (x : ℕ) → (x ≡ q → ⊥) → (x ≡ r → ⊥) → line_of after x ≡ line_of lines x
    other_line x nq nr =
        get_or-set_other between q x (insert_at (line_of between q) j a) [] nq ∙ get_or-set_other lines r x (remove_at (line_of lines r) i) [] nr

    pub new_long : length (line_of after q) ≡ suc (length (line_of lines q))
    new_long = ap length new_line ∙ length_insert (line_of lines q) j a

    pub old_long : suc (length (line_of after r)) ≡ length (line_of lines r)
    old_long = ap (λ (l : List ℕ). suc (length l)) old_line ∙ length_remove (line_of lines r) i f.from

    -- taken out of its new line again
    taken_out : left after q j ≡ between
    taken_out =
        rw
        (new_line, set-set between q (insert_at (line_of between q) j a) (remove_at (insert_at (line_of lines q) j a) j), take_back (line_of lines q) j a f.to, ← new_between)
        (set-get_or between q [])

    -- and put in where it stood
    put_in_again : joined between r i a ≡ lines
    put_in_again =
        let e : insert_at (remove_at (line_of lines r) i) i a ≡ line_of lines r =
        ap (insert_at (remove_at (line_of lines r) i) i) (sym f.named) ∙ put_back (line_of lines r) i f.from in
        rw (old_between, e, set-set lines r (remove_at (line_of lines r) i) (line_of lines r)) (set-get_or lines r [])

  -- ---- undone

  pub undone : (made : Move) → Fits made lines → applied (reversed made) (applied made lines) ≡ lines
  undone (Swap m i) f = set_back m (λ l. swap_at l i) (λ l. swap_at l i) f.machine (swap_twice (line_of lines m) i f.next)
  undone (Shift m i j) f =
      set_back m (λ l. shifted l i j) (λ l. shifted l j i) f.machine (shift_back (line_of lines m) i j f.from f.to)
  undone (Reassign a r i q j) f = ap (λ (l : Lines). joined l r i a) (taken_out f) ∙ put_in_again f

  -- the move back fits the lines that the move gives
  pub reversed-fits : (made : Move) → ((m : ℕ) → length (line_of lines m) ≤ 128) → Fits made lines → Fits (reversed made) (applied made lines)
  reversed-fits (Swap m i) short f =
      record {
        machine = f.machine;
        next =
            rw (get_or-set_same lines m (swap_at (line_of lines m) i) [] (omega (arith, f.machine)), length_swapped (line_of lines m) i) f.next;
      }
  reversed-fits (Shift m i j) short f =
      let e : length (line_of (applied (Shift m i j) lines) m) ≡ length (line_of lines m) =
      ap length (shift_line f) ∙ length-shifted (line_of lines m) i j f.from in
      record { machine = f.machine; from = omega (arith, e, f.to); to = omega (arith, e, f.from) }
  reversed-fits (Reassign a r i q j) short f =
      record {
        old = f.new;
        new = f.old;
        other = λ z. f.other (sym z);
        from = omega (arith, f.to, new_long f);
        named = ap (λ (l : List ℕ). get_or l j 0) (new_line f) ∙ insert_at_lem (line_of lines q) j a f.to;
        to = omega (arith, f.from, old_long f);
        room = omega (arith, short r, old_long f);
      }
