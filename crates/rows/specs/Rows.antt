-- Document 01, "Plans to hold on the card board": rows are activity, machine, start, end, setup, in placing order; timing and decoders write
-- them, later cells untouched. Each of the five is a column in a lent buffer of its own.
use Rattle.std.specs.Prelude.{ℕ, ◌≤◌, ◌≡◌, List, [], ◌∷◌, ◌++◌, length, get_or, drop}

-- The value of each activity, in their order.
unfoldable pub gathered : (values order : List ℕ) → List ℕ
gathered values [] = []
gathered values (a ∷ order) = get_or values a 0 ∷ gathered values order

-- A column written over the first cells of a buffer; the cells behind it stay.
abbrev pub over : (column cells : List ℕ) → List ℕ
over column cells = column ++ drop (length column) cells

-- The five columns of a sheet.
pub record Columns : Type 0 where
  pub activities : List ℕ
  pub machines : List ℕ
  pub starts : List ℕ
  pub ends : List ℕ
  pub setups : List ℕ

-- The columns of an order, by what each activity has.
abbrev pub columns_of : (order machines starts ends setups : List ℕ) → Columns
columns_of order machines starts ends setups =
    record {
      activities = order;
      machines = gathered machines order;
      starts = gathered starts order;
      ends = gathered ends order;
      setups = gathered setups order;
    }

-- Five buffers with a sheet written over them.
pub record Written (sheet : Columns) (a₀ m₀ s₀ e₀ u₀ a m s e u : List ℕ) : Type 0 where
  pub activities : a ≡ over sheet.activities a₀
  pub machines : m ≡ over sheet.machines m₀
  pub starts : s ≡ over sheet.starts s₀
  pub ends : e ≡ over sheet.ends e₀
  pub setups : u ≡ over sheet.setups u₀

-- Room in each of the five for k rows.
pub record Roomy (k : ℕ) (a m s e u : List ℕ) : Type 0 where
  pub activities : k ≤ length a
  pub machines : k ≤ length m
  pub starts : k ≤ length s
  pub ends : k ≤ length e
  pub setups : k ≤ length u
