-- What one turn leaves: the text that the terminal shows for a plan at the start of the buffer; or the text as it was, where the input has
-- ended. Where the bytes of the reader and the writer are known, the plan is what was read, and just its text was printed.
use Rattle.std.specs.Prelude.{ℕ, ◌≤◌, ◌≡◌, ◌⊎◌, Bool, true, false, List, length, take, IfSome, Option}
use Rattle.std.specs.Io.KnownBytes.{Appends, Keeps}
use Rattle.stream.specs.Stream.{HasRead, HoldsNone}
use Rattle.terminal_text.specs.Shown.{shown_over, printed_text}

pub record Shows (plan text₀ text : List ℕ) : Type 0 where
  pub size : ℕ
  pub within : size ≤ length plan
  pub shows : text ≡ shown_over (take size plan) text₀

abbrev pub Replayed : (went_on : Bool) → (plan text₀ text : List ℕ) → Type 0
Replayed true plan text₀ text = Shows plan text₀ text
Replayed false plan text₀ text = text ≡ text₀

-- What an error leaves: the text as it was, where the reading failed, or what would have been printed.
abbrev pub Failed : (plan text₀ text : List ℕ) → Type 0
Failed plan text₀ text = (text ≡ text₀) ⊎ Shows plan text₀ text

abbrev pub Prints : (went_on : Bool) → (unread₀ unread : Option (List ℕ)) → (plan text₀ : List ℕ) → (written₀ written : Option (List ℕ)) → Type 0
Prints true unread₀ unread plan text₀ written₀ written =
    (size : ℕ) × (size ≤ length plan) × HasRead unread₀ unread size plan × Appends written₀ written (printed_text (take size plan) text₀)
Prints false unread₀ unread plan text₀ written₀ written = IfSome unread₀ (HoldsNone (length plan)) × Keeps written₀ written
