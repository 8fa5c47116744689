-- What one call leaves: the text that is shown for what was read to the start of the buffer, which is all of the input or as much as has room.
-- Where the bytes of the reader and the writer are known, just these bytes were read, and just that text was printed.
use Rattle.std.specs.Prelude.{ℕ, ◌<◌, ◌≤◌, ◌≡◌, ◌⊎◌, List, length, take, Option}
use Rattle.std.specs.Io.KnownBytes.{Appends, Consumes, IsAtEnd}
use Rattle.stream.specs.Stream.{Loses}
use Rattle.terminal_text.specs.Shown.{shown_over, printed_text}

abbrev pub ReadsAll : (unread₀ unread : Option (List ℕ)) → (size : ℕ) → (plan : List ℕ) → Type 0
ReadsAll unread₀ unread size plan = Consumes unread₀ unread (take size plan) × (size < length plan → IsAtEnd unread)

abbrev pub Serves : (unread₀ unread : Option (List ℕ)) → (plan text₀ text : List ℕ) → (written₀ written : Option (List ℕ)) → Type 0
Serves unread₀ unread plan text₀ text written₀ written =
    (size : ℕ) × (size ≤ length plan) × ReadsAll unread₀ unread size plan × (text ≡ shown_over (take size plan) text₀) × Appends written₀ written (printed_text (take size plan) text₀)

-- What an error leaves: the reader has lost its bytes up to some place, and the text is as it was, where the reading failed, or what would have
-- been printed.
abbrev pub Fails : (unread₀ unread : Option (List ℕ)) → (plan text₀ text : List ℕ) → Type 0
Fails unread₀ unread plan text₀ text =
    Loses unread₀ unread × ((text ≡ text₀) ⊎ ((size : ℕ) × (size ≤ length plan) × (text ≡ shown_over (take size plan) text₀)))
