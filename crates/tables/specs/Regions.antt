-- One slice holds all that is worked out once for each call; a region is a part of it that holds one thing.
use Rattle.std.specs.Prelude.{ℕ, List, take, drop}

abbrev pub region : List ℕ → (base size : ℕ) → List ℕ
region table base size = take size (drop base table)

-- Where each region begins. A list for each activity has its offsets in one region and its numbers in the next.
abbrev pub owners : List ℕ → List ℕ
owners table = region table 0 128

abbrev pub nexts : List ℕ → List ℕ
nexts table = region table 128 128

abbrev pub releases : List ℕ → List ℕ
releases table = region table 256 128

abbrev pub categories : List ℕ → List ℕ
categories table = region table 384 128

abbrev pub waits : List ℕ → List ℕ
waits table = region table 512 128

abbrev pub named_at : List ℕ → List ℕ
named_at table = region table 640 129

abbrev pub named : List ℕ → List ℕ
named table = region table 769 256

abbrev pub waiting_at : List ℕ → List ℕ
waiting_at table = region table 1025 129

abbrev pub waiting : List ℕ → List ℕ
waiting table = region table 1154 256

abbrev pub candidates_at : List ℕ → List ℕ
candidates_at table = region table 1410 129

abbrev pub candidates : List ℕ → List ℕ
candidates table = region table 1539 2048

abbrev pub changes : List ℕ → List ℕ
changes table = region table 3587 1152

abbrev pub spans : List ℕ → List ℕ
spans table = region table 4739 2048

-- How many cells there are in all.
abbrev pub cells : ℕ
cells = 6787
