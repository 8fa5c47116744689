-- Document 01, "One search step": of more moves than three keep the three with the smallest rank, ties as given.
use Rattle.std.specs.Prelude.{ℕ, Bool, cond, ◌&&◌, ◌||◌, List, [], ◌∷◌, eqb, ltb, leb, take}
use Rattle.ranking.specs.declared.held.Rated.{Rated}
use Rattle.ranking.specs.declared.held.Three.{Three}

-- by (length, time)
abbrev pub ranks_before : (length time : ℕ) → Rated → Bool
ranks_before length time y = ltb length y.length || (eqb length y.length && ltb time y.time)

abbrev pub precedes : Rated → Rated → Bool
precedes x y = ranks_before x.length x.time y

-- x before the first that it is strictly less than: after its equals
unfoldable pub insert_by : {A : Type 0} → (A → A → Bool) → A → List A → List A
insert_by less x [] = x ∷ []
insert_by less x (y ∷ l) = cond (less x y) (x ∷ y ∷ l) (y ∷ insert_by less x l)

-- a list sorted into another, ties as given
unfoldable pub sort_into : {A : Type 0} → (A → A → Bool) → List A → List A → List A
sort_into less sorted [] = sorted
sort_into less sorted (x ∷ l) = sort_into less (insert_by less x sorted) l

abbrev pub sort_by : {A : Type 0} → (A → A → Bool) → List A → List A
sort_by less l = sort_into less [] l

-- the three with the smallest rank
abbrev pub best_three : List Rated → List Rated
best_three l = take 3 (sort_by precedes l)

-- those that are held, best first
abbrev pub ranked : Three → List Rated
ranked three = take three.count (three.first ∷ three.second ∷ three.third ∷ [])

-- with one more; the fourth falls out
abbrev pub with_one : Rated → List Rated → List Rated
with_one x l = take 3 (insert_by precedes x l)

-- a place is free for a rank, or held by one that it precedes
abbrev pub goes_at : (count place length time : ℕ) → (held : Rated) → Bool
goes_at count place length time held = leb count place || ranks_before length time held

-- a move of this rank goes to one of three places, of which so many are held
abbrev pub enters : (count : ℕ) → (first second third : Rated) → (length time : ℕ) → Bool
enters count first second third length time =
    goes_at count 0 length time first
    || goes_at count 1 length time second
    || goes_at count 2 length time third

-- with more, one after the other
unfoldable pub with_all : List Rated → List Rated → List Rated
with_all held [] = held
with_all held (x ∷ l) = with_all (with_one x held) l
