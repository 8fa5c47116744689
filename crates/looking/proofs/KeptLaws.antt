-- The moves that are held, and their ranks, one after the other.
use Prim.Native.Nat.{ℕ, suc, ◌+◌, ◌≤◌, ◌<◌}
use mathlib.Core.Path.{◌≡◌, refl, sym, ap, ◌∙◌}
use mathlib.Core.List.{List, [], ◌∷◌, ◌++◌}
use native.Mathlib.Omega.{arith}
use lib.ListN.{length, get_or, drop, length-drop}
use lib.Seq.{drop-cons, length-take-le}
use Rattle.ranking.specs.declared.held.Rated.{Rated}
use Rattle.ranking.specs.declared.held.Three.{Three}
use Rattle.ranking.specs.Ranking.{ranked}
use Rattle.trial.specs.Trial.{moves_of}
use Rattle.looking.specs.Rows.{row_of, rows_of, ranks_of}
use Rattle.looking.proofs.RowLaws.{rows_long, ranks_long}

pub moves_long : (l : List Rated) → length (moves_of l) ≡ length l
unfolding moves_of
moves_long [] = refl
moves_long (x ∷ l) = ap suc (moves_long l)

module _ (three : Three) where
  pub held_long : length (ranked three) ≡ three.count
  held_long = length-take-le three.count (three.first ∷ three.second ∷ three.third ∷ []) three.few

  pub held_rows : length (rows_of (moves_of (ranked three))) ≤ 18
  held_rows = omega (arith, rows_long (moves_of (ranked three)), moves_long (ranked three), held_long)

  pub held_ranks : length (ranks_of (ranked three)) ≤ 6
  held_ranks = omega (arith, ranks_long (ranked three), held_long)

  module _ {k : ℕ} (h : k < three.count) (rated : Rated) (e : rated ≡ get_or (ranked three) k rated) where
    held_next : drop k (ranked three) ≡ rated ∷ drop (k + 1) (ranked three)
    held_next =
        let long : k < length (ranked three) = omega (arith, held_long) in
        let next : suc k ≡ k + 1 = omega arith in
        drop-cons (ranked three) k rated long ∙ ap (λ (x : Rated). x ∷ drop (suc k) (ranked three)) (sym e) ∙ ap (λ (i : ℕ). rated ∷ drop i (ranked three)) next

    pub rows_next : rows_of (moves_of (drop k (ranked three))) ≡ row_of rated.made ++ rows_of (moves_of (drop (k + 1) (ranked three)))
    unfolding rows_of moves_of
    rows_next = ap (λ (l : List Rated). rows_of (moves_of l)) held_next

    pub ranks_next : ranks_of (drop k (ranked three)) ≡ (rated.length ∷ rated.time ∷ []) ++ ranks_of (drop (k + 1) (ranked three))
    unfolding ranks_of
    ranks_next = ap ranks_of held_next

  module _ {k : ℕ} (h : three.count ≤ k) where
    none_held : drop k (ranked three) ≡ []
    none_held = empty (drop k (ranked three)) (omega (arith, length-drop k (ranked three), held_long))
      where
        empty : (l : List Rated) → length l ≡ 0 → l ≡ []
        empty [] q = refl
        empty (x ∷ l) q = absurd (omega arith)

    pub rows_end : rows_of (moves_of (drop k (ranked three))) ≡ []
    unfolding rows_of moves_of
    rows_end = ap (λ (l : List Rated). rows_of (moves_of l)) none_held

    pub ranks_end : ranks_of (drop k (ranked three)) ≡ []
    unfolding ranks_of
    ranks_end = ap ranks_of none_held
