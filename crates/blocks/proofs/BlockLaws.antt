-- The moves of one block after the other: what is left to offer, after those offered so far, gives the best three of all.
use Prim.Native.Nat.{ℕ, ◌+◌, ◌≤◌, ◌<◌}
use mathlib.Core.Path.{◌≡◌, refl, sym, ap, ◌∙◌}
use mathlib.Core.Bool.{Bool}
use mathlib.Core.List.{List, [], map, append-nil}
use native.Mathlib.Omega.{arith}
use borrow.Author.Tests.{lt-ltb, le-ltb}
use lib.Dec.{leb}
use lib.ListN.{length, get_or, drop}
use lib.Seq.{drop-length}
use Rattle.plan.specs.Problem.{Problem}
use Rattle.lines.specs.Lines.{Lines}
use Rattle.moves.specs.Moves.{line_of}
use Rattle.moves.specs.declared.Move.{Move}
use Rattle.ranking.specs.declared.held.Rated.{Rated}
use Rattle.ranking.specs.Ranking.{with_all}
use Rattle.ranking.proofs.StreamLaws.{with_append}
use Rattle.path.specs.Placing.{placed}
use Rattle.blocks.specs.BlockMoves.{Block, block, closed, blocks_by, block_moves}
use Rattle.blocks.specs.Keeping.{keep_best_estimated}
use Rattle.blocks.specs.Scanning.{Run, offered, Offers, OffersAll, Pathed, Searched, own_moves, own_moves_of_all}
use Rattle.blocks.proofs.OfferLaws.{map-append}
use Rattle.blocks.proofs.OnceLaws.{own_append}
use Rattle.blocks.proofs.PathLaws.{rateable, blocks_held, moves_once}
use Rattle.blocks.proofs.KeepLaws.{kept}

module _ (all : Bool) (lines : Lines) (table starts ends tail path machines places : List ℕ) where
  -- ---- one run

  pub single_offered : (m f l : ℕ) (held : List Rated) → l ≤ f → OffersAll all (own_moves_of_all (closed (block m f l))) lines table starts ends tail path machines places held held
  unfolding own_moves_of_all with_all
  single_offered m f l held h = rw (le-ltb f l h) (record { kept = λ p order s. refl })

  pub block-offered : (m f l : ℕ) {line : List ℕ} {before after : List Rated} → f < l → line ≡ line_of lines m
      → Offers all m (own_moves (block m f l)) table starts ends tail line before after
      → OffersAll all (own_moves_of_all (closed (block m f l))) lines table starts ends tail path machines places before after
  unfolding own_moves_of_all
  block-offered m f l {line} h e k =
      rw (lt-ltb f l h, append-nil (own_moves (block m f l)))
      (record { kept = λ p order s. k.kept p lines order (rateable s m line e) })

  -- ---- one run after the other

  pub record Offering (held : List Rated) (i : ℕ) : Type 0 where
    pub left : (p : Problem) (order : List ℕ) → Searched p lines table starts ends tail path machines places
        → with_all held (map (offered all p lines (placed order starts ends) tail) (own_moves_of_all (blocks_by (λ a. get_or machines a 0) (λ a. get_or places a 0) (drop i path))))
        ≡ with_all [] (map (offered all p lines (placed order starts ends) tail) (own_moves_of_all (blocks_by (λ a. get_or machines a 0) (λ a. get_or places a 0) path)))

  pub offering_begin : {held : List Rated} → held ≡ [] → Offering held 0
  offering_begin e = record { left = λ p order s. rw e }

  pub offering_all : {held : List Rated} (i : ℕ) → Offering held i → length path ≤ i → i ≤ length path
      → OffersAll all (own_moves_of_all (blocks_by (λ a. get_or machines a 0) (λ a. get_or places a 0) path)) lines table starts ends tail path machines places [] held
  unfolding own_moves_of_all with_all
  offering_all i k h g =
      let e : i ≡ length path = omega arith in
      let n : drop i path ≡ [] = ap (λ (j : ℕ). drop j path) e ∙ drop-length path in
      record { kept = λ p order s. rw n at (k.left p order s) }

  pub offering_again : {held after : List Rated} {i r : ℕ} → Offering held i → Run (λ a. get_or machines a 0) (λ a. get_or places a 0) path i r
      → OffersAll all (own_moves_of_all (closed (block (get_or machines (get_or path i 0) 0) (get_or places (get_or path i 0) 0) (get_or places (get_or path r 0) 0)))) lines table starts ends tail path machines places held after
      → Offering after (r + 1)
  offering_again {held} {after} {i} {r} k u o =
      record {
        left = λ p order s.
            let f = offered all p lines (placed order starts ends) tail in
            let one = closed (block (get_or machines (get_or path i 0) 0) (get_or places (get_or path i 0) 0) (get_or places (get_or path r 0) 0)) in
            let rest = blocks_by (λ a. get_or machines a 0) (λ a. get_or places a 0) (drop (r + 1) path) in
            ap (λ (l : List Rated). with_all l (map f (own_moves_of_all rest))) (o.kept p order s)
            ∙ sym (with_append held (map f (own_moves_of_all one)) (map f (own_moves_of_all rest)))
            ∙ ap (with_all held) (sym (map-append f (own_moves_of_all one) (own_moves_of_all rest)) ∙ ap (map f) (sym (own_append one rest)))
            ∙ ap (λ (l : List Block). with_all held (map f (own_moves_of_all l))) (sym u.first_block)
            ∙ k.left p order s;
      }

-- ---- the three that are kept

-- As many are counted as there are block moves.
pub counted : {n : ℕ} {lines : Lines} {path machines places : List ℕ} → Pathed n lines path machines places
    → length (own_moves_of_all (blocks_by (λ a. get_or machines a 0) (λ a. get_or places a 0) path)) ≡ length (block_moves lines path)
counted k = ap (λ (l : List Block). length (own_moves_of_all l)) (blocks_held k) ∙ ap (λ (l : List Move). length l) (moves_once k)

pub three_kept : {lines : Lines} {table starts ends tail path machines places : List ℕ} {after : List Rated} (count : ℕ)
    → count ≡ length (own_moves_of_all (blocks_by (λ a. get_or machines a 0) (λ a. get_or places a 0) path))
    → OffersAll (leb count 3) (own_moves_of_all (blocks_by (λ a. get_or machines a 0) (λ a. get_or places a 0) path)) lines table starts ends tail path machines places [] after
    → (p : Problem) (order : List ℕ) → Searched p lines table starts ends tail path machines places
    → after ≡ keep_best_estimated p lines (placed order starts ends) tail (block_moves lines path)
three_kept {lines} {table} {starts} {ends} {tail} {path} {machines} {places} count e o p order s =
    let is : own_moves_of_all (blocks_by (λ a. get_or machines a 0) (λ a. get_or places a 0) path) ≡ block_moves lines path =
    ap own_moves_of_all (blocks_held s.pathed) ∙ moves_once s.pathed in
    o.kept p order s
    ∙ ap (λ (c : ℕ). with_all [] (map (offered (leb c 3) p lines (placed order starts ends) tail) (own_moves_of_all (blocks_by (λ a. get_or machines a 0) (λ a. get_or places a 0) path)))) e
    ∙ ap (λ (l : List Move). with_all [] (map (offered (leb (length l) 3) p lines (placed order starts ends) tail) l)) is
    ∙ kept p lines (placed order starts ends) tail (block_moves lines path)
