-- Moves tried one after the other. Assumes nothing.
use Prim.Native.Nat.{ℕ, suc, ◌+◌, ◌≤◌, ◌<◌}
use mathlib.Core.Path.{◌≡◌, refl, sym, ap, ◌∙◌, subst}
use mathlib.Core.Bool.{Bool}
use mathlib.Core.List.{List, [], ◌∷◌, ◌++◌}
use native.Mathlib.Omega.{arith}
use lib.Ieee.{Float}
use lib.ListN.{length, get_or, drop, length-drop}
use lib.Seq.{drop-cons, length-take-le}
use Rattle.plan.specs.Problem.{Problem}
use Rattle.lines.specs.Lines.{Lines, lines_in}
use Rattle.lines.specs.Linking.{links_of, LinesHeld}
use Rattle.moves.specs.declared.Move.{Move}
use Rattle.moves.specs.declared.Move.TheVariants.{Swap, Shift, Reassign}
use Rattle.moves.specs.Moves.{Holds, Fits, stretches}
use Rattle.moves.specs.declared.Pairing.{Pairing}
use Rattle.moves.proofs.PairLaws.{pair_of'}
use Rattle.ranking.specs.declared.held.Rated.{Rated}
use Rattle.ranking.specs.declared.held.Three.{Three}
use Rattle.ranking.specs.Ranking.{ranked}
use Rattle.ranking.proofs.EveryLaws.{Every, every_held}
use Rattle.timing.specs.Placing.{Rooms}
use Rattle.trial.specs.declared.Taboo.{Taboo}
use Rattle.trial.specs.declared.Best.{Best}
use Rattle.trial.specs.Taboo.{either_way, forbidden, listing_pair, pairs_after}
use Rattle.trial.specs.Trial.{tried, tried_all, moves_of, Allowed, AllAllowed, Kept, Holding}

-- what is read from the stretches is read from the lines
pub forbidden_in : {cells lens : List ℕ} → Holds cells lens → (step : ℕ) (pairs left : List Taboo) (m : Move) → Fits m (lines_in cells lens)
    → forbidden step pairs left (stretches cells) m ≡ forbidden step pairs left (lines_in cells lens) m
forbidden_in h step pairs left (Swap m i) f = ap (λ (x : Pairing). either_way step pairs x) (pair_of' h (Swap m i) f)
forbidden_in h step pairs left (Shift m i j) f = ap (λ (x : Pairing). either_way step pairs x) (pair_of' h (Shift m i j) f)
forbidden_in h step pairs left (Reassign a r i q j) f = refl

-- .. of the first lines
pub forbidden-first : {cells lens : List ℕ} (lines : Lines) → Holds cells lens → lines_in cells lens ≡ lines → (step : ℕ) (pairs left : List Taboo) (m : Move) → Fits m (lines_in cells lens)
    → forbidden step pairs left (stretches cells) m ≡ forbidden step pairs left lines m
forbidden-first lines h e step pairs left m f = forbidden_in h step pairs left m f ∙ ap (λ (l : Lines). forbidden step pairs left l m) e

pub pairs_after_in : {cells lens : List ℕ} → Holds cells lens → (step : ℕ) (pairs : List Taboo) (m : Move) → Fits m (lines_in cells lens)
    → pairs_after step pairs (stretches cells) m ≡ pairs_after step pairs (lines_in cells lens) m
pairs_after_in h step pairs (Swap m i) f = ap (λ (x : Pairing). listing_pair step pairs x) (pair_of' h (Swap m i) f)
pairs_after_in h step pairs (Shift m i j) f = ap (λ (x : Pairing). listing_pair step pairs x) (pair_of' h (Shift m i j) f)
pairs_after_in h step pairs (Reassign a r i q j) f = refl

-- what is so of every move offered
pub all_allowed : {R : ℕ} {lines : Lines} (three : Three) → Every (λ (x : Rated). Allowed R lines x.made) (ranked three) → AllAllowed R lines three
all_allowed {R} {lines} three e =
    record { each = λ k h other. every_held (λ (x : Rated). Allowed R lines x.made) three e k h other }

-- the k-th is allowed on the same lines
pub allowed_now : {R k : ℕ} {lines : Lines} {three : Three} (now : Lines) (rated : Rated) → now ≡ lines → AllAllowed R lines three → k < three.count → rated ≡ get_or (ranked three) k rated
    → Allowed R now rated.made
allowed_now {R} {k} {lines} now rated e a h q =
    rw e (subst (λ (x : Rated). Allowed R lines x.made) (sym q) (a.each k h rated))

pub holding_on : {p : Problem} {l l' : Lines} {b : Best} {o s e : List ℕ} → l ≡ l' → Holding p l b o s e → Holding p l' b o s e
holding_on {p} {l} {l'} {b} {o} {s} {e} q h = subst (λ (x : Lines). Holding p x b o s e) q h

pub rooms_kept : {n : ℕ} {b a m p o s e b' a' m' p' o' s' e' : List ℕ} → Rooms n b a m p o s e
    → length b' ≡ length b → length a' ≡ length a → length m' ≡ length m → length p' ≡ length p → length o' ≡ length o → length s' ≡ length s → length e' ≡ length e → Rooms n b' a' m' p' o' s' e'
rooms_kept r hb ha hm hp ho hs he =
    record {
      length_before = hb ∙ r.length_before;
      length-after = ha ∙ r.length-after;
      length-machines = hm ∙ r.length-machines;
      length-places = hp ∙ r.length-places;
      length_order = ho ∙ r.length_order;
      length_starts = hs ∙ r.length_starts;
      length-ends = he ∙ r.length-ends;
    }

pub kept_kept : {n : ℕ} {o s e o' s' e' : List ℕ} → Kept n o s e → length o' ≡ length o → length s' ≡ length s → length e' ≡ length e → Kept n o' s' e'
kept_kept r ho hs he = record { length_order = ho ∙ r.length_order; length_starts = hs ∙ r.length_starts; length-ends = he ∙ r.length-ends }

-- those before k are tried: what is left, after what is held, gives what all of them give; the lines are the first ones
pub record Trying (p : Problem) (n : ℕ) (lines : Lines) (lens : List ℕ) (forbid : Move → Bool) (best : Float) (three : Three) (b₀ b : Best) (k : ℕ)
    (cells before after machines places counts stack order starts ends taken begun done : List ℕ) : Type 0 where
  pub same : lines_in cells lens ≡ lines
  pub long : length cells ≡ 2048
  pub rooms : Rooms n before after machines places order starts ends
  pub linked : LinesHeld n lines (links_of before after machines places)
  pub counted : length counts ≡ n
  pub stacked : length stack ≡ n
  pub kept : Kept n taken begun done
  pub holding : Holding p lines b taken begun done
  pub rest : tried_all p lines forbid best (moves_of (drop k (ranked three))) b ≡ tried_all p lines forbid best (moves_of (ranked three)) b₀

module _ (p : Problem) (lines : Lines) (forbid : Move → Bool) (best : Float) (three : Three) where
  -- the k-th is tried next
  pub next_tried : (b₀ b b' : Best) (k : ℕ) (rated : Rated) (f : Bool) → k < three.count → rated ≡ get_or (ranked three) k rated → f ≡ forbid rated.made
      → b' ≡ tried p lines f best rated.made b
      → tried_all p lines forbid best (moves_of (drop k (ranked three))) b ≡ tried_all p lines forbid best (moves_of (ranked three)) b₀
      → tried_all p lines forbid best (moves_of (drop (k + 1) (ranked three))) b' ≡ tried_all p lines forbid best (moves_of (ranked three)) b₀
  unfolding tried_all moves_of
  next_tried b₀ b b' k rated f h e g t rest =
      let long : k < length (ranked three) = omega (arith, length-take-le three.count (three.first ∷ three.second ∷ three.third ∷ []) three.few) in
      let next : suc k ≡ k + 1 = omega arith in
      let cut : drop k (ranked three) ≡ rated ∷ drop (k + 1) (ranked three) =
      drop-cons (ranked three) k rated long ∙ ap (λ (x : Rated). x ∷ drop (suc k) (ranked three)) (sym e) ∙ ap (λ (i : ℕ). rated ∷ drop i (ranked three)) next in
      ap (λ (x : Best). tried_all p lines forbid best (moves_of (drop (k + 1) (ranked three))) x) (t ∙ ap (λ (x : Bool). tried p lines x best rated.made b) g)
      ∙ ap (λ (l : List Rated). tried_all p lines forbid best (moves_of l) b) (sym cut)
      ∙ rest

  none_left : (l : List Rated) (b : Best) → length l ≡ 0 → b ≡ tried_all p lines forbid best (moves_of l) b
  unfolding tried_all moves_of
  none_left [] b e = refl
  none_left (x ∷ l) b e = absurd (omega arith)

  -- all are tried
  pub all-tried : (b₀ b : Best) (k : ℕ) → three.count ≤ k
      → tried_all p lines forbid best (moves_of (drop k (ranked three))) b ≡ tried_all p lines forbid best (moves_of (ranked three)) b₀
      → b ≡ tried_all p lines forbid best (moves_of (ranked three)) b₀
  all-tried b₀ b k h rest =
      none_left (drop k (ranked three)) b (omega (arith, length-drop k (ranked three), length-take-le three.count (three.first ∷ three.second ∷ three.third ∷ []) three.few))
      ∙ rest

-- some after others
pub tried-append : (p : Problem) (lines : Lines) (forbid : Move → Bool) (best : Float) (l m : List Move) (b : Best)
    → tried_all p lines forbid best (l ++ m) b ≡ tried_all p lines forbid best m (tried_all p lines forbid best l b)
unfolding tried_all
tried-append p lines forbid best [] m b = refl
tried-append p lines forbid best (x ∷ l) m b = tried-append p lines forbid best l m (tried p lines (forbid x) best x b)
