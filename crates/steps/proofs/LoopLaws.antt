-- One step after the other: what is left of the search stays the same.
use Prim.Native.Nat.{ℕ, zero, suc, ◌+◌, ◌-◌, ◌≤◌, ◌<◌}
use mathlib.Core.Path.{◌≡◌, refl, sym, ap, ap₂, ◌∙◌, subst}
use mathlib.Core.Bool.{Bool, true, false, not}
use mathlib.Core.List.{List}
use native.Mathlib.Omega.{arith}
use native.Mathlib.Numerals.{add-one}
use lib.Dec.{T}
use lib.Ieee.{Float, lt, is_nan}
use lib.ListN.{length, get_or}
use Rattle.words.specs.Words.{words, Below as BelowBytes}
use Rattle.graph.specs.Counting.{Below}
use Rattle.graph.proofs.CountingLaws.{below_more}
use Rattle.graph.proofs.ShopTheorem.{graph}
use Rattle.graph.proofs.Theorem.{order_below}
use Rattle.plan.specs.Problem.{Problem, Genes}
use Rattle.plan.specs.Input.{problem_of, genes_of}
use Rattle.plan.specs.Found.{Weighed}
use Rattle.plan.specs.Accepted.{Accepted}
use Rattle.plan.specs.declared.Layout.{Layout}
use Rattle.lines.specs.Lines.{Lines, lines_in, WellFormed}
use Rattle.moves.specs.Moves.{applied, stretches}
use Rattle.moves.specs.declared.Move.{Move}
use Rattle.moves.proofs.CellLaws.{many_in}
use Rattle.moves.proofs.MoveLaws.{as_many}
use Rattle.fitness.specs.Fitness.{fitness_of}
use Rattle.fitness.proofs.NoNan.{fitness_no_nan}
use Rattle.timing.specs.Timing.{timing_order, counts_for}
use Rattle.timing.specs.Placing.{Timed}
use Rattle.timing.proofs.LinesShop.{shop, counted}
use Rattle.trial.specs.Taboo.{fresh, pairs_after, left_after}
use Rattle.trial.specs.Trial.{line_fitness, Kept, Holding, Weighing, Allowed}
use Rattle.trial.specs.declared.Taboo.{Taboo}
use Rattle.trial.specs.declared.Best.{Best}
use Rattle.trial.specs.declared.Best.TheVariants.{Nothing, Found}
use Rattle.trial.proofs.TimeLaws.{holds_of, allowed_well_formed, moved-well_formed, timed_on, ended}
use Rattle.trial.proofs.TryLaws.{pairs_after_in}
use Rattle.search.specs.Asked.{Lined}
use Rattle.search.specs.Search.{Saved, saved_of, saved_if, lesser_if, genes_by, genes_on, State, steps_from, best_from, made, begun, searched_to}

-- ---- the state that the loop holds

abbrev pub state_of : (lines : Lines) → (pairs left : List Taboo) → (best : Float) → Saved → State
state_of lines pairs left best found = record { lines = lines; pairs = pairs; left = left; best = best; found = found }

same_state : {l l' : Lines} {a a' b b' : List Taboo} {f f' : Float} {s s' : Saved} → l ≡ l' → a ≡ a' → b ≡ b' → f ≡ f' → s ≡ s' → state_of l a b f s ≡ state_of l' a' b' f' s'
same_state {l} {l'} {a} {a'} {b} {b'} {f} {f'} {s} {s'} el ea eb ef es =
    ap (λ (x : Lines). state_of x a b f s) el ∙ ap (λ (x : List Taboo). state_of l' x b f s) ea ∙ ap (λ (x : List Taboo). state_of l' a' x f s) eb
    ∙ ap (λ (x : Float). state_of l' a' b' x s) ef ∙ ap (λ (x : Saved). state_of l' a' b' f' x) es

-- A best fitness that can be shown as bits.
abbrev pub Number : Float → Type 0
Number f = T (not (is_nan f))

pub lesser_number : (b : Bool) (f g : Float) → Number f → Number g → Number (lesser_if b f g)
lesser_number true f g nf ng = nf
lesser_number false f g nf ng = ng

pub line_number : (s : List ℕ) (z : Layout) → Accepted (problem_of (words s) z) (genes_of (words s) z) → BelowBytes 256 s → Weighed (words s) z → (lines : Lines)
    → WellFormed z.activities z.machines lines → {order starts ends : List ℕ} → Timed (problem_of (words s) z) lines order starts ends → Number (line_fitness (problem_of (words s) z) lines)
line_number s z ok bytes weighed lines w {order} {starts} {ends} t =
    subst (λ (l : List ℕ). Number (fitness_of (problem_of (words s) z) (λ a. get_or l a 0))) t.placement.done
    (fitness_no_nan s z ok bytes weighed ends (ended (problem_of (words s) z) (genes_of (words s) z) ok lines w t))

-- ---- timed lines

pub well_16 : {n R : ℕ} {lines : Lines} → R ≤ 16 → WellFormed n R lines → WellFormed n 16 lines
well_16 h w = record { once = w.once; known = w.known; short = w.short; idle = λ m k. w.idle m (omega (arith, h, k)) }

pub order_known : (p : Problem) (g : Genes) (ok : Accepted p g) (lines : Lines) (w : WellFormed p.n p.machines lines) {order starts ends : List ℕ} → Timed p lines order starts ends → Below p.n order
order_known p g ok lines w t = rw t.whole.is (order_below (graph (shop p g ok lines w)) (counts_for p lines) (counted p g ok lines w))

-- ---- what is left

pub record Going (p : Problem) (last : State) (limit : ℕ) (cells lens order starts ends taken begun done tasks machines : List ℕ) (pairs left : List Taboo) (best : Float) (found : Bool) (step : ℕ) : Type 0 where
  pub within : step ≤ limit
  pub few : limit ≤ 1000
  pub lined : Lined p.n p.machines cells lens
  pub timed : Timed p (lines_in cells lens) order starts ends
  pub room : Kept p.n order starts ends
  pub kept : Kept p.n taken begun done
  pub tasked : length tasks ≡ p.n
  pub machined : length machines ≡ p.n
  pub number : Number best
  pub ahead : last ≡ steps_from p (limit - step) step (best_from p step (state_of (lines_in cells lens) pairs left best (saved_of found tasks machines))) (state_of (lines_in cells lens) pairs left best (saved_of found tasks machines))

-- ---- at first

pub first_ahead : (p : Problem) (limit : ℕ) (lines : Lines) {pairs left : List Taboo} {best : Float} → pairs ≡ fresh → left ≡ fresh → best ≡ line_fitness p lines
    → (tasks machines : List ℕ)
    → searched_to p limit lines
    ≡ steps_from p (limit - 0) 0 (best_from p 0 (state_of lines pairs left best (saved_of false tasks machines))) (state_of lines pairs left best (saved_of false tasks machines))
first_ahead p limit lines {pairs} {left} {best} ep el eb tasks machines =
    let same : begun p lines ≡ state_of lines pairs left best (saved_of false tasks machines) = same_state refl (sym ep) (sym el) (sym eb) refl in
    let z : limit ≡ limit - 0 = omega arith in
    ap (λ (x : State). steps_from p limit 0 (best_from p 0 x) x) same
    ∙ ap (λ (m : ℕ). steps_from p m 0 (best_from p 0 (state_of lines pairs left best (saved_of false tasks machines))) (state_of lines pairs left best (saved_of false tasks machines))) z

-- ---- at the end, and from one step to the next

module _ {p : Problem} {last : State} {limit : ℕ} {cells lens order starts ends taken begun done tasks machines : List ℕ} {pairs left : List Taboo} {best : Float} {found : Bool} {step : ℕ}
    (k : Going p last limit cells lens order starts ends taken begun done tasks machines pairs left best found step) where
  abbrev st : State
  st = state_of (lines_in cells lens) pairs left best (saved_of found tasks machines)

  -- the last step was made
  pub all_made : limit ≤ step → last ≡ st
  unfolding steps_from
  all_made h =
      let z : limit - step ≡ 0 = omega (arith, k.within) in
      k.ahead ∙ ap (λ (m : ℕ). steps_from p m step (best_from p step st) st) z

  -- no move counts
  pub stopped : {b : Best} → b ≡ best_from p step st → b ≡ Nothing → last ≡ st
  unfolding steps_from
  stopped e q = k.ahead ∙ ap (λ (x : Best). steps_from p (limit - step) step x st) (sym e ∙ q) ∙ ends_at (limit - step)
    where
      ends_at : (m : ℕ) → steps_from p m step Nothing st ≡ st
      ends_at zero = refl
      ends_at (suc m) = refl

  -- a move is made
  pub made_ahead : step < limit → {b : Best} {f : Float} {m : Move} → b ≡ best_from p step st → b ≡ Found f m
      → last ≡ steps_from p (limit - (step + 1)) (step + 1) (best_from p (step + 1) (made p step st f m)) (made p step st f m)
  unfolding steps_from
  made_ahead h {b} {f} {m} e q =
      let z : limit - step ≡ suc (limit - (step + 1)) = omega arith in
      k.ahead ∙ ap (λ (x : Best). steps_from p (limit - step) step x st) (sym e ∙ q)
      ∙ ap (λ (j : ℕ). steps_from p j step (Found f m) st) z ∙ one (limit - (step + 1))
      ∙ ap (λ (j : ℕ). steps_from p (limit - (step + 1)) j (best_from p j (made p step st f m)) (made p step st f m)) (sym (add-one step))
    where
      one : (j : ℕ) → steps_from p (suc j) step (Found f m) st ≡ steps_from p j (suc step) (best_from p (suc step) (made p step st f m)) (made p step st f m)
      one j = refl

  -- ---- the move is made on the lines as they were put back

  module _ {b : Best} {f : Float} {m : Move} (is : b ≡ Found f m) (cells₁ : List ℕ) {taken₁ begun₁ done₁ : List ℕ} (holding : Holding p (lines_in cells lens) b taken₁ begun₁ done₁)
      (lines₁ : lines_in cells₁ lens ≡ lines_in cells lens) where
    pub weighing : Weighing p (lines_in cells lens) f m taken₁ begun₁ done₁
    weighing = holding.held f m is

    pub allowed_back : Allowed p.machines (lines_in cells₁ lens) m
    allowed_back = subst (λ (l : Lines). Allowed p.machines l m) (sym lines₁) weighing.allowed

    pub well_back : WellFormed p.n p.machines (lines_in cells₁ lens)
    well_back = subst (λ (l : Lines). WellFormed p.n p.machines l) (sym lines₁) k.lined.well

    pub number-made : ((lines : Lines) → WellFormed p.n p.machines lines → (o s e : List ℕ) → Timed p lines o s e → Number (line_fitness p lines)) → (best₂ : Float) → best₂ ≡ lesser_if (lt f best) f best → Number best₂
    number-made all best₂ e =
        let here = all (applied m (lines_in cells lens)) (allowed_well_formed cells lens m k.lined.sixteen k.lined.well weighing.allowed) taken₁ begun₁ done₁ weighing.timed in
        subst Number (sym e) (lesser_number (lt f best) f best (subst Number (sym weighing.value) here) k.number)

    pub pairs_made : length cells₁ ≡ 2048 → {pairs₂ : List Taboo} → pairs₂ ≡ pairs_after step pairs (stretches cells₁) m → pairs₂ ≡ pairs_after step pairs (lines_in cells lens) m
    pairs_made long e =
        e ∙ pairs_after_in (holds_of cells₁ lens long k.lined.sixteen well_back) step pairs m allowed_back.fits
        ∙ ap (λ (l : Lines). pairs_after step pairs l m) lines₁

    module _ (cells₂ lens₂ : List ℕ) (lines₂ : lines_in cells₂ lens₂ ≡ applied m (lines_in cells₁ lens)) where
      pub moved_lines : lines_in cells₂ lens₂ ≡ applied m (lines_in cells lens)
      moved_lines = lines₂ ∙ ap (applied m) lines₁

      pub moved_well : WellFormed p.n p.machines (lines_in cells₂ lens₂)
      moved_well = moved-well_formed cells₁ lens cells₂ lens₂ m k.lined.sixteen well_back allowed_back lines₂

      pub moved-timed : {order₂ starts₂ ends₂ : List ℕ} → (order₂ ≡ taken₁) × (starts₂ ≡ begun₁) × (ends₂ ≡ done₁) → Timed p (lines_in cells₂ lens₂) order₂ starts₂ ends₂
      moved-timed (eo, es, ee) = rw eo (rw es (rw ee (timed_on (sym moved_lines) weighing.timed)))

      pub moved_sixteen : length lens₂ ≡ 16
      moved_sixteen =
          sym (many_in cells₂ lens₂) ∙ ap length lines₂ ∙ as_many m (lines_in cells₁ lens) ∙ many_in cells₁ lens ∙ k.lined.sixteen

      -- what was saved is the order in which the lines are timed
      pub genes-made : {order₂ : List ℕ} → order₂ ≡ taken₁ → genes_by p p.n order₂ (lines_in cells₂ lens₂) ≡ genes_on p (applied m (lines_in cells lens))
      genes-made eo =
          ap (λ (o : List ℕ). genes_by p p.n o (lines_in cells₂ lens₂)) (eo ∙ weighing.timed.whole.is)
          ∙ ap (λ (l : Lines). genes_by p p.n (timing_order p (applied m (lines_in cells lens))) l) moved_lines

      pub ahead_made : step < limit → b ≡ best_from p step st → {pairs₂ left₂ : List Taboo} {best₂ : Float} (found₂ : Bool) {order₂ : List ℕ} (tasks₂ machines₂ : List ℕ)
          → pairs₂ ≡ pairs_after step pairs (lines_in cells lens) m → left₂ ≡ left_after step left m → order₂ ≡ taken₁ → best₂ ≡ lesser_if (lt f best) f best
          → saved_of found₂ tasks₂ machines₂ ≡ saved_if (lt f best) (genes_by p p.n order₂ (lines_in cells₂ lens₂)) (saved_of found tasks machines)
          → last ≡ steps_from p (limit - (step + 1)) (step + 1) (best_from p (step + 1) (state_of (lines_in cells₂ lens₂) pairs₂ left₂ best₂ (saved_of found₂ tasks₂ machines₂))) (state_of (lines_in cells₂ lens₂) pairs₂ left₂ best₂ (saved_of found₂ tasks₂ machines₂))
      ahead_made h e {pairs₂} {left₂} {best₂} found₂ {order₂} tasks₂ machines₂ ep el eo eb es =
          made_ahead h e is
          ∙ ap (λ (x : State). steps_from p (limit - (step + 1)) (step + 1) (best_from p (step + 1) x) x)
          (sym (same_state moved_lines ep el eb (es ∙ ap (λ (x : Saved). saved_if (lt f best) x (saved_of found tasks machines)) (genes-made eo))))
