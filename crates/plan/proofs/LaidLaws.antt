-- The words of an accepted input lie as they should: each field of `Laid` from what reading the ten sections has found.
use Prim.Native.Nat.{ℕ, zero, suc, ◌+◌, ◌*◌, ◌-◌, ◌≤◌, ◌<◌}
use mathlib.Core.Path.{◌≡◌, refl, sym, ◌∙◌, ap, subst}
use mathlib.Core.Logic.{◌⊎◌, inl, inr}
use mathlib.Core.Bool.{Bool, true, false, not, ◌&&◌, ◌||◌}
use mathlib.Core.List.{List, [], ◌∷◌}
use native.Mathlib.Omega.{arith}
use native.Mathlib.Nat.{mul-suc}
use borrow.Author.Tests.{ltb-true, leb-true, eqb-true, eq-eqb, ne_eqb}
use lib.Dec.{leb, eqb}
use lib.ListN.{length, get_or}
use Rattle.graph.proofs.CountingLaws.{either}
use Rattle.grammar.specs.Sections.{sections, no_section, pick, time}
use Rattle.grammar.specs.Ranges.{in_range}
use Rattle.grammar.specs.Rules.{rising, pair_before, precedes, strict, entry_kept, total_from}
use Rattle.grammar.specs.declared.Known.{Known}
use Rattle.grammar.specs.declared.Kind.{Kind}
use Rattle.grammar.specs.declared.Kind.TheVariants.{Any, Deadline, WeightHigh}
use Rattle.grammar.specs.declared.Rule.TheVariants.{RisingOnce}
use Rattle.grammar.proofs.EntryLaws.{risen_to}
use Rattle.reader.specs.Reading.{nothing_known, yes}
use Rattle.reader.proofs.AcceptedLaws.{both, Ranged, SectionRead}
use Rattle.plan.specs.Input.{cell}
use Rattle.plan.specs.Accepted.{longest}
use Rattle.plan.specs.Found.{layout_of}
use Rattle.plan.specs.Laid.{Laid}

-- ---- what a test that holds says

either_of : {A B : Type 0} (b d : Bool) → (b || d) ≡ true → (b ≡ true → A) → (d ≡ true → B) → A ⊎ B
either_of true d e f g = inl (f refl)
either_of false d e f g = inr (g e)

neither : (b d : Bool) → (b || d) ≡ false → (b ≡ false) × (d ≡ false)
neither true d e = let z : ◌≡◌ {A = ℕ} 0 1 = cc in absurd (omega arith)
neither false d e = (refl, e)

spans : (low high w : ℕ) → (leb low w && leb w high) ≡ true → (low ≤ w) × (w ≤ high)
spans low high w e = let u = both (leb low w) (leb w high) e in (leb-true low w u.0, leb-true w high u.1)

-- A range that goes by the word before, which is the entry's f-th.
after_word : (ws : List ℕ) (kind : Kind) (k : Known) (p f : ℕ) → Ranged ws k kind (p + suc f)
    → in_range kind k (get_or ws (p + f) 0) (get_or ws (p + suc f) 0) ≡ true
after_word ws kind k p f e =
    let x : p + suc f - 1 ≡ p + f = omega arith in
    subst (λ (i : ℕ). in_range kind k (get_or ws i 0) (get_or ws (p + suc f) 0) ≡ true) x e

-- Every word of an entry of Machines, and each of the three of an entry of Times, is a time.
transport_time : (f : ℕ) (k : Known) (before w : ℕ) → in_range (pick f time time time time time) k before w ≡ true → w ≤ longest
transport_time zero k b w e = (spans 0 longest w e).1
transport_time (suc zero) k b w e = (spans 0 longest w e).1
transport_time (suc (suc zero)) k b w e = (spans 0 longest w e).1
transport_time (suc (suc (suc zero))) k b w e = (spans 0 longest w e).1
transport_time (suc (suc (suc (suc f)))) k b w e = (spans 0 longest w e).1

three_times : (f : ℕ) (k : Known) (before w : ℕ) → f < 3 → in_range (pick f time time time Any Any) k before w ≡ true → w ≤ longest
three_times zero k b w h e = (spans 0 longest w e).1
three_times (suc zero) k b w h e = (spans 0 longest w e).1
three_times (suc (suc zero)) k b w h e = (spans 0 longest w e).1
three_times (suc (suc (suc f))) k b w h e = absurd (omega arith)

-- ---- what a rule that was kept says

kept_once : (ws : List ℕ) (w done at : ℕ) → entry_kept ws RisingOnce w done at ≡ true
    → (rising ws w done at ≡ true) × (pair_before ws w done at (get_or ws at 0) (get_or ws (at + 1) 0) ≡ false)
kept_once ws w done at e = by_tests (rising ws w done at) (pair_before ws w done at (get_or ws at 0) (get_or ws (at + 1) 0)) e
  where
    by_tests : (b d : Bool) → (b && not d) ≡ true → (b ≡ true) × (d ≡ false)
    by_tests true true e = (refl, sym e)
    by_tests true false e = (refl, refl)
    by_tests false d e = absurd (cc)

-- Entries of two words from p on: each begins with a word that is not below that of the entry before it.
rises : (ws : List ℕ) (p e : ℕ) → rising ws 2 (0 + (e + 1)) (p + 2 * (e + 1)) ≡ true
    → get_or ws (p + 2 * e + 0) 0 ≤ get_or ws (p + 2 * (e + 1) + 0) 0
rises ws p e r =
    let h = risen_to ws 2 (0 + (e + 1)) (p + 2 * (e + 1)) r (omega arith) in
    let x : p + 2 * e + 0 ≡ p + 2 * (e + 1) - 2 = omega arith in
    let y : p + 2 * (e + 1) + 0 ≡ p + 2 * (e + 1) = omega arith in
    rw (x, y) h

-- Entries of four words from p on: the first three of each come after those of the entry before it.
triples_rise : (ws : List ℕ) (p e : ℕ) → strict ws 4 (0 + (e + 1)) (p + 4 * (e + 1)) ≡ true
    → precedes ws 3 (p + 4 * e) (p + 4 * (e + 1)) ≡ true
triples_rise ws p e r =
    let x : p + 4 * (e + 1) - 4 ≡ p + 4 * e = omega arith in
    subst (λ (i : ℕ). precedes ws 3 i (p + 4 * (e + 1)) ≡ true) x
    (rw (ne_eqb (0 + (e + 1)) 0 (λ z. omega arith)) at r)

-- A pair that was not found among `done` entries of w words from p on is none of them.
unmet : (ws : List ℕ) (w p a m done at : ℕ) → at ≡ p + w * done → pair_before ws w done at a m ≡ false
    → (d : ℕ) → d < done → get_or ws (p + w * d) 0 ≡ a → get_or ws (p + w * d + 1) 0 ≡ m → ⊥
unfolding pair_before
unmet ws w p a m zero at ea e d l ex ey = absurd (omega arith)
unmet ws w p a m (suc done) at ea e d l ex ey =
    let back : at - w ≡ p + w * done = omega (arith, mul-suc w done) in
    let u = neither (eqb (get_or ws (at - w) 0) a && eqb (get_or ws (at - w + 1) 0) m) (pair_before ws w done (at - w) a m) e in
    either d done (λ same. last back u.0 same) (λ other. unmet ws w p a m done (at - w) back u.1 d (omega arith) ex ey)
  where
    last : at - w ≡ p + w * done → (eqb (get_or ws (at - w) 0) a && eqb (get_or ws (at - w + 1) 0) m) ≡ false → d ≡ done → ⊥
    last back missed same =
        let here : at - w ≡ p + w * d = back ∙ ap (λ (n : ℕ). p + w * n) (sym same) in
        let met : (eqb (get_or ws (at - w) 0) a && eqb (get_or ws (at - w + 1) 0) m) ≡ true = rw (here, eq-eqb _ _ ex, eq-eqb _ _ ey) in
        let z : ◌≡◌ {A = ℕ} 0 1 = cc in
        omega arith

-- ---- the ten sections, each with what is known before it

module _ (ws : List ℕ) (activities machines times candidates setups predecessors search order assignment end : ℕ) where
  abbrev known₁ : Known
  known₁ = record { tasks = get_or ws 0 0; activities = 0; machines = 0; total = total_from ws (get_or ws 0 0) 1 }

  abbrev known₂ : Known
  known₂ = record { tasks = get_or ws 0 0; activities = get_or ws activities 0; machines = 0; total = total_from ws (get_or ws 0 0) 1 }

  abbrev known₃ : Known
  known₃ =
      record {
        tasks = get_or ws 0 0;
        activities = get_or ws activities 0;
        machines = get_or ws machines 0;
        total = total_from ws (get_or ws 0 0) 1;
      }

  abbrev starts₁₀ : List ℕ
  starts₁₀ = 0 ∷ activities ∷ machines ∷ times ∷ candidates ∷ setups ∷ predecessors ∷ search ∷ order ∷ assignment ∷ []

  pub laid : SectionRead ws (get_or sections 0 no_section) nothing_known 0 activities
      → SectionRead ws (get_or sections 1 no_section) known₁ activities machines
      → SectionRead ws (get_or sections 2 no_section) known₂ machines times
      → SectionRead ws (get_or sections 3 no_section) known₃ times candidates
      → SectionRead ws (get_or sections 4 no_section) known₃ candidates setups
      → SectionRead ws (get_or sections 5 no_section) known₃ setups predecessors
      → SectionRead ws (get_or sections 6 no_section) known₃ predecessors search
      → SectionRead ws (get_or sections 7 no_section) known₃ search order
      → SectionRead ws (get_or sections 8 no_section) known₃ order assignment
      → SectionRead ws (get_or sections 9 no_section) known₃ assignment end
      → length ws ≤ end
      → Laid ws (layout_of (yes known₃ starts₁₀))
  laid t a m d c u p s o g le =
      let n : ℕ = get_or ws activities 0 in
      let r : ℕ = get_or ws machines 0 in
      let product : get_or ws times 0 ≡ n * r = eqb-true _ _ d.rule in
      let sum : total_from ws (get_or ws 0 0) 1 ≡ n = eqb-true _ _ a.rule in
      let most : get_or ws assignment 0 ≤ n = leb-true _ _ g.rule in
      let one : get_or ws search 0 ≡ 1 = omega (arith, s.low, s.high) in
      record {
        tasks_at = refl;
        activities_at = t.onward;
        machines_at = omega (arith, a.onward);
        times_at = m.onward;
        candidates_at' = d.onward ∙ ap (λ (x : ℕ). times + 1 + 3 * x) product;
        setups_at = c.onward;
        predecessors_at = u.onward;
        search_at = p.onward;
        order_at = omega (arith, s.onward);
        assignment_at = omega (arith, o.onward);
        ends = omega (arith, g.onward, g.within);
        tasks = refl;
        activities = refl;
        machines = refl;
        times = product;
        search = one;
        some_tasks = (t.low, t.high);
        some_activities = (a.low, a.high);
        some_machines = (m.low, m.high);
        most_candidates = c.high;
        most_setups = u.high;
        most_predecessors = p.high;
        most_order = o.high;
        most_assignment = most;
        category = λ i l. (spans 0 7 _ (t.entries.words i 0 l (omega arith))).1;
        flag = λ i l. (spans 0 1 _ (t.entries.words i 2 l (omega arith))).1;
        deadline = due;
        steps = λ i l. spans 1 128 _ (t.entries.words i 4 l (omega arith));
        total = sum;
        transport = λ l x i j. transport_time x known₃ _ _ (m.entries.words l x i j);
        time = λ e f i j. three_times f known₃ _ _ j (d.entries.words e f (rw product i) j);
        candidate_activity = λ e l. ltb-true _ _ (c.entries.words e 0 l (omega arith));
        candidate_machine = λ e l. ltb-true _ _ (c.entries.words e 1 l (omega arith));
        candidates_rise = λ e l. rises ws (candidates + 1) e (kept_once ws 2 (0 + (e + 1)) (candidates + 1 + 2 * (e + 1)) (c.entries.rules (e + 1) l)).0;
        candidates-once = once;
        setup_machine = λ e l. ltb-true _ _ (u.entries.words e 0 l (omega arith));
        setup_previous = λ e l. (spans 0 8 _ (u.entries.words e 1 l (omega arith))).1;
        setup_category = λ e l. (spans 0 7 _ (u.entries.words e 2 l (omega arith))).1;
        setup_time = λ e l. (spans 0 longest _ (u.entries.words e 3 l (omega arith))).1;
        setups_rise = λ e l. triples_rise ws (setups + 1) e (u.entries.rules (e + 1) l);
        predecessor_of = λ e l. ltb-true _ _ (p.entries.words e 0 l (omega arith));
        predecessor_named = λ e l. ltb-true _ _ (p.entries.words e 1 l (omega arith));
        predecessors_rise = λ e l. rises ws (predecessors + 1) e (p.entries.rules (e + 1) l);
        weight = λ k. after_word ws WeightHigh known₃ (search + 1 + 3 * 0) 0 (s.entries.words 0 1 (omega arith) (omega arith));
        limit = (spans 0 1000 _ (s.entries.words 0 2 (omega arith) (omega arith))).1;
        assigned = λ i l. either_of _ _ (g.entries.words i 0 l (omega arith)) (ltb-true _ _) (eqb-true _ _);
      }
    where
      due : (i : ℕ) → i < get_or ws 0 0 → (cell ws 0 5 i 2 ≡ 1) ⊎ (cell ws 0 5 i 3 ≡ 0)
      due i l =
          either_of _ _ (after_word ws Deadline known₁ (0 + 1 + 5 * i) 2 (t.entries.words i 3 l (omega arith))) (eqb-true _ _) (eqb-true _ _)

      once : (x e : ℕ) → x < e → e < get_or ws candidates 0
          → cell ws candidates 2 x 0 ≡ cell ws candidates 2 e 0 → cell ws candidates 2 x 1 ≡ cell ws candidates 2 e 1 → ⊥
      once x e l h ea em =
          let p : ℕ = candidates + 1 in
          let x₀ : p + 2 * x + 0 ≡ p + 2 * x = omega arith in
          let e₀ : p + 2 * e + 0 ≡ p + 2 * e = omega arith in
          unmet ws 2 p (get_or ws (p + 2 * e) 0) (get_or ws (p + 2 * e + 1) 0) (0 + e) (p + 2 * e) (omega arith)
          (kept_once ws 2 (0 + e) (p + 2 * e) (c.entries.rules e h)).1 x (omega arith) (rw (x₀, e₀) at ea) em
