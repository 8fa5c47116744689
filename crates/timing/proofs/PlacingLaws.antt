-- One placing along the timing order: what it asks is there, and it leaves the start and the end that the rule says.
use Rattle.std.specs.Prelude.{None, Option, Some, ℕ}
use Prim.Native.Nat.{ℕ, zero, suc, ◌+◌, ◌≤◌, ◌<◌, ◌^◌, max}
use mathlib.Core.Path.{◌≡◌, refl, sym, ap, ap₂, ◌∙◌, subst}
use mathlib.Core.List.{List, [], ◌∷◌}
use native.Mathlib.Omega.{arith}
use native.Mathlib.Numerals.{add-one}
use lib.ListN.{length, get_or, set, take, replicate, length-set, length-replicate}
use lib.Seq.{get_or-set_same, get_or-set_other, ext_get_or, take_all}
use Rattle.graph.specs.Counting.{count_of, Below}
use Rattle.graph.specs.Links.{linked, link_of}
use Rattle.graph.specs.Shop.{greatest}
use Rattle.graph.specs.Starts.{Rule, timed, place}
use Rattle.graph.proofs.CountingLaws.{hit-eq, hit_pos, below_of}
use Rattle.graph.proofs.ShopTheorem.{graph}
use Rattle.graph.proofs.Theorem.{at_most_n}
use Rattle.plan.specs.Problem.{Problem, Genes}
use Rattle.plan.specs.Found.{transports_of, between}
use Rattle.plan.specs.Accepted.{Accepted, longest}
use Rattle.plan.proofs.RowLaws.{between_at}
use Rattle.tables.specs.Tabled.{Tabled, task_pred}
use Rattle.bounds.specs.Bounds.{setup_of, span_of, arrival_of}
use Rattle.bounds.proofs.ArrivalLaws.{link_names}
use Rattle.lines.specs.Lines.{Lines, WellFormed, line_pred, machine_of}
use Rattle.lines.proofs.LineLaws.{machine_below}
use Rattle.lines.proofs.LineLaws.{pred_below as line_pred_below}
use Rattle.intake.proofs.BareShop.{pred_below, each_at, length-each}
use Rattle.timing.specs.Timing.{span_at, way_to, counts_for, timing_order, start_by, starts_of, start_of, ends_of}
use Rattle.timing.specs.Placing.{machine_before, start_after, start_now, span_now, end_now, Ending, Seated, Placeable, Placement}
use Rattle.timing.proofs.LinesShop.{shop, counted}
use Rattle.timing.proofs.TurnLaws.{next_or_before}
use Rattle.timing.proofs.EndLaws.{latest_at, starts_follow, all_in, known_at, line_before, task_before, named_before, start_most, span_most}

-- ---- the greatest of what links and lists name

pub greatest-same : (f g : ℕ → ℕ) (ps : List ℕ) (m k : ℕ) → m ≡ k → ((q : ℕ) → 0 < count_of q ps → f q ≡ g q) → greatest f ps m ≡ greatest g ps k
unfolding greatest count_of
greatest-same f g [] m k e h = e
greatest-same f g (q ∷ ps) m k e h =
    greatest-same f g ps (max m (f q)) (max k (g q)) (ap₂ max e (h q (omega (arith, hit-eq q q refl)))) (λ r l. h r (omega arith))

greatest_link : (f : ℕ → ℕ) (way : ℕ) (link : Option ℕ) (m : ℕ) → max m (arrival_of link f way) ≡ greatest (λ q. f q + way) (linked link) m
unfolding greatest
greatest_link f way None m = omega arith
greatest_link f way (Some q) m = refl

-- The start as it is worked out: the later of three moments, then the ends of all that are named.
pub after-all : (p : Problem) (a : ℕ) (line step : Option ℕ) (way : ℕ) (ends : ℕ → ℕ) {released first r : ℕ} → released ≡ p.release a
    → first ≡ max (max released (arrival_of line ends 0)) (arrival_of step ends way)
    → r ≡ greatest ends (p.predecessors a) first → r ≡ start_after p a line step way ends
after-all p a line step way ends {released} {first} {r} e f h =
    h ∙ ap (greatest ends (p.predecessors a))
    (f ∙ ap (λ (x : ℕ). max (max x (arrival_of line ends 0)) (arrival_of step ends way)) e
    ∙ ap (λ (x : ℕ). max x (arrival_of step ends way)) (greatest_link ends 0 line (p.release a) ∙ greatest-same (λ q. ends q + 0) ends (linked line) _ _ refl (λ q l. omega arith))
    ∙ greatest_link ends way step _)

named_link : (link : Option ℕ) (q : ℕ) → 0 < count_of q (linked link) → link ≡ Some q
unfolding count_of
named_link None q h = absurd (omega arith)
named_link (Some r) q h = ap Some (hit_pos r q (omega arith))

timed-length : (rule : Rule) (span : ℕ → ℕ) (o s : List ℕ) → length (timed rule span o s) ≡ length s
unfolding timed
timed-length rule span [] s = refl
timed-length rule span (a ∷ o) s = timed-length rule span o (place rule span a s) ∙ length-set s a _

pub starts_length : (p : Problem) (lines : Lines) → length (starts_of p lines) ≡ p.n
starts_length p lines = timed-length (start_by p lines) (span_at p lines) (timing_order p lines) (replicate p.n 0) ∙ length-replicate p.n 0

-- ---- one placing

-- The way as the rows have it.
module _ (p : Problem) (g : Genes) (ok : Accepted p g) {rows : List (List ℕ)} (er : rows ≡ transports_of p) {from m : ℕ} (hf : from < p.machines) (hm : m < p.machines) where
  pub way_is : between rows from m ≡ p.transport from m
  way_is =
      ap (λ (x : List (List ℕ)). between x from m) er
      ∙ between_at p.transport p.machines p.machines from m hf ok.machines.1 hm ok.machines.1

  pub way_small : between rows from m < 2 ^ 32
  way_small = omega (arith, way_is, ok.transport from m hf hm)

-- The start as it is worked out.
pub start_now_lem : (p : Problem) (before machines ends : List ℕ) (a : ℕ) {line step : Option ℕ} {from way r : ℕ} → line ≡ link_of before a → step ≡ task_pred p a
    → from ≡ machine_before step (λ q. get_or machines q 0) → way ≡ p.transport from (get_or machines a 0)
    → r ≡ start_after p a line step way (λ q. get_or ends q 0) → r ≡ start_now p before machines ends a
start_now_lem p before machines ends a {line} {step} {from} {way} el es ef ew e =
    e ∙ ap (λ (l : Option ℕ). start_after p a l step way (λ q. get_or ends q 0)) el
    ∙ ap (λ (s : Option ℕ). start_after p a (link_of before a) s way (λ q. get_or ends q 0)) es
    ∙ ap (λ (w : ℕ). start_after p a (link_of before a) (task_pred p a) w (λ q. get_or ends q 0))
    (ew ∙ ap (λ (f : ℕ). p.transport f (get_or machines a 0)) (ef ∙ ap (λ (s : Option ℕ). machine_before s (λ q. get_or machines q 0)) es))

pub span_now_lem : (p : Problem) (before machines : List ℕ) (a : ℕ) {line : Option ℕ} {r : ℕ} → line ≡ link_of before a
    → r ≡ span_of p a (get_or machines a 0) (setup_of p a (get_or machines a 0) line) → r ≡ span_now p before machines a
span_now_lem p before machines a el e = e ∙ ap (λ (l : Option ℕ). span_of p a (get_or machines a 0) (setup_of p a (get_or machines a 0) l)) el

-- ---- along the order

-- The first i of the timing order have ends that can be reckoned with. Where the order leaves none out, their starts and ends are the rule's.
pub record Underway (p : Problem) (lines : Lines) (starts ends : List ℕ) (i : ℕ) : Type 0 where
  pub bounded : (q : ℕ) → 0 < count_of q (take i (timing_order p lines)) → get_or ends q 0 ≤ latest_at i
  pub begun : length (timing_order p lines) ≡ p.n → (a : ℕ) → 0 < count_of a (take i (timing_order p lines)) → get_or starts a 0 ≡ start_of p lines a
  pub done : length (timing_order p lines) ≡ p.n → (a : ℕ) → 0 < count_of a (take i (timing_order p lines)) → get_or ends a 0 ≡ start_of p lines a + span_at p lines a

pub none_placed : (p : Problem) (lines : Lines) (starts ends : List ℕ) → Underway p lines starts ends 0
unfolding count_of
none_placed p lines starts ends = record { bounded = λ a h. absurd (omega arith); begun = λ f a h. absurd (omega arith); done = λ f a h. absurd (omega arith) }

module _ (p : Problem) (g : Genes) (ok : Accepted p g) (lines : Lines) (w : WellFormed p.n p.machines lines) {before machines : List ℕ}
    (seated : Seated p.n lines before machines) where
  on_machine_lem : (a : ℕ) → a < p.n → get_or machines a 0 < p.machines
  on_machine_lem a h = omega (arith, seated.on a h, machine_below w a h)

  from_step : (s : Option ℕ) → Below p.n (linked s) → machine_before s (λ q. get_or machines q 0) < p.machines
  unfolding Below
  from_step None b = omega (arith, ok.machines.0)
  from_step (Some q) b = on_machine_lem q b.0

  -- The start by what the arrays hold is the rule's, over the ends so far; the span too.
  start_is : (ends : List ℕ) (a : ℕ) → a < p.n → start_now p before machines ends a ≡ start_by p lines a (λ q. get_or ends q 0)
  start_is ends a here =
      ap (greatest at (p.predecessors a))
      (greatest-same (λ q. at q + way) (λ q. at q + way_to p lines q a) (linked (task_pred p a)) _ _
      (ap (λ (l : Option ℕ). greatest at (linked l) (p.release a)) (seated.preds a here))
      (λ q l. ap (λ (x : ℕ). at q + x) (way_to' q l)))
    where
      at : ℕ → ℕ
      at q = get_or ends q 0

      way : ℕ
      way = p.transport (machine_before (task_pred p a) (λ q. get_or machines q 0)) (get_or machines a 0)

      way_to' : (q : ℕ) → 0 < count_of q (linked (task_pred p a)) → way ≡ way_to p lines q a
      way_to' q l =
          ap₂ p.transport
          (ap (λ (s : Option ℕ). machine_before s (λ r. get_or machines r 0)) (named_link (task_pred p a) q l)
          ∙ seated.on q (below_of p.n q (linked (task_pred p a)) (pred_below p g ok a here) l))
          (seated.on a here)

  span_is : (a : ℕ) → a < p.n → span_now p before machines a ≡ span_at p lines a
  span_is a here = ap₂ (λ (m : ℕ) (l : Option ℕ). span_of p a m (setup_of p a m l)) (seated.on a here) (seated.preds a here)

  few : length (timing_order p lines) ≤ p.n
  few = at_most_n (graph (shop p g ok lines w)) (counts_for p lines) (counted p g ok lines w)

  has_link : (link : Option ℕ) (q : ℕ) → link ≡ Some q → 0 < count_of q (linked link)
  unfolding count_of
  has_link link q e = rw e (omega (arith, hit-eq q q refl))

  -- The i-th is placed next.
  module _ {starts ends : List ℕ} (ls : length starts ≡ p.n) (le : length ends ≡ p.n) {i : ℕ} (h : i < length (timing_order p lines)) (k : Underway p lines starts ends i) where
    abbrev a : ℕ
    a = get_or (timing_order p lines) i 0

    here : a < p.n
    here = known_at p g ok lines w i h

    small : (q : ℕ) → 0 < count_of q (take i (timing_order p lines)) → get_or ends q 0 < 2 ^ 62
    small q l = omega (arith, k.bounded q l, h, few, ok.activities.1)

    end_most : end_now p before machines ends a ≤ latest_at (i + 1)
    end_most =
        omega (
          arith,
          start_is ends a here,
          start_most p g ok lines w i h here (λ q. get_or ends q 0) k.bounded,
          span_most p g ok a (get_or machines a 0) (link_of before a) here (on_machine_lem a here),
        )

    next_placeable : Placeable p before machines starts ends a
    next_placeable =
        record {
          known = here;
          length_before = seated.length_before;
          length-machines = seated.length-machines;
          length_starts = ls;
          length-ends = le;
          on = on_machine_lem a here;
          from = from_step (task_pred p a) (pred_below p g ok a here);
          line = record {
            known = rw (le, seated.preds a here) (line_pred_below w a);
            small = λ q e. small q (line_before p g ok lines w i h here q (has_link (line_pred lines a) q (sym (seated.preds a here) ∙ e)));
          };
          step = record {
            known = rw le (pred_below p g ok a here);
            small = λ q e. small q (task_before p g ok lines w i h here q (has_link (task_pred p a) q e));
          };
          small = omega (arith, end_most, h, few, ok.activities.1);
        }

    module _ (full : length (timing_order p lines) ≡ p.n) where
      right_start : start_now p before machines ends a ≡ start_of p lines a
      right_start =
          start_is ends a here
          ∙ greatest-same (λ q. get_or ends q 0) final (p.predecessors a) _ _
          (greatest-same (λ q. get_or ends q 0 + way_to p lines q a) (λ q. final q + way_to p lines q a) (linked (task_pred p a)) _ _
          (greatest-same (λ q. get_or ends q 0) final (linked (line_pred lines a)) _ _ refl (λ q l. k.done full q (line_before p g ok lines w i h here q l)))
          (λ q l. ap (λ (x : ℕ). x + way_to p lines q a) (k.done full q (task_before p g ok lines w i h here q l))))
          (λ q l. k.done full q (named_before p g ok lines w i h here q l))
          ∙ sym (starts_follow p g ok lines w full a here)
        where
          final : ℕ → ℕ
          final q = start_of p lines q + span_at p lines q

      right_end : end_now p before machines ends a ≡ start_of p lines a + span_at p lines a
      right_end = ap₂ ◌+◌ right_start (span_is a here)

    next_underway : Underway p lines (set starts a (start_now p before machines ends a)) (set ends a (end_now p before machines ends a)) (i + 1)
    next_underway =
        record {
          bounded = λ b l.
              next_or_before (timing_order p lines) i b h l
              (λ s. subst (λ (x : ℕ). get_or (set ends a (end_now p before machines ends a)) x 0 ≤ latest_at (i + 1)) s
              (omega (arith, get_or-set_same ends a (end_now p before machines ends a) 0 (omega (arith, le, here)), end_most)))
              (λ m ne. omega (arith, get_or-set_other ends a b (end_now p before machines ends a) 0 (λ s. ne (sym s)), k.bounded b m));
          begun = λ full b l.
              next_or_before (timing_order p lines) i b h l
              (λ s. subst (λ (x : ℕ). get_or (set starts a (start_now p before machines ends a)) x 0 ≡ start_of p lines x) s
              (get_or-set_same starts a (start_now p before machines ends a) 0 (omega (arith, ls, here)) ∙ right_start full))
              (λ m ne. get_or-set_other starts a b (start_now p before machines ends a) 0 (λ s. ne (sym s)) ∙ k.begun full b m);
          done = λ full b l.
              next_or_before (timing_order p lines) i b h l
              (λ s. subst (λ (x : ℕ). get_or (set ends a (end_now p before machines ends a)) x 0 ≡ start_of p lines x + span_at p lines x) s
              (get_or-set_same ends a (end_now p before machines ends a) 0 (omega (arith, le, here)) ∙ right_end full))
              (λ m ne. get_or-set_other ends a b (end_now p before machines ends a) 0 (λ s. ne (sym s)) ∙ k.done full b m);
        }

    -- .. under the name that the code has for it
    module _ {b : ℕ} (e : a ≡ b) where
      pub placeable : Placeable p before machines starts ends b
      placeable = subst (λ (x : ℕ). Placeable p before machines starts ends x) e next_placeable

      pub placed_next : {starts' ends' : List ℕ} → starts' ≡ set starts b (start_now p before machines ends b) → ends' ≡ set ends b (end_now p before machines ends b)
          → Underway p lines starts' ends' (i + 1)
      placed_next {starts'} {ends'} es ee =
          rw (es, ee) (subst (λ (x : ℕ). Underway p lines (set starts x (start_now p before machines ends x)) (set ends x (end_now p before machines ends x)) (i + 1)) e next_underway)

  -- All are placed.
  pub all_placed_lem : {starts ends : List ℕ} {i : ℕ} → length (timing_order p lines) ≡ p.n → p.n ≤ i → length starts ≡ p.n → length ends ≡ p.n → Underway p lines starts ends i → Placement p lines starts ends
  all_placed_lem {starts} {ends} {i} full h ls le k =
      record {
        begun = ext_get_or 0 starts (starts_of p lines) (ls ∙ sym (starts_length p lines)) (λ a l. k.begun full a (in_order a (omega arith)));
        done =
            ext_get_or 0 ends (ends_of p lines) (le ∙ sym (length-each (λ a. start_of p lines a + span_at p lines a) p.n 0))
            (λ a l.
            let b : a < p.n = omega arith in
            let z : 0 + a ≡ a = omega arith in
            k.done full a (in_order a b) ∙ sym (each_at (λ a. start_of p lines a + span_at p lines a) p.n 0 a b ∙ ap (λ (x : ℕ). start_of p lines x + span_at p lines x) z));
      }
    where
      in_order : (a : ℕ) → a < p.n → 0 < count_of a (take i (timing_order p lines))
      in_order a b = rw (take_all i (timing_order p lines) (omega arith)) (all_in p g ok lines w full a b)
