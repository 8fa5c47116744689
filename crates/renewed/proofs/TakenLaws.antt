-- Renewed bytes are taken in: what stands before the Order section is read as it was, the new Order and Assignment keep their rules, and the
-- same problem closes no circle.
use Prim.Native.Nat.{ℕ, zero, suc, ◌+◌, ◌*◌, ◌-◌, ◌%◌, ◌^◌, ◌≤◌, ◌<◌}
use mathlib.Core.Path.{◌≡◌, refl, sym, ap, ◌∙◌, subst}
use mathlib.Core.Bool.{Bool, true, false}
use mathlib.Core.List.{List}
use native.Mathlib.Nat.{le_refl, le_trans}
use native.Mathlib.Omega.{arith}
use borrow.Author.Tests.{lt-ltb, le-leb}
use lib.Dec.{eqb}
use lib.ListN.{length, get_or, set, take, drop}
use lib.Seq.{length-take-le}
use Rattle.words.specs.Words.{words, Below}
use Rattle.words.proofs.WordLaws.{below_at, below_all}
use Rattle.grammar.specs.Sections.{sections, no_section, kind_at}
use Rattle.grammar.specs.Ranges.{in_range}
use Rattle.grammar.specs.Rules.{total_from, learnt, after}
use Rattle.grammar.specs.declared.Section.{Section}
use Rattle.grammar.specs.declared.Known.{Known}
use Rattle.grammar.specs.declared.Keep.TheVariants.{Tasks, Activities, Machines}
use Rattle.reader.specs.Reading.{read_sections, read_all, nothing_known, nowhere, yes}
use Rattle.reader.specs.Answer.{Reading, Answer, Accepted as Taken, No}
use Rattle.reader.proofs.AcceptedLaws.{SectionRead, SectionsRead, accepted_read, answered}
use Rattle.plan.specs.Problem.{Problem, Genes}
use Rattle.plan.specs.Found.{layout_of}
use Rattle.plan.specs.Laid.{Laid}
use Rattle.plan.specs.Accepted.{Accepted}
use Rattle.plan.proofs.Accepting.{accepted_layout, accepted_means}
use Rattle.graph.specs.Arcs.{Circle}
use Rattle.graph.specs.Counting.{count_of}
use Rattle.graph.specs.Links.{to_if}
use Rattle.graph.proofs.CircleLaws.{circle_map}
use Rattle.intake.specs.Circle.{Before, step, name, closes_circle}
use Rattle.intake.specs.Intake.{problem_in, genes_in, refused_if, then_circle, taken_in}
use Rattle.intake.proofs.BareShop.{four_is_circle}
use Rattle.intake.proofs.TakingLaws.{never_taken, circle_passed}
use Rattle.intake.proofs.Soundness.{taken_in_means}
use Rattle.renewed.specs.Renewed.{low_words, renewed_bytes}
use Rattle.renewed.specs.Meaning.{renewed_plan, Same, Renewed}
use Rattle.renewed.proofs.RenewedLaws.{length_renewed}
use Rattle.renewed.proofs.WordsLaws.{low_same, renewed_long, words_stay, order_words, assignment-words}
use Rattle.renewed.proofs.MeaningLaws.{fits, same, renewed_means}
use Rattle.renewed.proofs.ReadLaws.{sections_reads}
use Rattle.plan.specs.declared.Layout.{Layout}
use Rattle.renewed.proofs.SameLaws.{total_same}
use Rattle.renewed.proofs.CarryLaws.{section_again, early_again}

-- ---- the two new sections

-- Of `n` words from the place after its count on, a new Order has at most 256.
module _ (vs : List ℕ) (known : Known) (at n : ℕ) (counted : get_or vs at 0 ≡ n) (within : at + 1 + n ≤ length vs) where
  any : (f : ℕ) → f < 1 → (k : Known) (before w : ℕ) → in_range (kind_at (get_or sections 8 no_section) f) k before w ≡ true
  any zero h k before w = refl
  any (suc f) h k before w = absurd (omega (arith, h))

  order_read : n ≤ 256 → SectionRead vs (get_or sections 8 no_section) known at (at + 1 + n)
  order_read h =
      record {
        low = omega arith;
        high = rw counted h;
        rule = refl;
        entries = record { words = λ e f l g. any f g _ _ _; rules = λ e l. refl };
        onward = rw counted (omega arith);
        within = within;
      }

  machine_or_none : (f : ℕ) → f < 1 → (before w : ℕ) → w < known.machines → in_range (kind_at (get_or sections 9 no_section) f) known before w ≡ true
  machine_or_none zero h before w l = rw (lt-ltb w known.machines l) refl
  machine_or_none (suc f) h before w l = absurd (omega (arith, h))

  assignment_read : n ≤ 128 → n ≤ known.activities → ((e : ℕ) → e < n → get_or vs (at + 1 + e) 0 < known.machines) → SectionRead vs (get_or sections 9 no_section) known at (at + 1 + n)
  assignment_read h k machines =
      record {
        low = omega arith;
        high = rw counted h;
        rule = rw (counted, le-leb n known.activities k) refl;
        entries =
            record {
              words = λ e f l g.
                  let x : at + 1 + 1 * e + f ≡ at + 1 + e = omega (arith, g) in
                  machine_or_none f g _ _ (rw x (machines e (rw counted at l)));
              rules = λ e l. refl;
            };
        onward = rw counted (omega arith);
        within = within;
      }

-- ---- all ten sections

moves_on_lem : (ws : List ℕ) (s : Section) (known : Known) (at next : ℕ) → SectionRead ws s known at next → at < next
moves_on_lem ws s known at next r = omega (arith, r.onward)

-- Search has one entry of three words.
search_long : (ws : List ℕ) (known : Known) (at next : ℕ) → SectionRead ws (get_or sections 7 no_section) known at next → at + 4 ≤ next
search_long ws known at next r = omega (arith, r.onward, r.low)

-- New words that agree with those read up to the Order section, and hold an Order and an Assignment there.
pub record Renews (ws vs : List ℕ) (at activities known orders machines : ℕ) : Type 0 where
  pub same : (i : ℕ) → i < at → get_or vs i 0 ≡ get_or ws i 0
  pub ordered : get_or vs at 0 ≡ orders
  pub assigned : get_or vs (at + 1 + orders) 0 ≡ machines
  pub ends : length vs ≡ at + 1 + orders + 1 + machines
  pub most_orders : orders ≤ 256
  pub most_machines : machines ≤ 128
  pub one_each : machines ≤ activities
  pub all_known_lem : (e : ℕ) → e < machines → get_or vs (at + 1 + orders + 1 + e) 0 < known

-- With another, equal knowledge.
knowing : (vs : List ℕ) (len : ℕ) (rest : List Section) (i : ℕ) (starts : List ℕ) (at : ℕ) (y : Reading) {l m : Known} → l ≡ m → SectionsRead vs len rest i m starts at y
    → SectionsRead vs len rest i l starts at y
knowing vs len rest i starts at y e r = subst (λ (k : Known). SectionsRead vs len rest i k starts at y) (sym e) r

-- Places that rise, the last four words ahead of the one before, lie ahead of all.
pub record Rise (a b c d e f g k : ℕ) : Type 0 where
  pub first : a + 3 ≤ k
  pub second : b + 3 ≤ k
  pub third : c + 3 ≤ k
  pub fourth : d + 3 ≤ k
  pub fifth : e + 3 ≤ k
  pub sixth : f + 3 ≤ k
  pub seventh : g + 3 ≤ k

rise : (a b c d e f g k : ℕ) → a < b → b < c → c < d → d < e → e < f → f < g → g + 4 ≤ k → Rise a b c d e f g k
rise a b c d e f g k h1 h2 h3 h4 h5 h6 h7 =
    record {
      first = omega (arith, h1, h2, h3, h4, h5, h6, h7);
      second = omega (arith, h2, h3, h4, h5, h6, h7);
      third = omega (arith, h3, h4, h5, h6, h7);
      fourth = omega (arith, h4, h5, h6, h7);
      fifth = omega (arith, h5, h6, h7);
      sixth = omega (arith, h6, h7);
      seventh = omega (arith, h7);
    }

before : (a k : ℕ) → a + 3 ≤ k → a < k
before a k h = omega (arith, h)

positive : (a k : ℕ) → a + 3 ≤ k → 0 < k
positive a k h = omega (arith, h)

tasks_within : (ws : List ℕ) (next k : ℕ) → SectionRead ws (get_or sections 0 no_section) nothing_known 0 next → next + 3 ≤ k → 0 + 1 + 5 * get_or ws 0 0 ≤ k
tasks_within ws next k r h = omega (arith, r.onward, h)

-- Where the new sections end.
over_long : (k orders machines words : ℕ) → words ≡ k + 1 + orders + 1 + machines → k ≤ words
over_long k orders machines words e = omega (arith, e)

order_fits : (k orders machines words : ℕ) → words ≡ k + 1 + orders + 1 + machines → k + 1 + orders ≤ words
order_fits k orders machines words e = omega (arith, e)

all-fits : (k orders machines words : ℕ) → words ≡ k + 1 + orders + 1 + machines → k + 1 + orders + 1 + machines ≤ words
all-fits k orders machines words e = omega (arith, e)

bytes_end : (k orders machines words : ℕ) → words ≡ k + 1 + orders + 1 + machines → 4 * words ≤ 4 * (k + 1 + orders + 1 + machines)
bytes_end k orders machines words e = omega (arith, e)

-- What is known after Tasks.
tasks_known : (k : ℕ) (ws vs : List ℕ) → ((i : ℕ) → i < k → get_or vs i 0 ≡ get_or ws i 0) → 0 < k → 0 + 1 + 5 * get_or ws 0 0 ≤ k
    → after vs Tasks (learnt Tasks nothing_known (get_or vs 0 0)) 0 ≡ after ws Tasks (learnt Tasks nothing_known (get_or ws 0 0)) 0
tasks_known k ws vs same h b =
    let count = same 0 h in
    let total : total_from vs (get_or vs 0 0) (0 + 1) ≡ total_from ws (get_or ws 0 0) (0 + 1) =
    (λ i. total_from vs (count i) (0 + 1)) ∙ total_same k ws vs same (get_or ws 0 0) (0 + 1) b in
    λ i. record { tasks = count i; activities = 0; machines = 0; total = total i }

pub read_again : (ws vs : List ℕ) (len : ℕ) (x : Reading) → SectionsRead ws len sections 0 nothing_known nowhere 0 x → (orders machines : ℕ)
    → Renews ws vs (layout_of x).at.order (layout_of x).activities (layout_of x).machines orders machines → (y : Reading) × SectionsRead vs (4 * length vs) sections 0 nothing_known nowhere 0 y × (y.answer ≡ Taken)
read_again ws vs len x r orders machines new =
    let r1 = r.2 in
    let r2 = r1.2 in
    let r3 = r2.2 in
    let r4 = r3.2 in
    let r5 = r4.2 in
    let r6 = r5.2 in
    let r7 = r6.2 in
    let k = r7.0 in
    let n = subst (λ (y : Reading). Renews ws vs (layout_of y).at.order (layout_of y).activities (layout_of y).machines orders machines) (sym r7.2.2.2.1) new in
    let b =
    rise r.0 r1.0 r2.0 r3.0 r4.0 r5.0 r6.0 k (moves_on_lem ws _ _ _ _ r1.1) (moves_on_lem ws _ _ _ _ r2.1) (moves_on_lem ws _ _ _ _ r3.1) (moves_on_lem ws _ _ _ _ r4.1) (moves_on_lem ws _ _ _ _ r5.1) (moves_on_lem ws _ _ _ _ r6.1) (search_long ws _ _ _ r7.1) in
    let same : (i : ℕ) → i < k → get_or vs i 0 ≡ get_or ws i 0 = n.same in
    let k1 = after ws Tasks (learnt Tasks nothing_known (get_or ws 0 0)) 0 in
    let k2 = learnt Activities k1 (get_or ws r.0 0) in
    let k3 = learnt Machines k2 (get_or ws r1.0 0) in
    let s1 = set nowhere 0 0 in
    let s2 = set s1 1 r.0 in
    let s3 = set s2 2 r1.0 in
    let s4 = set s3 3 r2.0 in
    let s5 = set s4 4 r3.0 in
    let s6 = set s5 5 r4.0 in
    let s7 = set s6 6 r5.0 in
    let s8 = set s7 7 r6.0 in
    let next = k + 1 + orders in
    let y : Reading = yes k3 (set (set s8 8 k) 9 next) in
    let long : k ≤ length vs = over_long k orders machines (length vs) n.ends in
    let early = early_again k ws vs same long in
    let tail : SectionsRead vs (4 * length vs) (drop 8 sections) 8 k3 s8 k y = (
      next,
      order_read vs k3 k orders n.ordered (order_fits k orders machines (length vs) n.ends) n.most_orders,
      (
        next + 1 + machines,
        assignment_read vs k3 next machines n.assigned (all-fits k orders machines (length vs) n.ends) n.most_machines n.one_each n.all_known_lem,
        (bytes_end k orders machines (length vs) n.ends, refl),
      ),
    ) in
    let from_seven : SectionsRead vs (4 * length vs) (drop 7 sections) 7 k3 s7 r6.0 y = (k, section_again k ws vs same long (get_or sections 7 no_section) k3 r6.0 k r7.1 (before r6.0 k b.seventh) (le_refl k) (λ w e l q. refl), tail) in
    let from_six : SectionsRead vs (4 * length vs) (drop 6 sections) 6 k3 s6 r5.0 y = (r6.0, early (get_or sections 6 no_section) k3 r5.0 r6.0 r6.1 (before r5.0 k b.sixth) b.seventh, from_seven) in
    let from_five : SectionsRead vs (4 * length vs) (drop 5 sections) 5 k3 s5 r4.0 y = (r5.0, early (get_or sections 5 no_section) k3 r4.0 r5.0 r5.1 (before r4.0 k b.fifth) b.sixth, from_six) in
    let from_four : SectionsRead vs (4 * length vs) (drop 4 sections) 4 k3 s4 r3.0 y = (r4.0, early (get_or sections 4 no_section) k3 r3.0 r4.0 r4.1 (before r3.0 k b.fourth) b.fifth, from_five) in
    let from_three : SectionsRead vs (4 * length vs) (drop 3 sections) 3 k3 s3 r2.0 y = (r3.0, early (get_or sections 3 no_section) k3 r2.0 r3.0 r3.1 (before r2.0 k b.third) b.fourth, from_four) in
    let from_two : SectionsRead vs (4 * length vs) (drop 2 sections) 2 k2 s2 r1.0 y = (
      r2.0,
      early (get_or sections 2 no_section) k2 r1.0 r2.0 r2.1 (before r1.0 k b.second) b.third,
      knowing vs (4 * length vs) (drop 3 sections) 3 s3 r2.0 y (ap (λ (c : ℕ). learnt Machines k2 c) (same r1.0 (before r1.0 k b.second))) from_three,
    ) in
    let from_one : SectionsRead vs (4 * length vs) (drop 1 sections) 1 k1 s1 r.0 y = (
      r1.0,
      early (get_or sections 1 no_section) k1 r.0 r1.0 r1.1 (before r.0 k b.first) b.second,
      knowing vs (4 * length vs) (drop 2 sections) 2 s2 r1.0 y (ap (λ (c : ℕ). learnt Activities k1 c) (same r.0 (before r.0 k b.first))) from_two,
    ) in
    let some : 0 < k = positive r.0 k b.first in (
      y,
      (
        r.0,
        early (get_or sections 0 no_section) nothing_known 0 r.0 r.1 some b.first,
        knowing vs (4 * length vs) (drop 1 sections) 1 s1 r.0 y (tasks_known k ws vs same some (tasks_within ws r.0 k r.1 b.first)) from_one,
      ),
      refl,
    )

-- ---- the bytes

-- A plan that is taken in is what was read.
pub taken_read : (s : List ℕ) → (taken_in s).answer ≡ Taken → taken_in s ≡ read_all s
taken_read s t = by_answer (read_all s).answer t
  where
    by_circle : (b : Bool) → (refused_if b (read_all s)).answer ≡ Taken → refused_if b (read_all s) ≡ read_all s
    by_circle true e = never_taken refl e
    by_circle false e = refl

    by_answer : (a : Answer) → (then_circle a s (read_all s)).answer ≡ Taken → then_circle a s (read_all s) ≡ read_all s
    by_answer Taken e = by_circle (closes_circle (problem_in s (read_all s))) e
    by_answer (No reason place) e = refl

-- The same problem has the same arcs before lines.
same_before : {p q : Problem} → Same p q → (a b : ℕ) → Before p a b → Before q a b
same_before {p} {q} e a zero (step h l) = step (subst (λ (n : ℕ). 0 < n) e.n h) l
same_before {p} {q} e a (suc b) (step h l) =
    step (subst (λ (n : ℕ). suc b < n) e.n h) ((λ i. to_if (eqb (sym (e.task_of b) i) (sym (e.task_of (suc b)) i)) b) ∙ l)
same_before {p} {q} e a b (name h l) = name (subst (λ (n : ℕ). b < n) e.n h) (subst (λ (l : List ℕ). 0 < count_of a l) (e.predecessors b) l)

uncircled : (p q : Problem) (g : Genes) → Same p q → Accepted p g → (Circle q.n (Before q) → ⊥) → (b : Bool) → closes_circle p ≡ b → b ≡ false
uncircled p q g same ok none true e =
    let c = circle_map (same_before same) ((four_is_circle p g ok).0 e) in absurd (none (subst (λ (n : ℕ). Circle n (Before q)) same.n c))
uncircled p q g same ok none false e = refl

more_none : (n : ℕ) → n ≡ n + 0
more_none n = omega arith

none_least : (n : ℕ) → 0 ≤ n
none_least n = omega arith

one_on : (n e : ℕ) → n + 1 + e ≡ n + suc e
one_on n e = omega arith

small : (n most : ℕ) → n ≤ most → most < 2 ^ 32 → n % 2 ^ 32 ≡ n
small n most h g = omega (arith, h, g)

-- The words of the renewed bytes hold the new Order and Assignment.
renews : (s tasks machines : List ℕ) (z : Layout) → Laid (words s) z → length tasks ≤ 256 → length machines ≤ z.activities → Below z.machines machines
    → Renews (words s) (words (renewed_bytes (take (4 * z.at.order) s) tasks machines)) z.at.order z.activities z.machines (length tasks) (length machines)
unfolding low_words
renews s tasks machines z l short one_each known =
    let k = z.at.order in
    let vs = words (renewed_bytes (take (4 * k) s) tasks machines) in
    let room = fits s tasks machines z z l in
    let few : length machines ≤ 128 = le_trans one_each l.some_activities.1 in
    record {
      same = words_stay k s tasks machines room;
      ordered = ap (λ (i : ℕ). get_or vs i 0) (more_none k) ∙ order_words k s tasks machines room 0 (none_least (length tasks)) ∙ small (length tasks) 256 short (omega arith);
      assigned =
          ap (λ (i : ℕ). get_or vs i 0) (more_none (k + 1 + length tasks))
          ∙ assignment-words k s tasks machines room 0
          ∙ small (length machines) 128 few (omega arith);
      ends = renewed_long k s tasks machines room;
      most_orders = short;
      most_machines = few;
      one_each = one_each;
      all_known_lem = λ e h.
          subst (λ (m : ℕ). m < z.machines)
          (sym (ap (λ (i : ℕ). get_or vs i 0) (one_on (k + 1 + length tasks) e) ∙ assignment-words k s tasks machines room (suc e) ∙ ap (λ (xs : List ℕ). get_or xs e 0) (low_same machines (below_all (2 ^ 32) machines (λ i g. le_trans (below_at z.machines machines i l.some_machines.0 known) (le_trans l.some_machines.1 (omega arith)))))))
          (below_at z.machines machines e l.some_machines.0 known);
    }

whole_bytes : (s tasks machines : List ℕ) (k : ℕ) → 4 * k ≤ length s
    → length (renewed_bytes (take (4 * k) s) tasks machines) ≡ 4 * length (words (renewed_bytes (take (4 * k) s) tasks machines))
whole_bytes s tasks machines k h =
    length_renewed k (take (4 * k) s) tasks machines (length-take-le (4 * k) s h) ∙ ap (λ (n : ℕ). 4 * n) (sym (renewed_long k s tasks machines h))

-- A plan that is taken in, with an Order of at most 256 numbers and, for the first activities, machines that there are, is taken in.
pub renewed_taken : (s tasks machines : List ℕ) → (taken_in s).answer ≡ Taken → length tasks ≤ 256 → length machines ≤ (layout_of (taken_in s)).activities
    → Below (layout_of (taken_in s)).machines machines → (taken_in (renewed_plan s tasks machines)).answer ≡ Taken
unfolding read_all
renewed_taken s tasks machines taken short one_each known =
    let x = taken_in s in
    let z = layout_of x in
    let bytes = renewed_plan s tasks machines in
    let sound = taken_in_means s x refl taken in
    let read = accepted_read s x.known x.starts (sym (taken_read s taken) ∙ answered x taken) in
    let again =
    read_again (words s) (words bytes) (length s) (yes x.known x.starts) read (length tasks) (length machines) (renews s tasks machines z sound.laid short one_each known) in
    let y = again.0 in
    let e : read_all bytes ≡ y =
    ap (λ (len : ℕ). read_sections (words bytes) len sections 0 nothing_known nowhere 0) (whole_bytes s tasks machines z.at.order (fits s tasks machines z z sound.laid))
    ∙ sections_reads (words bytes) (4 * length (words bytes)) sections 0 nothing_known nowhere 0 y again.1 in
    let whole = e ∙ answered y again.2 in
    let meant = same s tasks machines z (layout_of y) sound.laid (accepted_layout bytes y.known y.starts whole) in
    let open_ended = uncircled (problem_in bytes y) (problem_in s x) (genes_in bytes y) meant (accepted_means bytes y.known y.starts whole) sound.acyclic (closes_circle (problem_in bytes y)) refl in
    ap (λ (r : Reading). r.answer) (sym (circle_passed bytes (sym e) again.2 refl refl open_ended)) ∙ again.2

-- And it means the same problem with these genes.
pub renewed_plan_lem : (s tasks machines : List ℕ) → (taken_in s).answer ≡ Taken → length tasks ≤ 256 → length machines ≤ (layout_of (taken_in s)).activities
    → Below (2 ^ 32) tasks → Below (layout_of (taken_in s)).machines machines → Renewed s tasks machines
renewed_plan_lem s tasks machines taken short one_each low known =
    let some = (taken_in_means s (taken_in s) refl taken).laid.some_machines in
    renewed_means s tasks machines taken (renewed_taken s tasks machines taken short one_each known) low
    (below_all (2 ^ 32 - 1) machines (λ i h. le_trans (below_at (layout_of (taken_in s)).machines machines i some.0 known) (le_trans some.1 (omega arith))))
