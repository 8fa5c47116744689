-- What is put is what is to be shown, case by case.
use Prim.Native.Nat.{ℕ, ◌+◌, ◌*◌, ◌≤◌, ◌<◌}
use mathlib.Core.Path.{◌≡◌, refl, sym, ap, ap₂, ◌∙◌}
use mathlib.Core.Bool.{Bool, true, false, cond, false≢true}
use mathlib.Core.List.{List}
use native.Mathlib.Nat.{mul-le-mul_right}
use native.Mathlib.Omega.{arith}
use borrow.Author.Tests.{le-leb, lt-leb}
use lib.Dec.{leb}
use lib.Ieee.{to_bits, binary64}
use lib.ListN.{length, take, drop}
use lib.Seq.{length-take-le}
use Rattle.std.specs.Prelude.{Result, Ok}
use Rattle.words.specs.Words.{words}
use Rattle.words.specs.Text.{written}
use Rattle.words.proofs.TextLaws.{take-written}
use Rattle.words.proofs.WordLaws.{length-words}
use Rattle.reader.specs.Reading.{read_all}
use Rattle.reader.specs.Answer.{Reading, Answer, Accepted, No, told_as, told}
use Rattle.reader.specs.declared.refusal.Refusal.{Refusal}
use Rattle.reader.specs.declared.Sections.{Sections}
use Rattle.plan.specs.Problem.{Problem, Genes}
use Rattle.plan.specs.Found.{layout_in, layout_of}
use Rattle.plan.specs.Laid.{Laid}
use Rattle.plan.specs.declared.Layout.{Layout}
use Rattle.intake.specs.Intake.{problem_in, genes_in, taken_in}
use Rattle.intake.proofs.Soundness.{taken_in_means}
use Rattle.rows.specs.Rows.{Columns, over}
use Rattle.rows.proofs.RowLaws.{length-gathered}
use Rattle.board.specs.Board.{Board}
use Rattle.calls.specs.Outcome.{Outcome, no, sheet, answer_of, Leaves}
use Rattle.calls.specs.declared.Sheet.{Sheet}
use Rattle.calls.proofs.PrefixLaws.{prefix_is}
use Rattle.decoding.specs.Decoding.{decoded_if, decoded_plan}
use Rattle.writing.specs.Writing.{Put}
use Rattle.writing.proofs.WritingLaws.{put_as, put_long}
use Rattle.printing.specs.Printing.{sheet_text}
use Rattle.renewed.specs.Renewed.{renewed_bytes}
use Rattle.renewed.specs.Meaning.{renewed_plan}
use Rattle.renewed.proofs.RenewedLaws.{length_renewed}
use Rattle.renewed.proofs.TakenLaws.{taken_read}
use Rattle.search.specs.Search.{no_steps, incomplete, contradictory, nothing_better, improved}
use Rattle.improving.specs.Improving.{Outcome as Improving, no as refused, came, answer_of as improve_answer, tasks_left, machines_left, improved_if, improved_plan, roomy, improved_in}
use Rattle.improving.specs.declared.Ending.TheVariants.{Better}
use Rattle.improving.proofs.CallLaws.{roomy_on}
use Rattle.terminal_text.specs.Shown.{sheet_or, decode_text, shown_if, shown, enough, PutShort, Within, shown_over, shown_length}
use Rattle.terminal_text.proofs.SizedLaws.{Named, improve-named}

-- ---- a sheet's columns

-- All five are as long as there are rows.
pub record Even (rows : ℕ) (c : Columns) : Type 0 where
  pub activities : length c.activities ≡ rows
  pub machines : length c.machines ≡ rows
  pub starts : length c.starts ≡ rows
  pub ends : length c.ends ≡ rows
  pub setups : length c.setups ≡ rows

abbrev pub Columned : Outcome → Type 0
Columned (no reason place) = Unit {0}
Columned (sheet rows c f) = Even rows c

pub decoded_columned : (rule : Problem → Genes → Board) (s : List ℕ) → Columned (decoded_plan rule s)
decoded_columned rule s = by_answer (taken_in s).answer
  where
    by_answer : (a : Answer) → Columned (decoded_if a rule s (taken_in s))
    by_answer Accepted =
        let b = rule (problem_in s (taken_in s)) (genes_in s (taken_in s)) in
        record { activities = refl; machines = length-gathered _ b.order; starts = length-gathered _ b.order; ends = length-gathered _ b.order; setups = length-gathered _ b.order }
    by_answer (No reason place) = tt

-- ---- a sheet

cut : {n rows : ℕ} (column cells : List ℕ) {x : List ℕ} → n ≡ rows → length column ≡ rows → x ≡ over column cells → take n x ≡ column
cut {n} column cells en el e = ap (take n) e ∙ prefix_is n column (drop (length column) cells) (el ∙ sym en)

pub sheet_shown : (outcome : ℕ) (o : Outcome) {x : Sheet} (a₀ m₀ s₀ e₀ u₀ : List ℕ) {a m s e u : List ℕ} → Ok x ≡ answer_of o → Columned o → Leaves o a₀ m₀ s₀ e₀ u₀ a m s e u
    → sheet_text outcome x.bits (take x.rows a) (take x.rows m) (take x.rows s) (take x.rows e) (take x.rows u) ≡ sheet_or outcome o
sheet_shown outcome (no reason place) a₀ m₀ s₀ e₀ u₀ told even left = cc
sheet_shown outcome (sheet rows c f) {x} a₀ m₀ s₀ e₀ u₀ told even left =
    let same : x ≡ record { rows = rows; bits = to_bits binary64 f } = cc in
    let en : x.rows ≡ rows = ap (λ (y : Sheet). y.rows) same in
    let eb : x.bits ≡ to_bits binary64 f = ap (λ (y : Sheet). y.bits) same in
    let ca = cut c.activities a₀ en even.activities left.activities in
    let cm = cut c.machines m₀ en even.machines left.machines in
    let cs = cut c.starts s₀ en even.starts left.starts in
    let ce = cut c.ends e₀ en even.ends left.ends in
    let cu = cut c.setups u₀ en even.setups left.setups in
    rw (eb, ca, cm, cs, ce, cu)

-- ---- a plan that was taken in

-- The words before its Order section are all there, and with a new Order and Assignment it is still short enough.
pub record Short (s : List ℕ) (z : Layout) : Type 0 where
  pub activities : z.activities ≤ 128
  pub within : 4 * z.at.order ≤ length s
  pub room : 4 * (z.at.order + 2 + z.activities + z.activities) ≤ 65536

laid_short : (s : List ℕ) (z : Layout) → Laid (words s) z → Short s z
laid_short s z l =
    let squares : z.machines * z.machines ≤ 256 = let h = mul-le-mul_right z.machines l.some_machines.1 in omega (arith, h, l.some_machines.1) in
    let cells : z.activities * z.machines ≤ 2048 = let h = mul-le-mul_right z.machines l.some_activities.1 in omega (arith, h, l.some_machines.1) in
    let a₁ : z.at.machines ≤ 290 = omega (arith, l.tasks_at, l.activities_at, l.machines_at, l.some_tasks.1, l.some_activities.1) in
    let a₂ : z.at.candidates ≤ 6692 = omega (arith, a₁, squares, cells, l.times_at, l.candidates_at') in
    let a₃ : z.at.order ≤ 15916 = omega (arith, a₂, l.setups_at, l.predecessors_at, l.search_at, l.order_at, l.most_candidates, l.most_setups, l.most_predecessors) in
    let e : z.at.order < length (words s) = omega (arith, l.assignment_at, l.ends) in
    record {
      activities = l.some_activities.1;
      within = omega (arith, e, length-words s);
      room = omega (arith, a₃, l.some_activities.1);
    }

module _ (s : List ℕ) (t : (taken_in s).answer ≡ Accepted) where
  read_answer : (read_all s).answer ≡ Accepted
  read_answer = ap (λ (x : Reading). x.answer) (sym (taken_read s t)) ∙ t

  module _ {r : Result Sections Refusal} {x : Sections} {z : Layout} (er : r ≡ told (read_all s)) (ex : r ≡ Ok x) (ez : z ≡ layout_in x.known x.starts) where
    same : x ≡ record { known = (read_all s).known; starts = (read_all s).starts }
    same = let e = sym ex ∙ er ∙ ap (λ (a : Answer). told_as a (read_all s).known (read_all s).starts) read_answer in cc

    pub read_layout : z ≡ layout_of (taken_in s)
    read_layout = ez ∙ ap (λ (y : Sections). layout_in y.known y.starts) same ∙ ap layout_of (sym (taken_read s t))

    pub read_short : Short s z
    read_short = rw read_layout (laid_short s (layout_of (taken_in s)) (taken_in_means s (taken_in s) refl t).laid)

-- A text put at the start of a buffer is what the buffer then starts with.
pub first_put : (line text : List ℕ) {bytes : List ℕ} {n : ℕ} → length text ≤ length line → bytes ≡ written line 0 text → n ≡ length text → take n bytes ≡ text
first_put line text {bytes} {n} h e en =
    let place : n ≡ 0 + length text = omega (arith, en) in
    ap₂ (λ (k : ℕ) (b : List ℕ). take k b) place e ∙ take-written line 0 text (omega (arith, h))

-- ---- the plan with the new order and machines

module _ (s tasks machines : List ℕ) (z : Layout) (short : Short s z) (ht : 128 ≤ length tasks) (hm : 128 ≤ length machines) where
  abbrev pub bytes_now : List ℕ
  bytes_now = renewed_bytes (take (4 * z.at.order) s) (take z.activities tasks) (take z.activities machines)

  pub renewed_fits : length bytes_now ≤ 65536
  renewed_fits =
      let b = length-take-le (4 * z.at.order) s short.within in
      let t = length-take-le z.activities tasks (omega (arith, short.activities, ht)) in
      let m = length-take-le z.activities machines (omega (arith, short.activities, hm)) in
      let long = length_renewed z.at.order (take (4 * z.at.order) s) (take z.activities tasks) (take z.activities machines) b in
      let room = short.room in
      omega (arith, long, t, m, room)

  pub renewed_is : z ≡ layout_of (taken_in s) → bytes_now ≡ renewed_plan s (take (layout_of (taken_in s)).activities tasks) (take (layout_of (taken_in s)).activities machines)
  renewed_is e = ap (λ (x : Layout). renewed_bytes (take (4 * x.at.order) s) (take x.activities tasks) (take x.activities machines)) e

-- ---- Improve's answer, case by case

module _ (s : List ℕ) where
  abbrev pub Told : Problem → Improving → Type 0
  Told p (refused reason place) = Unit {0}
  Told p (came i) = Named p i

  pub fourteen_shown : (o : Improving) (p : Problem) → Told p o → {bits : ℕ} → Ok (Better bits) ≡ improve_answer o → (tasks₀ machines₀ : List ℕ) {tasks machines : List ℕ} → tasks ≡ tasks_left o tasks₀ → machines ≡ machines_left o machines₀
      → decode_text 14 (renewed_plan s (take p.n tasks) (take p.n machines)) ≡ shown_if o s
  fourteen_shown (refused reason place) p named e tasks₀ machines₀ et em = cc
  fourteen_shown (came no_steps) p named e tasks₀ machines₀ et em = cc
  fourteen_shown (came incomplete) p named e tasks₀ machines₀ et em = cc
  fourteen_shown (came contradictory) p named e tasks₀ machines₀ et em = cc
  fourteen_shown (came (nothing_better f)) p named e tasks₀ machines₀ et em = cc
  fourteen_shown (came (improved f t m)) p named e tasks₀ machines₀ et em =
      ap₂ (λ (x y : List ℕ). decode_text 14 (renewed_plan s x y)) (cut t tasks₀ refl named.0 et) (cut m machines₀ refl named.1 em)

  pub plan-told : Told (problem_in s (taken_in s)) (improved_plan s)
  plan-told = by_answer (taken_in s).answer
    where
      by_answer : (a : Answer) → Told (problem_in s (taken_in s)) (improved_if a s (taken_in s))
      by_answer Accepted = improve-named (problem_in s (taken_in s)) (genes_in s (taken_in s))
      by_answer (No reason place) = tt

  -- buffers of the sizes asked for
  pub plan_in : (cells tasks machines : List ℕ) → length cells ≡ 2048 → length tasks ≡ 128 → length machines ≡ 128 → improved_plan s ≡ improved_in s cells tasks machines
  plan_in cells tasks machines hc ht hm = roomy_on (improved_plan s) (roomy cells tasks machines) (rw (hc, ht, hm))

-- ---- room for the text

cond_true : {A : Type 0} (b : Bool) (x y : A) → b ≡ true → x ≡ cond b x y
cond_true true x y e = refl
cond_true false x y e = absurd (false≢true e)

cond_false : {A : Type 0} (b : Bool) (x y : A) → b ≡ false → y ≡ cond b x y
cond_false true x y e = absurd (false≢true (sym e))
cond_false false x y e = refl

pub short_as : {line₀ t u line : List ℕ} {place : ℕ} → t ≡ u → PutShort line₀ t line place → PutShort line₀ u line place
short_as e p = (put_as e p.0, p.1)

-- A refusal is one line.
pub refusal_short : {line₀ t u line : List ℕ} {place : ℕ} → t ≡ u → Put line₀ 0 t line place × (place ≤ 64) → PutShort line₀ u line place
refusal_short e p = (put_as e p.0, omega (arith, p.1))

-- A sheet has at most 128 rows.
pub rows_short : {line₀ t line : List ℕ} {place : ℕ} (n : ℕ) (column : List ℕ) → n ≤ 128 → n ≤ length column → Put line₀ 0 t line place × (place ≤ 64 + 105 * length (take n column)) → PutShort line₀ t line place
rows_short n column few h p = let long = length-take-le n column h in (p.0, omega (arith, p.1, long, few))

within : (n : ℕ) (line : List ℕ) → n ≤ length line → Within n line
within n line h = (h, sym (length-take-le n line h))

pub shown_put : (s out : List ℕ) {line : List ℕ} {place : ℕ} → enough ≤ length out → PutShort out (shown s) line place
    → (line ≡ shown_over s out) × ((place ≡ shown_length s out) × ((place ≤ enough) × Within place line))
shown_put s out {line} {place} h (p, short) =
    let b = le-leb 16384 (length out) h in
    let z : 0 + length (shown s) ≡ length (shown s) = omega arith in
    let long = put_long p in (
      p.holds ∙ cond_true (leb 16384 (length out)) (written out 0 (shown s)) out b,
      (p.ends ∙ z ∙ cond_true (leb 16384 (length out)) (length (shown s)) 0 b, (short, within place line (omega (arith, short, long, h)))),
    )

pub not_shown : (s out : List ℕ) → length out < enough → (out ≡ shown_over s out) × ((0 ≡ shown_length s out) × ((0 ≤ enough) × Within 0 out))
not_shown s out h =
    let b = lt-leb 16384 (length out) h in (
      cond_false (leb 16384 (length out)) (written out 0 (shown s)) out b,
      (cond_false (leb 16384 (length out)) (length (shown s)) 0 b, (omega arith, within 0 out (omega arith))),
    )
