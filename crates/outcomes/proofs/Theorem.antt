-- Document 01, "How tightly each call is bound": any two outcomes that the contract of a public call permits for one input are equal; and where
-- it refuses, its results hold what they held.
use Prim.Native.Nat.{ℕ}
use mathlib.Core.Path.{◌≡◌, sym, ap, ◌∙◌, subst}
use mathlib.Core.Bool.{Bool, cond, ◌&&◌}
use mathlib.Core.List.{List}
use lib.Dec.{leb}
use lib.ListN.{length}
use borrow.Author.Tests.{lt-leb}
use Rattle.std.specs.Prelude.{Result}
use Rattle.reader.specs.declared.refusal.Refusal.{Refusal}
use Rattle.calls.specs.declared.Sheet.{Sheet}
use Rattle.calls.specs.Outcome as sheets
use Rattle.calls.specs.Timing.{timed, timed_order}
use Rattle.decoding.specs.Decoding as decoders
use Rattle.improving.specs.declared.Ending.{Ending}
use Rattle.improving.specs.Improving as improving
use Rattle.search.specs.Search.{no_steps, incomplete, contradictory, nothing_better, improved}
use Rattle.looking.specs.declared.Seen.{Seen}
use Rattle.looking.specs.Looking as looking
use Rattle.words.specs.Text.{written}
use Rattle.terminal_text.specs.Shown.{enough, shown}
use Rattle.outcomes.specs.Outcomes.{Rows, NewGenes, Views, Call, time, time_order, time_again, in_order, active, decode, check, improve, look, show, Ended, Outcome, Writes, Improves, Shows, Permitted, refuses, finds_nothing, Quiet, Untouched}

-- Two that are equal to the same are equal.
agree : {A : Type 0} {x y z : A} → x ≡ z → y ≡ z → x ≡ y
agree p q = p ∙ sym q

one_sheet : (comes : (a m s e u : List ℕ) → sheets.Outcome) (b : Rows) (x y : Ended (Result Sheet Refusal) Rows) → Writes comes b x → Writes comes b y → x ≡ y
one_sheet comes b x y p q =
    let told : x.answer ≡ y.answer = agree p.0 q.0 in
    let activities : x.lent.activities ≡ y.lent.activities = agree p.1.activities q.1.activities in
    let machines : x.lent.machines ≡ y.lent.machines = agree p.1.machines q.1.machines in
    let starts : x.lent.starts ≡ y.lent.starts = agree p.1.starts q.1.starts in
    let ends : x.lent.ends ≡ y.lent.ends = agree p.1.ends q.1.ends in
    let setups : x.lent.setups ≡ y.lent.setups = agree p.1.setups q.1.setups in
    λ i. record {
      answer = told i;
      lent = record { activities = activities i; machines = machines i; starts = starts i; ends = ends i; setups = setups i };
    }

one_finding : (o : improving.Outcome) (b : NewGenes) (x y : Ended (Result Ending Refusal) NewGenes) → Improves o b x → Improves o b y → x ≡ y
one_finding o b x y p q =
    let told : x.answer ≡ y.answer = agree p.0 q.0 in
    let tasks : x.lent.tasks ≡ y.lent.tasks = agree p.1 q.1 in
    let machines : x.lent.machines ≡ y.lent.machines = agree p.2 q.2 in
    λ i. record { answer = told i; lent = record { tasks = tasks i; machines = machines i } }

one_view : (o : looking.Outcome) (b : Views) (x y : Ended (Result Seen Refusal) Views) → Shows o b x → Shows o b y → x ≡ y
one_view o b x y p q =
    let told : x.answer ≡ y.answer = agree p.0 q.0 in
    let path : x.lent.path ≡ y.lent.path = agree p.1.path q.1.path in
    let moves : x.lent.moves ≡ y.lent.moves = agree p.1.moves q.1.moves in
    let kept : x.lent.kept ≡ y.lent.kept = agree p.1.kept q.1.kept in
    let ranks : x.lent.ranks ≡ y.lent.ranks = agree p.1.ranks q.1.ranks in
    λ i. record { answer = told i; lent = record { path = path i; moves = moves i; kept = kept i; ranks = ranks i } }

one_text : (bytes out : List ℕ) (x y : Ended ℕ (List ℕ)) → Permitted (show bytes out) x → Permitted (show bytes out) y → x ≡ y
one_text bytes out x y p q =
    let text : x.lent ≡ y.lent = agree p.0 q.0 in
    let told : x.answer ≡ y.answer = agree p.1 q.1 in
    λ i. record { answer = told i; lent = text i }

pub one_outcome : (c : Call) (x y : Outcome c) → Permitted c x → Permitted c y → x ≡ y
one_outcome (time bytes cells lens b) x y p q = one_sheet (timed bytes cells lens) b x y p q
one_outcome (time_order bytes b) x y p q = one_sheet (timed_order bytes) b x y p q
one_outcome (time_again bytes cells lens times) x y p q = agree p q
one_outcome (in_order bytes b) x y p q = one_sheet (decoders.in_order bytes) b x y p q
one_outcome (active bytes b) x y p q = one_sheet (decoders.active bytes) b x y p q
one_outcome (decode bytes b) x y p q = one_sheet (decoders.decoded bytes) b x y p q
one_outcome (check bytes rows) x y p q = agree p q
one_outcome (improve bytes cells b) x y p q = one_finding (improving.improved_in bytes cells b.tasks b.machines) b x y p q
one_outcome (look bytes cells lens b) x y p q = one_view (looking.looked bytes cells lens b.path b.moves b.kept b.ranks) b x y p q
one_outcome (show bytes out) x y p q = one_text bytes out x y p q

-- ---- where nothing is written

sheet_untouched : (o : sheets.Outcome) (b : Rows) (x : Ended (Result Sheet Refusal) Rows) → x.answer ≡ sheets.answer_of o
    → sheets.Leaves o b.activities b.machines b.starts b.ends b.setups x.lent.activities x.lent.machines x.lent.starts x.lent.ends x.lent.setups
    → refuses x.answer → x.lent ≡ b
sheet_untouched (sheets.no reason place) b x q l h =
    λ i. record { activities = l.activities i; machines = l.machines i; starts = l.starts i; ends = l.ends i; setups = l.setups i }
sheet_untouched (sheets.sheet rows columns fitness) b x q l h = absurd (subst refuses q h)

writes_nothing : (comes : (a m s e u : List ℕ) → sheets.Outcome) (b : Rows) (x : Ended (Result Sheet Refusal) Rows) → Writes comes b x → refuses x.answer → x.lent ≡ b
writes_nothing comes b x p h = sheet_untouched (comes b.activities b.machines b.starts b.ends b.setups) b x p.0 p.1 h

improves_nothing : (o : improving.Outcome) (b : NewGenes) (x : Ended (Result Ending Refusal) NewGenes) → Improves o b x → finds_nothing x.answer → x.lent ≡ b
improves_nothing (improving.no reason place) b x p h = λ i. record { tasks = p.1 i; machines = p.2 i }
improves_nothing (improving.came no_steps) b x p h = λ i. record { tasks = p.1 i; machines = p.2 i }
improves_nothing (improving.came incomplete) b x p h = λ i. record { tasks = p.1 i; machines = p.2 i }
improves_nothing (improving.came contradictory) b x p h = λ i. record { tasks = p.1 i; machines = p.2 i }
improves_nothing (improving.came (nothing_better f)) b x p h = λ i. record { tasks = p.1 i; machines = p.2 i }
improves_nothing (improving.came (improved f tasks machines)) b x p h = absurd (subst finds_nothing p.0 h)

shows_nothing : (o : looking.Outcome) (b : Views) (x : Ended (Result Seen Refusal) Views) → Shows o b x → refuses x.answer → x.lent ≡ b
shows_nothing (looking.no reason place) b x p h =
    λ i. record { path = p.1.path i; moves = p.1.moves i; kept = p.1.kept i; ranks = p.1.ranks i }
shows_nothing (looking.seen sight) b x p h = absurd (subst refuses p.0 h)

pub refusal_writes_nothing : (c : Call) (x : Outcome c) → Permitted c x → Quiet c x → Untouched c x
refusal_writes_nothing (time bytes cells lens b) x p h = writes_nothing (timed bytes cells lens) b x p h
refusal_writes_nothing (time_order bytes b) x p h = writes_nothing (timed_order bytes) b x p h
refusal_writes_nothing (time_again bytes cells lens times) x p h = tt
refusal_writes_nothing (in_order bytes b) x p h = writes_nothing (decoders.in_order bytes) b x p h
refusal_writes_nothing (active bytes b) x p h = writes_nothing (decoders.active bytes) b x p h
refusal_writes_nothing (decode bytes b) x p h = writes_nothing (decoders.decoded bytes) b x p h
refusal_writes_nothing (check bytes rows) x p h = tt
refusal_writes_nothing (improve bytes cells b) x p h = improves_nothing (improving.improved_in bytes cells b.tasks b.machines) b x p h
refusal_writes_nothing (look bytes cells lens b) x p h = shows_nothing (looking.looked bytes cells lens b.path b.moves b.kept b.ranks) b x p h
refusal_writes_nothing (show bytes out) x p h =
    p.0 ∙ ap (λ (room : Bool). cond room (written out 0 (shown bytes)) out) (lt-leb enough (length out) h)

-- What Improve's cells held before never shows: with as many other cells the same is permitted.
pub work_never_shows : (bytes cells others : List ℕ) (b : NewGenes) (x : Ended (Result Ending Refusal) NewGenes) → length cells ≡ length others → Permitted (improve bytes cells b) x
    → Permitted (improve bytes others b) x
work_never_shows bytes cells others b x e p =
    subst (λ (o : improving.Outcome). Improves o b x)
    (ap (λ (n : ℕ). improving.six_unless (leb 2048 n && (leb 128 (length b.tasks) && leb 128 (length b.machines))) (improving.improved_plan bytes)) e) p
