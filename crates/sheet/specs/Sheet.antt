-- Document 01, "The sheet check (ours)". Rules by number: 1 activity and machine are known; 2 no earlier row has this activity; 3 start >= 0;
-- 4 end <= 1,101,659,110,911; 5 end - start is the span; then start is not before 6 release, 7 line predecessor's end, 8 task predecessor's end,
-- 9 each predecessor's end. A task or named predecessor is looked for in all rows, its first that meets rule 1; without one it binds nothing.
-- The answer: the first bad row, its first broken rule; else rule 10, the lowest activity without a row; else accepted.
-- An earlier row that breaks rule 1 is itself the first bad one, so rules 2, 5 and 7 look only at rows that meet it (proofs/EarlierRows).
use Rattle.std.specs.Prelude.{ℕ, zero, suc, Bool, true, false, cond, ◌&&◌, List, [], ◌∷◌, eqb, ltb, ℤ, pos, ◌-ℤ◌, Some, None, Option, Ok, Err, Result}
use Rattle.std.specs.Int.Signed.{le_z}
use Rattle.graph.specs.Links.{linked}
use Rattle.plan.specs.Problem.{Problem}
use Rattle.tables.specs.Tabled.{task_pred}
use Rattle.bounds.specs.Bounds.{setup_of, span_of}
use Rattle.sheet.specs.Rows.{rows_in, is_whole, start_in, end_in, first, subject_of, activity_of, first_row, row_before}
use Rattle.sheet.specs.declared.Subject.{Subject}
use Rattle.sheet.specs.declared.Rule.{Rule}
use Rattle.sheet.specs.declared.Rule.TheVariants.{Known, Once, Start, End, Span, Release, Line, Step, Named}
use Rattle.sheet.specs.declared.Verdict.{Verdict}
use Rattle.sheet.specs.declared.Verdict.TheVariants.{Accepted, Bad, Missing}

-- 513 · 2,147,483,647
abbrev pub largest_end : ℤ
largest_end = pos 1101659110911

abbrev pub same_z : ℤ → ℤ → Bool
same_z x y = le_z x y && le_z y x

unfoldable pub all : (ℕ → Bool) → List ℕ → Bool
all test [] = true
all test (x ∷ l) = test x && all test l

-- ---- rules 2 to 9 of row i, which has activity a on machine m after row `before` of that machine

-- 2
abbrev pub is_first : Problem → List ℤ → (i a : ℕ) → Bool
is_first p l i a = eqb (first_row p.n p.machines l a) i

-- 3
abbrev pub starts_from_zero : List ℤ → ℕ → Bool
starts_from_zero l i = le_z (pos 0) (start_in l i)

-- 4
abbrev pub ends_in_time : List ℤ → ℕ → Bool
ends_in_time l i = le_z (end_in l i) largest_end

-- 5
abbrev pub lasts : List ℤ → (i span : ℕ) → Bool
lasts l i span = same_z (end_in l i -ℤ start_in l i) (pos span)

abbrev pub span_after : Problem → List ℤ → (a m before : ℕ) → ℕ
span_after p l a m before = span_of p a m (setup_of p a m (activity_of (subject_of p.n p.machines l before)))

-- 6
abbrev pub waits_until : List ℤ → (i release : ℕ) → Bool
waits_until l i release = le_z (pos release) (start_in l i)

-- 7, and what rules 8 and 9 ask of each predecessor: row i does not start before row r ends, if there is a row r
abbrev pub ends_by : List ℤ → (i r : ℕ) → Bool
ends_by l i r = cond (is_whole l r) (le_z (end_in l r) (start_in l i)) true

-- 8
abbrev pub after_step : Problem → List ℤ → (i a : ℕ) → Bool
after_step p l i a = all (λ b. ends_by l i (first_row p.n p.machines l b)) (linked (task_pred p a))

-- 9
abbrev pub after_named : Problem → List ℤ → (i a : ℕ) → Bool
after_named p l i a = all (λ b. ends_by l i (first_row p.n p.machines l b)) (p.predecessors a)

-- ---- the first broken rule

-- The number of each rule.
abbrev pub number_of : Rule → ℕ
number_of Known = 1
number_of Once = 2
number_of Start = 3
number_of End = 4
number_of Span = 5
number_of Release = 6
number_of Line = 7
number_of Step = 8
number_of Named = 9

-- Of rules, each with its test, the first whose test fails; None where none does.
abbrev pub first_broken : List (Rule × Bool) → Option Rule
first_broken [] = None
first_broken ((rule, true) ∷ l) = first_broken l
first_broken ((rule, false) ∷ l) = Some rule

abbrev pub or_else : Option Rule → Option Rule → Option Rule
or_else None y = y
or_else (Some rule) y = Some rule

-- Rules 2 to 5 are about the row and its span, rules 6 to 9 about what its start waits for.
abbrev pub own_rule : Problem → List ℤ → (i a m before : ℕ) → Option Rule
own_rule p l i a m before =
    first_broken
    ((Once, is_first p l i a) ∷ (Start, starts_from_zero l i) ∷ (End, ends_in_time l i) ∷ (Span, lasts l i (span_after p l a m before)) ∷ [])

abbrev pub waiting_rule : Problem → List ℤ → (i a before : ℕ) → Option Rule
waiting_rule p l i a before =
    first_broken
    ((Release, waits_until l i (p.release a)) ∷ (Line, ends_by l i before) ∷ (Step, after_step p l i a) ∷ (Named, after_named p l i a) ∷ [])

abbrev pub later_rule : Problem → List ℤ → (i a m before : ℕ) → Option Rule
later_rule p l i a m before = or_else (own_rule p l i a m before) (waiting_rule p l i a before)

abbrev pub rule_of : Problem → List ℤ → ℕ → Option Subject → Option Rule
rule_of p l i (Some s) = later_rule p l i s.activity s.machine (row_before p.n p.machines l s.machine i)
rule_of p l i None = Some Known

abbrev pub broken_rule : Problem → List ℤ → ℕ → Option Rule
broken_rule p l i = rule_of p l i (subject_of p.n p.machines l i)

-- The same as a function answers it: Ok where no rule is broken.
abbrev pub ok_unless : Option Rule → Result (Unit {0}) Rule
ok_unless None = Ok tt
ok_unless (Some rule) = Err rule

-- ---- rule 10

-- The lowest activity without a row; n where each has one.
abbrev pub rowless : Problem → List ℤ → ℕ
rowless p l = first (λ a. eqb (first_row p.n p.machines l a) (rows_in l)) p.n 0

abbrev pub missing_if : Bool → ℕ → Verdict
missing_if true a = Missing a
missing_if false a = Accepted

-- ---- the answer

abbrev pub bad_or : Option Rule → ℕ → Verdict → Verdict
bad_or None i verdict = verdict
bad_or (Some rule) i verdict = Bad rule i

-- The answer to k rows from row i on, of the rows of l.
unfoldable pub check_from : Problem → List ℤ → (k i : ℕ) → Verdict
check_from p l zero i = missing_if (ltb (rowless p l) p.n) (rowless p l)
check_from p l (suc k) i = bad_or (broken_rule p l i) i (check_from p l k (suc i))

abbrev pub check_sheet : Problem → List ℤ → Verdict
check_sheet p l = check_from p l (rows_in l) 0
