-- What taking a plan in has at each moment: what was read promises what the tables and the circle ask, and each way out is what the rule says.
use mathlib.Core.Path.{◌≡◌, refl, sym, ap, ◌∙◌}
use mathlib.Core.Bool.{Bool, true, false}
use mathlib.Core.List.{List}
use Prim.Native.Nat.{ℕ}
use Rattle.std.specs.Prelude.{Ok, Err}
use Rattle.words.specs.Words.{words}
use Rattle.reader.specs.Reading.{read_all, yes}
use Rattle.reader.specs.Refusals.{refusal}
use Rattle.reader.specs.Answer.{Reading, Answer, Accepted as Taken, No, told, told_as}
use Rattle.reader.specs.declared.refusal.Reason.{Reason}
use Rattle.reader.specs.declared.refusal.Reason.TheVariants.{Circle}
use Rattle.reader.specs.declared.refusal.Refusal.{Refusal}
use Rattle.reader.specs.declared.Sections.{Sections}
use Rattle.reader.proofs.AcceptedLaws.{answered}
use Rattle.grammar.specs.declared.Known.{Known}
use Rattle.plan.specs.Input.{problem_of, genes_of}
use Rattle.plan.specs.Found.{Placed, layout_in, layout_of}
use Rattle.plan.specs.Accepted.{Accepted}
use Rattle.plan.specs.declared.Layout.{Layout}
use Rattle.plan.proofs.Accepting.{accepted_total, accepted_placed, accepted_layout, accepted_means}
use Rattle.tables.specs.Entries.{Entries}
use Rattle.tables.proofs.EntriesLaws.{entries_of}
use Rattle.intake.specs.Circle.{closes_circle}
use Rattle.intake.specs.Intake.{problem_in, taken_in, laid_as, laid_out}

took_as : (a : Answer) {x z : Layout} → Ok z ≡ laid_as a x → (a ≡ Taken) × (z ≡ x)
took_as Taken e = (refl, cc)
took_as (No reason place) e = (cc, cc)

-- A layout that was answered is that of an accepted reading.
pub took : (r : Reading) {z : Layout} → Ok z ≡ laid_out r → (r.answer ≡ Taken) × (z ≡ layout_of r)
took r e = took_as r.answer e

refused_as : (a : Answer) (x : Layout) {f : Refusal} → Err f ≡ laid_as a x → a ≡ No f.reason f.place
refused_as Taken x e = cc
refused_as (No reason place) x e = cc

-- A refusal that was answered is the reading's.
pub refused_so : (r : Reading) {f : Refusal} → Err f ≡ laid_out r → r.answer ≡ No f.reason f.place
refused_so r e = refused_as r.answer _ e

read_as : (a : Answer) (k : Known) (starts : List ℕ) {f : Sections} → Ok f ≡ told_as a k starts
    → (a ≡ Taken) × (layout_in f.known f.starts ≡ layout_in k starts)
read_as Taken k starts {f} e = let g : f ≡ record { known = k; starts = starts } = cc in (refl, rw g)
read_as (No reason place) k starts e = absurd (cc)

-- Sections that were read are those of an accepted reading.
pub read_so : (r : Reading) {f : Sections} {z : Layout} → Ok f ≡ told r → z ≡ layout_in f.known f.starts → (r.answer ≡ Taken) × (z ≡ layout_of r)
read_so r e ez = let u = read_as r.answer r.known r.starts e in (u.0, ez ∙ u.1)

-- A layout of an accepted reading is answered.
laid_so : (r : Reading) {z : Layout} → r.answer ≡ Taken → z ≡ layout_of r → Ok z ≡ laid_out r
laid_so r ea ez = rw (ea, ez)

-- A refusal is not an acceptance.
pub never_taken {ℓ} : {A : Type ℓ} {answer : Answer} {reason : Reason} {place : ℕ} → answer ≡ No reason place → answer ≡ Taken → A
never_taken p q = absurd (cc)

module _ (s : List ℕ) {r : Reading} (er : r ≡ read_all s) where
  module _ (ea : r.answer ≡ Taken) where
    whole : read_all s ≡ yes r.known r.starts
    whole = sym er ∙ answered r ea

    accepted : Accepted (problem_of (words s) (layout_of r)) (genes_of (words s) (layout_of r))
    accepted = accepted_means s r.known r.starts whole

    pub taken_asks : {z : Layout} → z ≡ layout_of r → Placed z × Entries (words s) z
    taken_asks e = rw e (accepted_placed s r.known r.starts whole, entries_of (accepted_layout s r.known r.starts whole))

    pub taken_accepted : {z : Layout} → z ≡ layout_of r → Accepted (problem_of (words s) z) (genes_of (words s) z)
    taken_accepted e = rw e accepted

    module _ {z : Layout} (ez : z ≡ layout_of r) {circle : Bool} (ec : circle ≡ closes_circle (problem_of (words s) z)) where
      test : circle ≡ closes_circle (problem_in s r)
      test = ec ∙ ap (λ (x : Layout). closes_circle (problem_of (words s) x)) ez

      pub circle_refused : circle ≡ true → Err (refusal Circle 0) ≡ laid_out (taken_in s)
      circle_refused t = rw (← er, ea, ← test, t)

      pub circle_passed : circle ≡ false → r ≡ taken_in s
      circle_passed t = rw (← er, ea, ← test, t)

      pub circle_total : circle ≡ false → (taken_in s).known.total ≡ z.activities
      circle_total t = rw (← circle_passed t, ez) (accepted_total s r.known r.starts whole)

      pub circle_none : circle ≡ false → Ok z ≡ laid_out (taken_in s)
      circle_none t = rw (← circle_passed t) (laid_so r ea ez)
