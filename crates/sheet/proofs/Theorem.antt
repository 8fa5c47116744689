-- The check accepts the lawful sheets and no others, of any problem.
use mathlib.Core.Path.{◌≡◌}
use mathlib.Core.List.{List}
use mathlib.Core.Logic.{◌↔◌}
use lib.IntN.{ℤ}
use Rattle.plan.specs.Problem.{Problem}
use Rattle.sheet.specs.Sheet.{check_sheet}
use Rattle.sheet.specs.Lawful.{Lawful}
use Rattle.sheet.specs.declared.Verdict.TheVariants.{Accepted}
use Rattle.sheet.proofs.LawfulOnly.{accepted_lawful}
use Rattle.sheet.proofs.LawfulAccepted.{lawful_accepted}

pub accepts_exactly : (p : Problem) (l : List ℤ) → (check_sheet p l ≡ Accepted) ↔ Lawful p l
accepts_exactly p l = (accepted_lawful p l, lawful_accepted p l)
