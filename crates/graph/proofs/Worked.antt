-- Document 01's worked plans, computed by the rules themselves: arrays of links, and none named. Assumes nothing.
use mathlib.Core.Path.{◌≡◌, refl}
use mathlib.Core.List.{List, [], ◌∷◌}
use Prim.Native.Nat.{ℕ}
use Rattle.graph.specs.Order.{order_of, order_from, stack_free, free_all}
use Rattle.graph.specs.Links.{succs_of}

-- tasks a0 a1 and a2 a3: a1 follows a0, a3 follows a2
abbrev tasks : List ℕ
tasks = 1 ∷ 4 ∷ 3 ∷ 4 ∷ []

-- no activity names another
abbrev offsets : List ℕ
offsets = 0 ∷ 0 ∷ 0 ∷ 0 ∷ 0 ∷ []

-- Plan S as improved, lines a2 a0 and a3 a1: the order of the rows that document 01 prints
plan_s_lem : order_of (succs_of (4 ∷ 4 ∷ 0 ∷ 1 ∷ []) tasks offsets []) 4 (1 ∷ 2 ∷ 0 ∷ 1 ∷ []) ≡ 2 ∷ 3 ∷ 0 ∷ 1 ∷ []
unfolding order_of order_from stack_free free_all
plan_s_lem = refl

-- P7, lines a3 a0 and a1 a2: all wait, so the order names nobody
p7 : order_of (succs_of (4 ∷ 2 ∷ 4 ∷ 0 ∷ []) tasks offsets []) 4 (1 ∷ 1 ∷ 1 ∷ 1 ∷ []) ≡ []
unfolding order_of order_from stack_free free_all
p7 = refl
