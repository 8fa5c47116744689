-- What is permitted is what the contracts say: all that the contract of a public call tells its caller, of any arguments, result and buffers at
-- exit, is `Permitted` of them.
use Prim.Native.Nat.{ℕ}
use mathlib.Core.List.{List}
use contract.Lifetimes.{Lfts}
use denote.Triple.Clauses.{AtExit}
use borrow.Fn.Kinds.{ParamKind, ResultKind, Out, Dens, res_t, ended_of}
use Rattle.calls.proofs.time.Kinds as time_kinds
use Rattle.calls.proofs.time.Reads as time_reads
use Rattle.calls.proofs.time_order.Kinds as time_order_kinds
use Rattle.calls.proofs.time_order.Reads as time_order_reads
use Rattle.calls.proofs.time_again.Kinds as time_again_kinds
use Rattle.calls.proofs.time_again.Reads as time_again_reads
use Rattle.decoding.proofs.in_order.Kinds as in_order_kinds
use Rattle.decoding.proofs.in_order.Reads as in_order_reads
use Rattle.decoding.proofs.active.Kinds as active_kinds
use Rattle.decoding.proofs.active.Reads as active_reads
use Rattle.decoding.proofs.decode.Kinds as decode_kinds
use Rattle.decoding.proofs.decode.Reads as decode_reads
use Rattle.checking.proofs.check.Kinds as check_kinds
use Rattle.checking.proofs.check.Reads as check_reads
use Rattle.improving.proofs.improve.Kinds as improve_kinds
use Rattle.improving.proofs.improve.Reads as improve_reads
use Rattle.looking.proofs.look.Kinds as look_kinds
use Rattle.looking.proofs.look.Reads as look_reads
use Rattle.terminal_text.proofs.show.Kinds as show_kinds
use Rattle.terminal_text.proofs.show.Reads as show_reads
use Rattle.outcomes.specs.Outcomes.{Rows, NewGenes, Views, time, time_order, time_again, in_order, active, decode, check, improve, look, show, Ended, Permitted}

-- Of any lifetimes, arguments, result and parameters at exit, what a contract tells is a claim.
abbrev Tells : (n : ℕ) (ps : List (ParamKind n)) (r : ResultKind n) → (contract claim : Out n ps r) → Type 0
Tells n ps r contract claim =
    (κs : Lfts n) (a : Dens κs ps) (x : (res_t r κs).Denot) (e : AtExit (ended_of n ps r) κs) → contract κs a x e → claim κs a x e

abbrev ended : {A B : Type 0} → A → B → Ended A B
ended x b = record { answer = x; lent = b }

abbrev rows : (a m s e u : List ℕ) → Rows
rows a m s e u = record { activities = a; machines = m; starts = s; ends = e; setups = u }

abbrev genes : (tasks machines : List ℕ) → NewGenes
genes tasks machines = record { tasks = tasks; machines = machines }

abbrev views : (path moves kept ranks : List ℕ) → Views
views path moves kept ranks = record { path = path; moves = moves; kept = kept; ranks = ranks }

pub time_permitted : Tells 7 time_kinds.ps time_kinds.r time_reads.Learnt λ κs a x e.
    Permitted (time a.0.now a.1.0.now a.1.1.0 (rows a.1.1.1.0.now a.1.1.1.1.0.now a.1.1.1.1.1.0.now a.1.1.1.1.1.1.0.now a.1.1.1.1.1.1.1.0.now)) (ended x (rows e.1.1.1.0.now e.1.1.1.1.0.now e.1.1.1.1.1.0.now e.1.1.1.1.1.1.0.now e.1.1.1.1.1.1.1.0.now))
time_permitted κs a x e told = told

pub time_order_permitted : Tells 6 time_order_kinds.ps time_order_kinds.r time_order_reads.Learnt λ κs a x e.
    Permitted (time_order a.0.now (rows a.1.0.now a.1.1.0.now a.1.1.1.0.now a.1.1.1.1.0.now a.1.1.1.1.1.0.now)) (ended x (rows e.1.0.now e.1.1.0.now e.1.1.1.0.now e.1.1.1.1.0.now e.1.1.1.1.1.0.now))
time_order_permitted κs a x e told = told

pub time_again_permitted : Tells 2 time_again_kinds.ps time_again_kinds.r time_again_reads.Learnt λ κs a x e.
    Permitted (time_again a.0.now a.1.0.now a.1.1.0 a.1.1.1.0) x
time_again_permitted κs a x e told = told

pub in_order_permitted : Tells 6 in_order_kinds.ps in_order_kinds.r in_order_reads.Learnt λ κs a x e.
    Permitted (in_order a.0.now (rows a.1.0.now a.1.1.0.now a.1.1.1.0.now a.1.1.1.1.0.now a.1.1.1.1.1.0.now)) (ended x (rows e.1.0.now e.1.1.0.now e.1.1.1.0.now e.1.1.1.1.0.now e.1.1.1.1.1.0.now))
in_order_permitted κs a x e told = told

pub active_permitted : Tells 6 active_kinds.ps active_kinds.r active_reads.Learnt λ κs a x e.
    Permitted (active a.0.now (rows a.1.0.now a.1.1.0.now a.1.1.1.0.now a.1.1.1.1.0.now a.1.1.1.1.1.0.now)) (ended x (rows e.1.0.now e.1.1.0.now e.1.1.1.0.now e.1.1.1.1.0.now e.1.1.1.1.1.0.now))
active_permitted κs a x e told = told

pub decode_permitted : Tells 6 decode_kinds.ps decode_kinds.r decode_reads.Learnt λ κs a x e.
    Permitted (decode a.0.now (rows a.1.0.now a.1.1.0.now a.1.1.1.0.now a.1.1.1.1.0.now a.1.1.1.1.1.0.now)) (ended x (rows e.1.0.now e.1.1.0.now e.1.1.1.0.now e.1.1.1.1.0.now e.1.1.1.1.1.0.now))
decode_permitted κs a x e told = told

pub check_permitted : Tells 2 check_kinds.ps check_kinds.r check_reads.Learnt λ κs a x e.
    Permitted (check a.0.now a.1.0.now) x
check_permitted κs a x e told = told

pub improve_permitted : Tells 4 improve_kinds.ps improve_kinds.r improve_reads.Learnt λ κs a x e.
    Permitted (improve a.0.now a.1.0.now (genes a.1.1.0.now a.1.1.1.0.now)) (ended x (genes e.1.1.0.now e.1.1.1.0.now))
improve_permitted κs a x e told = (told.0, told.1.0, told.1.1)

pub look_permitted : Tells 6 look_kinds.ps look_kinds.r look_reads.Learnt λ κs a x e.
    Permitted (look a.0.now a.1.0.now a.1.1.0 (views a.1.1.1.0.now a.1.1.1.1.0.now a.1.1.1.1.1.0.now a.1.1.1.1.1.1.0.now)) (ended x (views e.1.1.1.0.now e.1.1.1.1.0.now e.1.1.1.1.1.0.now e.1.1.1.1.1.1.0.now))
look_permitted κs a x e told = told

pub show_permitted : Tells 2 show_kinds.ps show_kinds.r show_reads.Learnt λ κs a x e.
    Permitted (show a.0.now a.1.0.now) (ended x e.1.0.now)
show_permitted κs a x e told = (told.0, told.1.0)
