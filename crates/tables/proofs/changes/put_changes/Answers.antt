-- `tables::changes::put_changes` meets its contract. The loop's invariant: the cells hold the entries from e on.
use Prim.Native.Nat.{◌+◌, ◌*◌, ◌-◌}
use mathlib.Core.Path.{◌≡◌, refl}
use native.Mathlib.Omega.{arith}
use Rattle.words.specs.Words.{words}
use Rattle.plan.specs.Input.{count}
use Rattle.tables.proofs.ChangeLaws.{coded_begin, coded_turn, change_asks}
use Rattle.tables.proofs.changes.put_changes.Goals as goal

pub loop-e-init : goal.loop-e-init
loop-e-init c = coded_begin _ _ _ _ (omega arith) c.requires.3

pub put_change-requires : goal.put_change-requires
put_change-requires c = let ws = words c.args.s.now in
    let all : c.word-count.result ≡ count ws c.args.z c.args.z.at.setups = c.word-count.ensures in
    let asks = change_asks ws c.args.z c.requires.0 c.requires.1 (c.loop-e.e - 1) (c.args.z.at.setups + 1 + 4 * (c.loop-e.e - 1)) (omega arith) refl in
    (omega (arith, c.requires.0.setups_at, c.requires.1.most_setups), omega arith, asks.0, asks.1, asks.2)

pub loop-e-preserved : goal.loop-e-preserved
loop-e-preserved c = let ws = words c.args.s.now in
    let all : c.word-count.result ≡ count ws c.args.z c.args.z.at.setups = c.word-count.ensures in
    let asks = change_asks ws c.args.z c.requires.0 c.requires.1 (c.loop-e.e - 1) (c.args.z.at.setups + 1 + 4 * (c.loop-e.e - 1)) (omega arith) refl in
    coded_turn ws _ c.loop-e.e c.args.z.at.setups c.loop-e.invariant (omega arith) c.loop-e.auto.e (omega arith) asks c.put_change.ensures
