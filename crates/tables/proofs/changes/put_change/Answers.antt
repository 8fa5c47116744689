-- `tables::changes::put_change` meets its contract: the four words are the entry's.
use Prim.Native.Nat.{◌+◌}
use mathlib.Core.Path.{◌≡◌}
use native.Mathlib.Omega.{arith}
use lib.ListN.{get_or}
use Rattle.words.specs.Words.{words}
use Rattle.tables.proofs.ChangeLaws.{set_same}
use Rattle.tables.proofs.changes.put_change.Goals as goal

pub returns : goal.returns
returns c = let ws = words c.args.s.now in
    let m : c.word-machine.result ≡ get_or ws c.args.from 0 = c.word-machine.ensures in
    let b : c.word-previous.result ≡ get_or ws (c.args.from + 1) 0 = c.word-previous.ensures in
    let k : c.word-category.result ≡ get_or ws (c.args.from + 2) 0 = c.word-category.ensures in
    let x : c.word-setup.result ≡ get_or ws (c.args.from + 3) 0 = c.word-setup.ensures in
    set_same c.args.changes.now _ _ _ _ (omega arith) (omega arith)
