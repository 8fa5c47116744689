use Prim.Native.Nat.{ℕ, ◌+◌, ◌*◌, ◌≤◌}
use mathlib.Core.Path.{sym, ap, ◌∙◌}
use native.Mathlib.Omega.{arith}
use lib.ListN.{length, replicate, length-replicate}
use lib.Seq.{length-take-le}
use Rattle.terminal_text.proofs.ShownLaws.{read_short, read_layout, first_put, bytes_now, renewed_fits, renewed_is, short_as}
use Rattle.terminal_text.specs.Shown.{decode_text}
use borrow.Author.Rules.{rules}
use Rattle.terminal_text.proofs.show_renewed.Goals as goal

pub overflow_mul-k : goal.overflow_mul-k
overflow_mul-k c = let short = read_short c.args.s.now c.requires.0 c.read.ensures c.unwrap-read.ensures c.layout_of-z.ensures in
    let within = short.within in
    search rules

pub slice_bounds-renew-end-2 : goal.slice_bounds-renew-end-2
slice_bounds-renew-end-2 c = let short = read_short c.args.s.now c.requires.0 c.read.ensures c.unwrap-read.ensures c.layout_of-z.ensures in
    sym (length-take-le (4 * c.layout_of-z.result.at.order) c.args.s.now short.within)

pub slice_bounds-renew-end-3 : goal.slice_bounds-renew-end-3
slice_bounds-renew-end-3 c = let short = read_short c.args.s.now c.requires.0 c.read.ensures c.unwrap-read.ensures c.layout_of-z.ensures in
    sym (length-take-le c.layout_of-z.result.activities c.args.tasks.now (omega (arith, short.activities, c.requires.1)))

pub slice_bounds-renew-end-4 : goal.slice_bounds-renew-end-4
slice_bounds-renew-end-4 c = let short = read_short c.args.s.now c.requires.0 c.read.ensures c.unwrap-read.ensures c.layout_of-z.ensures in
    sym (length-take-le c.layout_of-z.result.activities c.args.machines.now (omega (arith, short.activities, c.requires.2)))

pub renew-len-requires : goal.renew-len-requires
renew-len-requires c = let short = read_short c.args.s.now c.requires.0 c.read.ensures c.unwrap-read.ensures c.layout_of-z.ensures in
    let t = length-take-le c.layout_of-z.result.activities c.args.tasks.now (omega (arith, short.activities, c.requires.1)) in
    let m = length-take-le c.layout_of-z.result.activities c.args.machines.now (omega (arith, short.activities, c.requires.2)) in
    let room : 4 * (c.layout_of-z.result.at.order + 2 + c.layout_of-z.result.activities + c.layout_of-z.result.activities) ≤ 65536 = short.room in
    (length-take-le (4 * c.layout_of-z.result.at.order) c.args.s.now short.within, rw (t, m) room)

pub slice_bounds-bytes-end : goal.slice_bounds-bytes-end
slice_bounds-bytes-end c = let short = read_short c.args.s.now c.requires.0 c.read.ensures c.unwrap-read.ensures c.layout_of-z.ensures in
    let fits = renewed_fits c.args.s.now c.args.tasks.now c.args.machines.now c.layout_of-z.result short c.requires.1 c.requires.2 in
    omega (arith, fits, c.renew-len.ensures.length)

pub slice_bounds-show_sheet-end : goal.slice_bounds-show_sheet-end
slice_bounds-show_sheet-end c = let short = read_short c.args.s.now c.requires.0 c.read.ensures c.unwrap-read.ensures c.layout_of-z.ensures in
    let fits = renewed_fits c.args.s.now c.args.tasks.now c.args.machines.now c.layout_of-z.result short c.requires.1 c.requires.2 in
    sym (length-take-le c.renew-len.result c.renew-len.new.buf (omega (arith, fits, c.renew-len.ensures.length)))

pub returns : goal.returns
returns c = let short = read_short c.args.s.now c.requires.0 c.read.ensures c.unwrap-read.ensures c.layout_of-z.ensures in
    let fits = renewed_fits c.args.s.now c.args.tasks.now c.args.machines.now c.layout_of-z.result short c.requires.1 c.requires.2 in
    let room = length-replicate {A = ℕ} 65536 0 in
    short_as (ap (decode_text 14) (first_put (replicate 65536 0) (bytes_now c.args.s.now c.args.tasks.now c.args.machines.now c.layout_of-z.result short c.requires.1 c.requires.2) (omega (arith, fits, room)) c.renew-len.ensures.bytes c.renew-len.ensures.length ∙ renewed_is c.args.s.now c.args.tasks.now c.args.machines.now c.layout_of-z.result short c.requires.1 c.requires.2 (read_layout c.args.s.now c.requires.0 c.read.ensures c.unwrap-read.ensures c.layout_of-z.ensures))) c.show_sheet.ensures
