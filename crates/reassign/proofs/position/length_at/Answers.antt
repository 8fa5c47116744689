-- `reassign::position::length_at` meets its contract. The greater of head and the end before, and the greatest span plus tail, are greatest over a link.
use Rattle.std.specs.Prelude.{Option, ℕ}
use mathlib.Core.Path.{◌≡◌, ap, ◌∙◌}
use Prim.Native.Nat.{ℕ, ◌+◌, ◌-◌, ◌<◌, ◌^◌, max}
use native.Mathlib.Omega.{arith}
use lib.ListN.{length, get_or}
use Rattle.graph.specs.Links.{linked}
use Rattle.graph.specs.Shop.{greatest}
use Rattle.bounds.specs.Bounds.{arrival_of}
use Rattle.reassign.specs.Reassignments.{line_at, line_before}
use Rattle.reassign.proofs.PositionLaws.{at_below, before_below}
use Rattle.reassign.proofs.WayLaws.{arrival_greatest, greatest_under}
use Rattle.reassign.proofs.position.length_at.Goals as goal

pub arrival-free-requires : goal.arrival-free-requires
arrival-free-requires c = (rw (c.line_before.ensures, c.requires.1.addable.ended) (before_below (length c.args.tail.now) c.args.line.now c.args.i c.requires.0), λ t e. c.requires.1.early t, omega arith)

pub after_link-rest-requires : goal.after_link-rest-requires
after_link-rest-requires c = (rw c.line_at.ensures (at_below (length c.args.tail.now) c.args.line.now c.args.i c.requires.0), c.requires.1.addable)

pub overflow_add-result : goal.overflow_add-result
overflow_add-result c = let f : ℕ → ℕ = λ x. get_or c.args.ends.now x 0 in
    let g : ℕ → ℕ = λ x. get_or c.args.ends.now x 0 - get_or c.args.starts.now x 0 + get_or c.args.tail.now x 0 in
    let n = length c.args.tail.now in
    let before = line_before c.args.line.now c.args.i in
    let here = line_at c.args.line.now c.args.i in
    let eh : c.max-head.result ≡ greatest f (linked before) c.args.way.head = c.max-head.ensures ∙ ap (max c.args.way.head) (c.arrival-free.ensures ∙ ap (λ (l : Option ℕ). arrival_of l f 0) c.line_before.ensures) ∙ arrival_greatest f before c.args.way.head in
    let er : c.after_link-rest.result ≡ greatest g (linked here) c.args.way.rest = c.after_link-rest.ensures ∙ ap (λ (l : Option ℕ). greatest g (linked l) c.args.way.rest) c.line_at.ensures in
    let h : greatest f (linked before) c.args.way.head < 2 ^ 62 = greatest_under f n (2 ^ 62) (linked before) c.args.way.head c.requires.2.head (before_below n c.args.line.now c.args.i c.requires.0) (λ x l. c.requires.1.early x) in
    let r : greatest g (linked here) c.args.way.rest < 2 ^ 62 = greatest_under g n (2 ^ 62) (linked here) c.args.way.rest c.requires.2.rest (at_below n c.args.line.now c.args.i c.requires.0) (λ x l. c.requires.1.addable.small x l) in
    omega (arith, eh, er, h, r, c.requires.2.time)

pub overflow_add-result-2 : goal.overflow_add-result-2
overflow_add-result-2 c = let f : ℕ → ℕ = λ x. get_or c.args.ends.now x 0 in
    let g : ℕ → ℕ = λ x. get_or c.args.ends.now x 0 - get_or c.args.starts.now x 0 + get_or c.args.tail.now x 0 in
    let n = length c.args.tail.now in
    let before = line_before c.args.line.now c.args.i in
    let here = line_at c.args.line.now c.args.i in
    let eh : c.max-head.result ≡ greatest f (linked before) c.args.way.head = c.max-head.ensures ∙ ap (max c.args.way.head) (c.arrival-free.ensures ∙ ap (λ (l : Option ℕ). arrival_of l f 0) c.line_before.ensures) ∙ arrival_greatest f before c.args.way.head in
    let er : c.after_link-rest.result ≡ greatest g (linked here) c.args.way.rest = c.after_link-rest.ensures ∙ ap (λ (l : Option ℕ). greatest g (linked l) c.args.way.rest) c.line_at.ensures in
    let h : greatest f (linked before) c.args.way.head < 2 ^ 62 = greatest_under f n (2 ^ 62) (linked before) c.args.way.head c.requires.2.head (before_below n c.args.line.now c.args.i c.requires.0) (λ x l. c.requires.1.early x) in
    let r : greatest g (linked here) c.args.way.rest < 2 ^ 62 = greatest_under g n (2 ^ 62) (linked here) c.args.way.rest c.requires.2.rest (at_below n c.args.line.now c.args.i c.requires.0) (λ x l. c.requires.1.addable.small x l) in
    omega (arith, eh, er, h, r, c.requires.2.time)

pub returns : goal.returns
returns c = let f : ℕ → ℕ = λ x. get_or c.args.ends.now x 0 in
    let g : ℕ → ℕ = λ x. get_or c.args.ends.now x 0 - get_or c.args.starts.now x 0 + get_or c.args.tail.now x 0 in
    let n = length c.args.tail.now in
    let before = line_before c.args.line.now c.args.i in
    let here = line_at c.args.line.now c.args.i in
    let eh : c.max-head.result ≡ greatest f (linked before) c.args.way.head = c.max-head.ensures ∙ ap (max c.args.way.head) (c.arrival-free.ensures ∙ ap (λ (l : Option ℕ). arrival_of l f 0) c.line_before.ensures) ∙ arrival_greatest f before c.args.way.head in
    let er : c.after_link-rest.result ≡ greatest g (linked here) c.args.way.rest = c.after_link-rest.ensures ∙ ap (λ (l : Option ℕ). greatest g (linked l) c.args.way.rest) c.line_at.ensures in
    rw (eh, er)
