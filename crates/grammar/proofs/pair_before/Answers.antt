-- `grammar::pair_before` meets its contract. The loop's invariant: what is left to look at has risen to a or less, and holds the pair exactly
-- if all of it did.
use Prim.Native.Nat.{ℕ, ◌+◌, ◌-◌}
use mathlib.Core.Path.{◌≡◌, refl, sym, ap, ◌∙◌}
use native.Mathlib.Omega.{arith}
use lib.ListN.{get_or}
use Rattle.words.specs.Words.{words}
use Rattle.grammar.proofs.EntryLaws.{risen_to, risen_before, pair_found, pair_passed, pair_none, pair_ended}
use Rattle.grammar.proofs.pair_before.Goals as goal

pub loop-init : goal.loop-init
loop-init c = let z : c.args.done - 0 ≡ c.args.done = omega arith in (c.requires.0, rw z c.requires.1, λ h. c.requires.2 (omega arith), rw z refl)

pub returns-then-word-a : goal.returns-then-word-a
returns-then-word-a c = let e : c.word.result ≡ get_or (words c.args.s.now) (c.loop.p - c.args.w) 0 =
    c.word.ensures ∙ ap (λ (n : ℕ). get_or (words c.args.s.now) n 0) c.saturating_sub-p.ensures in
    sym (c.loop.invariant.3 ∙ pair_ended (words c.args.s.now) c.args.w c.args.a c.args.m (c.args.done - c.loop.counter) c.loop.p (omega arith) c.loop.invariant.1 (c.loop.invariant.2 (omega arith)) (λ q. c.if-word-a.true (e ∙ q)))

pub returns-then-word-m : goal.returns-then-word-m
returns-then-word-m c = let e : c.word.result ≡ get_or (words c.args.s.now) (c.loop.p - c.args.w) 0 =
    c.word.ensures ∙ ap (λ (n : ℕ). get_or (words c.args.s.now) n 0) c.saturating_sub-p.ensures in
    let d : c.word-in-loop.result ≡ get_or (words c.args.s.now) (c.loop.p - c.args.w + 1) 0 =
    c.word-in-loop.ensures ∙ ap (λ (n : ℕ). get_or (words c.args.s.now) (n + 1) 0) c.saturating_sub-p.ensures in
    sym (c.loop.invariant.3 ∙ pair_found (words c.args.s.now) c.args.w c.args.a c.args.m (c.args.done - c.loop.counter) c.loop.p (omega arith) (sym e ∙ c.if-word-a.false) (sym d ∙ c.if-word-m.true))

pub loop-preserved : goal.loop-preserved
loop-preserved c = let e : c.word.result ≡ get_or (words c.args.s.now) (c.loop.p - c.args.w) 0 =
    c.word.ensures ∙ ap (λ (n : ℕ). get_or (words c.args.s.now) n 0) c.saturating_sub-p.ensures in
    let d : c.word-in-loop.result ≡ get_or (words c.args.s.now) (c.loop.p - c.args.w + 1) 0 =
    c.word-in-loop.ensures ∙ ap (λ (n : ℕ). get_or (words c.args.s.now) (n + 1) 0) c.saturating_sub-p.ensures in
    let own = sym e ∙ c.if-word-a.false in
    let r = risen_before (words c.args.s.now) c.args.w (c.args.done - c.loop.counter) c.loop.p c.loop.invariant.1 (omega arith) in
    let q : c.args.done - (c.loop.counter + 1) ≡ c.args.done - c.loop.counter - 1 = omega arith in (
      omega arith,
      rw (q, c.saturating_sub-p.ensures) r.1,
      λ h. rw c.saturating_sub-p.ensures (omega (arith, own, risen_to (words c.args.s.now) c.args.w (c.args.done - c.loop.counter - 1) (c.loop.p - c.args.w) r.0 (omega arith))),
      c.loop.invariant.3 ∙ pair_passed (words c.args.s.now) c.args.w c.args.a c.args.m (c.args.done - c.loop.counter) c.loop.p (omega arith) own (λ q. c.if-word-m.false (d ∙ q)) ∙ rw (← c.saturating_sub-p.ensures, q),
    )

pub returns : goal.returns
returns c = sym (c.loop.invariant.3 ∙ pair_none (words c.args.s.now) c.args.w c.args.a c.args.m (c.args.done - c.loop.counter) c.loop.p (omega arith))
