-- Sections that were read are read again in other words that agree with these up to a place behind them.
use Prim.Native.Nat.{ℕ, zero, suc, ◌+◌, ◌*◌, ◌-◌, ◌≤◌, ◌<◌}
use mathlib.Core.Path.{◌≡◌, refl, sym, ◌∙◌, subst}
use mathlib.Core.Bool.{true}
use mathlib.Core.List.{List}
use native.Mathlib.Omega.{arith}
use native.Mathlib.Nat.{le_trans, mul-suc, mul-le-mul_left}
use lib.ListN.{length, get_or}
use Rattle.grammar.specs.Rules.{width_of, pair_before, precedes, entry_kept, learnt}
use Rattle.grammar.specs.Sections.{kind_at}
use Rattle.grammar.specs.declared.Section.{Section}
use Rattle.grammar.specs.declared.Known.{Known}
use Rattle.grammar.specs.declared.Kind.{Kind}
use Rattle.grammar.specs.declared.Rule.{Rule}
use Rattle.grammar.specs.declared.Rule.TheVariants.{Free, Rising, RisingOnce, Strict}
use Rattle.reader.proofs.AcceptedLaws.{Ranged, EntriesRead, SectionRead}

-- A word of an entry stands before the next section.
inside : (w n e f at next : ℕ) → e < n → f < w → next ≡ at + 1 + w * n → at + 1 + w * e + f < next
inside w n e f at next h g q = omega (arith, g, q, mul-suc w e, mul-le-mul_left w h)

begins : (w n e at next : ℕ) → e < n → next ≡ at + 1 + w * n → at + 1 + w * e ≤ next
begins w n e at next h q = omega (arith, q, mul-suc w e, mul-le-mul_left w h)

module _ (k : ℕ) (ws vs : List ℕ) (same : (i : ℕ) → i < k → get_or vs i 0 ≡ get_or ws i 0) (long : k ≤ length vs) where
  ranged : (known : Known) (kind : Kind) (at : ℕ) → at < k → Ranged ws known kind at → Ranged vs known kind at
  ranged known kind at h r = rw (same (at - 1) (omega (arith, h)), same at h) r

  pair_same : (w done at a m : ℕ) → at + 2 ≤ k → pair_before vs w done at a m ≡ pair_before ws w done at a m
  unfolding pair_before
  pair_same w zero at a m h = refl
  pair_same w (suc done) at a m h =
      rw (same (at - w) (omega (arith, h)), same (at - w + 1) (omega (arith, h)), pair_same w done (at - w) a m (omega (arith, h))) refl

  precedes-same : (n p q : ℕ) → p + n ≤ k → q + n ≤ k → precedes vs n p q ≡ precedes ws n p q
  unfolding precedes
  precedes-same zero p q h g = refl
  precedes-same (suc n) p q h g =
      rw (same p (omega (arith, h)), same q (omega (arith, g)), precedes-same n (p + 1) (q + 1) (omega (arith, h)) (omega (arith, g))) refl

  rule_same : (rule : Rule) (w done at : ℕ) → at + 3 ≤ k → entry_kept vs rule w done at ≡ entry_kept ws rule w done at
  rule_same Free w done at h = refl
  rule_same Rising w done at h = rw (same (at - w) (omega (arith, h)), same at (omega (arith, h))) refl
  rule_same RisingOnce w done at h =
      rw (
        same (at - w) (omega (arith, h)),
        same at (omega (arith, h)),
        same (at + 1) (omega (arith, h)),
        pair_same w done at (get_or ws at 0) (get_or ws (at + 1) 0) (omega (arith, h)),
      ) refl
  rule_same Strict w done at h = rw (precedes-same 3 (at - w) at (omega (arith, h)) (omega (arith, h))) refl

  -- A section whose entries keep their rule there.
  pub section_again : (s : Section) (known : Known) (at next : ℕ) → SectionRead ws s known at next → at < k → next ≤ k
      → ((w e : ℕ) → at + 1 + w * e ≤ next → entry_kept ws s.rule w (0 + e) (at + 1 + w * e) ≡ true → entry_kept vs s.rule w (0 + e) (at + 1 + w * e) ≡ true)
      → SectionRead vs s known at next
  section_again s known at next r h b rules =
      let n = get_or ws at 0 in
      let w = width_of s (learnt s.keep known n) in
      let q = same at h in
      record {
        low = rw q r.low;
        high = rw q r.high;
        rule = rw q r.rule;
        entries =
            subst (λ (m : ℕ). EntriesRead vs s (learnt s.keep known m) (width_of s (learnt s.keep known m)) m 0 (at + 1)) (sym q) (record {
              words = λ e f l g.
                  ranged (learnt s.keep known n) (kind_at s f) (at + 1 + w * e + f) (le_trans (inside w n e f at next l g r.onward) b) (r.entries.words e f l g);
              rules = λ e l. rules w e (begins w n e at next l r.onward) (r.entries.rules e l);
            });
        onward = rw q r.onward;
        within = le_trans b long;
      }

  -- A section with three words or more between it and the place.
  pub early_again : (s : Section) (known : Known) (at next : ℕ) → SectionRead ws s known at next → at < k → next + 3 ≤ k → SectionRead vs s known at next
  early_again s known at next r h b =
      section_again s known at next r h (omega (arith, b)) (λ w e l q. rule_same s.rule w (0 + e) (at + 1 + w * e) (omega (arith, l, b)) ∙ q)
