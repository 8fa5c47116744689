-- What the words of some sections are found to be is read so: the converse of what reading finds.
use Prim.Native.Nat.{ℕ, zero, suc, ◌+◌, ◌*◌, ◌≤◌, ◌<◌}
use mathlib.Core.Path.{◌≡◌, refl, sym, ap, ◌∙◌}
use mathlib.Core.Bool.{Bool, cond}
use mathlib.Core.List.{List, [], ◌∷◌}
use native.Mathlib.Omega.{arith}
use native.Mathlib.Nat.{mul-zero, mul-suc}
use borrow.Author.Tests.{lt-ltb, le-ltb, le-leb}
use lib.ListN.{length, get_or, set}
use Rattle.std.specs.Prelude.{Ok}
use Rattle.grammar.specs.Sections.{kind_at}
use Rattle.grammar.specs.Rules.{width_of, count_kept, entry_kept, learnt, after}
use Rattle.grammar.specs.declared.Section.{Section}
use Rattle.grammar.specs.declared.Known.{Known}
use Rattle.grammar.specs.declared.Kind.{Kind}
use Rattle.grammar.specs.declared.Kind.TheVariants.{Span}
use Rattle.reader.specs.Answer.{Reading}
use Rattle.reader.specs.Reading.{Onward, and_then, where_kept, read_word, read_fields, read_entries, read_section, then_read, read_sections, no, yes}
use Rattle.reader.specs.declared.refusal.Reason.TheVariants.{Rule, Rest}
use Rattle.reader.proofs.AcceptedLaws.{Ranged, EntriesRead, SectionRead, SectionsRead}

word_reads : (ws : List ℕ) (k : Known) (kind : Kind) (at : ℕ) → at < length ws → Ranged ws k kind at → read_word ws kind k at ≡ Ok (at + 1)
unfolding read_word
word_reads ws k kind at h r = rw (lt-ltb at (length ws) h, r) refl

module _ (ws : List ℕ) (s : Section) (k : Known) where
  fields_read : (n f at : ℕ) → at + n ≤ length ws → ((j : ℕ) → j < n → Ranged ws k (kind_at s (f + j)) (at + j)) → read_fields ws s k n f at ≡ Ok (at + n)
  unfolding read_fields
  fields_read zero f at h r = let e : at ≡ at + 0 = omega arith in ap Ok e
  fields_read (suc n) f at h r =
      let p : f + 0 ≡ f = omega arith in
      let q : at + 0 ≡ at = omega arith in
      let e : at + 1 + n ≡ at + suc n = omega arith in
      ap (λ (t : Onward). and_then t (read_fields ws s k n (f + 1))) (word_reads ws k (kind_at s f) at (omega (arith, h)) (rw (p, q) at (r 0 (omega arith))))
      ∙ fields_read n (f + 1) (at + 1) (omega (arith, h)) (λ j l.
      let x : f + suc j ≡ f + 1 + j = omega arith in
      let y : at + suc j ≡ at + 1 + j = omega arith in
      rw (x, y) at (r (suc j) (omega (arith, l))))
      ∙ ap Ok e

  entries_read : (n done at : ℕ) → EntriesRead ws s k (width_of s k) n done at → at + width_of s k * n ≤ length ws → read_entries ws s k n done at ≡ Ok (at + width_of s k * n)
  unfolding read_entries
  entries_read zero done at r h = let e : at ≡ at + width_of s k * 0 = omega (arith, mul-zero (width_of s k)) in ap Ok e
  entries_read (suc n) done at r h =
      let w = width_of s k in
      let here : at + w * 0 ≡ at = omega (arith, mul-zero w) in
      let first : done + 0 ≡ done = omega arith in
      let e : at + w + w * n ≡ at + w * suc n = omega (arith, mul-suc w n) in
      ap (λ (t : Onward). and_then t (λ next. where_kept (entry_kept ws s.rule w done at) Rule (4 * at) (read_entries ws s k n (done + 1) next)))
      (fields_read w 0 at (omega (arith, h, mul-suc w n)) (λ j l. let z : 0 + j ≡ j = omega arith in rw z (rw here at (r.words 0 j (omega arith) l))))
      ∙ ap (λ (kept : Bool). where_kept kept Rule (4 * at) (read_entries ws s k n (done + 1) (at + w))) (rw (here, first) at (r.rules 0 (omega arith)))
      ∙ entries_read n (done + 1) (at + w) (record {
        words = λ i f l m. let x : at + w * suc i ≡ at + w + w * i = omega (arith, mul-suc w i) in rw x at (r.words (suc i) f (omega (arith, l)) m);
        rules = λ i l.
            let x : at + w * suc i ≡ at + w + w * i = omega (arith, mul-suc w i) in
            let y : done + suc i ≡ done + 1 + i = omega arith in
            rw (x, y) at (r.rules (suc i) (omega (arith, l)));
      }) (omega (arith, h, mul-suc w n))
      ∙ ap Ok e

section_reads : (ws : List ℕ) (s : Section) (k : Known) (at next : ℕ) → SectionRead ws s k at next → read_section ws s k at ≡ Ok next
unfolding read_section
section_reads ws s k at next r =
    let n = get_or ws at 0 in
    let l = learnt s.keep k n in
    ap (λ (t : Onward). and_then t (λ first. where_kept (count_kept s.check k n) Rule (4 * at) (read_entries ws s l n 0 first)))
    (word_reads ws k (Span s.low s.high) at (omega (arith, r.onward, r.within)) (rw (le-leb s.low n r.low, le-leb n s.high r.high) refl))
    ∙ ap (λ (kept : Bool). where_kept kept Rule (4 * at) (read_entries ws s l n 0 (at + 1))) r.rule
    ∙ entries_read ws s l n 0 (at + 1) r.entries (omega (arith, r.onward, r.within))
    ∙ ap Ok (sym r.onward)

pub sections_reads : (ws : List ℕ) (len : ℕ) (rows : List Section) (i : ℕ) (k : Known) (starts : List ℕ) (at : ℕ) (x : Reading) → SectionsRead ws len rows i k starts at x
    → read_sections ws len rows i k starts at ≡ x
unfolding read_sections
sections_reads ws len [] i k starts at x r = ap (λ (b : Bool). cond b (no Rest (4 * at)) (yes k starts)) (le-ltb (4 * at) len r.0) ∙ r.1
sections_reads ws len (s ∷ rest) i k starts at x r =
    ap (λ (t : Onward). then_read t (read_sections ws len rest (i + 1) (after ws s.keep (learnt s.keep k (get_or ws at 0)) at) (set starts i at))) (section_reads ws s k at r.0 r.1)
    ∙ sections_reads ws len rest (i + 1) (after ws s.keep (learnt s.keep k (get_or ws at 0)) at) (set starts i at) r.0 x r.2
